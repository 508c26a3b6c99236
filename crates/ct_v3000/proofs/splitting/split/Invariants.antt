use Rattle.std.proofs.Common.{◌≡◌, ◌≤◌, ◌-◌, drop, take, length, map}
use Rattle.std.specs.Prelude.{All}
use Rattle.ct_v3000.specs.Words.{IsPart, part, onto_words, words_from, words_of}
use Rattle.ct_v3000.proofs.splitting.split.Given as goal

abbrev pub invariant-loop-i : goal.invariant-loop-i
invariant-loop-i l = record {
  rising : l.from ≤ l.i;
  within : l.i ≤ length l.text;
  each : All (IsPart l.text) l.words.items;
  same : onto_words (map (part l.text) l.words.items) (words_from l.within (take (l.i - l.from) (drop l.from l.text)) (drop l.i l.text)) ≡ words_of l.text;
}

abbrev pub decreases-loop-i : goal.decreases-loop-i
decreases-loop-i l = length l.text - l.i

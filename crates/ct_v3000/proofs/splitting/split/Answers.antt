use Rattle.std.proofs.Common.{arith, ◌∙◌, ◌+◌, ◌-◌, ◌<◌, ◌≤◌, ℕ, List, ap, sym, drop, take, length, map, get_or, subst}
use Rattle.std.specs.Prelude.{Vec, All}
use Rattle.std.specs.declared.alloc.Global.{Global}
use Rattle.ct_v3000.specs.declared.splitting.WordSpan.{WordSpan}
use Rattle.ct_v3000.specs.declared.splitting.Within.{Within}
use Rattle.ct_v3000.specs.Words.{behind, onto_words, words_from, part, IsPart}
use Rattle.ct_v3000.proofs.WordSteps.{parted, kept, made_more, at_front}
use Rattle.ct_v3000.proofs.splitting.split.Goals.{then-parts+in_ok-end_word, else-parts, then-is_closed+in_ok-end_word-2, else-is_closed}
use Rattle.ct_v3000.proofs.splitting.split.Goals as goal

pub loop-i-preserved : goal.loop-i-preserved
loop-i-preserved c =
    let text : List ℕ = c.args.text.now in
    let i : ℕ = c.loop-i.i in
    let from : ℕ = c.loop-i.from in
    let all : ℕ = length text in
    let rising : from ≤ i = c.loop-i.invariant.rising in
    let test = c.loop-i-test.true in
    let less : i < length text = omega arith in
    let upto : i ≤ length text = c.loop-i.invariant.within in
    elim c.if-parts.branch [
      | then-parts+in_ok-end_word w ↦ record {
        rising = let e = w.from-is in omega arith;
        within = omega arith;
        each = subst (λ (v : Vec WordSpan Global). All (IsPart text) v.items) (sym w.words-is) (w.in_ok-end_word.ensures.within text rising upto c.loop-i.invariant.each);
        same = at_front text (i + 1) c.if-parts.from c.if-parts.within (map (part text) c.if-parts.words.items) w.from-is w.within-is
            ∙ parted text i from c.loop-i.within (map (part text) c.loop-i.words.items) (map (part text) c.if-parts.words.items) _ less (sym c.parts.ensures ∙ w.if-parts.true)
            (ap (λ (v : Vec WordSpan Global). map (part text) v.items) w.words-is ∙ ap (λ (s : List WordSpan). map (part text) s) w.in_ok-end_word.ensures.items ∙ made_more text c.loop-i.within from i c.loop-i.words.items) c.loop-i.invariant.same;
      }
      | else-parts w ↦ record {
        rising = let e = w.from-is in omega arith;
        within = omega arith;
        each = subst (λ (v : Vec WordSpan Global). All (IsPart text) v.items) (sym w.words-is) c.loop-i.invariant.each;
        same = ap (λ (v : Vec WordSpan Global). onto_words (map (part text) v.items) (words_from c.if-parts.within (take (i + 1 - c.if-parts.from) (drop c.if-parts.from text)) (drop (i + 1) text))) w.words-is
            ∙ ap (λ (s : Within). onto_words (map (part text) c.loop-i.words.items) (words_from s (take (i + 1 - c.if-parts.from) (drop c.if-parts.from text)) (drop (i + 1) text))) (w.within-is ∙ w.behind-within.ensures)
            ∙ ap (λ (f : ℕ). onto_words (map (part text) c.loop-i.words.items) (words_from (behind c.loop-i.within (get_or text i 0)) (take (i + 1 - f) (drop f text)) (drop (i + 1) text))) w.from-is
            ∙ kept text i from c.loop-i.within (map (part text) c.loop-i.words.items) _ rising less (sym c.parts.ensures ∙ w.if-parts.false) c.loop-i.invariant.same;
      }
    ]

pub returns-clause-within : goal.returns-clause-within
returns-clause-within c =
    elim c.if-is_closed.branch [
      | then-is_closed+in_ok-end_word-2 w ↦ subst (λ (v : Vec WordSpan Global). All (IsPart c.args.text.now) v.items) (sym w.words-is)
          (w.in_ok-end_word-2.ensures.within c.args.text.now c.loop-i.invariant.rising c.loop-i.invariant.within c.loop-i.invariant.each)
      | else-is_closed w ↦ subst (λ (v : Vec WordSpan Global). All (IsPart c.args.text.now) v.items) (sym w.words-is) c.loop-i.invariant.each
    ]

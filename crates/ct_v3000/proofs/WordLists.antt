-- Some of the words of a line.
use Rattle.std.proofs.Common.{◌≡◌, ℕ, List, take, drop, map, sym, All}
use Rattle.std.proofs.lemmas.List.{drop-map, take-map}
use Rattle.std.proofs.lemmas.List.Elements.{All-drop, All-take}
use Rattle.ct_v3000.specs.declared.splitting.WordSpan.{WordSpan}
use Rattle.ct_v3000.specs.Words.{part, IsPart}

pub front_within : (n : ℕ) (text : List ℕ) (spans : List WordSpan) → All (IsPart text) spans → All (IsPart text) (take n spans)
front_within n text spans are = All-take (IsPart text) n spans are

pub rest_within : (n : ℕ) (text : List ℕ) (spans : List WordSpan) → All (IsPart text) spans → All (IsPart text) (drop n spans)
rest_within n text spans are = All-drop (IsPart text) n spans are

pub front_words : (n : ℕ) (text : List ℕ) (spans : List WordSpan) → map (part text) (take n spans) ≡ take n (map (part text) spans)
front_words n text spans = sym (take-map (part text) n spans)

pub rest_words : (n : ℕ) (text : List ℕ) (spans : List WordSpan) → map (part text) (drop n spans) ≡ drop n (map (part text) spans)
rest_words n text spans = sym (drop-map (part text) n spans)

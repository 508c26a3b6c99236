-- A word at the front of a text.
use Rattle.std.proofs.Common.{arith, ◌≡◌, ◌∙◌, ◌<◌, ◌≤◌, ◌==◌, ℕ, Bool, true, false, if◌then◌else◌, List, [], ◌∷◌, ◌++◌, length, drop, refl, ap}
use Rattle.std.specs.Prelude.{Some, None}
use Rattle.std.proofs.lemmas.List.{drop_all, length-drop}
use Rattle.std.proofs.lemmas.Bool.Decides.{nat_tests}
use Rattle.mc_report.specs.Fronts.{word_front}

nothing_left : (word : List ℕ) → 0 < length word → word_front word [] ≡ None
nothing_left [] some = absurd (omega arith)
nothing_left (w ∷ word) some = refl

pub too_short : (word text : List ℕ) (i : ℕ) → i < length word → length text ≤ i → word_front (drop i word) (drop i text) ≡ None
too_short word text i behind past =
    ap (word_front (drop i word)) (drop_all i text past) ∙ nothing_left (drop i word) (omega (arith, length-drop i word))

pub word_read : (word rest : List ℕ) → word_front word (word ++ rest) ≡ Some rest
word_read [] rest = refl
word_read (w ∷ word) rest = let same : (w == w) ≡ true = equal w in rw same (word_read word rest)
  where
    equal : (w : ℕ) → (w == w) ≡ true
    equal w = grind (arith, nat_tests)

pub word_found : (word text rest : List ℕ) → word_front word text ≡ Some rest → text ≡ word ++ rest
word_found [] text rest is = cc
word_found (w ∷ word) [] rest is = cc
word_found (w ∷ word) (b ∷ text) rest is = by_byte (b == w) refl is (λ found. word_found word text rest found)
  where
    same : (b w : ℕ) → (b == w) ≡ true → b ≡ w
    same b w e = grind (arith, nat_tests)

    by_byte : (t : Bool) → (b == w) ≡ t → (if t then word_front word text else None) ≡ Some rest → (word_front word text ≡ Some rest → text ≡ word ++ rest) → b ∷ text ≡ w ∷ word ++ rest
    by_byte true e found later = ap (λ x. x ∷ text) (same b w e) ∙ ap (λ t. w ∷ t) (later found)
    by_byte false e found later = cc

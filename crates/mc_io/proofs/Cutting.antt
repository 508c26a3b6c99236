-- The text of a piece.
use Rattle.std.proofs.Common.{arith, ◌≡◌, ◌≢◌, ◌∙◌, ℕ, suc, ◌+◌, ◌<◌, ◌≤◌, ◌==◌, ◌&&◌, nat_lt, Bool, true, false, not, if◌then◌else◌, List, [], ◌∷◌, ◌++◌, length, take, drop, map, get_or, refl, ap, sym, subst, add-one}
use Rattle.std.specs.List.{list_all}
use Rattle.std.proofs.lemmas.Bool.Decides.{nat_tests}
use Rattle.std.proofs.lemmas.List.{length-take-le, drop_all, take_more, take-take}
use Rattle.mc_io.specs.Lines.{carriage_return, onto_text, text_of}

pub text_len_le : (piece : List ℕ) → length (text_of piece) ≤ length piece
text_len_le [] = omega arith
text_len_le (b ∷ piece) = onto b (text_of piece) (length piece) (text_len_le piece)
  where
    onto : (b : ℕ) (text : List ℕ) (n : ℕ) → length text ≤ n → length (onto_text b text) ≤ suc n
    onto b [] n le = elim (b == carriage_return) as (λ t. length (if t then [] else b ∷ []) ≤ suc n) [ true ↦ omega arith | false ↦ omega arith ]
    onto b (c ∷ text) n le = omega arith

pub text_front : (piece : List ℕ) → take (length (text_of piece)) piece ≡ text_of piece
text_front [] = refl
text_front (b ∷ piece) = onto b (text_of piece) piece (text_front piece)
  where
    onto : (b : ℕ) (text piece : List ℕ) → take (length text) piece ≡ text → take (length (onto_text b text)) (b ∷ piece) ≡ onto_text b text
    onto b [] piece same = elim (b == carriage_return) as (λ t. take (length (if t then [] else b ∷ [])) (b ∷ piece) ≡ (if t then [] else b ∷ [])) [ true ↦ refl | false ↦ refl ]
    onto b (c ∷ text) piece same = ap (λ t. b ∷ t) same

-- carriage returns alone have no text
pub some_text : (piece : List ℕ) → not (list_all (λ b. b == carriage_return) piece) ≡ nat_lt 0 (length (text_of piece))
some_text [] = refl
some_text (b ∷ piece) = onto b (text_of piece) (list_all (λ b. b == carriage_return) piece) (some_text piece)
  where
    nothing : (n : ℕ) → false ≡ nat_lt 0 (suc n) → ⊥
    nothing n is = let some : 0 < suc n = omega arith in grind (arith, nat_tests)

    onto : (b : ℕ) (text : List ℕ) (all : Bool) → not all ≡ nat_lt 0 (length text) → not (b == carriage_return && all) ≡ nat_lt 0 (length (onto_text b text))
    onto b [] true is = elim (b == carriage_return) as (λ t. not (t && true) ≡ nat_lt 0 (length (if t then [] else b ∷ []))) [ true ↦ refl | false ↦ refl ]
    onto b [] false is = cc
    onto b (c ∷ text) true is = absurd (nothing _ is)
    onto b (c ∷ text) false is =
        let some : true ≡ nat_lt 0 (length (onto_text b (c ∷ text))) = let long : 0 < suc (suc (length text)) = omega arith in grind (arith, nat_tests) in
        elim (b == carriage_return) as (λ t. not (t && false) ≡ nat_lt 0 (length (onto_text b (c ∷ text)))) [ true ↦ some | false ↦ some ]

-- a carriage return at the end is dropped
pub text_of_return : (piece : List ℕ) → text_of (piece ++ carriage_return ∷ []) ≡ text_of piece
text_of_return [] = refl
text_of_return (b ∷ piece) = ap (onto_text b) (text_of_return piece)

-- another byte at the end isn't
pub text_of_other : (piece : List ℕ) (b : ℕ) → (b == carriage_return) ≡ false → text_of (piece ++ b ∷ []) ≡ piece ++ b ∷ []
text_of_other [] b other = rw other refl
text_of_other (c ∷ piece) b other = ap (onto_text c) (text_of_other piece b other) ∙ onto c piece b
  where
    onto : (c : ℕ) (piece : List ℕ) (b : ℕ) → onto_text c (piece ++ b ∷ []) ≡ c ∷ piece ++ b ∷ []
    onto c [] b = refl
    onto c (d ∷ piece) b = refl

-- ---- the loop from the end of a piece

pub text_behind : (piece : List ℕ) (n : ℕ) → n < length piece → get_or piece n 0 ≡ carriage_return → text_of (take (n + 1) piece) ≡ text_of (take n piece)
text_behind piece n less is = ap text_of (take_more piece n 0 less ∙ ap (λ b. take n piece ++ b ∷ []) is) ∙ text_of_return (take n piece)

pub text_ends : (piece : List ℕ) (n : ℕ) → n < length piece → get_or piece n 0 ≢ carriage_return → text_of (take (n + 1) piece) ≡ take (n + 1) piece
text_ends piece n less other =
    ap text_of (take_more piece n 0 less) ∙ text_of_other (take n piece) (get_or piece n 0) (differs (get_or piece n 0) other) ∙ sym (take_more piece n 0 less)
  where
    differs : (b : ℕ) → b ≢ carriage_return → (b == carriage_return) ≡ false
    differs b ne = grind (arith, nat_tests)

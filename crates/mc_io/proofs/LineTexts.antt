-- The texts of lines.
use Rattle.std.proofs.Common.{arith, ◌≡◌, ◌∙◌, ◌==◌, ◌||◌, ◌&&◌, ◌≤◌, nat_lt, ℕ, Bool, true, false, not, if◌then◌else◌, List, [], ◌∷◌, length, Option, Some, None, refl, ap, sym, subst}
use Rattle.std.specs.List.{list_all}
use Rattle.std.proofs.lemmas.Bool.Decides.{nat_tests}
use Rattle.std.proofs.lemmas.Bool.{or_parts}
use Rattle.mc_io.specs.Lines.{line_feed, carriage_return, onto_text, text_of, most_bytes, is_long, line_of, has_feed, IsLineText}
use Rattle.mc_io.proofs.Cutting.{some_text, text_len_le}

-- no line feed comes in where carriage returns are dropped
no_feed : (piece : List ℕ) → has_feed piece ≡ false → has_feed (text_of piece) ≡ false
no_feed [] clear = refl
no_feed (b ∷ piece) clear = let both = or_parts (b == line_feed) (has_feed piece) clear in onto b (text_of piece) both.0 (no_feed piece both.1)
  where
    onto : (b : ℕ) (text : List ℕ) → (b == line_feed) ≡ false → has_feed text ≡ false → has_feed (onto_text b text) ≡ false
    onto b [] other clear = elim (b == carriage_return) as (λ t. has_feed (if t then [] else b ∷ []) ≡ false) [ true ↦ refl | false ↦ rw other refl ]
    onto b (c ∷ text) other clear = rw other clear

-- no carriage return is left at the end
dropped_once : (piece : List ℕ) → text_of (text_of piece) ≡ text_of piece
dropped_once [] = refl
dropped_once (b ∷ piece) = onto b (text_of piece) (dropped_once piece)
  where
    alone : (b : ℕ) (t : Bool) → (b == carriage_return) ≡ t → text_of (if t then [] else b ∷ []) ≡ (if t then [] else b ∷ [])
    alone b true is = refl
    alone b false is = rw is refl

    onto : (b : ℕ) (text : List ℕ) → text_of text ≡ text → text_of (onto_text b text) ≡ onto_text b text
    onto b [] same = alone b (b == carriage_return) refl
    onto b (c ∷ text) same = ap (onto_text b) same

-- the text of a line is such a text
pub line_text : (piece text : List ℕ) → has_feed piece ≡ false → line_of piece ≡ Some text → IsLineText text
line_text piece text clear is = by_length (is_long piece) is
  where
    by_length : (t : Bool) → (if t then None else Some (text_of piece)) ≡ Some text → IsLineText text
    by_length true e = absurd cc
    by_length false e =
        let same : text_of piece ≡ text = cc in
        let P : List ℕ → Type 0 = λ x. IsLineText x in subst P same (record { one = no_feed piece clear; ends = dropped_once piece })

-- and within the limit
pub line_short : (piece text : List ℕ) → line_of piece ≡ Some text → length text ≤ most_bytes
line_short piece text is = by_length (is_long piece) refl is
  where
    within : (n : ℕ) (some : Bool) → (nat_lt most_bytes n && some) ≡ false → (some ≡ false → ⊥) → n ≤ most_bytes
    within n false short ever = absurd (ever refl)
    within n true short ever = at_most n (and_true (nat_lt most_bytes n) short)
      where
        and_true : (t : Bool) → (t && true) ≡ false → t ≡ false
        and_true true e = cc
        and_true false e = refl

        at_most : (n : ℕ) → nat_lt most_bytes n ≡ false → n ≤ most_bytes
        at_most n e = grind (arith, nat_tests)

    none_long : (text : List ℕ) → nat_lt 0 (length text) ≡ false → length text ≤ most_bytes
    none_long text e = let none : length text ≤ 0 = is_none (length text) e in omega arith
      where
        is_none : (n : ℕ) → nat_lt 0 n ≡ false → n ≤ 0
        is_none n e = grind (arith, nat_tests)

    by_some : (t : Bool) → not (list_all (λ b. b == carriage_return) piece) ≡ t → (nat_lt most_bytes (length piece) && t) ≡ false → text_of piece ≡ text → length text ≤ most_bytes
    by_some true all short same = let low = within (length piece) true short (λ e. cc) in let le = text_len_le piece in let n = ap (λ (x : List ℕ). length x) same in omega arith
    by_some false all short same = none_long text (ap (λ (x : List ℕ). nat_lt 0 (length x)) (sym same) ∙ sym (some_text piece) ∙ all)

    by_length : (t : Bool) → is_long piece ≡ t → (if t then None else Some (text_of piece)) ≡ Some text → length text ≤ most_bytes
    by_length true long e = absurd cc
    by_length false short e = let same : text_of piece ≡ text = cc in by_some (not (list_all (λ b. b == carriage_return) piece)) refl short same

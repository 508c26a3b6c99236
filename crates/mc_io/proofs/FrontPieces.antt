-- The line at the front of bytes.
use Rattle.std.proofs.Common.{arith, ◌≡◌, ◌∙◌, ℕ, ◌<◌, ◌==◌, ◌||◌, Bool, true, false, if◌then◌else◌, List, [], ◌∷◌, ◌++◌, length, map, refl, ap, sym}
use Rattle.std.proofs.lemmas.List.{append_assoc, append-nil}
use Rattle.std.proofs.lemmas.List.Folds.{list_any-append}
use Rattle.std.proofs.lemmas.Bool.{or_parts}
use Rattle.mc_io.specs.Lines.{line_feed, onto_first, onto_ended, pieces, ended_pieces, ended_lines, line_of, lines_of, has_feed}

-- ---- line feeds in joined bytes

pub clear_both : (front back : List ℕ) → has_feed front ≡ false → has_feed back ≡ false → has_feed (front ++ back) ≡ false
clear_both front back p q = list_any-append (λ b. b == line_feed) front back ∙ rw (p, q) refl

pub clear_parts : (front back : List ℕ) → has_feed (front ++ back) ≡ false → (has_feed front ≡ false) × (has_feed back ≡ false)
clear_parts front back clear = or_parts (has_feed front) (has_feed back) (sym (list_any-append (λ b. b == line_feed) front back) ∙ clear)

-- ---- the first piece

pub first_piece : (piece rest : List ℕ) → has_feed piece ≡ false → pieces (piece ++ line_feed ∷ rest) ≡ piece ∷ pieces rest
first_piece [] rest clear = refl
first_piece (b ∷ piece) rest clear = let both = or_parts (b == line_feed) (has_feed piece) clear in rw (both.0, first_piece piece rest both.1) refl

pub last_piece : (piece : List ℕ) → has_feed piece ≡ false → 0 < length piece → pieces piece ≡ piece ∷ []
last_piece [] clear some = absurd (omega arith)
last_piece (b ∷ []) clear some = let both = or_parts (b == line_feed) false clear in rw both.0 refl
last_piece (b ∷ c ∷ piece) clear some =
    let both = or_parts (b == line_feed) (has_feed (c ∷ piece)) clear in rw (both.0, last_piece (c ∷ piece) both.1 (omega arith)) refl

pub first_line : (piece rest : List ℕ) → has_feed piece ≡ false → lines_of (piece ++ line_feed ∷ rest) ≡ line_of piece ∷ lines_of rest
first_line piece rest clear = ap (map line_of) (first_piece piece rest clear)

pub last_line : (piece : List ℕ) → has_feed piece ≡ false → 0 < length piece → lines_of piece ≡ line_of piece ∷ []
last_line piece clear some = ap (map line_of) (last_piece piece clear some)

-- ---- pieces that a line feed ends

pub first_ended : (piece rest : List ℕ) → has_feed piece ≡ false → ended_pieces (piece ++ line_feed ∷ rest) ≡ piece ∷ ended_pieces rest
first_ended [] rest clear = refl
first_ended (b ∷ piece) rest clear = let both = or_parts (b == line_feed) (has_feed piece) clear in rw (both.0, first_ended piece rest both.1) refl

pub first_ended_line : (piece rest : List ℕ) → has_feed piece ≡ false → ended_lines (piece ++ line_feed ∷ rest) ≡ line_of piece ∷ ended_lines rest
first_ended_line piece rest clear = ap (map line_of) (first_ended piece rest clear)

none_ended : (piece : List ℕ) → has_feed piece ≡ false → ended_pieces piece ≡ []
none_ended [] clear = refl
none_ended (b ∷ piece) clear = let both = or_parts (b == line_feed) (has_feed piece) clear in rw (both.0, none_ended piece both.1) refl

pub no_ended_line : (piece : List ℕ) → has_feed piece ≡ false → ended_lines piece ≡ []
no_ended_line piece clear = ap (map line_of) (none_ended piece clear)

-- what stands behind the last line feed makes no difference
up_to_feed : (front rest : List ℕ) → has_feed rest ≡ false → ended_pieces (front ++ line_feed ∷ rest) ≡ pieces (front ++ line_feed ∷ [])
up_to_feed [] rest clear = ap (λ (x : List (List ℕ)). [] ∷ x) (none_ended rest clear)
up_to_feed (b ∷ front) rest clear = by_byte (b == line_feed) (up_to_feed front rest clear) (some_piece front)
  where
    some_piece : (front : List ℕ) → 0 < length (pieces (front ++ line_feed ∷ []))
    some_piece [] = omega arith
    some_piece (b ∷ front) = by_feed (b == line_feed) (pieces (front ++ line_feed ∷ []))
      where
        by_feed : (t : Bool) (ps : List (List ℕ)) → 0 < length (if t then [] ∷ ps else onto_first b ps)
        by_feed true ps = omega arith
        by_feed false [] = omega arith
        by_feed false (p ∷ ps) = omega arith

    onto : (ps qs : List (List ℕ)) → qs ≡ ps → 0 < length ps → onto_ended b qs ≡ onto_first b ps
    onto [] qs same some = absurd (omega arith)
    onto (p ∷ ps) qs same some = ap (onto_ended b) same

    by_byte : (t : Bool) → ended_pieces (front ++ line_feed ∷ rest) ≡ pieces (front ++ line_feed ∷ []) → 0 < length (pieces (front ++ line_feed ∷ []))
        → (if t then [] ∷ ended_pieces (front ++ line_feed ∷ rest) else onto_ended b (ended_pieces (front ++ line_feed ∷ rest))) ≡ (if t then [] ∷ pieces (front ++ line_feed ∷ []) else onto_first b (pieces (front ++ line_feed ∷ [])))
    by_byte true same some = ap (λ (x : List (List ℕ)). [] ∷ x) same
    by_byte false same some = onto (pieces (front ++ line_feed ∷ [])) (ended_pieces (front ++ line_feed ∷ rest)) same some

pub ended_up_to_feed : (front rest : List ℕ) → has_feed rest ≡ false → ended_lines (front ++ line_feed ∷ rest) ≡ lines_of (front ++ line_feed ∷ [])
ended_up_to_feed front rest clear = ap (map line_of) (up_to_feed front rest clear)

-- What a reader of report lines finds at the front of a text, as it computes.
use Rattle.std.specs.Prelude.{◌≡◌, ℕ, ◌+◌, ◌-◌, ◌*◌, ◌==◌, ◌||◌, ◌↔◌, nat_lt, Bool, false, if◌then◌else◌, List, [], ◌∷◌, ◌++◌, Option, Some, None, option_and_then, option_map}
use Rattle.std.specs.Borrow.{Bor}
use Rattle.std.specs.Char.{is_ascii_digit}
use Rattle.mc_base.specs.declared.ids.AtomId.{AtomId}
use Rattle.mc_base.specs.Digits.{starts_digit}
use Rattle.mc_report.specs.Grammar.{AreAtoms}
use Rattle.mc_report.specs.Report.{numbers}

-- what is behind a word
abbrev pub word_front : List ℕ → List ℕ → Option (List ℕ)
word_front [] text = Some text
word_front (w ∷ word) [] = None
word_front (w ∷ word) (b ∷ text) = if b == w then word_front word text else None

-- the number that digits write behind those so far, and what is behind them; none where it is above the most
abbrev pub digits_front : ℕ → ℕ → List ℕ → Option (ℕ × List ℕ)
digits_front most value [] = Some (value, [])
digits_front most value (b ∷ text) =
    if is_ascii_digit b then
    (if nat_lt most (value * 10 + (b - 48)) then None else digits_front most (value * 10 + (b - 48)) text)
    else Some (value, b ∷ text)

-- a number without leading zeros, and what is behind it
abbrev pub number_front : ℕ → List ℕ → Option (ℕ × List ℕ)
number_front most [] = None
number_front most (b ∷ text) =
    if b == 48 then (if starts_digit text then None else Some (0, text))
    else if is_ascii_digit b then digits_front most 0 (b ∷ text) else None

-- a number behind a word
abbrev pub labelled : ℕ → List ℕ → List ℕ → Option (ℕ × List ℕ)
labelled most word text = option_and_then (number_front most) (word_front word text)

-- the greatest number of an atom, counted from 1, and of a count
abbrev pub most_count : ℕ
most_count = 4294967295

abbrev pub atom_of : ℕ × List ℕ → Option (AtomId × List ℕ)
atom_of number = if number.0 == 0 then None else Some (record { 0 = number.0 - 1 }, number.1)

-- an atom, counted from 1
abbrev pub atom_front : List ℕ → Option (AtomId × List ℕ)
atom_front text = option_and_then atom_of (number_front most_count text)

-- a list of atoms ends before a byte that is no digit and no comma
abbrev pub goes_on : List ℕ → Bool
goes_on [] = false
goes_on (b ∷ text) = is_ascii_digit b || b == 44

-- a list of atoms at the front, and what is behind it
pub record IsList (atoms : List AtomId) (tail text : List ℕ) : Type 0 where
  pub joined : text ≡ numbers atoms ++ tail
  pub in_range : AreAtoms atoms
  pub stops : goes_on tail ≡ false

-- exactly the list at the front is found
abbrev pub FindsList : List ℕ → Option (List AtomId × List ℕ) → Type 0
FindsList text found = (atoms : List AtomId) (tail : List ℕ) → (found ≡ Some (atoms, tail)) ↔ IsList atoms tail text

-- what was found, with the text behind its reference
abbrev pub number_view : Option (ℕ × Bor (List ℕ)) → Option (ℕ × List ℕ)
number_view found = option_map (λ n. (n.0, n.1.now)) found

abbrev pub atom_view : Option (AtomId × Bor (List ℕ)) → Option (AtomId × List ℕ)
atom_view found = option_map (λ n. (n.0, n.1.now)) found

abbrev pub list_view : Option (List AtomId × Bor (List ℕ)) → Option (List AtomId × List ℕ)
list_view found = option_map (λ n. (n.0, n.1.now)) found

-- Lists of places that differ by an even permutation say the same (OpenSMILES 1.0, section 3.9.2 and its table of orders).
use Rattle.std.specs.Prelude.{◌≢◌, ℕ, ◌+◌, ◌%◌, ◌==◌, Bool, true, false, List, [], ◌∷◌, nat_lt, map, count_by, length, position, unwrap_or, AllPairs}
use Rattle.std.specs.List.{list_any}
use Rattle.mc_mol.specs.declared.parts.Slot.{Slot}
use Rattle.mc_mol.specs.declared.parts.Slot.TheVariants.{At, Rest}

-- the same place
abbrev pub same_slot : Slot → Slot → Bool
same_slot (At a) (At b) = a.0 == b.0
same_slot Rest Rest = true
same_slot (At a) Rest = false
same_slot Rest (At b) = false

-- the number of pairs in which a greater number stands before a lesser one
abbrev pub inversions : List ℕ → ℕ
inversions [] = 0
inversions (x ∷ xs) = count_by (λ y. nat_lt y x) xs + inversions xs

-- where a place stands in a list, and the list's length where it doesn't
abbrev pub place_in : List Slot → Slot → ℕ
place_in places slot = unwrap_or (position (same_slot slot) places) (length places)

-- q, as a permutation of p, has an even number of inversions
abbrev pub is_even_permutation : List Slot → List Slot → Bool
is_even_permutation p q = (inversions (map (place_in p) q) % 2) == 0

-- each place of q is one of p; lists of four different places are then permutations of each other
abbrev pub stands_in : List Slot → Slot → Bool
stands_in p slot = list_any (same_slot slot) p

abbrev pub AllDifferent : List Slot → Type 0
AllDifferent places = AllPairs (λ (p q : Slot). p ≢ q) places

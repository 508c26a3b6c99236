-- The lists of centres as they are kept.
use Rattle.std.proofs.Common.{arith, ◌≡◌, ◌∙◌, ℕ, zero, suc, ◌<◌, ◌≤◌, true, ◌&&◌, ◌==◌, Contains, inl, inr, List, [], ◌∷◌, Option, Some, None, length, map, replicate, get_or, slice_get, slice_set, refl, sym, ap}
use Rattle.std.proofs.lemmas.Bool.{or_cases, and_parts, eqb-true}
use Rattle.std.specs.List.{All}
use Rattle.std.proofs.lemmas.List.Elements.{Contains-get_or}
use Rattle.mc_mol.specs.declared.centres.ShortSlot.{ShortSlot}
use Rattle.mc_mol.specs.declared.parts.Slot.{Slot}
use Rattle.mc_mol.specs.ShortSlots.{slot_of, slots_of, HasSmallNumber}
use Rattle.mc_mol.specs.declared.parts.Slot.TheVariants.{At, Rest}
use Rattle.mc_mol.specs.declared.parts.Bond.{Bond}
use Rattle.mc_mol.specs.Molecule.{joins, are_joined}
use Rattle.mc_mol.specs.WellFormed.{IsBond, IsPlaceList}
use Rattle.mc_mol.proofs.Lists.{four_of, All-head, All-tail}

pub slots_nones : (n : ℕ) → map slots_of (replicate n None) ≡ replicate n None
slots_nones zero = refl
slots_nones (suc n) = ap (λ (rest : List (Option (List Slot))). None ∷ rest) (slots_nones n)

pub slots_get : (lists : List (Option (List ShortSlot))) (i : ℕ) (d : Option (List ShortSlot)) → i < length lists → slice_get (map slots_of lists) i ≡ Some (slots_of (get_or lists i d))
slots_get [] i d less = absurd (omega arith)
slots_get (x ∷ lists) zero d less = refl
slots_get (x ∷ lists) (suc i) d less = slots_get lists i d (omega arith)

pub slots_set : (lists : List (Option (List ShortSlot))) (i : ℕ) (y : Option (List ShortSlot)) → map slots_of (slice_set lists i y) ≡ slice_set (map slots_of lists) i (slots_of y)
slots_set [] i y = refl
slots_set (x ∷ lists) zero y = refl
slots_set (x ∷ lists) (suc i) y = ap (λ (rest : List (Option (List Slot))). slots_of x ∷ rest) (slots_set lists i y)

pub slots_four : (list : List ShortSlot) (d : ShortSlot) (p q r s : Slot) → length list ≡ 4
    → p ≡ slot_of (get_or list 0 d) → q ≡ slot_of (get_or list 1 d) → r ≡ slot_of (get_or list 2 d) → s ≡ slot_of (get_or list 3 d) → p ∷ q ∷ r ∷ s ∷ [] ≡ map slot_of list
slots_four list d p q r s four e f g h = rw (e, f, g, h) (ap (λ (xs : List ShortSlot). map slot_of xs) (sym (four_of list d four)))

length_slots : (lists : List (Option (List ShortSlot))) → length (map slots_of lists) ≡ length lists
length_slots [] = refl
length_slots (x ∷ lists) = let e = length_slots lists in omega arith

-- the list of an atom, by what is kept of it
found : (lists : List (Option (List ShortSlot))) (view : List (Option (List Slot))) (i : ℕ) (kept : Option (List ShortSlot)) → map slots_of lists ≡ view
    → i < length view → kept ≡ get_or lists i kept → slice_get view i ≡ Some (slots_of kept)
found lists view i kept is within at =
    let less : i < length lists = omega (arith, length_slots lists, ap (λ (xs : List (Option (List Slot))). length xs) is) in
    ap (λ (xs : List (Option (List Slot))). slice_get xs i) (sym is) ∙ slots_get lists i kept less ∙ ap (λ (x : Option (List ShortSlot)). Some (slots_of x)) (sym at)

pub found_some : (lists : List (Option (List ShortSlot))) (view : List (Option (List Slot))) (i : ℕ) (kept : Option (List ShortSlot)) (list : List ShortSlot) (slots : List Slot)
    → map slots_of lists ≡ view → i < length view → kept ≡ get_or lists i kept → kept ≡ Some list → slots ≡ map slot_of list → slice_get view i ≡ Some (Some slots)
found_some lists view i kept list slots is within at some e =
    found lists view i kept is within at ∙ ap (λ (x : Option (List ShortSlot)). Some (slots_of x)) some ∙ ap (λ (xs : List Slot). Some (Some xs)) (sym e)

pub found_none : (lists : List (Option (List ShortSlot))) (view : List (Option (List Slot))) (i : ℕ) (kept : Option (List ShortSlot)) → map slots_of lists ≡ view
    → i < length view → kept ≡ get_or lists i kept → kept ≡ None → slice_get view i ≡ Some None
found_none lists view i kept is within at none = found lists view i kept is within at ∙ ap (λ (x : Option (List ShortSlot)). Some (slots_of x)) none

pub set_to : (lists : List (Option (List ShortSlot))) (view : List (Option (List Slot))) (i : ℕ) (places : List Slot) (d : Slot) (p q r s : ShortSlot) → map slots_of lists ≡ view
    → length places ≡ 4 → slot_of p ≡ get_or places 0 d → slot_of q ≡ get_or places 1 d → slot_of r ≡ get_or places 2 d → slot_of s ≡ get_or places 3 d
    → map slots_of (slice_set lists i (Some (p ∷ q ∷ r ∷ s ∷ []))) ≡ slice_set view i (Some places)
set_to lists view i places d p q r s is four e f g h =
    slots_set lists i (Some (p ∷ q ∷ r ∷ s ∷ []))
    ∙ ap (λ (xs : List (Option (List Slot))). slice_set xs i (Some (map slot_of (p ∷ q ∷ r ∷ s ∷ [])))) is
    ∙ ap (λ (xs : List Slot). slice_set view i (Some xs)) (rw (e, f, g, h) (sym (four_of places d four)))

below : (bond : Bond) (n a v : ℕ) → IsBond n bond → joins bond a v ≡ true → v < n
below bond n a v is e = elim (or_cases (bond.first.0 == a && bond.second.0 == v) (bond.first.0 == v && bond.second.0 == a) e) [
  | inl forth ↦ let at = eqb-true bond.second.0 v (and_parts (bond.first.0 == a) (bond.second.0 == v) forth).1 in let h = is.second in omega arith
  | inr back ↦ let at = eqb-true bond.first.0 v (and_parts (bond.first.0 == v) (bond.second.0 == a) back).0 in let h = is.first in omega arith
]

joined_below : (bonds : List Bond) (n a v : ℕ) → All (IsBond n) bonds → are_joined bonds a v ≡ true → v < n
joined_below [] n a v all e = cc
joined_below (bond ∷ bonds) n a v all e = elim (or_cases (joins bond a v) (are_joined bonds a v) e) [
  | inl here ↦ below bond n a v (All-head (IsBond n) bond bonds all) here
  | inr later ↦ joined_below bonds n a v (All-tail (IsBond n) bond bonds all) later
]

-- the places of a centre are atoms of the molecule
pub small_places : (bonds : List Bond) (n a : ℕ) (places : List Slot) → All (IsBond n) bonds → n ≤ 999 → IsPlaceList bonds a places → All HasSmallNumber places
small_places bonds n a places all few is k d h = small (get_or places k d) (Contains-get_or places k d h)
  where
    small : (slot : Slot) → Contains places slot → HasSmallNumber slot
    small (At atom) there = let less = joined_below bonds n a atom.0 all ((is.neighbours atom.0).0 there) in omega arith
    small Rest there = tt

-- The inversions of a permutation of four places, as they are counted.
use Rattle.std.proofs.Common.{◌≡◌, ℕ, List, [], ◌∷◌, map, get_or, length, ap, sym}
use Rattle.mc_mol.specs.declared.parts.Slot.{Slot}
use Rattle.mc_mol.specs.Permutations.{inversions, place_in}
use Rattle.mc_mol.proofs.Lists.{four_of}

pub inversions_of : (p q : List Slot) (d : Slot) (i j k l : ℕ) → length q ≡ 4 → i ≡ place_in p (get_or q 0 d) → j ≡ place_in p (get_or q 1 d)
    → k ≡ place_in p (get_or q 2 d) → l ≡ place_in p (get_or q 3 d) → inversions (i ∷ j ∷ k ∷ l ∷ []) ≡ inversions (map (place_in p) q)
inversions_of p q d i j k l four ei ej ek el =
    rw (ei, ej, ek, el) (ap (λ (slots : List Slot). inversions (map (place_in p) slots)) (sym (four_of q d four)))

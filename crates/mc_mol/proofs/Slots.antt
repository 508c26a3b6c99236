-- The test of two slots is their equality.
use Rattle.std.proofs.Common.{◌≡◌, ℕ, ◌==◌, true, refl, ap, arith}
use Rattle.std.proofs.lemmas.Bool.Decides.{nat_tests}
use Rattle.mc_mol.specs.declared.parts.Slot.{Slot}
use Rattle.mc_mol.specs.declared.parts.Slot.TheVariants.{At, Rest}
use Rattle.mc_mol.specs.Permutations.{same_slot}

pub same_is : (r s : Slot) → same_slot r s ≡ true → r ≡ s
same_is (At a) (At b) e = (let h : a.0 ≡ b.0 = grind (arith, nat_tests) in ap (λ (n : ℕ). At (record { 0 = n })) h)
same_is Rest Rest e = refl
same_is (At a) Rest e = cc
same_is Rest (At b) e = cc

pub same_self : (r : Slot) → same_slot r r ≡ true
same_self (At a) = grind (arith, nat_tests)
same_self Rest = refl

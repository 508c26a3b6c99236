-- A molecule has no more independent rings than bonds.
use Rattle.std.proofs.Common.{arith, ◌≡◌, ℕ, zero, suc, ◌+◌, ◌≤◌, List, [], length, Bool, true, false, if◌then◌else◌, refl}
use Rattle.std.specs.Prelude.{nat_lt}
use Rattle.std.proofs.lemmas.Bool.Decides.{nat_tests}
use Rattle.mc_mol.specs.declared.parts.Bond.{Bond}
use Rattle.mc_mol.specs.Parts.{count_below, begins_part, independent_rings}
use Rattle.ct_geometry.specs.TableFaults.{ring_faults}
use Rattle.mc_mol.proofs.Labelled.{count_low}

not_above : (rings : ℕ) → rings ≤ 99 → nat_lt 99 rings ≡ false
not_above rings few = grind (arith, nat_tests)

pub few_rings : (bonds : List Bond) (atoms : ℕ) → length bonds ≤ 99 → ring_faults (independent_rings bonds atoms) ≡ []
few_rings bonds atoms few =
    let parts = count_low (begins_part bonds) atoms in
    rw (not_above (independent_rings bonds atoms) (omega arith)) refl

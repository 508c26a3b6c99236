use Rattle.std.proofs.Common.{◌≡◌, ◌≤◌, ◌*◌, ℕ, length, get_or, take}
use Rattle.mc_mol.specs.Molecule.{bond_sum}
use Rattle.mc_mol.proofs.sums.bond_sums.Given as goal

abbrev pub invariant-loop-bond : goal.invariant-loop-bond
invariant-loop-bond l = record {
  count : length l.sums.items ≡ l.atoms;
  each : (k : ℕ) → get_or l.sums.items k 0 ≡ bond_sum (take l.bond-index l.bonds) k;
  small : (k : ℕ) → get_or l.sums.items k 0 ≤ 8 * l.bond-index;
}

use Rattle.std.proofs.Common.{◌≡◌, ◌≤◌, ◌++◌, drop, length, vec_capacity}
use Rattle.smi_mean.specs.Meaning.{atoms_with}
use Rattle.smi_mean.proofs.atoms.atoms_with.Given as goal

abbrev pub invariant-loop-k : goal.invariant-loop-k
invariant-loop-k l = record {
  atoms : l.found.items ++ atoms_with l.bonds l.k (drop l.k l.atoms) ≡ atoms_with l.bonds 0 l.atoms;
  count : length l.found.items ≡ l.k;
  room : length l.atoms ≤ vec_capacity l.found;
}

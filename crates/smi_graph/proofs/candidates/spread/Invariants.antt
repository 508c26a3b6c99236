use Rattle.std.proofs.Common.{◌≡◌, ◌≤◌, ◌++◌, drop, length, vec_capacity}
use Rattle.smi_graph.specs.Candidates.{is_lower_bond}
use Rattle.smi_graph.specs.Spreading.{spread}
use Rattle.smi_graph.proofs.candidates.spread.Given as goal

abbrev pub invariant-loop-bond : goal.invariant-loop-bond
invariant-loop-bond l = record {
  marks : l.found.items ++ spread (is_lower_bond l.atoms) (drop l.bond-index l.bonds) l.marks l.next ≡ spread (is_lower_bond l.atoms) l.bonds l.marks 0;
  count : length l.found.items ≡ l.bond-index;
  next : l.next ≤ l.bond-index;
  room : length l.bonds ≤ vec_capacity l.found;
}

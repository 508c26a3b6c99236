use Rattle.std.proofs.Common.{◌≡◌, ◌++◌, drop}
use Rattle.smi_graph.specs.Candidates.{lower_bonds}
use Rattle.smi_graph.proofs.candidates.lower_bonds.Given as goal

abbrev pub invariant-loop-bond : goal.invariant-loop-bond
invariant-loop-bond l = l.found.items ++ lower_bonds l.atoms (drop l.bond-index l.bonds) ≡ lower_bonds l.atoms l.bonds

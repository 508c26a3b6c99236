use Rattle.std.proofs.Common.{◌<◌, ℕ, map}
use Rattle.smi_graph.specs.Links.{bond_of}
use Rattle.smi_mean.specs.Placements.{LiesOnce}
use Rattle.smi_mean.proofs.placement.lie_once.Given as goal

abbrev pub invariant-loop-a : goal.invariant-loop-a
invariant-loop-a l = (b : ℕ) → b < l.a → LiesOnce l.skeleton.atoms (map bond_of l.skeleton.bonds) l.placed b

use Rattle.std.proofs.Common.{◌≡◌, drop}
use Rattle.std.specs.Prelude.{◌==◌}
use Rattle.std.specs.List.{list_any}
use Rattle.mc_mol.specs.HalfEdges.{half_edges}
use Rattle.smi_write.proofs.bonds.order_between.Given as goal

abbrev pub invariant-loop-half : goal.invariant-loop-half
invariant-loop-half l = list_any (λ half. half.to.0 == l.second.0) (drop l.half-index (half_edges l.mol l.fn.first.0)) ≡ list_any (λ half. half.to.0 == l.second.0) (half_edges l.mol l.fn.first.0)

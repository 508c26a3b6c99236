use Rattle.std.proofs.Common.{◌≡◌, drop, ◌&&◌}
use Rattle.std.specs.List.{list_any}
use Rattle.mc_mol.specs.declared.parts.HalfEdge.{HalfEdge}
use Rattle.ct_geometry.specs.Drawn.{rays_from}
use Rattle.ct_geometry.specs.Wedges.{begins, carries, is_middle_one}
use Rattle.ct_geometry.proofs.centres.wedge_in_the_middle.Given as goal

abbrev pub invariant-loop-half : goal.invariant-loop-half
invariant-loop-half l = list_any (λ (half : HalfEdge). carries (begins l.mol.bonds l.marks l.a.0) half && is_middle_one l.halves (rays_from l.drawing l.a.0) half.to) (drop l.half-index l.halves) ≡ list_any (λ (half : HalfEdge). carries (begins l.mol.bonds l.marks l.a.0) half && is_middle_one l.halves (rays_from l.drawing l.a.0) half.to) l.halves

use Rattle.std.proofs.Common.{◌≡◌, drop, not, ◌&&◌, ◌==◌}
use Rattle.std.specs.List.{list_any}
use Rattle.mc_mol.specs.declared.parts.HalfEdge.{HalfEdge}
use Rattle.ct_geometry.specs.Drawn.{rays_from}
use Rattle.ct_geometry.specs.Turns.{have_one_direction}
use Rattle.ct_geometry.proofs.centres.coincides.Given as goal

abbrev pub invariant-loop-half : goal.invariant-loop-half
invariant-loop-half l = list_any (λ (h : HalfEdge). not (l.g.to.0 == h.to.0) && have_one_direction (rays_from l.drawing l.a.0 l.g.to) (rays_from l.drawing l.a.0 h.to)) (drop l.half-index l.halves) ≡ list_any (λ (h : HalfEdge). not (l.g.to.0 == h.to.0) && have_one_direction (rays_from l.drawing l.a.0 l.g.to) (rays_from l.drawing l.a.0 h.to)) l.halves

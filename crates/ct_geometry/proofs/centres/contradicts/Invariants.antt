use Rattle.std.proofs.Common.{◌≡◌, drop, not, ◌&&◌, ◌==◌}
use Rattle.std.specs.List.{list_any}
use Rattle.mc_mol.specs.declared.parts.HalfEdge.{HalfEdge}
use Rattle.ct_geometry.specs.Drawn.{rays_from}
use Rattle.mc_mol.specs.Permutations.{is_even_permutation}
use Rattle.ct_geometry.specs.Wedges.{begins, carries, list_of}
use Rattle.ct_geometry.proofs.centres.contradicts.Given as goal

abbrev pub invariant-loop-half : goal.invariant-loop-half
invariant-loop-half l = list_any (λ (h : HalfEdge). not (l.g.bond.0 == h.bond.0) && (carries (begins l.mol.bonds l.marks l.a.0) h && not (is_even_permutation l.list (list_of (begins l.mol.bonds l.marks l.a.0) l.halves (rays_from l.drawing l.a.0) h)))) (drop l.half-index l.halves) ≡ list_any (λ (h : HalfEdge). not (l.g.bond.0 == h.bond.0) && (carries (begins l.mol.bonds l.marks l.a.0) h && not (is_even_permutation l.list (list_of (begins l.mol.bonds l.marks l.a.0) l.halves (rays_from l.drawing l.a.0) h)))) l.halves

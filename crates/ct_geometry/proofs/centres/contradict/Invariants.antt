use Rattle.std.proofs.Common.{◌≡◌, drop, ◌&&◌}
use Rattle.std.specs.List.{list_any}
use Rattle.mc_mol.specs.declared.parts.HalfEdge.{HalfEdge}
use Rattle.ct_geometry.specs.Drawn.{rays_from}
use Rattle.ct_geometry.specs.Wedges.{begins, carries, contradicts, list_of}
use Rattle.ct_geometry.proofs.centres.contradict.Given as goal

abbrev pub invariant-loop-half : goal.invariant-loop-half
invariant-loop-half l = list_any (λ (g : HalfEdge). carries (begins l.mol.bonds l.marks l.a.0) g && contradicts (begins l.mol.bonds l.marks l.a.0) l.halves (rays_from l.drawing l.a.0) g (list_of (begins l.mol.bonds l.marks l.a.0) l.halves (rays_from l.drawing l.a.0) g)) (drop l.half-index l.halves) ≡ list_any (λ (g : HalfEdge). carries (begins l.mol.bonds l.marks l.a.0) g && contradicts (begins l.mol.bonds l.marks l.a.0) l.halves (rays_from l.drawing l.a.0) g (list_of (begins l.mol.bonds l.marks l.a.0) l.halves (rays_from l.drawing l.a.0) g)) l.halves

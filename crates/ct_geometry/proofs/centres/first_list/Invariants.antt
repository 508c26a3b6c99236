use Rattle.std.proofs.Common.{◌≡◌, drop, true}
use Rattle.std.specs.List.{list_any}
use Rattle.mc_mol.specs.declared.parts.HalfEdge.{HalfEdge}
use Rattle.ct_geometry.specs.Drawn.{rays_from}
use Rattle.ct_geometry.specs.Wedges.{begins, carries, first_list}
use Rattle.ct_geometry.proofs.centres.first_list.Given as goal

abbrev pub invariant-loop-half : goal.invariant-loop-half
invariant-loop-half l = record {
  some : list_any (λ (half : HalfEdge). carries (begins l.mol.bonds l.marks l.a.0) half) (drop l.half-index l.halves) ≡ true;
  rest : first_list (begins l.mol.bonds l.marks l.a.0) l.halves (rays_from l.drawing l.a.0) (drop l.half-index l.halves)
      ≡ first_list (begins l.mol.bonds l.marks l.a.0) l.halves (rays_from l.drawing l.a.0) l.halves;
}

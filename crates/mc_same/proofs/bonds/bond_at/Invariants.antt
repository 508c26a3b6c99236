use Rattle.std.proofs.Common.{◌≡◌, ◌==◌, drop}
use Rattle.std.specs.List.{list_any}
use Rattle.mc_mol.specs.declared.parts.HalfEdge.{HalfEdge}
use Rattle.mc_same.proofs.bonds.bond_at.Given as goal

abbrev pub invariant-loop-half : goal.invariant-loop-half
invariant-loop-half l = list_any (λ (half : HalfEdge). half.to.0 == l.v.0) (drop l.half-index l.half-items) ≡ list_any (λ (half : HalfEdge). half.to.0 == l.v.0) l.half-items

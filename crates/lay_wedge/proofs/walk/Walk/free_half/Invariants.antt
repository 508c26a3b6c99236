use Rattle.std.proofs.Common.{◌≡◌, ℕ, ◌<◌, ◌&&◌, false, get_or}
use Rattle.mc_mol.specs.declared.parts.HalfEdge.{HalfEdge}
use Rattle.lay_wedge.specs.Underway.{is_free, may_serve}
use Rattle.lay_wedge.proofs.walk.Walk.free_half.Given as goal

abbrev pub invariant-loop-half : goal.invariant-loop-half
invariant-loop-half l = (i : ℕ) (d : HalfEdge) → i < l.half-index → (is_free l.self.wedges.items (get_or l.halves i d).bond.0 && may_serve l.mol l.drawing l.a.0 (get_or l.halves i d)) ≡ false

use Rattle.std.proofs.Common.{◌≡◌, ◌<◌, ℕ, slice_get, Some}
use Rattle.mc_mol.specs.declared.parts.HalfEdge.{HalfEdge as Leading}
use Rattle.lay_place.specs.Search.{NoEnd, NoSide}
use Rattle.lay_place.proofs.next.wish_of.Given as goal

abbrev pub invariant-loop-half : goal.invariant-loop-half
invariant-loop-half l = (i : ℕ) (half : Leading) → i < l.half-index → slice_get l.halves i ≡ Some half → NoEnd l.mol l.rings.sizes l.curve half.bond.0 half.to.0 × NoSide l.mol l.rings.sizes l.curve half.bond.0 half.to.0

use Rattle.std.proofs.Common.{◌≡◌, ◌<◌, ℕ, false, slice_get, Some}
use Rattle.mc_mol.specs.declared.parts.HalfEdge.{HalfEdge as Leading}
use Rattle.lay_place.specs.Search.{asks_here}
use Rattle.lay_place.proofs.found.find_asking.Given as goal

abbrev pub invariant-loop-half : goal.invariant-loop-half
invariant-loop-half l = (i : ℕ) (half : Leading) → i < l.half-index → slice_get l.halves i ≡ Some half → asks_here l.mol l.rings.sizes l.curve l.k.0 l.e.0 half ≡ false

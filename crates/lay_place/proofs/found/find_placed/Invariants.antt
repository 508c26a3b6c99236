use Rattle.std.proofs.Common.{◌≡◌, ◌<◌, ℕ, false, slice_get, Some}
use Rattle.mc_mol.specs.declared.parts.HalfEdge.{HalfEdge as Leading}
use Rattle.lay_place.specs.Search.{leads_to_placed}
use Rattle.lay_place.proofs.found.find_placed.Given as goal

abbrev pub invariant-loop-half : goal.invariant-loop-half
invariant-loop-half l = (i : ℕ) (half : Leading) → i < l.half-index → slice_get l.halves i ≡ Some half → leads_to_placed l.curve l.k.0 l.skip.0 half ≡ false

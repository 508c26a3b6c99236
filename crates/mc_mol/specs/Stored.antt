-- What holds of the lists that half-edges are stored in.
use Rattle.std.specs.Prelude.{◌≡◌, ℕ, ◌<◌, List, length, slice_index_or}
use Rattle.smallvec.specs.SmallVec.{SmallVec}
use Rattle.mc_mol.specs.declared.parts.Bond.{Bond}
use Rattle.mc_mol.specs.declared.parts.HalfEdge.{HalfEdge}
use Rattle.mc_mol.specs.HalfEdges.{half_edges_in}

-- the lists of half-edges are those of the bonds, for each atom
pub record HoldsHalfEdges (atoms : ℕ) (bonds : List Bond) (lists : List (SmallVec HalfEdge)) : Type 0 where
  pub count : length lists ≡ atoms
  pub each : (a : ℕ) (d : SmallVec HalfEdge) → a < atoms → (slice_index_or lists a d).items ≡ half_edges_in bonds a

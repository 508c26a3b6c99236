-- The neighbours of an atom as its half-edges lead to them (this project's own).
use Rattle.std.specs.Prelude.{◌≡◌, ℕ, ◌⊎◌, List, Some, length, slice_get}
use Rattle.mc_base.specs.declared.ids.AtomId.{AtomId}
use Rattle.mc_mol.specs.declared.parts.HalfEdge.{HalfEdge}
use Rattle.mc_mol.specs.HalfEdges.{LeadApart}

-- one of the half-edges leads to this atom
pub record LeadTo (halves : List HalfEdge) (w : AtomId) : Type 0 where
  pub place : ℕ
  pub half : HalfEdge
  pub is_half : slice_get halves place ≡ Some half
  pub leads : half.to ≡ w

-- those of an atom that may be a centre: three or four, to different atoms
pub record AreOfCentre (halves : List HalfEdge) : Type 0 where
  pub few : (length halves ≡ 3) ⊎ (length halves ≡ 4)
  pub apart : LeadApart halves

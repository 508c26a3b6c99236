-- What stands already of the bonds that ask something of the next atom, as the search finds it.
use Rattle.std.specs.Prelude.{◌≡◌, ◌≢◌, ℕ, ◌⊎◌, ◌==◌, ◌&&◌, Bool, true, not, List, Option, Some, is_some, slice_get}
use Rattle.mc_mol.specs.declared.parts.HalfEdge.{HalfEdge}
use Rattle.mc_mol.specs.Molecule.{Molecule}
use Rattle.mc_mol.specs.HalfEdges.{half_edges}
use Rattle.mc_rings.specs.Centres.{has_order, lies_in_no_ring}
use Rattle.mc_mol.specs.Numbered.{Mark}
use Rattle.lay_place.specs.Curve.{has_place}
use Rattle.lay_place.specs.declared.asking.Named.{Named}
use Rattle.lay_place.specs.declared.wish.Wish.{Wish}
use Rattle.lay_place.specs.declared.wish.Wish.TheVariants.{Anywhere, Beside, Parting}
use Rattle.lay_place.specs.Rows.{is_inside, same}
use Rattle.lay_place.specs.Wanted.{named_at, side_from}

abbrev pub is_free : Molecule → List (Option ℕ) → ℕ → Bool
is_free m sizes k = has_order m.bonds k 2 && lies_in_no_ring sizes k

-- a half-edge of another bond to a placed atom other than one
abbrev pub leads_to_placed : List (Option ℕ) → ℕ → ℕ → HalfEdge → Bool
leads_to_placed places k skip half = not (half.bond.0 == k) && (not (half.to.0 == skip) && has_place (slice_get places half.to.0))

pub record FoundPlaced (halves : List HalfEdge) (places : List (Option ℕ)) (k skip atom place : ℕ) : Type 0 where
  pub i : ℕ
  pub half : HalfEdge
  pub is_half : slice_get halves i ≡ Some half
  pub other : half.bond.0 ≢ k
  pub leads : half.to.0 ≡ atom
  pub apart : atom ≢ skip
  pub mark : Mark places atom place

-- a half-edge of another bond that is double and in no ring, and asks at this end, to a placed atom
abbrev pub asks_here : Molecule → List (Option ℕ) → List (Option ℕ) → ℕ → ℕ → HalfEdge → Bool
asks_here m sizes places k e half = not (half.bond.0 == k) && (is_free m sizes half.bond.0 && (has_place (slice_get places half.to.0) && is_some (named_at m half.bond.0 e)))

pub record FoundAsking (m : Molecule) (sizes places : List (Option ℕ)) (k e : ℕ) (half : HalfEdge) : Type 0 where
  pub i : ℕ
  pub is_half : slice_get (half_edges m e) i ≡ Some half
  pub asks : asks_here m sizes places k e half ≡ true

-- ---- the next atom as the second end of bond k from u

-- two different placed neighbours of u by other bonds
pub record FoundTwo (halves : List HalfEdge) (places : List (Option ℕ)) (k u at_c at_d : ℕ) : Type 0 where
  pub c : ℕ
  pub d : ℕ
  pub first : FoundPlaced halves places k u c at_c
  pub second : FoundPlaced halves places k c d at_d

abbrev pub IsPartedBy : List HalfEdge → List (Option ℕ) → ℕ → ℕ → ℕ → Wish → Type 0
IsPartedBy halves places k u end Anywhere = ⊥
IsPartedBy halves places k u end (Beside near far inside) = ⊥
IsPartedBy halves places k u end (Parting from one other) = (from ≡ end) × FoundTwo halves places k u one other

abbrev pub NoParted : List HalfEdge → List (Option ℕ) → ℕ → ℕ → Type 0
NoParted halves places k u = (at_c at_d : ℕ) → FoundTwo halves places k u at_c at_d → ⊥

-- the bond asks at u, which is placed, and so are two other neighbours of it
pub record FoundEnd (m : Molecule) (sizes places : List (Option ℕ)) (k u place at_c at_d : ℕ) : Type 0 where
  pub name : Named
  pub named : named_at m k u ≡ Some name
  pub free : is_free m sizes k ≡ true
  pub mark : Mark places u place
  pub two : FoundTwo (half_edges m u) places k u at_c at_d

abbrev pub IsEndWish : Molecule → List (Option ℕ) → List (Option ℕ) → ℕ → ℕ → Wish → Type 0
IsEndWish m sizes places k u Anywhere = ⊥
IsEndWish m sizes places k u (Beside near far inside) = ⊥
IsEndWish m sizes places k u (Parting end one other) = FoundEnd m sizes places k u end one other

abbrev pub NoEnd : Molecule → List (Option ℕ) → List (Option ℕ) → ℕ → ℕ → Type 0
NoEnd m sizes places k u = (name : Named) (place : ℕ) → named_at m k u ≡ Some name → is_free m sizes k ≡ true → Mark places u place → NoParted (half_edges m u) places k u

-- ---- the next atom v as a neighbour of e

-- a placed neighbour of an end f at which bond k asks, with its side
pub record FoundTold (m : Molecule) (places : List (Option ℕ)) (k f place : ℕ) (side : Bool) : Type 0 where
  pub name : Named
  pub named : named_at m k f ≡ Some name
  pub atom : ℕ
  pub found : FoundPlaced (half_edges m f) places k f atom place
  pub is : side ≡ side_from name atom

abbrev pub NoTold : Molecule → List (Option ℕ) → ℕ → ℕ → Type 0
NoTold m places k f = (name : Named) (atom place : ℕ) → named_at m k f ≡ Some name → FoundPlaced (half_edges m f) places k f atom place → ⊥

-- one at either end
pub record IsTold (m : Molecule) (places : List (Option ℕ)) (k e p place : ℕ) (side : Bool) : Type 0 where
  pub end : ℕ
  pub is_end : (end ≡ e) ⊎ (end ≡ p)
  pub told : FoundTold m places k end place side

abbrev pub NotTold : Molecule → List (Option ℕ) → ℕ → ℕ → ℕ → Type 0
NotTold m places k e p = NoTold m places k e × NoTold m places k p

-- a bond asks at e; both ends are placed, and an atom that has a side; v has its side where it stands inside, or outside
pub record FoundSide (m : Molecule) (sizes places : List (Option ℕ)) (k e v near far : ℕ) (inside : Bool) : Type 0 where
  pub half : HalfEdge
  pub asking : FoundAsking m sizes places k e half
  pub name : Named
  pub named : named_at m half.bond.0 e ≡ Some name
  pub mark : Mark places e near
  pub mark_far : Mark places half.to.0 far
  pub at : ℕ
  pub side : Bool
  pub told : IsTold m places half.bond.0 e half.to.0 at side
  pub is : inside ≡ same (is_inside near at far) (same (side_from name v) side)

abbrev pub IsSideWish : Molecule → List (Option ℕ) → List (Option ℕ) → ℕ → ℕ → ℕ → Wish → Type 0
IsSideWish m sizes places k e v Anywhere = ⊥
IsSideWish m sizes places k e v (Beside near far inside) = FoundSide m sizes places k e v near far inside
IsSideWish m sizes places k e v (Parting end one other) = ⊥

-- where at most one bond asks at e, it tells nothing
abbrev pub NoSide : Molecule → List (Option ℕ) → List (Option ℕ) → ℕ → ℕ → Type 0
NoSide m sizes places k e = (half : HalfEdge) (near : ℕ) → Mark places e near → FoundAsking m sizes places k e half
    → ((other : HalfEdge) → FoundAsking m sizes places k e other → (other.bond.0 ≡ half.bond.0) × (other.to.0 ≡ half.to.0))
    → NotTold m places half.bond.0 e half.to.0

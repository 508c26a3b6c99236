-- What a drawing must give, so that wedges and sides can be read from it (this project's own, for BIOVIA CTfile Formats): rays that
-- differ, double bonds that read right, and bonds that may carry a centre's wedge.
use Rattle.std.specs.Prelude.{◌≡◌, ◌≢◌, ◌↔◌, ℕ, ◌<◌, ◌≤◌, true, false, List, Some, length, get_or, slice_get, ℤ, pos}
use Rattle.mc_base.specs.declared.ids.AtomId.{AtomId}
use Rattle.mc_mol.specs.declared.drawing.Point.{Point}
use Rattle.mc_mol.specs.declared.parts.Bond.{Bond}
use Rattle.mc_mol.specs.declared.parts.HalfEdge.{HalfEdge}
use Rattle.mc_mol.specs.declared.parts.Sides.{Sides}
use Rattle.mc_mol.specs.declared.parts.Slot.{Slot}
use Rattle.mc_mol.specs.Molecule.{Molecule, are_joined}
use Rattle.mc_mol.specs.HalfEdges.{half_edges}
use Rattle.mc_mol.specs.Same.{stand_together}
use Rattle.ct_geometry.specs.Turns.{Sign, Null, Vector, ray, is_zero, have_one_direction, is_middle, side_of, flipped}

abbrev pub place : Point → Vector
place p = (p.x, p.y)

-- where an atom stands
abbrev pub at : List Point → ℕ → Vector
at drawing a = place (get_or drawing a (record { x = pos 0; y = pos 0 }))

-- the ray of a neighbour
abbrev pub ray_of : List Point → ℕ → ℕ → Vector
ray_of drawing a b = ray (at drawing a) (at drawing b)

abbrev pub rays_from : List Point → ℕ → AtomId → Vector
rays_from drawing a c = ray_of drawing a c.0

-- the side of the line through u and w on which an atom stands
abbrev pub side_at : List Point → ℕ → ℕ → ℕ → Sign
side_at drawing u w c = side_of (at drawing u) (at drawing w) (at drawing c)

-- a bond other than number k leads from the atom to another one
pub record IsOther (m : Molecule) (k a c : ℕ) : Type 0 where
  pub place : ℕ
  pub half : HalfEdge
  pub is_half : slice_get (half_edges m a) place ≡ Some half
  pub other : half.bond.0 ≢ k
  pub leads : half.to.0 ≡ c

-- The other neighbours of the ends u and w of bond k stand beside the line through the ends, and two of one end on different sides.
pub record AreParted (m : Molecule) (drawing : List Point) (k u w : ℕ) : Type 0 where
  pub beside_first : (c : ℕ) → IsOther m k u c → side_at drawing u w c ≢ Null
  pub beside_second : (d : ℕ) → IsOther m k w d → side_at drawing u w d ≢ Null
  pub opposite_first : (c d : ℕ) → c ≢ d → IsOther m k u c → IsOther m k u d → side_at drawing u w c ≡ flipped (side_at drawing u w d)
  pub opposite_second : (c d : ℕ) → c ≢ d → IsOther m k w c → IsOther m k w d → side_at drawing u w c ≡ flipped (side_at drawing u w d)

-- The bond reads as having these sides: neighbours of both ends stand on one side exactly where the sides say so.
pub record ReadsAs (m : Molecule) (drawing : List Point) (k u w : ℕ) (sides : Sides) : Type 0 where
  pub parted : AreParted m drawing k u w
  pub together : (c d : ℕ) → IsOther m k u c → IsOther m k w d → (side_at drawing u w c ≡ side_at drawing u w d) ↔ (stand_together sides c d ≡ true)

-- A bond of the centre may carry its wedge, unless there are three neighbours and this one's ray is the middle one.
abbrev pub MayCarry : Molecule → List Point → ℕ → ℕ → Type 0
MayCarry m drawing a c = length (half_edges m a) ≡ 3 → (b d : ℕ) → are_joined m.bonds a b ≡ true → are_joined m.bonds a d ≡ true → b ≢ c → d ≢ c → b ≢ d
    → is_middle (ray_of drawing a b) (ray_of drawing a c) (ray_of drawing a d) ≡ false

-- the half-edge at this place is of a single bond that may carry the wedge
pub record IsUsable (m : Molecule) (drawing : List Point) (a place : ℕ) : Type 0 where
  pub half : HalfEdge
  pub is_half : slice_get (half_edges m a) place ≡ Some half
  pub bond : Bond
  pub is_bond : slice_get m.bonds half.bond.0 ≡ Some bond
  pub single : bond.order ≡ 1
  pub may_carry : MayCarry m drawing a half.to.0

-- two of them
pub record HasTwoUsable (m : Molecule) (drawing : List Point) (a : ℕ) : Type 0 where
  pub first : ℕ
  pub second : ℕ
  pub different : first ≢ second
  pub one : IsUsable m drawing a first
  pub other : IsUsable m drawing a second

-- from 0 to 999,999,999 ten-thousandths
abbrev pub IsWithin : ℤ → Type 0
IsWithin z = (n : ℕ) × (z ≡ pos n) × (n ≤ 999999999)

pub record IsDrawn (m : Molecule) (drawing : List Point) : Type 0 where
  pub count : length drawing ≡ length m.atoms
  pub within : (a : ℕ) → a < length m.atoms → IsWithin (at drawing a).0 × IsWithin (at drawing a).1
  pub least_x : 0 < length m.atoms → (a : ℕ) × (a < length m.atoms) × ((at drawing a).0 ≡ pos 0)
  pub least_y : 0 < length m.atoms → (a : ℕ) × (a < length m.atoms) × ((at drawing a).1 ≡ pos 0)
  -- neighbours stand apart from the atom, and in different directions
  pub apart : (a b : ℕ) → are_joined m.bonds a b ≡ true → is_zero (ray_of drawing a b) ≡ false
  pub different : (a b c : ℕ) → are_joined m.bonds a b ≡ true → are_joined m.bonds a c ≡ true → b ≢ c → have_one_direction (ray_of drawing a b) (ray_of drawing a c) ≡ false
  -- each specified bond reads as in the molecule
  pub sides : (k : ℕ) (bond : Bond) (sides : Sides) → slice_get m.bonds k ≡ Some bond → slice_get m.sides k ≡ Some (Some sides) → ReadsAs m drawing k bond.first.0 bond.second.0 sides
  -- each centre has two single bonds that may carry its wedge
  pub centres : (a : ℕ) (places : List Slot) → slice_get m.centres a ≡ Some (Some places) → HasTwoUsable m drawing a

-- What a drawing must give, as tests over points, half-edges and bonds.
use Rattle.std.specs.Prelude.{◌≡◌, ◌<◌, ℕ, ◌==◌, ◌&&◌, ◌||◌, Bool, true, false, not, List, Option, Some, None, length, slice_get, count_by, nat_le, ℤ, pos, negsuc}
use Rattle.std.specs.List.{list_all, list_any}
use Rattle.mc_mol.specs.declared.drawing.Point.{Point}
use Rattle.mc_mol.specs.declared.parts.Bond.{Bond}
use Rattle.mc_mol.specs.declared.parts.HalfEdge.{HalfEdge}
use Rattle.mc_mol.specs.declared.parts.Sides.{Sides}
use Rattle.mc_mol.specs.declared.parts.Slot.{Slot}
use Rattle.mc_mol.specs.Molecule.{Molecule}
use Rattle.mc_mol.specs.HalfEdges.{half_edges}
use Rattle.mc_mol.specs.Same.{stand_together, turned}
use Rattle.mc_rings.specs.Centres.{has_order}
use Rattle.ct_geometry.specs.Turns.{Sign, Negative, Null, Positive, is_null, is_zero, have_one_direction, is_middle, flipped}
use Rattle.ct_geometry.specs.Drawn.{ray_of, side_at}

-- from 0 to 999,999,999 ten-thousandths
abbrev pub is_within : ℤ → Bool
is_within (pos n) = nat_le n 999999999
is_within (negsuc n) = false

abbrev pub is_nought : ℤ → Bool
is_nought (pos n) = n == 0
is_nought (negsuc n) = false

abbrev pub is_placed : Point → Bool
is_placed p = is_within p.x && is_within p.y

abbrev pub has_nought_x : Point → Bool
has_nought_x p = is_nought p.x

abbrev pub has_nought_y : Point → Bool
has_nought_y p = is_nought p.y

-- the least coordinates are 0, where there is a point
abbrev pub has_noughts : List Point → Bool
has_noughts drawing = (length drawing == 0) || (list_any has_nought_x drawing && list_any has_nought_y drawing)

abbrev pub stands_right : Molecule → List Point → Bool
stands_right m drawing = (length drawing == length m.atoms) && (list_all is_placed drawing && has_noughts drawing)

abbrev pub same_sign : Sign → Sign → Bool
same_sign Negative Negative = true
same_sign Negative Null = false
same_sign Negative Positive = false
same_sign Null Negative = false
same_sign Null Null = true
same_sign Null Positive = false
same_sign Positive Negative = false
same_sign Positive Null = false
same_sign Positive Positive = true

-- the ray of a half-edge's atom isn't that of another one's
abbrev pub goes_apart : List Point → ℕ → HalfEdge → HalfEdge → Bool
goes_apart drawing a g h = (g.to.0 == h.to.0) || not (have_one_direction (ray_of drawing a g.to.0) (ray_of drawing a h.to.0))

-- it is a ray, and goes apart from all
abbrev pub ray_differs : List Point → ℕ → List HalfEdge → HalfEdge → Bool
ray_differs drawing a halves g = not (is_zero (ray_of drawing a g.to.0)) && list_all (λ (h : HalfEdge). goes_apart drawing a g h) halves

abbrev pub rays_differ : List Point → ℕ → List HalfEdge → Bool
rays_differ drawing a halves = list_all (λ (g : HalfEdge). ray_differs drawing a halves g) halves

-- two half-edges of an end lead to one atom, or to atoms on different sides of the bond k from u to w, if they are of other bonds
abbrev pub are_opposite : List Point → ℕ → ℕ → ℕ → HalfEdge → HalfEdge → Bool
are_opposite drawing k u w g h = (h.bond.0 == k) || ((g.to.0 == h.to.0) || same_sign (side_at drawing u w g.to.0) (flipped (side_at drawing u w h.to.0)))

-- a half-edge of another bond leads beside the line, and is opposite to all others
abbrev pub is_parted : List Point → ℕ → ℕ → ℕ → List HalfEdge → HalfEdge → Bool
is_parted drawing k u w halves g = (g.bond.0 == k) || (not (is_null (side_at drawing u w g.to.0)) && list_all (λ (h : HalfEdge). are_opposite drawing k u w g h) halves)

abbrev pub are_parted : List Point → ℕ → ℕ → ℕ → List HalfEdge → Bool
are_parted drawing k u w halves = list_all (λ (g : HalfEdge). is_parted drawing k u w halves g) halves

-- half-edges of both ends, of other bonds, lead to one side exactly where the sides say so
abbrev pub is_told : List Point → ℕ → ℕ → ℕ → Sides → HalfEdge → HalfEdge → Bool
is_told drawing k u w sides g h = (h.bond.0 == k) || turned (stand_together sides g.to.0 h.to.0) (same_sign (side_at drawing u w g.to.0) (side_at drawing u w h.to.0))

abbrev pub tells : List Point → ℕ → ℕ → ℕ → Sides → List HalfEdge → HalfEdge → Bool
tells drawing k u w sides others g = (g.bond.0 == k) || list_all (λ (h : HalfEdge). is_told drawing k u w sides g h) others

abbrev pub sides_read : Molecule → List Point → ℕ → ℕ → ℕ → Sides → Bool
sides_read m drawing k u w sides = are_parted drawing k u w (half_edges m u) && (are_parted drawing k u w (half_edges m w)
    && list_all (λ (g : HalfEdge). tells drawing k u w sides (half_edges m w) g) (half_edges m u))

abbrev pub bond_reads_by : Molecule → List Point → ℕ → Option Bond → Option (Option Sides) → Bool
bond_reads_by m drawing k (Some bond) (Some (Some sides)) = sides_read m drawing k bond.first.0 bond.second.0 sides
bond_reads_by m drawing k (Some bond) (Some None) = true
bond_reads_by m drawing k (Some bond) None = true
bond_reads_by m drawing k None sides = true

-- the bond of this number reads as its sides, where it has them
abbrev pub bond_reads : Molecule → List Point → ℕ → Bool
bond_reads m drawing k = bond_reads_by m drawing k (slice_get m.bonds k) (slice_get m.sides k)

-- two other half-edges between which this one's ray is the middle one
abbrev pub is_middle_of : List Point → ℕ → HalfEdge → HalfEdge → HalfEdge → Bool
is_middle_of drawing a g b d = not (b.to.0 == g.to.0) && (not (d.to.0 == g.to.0) && (not (b.to.0 == d.to.0) && is_middle (ray_of drawing a b.to.0) (ray_of drawing a g.to.0) (ray_of drawing a d.to.0)))

abbrev pub has_middle_ray : List Point → ℕ → List HalfEdge → HalfEdge → Bool
has_middle_ray drawing a halves g = list_any (λ (b : HalfEdge). list_any (λ (d : HalfEdge). is_middle_of drawing a g b d) halves) halves

-- a single bond that may carry the wedge
abbrev pub is_usable : List Bond → List Point → ℕ → List HalfEdge → HalfEdge → Bool
is_usable bonds drawing a halves g = has_order bonds g.bond.0 1 && not ((length halves == 3) && has_middle_ray drawing a halves g)

abbrev pub usable_count : List Bond → List Point → ℕ → List HalfEdge → ℕ
usable_count bonds drawing a halves = count_by (λ (g : HalfEdge). is_usable bonds drawing a halves g) halves

abbrev pub centre_reads_by : Molecule → List Point → ℕ → Option (Option (List Slot)) → Bool
centre_reads_by m drawing a (Some (Some places)) = nat_le 2 (usable_count m.bonds drawing a (half_edges m a))
centre_reads_by m drawing a (Some None) = true
centre_reads_by m drawing a None = true

-- a centre has two of them
abbrev pub centre_reads : Molecule → List Point → ℕ → Bool
centre_reads m drawing a = centre_reads_by m drawing a (slice_get m.centres a)

abbrev pub atom_reads : Molecule → List Point → ℕ → Bool
atom_reads m drawing a = rays_differ drawing a (half_edges m a) && centre_reads m drawing a

abbrev pub AtomsRead : Molecule → List Point → Type 0
AtomsRead m drawing = (a : ℕ) → a < length m.atoms → atom_reads m drawing a ≡ true

abbrev pub BondsRead : Molecule → List Point → Type 0
BondsRead m drawing = (k : ℕ) → k < length m.bonds → bond_reads m drawing k ≡ true

abbrev pub ReadsRight : Molecule → List Point → Type 0
ReadsRight m drawing = AtomsRead m drawing × BondsRead m drawing

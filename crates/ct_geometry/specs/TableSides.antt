-- What a drawing says of the double bonds of a table (BIOVIA CTfile Formats, bond stereo of double bonds: by the drawn places, unless the
-- bond is marked as either; the reading by signs is this project's own).
use Rattle.std.specs.Prelude.{ℕ, Bool, true, false, not, ◌&&◌, ◌||◌, ◌==◌, List, [], ◌∷◌, Option, Some, None, if◌then◌else◌, get_or, slice_get}
use Rattle.std.specs.List.{list_all, list_any}
use Rattle.ct_sd.specs.declared.table.DrawMark.{DrawMark}
use Rattle.ct_sd.specs.declared.table.DrawMark.TheVariants.{Plain, Up, Down, Wavy, Either}
use Rattle.mc_base.specs.declared.ids.AtomId.{AtomId}
use Rattle.mc_mol.specs.declared.drawing.Point.{Point}
use Rattle.mc_mol.specs.declared.parts.Bond.{Bond}
use Rattle.mc_mol.specs.declared.parts.HalfEdge.{HalfEdge}
use Rattle.mc_mol.specs.declared.parts.Sides.{Sides}
use Rattle.mc_mol.specs.Molecule.{Molecule}
use Rattle.mc_mol.specs.HalfEdges.{half_edges}
use Rattle.mc_rings.specs.Centres.{lies_in_no_ring}
use Rattle.mc_rings.specs.SidePlaces.{may_have_sides}
use Rattle.ct_geometry.specs.Turns.{Sign, Negative, Null, Positive, is_null}
use Rattle.ct_geometry.specs.Drawn.{side_at}
use Rattle.ct_geometry.specs.Wedges.{is_wavy, begins}

abbrev pub same_sign : Sign → Sign → Bool
same_sign Negative Negative = true
same_sign Negative Null = false
same_sign Negative Positive = false
same_sign Null Negative = false
same_sign Null Null = true
same_sign Null Positive = false
same_sign Positive Negative = false
same_sign Positive Null = false
same_sign Positive Positive = true

-- two atoms on one side of the line through u and w, or both on the line
abbrev pub on_one_side : List Point → ℕ → ℕ → ℕ → ℕ → Bool
on_one_side drawing u w c d = same_sign (side_at drawing u w c) (side_at drawing u w d)

-- half-edges of two other bonds than number k, whose atoms stand on one side
abbrev pub share_a_side : List Point → ℕ → ℕ → ℕ → HalfEdge → HalfEdge → Bool
share_a_side drawing k u w g h = not (g.bond.0 == k) && (not (h.bond.0 == k) && (not (g.bond.0 == h.bond.0) && on_one_side drawing u w g.to.0 h.to.0))

-- the half-edge is of bond k, or leads to an atom beside the line through the ends u and w that shares its side with no other neighbour
abbrev pub stands_alone : List Point → ℕ → ℕ → ℕ → List HalfEdge → HalfEdge → Bool
stands_alone drawing k u w halves g =
    (g.bond.0 == k) || (not (is_null (side_at drawing u w g.to.0)) && not (list_any (λ (h : HalfEdge). share_a_side drawing k u w g h) halves))

-- Every other neighbour of an end stands strictly beside the line through the ends, and two neighbours of one end on opposite sides.
unfoldable pub are_parted : List Point → ℕ → ℕ → ℕ → List HalfEdge → Bool
are_parted drawing k u w halves = list_all (λ (g : HalfEdge). stands_alone drawing k u w halves g) halves

-- a wavy bond begins at an atom
unfoldable pub has_wavy : List Bond → List DrawMark → ℕ → List HalfEdge → Bool
has_wavy bonds marks a halves = list_any (λ (half : HalfEdge). is_wavy (begins bonds marks a half.bond.0)) halves

abbrev pub is_either : DrawMark → Bool
is_either Plain = false
is_either Up = false
is_either Down = false
is_either Wavy = false
is_either Either = true

-- the bond has an either mark, or a wavy bond begins at one of its ends
abbrev pub is_left_open : Molecule → List DrawMark → ℕ → Bond → Bool
is_left_open m marks k bond = is_either (get_or marks k Plain)
    || (has_wavy m.bonds marks bond.first.0 (half_edges m bond.first.0) || has_wavy m.bonds marks bond.second.0 (half_edges m bond.second.0))

-- other neighbours of both ends are parted by the line through the ends
abbrev pub ends_are_parted : Molecule → List Point → ℕ → Bond → Bool
ends_are_parted m drawing k bond = are_parted drawing k bond.first.0 bond.second.0 (half_edges m bond.first.0) && are_parted drawing k bond.first.0 bond.second.0 (half_edges m bond.second.0)

-- A side place that lies in no ring is specified where the drawing leaves it not open, and the line through its ends parts their other
-- neighbours.
abbrev pub is_specified : Molecule → List (Option ℕ) → List Point → List DrawMark → ℕ → Bond → Bool
is_specified m sizes drawing marks k bond =
    may_have_sides m sizes k && (lies_in_no_ring sizes k && (not (is_left_open m marks k bond) && ends_are_parted m drawing k bond))

-- the first neighbour of an end by another bond than number k
abbrev pub first_other : List HalfEdge → ℕ → Option AtomId
first_other [] k = None
first_other (half ∷ halves) k = if half.bond.0 == k then first_other halves k else Some half.to

-- the sides by a neighbour of each end: together is equality of signs
abbrev pub sides_by : List Point → ℕ → ℕ → Option AtomId → Option AtomId → Option Sides
sides_by drawing u w None d = None
sides_by drawing u w (Some c) None = None
sides_by drawing u w (Some c) (Some d) = Some (record { first = c; second = d; together = on_one_side drawing u w c.0 d.0 })

-- the sides that a drawing gives the bond of number k, or none
abbrev pub sides_of : Molecule → List (Option ℕ) → List Point → List DrawMark → ℕ → Option Bond → Option Sides
sides_of m sizes drawing marks k None = None
sides_of m sizes drawing marks k (Some bond) = if is_specified m sizes drawing marks k bond
    then sides_by drawing bond.first.0 bond.second.0 (first_other (half_edges m bond.first.0) k) (first_other (half_edges m bond.second.0) k)
    else None

abbrev pub drawn_sides : Molecule → List (Option ℕ) → List Point → List DrawMark → ℕ → Option Sides
drawn_sides m sizes drawing marks k = sides_of m sizes drawing marks k (slice_get m.bonds k)

-- What the wedges of a drawing say of an atom (BIOVIA CTfile Formats, bond stereo: up, down and either of a single bond, whose narrow end
-- is its first atom; OpenSMILES 1.0, section 3.9, lists of neighbours. The reading by signs is this project's own).
use Rattle.std.specs.Prelude.{ℕ, Bool, true, false, not, ◌&&◌, ◌||◌, ◌==◌, if◌then◌else◌, List, [], ◌∷◌, Option, Some, None, length, map, filter, slice_get, get_or}
use Rattle.std.specs.List.{list_any}
use Rattle.ct_sd.specs.declared.table.DrawMark.{DrawMark}
use Rattle.ct_sd.specs.declared.table.DrawMark.TheVariants.{Plain, Up, Down, Wavy, Either}
use Rattle.mc_base.specs.declared.ids.AtomId.{AtomId}
use Rattle.mc_mol.specs.declared.parts.Bond.{Bond}
use Rattle.mc_mol.specs.declared.parts.HalfEdge.{HalfEdge}
use Rattle.mc_mol.specs.declared.parts.Slot.{Slot}
use Rattle.mc_mol.specs.declared.parts.Slot.TheVariants.{At, Rest}
use Rattle.mc_mol.specs.Molecule.{Molecule}
use Rattle.mc_mol.specs.HalfEdges.{half_edges}
use Rattle.mc_mol.specs.Permutations.{is_even_permutation}
use Rattle.mc_rings.specs.Centres.{may_be_centre}
use Rattle.mc_mol.specs.declared.drawing.Point.{Point}
use Rattle.ct_geometry.specs.Turns.{Vector, is_zero, have_one_direction, is_met_before, is_wide, is_middle}
use Rattle.ct_geometry.specs.Drawn.{rays_from}
use Rattle.ct_geometry.specs.declared.wedge.Wedge.{Wedge}
use Rattle.ct_geometry.specs.declared.wedge_read.WedgeRead.{WedgeRead}
use Rattle.ct_geometry.specs.declared.wedge_read.WedgeRead.TheVariants as read

-- One put among others that stand in the order in which they are met from ray r, turning anticlockwise; and all of them in this order.
abbrev pub put_met : {X : Type 0} → (X → Vector) → Vector → X → List X → List X
put_met ray_to r x [] = x ∷ []
put_met ray_to r x (y ∷ ys) = if is_met_before r (ray_to x) (ray_to y) then x ∷ y ∷ ys else y ∷ put_met ray_to r x ys

abbrev pub met_from : {X : Type 0} → (X → Vector) → Vector → List X → List X
met_from ray_to r [] = []
met_from ray_to r (x ∷ xs) = put_met ray_to r x (met_from ray_to r xs)

-- ---- marks that begin at an atom

abbrev pub is_wedge : DrawMark → Bool
is_wedge Plain = false
is_wedge Up = true
is_wedge Down = true
is_wedge Wavy = false
is_wedge Either = false

abbrev pub is_wavy : DrawMark → Bool
is_wavy Plain = false
is_wavy Up = false
is_wavy Down = false
is_wavy Wavy = true
is_wavy Either = false

-- a mark speaks of its bond's narrow end alone
abbrev pub mark_at_end : Option Bond → DrawMark → ℕ → DrawMark
mark_at_end None mark a = Plain
mark_at_end (Some bond) mark a = if bond.first.0 == a then mark else Plain

-- the mark that begins at an atom, of the bond of this number, where the first atom is the narrow end
abbrev pub begins : List Bond → List DrawMark → ℕ → ℕ → DrawMark
begins bonds marks a k = mark_at_end (slice_get bonds k) (get_or marks k Plain) a

-- the same where the narrow end is written beside the mark
abbrev pub wedge_at_end : Option Wedge → ℕ → DrawMark
wedge_at_end None a = Plain
wedge_at_end (Some wedge) a = if wedge.narrow.0 == a then wedge.mark else Plain

abbrev pub begins_by : List Wedge → ℕ → ℕ → DrawMark
begins_by wedges a k = wedge_at_end (slice_get wedges k) a

-- ---- the list of one wedge

-- the atoms to which these half-edges lead, but one
abbrev pub others : List HalfEdge → AtomId → List AtomId
others halves w = map (λ (half : HalfEdge). half.to) (filter (λ (half : HalfEdge). not (half.to.0 == w.0)) halves)

-- The list of an up wedge of three neighbours, whose other two are met in this order. With a gap of half a turn or more the rest stands
-- in it, and the list is the wedge's own neighbour and then the others as they are met; with none it is the rest, and then the three
-- as they are met, the last two exchanged.
abbrev pub up_list_of_three : (AtomId → Vector) → AtomId → AtomId → AtomId → List Slot
up_list_of_three ray_to w p q =
    if is_wide (ray_to w) (ray_to p) then At w ∷ Rest ∷ At p ∷ At q ∷ [] else
    if is_wide (ray_to q) (ray_to w) then At w ∷ At p ∷ At q ∷ Rest ∷ [] else Rest ∷ At w ∷ At q ∷ At p ∷ []

-- the list of an up wedge, by its own neighbour and the others as they are met: with four neighbours it is just these
abbrev pub up_list : (AtomId → Vector) → AtomId → List AtomId → List Slot
up_list ray_to w [] = []
up_list ray_to w (p ∷ []) = []
up_list ray_to w (p ∷ q ∷ []) = up_list_of_three ray_to w p q
up_list ray_to w (p ∷ q ∷ s ∷ more) = At w ∷ At p ∷ At q ∷ At s ∷ []

-- with the last two of four exchanged
abbrev pub exchanged : List Slot → List Slot
exchanged [] = []
exchanged (p ∷ []) = p ∷ []
exchanged (p ∷ q ∷ []) = p ∷ q ∷ []
exchanged (p ∷ q ∷ r ∷ []) = p ∷ q ∷ r ∷ []
exchanged (p ∷ q ∷ r ∷ s ∷ more) = p ∷ q ∷ s ∷ r ∷ more

-- a down wedge says the other hand
abbrev pub by_mark : DrawMark → List Slot → List Slot
by_mark Up places = places
by_mark Down places = exchanged places
by_mark Plain places = places
by_mark Wavy places = places
by_mark Either places = places

-- the list that a wedge gives at an atom with these half-edges
unfoldable pub wedge_list : List HalfEdge → (AtomId → Vector) → AtomId → DrawMark → List Slot
wedge_list halves ray_to w mark = by_mark mark (up_list ray_to w (met_from ray_to (ray_to w) (others halves w)))

-- of three neighbours, w stands opposite to a gap of half a turn or more
abbrev pub is_middle_of : (AtomId → Vector) → AtomId → List AtomId → Bool
is_middle_of ray_to w [] = false
is_middle_of ray_to w (p ∷ []) = false
is_middle_of ray_to w (p ∷ q ∷ []) = is_middle (ray_to p) (ray_to w) (ray_to q)
is_middle_of ray_to w (p ∷ q ∷ s ∷ more) = false

unfoldable pub is_middle_one : List HalfEdge → (AtomId → Vector) → AtomId → Bool
is_middle_one halves ray_to w = (length halves == 3) && is_middle_of ray_to w (others halves w)

-- ---- what all marks say

-- a neighbour has the atom's own place, or another one stands in its direction
abbrev pub coincides : List HalfEdge → (AtomId → Vector) → HalfEdge → Bool
coincides halves ray_to g = is_zero (ray_to g.to) || list_any (λ (h : HalfEdge). not (g.to.0 == h.to.0) && have_one_direction (ray_to g.to) (ray_to h.to)) halves

unfoldable pub coincide : List HalfEdge → (AtomId → Vector) → Bool
coincide halves ray_to = list_any (λ (g : HalfEdge). coincides halves ray_to g) halves

-- an up or down bond begins at the atom, by this half-edge
abbrev pub carries : (ℕ → DrawMark) → HalfEdge → Bool
carries mark_of half = is_wedge (mark_of half.bond.0)

abbrev pub list_of : (ℕ → DrawMark) → List HalfEdge → (AtomId → Vector) → HalfEdge → List Slot
list_of mark_of halves ray_to half = wedge_list halves ray_to half.to (mark_of half.bond.0)

-- a wedge stands at the middle one of three
unfoldable pub wedge_in_the_middle : (ℕ → DrawMark) → List HalfEdge → (AtomId → Vector) → Bool
wedge_in_the_middle mark_of halves ray_to = list_any (λ (half : HalfEdge). carries mark_of half && is_middle_one halves ray_to half.to) halves

-- another wedge than that of this half-edge says another hand than this list
abbrev pub contradicts : (ℕ → DrawMark) → List HalfEdge → (AtomId → Vector) → HalfEdge → List Slot → Bool
contradicts mark_of halves ray_to g places = list_any (λ (h : HalfEdge). not (g.bond.0 == h.bond.0) && (carries mark_of h && not (is_even_permutation places (list_of mark_of halves ray_to h)))) halves

-- two wedges say different hands: their lists differ by an odd permutation
unfoldable pub contradict : (ℕ → DrawMark) → List HalfEdge → (AtomId → Vector) → Bool
contradict mark_of halves ray_to = list_any (λ (g : HalfEdge). carries mark_of g && contradicts mark_of halves ray_to g (list_of mark_of halves ray_to g)) halves

-- Neighbours coincide, a wedge stands at the middle one of three, or two wedges contradict each other.
abbrev pub is_ambiguous : (ℕ → DrawMark) → List HalfEdge → (AtomId → Vector) → Bool
is_ambiguous mark_of halves ray_to = coincide halves ray_to || (wedge_in_the_middle mark_of halves ray_to || contradict mark_of halves ray_to)

-- an up or down bond begins at the atom and no wavy one
abbrev pub is_drawn_as_centre : (ℕ → DrawMark) → List HalfEdge → Bool
is_drawn_as_centre mark_of halves = list_any (λ (half : HalfEdge). carries mark_of half) halves && not (list_any (λ (half : HalfEdge). is_wavy (mark_of half.bond.0)) halves)

-- the list of the first wedge, by the number of its bond
abbrev pub first_list : (ℕ → DrawMark) → List HalfEdge → (AtomId → Vector) → List HalfEdge → List Slot
first_list mark_of halves ray_to [] = []
first_list mark_of halves ray_to (half ∷ more) = if carries mark_of half then list_of mark_of halves ray_to half else first_list mark_of halves ray_to more

-- what the marks that begin at an atom say of it, by its half-edges and the rays of its neighbours
abbrev pub reading : Bool → (ℕ → DrawMark) → List HalfEdge → (AtomId → Vector) → WedgeRead
reading may_be mark_of halves ray_to =
    if not (may_be && is_drawn_as_centre mark_of halves) then read.None else
    if is_ambiguous mark_of halves ray_to then read.Ambiguous else read.Centre (first_list mark_of halves ray_to halves)

-- the same of an atom of a molecule in a drawing
abbrev pub read_wedges : Molecule → List (Option ℕ) → List Point → (ℕ → DrawMark) → ℕ → WedgeRead
read_wedges m sizes drawing mark_of a = reading (may_be_centre m sizes a) mark_of (half_edges m a) (rays_from drawing a)

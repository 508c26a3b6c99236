-- A table whose drawing says no stereo has no centre that is read, and no sides.
use Rattle.std.proofs.Common.{arith, ◌≡◌, ◌∙◌, ℕ, zero, suc, ◌+◌, ◌<◌, List, [], ◌∷◌, ◌++◌, length, Bool, true, false, Option, None, Some, refl, sym, ap, subst}
use Rattle.std.specs.Prelude.{not, ◌&&◌, ◌||◌, ◌==◌, if◌then◌else◌, get_or, map, replicate, slice_get}
use Rattle.std.specs.List.{list_any}
use Rattle.std.proofs.lemmas.Bool.{or_parts, false≢true}
use Rattle.std.proofs.lemmas.List.{length-map}
use Rattle.mc_base.specs.declared.ids.AtomId.{AtomId}
use Rattle.mc_mol.specs.declared.drawing.Point.{Point}
use Rattle.mc_mol.specs.declared.parts.Bond.{Bond}
use Rattle.mc_mol.specs.declared.parts.HalfEdge.{HalfEdge}
use Rattle.mc_mol.specs.declared.parts.Sides.{Sides}
use Rattle.mc_mol.specs.declared.parts.Slot.{Slot}
use Rattle.mc_mol.specs.HalfEdges.{half_edges}
use Rattle.mc_mol.specs.Molecule.{Molecule}
use Rattle.mc_rings.specs.Centres.{lies_in_no_ring, may_be_centre}
use Rattle.mc_rings.specs.Rings.{RingList, AreRingsOf}
use Rattle.mc_rings.specs.SidePlaces.{may_have_sides}
use Rattle.mc_rings.specs.Sound.{IsSound as IsDrawnSound}
use Rattle.ct_sd.specs.declared.table.DrawMark.{DrawMark}
use Rattle.ct_sd.specs.declared.table.DrawMark.TheVariants.{Plain}
use Rattle.ct_sd.specs.declared.table.Table.{Table}
use Rattle.ct_sd.specs.declared.table.TableBond.{TableBond}
use Rattle.ct_geometry.specs.declared.ct_read.CtRead.{CtRead}
use Rattle.ct_geometry.specs.declared.wedge_read.WedgeRead.TheVariants as read
use Rattle.ct_geometry.specs.CentresRead.{centre_given, up_to}
use Rattle.ct_geometry.specs.Drawn.{rays_from}
use Rattle.ct_geometry.specs.Stands.{IsReadOf, centre_read, centres_of, sides_of_bonds}
use Rattle.ct_geometry.specs.Tables.{atoms_of, bonds_of, bond_of, drawing_of, mark_of, marks_of, without_stereo}
use Rattle.ct_geometry.specs.TableSides.{drawn_sides, ends_are_parted, has_wavy, is_either, sides_by, sides_of, first_other}
use Rattle.ct_geometry.specs.Turns.{Vector}
use Rattle.ct_geometry.specs.Wedges.{begins, carries, is_wavy, is_wedge, mark_at_end, reading}
use Rattle.ct_geometry.proofs.Sizes.{sizes_same, with_stereo}
use Rattle.smi_mean.specs.Meaning.{nones}
use Rattle.smi_mean.specs.Sound.{IsSound}
use Rattle.mc_convert.specs.SdRecords.{SaysStereo, has_drawn, has_open_side, is_drawn, is_open_side, says_stereo}

-- ---- centres

mark_plain : (bonds : List TableBond) (k : ℕ) → has_drawn bonds ≡ false → is_wedge (get_or (map mark_of bonds) k Plain) ≡ false
mark_plain [] k none = refl
mark_plain (bond ∷ bonds) zero none = (or_parts (is_wedge bond.mark) (is_wavy bond.mark) (or_parts (is_drawn bond.mark) (has_drawn bonds) none).0).0
mark_plain (bond ∷ bonds) (suc k) none = mark_plain bonds k (or_parts (is_drawn bond.mark) (has_drawn bonds) none).1

end_plain : (bond : Option Bond) (mark : DrawMark) (a : ℕ) → is_wedge mark ≡ false → is_wedge (mark_at_end bond mark a) ≡ false
end_plain None mark a h = refl
end_plain (Some bond) mark a h = by_test (bond.first.0 == a)
  where
    by_test : (t : Bool) → is_wedge (if t then mark else Plain) ≡ false
    by_test true = h
    by_test false = refl

none_carries : (marks : ℕ → DrawMark) (halves : List HalfEdge) → ((k : ℕ) → is_wedge (marks k) ≡ false) → list_any (λ (half : HalfEdge). carries marks half) halves ≡ false
none_carries marks [] h = refl
none_carries marks (half ∷ halves) h = ap (λ (t : Bool). t || list_any (λ (g : HalfEdge). carries marks g) halves) (h half.bond.0) ∙ none_carries marks halves h

none_read : (may : Bool) (marks : ℕ → DrawMark) (halves : List HalfEdge) (ray_to : AtomId → Vector) → list_any (λ (half : HalfEdge). carries marks half) halves ≡ false
    → reading may marks halves ray_to ≡ read.None
none_read false marks halves ray_to none = refl
none_read true marks halves ray_to none = rw none refl

-- without a drawn bond no atom is read as a centre
pub centre_none : (table : Table) (sizes : List (Option ℕ)) (a : ℕ) → has_drawn table.bonds ≡ false → centre_read table sizes a ≡ read.None
centre_none table sizes a none =
    let m = without_stereo table in
    let marks = begins (bonds_of table.bonds) (marks_of table) a in
    none_read (may_be_centre m sizes a) marks (half_edges m a) (rays_from (drawing_of table) a)
    (none_carries marks (half_edges m a) (λ k. end_plain (slice_get (bonds_of table.bonds) k) (get_or (marks_of table) k Plain) a (mark_plain table.bonds k none)))

-- ---- sides

sides_none : (may either free other parted : Bool) (sides : Option Sides) → (may && not either) ≡ false
    → (if may && (free && (not (either || other) && parted)) then sides else None) ≡ None
sides_none false either free other parted sides h = refl
sides_none true true true other parted sides h = refl
sides_none true true false other parted sides h = refl
sides_none true false free other parted sides h = absurd (false≢true (sym h))

open_at : (m : Molecule) (sizes : List (Option ℕ)) (j k : ℕ) (bonds : List TableBond) → has_open_side m sizes j bonds ≡ false → k < length bonds
    → is_open_side m sizes (j + k) (get_or (map mark_of bonds) k Plain) ≡ false
open_at m sizes j k [] none less = absurd (omega arith)
open_at m sizes j zero (bond ∷ bonds) none less =
    let e : j ≡ j + 0 = omega arith in
    subst (λ (i : ℕ). is_open_side m sizes i bond.mark ≡ false) e (or_parts (is_open_side m sizes j bond.mark) (has_open_side m sizes (j + 1) bonds) none).0
open_at m sizes j (suc k) (bond ∷ bonds) none less =
    let e : (j + 1) + k ≡ j + suc k = omega arith in
    subst (λ (i : ℕ). is_open_side m sizes i (get_or (map mark_of bonds) k Plain) ≡ false) e
    (open_at m sizes (j + 1) k bonds (or_parts (is_open_side m sizes j bond.mark) (has_open_side m sizes (j + 1) bonds) none).1 (omega arith))

side_none : (m : Molecule) (sizes : List (Option ℕ)) (drawing : List Point) (marks : List DrawMark) (k : ℕ) (bond : Option Bond)
    → is_open_side m sizes k (get_or marks k Plain) ≡ false → sides_of m sizes drawing marks k bond ≡ None
side_none m sizes drawing marks k None none = refl
side_none m sizes drawing marks k (Some bond) none =
    sides_none (may_have_sides m sizes k) (is_either (get_or marks k Plain)) (lies_in_no_ring sizes k)
    (has_wavy m.bonds marks bond.first.0 (half_edges m bond.first.0) || has_wavy m.bonds marks bond.second.0 (half_edges m bond.second.0)) (ends_are_parted m drawing k bond)
    (sides_by drawing bond.first.0 bond.second.0 (first_other (half_edges m bond.first.0) k) (first_other (half_edges m bond.second.0) k)) none

-- ---- lists of nothing

abbrev nothing : (A : Type 0) → Option A
nothing A = None

one_more : (A : Type 0) (n : ℕ) → replicate n (nothing A) ++ nothing A ∷ [] ≡ nothing A ∷ replicate n (nothing A)
one_more A zero = refl
one_more A (suc n) = ap (λ (xs : List (Option A)). nothing A ∷ xs) (one_more A n)

up_to_none : {A : Type 0} (f : ℕ → Option A) (n : ℕ) → ((k : ℕ) → k < n → f k ≡ None) → up_to f n ≡ replicate n (nothing A)
up_to_none f zero none = refl
up_to_none {A = A} f (suc n) none =
    ap (λ (xs : List (Option A)). xs ++ f n ∷ []) (up_to_none f n (λ k less. none k (omega arith)))
    ∙ (ap (λ (x : Option A). replicate n (nothing A) ++ x ∷ []) (none n (omega arith)) ∙ one_more A n)

nones_are : {A : Type 0} (B : Type 0) (xs : List A) → replicate (length xs) (nothing B) ≡ nones xs
nones_are B [] = refl
nones_are B (x ∷ xs) = ap (λ (ys : List (Option B)). nothing B ∷ ys) (nones_are B xs)

-- ---- a table

pub no_sides : (table : Table) (sizes : List (Option ℕ)) → has_open_side (without_stereo table) sizes 0 table.bonds ≡ false → sides_of_bonds table sizes ≡ nones (bonds_of table.bonds)
no_sides table sizes none =
    let count = length-map table.bonds bond_of in
    up_to_none (λ (k : ℕ). drawn_sides (without_stereo table) sizes (drawing_of table) (marks_of table) k) (length (bonds_of table.bonds))
    (λ k less. side_none (without_stereo table) sizes (drawing_of table) (marks_of table) k (slice_get (bonds_of table.bonds) k) (closed k (omega arith)))
    ∙ nones_are Sides (bonds_of table.bonds)
  where
    closed : (k : ℕ) → k < length table.bonds → is_open_side (without_stereo table) sizes k (get_or (marks_of table) k Plain) ≡ false
    closed k less =
        let e : 0 + k ≡ k = omega arith in
        subst (λ (i : ℕ). is_open_side (without_stereo table) sizes i (get_or (marks_of table) k Plain) ≡ false) e (open_at (without_stereo table) sizes 0 k table.bonds none less)

-- ---- what is read of a table

-- stereo isn't asked about
stereo_aside : (table : Table) (ct : CtRead) (t : Bool) → IsReadOf table ct → says_stereo ct.mol ct.rings.sizes table.bonds ≡ t → says_stereo (without_stereo table) ct.rings.sizes table.bonds ≡ t
stereo_aside table ct t is says = ap (λ (m : Molecule). says_stereo m ct.rings.sizes table.bonds) (sym is.stands.molecule) ∙ says

plain_rings : (table : Table) (ct : CtRead) → IsReadOf table ct → AreRingsOf (without_stereo table) ct.rings
plain_rings table ct is =
    subst (λ (m : Molecule). AreRingsOf (record m { centres = (without_stereo table).centres; sides = (without_stereo table).sides }) ct.rings) is.stands.molecule
    (with_stereo ct.mol ct.rings (without_stereo table).centres (without_stereo table).sides is.rings)

pub bond_count : (table : Table) (ct : CtRead) → IsReadOf table ct → length table.bonds ≡ length ct.mol.bonds
bond_count table ct is = sym (ap (λ (m : Molecule). length m.bonds) is.stands.molecule ∙ length-map table.bonds bond_of)

pub says_of : (table : Table) (ct : CtRead) → IsReadOf table ct → says_stereo ct.mol ct.rings.sizes table.bonds ≡ true → SaysStereo table
says_of table ct is says = record { rings = ct.rings; are_rings = plain_rings table ct is; says = stereo_aside table ct true is says }

-- all rings of a table say the same
says_by : (table : Table) (ct : CtRead) (rings : RingList) → IsReadOf table ct → AreRingsOf (without_stereo table) rings → says_stereo ct.mol ct.rings.sizes table.bonds ≡ false
    → says_stereo (without_stereo table) rings.sizes table.bonds ≡ false
says_by table ct rings is are says =
    ap (λ (sizes : List (Option ℕ)). says_stereo (without_stereo table) sizes table.bonds) (sizes_same (without_stereo table) rings ct.rings are (plain_rings table ct is))
    ∙ stereo_aside table ct false is says

pub says_none : (table : Table) (ct : CtRead) → IsReadOf table ct → says_stereo ct.mol ct.rings.sizes table.bonds ≡ false → SaysStereo table → ⊥
says_none table ct is says stereo = false≢true (sym (says_by table ct stereo.rings is stereo.are_rings says) ∙ stereo.says)

-- a table whose drawing says no stereo is read as a molecule that can be written
pub is_plain : (table : Table) (ct : CtRead) → IsReadOf table ct → IsDrawnSound ct.mol ct.rings → says_stereo ct.mol ct.rings.sizes table.bonds ≡ false → IsSound ct.mol
is_plain table ct is sound says =
    let m = is.stands.molecule in
    let sizes = is.stands.rings.sizes in
    let both = or_parts (has_drawn table.bonds) (has_open_side (without_stereo table) sizes 0 table.bonds) (says_by table ct is.stands.rings is is.stands.are_rings says) in
    record {
      within = sound.within;
      centres = λ a places at. record { sizes = ct.rings.sizes; are = record { count = is.rings.count; each = is.rings.sizes }; may = sound.centres a places at };
      no_sides = ap (λ (x : Molecule). x.sides) m ∙ (no_sides table sizes both.1 ∙ sym (ap (λ (x : Molecule). nones x.bonds) m));
    }

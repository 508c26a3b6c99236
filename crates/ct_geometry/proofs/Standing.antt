-- The first kind that stands in a table, and the molecule for which a table stands.
use Rattle.std.proofs.Common.{arith, ◌≡◌, ◌≢◌, ◌∙◌, ℕ, zero, suc, ◌+◌, ◌≤◌, ◌<◌, List, [], ◌∷◌, ◌++◌, length, Bool, true, false, Option, None, Some, refl, sym, ap, subst, inl, inr}
use Rattle.std.specs.Prelude.{not, ◌&&◌, nat_lt, nat_abs}
use Rattle.std.proofs.lemmas.Bool.{cases_lt, false≢true}
use Rattle.mc_base.specs.declared.kind.Kind.{Kind}
use Rattle.mc_base.specs.declared.kind.Kind.TheVariants as kind
use Rattle.mc_base.specs.declared.refusal.Refusal.{Refusal}
use Rattle.mc_base.specs.declared.refusal.Stop.{Stop}
use Rattle.mc_base.specs.declared.refusal.Stop.TheVariants.{Refused, NoMemory}
use Rattle.mc_base.specs.Kinds.{number}
use Rattle.mc_base.specs.Shown.{IsFirst}
use Rattle.mc_mol.specs.declared.drawing.Point.{Point}
use Rattle.mc_mol.specs.declared.limits.TheConstants.{RING_LIMIT, HYDROGEN_LIMIT, ISOTOPE_LIMIT, CLASS_LIMIT, CHARGE_LIMIT}
use Rattle.mc_mol.specs.declared.parts.Bond.{Bond}
use Rattle.mc_mol.specs.declared.parts.Sides.{Sides}
use Rattle.mc_mol.specs.declared.parts.Slot.{Slot}
use Rattle.mc_mol.specs.Parts.{count_below}
use Rattle.mc_mol.specs.Limits.{is_over, is_hydrogen_with_more}
use Rattle.mc_mol.specs.Molecule.{Molecule, bond_sum}
use Rattle.mc_rings.specs.Rings.{RingList, AreRingsOf}
use Rattle.mc_rings.specs.Sound.{IsSound}
use Rattle.ct_sd.specs.declared.fault.Fault.{Fault}
use Rattle.ct_sd.specs.declared.table.DrawMark.{DrawMark}
use Rattle.ct_sd.specs.declared.table.Table.{Table}
use Rattle.ct_sd.specs.declared.table.TableAtom.{TableAtom}
use Rattle.ct_sd.specs.Faults.{IsAmong, StandsIn, AreNone, IsNoBarrier, faults_at, shown_if, IsRefused as IsFirstFault}
use Rattle.ct_geometry.specs.CentresRead.{IsAmbiguity, centre_given, is_ambiguous, up_to}
use Rattle.ct_geometry.specs.declared.ct_read.CtRead.{CtRead}
use Rattle.ct_geometry.specs.declared.wedge_read.WedgeRead.{WedgeRead}
use Rattle.ct_geometry.specs.Bounds.{ArePlaces}
use Rattle.ct_geometry.specs.TableSides.{drawn_sides}
use Rattle.ct_geometry.specs.Wedges.{begins, read_wedges}
use Rattle.ct_geometry.specs.Stands.{centre_read, centres_of, sides_of_bonds, kept_wedges, idle_count, is_ring_side, ring_count, IsAmbiguousAt, StandsAt, IsRefused, IsReadOf}
use Rattle.ct_geometry.specs.TableFaults.{value_shows, valence_shows, falls_short, is_coordinate, atom_shows, atom_faults, ring_faults, rings_of, limit_faults}
use Rattle.ct_geometry.specs.Tables.{bonds_of, atom_of, atoms_of, hydrogens_of, drawing_of, marks_of, without_stereo}
use Rattle.ct_geometry.proofs.Accepted.{molecule_within, places_within}
use Rattle.ct_geometry.proofs.Given.{centre_may, side_may}
use Rattle.ct_geometry.proofs.Sizes.{sizes_same, with_stereo}

-- ---- the kinds of a table's atoms and bonds come before ambiguous centres

abbrev Early : Fault → Type 0
Early fault = number fault.kind < 42

shown_early : (test : Bool) (k : Kind) (place : ℕ) → number k < 42 → (f : Fault) → IsAmong (faults_at place (shown_if test k)) f → Early f
shown_early true k place less f (inl is) = subst Early is less
shown_early true k place less f (inr none) = absurd none
shown_early false k place less f none = absurd none

-- in two lists of kinds
joined_early : (place : ℕ) (xs ys : List Kind) → ((f : Fault) → IsAmong (faults_at place xs) f → Early f) → ((f : Fault) → IsAmong (faults_at place ys) f → Early f)
    → (f : Fault) → IsAmong (faults_at place (xs ++ ys)) f → Early f
joined_early place [] ys all_x all_y f at = all_y f at
joined_early place (x ∷ xs) ys all_x all_y f (inl is) = all_x f (inl is)
joined_early place (x ∷ xs) ys all_x all_y f (inr at) = joined_early place xs ys (λ g h. all_x g (inr h)) all_y f at

both_early : (xs ys : List Fault) → ((f : Fault) → IsAmong xs f → Early f) → ((f : Fault) → IsAmong ys f → Early f) → (f : Fault) → IsAmong (xs ++ ys) f → Early f
both_early [] ys all_x all_y f at = all_y f at
both_early (x ∷ xs) ys all_x all_y f (inl is) = all_x f (inl is)
both_early (x ∷ xs) ys all_x all_y f (inr at) = both_early xs ys (λ g h. all_x g (inr h)) all_y f at

atom_early : (atom : TableAtom) (sum place : ℕ) (f : Fault) → IsAmong (faults_at place (atom_shows atom sum)) f → Early f
atom_early atom sum place =
    let isotope = shown_if (nat_lt ISOTOPE_LIMIT atom.isotope) kind.LimitIsotope in
    let class = shown_if (nat_lt CLASS_LIMIT atom.class) kind.LimitClass in
    let charge = shown_if (nat_lt CHARGE_LIMIT (nat_abs atom.charge)) kind.LimitCharge in
    let away = shown_if (not (is_coordinate atom.x && is_coordinate atom.y)) kind.LimitCoordinate in
    let hydrogens = shown_if (nat_lt HYDROGEN_LIMIT (hydrogens_of atom sum)) kind.LimitHydrogens in
    let short = shown_if (falls_short atom.valence sum) kind.ValenceShort in
    let over = shown_if (is_over (Some (atom_of atom sum)) sum) kind.LimitValence in
    let more = shown_if (is_hydrogen_with_more (Some (atom_of atom sum))) kind.HydrogenOnHydrogen in
    joined_early place (value_shows atom) (valence_shows atom sum)
    (joined_early place isotope (class ++ (charge ++ away)) (shown_early (nat_lt ISOTOPE_LIMIT atom.isotope) kind.LimitIsotope place (omega arith))
    (joined_early place class (charge ++ away) (shown_early (nat_lt CLASS_LIMIT atom.class) kind.LimitClass place (omega arith))
    (joined_early place charge away (shown_early (nat_lt CHARGE_LIMIT (nat_abs atom.charge)) kind.LimitCharge place (omega arith))
    (shown_early (not (is_coordinate atom.x && is_coordinate atom.y)) kind.LimitCoordinate place (omega arith)))))
    (joined_early place hydrogens (short ++ (over ++ more)) (shown_early (nat_lt HYDROGEN_LIMIT (hydrogens_of atom sum)) kind.LimitHydrogens place (omega arith))
    (joined_early place short (over ++ more) (shown_early (falls_short atom.valence sum) kind.ValenceShort place (omega arith))
    (joined_early place over more (shown_early (is_over (Some (atom_of atom sum)) sum) kind.LimitValence place (omega arith))
    (shown_early (is_hydrogen_with_more (Some (atom_of atom sum))) kind.HydrogenOnHydrogen place (omega arith)))))

atoms_early : (bonds : List Bond) (k : ℕ) (atoms : List TableAtom) (f : Fault) → IsAmong (atom_faults bonds k atoms) f → Early f
atoms_early bonds k [] f at = absurd at
atoms_early bonds k (atom ∷ atoms) f at = both_early (faults_at (k + 1) (atom_shows atom (bond_sum bonds k))) (atom_faults bonds (k + 1) atoms) (atom_early atom (bond_sum bonds k) (k + 1)) (atoms_early bonds (k + 1) atoms) f at

pub limits_early : (table : Table) (kd : Kind) (place : ℕ) → StandsIn (limit_faults table) kd place → number kd < 42
limits_early table kd place at = both_early (ring_faults (rings_of table)) (atom_faults (bonds_of table.bonds) 0 table.atoms)
    (shown_early (nat_lt RING_LIMIT (rings_of table)) kind.LimitRings (rings_of table) (omega arith)) (atoms_early (bonds_of table.bonds) 0 table.atoms) (record { kind = kd; place = place }) at

-- ---- what stands by a limit, and what else

by_limits : (table : Table) (kd : Kind) (place : ℕ) → number kd < 42 → StandsAt table kd place → StandsIn (limit_faults table) kd place
by_limits table kind.AmbiguousCentre place less at = absurd (omega arith)
by_limits table _ place less at = at

pub limit_stands : (table : Table) (kd : Kind) (place : ℕ) → StandsIn (limit_faults table) kd place → StandsAt table kd place
limit_stands table kind.AmbiguousCentre place at = (let less = limits_early table kind.AmbiguousCentre place at in absurd (omega arith))
limit_stands table _ place at = at

-- a refusal by a limit
pub refused_by_limit : (table : Table) (stop : Stop) → IsFirstFault (limit_faults table) stop → IsRefused table stop
refused_by_limit table (Refused r) f =
    let early = limits_early table r.kind r.place f.stands in
    record {
      stands = limit_stands table r.kind r.place f.stands;
      least = λ place at. f.least place (by_limits table r.kind place early at);
      first = λ kd place less at. f.first kd place less (by_limits table kd place (omega arith) at);
      reason = f.reason;
    }
refused_by_limit table NoMemory f = tt

-- ---- ambiguous centres

not_both : (b : Bool) → b ≡ true → b ≡ false → ⊥
not_both b holds fails = false≢true (sym fails ∙ holds)

-- the wedges of an atom are read alike by all rings of the molecule
read_alike : (table : Table) (rings other : RingList) (a : ℕ) → AreRingsOf (without_stereo table) rings → AreRingsOf (without_stereo table) other
    → is_ambiguous (centre_read table other.sizes a) ≡ true → is_ambiguous (centre_read table rings.sizes a) ≡ true
read_alike table rings other a are are_other e = subst (λ (sizes : List (Option ℕ)). is_ambiguous (centre_read table sizes a) ≡ true) (sizes_same (without_stereo table) other rings are_other are) e

-- nothing stands, by the limits and where no atom up to the last is ambiguous
pub nothing_stands : (table : Table) (rings : RingList) → AreNone (limit_faults table) → AreRingsOf (without_stereo table) rings
    → ((a : ℕ) → a < length (atoms_of table) → is_ambiguous (centre_read table rings.sizes a) ≡ false) → (kd : Kind) (place : ℕ) → StandsAt table kd place → ⊥
nothing_stands table rings none are clear kind.AmbiguousCentre place (a, at, is) =
    not_both (is_ambiguous (centre_read table rings.sizes a)) (read_alike table rings is.rings a are is.are_rings is.ambiguous) (clear a is.atom)
nothing_stands table rings none are clear kd place at = none kd place at

earlier_none : (table : Table) (kd : Kind) (place : ℕ) → AreNone (limit_faults table) → number kd < 42 → StandsAt table kd place → ⊥
earlier_none table kd place none less at = none kd place (by_limits table kd place less at)

ambiguous_first : (table : Table) (rings : RingList) (a : ℕ) → AreNone (limit_faults table) → AreRingsOf (without_stereo table) rings → a < length (atoms_of table)
    → is_ambiguous (centre_read table rings.sizes a) ≡ true → ((b : ℕ) → b < a → is_ambiguous (centre_read table rings.sizes b) ≡ false)
    → IsRefused table (Refused (record { kind = kind.AmbiguousCentre; place = a + 1; barrier = []; odd = 0 }))
ambiguous_first table rings a none are within holds before = record {
  stands = (a, refl, record { atom = within; rings = rings; are_rings = are; ambiguous = holds });
  least = λ place (b, at, is). elim (cases_lt b a) [
    | inl less ↦ absurd (not_both (is_ambiguous (centre_read table rings.sizes b)) (read_alike table rings is.rings b are is.are_rings is.ambiguous) (before b less))
    | inr more ↦ omega arith
  ];
  first = λ kd place less at. earlier_none table kd place none less at;
  reason = (refl, refl);
}

pub refused_as_ambiguous : (table : Table) (rings : RingList) (stop : Stop) → AreNone (limit_faults table) → AreRingsOf (without_stereo table) rings
    → IsAmbiguity (λ (a : ℕ). centre_read table rings.sizes a) (length (atoms_of table)) stop → IsRefused table stop
refused_as_ambiguous table rings (Refused r) none are (a, within, is, holds, before) =
    subst (λ (x : Refusal). IsRefused table (Refused x)) (sym is) (ambiguous_first table rings a none are within holds before)
refused_as_ambiguous table rings NoMemory none are h = tt

-- ---- the same of a molecule, a drawing and marks that are equal to the table's

abbrev Read : Molecule → List (Option ℕ) → List Point → List DrawMark → ℕ → WedgeRead
Read m sizes drawing marks a = read_wedges m sizes drawing (begins m.bonds marks a) a

reads_are : (table : Table) (sizes : List (Option ℕ)) (m : Molecule) (drawing : List Point) (marks : List DrawMark) → m ≡ without_stereo table → drawing ≡ drawing_of table → marks ≡ marks_of table
    → Read m sizes drawing marks ≡ Read (without_stereo table) sizes (drawing_of table) (marks_of table)
reads_are table sizes m drawing marks e f g =
    ap (λ (x : Molecule). Read x sizes drawing marks) e
    ∙ (ap (λ (x : List Point). Read (without_stereo table) sizes x marks) f ∙ ap (λ (x : List DrawMark). Read (without_stereo table) sizes (drawing_of table) x) g)

pub places_are : (table : Table) (drawing : List Point) → AreNone (limit_faults table) → drawing ≡ drawing_of table → ArePlaces drawing
places_are table drawing none e = subst ArePlaces (sym e) (places_within table none)

pub centres_are : (table : Table) (sizes : List (Option ℕ)) (m : Molecule) (drawing : List Point) (marks : List DrawMark) (cs : List (Option (List Slot)))
    → m ≡ without_stereo table → drawing ≡ drawing_of table → marks ≡ marks_of table
    → cs ≡ up_to (λ (a : ℕ). centre_given (read_wedges m sizes drawing (begins m.bonds marks a) a)) (length m.atoms) → cs ≡ centres_of table sizes
centres_are table sizes m drawing marks cs e f g is =
    is ∙ (ap (λ (reads : ℕ → WedgeRead). up_to (λ (a : ℕ). centre_given (reads a)) (length m.atoms)) (reads_are table sizes m drawing marks e f g)
    ∙ ap (λ (x : Molecule). up_to (λ (a : ℕ). centre_given (Read (without_stereo table) sizes (drawing_of table) (marks_of table) a)) (length x.atoms)) e)

pub sides_are : (table : Table) (sizes : List (Option ℕ)) (m : Molecule) (drawing : List Point) (marks : List DrawMark) (xs : List (Option Sides))
    → m ≡ without_stereo table → drawing ≡ drawing_of table → marks ≡ marks_of table
    → xs ≡ up_to (λ (k : ℕ). drawn_sides m sizes drawing marks k) (length m.bonds) → xs ≡ sides_of_bonds table sizes
sides_are table sizes m drawing marks xs e f g is =
    is ∙ (ap (λ (x : Molecule). up_to (λ (k : ℕ). drawn_sides x sizes drawing marks k) (length x.bonds)) e
    ∙ (ap (λ (x : List Point). up_to (λ (k : ℕ). drawn_sides (without_stereo table) sizes x marks k) (length (bonds_of table.bonds))) f
    ∙ ap (λ (x : List DrawMark). up_to (λ (k : ℕ). drawn_sides (without_stereo table) sizes (drawing_of table) x k) (length (bonds_of table.bonds))) g))

pub accepted_by : (table : Table) (rings : RingList) (m : Molecule) (drawing : List Point) (marks : List DrawMark)
    → m ≡ without_stereo table → drawing ≡ drawing_of table → marks ≡ marks_of table → AreNone (limit_faults table) → AreRingsOf (without_stereo table) rings
    → ((a : ℕ) → a < length m.atoms → is_ambiguous (read_wedges m rings.sizes drawing (begins m.bonds marks a) a) ≡ false) → (kd : Kind) (place : ℕ) → StandsAt table kd place → ⊥
accepted_by table rings m drawing marks e f g none are clear =
    nothing_stands table rings none are (λ a less. subst (λ (reads : ℕ → WedgeRead). is_ambiguous (reads a) ≡ false) (reads_are table rings.sizes m drawing marks e f g)
    (clear a (subst (λ (x : Molecule). a < length x.atoms) (sym e) less)))

pub ambiguous_by : (table : Table) (rings : RingList) (m : Molecule) (drawing : List Point) (marks : List DrawMark) (stop : Stop)
    → m ≡ without_stereo table → drawing ≡ drawing_of table → marks ≡ marks_of table → AreNone (limit_faults table) → AreRingsOf (without_stereo table) rings
    → IsAmbiguity (λ (a : ℕ). read_wedges m rings.sizes drawing (begins m.bonds marks a) a) (length m.atoms) stop → IsRefused table stop
ambiguous_by table rings m drawing marks stop e f g none are h =
    refused_as_ambiguous table rings stop none are
    (subst (λ (x : Molecule). IsAmbiguity (λ (a : ℕ). centre_read table rings.sizes a) (length x.atoms) stop) e
    (subst (λ (reads : ℕ → WedgeRead). IsAmbiguity (λ (a : ℕ). reads a) (length m.atoms) stop) (reads_are table rings.sizes m drawing marks e f g) h))

pub with_both : (table : Table) (sizes : List (Option ℕ)) (m0 m1 m2 : Molecule) (cs : List (Option (List Slot))) (xs : List (Option Sides)) → m0 ≡ without_stereo table → cs ≡ centres_of table sizes → xs ≡ sides_of_bonds table sizes
    → m1 ≡ record m0 { centres = cs } → m2 ≡ record m1 { sides = xs } → m2 ≡ record (without_stereo table) { centres = centres_of table sizes; sides = sides_of_bonds table sizes }
with_both table sizes m0 m1 m2 cs xs e f g h i =
    i ∙ (ap (λ (x : Molecule). record x { sides = xs }) h
    ∙ (ap (λ (x : Molecule). record x { centres = cs; sides = xs }) e
    ∙ (ap (λ (t : List (Option (List Slot))). record (without_stereo table) { centres = t; sides = xs }) f
    ∙ ap (λ (t : List (Option Sides)). record (without_stereo table) { centres = centres_of table sizes; sides = t }) g)))

-- ---- what is read

pub is_read : (table : Table) (ct : CtRead) (cs : List (Option (List Slot))) → ((kd : Kind) (place : ℕ) → StandsAt table kd place → ⊥) → AreRingsOf (without_stereo table) ct.rings
    → ct.mol ≡ record (without_stereo table) { centres = centres_of table ct.rings.sizes; sides = sides_of_bonds table ct.rings.sizes } → cs ≡ centres_of table ct.rings.sizes
    → ct.drawing ≡ drawing_of table → ct.wedges ≡ kept_wedges cs table.bonds → ct.idle ≡ idle_count cs table.bonds → ct.ring ≡ ring_count table ct.rings.sizes → IsReadOf table ct
is_read table ct cs accepted are mol same drawing wedges idle ring =
    let own : ct.mol.centres ≡ centres_of table ct.rings.sizes = ap (λ (x : Molecule). x.centres) mol in
    let held : cs ≡ ct.mol.centres = same ∙ sym own in
    record {
      stands = record { accepted = accepted; rings = ct.rings; are_rings = are; molecule = mol };
      rings = subst (λ (x : Molecule). AreRingsOf x ct.rings) (sym mol) (with_stereo (without_stereo table) ct.rings (centres_of table ct.rings.sizes) (sides_of_bonds table ct.rings.sizes) are);
      drawing = drawing;
      wedges = wedges ∙ ap (λ (t : List (Option (List Slot))). kept_wedges t table.bonds) held;
      idle = idle ∙ ap (λ (t : List (Option (List Slot))). idle_count t table.bonds) held;
      ring = ring;
    }

-- a molecule with stereo that its atoms and bonds may have is sound
pub is_sound : (table : Table) (m : Molecule) (rings : RingList) → AreNone (limit_faults table)
    → m ≡ record (without_stereo table) { centres = centres_of table rings.sizes; sides = sides_of_bonds table rings.sizes } → IsSound m rings
is_sound table m rings none e =
    let within = molecule_within table none in
    subst (λ (x : Molecule). IsSound x rings) (sym e) (record {
      within = record { atoms = within.atoms; rings = within.rings; valences = within.valences; hydrogens = within.hydrogens };
      centres = λ a places at. centre_may table rings.sizes a places at;
      sides = λ k sides at. side_may table rings.sizes k sides at;
    })

pub ring_count_is : (table : Table) (sizes : List (Option ℕ)) (m : Molecule) (marks : List DrawMark) (n : ℕ) → m ≡ without_stereo table → marks ≡ marks_of table
    → n ≡ count_below (is_ring_side m sizes marks) (length m.bonds) → n ≡ ring_count table sizes
ring_count_is table sizes m marks n e g is =
    is ∙ (ap (λ (x : Molecule). count_below (is_ring_side x sizes marks) (length x.bonds)) e
    ∙ ap (λ (x : List DrawMark). count_below (is_ring_side (without_stereo table) sizes x) (length (bonds_of table.bonds))) g)

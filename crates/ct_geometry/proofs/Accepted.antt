-- What holds of the atoms of a table in which no kind stands.
use Rattle.std.proofs.Common.{arith, ◌≡◌, ◌∙◌, ℕ, zero, suc, ◌+◌, ◌≤◌, ◌<◌, ◌&&◌, not, List, [], ◌∷◌, ◌++◌, length, map, Bool, true, false, Option, None, Some, refl, ap, sym, subst, inl, inr}
use Rattle.std.specs.Prelude.{All, slice_get, nat_lt, nat_abs, int_le, ℤ, pos, negsuc, ◌≤ℤ◌}
use Rattle.std.proofs.lemmas.Bool.Decides.{nat_tests}
use Rattle.std.proofs.lemmas.List.Elements.{All-cons, All-nil}
use Rattle.std.proofs.lemmas.Bool.{and_parts}
use Rattle.mc_base.specs.declared.kind.Kind.{Kind}
use Rattle.mc_base.specs.declared.kind.Kind.TheVariants.{LimitRings, LimitIsotope, LimitClass, LimitCharge, LimitCoordinate, LimitHydrogens, ValenceShort, LimitValence, HydrogenOnHydrogen}
use Rattle.mc_mol.specs.declared.drawing.Point.{Point}
use Rattle.mc_mol.specs.declared.parts.Bond.{Bond}
use Rattle.mc_mol.specs.declared.parts.Atom.{Atom}
use Rattle.mc_mol.specs.Limits.{IsAtomWithinLimits, IsWithinLimits, is_over, is_hydrogen_with_more}
use Rattle.mc_mol.specs.Molecule.{bond_sum}
use Rattle.mc_mol.specs.Parts.{independent_rings}
use Rattle.ct_sd.specs.declared.fault.Fault.{Fault}
use Rattle.ct_sd.specs.declared.table.Table.{Table}
use Rattle.ct_sd.specs.declared.table.TableAtom.{TableAtom}
use Rattle.ct_sd.specs.Faults.{IsAmong, StandsIn, AreNone, faults_at, first_of, shown_if}
use Rattle.ct_sd.proofs.First.{first_of_joined}
use Rattle.ct_geometry.specs.Bounds.{IsCoordinate, IsPlace, ArePlaces}
use Rattle.ct_geometry.specs.Tables.{atom_of, atoms_of, atoms_with, bonds_of, drawing_of, hydrogens_of, point_of, without_stereo}
use Rattle.ct_geometry.specs.TableFaults.{AreValuesWithin, falls_short, is_coordinate, value_shows, valence_shows, atom_shows, atom_faults, ring_faults, rings_of, limit_faults}

pub limits_joined : (table : Table) → first_of (first_of None (ring_faults (rings_of table))) (atom_faults (bonds_of table.bonds) 0 table.atoms) ≡ first_of None (limit_faults table)
limits_joined table = sym (first_of_joined None (ring_faults (rings_of table)) (atom_faults (bonds_of table.bonds) 0 table.atoms))

-- ---- none among lists

left_none : (xs ys : List Fault) → AreNone (xs ++ ys) → AreNone xs
left_none [] ys none kind place at = at
left_none (x ∷ xs) ys none kind place (inl here) = none kind place (inl here)
left_none (x ∷ xs) ys none kind place (inr there) = left_none xs ys (λ k p h. none k p (inr h)) kind place there

right_none : (xs ys : List Fault) → AreNone (xs ++ ys) → AreNone ys
right_none [] ys none = none
right_none (x ∷ xs) ys none = right_none xs ys (λ k p h. none k p (inr h))

-- the same of the kinds that are shown at one place
first_none : (k : ℕ) (xs ys : List Kind) → AreNone (faults_at k (xs ++ ys)) → AreNone (faults_at k xs)
first_none k [] ys none kind place at = at
first_none k (x ∷ xs) ys none kind place (inl here) = none kind place (inl here)
first_none k (x ∷ xs) ys none kind place (inr there) = first_none k xs ys (λ l p h. none l p (inr h)) kind place there

later_none : (k : ℕ) (xs ys : List Kind) → AreNone (faults_at k (xs ++ ys)) → AreNone (faults_at k ys)
later_none k [] ys none = none
later_none k (x ∷ xs) ys none = later_none k xs ys (λ l p h. none l p (inr h))

fails : (test : Bool) (kind : Kind) (k : ℕ) → AreNone (faults_at k (shown_if test kind)) → test ≡ false
fails true kind k none = absurd (none kind k (inl refl))
fails false kind k none = refl

low : (most n : ℕ) → nat_lt most n ≡ false → n ≤ most
low most n h = grind (arith, nat_tests)

placed : (x y : Bool) → not (x && y) ≡ false → (x ≡ true) × (y ≡ true)
placed true true e = (refl, refl)
placed true false e = absurd (cc)
placed false y e = absurd (cc)

coordinate : (z : ℤ) → is_coordinate z ≡ true → IsCoordinate z
coordinate z e = record { low = at_least (negsuc 99999998) z h.0; high = at_least z (pos 999999999) h.1 }
  where
    at_least : (a b : ℤ) → int_le a b ≡ true → a ≤ℤ b
    at_least a b e = grind (arith, nat_tests)

    h : (int_le (negsuc 99999998) z ≡ true) × (int_le z (pos 999999999) ≡ true)
    h = and_parts (int_le (negsuc 99999998) z) (int_le z (pos 999999999)) e

-- the values of one atom
record Fine (atom : TableAtom) : Type 0 where
  values : AreValuesWithin atom
  place : IsPlace (point_of atom)

fine_atom : (atom : TableAtom) (k : ℕ) (rest : List Kind) → AreNone (faults_at k (value_shows atom ++ rest)) → Fine atom
fine_atom atom k rest none =
    let isotope = shown_if (nat_lt 999 atom.isotope) LimitIsotope in
    let class = shown_if (nat_lt 999 atom.class) LimitClass in
    let charge = shown_if (nat_lt 15 (nat_abs atom.charge)) LimitCharge in
    let place = shown_if (not (is_coordinate atom.x && is_coordinate atom.y)) LimitCoordinate in
    let values : AreNone (faults_at k (isotope ++ (class ++ (charge ++ place)))) = first_none k (value_shows atom) rest none in
    let behind = later_none k isotope (class ++ (charge ++ place)) values in
    let last = later_none k class (charge ++ place) behind in
    let at = placed (is_coordinate atom.x) (is_coordinate atom.y) (fails (not (is_coordinate atom.x && is_coordinate atom.y)) LimitCoordinate k (later_none k charge place last)) in
    record {
      values = record {
        isotope = low 999 atom.isotope (fails (nat_lt 999 atom.isotope) LimitIsotope k (first_none k isotope (class ++ (charge ++ place)) values));
        class = low 999 atom.class (fails (nat_lt 999 atom.class) LimitClass k (first_none k class (charge ++ place) behind));
        charge = low 15 (nat_abs atom.charge) (fails (nat_lt 15 (nat_abs atom.charge)) LimitCharge k (first_none k charge place last));
      };
      place = record { x = coordinate atom.x at.0; y = coordinate atom.y at.1 };
    }

all_fine : (bonds : List Bond) (k : ℕ) (atoms : List TableAtom) → AreNone (atom_faults bonds k atoms) → All AreValuesWithin atoms × ArePlaces (map point_of atoms)
all_fine bonds k [] none = (All-nil AreValuesWithin, All-nil IsPlace)
all_fine bonds k (atom ∷ atoms) none =
    let here = left_none (faults_at (k + 1) (atom_shows atom (bond_sum bonds k))) (atom_faults bonds (k + 1) atoms) none in
    let there = right_none (faults_at (k + 1) (atom_shows atom (bond_sum bonds k))) (atom_faults bonds (k + 1) atoms) none in
    let fine = fine_atom atom (k + 1) (valence_shows atom (bond_sum bonds k)) here in
    let rest = all_fine bonds (k + 1) atoms there in
    (All-cons AreValuesWithin atom atoms fine.values rest.0, All-cons IsPlace (point_of atom) (map point_of atoms) fine.place rest.1)

-- ---- the atoms of the molecule

-- what is known of one of them by its bond sum
record Good (atom : TableAtom) (sum : ℕ) : Type 0 where
  within : IsAtomWithinLimits (atom_of atom sum)
  over : is_over (Some (atom_of atom sum)) sum ≡ false
  more : is_hydrogen_with_more (Some (atom_of atom sum)) ≡ false

good_atom : (atom : TableAtom) (sum k : ℕ) → AreNone (faults_at k (atom_shows atom sum)) → Good atom sum
good_atom atom sum k none =
    let fine = fine_atom atom k (valence_shows atom sum) none in
    let hydrogens = shown_if (nat_lt 9 (hydrogens_of atom sum)) LimitHydrogens in
    let short = shown_if (falls_short atom.valence sum) ValenceShort in
    let over = shown_if (is_over (Some (atom_of atom sum)) sum) LimitValence in
    let more = shown_if (is_hydrogen_with_more (Some (atom_of atom sum))) HydrogenOnHydrogen in
    let all : AreNone (faults_at k (hydrogens ++ (short ++ (over ++ more)))) = later_none k (value_shows atom) (valence_shows atom sum) none in
    let last = later_none k short (over ++ more) (later_none k hydrogens (short ++ (over ++ more)) all) in
    record {
      within = record {
        isotope = fine.values.isotope;
        class = fine.values.class;
        charge = fine.values.charge;
        hydrogens = low 9 (hydrogens_of atom sum) (fails (nat_lt 9 (hydrogens_of atom sum)) LimitHydrogens k (first_none k hydrogens (short ++ (over ++ more)) all));
      };
      over = fails (is_over (Some (atom_of atom sum)) sum) LimitValence k (first_none k over more last);
      more = fails (is_hydrogen_with_more (Some (atom_of atom sum))) HydrogenOnHydrogen k (later_none k over more last);
    }

-- the atom of a number from j on, where there is one, with its bond sum
record GoodAt (bonds : List Bond) (n : ℕ) (atom : Option Atom) : Type 0 where
  within : (a : Atom) → atom ≡ Some a → IsAtomWithinLimits a
  over : is_over atom (bond_sum bonds n) ≡ false
  more : is_hydrogen_with_more atom ≡ false

all_good : (bonds : List Bond) (j : ℕ) (atoms : List TableAtom) → AreNone (atom_faults bonds j atoms) → (k : ℕ) → GoodAt bonds (j + k) (slice_get (atoms_with bonds j atoms) k)
all_good bonds j [] none k = record { within = λ a e. cc; over = refl; more = refl }
all_good bonds j (atom ∷ atoms) none zero =
    let g = good_atom atom (bond_sum bonds j) (j + 1) (left_none (faults_at (j + 1) (atom_shows atom (bond_sum bonds j))) (atom_faults bonds (j + 1) atoms) none) in
    let e : j ≡ j + 0 = omega arith in
    subst (λ (n : ℕ). GoodAt bonds n (Some (atom_of atom (bond_sum bonds j)))) e (record { within = λ a is. same (atom_of atom (bond_sum bonds j)) a is g.within; over = g.over; more = g.more })
  where
    same : (x a : Atom) → Some x ≡ Some a → IsAtomWithinLimits x → IsAtomWithinLimits a
    same x a e w = subst IsAtomWithinLimits (is x a e) w
      where
        is : (x a : Atom) → Some x ≡ Some a → x ≡ a
        is x a e = cc
all_good bonds j (atom ∷ atoms) none (suc k) =
    let e : j + 1 + k ≡ j + suc k = omega arith in
    subst (λ (n : ℕ). GoodAt bonds n (slice_get (atoms_with bonds (j + 1) atoms) k)) e
    (all_good bonds (j + 1) atoms (right_none (faults_at (j + 1) (atom_shows atom (bond_sum bonds j))) (atom_faults bonds (j + 1) atoms) none) k)

pub length_with : (bonds : List Bond) (j : ℕ) (atoms : List TableAtom) → length (atoms_with bonds j atoms) ≡ length atoms
length_with bonds j [] = refl
length_with bonds j (atom ∷ atoms) = (let h = length_with bonds (j + 1) atoms in omega arith)

-- the molecule of a table in which no kind of these stands is within the limits
pub molecule_within : (table : Table) → AreNone (limit_faults table) → IsWithinLimits (without_stereo table)
molecule_within table none =
    let bonds = bonds_of table.bonds in
    let atoms = right_none (ring_faults (rings_of table)) (atom_faults bonds 0 table.atoms) none in
    let count = length_with bonds 0 table.atoms in
    let good : (k : ℕ) → GoodAt bonds k (slice_get (atoms_of table) k) = λ k. subst (λ (n : ℕ). GoodAt bonds n (slice_get (atoms_of table) k)) (let e : 0 + k ≡ k = omega arith in e) (all_good bonds 0 table.atoms atoms k) in
    let rings : rings_of table ≤ 99 = low 99 (rings_of table) (fails (nat_lt 99 (rings_of table)) LimitRings (rings_of table) (left_none (ring_faults (rings_of table)) (atom_faults bonds 0 table.atoms) none)) in
    record {
      atoms = λ k atom at. (good k).within atom at;
      rings = subst (λ (n : ℕ). independent_rings bonds n ≤ 99) (sym count) rings;
      valences = λ k. (good k).over;
      hydrogens = λ k. (good k).more;
    }

pub values_within : (table : Table) → AreNone (limit_faults table) → All AreValuesWithin table.atoms
values_within table none = (all_fine (bonds_of table.bonds) 0 table.atoms (right_none (ring_faults (rings_of table)) (atom_faults (bonds_of table.bonds) 0 table.atoms) none)).0

pub places_within : (table : Table) → AreNone (limit_faults table) → ArePlaces (drawing_of table)
places_within table none = (all_fine (bonds_of table.bonds) 0 table.atoms (right_none (ring_faults (rings_of table)) (atom_faults (bonds_of table.bonds) 0 table.atoms) none)).1

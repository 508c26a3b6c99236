-- Centres and sides of a table, one by one.
use Rattle.std.proofs.Common.{arith, ◌≡◌, ◌∙◌, ℕ, zero, suc, ◌+◌, ◌<◌, ◌≤◌, Bool, false, List, [], ◌∷◌, ◌++◌, length, Option, None, Some, slice_get, true, refl, sym, ap, subst, inl, inr}
use Rattle.std.specs.Prelude.{All, AllPairs, map, replicate, slice_index_or}
use Rattle.std.proofs.lemmas.List.{length-map, length-replicate}
use Rattle.std.proofs.lemmas.Bool.{cases_eq, cases_lt}
use Rattle.std.proofs.lemmas.List.Elements.{All-map}
use Rattle.std.proofs.lemmas.List.Kept.{AllPairs-cons}
use Rattle.mc_mol.specs.declared.parts.Sides.{Sides}
use Rattle.mc_mol.specs.declared.parts.Slot.{Slot}
use Rattle.mc_mol.specs.declared.parts.Bond.{Bond}
use Rattle.mc_mol.specs.Molecule.{Molecule, joins}
use Rattle.mc_mol.specs.WellFormed.{IsBond, IsMolecule, IsPlaceList, SidesFit}
use Rattle.mc_mol.proofs.Lists.{slice_get-append_left, slice_get-append_past}
use Rattle.mc_rings.specs.Centres.{may_be_centre}
use Rattle.mc_rings.specs.SidePlaces.{may_have_sides}
use Rattle.ct_sd.specs.declared.table.Table.{Table}
use Rattle.ct_sd.specs.declared.table.TableBond.{TableBond}
use Rattle.ct_geometry.specs.declared.wedge_read.WedgeRead.{WedgeRead}
use Rattle.ct_geometry.specs.declared.wedge_read.WedgeRead.TheVariants as read
use Rattle.ct_geometry.specs.CentresRead.{centre_given, is_ambiguous, up_to}
use Rattle.ct_geometry.specs.Stands.{centre_read, centres_of, sides_of_bonds}
use Rattle.ct_geometry.specs.TableSides.{drawn_sides}
use Rattle.ct_sd.specs.Tables.{IsTable, IsTableBond}
use Rattle.ct_geometry.specs.Tables.{atoms_of, bond_of, bonds_of, drawing_of, marks_of, without_stereo}
use Rattle.ct_geometry.specs.Wedges.{begins}
use Rattle.ct_geometry.proofs.Accepted.{length_with}
use Rattle.ct_geometry.proofs.PlaceLists.{read_places, read_may}
use Rattle.ct_geometry.proofs.SidesFits.{sides_fit, sides_may}

pub length_up_to : {A : Type 0} (f : ℕ → A) (n : ℕ) → length (up_to f n) ≡ n
length_up_to f zero = refl
length_up_to f (suc n) = (let h = length_up_to f n in let e = length_one (up_to f n) (f n) in omega arith)
  where
    length_one : {A : Type 0} (xs : List A) (y : A) → length (xs ++ y ∷ []) ≡ suc (length xs)
    length_one [] y = refl
    length_one (x ∷ xs) y = ap suc (length_one xs y)

-- one more
pub up_to_more : {A : Type 0} (f : ℕ → A) (n : ℕ) → up_to f n ++ f n ∷ [] ≡ up_to f (n + 1)
up_to_more {A = A} f n = ap (λ (m : ℕ). up_to f m) (let e : suc n ≡ n + 1 = omega arith in e)

pub clear_more : (test : ℕ → Bool) (n : ℕ) → ((a : ℕ) → a < n → test a ≡ false) → test n ≡ false → (a : ℕ) → a < n + 1 → test a ≡ false
clear_more test n before here a less = elim (cases_eq a n) [
  | inl same ↦ ap test same ∙ here
  | inr other ↦ before a (omega arith)
]

-- what stands at a place is what the function gives
get_up_to : {A : Type 0} (f : ℕ → A) (n k : ℕ) (x : A) → slice_get (up_to f n) k ≡ Some x → f k ≡ x
get_up_to f zero k x at = cc
get_up_to f (suc n) k x at = elim (cases_lt k (length (up_to f n))) [
  | inl less ↦ get_up_to f n k x (sym (slice_get-append_left (up_to f n) (f n ∷ []) k less) ∙ at)
  | inr more ↦
      let found = slice_get-append_past (up_to f n) (f n) x k more at in
      let count = length_up_to f n in
      let number : k ≡ n = found.0 ∙ count in
      ap f number ∙ sym found.1
]

read_as : (given : WedgeRead) (places : List Slot) → centre_given given ≡ Some places → given ≡ read.Centre places
read_as read.None places e = cc
read_as read.Ambiguous places e = cc
read_as (read.Centre list) places e = ap read.Centre (same list places e)
  where
    same : (p q : List Slot) → Some p ≡ Some q → p ≡ q
    same p q e = cc

centre_at : (table : Table) (sizes : List (Option ℕ)) (a : ℕ) (places : List Slot) → slice_get (centres_of table sizes) a ≡ Some (Some places) → centre_read table sizes a ≡ read.Centre places
centre_at table sizes a places at = read_as (centre_read table sizes a) places (get_up_to (λ (b : ℕ). centre_given (centre_read table sizes b)) (length (atoms_of table)) a (Some places) at)

pub centre_lists : (table : Table) (sizes : List (Option ℕ)) (a : ℕ) (places : List Slot) → IsMolecule (without_stereo table) → slice_get (centres_of table sizes) a ≡ Some (Some places)
    → IsPlaceList (bonds_of table.bonds) a places
centre_lists table sizes a places is at =
    read_places (without_stereo table) sizes (drawing_of table) (begins (bonds_of table.bonds) (marks_of table) a) a places is (centre_at table sizes a places at)

pub centre_may : (table : Table) (sizes : List (Option ℕ)) (a : ℕ) (places : List Slot) → slice_get (centres_of table sizes) a ≡ Some (Some places) → may_be_centre (without_stereo table) sizes a ≡ true
centre_may table sizes a places at =
    read_may (without_stereo table) sizes (drawing_of table) (begins (bonds_of table.bonds) (marks_of table) a) a places (centre_at table sizes a places at)

sides_at : (table : Table) (sizes : List (Option ℕ)) (k : ℕ) (sides : Sides) → slice_get (sides_of_bonds table sizes) k ≡ Some (Some sides)
    → drawn_sides (without_stereo table) sizes (drawing_of table) (marks_of table) k ≡ Some sides
sides_at table sizes k sides at = get_up_to (λ (j : ℕ). drawn_sides (without_stereo table) sizes (drawing_of table) (marks_of table) j) (length (bonds_of table.bonds)) k (Some sides) at

pub side_fits : (table : Table) (sizes : List (Option ℕ)) (k : ℕ) (sides : Sides) → IsMolecule (without_stereo table) → slice_get (sides_of_bonds table sizes) k ≡ Some (Some sides)
    → SidesFit (bonds_of table.bonds) k sides
side_fits table sizes k sides is at = sides_fit (without_stereo table) sizes (drawing_of table) (marks_of table) k sides is (sides_at table sizes k sides at)

pub side_may : (table : Table) (sizes : List (Option ℕ)) (k : ℕ) (sides : Sides) → slice_get (sides_of_bonds table sizes) k ≡ Some (Some sides) → may_have_sides (without_stereo table) sizes k ≡ true
side_may table sizes k sides at = sides_may (without_stereo table) sizes (drawing_of table) (marks_of table) k sides (sides_at table sizes k sides at)

-- ---- the same of lists and molecules that are equal to these

abbrev nothing : (A : Type 0) → Option A
nothing A = None

nothing_there : (A : Type 0) (n k : ℕ) (x : A) → slice_get (replicate n (nothing A)) k ≡ Some (Some x) → ⊥
nothing_there A zero k x at = cc
nothing_there A (suc n) zero x at = cc
nothing_there A (suc n) (suc k) x at = nothing_there A n k x at

bond_is : (n : ℕ) (bond : TableBond) → IsTableBond n bond → IsBond n (bond_of bond)
bond_is n bond is = record {
  first = is.first;
  second = is.second;
  different = is.different;
  order_low = is.order_low;
  order_high = let high = is.order_high in omega arith;
}

pairs_map : {A B : Type 0} (R : B → B → Type 0) (f : A → B) (xs : List A) → AllPairs (λ (x y : A). R (f x) (f y)) xs → AllPairs R (map f xs)
pairs_map R f [] pairs = λ i j d less low. absurd (omega arith)
pairs_map R f (x ∷ xs) pairs =
    AllPairs-cons R (f x) (map f xs) (All-map (R (f x)) f xs (λ k d low. pairs 0 (suc k) d (omega arith) (omega arith)))
    (pairs_map R f xs (λ i j d less low. pairs (suc i) (suc j) d (omega arith) (omega arith)))

pub table_bonds : (table : Table) → IsTable table → All (IsBond (length table.atoms)) (bonds_of table.bonds)
table_bonds table is =
    All-map (IsBond (length table.atoms)) bond_of table.bonds (λ k d low. bond_is (length table.atoms) (slice_index_or table.bonds k d) (is.bonds k d low))

pub table_once : (table : Table) → IsTable table → AllPairs (λ (b c : Bond). joins b c.first.0 c.second.0 ≡ false) (bonds_of table.bonds)
table_once table is = pairs_map (λ (b c : Bond). joins b c.first.0 c.second.0 ≡ false) bond_of table.bonds is.once

-- the same of its bonds and the number of its atoms, however they were come by
pub bonds_there : (table : Table) (n : ℕ) (bonds : List Bond) → IsTable table → n ≡ length table.atoms → bonds ≡ bonds_of table.bonds → All (IsBond n) bonds
bonds_there table n bonds is count same =
    subst (λ (bs : List Bond). All (IsBond n) bs) (sym same) (subst (λ (m : ℕ). All (IsBond m) (bonds_of table.bonds)) (sym count) (table_bonds table is))

pub bonds_once : (table : Table) (bonds : List Bond) → IsTable table → bonds ≡ bonds_of table.bonds → AllPairs (λ (b c : Bond). joins b c.first.0 c.second.0 ≡ false) bonds
bonds_once table bonds is same = subst (λ (bs : List Bond). AllPairs (λ (b c : Bond). joins b c.first.0 c.second.0 ≡ false) bs) (sym same) (table_once table is)

-- the atoms and bonds of a table are a molecule
pub is_molecule : (table : Table) → IsTable table → IsMolecule (without_stereo table)
is_molecule table is =
    let count = length_with (bonds_of table.bonds) 0 table.atoms in
    let bonds = length-map table.bonds bond_of in
    let few_atoms = is.few_atoms in
    let few_bonds = is.few_bonds in
    record {
      few_atoms = omega arith;
      few_bonds = omega arith;
      centre_count = length-replicate (length (atoms_of table)) None;
      side_count = length-replicate (length (bonds_of table.bonds)) None;
      bonds = subst (λ (n : ℕ). All (IsBond n) (bonds_of table.bonds)) (sym count) (table_bonds table is);
      once = table_once table is;
      centres = λ a places at. absurd (nothing_there (List Slot) (length (atoms_of table)) a places at);
      sides = λ k bond sides at_bond at. absurd (nothing_there Sides (length (bonds_of table.bonds)) k sides at);
    }

pub centres_count : (table : Table) (sizes : List (Option ℕ)) (m : Molecule) (cs : List (Option (List Slot))) → m ≡ without_stereo table → cs ≡ centres_of table sizes → length cs ≡ length m.atoms
centres_count table sizes m cs e f = ap length f ∙ (length_up_to (λ (a : ℕ). centre_given (centre_read table sizes a)) (length (atoms_of table)) ∙ sym (ap (λ (x : Molecule). length x.atoms) e))

pub centres_fit : (table : Table) (sizes : List (Option ℕ)) (m : Molecule) (cs : List (Option (List Slot))) → IsTable table → m ≡ without_stereo table → cs ≡ centres_of table sizes
    → (a : ℕ) (places : List Slot) → slice_get cs a ≡ Some (Some places) → IsPlaceList m.bonds a places
centres_fit table sizes m cs is e f a places at =
    subst (λ (x : Molecule). IsPlaceList x.bonds a places) (sym e) (centre_lists table sizes a places (is_molecule table is) (ap (λ (x : List (Option (List Slot))). slice_get x a) (sym f) ∙ at))

pub sides_count : (table : Table) (sizes : List (Option ℕ)) (m : Molecule) (cs : List (Option (List Slot))) (xs : List (Option Sides)) → m ≡ record (without_stereo table) { centres = cs } → xs ≡ sides_of_bonds table sizes
    → length xs ≡ length m.bonds
sides_count table sizes m cs xs e f = ap length f ∙ (length_up_to (λ (k : ℕ). drawn_sides (without_stereo table) sizes (drawing_of table) (marks_of table) k) (length (bonds_of table.bonds)) ∙ sym (ap (λ (x : Molecule). length x.bonds) e))

pub sides_fit_in : (table : Table) (sizes : List (Option ℕ)) (m : Molecule) (cs : List (Option (List Slot))) (xs : List (Option Sides)) → IsTable table → m ≡ record (without_stereo table) { centres = cs } → xs ≡ sides_of_bonds table sizes
    → (k : ℕ) (sides : Sides) → slice_get xs k ≡ Some (Some sides) → SidesFit m.bonds k sides
sides_fit_in table sizes m cs xs is e f k sides at =
    subst (λ (x : Molecule). SidesFit x.bonds k sides) (sym e) (side_fits table sizes k sides (is_molecule table is) (ap (λ (x : List (Option Sides)). slice_get x k) (sym f) ∙ at))

pub centres_few : (table : Table) (sizes : List (Option ℕ)) (cs : List (Option (List Slot))) → IsTable table → cs ≡ centres_of table sizes → length cs ≤ 999
centres_few table sizes cs is f =
    let all = ap length f ∙ length_up_to (λ (a : ℕ). centre_given (centre_read table sizes a)) (length (atoms_of table)) in
    let count = length_with (bonds_of table.bonds) 0 table.atoms in
    let few = is.few_atoms in
    omega arith

pub sides_few : (table : Table) (sizes : List (Option ℕ)) (xs : List (Option Sides)) → IsTable table → xs ≡ sides_of_bonds table sizes → length xs ≤ 999
sides_few table sizes xs is f =
    let all = ap length f ∙ length_up_to (λ (k : ℕ). drawn_sides (without_stereo table) sizes (drawing_of table) (marks_of table) k) (length (bonds_of table.bonds)) in
    let count = length-map table.bonds bond_of in
    let few = is.few_bonds in
    omega arith

-- one more atom whose wedges are read
pub centres_pushed : (f : ℕ → WedgeRead) (found new : List (Option (List Slot))) (a : ℕ) (given : WedgeRead) (x : Option (List Slot)) → new ≡ found ++ x ∷ [] → found ≡ up_to (λ (b : ℕ). centre_given (f b)) a → x ≡ centre_given given → given ≡ f a
    → new ≡ up_to (λ (b : ℕ). centre_given (f b)) (a + 1)
centres_pushed f found new a given x is before made read =
    is ∙ (ap (λ (t : List (Option (List Slot))). t ++ x ∷ []) before
    ∙ (ap (λ (y : Option (List Slot)). up_to (λ (b : ℕ). centre_given (f b)) a ++ y ∷ []) (made ∙ ap centre_given read) ∙ up_to_more (λ (b : ℕ). centre_given (f b)) a))

pub length_pushed : {A : Type 0} (found new : List A) (a : ℕ) (x : A) → new ≡ found ++ x ∷ [] → length found ≡ a → length new ≡ a + 1
length_pushed found new a x is count = (let e = ap length is ∙ length_one found x in omega arith)
  where
    length_one : {A : Type 0} (xs : List A) (y : A) → length (xs ++ y ∷ []) ≡ suc (length xs)
    length_one [] y = refl
    length_one (x ∷ xs) y = ap suc (length_one xs y)

pub still_clear : (f : ℕ → WedgeRead) (a : ℕ) (given : WedgeRead) → ((b : ℕ) → b < a → is_ambiguous (f b) ≡ false) → given ≡ f a → is_ambiguous given ≡ false → (b : ℕ) → b < a + 1 → is_ambiguous (f b) ≡ false
still_clear f a given before read clear b less = clear_more (λ (c : ℕ). is_ambiguous (f c)) a before (sym (ap is_ambiguous read) ∙ clear) b less

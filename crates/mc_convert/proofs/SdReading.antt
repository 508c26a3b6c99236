-- The first kind that stands in a record of an SD file.
use Rattle.std.proofs.Common.{arith, ◌≡◌, ◌∙◌, ℕ, List, [], Bool, true, false, refl, ap, sym, subst, inl, inr}
use Rattle.std.specs.Prelude.{◌||◌, Option, Result, Ok, Err, IfOk, IfErr}
use Rattle.std.proofs.lemmas.Bool.{false≢true}
use Rattle.mc_base.specs.declared.kind.Kind.{Kind}
use Rattle.mc_base.specs.declared.kind.Kind.TheVariants.{AmbiguousCentre, NotBuilt}
use Rattle.mc_base.specs.declared.refusal.Refusal.{Refusal}
use Rattle.mc_base.specs.declared.refusal.Stop.{Stop}
use Rattle.mc_base.specs.declared.refusal.Stop.TheVariants.{Refused, NoMemory}
use Rattle.mc_base.specs.Kinds.{number}
use Rattle.mc_mol.specs.Molecule.{Molecule}
use Rattle.ct_sd.specs.declared.fault.Fault.{Fault}
use Rattle.ct_sd.specs.declared.head.Version.{Version}
use Rattle.ct_sd.specs.declared.head.Version.TheVariants.{V2000, V3000, Other}
use Rattle.ct_sd.specs.declared.table.Table.{Table}
use Rattle.ct_sd.specs.declared.table.TableAtom.{TableAtom}
use Rattle.ct_sd.specs.declared.table.TableBond.{TableBond}
use Rattle.ct_sd.specs.Faults.{AreNone, StandsIn, IsRefused as AreRefused}
use Rattle.ct_sd.specs.Heads.{version_of}
use Rattle.ct_v2000.specs.Table.{IsTableOf as IsV2000, record_faults as v2000_faults, table_atoms as v2000_atoms, table_bonds as v2000_bonds}
use Rattle.ct_v3000.specs.Table.{IsTableOf as IsV3000, record_faults as v3000_faults}
use Rattle.ct_geometry.specs.declared.ct_read.CtRead.{CtRead}
use Rattle.ct_geometry.specs.CentresRead.{is_ambiguous}
use Rattle.ct_geometry.specs.Stands.{CtStands, IsReadOf, IsRefused as IsTableRefused, StandsAt as StandsInTable, centres_of, sides_of_bonds}
use Rattle.ct_geometry.specs.TableFaults.{limit_faults}
use Rattle.ct_geometry.specs.Tables.{without_stereo}
use Rattle.ct_geometry.proofs.Sizes.{sizes_same}
use Rattle.ct_geometry.proofs.Standing.{limit_stands, limits_early}
use Rattle.mc_convert.specs.SdRecords.{IsNotBuilt, IsSdRefused, IsSdTable, SaysStereo, SdStands, atoms_by, bonds_by, faults_by, has_drawn, has_open_side, record_faults, says_stereo}
use Rattle.mc_convert.proofs.DrawnStereo.{centre_none, says_of}

abbrev not_built : Refusal
not_built = record { kind = NotBuilt; place = 1; barrier = []; odd = 0 }

-- ---- the lines

-- any version but V3000 is read as V2000

faults_of : (v : Version) (lines : List (List ℕ)) → (v ≡ V3000 → ⊥) → faults_by v lines ≡ v2000_faults lines
faults_of V2000 lines other = refl
faults_of V3000 lines other = absurd (other refl)
faults_of Other lines other = refl

atoms_of : (v : Version) (lines : List (List ℕ)) → (v ≡ V3000 → ⊥) → atoms_by v lines ≡ v2000_atoms lines
atoms_of V2000 lines other = refl
atoms_of V3000 lines other = absurd (other refl)
atoms_of Other lines other = refl

bonds_of : (v : Version) (lines : List (List ℕ)) → (v ≡ V3000 → ⊥) → bonds_by v lines ≡ v2000_bonds lines
bonds_of V2000 lines other = refl
bonds_of V3000 lines other = absurd (other refl)
bonds_of Other lines other = refl

pub read_by : (lines : List (List ℕ)) (read : Result Table Stop) → (version_of lines ≡ V3000 → ⊥) → IfOk read (IsV2000 lines) → IfOk read (IsSdTable lines)
read_by lines (Ok table) other is = record {
  accepted = subst AreNone (sym (faults_of (version_of lines) lines other)) is.accepted;
  atoms = is.atoms ∙ sym (atoms_of (version_of lines) lines other);
  bonds = is.bonds ∙ sym (bonds_of (version_of lines) lines other);
  name = is.name;
}
read_by lines (Err stop) other is = tt

pub refused_by : (lines : List (List ℕ)) (read : Result Table Stop) → (version_of lines ≡ V3000 → ⊥) → IfErr read (AreRefused (v2000_faults lines)) → IfErr read (AreRefused (record_faults lines))
refused_by lines (Ok table) other is = tt
refused_by lines (Err stop) other is = subst (λ (faults : List Fault). AreRefused faults stop) (sym (faults_of (version_of lines) lines other)) is

pub read_as_v3000 : (lines : List (List ℕ)) (read : Result Table Stop) → version_of lines ≡ V3000 → IfOk read (IsV3000 lines) → IfOk read (IsSdTable lines)
read_as_v3000 lines (Ok table) version is = record {
  accepted = subst (λ (v : Version). AreNone (faults_by v lines)) (sym version) is.accepted;
  atoms = is.atoms ∙ ap (λ (v : Version). atoms_by v lines) (sym version);
  bonds = is.bonds ∙ ap (λ (v : Version). bonds_by v lines) (sym version);
  name = is.name;
}
read_as_v3000 lines (Err stop) version is = tt

pub refused_as_v3000 : (lines : List (List ℕ)) (read : Result Table Stop) → version_of lines ≡ V3000 → IfErr read (AreRefused (v3000_faults lines)) → IfErr read (AreRefused (record_faults lines))
refused_as_v3000 lines (Ok table) version is = tt
refused_as_v3000 lines (Err stop) version is = subst (λ (v : Version). AreRefused (faults_by v lines) stop) (sym version) is

-- lines give one table
pub one_table : (lines : List (List ℕ)) (table other : Table) → IsSdTable lines table → IsSdTable lines other → table ≡ other
one_table lines table other is given =
    ap (λ (atoms : List TableAtom). record { atoms = atoms; bonds = table.bonds; name = table.name }) (is.atoms ∙ sym given.atoms)
    ∙ (ap (λ (bonds : List TableBond). record { atoms = other.atoms; bonds = bonds; name = table.name }) (is.bonds ∙ sym given.bonds)
    ∙ ap (λ (name : List ℕ). record { atoms = other.atoms; bonds = other.bonds; name = name }) (is.name ∙ sym given.name))

-- no kind stands in the table of lines that aren't read today
none_within : (lines : List (List ℕ)) (table : Table) → IsNotBuilt lines → IsSdTable lines table → AreNone (limit_faults table)
none_within lines table (other, is, none, says) given = subst (λ (t : Table). AreNone (limit_faults t)) (one_table lines other table is given) none

-- where a kind stands in a line there is no table
pub lines_refused : (lines : List (List ℕ)) (stop : Stop) → AreRefused (record_faults lines) stop → IsSdRefused lines stop
lines_refused lines NoMemory is = tt
lines_refused lines (Refused refusal) is = record {
  stands = inl is.stands;
  least = λ place stands. elim stands [
    | inl here ↦ is.least place here
    | inr (inl other) ↦ absurd (other.1.accepted refusal.kind refusal.place is.stands)
    | inr (inr later) ↦ absurd (later.2.1.accepted refusal.kind refusal.place is.stands)
  ];
  first = λ kind place less stands. elim stands [
    | inl here ↦ is.first kind place less here
    | inr (inl other) ↦ other.1.accepted refusal.kind refusal.place is.stands
    | inr (inr later) ↦ later.2.1.accepted refusal.kind refusal.place is.stands
  ];
  reason = is.reason;
}

-- what isn't read today
pub refused_as_not_built : (lines : List (List ℕ)) → IsNotBuilt lines → IsSdRefused lines (Refused not_built)
refused_as_not_built lines is = record {
  stands = inr (inr (refl, refl, is));
  least = λ place stands. elim stands [
    | inl here ↦ absurd (is.1.accepted NotBuilt place here)
    | inr (inl other) ↦ absurd (none_within lines other.0 is other.1 NotBuilt place other.2)
    | inr (inr later) ↦ (let e = later.1 in omega arith)
  ];
  first = λ kind place less stands. omega arith;
  reason = (refl, refl);
}

-- ---- a table

by_limits : (table : Table) (kind : Kind) (place : ℕ) → (kind ≡ AmbiguousCentre → ⊥) → StandsInTable table kind place → StandsIn (limit_faults table) kind place
by_limits table AmbiguousCentre place other stands = absurd (other refl)
by_limits table _ place other stands = stands

pub table_refused : (lines : List (List ℕ)) (table : Table) (refusal : Refusal) → IsSdTable lines table → IsTableRefused table (Refused refusal) → (refusal.kind ≡ AmbiguousCentre → ⊥)
    → IsSdRefused lines (Refused refusal)
table_refused lines table refusal given is other_kind = record {
  stands = inr (inl (table, given, is.stands));
  least = λ place stands. elim stands [
    | inl here ↦ absurd (given.accepted refusal.kind place here)
    | inr (inl other) ↦ is.least place (subst (λ (t : Table). StandsInTable t refusal.kind place) (one_table lines other.0 table other.1 given) other.2)
    | inr (inr later) ↦ absurd (none_within lines table later.2 given refusal.kind refusal.place limit)
  ];
  first = λ kind place less stands. elim stands [
    | inl here ↦ given.accepted kind place here
    | inr (inl other) ↦ is.first kind place less (subst (λ (t : Table). StandsInTable t kind place) (one_table lines other.0 table other.1 given) other.2)
    | inr (inr later) ↦ none_within lines table later.2 given refusal.kind refusal.place limit
  ];
  reason = is.reason;
}
  where
    limit : StandsIn (limit_faults table) refusal.kind refusal.place
    limit = by_limits table refusal.kind refusal.place other_kind is.stands

-- a table whose drawing says stereo
pub stereo_refused : (lines : List (List ℕ)) (table : Table) (ct : CtRead) → IsSdTable lines table → IsReadOf table ct → says_stereo ct.mol ct.rings.sizes table.bonds ≡ true
    → IsSdRefused lines (Refused not_built)
stereo_refused lines table ct given is says =
    refused_as_not_built lines (table, given, (λ kind place stands. is.stands.accepted kind place (limit_stands table kind place stands)), says_of table ct is says)

-- an ambiguous centre is drawn
drawn : (table : Table) (place : ℕ) → StandsInTable table AmbiguousCentre place → SaysStereo table
drawn table place (a, at, is) = record { rings = is.rings; are_rings = is.are_rings; says = by_test (has_drawn table.bonds) refl }
  where
    by_test : (t : Bool) → has_drawn table.bonds ≡ t → says_stereo (without_stereo table) is.rings.sizes table.bonds ≡ true
    by_test true e = ap (λ (t : Bool). t || has_open_side (without_stereo table) is.rings.sizes 0 table.bonds) e
    by_test false e = absurd (false≢true (sym (ap is_ambiguous (centre_none table is.rings.sizes a e)) ∙ is.ambiguous))

pub ambiguous_refused : (lines : List (List ℕ)) (table : Table) (refusal : Refusal) → IsSdTable lines table → IsTableRefused table (Refused refusal) → refusal.kind ≡ AmbiguousCentre
    → IsSdRefused lines (Refused not_built)
ambiguous_refused lines table refusal given is at =
    refused_as_not_built lines (table, given, none, drawn table refusal.place (subst (λ (k : Kind). StandsInTable table k refusal.place) at is.stands))
  where
    none : AreNone (limit_faults table)
    none kind place stands =
        let early = limits_early table kind place stands in
        let e = ap number at in
        is.first kind place (omega arith) (limit_stands table kind place stands)

-- ---- molecules

-- a table stands for one molecule
stands_once : (table : Table) (m n : Molecule) → CtStands table m → CtStands table n → m ≡ n
stands_once table m n is also =
    let sizes = sizes_same (without_stereo table) is.rings also.rings is.are_rings also.are_rings in
    is.molecule ∙ (ap (λ (s : List (Option ℕ)). record (without_stereo table) { centres = centres_of table s; sides = sides_of_bonds table s }) sizes ∙ sym also.molecule)

-- and so does a record
pub table_once : (lines : List (List ℕ)) (m n : Molecule) → SdStands lines m → SdStands lines n → m ≡ n
table_once lines m n is also =
    stands_once is.table m n is.stands (subst (λ (t : Table). CtStands t n) (one_table lines also.table is.table also.given is.given) also.stands)

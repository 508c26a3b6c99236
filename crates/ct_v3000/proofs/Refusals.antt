-- How a record is read, from its header on: the first fault, and the table.
use Rattle.std.proofs.Common.{◌≡◌, ◌∙◌, ℕ, List, [], ◌∷◌, ◌++◌, length, Bool, true, false, if◌then◌else◌, Option, Some, None, ap, sym}
use Rattle.mc_base.specs.declared.kind.Kind.TheVariants.{ShortRecord, ReactionFile, LimitAtoms, LimitBonds}
use Rattle.ct_sd.specs.declared.fault.Fault.{Fault}
use Rattle.ct_sd.specs.declared.fault.FirstFault.{FirstFault}
use Rattle.ct_sd.specs.declared.table.TableAtom.{TableAtom}
use Rattle.ct_sd.specs.declared.table.TableBond.{TableBond}
use Rattle.ct_sd.specs.Faults.{first_of, faults_at, shown_if}
use Rattle.ct_sd.specs.Heads.{line, name_shows, is_other_file}
use Rattle.ct_sd.proofs.First.{first_of_joined, four_lists}
use Rattle.ct_v3000.specs.declared.reading.Reading.{Reading}
use Rattle.ct_v3000.specs.Joined.{joined_from, end_place}
use Rattle.ct_v3000.specs.Blocks.{Item, items, start}
use Rattle.ct_v3000.specs.Table.{record_faults, is_short, item_faults, all_items, limit_faults, table_atoms, table_bonds}
use Rattle.ct_v3000.specs.Steps.{IsEndAt, after_items, to_come, nothing_read, lines_between}
use Rattle.ct_v3000.proofs.ItemSteps.{atoms_law, bonds_law, faults_law}

abbrev faults_by : List (List ℕ) → Bool → List Fault
faults_by lines short =
    if short then faults_at (length lines) (ShortRecord ∷ [])
    else faults_at 1 (name_shows lines)
    ++ (item_faults [] [] (all_items lines)
    ++ (limit_faults (length (table_atoms lines)) LimitAtoms ++ limit_faults (length (table_bonds lines)) LimitBonds))

-- a record that is too short shows nothing else
pub short_first : (lines : List (List ℕ)) → is_short lines ≡ true → first_of None (record_faults lines) ≡ first_of None (faults_at (length lines) (ShortRecord ∷ []))
short_first lines is = ap (λ (t : Bool). first_of None (faults_by lines t)) is

-- the lines of a record are those up to its end
items_are : (lines : List (List ℕ)) (end : ℕ) → IsEndAt lines end → to_come lines end 4 (Some start) ≡ all_items lines
items_are lines end at =
    ap (λ (m : ℕ). items m (Some start) (joined_from None 5 (lines_between 4 end lines))) (sym at.place)
    ∙ ap (λ (t : List (List ℕ)). items (end_place lines) (Some start) (joined_from None 5 t)) (sym at.body)

-- a record whose lines are read, behind its name
pub record IsRead (lines : List (List ℕ)) (r : Reading) : Type 0 where
  pub atoms : r.atoms ≡ table_atoms lines
  pub bonds : r.bonds ≡ table_bonds lines
  pub fault : r.faults.fault ≡ first_of (first_of None (faults_at 1 (name_shows lines))) (item_faults [] [] (all_items lines))

read_from : (lines : List (List ℕ)) (f : FirstFault) (r : Reading) → f.fault ≡ first_of None (faults_at 1 (name_shows lines))
    → r ≡ after_items (all_items lines) (record nothing_read { faults = f }) → IsRead lines r
read_from lines f r noted is = record {
  atoms = ap (λ (x : Reading). x.atoms) is ∙ atoms_law (all_items lines) (record nothing_read { faults = f });
  bonds = ap (λ (x : Reading). x.bonds) is ∙ bonds_law (all_items lines) (record nothing_read { faults = f });
  fault = ap (λ (x : Reading). x.faults.fault) is ∙ (faults_law (all_items lines) (record nothing_read { faults = f }) ∙ ap (λ (x : Option Fault). first_of x (item_faults [] [] (all_items lines))) noted);
}

pub all_read : (lines : List (List ℕ)) (end : ℕ) (nothing : Reading) (name : List ℕ) (other : Bool) (f : FirstFault) (r : Reading) → IsEndAt lines end
    → nothing ≡ nothing_read → name ≡ line 1 lines → other ≡ is_other_file name
    → f.fault ≡ first_of nothing.faults.fault (faults_at 1 (shown_if other ReactionFile))
    → r ≡ after_items (to_come lines end 4 (Some start)) (record nothing { faults = f }) → IsRead lines r
all_read lines end nothing name other f r at n l o noted is =
    read_from lines f r
    (noted ∙ (ap (λ (x : Reading). first_of x.faults.fault (faults_at 1 (shown_if other ReactionFile))) n
    ∙ ap (λ (b : Bool). first_of None (faults_at 1 (shown_if b ReactionFile))) (o ∙ ap is_other_file l)))
    (is ∙ (ap (λ (x : Reading). after_items (to_come lines end 4 (Some start)) (record x { faults = f })) n
    ∙ ap (λ (t : List Item). after_items t (record nothing_read { faults = f })) (items_are lines end at)))

-- behind the lines, the limits
pub all_first : (lines : List (List ℕ)) (r : Reading) → is_short lines ≡ false → IsRead lines r
    → first_of None (record_faults lines) ≡ first_of (first_of r.faults.fault (limit_faults (length r.atoms) LimitAtoms)) (limit_faults (length r.bonds) LimitBonds)
all_first lines r long is =
    ap (λ (t : Bool). first_of None (faults_by lines t)) long
    ∙ (four_lists None (faults_at 1 (name_shows lines)) (item_faults [] [] (all_items lines)) (limit_faults (length (table_atoms lines)) LimitAtoms) (limit_faults (length (table_bonds lines)) LimitBonds)
    ∙ sym (ap (λ (f : Option Fault). first_of (first_of f (limit_faults (length r.atoms) LimitAtoms)) (limit_faults (length r.bonds) LimitBonds)) is.fault
    ∙ (ap (λ (t : List TableAtom). first_of (first_of before (limit_faults (length t) LimitAtoms)) (limit_faults (length r.bonds) LimitBonds)) is.atoms
    ∙ ap (λ (t : List TableBond). first_of (first_of before (limit_faults (length (table_atoms lines)) LimitAtoms)) (limit_faults (length t) LimitBonds)) is.bonds)))
  where
    before : Option Fault
    before = first_of (first_of None (faults_at 1 (name_shows lines))) (item_faults [] [] (all_items lines))

-- What is read behind one more joined line, and what all of them give.
use Rattle.std.proofs.Common.{◌≡◌, ◌∙◌, ℕ, ◌+◌, ◌≤◌, List, [], ◌∷◌, ◌++◌, Bool, if◌then◌else◌, Option, Some, None, refl, ap, sym, append_assoc}
use Rattle.std.proofs.lemmas.List.{append-nil}
use Rattle.mc_base.specs.declared.kind.Kind.TheVariants.{AtomNumber}
use Rattle.ct_sd.specs.declared.fault.Fault.{Fault}
use Rattle.ct_sd.specs.declared.fault.FirstFault.{FirstFault}
use Rattle.ct_sd.specs.declared.table.TableAtom.{TableAtom}
use Rattle.ct_sd.specs.declared.table.TableBond.{TableBond}
use Rattle.ct_sd.specs.Bonds.{Pair}
use Rattle.ct_sd.specs.Faults.{first_of, faults_at, shown_if}
use Rattle.ct_sd.proofs.First.{first_of_joined, first_of_two}
use Rattle.ct_v3000.specs.declared.reading.Reading.{Reading}
use Rattle.ct_v3000.specs.declared.stage.Place.{Place}
use Rattle.ct_v3000.specs.declared.stage.Role.{Role}
use Rattle.ct_v3000.specs.declared.stage.Role.TheVariants as is
use Rattle.ct_v3000.specs.Joined.{Joined, joined_from}
use Rattle.ct_v3000.specs.Blocks.{Item, items, passed_text, no_item, may_end}
use Rattle.ct_v3000.specs.AtomLines.{atom_line_shows, number_in, atom_of}
use Rattle.ct_v3000.specs.Table.{item_shows, is_given, with_index, indices_behind, pairs_behind, atoms_by, bonds_by, item_atoms, item_bonds, item_faults}
use Rattle.ct_v3000.specs.Steps.{after, after_item, after_items, noted, to_come, lines_between}
use Rattle.ct_v3000.proofs.JoinSteps.{between_none}

-- ---- a line

-- an atom's line and its index
pub atom_noted : (k index : ℕ) (words : List (List ℕ)) (r : Reading) (given : Bool) (f1 f2 : FirstFault) → index ≡ number_in 0 words → given ≡ is_given index r.indices
    → f1.fault ≡ first_of r.faults.fault (faults_at k (atom_line_shows words))
    → f2.fault ≡ first_of f1.fault (faults_at k (shown_if given AtomNumber))
    → f2 ≡ noted k (item_shows is.Atom r.indices r.joined words) r.faults
atom_noted k index words r given f1 f2 n g a b =
    ap (λ (f : Option Fault). record { fault = f })
    (b ∙ (ap (λ (t : Bool). first_of f1.fault (faults_at k (shown_if t AtomNumber))) (g ∙ ap (λ (m : ℕ). is_given m r.indices) n)
    ∙ (ap (λ (f : Option Fault). first_of f (faults_at k (shown_if (is_given (number_in 0 words) r.indices) AtomNumber))) a
    ∙ sym (first_of_two k r.faults.fault (atom_line_shows words) (shown_if (is_given (number_in 0 words) r.indices) AtomNumber)))))

pub atom_after : (k index : ℕ) (words : List (List ℕ)) (r : Reading) (indices : List ℕ) (atoms : List TableAtom) (atom : TableAtom) (faults : FirstFault)
    → index ≡ number_in 0 words → indices ≡ with_index index r.indices → atom ≡ atom_of k words → atoms ≡ r.atoms ++ atom ∷ []
    → faults ≡ noted k (item_shows is.Atom r.indices r.joined words) r.faults
    → record { indices = indices; joined = r.joined; atoms = atoms; bonds = r.bonds; faults = faults } ≡ after is.Atom k words r
atom_after k index words r indices atoms atom faults n i e a f =
    ap (λ (t : List ℕ). record { indices = t; joined = r.joined; atoms = atoms; bonds = r.bonds; faults = faults }) (i ∙ ap (λ (m : ℕ). with_index m r.indices) n)
    ∙ (ap (λ (t : List TableAtom). record { indices = with_index (number_in 0 words) r.indices; joined = r.joined; atoms = t; bonds = r.bonds; faults = faults }) (a ∙ ap (λ (t : TableAtom). r.atoms ++ t ∷ []) e)
    ∙ ap (λ (t : FirstFault). record { indices = with_index (number_in 0 words) r.indices; joined = r.joined; atoms = r.atoms ++ atom_of k words ∷ []; bonds = r.bonds; faults = t }) f)

-- ---- a joined line

-- a line that breaks off
pub broken_step : (lines : List (List ℕ)) (end k place : ℕ) (at : Place) (r0 : Reading) → joined_from None (k + 1) (lines_between k end lines) ≡ record { at = place; text = None } ∷ []
    → after is.Wrong place [] r0 ≡ after_items (to_come lines end k (Some at)) r0
broken_step lines end k place at r0 is = sym (ap (λ (t : List Joined). after_items (items (end + 1) (Some at) t) r0) is)

-- a whole line
whole_step : (lines : List (List ℕ)) (end k next : ℕ) (text : List ℕ) (at : Place) (r0 : Reading)
    → joined_from None (k + 1) (lines_between k end lines) ≡ record { at = k + 1; text = Some text } ∷ joined_from None (next + 1) (lines_between next end lines)
    → after_items (to_come lines end next (passed_text (k + 1) text at).place) (after_item (passed_text (k + 1) text at).item r0) ≡ after_items (to_come lines end k (Some at)) r0
whole_step lines end k next text at r0 is = sym (ap (λ (t : List Joined). after_items (items (end + 1) (Some at) t) r0) is)

pub last_step : (lines : List (List ℕ)) (end k next : ℕ) (text : List ℕ) (at : Place) (r0 r1 : Reading)
    → joined_from None (k + 1) (lines_between k end lines) ≡ record { at = k + 1; text = Some text } ∷ joined_from None (next + 1) (lines_between next end lines)
    → None ≡ (passed_text (k + 1) text at).place → r1 ≡ after_item (passed_text (k + 1) text at).item r0
    → r1 ≡ after_items (to_come lines end k (Some at)) r0
last_step lines end k next text at r0 r1 is none a =
    a ∙ (ap (λ (p : Option Place). after_items (to_come lines end next p) (after_item (passed_text (k + 1) text at).item r0)) none ∙ whole_step lines end k next text at r0 is)

pub next_step : (lines : List (List ℕ)) (end k next : ℕ) (text : List ℕ) (at behind : Place) (r0 r1 : Reading)
    → joined_from None (k + 1) (lines_between k end lines) ≡ record { at = k + 1; text = Some text } ∷ joined_from None (next + 1) (lines_between next end lines)
    → Some behind ≡ (passed_text (k + 1) text at).place → r1 ≡ after_item (passed_text (k + 1) text at).item r0
    → after_items (to_come lines end next (Some behind)) r1 ≡ after_items (to_come lines end k (Some at)) r0
next_step lines end k next text at behind r0 r1 is some a =
    ap (λ (r : Reading). after_items (to_come lines end next (Some behind)) r) a
    ∙ (ap (λ (p : Option Place). after_items (to_come lines end next p) (after_item (passed_text (k + 1) text at).item r0)) some ∙ whole_step lines end k next text at r0 is)

-- the end of the table
pub at_end : (lines : List (List ℕ)) (end k : ℕ) (at : Place) (may : Bool) (r : Reading) → end ≤ k → may ≡ may_end at.stage
    → after_items (to_come lines end k (Some at)) r ≡ after_items (if may then [] else no_item (end + 1) ∷ []) r
at_end lines end k at may r over is =
    ap (λ (t : List (List ℕ)). after_items (items (end + 1) (Some at) (joined_from None (k + 1) t)) r) (between_none k end lines over)
    ∙ ap (λ (b : Bool). after_items (if b then [] else no_item (end + 1) ∷ []) r) (sym is)

-- ---- all lines

pub after_indices : (role : Role) (k : ℕ) (words : List (List ℕ)) (r : Reading) → (after role k words r).indices ≡ indices_behind role r.indices words
after_indices is.Atom k words r = refl
after_indices is.Bond k words r = refl
after_indices is.Frame k words r = refl
after_indices is.Sgroup k words r = refl
after_indices is.Collection k words r = refl
after_indices is.Query k words r = refl
after_indices is.Wrong k words r = refl

pub after_joined : (role : Role) (k : ℕ) (words : List (List ℕ)) (r : Reading) → (after role k words r).joined ≡ pairs_behind role r.indices r.joined words
after_joined is.Atom k words r = refl
after_joined is.Bond k words r = refl
after_joined is.Frame k words r = refl
after_joined is.Sgroup k words r = refl
after_joined is.Collection k words r = refl
after_joined is.Query k words r = refl
after_joined is.Wrong k words r = refl

after_atoms : (role : Role) (k : ℕ) (words : List (List ℕ)) (r : Reading) → (after role k words r).atoms ≡ r.atoms ++ atoms_by role k words
after_atoms is.Atom k words r = refl
after_atoms is.Bond k words r = sym (append-nil r.atoms)
after_atoms is.Frame k words r = sym (append-nil r.atoms)
after_atoms is.Sgroup k words r = sym (append-nil r.atoms)
after_atoms is.Collection k words r = sym (append-nil r.atoms)
after_atoms is.Query k words r = sym (append-nil r.atoms)
after_atoms is.Wrong k words r = sym (append-nil r.atoms)

after_bonds : (role : Role) (k : ℕ) (words : List (List ℕ)) (r : Reading) → (after role k words r).bonds ≡ r.bonds ++ bonds_by role k r.indices words
after_bonds is.Atom k words r = sym (append-nil r.bonds)
after_bonds is.Bond k words r = refl
after_bonds is.Frame k words r = sym (append-nil r.bonds)
after_bonds is.Sgroup k words r = sym (append-nil r.bonds)
after_bonds is.Collection k words r = sym (append-nil r.bonds)
after_bonds is.Query k words r = sym (append-nil r.bonds)
after_bonds is.Wrong k words r = sym (append-nil r.bonds)

after_fault : (role : Role) (k : ℕ) (words : List (List ℕ)) (r : Reading) → (after role k words r).faults.fault ≡ first_of r.faults.fault (faults_at k (item_shows role r.indices r.joined words))
after_fault is.Atom k words r = refl
after_fault is.Bond k words r = refl
after_fault is.Frame k words r = refl
after_fault is.Sgroup k words r = refl
after_fault is.Collection k words r = refl
after_fault is.Query k words r = refl
after_fault is.Wrong k words r = refl

pub atoms_law : (all : List Item) (r : Reading) → (after_items all r).atoms ≡ r.atoms ++ item_atoms all
atoms_law [] r = sym (append-nil r.atoms)
atoms_law (item ∷ later) r =
    atoms_law later (after_item item r)
    ∙ (ap (λ (t : List TableAtom). t ++ item_atoms later) (after_atoms item.role item.at item.words r)
    ∙ append_assoc r.atoms (atoms_by item.role item.at item.words) (item_atoms later))

pub bonds_law : (all : List Item) (r : Reading) → (after_items all r).bonds ≡ r.bonds ++ item_bonds r.indices all
bonds_law [] r = sym (append-nil r.bonds)
bonds_law (item ∷ later) r =
    bonds_law later (after_item item r)
    ∙ (ap (λ (t : List TableBond). t ++ item_bonds (after_item item r).indices later) (after_bonds item.role item.at item.words r)
    ∙ (ap (λ (t : List ℕ). (r.bonds ++ bonds_by item.role item.at r.indices item.words) ++ item_bonds t later) (after_indices item.role item.at item.words r)
    ∙ append_assoc r.bonds (bonds_by item.role item.at r.indices item.words) (item_bonds (indices_behind item.role r.indices item.words) later)))

pub faults_law : (all : List Item) (r : Reading) → (after_items all r).faults.fault ≡ first_of r.faults.fault (item_faults r.indices r.joined all)
faults_law [] r = refl
faults_law (item ∷ later) r =
    faults_law later (after_item item r)
    ∙ (ap (λ (f : Option Fault). first_of f (item_faults (after_item item r).indices (after_item item r).joined later)) (after_fault item.role item.at item.words r)
    ∙ (ap (λ (t : List ℕ). first_of first (item_faults t (after_item item r).joined later)) (after_indices item.role item.at item.words r)
    ∙ (ap (λ (t : List Pair). first_of first (item_faults (indices_behind item.role r.indices item.words) t later)) (after_joined item.role item.at item.words r)
    ∙ sym (first_of_joined r.faults.fault (faults_at item.at (item_shows item.role r.indices r.joined item.words)) (item_faults (indices_behind item.role r.indices item.words) (pairs_behind item.role r.indices r.joined item.words) later)))))
  where
    first : Option Fault
    first = first_of r.faults.fault (faults_at item.at (item_shows item.role r.indices r.joined item.words))

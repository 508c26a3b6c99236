-- The roles of atoms with nested parents and ring bonds are read as these atoms, parents and ring bonds.
use Rattle.std.proofs.Common.{◌≡◌, ℕ, zero, suc, ◌+◌, ◌≤◌, ◌<◌, List, [], ◌∷◌, ◌++◌, length, get_or, map, drop, Bool, true, false, Option, Some, None, refl, ap, sym, ◌∙◌, subst, inl, inr, arith}
use Rattle.std.specs.Prelude.{◌==◌, ◌&&◌, not}
use Rattle.std.proofs.lemmas.Bool.{cases_eq, ne_eqb}
use Rattle.std.proofs.lemmas.List.{append-nil, append_assoc}
use Rattle.smi_graph.specs.declared.text_bond.TextBond.{TextBond}
use Rattle.std.specs.Prelude.{option_to_list}
use Rattle.mc_mol.proofs.Halves.{same_test}
use Rattle.smi_lex.specs.declared.token.BondMark.{BondMark}
use Rattle.smi_graph.specs.declared.role.Role.{Role}
use Rattle.smi_graph.specs.declared.role.Role.TheVariants.{Atom, Bond, Ring, Dot, Enter, Leave}
use Rattle.smi_graph.specs.Order.{depth, depth_behind, holds_ring, is_ring, is_stray_bond, may_follow, latest, is_misplaced}
use Rattle.smi_graph.specs.Bonds.{atom_count, predecessor, mark_of, text_bond, chain_bond, text_bonds}
use Rattle.smi_graph.specs.Branches.{open_once_closed, return_atoms}
use Rattle.smi_graph.specs.RingRules.{is_clash}
use Rattle.smi_graph.proofs.OpenLaw.{predecessor_is}
use Rattle.smi_graph.proofs.ReadingSteps.{open_behind}
use Rattle.smi_mean.specs.RingNumbers.{Pair, has, onto_all, active, closing, opening}
use Rattle.smi_write.specs.Nested.{IsNested}
use Rattle.smi_write.proofs.Along.{Along}
use Rattle.smi_write.proofs.RoleText.{mark_roles, closed_roles, opened_roles, ring_roles, role_if_not, before_roles, text_roles, links, parent_bond, bonds_from}
use Rattle.smi_write.proofs.RingSteps.{Agrees, rings_agree, rings_bonds, rings_clash, onto_append}
use Rattle.smi_write.proofs.Shape.{nested_tail, no_gap, pending, pending_nil, pending_skip, pending_none, pending_top, pending_cut}

placed : (before : List Role) (k : Role) (d : ℕ) → may_follow (latest before) (Some k) ≡ true → (is_ring (Some k) && is_stray_bond before) ≡ false → depth (k ∷ before) ≡ Some d
    → is_misplaced before (Some k) ≡ false
placed before k d follows stray deep = rw (follows, deep, stray) refl

-- behind an atom or a ring number
abbrev pub Free : List Role → Type 0
Free before = holds_ring (latest before) ≡ true

may : (before : List Role) → Free before → (next : Option Role) → may_follow (latest before) next ≡ true
may [] free next = cc
may (Atom lower ∷ before) free next = refl
may (Ring n ∷ before) free next = refl
may (Bond o ∷ before) free next = cc
may (Dot ∷ before) free next = cc
may (Enter ∷ before) free next = cc
may (Leave ∷ before) free next = cc

unstray : (before : List Role) → Free before → is_stray_bond before ≡ false
unstray [] free = refl
unstray (Atom lower ∷ before) free = refl
unstray (Ring n ∷ before) free = refl
unstray (Bond o ∷ before) free = cc
unstray (Dot ∷ before) free = refl
unstray (Enter ∷ before) free = refl
unstray (Leave ∷ before) free = refl

unmarked : (before : List Role) → Free before → mark_of before ≡ None
unmarked [] free = refl
unmarked (Atom lower ∷ before) free = refl
unmarked (Ring n ∷ before) free = refl
unmarked (Bond o ∷ before) free = cc
unmarked (Dot ∷ before) free = refl
unmarked (Enter ∷ before) free = refl
unmarked (Leave ∷ before) free = refl

-- What has been read: k atoms with these bonds, these open ring numbers, and branches open from these atoms.
pub record Read (k : ℕ) (open_ : List ℕ) (act : List Pair) (bs : List TextBond) (before : List Role) : Type 0 where
  pub stack : return_atoms before ≡ map Some open_
  pub deep : depth before ≡ Some (length open_)
  pub counted : atom_count before ≡ k
  pub agrees : Agrees before act
  pub clash : Along is_clash before
  pub bonds : text_bonds before ≡ bs
  pub valid : Along is_misplaced before

-- the latest open atom, which is the predecessor of what follows
pub record Last (p : ℕ) (before : List Role) : Type 0 where
  pub last : open_once_closed 0 before ≡ Some p
  pub pred : predecessor before ≡ Some p

-- a token behind which the same atom is the latest one that is open
again : (p : ℕ) (before after : List Role) → Last p before → predecessor after ≡ open_once_closed 0 after → open_once_closed 0 after ≡ open_once_closed 0 before → Last p after
again p before after h law same = record { last = same ∙ h.last; pred = law ∙ same ∙ h.last }

abbrev pub MayAtom : List Role → Type 0
MayAtom before = may_follow (latest before) (Some (Atom false)) ≡ true

abbrev pub MayEnter : List Role → Type 0
MayEnter before = may_follow (latest before) (Some Enter) ≡ true

abbrev pub MayMark : List Role → Type 0
MayMark before = (o : BondMark) → may_follow (latest before) (Some (Bond o)) ≡ true

read_pending : (k : ℕ) (open_ open' : List ℕ) (act : List Pair) (bs : List TextBond) (before : List Role) → open_ ≡ open' → Read k open_ act bs before → Read k open' act bs before
read_pending k open_ open' act bs before e read = subst (λ (x : List ℕ). Read k x act bs before) e read

-- one atom back
leave : (p k : ℕ) (open_ : List ℕ) (act : List Pair) (bs : List TextBond) (before : List Role)
    → Read k (p ∷ open_) act bs before → may_follow (latest before) (Some Leave) ≡ true → Read k open_ act bs (Leave ∷ before) × Last p (Leave ∷ before)
leave p k open_ act bs before read follows =
    let deep : depth (Leave ∷ before) ≡ Some (length open_) = ap (λ (o : Option ℕ). depth_behind o Leave) read.deep in
    let back : open_once_closed 1 before ≡ Some p = open_behind before 0 ∙ ap (λ (x : List (Option ℕ)). get_or x 0 None) read.stack in (
      record {
        stack = ap (drop 1) read.stack;
        deep = deep;
        counted = read.counted;
        agrees = read.agrees;
        clash = (read.clash, refl);
        bonds = append-nil (text_bonds before) ∙ read.bonds;
        valid = (read.valid, placed before Leave _ follows refl deep);
      },
      record { last = back; pred = predecessor_is (Leave ∷ before) ∙ back },
    )

enter : (p k : ℕ) (open_ : List ℕ) (act : List Pair) (bs : List TextBond) (before : List Role)
    → Read k open_ act bs before → Last p before → MayEnter before → Read k (p ∷ open_) act bs (Enter ∷ before) × Last p (Enter ∷ before)
enter p k open_ act bs before read last follows =
    let deep : depth (Enter ∷ before) ≡ Some (length open_ + 1) = ap (λ (o : Option ℕ). depth_behind o Enter) read.deep in (
      record {
        stack = ap (λ (o : Option ℕ). o ∷ return_atoms before) last.last ∙ ap (λ (x : List (Option ℕ)). Some p ∷ x) read.stack;
        deep = deep ∙ ap Some (omega arith);
        counted = read.counted;
        agrees = read.agrees;
        clash = (read.clash, refl);
        bonds = append-nil (text_bonds before) ∙ read.bonds;
        valid = (read.valid, placed before Enter _ follows refl deep);
      },
      again p before (Enter ∷ before) last (predecessor_is (Enter ∷ before)) refl,
    )

dot : (k : ℕ) (open_ : List ℕ) (act : List Pair) (bs : List TextBond) (before : List Role) → Read k open_ act bs before → Free before → Read k open_ act bs (Dot ∷ before)
dot k open_ act bs before read free =
    let deep : depth (Dot ∷ before) ≡ Some (length open_) = ap (λ (o : Option ℕ). depth_behind o Dot) read.deep in
    record {
      stack = read.stack;
      deep = deep;
      counted = read.counted;
      agrees = read.agrees;
      clash = (read.clash, refl);
      bonds = append-nil (text_bonds before) ∙ read.bonds;
      valid = (read.valid, placed before Dot _ (may before free (Some Dot)) refl deep);
    }

atom : (v : ℕ → ℕ → Option BondMark) (p k : ℕ) (open_ : List ℕ) (act : List Pair) (bs : List TextBond) (before : List Role)
    → Read k open_ act bs before → option_to_list (chain_bond (predecessor before) k (mark_of before)) ≡ parent_bond v p k → MayAtom before
    → Read (suc k) open_ act (bs ++ parent_bond v p k) (Atom false ∷ before) × Last k (Atom false ∷ before)
atom v p k open_ act bs before read made follows =
    let deep : depth (Atom false ∷ before) ≡ Some (length open_) = ap (λ (o : Option ℕ). depth_behind o (Atom false)) read.deep in (
      record {
        stack = read.stack;
        deep = deep;
        counted = ap (λ (n : ℕ). n + 1) read.counted ∙ omega arith;
        agrees = read.agrees;
        clash = (read.clash, refl);
        bonds = ap (λ (n : ℕ). text_bonds before ++ option_to_list (chain_bond (predecessor before) n (mark_of before))) read.counted ∙ ap (λ (x : List TextBond). text_bonds before ++ x) made ∙ ap (λ (x : List TextBond). x ++ parent_bond v p k) read.bonds;
        valid = (read.valid, placed before (Atom false) _ follows refl deep);
      },
      record { last = ap Some read.counted; pred = predecessor_is (Atom false ∷ before) ∙ ap Some read.counted },
    )

-- ring numbers change neither branches nor the latest atom
pub record Kept (k j : ℕ) (open_ : List ℕ) (before : List Role) : Type 0 where
  pub stack : return_atoms before ≡ map Some open_
  pub deep : depth before ≡ Some (length open_)
  pub counted : atom_count before ≡ k
  pub valid : Along is_misplaced before
  pub last : Last j before
  pub free : Free before

ring_keeps : (m k j : ℕ) (open_ : List ℕ) (before : List Role) → Kept k j open_ before → Kept k j open_ (Ring m ∷ before)
ring_keeps m k j open_ before h =
    let deep : depth (Ring m ∷ before) ≡ Some (length open_) = ap (λ (o : Option ℕ). depth_behind o (Ring m)) h.deep in
    record {
      stack = h.stack;
      deep = deep;
      counted = h.counted;
      valid = (h.valid, placed before (Ring m) _ (may before h.free (Some (Ring m))) (unstray before h.free) deep);
      last = again j before (Ring m ∷ before) h.last (predecessor_is (Ring m ∷ before)) refl;
      free = refl;
    }

marked_keeps : (m : ℕ) (o : Option BondMark) (k j : ℕ) (open_ : List ℕ) (before : List Role) → Kept k j open_ before → Kept k j open_ (Ring m ∷ onto_all (mark_roles o) before)
marked_keeps m None k j open_ before h = ring_keeps m k j open_ before h
marked_keeps m (Some o) k j open_ before h =
    let deep : depth (Bond o ∷ before) ≡ Some (length open_) = ap (λ (x : Option ℕ). depth_behind x (Bond o)) h.deep in
    let deep' : depth (Ring m ∷ Bond o ∷ before) ≡ Some (length open_) = ap (λ (x : Option ℕ). depth_behind x (Ring m)) deep in
    record {
      stack = h.stack;
      deep = deep';
      counted = h.counted;
      valid = ((h.valid, placed before (Bond o) _ (may before h.free (Some (Bond o))) refl deep), placed (Bond o ∷ before) (Ring m) _ refl (ap not h.free) deep');
      last = let l = h.last in again j before (Ring m ∷ Bond o ∷ before) l (predecessor_is (Ring m ∷ Bond o ∷ before)) refl;
      free = refl;
    }

rings_keep : (ps : List Pair) (k j : ℕ) (open_ : List ℕ) (before : List Role) → Kept k j open_ before → Kept k j open_ (onto_all (closed_roles ps) before)
rings_keep [] k j open_ before h = h
rings_keep (p ∷ ps) k j open_ before h = rings_keep ps k j open_ (Ring p.number ∷ before) (ring_keeps p.number k j open_ before h)

all_keep : (ps : List Pair) (k j : ℕ) (open_ : List ℕ) (before : List Role) → Kept k j open_ before → Kept k j open_ (onto_all (opened_roles ps) before)
all_keep [] k j open_ before h = h
all_keep (p ∷ ps) k j open_ before h =
    subst (λ (x : List Role). Kept k j open_ x) (sym (onto_append (mark_roles (p.symbol)) (Ring p.number ∷ opened_roles ps) before))
    (all_keep ps k j open_ (Ring p.number ∷ onto_all (mark_roles (p.symbol)) before) (marked_keeps p.number (p.symbol) k j open_ before h))

pub record Behind (v : ℕ → ℕ → Option BondMark) (r : ℕ → ℕ → Bool) (n j : ℕ) (open_ : List ℕ) (bs : List TextBond) (before : List Role) : Type 0 where
  pub read : Read (suc j) open_ (active v r n (suc j)) bs before
  pub last : Last j before
  pub free : Free before

ring_numbers : (v : ℕ → ℕ → Option BondMark) (r : ℕ → ℕ → Bool) (n j : ℕ) (open_ : List ℕ) (bs : List TextBond) (before : List Role)
    → Read (suc j) open_ (active v r n j) bs before → Last j before → Free before → Behind v r n j open_ (bs ++ links j (closing v r n j)) (onto_all (ring_roles v r n j) before)
ring_numbers v r n j open_ bs before read last free =
    let k1 = rings_keep (closing v r n j) (suc j) j open_ before (record { stack = read.stack; deep = read.deep; counted = read.counted; valid = read.valid; last = last; free = free }) in
    let k2 = all_keep (opening v r n j) (suc j) j open_ (onto_all (closed_roles (closing v r n j)) before) k1 in
    let k = subst (λ (x : List Role). Kept (suc j) j open_ x) (sym (onto_append (closed_roles (closing v r n j)) (opened_roles (opening v r n j)) before)) k2 in
    record {
      read = record {
        stack = k.stack;
        deep = k.deep;
        counted = k.counted;
        agrees = rings_agree v r n j before read.counted (unmarked before free) read.agrees;
        clash = rings_clash v r n j before read.counted (unmarked before free) read.agrees read.clash;
        bonds = rings_bonds v r n j before read.counted (unmarked before free) read.agrees ∙ ap (λ (x : List TextBond). x ++ links j (closing v r n j)) read.bonds;
        valid = k.valid;
      };
      last = k.last;
      free = k.free;
    }

pub whole_atom : (v : ℕ → ℕ → Option BondMark) (r : ℕ → ℕ → Bool) (n p k : ℕ) (open_ : List ℕ) (bs : List TextBond) (before : List Role)
    → Read k open_ (active v r n k) bs before → option_to_list (chain_bond (predecessor before) k (mark_of before)) ≡ parent_bond v p k → MayAtom before
    → Behind v r n k open_ ((bs ++ parent_bond v p k) ++ links k (closing v r n k)) (onto_all (ring_roles v r n k) (Atom false ∷ before))
whole_atom v r n p k open_ bs before read pred follows =
    let added = atom v p k open_ (active v r n k) bs before read pred follows in
    ring_numbers v r n k open_ (bs ++ parent_bond v p k) (Atom false ∷ before) added.0 added.1 refl

-- ready for an atom whose parent is p - 1
pub record Ready (v : ℕ → ℕ → Option BondMark) (r : ℕ → ℕ → Bool) (n p k : ℕ) (open_ : List ℕ) (bs : List TextBond) (before : List Role) : Type 0 where
  pub read : Read k open_ (active v r n k) bs before
  pub bond : option_to_list (chain_bond (predecessor before) k (mark_of before)) ≡ parent_bond v p k
  pub follows : MayAtom before

abbrev Gap : ℕ → ℕ → List ℕ → Type 0
Gap p j qs = (q : ℕ) → p < q → q ≤ j → has q qs ≡ false

-- a new part
ready_dot : (v : ℕ → ℕ → Option BondMark) (r : ℕ → ℕ → Bool) (n j : ℕ) (qs : List ℕ) (bs : List TextBond) (before : List Role)
    → Gap 0 (suc j) qs → Behind v r n j (pending j (0 ∷ qs)) bs before
    → Ready v r n 0 (suc j) (pending (suc j) qs) bs (Dot ∷ before)
ready_dot v r n j qs bs before gap at =
    let e : pending j (0 ∷ qs) ≡ pending (suc j) qs = pending_skip j 0 qs (λ q more le. omega arith) ∙ pending_none j qs (λ q more le. gap q more (omega arith)) ∙ sym (pending_none (suc j) qs gap) in
    record {
      read = read_pending (suc j) _ _ (active v r n (suc j)) bs (Dot ∷ before) e (dot (suc j) (pending j (0 ∷ qs)) (active v r n (suc j)) bs before at.read at.free);
      bond = refl;
      follows = refl;
    }

pub record Returned (v : ℕ → ℕ → Option BondMark) (r : ℕ → ℕ → Bool) (n p j : ℕ) (open_ : List ℕ) (bs : List TextBond) (before : List Role) : Type 0 where
  pub read : Read (suc j) open_ (active v r n (suc j)) bs before
  pub last : Last p before
  pub may_enter : MayEnter before
  pub follows : MayAtom before
  pub marks : MayMark before
  pub bare : mark_of before ≡ None

go_back : (v : ℕ → ℕ → Option BondMark) (r : ℕ → ℕ → Bool) (n p j : ℕ) (qs : List ℕ) (bs : List TextBond) (before : List Role)
    → p ≤ j → Gap (suc p) (suc j) qs → Behind v r n j (pending j (suc p ∷ qs)) bs before
    → Returned v r n p j (pending p qs) bs (onto_all (role_if_not (suc p == suc j) Leave) before)
go_back v r n p j qs bs before le gap at = elim (cases_eq p j) [
  | inl e ↦
      let s : pending j (suc p ∷ qs) ≡ pending p qs = pending_skip j (suc p) qs (λ q more below. omega arith) ∙ ap (λ (x : ℕ). pending x qs) (sym e) in
      let t : (suc p == suc j) ≡ true = ap (λ (x : ℕ). suc x == suc j) e ∙ same_test (suc j) in
      rw t (record {
        read = read_pending (suc j) _ _ (active v r n (suc j)) bs before s at.read;
        last = subst (λ (x : ℕ). Last x before) (sym e) at.last;
        may_enter = may before at.free (Some Enter);
        follows = may before at.free (Some (Atom false));
        marks = λ o. may before at.free (Some (Bond o));
        bare = unmarked before at.free;
      })
  | inr ne ↦
      let top : pending j (suc p ∷ qs) ≡ p ∷ pending p qs = pending_top j p qs (omega arith) (λ q more below. gap q more (omega arith)) in
      let left = leave p (suc j) (pending p qs) (active v r n (suc j)) bs before (read_pending (suc j) _ _ (active v r n (suc j)) bs before top at.read) (may before at.free (Some Leave)) in
      rw (ne_eqb (suc p) (suc j) (omega arith)) (record { read = left.0; last = left.1; may_enter = refl; follows = refl; marks = λ o. refl; bare = refl })
]

-- ready for the mark of an atom whose parent is p
pub record Marking (v : ℕ → ℕ → Option BondMark) (r : ℕ → ℕ → Bool) (n p k : ℕ) (open_ : List ℕ) (bs : List TextBond) (before : List Role) : Type 0 where
  pub read : Read k open_ (active v r n k) bs before
  pub last : Last p before
  pub follows : MayAtom before
  pub marks : MayMark before
  pub bare : mark_of before ≡ None

bond_is : (o : Option BondMark) (p k : ℕ) (before : List Role) → predecessor before ≡ Some p → mark_of before ≡ o → option_to_list (chain_bond (predecessor before) k (mark_of before)) ≡ text_bond p k o None ∷ []
bond_is o p k before pred marked = ap (λ (x : Option ℕ). option_to_list (chain_bond x k (mark_of before))) pred ∙ ap (λ (x : Option BondMark). text_bond p k x None ∷ []) marked

mark : (v : ℕ → ℕ → Option BondMark) (r : ℕ → ℕ → Bool) (n p k : ℕ) (open_ : List ℕ) (bs : List TextBond) (before : List Role)
    → Marking v r n p k open_ bs before → Ready v r n (suc p) k open_ bs (onto_all (mark_roles (v p k)) before)
mark v r n p k open_ bs before at = by_mark (v p k) refl
  where
    by_mark : (o : Option BondMark) → v p k ≡ o → Ready v r n (suc p) k open_ bs (onto_all (mark_roles o) before)
    by_mark None e =
        let l = at.last in
        record { read = at.read; bond = bond_is (v p k) p k before l.pred (at.bare ∙ sym e); follows = at.follows }
    by_mark (Some o) e =
        let l = at.last in
        let read = at.read in
        let deep : depth (Bond o ∷ before) ≡ Some (length open_) = ap (λ (x : Option ℕ). depth_behind x (Bond o)) read.deep in
        record {
          read = record {
            stack = read.stack;
            deep = deep;
            counted = read.counted;
            agrees = read.agrees;
            clash = (read.clash, refl);
            bonds = append-nil (text_bonds before) ∙ read.bonds;
            valid = (read.valid, placed before (Bond o) _ (at.marks o) refl deep);
          };
          bond = bond_is (v p k) p k (Bond o ∷ before) (predecessor_is (Bond o ∷ before) ∙ l.last) (sym e);
          follows = refl;
        }

open_branch : (v : ℕ → ℕ → Option BondMark) (r : ℕ → ℕ → Bool) (n p j : ℕ) (qs : List ℕ) (bs : List TextBond) (before : List Role) (h : Bool) → has (suc p) qs ≡ h
    → p ≤ j → Gap (suc p) (suc j) qs → Returned v r n p j (pending p qs) bs before
    → Marking v r n p (suc j) (pending (suc j) qs) bs (onto_all (role_if_not (not h) Enter) before)
open_branch v r n p j qs bs before true is le gap at =
    let cut : p ∷ pending p qs ≡ pending (suc j) qs = (let z : pending (suc p) qs ≡ p ∷ pending p qs = rw is refl in sym z) ∙ sym (pending_cut (suc j) (suc p) qs (omega arith) gap) in
    let entered = enter p (suc j) (pending p qs) (active v r n (suc j)) bs before at.read at.last at.may_enter in
    record { read = read_pending (suc j) _ _ (active v r n (suc j)) bs (Enter ∷ before) cut entered.0; last = entered.1; follows = refl; marks = λ o. refl; bare = refl }
open_branch v r n p j qs bs before false is le gap at =
    let cut : pending p qs ≡ pending (suc j) qs = (let z : pending (suc p) qs ≡ pending p qs = rw is refl in sym z) ∙ sym (pending_cut (suc j) (suc p) qs (omega arith) gap) in
    record { read = read_pending (suc j) _ _ (active v r n (suc j)) bs before cut at.read; last = at.last; follows = at.follows; marks = at.marks; bare = at.bare }

-- what stands before an atom
pub ready : (v : ℕ → ℕ → Option BondMark) (r : ℕ → ℕ → Bool) (n p j : ℕ) (qs : List ℕ) (bs : List TextBond) (before : List Role)
    → p ≤ suc j → Gap p (suc j) qs → Behind v r n j (pending j (p ∷ qs)) bs before
    → Ready v r n p (suc j) (pending (suc j) qs) bs (onto_all (before_roles v (suc j) p qs) before)
ready v r n zero j qs bs before le gap at = ready_dot v r n j qs bs before gap at
ready v r n (suc p) j qs bs before le gap at =
    let back = go_back v r n p j qs bs before (omega arith) gap at in
    let middle : List Role = onto_all (role_if_not (suc p == suc j) Leave) before in
    let entered : List Role = onto_all (role_if_not (not (has (suc p) qs)) Enter) middle in
    let at' = open_branch v r n p j qs bs middle (has (suc p) qs) refl (omega arith) gap back in
    subst (λ (x : List Role). Ready v r n (suc p) (suc j) (pending (suc j) qs) bs x)
    (sym (onto_append (role_if_not (suc p == suc j) Leave) (role_if_not (not (has (suc p) qs)) Enter ++ mark_roles (v p (suc j))) before
    ∙ onto_append (role_if_not (not (has (suc p) qs)) Enter) (mark_roles (v p (suc j))) middle))
    (mark v r n p (suc j) (pending (suc j) qs) bs entered at')

-- all is read, and no branch is open
pub record ReadWhole (k : ℕ) (act : List Pair) (bs : List TextBond) (before : List Role) : Type 0 where
  pub read : Read k [] act bs before
  pub ends : may_follow (latest before) None ≡ true

pub piece_read : (a b c : List Role) (k : Role) (acc : List Role) → onto_all (a ++ (k ∷ (b ++ c))) acc ≡ onto_all c (onto_all b (k ∷ onto_all a acc))
piece_read a b c k acc = onto_append a (k ∷ (b ++ c)) acc ∙ onto_append b c (k ∷ onto_all a acc)

pub text_read : (v : ℕ → ℕ → Option BondMark) (r : ℕ → ℕ → Bool) (n j : ℕ) (qs : List ℕ) (bs : List TextBond) (before : List Role) → IsNested (suc (suc j)) qs
    → Behind v r n j (pending j qs) bs before
    → ReadWhole (suc j + length qs) (active v r n (suc j + length qs)) (bs ++ bonds_from v r n (suc j) qs) (onto_all (text_roles v r n (suc j) qs) before)
text_read v r n j [] bs before nested at =
    let e : suc j ≡ suc j + 0 = omega arith in
    let P : ℕ → Type 0 = λ k. ReadWhole k (active v r n k) (bs ++ []) before in
    let read = read_pending (suc j) (pending j []) [] (active v r n (suc j)) bs before (pending_nil j) at.read in
    subst P e (record {
      read = record { stack = read.stack; deep = read.deep; counted = read.counted; agrees = read.agrees; clash = read.clash; bonds = read.bonds ∙ sym (append-nil bs); valid = read.valid };
      ends = may before at.free None;
    })
text_read v r n j (p ∷ qs) bs before nested at =
    let first = nested.earlier 0 (omega arith) in
    let le : p ≤ suc j = omega (arith, first) in
    let gap : (q : ℕ) → p < q → q ≤ suc j → has q qs ≡ false = λ q more less. no_gap (suc (suc j)) p q qs nested more (omega arith) in
    let middle : List Role = onto_all (before_roles v (suc j) p qs) before in
    let now = ready v r n p j qs bs before le gap at in
    let added = whole_atom v r n p (suc j) (pending (suc j) qs) bs middle now.read now.bond now.follows in
    let rest = text_read v r n (suc j) qs ((bs ++ parent_bond v p (suc j)) ++ links (suc j) (closing v r n (suc j))) (onto_all (ring_roles v r n (suc j)) (Atom false ∷ middle)) (nested_tail (suc (suc j)) p qs nested) added in
    let e1 : suc (suc j) + length qs ≡ suc j + suc (length qs) = omega arith in
    let e3 : ((bs ++ parent_bond v p (suc j)) ++ links (suc j) (closing v r n (suc j))) ++ bonds_from v r n (suc (suc j)) qs ≡ bs ++ bonds_from v r n (suc j) (p ∷ qs)
    = append_assoc (bs ++ parent_bond v p (suc j)) (links (suc j) (closing v r n (suc j))) (bonds_from v r n (suc (suc j)) qs)
    ∙ append_assoc bs (parent_bond v p (suc j)) (links (suc j) (closing v r n (suc j)) ++ bonds_from v r n (suc (suc j)) qs) in
    let e4 = sym (piece_read (before_roles v (suc j) p qs) (ring_roles v r n (suc j)) (text_roles v r n (suc (suc j)) qs) (Atom false) before) in
    moved _ _ _ _ _ _ e1 e3 e4 rest
  where
    moved : (k1 k2 : ℕ) (b1 b2 : List TextBond) (t1 t2 : List Role) → k1 ≡ k2 → b1 ≡ b2 → t1 ≡ t2 → ReadWhole k1 (active v r n k1) b1 t1 → ReadWhole k2 (active v r n k2) b2 t2
    moved k1 k2 b1 b2 t1 t2 e1 e3 e4 h =
        subst (λ (x : ℕ). ReadWhole x (active v r n x) b2 t2) e1
        (subst (λ (x : List TextBond). ReadWhole k1 (active v r n k1) x t2) e3
        (subst (λ (x : List Role). ReadWhole k1 (active v r n k1) b1 x) e4 h))

-- the whole text of at least one atom
pub whole_read : (v : ℕ → ℕ → Option BondMark) (r : ℕ → ℕ → Bool) (n : ℕ) (qs : List ℕ) → IsNested 1 (0 ∷ qs)
    → ReadWhole (1 + length qs) (active v r n (1 + length qs)) (bonds_from v r n 0 (0 ∷ qs)) (onto_all (text_roles v r n 0 (0 ∷ qs)) [])
whole_read v r n qs nested =
    let start : Read 0 [] [] [] [] = record { stack = refl; deep = refl; counted = refl; agrees = λ m. refl; clash = tt; bonds = refl; valid = tt } in
    let added = whole_atom v r n 0 0 [] [] [] start refl refl in
    subst (λ (x : List Role). ReadWhole (1 + length qs) (active v r n (1 + length qs)) (bonds_from v r n 0 (0 ∷ qs)) x)
    (sym (onto_append (ring_roles v r n 0) (text_roles v r n 1 qs) (Atom false ∷ [])))
    (text_read v r n 0 qs (links 0 (closing v r n 0)) (onto_all (ring_roles v r n 0) (Atom false ∷ [])) (nested_tail 1 0 qs nested) added)

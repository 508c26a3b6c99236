-- The predecessor of an atom of a written text is its parent, and its followers are its children.
use Rattle.std.proofs.Common.{◌≡◌, ℕ, zero, suc, ◌+◌, ◌≤◌, ◌<◌, List, [], ◌∷◌, ◌++◌, length, get_or, Bool, true, false, Option, Some, None, refl, ap, sym, ◌∙◌, arith}
use Rattle.std.specs.Prelude.{◌==◌, not, if◌then◌else◌}
use Rattle.std.specs.Option.{option_to_list}
use Rattle.std.proofs.lemmas.List.{append-nil, append_assoc}
use Rattle.smi_graph.specs.declared.text_bond.TextBond.{TextBond}
use Rattle.smi_lex.specs.declared.token.BondMark.{BondMark}
use Rattle.smi_graph.specs.declared.role.Role.{Role}
use Rattle.smi_graph.specs.declared.role.Role.TheVariants.{Atom, Bond, Ring, Enter, Leave, Dot}
use Rattle.smi_graph.specs.Bonds.{atom_count, predecessor, mark_of, chain_bond}
use Rattle.smi_mean.specs.RingNumbers.{Pair, has, onto_all, active, closing, opening}
use Rattle.smi_write.specs.Nested.{IsNested}
use Rattle.smi_graph.specs.TextOrder.{predecessor_of, if_behind, followers}
use Rattle.smi_mean.specs.WrittenPlaces.{above}
use Rattle.std.proofs.lemmas.Bool.{ne_eqb}
use Rattle.mc_mol.proofs.Halves.{same_test}
use Rattle.smi_write.proofs.Shape.{nested_tail, no_gap, pending}
use Rattle.smi_write.proofs.RoleText.{mark_roles, closed_roles, opened_roles, ring_roles, role_if_not, before_roles, text_roles, parent_bond}
use Rattle.smi_write.proofs.RingSteps.{Agrees, onto_append}
use Rattle.smi_write.proofs.TextRead.{Behind, ready, whole_atom, piece_read}

-- A written text, atom by atom

-- before an atom whose parent is p - 1
pub record IsBlock (v : ℕ → ℕ → Option BondMark) (r : ℕ → ℕ → Bool) (n k p : ℕ) (middle : List Role) : Type 0 where
  pub pred : predecessor middle ≡ above p
  pub counted : atom_count middle ≡ k
  pub agrees : Agrees middle (active v r n k)

abbrev pub Blocks : (ℕ → ℕ → Option BondMark) → (ℕ → ℕ → Bool) → ℕ → ℕ → List ℕ → List Role → Type 0
Blocks v r n k [] before = Unit {0}
Blocks v r n k (p ∷ qs) before =
    IsBlock v r n k p (onto_all (before_roles v k p qs) before)
    × Blocks v r n (suc k) qs (onto_all (ring_roles v r n k) (Atom false ∷ onto_all (before_roles v k p qs) before))

abbrev first_atom : List TextBond → ℕ
first_atom [] = 0
first_atom (b ∷ bs) = b.first.0

chain_above : (v : ℕ → ℕ → Option BondMark) (p k : ℕ) (o : Option ℕ) (m : Option BondMark) → option_to_list (chain_bond o k m) ≡ parent_bond v p k → o ≡ above p
chain_above v zero k None m h = refl
chain_above v zero k (Some q) m h = cc
chain_above v (suc p) k None m h = cc
chain_above v (suc p) k (Some q) m h = let e : q ≡ p = ap first_atom h in ap Some e

text_blocks : (v : ℕ → ℕ → Option BondMark) (r : ℕ → ℕ → Bool) (n j : ℕ) (qs : List ℕ) (bs : List TextBond) (before : List Role) → IsNested (suc (suc j)) qs
    → Behind v r n j (pending j qs) bs before → Blocks v r n (suc j) qs before
text_blocks v r n j [] bs before nested at = tt
text_blocks v r n j (p ∷ qs) bs before nested at =
    let first = nested.earlier 0 (omega arith) in
    let le : p ≤ suc j = omega (arith, first) in
    let gap : (q : ℕ) → p < q → q ≤ suc j → has q qs ≡ false = λ q more less. no_gap (suc (suc j)) p q qs nested more (omega arith) in
    let middle : List Role = onto_all (before_roles v (suc j) p qs) before in
    let now = ready v r n p j qs bs before le gap at in
    let read = now.read in
    let added = whole_atom v r n p (suc j) (pending (suc j) qs) bs middle now.read now.bond now.follows in (
      record { pred = chain_above v p (suc j) (predecessor middle) (mark_of middle) now.bond; counted = read.counted; agrees = read.agrees },
      text_blocks v r n (suc j) qs _ _ (nested_tail (suc (suc j)) p qs nested) added,
    )

pub whole_blocks : (v : ℕ → ℕ → Option BondMark) (r : ℕ → ℕ → Bool) (n : ℕ) (qs : List ℕ) → IsNested 1 qs → Blocks v r n 0 qs []
whole_blocks v r n [] nested = tt
whole_blocks v r n (suc q ∷ qs) nested = absurd (let h = nested.earlier 0 (omega arith) in let h' : suc q < 1 + 0 = h in omega arith)
whole_blocks v r n (zero ∷ qs) nested =
    let added = whole_atom v r n 0 0 [] [] [] (record { stack = refl; deep = refl; counted = refl; agrees = λ m. refl; clash = tt; bonds = refl; valid = tt }) refl refl in (
      record { pred = refl; counted = refl; agrees = λ m. refl },
      text_blocks v r n 0 qs _ _ (nested_tail 1 0 qs nested) added,
    )

-- Tokens that say nothing of a place

pub quiet_before : {A : Type 0} (F : List Role → A) → ((b : List Role) → F (Leave ∷ b) ≡ F b) → ((b : List Role) → F (Enter ∷ b) ≡ F b) → ((b : List Role) → F (Dot ∷ b) ≡ F b)
    → ((m : BondMark) (b : List Role) → F (Bond m ∷ b) ≡ F b) → (v : ℕ → ℕ → Option BondMark) (k p : ℕ) (qs : List ℕ) (b : List Role) → F (onto_all (before_roles v k p qs) b) ≡ F b
quiet_before F leave enter dot mark v k p qs b = by_parent k p
  where
    by_parts : (x y : Bool) (o : Option BondMark) → F (onto_all (role_if_not x Leave ++ (role_if_not y Enter ++ mark_roles o)) b) ≡ F b
    by_parts true true None = refl
    by_parts true true (Some m) = mark m b
    by_parts true false None = enter b
    by_parts true false (Some m) = mark m (Enter ∷ b) ∙ enter b
    by_parts false true None = leave b
    by_parts false true (Some m) = mark m (Leave ∷ b) ∙ leave b
    by_parts false false None = enter (Leave ∷ b) ∙ leave b
    by_parts false false (Some m) = mark m (Enter ∷ Leave ∷ b) ∙ enter (Leave ∷ b) ∙ leave b

    by_parent : (k p : ℕ) → F (onto_all (before_roles v k p qs) b) ≡ F b
    by_parent zero zero = refl
    by_parent (suc j) zero = dot b
    by_parent zero (suc p) = by_parts (suc p == 0) (not (has (suc p) qs)) (v p 0)
    by_parent (suc j) (suc p) = by_parts (suc p == suc j) (not (has (suc p) qs)) (v p (suc j))

pub quiet_rings : {A : Type 0} (F : List Role → A) → ((m : ℕ) (b : List Role) → F (Ring m ∷ b) ≡ F b) → ((m : BondMark) (b : List Role) → F (Bond m ∷ b) ≡ F b)
    → (v : ℕ → ℕ → Option BondMark) (r : ℕ → ℕ → Bool) (n k : ℕ) (b : List Role) → F (onto_all (ring_roles v r n k) b) ≡ F b
quiet_rings F ring mark v r n k b =
    ap F (onto_append (closed_roles (closing v r n k)) (opened_roles (opening v r n k)) b)
    ∙ opens (opening v r n k) (onto_all (closed_roles (closing v r n k)) b) ∙ closes (closing v r n k) b
  where
    closes : (ps : List Pair) (b : List Role) → F (onto_all (closed_roles ps) b) ≡ F b
    closes [] b = refl
    closes (p ∷ ps) b = closes ps (Ring p.number ∷ b) ∙ ring p.number b

    marks : (o : Option BondMark) (b : List Role) → F (onto_all (mark_roles o) b) ≡ F b
    marks None b = refl
    marks (Some m) b = mark m b

    opens : (ps : List Pair) (b : List Role) → F (onto_all (opened_roles ps) b) ≡ F b
    opens [] b = refl
    opens (p ∷ ps) b =
        ap F (onto_append (mark_roles (p.symbol)) (Ring p.number ∷ opened_roles ps) b)
        ∙ opens ps (Ring p.number ∷ onto_all (mark_roles (p.symbol)) b) ∙ ring p.number (onto_all (mark_roles (p.symbol)) b) ∙ marks (p.symbol) b

-- Children

-- the atoms from number k on whose parent is atom a
abbrev pub children_from : ℕ → ℕ → List ℕ → List ℕ
children_from a k [] = []
children_from a k (p ∷ qs) = if_behind a (above p) k ++ children_from a (suc k) qs

pub followers_read : (v : ℕ → ℕ → Option BondMark) (r : ℕ → ℕ → Bool) (n a k : ℕ) (qs : List ℕ) (before : List Role) → Blocks v r n k qs before
    → followers a (onto_all (text_roles v r n k qs) before) ≡ followers a before ++ children_from a k qs
followers_read v r n a k [] before at = sym (append-nil (followers a before))
followers_read v r n a k (p ∷ qs) before at =
    let middle : List Role = onto_all (before_roles v k p qs) before in
    let rings : List Role = onto_all (ring_roles v r n k) (Atom false ∷ middle) in
    let block = at.0 in
    ap (followers a) (piece_read (before_roles v k p qs) (ring_roles v r n k) (text_roles v r n (suc k) qs) (Atom false) before)
    ∙ followers_read v r n a (suc k) qs rings at.1
    ∙ ap (λ (x : List ℕ). x ++ children_from a (suc k) qs)
    (quiet_rings (followers a) (λ m b. refl) (λ m b. refl) v r n k (Atom false ∷ middle)
    ∙ ap (λ (o : Option ℕ). followers a middle ++ if_behind a o (atom_count middle)) block.pred
    ∙ ap (λ (c : ℕ). followers a middle ++ if_behind a (above p) c) block.counted
    ∙ ap (λ (x : List ℕ). x ++ if_behind a (above p) k) (quiet_before (followers a) (λ b. refl) (λ b. refl) (λ b. refl) (λ m b. refl) v k p qs before))
    ∙ append_assoc (followers a before) (if_behind a (above p) k) (children_from a (suc k) qs)

-- Parents

pred_other : (v : ℕ → ℕ → Option BondMark) (r : ℕ → ℕ → Bool) (n a k : ℕ) (qs : List ℕ) (before : List Role) → Blocks v r n k qs before → a < k
    → predecessor_of a (onto_all (text_roles v r n k qs) before) ≡ predecessor_of a before
pred_other v r n a k [] before at less = refl
pred_other v r n a k (p ∷ qs) before at less =
    let middle : List Role = onto_all (before_roles v k p qs) before in
    let rings : List Role = onto_all (ring_roles v r n k) (Atom false ∷ middle) in
    let counted = at.0.counted in
    ap (predecessor_of a) (piece_read (before_roles v k p qs) (ring_roles v r n k) (text_roles v r n (suc k) qs) (Atom false) before)
    ∙ pred_other v r n a (suc k) qs rings at.1 (omega arith)
    ∙ quiet_rings (predecessor_of a) (λ m b. refl) (λ m b. refl) v r n k (Atom false ∷ middle)
    ∙ ap (λ (t : Bool). if t then predecessor middle else predecessor_of a middle) (ne_eqb (atom_count middle) a (omega arith))
    ∙ quiet_before (predecessor_of a) (λ b. refl) (λ b. refl) (λ b. refl) (λ m b. refl) v k p qs before

pub pred_read : (v : ℕ → ℕ → Option BondMark) (r : ℕ → ℕ → Bool) (n a k i : ℕ) (qs : List ℕ) (before : List Role) → Blocks v r n k qs before → a ≡ k + i → i < length qs
    → predecessor_of a (onto_all (text_roles v r n k qs) before) ≡ above (get_or qs i 0)
pred_read v r n a k i [] before at e less = absurd (omega arith)
pred_read v r n a k zero (p ∷ qs) before at e less =
    let middle : List Role = onto_all (before_roles v k p qs) before in
    let rings : List Role = onto_all (ring_roles v r n k) (Atom false ∷ middle) in
    let block = at.0 in
    let counted = block.counted in
    let same : atom_count middle ≡ a = omega arith in
    ap (predecessor_of a) (piece_read (before_roles v k p qs) (ring_roles v r n k) (text_roles v r n (suc k) qs) (Atom false) before)
    ∙ pred_other v r n a (suc k) qs rings at.1 (omega arith)
    ∙ quiet_rings (predecessor_of a) (λ m b. refl) (λ m b. refl) v r n k (Atom false ∷ middle)
    ∙ ap (λ (t : Bool). if t then predecessor middle else predecessor_of a middle) (ap (λ (c : ℕ). c == a) same ∙ same_test a)
    ∙ block.pred
pred_read v r n a k (suc i) (p ∷ qs) before at e less =
    let middle : List Role = onto_all (before_roles v k p qs) before in
    ap (predecessor_of a) (piece_read (before_roles v k p qs) (ring_roles v r n k) (text_roles v r n (suc k) qs) (Atom false) before)
    ∙ pred_read v r n a (suc k) i qs (onto_all (ring_roles v r n k) (Atom false ∷ middle)) at.1 (omega arith) (omega arith)

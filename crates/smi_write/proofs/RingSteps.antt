-- Ring numbers that are written are read as the bonds that they were written for.
use Rattle.std.proofs.Common.{◌≡◌, ℕ, zero, suc, ◌-◌, List, [], ◌∷◌, ◌++◌, Bool, false, Option, Some, None, refl, ap, sym, ◌∙◌, subst, inl, inr, arith}
use Rattle.std.proofs.lemmas.Bool.{cases_eq}
use Rattle.std.proofs.lemmas.List.{append-nil, append_assoc}
use Rattle.smi_graph.specs.declared.text_bond.TextBond.{TextBond}
use Rattle.std.specs.Prelude.{option_to_list}
use Rattle.smi_lex.specs.declared.token.BondMark.{BondMark}
use Rattle.smi_graph.specs.declared.ring_table.RingEnd.{RingEnd}
use Rattle.smi_graph.specs.declared.role.Role.{Role}
use Rattle.smi_graph.specs.declared.role.Role.TheVariants.{Ring}
use Rattle.smi_graph.specs.Bonds.{atom_count, mark_of, ring_end, open_end, text_bond, ring_bond, text_bonds}
use Rattle.smi_graph.specs.Links.{marks_clash}
use Rattle.smi_graph.specs.Links.{marks_clash}
use Rattle.smi_graph.specs.RingRules.{some_clashes, is_clash}
use Rattle.smi_mean.specs.RingNumbers.{Pair, free_number, new_pair, opened, ending, kept, partners, onto_all, active, closing, opening}
use Rattle.smi_write.proofs.Along.{Along}
use Rattle.smi_write.proofs.RingLaw.{Opening, opening_of, open_ring, turned, end_here, open_turned, open_other, bond_to, ring_bond_is}
use Rattle.smi_write.proofs.RoleText.{mark_roles, closed_roles, opened_roles, ring_roles, links}
use Rattle.smi_write.proofs.Pairs.{opener, as_opening, minus, Distinct, opener_here, opener_other, distinct_ending, distinct_kept, kept_none, kept_opener, ending_opener, sorted_opener, sorted_distinct, free_is}

pub onto_append : {A : Type 0} → (xs ys acc : List A) → onto_all (xs ++ ys) acc ≡ onto_all ys (onto_all xs acc)
onto_append [] ys acc = refl
onto_append (x ∷ xs) ys acc = onto_append xs ys (x ∷ acc)

-- Marks

-- a symbol, or none, is read
pub record Marked (o : Option BondMark) (before after : List Role) : Type 0 where
  pub counted : atom_count after ≡ atom_count before
  pub rings : (m : ℕ) → open_ring m after ≡ open_ring m before
  pub bonds : text_bonds after ≡ text_bonds before
  pub mark : mark_of after ≡ o

pub mark_read : (o : Option BondMark) (before : List Role) → mark_of before ≡ None → Marked o before (onto_all (mark_roles o) before)
mark_read None before none = record { counted = refl; rings = λ m. refl; bonds = refl; mark = none }
mark_read (Some m) before none = record { counted = refl; rings = λ m. refl; bonds = append-nil (text_bonds before); mark = refl }

-- what is open for the reader is what is open for the writer
abbrev pub Agrees : List Role → List Pair → Type 0
Agrees before ps = (m : ℕ) → open_ring m before ≡ opener m ps

-- each of these is open for the reader
abbrev pub Known : List Role → List Pair → Type 0
Known before cs = (m : ℕ) (a : Opening) → opener m cs ≡ Some a → open_ring m before ≡ Some a

abbrev made : ℕ → Option BondMark → Option Opening
made a m = Some (record { atom = a; mark = m })

pub closed_count : (ps : List Pair) (before : List Role) → atom_count (onto_all (closed_roles ps) before) ≡ atom_count before
closed_count [] before = refl
closed_count (p ∷ ps) before = closed_count ps (Ring p.number ∷ before)

pub closed_mark : (ps : List Pair) (before : List Role) → mark_of before ≡ None → mark_of (onto_all (closed_roles ps) before) ≡ None
closed_mark [] before bare = bare
closed_mark (p ∷ ps) before bare = closed_mark ps (Ring p.number ∷ before) refl

none_some : (a : Opening) (o : Option Opening) → o ≡ None → o ≡ Some a → ⊥
none_some a o h k = cc

pub known_next : (p : Pair) (cs : List Pair) (before : List Role) → Distinct (p ∷ cs) → Known before (p ∷ cs) → Known (Ring p.number ∷ before) cs
known_next p cs before d known m a is = elim (cases_eq p.number m) [
  | inl e ↦ absurd (none_some a (opener m cs) (subst (λ (x : ℕ). opener x cs ≡ None) e d.0) is)
  | inr ne ↦ open_other p.number m before ne ∙ known m a (opener_other p cs m ne ∙ is)
]

-- closing numbers
pub close_all : (cs : List Pair) (before : List Role) → Distinct cs → Known before cs → (m : ℕ) → open_ring m (onto_all (closed_roles cs) before) ≡ minus (opener m cs) (open_ring m before)
close_all [] before d known m = refl
close_all (p ∷ cs) before d known m =
    close_all cs (Ring p.number ∷ before) d.1 (known_next p cs before d known) m
    ∙ elim (cases_eq p.number m) [
      | inl e ↦
          let none : opener m cs ≡ None = subst (λ (x : ℕ). opener x cs ≡ None) e d.0 in
          let here : open_ring m before ≡ Some (as_opening p) = known m (as_opening p) (opener_here p cs m e) in
          ap (λ (o : Option Opening). minus o (open_ring m (Ring p.number ∷ before))) none
          ∙ open_turned p.number m before e
          ∙ ap (λ (o : Option Opening). turned o (end_here before)) here
          ∙ sym (ap (λ (o : Option Opening). minus o (open_ring m before)) (opener_here p cs m e))
      | inr ne ↦
          ap (minus (opener m cs)) (open_other p.number m before ne)
          ∙ ap (λ (o : Option Opening). minus o (open_ring m before)) (sym (opener_other p cs m ne))
    ]

pub close_bonds : (cs : List Pair) (before : List Role) (k : ℕ) → atom_count before ≡ suc k → mark_of before ≡ None → Distinct cs → Known before cs
    → text_bonds (onto_all (closed_roles cs) before) ≡ text_bonds before ++ links k cs
close_bonds [] before k counted bare d known = sym (append-nil (text_bonds before))
close_bonds (p ∷ cs) before k counted bare d known =
    let here : open_ring p.number before ≡ Some (as_opening p) = known p.number (as_opening p) (opener_here p cs p.number refl) in
    let at : atom_count before - 1 ≡ k = omega arith in
    close_bonds cs (Ring p.number ∷ before) k counted refl d.1 (known_next p cs before d known)
    ∙ ap (λ (x : List TextBond). x ++ links k cs) (ap (λ (o : Option TextBond). text_bonds before ++ option_to_list o)
    (ring_bond_is p.number before
    ∙ ap (λ (o : Option Opening). bond_to o (end_here before)) here
    ∙ ap (λ (n : ℕ). Some (text_bond p.opener n p.symbol (mark_of before))) at
    ∙ ap (λ (o : Option BondMark). Some (text_bond p.opener k p.symbol o)) bare))
    ∙ append_assoc (text_bonds before) (text_bond p.opener k p.symbol None ∷ []) (links k cs)

-- opening numbers

-- what is free beside the used numbers isn't open
abbrev pub Covers : List Pair → List Pair → Type 0
Covers used act = (m : ℕ) → opener m used ≡ None → opener m act ≡ None

pub opens_next : (used act : List Pair) (before : List Role) → Agrees before act → Covers used act → open_ring (free_number used) before ≡ None
opens_next used act before agrees covers = let free = free_is used in agrees (free_number used) ∙ covers (free_number used) free.free

pub agrees_next : (p : Pair) (act : List Pair) (before : List Role) → atom_count before ≡ suc p.opener → mark_of before ≡ p.symbol → Agrees before act → open_ring p.number before ≡ None
    → Agrees (Ring p.number ∷ before) (p ∷ act)
agrees_next p act before counted mark agrees none m = elim (cases_eq p.number m) [
  | inl e ↦
      let none' : open_ring m before ≡ None = subst (λ (x : ℕ). open_ring x before ≡ None) e none in
      let at : atom_count before - 1 ≡ p.opener = omega arith in
      open_turned p.number m before e
      ∙ ap (λ (o : Option Opening). turned o (end_here before)) none'
      ∙ ap (λ (n : ℕ). made n (mark_of before)) at
      ∙ ap (made p.opener) mark
      ∙ sym (opener_here p act m e)
  | inr ne ↦ open_other p.number m before ne ∙ agrees m ∙ sym (opener_other p act m ne)
]

pub covers_next : (p : Pair) (used act : List Pair) → Covers used act → Covers (p ∷ used) (p ∷ act)
covers_next p used act covers m h = elim (cases_eq p.number m) [
  | inl e ↦ absurd (none_some (as_opening p) (opener m (p ∷ used)) h (opener_here p used m e))
  | inr ne ↦ opener_other p act m ne ∙ covers m (sym (opener_other p used m ne) ∙ h)
]

pub open_all : (v : ℕ → ℕ → Option BondMark) (ls : List ℕ) (used act : List Pair) (before : List Role) (k : ℕ) → atom_count before ≡ suc k → mark_of before ≡ None → Agrees before act → Covers used act
    → Agrees (onto_all (opened_roles (opened v used k ls)) before) (onto_all (opened v used k ls) act)
open_all v [] used act before k counted bare agrees covers = agrees
open_all v (l ∷ ls) used act before k counted bare agrees covers =
    let p : Pair = new_pair v used k l in
    let marked : List Role = onto_all (mark_roles (p.symbol)) before in
    let mk = mark_read (p.symbol) before bare in
    let agrees' : Agrees marked act = λ m. mk.rings m ∙ agrees m in
    subst (λ (x : List Role). Agrees x (onto_all (opened v (p ∷ used) k ls) (p ∷ act))) (sym (onto_append (mark_roles (p.symbol)) (Ring p.number ∷ opened_roles (opened v (p ∷ used) k ls)) before))
    (open_all v ls (p ∷ used) (p ∷ act) (Ring p.number ∷ marked) k (mk.counted ∙ counted) refl
    (agrees_next p act marked (mk.counted ∙ counted) mk.mark agrees' (opens_next used act marked agrees' covers)) (covers_next p used act covers))

pub open_bonds : (v : ℕ → ℕ → Option BondMark) (ls : List ℕ) (used act : List Pair) (before : List Role) (k : ℕ) → atom_count before ≡ suc k → mark_of before ≡ None → Agrees before act → Covers used act
    → text_bonds (onto_all (opened_roles (opened v used k ls)) before) ≡ text_bonds before
open_bonds v [] used act before k counted bare agrees covers = refl
open_bonds v (l ∷ ls) used act before k counted bare agrees covers =
    let p : Pair = new_pair v used k l in
    let marked : List Role = onto_all (mark_roles (p.symbol)) before in
    let mk = mark_read (p.symbol) before bare in
    let agrees' : Agrees marked act = λ m. mk.rings m ∙ agrees m in
    let none = opens_next used act marked agrees' covers in
    ap text_bonds (onto_append (mark_roles (p.symbol)) (Ring p.number ∷ opened_roles (opened v (p ∷ used) k ls)) before)
    ∙ open_bonds v ls (p ∷ used) (p ∷ act) (Ring p.number ∷ marked) k (mk.counted ∙ counted) refl
    (agrees_next p act marked (mk.counted ∙ counted) mk.mark agrees' none) (covers_next p used act covers)
    ∙ ap (λ (o : Option TextBond). text_bonds marked ++ option_to_list o) (ring_bond_is p.number marked ∙ ap (λ (o : Option Opening). bond_to o (end_here marked)) none)
    ∙ append-nil (text_bonds marked)
    ∙ mk.bonds

pub open_distinct : (v : ℕ → ℕ → Option BondMark) (ls : List ℕ) (used act : List Pair) (k : ℕ) → Distinct act → Covers used act → Distinct (onto_all (opened v used k ls) act)
open_distinct v [] used act k d covers = d
open_distinct v (l ∷ ls) used act k d covers =
    let p : Pair = new_pair v used k l in
    let free = free_is used in
    open_distinct v ls (p ∷ used) (p ∷ act) k (covers p.number free.free, d) (covers_next p used act covers)

pub covers_kept : (k : ℕ) (ps : List Pair) → Covers ps (kept k ps)
covers_kept k ps m h = kept_none k m ps h

pub active_distinct : (v : ℕ → ℕ → Option BondMark) (r : ℕ → ℕ → Bool) (n k : ℕ) → Distinct (active v r n k)
active_distinct v r n zero = tt
active_distinct v r n (suc k) = open_distinct v (partners r n k) (active v r n k) (kept k (active v r n k)) k (distinct_kept k (active v r n k) (active_distinct v r n k)) (covers_kept k (active v r n k))

pub known_closing : (v : ℕ → ℕ → Option BondMark) (r : ℕ → ℕ → Bool) (n k : ℕ) (before : List Role) → Agrees before (active v r n k) → Known before (closing v r n k)
known_closing v r n k before agrees m a is =
    let ps : List Pair = active v r n k in
    agrees m ∙ ending_opener k m a ps (active_distinct v r n k) (sym (sorted_opener (ending k ps) m (distinct_ending k ps (active_distinct v r n k))) ∙ is)

pub closing_distinct : (v : ℕ → ℕ → Option BondMark) (r : ℕ → ℕ → Bool) (n k : ℕ) → Distinct (closing v r n k)
closing_distinct v r n k = sorted_distinct (ending k (active v r n k)) (distinct_ending k (active v r n k) (active_distinct v r n k))

-- behind the closing numbers
pub agrees_closed : (v : ℕ → ℕ → Option BondMark) (r : ℕ → ℕ → Bool) (n k : ℕ) (before : List Role) → Agrees before (active v r n k) → Agrees (onto_all (closed_roles (closing v r n k)) before) (kept k (active v r n k))
agrees_closed v r n k before agrees m =
    let ps : List Pair = active v r n k in
    close_all (closing v r n k) before (closing_distinct v r n k) (known_closing v r n k before agrees) m
    ∙ ap (λ (o : Option Opening). minus o (open_ring m before)) (sorted_opener (ending k ps) m (distinct_ending k ps (active_distinct v r n k)))
    ∙ ap (minus (opener m (ending k ps))) (agrees m)
    ∙ sym (kept_opener k m ps (active_distinct v r n k))

-- behind the ring numbers of an atom
pub rings_agree : (v : ℕ → ℕ → Option BondMark) (r : ℕ → ℕ → Bool) (n k : ℕ) (before : List Role) → atom_count before ≡ suc k → mark_of before ≡ None → Agrees before (active v r n k)
    → Agrees (onto_all (ring_roles v r n k) before) (active v r n (suc k))
rings_agree v r n k before counted bare agrees =
    let ps : List Pair = active v r n k in
    let middle : List Role = onto_all (closed_roles (closing v r n k)) before in
    subst (λ (x : List Role). Agrees x (active v r n (suc k))) (sym (onto_append (closed_roles (closing v r n k)) (opened_roles (opening v r n k)) before))
    (open_all v (partners r n k) ps (kept k ps) middle k (closed_count (closing v r n k) before ∙ counted) (closed_mark (closing v r n k) before bare) (agrees_closed v r n k before agrees) (covers_kept k ps))

pub rings_bonds : (v : ℕ → ℕ → Option BondMark) (r : ℕ → ℕ → Bool) (n k : ℕ) (before : List Role) → atom_count before ≡ suc k → mark_of before ≡ None → Agrees before (active v r n k)
    → text_bonds (onto_all (ring_roles v r n k) before) ≡ text_bonds before ++ links k (closing v r n k)
rings_bonds v r n k before counted bare agrees =
    let ps : List Pair = active v r n k in
    let middle : List Role = onto_all (closed_roles (closing v r n k)) before in
    ap text_bonds (onto_append (closed_roles (closing v r n k)) (opened_roles (opening v r n k)) before)
    ∙ open_bonds v (partners r n k) ps (kept k ps) middle k (closed_count (closing v r n k) before ∙ counted) (closed_mark (closing v r n k) before bare) (agrees_closed v r n k before agrees) (covers_kept k ps)
    ∙ close_bonds (closing v r n k) before k counted bare (closing_distinct v r n k) (known_closing v r n k before agrees)

-- Symbols

unmarked_clash : (o : Option RingEnd) (here : RingEnd) → here.mark ≡ None → some_clashes (ring_bond o here) ≡ false
unmarked_clash None here bare = refl
unmarked_clash (Some e) here bare = ap (marks_clash e.mark) bare ∙ one_mark e.mark
  where
    one_mark : (m : Option BondMark) → marks_clash m None ≡ false
    one_mark None = refl
    one_mark (Some mark) = refl

fresh_clash : (o : Option RingEnd) (here : RingEnd) → opening_of o ≡ None → some_clashes (ring_bond o here) ≡ false
fresh_clash None here none = refl
fresh_clash (Some e) here none = cc

closing_clash : (cs : List Pair) (before : List Role) → mark_of before ≡ None → Along is_clash before → Along is_clash (onto_all (closed_roles cs) before)
closing_clash [] before bare h = h
closing_clash (p ∷ cs) before bare h = closing_clash cs (Ring p.number ∷ before) refl (h, unmarked_clash (open_end p.number before) (ring_end before) bare)

mark_clash : (o : Option BondMark) (before : List Role) → Along is_clash before → Along is_clash (onto_all (mark_roles o) before)
mark_clash None before h = h
mark_clash (Some m) before h = (h, refl)

opening_clash : (v : ℕ → ℕ → Option BondMark) (ls : List ℕ) (used act : List Pair) (before : List Role) (k : ℕ) → atom_count before ≡ suc k → mark_of before ≡ None → Agrees before act → Covers used act
    → Along is_clash before → Along is_clash (onto_all (opened_roles (opened v used k ls)) before)
opening_clash v [] used act before k counted bare agrees covers h = h
opening_clash v (l ∷ ls) used act before k counted bare agrees covers h =
    let p : Pair = new_pair v used k l in
    let marked : List Role = onto_all (mark_roles (p.symbol)) before in
    let mk = mark_read (p.symbol) before bare in
    let agrees' : Agrees marked act = λ m. mk.rings m ∙ agrees m in
    let none = opens_next used act marked agrees' covers in
    subst (λ (x : List Role). Along is_clash x) (sym (onto_append (mark_roles (p.symbol)) (Ring p.number ∷ opened_roles (opened v (p ∷ used) k ls)) before))
    (opening_clash v ls (p ∷ used) (p ∷ act) (Ring p.number ∷ marked) k (mk.counted ∙ counted) refl
    (agrees_next p act marked (mk.counted ∙ counted) mk.mark agrees' none) (covers_next p used act covers)
    (mark_clash (p.symbol) before h, fresh_clash (open_end p.number marked) (ring_end marked) none))

pub rings_clash : (v : ℕ → ℕ → Option BondMark) (r : ℕ → ℕ → Bool) (n k : ℕ) (before : List Role) → atom_count before ≡ suc k → mark_of before ≡ None → Agrees before (active v r n k)
    → Along is_clash before → Along is_clash (onto_all (ring_roles v r n k) before)
rings_clash v r n k before counted bare agrees h =
    let ps : List Pair = active v r n k in
    let middle : List Role = onto_all (closed_roles (closing v r n k)) before in
    subst (λ (x : List Role). Along is_clash x) (sym (onto_append (closed_roles (closing v r n k)) (opened_roles (opening v r n k)) before))
    (opening_clash v (partners r n k) ps (kept k ps) middle k (closed_count (closing v r n k) before ∙ counted) (closed_mark (closing v r n k) before bare)
    (agrees_closed v r n k before agrees) (covers_kept k ps) (closing_clash (closing v r n k) before bare h))

-- The ring partners of an atom stand in a written text in the written order of its places.
use Rattle.std.proofs.Common.{◌≡◌, ◌≢◌, ℕ, zero, suc, ◌+◌, ◌-◌, ◌≤◌, ◌<◌, List, [], ◌∷◌, ◌++◌, length, map, Bool, true, false, Option, Some, None, refl, ap, sym, ◌∙◌, subst, inl, inr, arith}
use Rattle.std.specs.Prelude.{◌==◌, ◌⊎◌, not, nat_le, if◌then◌else◌}
use Rattle.std.proofs.lemmas.Bool.{cases_eq}
use Rattle.std.proofs.lemmas.List.{append-nil, append_assoc}
use Rattle.smi_lex.specs.declared.token.BondMark.{BondMark}
use Rattle.smi_graph.specs.declared.ring_table.RingEnd.{RingEnd}
use Rattle.smi_graph.specs.declared.role.Role.{Role}
use Rattle.smi_graph.specs.declared.role.Role.TheVariants.{Atom, Ring, Enter, Leave}
use Rattle.smi_graph.specs.Bonds.{atom_count, mark_of, open_end}
use Rattle.smi_mean.specs.RingNumbers.{Pair, has, new_pair, opened, ending, kept, insert, sorted, partners, onto_all, active, closing, opening}
use Rattle.smi_graph.specs.TextOrder.{next_end, partner, list_if, ring_partners}
use Rattle.std.proofs.lemmas.Bool.{ne_eqb}
use Rattle.mc_mol.proofs.Halves.{same_test}
use Rattle.smi_write.proofs.Hits.{Within, active_within}
use Rattle.smi_write.proofs.Pairs.{opener, as_opening, minus, Distinct, opener_here, opener_other, none_other, distinct_ending, kept_opener, sorted_opener, free_is}
use Rattle.smi_write.proofs.RingLaw.{Opening, opening_of}
use Rattle.smi_write.proofs.RoleText.{mark_roles, closed_roles, opened_roles, ring_roles, role_if_not, before_roles, text_roles}
use Rattle.smi_write.proofs.RingSteps.{Agrees, Known, Covers, onto_append, mark_read, closed_count, closed_mark, known_next, known_closing, closing_distinct, agrees_closed, opens_next, agrees_next, covers_next, covers_kept, active_distinct}
use Rattle.smi_write.proofs.Whole.{end_none}
use Rattle.smi_write.proofs.NeighboursRead.{Blocks}

-- Tokens along which one looks

rings_before : (v : ℕ → ℕ → Option BondMark) (k p : ℕ) (qs : List ℕ) (a : ℕ) (b ys : List Role) → ring_partners a b (before_roles v k p qs ++ ys) ≡ ring_partners a (onto_all (before_roles v k p qs) b) ys
rings_before v k p qs a b ys = by_parent k p
  where
    by_parts : (x y : Bool) (o : Option BondMark)
        → ring_partners a b ((role_if_not x Leave ++ (role_if_not y Enter ++ mark_roles o)) ++ ys) ≡ ring_partners a (onto_all (role_if_not x Leave ++ (role_if_not y Enter ++ mark_roles o)) b) ys
    by_parts true true None = refl
    by_parts true true (Some m) = refl
    by_parts true false None = refl
    by_parts true false (Some m) = refl
    by_parts false true None = refl
    by_parts false true (Some m) = refl
    by_parts false false None = refl
    by_parts false false (Some m) = refl

    by_parent : (k p : ℕ) → ring_partners a b (before_roles v k p qs ++ ys) ≡ ring_partners a (onto_all (before_roles v k p qs) b) ys
    by_parent zero zero = refl
    by_parent (suc j) zero = refl
    by_parent zero (suc p) = by_parts (suc p == 0) (not (has (suc p) qs)) (v p 0)
    by_parent (suc j) (suc p) = by_parts (suc p == suc j) (not (has (suc p) qs)) (v p (suc j))

next_before : (v : ℕ → ℕ → Option BondMark) (k p : ℕ) (qs : List ℕ) (m c : ℕ) (ys : List Role) → next_end m c (before_roles v k p qs ++ ys) ≡ next_end m c ys
next_before v k p qs m c ys = by_parent k p
  where
    by_parts : (x y : Bool) (o : Option BondMark) → next_end m c ((role_if_not x Leave ++ (role_if_not y Enter ++ mark_roles o)) ++ ys) ≡ next_end m c ys
    by_parts true true None = refl
    by_parts true true (Some m) = refl
    by_parts true false None = refl
    by_parts true false (Some m) = refl
    by_parts false true None = refl
    by_parts false true (Some m) = refl
    by_parts false false None = refl
    by_parts false false (Some m) = refl

    by_parent : (k p : ℕ) → next_end m c (before_roles v k p qs ++ ys) ≡ next_end m c ys
    by_parent zero zero = refl
    by_parent (suc j) zero = refl
    by_parent zero (suc p) = by_parts (suc p == 0) (not (has (suc p) qs)) (v p 0)
    by_parent (suc j) (suc p) = by_parts (suc p == suc j) (not (has (suc p) qs)) (v p (suc j))

-- one opening number
rings_one : (a : ℕ) (o : Option BondMark) (n : ℕ) (xs ys b : List Role) → ring_partners a b ((mark_roles o ++ (Ring n ∷ xs)) ++ ys)
    ≡ list_if (atom_count b - 1 == a) (partner (open_end n (onto_all (mark_roles o) b)) (next_end n (atom_count b) (xs ++ ys))) ++ ring_partners a (Ring n ∷ onto_all (mark_roles o) b) (xs ++ ys)
rings_one a None n xs ys b = refl
rings_one a (Some m) n xs ys b = refl

next_one : (m c : ℕ) (o : Option BondMark) (n : ℕ) (xs ys : List Role) → next_end m c ((mark_roles o ++ (Ring n ∷ xs)) ++ ys) ≡ (if n == m then Some (c - 1) else next_end m c (xs ++ ys))
next_one m c None n xs ys = refl
next_one m c (Some o) n xs ys = refl

-- Numbers at another atom

marked_count : (o : Option BondMark) (b : List Role) → atom_count (onto_all (mark_roles o) b) ≡ atom_count b
marked_count None b = refl
marked_count (Some m) b = refl

pub opened_count : (ps : List Pair) (b : List Role) → atom_count (onto_all (opened_roles ps) b) ≡ atom_count b
opened_count [] b = refl
opened_count (p ∷ ps) b =
    ap atom_count (onto_append (mark_roles (p.symbol)) (Ring p.number ∷ opened_roles ps) b)
    ∙ opened_count ps (Ring p.number ∷ onto_all (mark_roles (p.symbol)) b) ∙ marked_count (p.symbol) b

closed_apart : (a : ℕ) (ps : List Pair) (b ys : List Role) → (atom_count b - 1 == a) ≡ false → ring_partners a b (closed_roles ps ++ ys) ≡ ring_partners a (onto_all (closed_roles ps) b) ys
closed_apart a [] b ys t = refl
closed_apart a (p ∷ ps) b ys t =
    ap (λ (x : Bool). list_if x (partner (open_end p.number b) (next_end p.number (atom_count b) (closed_roles ps ++ ys))) ++ ring_partners a (Ring p.number ∷ b) (closed_roles ps ++ ys)) t
    ∙ closed_apart a ps (Ring p.number ∷ b) ys t

opened_apart : (a : ℕ) (ps : List Pair) (b ys : List Role) → (atom_count b - 1 == a) ≡ false → ring_partners a b (opened_roles ps ++ ys) ≡ ring_partners a (onto_all (opened_roles ps) b) ys
opened_apart a [] b ys t = refl
opened_apart a (p ∷ ps) b ys t =
    let marked : List Role = onto_all (mark_roles (p.symbol)) b in
    rings_one a (p.symbol) p.number (opened_roles ps) ys b
    ∙ ap (λ (x : Bool). list_if x (partner (open_end p.number marked) (next_end p.number (atom_count b) (opened_roles ps ++ ys))) ++ ring_partners a (Ring p.number ∷ marked) (opened_roles ps ++ ys)) t
    ∙ opened_apart a ps (Ring p.number ∷ marked) ys (ap (λ (c : ℕ). c - 1 == a) (marked_count (p.symbol) b) ∙ t)
    ∙ ap (λ (x : List Role). ring_partners a x ys) (sym (onto_append (mark_roles (p.symbol)) (Ring p.number ∷ opened_roles ps) b))

rings_apart : (v : ℕ → ℕ → Option BondMark) (r : ℕ → ℕ → Bool) (n a k : ℕ) (b ys : List Role) → atom_count b ≡ suc k → k ≢ a
    → ring_partners a b (ring_roles v r n k ++ ys) ≡ ring_partners a (onto_all (ring_roles v r n k) b) ys
rings_apart v r n a k b ys counted ne =
    let t : (atom_count b - 1 == a) ≡ false = ne_eqb (atom_count b - 1) a (omega arith) in
    ap (ring_partners a b) (append_assoc (closed_roles (closing v r n k)) (opened_roles (opening v r n k)) ys)
    ∙ closed_apart a (closing v r n k) b (opened_roles (opening v r n k) ++ ys) t
    ∙ opened_apart a (opening v r n k) (onto_all (closed_roles (closing v r n k)) b) ys (ap (λ (c : ℕ). c - 1 == a) (closed_count (closing v r n k) b) ∙ t)
    ∙ ap (λ (x : List Role). ring_partners a x ys) (sym (onto_append (closed_roles (closing v r n k)) (opened_roles (opening v r n k)) b))

-- Closing numbers

abbrev opening_atom : Option Opening → Option ℕ
opening_atom None = None
opening_atom (Some x) = Some x.atom

open_partner : (o : Option RingEnd) (x : Opening) (next : Option ℕ) → opening_of o ≡ Some x → partner o next ≡ Some x.atom
open_partner None x next h = cc
open_partner (Some e) x next h = ap opening_atom h

closed_here : (a : ℕ) (cs : List Pair) (b ys : List Role) → atom_count b ≡ suc a → Distinct cs → Known b cs
    → ring_partners a b (closed_roles cs ++ ys) ≡ map (λ p. p.opener) cs ++ ring_partners a (onto_all (closed_roles cs) b) ys
closed_here a [] b ys counted d known = refl
closed_here a (p ∷ cs) b ys counted d known =
    let same : atom_count b - 1 ≡ a = omega arith in
    let t : (atom_count b - 1 == a) ≡ true = ap (λ (c : ℕ). c == a) same ∙ same_test a in
    let rest : List ℕ = ring_partners a (Ring p.number ∷ b) (closed_roles cs ++ ys) in
    let next : Option ℕ = next_end p.number (atom_count b) (closed_roles cs ++ ys) in
    ap (λ (x : Bool). list_if x (partner (open_end p.number b) next) ++ rest) t
    ∙ ap (λ (o : Option ℕ). list_if true o ++ rest) (open_partner (open_end p.number b) (as_opening p) next (known p.number (as_opening p) (opener_here p cs p.number refl)))
    ∙ ap (λ (x : List ℕ). p.opener ∷ x) (closed_here a cs (Ring p.number ∷ b) ys counted d.1 (known_next p cs b d known))

-- Opening numbers

-- each of these numbers stands next beside its partner
abbrev Finds : ℕ → List Role → List Pair → Type 0
Finds c ys [] = Unit {0}
Finds c ys (p ∷ ps) = (next_end p.number c ys ≡ Some p.partner) × Finds c ys ps

-- a number in use isn't opened again
skip_opened : (v : ℕ → ℕ → Option BondMark) (m k c : ℕ) (ls : List ℕ) (used : List Pair) (ys : List Role) → (opener m used ≡ None → ⊥)
    → next_end m c (opened_roles (opened v used k ls) ++ ys) ≡ next_end m c ys
skip_opened v m k c [] used ys some = refl
skip_opened v m k c (l ∷ ls) used ys some =
    let p : Pair = new_pair v used k l in
    let ne : p.number ≢ m = λ e. some (subst (λ (x : ℕ). opener x used ≡ None) e (free_is used).free) in
    next_one m c (p.symbol) p.number (opened_roles (opened v (p ∷ used) k ls)) ys
    ∙ ap (λ (t : Bool). if t then Some (c - 1) else next_end m c (opened_roles (opened v (p ∷ used) k ls) ++ ys)) (ne_eqb p.number m ne)
    ∙ skip_opened v m k c ls (p ∷ used) ys (λ h. some (sym (opener_other p used m ne) ∙ h))

skip_closed : (m c : ℕ) (cs : List Pair) (ys : List Role) → opener m cs ≡ None → next_end m c (closed_roles cs ++ ys) ≡ next_end m c ys
skip_closed m c [] ys none = refl
skip_closed m c (p ∷ cs) ys none =
    let other = none_other p cs m none in
    ap (λ (t : Bool). if t then Some (c - 1) else next_end m c (closed_roles cs ++ ys)) (ne_eqb p.number m other.0) ∙ skip_closed m c cs ys other.1

opened_here : (v : ℕ → ℕ → Option BondMark) (a : ℕ) (ls : List ℕ) (used act : List Pair) (b ys : List Role) → atom_count b ≡ suc a → mark_of b ≡ None → Agrees b act → Covers used act
    → Finds (suc a) ys (opened v used a ls)
    → ring_partners a b (opened_roles (opened v used a ls) ++ ys) ≡ ls ++ ring_partners a (onto_all (opened_roles (opened v used a ls)) b) ys
opened_here v a [] used act b ys counted bare agrees covers finds = refl
opened_here v a (l ∷ ls) used act b ys counted bare agrees covers finds =
    let p : Pair = new_pair v used a l in
    let more : List Role = opened_roles (opened v (p ∷ used) a ls) in
    let marked : List Role = onto_all (mark_roles (p.symbol)) b in
    let mk = mark_read (p.symbol) b bare in
    let agrees' : Agrees marked act = λ m. mk.rings m ∙ agrees m in
    let none = opens_next used act marked agrees' covers in
    let same : atom_count b - 1 ≡ a = omega arith in
    let t : (atom_count b - 1 == a) ≡ true = ap (λ (c : ℕ). c == a) same ∙ same_test a in
    let rest : List ℕ = ring_partners a (Ring p.number ∷ marked) (more ++ ys) in
    let in_use : opener p.number (p ∷ used) ≡ None → ⊥ = λ h. some_none (as_opening p) (opener p.number (p ∷ used)) (opener_here p used p.number refl) h in
    rings_one a (p.symbol) p.number more ys b
    ∙ ap (λ (x : Bool). list_if x (partner (open_end p.number marked) (next_end p.number (atom_count b) (more ++ ys))) ++ rest) t
    ∙ ap (λ (o : Option RingEnd). list_if true (partner o (next_end p.number (atom_count b) (more ++ ys))) ++ rest) (end_none (open_end p.number marked) none)
    ∙ ap (λ (o : Option ℕ). list_if true o ++ rest)
    (ap (λ (c : ℕ). next_end p.number c (more ++ ys)) counted ∙ skip_opened v p.number a (suc a) ls (p ∷ used) ys in_use ∙ finds.0)
    ∙ ap (λ (x : List ℕ). l ∷ x)
    (opened_here v a ls (p ∷ used) (p ∷ act) (Ring p.number ∷ marked) ys (mk.counted ∙ counted) refl
    (agrees_next p act marked (mk.counted ∙ counted) mk.mark agrees' none) (covers_next p used act covers) finds.1
    ∙ ap (λ (x : List Role). ls ++ ring_partners a x ys) (sym (onto_append (mark_roles (p.symbol)) (Ring p.number ∷ more) b)))
  where
    some_none : (x : Opening) (o : Option Opening) → o ≡ Some x → o ≡ None → ⊥
    some_none x o h k = cc

-- all numbers at an atom
rings_here : (v : ℕ → ℕ → Option BondMark) (r : ℕ → ℕ → Bool) (n a : ℕ) (b ys : List Role) → atom_count b ≡ suc a → mark_of b ≡ None → Agrees b (active v r n a)
    → Finds (suc a) ys (opening v r n a)
    → ring_partners a b (ring_roles v r n a ++ ys) ≡ (map (λ p. p.opener) (closing v r n a) ++ partners r n a) ++ ring_partners a (onto_all (ring_roles v r n a) b) ys
rings_here v r n a b ys counted bare agrees finds =
    let cs : List Pair = closing v r n a in
    let closers : List ℕ = map (λ (p : Pair). p.opener) cs in
    let middle : List Role = onto_all (closed_roles cs) b in
    ap (ring_partners a b) (append_assoc (closed_roles cs) (opened_roles (opening v r n a)) ys)
    ∙ closed_here a cs b (opened_roles (opening v r n a) ++ ys) counted (closing_distinct v r n a) (known_closing v r n a b agrees)
    ∙ ap (λ (x : List ℕ). closers ++ x)
    (opened_here v a (partners r n a) (active v r n a) (kept a (active v r n a)) middle ys (closed_count cs b ∙ counted) (closed_mark cs b bare) (agrees_closed v r n a b agrees) (covers_kept a (active v r n a)) finds
    ∙ ap (λ (x : List Role). partners r n a ++ ring_partners a x ys) (sym (onto_append (closed_roles cs) (opened_roles (opening v r n a)) b)))
    ∙ sym (append_assoc closers (partners r n a) (ring_partners a (onto_all (ring_roles v r n a) b) ys))

-- Where an open number closes

abbrev pub In : Pair → List Pair → Type 0
In p [] = ⊥
In p (q ∷ qs) = (q ≡ p) ⊎ In p qs

in_onto_right : (p : Pair) (xs ys : List Pair) → In p ys → In p (onto_all xs ys)
in_onto_right p [] ys h = h
in_onto_right p (x ∷ xs) ys h = in_onto_right p xs (x ∷ ys) (inr h)

in_onto_left : (p : Pair) (xs ys : List Pair) → In p xs → In p (onto_all xs ys)
in_onto_left p [] ys h = absurd h
in_onto_left p (x ∷ xs) ys (inl e) = in_onto_right p xs (x ∷ ys) (inl e)
in_onto_left p (x ∷ xs) ys (inr h) = in_onto_left p xs (x ∷ ys) h

in_ending : (p : Pair) (k : ℕ) (ps : List Pair) → p.partner ≡ k → In p ps → In p (ending k ps)
in_ending p k [] e h = absurd h
in_ending p k (q ∷ ps) e (inl same) =
    let t : (q.partner == k) ≡ true = ap (λ (x : Pair). x.partner == k) same ∙ ap (λ (x : ℕ). x == k) e ∙ same_test k in
    subst (λ (x : Bool). In p (if x then q ∷ ending k ps else ending k ps)) (sym t) (inl same)
in_ending p k (q ∷ ps) e (inr h) = by_test (q.partner == k) (in_ending p k ps e h)
  where
    by_test : (t : Bool) → In p (ending k ps) → In p (if t then q ∷ ending k ps else ending k ps)
    by_test true h = inr h
    by_test false h = h

in_kept : (p : Pair) (k : ℕ) (ps : List Pair) → p.partner ≢ k → In p ps → In p (kept k ps)
in_kept p k [] ne h = absurd h
in_kept p k (q ∷ ps) ne (inl same) =
    let t : (q.partner == k) ≡ false = ap (λ (x : Pair). x.partner == k) same ∙ ne_eqb p.partner k ne in
    subst (λ (x : Bool). In p (if x then kept k ps else q ∷ kept k ps)) (sym t) (inl same)
in_kept p k (q ∷ ps) ne (inr h) = by_test (q.partner == k) (in_kept p k ps ne h)
  where
    by_test : (t : Bool) → In p (kept k ps) → In p (if t then kept k ps else q ∷ kept k ps)
    by_test true h = h
    by_test false h = inr h

in_insert : (p q : Pair) (qs : List Pair) → In p (q ∷ qs) → In p (insert q qs)
in_insert p q [] h = h
in_insert p q (x ∷ qs) h = by_test (nat_le q.number x.number) (λ g. in_insert p q qs g) h
  where
    by_test : (t : Bool) → (In p (q ∷ qs) → In p (insert q qs)) → In p (q ∷ x ∷ qs) → In p (if t then q ∷ x ∷ qs else x ∷ insert q qs)
    by_test true more h = h
    by_test false more (inl e) = inr (more (inl e))
    by_test false more (inr (inl e)) = inl e
    by_test false more (inr (inr h)) = inr (more (inr h))

in_sorted : (p : Pair) (ps : List Pair) → In p ps → In p (sorted ps)
in_sorted p [] h = h
in_sorted p (q ∷ ps) (inl e) = in_insert p q (sorted ps) (inl e)
in_sorted p (q ∷ ps) (inr h) = in_insert p q (sorted ps) (inr (in_sorted p ps h))

pub in_opener : (p : Pair) (ps : List Pair) → In p ps → opener p.number ps ≡ None → ⊥
in_opener p [] h none = h
in_opener p (q ∷ ps) (inl e) none = (none_other q ps p.number none).0 (ap (λ (x : Pair). x.number) e)
in_opener p (q ∷ ps) (inr h) none = in_opener p ps h (none_other q ps p.number none).1

within_in : (p : Pair) (k n : ℕ) (ps : List Pair) → Within k n ps → In p ps → (k ≤ p.partner) × (p.partner < n)
within_in p k n [] w h = absurd h
within_in p k n (q ∷ ps) w (inl e) = subst (λ (x : Pair). (k ≤ x.partner) × (x.partner < n)) e w.0
within_in p k n (q ∷ ps) w (inr h) = within_in p k n ps w.1 h

found_closed : (p : Pair) (c : ℕ) (cs : List Pair) (ys : List Role) → In p cs → next_end p.number c (closed_roles cs ++ ys) ≡ Some (c - 1)
found_closed p c [] ys h = absurd h
found_closed p c (q ∷ cs) ys h = elim (cases_eq q.number p.number) [
  | inl e ↦
      ap (λ (t : Bool). if t then Some (c - 1) else next_end p.number c (closed_roles cs ++ ys)) (ap (λ (x : ℕ). x == p.number) e ∙ same_test p.number)
  | inr ne ↦
      ap (λ (t : Bool). if t then Some (c - 1) else next_end p.number c (closed_roles cs ++ ys)) (ne_eqb q.number p.number ne)
      ∙ found_closed p c cs ys (later h ne)
]
  where
    later : In p (q ∷ cs) → q.number ≢ p.number → In p cs
    later (inl same) ne = absurd (ne (ap (λ (x : Pair). x.number) same))
    later (inr h) ne = h

-- what stays open behind an atom doesn't close there
stays : (p : Pair) (k : ℕ) (ps : List Pair) → Distinct ps → In p (kept k ps) → opener p.number (sorted (ending k ps)) ≡ None
stays p k ps d h = sorted_opener (ending k ps) p.number (distinct_ending k ps d) ∙ none (opener p.number (ending k ps)) refl
  where
    none : (o : Option Opening) → opener p.number (ending k ps) ≡ o → o ≡ None
    none None e = refl
    none (Some x) e = absurd (in_opener p (kept k ps) h (kept_opener k p.number ps d ∙ ap (λ (o : Option Opening). minus o (opener p.number ps)) e))

pub find : (v : ℕ → ℕ → Option BondMark) (r : ℕ → ℕ → Bool) (n k : ℕ) (qs : List ℕ) (p : Pair) → In p (active v r n k) → k + length qs ≡ n → next_end p.number k (text_roles v r n k qs) ≡ Some p.partner
find v r n k [] p h end = let w = within_in p k n (active v r n k) (active_within v r n k) h in let a = w.0 in let b = w.1 in absurd (omega arith)
find v r n k (q ∷ qs) p h end =
    let act : List Pair = active v r n k in
    let cs : List Pair = closing v r n k in
    let text : List Role = text_roles v r n (suc k) qs in
    next_before v k q qs p.number k (Atom false ∷ (ring_roles v r n k ++ text))
    ∙ ap (next_end p.number (suc k)) (append_assoc (closed_roles cs) (opened_roles (opening v r n k)) text)
    ∙ elim (cases_eq p.partner k) [
      | inl e ↦
          found_closed p (suc k) cs (opened_roles (opening v r n k) ++ text) (in_sorted p (ending k act) (in_ending p k act e h))
          ∙ ap (λ (x : ℕ). Some x) (let one : suc k - 1 ≡ p.partner = omega arith in one)
      | inr ne ↦
          skip_closed p.number (suc k) cs (opened_roles (opening v r n k) ++ text) (stays p k act (active_distinct v r n k) (in_kept p k act ne h))
          ∙ skip_opened v p.number k (suc k) (partners r n k) act text (in_opener p act h)
          ∙ find v r n (suc k) qs p (in_onto_right p (opening v r n k) (kept k act) (in_kept p k act ne h)) (omega arith)
    ]

finds_all : (v : ℕ → ℕ → Option BondMark) (r : ℕ → ℕ → Bool) (n k : ℕ) (qs : List ℕ) (ps : List Pair) → ((p : Pair) → In p ps → In p (active v r n k)) → k + length qs ≡ n
    → Finds k (text_roles v r n k qs) ps
finds_all v r n k qs [] are end = tt
finds_all v r n k qs (p ∷ ps) are end = (find v r n k qs p (are p (inl refl)) end, finds_all v r n k qs ps (λ q h. are q (inr h)) end)

-- The whole text

text_apart : (v : ℕ → ℕ → Option BondMark) (r : ℕ → ℕ → Bool) (n a k : ℕ) (qs : List ℕ) (before : List Role) → Blocks v r n k qs before → a < k → ring_partners a before (text_roles v r n k qs) ≡ []
text_apart v r n a k [] before at less = refl
text_apart v r n a k (p ∷ qs) before at less =
    let middle : List Role = onto_all (before_roles v k p qs) before in
    let counted = at.0.counted in
    rings_before v k p qs a before (Atom false ∷ (ring_roles v r n k ++ text_roles v r n (suc k) qs))
    ∙ rings_apart v r n a k (Atom false ∷ middle) (text_roles v r n (suc k) qs) (omega arith) (omega arith)
    ∙ text_apart v r n a (suc k) qs (onto_all (ring_roles v r n k) (Atom false ∷ middle)) at.1 (omega arith)

-- The ring partners of an atom in the order in which their numbers stand: those whose numbers close, in the order of the
-- numbers, and those whose numbers open, in the order in which they are written.
pub rings_read : (v : ℕ → ℕ → Option BondMark) (r : ℕ → ℕ → Bool) (n a k : ℕ) (qs : List ℕ) (before : List Role) → Blocks v r n k qs before → k ≤ a → a < n → k + length qs ≡ n
    → ring_partners a before (text_roles v r n k qs) ≡ map (λ p. p.opener) (closing v r n a) ++ partners r n a
rings_read v r n a k [] before at le less end = absurd (omega arith)
rings_read v r n a k (p ∷ qs) before at le less end =
    let middle : List Role = onto_all (before_roles v k p qs) before in
    let counted = at.0.counted in
    rings_before v k p qs a before (Atom false ∷ (ring_roles v r n k ++ text_roles v r n (suc k) qs))
    ∙ elim (cases_eq k a) [
      | inl e ↦
          let at' : Blocks v r n (suc k) qs (onto_all (ring_roles v r n k) (Atom false ∷ middle)) = at.1 in
          let found : ring_partners k (Atom false ∷ middle) (ring_roles v r n k ++ text_roles v r n (suc k) qs) ≡ map (λ (p : Pair). p.opener) (closing v r n k) ++ partners r n k =
          rings_here v r n k (Atom false ∷ middle) (text_roles v r n (suc k) qs) (omega arith) refl at.0.agrees
          (finds_all v r n (suc k) qs (opening v r n k) (λ q h. in_onto_left q (opening v r n k) (kept k (active v r n k)) h) (omega arith))
          ∙ ap (λ (x : List ℕ). (map (λ (p : Pair). p.opener) (closing v r n k) ++ partners r n k) ++ x) (text_apart v r n k (suc k) qs (onto_all (ring_roles v r n k) (Atom false ∷ middle)) at' (omega arith))
          ∙ append-nil (map (λ (p : Pair). p.opener) (closing v r n k) ++ partners r n k) in
          subst (λ (x : ℕ). ring_partners x (Atom false ∷ middle) (ring_roles v r n k ++ text_roles v r n (suc k) qs) ≡ map (λ (p : Pair). p.opener) (closing v r n x) ++ partners r n x) e found
      | inr ne ↦
          rings_apart v r n a k (Atom false ∷ middle) (text_roles v r n (suc k) qs) (omega arith) ne
          ∙ rings_read v r n a (suc k) qs (onto_all (ring_roles v r n k) (Atom false ∷ middle)) at.1 (omega arith) less (omega arith)
    ]

-- Open ring numbers as a look-up by number.
use Rattle.std.proofs.Common.{◌≡◌, ◌≢◌, ℕ, zero, suc, ◌+◌, ◌≤◌, ◌<◌, List, [], ◌∷◌, length, Bool, true, false, Option, Some, None, refl, ap, sym, ◌∙◌, subst, inl, inr, arith}
use Rattle.std.specs.Prelude.{◌==◌, ◌⊎◌, not, nat_le, if◌then◌else◌}
use Rattle.std.proofs.lemmas.Bool.{cases_eq, false≢true, ne_eqb, or_parts, not-true, not-false}
use Rattle.std.proofs.lemmas.List.{length-map}
use Rattle.mc_mol.proofs.Halves.{same_test}
use Rattle.smi_mean.specs.Order.{least}
use Rattle.smi_mean.specs.RingNumbers.{Pair, has, value, numbers, free_number, ending, kept, insert, sorted}
use Rattle.smi_write.proofs.Least.{least_all, least_some}
use Rattle.smi_write.proofs.RingLaw.{Opening}
use Rattle.smi_write.proofs.Counting.{count, count_none, count_all, count_more}

abbrev pub as_opening : Pair → Opening
as_opening p = record { atom = p.opener; mark = p.symbol }

-- how number m was opened
abbrev pub opener : ℕ → List Pair → Option Opening
opener m [] = None
opener m (p ∷ ps) = if p.number == m then Some (as_opening p) else opener m ps

-- what is left where the first stands
abbrev pub minus : Option Opening → Option Opening → Option Opening
minus None o = o
minus (Some x) o = None

abbrev pub Distinct : List Pair → Type 0
Distinct [] = Unit {0}
Distinct (p ∷ ps) = (opener p.number ps ≡ None) × Distinct ps

pub opener_here : (p : Pair) (ps : List Pair) (m : ℕ) → p.number ≡ m → opener m (p ∷ ps) ≡ Some (as_opening p)
opener_here p ps m e = let t : (p.number == m) ≡ true = ap (λ (x : ℕ). x == m) e ∙ same_test m in rw t refl

pub opener_other : (p : Pair) (ps : List Pair) (m : ℕ) → p.number ≢ m → opener m (p ∷ ps) ≡ opener m ps
opener_other p ps m ne = rw (ne_eqb p.number m ne) refl

pub none_other : (p : Pair) (ps : List Pair) (m : ℕ) → opener m (p ∷ ps) ≡ None → (p.number ≢ m) × (opener m ps ≡ None)
none_other p ps m h = elim (cases_eq p.number m) [
  | inl e ↦ let s = opener_here p ps m e in absurd (some_none (sym s ∙ h))
  | inr ne ↦ (ne, sym (opener_other p ps m ne) ∙ h)
]
  where
    some_none : Some (as_opening p) ≡ None → ⊥
    some_none h = cc

pub ending_none : (k m : ℕ) (ps : List Pair) → opener m ps ≡ None → opener m (ending k ps) ≡ None
ending_none k m [] h = refl
ending_none k m (p ∷ ps) h = let r = none_other p ps m h in by_test (p.partner == k) r.0 (ending_none k m ps r.1)
  where
    by_test : (b : Bool) → p.number ≢ m → opener m (ending k ps) ≡ None → opener m (if b then p ∷ ending k ps else ending k ps) ≡ None
    by_test true ne h = opener_other p (ending k ps) m ne ∙ h
    by_test false ne h = h

pub kept_none : (k m : ℕ) (ps : List Pair) → opener m ps ≡ None → opener m (kept k ps) ≡ None
kept_none k m [] h = refl
kept_none k m (p ∷ ps) h = let r = none_other p ps m h in by_test (p.partner == k) r.0 (kept_none k m ps r.1)
  where
    by_test : (b : Bool) → p.number ≢ m → opener m (kept k ps) ≡ None → opener m (if b then kept k ps else p ∷ kept k ps) ≡ None
    by_test true ne h = h
    by_test false ne h = opener_other p (kept k ps) m ne ∙ h

pub distinct_ending : (k : ℕ) (ps : List Pair) → Distinct ps → Distinct (ending k ps)
distinct_ending k [] d = tt
distinct_ending k (p ∷ ps) d = by_test (p.partner == k) (distinct_ending k ps d.1)
  where
    by_test : (b : Bool) → Distinct (ending k ps) → Distinct (if b then p ∷ ending k ps else ending k ps)
    by_test true h = (ending_none k p.number ps d.0, h)
    by_test false h = h

pub distinct_kept : (k : ℕ) (ps : List Pair) → Distinct ps → Distinct (kept k ps)
distinct_kept k [] d = tt
distinct_kept k (p ∷ ps) d = by_test (p.partner == k) (distinct_kept k ps d.1)
  where
    by_test : (b : Bool) → Distinct (kept k ps) → Distinct (if b then kept k ps else p ∷ kept k ps)
    by_test true h = h
    by_test false h = (kept_none k p.number ps d.0, h)

-- what is kept is what doesn't end
pub kept_opener : (k m : ℕ) (ps : List Pair) → Distinct ps → opener m (kept k ps) ≡ minus (opener m (ending k ps)) (opener m ps)
kept_opener k m [] d = refl
kept_opener k m (p ∷ ps) d = by_test (p.partner == k) (cases_eq p.number m) (kept_opener k m ps d.1)
  where
    by_test : (b : Bool) → (p.number ≡ m) ⊎ (p.number ≢ m) → opener m (kept k ps) ≡ minus (opener m (ending k ps)) (opener m ps)
        → opener m (if b then kept k ps else p ∷ kept k ps) ≡ minus (opener m (if b then p ∷ ending k ps else ending k ps)) (opener m (p ∷ ps))
    by_test true (inl e) h =
        let none : opener m ps ≡ None = subst (λ (x : ℕ). opener x ps ≡ None) e d.0 in
        kept_none k m ps none ∙ sym (ap (λ (o : Option Opening). minus o (opener m (p ∷ ps))) (opener_here p (ending k ps) m e))
    by_test false (inl e) h =
        let none : opener m ps ≡ None = subst (λ (x : ℕ). opener x ps ≡ None) e d.0 in
        opener_here p (kept k ps) m e ∙ sym (opener_here p ps m e) ∙ sym (ap (λ (o : Option Opening). minus o (opener m (p ∷ ps))) (ending_none k m ps none))
    by_test true (inr ne) h = rw (ne_eqb p.number m ne) h
    by_test false (inr ne) h = rw (ne_eqb p.number m ne) h

pub ending_opener : (k m : ℕ) (a : Opening) (ps : List Pair) → Distinct ps → opener m (ending k ps) ≡ Some a → opener m ps ≡ Some a
ending_opener k m a [] d is = is
ending_opener k m a (p ∷ ps) d is = by_test (p.partner == k) (cases_eq p.number m) (ending_opener k m a ps d.1) is
  where
    by_test : (b : Bool) → (p.number ≡ m) ⊎ (p.number ≢ m) → (opener m (ending k ps) ≡ Some a → opener m ps ≡ Some a)
        → opener m (if b then p ∷ ending k ps else ending k ps) ≡ Some a → opener m (p ∷ ps) ≡ Some a
    by_test true (inl e) h is = opener_here p ps m e ∙ sym (opener_here p (ending k ps) m e) ∙ is
    by_test false (inl e) h is = let none : opener m ps ≡ None = subst (λ (x : ℕ). opener x ps ≡ None) e d.0 in let z = ending_none k m ps none in cc
    by_test true (inr ne) h is = opener_other p ps m ne ∙ h (sym (opener_other p (ending k ps) m ne) ∙ is)
    by_test false (inr ne) h is = opener_other p ps m ne ∙ h is

-- Sorting

pub insert_opener : (p : Pair) (qs : List Pair) (m : ℕ) → opener p.number qs ≡ None → opener m (insert p qs) ≡ opener m (p ∷ qs)
insert_opener p [] m h = refl
insert_opener p (q ∷ qs) m h = let r = none_other q qs p.number h in by_test (nat_le p.number q.number) (cases_eq q.number m) r.0 (insert_opener p qs m r.1)
  where
    by_test : (b : Bool) → (q.number ≡ m) ⊎ (q.number ≢ m) → q.number ≢ p.number → opener m (insert p qs) ≡ opener m (p ∷ qs)
        → opener m (if b then p ∷ q ∷ qs else q ∷ insert p qs) ≡ opener m (p ∷ q ∷ qs)
    by_test true c ne h = refl
    by_test false (inl e) ne h = opener_here q (insert p qs) m e ∙ sym (opener_here q qs m e) ∙ sym (opener_other p (q ∷ qs) m (λ e'. ne (e ∙ sym e')))
    by_test false (inr o) ne h = opener_other q (insert p qs) m o ∙ h ∙ rw (ne_eqb q.number m o) refl

pub insert_distinct : (p : Pair) (qs : List Pair) → opener p.number qs ≡ None → Distinct qs → Distinct (insert p qs)
insert_distinct p [] h d = (refl, tt)
insert_distinct p (q ∷ qs) h d = let r = none_other q qs p.number h in by_test (nat_le p.number q.number) r.0 r.1 (insert_distinct p qs r.1 d.1)
  where
    by_test : (b : Bool) → q.number ≢ p.number → opener p.number qs ≡ None → Distinct (insert p qs) → Distinct (if b then p ∷ q ∷ qs else q ∷ insert p qs)
    by_test true ne none i = (h, d)
    by_test false ne none i = (insert_opener p qs q.number none ∙ opener_other p qs q.number (λ e. ne (sym e)) ∙ d.0, i)

pub sorted_opener : (ps : List Pair) (m : ℕ) → Distinct ps → opener m (sorted ps) ≡ opener m ps
sorted_opener [] m d = refl
sorted_opener (p ∷ ps) m d =
    insert_opener p (sorted ps) m (sorted_opener ps p.number d.1 ∙ d.0)
    ∙ ap (λ (o : Option Opening). if p.number == m then Some (as_opening p) else o) (sorted_opener ps m d.1)

pub sorted_distinct : (ps : List Pair) → Distinct ps → Distinct (sorted ps)
sorted_distinct [] d = tt
sorted_distinct (p ∷ ps) d = insert_distinct p (sorted ps) (sorted_opener ps p.number d.1 ∙ d.0) (sorted_distinct ps d.1)

-- Free numbers

count_has : (xs : List ℕ) (n : ℕ) → count (λ v. has v xs) n ≤ length xs
count_has [] n = let c = count_none (λ v. has v []) n (λ v less. refl) in omega arith
count_has (x ∷ xs) n =
    let c = count_more (λ v. has v xs) (λ v. has v (x ∷ xs)) x n (λ v ne. rw (ne_eqb x v (λ e. ne (sym e))) refl) (rw (same_test x) refl) in
    let r = count_has xs n in omega arith

has_none : (ps : List Pair) (m : ℕ) → has m (numbers ps) ≡ false → opener m ps ≡ None
has_none [] m h = refl
has_none (p ∷ ps) m h = let r = or_parts (p.number == m) (has m (numbers ps)) h in rw r.0 (has_none ps m r.1)

pub record IsFree (used : List Pair) (m : ℕ) : Type 0 where
  pub positive : 0 < m
  pub free : opener m used ≡ None
  pub few : m < length used + 2

pub free_is : (used : List Pair) → IsFree used (free_number used)
free_is used = by_least (least (λ n. not (has n (0 ∷ numbers used))) (length used + 2)) refl
  where
    by_least : (o : Option ℕ) → least (λ n. not (has n (0 ∷ numbers used))) (length used + 2) ≡ o → IsFree used (value o)
    by_least None e =
        let all = count_all (λ v. has v (0 ∷ numbers used)) (length used + 2) (λ v less. not-false _ (least_all (λ n. not (has n (0 ∷ numbers used))) (length used + 2) e v less)) in
        let c = count_has (0 ∷ numbers used) (length used + 2) in
        let len = length-map used (λ p. p.number) in
        absurd (omega arith)
    by_least (Some m) e =
        let l = least_some (λ n. not (has n (0 ∷ numbers used))) (length used + 2) m e in
        let r = or_parts (0 == m) (has m (numbers used)) (not-true _ l.passes) in
        record { positive = positive m r.0; free = has_none used m r.1; few = l.below }
      where
        positive : (m : ℕ) → (0 == m) ≡ false → 0 < m
        positive zero h = absurd (false≢true (sym h))
        positive (suc m) h = omega arith

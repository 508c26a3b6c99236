-- How often an atom pair stands among open ring numbers and among bonds.
use Rattle.std.specs.Prelude.{Option}
use Rattle.smi_lex.specs.declared.token.BondMark.{BondMark}
use Rattle.std.proofs.Common.{◌≡◌, ◌≢◌, ℕ, zero, suc, ◌+◌, ◌≤◌, ◌<◌, List, [], ◌∷◌, ◌++◌, Bool, true, false, refl, ap, sym, ◌∙◌, subst, inl, inr, arith}
use Rattle.std.specs.Prelude.{◌==◌, ◌&&◌, nat_le, nat_lt, if◌then◌else◌}
use Rattle.std.proofs.lemmas.Bool.{cases_eq, cases_lt, and_right, ne_eqb}
use Rattle.std.proofs.lemmas.Bool.Decides.{nat_tests}
use Rattle.std.proofs.Math.Bool.{and-true}
use Rattle.mc_mol.proofs.Halves.{same_test}
pub use Rattle.smi_graph.proofs.NeighbourCount.{occurs, occurs_append}
pub use Rattle.smi_graph.proofs.Waiting.{bit}
use Rattle.smi_mean.specs.RingNumbers.{Pair, new_pair, opened, ending, kept, insert, sorted, passing, partners, onto_all, active, closing}

-- how many of these have this opener and this partner
abbrev pub pair_count : ℕ → ℕ → List Pair → ℕ
pair_count j l [] = 0
pair_count j l (p ∷ ps) = bit (p.opener == j && p.partner == l) + pair_count j l ps

abbrev pub opener_count : ℕ → List Pair → ℕ
opener_count j [] = 0
opener_count j (p ∷ ps) = bit (p.opener == j) + opener_count j ps

pair_onto : (j l : ℕ) (xs ys : List Pair) → pair_count j l (onto_all xs ys) ≡ pair_count j l xs + pair_count j l ys
pair_onto j l [] ys = omega arith
pair_onto j l (x ∷ xs) ys = let h = pair_onto j l xs (x ∷ ys) in h ∙ omega arith

kept_same : (j k : ℕ) (ps : List Pair) → pair_count j k (kept k ps) ≡ 0
kept_same j k [] = refl
kept_same j k (p ∷ ps) = elim (cases_eq p.partner k) [
  | inl e ↦ let t : (p.partner == k) ≡ true = ap (λ (x : ℕ). x == k) e ∙ same_test k in rw t (kept_same j k ps)
  | inr ne ↦ rw (ne_eqb p.partner k ne, and_right (p.opener == j) (p.partner == k) (ne_eqb p.partner k ne)) (let h = kept_same j k ps in omega arith)
]

kept_other : (j l k : ℕ) (ps : List Pair) → l ≢ k → pair_count j l (kept k ps) ≡ pair_count j l ps
kept_other j l k [] ne = refl
kept_other j l k (p ∷ ps) ne = elim (cases_eq p.partner k) [
  | inl e ↦
      let t : (p.partner == k) ≡ true = ap (λ (x : ℕ). x == k) e ∙ same_test k in
      let u : (p.opener == j && p.partner == l) ≡ false = and_right (p.opener == j) (p.partner == l) (ne_eqb p.partner l (omega arith)) in
      rw (t, u) (let h = kept_other j l k ps ne in omega arith)
  | inr o ↦ rw (ne_eqb p.partner k o) (ap (λ (x : ℕ). bit (p.opener == j && p.partner == l) + x) (kept_other j l k ps ne))
]

ending_count : (j k : ℕ) (ps : List Pair) → opener_count j (ending k ps) ≡ pair_count j k ps
ending_count j k [] = refl
ending_count j k (p ∷ ps) = elim (cases_eq p.partner k) [
  | inl e ↦
      let t : (p.partner == k) ≡ true = ap (λ (x : ℕ). x == k) e ∙ same_test k in
      rw (t, and-true (p.opener == j)) (ap (λ (x : ℕ). bit (p.opener == j) + x) (ending_count j k ps))
  | inr ne ↦ rw (ne_eqb p.partner k ne, and_right (p.opener == j) false refl) (let h = ending_count j k ps in omega arith)
]

insert_count : (j : ℕ) (p : Pair) (qs : List Pair) → opener_count j (insert p qs) ≡ opener_count j (p ∷ qs)
insert_count j p [] = refl
insert_count j p (q ∷ qs) = by_test (nat_le p.number q.number) (insert_count j p qs)
  where
    by_test : (b : Bool) → opener_count j (insert p qs) ≡ opener_count j (p ∷ qs) → opener_count j (if b then p ∷ q ∷ qs else q ∷ insert p qs) ≡ opener_count j (p ∷ q ∷ qs)
    by_test true h = refl
    by_test false h = ap (λ (x : ℕ). bit (q.opener == j) + x) h ∙ omega arith

sorted_count : (j : ℕ) (ps : List Pair) → opener_count j (sorted ps) ≡ opener_count j ps
sorted_count j [] = refl
sorted_count j (p ∷ ps) = insert_count j p (sorted ps) ∙ ap (λ (x : ℕ). bit (p.opener == j) + x) (sorted_count j ps)

opened_here : (v : ℕ → ℕ → Option BondMark) (k l : ℕ) (used : List Pair) (ls : List ℕ) → pair_count k l (opened v used k ls) ≡ occurs l ls
opened_here v k l used [] = refl
opened_here v k l used (x ∷ ls) = rw (same_test k) (ap (λ (y : ℕ). bit (x == l) + y) (opened_here v k l (new_pair v used k x ∷ used) ls))

opened_other : (v : ℕ → ℕ → Option BondMark) (j k l : ℕ) (used : List Pair) (ls : List ℕ) → k ≢ j → pair_count j l (opened v used k ls) ≡ 0
opened_other v j k l used [] ne = refl
opened_other v j k l used (x ∷ ls) ne = rw (ne_eqb k j ne) (let h = opened_other v j k l (new_pair v used k x ∷ used) ls ne in omega arith)

occurs_none : (l : ℕ) (p : ℕ → Bool) (n : ℕ) → n ≤ l → occurs l (passing p n) ≡ 0
occurs_none l p zero le = refl
occurs_none l p (suc n) le = occurs_append l (passing p n) (if p n then n ∷ [] else []) ∙ by_test (p n) (occurs_none l p n (omega arith))
  where
    by_test : (b : Bool) → occurs l (passing p n) ≡ 0 → occurs l (passing p n) + occurs l (if b then n ∷ [] else []) ≡ 0
    by_test true h = rw (ne_eqb n l (omega arith), h) refl
    by_test false h = rw h refl

occurs_passing : (l : ℕ) (p : ℕ → Bool) (n : ℕ) → l < n → occurs l (passing p n) ≡ bit (p l)
occurs_passing l p zero less = absurd (omega arith)
occurs_passing l p (suc n) less = occurs_append l (passing p n) (if p n then n ∷ [] else []) ∙ elim (cases_eq n l) [
  | inl e ↦
      let none = occurs_none l p n (omega arith) in
      let t : (n == l) ≡ true = ap (λ (x : ℕ). x == l) e ∙ same_test l in
      here (p n) none t ∙ ap (λ (x : ℕ). bit (p x)) e
  | inr ne ↦ there (p n) ne (occurs_passing l p n (omega arith))
]
  where
    here : (b : Bool) → occurs l (passing p n) ≡ 0 → (n == l) ≡ true → occurs l (passing p n) + occurs l (if b then n ∷ [] else []) ≡ bit b
    here true h t = rw (h, t) refl
    here false h t = rw h refl

    there : (b : Bool) → n ≢ l → occurs l (passing p n) ≡ bit (p l) → occurs l (passing p n) + occurs l (if b then n ∷ [] else []) ≡ bit (p l)
    there true ne h = rw (ne_eqb n l ne) (omega arith)
    there false ne h = omega arith

-- Which ring numbers are open before atom k

open_later : (v : ℕ → ℕ → Option BondMark) (r : ℕ → ℕ → Bool) (n j l k : ℕ) → k ≤ j → pair_count j l (active v r n k) ≡ 0
open_later v r n j l zero le = refl
open_later v r n j l (suc k) le =
    let o = opened_other v j k l (active v r n k) (partners r n k) (omega arith) in
    let h = open_later v r n j l k (omega arith) in
    pair_onto j l (opened v (active v r n k) k (partners r n k)) (kept k (active v r n k)) ∙ elim (cases_eq l k) [
      | inl e ↦ let z : pair_count j l (kept k (active v r n k)) ≡ 0 = subst (λ (x : ℕ). pair_count j x (kept k (active v r n k)) ≡ 0) (sym e) (kept_same j k (active v r n k)) in omega arith
      | inr ne ↦ let z = kept_other j l k (active v r n k) ne in omega arith
    ]

pub open_is : (v : ℕ → ℕ → Option BondMark) (r : ℕ → ℕ → Bool) (n j l k : ℕ) → j < k → k ≤ l → l < n → pair_count j l (active v r n k) ≡ bit (r j l)
open_is v r n j l zero less le below = absurd (omega arith)
open_is v r n j l (suc k) less le below =
    let z = kept_other j l k (active v r n k) (omega arith) in
    pair_onto j l (opened v (active v r n k) k (partners r n k)) (kept k (active v r n k)) ∙ elim (cases_eq k j) [
      | inl e ↦
          let later = open_later v r n j l k (omega arith) in
          let t : nat_lt k l ≡ true = grind (arith, nat_tests) in
          let o : pair_count k l (opened v (active v r n k) k (partners r n k)) ≡ bit (r k l) = opened_here v k l (active v r n k) (partners r n k) ∙ occurs_passing l (λ x. nat_lt k x && r k x) n below ∙ rw t refl in
          let o' : pair_count j l (opened v (active v r n k) k (partners r n k)) ≡ bit (r j l) = subst (λ (x : ℕ). pair_count x l (opened v (active v r n k) k (partners r n k)) ≡ bit (r x l)) e o in
          omega arith
      | inr ne ↦
          let o = opened_other v j k l (active v r n k) (partners r n k) ne in
          let h = open_is v r n j l k (omega arith) (omega arith) below in omega arith
    ]

-- how many bonds from j the ring numbers at atom k complete
pub closing_count : (v : ℕ → ℕ → Option BondMark) (r : ℕ → ℕ → Bool) (n j k : ℕ) → j < k → k < n → opener_count j (closing v r n k) ≡ bit (r j k)
closing_count v r n j k less below = sorted_count j (ending k (active v r n k)) ∙ ending_count j k (active v r n k) ∙ open_is v r n j k k less (omega arith) below

pub closing_none : (v : ℕ → ℕ → Option BondMark) (r : ℕ → ℕ → Bool) (n j k : ℕ) → k ≤ j → opener_count j (closing v r n k) ≡ 0
closing_none v r n j k le = sorted_count j (ending k (active v r n k)) ∙ ending_count j k (active v r n k) ∙ open_later v r n j k k le

-- Nothing is open behind the last atom

abbrev pub Within : ℕ → ℕ → List Pair → Type 0
Within k n [] = Unit {0}
Within k n (p ∷ ps) = ((k ≤ p.partner) × (p.partner < n)) × Within k n ps

within_kept : (k n : ℕ) (ps : List Pair) → Within k n ps → Within (suc k) n (kept k ps)
within_kept k n [] h = tt
within_kept k n (p ∷ ps) h = elim (cases_eq p.partner k) [
  | inl e ↦ let t : (p.partner == k) ≡ true = ap (λ (x : ℕ). x == k) e ∙ same_test k in rw t (within_kept k n ps h.1)
  | inr ne ↦ let a = h.0.0 in let b = h.0.1 in rw (ne_eqb p.partner k ne) ((omega arith, b), within_kept k n ps h.1)
]

abbrev pub Between : ℕ → ℕ → List ℕ → Type 0
Between k n [] = Unit {0}
Between k n (x ∷ xs) = ((k ≤ x) × (x < n)) × Between k n xs

within_opened : (v : ℕ → ℕ → Option BondMark) (k n : ℕ) (used act : List Pair) (ls : List ℕ) → Between (suc k) n ls → Within (suc k) n act → Within (suc k) n (onto_all (opened v used k ls) act)
within_opened v k n used act [] b h = h
within_opened v k n used act (l ∷ ls) b h =
    within_opened v k n (new_pair v used k l ∷ used) (new_pair v used k l ∷ act) ls b.1 (b.0, h)

between_append : (k n : ℕ) (xs ys : List ℕ) → Between k n xs → Between k n ys → Between k n (xs ++ ys)
between_append k n [] ys a b = b
between_append k n (x ∷ xs) ys a b = (a.0, between_append k n xs ys a.1 b)

between_passing : (k n : ℕ) (p : ℕ → Bool) (t : ℕ) → t ≤ n → ((v : ℕ) → p v ≡ true → k ≤ v) → Between k n (passing p t)
between_passing k n p zero le h = tt
between_passing k n p (suc t) le h = between_append k n (passing p t) (if p t then t ∷ [] else []) (between_passing k n p t (omega arith) h) (by_test (p t) refl)
  where
    by_test : (b : Bool) → p t ≡ b → Between k n (if b then t ∷ [] else [])
    by_test true e = ((h t e, omega arith), tt)
    by_test false e = tt

less_of : (k v : ℕ) (b : Bool) → (nat_lt k v && b) ≡ true → suc k ≤ v
less_of k v b h = elim (cases_lt k v) [
  | inl less ↦ omega arith
  | inr more ↦ let t : nat_lt k v ≡ false = grind (arith, nat_tests) in absurd (false_true (rw t at h))
]
  where
    false_true : false ≡ true → ⊥
    false_true h = cc

pub active_within : (v : ℕ → ℕ → Option BondMark) (r : ℕ → ℕ → Bool) (n k : ℕ) → Within k n (active v r n k)
active_within v r n zero = tt
active_within v r n (suc k) = within_opened v k n (active v r n k) (kept k (active v r n k)) (partners r n k)
    (between_passing (suc k) n (λ l. nat_lt k l && r k l) n (omega arith) (λ v h. less_of k v (r k v) h))
    (within_kept k n (active v r n k) (active_within v r n k))

pub active_end : (v : ℕ → ℕ → Option BondMark) (r : ℕ → ℕ → Bool) (n : ℕ) → active v r n n ≡ []
active_end v r n = by_list (active v r n n) (active_within v r n n)
  where
    by_list : (ps : List Pair) → Within n n ps → ps ≡ []
    by_list [] h = refl
    by_list (p ∷ ps) h = let a = h.0.0 in let b = h.0.1 in absurd (omega arith)

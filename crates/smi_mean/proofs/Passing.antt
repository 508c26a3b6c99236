-- The list of the numbers that pass a test.
use Rattle.std.proofs.Common.{◌≡◌, ℕ, zero, suc, ◌+◌, ◌<◌, List, [], ◌∷◌, ◌++◌, length, Bool, true, false, refl, ap, sym, ◌∙◌, inl, inr, arith, subst, get_or}
use Rattle.std.specs.Prelude.{All, map}
use Rattle.std.proofs.lemmas.Bool.{cases_eq, cases_Bool, false≢true, false_from_ne_true, cond-true, cond-false}
use Rattle.std.proofs.lemmas.List.{append-nil}
use Rattle.mc_base.specs.declared.ids.AtomId.{AtomId}
use Rattle.match_barrier.specs.Graph.{has, NoRepeats}
use Rattle.match_barrier.specs.Barrier.{count}
use Rattle.match_barrier.proofs.Counting.{has_cases}
use Rattle.match_barrier.proofs.Edges.{has_front, has_rest, has_push_old, has_push_new, has_push_cases}
use Rattle.smi_mean.specs.Barriers.{Rises, number_of}
use Rattle.smi_mean.specs.RingNumbers.{passing}
use Rattle.smi_mean.proofs.Ranks.{count_one, count_skip}

pub passing_more : (test : ℕ → Bool) (n : ℕ) → test n ≡ true → passing test (suc n) ≡ passing test n ++ n ∷ []
passing_more test n holds = ap (λ (xs : List ℕ). passing test n ++ xs) (cond-true (test n) (n ∷ []) [] holds)

pub passing_skip : (test : ℕ → Bool) (n : ℕ) → test n ≡ false → passing test (suc n) ≡ passing test n
passing_skip test n fails = ap (λ (xs : List ℕ). passing test n ++ xs) (cond-false (test n) (n ∷ []) [] fails) ∙ append-nil (passing test n)

-- what is said of a listed number
pub passing_is : (test : ℕ → Bool) (n x : ℕ) → has (passing test n) x ≡ true → (x < n) × (test x ≡ true)
passing_is test zero x h = absurd (false≢true h)
passing_is test (suc n) x h = elim (cases_Bool (test n)) [
  | inl holds ↦ elim (has_push_cases (passing test n) n x (ap (λ (xs : List ℕ). has xs x) (sym (passing_more test n holds)) ∙ h)) [
    | inl old ↦ let r = passing_is test n x old in let less = r.0 in (omega arith, r.1)
    | inr new ↦ (subst (λ (y : ℕ). y < suc n) new (omega arith), subst (λ (y : ℕ). test y ≡ true) new holds)
  ]
  | inr fails ↦ let r = passing_is test n x (ap (λ (xs : List ℕ). has xs x) (sym (passing_skip test n fails)) ∙ h) in let less = r.0 in (omega arith, r.1)
]

pub passing_has : (test : ℕ → Bool) (n x : ℕ) → x < n → test x ≡ true → has (passing test n) x ≡ true
passing_has test zero x less passes = absurd (omega arith)
passing_has test (suc n) x less passes = elim (cases_eq n x) [
  | inl same ↦
      let holds : test n ≡ true = subst (λ (y : ℕ). test y ≡ true) (sym same) passes in
      ap (λ (xs : List ℕ). has xs x) (passing_more test n holds) ∙ has_push_new (passing test n) n x same
  | inr other ↦
      let old : has (passing test n) x ≡ true = passing_has test n x (omega arith) passes in
      elim (cases_Bool (test n)) [
        | inl holds ↦ ap (λ (xs : List ℕ). has xs x) (passing_more test n holds) ∙ has_push_old (passing test n) n x old
        | inr fails ↦ ap (λ (xs : List ℕ). has xs x) (passing_skip test n fails) ∙ old
      ]
]

-- a number that stands in no place of a list isn't one of it
pub all_of : (P : ℕ → Type 0) (xs : List ℕ) → ((x : ℕ) → has xs x ≡ true → P x) → All P xs
all_of P [] each k d less = absurd (omega arith)
all_of P (x ∷ xs) each zero d less = each x (has_front x xs x refl)
all_of P (x ∷ xs) each (suc k) d less = all_of P xs (λ y h. each y (has_rest x xs y h)) k d (omega arith)

pub of_all : (P : ℕ → Type 0) (xs : List ℕ) → All P xs → (x : ℕ) → has xs x ≡ true → P x
of_all P [] each x h = absurd (false≢true h)
of_all P (y ∷ xs) each x h = elim (has_cases y xs x h) [
  | inl same ↦ subst P same (each zero y (omega arith))
  | inr rest ↦ of_all P xs (λ k d less. each (suc k) d (omega arith)) x rest
]

rises_push : (xs : List ℕ) (n : ℕ) → Rises xs → ((x : ℕ) → has xs x ≡ true → x < n) → Rises (xs ++ n ∷ [])
rises_push [] n rises below = (all_of (λ y. n < y) [] (λ y h. absurd (false≢true h)), tt)
rises_push (x ∷ xs) n rises below = (
  all_of (λ y. x < y) (xs ++ n ∷ []) (λ y h. elim (has_push_cases xs n y h) [
    | inl old ↦ of_all (λ y. x < y) xs rises.0 y old
    | inr new ↦ subst (λ (y : ℕ). x < y) new (below x (has_front x xs x refl))
  ]),
  rises_push xs n rises.1 (λ y h. below y (has_rest x xs y h)),
)

pub passing_rises : (test : ℕ → Bool) (n : ℕ) → Rises (passing test n)
passing_rises test zero = tt
passing_rises test (suc n) = elim (cases_Bool (test n)) [
  | inl holds ↦ subst Rises (sym (passing_more test n holds)) (rises_push (passing test n) n (passing_rises test n) (λ x h. (passing_is test n x h).0))
  | inr fails ↦ subst Rises (sym (passing_skip test n fails)) (passing_rises test n)
]

-- a rising list has no number twice
pub rises_differ : (xs : List ℕ) → Rises xs → NoRepeats xs
rises_differ [] rises = tt
rises_differ (x ∷ xs) rises = (false_from_ne_true (has xs x) (λ h. let less = of_all (λ y. x < y) xs rises.0 x h in absurd (omega arith)), rises_differ xs rises.1)

length_push : (xs : List ℕ) (n : ℕ) → length (xs ++ n ∷ []) ≡ suc (length xs)
length_push [] n = refl
length_push (x ∷ xs) n = ap suc (length_push xs n)

pub passing_length : (test : ℕ → Bool) (n : ℕ) → length (passing test n) ≡ count n test
passing_length test zero = refl
passing_length test (suc n) = elim (cases_Bool (test n)) [
  | inl holds ↦ ap length (passing_more test n holds) ∙ length_push (passing test n) n ∙ ap suc (passing_length test n) ∙ sym (count_one test n holds)
  | inr fails ↦ ap length (passing_skip test n fails) ∙ passing_length test n ∙ sym (count_skip test n fails)
]

suc_is : (n : ℕ) → suc n ≡ n + 1
suc_is n = omega arith

-- the loop's steps over a list of atoms
map_push : (atoms : List AtomId) (n : ℕ) → map number_of (atoms ++ record { 0 = n } ∷ []) ≡ map number_of atoms ++ n ∷ []
map_push [] n = refl
map_push (a ∷ atoms) n = ap (λ (xs : List ℕ). a.0 ∷ xs) (map_push atoms n)

pub atoms_push : (test : ℕ → Bool) (n : ℕ) (atoms : List AtomId) → map number_of atoms ≡ passing test n → test n ≡ true → map number_of (atoms ++ record { 0 = n } ∷ []) ≡ passing test (n + 1)
atoms_push test n atoms are holds =
    map_push atoms n ∙ ap (λ (ys : List ℕ). ys ++ n ∷ []) are ∙ sym (passing_more test n holds) ∙ ap (passing test) (suc_is n)

pub passing_pass : (test : ℕ → Bool) (n : ℕ) (xs : List ℕ) → xs ≡ passing test n → test n ≡ false → xs ≡ passing test (n + 1)
passing_pass test n xs are fails = are ∙ sym (passing_skip test n fails) ∙ ap (passing test) (suc_is n)

pub flags_are : (flags items : List Bool) (n : ℕ) (set : List ℕ) → flags ≡ items → length items ≡ n → ((v : ℕ) → v < n → get_or items v false ≡ has set v) → (v : ℕ) → v < length flags → get_or flags v false ≡ has set v
flags_are flags items n set same long are v less =
    let more : length flags ≡ n = ap length same ∙ long in
    ap (λ (xs : List Bool). get_or xs v false) same ∙ are v (omega arith)

-- The lowest of the keys that pass, found in one pass over a list.
use Rattle.std.proofs.Common.{◌≡◌, ℕ, zero, suc, ◌≤◌, ◌<◌, List, [], ◌∷◌, Bool, true, false, Option, Some, None, refl, ap, sym, ◌∙◌, inl, inr, arith}
use Rattle.std.specs.Prelude.{◌⊎◌, ◌==◌, ◌&&◌, ◌||◌, nat_lt, if◌then◌else◌}
use Rattle.std.specs.List.{All, list_any}
use Rattle.std.proofs.lemmas.Bool.{cases_lt, false≢true, or_left, or_right, ltb-true, ltb-false, eqb-true, or_cases, false_from_ne_true, cases_Bool}
use Rattle.std.proofs.lemmas.Bool.Decides.{nat_tests}
use Rattle.mc_mol.proofs.Lists.{All-head, All-tail}
use Rattle.mc_mol.proofs.Halves.{same_test}
use Rattle.smi_mean.specs.Order.{least}
use Rattle.smi_write.specs.Lesser.{lesser, lowest}
use Rattle.smi_write.proofs.Least.{least_all, least_some}
use Rattle.smi_write.proofs.Stacked.{least_none}

-- the least number that passes, from its property
pub least_is : (p : ℕ → Bool) (n k : ℕ) → k < n → p k ≡ true → ((v : ℕ) → v < k → p v ≡ false) → least p n ≡ Some k
least_is p zero k less passes first = absurd (omega arith)
least_is p (suc n) k less passes first = elim (cases_lt k n) [
  | inl below ↦ rw (least_is p n k below passes first) refl
  | inr above ↦
      let same : n ≡ k = omega arith in
      let none : least p n ≡ None = least_none p n (λ v lt. first v (omega arith)) in
      let here : p n ≡ true = ap p same ∙ passes in
      rw (none, here) (ap (λ (x : ℕ). Some x) same)
]

-- q passes some number at or below each that p passes, and no other number
pub least_same : (p q : ℕ → Bool) (n : ℕ) → ((v : ℕ) → v < n → p v ≡ true → (w : ℕ) × (w ≤ v) × (q w ≡ true)) → ((v : ℕ) → v < n → q v ≡ true → p v ≡ true)
    → least p n ≡ least q n
least_same p q n down up = by_least (least q n) refl
  where
    by_least : (o : Option ℕ) → least q n ≡ o → least p n ≡ o
    by_least None e = least_none p n (λ v less. false_from_ne_true (p v) (λ h. let (w, le, passes) = down v less h in false≢true (sym (least_all q n e w (omega arith)) ∙ passes)))
    by_least (Some k) e =
        let l = least_some q n k e in
        least_is p n k l.below (up k l.below l.passes) (λ v less. false_from_ne_true (p v) (λ h.
        let (w, le, passes) = down v (let b = l.below in omega arith) h in false≢true (sym (l.first w (omega arith)) ∙ passes)))

pub least_cong : (p q : ℕ → Bool) (n : ℕ) → ((v : ℕ) → v < n → p v ≡ q v) → least p n ≡ least q n
least_cong p q zero h = refl
least_cong p q (suc n) h = rw (least_cong p q n (λ v less. h v (omega arith)), h n (omega arith)) refl

abbrev pub hits : Option ℕ → ℕ → Bool
hits None v = false
hits (Some b) v = b == v

-- the lesser is one of the two
lesser_of : (best : Option ℕ) (k v : ℕ) → hits (lesser best k) v ≡ true → (hits best v ≡ true) ⊎ (k ≡ v)
lesser_of None k v h = inr (eqb-true k v h)
lesser_of (Some b) k v h = elim (cases_Bool (nat_lt k b)) [
  | inl t ↦ let h' : hits (if nat_lt k b then Some k else Some b) v ≡ true = h in inr (eqb-true k v (rw t at h'))
  | inr f ↦ let h' : hits (if nat_lt k b then Some k else Some b) v ≡ true = h in inl (rw f at h')
]

lesser_below : (best : Option ℕ) (k n : ℕ) → ((v : ℕ) → hits best v ≡ true → v < n) → k < n → (v : ℕ) → hits (lesser best k) v ≡ true → v < n
lesser_below best k n below inside v h = elim (lesser_of best k v h) [ inl was ↦ below v was | inr same ↦ omega arith ]

-- each of the two is the lesser, or is above it
lesser_down : (best : Option ℕ) (k v : ℕ) → (hits best v ≡ true) ⊎ (k ≡ v) → (w : ℕ) × (w ≤ v) × (hits (lesser best k) w ≡ true)
lesser_down None k v (inl h) = absurd (false≢true h)
lesser_down None k v (inr e) = (k, omega arith, same_test k)
lesser_down (Some b) k v h = elim (cases_Bool (nat_lt k b)) [
  | inl t ↦ let lower = ltb-true k b t in (k, at_most v h lower, rw t (same_test k))
  | inr f ↦ let higher = ltb-false k b f in (b, least v h higher, rw f (same_test b))
]
  where
    at_most : (v : ℕ) → ((b == v) ≡ true) ⊎ (k ≡ v) → k < b → k ≤ v
    at_most v (inl h) less = let e = eqb-true b v h in omega arith
    at_most v (inr e) less = omega arith

    least : (v : ℕ) → ((b == v) ≡ true) ⊎ (k ≡ v) → b ≤ k → b ≤ v
    least v (inl h) le = let e = eqb-true b v h in omega arith
    least v (inr e) le = omega arith

down : (best : Option ℕ) (k : ℕ) (others : ℕ → Bool) (v : ℕ) → (hits best v || ((true && k == v) || others v)) ≡ true → (w : ℕ) × (w ≤ v) × ((hits (lesser best k) w || others w) ≡ true)
down best k others v h = elim (or_cases (hits best v) ((k == v) || others v) h) [
  | inl was ↦ let (w, le, e) = lesser_down best k v (inl was) in (w, le, or_left _ _ e)
  | inr more ↦ elim (or_cases (k == v) (others v) more) [
    | inl here ↦ let (w, le, e) = lesser_down best k v (inr (eqb-true k v here)) in (w, le, or_left _ _ e)
    | inr other ↦ (v, omega arith, or_right _ _ other)
  ]
]

up : (best : Option ℕ) (k : ℕ) (others : ℕ → Bool) (v : ℕ) → (hits (lesser best k) v || others v) ≡ true → (hits best v || ((true && k == v) || others v)) ≡ true
up best k others v h = elim (or_cases (hits (lesser best k) v) (others v) h) [
  | inl one ↦ elim (lesser_of best k v one) [
    | inl was ↦ or_left (hits best v) _ was
    | inr same ↦ or_right (hits best v) _ (or_left (k == v) (others v) (ap (λ (x : ℕ). x == v) same ∙ same_test v))
  ]
  | inr other ↦ or_right (hits best v) _ (or_right (k == v) (others v) other)
]

-- The lowest so far and the keys to come: their least number is the lowest of them all.
pub lowest_is : {A : Type 0} (passes : A → Bool) (key : A → ℕ) (n : ℕ) (xs : List A) (best : Option ℕ) → ((v : ℕ) → hits best v ≡ true → v < n)
    → All (λ x. passes x ≡ true → key x < n) xs → lowest passes key best xs ≡ least (λ v. hits best v || list_any (λ x. passes x && key x == v) xs) n
lowest_is passes key n [] None below all = sym (least_none _ n (λ v less. refl))
lowest_is passes key n [] (Some b) below all = sym (least_is _ n b (below b (same_test b)) (rw (same_test b) refl) (λ v less. no_hit v less))
  where
    no_hit : (v : ℕ) → v < b → ((b == v) || false) ≡ false
    no_hit v less = let e : (b == v) ≡ false = grind (arith, nat_tests) in rw e refl
lowest_is passes key n (x ∷ xs) best below all = by_test (passes x) refl (λ o h. lowest_is passes key n xs o h (All-tail (λ x. passes x ≡ true → key x < n) x xs all))
  where
    by_test : (t : Bool) → passes x ≡ t
        → ((o : Option ℕ) → ((v : ℕ) → hits o v ≡ true → v < n) → lowest passes key o xs ≡ least (λ v. hits o v || list_any (λ x. passes x && key x == v) xs) n)
        → lowest passes key (if t then lesser best (key x) else best) xs ≡ least (λ v. hits best v || ((t && key x == v) || list_any (λ x. passes x && key x == v) xs)) n
    by_test false e ih = ih best below
    by_test true e ih =
        let inside : key x < n = All-head (λ x. passes x ≡ true → key x < n) x xs all e in
        ih (lesser best (key x)) (λ v h. lesser_below best (key x) n below inside v h)
        ∙ sym (least_same _ _ n (λ v less h. down best (key x) (λ v. list_any (λ x. passes x && key x == v) xs) v h) (λ v less h. up best (key x) (λ v. list_any (λ x. passes x && key x == v) xs) v h))

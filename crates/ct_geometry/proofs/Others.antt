-- The other neighbours of an atom, in the order of its half-edges.
use Rattle.std.proofs.Common.{◌≡◌, ◌≢◌, ℕ, List, [], ◌∷◌, Some, length, get_or, slice_get, refl, sym, subst, arith, false, ◌==◌, inl, inr}
use Rattle.std.proofs.lemmas.Bool.{cases_eq, eq-eqb}
use Rattle.std.proofs.lemmas.Bool.Decides.{nat_tests}
use Rattle.std.proofs.lemmas.Option.{slice_get_within}
use Rattle.mc_base.specs.declared.ids.AtomId.{AtomId}
use Rattle.mc_mol.specs.declared.parts.HalfEdge.{HalfEdge}
use Rattle.mc_mol.specs.HalfEdges.{LeadApart}
use Rattle.mc_mol.proofs.Lists.{four_of}
use Rattle.ct_geometry.specs.Neighbours.{LeadTo}
use Rattle.ct_geometry.specs.Wedges.{others}

pub three_of : {A : Type 0} (xs : List A) (d : A) → length xs ≡ 3 → xs ≡ get_or xs 0 d ∷ get_or xs 1 d ∷ get_or xs 2 d ∷ []
three_of [] d e = absurd (omega arith)
three_of (a ∷ []) d e = absurd (omega arith)
three_of (a ∷ b ∷ []) d e = absurd (omega arith)
three_of (a ∷ b ∷ c ∷ []) d e = refl
three_of (a ∷ b ∷ c ∷ x ∷ xs) d e = absurd (omega arith)

test_other : (a b w : ℕ) → b ≡ w → a ≢ b → (a == w) ≡ false
test_other a b w e ne = grind (arith, nat_tests)

-- ---- three

first_of_three : (a b c : HalfEdge) (w : AtomId) → a.to.0 ≡ w.0 → LeadApart (a ∷ b ∷ c ∷ []) → b.to ∷ c.to ∷ [] ≡ others (a ∷ b ∷ c ∷ []) w
first_of_three a b c w e apart = rw (eq-eqb a.to.0 w.0 e, test_other b.to.0 a.to.0 w.0 e (apart 1 0 b a (omega arith) refl refl), test_other c.to.0 a.to.0 w.0 e (apart 2 0 c a (omega arith) refl refl)) refl

second_of_three : (a b c : HalfEdge) (w : AtomId) → b.to.0 ≡ w.0 → LeadApart (a ∷ b ∷ c ∷ []) → a.to ∷ c.to ∷ [] ≡ others (a ∷ b ∷ c ∷ []) w
second_of_three a b c w e apart = rw (test_other a.to.0 b.to.0 w.0 e (apart 0 1 a b (omega arith) refl refl), eq-eqb b.to.0 w.0 e, test_other c.to.0 b.to.0 w.0 e (apart 2 1 c b (omega arith) refl refl)) refl

third_of_three : (a b c : HalfEdge) (w : AtomId) → c.to.0 ≡ w.0 → LeadApart (a ∷ b ∷ c ∷ []) → a.to ∷ b.to ∷ [] ≡ others (a ∷ b ∷ c ∷ []) w
third_of_three a b c w e apart = rw (test_other a.to.0 c.to.0 w.0 e (apart 0 2 a c (omega arith) refl refl), test_other b.to.0 c.to.0 w.0 e (apart 1 2 b c (omega arith) refl refl), eq-eqb c.to.0 w.0 e) refl

-- the last one, where none of the others is meant
last_of_three : (a b c : HalfEdge) (w : AtomId) → LeadTo (a ∷ b ∷ c ∷ []) w → a.to.0 ≢ w.0 → b.to.0 ≢ w.0 → c.to.0 ≡ w.0
last_of_three a b c w lead not_a not_b = at lead.place lead.is_half
  where
    at : (place : ℕ) → slice_get (a ∷ b ∷ c ∷ []) place ≡ Some lead.half → c.to.0 ≡ w.0
    at place is = let leads = lead.leads in elim (cases_eq place 0) [
      | inl here ↦ (let found : slice_get (a ∷ b ∷ c ∷ []) 0 ≡ Some lead.half = subst (λ (k : ℕ). slice_get (a ∷ b ∷ c ∷ []) k ≡ Some lead.half) here is in absurd (not_a cc))
      | inr no_0 ↦ elim (cases_eq place 1) [
        | inl here ↦ (let found : slice_get (a ∷ b ∷ c ∷ []) 1 ≡ Some lead.half = subst (λ (k : ℕ). slice_get (a ∷ b ∷ c ∷ []) k ≡ Some lead.half) here is in absurd (not_b cc))
        | inr no_1 ↦ elim (cases_eq place 2) [
          | inl here ↦ (let found : slice_get (a ∷ b ∷ c ∷ []) 2 ≡ Some lead.half = subst (λ (k : ℕ). slice_get (a ∷ b ∷ c ∷ []) k ≡ Some lead.half) here is in cc)
          | inr no_2 ↦ (let within = slice_get_within (a ∷ b ∷ c ∷ []) place lead.half is in absurd (omega arith))
        ]
      ]
    ]

pub but_first_of_three : (xs : List HalfEdge) (d : HalfEdge) (w : AtomId) → length xs ≡ 3 → LeadApart xs → (get_or xs 0 d).to.0 ≡ w.0 → (get_or xs 1 d).to ∷ (get_or xs 2 d).to ∷ [] ≡ others xs w
but_first_of_three xs d w count apart e =
    let is = three_of xs d count in
    subst (λ (ys : List HalfEdge). (get_or xs 1 d).to ∷ (get_or xs 2 d).to ∷ [] ≡ others ys w) (sym is) (first_of_three (get_or xs 0 d) (get_or xs 1 d) (get_or xs 2 d) w e (subst LeadApart is apart))

pub but_second_of_three : (xs : List HalfEdge) (d : HalfEdge) (w : AtomId) → length xs ≡ 3 → LeadApart xs → (get_or xs 1 d).to.0 ≡ w.0 → (get_or xs 0 d).to ∷ (get_or xs 2 d).to ∷ [] ≡ others xs w
but_second_of_three xs d w count apart e =
    let is = three_of xs d count in
    subst (λ (ys : List HalfEdge). (get_or xs 0 d).to ∷ (get_or xs 2 d).to ∷ [] ≡ others ys w) (sym is) (second_of_three (get_or xs 0 d) (get_or xs 1 d) (get_or xs 2 d) w e (subst LeadApart is apart))

pub but_third_of_three : (xs : List HalfEdge) (d : HalfEdge) (w : AtomId) → length xs ≡ 3 → LeadApart xs → LeadTo xs w → (get_or xs 0 d).to.0 ≢ w.0 → (get_or xs 1 d).to.0 ≢ w.0 → (get_or xs 0 d).to ∷ (get_or xs 1 d).to ∷ [] ≡ others xs w
but_third_of_three xs d w count apart lead not_a not_b =
    let is = three_of xs d count in
    let e = last_of_three (get_or xs 0 d) (get_or xs 1 d) (get_or xs 2 d) w (subst (λ (ys : List HalfEdge). LeadTo ys w) is lead) not_a not_b in
    subst (λ (ys : List HalfEdge). (get_or xs 0 d).to ∷ (get_or xs 1 d).to ∷ [] ≡ others ys w) (sym is) (third_of_three (get_or xs 0 d) (get_or xs 1 d) (get_or xs 2 d) w e (subst LeadApart is apart))

-- ---- four

first_of_four : (a b c d : HalfEdge) (w : AtomId) → a.to.0 ≡ w.0 → LeadApart (a ∷ b ∷ c ∷ d ∷ []) → b.to ∷ c.to ∷ d.to ∷ [] ≡ others (a ∷ b ∷ c ∷ d ∷ []) w
first_of_four a b c d w e apart = rw (eq-eqb a.to.0 w.0 e, test_other b.to.0 a.to.0 w.0 e (apart 1 0 b a (omega arith) refl refl), test_other c.to.0 a.to.0 w.0 e (apart 2 0 c a (omega arith) refl refl), test_other d.to.0 a.to.0 w.0 e (apart 3 0 d a (omega arith) refl refl)) refl

second_of_four : (a b c d : HalfEdge) (w : AtomId) → b.to.0 ≡ w.0 → LeadApart (a ∷ b ∷ c ∷ d ∷ []) → a.to ∷ c.to ∷ d.to ∷ [] ≡ others (a ∷ b ∷ c ∷ d ∷ []) w
second_of_four a b c d w e apart = rw (test_other a.to.0 b.to.0 w.0 e (apart 0 1 a b (omega arith) refl refl), eq-eqb b.to.0 w.0 e, test_other c.to.0 b.to.0 w.0 e (apart 2 1 c b (omega arith) refl refl), test_other d.to.0 b.to.0 w.0 e (apart 3 1 d b (omega arith) refl refl)) refl

third_of_four : (a b c d : HalfEdge) (w : AtomId) → c.to.0 ≡ w.0 → LeadApart (a ∷ b ∷ c ∷ d ∷ []) → a.to ∷ b.to ∷ d.to ∷ [] ≡ others (a ∷ b ∷ c ∷ d ∷ []) w
third_of_four a b c d w e apart = rw (test_other a.to.0 c.to.0 w.0 e (apart 0 2 a c (omega arith) refl refl), test_other b.to.0 c.to.0 w.0 e (apart 1 2 b c (omega arith) refl refl), eq-eqb c.to.0 w.0 e, test_other d.to.0 c.to.0 w.0 e (apart 3 2 d c (omega arith) refl refl)) refl

fourth_of_four : (a b c d : HalfEdge) (w : AtomId) → d.to.0 ≡ w.0 → LeadApart (a ∷ b ∷ c ∷ d ∷ []) → a.to ∷ b.to ∷ c.to ∷ [] ≡ others (a ∷ b ∷ c ∷ d ∷ []) w
fourth_of_four a b c d w e apart = rw (test_other a.to.0 d.to.0 w.0 e (apart 0 3 a d (omega arith) refl refl), test_other b.to.0 d.to.0 w.0 e (apart 1 3 b d (omega arith) refl refl), test_other c.to.0 d.to.0 w.0 e (apart 2 3 c d (omega arith) refl refl), eq-eqb d.to.0 w.0 e) refl

-- the last one, where none of the others is meant
last_of_four : (a b c d : HalfEdge) (w : AtomId) → LeadTo (a ∷ b ∷ c ∷ d ∷ []) w → a.to.0 ≢ w.0 → b.to.0 ≢ w.0 → c.to.0 ≢ w.0 → d.to.0 ≡ w.0
last_of_four a b c d w lead not_a not_b not_c = at lead.place lead.is_half
  where
    at : (place : ℕ) → slice_get (a ∷ b ∷ c ∷ d ∷ []) place ≡ Some lead.half → d.to.0 ≡ w.0
    at place is = let leads = lead.leads in elim (cases_eq place 0) [
      | inl here ↦ (let found : slice_get (a ∷ b ∷ c ∷ d ∷ []) 0 ≡ Some lead.half = subst (λ (k : ℕ). slice_get (a ∷ b ∷ c ∷ d ∷ []) k ≡ Some lead.half) here is in absurd (not_a cc))
      | inr no_0 ↦ elim (cases_eq place 1) [
        | inl here ↦ (let found : slice_get (a ∷ b ∷ c ∷ d ∷ []) 1 ≡ Some lead.half = subst (λ (k : ℕ). slice_get (a ∷ b ∷ c ∷ d ∷ []) k ≡ Some lead.half) here is in absurd (not_b cc))
        | inr no_1 ↦ elim (cases_eq place 2) [
          | inl here ↦ (let found : slice_get (a ∷ b ∷ c ∷ d ∷ []) 2 ≡ Some lead.half = subst (λ (k : ℕ). slice_get (a ∷ b ∷ c ∷ d ∷ []) k ≡ Some lead.half) here is in absurd (not_c cc))
          | inr no_2 ↦ elim (cases_eq place 3) [
            | inl here ↦ (let found : slice_get (a ∷ b ∷ c ∷ d ∷ []) 3 ≡ Some lead.half = subst (λ (k : ℕ). slice_get (a ∷ b ∷ c ∷ d ∷ []) k ≡ Some lead.half) here is in cc)
            | inr no_3 ↦ (let within = slice_get_within (a ∷ b ∷ c ∷ d ∷ []) place lead.half is in absurd (omega arith))
          ]
        ]
      ]
    ]

pub but_first_of_four : (xs : List HalfEdge) (d : HalfEdge) (w : AtomId) → length xs ≡ 4 → LeadApart xs → (get_or xs 0 d).to.0 ≡ w.0 → (get_or xs 1 d).to ∷ (get_or xs 2 d).to ∷ (get_or xs 3 d).to ∷ [] ≡ others xs w
but_first_of_four xs d w count apart e =
    let is = four_of xs d count in
    subst (λ (ys : List HalfEdge). (get_or xs 1 d).to ∷ (get_or xs 2 d).to ∷ (get_or xs 3 d).to ∷ [] ≡ others ys w) (sym is) (first_of_four (get_or xs 0 d) (get_or xs 1 d) (get_or xs 2 d) (get_or xs 3 d) w e (subst LeadApart is apart))

pub but_second_of_four : (xs : List HalfEdge) (d : HalfEdge) (w : AtomId) → length xs ≡ 4 → LeadApart xs → (get_or xs 1 d).to.0 ≡ w.0 → (get_or xs 0 d).to ∷ (get_or xs 2 d).to ∷ (get_or xs 3 d).to ∷ [] ≡ others xs w
but_second_of_four xs d w count apart e =
    let is = four_of xs d count in
    subst (λ (ys : List HalfEdge). (get_or xs 0 d).to ∷ (get_or xs 2 d).to ∷ (get_or xs 3 d).to ∷ [] ≡ others ys w) (sym is) (second_of_four (get_or xs 0 d) (get_or xs 1 d) (get_or xs 2 d) (get_or xs 3 d) w e (subst LeadApart is apart))

pub but_third_of_four : (xs : List HalfEdge) (d : HalfEdge) (w : AtomId) → length xs ≡ 4 → LeadApart xs → (get_or xs 2 d).to.0 ≡ w.0 → (get_or xs 0 d).to ∷ (get_or xs 1 d).to ∷ (get_or xs 3 d).to ∷ [] ≡ others xs w
but_third_of_four xs d w count apart e =
    let is = four_of xs d count in
    subst (λ (ys : List HalfEdge). (get_or xs 0 d).to ∷ (get_or xs 1 d).to ∷ (get_or xs 3 d).to ∷ [] ≡ others ys w) (sym is) (third_of_four (get_or xs 0 d) (get_or xs 1 d) (get_or xs 2 d) (get_or xs 3 d) w e (subst LeadApart is apart))

pub but_fourth_of_four : (xs : List HalfEdge) (d : HalfEdge) (w : AtomId) → length xs ≡ 4 → LeadApart xs → LeadTo xs w → (get_or xs 0 d).to.0 ≢ w.0 → (get_or xs 1 d).to.0 ≢ w.0 → (get_or xs 2 d).to.0 ≢ w.0 → (get_or xs 0 d).to ∷ (get_or xs 1 d).to ∷ (get_or xs 2 d).to ∷ [] ≡ others xs w
but_fourth_of_four xs d w count apart lead not_a not_b not_c =
    let is = four_of xs d count in
    let e = last_of_four (get_or xs 0 d) (get_or xs 1 d) (get_or xs 2 d) (get_or xs 3 d) w (subst (λ (ys : List HalfEdge). LeadTo ys w) is lead) not_a not_b not_c in
    subst (λ (ys : List HalfEdge). (get_or xs 0 d).to ∷ (get_or xs 1 d).to ∷ (get_or xs 2 d).to ∷ [] ≡ others ys w) (sym is) (fourth_of_four (get_or xs 0 d) (get_or xs 1 d) (get_or xs 2 d) (get_or xs 3 d) w e (subst LeadApart is apart))

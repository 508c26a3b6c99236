-- What is seen in one pass over an atom's half-edges: its least unwritten neighbour, and whether there is another.
use Rattle.std.proofs.Common.{◌≡◌, ℕ, suc, List, [], ◌∷◌, get_or, slice_get, Bool, true, false, Option, Some, refl, ap, sym, ◌∙◌, inl, inr}
use Rattle.std.specs.Prelude.{◌==◌, ◌&&◌, ◌||◌, not, nat_lt, if◌then◌else◌}
use Rattle.std.specs.List.{list_any}
use Rattle.std.proofs.lemmas.Bool.{false≢true, eqb-true, or_cases}
use Rattle.mc_base.specs.declared.ids.BondId.{BondId}
use Rattle.mc_mol.specs.declared.parts.HalfEdge.{HalfEdge}
use Rattle.smi_mean.specs.Order.{some_if}
use Rattle.smi_write.specs.declared.order.Seen.{Seen}
use Rattle.smi_write.specs.Lesser.{lesser, lowest}
use Rattle.smi_write.specs.Seen.{leads_back, see, see_all, least_seen}

-- The least one

one_more : (some free : Bool) (n b : ℕ)
    → some_if (some || free) (if free && (not some || nat_lt n b) then n else b) ≡ (if free then lesser (some_if some b) n else some_if some b)
one_more false false n b = refl
one_more false true n b = refl
one_more true false n b = refl
one_more true true n b = by_test (nat_lt n b)
  where
    by_test : (t : Bool) → some_if true (if t then n else b) ≡ (if t then Some n else Some b)
    by_test true = refl
    by_test false = refl

pub least_is_lowest : (rank parent : ℕ) (ranks : List ℕ) (halves : List HalfEdge) (found : Seen)
    → least_seen (see_all rank parent ranks found halves) ≡ lowest (λ half. get_or ranks half.to.0 0 == 0) (λ half. half.to.0) (least_seen found) halves
least_is_lowest rank parent ranks [] found = refl
least_is_lowest rank parent ranks (half ∷ halves) found =
    least_is_lowest rank parent ranks halves (see found half (get_or ranks half.to.0 0 == 0) (leads_back rank parent (get_or ranks half.to.0 0)))
    ∙ ap (λ (o : Option ℕ). lowest (λ half. get_or ranks half.to.0 0 == 0) (λ half. half.to.0) o halves) (one_more found.some (get_or ranks half.to.0 0 == 0) half.to.0 found.least)

-- what is true of each half-edge is true of the one that is found
pub true_of_found : (P : ℕ → BondId → Type 0) (rank parent : ℕ) (ranks : List ℕ) (halves : List HalfEdge) (found : Seen)
    → ((i : ℕ) (half : HalfEdge) → slice_get halves i ≡ Some half → P half.to.0 half.bond) → (found.some ≡ true → P found.least found.bond)
    → (see_all rank parent ranks found halves).some ≡ true → P (see_all rank parent ranks found halves).least (see_all rank parent ranks found halves).bond
true_of_found P rank parent ranks [] found each was some = was some
true_of_found P rank parent ranks (half ∷ halves) found each was some =
    true_of_found P rank parent ranks halves (see found half (get_or ranks half.to.0 0 == 0) (leads_back rank parent (get_or ranks half.to.0 0))) (λ i h at. each (suc i) h at)
    (one found.some (get_or ranks half.to.0 0 == 0) (nat_lt half.to.0 found.least) was (each 0 half refl)) some
  where
    one : (some free low : Bool) → (some ≡ true → P found.least found.bond) → P half.to.0 half.bond → (some || free) ≡ true
        → P (if free && (not some || low) then half.to.0 else found.least) (if free && (not some || low) then half.bond else found.bond)
    one true true true was here e = here
    one true true false was here e = was refl
    one true false low was here e = was refl
    one false true low was here e = here
    one false false low was here e = absurd (false≢true e)

-- The only one

more_stays : (rank parent : ℕ) (ranks : List ℕ) (halves : List HalfEdge) (found : Seen) → found.more ≡ true → (see_all rank parent ranks found halves).more ≡ true
more_stays rank parent ranks [] found e = e
more_stays rank parent ranks (half ∷ halves) found e =
    more_stays rank parent ranks halves (see found half (get_or ranks half.to.0 0 == 0) (leads_back rank parent (get_or ranks half.to.0 0))) (ap (λ (b : Bool). b || (found.some && (get_or ranks half.to.0 0 == 0))) e)

-- Where no more are found behind one that is found, the others are written.
pub record NoMore (ranks : List ℕ) (found last : Seen) (halves : List HalfEdge) : Type 0 where
  pub least : last.least ≡ found.least
  pub written : (v : ℕ) → list_any (λ half. half.to.0 == v) halves ≡ true → (get_or ranks v 0 == 0) ≡ false

none_more : (rank parent : ℕ) (ranks : List ℕ) (halves : List HalfEdge) (found : Seen) → found.some ≡ true → (see_all rank parent ranks found halves).more ≡ false
    → NoMore ranks found (see_all rank parent ranks found halves) halves
none_more rank parent ranks [] found some none = record { least = refl; written = λ v h. absurd (false≢true h) }
none_more rank parent ranks (half ∷ halves) found some none = by_test (get_or ranks half.to.0 0 == 0) refl none
    (λ e f. none_more rank parent ranks halves (see found half (get_or ranks half.to.0 0 == 0) (leads_back rank parent (get_or ranks half.to.0 0))) e f)
    (λ e. more_stays rank parent ranks halves (see found half (get_or ranks half.to.0 0 == 0) (leads_back rank parent (get_or ranks half.to.0 0))) e)
  where
    by_test : (t : Bool) → (get_or ranks half.to.0 0 == 0) ≡ t → (see_all rank parent ranks (see found half (get_or ranks half.to.0 0 == 0) (leads_back rank parent (get_or ranks half.to.0 0))) halves).more ≡ false
        → ((found.some || (get_or ranks half.to.0 0 == 0)) ≡ true → (see_all rank parent ranks (see found half (get_or ranks half.to.0 0 == 0) (leads_back rank parent (get_or ranks half.to.0 0))) halves).more ≡ false
        → NoMore ranks (see found half (get_or ranks half.to.0 0 == 0) (leads_back rank parent (get_or ranks half.to.0 0))) (see_all rank parent ranks (see found half (get_or ranks half.to.0 0 == 0) (leads_back rank parent (get_or ranks half.to.0 0))) halves) halves)
        → ((found.more || (found.some && (get_or ranks half.to.0 0 == 0))) ≡ true → (see_all rank parent ranks (see found half (get_or ranks half.to.0 0 == 0) (leads_back rank parent (get_or ranks half.to.0 0))) halves).more ≡ true)
        → NoMore ranks found (see_all rank parent ranks (see found half (get_or ranks half.to.0 0 == 0) (leads_back rank parent (get_or ranks half.to.0 0))) halves) (half ∷ halves)
    by_test true free none ih stays = absurd (false≢true (sym none ∙ stays (rw (some, free) (last found.more))))
      where
        last : (b : Bool) → (b || true) ≡ true
        last true = refl
        last false = refl
    by_test false taken none ih stays =
        let r = ih (rw some refl) none in
        record {
          least = r.least ∙ ap (λ (b : Bool). if b && (not found.some || nat_lt half.to.0 found.least) then half.to.0 else found.least) taken;
          written = λ v h. elim (or_cases (half.to.0 == v) (list_any (λ half. half.to.0 == v) halves) h) [
            | inl here ↦ ap (λ (x : ℕ). get_or ranks x 0 == 0) (sym (eqb-true half.to.0 v here)) ∙ taken
            | inr later ↦ r.written v later
          ];
        }

-- Where one is found and no more, it is the only unwritten one.
pub only_one : (rank parent : ℕ) (ranks : List ℕ) (halves : List HalfEdge) (found : Seen) → found.some ≡ false → (see_all rank parent ranks found halves).more ≡ false → (v : ℕ)
    → list_any (λ half. half.to.0 == v) halves ≡ true → (get_or ranks v 0 == 0) ≡ true → (see_all rank parent ranks found halves).least ≡ v
only_one rank parent ranks [] found none more v h free = absurd (false≢true h)
only_one rank parent ranks (half ∷ halves) found none more v h free = by_test (get_or ranks half.to.0 0 == 0) refl
    (λ e. none_more rank parent ranks halves (see found half (get_or ranks half.to.0 0 == 0) (leads_back rank parent (get_or ranks half.to.0 0))) e more)
    (λ e i. only_one rank parent ranks halves (see found half (get_or ranks half.to.0 0 == 0) (leads_back rank parent (get_or ranks half.to.0 0))) e more v i free)
  where
    by_test : (t : Bool) → (get_or ranks half.to.0 0 == 0) ≡ t
        → ((found.some || (get_or ranks half.to.0 0 == 0)) ≡ true
        → NoMore ranks (see found half (get_or ranks half.to.0 0 == 0) (leads_back rank parent (get_or ranks half.to.0 0))) (see_all rank parent ranks (see found half (get_or ranks half.to.0 0 == 0) (leads_back rank parent (get_or ranks half.to.0 0))) halves) halves)
        → ((found.some || (get_or ranks half.to.0 0 == 0)) ≡ false → list_any (λ half. half.to.0 == v) halves ≡ true
        → (see_all rank parent ranks (see found half (get_or ranks half.to.0 0 == 0) (leads_back rank parent (get_or ranks half.to.0 0))) halves).least ≡ v)
        → (see_all rank parent ranks (see found half (get_or ranks half.to.0 0 == 0) (leads_back rank parent (get_or ranks half.to.0 0))) halves).least ≡ v
    by_test true t one ih =
        let r = one (rw (none, t) refl) in
        let here : (if (get_or ranks half.to.0 0 == 0) && (not found.some || nat_lt half.to.0 found.least) then half.to.0 else found.least) ≡ half.to.0 = rw (t, none) refl in
        elim (or_cases (half.to.0 == v) (list_any (λ half. half.to.0 == v) halves) h) [
          | inl same ↦ r.least ∙ here ∙ eqb-true half.to.0 v same
          | inr later ↦ absurd (false≢true (sym (r.written v later) ∙ free))
        ]
    by_test false t one ih = elim (or_cases (half.to.0 == v) (list_any (λ half. half.to.0 == v) halves) h) [
      | inl same ↦ absurd (false≢true (sym t ∙ ap (λ (x : ℕ). get_or ranks x 0 == 0) (eqb-true half.to.0 v same) ∙ free))
      | inr later ↦ ih (rw (none, t) refl) later
    ]

-- Ring bonds

pub back_is : (rank parent : ℕ) (ranks : List ℕ) (halves : List HalfEdge) (found : Seen)
    → (see_all rank parent ranks found halves).back ≡ (found.back || list_any (λ half. leads_back rank parent (get_or ranks half.to.0 0)) halves)
back_is rank parent ranks [] found = or_none found.back
  where
    or_none : (b : Bool) → b ≡ (b || false)
    or_none true = refl
    or_none false = refl
back_is rank parent ranks (half ∷ halves) found =
    back_is rank parent ranks halves (see found half (get_or ranks half.to.0 0 == 0) (leads_back rank parent (get_or ranks half.to.0 0)))
    ∙ regroup found.back (leads_back rank parent (get_or ranks half.to.0 0)) (list_any (λ half. leads_back rank parent (get_or ranks half.to.0 0)) halves)
  where
    regroup : (a b c : Bool) → ((a || b) || c) ≡ (a || (b || c))
    regroup true b c = refl
    regroup false b c = refl

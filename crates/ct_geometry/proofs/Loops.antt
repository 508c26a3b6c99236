-- What holds of the elements of a loop.
use Rattle.std.proofs.Common.{◌≡◌, ℕ, ◌<◌, List, length, get_or, drop, refl, ap, subst, inl, inr, ◌∙◌, arith, Bool, true, false, ◌&&◌, not, ◌+◌, ◌≤◌, ◌≢◌, [], ◌∷◌, ◌++◌}
use Rattle.std.proofs.lemmas.Bool.{cases_lt}
use Rattle.std.proofs.lemmas.List.{drop_more}
use Rattle.std.proofs.lemmas.List.Elements.{All-drop, All-push}
use Rattle.std.specs.List.{list_all}
use Rattle.ct_geometry.specs.Orders.{are_apart, in_order}
use Rattle.std.specs.List.{All}
use Rattle.std.proofs.lemmas.Option.{slice_get-get_or}
use Rattle.mc_mol.specs.declared.drawing.Point.{Point}
use Rattle.mc_mol.specs.declared.parts.HalfEdge.{HalfEdge}
use Rattle.ct_geometry.specs.Bounds.{IsPlace, IsShort}
use Rattle.ct_geometry.specs.Turns.{Vector, is_zero, have_one_direction}
use Rattle.ct_geometry.specs.Neighbours.{LeadTo}

pub one_of : (halves : List HalfEdge) (i : ℕ) (d : HalfEdge) → i < length halves → LeadTo halves (get_or halves i d).to
one_of halves i d within = record { place = i; half = get_or halves i d; is_half = slice_get-get_or halves i d within; leads = refl }

pub short_one : (rays : List Vector) (i : ℕ) (d : Vector) → All IsShort rays → i < length rays → IsShort (get_or rays i d)
short_one rays i d all within = all i d within

pub short_rest : (rays : List Vector) (i : ℕ) → All IsShort rays → All IsShort (drop i rays)
short_rest rays i all = All-drop IsShort i rays all

-- one more of the rays that stand apart
apart_here : (rays : List Vector) (i : ℕ) (d : Vector) → i < length rays
    → are_apart (drop i rays) ≡ (not (is_zero (get_or rays i d)) && (list_all (λ (q : Vector). not (have_one_direction (get_or rays i d) q)) (drop (i + 1) rays) && are_apart (drop (i + 1) rays)))
apart_here rays i d within = ap are_apart (drop_more rays i d within)

passes : (a b c : Bool) → (a && b) ≡ true → (a && (b && c)) ≡ c
passes true true c e = refl
passes true false c e = cc
passes false b c e = cc

fails : (a b c : Bool) → (a && b) ≡ false → (a && (b && c)) ≡ false
fails true true c e = cc
fails true false c e = refl
fails false b c e = refl

pub apart_more : (rays : List Vector) (i : ℕ) (d : Vector) → i < length rays
    → (not (is_zero (get_or rays i d)) && list_all (λ (q : Vector). not (have_one_direction (get_or rays i d) q)) (drop (i + 1) rays)) ≡ true
    → are_apart (drop i rays) ≡ are_apart (drop (i + 1) rays)
apart_more rays i d within e = apart_here rays i d within ∙ passes (not (is_zero (get_or rays i d))) (list_all (λ (q : Vector). not (have_one_direction (get_or rays i d) q)) (drop (i + 1) rays)) (are_apart (drop (i + 1) rays)) e

pub apart_not : (rays : List Vector) (i : ℕ) (d : Vector) → i < length rays
    → (not (is_zero (get_or rays i d)) && list_all (λ (q : Vector). not (have_one_direction (get_or rays i d) q)) (drop (i + 1) rays)) ≡ false
    → are_apart (drop i rays) ≡ false
apart_not rays i d within e = apart_here rays i d within ∙ fails (not (is_zero (get_or rays i d))) (list_all (λ (q : Vector). not (have_one_direction (get_or rays i d) q)) (drop (i + 1) rays)) (are_apart (drop (i + 1) rays)) e

-- a ray and another one are in order
pub few_in_order : (rays : List Vector) → length rays ≤ 4 → length rays ≢ 3 → length rays ≢ 4 → rays ≡ in_order rays
few_in_order [] few not_three not_four = refl
few_in_order (r ∷ []) few not_three not_four = refl
few_in_order (r ∷ p ∷ []) few not_three not_four = refl
few_in_order (r ∷ p ∷ q ∷ []) few not_three not_four = absurd (not_three (omega arith))
few_in_order (r ∷ p ∷ q ∷ s ∷ []) few not_three not_four = absurd (not_four (omega arith))
few_in_order (r ∷ p ∷ q ∷ s ∷ x ∷ xs) few not_three not_four = absurd (omega arith)

pub places_more : (places : List Point) (p : Point) → All IsPlace places → IsPlace p → All IsPlace (places ++ p ∷ [])
places_more places p all is = All-push IsPlace places p all is

-- one more number
pub each_more : (P : ℕ → Type 0) (i : ℕ) → ((j : ℕ) → j < i → P j) → P i → (j : ℕ) → j < i + 1 → P j
each_more P i before now j less = elim (cases_lt j i) [
  | inl earlier ↦ before j earlier
  | inr later ↦ let same : i ≡ j = omega arith in subst P same now
]

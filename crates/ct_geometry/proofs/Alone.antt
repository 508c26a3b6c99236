-- What one wedge alone says of an atom.
use Rattle.std.proofs.Common.{◌≡◌, ◌≢◌, ◌∙◌, ℕ, zero, suc, Bool, true, false, ◌&&◌, not, ◌==◌, List, [], ◌∷◌, Some, slice_get, refl, ap, subst, arith, inl, inr}
use Rattle.std.specs.List.{list_any}
use Rattle.std.proofs.lemmas.Bool.{cases_eq}
use Rattle.std.proofs.lemmas.Bool.Decides.{nat_tests}
use Rattle.std.proofs.lemmas.Map.Keys.{any_passes_from_place}
use Rattle.std.proofs.Math.Bool.{and-false}
use Rattle.ct_sd.specs.declared.table.DrawMark.{DrawMark}
use Rattle.ct_sd.specs.declared.table.DrawMark.TheVariants.{Plain, Up, Down, Wavy, Either}
use Rattle.mc_base.specs.declared.ids.AtomId.{AtomId}
use Rattle.mc_mol.specs.declared.parts.HalfEdge.{HalfEdge}
use Rattle.mc_mol.specs.declared.parts.Slot.{Slot}
use Rattle.ct_geometry.specs.Turns.{Vector}
use Rattle.ct_geometry.specs.Wedges.{is_wedge, is_wavy, carries, list_of, wedge_list, is_middle_one, coincide, wedge_in_the_middle, contradict, contradicts, is_drawn_as_centre, first_list, reading}
use Rattle.ct_geometry.specs.declared.wedge_read.WedgeRead.TheVariants as read

-- no element passes a test; or one does
pub any_not : {A : Type 0} (f : A → Bool) (xs : List A) → ((i : ℕ) (x : A) → slice_get xs i ≡ Some x → f x ≡ false) → list_any f xs ≡ false
any_not f [] all = refl
any_not f (x ∷ xs) all = rw (all 0 x refl) (any_not f xs (λ i y at. all (suc i) y at))

-- of these half-edges the one at this place alone carries a mark, and that a wedge
pub record IsAlone (mark_of : ℕ → DrawMark) (halves : List HalfEdge) (place : ℕ) (half : HalfEdge) : Type 0 where
  pub is_half : slice_get halves place ≡ Some half
  pub wedge : is_wedge (mark_of half.bond.0) ≡ true
  pub rest : (i : ℕ) (h : HalfEdge) → i ≢ place → slice_get halves i ≡ Some h → mark_of h.bond.0 ≡ Plain

-- a half-edge is told by its place
pub one_half : (halves : List HalfEdge) (i place : ℕ) (h half : HalfEdge) → i ≡ place → slice_get halves i ≡ Some h → slice_get halves place ≡ Some half → h ≡ half
one_half halves i place h half e at is = let moved : slice_get halves place ≡ Some h = subst (λ (k : ℕ). slice_get halves k ≡ Some h) e at in cc

no_wedge : (mark : DrawMark) → mark ≡ Plain → is_wedge mark ≡ false
no_wedge mark e = rw e refl

no_wave : (mark : DrawMark) → mark ≡ Plain → is_wavy mark ≡ false
no_wave mark e = rw e refl

wedge_no_wave : (mark : DrawMark) → is_wedge mark ≡ true → is_wavy mark ≡ false
wedge_no_wave Plain e = refl
wedge_no_wave Up e = refl
wedge_no_wave Down e = refl
wedge_no_wave Wavy e = cc
wedge_no_wave Either e = refl

same_number : (a : ℕ) → not (a == a) ≡ false
same_number a = (let e : (a == a) ≡ true = grind (arith, nat_tests) in rw e refl)

module _ (mark_of : ℕ → DrawMark) (ray_to : AtomId → Vector) where
  -- a test that needs the mark fails elsewhere
  elsewhere : (halves : List HalfEdge) (place : ℕ) (half : HalfEdge) → IsAlone mark_of halves place half → (i : ℕ) (h : HalfEdge) (b : Bool) → i ≢ place → slice_get halves i ≡ Some h
      → (carries mark_of h && b) ≡ false
  elsewhere halves place half alone i h b ne at = rw (no_wedge (mark_of h.bond.0) (alone.rest i h ne at)) refl

  is_drawn : (halves : List HalfEdge) (place : ℕ) (half : HalfEdge) → IsAlone mark_of halves place half → is_drawn_as_centre mark_of halves ≡ true
  is_drawn halves place half alone =
      let has : list_any (λ (h : HalfEdge). carries mark_of h) halves ≡ true = any_passes_from_place (λ (h : HalfEdge). carries mark_of h) halves place half alone.is_half alone.wedge in
      let none : list_any (λ (h : HalfEdge). is_wavy (mark_of h.bond.0)) halves ≡ false = any_not (λ (h : HalfEdge). is_wavy (mark_of h.bond.0)) halves (λ i h at. elim (cases_eq i place) [
        | inl same ↦ (let is = one_half halves i place h half same at alone.is_half in ap (λ (x : HalfEdge). is_wavy (mark_of x.bond.0)) is ∙ wedge_no_wave (mark_of half.bond.0) alone.wedge)
        | inr other ↦ no_wave (mark_of h.bond.0) (alone.rest i h other at)
      ]) in
      rw (has, none) refl

  not_middle : (halves : List HalfEdge) (place : ℕ) (half : HalfEdge) → IsAlone mark_of halves place half → is_middle_one halves ray_to half.to ≡ false → wedge_in_the_middle mark_of halves ray_to ≡ false
  unfolding wedge_in_the_middle
  not_middle halves place half alone free = any_not (λ (h : HalfEdge). carries mark_of h && is_middle_one halves ray_to h.to) halves (λ i h at. elim (cases_eq i place) [
    | inl same ↦ (let is = one_half halves i place h half same at alone.is_half in ap (λ (b : Bool). carries mark_of h && b) (ap (λ (x : HalfEdge). is_middle_one halves ray_to x.to) is ∙ free) ∙ and-false (carries mark_of h))
    | inr other ↦ elsewhere halves place half alone i h (is_middle_one halves ray_to h.to) other at
  ])

  none_against : (halves : List HalfEdge) (place : ℕ) (half : HalfEdge) (places : List Slot) → IsAlone mark_of halves place half → contradicts mark_of halves ray_to half places ≡ false
  none_against halves place half places alone = any_not _ halves (λ i h at. elim (cases_eq i place) [
    | inl same ↦ (let is = one_half halves i place h half same at alone.is_half in let e : not (half.bond.0 == h.bond.0) ≡ false = ap (λ (x : HalfEdge). not (half.bond.0 == x.bond.0)) is ∙ same_number half.bond.0 in rw e refl)
    | inr other ↦ ap (λ (b : Bool). not (half.bond.0 == h.bond.0) && b) (elsewhere halves place half alone i h _ other at) ∙ and-false (not (half.bond.0 == h.bond.0))
  ])

  no_contradiction : (halves : List HalfEdge) (place : ℕ) (half : HalfEdge) → IsAlone mark_of halves place half → contradict mark_of halves ray_to ≡ false
  unfolding contradict
  no_contradiction halves place half alone = any_not (λ (g : HalfEdge). carries mark_of g && contradicts mark_of halves ray_to g (list_of mark_of halves ray_to g)) halves (λ i g at. elim (cases_eq i place) [
    | inl same ↦ (let is = one_half halves i place g half same at alone.is_half in
        ap (λ (b : Bool). carries mark_of g && b) (ap (λ (x : HalfEdge). contradicts mark_of halves ray_to x (list_of mark_of halves ray_to x)) is ∙ none_against halves place half (list_of mark_of halves ray_to half) alone) ∙ and-false (carries mark_of g))
    | inr other ↦ elsewhere halves place half alone i g (contradicts mark_of halves ray_to g (list_of mark_of halves ray_to g)) other at
  ])

  first_is : (halves xs : List HalfEdge) (place : ℕ) (half : HalfEdge) → IsAlone mark_of xs place half → first_list mark_of halves ray_to xs ≡ list_of mark_of halves ray_to half
  first_is halves [] place half alone = (let at = alone.is_half in cc)
  first_is halves (x ∷ xs) zero half alone =
      let at = alone.is_half in
      let same : x ≡ half = cc in
      let here : carries mark_of x ≡ true = ap (λ (h : HalfEdge). carries mark_of h) same ∙ alone.wedge in
      rw here (ap (λ (h : HalfEdge). list_of mark_of halves ray_to h) same)
  first_is halves (x ∷ xs) (suc place) half alone =
      let here : carries mark_of x ≡ false = no_wedge (mark_of x.bond.0) (alone.rest 0 x (λ e. cc) refl) in
      rw here (first_is halves xs place half (record { is_half = alone.is_half; wedge = alone.wedge; rest = λ i h ne at. alone.rest (suc i) h (λ e. ne (omega arith)) at }))

  -- the wedge alone gives its list
  pub read_alone : (halves : List HalfEdge) (place : ℕ) (half : HalfEdge) → IsAlone mark_of halves place half → coincide halves ray_to ≡ false → is_middle_one halves ray_to half.to ≡ false
      → reading true mark_of halves ray_to ≡ read.Centre (wedge_list halves ray_to half.to (mark_of half.bond.0))
  read_alone halves place half alone apart free =
      rw (is_drawn halves place half alone, apart, not_middle halves place half alone free, no_contradiction halves place half alone)
      (ap read.Centre (first_is halves halves place half alone))

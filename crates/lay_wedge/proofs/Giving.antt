-- One more centre has its wedge.
use Rattle.std.proofs.Common.{◌≡◌, ◌≢◌, ◌∙◌, ◌⊎◌, ℕ, ◌<◌, Bool, true, false, ◌&&◌, not, ◌==◌, List, Option, Some, None, get_or, length, reverse, slice_get, slice_set, refl, sym, ap, subst, arith, inl, inr}
use Rattle.std.proofs.lemmas.Bool.{cases_eq, cases_lt, and_parts}
use Rattle.std.proofs.lemmas.Bool.Decides.{nat_tests}
use Rattle.std.proofs.lemmas.Option.{slice_get_within, slice_get-get_or}
use Rattle.ct_sd.specs.declared.table.DrawMark.{DrawMark}
use Rattle.ct_sd.specs.declared.table.DrawMark.TheVariants.{Plain, Up, Down, Wavy, Either}
use Rattle.mc_base.specs.declared.ids.AtomId.{AtomId}
use Rattle.mc_mol.specs.declared.drawing.Point.{Point}
use Rattle.mc_mol.specs.declared.parts.Bond.{Bond}
use Rattle.mc_mol.specs.declared.parts.HalfEdge.{HalfEdge}
use Rattle.mc_mol.specs.declared.parts.Slot.{Slot}
use Rattle.mc_mol.specs.Molecule.{Molecule, joins}
use Rattle.mc_mol.specs.HalfEdges.{half_edges}
use Rattle.mc_mol.specs.Permutations.{is_even_permutation}
use Rattle.mc_mol.proofs.Apart.{bonds_rise, joins_touches}
use Rattle.mc_mol.proofs.Lists.{slice_get-slice_set, length-slice_set}
use Rattle.mc_mol.proofs.Twins.{all_have_twins}
use Rattle.mc_rings.specs.Centres.{has_order, order_is}
use Rattle.ct_geometry.specs.declared.wedge.Wedge.{Wedge}
use Rattle.ct_geometry.specs.Drawn.{rays_from}
use Rattle.ct_geometry.specs.Wedges.{is_middle_one, is_wedge, wedge_list}
use Rattle.lay_wedge.specs.Plans.{IsCentre, IsWedgeOf, plain}
use Rattle.lay_wedge.specs.Underway.{Carries, GoesOn, HasFree, HasTwoFree, IsPlannable, IsPlanned, Underway, is_false, is_free, is_open, is_plain, is_plain_wedge, is_some_list, may_serve}
use Rattle.lay_wedge.proofs.Changed.{set_else, set_here}

plain_not : (mark : DrawMark) → is_wedge mark ≡ true → is_plain mark ≡ true → ⊥
plain_not Plain e f = cc
plain_not Up e f = cc
plain_not Down e f = cc
plain_not Wavy e f = cc
plain_not Either e f = cc

free_is : (wedges : List Wedge) (k : ℕ) (wedge : Wedge) → is_free wedges k ≡ true → slice_get wedges k ≡ Some wedge → is_plain wedge.mark ≡ true
free_is wedges k wedge free at = ap is_plain_wedge (sym at) ∙ free

-- different half-edges of an atom have different bonds
pub bonds_differ : (m : Molecule) (b i j : ℕ) (g h : HalfEdge) → i ≢ j → slice_get (half_edges m b) i ≡ Some g → slice_get (half_edges m b) j ≡ Some h → g.bond.0 ≢ h.bond.0
bonds_differ m b i j g h ne at_g at_h e = elim (cases_lt i j) [
  | inl less ↦ (let rise = bonds_rise (reverse m.bonds) b i j g h less at_g at_h in omega arith)
  | inr more ↦ (let less : j < i = omega arith in let rise = bonds_rise (reverse m.bonds) b j i h g less at_h at_g in omega arith)
]

-- the bond of a half-edge joins its two atoms, and no third
joins_other : (bond : Bond) (a b c d : ℕ) → joins bond a b ≡ true → joins bond c d ≡ true → (c ≡ a) ⊎ (c ≡ b)
joins_other bond a b c d e f = grind (arith, nat_tests)

order_one : (bonds : List Bond) (k : ℕ) (bond : Bond) → has_order bonds k 1 ≡ true → slice_get bonds k ≡ Some bond → bond.order ≡ 1
order_one bonds k bond test at = let e : (bond.order == 1) ≡ true = ap (λ o. order_is o 1) (sym at) ∙ test in grind (arith, nat_tests)

abbrev pub no_bond : Bond
no_bond = record { first = record { 0 = 0 }; second = record { 0 = 0 }; order = 1 }

-- what is given: a free bond of centre a, with a mark that says its list
pub record Gift (m : Molecule) (drawing : List Point) (wedges : List Wedge) (planned : List Bool) (a : ℕ) (half : HalfEdge) (mark : DrawMark) : Type 0 where
  pub state : Underway m drawing wedges planned (Some a)
  pub plannable : IsPlannable m drawing
  pub place : ℕ
  pub is_half : slice_get (half_edges m a) place ≡ Some half
  pub serves : may_serve m drawing a half ≡ true
  pub free : is_free wedges half.bond.0 ≡ true
  pub marked : is_wedge mark ≡ true
  pub even : (places : List Slot) → IsCentre m a places → is_even_permutation places (wedge_list (half_edges m a) (rays_from drawing a) half.to mark) ≡ true

centre_of : (found : Option (Option (List Slot))) → is_some_list found ≡ true → (places : List Slot) × (found ≡ Some (Some places))
centre_of None e = cc
centre_of (Some None) e = cc
centre_of (Some (Some places)) e = (places, refl)

false_of : (found : Option Bool) → is_false found ≡ true → found ≡ Some false
false_of None e = cc
false_of (Some true) e = cc
false_of (Some false) e = refl

pub goes_on : (m : Molecule) (planned : List Bool) (to : AtomId) → is_open m planned to.0 ≡ true → GoesOn m planned to.0 (Some to.0)
goes_on m planned to is =
    let both = and_parts (is_some_list (slice_get m.centres to.0)) (is_false (slice_get planned to.0)) is in
    record {
      at = λ b e. (let same : b ≡ to.0 = cc in
          subst (λ (n : ℕ). (n ≡ to.0) × ((places : List Slot) × IsCentre m n places) × (slice_get planned n ≡ Some false)) (sym same)
          (refl, centre_of (slice_get m.centres to.0) both.0, false_of (slice_get planned to.0) both.1));
      ended = λ places ne centre. absurd (ne refl);
    }

pub stops : (m : Molecule) (planned : List Bool) (to : AtomId) → is_open m planned to.0 ≡ false → GoesOn m planned to.0 None
stops m planned to is = record {
  at = λ b e. cc;
  ended = λ places ne centre at. (let is_true : is_open m planned to.0 ≡ true = rw (centre, at) refl in cc);
}

module _ (m : Molecule) (drawing : List Point) (wedges : List Wedge) (planned : List Bool) (a : ℕ) (half : HalfEdge) (mark : DrawMark) (gift : Gift m drawing wedges planned a half mark) where
  abbrev k : ℕ
  k = half.bond.0

  abbrev given : Wedge
  given = record { mark = mark; narrow = record { 0 = a } }

  abbrev now : List Wedge
  now = slice_set wedges k given

  abbrev done_now : List Bool
  done_now = slice_set planned a true

  waiting : slice_get planned a ≡ Some false
  waiting = gift.state.waits a refl

  -- another centre that was planned is not a
  planned_other : (b : ℕ) → slice_get planned b ≡ Some true → b ≢ a
  planned_other b at e = (let w = waiting in let moved : slice_get planned a ≡ Some true = subst (λ (n : ℕ). slice_get planned n ≡ Some true) e at in cc)

  stays : (b : ℕ) → slice_get planned b ≡ Some true → slice_get done_now b ≡ Some true
  stays b at = set_else planned a b true true (planned_other b at) at

  here_now : slice_get done_now a ≡ Some true
  here_now = set_here planned a true (slice_get_within planned a false waiting)

  -- the bond joins a to the other end
  twin_bond : (bond : Bond) → slice_get m.bonds k ≡ Some bond → joins bond a half.to.0 ≡ true
  twin_bond bond at =
      let twin = all_have_twins m (record { 0 = a }) gift.plannable.molecule gift.place half gift.is_half in
      let found = twin.is_bond in
      let same : twin.bond ≡ bond = cc in
      subst (λ (b : Bond). joins b a half.to.0 ≡ true) same twin.joined

  -- a half-edge of this bond belongs to an end of it
  ends : (b i : ℕ) (h : HalfEdge) → slice_get (half_edges m b) i ≡ Some h → h.bond.0 ≡ k → (b ≡ a) ⊎ (b ≡ half.to.0)
  ends b i h at e =
      let twin = all_have_twins m (record { 0 = b }) gift.plannable.molecule i h at in
      let at_k : slice_get m.bonds k ≡ Some twin.bond = subst (λ (n : ℕ). slice_get m.bonds n ≡ Some twin.bond) e twin.is_bond in
      joins_other twin.bond a half.to.0 b h.to.0 (twin_bond twin.bond at_k) twin.joined

  -- a free bond other than this one stays free
  free_stays : (j : ℕ) → j ≢ k → is_free wedges j ≡ true → is_free now j ≡ true
  free_stays j ne free = by_wedge (slice_get wedges j) refl
    where
      by_wedge : (found : Option Wedge) → slice_get wedges j ≡ found → is_free now j ≡ true
      by_wedge None e = (let none : is_plain_wedge None ≡ true = ap is_plain_wedge (sym e) ∙ free in cc)
      by_wedge (Some wedge) e = ap is_plain_wedge (set_else wedges k j given wedge ne e) ∙ (ap is_plain_wedge (sym e) ∙ free)

  free_now : (b place : ℕ) (was : HasFree m drawing wedges b place) → was.half.bond.0 ≢ k → HasFree m drawing now b place
  free_now b place was ne = record { half = was.half; is_half = was.is_half; serves = was.serves; free = free_stays was.half.bond.0 ne was.free }

  bonds_now : (j : ℕ) (bond : Bond) (wedge : Wedge) → slice_get m.bonds j ≡ Some bond → slice_get now j ≡ Some wedge
      → (wedge ≡ plain bond) ⊎ (IsWedgeOf m bond wedge × (slice_get done_now wedge.narrow.0 ≡ Some true))
  bonds_now j bond wedge at_bond at_wedge = elim (slice_get-slice_set wedges k j given wedge at_wedge) [
    | inl new ↦ inr (new_one j bond wedge new.0 new.1 at_bond)
    | inr old ↦ elim (gift.state.bonds j bond wedge at_bond old) [
      | inl none ↦ inl none
      | inr one ↦ inr (one.0, stays wedge.narrow.0 one.1)
    ]
  ]
    where
      new_one : (j : ℕ) (bond : Bond) (wedge : Wedge) → j ≡ k → wedge ≡ given → slice_get m.bonds j ≡ Some bond → IsWedgeOf m bond wedge × (slice_get done_now wedge.narrow.0 ≡ Some true)
      new_one j bond wedge e is at =
          let at_k : slice_get m.bonds k ≡ Some bond = subst (λ (n : ℕ). slice_get m.bonds n ≡ Some bond) e at in
          let centre = gift.state.is_centre a refl in
          let serves = and_parts (has_order m.bonds k 1) (not (is_middle_one (half_edges m a) (rays_from drawing a) half.to)) gift.serves in
          subst (λ (w : Wedge). IsWedgeOf m bond w × (slice_get done_now w.narrow.0 ≡ Some true)) (sym is)
          (record { marked = gift.marked; single = order_one m.bonds k bond serves.0 at_k; at_end = joins_touches bond a half.to.0 (twin_bond bond at_k); places = centre.0; centre = centre.1 }, here_now)

  own : (places : List Slot) → IsCentre m a places → Carries m drawing now a places
  own places centre = record {
    place = gift.place;
    half = half;
    is_half = gift.is_half;
    serves = gift.serves;
    wedge = given;
    at_bond = set_here wedges k given (within refl);
    narrow = refl;
    marked = gift.marked;
    even = gift.even places centre;
    only = λ j other at narrow ne. elim (slice_get-slice_set wedges k j given other at) [
      | inl new ↦ absurd (ne new.0)
      | inr old ↦ unmarked j other old narrow
    ];
  }
    where
      within : (e : k ≡ k) → k < length wedges
      within e =
          let twin = all_have_twins m (record { 0 = a }) gift.plannable.molecule gift.place half gift.is_half in
          let low = slice_get_within m.bonds k twin.bond twin.is_bond in
          let count = gift.state.count in
          omega arith

      unmarked : (j : ℕ) (other : Wedge) → slice_get wedges j ≡ Some other → other.narrow.0 ≡ a → other.mark ≡ Plain
      unmarked j other at narrow =
          let low = slice_get_within wedges j other at in
          let count = gift.state.count in
          let bond : Bond = get_or m.bonds j no_bond in
          let at_bond : slice_get m.bonds j ≡ Some bond = slice_get-get_or m.bonds j no_bond (omega arith) in
          elim (gift.state.bonds j bond other at_bond at) [
            | inl none ↦ ap (λ (w : Wedge). w.mark) none
            | inr one ↦ absurd (planned_other other.narrow.0 one.1 narrow)
          ]

  kept : (b : ℕ) (places : List Slot) → slice_get planned b ≡ Some true → Carries m drawing wedges b places → Carries m drawing now b places
  kept b places was c = record {
    place = c.place;
    half = c.half;
    is_half = c.is_half;
    serves = c.serves;
    wedge = c.wedge;
    at_bond = set_else wedges k c.half.bond.0 given c.wedge (λ e. plain_not c.wedge.mark c.marked (free_is wedges k c.wedge gift.free (subst (λ (n : ℕ). slice_get wedges n ≡ Some c.wedge) e c.at_bond))) c.at_bond;
    narrow = c.narrow;
    marked = c.marked;
    even = c.even;
    only = λ j other at narrow ne. elim (slice_get-slice_set wedges k j given other at) [
      | inl new ↦ absurd (planned_other b was (sym narrow ∙ ap (λ (w : Wedge). w.narrow.0) new.1))
      | inr old ↦ c.only j other old narrow ne
    ];
  }

  -- a centre that waits still has two free bonds, unless it stands at the other end
  two_now : (b : ℕ) → b ≢ a → b ≢ half.to.0 → HasTwoFree m drawing wedges b → HasTwoFree m drawing now b
  two_now b not_a not_to two = record {
    first = two.first;
    second = two.second;
    different = two.different;
    one = free_now b two.first two.one (λ e. elim (ends b two.first two.one.half two.one.is_half e) [ inl p ↦ not_a p | inr p ↦ not_to p ]);
    other = free_now b two.second two.other (λ e. elim (ends b two.second two.other.half two.other.is_half e) [ inl p ↦ not_a p | inr p ↦ not_to p ]);
  }

  -- and there it has one
  one_now : (b : ℕ) → HasTwoFree m drawing wedges b → (place : ℕ) × HasFree m drawing now b place
  one_now b two = elim (cases_eq two.one.half.bond.0 k) [
    | inl same ↦ (two.second, free_now b two.second two.other (λ e. bonds_differ m b two.first two.second two.one.half two.other.half two.different two.one.is_half two.other.is_half (same ∙ sym e)))
    | inr other ↦ (two.first, free_now b two.first two.one other)
  ]

  waits_else : (b : ℕ) → slice_get done_now b ≡ Some false → (b ≢ a) × (slice_get planned b ≡ Some false)
  waits_else b at = elim (slice_get-slice_set planned a b true false at) [
    | inl new ↦ (let e = new.1 in cc)
    | inr old ↦ (λ e. (let h = here_now in let moved : slice_get done_now a ≡ Some false = subst (λ (n : ℕ). slice_get done_now n ≡ Some false) e at in cc), old)
  ]

  some_differ : (b : ℕ) → b ≢ a → Some a ≢ Some b
  some_differ b ne e = ne cc

  pub after : (next : Option ℕ) → GoesOn m done_now half.to.0 next → Underway m drawing now done_now next
  after next on = record {
    count = length-slice_set wedges k given ∙ gift.state.count;
    marks = length-slice_set planned a true ∙ gift.state.marks;
    bonds = bonds_now;
    done = λ b places centre at. elim (slice_get-slice_set planned a b true true at) [
      | inl new ↦ subst (λ (n : ℕ). IsCentre m n places → Carries m drawing now n places) (sym new.0) (own places) centre
      | inr old ↦ kept b places old (gift.state.done b places centre old)
    ];
    others = λ b places centre at ne. (
        let w = waits_else b at in
        two_now b w.0 (λ e. on.ended places (λ f. ne (f ∙ ap (λ (n : ℕ). Some n) (sym e))) (subst (λ (n : ℕ). IsCentre m n places) e centre) (subst (λ (n : ℕ). slice_get done_now n ≡ Some false) e at))
        (gift.state.others b places centre w.1 (some_differ b w.0)));
    waits = λ b e. (on.at b e).2;
    is_centre = λ b e. (on.at b e).1;
    here = λ b e. (
        let o = on.at b e in
        let w = waits_else b o.2 in
        one_now b (gift.state.others b o.1.0 o.1.1 w.1 (some_differ b w.0)));
  }

-- the walk begins at a centre that has no wedge
pub begun : (m : Molecule) (drawing : List Point) (wedges : List Wedge) (planned : List Bool) (a : ℕ) → Underway m drawing wedges planned None → is_open m planned a ≡ true → Underway m drawing wedges planned (Some a)
begun m drawing wedges planned a state is =
    let both = and_parts (is_some_list (slice_get m.centres a)) (is_false (slice_get planned a)) is in
    let centre = centre_of (slice_get m.centres a) both.0 in
    let waiting = false_of (slice_get planned a) both.1 in
    record {
      count = state.count;
      marks = state.marks;
      bonds = state.bonds;
      done = state.done;
      others = λ b places is_centre at ne. state.others b places is_centre at (λ e. cc);
      waits = λ b e. (let same : b ≡ a = cc in subst (λ (n : ℕ). slice_get planned n ≡ Some false) (sym same) waiting);
      is_centre = λ b e. (let same : b ≡ a = cc in subst (λ (n : ℕ). (places : List Slot) × IsCentre m n places) (sym same) centre);
      here = λ b e. (
          let same : b ≡ a = cc in
          let two = state.others a centre.0 centre.1 waiting (λ f. cc) in
          subst (λ (n : ℕ). (place : ℕ) × HasFree m drawing wedges n place) (sym same) (two.first, two.one));
    }

true_of : (found : Option Bool) (b : Bool) → found ≡ Some b → is_false found ≡ false → found ≡ Some true
true_of found true at e = at
true_of found false at e = (let h : is_false found ≡ true = ap is_false at in cc)

-- a centre that isn't open has its wedge
pub had : (m : Molecule) (planned : List Bool) (a : ℕ) → a < length planned → is_open m planned a ≡ false → IsPlanned m planned a
had m planned a within is places centre =
    let none : is_false (slice_get planned a) ≡ false = ap (λ o. is_some_list o && is_false (slice_get planned a)) (sym centre) ∙ is in
    true_of (slice_get planned a) (get_or planned a true) (slice_get-get_or planned a true within) none

pub planned_here : (planned : List Bool) (a : ℕ) → slice_get planned a ≡ Some false → slice_get (slice_set planned a true) a ≡ Some true
planned_here planned a waits = set_here planned a true (slice_get_within planned a false waits)

-- The list that wedges give of a centre has four different places, of which the atoms are exactly the neighbours.
use Rattle.std.proofs.Common.{arith, ◌≡◌, ◌≢◌, ◌∙◌, ℕ, zero, suc, ◌+◌, ◌<◌, ◌==◌, ◌&&◌, ◌||◌, not, Bool, true, false, List, [], ◌∷◌, Some, length, map, filter, if◌then◌else◌, slice_get, refl, sym, ap, subst, inl, inr, ◌⊎◌}
use Rattle.std.specs.List.{list_any}
use Rattle.std.specs.Prelude.{All, AllPairs, Contains, ◌↔◌, Option}
use Rattle.std.proofs.lemmas.Bool.{cases_eq, and_parts}
use Rattle.std.proofs.lemmas.Bool.Decides.{nat_tests}
use Rattle.std.proofs.lemmas.List.Elements.{All-cons, All-nil}
use Rattle.std.proofs.lemmas.List.Kept.{AllPairs-cons}
use Rattle.ct_sd.specs.declared.table.DrawMark.{DrawMark}
use Rattle.ct_sd.specs.declared.table.DrawMark.TheVariants.{Plain, Up, Down, Wavy, Either}
use Rattle.mc_base.specs.declared.ids.AtomId.{AtomId}
use Rattle.mc_mol.specs.declared.drawing.Point.{Point}
use Rattle.mc_mol.specs.declared.parts.HalfEdge.{HalfEdge}
use Rattle.mc_mol.specs.declared.parts.Slot.{Slot}
use Rattle.mc_mol.specs.declared.parts.Slot.TheVariants.{At, Rest}
use Rattle.mc_mol.specs.Molecule.{Molecule, are_joined}
use Rattle.mc_mol.specs.HalfEdges.{half_edges, LeadApart}
use Rattle.mc_mol.specs.WellFormed.{IsMolecule, IsPlaceList}
use Rattle.mc_mol.proofs.Apart.{lead_apart}
use Rattle.mc_mol.proofs.Halves.{are_joined-half_edges}
use Rattle.mc_mol.proofs.Neighbours.{AreEnds, joined_ends}
use Rattle.mc_mol.proofs.Numbered.{leads_to}
use Rattle.mc_rings.specs.Centres.{may_be_centre, centre_test, free_doubles_at, hydrogens_of, singles_at}
use Rattle.ct_geometry.specs.Turns.{Vector, is_met_before, is_wide}
use Rattle.ct_geometry.specs.Drawn.{rays_from}
use Rattle.ct_geometry.specs.Neighbours.{AreOfCentre, LeadTo}
use Rattle.ct_geometry.specs.Wedges.{met_from, put_met, others, up_list, up_list_of_three, exchanged, by_mark, wedge_list, list_of, carries, first_list, is_drawn_as_centre, is_ambiguous, reading, read_wedges}
use Rattle.ct_geometry.specs.declared.wedge_read.WedgeRead.{WedgeRead}
use Rattle.ct_geometry.specs.declared.wedge_read.WedgeRead.TheVariants as read
use Rattle.ct_geometry.proofs.Apart.{Each, Other, Apart, each_met, apart_met, length_met, each_other, apart_others, others_differ}
use Rattle.ct_geometry.proofs.Parity.{count_of, at_differ, at_no_rest}
use Rattle.ct_geometry.proofs.Usable.{joined_of}
use Rattle.mc_mol.proofs.Twins.{same_atom}

-- ---- four places

abbrev Differ : Slot → Slot → Type 0
Differ p q = p ≢ q

record FourApart (p q r s : Slot) : Type 0 where
  p_q : p ≢ q
  p_r : p ≢ r
  p_s : p ≢ s
  q_r : q ≢ r
  q_s : q ≢ s
  r_s : r ≢ s

all_apart : (p q r s : Slot) → FourApart p q r s → AllPairs (λ (x y : Slot). x ≢ y) (p ∷ q ∷ r ∷ s ∷ [])
all_apart p q r s f =
    AllPairs-cons Differ p (q ∷ r ∷ s ∷ []) (All-cons (Differ p) q (r ∷ s ∷ []) f.p_q (All-cons (Differ p) r (s ∷ []) f.p_r (All-cons (Differ p) s [] f.p_s (All-nil (Differ p)))))
    (AllPairs-cons Differ q (r ∷ s ∷ []) (All-cons (Differ q) r (s ∷ []) f.q_r (All-cons (Differ q) s [] f.q_s (All-nil (Differ q))))
    (AllPairs-cons Differ r (s ∷ []) (All-cons (Differ r) s [] f.r_s (All-nil (Differ r))) (AllPairs-cons Differ s [] (All-nil (Differ s)) (nothing Differ))))
  where
    nothing : (R : Slot → Slot → Type 0) → AllPairs R []
    nothing R i j d less within = absurd (omega arith)

rest_no_at : (a : AtomId) → Rest ≢ At a
rest_no_at a e = cc

-- what is known of a list of four places by the neighbours that stand in it
record Lists (bonds_lead : AtomId → Type 0) (w : AtomId) (ys : List AtomId) (places : List Slot) : Type 0 where
  four : length places ≡ 4
  apart : AllPairs (λ (x y : Slot). x ≢ y) places
  sound : (v : AtomId) → Contains places (At v) → bonds_lead v
  own : Contains places (At w)
  each : Each (λ (c : AtomId). Contains places (At c)) ys

at_is : (a b : AtomId) → At a ≡ At b → a ≡ b
at_is a b e = cc

module _ (P : AtomId → Type 0) where
  here : (a v : AtomId) → P a → At a ≡ At v → P v
  here a v p e = subst P (at_is a v e) p

  -- an atom of four places is one of them
  one_of_four : (p q r s : Slot) (v : AtomId) → (p ≡ At v → P v) → (q ≡ At v → P v) → (r ≡ At v → P v) → (s ≡ At v → P v) → Contains (p ∷ q ∷ r ∷ s ∷ []) (At v) → P v
  one_of_four p q r s v f g h i (zero, within, is) = f is
  one_of_four p q r s v f g h i (suc zero, within, is) = g is
  one_of_four p q r s v f g h i (suc (suc zero), within, is) = h is
  one_of_four p q r s v f g h i (suc (suc (suc zero)), within, is) = i is
  one_of_four p q r s v f g h i (suc (suc (suc (suc k))), within, is) = absurd (omega arith)

  no_rest : (v : AtomId) → Rest ≡ At v → P v
  no_rest v e = absurd (rest_no_at v e)

  module _ (w p q : AtomId) (pw : P w) (pp : P p) (pq : P q) (w_p : w.0 ≢ p.0) (w_q : w.0 ≢ q.0) (p_q : p.0 ≢ q.0) where
    rest_second : Lists P w (p ∷ q ∷ []) (At w ∷ Rest ∷ At p ∷ At q ∷ [])
    rest_second = record {
      four = refl;
      apart = all_apart (At w) Rest (At p) (At q) (record { p_q = at_no_rest w; p_r = at_differ w p w_p; p_s = at_differ w q w_q; q_r = rest_no_at p; q_s = rest_no_at q; r_s = at_differ p q p_q });
      sound = λ v. one_of_four (At w) Rest (At p) (At q) v (here w v pw) (no_rest v) (here p v pp) (here q v pq);
      own = (0, omega arith, refl);
      each = ((2, omega arith, refl), ((3, omega arith, refl), tt));
    }

    rest_second_down : Lists P w (p ∷ q ∷ []) (At w ∷ Rest ∷ At q ∷ At p ∷ [])
    rest_second_down = record {
      four = refl;
      apart = all_apart (At w) Rest (At q) (At p) (record { p_q = at_no_rest w; p_r = at_differ w q w_q; p_s = at_differ w p w_p; q_r = rest_no_at q; q_s = rest_no_at p; r_s = at_differ q p (λ e. p_q (sym e)) });
      sound = λ v. one_of_four (At w) Rest (At q) (At p) v (here w v pw) (no_rest v) (here q v pq) (here p v pp);
      own = (0, omega arith, refl);
      each = ((3, omega arith, refl), ((2, omega arith, refl), tt));
    }

    rest_last : Lists P w (p ∷ q ∷ []) (At w ∷ At p ∷ At q ∷ Rest ∷ [])
    rest_last = record {
      four = refl;
      apart = all_apart (At w) (At p) (At q) Rest (record { p_q = at_differ w p w_p; p_r = at_differ w q w_q; p_s = at_no_rest w; q_r = at_differ p q p_q; q_s = at_no_rest p; r_s = at_no_rest q });
      sound = λ v. one_of_four (At w) (At p) (At q) Rest v (here w v pw) (here p v pp) (here q v pq) (no_rest v);
      own = (0, omega arith, refl);
      each = ((1, omega arith, refl), ((2, omega arith, refl), tt));
    }

    rest_third : Lists P w (p ∷ q ∷ []) (At w ∷ At p ∷ Rest ∷ At q ∷ [])
    rest_third = record {
      four = refl;
      apart = all_apart (At w) (At p) Rest (At q) (record { p_q = at_differ w p w_p; p_r = at_no_rest w; p_s = at_differ w q w_q; q_r = at_no_rest p; q_s = at_differ p q p_q; r_s = rest_no_at q });
      sound = λ v. one_of_four (At w) (At p) Rest (At q) v (here w v pw) (here p v pp) (no_rest v) (here q v pq);
      own = (0, omega arith, refl);
      each = ((1, omega arith, refl), ((3, omega arith, refl), tt));
    }

    rest_first : Lists P w (p ∷ q ∷ []) (Rest ∷ At w ∷ At q ∷ At p ∷ [])
    rest_first = record {
      four = refl;
      apart = all_apart Rest (At w) (At q) (At p) (record { p_q = rest_no_at w; p_r = rest_no_at q; p_s = rest_no_at p; q_r = at_differ w q w_q; q_s = at_differ w p w_p; r_s = at_differ q p (λ e. p_q (sym e)) });
      sound = λ v. one_of_four Rest (At w) (At q) (At p) v (no_rest v) (here w v pw) (here q v pq) (here p v pp);
      own = (1, omega arith, refl);
      each = ((3, omega arith, refl), ((2, omega arith, refl), tt));
    }

    rest_first_down : Lists P w (p ∷ q ∷ []) (Rest ∷ At w ∷ At p ∷ At q ∷ [])
    rest_first_down = record {
      four = refl;
      apart = all_apart Rest (At w) (At p) (At q) (record { p_q = rest_no_at w; p_r = rest_no_at p; p_s = rest_no_at q; q_r = at_differ w p w_p; q_s = at_differ w q w_q; r_s = at_differ p q p_q });
      sound = λ v. one_of_four Rest (At w) (At p) (At q) v (no_rest v) (here w v pw) (here p v pp) (here q v pq);
      own = (1, omega arith, refl);
      each = ((2, omega arith, refl), ((3, omega arith, refl), tt));
    }

    -- the two lists by an up wedge, the same with their last two exchanged
    of_three_up : (ray_to : AtomId → Vector) → Lists P w (p ∷ q ∷ []) (up_list_of_three ray_to w p q)
    of_three_up ray_to = by_gaps (is_wide (ray_to w) (ray_to p)) (is_wide (ray_to q) (ray_to w))
      where
        by_gaps : (b c : Bool) → Lists P w (p ∷ q ∷ []) (if b then At w ∷ Rest ∷ At p ∷ At q ∷ [] else (if c then At w ∷ At p ∷ At q ∷ Rest ∷ [] else Rest ∷ At w ∷ At q ∷ At p ∷ []))
        by_gaps true c = rest_second
        by_gaps false true = rest_last
        by_gaps false false = rest_first

    of_three_down : (ray_to : AtomId → Vector) → Lists P w (p ∷ q ∷ []) (exchanged (up_list_of_three ray_to w p q))
    of_three_down ray_to = by_gaps (is_wide (ray_to w) (ray_to p)) (is_wide (ray_to q) (ray_to w))
      where
        by_gaps : (b c : Bool) → Lists P w (p ∷ q ∷ []) (exchanged (if b then At w ∷ Rest ∷ At p ∷ At q ∷ [] else (if c then At w ∷ At p ∷ At q ∷ Rest ∷ [] else Rest ∷ At w ∷ At q ∷ At p ∷ [])))
        by_gaps true c = rest_second_down
        by_gaps false true = rest_third
        by_gaps false false = rest_first_down

    module _ (s : AtomId) (ps : P s) (w_s : w.0 ≢ s.0) (p_s : p.0 ≢ s.0) (q_s : q.0 ≢ s.0) where
      of_four_up : Lists P w (p ∷ q ∷ s ∷ []) (At w ∷ At p ∷ At q ∷ At s ∷ [])
      of_four_up = record {
        four = refl;
        apart = all_apart (At w) (At p) (At q) (At s) (record { p_q = at_differ w p w_p; p_r = at_differ w q w_q; p_s = at_differ w s w_s; q_r = at_differ p q p_q; q_s = at_differ p s p_s; r_s = at_differ q s q_s });
        sound = λ v. one_of_four (At w) (At p) (At q) (At s) v (here w v pw) (here p v pp) (here q v pq) (here s v ps);
        own = (0, omega arith, refl);
        each = ((1, omega arith, refl), ((2, omega arith, refl), ((3, omega arith, refl), tt)));
      }

      of_four_down : Lists P w (p ∷ q ∷ s ∷ []) (At w ∷ At p ∷ At s ∷ At q ∷ [])
      of_four_down = record {
        four = refl;
        apart = all_apart (At w) (At p) (At s) (At q) (record { p_q = at_differ w p w_p; p_r = at_differ w s w_s; p_s = at_differ w q w_q; q_r = at_differ p s p_s; q_s = at_differ p q p_q; r_s = at_differ s q (λ e. q_s (sym e)) });
        sound = λ v. one_of_four (At w) (At p) (At s) (At q) v (here w v pw) (here p v pp) (here s v ps) (here q v pq);
        own = (0, omega arith, refl);
        each = ((1, omega arith, refl), ((3, omega arith, refl), ((2, omega arith, refl), tt)));
      }

  -- the list of an up wedge, and with its last two exchanged
  by_up : (ray_to : AtomId → Vector) (w : AtomId) (ys : List AtomId) → P w → Each P ys → Each (Other w) ys → Apart ys → (length ys ≡ 2) ⊎ (length ys ≡ 3)
      → Lists P w ys (up_list ray_to w ys) × Lists P w ys (exchanged (up_list ray_to w ys))
  by_up ray_to w [] pw all far apart (inl e) = absurd (omega arith)
  by_up ray_to w [] pw all far apart (inr e) = absurd (omega arith)
  by_up ray_to w (p ∷ []) pw all far apart (inl e) = absurd (omega arith)
  by_up ray_to w (p ∷ []) pw all far apart (inr e) = absurd (omega arith)
  by_up ray_to w (p ∷ q ∷ []) pw (pp, (pq, _)) (w_p, (w_q, _)) ((p_q, _), _) few = (of_three_up w p q pw pp pq w_p w_q p_q ray_to, of_three_down w p q pw pp pq w_p w_q p_q ray_to)
  by_up ray_to w (p ∷ q ∷ s ∷ []) pw (pp, (pq, (ps, _))) (w_p, (w_q, (w_s, _))) ((p_q, (p_s, _)), ((q_s, _), _)) few =
      (of_four_up w p q pw pp pq w_p w_q p_q s ps w_s p_s q_s, of_four_down w p q pw pp pq w_p w_q p_q s ps w_s p_s q_s)
  by_up ray_to w (p ∷ q ∷ s ∷ x ∷ xs) pw all far apart (inl e) = absurd (omega arith)
  by_up ray_to w (p ∷ q ∷ s ∷ x ∷ xs) pw all far apart (inr e) = absurd (omega arith)

  marked : (mark : DrawMark) (w : AtomId) (ys : List AtomId) (list : List Slot) → Lists P w ys list → Lists P w ys (exchanged list) → Lists P w ys (by_mark mark list)
  marked Up w ys list up down = up
  marked Down w ys list up down = down
  marked Plain w ys list up down = up
  marked Wavy w ys list up down = up
  marked Either w ys list up down = up

-- ---- what holds of all that are met holds of all others, and with w of all neighbours

module _ (ray_to : AtomId → Vector) (r : Vector) (P : AtomId → Type 0) where
  from_put : (x : AtomId) (ys : List AtomId) → Each P (put_met ray_to r x ys) → P x × Each P ys
  from_put x [] (px, rest) = (px, tt)
  from_put x (y ∷ ys) all = by_test (is_met_before r (ray_to x) (ray_to y)) (λ rest. from_put x ys rest) all
    where
      by_test : (b : Bool) → (Each P (put_met ray_to r x ys) → P x × Each P ys) → Each P (if b then x ∷ y ∷ ys else y ∷ put_met ray_to r x ys) → P x × Each P (y ∷ ys)
      by_test true more (px, rest) = (px, rest)
      by_test false more (py, rest) = (let h = more rest in (h.0, (py, h.1)))

  from_met : (xs : List AtomId) → Each P (met_from ray_to r xs) → Each P xs
  from_met [] all = tt
  from_met (x ∷ xs) all = (let h = from_put x (met_from ray_to r xs) all in (h.0, from_met xs h.1))

from_others : (P : AtomId → Type 0) (halves : List HalfEdge) (w : AtomId) → P w → Each P (others halves w) → (i : ℕ) (half : HalfEdge) → slice_get halves i ≡ Some half → P half.to
from_others P [] w pw all i half at = cc
from_others P (h ∷ halves) w pw all i half at = by_test (h.to.0 == w.0) refl (λ rest j at_j. from_others P halves w pw rest j half at_j) i at
  where
    this : (h half : HalfEdge) → Some h ≡ Some half → h.to ≡ half.to
    this h half e = cc

    is_w : (h.to.0 == w.0) ≡ true → w ≡ h.to
    is_w t = same_atom w h.to (grind (arith, nat_tests))

    by_place : (Each P (others halves w) → (j : ℕ) → slice_get halves j ≡ Some half → P half.to) → P h.to × Each P (others halves w) → (i : ℕ) → slice_get (h ∷ halves) i ≡ Some half → P half.to
    by_place more found zero at = subst P (this h half at) found.0
    by_place more found (suc i) at = more found.1 i at

    by_test : (b : Bool) → (h.to.0 == w.0) ≡ b → (Each P (others halves w) → (j : ℕ) → slice_get halves j ≡ Some half → P half.to) → (i : ℕ) → slice_get (h ∷ halves) i ≡ Some half → P half.to
    by_test true t more i at = by_place more (subst P (is_w t) pw, subst (λ (b : Bool). Each P (map (λ (x : HalfEdge). x.to) (if not b then h ∷ filter (λ (x : HalfEdge). not (x.to.0 == w.0)) halves else filter (λ (x : HalfEdge). not (x.to.0 == w.0)) halves))) t all) i at
    by_test false t more i at = by_place more (subst (λ (b : Bool). Each P (map (λ (x : HalfEdge). x.to) (if not b then h ∷ filter (λ (x : HalfEdge). not (x.to.0 == w.0)) halves else filter (λ (x : HalfEdge). not (x.to.0 == w.0)) halves))) t all) i at

-- ---- an atom that may be a centre

may_be_few : (neighbours hydrogens singles doubles : ℕ) → centre_test neighbours hydrogens singles doubles ≡ true → (neighbours ≡ 3) ⊎ (neighbours ≡ 4)
may_be_few neighbours hydrogens singles doubles e = elim (cases_eq neighbours 4) [
  | inl four ↦ inr four
  | inr not_four ↦ elim (cases_eq neighbours 3) [
    | inl three ↦ inl three
    | inr not_three ↦
        let no_four : (neighbours == 4) ≡ false = grind (arith, nat_tests) in
        let no_three : (neighbours == 3) ≡ false = grind (arith, nat_tests) in
        let fails : centre_test neighbours hydrogens singles doubles ≡ false = rw (no_four, no_three) refl in
        absurd (cc)
  ]
]

abbrev Joined : Molecule → ℕ → AtomId → Type 0
Joined m a v = are_joined m.bonds a v.0 ≡ true

-- the list of one wedge
of_wedge : (m : Molecule) (a : ℕ) (ray_to : AtomId → Vector) (half : HalfEdge) (i : ℕ) (mark : DrawMark) → IsMolecule m → AreOfCentre (half_edges m a) → slice_get (half_edges m a) i ≡ Some half
    → IsPlaceList m.bonds a (wedge_list (half_edges m a) ray_to half.to mark)
unfolding wedge_list
of_wedge m a ray_to half i mark is of at =
    let halves = half_edges m a in
    let w = half.to in
    let r = ray_to w in
    let lead : LeadTo halves w = record { place = i; half = half; is_half = at; leads = refl } in
    let joined = λ (j : ℕ) (h : HalfEdge) (at_h : slice_get halves j ≡ Some h). joined_of m a j h is at_h in
    let met = met_from ray_to r (others halves w) in
    let count = length_met ray_to r (others halves w) in
    let few : (length met ≡ 2) ⊎ (length met ≡ 3) = elim (count_of halves w of lead) [
      | inl two ↦ inl (count ∙ two)
      | inr three ↦ inr (count ∙ three)
    ] in
    let lists = by_up (Joined m a) ray_to w met (joined i half at) (each_met ray_to r (Joined m a) (others halves w) (each_other (Joined m a) halves w joined))
    (each_met ray_to r (Other w) (others halves w) (others_differ halves w)) (apart_met ray_to r (others halves w) (apart_others halves w of.apart)) few in
    let found = marked (Joined m a) mark w met (up_list ray_to w met) lists.0 lists.1 in
    let places = by_mark mark (up_list ray_to w met) in
    record {
      four = found.four;
      different = found.apart;
      neighbours = λ v. (
        found.sound (record { 0 = v }),
        λ e.
            let ends = joined_ends (length m.atoms) m.bonds a v is.bonds e in
            let any = are_joined-half_edges m a v ends.different ∙ e in
            let found_half = leads_to halves v any in
            let held = from_others (λ (c : AtomId). Contains places (At c)) halves w found.own (from_met ray_to r (λ (c : AtomId). Contains places (At c)) (others halves w) found.each) found_half.0 found_half.1 found_half.2 in
            subst (λ (c : AtomId). Contains places (At c)) (same_atom found_half.1.to (record { 0 = v }) found_half.3) held,
      );
    }

-- the first wedge is one of the half-edges
first_is_one : (mark_of : ℕ → DrawMark) (halves : List HalfEdge) (ray_to : AtomId → Vector) (xs : List HalfEdge) → list_any (λ (half : HalfEdge). carries mark_of half) xs ≡ true
    → (i : ℕ) × (half : HalfEdge) × (slice_get xs i ≡ Some half) × (first_list mark_of halves ray_to xs ≡ list_of mark_of halves ray_to half)
first_is_one mark_of halves ray_to [] some = cc
first_is_one mark_of halves ray_to (x ∷ xs) some = by_test (carries mark_of x) refl (λ rest. first_is_one mark_of halves ray_to xs rest)
  where
    by_test : (b : Bool) → carries mark_of x ≡ b
        → (list_any (λ (half : HalfEdge). carries mark_of half) xs ≡ true → (i : ℕ) × (half : HalfEdge) × (slice_get xs i ≡ Some half) × (first_list mark_of halves ray_to xs ≡ list_of mark_of halves ray_to half))
        → (i : ℕ) × (half : HalfEdge) × (slice_get (x ∷ xs) i ≡ Some half) × (first_list mark_of halves ray_to (x ∷ xs) ≡ list_of mark_of halves ray_to half)
    by_test true e more = (0, x, refl, rw e refl)
    by_test false e more =
        let rest : list_any (λ (half : HalfEdge). carries mark_of half) xs ≡ true = rw e at some in
        let found = more rest in
        (suc found.0, found.1, found.2, rw e found.3)

centre_is : (p q : List Slot) → read.Centre p ≡ read.Centre q → p ≡ q
centre_is p q e = cc

-- a centre's list is what the first wedge gives, and the atom may be a centre
record IsCentreBy (may_be : Bool) (mark_of : ℕ → DrawMark) (halves : List HalfEdge) (ray_to : AtomId → Vector) (places : List Slot) : Type 0 where
  allowed : may_be ≡ true
  some : list_any (λ (half : HalfEdge). carries mark_of half) halves ≡ true
  list : first_list mark_of halves ray_to halves ≡ places

centre_by : (may_be : Bool) (mark_of : ℕ → DrawMark) (halves : List HalfEdge) (ray_to : AtomId → Vector) (places : List Slot) → reading may_be mark_of halves ray_to ≡ read.Centre places
    → IsCentreBy may_be mark_of halves ray_to places
centre_by may_be mark_of halves ray_to places e = by_tests (may_be && is_drawn_as_centre mark_of halves) refl (is_ambiguous mark_of halves ray_to) e
  where
    by_tests : (b : Bool) → (may_be && is_drawn_as_centre mark_of halves) ≡ b → (c : Bool)
        → (if not b then read.None else (if c then read.Ambiguous else read.Centre (first_list mark_of halves ray_to halves))) ≡ read.Centre places
        → IsCentreBy may_be mark_of halves ray_to places
    by_tests true t false e =
        let parts = and_parts may_be (is_drawn_as_centre mark_of halves) t in
        record { allowed = parts.0; some = (and_parts (list_any (λ (half : HalfEdge). carries mark_of half) halves) _ parts.1).0; list = centre_is _ _ e }
    by_tests true t true e = cc
    by_tests false t c e = cc

pub read_places : (m : Molecule) (sizes : List (Option ℕ)) (drawing : List Point) (mark_of : ℕ → DrawMark) (a : ℕ) (places : List Slot) → IsMolecule m
    → read_wedges m sizes drawing mark_of a ≡ read.Centre places → IsPlaceList m.bonds a places
read_places m sizes drawing mark_of a places is e =
    let halves = half_edges m a in
    let ray_to = rays_from drawing a in
    let by = centre_by (may_be_centre m sizes a) mark_of halves ray_to places e in
    let few = may_be_few (length halves) (hydrogens_of (slice_get m.atoms a)) (singles_at m a) (free_doubles_at m sizes a) by.allowed in
    let of : AreOfCentre halves = record { few = few; apart = lead_apart m a is } in
    let found = first_is_one mark_of halves ray_to halves by.some in
    subst (λ (x : List Slot). IsPlaceList m.bonds a x) (sym found.3 ∙ by.list) (of_wedge m a ray_to found.1 found.0 (mark_of found.1.bond.0) is of found.2)

pub read_may : (m : Molecule) (sizes : List (Option ℕ)) (drawing : List Point) (mark_of : ℕ → DrawMark) (a : ℕ) (places : List Slot) → read_wedges m sizes drawing mark_of a ≡ read.Centre places
    → may_be_centre m sizes a ≡ true
read_may m sizes drawing mark_of a places e = (centre_by (may_be_centre m sizes a) mark_of (half_edges m a) (rays_from drawing a) places e).allowed

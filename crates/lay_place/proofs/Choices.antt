-- The place that suits the next atom.
use Rattle.std.proofs.Common.{◌≡◌, ◌≢◌, ◌∙◌, ℕ, suc, ◌<◌, ◌⊎◌, Bool, true, false, arith, refl, sym, ap, subst, inl, inr, ◌==◌, ◌&&◌, not, List, [], ◌∷◌, Option, Some, None, length, slice_get, if◌then◌else◌}
use Rattle.std.proofs.lemmas.Option.{same_Some}
use Rattle.std.proofs.lemmas.Bool.{cases_eq, cases_Bool, ne_eqb}
use Rattle.std.specs.Prelude.{filter}
use Rattle.mc_mol.specs.declared.parts.Bond.{Bond}
use Rattle.mc_mol.specs.declared.parts.HalfEdge.{HalfEdge}
use Rattle.mc_mol.specs.declared.parts.Sides.{Sides}
use Rattle.mc_mol.specs.Molecule.{Molecule, joins, are_joined}
use Rattle.mc_mol.specs.HalfEdges.{half_edges}
use Rattle.mc_mol.proofs.Halves.{same_test}
use Rattle.mc_rings.specs.Rings.{RingList}
use Rattle.mc_mol.proofs.Apart.{joins_cases}
use Rattle.mc_mol.proofs.Neighbours.{bond_number}
use Rattle.lay_place.specs.declared.asking.Named.{Named}
use Rattle.lay_place.specs.Rows.{is_inside, same, shift}
use Rattle.ct_geometry.specs.Drawn.{IsOther}
use Rattle.lay_place.specs.Wanted.{MayBePlaced, FreeDouble, Wanted, named_at, named_by, others, first_named, is_centre, side_from}
use Rattle.lay_place.specs.Asks.{Asked, WithOne, Quiet, Suits}
use Rattle.lay_place.specs.Walk.{IsBefore, IsLastEnd, IsLastSide}
use Rattle.lay_place.proofs.Neighbours.{across, other_of}
use Rattle.lay_place.proofs.Wanted.{turned_ends, ends_differ, one_pair, no_end}
use Rattle.lay_place.proofs.Ends.{only_two}
use Rattle.lay_place.proofs.Walk.{one_place, one_before, one_loud}

-- ---- the named neighbour is another neighbour

first_other : (halves : List HalfEdge) (k : ℕ) (name : Named) → first_named (filter (λ (half : HalfEdge). not (half.bond.0 == k)) halves) ≡ Some name
    → (i : ℕ) × (half : HalfEdge) × (slice_get halves i ≡ Some half) × (half.bond.0 ≢ k) × (half.to.0 ≡ name.atom.0)
first_other [] k name e = cc
first_other (h ∷ halves) k name e = elim (cases_eq h.bond.0 k) [
  | inl same ↦
      let skip : not (h.bond.0 == k) ≡ false = ap not (ap (λ (x : ℕ). x == k) same ∙ same_test k) in
      let rest = first_other halves k name (sym (ap (λ (b : Bool). first_named (if b then h ∷ filter (λ (half : HalfEdge). not (half.bond.0 == k)) halves else filter (λ (half : HalfEdge). not (half.bond.0 == k)) halves)) skip) ∙ e) in
      (suc rest.0, rest.1, rest.2, rest.3, rest.4)
  | inr other ↦
      let keep : not (h.bond.0 == k) ≡ true = ap not (ne_eqb h.bond.0 k other) in
      let is = sym (ap (λ (b : Bool). first_named (if b then h ∷ filter (λ (half : HalfEdge). not (half.bond.0 == k)) halves else filter (λ (half : HalfEdge). not (half.bond.0 == k)) halves)) keep) ∙ e in
      (0, h, refl, other, ap (λ (p : Named). p.atom.0) (same_Some (record { atom = h.to; side = true }) name is))
]

module _ (m : Molecule) (rings : RingList) (may : MayBePlaced m rings) where
  -- a joined atom that isn't the other end
  joined_other : (k e p n : ℕ) → FreeDouble m rings.sizes k e p → are_joined m.bonds e n ≡ true → n ≢ p → IsOther m k e n
  joined_other k e p n d joined apart =
      let found = bond_number m.bonds e n joined in
      other_of m k e n found.0 found.1 found.2 found.3 (λ same. apart (far found.0 found.1 found.2 found.3 same))
    where
      far : (j : ℕ) (b : Bond) → slice_get m.bonds j ≡ Some b → joins b e n ≡ true → j ≡ k → n ≡ p
      far j b at join same =
          let is : b ≡ d.bond = same_Some b d.bond (sym at ∙ ap (slice_get m.bonds) same ∙ d.is_bond) in
          by (joins_cases d.bond e n (subst (λ (x : Bond). joins x e n ≡ true) is join)) (joins_cases d.bond e p d.joined)
        where
          by : ((d.bond.first.0 ≡ e) × (d.bond.second.0 ≡ n)) ⊎ ((d.bond.first.0 ≡ n) × (d.bond.second.0 ≡ e)) → ((d.bond.first.0 ≡ e) × (d.bond.second.0 ≡ p)) ⊎ ((d.bond.first.0 ≡ p) × (d.bond.second.0 ≡ e)) → n ≡ p
          by (inl (a, b)) (inl (c, g)) = sym b ∙ g
          by (inl (a, b)) (inr (c, g)) = absurd (ends_differ m rings may k e p d (sym a ∙ c))
          by (inr (a, b)) (inl (c, g)) = absurd (ends_differ m rings may k e p d (sym b ∙ g))
          by (inr (a, b)) (inr (c, g)) = sym a ∙ c

  pub named_other : (k e p : ℕ) (name : Named) → FreeDouble m rings.sizes k e p → named_at m k e ≡ Some name → IsOther m k e name.atom.0
  named_other k e p name d named = by (slice_get m.sides k) refl (ap (λ (b : Option Bond). named_by m k e b (slice_get m.sides k)) (sym d.is_bond) ∙ named)
    where
      by : (o : Option (Option Sides)) → slice_get m.sides k ≡ o → named_by m k e (Some d.bond) o ≡ Some name → IsOther m k e name.atom.0
      by None is f = cc
      by (Some (Some sides)) is f =
          let fit = may.well_formed.sides k d.bond sides d.is_bond is in
          elim (cases_eq d.bond.first.0 e) [
            | inl first ↦
                let n_is : sides.first.0 ≡ name.atom.0 = ap (λ (p : Named). p.atom.0) (same_Some (record { atom = sides.first; side = true }) name
                (sym (ap (λ (b : Bool). by_end b) (ap (λ (x : ℕ). x == e) first ∙ same_test e)) ∙ f)) in
                let p_is : d.bond.second.0 ≡ p = far_first first in
                joined_other k e p name.atom.0 d (subst (λ (x : ℕ). are_joined m.bonds e x ≡ true) n_is (subst (λ (x : ℕ). are_joined m.bonds x sides.first.0 ≡ true) first fit.at_first))
                (λ same. fit.first (n_is ∙ same ∙ sym p_is))
            | inr other ↦
                let n_is : sides.second.0 ≡ name.atom.0 = ap (λ (p : Named). p.atom.0) (same_Some (record { atom = sides.second; side = sides.together }) name
                (sym (ap (λ (b : Bool). by_end b) (ne_eqb d.bond.first.0 e other)) ∙ f)) in
                let both = far_second other in
                joined_other k e p name.atom.0 d (subst (λ (x : ℕ). are_joined m.bonds e x ≡ true) n_is (subst (λ (x : ℕ). are_joined m.bonds x sides.second.0 ≡ true) both.1 fit.at_second))
                (λ same. fit.second (n_is ∙ same ∙ sym both.0))
          ]
        where
          by_end : Bool → Option Named
          by_end b = if b then Some (record { atom = sides.first; side = true }) else Some (record { atom = sides.second; side = sides.together })

          far_first : d.bond.first.0 ≡ e → d.bond.second.0 ≡ p
          far_first first = elim (joins_cases d.bond e p d.joined) [ inl h ↦ h.1 | inr h ↦ absurd (ends_differ m rings may k e p d (sym first ∙ h.0)) ]

          far_second : d.bond.first.0 ≢ e → (d.bond.first.0 ≡ p) × (d.bond.second.0 ≡ e)
          far_second other = elim (joins_cases d.bond e p d.joined) [ inl h ↦ absurd (other h.0) | inr h ↦ h ]
      by (Some None) is f = elim (cases_Bool (is_centre (slice_get m.centres e) && (length (half_edges m e) == 3))) [
        | inr off ↦ absurd (none_some name (sym (ap (λ (b : Bool). if b then first_named (others m k e) else None) off) ∙ f))
        | inl on ↦
            let found = first_other (half_edges m e) k name (sym (ap (λ (b : Bool). if b then first_named (others m k e) else None) on) ∙ f) in
            record { place = found.0; half = found.1; is_half = found.2; other = found.3; leads = found.4 }
      ]
        where
          none_some : (x : Named) → None ≡ Some x → ⊥
          none_some x g = cc

  -- a neighbour's side
  pub wanted : (k e p c : ℕ) (name : Named) → FreeDouble m rings.sizes k e p → named_at m k e ≡ Some name → IsOther m k e c → Wanted m rings.sizes k c (side_from name c)
  wanted k e p c name d named other = record { e = e; p = p; ends = d; other = other; name = name; named = named; is = refl }

  opposite_sides : (t s r : Bool) → ((s ≡ true) × (r ≡ false)) ⊎ ((s ≡ false) × (r ≡ true)) → same t r ≡ not (same t s)
  opposite_sides true s r (inl (e, f)) = rw (e, f) refl
  opposite_sides true s r (inr (e, f)) = rw (e, f) refl
  opposite_sides false s r (inl (e, f)) = rw (e, f) refl
  opposite_sides false s r (inr (e, f)) = rw (e, f) refl

  -- two other neighbours of an end with a name have different sides
  pub two_sides : (k e p c d : ℕ) (name : Named) → FreeDouble m rings.sizes k e p → named_at m k e ≡ Some name → c ≢ d → IsOther m k e c → IsOther m k e d
      → side_from name d ≡ not (side_from name c)
  two_sides k e p c d name free named apart oc od = opposite_sides name.side (c == name.atom.0) (d == name.atom.0) (elim (cases_eq c name.atom.0) [
    | inl is_c ↦ inl (ap (λ (x : ℕ). x == name.atom.0) is_c ∙ same_test name.atom.0, ne_eqb d name.atom.0 (λ is_d. apart (is_c ∙ sym is_d)))
    | inr not_c ↦ elim (cases_eq d name.atom.0) [
      | inl is_d ↦ inr (ne_eqb c name.atom.0 not_c, ap (λ (x : ℕ). x == name.atom.0) is_d ∙ same_test name.atom.0)
      | inr not_d ↦ absurd (only_two m rings may k e p c d name.atom.0 name free named apart not_d not_c oc od (named_other k e p name free named))
    ]
  ])

  -- ---- the next atom v, at place `done` of the order

  module _ (done v : ℕ) (at_v : slice_get rings.order done ≡ Some (record { 0 = v })) where
    pub not_yet : v < length m.atoms → ¬ IsBefore rings.order done v
    not_yet small (i, early, at) = let same = one_place m rings may i done v small at at_v in absurd (omega arith)

    old_one : (a : ℕ) → a ≢ v → WithOne (IsBefore rings.order done) v a → IsBefore rings.order done a
    old_one a other (inl p) = p
    old_one a other (inr e) = absurd (other e)

    -- a placed atom with a side at a bond whose other end is v is a neighbour of the first end
    near_first : (k u c : ℕ) (s : Bool) → FreeDouble m rings.sizes k u v → IsBefore rings.order done u → Wanted m rings.sizes k c s → IsBefore rings.order done c
        → (name : Named) × (named_at m k u ≡ Some name) × (IsOther m k u c) × (s ≡ side_from name c)
    near_first k u c s d early x early_c = by (one_pair m rings may k x.e x.p u v x.ends d)
      where
        by : ((x.e ≡ u) × (x.p ≡ v)) ⊎ ((x.e ≡ v) × (x.p ≡ u)) → (name : Named) × (named_at m k u ≡ Some name) × (IsOther m k u c) × (s ≡ side_from name c)
        by (inl (a, b)) = (x.name, ap (named_at m k) (sym a) ∙ x.named, subst (λ (z : ℕ). IsOther m k z c) a x.other, x.is)
        by (inr (a, b)) =
            let o = across m may.well_formed k v c (subst (λ (z : ℕ). IsOther m k z c) a x.other) in
            absurd (o.other (one_before m rings may done v at_v k u (turned_ends m rings may k u v d) early o.number o.bond c o.is_bond o.joined early_c))

    last_end : (k u c d : ℕ) (s t : Bool) → FreeDouble m rings.sizes k u v → IsBefore rings.order done u → Wanted m rings.sizes k c s → Wanted m rings.sizes k d t
        → IsBefore rings.order done c → IsBefore rings.order done d → c ≢ d → IsLastEnd m rings done v k
    last_end k u c d s t ends early x y early_c early_d apart =
        let a = near_first k u c s ends early x early_c in
        let b = near_first k u d t ends early y early_d in
        record { u = u; ends = ends; placed = early; name = a.0; named = a.1; c = c; d = d; apart = apart; other_c = a.2; other_d = b.2; placed_c = early_c; placed_d = early_d }

    last_side : (k u w d : ℕ) (s t : Bool) → FreeDouble m rings.sizes k u w → IsBefore rings.order done u → IsBefore rings.order done w → Wanted m rings.sizes k v s → Wanted m rings.sizes k d t
        → IsBefore rings.order done d → IsLastSide m rings done v k
    last_side k u w d s t ends early_u early_w x y early_d =
        let both = placed (one_pair m rings may k x.e x.p u w x.ends ends) in
        record { e = x.e; p = x.p; ends = x.ends; placed_e = both.0; placed_p = both.1; name = x.name; named = x.named; other = x.other; d = d; side = t; wanted = y; placed_d = early_d }
      where
        placed : ((x.e ≡ u) × (x.p ≡ w)) ⊎ ((x.e ≡ w) × (x.p ≡ u)) → IsBefore rings.order done x.e × IsBefore rings.order done x.p
        placed (inl (a, b)) = (subst (IsBefore rings.order done) (sym a) early_u, subst (IsBefore rings.order done) (sym b) early_w)
        placed (inr (a, b)) = (subst (IsBefore rings.order done) (sym a) early_w, subst (IsBefore rings.order done) (sym b) early_u)

    -- a bond that compares v with an earlier atom, or two earlier atoms over v
    pub loud : (k u w c d : ℕ) (s t : Bool) → Asked (FreeDouble m rings.sizes) (Wanted m rings.sizes) (WithOne (IsBefore rings.order done) v) k u w c d s t → c ≢ d
        → ((u ≡ v) ⊎ (w ≡ v)) ⊎ ((c ≡ v) ⊎ (d ≡ v)) → IsLastEnd m rings done v k ⊎ IsLastSide m rings done v k
    loud k u w c d s t asked apart involved = by involved
      where
        c_apart : (c ≢ u) × (c ≢ w)
        c_apart = no_end m rings may k u w c s asked.ends asked.wants

        d_apart : (d ≢ u) × (d ≢ w)
        d_apart = no_end m rings may k u w d t asked.ends asked.wants_too

        differ : u ≢ w
        differ = ends_differ m rings may k u w asked.ends

        by : ((u ≡ v) ⊎ (w ≡ v)) ⊎ ((c ≡ v) ⊎ (d ≡ v)) → IsLastEnd m rings done v k ⊎ IsLastSide m rings done v k
        by (inl (inl e)) = inl (last_end k w c d s t (subst (λ (z : ℕ). FreeDouble m rings.sizes k w z) e (turned_ends m rings may k u w asked.ends)) (old_one w (λ x. differ (e ∙ sym x)) asked.second)
            asked.wants asked.wants_too (old_one c (λ x. c_apart.0 (x ∙ sym e)) asked.one) (old_one d (λ x. d_apart.0 (x ∙ sym e)) asked.other) apart)
        by (inl (inr e)) = inl (last_end k u c d s t (subst (λ (z : ℕ). FreeDouble m rings.sizes k u z) e asked.ends) (old_one u (λ x. differ (x ∙ sym e)) asked.first)
            asked.wants asked.wants_too (old_one c (λ x. c_apart.1 (x ∙ sym e)) asked.one) (old_one d (λ x. d_apart.1 (x ∙ sym e)) asked.other) apart)
        by (inr (inl e)) = inr (last_side k u w d s t asked.ends (old_one u (λ x. c_apart.0 (e ∙ sym x)) asked.first) (old_one w (λ x. c_apart.1 (e ∙ sym x)) asked.second)
            (subst (λ (z : ℕ). Wanted m rings.sizes k z s) e asked.wants) asked.wants_too (old_one d (λ x. apart (e ∙ sym x)) asked.other))
        by (inr (inr e)) = inr (last_side k u w c t s asked.ends (old_one u (λ x. d_apart.0 (e ∙ sym x)) asked.first) (old_one w (λ x. d_apart.1 (e ∙ sym x)) asked.second)
            (subst (λ (z : ℕ). Wanted m rings.sizes k z t) e asked.wants_too) asked.wants (old_one c (λ x. apart (x ∙ sym e)) asked.one))

    -- with one such bond all others are quiet
    quiet_else : (j : ℕ) → IsLastEnd m rings done v j ⊎ IsLastSide m rings done v j → (k : ℕ) → k ≢ j → Quiet (FreeDouble m rings.sizes) (Wanted m rings.sizes) (IsBefore rings.order done) v k
    quiet_else j this k other u w c d s t asked involved = elim (cases_eq c d) [
      | inl same ↦ same
      | inr apart ↦ absurd (other (one_loud m rings may done v at_v k j (loud k u w c d s t asked apart involved) this))
    ]

    quiet_all : ((k : ℕ) → IsLastEnd m rings done v k ⊎ IsLastSide m rings done v k → ⊥) → (k : ℕ) → Quiet (FreeDouble m rings.sizes) (Wanted m rings.sizes) (IsBefore rings.order done) v k
    quiet_all none k u w c d s t asked involved = elim (cases_eq c d) [
      | inl same ↦ same
      | inr apart ↦ absurd (none k (loud k u w c d s t asked apart involved))
    ]

    -- ---- the three choices

    pub suits_any : (x : ℕ → ℕ) (at : ℕ) → ((k : ℕ) → IsLastEnd m rings done v k ⊎ IsLastSide m rings done v k → ⊥) → Suits (FreeDouble m rings.sizes) (Wanted m rings.sizes) (IsBefore rings.order done) x v at
    suits_any x at none = record { bond = 0; others = λ k other. quiet_all none k; this = inl (quiet_all none 0) }

    pub suits_end : (x : ℕ → ℕ) (k : ℕ) (l : IsLastEnd m rings done v k) (at : ℕ) → is_inside (shift at (x l.u)) (shift at (x l.c)) at ≡ not (is_inside (shift at (x l.u)) (shift at (x l.d)) at)
        → Suits (FreeDouble m rings.sizes) (Wanted m rings.sizes) (IsBefore rings.order done) x v at
    suits_end x k l at parts = record {
      bond = k;
      others = quiet_else k (inl l);
      this = inr (inr (record {
        f = l.u;
        c = l.c;
        d = l.d;
        side = side_from l.name l.c;
        ends = l.ends;
        wants = wanted k l.u v l.c l.name l.ends l.named l.other_c;
        wants_too = subst (Wanted m rings.sizes k l.d) (two_sides k l.u v l.c l.d l.name l.ends l.named l.apart l.other_c l.other_d) (wanted k l.u v l.d l.name l.ends l.named l.other_d);
        first = l.placed;
        one = l.placed_c;
        other = l.placed_d;
        only = λ e s wants early. only_these e s wants early;
        at = parts;
      }));
    }
      where
        only_these : (e : ℕ) (s : Bool) → Wanted m rings.sizes k e s → IsBefore rings.order done e → (e ≡ l.c) ⊎ (e ≡ l.d)
        only_these e s wants early = elim (cases_eq e l.c) [
          | inl is_c ↦ inl is_c
          | inr not_c ↦ elim (cases_eq e l.d) [
            | inl is_d ↦ inr is_d
            | inr not_d ↦
                let near = near_first k l.u e s l.ends l.placed wants early in
                absurd (only_two m rings may k l.u v l.c l.d e l.name l.ends l.named l.apart (λ x. not_d (sym x)) (λ x. not_c (sym x)) l.other_c l.other_d near.2)
          ]
        ]

    pub suits_side : (x : ℕ → ℕ) (k : ℕ) (l : IsLastSide m rings done v k) (at : ℕ) → is_inside (shift at (x l.e)) at (shift at (x l.p)) ≡ same (is_inside (x l.e) (x l.d) (x l.p)) (same (side_from l.name v) l.side)
        → Suits (FreeDouble m rings.sizes) (Wanted m rings.sizes) (IsBefore rings.order done) x v at
    suits_side x k l at follows = record {
      bond = k;
      others = quiet_else k (inr l);
      this = inr (inl (record {
        f = l.e;
        p = l.p;
        c = l.d;
        side = l.side;
        side_of_m = side_from l.name v;
        ends = l.ends;
        wants = l.wanted;
        wants_m = wanted k l.e l.p v l.name l.ends l.named l.other;
        first = l.placed_e;
        second = l.placed_p;
        one = l.placed_d;
        at = follows;
      }));
    }

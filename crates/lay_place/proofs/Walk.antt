-- In the block order at most one bond compares an atom with earlier ones.
use Rattle.std.proofs.Common.{◌≡◌, ◌≢◌, ◌∙◌, ℕ, ◌<◌, ◌≤◌, ◌⊎◌, true, arith, refl, sym, ap, subst, inl, inr, ◌==◌, Some, None, length, get_or, slice_get}
use Rattle.std.proofs.lemmas.Bool.{cases_eq, cases_lt}
use Rattle.std.proofs.lemmas.Bool.Decides.{nat_tests}
use Rattle.std.proofs.lemmas.Option.{slice_get_within, slice_get-get_or, same_Some}
use Rattle.mc_base.specs.declared.ids.AtomId.{AtomId}
use Rattle.mc_mol.specs.declared.parts.Bond.{Bond}
use Rattle.mc_mol.specs.Molecule.{Molecule, joins, touches}
use Rattle.mc_mol.proofs.Halves.{same_test}
use Rattle.mc_rings.specs.Rings.{RingList}
use Rattle.mc_rings.specs.BlockOrder.{IsBlockOrder, EndOfBlock, Above, times}
use Rattle.mc_rings.specs.RingSizes.{RingSizeIs}
use Rattle.mc_mol.proofs.Apart.{joins_cases, joins_touches}
use Rattle.ct_geometry.specs.Drawn.{IsOther}
use Rattle.lay_place.specs.Wanted.{MayBePlaced, FreeDouble}
use Rattle.lay_place.specs.Walk.{IsBefore, IsLastEnd, IsLastSide}
use Rattle.lay_place.proofs.Neighbours.{bond_at, joins_back, joins_apart, across}
use Rattle.ct_geometry.proofs.Counted.{two_yes}
use Rattle.lay_place.proofs.Wanted.{turned_ends, ends_differ}
use Rattle.lay_place.proofs.Ends.{asks_once}

pub one_far : (bond : Bond) (v u w : ℕ) → bond.first.0 ≢ bond.second.0 → joins bond v u ≡ true → joins bond v w ≡ true → u ≡ w
one_far bond v u w different e f = by (joins_cases bond v u e) (joins_cases bond v w f)
  where
    by : ((bond.first.0 ≡ v) × (bond.second.0 ≡ u)) ⊎ ((bond.first.0 ≡ u) × (bond.second.0 ≡ v)) → ((bond.first.0 ≡ v) × (bond.second.0 ≡ w)) ⊎ ((bond.first.0 ≡ w) × (bond.second.0 ≡ v)) → u ≡ w
    by (inl (a, b)) (inl (c, d)) = sym b ∙ d
    by (inl (a, b)) (inr (c, d)) = absurd (different (a ∙ sym d))
    by (inr (a, b)) (inl (c, d)) = absurd (different (c ∙ sym b))
    by (inr (a, b)) (inr (c, d)) = sym a ∙ c

module _ (m : Molecule) (rings : RingList) (may : MayBePlaced m rings) where
  order_is : IsBlockOrder m rings.blocks rings.order rings.firsts rings.above
  order_is = may.are_rings.order

  different_ends : (j : ℕ) (b : Bond) → slice_get m.bonds j ≡ Some b → b.first.0 ≢ b.second.0
  different_ends j b at = (bond_at (length m.atoms) m.bonds j b may.well_formed.bonds at).different

  pub within : (j : ℕ) (b : Bond) (u w : ℕ) → slice_get m.bonds j ≡ Some b → joins b u w ≡ true → u < length m.atoms
  within j b u w at e =
      let is = bond_at (length m.atoms) m.bonds j b may.well_formed.bonds at in
      elim (joins_cases b u w e) [
        | inl h ↦ subst (λ (x : ℕ). x < length m.atoms) h.0 is.first
        | inr h ↦ subst (λ (x : ℕ). x < length m.atoms) h.1 is.second
      ]

  -- an atom stands at one place of the order
  pub one_place : (i j a : ℕ) → a < length m.atoms → slice_get rings.order i ≡ Some (record { 0 = a }) → slice_get rings.order j ≡ Some (record { 0 = a }) → i ≡ j
  one_place i j a small at_i at_j = elim (cases_lt i j) [
    | inl less ↦ absurd (twice i j less at_i at_j)
    | inr more ↦ elim (cases_lt j i) [
      | inl less ↦ absurd (twice j i less at_j at_i)
      | inr other ↦ omega arith
    ]
  ]
    where
      twice : (i j : ℕ) → i < j → slice_get rings.order i ≡ Some (record { 0 = a }) → slice_get rings.order j ≡ Some (record { 0 = a }) → ⊥
      twice i j less at_i at_j =
          let two : 2 ≤ times a rings.order = two_yes (λ (x : AtomId). x.0 == a) rings.order i j (record { 0 = a }) (record { 0 = a }) less at_i at_j (same_test a) (same_test a) in
          let one : times a rings.order ≡ 1 = order_is.once a small in
          absurd (omega arith)

  -- a bond's block
  block_of : (j : ℕ) (b : Bond) → slice_get m.bonds j ≡ Some b → (block : ℕ) × (slice_get rings.blocks j ≡ Some block)
  block_of j b at =
      let few = slice_get_within m.bonds j b at in
      let count : length rings.blocks ≡ length m.bonds = may.are_rings.blocks.count in
      (get_or rings.blocks j 0, slice_get-get_or rings.blocks j 0 (omega arith))

  end_of : (j : ℕ) (b : Bond) (u w block : ℕ) → slice_get m.bonds j ≡ Some b → slice_get rings.blocks j ≡ Some block → joins b u w ≡ true → EndOfBlock m.bonds rings.blocks block u
  end_of j b u w block at in_block e = record { number = j; bond = b; is_bond = at; in_block = in_block; touched = joins_touches b u w e }

  one_above : (x b c : ℕ) → Above rings.above x b → Above rings.above x c → b ≡ c
  one_above x b c p q = same_Some b c (same_Some (Some b) (Some c) (sym p ∙ q))

  one_first : (block x y : ℕ) → slice_get rings.firsts block ≡ Some (record { 0 = x }) → slice_get rings.firsts block ≡ Some (record { 0 = y }) → x ≡ y
  one_first block x y p q = ap (λ (a : AtomId). a.0) (same_Some (record { 0 = x }) (record { 0 = y }) (sym p ∙ q))

  -- a bond in no ring shares its block with no other bond
  alone : (k j u w block : ℕ) (b : Bond) → FreeDouble m rings.sizes k u w → slice_get m.bonds j ≡ Some b → slice_get rings.blocks k ≡ Some block → slice_get rings.blocks j ≡ Some block → j ≡ k
  alone k j u w block b d at in_k in_j = elim (cases_eq j k) [
    | inl same ↦ same
    | inr other ↦
        let share = (may.are_rings.blocks.same k j d.bond b block block (λ e. other (sym e)) d.is_bond at in_k in_j).0 refl in
        let none : RingSizeIs m.bonds d.bond None = may.are_rings.sizes k None d.free d.bond d.is_bond in
        absurd (none share.path (record { closed_path = share.closed_path; uses = share.first }))
  ]

  module _ (done v : ℕ) (at_v : slice_get rings.order done ≡ Some (record { 0 = v })) where
    -- the bond to an earlier neighbour belongs to the block above v
    above_of : (j : ℕ) (b : Bond) (c : ℕ) → slice_get m.bonds j ≡ Some b → joins b v c ≡ true → IsBefore rings.order done c
        → (block : ℕ) × (slice_get rings.blocks j ≡ Some block) × (Above rings.above v block)
    above_of j b c at e (i, early, at_c) =
        let block = block_of j b at in
        let f = joins_back b v c e in (
          block.0,
          block.1,
          elim (order_is.ends block.0 v (end_of j b v c block.0 at block.1 e)) [
            | inr above ↦ above
            | inl first ↦ elim (order_is.ends block.0 c (end_of j b c v block.0 at block.1 f)) [
              | inl first_c ↦ absurd (joins_apart b v c (different_ends j b at) e (one_first block.0 v c first first_c))
              | inr above_c ↦
                  let back = order_is.behind i (record { 0 = c }) (record { 0 = v }) block.0 at_c above_c first in
                  let less = back.1 in
                  let same = one_place back.0 done v (within j b v c at e) back.2 at_v in
                  absurd (omega arith)
            ]
          ],
        )

    -- v's bond in no ring to an earlier neighbour is its only bond to one
    pub one_before : (k u : ℕ) → FreeDouble m rings.sizes k v u → IsBefore rings.order done u → (j : ℕ) (b : Bond) (c : ℕ) → slice_get m.bonds j ≡ Some b → joins b v c ≡ true → IsBefore rings.order done c → j ≡ k
    one_before k u d early j b c at e early_c =
        let p = above_of k d.bond u d.is_bond d.joined early in
        let q = above_of j b c at e early_c in
        alone k j v u p.0 b d at p.1 (subst (λ (x : ℕ). slice_get rings.blocks j ≡ Some x) (one_above v q.0 p.0 q.2 p.2) q.1)

    -- an end of a bond in no ring that has the block above v above it
    deep : (block j : ℕ) (b : Bond) (k e p : ℕ) → Above rings.above v block → Above rings.above e block → slice_get m.bonds j ≡ Some b → slice_get rings.blocks j ≡ Some block
        → FreeDouble m rings.sizes k e p → j ≢ k → IsBefore rings.order done p → ⊥
    deep block j b k e p above_v above_e at in_j d other (i, early, at_p) =
        let own = block_of k d.bond d.is_bond in
        let apart : own.0 ≢ block = λ same. other (alone k j e p block b d at (subst (λ (x : ℕ). slice_get rings.blocks k ≡ Some x) same own.1) in_j) in
        elim (order_is.ends own.0 e (end_of k d.bond e p own.0 d.is_bond own.1 d.joined)) [
          | inr above ↦ apart (one_above e own.0 block above above_e)
          | inl first ↦ elim (order_is.ends own.0 p (end_of k d.bond p e own.0 d.is_bond own.1 (joins_back d.bond e p d.joined))) [
            | inl first_p ↦ ends_differ m rings may k e p d (one_first own.0 e p first first_p)
            | inr above_p ↦
                let back = order_is.behind i (record { 0 = p }) (record { 0 = e }) own.0 at_p above_p first in
                apart (one_above p own.0 block above_p (order_is.together back.0 i done (record { 0 = e }) (record { 0 = p }) (record { 0 = v }) block back.1 early back.2 at_p at_v above_e above_v))
          ]
        ]

    -- two earlier neighbours of v aren't both ends of bonds in no ring that are placed whole
    not_two : (k j e p f q : ℕ) → e ≢ f → FreeDouble m rings.sizes k e p → FreeDouble m rings.sizes j f q → IsOther m k e v → IsOther m j f v
        → IsBefore rings.order done e → IsBefore rings.order done p → IsBefore rings.order done f → IsBefore rings.order done q → ⊥
    not_two k j e p f q apart d g other_e other_f early_e early_p early_f early_q =
        let a = across m may.well_formed k e v other_e in
        let b = across m may.well_formed j f v other_f in
        let x = above_of a.number a.bond e a.is_bond (joins_back a.bond e v a.joined) early_e in
        let y = above_of b.number b.bond f b.is_bond (joins_back b.bond f v b.joined) early_f in
        let same = one_above v y.0 x.0 y.2 x.2 in
        let in_b = subst (λ (z : ℕ). slice_get rings.blocks b.number ≡ Some z) same y.1 in
        elim (order_is.ends x.0 e (end_of a.number a.bond e v x.0 a.is_bond x.1 a.joined)) [
          | inr above_e ↦ deep x.0 a.number a.bond k e p x.2 above_e a.is_bond x.1 d a.other early_p
          | inl first_e ↦ elim (order_is.ends x.0 f (end_of b.number b.bond f v x.0 b.is_bond in_b b.joined)) [
            | inr above_f ↦ deep x.0 b.number b.bond j f q x.2 above_f b.is_bond in_b g b.other early_q
            | inl first_f ↦ apart (one_first x.0 e f first_e first_f)
          ]
        ]

    -- ---- at most one bond

    end_end : (k j : ℕ) → IsLastEnd m rings done v k → IsLastEnd m rings done v j → k ≡ j
    end_end k j x y = sym (one_before k x.u (turned_ends m rings may k x.u v x.ends) x.placed j y.ends.bond y.u y.ends.is_bond (joins_back y.ends.bond y.u v y.ends.joined) y.placed)

    end_side : (k j : ℕ) → IsLastEnd m rings done v k → IsLastSide m rings done v j → k ≡ j
    end_side k j x y =
        let a = across m may.well_formed j y.e v y.other in
        let turned = joins_back a.bond y.e v a.joined in
        let number : a.number ≡ k = one_before k x.u (turned_ends m rings may k x.u v x.ends) x.placed a.number a.bond y.e a.is_bond turned y.placed_e in
        let bond : a.bond ≡ x.ends.bond = same_Some a.bond x.ends.bond (sym a.is_bond ∙ ap (slice_get m.bonds) number ∙ x.ends.is_bond) in
        let same : y.e ≡ x.u = one_far x.ends.bond v y.e x.u (different_ends k x.ends.bond x.ends.is_bond) (subst (λ (b : Bond). joins b v y.e ≡ true) bond turned) (joins_back x.ends.bond x.u v x.ends.joined) in
        sym (asks_once m rings may k j x.u v y.p x.name x.ends x.named (subst (λ (z : ℕ). FreeDouble m rings.sizes j z y.p) same y.ends))

    side_side : (k j : ℕ) → IsLastSide m rings done v k → IsLastSide m rings done v j → k ≡ j
    side_side k j x y = elim (cases_eq x.e y.e) [
      | inl same ↦ sym (asks_once m rings may k j x.e x.p y.p x.name x.ends x.named (subst (λ (z : ℕ). FreeDouble m rings.sizes j z y.p) (sym same) y.ends))
      | inr apart ↦ absurd (not_two k j x.e x.p y.e y.p apart x.ends y.ends x.other y.other x.placed_e x.placed_p y.placed_e y.placed_p)
    ]

    pub one_loud : (k j : ℕ) → IsLastEnd m rings done v k ⊎ IsLastSide m rings done v k → IsLastEnd m rings done v j ⊎ IsLastSide m rings done v j → k ≡ j
    one_loud k j (inl x) (inl y) = end_end k j x y
    one_loud k j (inl x) (inr y) = end_side k j x y
    one_loud k j (inr x) (inl y) = sym (end_side j k y x)
    one_loud k j (inr x) (inr y) = side_side k j x y

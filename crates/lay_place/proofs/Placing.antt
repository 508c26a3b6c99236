-- One more atom in the row; and the whole row as a drawing.
use Rattle.std.proofs.Common.{◌≡◌, ◌≢◌, ◌∙◌, ℕ, zero, suc, ◌+◌, ◌-◌, ◌*◌, ◌<◌, ◌≤◌, ◌⊎◌, true, arith, refl, sym, ap, subst, inl, inr, ◌==◌, List, [], ◌∷◌, ◌++◌, Option, Some, None, length, get_or, slice_get, slice_set}
use Rattle.std.proofs.lemmas.Bool.{cases_eq, cases_lt}
use Rattle.std.proofs.lemmas.Bool.Decides.{nat_tests}
use Rattle.std.proofs.lemmas.Option.{slice_get_within, slice_get-get_or, same_Some}
use native.Mathlib.Nat.{mul-le-mul, mul-le-mul_left}
use Rattle.mc_mol.proofs.Numbered.{none_marked, length-none}
use Rattle.std.proofs.Common.{take, drop, replicate}
use Rattle.std.specs.Prelude.{pos, map}
use Rattle.std.proofs.lemmas.List.{get_or-map}
use Rattle.std.proofs.Math.Seq.{take-append_seam}
use Rattle.mc_base.specs.declared.ids.AtomId.{AtomId}
use Rattle.mc_mol.specs.declared.parts.Slot.{Slot}
use Rattle.mc_mol.specs.Molecule.{Molecule}
use Rattle.mc_mol.proofs.Lists.{length-slice_set}
use Rattle.mc_rings.specs.Rings.{RingList}
use Rattle.mc_rings.specs.BlockOrder.{times}
use Rattle.mc_mol.specs.Numbered.{Mark}
use Rattle.mc_mol.proofs.Numbered.{set_here, set_other}
use Rattle.ct_geometry.specs.Turns.{Vector}
use Rattle.lay_place.specs.Rows.{Bends, parabola, shift}
use Rattle.ct_geometry.specs.Drawn.{place, at, IsDrawn}
use Rattle.mc_mol.specs.declared.drawing.Point.{Point}
use Rattle.lay_place.specs.Wanted.{MayBePlaced, FreeDouble, Wanted}
use Rattle.lay_place.specs.Asks.{Stands, WithOne, with_one, Suits}
use Rattle.lay_place.specs.Walk.{IsBefore}
use Rattle.lay_place.specs.Curve.{place_or, place_of, place_in, moved, IsRow, AreBelow, IsStretch, IsOnCurve, on_parabola}
use Rattle.lay_place.proofs.Bends.{parabola_bends}
use Rattle.lay_place.proofs.Inserts.{shift_below, shift_within}
use Rattle.lay_place.proofs.Asks.{with_new, with_old, stands_with}
use Rattle.ct_geometry.proofs.Counted.{find_one}
use Rattle.lay_place.proofs.Wanted.{is_asking}
use Rattle.lay_place.proofs.Choices.{not_yet}
use Rattle.lay_place.proofs.Served.{in_range}
use Rattle.lay_place.proofs.Drawings.{rays_some, rays_differ, reads, centre_reads}

-- ---- one more atom

place_at : (places : List (Option ℕ)) (a p : ℕ) → Mark places a p → place_of places a ≡ p
place_at places a p mark = ap place_or mark

get_map : (k : ℕ) (places : List (Option ℕ)) (a : ℕ) (o : Option ℕ) → slice_get places a ≡ Some o → slice_get (map (moved k) places) a ≡ Some (moved k o)
get_map k [] a o e = cc
get_map k (x ∷ xs) zero o e = ap (λ (y : Option ℕ). Some (moved k y)) (same_Some x o e)
get_map k (x ∷ xs) (suc a) o e = get_map k xs a o e

map_get : (k : ℕ) (places : List (Option ℕ)) (a p : ℕ) → Mark (map (moved k) places) a p → (q : ℕ) × (Mark places a q) × (p ≡ shift k q)
map_get k [] a p e = cc
map_get k (None ∷ xs) zero p e = cc
map_get k (Some q ∷ xs) zero p e = (q, refl, same_Some p (shift k q) (same_Some (Some p) (Some (shift k q)) (sym e)))
map_get k (x ∷ xs) (suc a) p e = map_get k xs a p e

length_map : (k : ℕ) (places : List (Option ℕ)) → length (map (moved k) places) ≡ length places
length_map k [] = refl
length_map k (x ∷ xs) = ap suc (length_map k xs)

module _ (m : Molecule) (rings : RingList) (may : MayBePlaced m rings) (done v : ℕ) (at_v : slice_get rings.order done ≡ Some (record { 0 = v })) (small : v < length m.atoms)
    (places new : List (Option ℕ)) (row : IsRow m rings done places) (k : ℕ) (low : k ≤ done)
    (suits : Suits (FreeDouble m rings.sizes) (Wanted m rings.sizes) (IsBefore rings.order done) (place_of places) v k) (is_new : new ≡ slice_set (map (moved k) places) v (Some k)) where
  fresh : ¬ IsBefore rings.order done v
  fresh = not_yet m rings may done v at_v small

  old_before : (a : ℕ) → IsBefore rings.order (done + 1) a → IsBefore rings.order done a ⊎ (a ≡ v)
  old_before a (i, early, at_a) = elim (cases_lt i done) [
    | inl less ↦ inl (i, less, at_a)
    | inr more ↦ let same : i ≡ done = omega arith in inr (ap (λ (x : AtomId). x.0) (same_Some (record { 0 = a }) (record { 0 = v }) (sym at_a ∙ ap (slice_get rings.order) same ∙ at_v)))
  ]

  now_before : (a : ℕ) → IsBefore rings.order done a → IsBefore rings.order (done + 1) a
  now_before a (i, early, at_a) = (i, omega arith, at_a)

  none_at : (o : Option (Option ℕ)) → slice_get places v ≡ o → o ≡ Some None
  none_at None e =
      let count = row.count in
      let there = slice_get-get_or places v None (omega arith) in
      cc
  none_at (Some None) e = refl
  none_at (Some (Some p)) e = absurd (fresh (row.placed v p e).0)

  set_v : Mark new v k
  set_v = ap (λ (xs : List (Option ℕ)). slice_get xs v) is_new ∙ set_here (map (moved k) places) v (moved k None) (Some k) (get_map k places v None (none_at (slice_get places v) refl))

  set_old : (a p : ℕ) → Mark places a p → Mark new a (shift k p)
  set_old a p mark =
      let other : a ≢ v = λ e. fresh (subst (IsBefore rings.order done) e (row.placed a p mark).0) in
      ap (λ (xs : List (Option ℕ)). slice_get xs a) is_new ∙ set_other (map (moved k) places) v a (Some k) other ∙ get_map k places a (Some p) mark

  from_new : (a p : ℕ) → Mark new a p → ((a ≡ v) × (p ≡ k)) ⊎ ((q : ℕ) × (Mark places a q) × (p ≡ shift k q))
  from_new a p mark = elim (cases_eq a v) [
    | inl same ↦ inl (same, same_Some p k (same_Some (Some p) (Some k) (sym mark ∙ ap (slice_get new) same ∙ set_v)))
    | inr other ↦ inr (map_get k places a p (sym (ap (λ (xs : List (Option ℕ)). slice_get xs a) is_new ∙ set_other (map (moved k) places) v a (Some k) other) ∙ mark))
  ]

  -- the new places are those of the row with one more
  same_places : (a : ℕ) → WithOne (IsBefore rings.order done) v a → place_of new a ≡ with_one (place_of places) v k a
  same_places a (inl early) =
      let mark = row.all a early in
      let other : a ≢ v = λ e. fresh (subst (IsBefore rings.order done) e early) in
      place_at new a (shift k mark.0) (set_old a mark.0 mark.1) ∙ sym (with_old (place_of places) v k a other ∙ ap (shift k) (place_at places a mark.0 mark.1))
  same_places a (inr same) = place_at new a k (subst (λ (z : ℕ). Mark new z k) (sym same) set_v) ∙ sym (ap (with_one (place_of places) v k) same ∙ with_new (place_of places) v k)

  stands_new : Stands (FreeDouble m rings.sizes) (Wanted m rings.sizes) (IsBefore rings.order (done + 1)) (place_of new)
  stands_new =
      let all = stands_with (FreeDouble m rings.sizes) (Wanted m rings.sizes) (IsBefore rings.order done) (place_of places) v k fresh (is_asking m rings may) row.stands suits in
      record {
        agrees = λ b u w c d s t asked. rw (same_places u (old_before u asked.first), same_places w (old_before w asked.second), same_places c (old_before c asked.one), same_places d (old_before d asked.other))
            (all.agrees b u w c d s t (record { ends = asked.ends; wants = asked.wants; wants_too = asked.wants_too; first = old_before u asked.first; second = old_before w asked.second; one = old_before c asked.one; other = old_before d asked.other }));
        apart = λ a b pa pb different. rw (same_places a (old_before a pa), same_places b (old_before b pb)) (all.apart a b (old_before a pa) (old_before b pb) different);
      }

  least_new : (a : ℕ) × (Mark new a 0)
  least_new = elim (cases_eq k 0) [
    | inl first ↦ (v, subst (Mark new v) first set_v)
    | inr later ↦
        let old = row.least (omega arith) in
        let stays : shift k 0 ≡ 0 = shift_below k 0 (omega arith) in
        (old.0, subst (Mark new old.0) stays (set_old old.0 0 old.1))
  ]

  pub row_more : IsRow m rings (done + 1) new
  row_more = record {
    count = ap (λ (xs : List (Option ℕ)). length xs) is_new ∙ length-slice_set (map (moved k) places) v (Some k) ∙ length_map k places ∙ row.count;
    placed = λ a p mark. elim (from_new a p mark) [
      | inl here ↦ (subst (IsBefore rings.order (done + 1)) (sym here.0) (done, omega arith, at_v), let e = here.1 in omega arith)
      | inr old ↦
          let was = row.placed a old.0 old.1 in
          (now_before a was.0, subst (λ (z : ℕ). z < done + 1) (sym old.2) (shift_within k old.0 done was.1))
    ];
    all = λ a early. elim (old_before a early) [
      | inl before ↦ let mark = row.all a before in (shift k mark.0, set_old a mark.0 mark.1)
      | inr same ↦ (k, subst (λ (z : ℕ). Mark new z k) (sym same) set_v)
    ];
    stands = stands_new;
    least = λ some. least_new;
  }

-- ---- lists

take_all : {X : Type 0} (n : ℕ) (xs : List X) → length xs ≤ n → take n xs ≡ xs
take_all zero [] enough = refl
take_all (suc n) [] enough = refl
take_all zero (x ∷ xs) enough = absurd (omega arith)
take_all {X = X} (suc n) (x ∷ xs) enough = ap (λ (zs : List X). x ∷ zs) (take_all n xs (omega arith))

length_of_map : {X Y : Type 0} (f : X → Y) (xs : List X) → length (map f xs) ≡ length xs
length_of_map f [] = refl
length_of_map f (x ∷ xs) = ap suc (length_of_map f xs)

place_in_or : (o : Option ℕ) → place_in o ≡ place_or (Some o)
place_in_or None = refl
place_in_or (Some p) = refl

slot_of : (places : List (Option ℕ)) (a : ℕ) → a < length places → place_in (get_or places a None) ≡ place_of places a
slot_of places a within = place_in_or (get_or places a None) ∙ sym (ap place_or (slice_get-get_or places a None within))

-- ---- the whole row

module _ (m : Molecule) (rings : RingList) (may : MayBePlaced m rings) (places : List (Option ℕ)) (row : IsRow m rings (length rings.order) places) where
  numbered_is : (n a : ℕ) → n ≡ a → ◌≡◌ {A = AtomId} (record { 0 = n }) (record { 0 = a })
  numbered_is n a e = rw e refl

  atom_is : (x : AtomId) (a : ℕ) → (x.0 == a) ≡ true → x ≡ record { 0 = a }
  atom_is x a e = let same : x.0 ≡ a = grind (arith, nat_tests) in numbered_is x.0 a same

  everywhere : (a : ℕ) → a < length m.atoms → IsBefore rings.order (length rings.order) a
  everywhere a small =
      let once : times a rings.order ≡ 1 = may.are_rings.order.once a small in
      let found = find_one (λ (x : AtomId). x.0 == a) rings.order (let some : 1 ≤ times a rings.order = omega arith in some) in
      (found.place, slice_get_within rings.order found.place found.item found.at, found.at ∙ ap (λ (x : AtomId). Some x) (atom_is found.item a found.passes))

  all_stand : Stands (FreeDouble m rings.sizes) (Wanted m rings.sizes) (λ (a : ℕ). a < length m.atoms) (place_of places)
  all_stand = record {
    agrees = λ b u w c d s t asked. row.stands.agrees b u w c d s t (record {
      ends = asked.ends;
      wants = asked.wants;
      wants_too = asked.wants_too;
      first = everywhere u asked.first;
      second = everywhere w asked.second;
      one = everywhere c asked.one;
      other = everywhere d asked.other;
    });
    apart = λ a b pa pb different. row.stands.apart a b (everywhere a pa) (everywhere b pb) different;
  }

  below : (a : ℕ) → a < length m.atoms → place_of places a < length m.atoms
  below a small =
      let mark = row.all a (everywhere a small) in
      let less = (row.placed a mark.0 mark.1).1 in
      let count : length rings.order ≡ length m.atoms = may.are_rings.order.count in
      let is : place_of places a ≡ mark.0 = place_at places a mark.0 mark.1 in
      omega arith

  -- the row on a parabola is a drawing
  pub is_drawn : (drawing : List Point) → IsOnCurve places drawing → IsDrawn m drawing
  is_drawn drawing on = record {
    count = ap (λ (ps : List Point). length ps) on.points ∙ length_of_map (λ (slot : Option ℕ). on_parabola on.wide on.high (place_in slot)) places ∙ row.count;
    within = λ a small.
        let most = low a small in
        let fits_x = on.stretch.fits_wide in
        let fits_y = on.stretch.fits_high in
        let x = mul-le-mul_left on.wide most in
        let y = mul-le-mul_left on.high (mul-le-mul most most) in
        ((on.wide * place_of places a, ap (λ (p : Vector). p.0) (is_at a small), omega arith), (on.high * (place_of places a * place_of places a), ap (λ (p : Vector). p.1) (is_at a small), omega arith));
    least_x = λ some. let a = first some in (a.0, a.1, ap (λ (p : Vector). p.0) (is_at a.0 a.1) ∙ ap (λ (i : ℕ). pos (on.wide * i)) a.2 ∙ ap pos (let z : on.wide * 0 ≡ 0 = omega arith in z));
    least_y = λ some. let a = first some in (a.0, a.1, ap (λ (p : Vector). p.1) (is_at a.0 a.1) ∙ ap (λ (i : ℕ). pos (on.high * (i * i))) a.2 ∙ ap pos (let z : on.high * (0 * 0) ≡ 0 = omega arith in z));
    apart = rays_some m rings may (place_of places) all_stand (parabola on.wide on.high) bends drawing is_at;
    different = rays_differ m rings may (place_of places) all_stand (parabola on.wide on.high) bends drawing is_at;
    sides = λ k bond sides at_k specified. reads m rings may (place_of places) all_stand (parabola on.wide on.high) bends drawing is_at k bond sides at_k specified;
    centres = λ a slots at_a. centre_reads m rings may (place_of places) all_stand (parabola on.wide on.high) bends drawing is_at a (centre_within a slots at_a) slots at_a;
  }
    where
      bends : Bends (parabola on.wide on.high)
      bends = parabola_bends on.wide on.high on.stretch.wide_some on.stretch.high_some

      is_at : (a : ℕ) → a < length m.atoms → at drawing a ≡ parabola on.wide on.high (place_of places a)
      is_at a small =
          let within : a < length places = (let count = row.count in omega arith) in
          ap (λ (ps : List Point). at ps a) on.points
          ∙ ap place (get_or-map (λ (slot : Option ℕ). on_parabola on.wide on.high (place_in slot)) places a None (record { x = pos 0; y = pos 0 }) within)
          ∙ ap (λ (i : ℕ). parabola on.wide on.high i) (slot_of places a within)

      low : (a : ℕ) → a < length m.atoms → place_of places a ≤ length places - 1
      low a small = let less = below a small in let count = row.count in omega arith

      first : 0 < length m.atoms → (a : ℕ) × (a < length m.atoms) × (place_of places a ≡ 0)
      first some =
          let order_count : length rings.order ≡ length m.atoms = may.are_rings.order.count in
          let a = row.least (omega arith) in
          let within = slice_get_within places a.0 (Some 0) a.1 in
          let row_count = row.count in
          (a.0, omega arith, place_at places a.0 0 a.1)

      centre_within : (a : ℕ) (slots : List Slot) → slice_get m.centres a ≡ Some (Some slots) → a < length m.atoms
      centre_within a slots at_a = let within = slice_get_within m.centres a (Some slots) at_a in let centre_count = may.well_formed.centre_count in omega arith

-- ---- the loops

-- the first i atoms have moved up
room_at : (k i : ℕ) (old : List (Option ℕ)) (d : Option ℕ) → i < length old
    → slice_set (map (moved k) (take i old) ++ drop i old) i (moved k (get_or (map (moved k) (take i old) ++ drop i old) i d)) ≡ map (moved k) (take (suc i) old) ++ drop (suc i) old
room_at k i [] d within = absurd (omega arith)
room_at k zero (x ∷ xs) d within = refl
room_at k (suc i) (x ∷ xs) d within = ap (λ (ys : List (Option ℕ)). moved k x ∷ ys) (room_at k i xs d (omega arith))

pub room_step : (k i : ℕ) (old now : List (Option ℕ)) (d new : Option ℕ) → i < length old → now ≡ map (moved k) (take i old) ++ drop i old → new ≡ moved k (get_or now i d)
    → slice_set now i new ≡ map (moved k) (take (i + 1) old) ++ drop (i + 1) old
room_step k i old now d new within is new_is =
    let one : i + 1 ≡ suc i = omega arith in
    rw (one, new_is, is) (room_at k i old d within)

pub row_none : (m : Molecule) (rings : RingList) (n : ℕ) (places : List (Option ℕ)) → n ≡ length m.atoms → places ≡ replicate n None → IsRow m rings 0 places
row_none m rings n places count is = record {
  count = ap (λ (xs : List (Option ℕ)). length xs) is ∙ length-none n ∙ count;
  placed = λ a place mark. absurd (none_marked n a place (ap (λ (xs : List (Option ℕ)). slice_get xs a) (sym is) ∙ mark));
  all = λ a early. absurd (never a early);
  stands = record { agrees = λ b u w c d s t asked. absurd (never u asked.first); apart = λ a b pa pb different. absurd (never a pa) };
  least = λ some. absurd (omega arith);
}
  where
    never : (a : ℕ) → IsBefore rings.order 0 a → ⊥
    never a (i, less, at) = absurd (omega arith)

-- the places lent, the room made in them, and given back
pub room_back : (places room : List (Option ℕ)) (k len : ℕ) → room ≡ map (moved k) places → len ≡ length places → take len (room ++ drop (length room) places) ≡ map (moved k) places
room_back places room k len room_is len_is =
    let count : len ≡ length room = len_is ∙ sym (length_map k places) ∙ ap (λ (xs : List (Option ℕ)). length xs) (sym room_is) in
    ap (λ (n : ℕ). take n (room ++ drop (length room) places)) count ∙ take-append_seam room (drop (length room) places) ∙ room_is

module _ (m : Molecule) (rings : RingList) (may : MayBePlaced m rings) where
  pub order_at : (done : ℕ) (order : List AtomId) (d : AtomId) → order ≡ rings.order → done < length order → slice_get rings.order done ≡ Some (get_or order done d)
  order_at done order d order_is within = ap (λ (xs : List AtomId). slice_get xs done) (sym order_is) ∙ slice_get-get_or order done d within

  pub order_low : (done : ℕ) (order : List AtomId) (d : AtomId) (places : List (Option ℕ)) → order ≡ rings.order → done < length order → IsRow m rings done places → (get_or order done d).0 < length places
  order_low done order d places order_is within row =
      let small = in_range m rings may done (get_or order done d) (order_at done order d order_is within) in
      let count = row.count in
      omega arith

  -- the loop's step
  pub row_step : (done : ℕ) (order : List AtomId) (d : AtomId) (places new : List (Option ℕ)) (k : ℕ) → order ≡ rings.order → done < length order → IsRow m rings done places → k ≤ done
      → Suits (FreeDouble m rings.sizes) (Wanted m rings.sizes) (IsBefore rings.order done) (place_of places) (get_or order done d).0 k
      → new ≡ slice_set (map (moved k) places) (get_or order done d).0 (Some k) → IsRow m rings (done + 1) new
  row_step done order d places new k order_is within row low suits new_is =
      let at_v = order_at done order d order_is within in
      row_more m rings may done (get_or order done d).0 at_v (in_range m rings may done (get_or order done d) at_v) places new row k low suits new_is

  pub row_whole : (done : ℕ) (order : List AtomId) (places : List (Option ℕ)) → order ≡ rings.order → done ≡ length order → IsRow m rings done places → IsRow m rings (length rings.order) places
  row_whole done order places is count row = subst (λ (n : ℕ). IsRow m rings n places) (count ∙ ap (λ (xs : List AtomId). length xs) is) row

  -- ---- the row is drawn

  pub drawn_whole : (places : List (Option ℕ)) → IsRow m rings (length rings.order) places → (drawing : List Point) → IsOnCurve places drawing → IsDrawn m drawing
  drawn_whole places row drawing on = is_drawn m rings may places row drawing on

  pub row_few : (places : List (Option ℕ)) → IsRow m rings (length rings.order) places → length places ≤ 4999
  row_few places row = let count = row.count in let few : length m.atoms ≤ 999 = may.well_formed.few_atoms in omega arith

  pub row_below : (places : List (Option ℕ)) → IsRow m rings (length rings.order) places → AreBelow places
  row_below places row a place mark =
      let less = (row.placed a place mark).1 in
      let order_count : length rings.order ≡ length m.atoms = may.are_rings.order.count in
      let count = row.count in
      omega arith

-- ---- each point within the columns

pub below_of : (places items : List (Option ℕ)) → items ≡ places → AreBelow places → AreBelow items
below_of places items are below = subst AreBelow (sym are) below

module _ (places : List (Option ℕ)) (below : AreBelow places) (count : ℕ) (count_is : count ≡ length places) (wide high : ℕ) (stretch : IsStretch count wide high) (i : ℕ) (within : i < length places) where
  low_slot : place_in (get_or places i None) ≤ count - 1
  low_slot = by (get_or places i None) (slice_get-get_or places i None within)
    where
      by : (o : Option ℕ) → slice_get places i ≡ Some o → place_in o ≤ count - 1
      by None at = omega arith
      by (Some p) at = let less = below i p at in omega arith

  pub fits_wide : wide * place_in (get_or places i None) ≤ 999999999
  fits_wide = let p = mul-le-mul_left wide low_slot in let bound = stretch.fits_wide in omega arith

  pub fits_high : high * (place_in (get_or places i None) * place_in (get_or places i None)) ≤ 999999999
  fits_high = let p = mul-le-mul_left high (mul-le-mul low_slot low_slot) in let bound = stretch.fits_high in omega arith

  pub fits_square : place_in (get_or places i None) * place_in (get_or places i None) ≤ 999999999
  fits_square =
      let p = fits_high in
      let q = mul-le-mul_left (place_in (get_or places i None) * place_in (get_or places i None)) stretch.high_some in
      omega arith

pub drawn_points : (places items : List (Option ℕ)) (count wide high index : ℕ) (points : List Point) → items ≡ places → count ≡ length places → IsStretch count wide high → length items ≤ index
    → points ≡ map (λ (slot : Option ℕ). on_parabola wide high (place_in slot)) (take index items) → IsOnCurve places points
drawn_points places items count wide high index points are count_is stretch end is = record {
  wide = wide;
  high = high;
  stretch = subst (λ (n : ℕ). IsStretch n wide high) count_is stretch;
  points = is ∙ ap (map (λ (slot : Option ℕ). on_parabola wide high (place_in slot))) (take_all index items end ∙ are);
}

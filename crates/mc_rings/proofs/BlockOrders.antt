-- The block order of a molecule.
use Rattle.std.proofs.Common.{Bool, List, None, Option, Some, [], ap, arith, false, get_or, if◌then◌else◌, inl, inr, length, refl, slice_get, subst, suc, sym, true, zero, ℕ, ◌+◌, ◌<◌, ◌==◌, ◌||◌, ◌↔◌, ◌∙◌, ◌∷◌, ◌≡◌, ◌≢◌, ◌≤◌, ◌⊎◌}
use Rattle.std.proofs.Math.Bool.{or-true}
use Rattle.std.proofs.lemmas.Bool.{cases_eq, cases_lt, or_cases, eqb-true, ne_eqb}
use Rattle.std.proofs.lemmas.Bool.Decides.{nat_tests}
use Rattle.std.proofs.lemmas.List.Sorted.{length_permutation, sum_by-IsPermutation}
use Rattle.std.proofs.lemmas.List.Sums.{sum_by_from}
use Rattle.std.proofs.lemmas.Option.{get_or_from_slice_get, slice_get-get_or, slice_get_within, same_Some}
use Rattle.std.specs.List.Sorted.{IsNonDecreasingBy, IsPermutation}
use Rattle.mc_base.specs.declared.ids.AtomId.{AtomId}
use Rattle.mc_mol.proofs.Apart.{joins_cases, touches_first, touches_second, touches_cases}
use Rattle.mc_mol.proofs.Connected.{Leads, connected_back}
use Rattle.mc_mol.proofs.Halves.{same_test}
use Rattle.mc_mol.proofs.LeastPlaces.{one_mark}
use Rattle.mc_mol.proofs.Neighbours.{bond_joined, bond_number}
use Rattle.mc_mol.proofs.Numbered.{made}
use Rattle.mc_mol.proofs.Roots.{TopOf, order_full, parent_cases, same_top, top_connected, top_of, up_connected}
use Rattle.mc_mol.specs.Forests.{Parent}
use Rattle.mc_mol.specs.Molecule.{touches}
use Rattle.mc_mol.specs.Numbered.{Mark}
use Rattle.mc_mol.specs.Parts.{are_connected}
use Rattle.mc_mol.specs.declared.parts.Atom.{Atom}
use Rattle.mc_mol.specs.declared.parts.Bond.{Bond}
use Rattle.mc_mol.specs.declared.parts.Sides.{Sides}
use Rattle.mc_mol.specs.declared.parts.Slot.{Slot}
use Rattle.mc_rings.proofs.BlockEnds.{block_at, block_ends, one_first, parent_of}
use Rattle.mc_rings.proofs.OneBlock.{one_block, swapped}
use Rattle.mc_rings.specs.BlockOrder.{EndOfBlock, IsBlockOrder, times}
use Rattle.mc_rings.specs.Blocks.{BlockOf, IsEnd, IsTree, Tree, block_key}
use Rattle.mc_rings.specs.Counts.{AreBelow}

-- how often an atom stands in a list
times_same : (a : AtomId) (xs : List AtomId) (x : ℕ) → a.0 ≡ x → times x (a ∷ xs) ≡ 1 + times x xs
times_same a xs x same = sum_by_from (λ (b : AtomId). if b.0 == x then 1 else 0) (0 + (if a.0 == x then 1 else 0)) xs ∙ ap (λ (b : Bool). (0 + (if b then 1 else 0)) + times x xs) (subst (λ (n : ℕ). (a.0 == n) ≡ true) same (same_test a.0))

times_other : (a : AtomId) (xs : List AtomId) (x : ℕ) → a.0 ≢ x → times x (a ∷ xs) ≡ 0 + times x xs
times_other a xs x other = sum_by_from (λ (b : AtomId). if b.0 == x then 1 else 0) (0 + (if a.0 == x then 1 else 0)) xs ∙ ap (λ (b : Bool). (0 + (if b then 1 else 0)) + times x xs) (ne_eqb a.0 x other)

not_times : (xs : List AtomId) (x : ℕ) → ((i : ℕ) → slice_get xs i ≡ Some (made x) → ⊥) → times x xs ≡ 0
not_times [] x none = refl
not_times (a ∷ xs) x none =
    let rest = not_times xs x (λ i e. none (suc i) e) in
    let other = times_other a xs x (λ same. none 0 (ap (λ (n : ℕ). Some (made n)) same)) in
    omega arith

one_time : (xs : List AtomId) (x i : ℕ) → slice_get xs i ≡ Some (made x) → ((j : ℕ) → slice_get xs j ≡ Some (made x) → j ≡ i) → times x xs ≡ 1
one_time [] x i at only = cc
one_time (a ∷ xs) x zero at only =
    let rest = not_times xs x (λ j e. let h = only (suc j) e in omega arith) in
    let here = times_same a xs x (ap (λ (b : AtomId). b.0) (same_Some a (made x) at)) in
    omega arith
one_time (a ∷ xs) x (suc i) at only =
    let rest = one_time xs x i at (λ j e. let h = only (suc j) e in omega arith) in
    let other = times_other a xs x (λ same. let h = only 0 (ap (λ (n : ℕ). Some (made n)) same) in absurd (omega arith)) in
    omega arith

some_time : (xs : List AtomId) (x i : ℕ) → slice_get xs i ≡ Some (made x) → 1 ≤ times x xs
some_time [] x i at = cc
some_time (a ∷ xs) x zero at = let here = times_same a xs x (ap (λ (b : AtomId). b.0) (same_Some a (made x) at)) in omega arith
some_time (a ∷ xs) x (suc i) at = elim (cases_eq a.0 x) [
  | inl same ↦ (let here = times_same a xs x same in omega arith)
  | inr differ ↦ (let rest = some_time xs x i at in let other = times_other a xs x differ in omega arith)
]

two_times : (xs : List AtomId) (x i j : ℕ) → i < j → slice_get xs i ≡ Some (made x) → slice_get xs j ≡ Some (made x) → 2 ≤ times x xs
two_times [] x i j less at_i at_j = cc
two_times (a ∷ xs) x i zero less at_i at_j = absurd (omega arith)
two_times (a ∷ xs) x zero (suc j) less at_i at_j =
    let rest = some_time xs x j at_j in
    let here = times_same a xs x (ap (λ (b : AtomId). b.0) (same_Some a (made x) at_i)) in
    omega arith
two_times (a ∷ xs) x (suc i) (suc j) less at_i at_j = elim (cases_eq a.0 x) [
  | inl same ↦ (let here = times_same a xs x same in let rest = two_times xs x i j (omega arith) at_i at_j in omega arith)
  | inr differ ↦ (let rest = two_times xs x i j (omega arith) at_i at_j in let other = times_other a xs x differ in omega arith)
]

stands : (xs : List AtomId) (x : ℕ) → 1 ≤ times x xs → (i : ℕ) × (slice_get xs i ≡ Some (made x))
stands [] x some = absurd (omega arith)
stands (a ∷ xs) x some = elim (cases_eq a.0 x) [
  | inl same ↦ (0, ap (λ (n : ℕ). Some (made n)) same)
  | inr differ ↦
      let other = times_other a xs x differ in
      let rest = stands xs x (omega arith) in
      (suc rest.0, rest.1)
]

-- a tree with the block of each bond
pub record Numbered (t : Tree) (blocks : List ℕ) : Type 0 where
  pub is : IsTree t
  pub count : length blocks ≡ length t.bonds
  pub each : (k : ℕ) (bond : Bond) (block : ℕ) → slice_get t.bonds k ≡ Some bond → slice_get blocks k ≡ Some block → BlockOf t.places t.above bond.first.0 bond.second.0 block

-- the bond between an atom and its parent is one of the block above the atom
tree_ends : (t : Tree) (blocks : List ℕ) → Numbered t blocks → (x p k : ℕ) → Parent t.parents x p → Mark t.above x k → EndOfBlock t.bonds blocks k x × EndOfBlock t.bonds blocks k p
tree_ends t blocks n x p k parent has =
    let child = n.is.forest.found.parent x p parent in
    let b = bond_number t.bonds p x child.joined in
    let within : b.0 < length blocks = let w = slice_get_within t.bonds b.0 b.1 b.2 in let c = n.count in omega arith in
    let l : ℕ = get_or blocks b.0 0 in
    let at : slice_get blocks b.0 ≡ Some l = slice_get-get_or blocks b.0 0 within in
    let own : BlockOf t.places t.above p x k = inl (record { first = child.above; second = child.place; at_first = child.placed_above; at_second = child.placed; later = child.earlier; has = has }) in
    cases b.0 b.1 b.2 (joins_cases b.1 p x b.3) l at own (n.each b.0 b.1 l b.2 at)
  where
    cases : (number : ℕ) (bond : Bond) → slice_get t.bonds number ≡ Some bond → ((bond.first.0 ≡ p) × (bond.second.0 ≡ x)) ⊎ ((bond.first.0 ≡ x) × (bond.second.0 ≡ p)) → (l : ℕ)
        → slice_get blocks number ≡ Some l → BlockOf t.places t.above p x k → BlockOf t.places t.above bond.first.0 bond.second.0 l
        → EndOfBlock t.bonds blocks k x × EndOfBlock t.bonds blocks k p
    cases number bond at (inl (first, second)) l at_l own other =
        let same = one_block t p x l k (subst (λ (m : ℕ). BlockOf t.places t.above m x l) first (subst (λ (m : ℕ). BlockOf t.places t.above bond.first.0 m l) second other)) own in
        let in_k = subst (λ (m : ℕ). slice_get blocks number ≡ Some m) same at_l in (
          record { number = number; bond = bond; is_bond = at; in_block = in_k; touched = touches_second bond x second },
          record { number = number; bond = bond; is_bond = at; in_block = in_k; touched = touches_first bond p first },
        )
    cases number bond at (inr (first, second)) l at_l own other =
        let same = one_block t x p l k (subst (λ (m : ℕ). BlockOf t.places t.above m p l) first (subst (λ (m : ℕ). BlockOf t.places t.above bond.first.0 m l) second other)) (swapped t p x k own) in
        let in_k = subst (λ (m : ℕ). slice_get blocks number ≡ Some m) same at_l in (
          record { number = number; bond = bond; is_bond = at; in_block = in_k; touched = touches_first bond x first },
          record { number = number; bond = bond; is_bond = at; in_block = in_k; touched = touches_second bond p second },
        )

pub block_within : (t : Tree) → IsTree t → (u v k : ℕ) → BlockOf t.places t.above u v k → k < length t.heads
block_within t is u v k (inl lower) = is.blocked.within v k lower.has
block_within t is u v k (inr lower) = is.blocked.within u k lower.has

-- the key of an atom in the order
key_above : (above : List (Option ℕ)) (x k : ℕ) → Mark above x k → block_key (slice_get above x) ≡ k + 1
key_above above x k at = ap block_key at

key_none : (above : List (Option ℕ)) (x : ℕ) → slice_get above x ≡ Some None → block_key (slice_get above x) ≡ 0
key_none above x at = ap block_key at

above_cases : (above : List (Option ℕ)) (x : ℕ) → x < length above → (slice_get above x ≡ Some None) ⊎ ((k : ℕ) × (Mark above x k))
above_cases above x within = cases (get_or above x None) (slice_get-get_or above x None within)
  where
    cases : (o : Option ℕ) → slice_get above x ≡ Some o → (slice_get above x ≡ Some None) ⊎ ((k : ℕ) × (Mark above x k))
    cases None e = inl e
    cases (Some k) e = inr (k, e)

-- an order that is sorted by the keys
pub record Sorted (t : Tree) (order : List AtomId) : Type 0 where
  pub permuted : IsPermutation t.order order
  pub sorted : IsNonDecreasingBy (λ (a : AtomId). block_key (slice_get t.above a.0)) order

keys_rise : (t : Tree) (order : List AtomId) → IsNonDecreasingBy (λ (a : AtomId). block_key (slice_get t.above a.0)) order → (i j : ℕ) (x y : AtomId) → i ≤ j → slice_get order i ≡ Some x
    → slice_get order j ≡ Some y → block_key (slice_get t.above x.0) ≤ block_key (slice_get t.above y.0)
keys_rise t order sorted i j x y le at_x at_y =
    let h = sorted i j x le (slice_get_within order j y at_y) in
    subst (λ (a : AtomId). block_key (slice_get t.above a.0) ≤ block_key (slice_get t.above y.0)) (get_or_from_slice_get order i x x at_x)
    (subst (λ (a : AtomId). block_key (slice_get t.above (get_or order i x).0) ≤ block_key (slice_get t.above a.0)) (get_or_from_slice_get order j y x at_y) h)

once_in : (t : Tree) → IsTree t → (order : List AtomId) → IsPermutation t.order order → (x : ℕ) → x < t.atoms → times x order ≡ 1
once_in t is order permuted x within =
    let place = is.forest.all x within in
    sum_by-IsPermutation (λ (a : AtomId). if a.0 == x then 1 else 0) t.order order permuted
    ∙ one_time t.order x place.0 (is.forest.found.placed x place.0 place.1) (λ j e. one_mark t.places x j place.0 (is.forest.found.listed j (made x) e) place.1)

found_in : (t : Tree) → IsTree t → (order : List AtomId) → IsPermutation t.order order → (x : ℕ) → x < t.atoms → (i : ℕ) × (slice_get order i ≡ Some (made x))
found_in t is order permuted x within = stands order x (let h = once_in t is order permuted x within in omega arith)

-- a root has no block above it, and an atom without one is a root
root_none : (t : Tree) → IsTree t → (x : ℕ) → x < t.atoms → slice_get t.parents x ≡ Some None → slice_get t.above x ≡ Some None
root_none t is x within none = let at = is.forest.all x within in is.blocked.root x at.0 at.1 none

none_root : (t : Tree) → IsTree t → (x : ℕ) → x < t.atoms → slice_get t.above x ≡ Some None → slice_get t.parents x ≡ Some None
none_root t is x within none = elim (parent_cases t.parents x (let c = is.forest.found.parent_count in omega arith)) [
  | inl root ↦ root
  | inr some ↦ let b = block_at t is x some.0 some.1 in let at = b.1 in cc
]

-- an atom of the order is one of the molecule
order_within : (t : Tree) → IsTree t → (order : List AtomId) → IsPermutation t.order order → (j : ℕ) (y : AtomId) → slice_get order j ≡ Some y → y.0 < t.atoms
order_within t is order permuted j y at_y =
    let some = some_time order y.0 j at_y in
    let same = sum_by-IsPermutation (λ (a : AtomId). if a.0 == y.0 then 1 else 0) t.order order permuted in
    let old = stands t.order y.0 (subst (λ (n : ℕ). 1 ≤ n) same some) in
    let within = slice_get_within t.places y.0 (Some old.0) (is.forest.found.listed old.0 (made y.0) old.1) in
    let c = is.forest.found.place_count in
    omega arith

not_led : (bonds : List Bond) (x y : ℕ) → (Leads bonds x y → ⊥) → are_connected bonds x y ≡ false
not_led bonds x y none = not_true (are_connected bonds x y) none
  where
    not_true : (t : Bool) → (t ≡ true → ⊥) → t ≡ false
    not_true true h = absurd (h refl)
    not_true false h = refl

led_not : (bonds : List Bond) (x y : ℕ) → Leads bonds x y → are_connected bonds x y ≡ false → ⊥
led_not bonds x y leads none = cc

part_first : (t : Tree) → IsTree t → (order : List AtomId) → Sorted t order → (i : ℕ) (x : AtomId) → x.0 < t.atoms → slice_get order i ≡ Some x
    → (slice_get t.above x.0 ≡ Some None) ↔ ((j : ℕ) (y : AtomId) → j < i → slice_get order j ≡ Some y → are_connected t.bonds y.0 x.0 ≡ false)
part_first t is order s i x x_in at_x = (first, none)
  where
    top_is : (y : ℕ) → y < t.atoms → slice_get t.above y ≡ Some None → TopOf t.parents y y
    top_is y y_in none = record { above = (0, refl); root = none_root t is y y_in none }

    none_before : (y : AtomId) → y.0 < t.atoms → block_key (slice_get t.above y.0) ≡ 0 → slice_get t.above y.0 ≡ Some None
    none_before y y_in zero_key = elim (above_cases t.above y.0 (let c = is.blocked.count in omega arith)) [
      | inl nothing ↦ nothing
      | inr some ↦ let k = key_above t.above y.0 some.0 some.1 in absurd (omega arith)
    ]

    first : slice_get t.above x.0 ≡ Some None → (j : ℕ) (y : AtomId) → j < i → slice_get order j ≡ Some y → are_connected t.bonds y.0 x.0 ≡ false
    first nothing j y less at_y = not_led t.bonds y.0 x.0 (λ leads. (
        let y_in = order_within t is order s.permuted j y at_y in
        let rise = keys_rise t order s.sorted j i y x (omega arith) at_y at_x in
        let key = key_none t.above x.0 nothing in
        let y_none = none_before y y_in (omega arith) in
        let theirs = top_connected t.bonds t.atoms t.order t.places t.parents t.roots is.forest is.forest.fit y.0 x.0 y.0 leads (top_is y.0 y_in y_none) in
        let same = same_top t.parents x.0 y.0 x.0 theirs (top_is x.0 x_in nothing) in
        let twice = two_times order x.0 j i less (at_y ∙ ap (λ (n : ℕ). Some (made n)) same) at_x in
        let once = once_in t is order s.permuted x.0 x_in in
        absurd (omega arith)))

    none : ((j : ℕ) (y : AtomId) → j < i → slice_get order j ≡ Some y → are_connected t.bonds y.0 x.0 ≡ false) → slice_get t.above x.0 ≡ Some None
    none apart = elim (above_cases t.above x.0 (let c = is.blocked.count in omega arith)) [
      | inl nothing ↦ nothing
      | inr some ↦
          let at = is.forest.all x.0 x_in in
          let top = top_of t.bonds t.atoms t.order t.places t.parents t.roots is.forest.found x.0 at.0 at.1 in
          let above = top.1.above in
          let way = up_connected t.bonds t.atoms t.order t.places t.parents t.roots is.forest.found above.0 x.0 top.0 at.0 above.1 at.1 in
          let r_in : top.0 < t.atoms = let w = slice_get_within t.places top.0 (Some way.1.0) way.1.1 in let c = is.forest.found.place_count in omega arith in
          let place = found_in t is order s.permuted top.0 r_in in
          let key = key_above t.above x.0 some.0 some.1 in
          let root_key = key_none t.above top.0 (root_none t is top.0 r_in top.1.root) in
          absurd (led_not t.bonds top.0 x.0 (connected_back t.bonds x.0 top.0 way.0) (apart place.0 (made top.0) (before place.0 top.0 place.1 some.0 key root_key) place.1))
    ]
      where
        before : (j r : ℕ) → slice_get order j ≡ Some (made r) → (k : ℕ) → block_key (slice_get t.above x.0) ≡ k + 1 → block_key (slice_get t.above r) ≡ 0 → j < i
        before j r at_r k key root_key = elim (cases_lt j i) [
          | inl less ↦ less
          | inr more ↦ let rise = keys_rise t order s.sorted i j x (made r) more at_x at_r in absurd (omega arith)
        ]

-- an atom of the key of a block has the block above it
above_of_key : (t : Tree) → IsTree t → (y k : ℕ) → y < t.atoms → block_key (slice_get t.above y) ≡ k + 1 → Mark t.above y k
above_of_key t is y k y_in key = elim (above_cases t.above y (let c = is.blocked.count in omega arith)) [
  | inl nothing ↦ (let zero_key = key_none t.above y nothing in absurd (omega arith))
  | inr some ↦ (let other = key_above t.above y some.0 some.1 in let same : some.0 ≡ k = omega arith in subst (λ (n : ℕ). Mark t.above y n) same some.1)
]

bond_at : (bonds : List Bond) (b : ℕ) → b < length bonds → (bond : Bond) × (slice_get bonds b ≡ Some bond)
bond_at [] b less = absurd (omega arith)
bond_at (bond ∷ bonds) zero less = (bond, refl)
bond_at (bond ∷ bonds) (suc b) less = bond_at bonds b (omega arith)

pub are_below : (t : Tree) → IsTree t → (blocks : List ℕ) → length blocks ≡ length t.bonds
    → ((k : ℕ) (bond : Bond) (block : ℕ) → slice_get t.bonds k ≡ Some bond → slice_get blocks k ≡ Some block → BlockOf t.places t.above bond.first.0 bond.second.0 block)
    → AreBelow blocks (length t.firsts)
are_below t is blocks count each b block at =
    let within = slice_get_within blocks b block at in
    let bond = bond_at t.bonds b (omega arith) in
    let h = block_within t is bond.0.first.0 bond.0.second.0 block (each b bond.0 block bond.1 at) in
    let c = is.blocked.same_count in
    omega arith

pub order_of : (t : Tree) (atoms : List Atom) (centres : List (Option (List Slot))) (sides : List (Option Sides)) (blocks : List ℕ) (order : List AtomId) → t.atoms ≡ length atoms → Numbered t blocks
    → Sorted t order → IsBlockOrder (record { atoms = atoms; bonds = t.bonds; centres = centres; sides = sides }) blocks order t.firsts t.above
order_of t atoms centres sides blocks order count n s = record {
  count = let a = length_permutation t.order order s.permuted in let b = order_full t.bonds t.atoms t.order t.places t.parents t.roots n.is.forest in omega arith;
  within = λ i x at. let h = order_within t n.is order s.permuted i x at in omega arith;
  once = λ x within. once_in t n.is order s.permuted x (omega arith);
  below_count = are_below t n.is blocks n.count n.each;
  first_end = λ block a at.
      let within = slice_get_within t.firsts block a at in
      let c = n.is.blocked.same_count in
      let head = head_at t.heads block (omega arith) in
      let h = n.is.blocked.head block head.0 head.1 in
      let same = one_first t block h.first a.0 h.at at in
      subst (λ (m : ℕ). EndOfBlock t.bonds blocks block m) same (tree_ends t blocks n head.0.0 h.first block h.parent h.block).1;
  above_count = n.is.blocked.count ∙ count;
  above_end = λ x block at. let p = parent_of t n.is x block at in (tree_ends t blocks n x p.0 block p.1 at).0;
  part_first = λ i x at. part_first t n.is order s i x (order_within t n.is order s.permuted i x at) at;
  ends = λ block x e.
      let own = n.each e.number e.bond block e.is_bond e.in_block in
      let both = block_ends t n.is e.bond.first.0 e.bond.second.0 block (bond_joined t.bonds e.number e.bond e.is_bond) own in
      elim (touches_cases e.bond x e.touched) [
        | inl first ↦ subst (λ (m : ℕ). IsEnd t block m) first both.0
        | inr second ↦ subst (λ (m : ℕ). IsEnd t block m) second both.1
      ];
  together = λ i j l x y z block less more at_x at_y at_z above_x above_z.
      let a = keys_rise t order s.sorted i j x y (omega arith) at_x at_y in
      let b = keys_rise t order s.sorted j l y z (omega arith) at_y at_z in
      let c = key_above t.above x.0 block above_x in
      let d = key_above t.above z.0 block above_z in
      above_of_key t n.is y.0 block (order_within t n.is order s.permuted j y at_y) (omega arith);
  behind = λ i x a block at_x above_x first.
      let within = slice_get_within t.firsts block a first in
      let c = n.is.blocked.same_count in
      let head = head_at t.heads block (omega arith) in
      let h = n.is.blocked.head block head.0 head.1 in
      let same = one_first t block h.first a.0 h.at first in
      let child = n.is.forest.found.parent head.0.0 h.first h.parent in
      let a_in : a.0 < t.atoms = subst (λ (m : ℕ). m < t.atoms) same (let w = slice_get_within t.places h.first (Some child.above) child.placed_above in let p = n.is.forest.found.place_count in omega arith) in
      let place = found_in t n.is order s.permuted a.0 a_in in
      let key = key_above t.above x.0 block above_x in
      (place.0, first_before i x a block at_x key a_in (λ j m. h.later j (subst (λ (k : ℕ). Mark t.above k j) (sym same) m)) place.0 place.1, place.1);
}
  where
    head_at : (heads : List AtomId) (k : ℕ) → k < length heads → (c : AtomId) × (slice_get heads k ≡ Some c)
    head_at [] k less = absurd (omega arith)
    head_at (c ∷ heads) zero less = (c, refl)
    head_at (c ∷ heads) (suc k) less = head_at heads k (omega arith)

    first_before : (i : ℕ) (x a : AtomId) (block : ℕ) → slice_get order i ≡ Some x → block_key (slice_get t.above x.0) ≡ block + 1 → a.0 < t.atoms → ((j : ℕ) → Mark t.above a.0 j → j < block)
        → (j : ℕ) → slice_get order j ≡ Some (made a.0) → j < i
    first_before i x a block at_x key a_in later j at_a = elim (cases_lt j i) [
      | inl less ↦ less
      | inr more ↦
          let rise = keys_rise t order s.sorted i j x (made a.0) more at_x at_a in
          elim (above_cases t.above a.0 (let c = n.is.blocked.count in omega arith)) [
            | inl nothing ↦ (let zero_key = key_none t.above a.0 nothing in absurd (omega arith))
            | inr some ↦ (let own = key_above t.above a.0 some.0 some.1 in let less = later some.0 some.1 in absurd (omega arith))
          ]
    ]

-- The ends of the bonds of a block: each is the block's first atom or has the block above it.
use Rattle.std.proofs.Common.{List, None, Option, Some, ap, arith, inl, inr, refl, slice_get, subst, suc, sym, true, zero, ℕ, ◌<◌, ◌∙◌, ◌≡◌, ◌≢◌, ◌≤◌}
use Rattle.std.proofs.lemmas.Option.{slice_get_within, same_Some}
use Rattle.mc_base.specs.declared.ids.AtomId.{AtomId}
use Rattle.mc_mol.proofs.Climbs.{IsRooted, Rooted, later_up, up_earlier}
use Rattle.mc_mol.proofs.LeastPlaces.{one_mark}
use Rattle.mc_mol.proofs.Neighbours.{joined_back, joined_ends}
use Rattle.mc_mol.proofs.Numbered.{made}
use Rattle.mc_mol.proofs.Roots.{above_trans, one_parent, parent_cases, same_listed}
use Rattle.mc_mol.specs.Forests.{IsAbove, IsForest, IsLater, Parent, Up}
use Rattle.mc_mol.specs.Lows.{Rises}
use Rattle.mc_mol.specs.Molecule.{are_joined}
use Rattle.mc_mol.specs.Numbered.{Mark}
use Rattle.mc_mol.specs.declared.parts.Bond.{Bond}
use Rattle.mc_rings.specs.Blocks.{BlockOf, Blocked, Hangs, IsEnd, IsFirst, IsTree, LowerEnd, Tree}

-- the forest of a tree of blocks
abbrev pub rooted : Tree → Rooted
rooted t = record { bonds = t.bonds; atoms = t.atoms; order = t.order; places = t.places; parents = t.parents; roots = t.roots }

pub is_rooted : (t : Tree) → IsTree t → IsRooted (rooted t)
is_rooted t is = record { forest = is.forest }

pub later_there : (bonds : List Bond) (n : ℕ) (order : List AtomId) (places : List (Option ℕ)) (parents : List (Option AtomId)) (roots : List AtomId) → IsForest bonds n order places parents roots
    → (u v a b : ℕ) → u < n → v < n → ((i : ℕ) → Mark places u i → a ≡ i) → ((i : ℕ) → Mark places v i → b ≡ i) → a < b → IsLater places u v
later_there bonds n order places parents roots is u v a b u_in v_in at_u at_v less =
    let i = is.all u u_in in let j = is.all v v_in in let e = at_u i.0 i.1 in let f = at_v j.0 j.1 in (i.0, j.0, i.1, j.1, omega arith)

pub later_else : (bonds : List Bond) (n : ℕ) (order : List AtomId) (places : List (Option ℕ)) (parents : List (Option AtomId)) (roots : List AtomId) → IsForest bonds n order places parents roots
    → (u v a b : ℕ) → u < n → v < n → u ≢ v → ((i : ℕ) → Mark places u i → a ≡ i) → ((i : ℕ) → Mark places v i → b ≡ i) → b ≤ a → IsLater places v u
later_else bonds n order places parents roots is u v a b u_in v_in other at_u at_v more =
    let i = is.all u u_in in
    let j = is.all v v_in in
    let e = at_u i.0 i.1 in
    let f = at_v j.0 j.1 in
    let differ : i.0 ≢ j.0 = λ same. other (same_listed bonds n order places parents roots is.found u v i.0 j.0 i.1 j.1 same) in
    (j.0, i.0, j.1, i.1, omega arith)

-- each atom with a parent has its block
pub block_at : (t : Tree) → IsTree t → (x p : ℕ) → Parent t.parents x p → (k : ℕ) × (Mark t.above x k) × (Hangs t.bonds t.places t.parents t.heads t.firsts t.above x p k)
block_at t is x p parent =
    let child = is.forest.found.parent x p parent in
    let within = slice_get_within t.order child.place (made x) (is.forest.found.placed x child.place child.placed) in
    let total = is.forest.found.total in
    is.blocked.each x p child.place parent child.placed (omega arith)

pub lower_has : (bonds : List Bond) (n : ℕ) (order : List AtomId) (places : List (Option ℕ)) (parents : List (Option AtomId)) (roots heads firsts : List AtomId) (above : List (Option ℕ))
    → IsForest bonds n order places parents roots → Blocked bonds n places parents heads firsts above n → (u v : ℕ) → are_joined bonds u v ≡ true → IsLater places u v
    → slice_get above v ≡ Some None → ⊥
lower_has bonds n order places parents roots heads firsts above is are u v joined later none =
    let up = later_up bonds n order places parents roots is u v joined later in
    let step = up.1 in
    let has = block_at (record { bonds = bonds; atoms = n; order = order; places = places; parents = parents; roots = roots; heads = heads; firsts = firsts; above = above }) (record { forest = is; blocked = are }) v step.0 step.1 in
    let at = has.1 in
    cc

pub lower_end : (places above : List (Option ℕ)) (u v k : ℕ) → IsLater places u v → Mark above v k → LowerEnd places above u v k
lower_end places above u v k (i, j, at_u, at_v, less) has = record { first = i; second = j; at_first = at_u; at_second = at_v; later = less; has = has }

pub one_first : (t : Tree) (k a b : ℕ) → IsFirst t k a → IsFirst t k b → a ≡ b
one_first t k a b e f = ap (λ (x : AtomId). x.0) (same_Some (made a) (made b) (sym e ∙ f))

-- an atom with a block above it is found, and has a parent
pub placed_of : (t : Tree) → IsTree t → (x k : ℕ) → Mark t.above x k → (i : ℕ) × (Mark t.places x i)
placed_of t is x k at = is.forest.all x (let h = slice_get_within t.above x (Some k) at in let c = is.blocked.count in omega arith)

pub parent_of : (t : Tree) → IsTree t → (x k : ℕ) → Mark t.above x k → (p : ℕ) × (Parent t.parents x p)
parent_of t is x k at =
    let i = placed_of t is x k at in
    elim (parent_cases t.parents x (let h = slice_get_within t.above x (Some k) at in let c = is.blocked.count in let d = is.forest.found.parent_count in omega arith)) [
      | inl none ↦ absurd (let root = is.blocked.root x i.0 i.1 none in cc)
      | inr some ↦ some
    ]

-- a bond from below leads up to v: all bonds of the tree on the way have one block, and v is an end of it
pub ends_up : (t : Tree) → IsTree t → (m y u v k : ℕ) → Up t.parents (suc m) y v → IsAbove t.parents y u → are_joined t.bonds u v ≡ true → Mark t.above y k → IsEnd t k v
ends_up t is zero y u v k (p, parent, same) below joined at =
    let b = block_at t is y p parent in
    let k_is : b.0 ≡ k = one_mark t.above y b.0 k b.1 at in
    cases k_is b.2
  where
    cases : {l : ℕ} → l ≡ k → Hangs t.bonds t.places t.parents t.heads t.firsts t.above y p l → IsEnd t k v
    cases {l} e (inl (head, first, none)) = inl (subst (λ (i : ℕ). IsFirst t i v) e (subst (λ (i : ℕ). IsFirst t l i) same first))
    cases {l} e (inr (r, mark)) = inr (subst (λ (i : ℕ). Mark t.above v i) e (subst (λ (i : ℕ). Mark t.above i l) same mark))
ends_up t is (suc m) y u v k (p, parent, up) below joined at =
    let b = block_at t is y p parent in
    let k_is : b.0 ≡ k = one_mark t.above y b.0 k b.1 at in
    cases (λ mark. ends_up t is m p u v k up (above_trans t.parents below.0 u y p below.1 (1, (p, parent, refl))) joined mark) k_is b.2
  where
    child_place : (i : ℕ) × (Mark t.places p i)
    child_place = let child = is.forest.found.parent y p parent in (child.above, child.placed_above)

    higher : (j : ℕ) → Mark t.places v j → v ≢ p
    higher j at_v same =
        let less = up_earlier (rooted t) (is_rooted t is) m p v child_place.0 j up child_place.1 at_v in
        let e = one_mark t.places v j child_place.0 at_v (subst (λ (n : ℕ). Mark t.places n child_place.0) (sym same) child_place.1) in
        omega arith

    rising : (j : ℕ) × (Mark t.places v j) → Rises t.bonds t.places t.parents y p
    rising (j, at_v) = record {
      low = j;
      above = child_place.0;
      from = record { from = u; to = v; below = below; joined = joined; at = at_v; other = λ own to_parent. higher j at_v (one_parent t.parents y v p to_parent parent) };
      at = child_place.1;
      earlier = up_earlier (rooted t) (is_rooted t is) m p v child_place.0 j up child_place.1 at_v;
    }

    cases : (Mark t.above p k → IsEnd t k v) → {l : ℕ} → l ≡ k → Hangs t.bonds t.places t.parents t.heads t.firsts t.above y p l → IsEnd t k v
    cases next {l} e (inl (head, first, none)) =
        let ends = joined_ends t.atoms t.bonds u v is.forest.fit joined in
        let nothing = none (rising (is.forest.all v ends.second)) in
        let more = block_at t is p up.0 up.1 in
        let mark = more.1 in
        cc
    cases next {l} e (inr (r, mark)) = next (subst (λ (i : ℕ). Mark t.above p i) e mark)

pub lower_ends : (t : Tree) → IsTree t → (u v k : ℕ) → are_joined t.bonds u v ≡ true → LowerEnd t.places t.above u v k → IsEnd t k u × IsEnd t k v
lower_ends t is u v k joined lower =
    let up = later_up t.bonds t.atoms t.order t.places t.parents t.roots is.forest u v joined (lower.first, lower.second, lower.at_first, lower.at_second, lower.later) in
    (ends_up t is up.0 v v u k up.1 (0, refl) (joined_back t.bonds u v joined) lower.has, inr lower.has)

pub block_ends : (t : Tree) → IsTree t → (u v k : ℕ) → are_joined t.bonds u v ≡ true → BlockOf t.places t.above u v k → IsEnd t k u × IsEnd t k v
block_ends t is u v k joined (inl lower) = lower_ends t is u v k joined lower
block_ends t is u v k joined (inr lower) = let both = lower_ends t is v u k (joined_back t.bonds u v joined) lower in (both.1, both.0)

-- a block's first atom is found before the others
earlier_below : (t : Tree) → IsTree t → (most x i a j k : ℕ) → Mark t.places x i → i < most → Mark t.places a j → IsFirst t k a → Mark t.above x k → j < i
earlier_below t is zero x i a j k at_x less at_a first has = absurd (omega arith)
earlier_below t is (suc most) x i a j k at_x less at_a first has =
    let parent = parent_of t is x k has in
    let child = is.forest.found.parent x parent.0 parent.1 in
    let e = one_mark t.places x i child.place at_x child.placed in
    let earlier = child.earlier in
    let b = block_at t is x parent.0 parent.1 in
    let k_is : b.0 ≡ k = one_mark t.above x b.0 k b.1 has in
    let at_most : j ≤ child.above = cases parent.0 child.above child.placed_above (λ mark. earlier_below t is most parent.0 child.above a j k child.placed_above (omega arith) at_a first mark) k_is b.2 in
    omega arith
  where
    cases : (p h : ℕ) → Mark t.places p h → (Mark t.above p k → j < h) → {l : ℕ} → l ≡ k → Hangs t.bonds t.places t.parents t.heads t.firsts t.above x p l → j ≤ h
    cases p h at_p next {l} e (inl (head, is_first, none)) =
        let same = one_first t k p a (subst (λ (i : ℕ). IsFirst t i p) e is_first) first in
        let f = one_mark t.places a h j (subst (λ (i : ℕ). Mark t.places i h) same at_p) at_a in
        omega arith
    cases p h at_p next {l} e (inr (r, mark)) = let less = next (subst (λ (i : ℕ). Mark t.above p i) e mark) in omega arith

pub earlier_first : (t : Tree) → IsTree t → (x i a j k : ℕ) → Mark t.places x i → Mark t.places a j → IsFirst t k a → Mark t.above x k → j < i
earlier_first t is x i a j k at_x at_a first has = earlier_below t is (suc i) x i a j k at_x (omega arith) at_a first has

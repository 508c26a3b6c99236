-- Bonds of one block share a closed path.
use Rattle.std.proofs.Common.{List, Some, [], ap, arith, inl, inr, refl, slice_get, subst, suc, sym, true, zero, ℕ, ◌<◌, ◌∙◌, ◌≡◌, ◌≢◌, ◌⊎◌}
use Rattle.std.proofs.lemmas.Option.{same_Some}
use Rattle.mc_base.specs.declared.ids.AtomId.{AtomId}
use Rattle.mc_mol.proofs.Climbs.{climb_next, climb_ring, later_up}
use Rattle.mc_mol.proofs.LeastPlaces.{one_mark, up_places}
use Rattle.mc_mol.proofs.Neighbours.{joined_back, joined_ends}
use Rattle.mc_mol.proofs.Numbered.{made}
use Rattle.mc_mol.proofs.Paths.{ring_across, ring_of_other, ring_swapped, ring_turned}
use Rattle.mc_mol.proofs.Roots.{above_trans, one_parent}
use Rattle.mc_mol.proofs.Rounds.{SamePair, closed_by}
use Rattle.mc_mol.specs.Forests.{Parent}
use Rattle.mc_mol.specs.Lows.{Rises}
use Rattle.mc_mol.specs.Molecule.{are_joined}
use Rattle.mc_mol.specs.Numbered.{Mark}
use Rattle.mc_mol.specs.Paths.{RingBy}
use Rattle.mc_mol.specs.declared.parts.Bond.{Bond}
use Rattle.mc_rings.proofs.BlockEnds.{block_at, is_rooted, parent_of, rooted}
use Rattle.mc_rings.specs.Blocks.{BlockOf, Hangs, IsTree, LowerEnd, Tree}
use Rattle.mc_rings.specs.RingSizes.{ShareClosedPath}

abbrev pub Near : List Bond → ℕ → ℕ → ℕ → ℕ → Type 0
Near bonds u v x y = SamePair u v x y ⊎ RingBy bonds u v x y

same_first : (bonds : List Bond) (u v x y f g : ℕ) → SamePair u v x y → RingBy bonds x y f g → RingBy bonds u v f g
same_first bonds u v x y f g (inl (e, h)) ring = subst (λ (m : ℕ). RingBy bonds m v f g) (sym e) (subst (λ (m : ℕ). RingBy bonds x m f g) (sym h) ring)
same_first bonds u v x y f g (inr (e, h)) ring = subst (λ (m : ℕ). RingBy bonds m v f g) (sym e) (subst (λ (m : ℕ). RingBy bonds y m f g) (sym h) (ring_turned bonds x y f g ring))

same_second : (bonds : List Bond) (u v x y f g : ℕ) → RingBy bonds u v x y → SamePair x y f g → RingBy bonds u v f g
same_second bonds u v x y f g ring (inl (e, h)) = subst (λ (m : ℕ). RingBy bonds u v m g) e (subst (λ (m : ℕ). RingBy bonds u v x m) h ring)
same_second bonds u v x y f g ring (inr (e, h)) = ring_swapped bonds u v g f (subst (λ (m : ℕ). RingBy bonds u v m f) e (subst (λ (m : ℕ). RingBy bonds u v x m) h ring))

same_trans : (u v x y f g : ℕ) → SamePair u v x y → SamePair x y f g → SamePair u v f g
same_trans u v x y f g (inl (a, b)) (inl (c, d)) = inl (a ∙ c, b ∙ d)
same_trans u v x y f g (inl (a, b)) (inr (c, d)) = inr (a ∙ c, b ∙ d)
same_trans u v x y f g (inr (a, b)) (inl (c, d)) = inr (a ∙ d, b ∙ c)
same_trans u v x y f g (inr (a, b)) (inr (c, d)) = inl (a ∙ d, b ∙ c)

near_back : (bonds : List Bond) (u v x y : ℕ) → are_joined bonds u v ≡ true → Near bonds u v x y → Near bonds x y u v
near_back bonds u v x y joined (inl (inl (e, h))) = inl (inl (sym e, sym h))
near_back bonds u v x y joined (inl (inr (e, h))) = inl (inr (sym h, sym e))
near_back bonds u v x y joined (inr ring) = inr (ring_of_other bonds u v x y ring joined)

near_trans : (bonds : List Bond) (u v x y f g : ℕ) → x ≢ y → are_joined bonds x y ≡ true → are_joined bonds f g ≡ true → Near bonds u v x y → Near bonds x y f g → Near bonds u v f g
near_trans bonds u v x y f g other joined joined_f (inl same) (inl also) = inl (same_trans u v x y f g same also)
near_trans bonds u v x y f g other joined joined_f (inl same) (inr ring) = inr (same_first bonds u v x y f g same ring)
near_trans bonds u v x y f g other joined joined_f (inr ring) (inl same) = inr (same_second bonds u v x y f g ring same)
near_trans bonds u v x y f g other joined joined_f (inr ring) (inr more) = inr (ring_across bonds u v f g x y other joined_f ring (ring_of_other bonds x y f g more joined))

-- where a bond rises past p, the bond below p and the one above it share a closed path
tree_near : (t : Tree) → IsTree t → (x p g : ℕ) → Parent t.parents x p → Parent t.parents p g → Rises t.bonds t.places t.parents x p → Near t.bonds x p p g
tree_near t is x p g parent above r =
    let w : ℕ = r.from.from in
    let a : ℕ = r.from.to in
    let ends = joined_ends t.atoms t.bonds w a is.forest.fit r.from.joined in
    let at_w = is.forest.all w ends.first in
    let child = is.forest.found.parent x p parent in
    let e = one_mark t.places p child.above r.above child.placed_above r.at in
    let earlier = child.earlier in
    let low = r.earlier in
    let below = r.from.below in
    let most = up_places t.bonds t.atoms t.order t.places t.parents t.roots is.forest below.0 w x at_w.0 child.place below.1 at_w.1 child.placed in
    let joined = joined_back t.bonds w a r.from.joined in
    let up = is.forest.found.related a w r.low at_w.0 r.from.at at_w.1 (omega arith) joined in
    let lower = climb_ring (rooted t) (is_rooted t is) up.0 w a x p up.1 (climb_next (rooted t) (is_rooted t is) below.0 up.0 w x p a child.place r.low up.1 below.1 parent child.placed r.from.at (omega arith)) in
    let way = above_trans t.parents below.0 w x p below.1 (1, (p, parent, refl)) in
    let upper = climb_ring (rooted t) (is_rooted t is) up.0 w a p g up.1 (climb_next (rooted t) (is_rooted t is) way.0 up.0 w p g a r.above r.low up.1 way.1 above r.at r.from.at (omega arith)) in
    let grand = is.forest.found.parent p g above in
    near_trans t.bonds x p a w p g (λ same. ends.different (sym same)) joined (joined_back t.bonds g p grand.joined) (inr (ring_of_other t.bonds a w x p lower joined)) (inr upper)

-- the bond above an atom and the first bond of its block
record ToHead (t : Tree) (k x p : ℕ) : Type 0 where
  head : ℕ
  first : ℕ
  at : slice_get t.heads k ≡ Some (made head)
  parent : Parent t.parents head first
  near : Near t.bonds x p head first

to_head : (t : Tree) → IsTree t → (most x p i k : ℕ) → Parent t.parents x p → Mark t.places x i → i < most → Mark t.above x k → ToHead t k x p
to_head t is zero x p i k parent at less has = absurd (omega arith)
to_head t is (suc most) x p i k parent at less has =
    let child = is.forest.found.parent x p parent in
    let e = one_mark t.places x i child.place at child.placed in
    let earlier = child.earlier in
    let b = block_at t is x p parent in
    cases (λ g above mark. to_head t is most p g child.above k above child.placed_above (omega arith) mark) (one_mark t.above x b.0 k b.1 has) b.2
  where
    cases : ((g : ℕ) → Parent t.parents p g → Mark t.above p k → ToHead t k p g) → {l : ℕ} → l ≡ k → Hangs t.bonds t.places t.parents t.heads t.firsts t.above x p l → ToHead t k x p
    cases next {l} e (inl (head, is_first, none)) = record {
      head = x;
      first = p;
      at = subst (λ (m : ℕ). slice_get t.heads m ≡ Some (made x)) e head;
      parent = parent;
      near = inl (inl (refl, refl));
    }
    cases next {l} e (inr (r, mark)) =
        let mark_k = subst (λ (m : ℕ). Mark t.above p m) e mark in
        let g = parent_of t is p k mark_k in
        let rest = next g.0 g.1 mark_k in
        let grand = is.forest.found.parent p g.0 g.1 in
        let joined = joined_back t.bonds g.0 p grand.joined in
        let ends = joined_ends t.atoms t.bonds p g.0 is.forest.fit joined in
        let top = is.forest.found.parent rest.head rest.first rest.parent in
        record {
          head = rest.head;
          first = rest.first;
          at = rest.at;
          parent = rest.parent;
          near = near_trans t.bonds x p p g.0 rest.head rest.first ends.different joined (joined_back t.bonds rest.first rest.head top.joined) (tree_near t is x p g.0 parent g.1 r) rest.near;
        }

lower_to_head : (t : Tree) → IsTree t → (u v k : ℕ) → are_joined t.bonds u v ≡ true → LowerEnd t.places t.above u v k → ToHead t k u v
lower_to_head t is u v k joined lower =
    let up = later_up t.bonds t.atoms t.order t.places t.parents t.roots is.forest u v joined (lower.first, lower.second, lower.at_first, lower.at_second, lower.later) in
    let step = up.1 in
    let parent = step.1 in
    let h = to_head t is (suc lower.second) v step.0 lower.second k parent lower.at_second (omega arith) lower.has in
    let child = is.forest.found.parent v step.0 parent in
    let joined_v = joined_back t.bonds step.0 v child.joined in
    let ends = joined_ends t.atoms t.bonds v step.0 is.forest.fit joined_v in
    let top = is.forest.found.parent h.head h.first h.parent in
    record {
      head = h.head;
      first = h.first;
      at = h.at;
      parent = h.parent;
      near = near_trans t.bonds u v v step.0 h.head h.first ends.different joined_v (joined_back t.bonds h.first h.head top.joined)
          (inr (climb_ring (rooted t) (is_rooted t is) (suc up.0) v u v step.0 up.1 (climb_next (rooted t) (is_rooted t is) 0 (suc up.0) v v step.0 u lower.second lower.first up.1 refl parent lower.at_second lower.at_first lower.later))) h.near;
    }

near_turned : (bonds : List Bond) (u v x y : ℕ) → Near bonds u v x y → Near bonds v u x y
near_turned bonds u v x y (inl (inl (e, h))) = inl (inr (h, e))
near_turned bonds u v x y (inl (inr (e, h))) = inl (inl (h, e))
near_turned bonds u v x y (inr ring) = inr (ring_turned bonds u v x y ring)

pair_to_head : (t : Tree) → IsTree t → (u v k : ℕ) → are_joined t.bonds u v ≡ true → BlockOf t.places t.above u v k → ToHead t k u v
pair_to_head t is u v k joined (inl lower) = lower_to_head t is u v k joined lower
pair_to_head t is u v k joined (inr lower) =
    let h = lower_to_head t is v u k (joined_back t.bonds u v joined) lower in
    record { head = h.head; first = h.first; at = h.at; parent = h.parent; near = near_turned t.bonds v u h.head h.first h.near }

pub block_near : (t : Tree) → IsTree t → (u v x y k : ℕ) → are_joined t.bonds u v ≡ true → are_joined t.bonds x y ≡ true → BlockOf t.places t.above u v k → BlockOf t.places t.above x y k
    → Near t.bonds u v x y
block_near t is u v x y k joined joined_x block block_x =
    let a = pair_to_head t is u v k joined block in
    let b = pair_to_head t is x y k joined_x block_x in
    let head_is : b.head ≡ a.head = ap (λ (m : AtomId). m.0) (same_Some (made b.head) (made a.head) (sym b.at ∙ a.at)) in
    let first_is : b.first ≡ a.first = one_parent t.parents a.head b.first a.first (subst (λ (m : ℕ). Parent t.parents m b.first) head_is b.parent) a.parent in
    let near : Near t.bonds x y a.head a.first = subst (λ (m : ℕ). Near t.bonds x y a.head m) first_is (subst (λ (m : ℕ). Near t.bonds x y m b.first) head_is b.near) in
    let top = is.forest.found.parent a.head a.first a.parent in
    let joined_top = joined_back t.bonds a.first a.head top.joined in
    let ends = joined_ends t.atoms t.bonds a.head a.first is.forest.fit joined_top in
    near_trans t.bonds u v a.head a.first x y ends.different joined_top joined_x a.near (near_back t.bonds x y a.head a.first joined_x near)

pub share_of : (bonds : List Bond) (b c : Bond) → are_joined bonds b.first.0 b.second.0 ≡ true → (¬ SamePair b.first.0 b.second.0 c.first.0 c.second.0)
    → Near bonds b.first.0 b.second.0 c.first.0 c.second.0 → ShareClosedPath bonds b c
share_of bonds b c joined other (inl same) = absurd (other same)
share_of bonds b c joined other (inr ring) =
    let by = closed_by bonds b.first.0 b.second.0 c.first.0 c.second.0 joined other ring in
    record { path = by.path; closed_path = by.closed; first = by.first; second = by.second }

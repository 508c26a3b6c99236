-- The way up a depth-first forest is a path.
use Rattle.std.proofs.Common.{List, Option, [], arith, inl, inr, refl, subst, suc, sym, true, zero, ℕ, ◌<◌, ◌∙◌, ◌∷◌, ◌≡◌, ◌≤◌}
use Rattle.mc_base.specs.declared.ids.AtomId.{AtomId}
use Rattle.mc_mol.proofs.LeastPlaces.{one_mark}
use Rattle.mc_mol.proofs.Neighbours.{joined_back}
use Rattle.mc_mol.proofs.Roots.{one_parent}
use Rattle.mc_mol.specs.Forests.{IsAbove, IsForest, IsLater, Parent, Up}
use Rattle.mc_mol.specs.Molecule.{are_joined}
use Rattle.mc_mol.specs.Numbered.{Mark}
use Rattle.mc_mol.specs.Paths.{Chain, Distinct, HeadIs, In, LastIs, Next, RingBy}
use Rattle.mc_mol.specs.declared.parts.Bond.{Bond}

-- a depth-first forest with the bonds that it is of
pub record Rooted : Type 0 where
  pub bonds : List Bond
  pub atoms : ℕ
  pub order : List AtomId
  pub places : List (Option ℕ)
  pub parents : List (Option AtomId)
  pub roots : List AtomId

pub record IsRooted (t : Rooted) : Type 0 where
  pub forest : IsForest t.bonds t.atoms t.order t.places t.parents t.roots

-- the later of two joined atoms goes up to the other one, and has a parent
pub later_up : (bonds : List Bond) (n : ℕ) (order : List AtomId) (places : List (Option ℕ)) (parents : List (Option AtomId)) (roots : List AtomId) → IsForest bonds n order places parents roots
    → (u v : ℕ) → are_joined bonds u v ≡ true → IsLater places u v → (k : ℕ) × (Up parents (suc k) v u)
later_up bonds n order places parents roots is u v joined (i, j, at_u, at_v, less) = cases (is.found.related u v i j at_u at_v less joined)
  where
    cases : IsAbove parents u v → (k : ℕ) × (Up parents (suc k) v u)
    cases (zero, same) = absurd (let e = one_mark places u i j at_u (subst (λ (m : ℕ). Mark places m j) same at_v) in omega arith)
    cases (suc k, up) = (k, up)

-- ancestors are found earlier
pub up_earlier : (t : Rooted) → IsRooted t → (m x a i j : ℕ) → Up t.parents (suc m) x a → Mark t.places x i → Mark t.places a j → j < i
up_earlier t is zero x a i j (p, parent, same) at_x at_a =
    let child = is.forest.found.parent x p parent in
    let e = one_mark t.places x i child.place at_x child.placed in
    let f = one_mark t.places p child.above j child.placed_above (subst (λ (k : ℕ). Mark t.places k j) (sym same) at_a) in
    let less = child.earlier in
    omega arith
up_earlier t is (suc m) x a i j (p, parent, up) at_x at_a =
    let child = is.forest.found.parent x p parent in
    let e = one_mark t.places x i child.place at_x child.placed in
    let rest = up_earlier t is m p a child.above j up child.placed_above at_a in
    let less = child.earlier in
    omega arith

-- the atoms on the way up
abbrev climb : (parents : List (Option AtomId)) (k w a : ℕ) → Up parents k w a → List ℕ
climb parents zero w a up = w ∷ []
climb parents (suc k) w a (p, parent, up) = w ∷ climb parents k p a up

climb_head : (parents : List (Option AtomId)) (k w a : ℕ) (up : Up parents k w a) → HeadIs (climb parents k w a up) w
climb_head parents zero w a up = refl
climb_head parents (suc k) w a (p, parent, up) = refl

last_cons : (xs : List ℕ) (x u : ℕ) → LastIs xs u → LastIs (x ∷ xs) u
last_cons [] x u h = absurd h
last_cons (y ∷ ys) x u h = h

climb_last : (parents : List (Option AtomId)) (k w a : ℕ) (up : Up parents k w a) → LastIs (climb parents k w a up) a
climb_last parents zero w a up = up
climb_last parents (suc k) w a (p, parent, up) = last_cons (climb parents k p a up) w a (climb_last parents k p a up)

one_head : (xs : List ℕ) (u v : ℕ) → HeadIs xs u → HeadIs xs v → u ≡ v
one_head [] u v h g = absurd h
one_head (x ∷ xs) u v h g = sym h ∙ g

climb_chain : (t : Rooted) → IsRooted t → (k w a : ℕ) (up : Up t.parents k w a) → Chain t.bonds (climb t.parents k w a up)
climb_chain t is zero w a up = ((λ y h. absurd h), tt)
climb_chain t is (suc k) w a (p, parent, up) = (
  (λ y h. subst (λ (m : ℕ). are_joined t.bonds w m ≡ true) (one_head (climb t.parents k p a up) p y (climb_head t.parents k p a up) h) (joined_back t.bonds p w (is.forest.found.parent w p parent).joined)),
  climb_chain t is k p a up,
)

climb_in : (t : Rooted) → IsRooted t → (k w a i z : ℕ) (up : Up t.parents k w a) → Mark t.places w i → In z (climb t.parents k w a up) → (j : ℕ) × (Mark t.places z j) × (j ≤ i)
climb_in t is zero w a i z up at (inl e) = (i, subst (λ (m : ℕ). Mark t.places m i) (sym e) at, omega arith)
climb_in t is zero w a i z up at (inr h) = absurd h
climb_in t is (suc k) w a i z (p, parent, up) at (inl e) = (i, subst (λ (m : ℕ). Mark t.places m i) (sym e) at, omega arith)
climb_in t is (suc k) w a i z (p, parent, up) at (inr h) =
    let child = is.forest.found.parent w p parent in
    let rest = climb_in t is k p a child.above z up child.placed_above h in
    let e = one_mark t.places w i child.place at child.placed in
    let less = child.earlier in
    let most = rest.2 in
    (rest.0, rest.1, omega arith)

climb_distinct : (t : Rooted) → IsRooted t → (k w a : ℕ) (up : Up t.parents k w a) → Distinct (climb t.parents k w a up)
climb_distinct t is zero w a up = ((λ h. h), tt)
climb_distinct t is (suc k) w a (p, parent, up) = (
  (λ h.
      let child = is.forest.found.parent w p parent in
      let found = climb_in t is k p a child.above w up child.placed_above h in
      let e = one_mark t.places w found.0 child.place found.1 child.placed in
      let less = child.earlier in
      let most = found.2 in
      omega arith),
  climb_distinct t is k p a up,
)

-- a bond of the tree is on the way up
pub climb_next : (t : Rooted) → IsRooted t → (i k w x p a j l : ℕ) (up : Up t.parents k w a) → Up t.parents i w x → Parent t.parents x p → Mark t.places x j → Mark t.places a l → l < j
    → Next (climb t.parents k w a up) x p
climb_next t is zero zero w x p a j l up way parent at_x at_a less =
    absurd (let e = one_mark t.places a j l (subst (λ (m : ℕ). Mark t.places m j) (sym way ∙ up) at_x) at_a in omega arith)
climb_next t is zero (suc k) w x p a j l (q, parent_q, up) way parent at_x at_a less =
    inl (way, subst (λ (m : ℕ). HeadIs (climb t.parents k q a up) m) (one_parent t.parents w q p parent_q (subst (λ (m : ℕ). Parent t.parents m p) (sym way) parent)) (climb_head t.parents k q a up))
climb_next t is (suc i) zero w x p a j l up way parent at_x at_a less =
    absurd (let e = up_earlier t is i w x l j way (subst (λ (m : ℕ). Mark t.places m l) (sym up) at_a) at_x in omega arith)
climb_next t is (suc i) (suc k) w x p a j l (q, parent_q, up) (r, parent_r, way) parent at_x at_a less =
    inr (climb_next t is i k q x p a j l up (subst (λ (m : ℕ). Up t.parents i m x) (one_parent t.parents w r q parent_r parent_q) way) parent at_x at_a less)

pub climb_ring : (t : Rooted) → IsRooted t → (k w a x p : ℕ) (up : Up t.parents k w a) → Next (climb t.parents k w a up) x p → RingBy t.bonds a w x p
climb_ring t is k w a x p up next = record {
  path = climb t.parents k w a up;
  is = record { chain = climb_chain t is k w a up; distinct = climb_distinct t is k w a up; head = climb_head t.parents k w a up; last = climb_last t.parents k w a up };
  uses = inl next;
}

pub up_most : (t : Rooted) → IsRooted t → (k w x i j : ℕ) → Up t.parents k w x → Mark t.places w i → Mark t.places x j → j ≤ i
up_most t is zero w x i j same at_w at_x = let e = one_mark t.places x i j (subst (λ (m : ℕ). Mark t.places m i) same at_w) at_x in omega arith
up_most t is (suc k) w x i j up at_w at_x = let h = up_earlier t is k w x i j up at_w at_x in omega arith

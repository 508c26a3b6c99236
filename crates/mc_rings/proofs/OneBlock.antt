-- All bonds of a closed path belong to one block.
use Rattle.std.proofs.Common.{List, [], ap, arith, inl, inr, refl, subst, suc, sym, true, zero, ℕ, ◌++◌, ◌<◌, ◌∙◌, ◌∷◌, ◌≡◌, ◌≢◌, ◌⊎◌}
use Rattle.std.proofs.lemmas.List.{append_assoc}
use Rattle.std.proofs.lemmas.Bool.{cases_eq, cases_lt}
use Rattle.mc_mol.proofs.Climbs.{later_up}
use Rattle.mc_mol.proofs.LeastPlaces.{one_mark}
use Rattle.mc_mol.proofs.Neighbours.{joined_back, joined_ends}
use Rattle.mc_mol.proofs.Paths.{chain_right, chain_seam, distinct_apart, distinct_join, distinct_left, distinct_right, in_cases, in_turned, last_put, last_right, path_turned, turned}
use Rattle.mc_mol.proofs.Roots.{same_listed}
use Rattle.mc_mol.specs.Forests.{IsLater}
use Rattle.mc_mol.specs.Molecule.{are_joined}
use Rattle.mc_mol.specs.Numbered.{Mark}
use Rattle.mc_mol.specs.Paths.{Chain, Distinct, HeadIs, In, LastIs, Next, OpenPath}
use Rattle.mc_rings.proofs.BlockEnds.{block_at, block_ends, earlier_first, lower_end, one_first, placed_of}
use Rattle.mc_rings.specs.Blocks.{BlockOf, IsEnd, IsFirst, IsTree, LowerEnd, Tree}

pub swapped : (t : Tree) (u v k : ℕ) → BlockOf t.places t.above u v k → BlockOf t.places t.above v u k
swapped t u v k (inl lower) = inr lower
swapped t u v k (inr lower) = inl lower

-- each pair of joined atoms has one block
later_of : (t : Tree) → IsTree t → (u v : ℕ) → are_joined t.bonds u v ≡ true → IsLater t.places u v ⊎ IsLater t.places v u
later_of t is u v joined =
    let ends = joined_ends t.atoms t.bonds u v is.forest.fit joined in
    let i = is.forest.all u ends.first in
    let j = is.forest.all v ends.second in
    elim (cases_lt i.0 j.0) [
      | inl less ↦ inl (i.0, j.0, i.1, j.1, less)
      | inr more ↦ elim (cases_eq i.0 j.0) [
        | inl same ↦ absurd (ends.different (same_listed t.bonds t.atoms t.order t.places t.parents t.roots is.forest.found u v i.0 j.0 i.1 j.1 same))
        | inr other ↦ inr (j.0, i.0, j.1, i.1, omega arith)
      ]
    ]

lower_of : (t : Tree) → IsTree t → (u v : ℕ) → are_joined t.bonds u v ≡ true → IsLater t.places u v → (k : ℕ) × (LowerEnd t.places t.above u v k)
lower_of t is u v joined later =
    let up = later_up t.bonds t.atoms t.order t.places t.parents t.roots is.forest u v joined later in
    let step = up.1 in
    let b = block_at t is v step.0 step.1 in
    (b.0, lower_end t.places t.above u v b.0 later b.1)

pub block_of : (t : Tree) → IsTree t → (u v : ℕ) → are_joined t.bonds u v ≡ true → (k : ℕ) × (BlockOf t.places t.above u v k)
block_of t is u v joined = cases (later_of t is u v joined)
  where
    cases : IsLater t.places u v ⊎ IsLater t.places v u → (k : ℕ) × (BlockOf t.places t.above u v k)
    cases (inl later) = let l = lower_of t is u v joined later in (l.0, inl l.1)
    cases (inr later) = let l = lower_of t is v u (joined_back t.bonds u v joined) later in (l.0, inr l.1)

not_both : (t : Tree) (u v k l : ℕ) → LowerEnd t.places t.above u v k → LowerEnd t.places t.above v u l → ⊥
not_both t u v k l a b =
    let e = one_mark t.places u a.first b.second a.at_first b.at_second in
    let f = one_mark t.places v a.second b.first a.at_second b.at_first in
    let g = a.later in
    let h = b.later in
    omega arith

pub one_block : (t : Tree) (u v k l : ℕ) → BlockOf t.places t.above u v k → BlockOf t.places t.above u v l → k ≡ l
one_block t u v k l (inl a) (inl b) = one_mark t.above v k l a.has b.has
one_block t u v k l (inr a) (inr b) = one_mark t.above u k l a.has b.has
one_block t u v k l (inl a) (inr b) = absurd (not_both t u v k l a b)
one_block t u v k l (inr a) (inl b) = absurd (not_both t v u k l a b)

-- block e hangs from block k
abbrev Under : Tree → ℕ → ℕ → ℕ → Type 0
Under t zero k e = e ≡ k
Under t (suc n) k e = (a : ℕ) × (j : ℕ) × (IsFirst t e a) × (Mark t.above a j) × (Under t n k j)

-- the atom's block hangs from block k
abbrev Below : Tree → ℕ → ℕ → Type 0
Below t k x = (e : ℕ) × (n : ℕ) × (Mark t.above x e) × (Under t n k e)

below_later : (t : Tree) → IsTree t → (x i k : ℕ) → IsFirst t k x → Mark t.places x i → (n e w j : ℕ) → Under t n k e → Mark t.above w e → Mark t.places w j → i < j
below_later t is x i k first at_x zero e w j same has at_w = earlier_first t is w j x i k at_w at_x first (subst (λ (m : ℕ). Mark t.above w m) same has)
below_later t is x i k first at_x (suc n) e w j (a, b, is_first, mark, under) has at_w =
    let at_a = placed_of t is a b mark in
    let rest = below_later t is x i k first at_x n b a at_a.0 under mark at_a.1 in
    let less = earlier_first t is w j a at_a.0 e at_w at_a.1 is_first has in
    omega arith

not_below : (t : Tree) → IsTree t → (x k n e : ℕ) → IsFirst t k x → Under t n k e → Mark t.above x e → ⊥
not_below t is x k n e first under has = let at = placed_of t is x e has in let less = below_later t is x at.0 k first at.1 n e x at.0 under has at.1 in omega arith

-- a bond leads from an atom below to one below, or to the block's first atom
below_step : (t : Tree) → IsTree t → (x k u v : ℕ) → IsFirst t k x → are_joined t.bonds u v ≡ true → v ≢ x → Below t k u → Below t k v
below_step t is x k u v first joined other (f, n, has, under) =
    let b = block_of t is u v joined in
    let ends = block_ends t is u v b.0 joined b.1 in
    cases b.0 ends.0 ends.1
  where
    at_first : (e : ℕ) → e ≡ f → (m : ℕ) → Under t m k f → IsFirst t e v → Below t k v
    at_first e same zero up is_first = absurd (other (one_first t k v x (subst (λ (i : ℕ). IsFirst t i v) (same ∙ up) is_first) first))
    at_first e same (suc m) (a, j, first_a, mark, up) is_first =
        let a_is : a ≡ v = one_first t f a v first_a (subst (λ (i : ℕ). IsFirst t i v) same is_first) in
        (j, m, subst (λ (i : ℕ). Mark t.above i j) a_is mark, up)

    from_u : (e : ℕ) → e ≡ f → IsEnd t e v → Below t k v
    from_u e same (inr mark) = (e, n, mark, subst (λ (i : ℕ). Under t n k i) (sym same) under)
    from_u e same (inl is_first) = at_first e same n under is_first

    cases : (e : ℕ) → IsEnd t e u → IsEnd t e v → Below t k v
    cases e (inr mark) end_v = from_u e (one_mark t.above u e f mark has) end_v
    cases e (inl first_u) (inr mark) = (e, suc n, mark, (u, f, first_u, has, under))
    cases e (inl first_u) (inl first_v) = absurd ((joined_ends t.atoms t.bonds u v is.forest.fit joined).different (one_first t e u v first_u first_v))

below_walk : (t : Tree) → IsTree t → (x k : ℕ) → IsFirst t k x → (path : List ℕ) → Chain t.bonds path → (¬ In x path) → (z y : ℕ) → HeadIs path z → LastIs path y → Below t k z → Below t k y
below_walk t is x k first [] chain not_in z y head last below = absurd head
below_walk t is x k first (a ∷ []) chain not_in z y head last below = subst (λ (m : ℕ). Below t k m) (sym head ∙ last) below
below_walk t is x k first (a ∷ b ∷ path) (step, chain) not_in z y head last below =
    below_walk t is x k first (b ∷ path) chain (λ h. not_in (inr h)) b y refl last
    (below_step t is x k a b first (step b refl) (λ same. not_in (inr (inl (sym same)))) (subst (λ (m : ℕ). Below t k m) (sym head) below))

-- Two bonds at an atom, joined by a path that doesn't pass it.
corner_first : (t : Tree) → IsTree t → (x z y k l : ℕ) (path : List ℕ) → IsFirst t k x → are_joined t.bonds x z ≡ true → are_joined t.bonds y x ≡ true → BlockOf t.places t.above x z k
    → BlockOf t.places t.above y x l → Chain t.bonds path → (¬ In x path) → HeadIs path z → LastIs path y → k ≡ l
corner_first t is x z y k l path first joined_z joined_y block_z block_y chain not_in head last =
    let ends_z = block_ends t is x z k joined_z block_z in
    let ends_y = block_ends t is y x l joined_y block_y in
    let below = below_walk t is x k first path chain not_in z y head last (begins ends_z.1) in
    meets below.0 below.1 below.2 below.3 ends_y.0 ends_y.1
  where
    begins : IsEnd t k z → Below t k z
    begins (inl first_z) = absurd ((joined_ends t.atoms t.bonds x z is.forest.fit joined_z).different (one_first t k x z first first_z))
    begins (inr mark) = (k, 0, mark, refl)

    up_to : (n : ℕ) → Under t n k l → IsEnd t l x → k ≡ l
    up_to zero under end_x = sym under
    up_to (suc n) under (inr mark) = absurd (not_below t is x k (suc n) l first under mark)
    up_to (suc n) (a, j, first_a, mark, under) (inl first_x) =
        absurd (not_below t is x k n j first under (subst (λ (i : ℕ). Mark t.above i j) (one_first t l a x first_a first_x) mark))

    meets : (e n : ℕ) → Mark t.above y e → Under t n k e → IsEnd t l y → IsEnd t l x → k ≡ l
    meets e n has under (inr mark) end_x = up_to n (subst (λ (i : ℕ). Under t n k i) (one_mark t.above y e l has mark) under) end_x
    meets e n has under (inl first_y) (inr mark) = absurd (not_below t is x k (suc n) l first (y, e, first_y, has, under) mark)
    meets e n has under (inl first_y) (inl first_x) = absurd ((joined_ends t.atoms t.bonds y x is.forest.fit joined_y).different (one_first t l y x first_y first_x))

corner : (t : Tree) → IsTree t → (x z y k l : ℕ) (path : List ℕ) → are_joined t.bonds x z ≡ true → are_joined t.bonds y x ≡ true → BlockOf t.places t.above x z k
    → BlockOf t.places t.above y x l → OpenPath t.bonds path z y → (¬ In x path) → k ≡ l
corner t is x z y k l path joined_z joined_y block_z block_y open_path not_in = cases (block_ends t is x z k joined_z block_z).0 (block_ends t is y x l joined_y block_y).1
  where
    cases : IsEnd t k x → IsEnd t l x → k ≡ l
    cases (inl first) end_l = corner_first t is x z y k l path first joined_z joined_y block_z block_y open_path.chain not_in open_path.head open_path.last
    cases (inr mark) (inr mark_l) = one_mark t.above x k l mark mark_l
    cases (inr mark) (inl first) =
        let back = path_turned t.bonds path z y open_path in
        sym (corner_first t is x y z l k (turned path) first (joined_back t.bonds y x joined_y) (joined_back t.bonds x z joined_z) (swapped t y x l block_y) (swapped t x z k block_z)
        back.chain (λ h. not_in (in_turned x path h)) back.head back.last)

-- what stands before an atom on a closed path
abbrev Before : List ℕ → ℕ → ℕ → Type 0
Before [] last y = y ≡ last
Before (a ∷ before) last y = LastIs (a ∷ before) y

around : (t : Tree) (before : List ℕ) (x z : ℕ) (rest : List ℕ) (head last y : ℕ) → OpenPath t.bonds (before ++ x ∷ z ∷ rest) head last → are_joined t.bonds last head ≡ true → Before before last y
    → OpenPath t.bonds ((z ∷ rest) ++ before) z y × (¬ In x ((z ∷ rest) ++ before))
around t before x z rest head last y is joined prior = (record { chain = chain before is prior; distinct = distinct; head = refl; last = ends before is prior }, not_in)
  where
    tail : Distinct (x ∷ z ∷ rest)
    tail = distinct_right before (x ∷ z ∷ rest) is.distinct

    last_is : (before : List ℕ) → LastIs (before ++ x ∷ z ∷ rest) last → LastIs (z ∷ rest) last
    last_is before h = last_right before x (z ∷ rest) last h

    chain : (before : List ℕ) → OpenPath t.bonds (before ++ x ∷ z ∷ rest) head last → Before before last y → Chain t.bonds ((z ∷ rest) ++ before)
    chain [] is prior = let c = is.chain in subst (λ (l : List ℕ). Chain t.bonds l) (sym (append_nil (z ∷ rest))) c.1
      where
        append_nil : (xs : List ℕ) → xs ++ [] ≡ xs
        append_nil [] = refl
        append_nil (x ∷ xs) = ap (λ (l : List ℕ). x ∷ l) (append_nil xs)
    chain (a ∷ before) is prior =
        chain_seam t.bonds (z ∷ rest) (a ∷ before) last head (chain_right t.bonds (x ∷ []) (z ∷ rest) (chain_right t.bonds (a ∷ before) (x ∷ z ∷ rest) is.chain))
        (front (a ∷ before) (x ∷ z ∷ rest) is.chain) (last_is (a ∷ before) is.last) is.head joined
      where
        front : (xs ys : List ℕ) → Chain t.bonds (xs ++ ys) → Chain t.bonds xs
        front [] ys c = tt
        front (b ∷ []) ys (step, c) = ((λ w h. absurd h), tt)
        front (b ∷ d ∷ xs) ys (step, c) = (step, front (d ∷ xs) ys c)

    ends : (before : List ℕ) → OpenPath t.bonds (before ++ x ∷ z ∷ rest) head last → Before before last y → LastIs ((z ∷ rest) ++ before) y
    ends [] is prior = subst (λ (l : List ℕ). LastIs l y) (sym (append_nil (z ∷ rest))) (subst (λ (m : ℕ). LastIs (z ∷ rest) m) (sym prior) (last_is [] is.last))
      where
        append_nil : (xs : List ℕ) → xs ++ [] ≡ xs
        append_nil [] = refl
        append_nil (x ∷ xs) = ap (λ (l : List ℕ). x ∷ l) (append_nil xs)
    ends (a ∷ before) is prior = last_put (z ∷ rest) a before y prior

    distinct : Distinct ((z ∷ rest) ++ before)
    distinct = distinct_join (z ∷ rest) before (tail.1) (distinct_left before (x ∷ z ∷ rest) is.distinct) (λ w in_rest in_before. distinct_apart before (x ∷ z ∷ rest) is.distinct w in_before (inr in_rest))

    not_in : In x ((z ∷ rest) ++ before) → ⊥
    not_in h = elim (in_cases x (z ∷ rest) before h) [ inl left ↦ tail.0 left | inr right ↦ distinct_apart before (x ∷ z ∷ rest) is.distinct x right (inl refl) ]

-- along a closed path, from an atom x on, all bonds have the block of the bond before x
along : (t : Tree) → IsTree t → (head last : ℕ) → are_joined t.bonds last head ≡ true → (rest before : List ℕ) (x y k : ℕ) → OpenPath t.bonds (before ++ x ∷ rest) head last → Before before last y
    → are_joined t.bonds y x ≡ true → BlockOf t.places t.above y x k → (f g l : ℕ) → Next (x ∷ rest) f g → BlockOf t.places t.above f g l → k ≡ l
along t is head last joined [] before x y k path prior step block f g l next block_l = not_next next
  where
    not_next : Next (x ∷ []) f g → k ≡ l
    not_next (inl h) = absurd h.1
    not_next (inr h) = absurd h
along t is head last joined (z ∷ rest) before x y k path prior step block f g l next block_l =
    cases (λ h. along t is head last joined rest (before ++ x ∷ []) z x k (subst (λ (m : List ℕ). OpenPath t.bonds m head last) (sym (append_assoc before (x ∷ []) (z ∷ rest))) path) (prior_x before)
    joined_z here f g l h block_l) next
  where
    joined_z : are_joined t.bonds x z ≡ true
    joined_z = let c = chain_right t.bonds before (x ∷ z ∷ rest) path.chain in c.0 z refl

    here : BlockOf t.places t.above x z k
    here =
        let b = block_of t is x z joined_z in
        let way = around t before x z rest head last y path joined prior in
        subst (λ (m : ℕ). BlockOf t.places t.above x z m) (corner t is x z y b.0 k ((z ∷ rest) ++ before) joined_z step b.1 block way.0 way.1) b.1

    prior_x : (before : List ℕ) → Before (before ++ x ∷ []) last x
    prior_x [] = refl
    prior_x (a ∷ before) = last_put (a ∷ before) x [] x refl

    cases : (Next (z ∷ rest) f g → k ≡ l) → Next (x ∷ z ∷ rest) f g → k ≡ l
    cases later (inl (x_is, z_is)) =
        one_block t f g k l (subst (λ (m : ℕ). BlockOf t.places t.above m g k) x_is (subst (λ (m : ℕ). BlockOf t.places t.above x m k) z_is here)) block_l
    cases later (inr h) = later h

pub closed_one : (t : Tree) → IsTree t → (path : List ℕ) (head last k : ℕ) → OpenPath t.bonds path head last → are_joined t.bonds last head ≡ true → BlockOf t.places t.above last head k
    → (f g l : ℕ) → Next path f g → BlockOf t.places t.above f g l → k ≡ l
closed_one t is [] head last k path joined block f g l next block_l = absurd next
closed_one t is (x ∷ rest) head last k path joined block f g l next block_l =
    along t is head last joined rest [] x last k path refl (subst (λ (m : ℕ). are_joined t.bonds last m ≡ true) (sym path.head) joined)
    (subst (λ (m : ℕ). BlockOf t.places t.above last m k) (sym path.head) block) f g l next block_l

-- Taking the latest cycle from the stack.
use Rattle.std.proofs.Common.{drop-cons, ◌-◌, ◌≡◌, ℕ, zero, suc, ◌+◌, ◌≤◌, ◌<◌, List, [], ◌∷◌, length, get_or, drop, take, false, refl, ap, sym, ◌∙◌, inl, inr, arith, subst}
use Rattle.std.specs.Prelude.{cond, ◌⊎◌}
use Rattle.std.specs.List.{All}
use Rattle.std.proofs.lemmas.List.{drop-drop, length-drop, length-take-le}
use Rattle.std.proofs.lemmas.Bool.{cases_Bool}
use Rattle.match_barrier.specs.Graph.{has}
use Rattle.match_barrier.specs.Barrier.{is_odd}
use Rattle.match_barrier.proofs.Edges.{has_at, has_rest}
use Rattle.match_blossom.specs.Labels.{at}
use Rattle.match_blossom.specs.Pointers.{Falls, Points, Leads, release}
use Rattle.match_blossom.specs.Stack.{foldings_of, folding_of, Fits}
use Rattle.match_blossom.specs.Foldings.{IsMatchingBut, IsCycle, Folding, Foldings, part_of, folded, Unfolds, IsUnfolding}
use Rattle.match_blossom.specs.declared.cycles.Cycles.{Cycles}
use Rattle.match_blossom.specs.Forest.{stacked}
use Rattle.match_blossom.proofs.Contracted.{by_member, by_other, leads_same, leads_points}
use Rattle.match_blossom.proofs.Lifted.{unfolding_more}

-- The latest cycle, and the stack without it.
pub record Latest (sizes nodes : List ℕ) (height top size : ℕ) (cycle : List ℕ) : Type 0 where
  pub is : foldings_of (drop height sizes) (drop top nodes) ≡ folding_of cycle ∷ foldings_of (drop (height + 1) sizes) (drop (top + size) nodes)
  pub some : 0 < size
  pub within : top + size ≤ length nodes
  pub long : length cycle ≡ size
  pub fits : Fits (drop (height + 1) sizes) (drop (top + size) nodes)

pub latest : (sizes nodes : List ℕ) (height top size : ℕ) → height < length sizes → top ≤ length nodes → size ≡ get_or sizes height 0 → Fits (drop height sizes) (drop top nodes) → Latest sizes nodes height top size (take size (drop top nodes))
latest sizes nodes height top size less low size_is fits =
    let e : drop height sizes ≡ size ∷ drop (height + 1) sizes = drop-cons sizes height 0 less ∙ ap (λ (x : ℕ). x ∷ drop (suc height) sizes) (sym size_is) ∙ ap (λ (k : ℕ). size ∷ drop k sizes) (let n : suc height ≡ height + 1 = omega arith in n) in
    let f : Fits (size ∷ drop (height + 1) sizes) (drop top nodes) = subst (λ (xs : List ℕ). Fits xs (drop top nodes)) e fits in
    let d : drop size (drop top nodes) ≡ drop (top + size) nodes = drop-drop size top nodes in
    let long = length-drop top nodes in
    let f1 = f.1 in
    record {
      is = ap (λ (xs : List ℕ). foldings_of xs (drop top nodes)) e ∙ ap (λ (xs : List ℕ). folding_of (take size (drop top nodes)) ∷ foldings_of (drop (height + 1) sizes) xs) d;
      some = f.0;
      within = omega arith;
      long = length-take-le size (drop top nodes) f1;
      fits = subst (λ (xs : List ℕ). Fits (drop (height + 1) sizes) xs) d f.2;
    }

-- Releasing the others of the latest cycle.
pub falls_release : (pointers pointers' order others : List ℕ) → Falls pointers order → ((u : ℕ) → at pointers' u ≡ cond (has others u) u (at pointers u)) → length pointers' ≡ length pointers → Falls pointers' order
falls_release pointers pointers' order others f new same = record {
  below = λ u within. elim (cases_Bool (has others u)) [
    | inl h ↦ let e : at pointers' u ≡ u = new u ∙ by_member (has others u) u (at pointers u) h in omega arith
    | inr h ↦ let e : at pointers' u ≡ at pointers u = new u ∙ by_other (has others u) u (at pointers u) h in let low = f.below u (omega arith) in omega arith
  ];
  lower = λ u within away. elim (cases_Bool (has others u)) [
    | inl h ↦ absurd (away (new u ∙ by_member (has others u) u (at pointers u) h))
    | inr h ↦
        let e : at pointers' u ≡ at pointers u = new u ∙ by_other (has others u) u (at pointers u) h in
        let k : at order (at pointers' u) ≡ at order (at pointers u) = ap (at order) e in
        let low = f.lower u (omega arith) (λ q. away (e ∙ q)) in omega arith
  ];
}

pub base_release : (pointers pointers' before : ℕ → ℕ) (others : List ℕ) → ((u : ℕ) → pointers' u ≡ cond (has others u) u (pointers u)) → ((u : ℕ) → (pointers u ≡ before u) ⊎ (pointers u ≡ u)) → (u : ℕ) → (pointers' u ≡ before u) ⊎ (pointers' u ≡ u)
base_release pointers pointers' before others new old u = elim (cases_Bool (has others u)) [
  | inl h ↦ inr (new u ∙ by_member (has others u) u (pointers u) h)
  | inr h ↦ elim (old u) [ inl e ↦ inl (new u ∙ by_other (has others u) u (pointers u) h ∙ e) | inr e ↦ inr (new u ∙ by_other (has others u) u (pointers u) h ∙ e) ]
]

-- what is known when the latest cycle has been released
pub record Released (g : List (List ℕ)) (before : List ℕ) (all : List Folding) (mates pointers' cycle : List ℕ) (earlier : List Folding) : Type 0 where
  pub points : Points pointers' (part_of earlier)
  pub leads : Leads (length pointers') (at pointers') earlier
  pub is : IsCycle g (part_of earlier) (get_or cycle 0 0) (drop 1 cycle)
  pub even : is_odd (length (drop 1 cycle)) ≡ false
  pub matching : IsMatchingBut g (folded (part_of earlier) (get_or cycle 0 0) (drop 1 cycle)) mates []

pub released : (g : List (List ℕ)) (before : List ℕ) (all left : List Folding) (mates pointers pointers' cycle : List ℕ) (earlier : List Folding) → IsUnfolding g before all mates left → left ≡ folding_of cycle ∷ earlier
    → Leads (length pointers) (at pointers) left → ((u : ℕ) → at pointers' u ≡ cond (has (drop 1 cycle) u) u (at pointers u)) → length pointers' ≡ length pointers
    → Released g before all mates pointers' cycle earlier
released g before all left mates pointers pointers' cycle earlier u e l new same =
    let u' : IsUnfolding g before all mates (folding_of cycle ∷ earlier) = subst (λ (fs : List Folding). IsUnfolding g before all mates fs) e u in
    let l' : Leads (length pointers) (at pointers) (folding_of cycle ∷ earlier) = subst (λ (fs : List Folding). Leads (length pointers) (at pointers) fs) e l in
    let lead : Leads (length pointers') (at pointers') earlier = subst (λ (n : ℕ). Leads n (at pointers') earlier) (sym same)
    (leads_same (length pointers) (release (drop 1 cycle) (at pointers)) (at pointers') earlier (λ x less. sym (new x)) l'.1) in
    record {
      points = leads_points g (length pointers') (at pointers') earlier u'.folded.2 lead;
      leads = lead;
      is = u'.folded.0;
      even = u'.folded.1;
      matching = u'.matching;
    }

pub lifted_one : (g : List (List ℕ)) (before : List ℕ) (all left : List Folding) (mates after cycle : List ℕ) (earlier : List Folding) → IsUnfolding g before all mates left → left ≡ folding_of cycle ∷ earlier
    → Unfolds g (part_of earlier) (get_or cycle 0 0) (drop 1 cycle) mates after → IsUnfolding g before all after earlier
lifted_one g before all left mates after cycle earlier u e h =
    unfolding_more g before mates after all (folding_of cycle) earlier (subst (λ (fs : List Folding). IsUnfolding g before all mates fs) e u) h

take_nothing : (j : ℕ) → take {A = ℕ} j [] ≡ []
take_nothing zero = refl
take_nothing (suc j) = refl

-- the nodes of a part but the first
pub others_slice : (nodes : List ℕ) (top size : ℕ) → 0 < size → take (top + size - (top + 1)) (drop (top + 1) nodes) ≡ drop 1 (take size (drop top nodes))
others_slice nodes top size some =
    let k : top + size - (top + 1) ≡ size - 1 = omega arith in
    ap (λ (j : ℕ). take j (drop (top + 1) nodes)) k ∙ ap (λ (xs : List ℕ). take (size - 1) xs) (sym (drop-drop 1 top nodes)) ∙ by (drop top nodes) size some
  where
    by : (xs : List ℕ) (n : ℕ) → 0 < n → take (n - 1) (drop 1 xs) ≡ drop 1 (take n xs)
    by xs zero h = absurd (omega arith)
    by [] (suc n) h = take_nothing (suc n - 1)
    by (x ∷ xs) (suc n) h = ap (λ (j : ℕ). take j xs) (let e : suc n - 1 ≡ n = omega arith in e)

pub others_below : (g : List (List ℕ)) (part : ℕ → ℕ) (base : ℕ) (others xs : List ℕ) (n : ℕ) → IsCycle g part base others → length g ≤ n → xs ≡ others → (k d : ℕ) → k < length xs → get_or xs k d < n
others_below g part base others xs n c le e k d less =
    let low = (c.living (get_or xs k d) (has_rest base others (get_or xs k d) (ap (λ (ys : List ℕ). has ys (get_or xs k d)) (sym e) ∙ has_at xs k d less))).0 in omega arith

-- The others of the latest cycle are nodes of the graph.
pub others_in_range : (g : List (List ℕ)) (before : List ℕ) (all : List Folding) (mates : List ℕ) (c : Cycles) (size : ℕ) (nodes : List ℕ) (n : ℕ) → c.height < length c.sizes.items → c.top ≤ length c.nodes.items → size ≡ get_or c.sizes.items c.height 0
    → Fits (drop c.height c.sizes.items) (drop c.top c.nodes.items) → IsUnfolding g before all mates (stacked c) → length g ≤ n → nodes ≡ c.nodes.items
    → All (λ v. v < n) (take (c.top + size - (c.top + 1)) (drop (c.top + 1) nodes))
others_in_range g before all mates c size nodes n less low size_is fits u le same =
    let la = latest c.sizes.items c.nodes.items c.height c.top size less low size_is fits in
    let cycle : List ℕ = take size (drop c.top c.nodes.items) in
    let earlier : List Folding = foldings_of (drop (c.height + 1) c.sizes.items) (drop (c.top + size) c.nodes.items) in
    let fold : Foldings g (folding_of cycle ∷ earlier) = subst (λ (fs : List Folding). Foldings g fs) la.is u.folded in
    others_below g (part_of earlier) (get_or cycle 0 0) (drop 1 cycle) (take (c.top + size - (c.top + 1)) (drop (c.top + 1) nodes)) n fold.0 le
    (ap (λ (xs : List ℕ). take (c.top + size - (c.top + 1)) (drop (c.top + 1) xs)) same ∙ others_slice c.nodes.items c.top size la.some)

-- What is known of a stack when the others of its latest cycle have been released.
pub record LatestReleased (g : List (List ℕ)) (before : List ℕ) (all : List Folding) (mates pointers pointers' order : List ℕ) (c : Cycles) (size : ℕ) : Type 0 where
  pub some : 0 < size
  pub within : c.top + size ≤ length c.nodes.items
  pub earlier : List Folding
  pub is : stacked c ≡ folding_of (take size (drop c.top c.nodes.items)) ∷ earlier
  pub left : foldings_of (drop (c.height + 1) c.sizes.items) (drop (c.top + size) c.nodes.items) ≡ earlier
  pub fits : Fits (drop (c.height + 1) c.sizes.items) (drop (c.top + size) c.nodes.items)
  pub new : (u : ℕ) → at pointers' u ≡ cond (has (drop 1 (take size (drop c.top c.nodes.items))) u) u (at pointers u)
  pub falls : Falls pointers' order
  pub released : Released g before all mates pointers' (take size (drop c.top c.nodes.items)) earlier

pub latest_released : (g : List (List ℕ)) (before : List ℕ) (all : List Folding) (mates pointers pointers' order : List ℕ) (c : Cycles) (size : ℕ) (nodes : List ℕ) → c.height < length c.sizes.items → c.top ≤ length c.nodes.items
    → size ≡ get_or c.sizes.items c.height 0 → Fits (drop c.height c.sizes.items) (drop c.top c.nodes.items) → IsUnfolding g before all mates (stacked c) → Falls pointers order → Leads (length pointers) (at pointers) (stacked c)
    → nodes ≡ c.nodes.items → ((u : ℕ) → at pointers' u ≡ cond (has (take (c.top + size - (c.top + 1)) (drop (c.top + 1) nodes)) u) u (at pointers u)) → length pointers' ≡ length pointers
    → LatestReleased g before all mates pointers pointers' order c size
latest_released g before all mates pointers pointers' order c size nodes less low size_is fits u falls leads same release_is long =
    let la = latest c.sizes.items c.nodes.items c.height c.top size less low size_is fits in
    let cycle : List ℕ = take size (drop c.top c.nodes.items) in
    let earlier : List Folding = foldings_of (drop (c.height + 1) c.sizes.items) (drop (c.top + size) c.nodes.items) in
    let others : take (c.top + size - (c.top + 1)) (drop (c.top + 1) nodes) ≡ drop 1 cycle = ap (λ (xs : List ℕ). take (c.top + size - (c.top + 1)) (drop (c.top + 1) xs)) same ∙ others_slice c.nodes.items c.top size la.some in
    let new : (x : ℕ) → at pointers' x ≡ cond (has (drop 1 cycle) x) x (at pointers x) = subst (λ (xs : List ℕ). (x : ℕ) → at pointers' x ≡ cond (has xs x) x (at pointers x)) others release_is in
    record {
      some = la.some;
      within = la.within;
      earlier = earlier;
      is = la.is;
      left = refl;
      fits = la.fits;
      new = new;
      falls = falls_release pointers pointers' order (drop 1 cycle) falls new long;
      released = released g before all (stacked c) mates pointers pointers' cycle earlier u la.is leads new long;
    }

-- the latest cycle as a part of a list
pub cycle_slice : (nodes old : List ℕ) (top size : ℕ) → nodes ≡ old → take (top + size - top) (drop top nodes) ≡ take size (drop top old)
cycle_slice nodes old top size same =
    let place : top + size - top ≡ size = omega arith in
    ap (λ (k : ℕ). take k (drop top nodes)) place ∙ ap (λ (xs : List ℕ). take size (drop top xs)) same

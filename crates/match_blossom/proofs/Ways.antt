-- Ways up the tree on the stack of cycles.
use Rattle.std.proofs.Common.{take, set, ◌-◌, ◌≡◌, ◌≢◌, ℕ, zero, suc, ◌+◌, ◌≤◌, ◌<◌, List, [], ◌∷◌, ◌++◌, length, get_or, drop, reverse, Bool, true, refl, ap, sym, ◌∙◌, inl, inr, arith, subst}
use Rattle.std.specs.Prelude.{◌⊎◌}
use Rattle.std.proofs.Math.Seq.{drop-append-add}
use Rattle.std.proofs.lemmas.List.{take_at, append_assoc, reverse-append, reverse-reverse, length-reverse, length-append, length-set, drop-drop}
use Rattle.match_barrier.specs.Graph.{has, IsGraph}
use Rattle.match_barrier.proofs.Edges.{has_front}
use Rattle.match_blossom.specs.declared.tree.AlternatingTree.{AlternatingTree}
use Rattle.match_blossom.specs.Labels.{at, is_outer, is_inner}
use Rattle.match_blossom.specs.Search.{Tree}
use Rattle.match_blossom.specs.Climbing.{Climb}
use Rattle.match_blossom.specs.Pointers.{Points, Leads}
use Rattle.match_blossom.specs.Stack.{foldings_of, Fits}
use Rattle.match_blossom.specs.Foldings.{Folding, part_of}
use Rattle.match_blossom.specs.Forest.{IsForest, IsSearch, IsQueue, HasRoom, IsPushing, TreeClimb, stacked, base_in}
use Rattle.match_blossom.proofs.Contracted.{drop_set_suc}
use Rattle.match_blossom.specs.declared.cycles.Cycles.{Cycles}
use Rattle.match_blossom.proofs.Climbing.{on_the_way}

-- A way that has not ended goes on from a to its mate.
pub record GoesUp (mates : List ℕ) (part parent : ℕ → ℕ) (outer inner : ℕ → Bool) (order : ℕ → ℕ) (a : ℕ) (way : List ℕ) (base : ℕ) : Type 0 where
  pub rest : List ℕ
  pub is : way ≡ a ∷ get_or mates a 0 ∷ rest
  pub outer_here : outer a ≡ true
  pub inner_mate : inner (get_or mates a 0) ≡ true
  pub above : Climb mates part parent outer inner order (part (parent (get_or mates a 0))) rest base

pub goes_up : (mates : List ℕ) (part parent : ℕ → ℕ) (outer inner : ℕ → Bool) (order : ℕ → ℕ) (a : ℕ) (way : List ℕ) (base : ℕ) → Climb mates part parent outer inner order a way base → a ≢ base → GoesUp mates part parent outer inner order a way base
goes_up mates part parent outer inner order a [] base c ne = absurd (ne c)
goes_up mates part parent outer inner order a (x ∷ []) base c ne = absurd c
goes_up mates part parent outer inner order a (x ∷ w ∷ xs) base c ne = record {
  rest = xs;
  is = ap (λ (z : ℕ). z ∷ w ∷ xs) c.0 ∙ ap (λ (z : ℕ). a ∷ z ∷ xs) c.1;
  outer_here = c.2;
  inner_mate = ap inner (sym c.1) ∙ c.3;
  above = subst (λ (z : ℕ). Climb mates part parent outer inner order (part (parent z)) xs base) c.1 c.4;
}

-- No way leads from a node up to the node itself.
pub ended : (g : List (List ℕ)) (mates : List ℕ) (root : ℕ) (part : ℕ → ℕ) (outer inner : ℕ → Bool) (parent order : ℕ → ℕ) → Tree g mates root part outer inner parent order
    → (a : ℕ) (way : List ℕ) (base : ℕ) → Climb mates part parent outer inner order a way base → a ≡ base → way ≡ []
ended g mates root part outer inner parent order t a [] base c e = refl
ended g mates root part outer inner parent order t a (x ∷ []) base c e = absurd c
ended g mates root part outer inner parent order t a (x ∷ w ∷ xs) base c e =
    let r = (on_the_way g mates root part outer inner parent order t a (x ∷ w ∷ xs) base c x (has_front x (w ∷ xs) x refl)).behind in
    let k : order x ≡ order base = ap order (c.0 ∙ e) in absurd (omega arith)

pub one_way : (g : List (List ℕ)) (mates : List ℕ) (root : ℕ) (part : ℕ → ℕ) (outer inner : ℕ → Bool) (parent order : ℕ → ℕ) → Tree g mates root part outer inner parent order
    → (a : ℕ) (xs ys : List ℕ) (base : ℕ) → Climb mates part parent outer inner order a xs base → Climb mates part parent outer inner order a ys base → xs ≡ ys
one_way g mates root part outer inner parent order t a [] ys base c d = sym (ended g mates root part outer inner parent order t a ys base d c)
one_way g mates root part outer inner parent order t a (x ∷ []) ys base c d = absurd c
one_way g mates root part outer inner parent order t a (x ∷ w ∷ xs) [] base c d = ended g mates root part outer inner parent order t a (x ∷ w ∷ xs) base c d
one_way g mates root part outer inner parent order t a (x ∷ w ∷ xs) (y ∷ []) base c d = absurd d
one_way g mates root part outer inner parent order t a (x ∷ w ∷ xs) (y ∷ z ∷ ys) base c d =
    let e : w ≡ z = c.1 ∙ sym d.1 in
    let rest : xs ≡ ys = one_way g mates root part outer inner parent order t (part (parent w)) xs ys base c.4 (subst (λ (q : ℕ). Climb mates part parent outer inner order (part (parent q)) ys base) (sym e) d.4) in
    ap (λ (q : ℕ). q ∷ w ∷ xs) (c.0 ∙ sym d.0) ∙ ap (λ (q : ℕ). y ∷ q ∷ xs) e ∙ ap (λ (qs : List ℕ). y ∷ z ∷ qs) rest

-- what the code needs on its way
pub record MayPush (g : List (List ℕ)) (mates : List ℕ) (f : AlternatingTree) (x top : ℕ) : Type 0 where
  pub below : x < length g
  pub mate_below : get_or mates x 0 < length g
  pub parent_below : at f.parent.items (get_or mates x 0) < length g
  pub room : 1 < top

pub may_push : (g : List (List ℕ)) (mates : List ℕ) (f : AlternatingTree) (bottom top : ℕ) (old new : List ℕ) (from x base : ℕ) → IsGraph g → IsForest g mates f → IsPushing mates f bottom top old new from x base → x ≢ base → MayPush g mates f x top
may_push g mates f bottom top old new from x base is s p ne =
    let t = s.search.tree in
    let up = goes_up mates (base_in f) (at f.parent.items) (is_outer f.labels.items) (is_inner f.labels.items) (at f.blossoms.order.items) x p.left base p.way ne in
    let w : ℕ = get_or mates x 0 in
    let long : length p.left ≡ suc (suc (length up.rest)) = ap (λ (xs : List ℕ). length xs) up.is in
    let room = p.room in
    record {
      below = (t.outer_living x up.outer_here).0;
      mate_below = (t.inner_living w up.inner_mate).0;
      parent_below = is.in_range w (at f.parent.items w) (t.parent_edge w up.inner_mate);
      room = omega arith;
    }

two_before : (xs : List ℕ) (top x w : ℕ) → 1 < top → top ≤ length xs → drop (top - 2) (set (set xs (top - 1) x) (top - 2) w) ≡ w ∷ x ∷ drop top xs
two_before xs (suc (suc k)) x w more less =
    let a : suc (suc k) - 1 ≡ suc k = omega arith in
    let b : suc (suc k) - 2 ≡ k = omega arith in
    let one = length-set xs (suc k) x in
    rw (a, b) (drop_set_suc (set xs (suc k) x) k w (omega arith) ∙ ap (λ (ys : List ℕ). w ∷ ys) (drop_set_suc xs (suc k) x (omega arith)))
two_before xs (suc zero) x w more less = absurd (omega arith)
two_before xs zero x w more less = absurd (omega arith)

pub pushing_more : (mates : List ℕ) (f : AlternatingTree) (bottom top : ℕ) (old new : List ℕ) (from x base : ℕ) → IsPushing mates f bottom top old new from x base → x ≢ base → top ≤ length new
    → IsPushing mates f bottom (top - 2) old (set (set new (top - 1) x) (top - 2) (get_or mates x 0)) from (base_in f (at f.parent.items (get_or mates x 0))) base
pushing_more mates f bottom top old new from x base p ne less =
    let up = goes_up mates (base_in f) (at f.parent.items) (is_outer f.labels.items) (is_inner f.labels.items) (at f.blossoms.order.items) x p.left base p.way ne in
    let w : ℕ = get_or mates x 0 in
    let two : List ℕ = x ∷ w ∷ [] in
    let long : length p.left ≡ suc (suc (length up.rest)) = ap (λ (xs : List ℕ). length xs) up.is in
    let room = p.room in
    let top_is = p.top_is in
    let more = length-append p.done two in
    record {
      done = p.done ++ two;
      left = up.rest;
      whole = subst (λ (xs : List ℕ). TreeClimb mates f from xs base) (ap (λ (xs : List ℕ). p.done ++ xs) up.is ∙ sym (append_assoc p.done two up.rest)) p.whole;
      way = up.above;
      pushed = two_before new top x w (omega arith) less ∙ ap (λ (xs : List ℕ). w ∷ x ∷ xs) p.pushed
          ∙ ap (λ (xs : List ℕ). xs ++ drop bottom old) (sym (reverse-append p.done two));
      top_is = omega arith;
      room = omega arith;
    }

-- The stack is the same where only what stands before its top has been written.
pub top_kept : (old new way : List ℕ) (bottom top end : ℕ) → drop top new ≡ way ++ drop bottom old → top + length way ≡ bottom → bottom ≤ end → drop end new ≡ drop end old
top_kept old new way bottom top end e top_is le =
    let a : end ≡ top + (length way + (end - bottom)) = omega arith in
    let b : bottom + (end - bottom) ≡ end = omega arith in
    ap (λ (k : ℕ). drop k new) a ∙ sym (drop-drop (length way + (end - bottom)) top new) ∙ ap (λ (xs : List ℕ). drop (length way + (end - bottom)) xs) e
    ∙ drop-append-add way (drop bottom old) (end - bottom) ∙ drop-drop (end - bottom) bottom old ∙ ap (λ (k : ℕ). drop k old) b

pub forest_same : (g : List (List ℕ)) (mates : List ℕ) (f t : AlternatingTree) → IsForest g mates f → t ≡ record f { cycles = record f.cycles { nodes = t.cycles.nodes } }
    → drop f.cycles.top t.cycles.nodes.items ≡ drop f.cycles.top f.cycles.nodes.items → length t.cycles.nodes.items ≡ length f.cycles.nodes.items → IsForest g mates t × (stacked t.cycles ≡ stacked f.cycles)
forest_same g mates f t s same kept long =
    subst (λ (x : AlternatingTree). IsForest g mates x × (stacked x.cycles ≡ stacked f.cycles)) (sym same) (forest, stack)
  where
    f' : AlternatingTree
    f' = record f { cycles = record f.cycles { nodes = t.cycles.nodes } }

    stack : stacked f'.cycles ≡ stacked f.cycles
    stack = ap (λ (xs : List ℕ). foldings_of (drop f.cycles.height f.cycles.sizes.items) xs) kept

    forest : IsForest g mates f'
    forest = record {
      search = subst (λ (fs : List Folding). IsSearch g mates f.root f.labels.items f.parent.items f.blossoms.order.items f.now fs) (sym stack) s.search;
      falls = s.falls;
      points = subst (λ (fs : List Folding). Points f.blossoms.base.items (part_of fs)) (sym stack) s.points;
      cycle_falls = s.cycle_falls;
      leads = subst (λ (fs : List Folding). Leads (length f.blossoms.cycle_base.items) (at f.blossoms.cycle_base.items) fs) (sym stack) s.leads;
      base_length = s.base_length;
      cycle_length = s.cycle_length;
      fits = subst (λ (xs : List ℕ). Fits (drop f.cycles.height f.cycles.sizes.items) xs) (sym kept) s.fits;
      queue = subst (λ (fs : List Folding). IsQueue g f.labels.items (part_of fs) f.queue.items f.queued) (sym stack) s.queue;
      touched = s.touched;
      cycle_touched = s.cycle_touched;
      room = room;
    }
      where
        room : HasRoom (length g) (part_of (stacked f'.cycles)) f'
        room =
            let r = subst (λ (fs : List Folding). HasRoom (length g) (part_of fs) f) (sym stack) s.room in
            let low = r.top_below in
            record { touched = r.touched; queue = r.queue; queued = r.queued; top = r.top; top_below = omega arith; height = r.height; height_below = r.height_below }

-- Only the nodes of the stack have been written, twice.
pub written_twice : (f t : AlternatingTree) (c : Cycles) → t ≡ record f { cycles = record f.cycles { nodes = t.cycles.nodes } } → c ≡ record t.cycles { nodes = c.nodes }
    → record t { cycles = c } ≡ record f { cycles = record f.cycles { nodes = c.nodes } }
written_twice f t c one two = ap (λ (x : Cycles). record t { cycles = x }) two ∙ ap (λ (x : AlternatingTree). record x { cycles = record x.cycles { nodes = c.nodes } }) one

-- A way that has been written is turned round.
pub turned_way : (old new turned' way : List ℕ) (bottom top : ℕ) → drop top new ≡ reverse way ++ drop bottom old → top + length way ≡ bottom → drop top turned' ≡ reverse (take (bottom - top) (drop top new)) ++ drop bottom new
    → drop top turned' ≡ way ++ drop bottom old
turned_way old new turned' way bottom top e top_is turned_is =
    let long : length (reverse way) ≡ length way = length-reverse way in
    let k : bottom - top ≡ length (reverse way) = omega arith in
    turned_is
    ∙ ap (λ (xs : List ℕ). reverse (take (bottom - top) (drop top new)) ++ xs) (top_kept old new (reverse way) bottom top bottom e (omega arith) (omega arith))
    ∙ ap (λ (xs : List ℕ). reverse xs ++ drop bottom old) (ap (λ (j : ℕ). take j (drop top new)) k ∙ ap (λ (xs : List ℕ). take (length (reverse way)) xs) e ∙ take_at (reverse way) (drop bottom old) (length (reverse way)) refl ∙ refl)
    ∙ ap (λ (xs : List ℕ). xs ++ drop bottom old) (reverse-reverse way)

-- the first of a way
pub way_begins : (mates : List ℕ) (part parent : ℕ → ℕ) (outer inner : ℕ → Bool) (order : ℕ → ℕ) (a : ℕ) (way : List ℕ) (base : ℕ) → Climb mates part parent outer inner order a way base → (a ≡ base) ⊎ (has way a ≡ true)
way_begins mates part parent outer inner order a [] base c = inl c
way_begins mates part parent outer inner order a (x ∷ []) base c = absurd c
way_begins mates part parent outer inner order a (x ∷ w ∷ xs) base c = inr (has_front x (w ∷ xs) a c.0)

-- A way of a tree is one of another whose stack holds the same.
pub climb_same : (mates : List ℕ) (f t : AlternatingTree) (a : ℕ) (way : List ℕ) (x : ℕ) → t ≡ record f { cycles = t.cycles } → stacked t.cycles ≡ stacked f.cycles → TreeClimb mates f a way x → TreeClimb mates t a way x
climb_same mates f t a way x same stack climb = subst (λ (y : AlternatingTree). TreeClimb mates y a way x) (sym same)
    (subst (λ (fs : List Folding). Climb mates (part_of fs) (at f.parent.items) (is_outer f.labels.items) (is_inner f.labels.items) (at f.blossoms.order.items) a way x) (sym stack) climb)

use Rattle.std.proofs.Common.{arith, refl, ap, sym, subst, ◌≡◌, ◌≤◌, ◌<◌, ◌∙◌, ◌+◌, ◌-◌, ◌∷◌, get_or, set, drop, take, length, length-set, true, ℕ, List}
use Rattle.std.specs.Prelude.{cond}
use Rattle.std.specs.Vec.{with_items}
use Rattle.std.proofs.lemmas.List.{with_items_is, length-take-le, length-drop}
use Rattle.match_barrier.specs.Graph.{has}
use Rattle.match_blossom.specs.declared.tree.Label.{Label}
use Rattle.match_blossom.specs.declared.tree.Label.TheVariants.{Outside}
use Rattle.match_blossom.specs.Labels.{at, is_inner}
use Rattle.match_blossom.specs.Forest.{StandsIn}
use Rattle.match_blossom.proofs.Contracted.{drop_set}
use Rattle.match_blossom.proofs.contracting.absorb.Goals as goal

pub returns : goal.returns
returns c =
    let nodes : List ℕ = c.args.tree.now.cycles.nodes.items in
    let k : ℕ = c.args.tree.now.cycles.top - c.args.from in
    let others : List ℕ = take k (drop c.args.from nodes) in
    let value = c.as_slice.ensures.value in
    let q = c.queue_inner-tree in
    let pointers : (u : ℕ) → get_or c.point_to.new.pointers u 0 ≡ cond (has others u) c.args.base (get_or c.args.tree.now.blossoms.base.items u 0) =
    subst (λ (xs : List ℕ). (u : ℕ) → get_or c.point_to.new.pointers u 0 ≡ cond (has (take k (drop c.args.from xs)) u) c.args.base (get_or c.args.tree.now.blossoms.base.items u 0)) value
    (subst (λ (bs : List ℕ). (u : ℕ) → get_or c.point_to.new.pointers u 0 ≡ cond (has (take k (drop c.args.from c.as_slice.result.now)) u) c.args.base (get_or bs u 0)) c.as_mut_slice.ensures.value c.point_to.ensures.pointers) in
    let cycle_pointers : (u : ℕ) → get_or c.point_to-2.new.pointers u 0 ≡ cond (has others u) c.args.base (get_or c.args.tree.now.blossoms.cycle_base.items u 0) =
    subst (λ (xs : List ℕ). (u : ℕ) → get_or c.point_to-2.new.pointers u 0 ≡ cond (has (take k (drop c.args.from xs)) u) c.args.base (get_or c.args.tree.now.blossoms.cycle_base.items u 0)) value
    (subst (λ (bs : List ℕ). (u : ℕ) → get_or c.point_to-2.new.pointers u 0 ≡ cond (has (take k (drop c.args.from c.as_slice.result.now)) u) c.args.base (get_or bs u 0)) c.as_mut_slice-2.ensures.value c.point_to-2.ensures.pointers) in
    let cleared : (u : ℕ) → get_or c.clear_labels.new.labels u Outside ≡ cond (has others u) Outside (get_or c.args.tree.now.labels.items u Outside) =
    subst (λ (xs : List ℕ). (u : ℕ) → get_or c.clear_labels.new.labels u Outside ≡ cond (has (take k (drop c.args.from xs)) u) Outside (get_or c.args.tree.now.labels.items u Outside)) value
    (subst (λ (ls : List Label). (u : ℕ) → get_or c.clear_labels.new.labels u Outside ≡ cond (has (take k (drop c.args.from c.as_slice.result.now)) u) Outside (get_or ls u Outside)) c.as_mut_slice-4.ensures.value c.clear_labels.ensures.cleared) in
    let queue' : List ℕ = q.new.queue in
    let kept : (j : ℕ) → j < c.args.tree.now.queued → get_or queue' j 0 ≡ get_or c.args.tree.now.queue.items j 0 = subst (λ (xs : List ℕ). (j : ℕ) → j < c.args.tree.now.queued → get_or queue' j 0 ≡ get_or xs j 0) c.as_mut_slice-3.ensures.value q.ensures.kept in
    let high : q.result ≤ c.args.tree.now.queued + length others = subst (λ (xs : List ℕ). q.result ≤ c.args.tree.now.queued + length (take k (drop c.args.from xs))) value q.ensures.high in
    let new : (j : ℕ) → c.args.tree.now.queued ≤ j → j < q.result → (has others (get_or queue' j 0) ≡ true) × (is_inner c.args.tree.now.labels.items (get_or queue' j 0) ≡ true) =
    subst (λ (xs : List ℕ). (j : ℕ) → c.args.tree.now.queued ≤ j → j < q.result → (has (take k (drop c.args.from xs)) (get_or queue' j 0) ≡ true) × (is_inner c.args.tree.now.labels.items (get_or queue' j 0) ≡ true)) value
    (subst (λ (ls : List Label). (j : ℕ) → c.args.tree.now.queued ≤ j → j < q.result → (has (take k (drop c.args.from c.as_slice.result.now)) (get_or queue' j 0) ≡ true) × (is_inner ls (get_or queue' j 0) ≡ true)) c.as_slice-2.ensures.value q.ensures.new) in
    let each : (u : ℕ) → has others u ≡ true → is_inner c.args.tree.now.labels.items u ≡ true → StandsIn queue' c.args.tree.now.queued q.result u =
    subst (λ (xs : List ℕ). (u : ℕ) → has (take k (drop c.args.from xs)) u ≡ true → is_inner c.args.tree.now.labels.items u ≡ true → StandsIn queue' c.args.tree.now.queued q.result u) value
    (subst (λ (ls : List Label). (u : ℕ) → has (take k (drop c.args.from c.as_slice.result.now)) u ≡ true → is_inner ls u ≡ true → StandsIn queue' c.args.tree.now.queued q.result u) c.as_slice-2.ensures.value q.ensures.each) in
    let base_long : length c.point_to.new.pointers ≡ length c.args.tree.now.blossoms.base.items = c.point_to.ensures.length ∙ ap (λ (xs : List ℕ). length xs) c.as_mut_slice.ensures.value in
    let cycle_long : length c.point_to-2.new.pointers ≡ length c.args.tree.now.blossoms.cycle_base.items = c.point_to-2.ensures.length ∙ ap (λ (xs : List ℕ). length xs) c.as_mut_slice-2.ensures.value in
    let labels_long : length c.clear_labels.new.labels ≡ length c.args.tree.now.labels.items = c.clear_labels.ensures.length ∙ ap (λ (xs : List Label). length xs) c.as_mut_slice-4.ensures.value in
    let queue_long : length queue' ≡ length c.args.tree.now.queue.items = q.ensures.length ∙ ap (λ (xs : List ℕ). length xs) c.as_mut_slice-3.ensures.value in
    let bi : (with_items c.args.tree.now.blossoms.base c.point_to.new.pointers).items ≡ c.point_to.new.pointers = with_items_is c.args.tree.now.blossoms.base c.point_to.new.pointers (base_long ∙ sym c.args.tree.now.blossoms.base.ok.0) in
    let ci : (with_items c.args.tree.now.blossoms.cycle_base c.point_to-2.new.pointers).items ≡ c.point_to-2.new.pointers = with_items_is c.args.tree.now.blossoms.cycle_base c.point_to-2.new.pointers (cycle_long ∙ sym c.args.tree.now.blossoms.cycle_base.ok.0) in
    let li : (with_items c.args.tree.now.labels c.clear_labels.new.labels).items ≡ c.clear_labels.new.labels = with_items_is c.args.tree.now.labels c.clear_labels.new.labels (labels_long ∙ sym c.args.tree.now.labels.ok.0) in
    let qi : (with_items c.args.tree.now.queue queue').items ≡ queue' = with_items_is c.args.tree.now.queue queue' (queue_long ∙ sym c.args.tree.now.queue.ok.0) in
    let below = c.requires.below in
    let top = c.requires.top in
    let some = c.requires.from in
    let height = c.requires.height in
    let d1 = length-drop c.args.from nodes in
    let size : length others ≡ k = length-take-le k (drop c.args.from nodes) (omega arith) in
    record {
      root = refl;
      now = refl;
      parent = refl;
      touched = refl;
      order = refl;
      pointers = λ u. ap (λ (xs : List ℕ). get_or xs u 0) bi ∙ pointers u;
      base_length = ap (λ (xs : List ℕ). length xs) bi ∙ base_long;
      cycle_pointers = λ u. ap (λ (xs : List ℕ). get_or xs u 0) ci ∙ cycle_pointers u;
      cycle_length = ap (λ (xs : List ℕ). length xs) ci ∙ cycle_long;
      cleared = λ u. ap (λ (ls : List Label). get_or ls u Outside) li ∙ cleared u;
      labels_length = ap (λ (ls : List Label). length ls) li ∙ labels_long;
      queue_length = ap (λ (xs : List ℕ). length xs) qi ∙ queue_long;
      queue = λ j less. ap (λ (xs : List ℕ). get_or xs j 0) qi ∙ kept j less;
      low = q.ensures.low;
      high = high;
      queued = subst (λ (xs : List ℕ). (j : ℕ) → c.args.tree.now.queued ≤ j → j < q.result → (has others (at xs j) ≡ true) × (is_inner c.args.tree.now.labels.items (at xs j) ≡ true)) (sym qi) new;
      each = subst (λ (xs : List ℕ). (u : ℕ) → has others u ≡ true → is_inner c.args.tree.now.labels.items u ≡ true → StandsIn xs c.args.tree.now.queued q.result u) (sym qi) each;
      nodes = drop_set nodes (c.args.from - 1) c.args.base (omega arith) ∙ ap (λ (j : ℕ). c.args.base ∷ drop j nodes) (let e : c.args.from - 1 + 1 ≡ c.args.from = omega arith in e);
      top = omega arith;
      nodes_length = length-set nodes (c.args.from - 1) c.args.base;
      height = omega arith;
      sizes = ap (λ (xs : List ℕ). set c.args.tree.now.cycles.sizes.items (c.args.tree.now.cycles.height - 1) (length (take k (drop c.args.from xs)) + 1)) value;
    }

use Rattle.std.proofs.Common.{arith, refl, sym, subst, set, length-set, length, drop, ℕ, List, [], ◌≡◌, ◌<◌}
use Rattle.match_barrier.proofs.Naming.{count_le}
use Rattle.match_blossom.specs.Labels.{at}
use Rattle.match_blossom.specs.declared.tree.Label.TheVariants.{Outer}
use Rattle.match_blossom.specs.Pointers.{Points, Leads}
use Rattle.match_blossom.specs.Stack.{Fits}
use Rattle.match_blossom.specs.Foldings.{Folding, part_of}
use Rattle.match_blossom.specs.Forest.{IsSearch, IsQueue, stacked, lives}
use Rattle.match_blossom.proofs.Steps.{search_begins}
use Rattle.match_blossom.proofs.Begins.{no_sizes, no_cycles, queue_begins, touched_begins}
use Rattle.match_blossom.proofs.tree.AlternatingTree.begin.Goals as goal

pub returns-clause-forest : goal.returns-clause-forest
returns-clause-forest c =
    let g : List (List ℕ) = c.args.graph.now in
    let k = c.requires.clean in
    let root : ℕ = c.args.root in
    let below = c.requires.below in
    let room = c.requires.room in
    let l1 = k.labels_length in
    let l2 = k.parent_length in
    let l3 = k.base_length in
    let l4 = k.order_length in
    let l9 = k.cycle_length in
    let l5 = k.touched_length in
    let l6 = k.queue_length in
    let l7 = k.nodes_length in
    let l8 = k.sizes_length in
    let top = k.top in
    let height = k.height in
    let full : c.args.self.now.cycles.height ≡ length c.args.self.now.cycles.sizes.items = omega arith in
    let empty : stacked c.args.self.now.cycles ≡ [] = no_cycles c.args.self.now.cycles full in
    let own : (u : ℕ) → u < length c.args.self.now.blossoms.base.items → at c.args.self.now.blossoms.base.items u ≡ u = λ u within. k.base u (omega arith) in
    let alone : (u : ℕ) → u < length c.args.self.now.blossoms.cycle_base.items → at c.args.self.now.blossoms.cycle_base.items u ≡ u = λ u within. k.cycle_base u (omega arith) in
    let few = count_le (length g) (lives (part_of (stacked c.args.self.now.cycles))) in
    let t1 = length-set c.args.self.now.touched.items 0 root in
    let q1 = length-set c.args.self.now.queue.items 0 root in
    record {
      search = subst (λ (fs : List Folding). IsSearch g c.args.mates.now root (set c.args.self.now.labels.items root Outer) c.args.self.now.parent.items (set c.args.self.now.blossoms.order.items root 0) 1 fs) (sym empty)
          (search_begins g c.args.mates.now root c.args.self.now.labels.items c.args.self.now.parent.items c.args.self.now.blossoms.order.items c.requires.matching c.requires.below c.requires.free (omega arith) (omega arith) (omega arith) k.labels);
      falls = record { below = λ u within. let e = own u within in omega arith; lower = λ u within away. absurd (away (own u within)) };
      points = subst (λ (fs : List Folding). Points c.args.self.now.blossoms.base.items (part_of fs)) (sym empty) (record { same = own; own = λ u within e. refl; living = λ u within e. own u within });
      cycle_falls = record { below = λ u within. let e = alone u within in omega arith; lower = λ u within away. absurd (away (alone u within)) };
      leads = subst (λ (fs : List Folding). Leads (length c.args.self.now.blossoms.cycle_base.items) (at c.args.self.now.blossoms.cycle_base.items) fs) (sym empty) alone;
      base_length = omega arith;
      cycle_length = omega arith;
      fits = subst (λ (xs : List ℕ). Fits xs (drop c.args.self.now.cycles.top c.args.self.now.cycles.nodes.items)) (sym (no_sizes c.args.self.now.cycles.sizes.items c.args.self.now.cycles.height full)) tt;
      queue = subst (λ (fs : List Folding). IsQueue g (set c.args.self.now.labels.items root Outer) (part_of fs) (set c.args.self.now.queue.items 0 root) 1) (sym empty)
          (queue_begins g c.args.self.now.labels.items root c.args.self.now.queue.items c.requires.below (omega arith) (omega arith) k.labels);
      touched = touched_begins c.args.self.now.labels.items root c.args.self.now.blossoms.base.items c.args.self.now.touched.items (omega arith) (omega arith) (omega arith) k.labels own;
      cycle_touched = touched_begins c.args.self.now.labels.items root c.args.self.now.blossoms.cycle_base.items c.args.self.now.touched.items (omega arith) (omega arith) (omega arith) k.labels alone;
      room = record { touched = omega arith; queue = omega arith; queued = omega arith; top = omega arith; top_below = omega arith; height = omega arith; height_below = omega arith };
    }

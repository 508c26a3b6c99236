use Rattle.std.proofs.Common.{arith, ap, sym, subst, ◌≡◌, ◌<◌, ◌∙◌, ◌+◌, [], get_or, drop, take, length, false, ℕ, List}
use Rattle.std.specs.Vec.{with_items}
use Rattle.std.proofs.lemmas.List.{with_items_is}
use Rattle.match_barrier.specs.Barrier.{is_odd}
use Rattle.match_blossom.specs.declared.cycles.Cycles.{Cycles}
use Rattle.match_blossom.specs.Labels.{at}
use Rattle.match_blossom.specs.Pointers.{Falls, Points, Leads}
use Rattle.match_blossom.specs.Stack.{foldings_of, Fits}
use Rattle.match_blossom.specs.Foldings.{Folding, IsCycle, IsMatchingBut, IsUnfolding, Unfolds, folded, part_of}
use Rattle.match_blossom.specs.Forest.{stacked, IsLiftable}
use Rattle.match_blossom.proofs.Scanning.{at_default}
use Rattle.match_blossom.proofs.Releasing.{others_in_range, latest_released, cycle_slice, base_release, lifted_one}
use Rattle.match_blossom.proofs.Noted.{latest_noted}
use Rattle.match_blossom.proofs.lifting.lift_all.Goals as goal

pub release-requires : goal.release-requires
release-requires c =
    let g = c.args.graph.now in
    let was = c.loop-cycles.invariant in
    let cy : Cycles = c.loop-cycles.cycles in
    let size : ℕ = c.index.result.now in
    let less : cy.height < length cy.sizes.items = (let t = c.loop-cycles-test.true in let e = c.len.ensures in omega arith) in
    let size_is : size ≡ get_or cy.sizes.items cy.height 0 = c.index.ensures ∙ at_default cy.sizes.items cy.height size 0 less in
    let long = c.requires.base_length in
    let same = was.base_length in
    others_in_range g c.args.mates.now (stacked c.args.cycles.now) c.loop-cycles.mates cy size c.as_slice.result.now (length c.loop-cycles.blossoms.cycle_base.items) less was.top size_is was.fits was.lifting (omega arith) c.as_slice.ensures.value

pub enter-entry-requires : goal.enter-entry-requires
enter-entry-requires c =
    let g = c.args.graph.now in
    let was = c.loop-cycles.invariant in
    let cy : Cycles = c.loop-cycles.cycles in
    let size : ℕ = c.index.result.now in
    let less : cy.height < length cy.sizes.items = (let t = c.loop-cycles-test.true in let e = c.len.ensures in omega arith) in
    let size_is : size ≡ get_or cy.sizes.items cy.height 0 = c.index.ensures ∙ at_default cy.sizes.items cy.height size 0 less in
    let rel = latest_released g c.args.mates.now (stacked c.args.cycles.now) c.loop-cycles.mates c.loop-cycles.blossoms.cycle_base.items c.release.new.self.cycle_base.items c.loop-cycles.blossoms.order.items cy size c.as_slice.result.now less was.top size_is was.fits was.lifting was.falls was.leads c.as_slice.ensures.value c.release.ensures.base c.release.ensures.length in
    let long = c.requires.base_length in
    let same = was.base_length in
    let within = rel.within in
    let some = rel.some in
    let base_is : c.index-in-loop-cycles.result.now ≡ get_or cy.nodes.items cy.top 0 = c.index-in-loop-cycles.ensures ∙ at_default cy.nodes.items cy.top c.index-in-loop-cycles.result.now 0 (omega arith) in
    latest_noted g c.args.mates.now (stacked c.args.cycles.now) c.loop-cycles.mates c.loop-cycles.blossoms.cycle_base.items c.release.new.self.cycle_base.items c.loop-cycles.blossoms.order.items c.loop-cycles.known.ends.node.items c.loop-cycles.known.ends.below.items cy size c.index-in-loop-cycles.result.now (omega arith) c.release.ensures.length base_is was.leads was.noted rel

pub lift_part-requires-clause-falls : goal.lift_part-requires-clause-falls
lift_part-requires-clause-falls c =
    let g = c.args.graph.now in
    let was = c.loop-cycles.invariant in
    let cy : Cycles = c.loop-cycles.cycles in
    let size : ℕ = c.index.result.now in
    let less : cy.height < length cy.sizes.items = (let t = c.loop-cycles-test.true in let e = c.len.ensures in omega arith) in
    let size_is : size ≡ get_or cy.sizes.items cy.height 0 = c.index.ensures ∙ at_default cy.sizes.items cy.height size 0 less in
    let rel = latest_released g c.args.mates.now (stacked c.args.cycles.now) c.loop-cycles.mates c.loop-cycles.blossoms.cycle_base.items c.release.new.self.cycle_base.items c.loop-cycles.blossoms.order.items cy size c.as_slice.result.now less was.top size_is was.fits was.lifting was.falls was.leads c.as_slice.ensures.value c.release.ensures.base c.release.ensures.length in
    subst (λ o. Falls c.release.new.self.cycle_base.items o.items) (sym c.release.ensures.order) rel.falls

pub lift_part-requires-clause-cycle : goal.lift_part-requires-clause-cycle
lift_part-requires-clause-cycle c =
    let g = c.args.graph.now in
    let was = c.loop-cycles.invariant in
    let cy : Cycles = c.loop-cycles.cycles in
    let size : ℕ = c.index.result.now in
    let less : cy.height < length cy.sizes.items = (let t = c.loop-cycles-test.true in let e = c.len.ensures in omega arith) in
    let size_is : size ≡ get_or cy.sizes.items cy.height 0 = c.index.ensures ∙ at_default cy.sizes.items cy.height size 0 less in
    let rel = latest_released g c.args.mates.now (stacked c.args.cycles.now) c.loop-cycles.mates c.loop-cycles.blossoms.cycle_base.items c.release.new.self.cycle_base.items c.loop-cycles.blossoms.order.items cy size c.as_slice.result.now less was.top size_is was.fits was.lifting was.falls was.leads c.as_slice.ensures.value c.release.ensures.base c.release.ensures.length in
    subst (λ (xs : List ℕ). IsLiftable g c.release.new.self.cycle_base.items xs c.loop-cycles.mates) (sym (cycle_slice c.as_mut_slice.result.now cy.nodes.items cy.top size c.as_mut_slice.ensures.value))
    (record { part = part_of rel.earlier; points = rel.released.points; is = rel.released.is; matching = rel.released.matching })

pub loop-cycles-preserved : goal.loop-cycles-preserved
loop-cycles-preserved c =
    let g = c.args.graph.now in
    let was = c.loop-cycles.invariant in
    let cy : Cycles = c.loop-cycles.cycles in
    let size : ℕ = c.index.result.now in
    let less : cy.height < length cy.sizes.items = (let t = c.loop-cycles-test.true in let e = c.len.ensures in omega arith) in
    let size_is : size ≡ get_or cy.sizes.items cy.height 0 = c.index.ensures ∙ at_default cy.sizes.items cy.height size 0 less in
    let rel = latest_released g c.args.mates.now (stacked c.args.cycles.now) c.loop-cycles.mates c.loop-cycles.blossoms.cycle_base.items c.release.new.self.cycle_base.items c.loop-cycles.blossoms.order.items cy size c.as_slice.result.now less was.top size_is was.fits was.lifting was.falls was.leads c.as_slice.ensures.value c.release.ensures.base c.release.ensures.length in
    let pointers : List ℕ = c.release.new.self.cycle_base.items in
    let mates : List ℕ = c.loop-cycles.mates in
    let after : List ℕ = c.lift_part.new.mates in
    let nodes : List ℕ = c.lift_part.new.nodes in
    let cycle : List ℕ = take size (drop cy.top cy.nodes.items) in
    let lifted = subst (λ (xs : List ℕ). (part : ℕ → ℕ) → Points pointers part → IsCycle g part (get_or xs 0 0) (drop 1 xs) → is_odd (length (drop 1 xs)) ≡ false → IsMatchingBut g (folded part (get_or xs 0 0) (drop 1 xs)) mates [] → Unfolds g part (get_or xs 0 0) (drop 1 xs) mates after)
    (cycle_slice c.as_mut_slice.result.now cy.nodes.items cy.top size c.as_mut_slice.ensures.value) c.lift_part.ensures.lifted in
    let h = rel.released in
    let one : IsUnfolding g c.args.mates.now (stacked c.args.cycles.now) after rel.earlier = lifted_one g c.args.mates.now (stacked c.args.cycles.now) (stacked cy) mates after cycle rel.earlier was.lifting rel.is (lifted (part_of rel.earlier) h.points h.is h.even h.matching) in
    let long : length nodes ≡ length cy.nodes.items = c.lift_part.ensures.length ∙ ap (λ (xs : List ℕ). length xs) c.as_mut_slice.ensures.value in
    let items : (with_items cy.nodes nodes).items ≡ nodes = with_items_is cy.nodes nodes (long ∙ sym cy.nodes.ok.0) in
    let behind : drop (cy.top + size) (with_items cy.nodes nodes).items ≡ drop (cy.top + size) cy.nodes.items = ap (λ (xs : List ℕ). drop (cy.top + size) xs) items ∙ c.lift_part.ensures.behind ∙ ap (λ (xs : List ℕ). drop (cy.top + size) xs) c.as_mut_slice.ensures.value in
    let items_long : length (with_items cy.nodes nodes).items ≡ length cy.nodes.items = ap (λ (xs : List ℕ). length xs) items ∙ long in
    let stack : foldings_of (drop (cy.height + 1) cy.sizes.items) (drop (cy.top + size) (with_items cy.nodes nodes).items) ≡ rel.earlier = ap (λ (xs : List ℕ). foldings_of (drop (cy.height + 1) cy.sizes.items) xs) behind ∙ rel.left in
    let within = rel.within in
    record {
      lifting = subst (λ (fs : List Folding). IsUnfolding g c.args.mates.now (stacked c.args.cycles.now) after fs) (sym stack) one;
      falls = subst (λ o. Falls pointers o.items) (sym c.release.ensures.order) rel.falls;
      leads = subst (λ (fs : List Folding). Leads (length pointers) (at pointers) fs) (sym stack) h.leads;
      noted = c.lift_part.ensures.noted;
      base = base_release (at c.loop-cycles.blossoms.cycle_base.items) (at pointers) (at c.args.blossoms.now.cycle_base.items) (drop 1 cycle) rel.new was.base;
      base_length = c.release.ensures.length ∙ was.base_length;
      order = c.release.ensures.order ∙ was.order;
      pointers = c.release.ensures.pointers ∙ was.pointers;
      nodes = items_long ∙ was.nodes;
      sizes = was.sizes;
      top = omega arith;
      height = omega arith;
      fits = subst (λ (xs : List ℕ). Fits (drop (cy.height + 1) cy.sizes.items) xs) (sym behind) rel.fits;
    }

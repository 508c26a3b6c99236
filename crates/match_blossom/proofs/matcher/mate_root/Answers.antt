use Rattle.std.proofs.Common.{subst, List, ℕ, length, take}
use Rattle.match_blossom.specs.declared.tree.Label.{Label}
use Rattle.match_blossom.specs.Inner.{ListsInner}
use Rattle.match_blossom.proofs.Scanning.{scanned_barrier}
use Rattle.match_blossom.proofs.matcher.mate_root.Goals as goal

pub returns-clause-some : goal.returns-clause-some
returns-clause-some c =
    let g = c.args.graph.now in
    let tree = c.search.new.tree in
    let set : List ℕ = take c.collect_inner-size.result c.collect_inner-size.new.set in
    let lists : ListsInner (take (length g) tree.labels.items) (length (take (length g) tree.labels.items)) set =
    subst (λ (n : ℕ). ListsInner (take n tree.labels.items) (length (take n tree.labels.items)) set) c.node_count-nodes.ensures.count
    (subst (λ (xs : List Label). ListsInner (take c.node_count-nodes.result xs) (length (take c.node_count-nodes.result xs)) set) c.as_slice.ensures.value c.collect_inner-size.ensures.lists) in
    (c.collect_inner-size.ensures.size, scanned_barrier g c.search.new.mates tree set c.node_count-nodes.ensures.graph c.if-search.ensures.found.1 c.if-search.ensures.found.2 lists)

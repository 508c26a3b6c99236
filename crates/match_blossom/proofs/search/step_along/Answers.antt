use Rattle.std.proofs.Common.{arith, refl, ap, sym, ◌≡◌, ◌<◌, ◌∙◌, inr, ℕ, length, get_or, true, false}
use Rattle.std.proofs.lemmas.List.{get_or_read}
use Rattle.match_blossom.specs.declared.tree.Label.TheVariants.{Outside}
use Rattle.match_blossom.specs.Labels.{says_outer, says_inner, is_outer, is_inner}
use Rattle.match_blossom.specs.Forest.{base_in}
use Rattle.match_blossom.proofs.Scanning.{no_step}
use Rattle.match_blossom.proofs.search.step_along.Goals as goal

pub index-requires : goal.index-requires
index-requires c =
    let forest = c.requires.forest in
    let g = c.args.graph.now in
    let below : c.args.v < length g = c.node_count-nodes.ensures.graph.in_range c.args.u c.args.v c.requires.edge in
    let part_below = forest.search.tree.part_below c.args.v below in
    let is : c.base_of-b.result ≡ base_in c.args.tree.now c.args.v = c.base_of-b.ensures.base (base_in c.args.tree.now) forest.points in
    let long = forest.search.labels_length in
    omega (arith, c.args.tree.now.labels.ok.0)

pub grow-requires-clause-matched : goal.grow-requires-clause-matched
grow-requires-clause-matched c =
    let forest = c.requires.forest in
    let g = c.args.graph.now in
    let b : ℕ = base_in c.args.tree.now c.args.v in
    let below : c.args.v < length g = c.node_count-nodes.ensures.graph.in_range c.args.u c.args.v c.requires.edge in
    let part_below : b < length g = forest.search.tree.part_below c.args.v below in
    let is : c.base_of-b.result ≡ b = c.base_of-b.ensures.base (base_in c.args.tree.now) forest.points in
    let long = forest.search.labels_length in
    let label : c.index.result.now ≡ get_or c.args.tree.now.labels.items c.base_of-b.result Outside = get_or_read c.args.tree.now.labels.items c.base_of-b.result c.index.result.now (omega arith) c.index.ensures Outside in
    let no_outer : is_outer c.args.tree.now.labels.items b ≡ false = ap (is_outer c.args.tree.now.labels.items) (sym is) ∙ ap says_outer (sym label ∙ c.in-Outside.is) in
    let own : b ≡ c.args.v = forest.search.tree.alone c.args.v below no_outer in
    (forest.search.tree.matching.mate c.args.v (below, own) refl (λ e. c.if-mates-v.false (e ∙ sym c.node_count-nodes.ensures.count))).0.0

pub returns-in-Inner-clause-step : goal.returns-in-Inner-clause-step
returns-in-Inner-clause-step c =
    let forest = c.requires.forest in
    let g = c.args.graph.now in
    let b : ℕ = base_in c.args.tree.now c.args.v in
    let below : c.args.v < length g = c.node_count-nodes.ensures.graph.in_range c.args.u c.args.v c.requires.edge in
    let part_below : b < length g = forest.search.tree.part_below c.args.v below in
    let is : c.base_of-b.result ≡ b = c.base_of-b.ensures.base (base_in c.args.tree.now) forest.points in
    let long = forest.search.labels_length in
    let label : c.index.result.now ≡ get_or c.args.tree.now.labels.items c.base_of-b.result Outside = get_or_read c.args.tree.now.labels.items c.base_of-b.result c.index.result.now (omega arith) c.index.ensures Outside in
    let inner : is_inner c.args.tree.now.labels.items b ≡ true = ap (is_inner c.args.tree.now.labels.items) (sym is) ∙ ap says_inner (sym label ∙ c.in-Inner.is) in
    (refl, no_step g c.args.mates.now c.args.tree.now c.args.u c.args.v forest (inr inner))

use Rattle.std.proofs.Common.{refl}
use Rattle.match_blossom.specs.declared.tree.AlternatingTree.{AlternatingTree}
use Rattle.match_blossom.specs.Shortened.{IsShortened}
use Rattle.match_blossom.proofs.Shortening.{halved_trans, forest_shortened, goes_on_shortened, step_on}
use Rattle.match_blossom.proofs.search.step.Goals as goal

pub step_along-requires-clause-forest : goal.step_along-requires-clause-forest
step_along-requires-clause-forest c =
    let old : AlternatingTree = c.args.tree.now in
    let mid : AlternatingTree = record old { blossoms = c.shorten-2.new.self } in
    let short : IsShortened old mid = record { rest = refl; halved = halved_trans old.blossoms c.shorten.new.self c.shorten-2.new.self c.shorten.ensures c.shorten-2.ensures } in
    forest_shortened c.args.graph.now c.args.mates.now old mid c.requires.forest short

pub step_along-requires-clause-outer : goal.step_along-requires-clause-outer
step_along-requires-clause-outer c = c.requires.outer

pub returns-clause-step : goal.returns-clause-step
returns-clause-step c =
    let g = c.args.graph.now in
    let old : AlternatingTree = c.args.tree.now in
    let mid : AlternatingTree = record old { blossoms = c.shorten-2.new.self } in
    let short : IsShortened old mid = record { rest = refl; halved = halved_trans old.blossoms c.shorten.new.self c.shorten-2.new.self c.shorten.ensures c.shorten-2.ensures } in
    step_on c.step_along.result g c.args.mates.now c.step_along.new.mates old mid c.step_along.new.tree c.args.u c.args.v (goes_on_shortened g old mid short) c.step_along.ensures.step

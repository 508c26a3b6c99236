use Rattle.std.proofs.Common.{ℕ, ◌<◌, length, subst, sym}
use Rattle.match_barrier.specs.Barrier.{count}
use Rattle.smi_graph.specs.Candidates.{marked}
use Rattle.smi_mean.proofs.NodeGraphs.{number_is}
use Rattle.smi_mean.proofs.Ranks.{rank_below}
use Rattle.smi_mean.proofs.need_graph.node_at.Goals as goal

pub returns-clause-in_range : goal.returns-clause-in_range
returns-clause-in_range c = λ needed.
    subst (λ (x : ℕ). x < count (length c.args.needs.now) (marked c.args.needs.now)) (sym (number_is c.args.needs.now c.args.numbers.now c.args.k 0 c.requires.numbers c.requires.below))
    (rank_below (marked c.args.needs.now) c.args.k (length c.args.needs.now) c.requires.below needed)

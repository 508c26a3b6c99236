use Rattle.std.proofs.Common.{[]}
use Rattle.match_blossom.specs.Foldings.{IsMatchingBut}
use Rattle.match_blossom.proofs.greedy.match_greedily.Given as goal

abbrev pub invariant-loop-v : goal.invariant-loop-v
invariant-loop-v l = IsMatchingBut l.graph (λ u. u) l.mates []

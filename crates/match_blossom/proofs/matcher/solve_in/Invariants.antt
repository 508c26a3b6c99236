use Rattle.std.proofs.Common.{◌≡◌, ◌≢◌, ℕ, ◌<◌, [], length, get_or}
use Rattle.match_blossom.specs.Foldings.{IsMatchingBut}
use Rattle.match_blossom.specs.Forest.{IsClean}
use Rattle.match_blossom.specs.Ends.{AreOwn}
use Rattle.match_blossom.proofs.matcher.solve_in.Given as goal

abbrev pub invariant-loop-root : goal.invariant-loop-root
invariant-loop-root l = record {
  matching : IsMatchingBut l.graph (λ u. u) l.mates [];
  mated : (v : ℕ) → v < l.root → get_or l.mates v 0 ≢ length l.graph;
  set_length : length l.set ≡ length l.initial.set;
  own : AreOwn (length l.initial.set) l.known.ends.node.items l.known.ends.below.items;
  clean : IsClean (length l.initial.set) l.tree;
}

use Rattle.std.proofs.Common.{◌<◌, length}
use Rattle.match_blossom.specs.Labels.{at}
use Rattle.match_blossom.specs.Shortened.{IsHalved}
use Rattle.match_blossom.proofs.blossoms.Blossoms.shorten.Given as goal

abbrev pub invariant-loop-self : goal.invariant-loop-self
invariant-loop-self l = record {
  below : l.x < length l.self.base.items;
  halved : IsHalved l.initial.self l.self;
}

abbrev pub decreases-loop-self : goal.decreases-loop-self
decreases-loop-self l = at l.self.order.items l.x

use Rattle.mc_same.specs.Differences.{Holds, SidesAgree}
use Rattle.mc_same.proofs.sides.first_other_sides.Given as goal

abbrev pub invariant-loop-k : goal.invariant-loop-k
invariant-loop-k l = Holds l.k (SidesAgree l.input l.output l.map)

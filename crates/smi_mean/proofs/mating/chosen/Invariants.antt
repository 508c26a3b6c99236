use Rattle.std.proofs.Common.{◌≡◌, map}
use Rattle.smi_mean.specs.Barriers.{number_of}
use Rattle.smi_mean.specs.RingNumbers.{passing}
use Rattle.smi_mean.specs.NeedGraphs.{is_chosen}
use Rattle.smi_mean.proofs.mating.chosen.Given as goal

abbrev pub invariant-loop-k : goal.invariant-loop-k
invariant-loop-k l = map number_of l.atoms ≡ passing (is_chosen l.needs l.set) l.k

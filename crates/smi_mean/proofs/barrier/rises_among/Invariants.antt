use Rattle.std.proofs.Common.{◌≡◌, drop}
use Rattle.smi_mean.specs.BarrierTests.{rises_among}
use Rattle.smi_mean.proofs.barrier.rises_among.Given as goal

abbrev pub invariant-loop-atom : goal.invariant-loop-atom
invariant-loop-atom l = rises_among l.needs l.least (drop l.atom-index l.atoms) ≡ rises_among l.needs 0 l.atoms

use Rattle.std.proofs.Common.{◌-◌, length}
use Rattle.ct_v2000.specs.Blocks.{ReadsBlock}
use Rattle.ct_v2000.proofs.blocks.read_properties.Given as goal

abbrev pub invariant-loop-k : goal.invariant-loop-k
invariant-loop-k l = ReadsBlock l.given l.first l.atoms l.initial.said l.initial.faults.fault l.k l.passed l.said l.faults.fault

abbrev pub decreases-loop-k : goal.decreases-loop-k
decreases-loop-k l = length l.given - l.k

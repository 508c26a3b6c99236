use Rattle.std.proofs.Common.{◌≡◌, ◌++◌, drop}
use Rattle.smi_mean.specs.Lying.{counted_once}
use Rattle.smi_mean.proofs.lying.counted_once.Given as goal

abbrev pub invariant-loop-k : goal.invariant-loop-k
invariant-loop-k l = l.found.items ++ counted_once (drop l.k l.placed) (drop l.k l.bonds) ≡ counted_once l.placed l.bonds

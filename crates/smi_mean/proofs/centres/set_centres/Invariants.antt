use Rattle.std.proofs.Common.{◌≡◌, ◌-◌, length}
use Rattle.smi_mean.specs.Meaning.{with_centres}
use Rattle.smi_mean.proofs.CentresSet.{filled}
use Rattle.smi_mean.proofs.centres.set_centres.Given as goal

abbrev pub invariant-loop-k : goal.invariant-loop-k
invariant-loop-k l = record {
  mol : l.mol ≡ with_centres (filled l.skeleton l.k (length l.skeleton.atoms - l.k)) l.initial.mol;
}

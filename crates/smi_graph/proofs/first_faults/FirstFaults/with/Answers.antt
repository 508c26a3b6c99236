use Rattle.smi_graph.specs.Order.{misplaced_at}
use Rattle.smi_graph.specs.RingRules.{clash_at, pair_again_at}
use Rattle.smi_graph.proofs.first_faults.FirstFaults.with.Goals as goal

pub returns : goal.returns
returns c = λ ks misplaced clash pair first. record {
  misplaced = c.or_here.ensures (misplaced_at ks) misplaced first.misplaced;
  clash = c.or_here-2.ensures (clash_at ks) clash first.clash;
  pair = c.or_here-3.ensures (pair_again_at ks) pair first.pair;
}

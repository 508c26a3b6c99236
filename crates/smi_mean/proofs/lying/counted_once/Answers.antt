use Rattle.std.proofs.Common.{arith}
use Rattle.smi_mean.specs.Lying.{counted_once}
use Rattle.smi_mean.proofs.OnceEach.{once_found, once_passed}
use Rattle.smi_mean.proofs.lying.counted_once.Goals as goal
use Rattle.smi_mean.proofs.lying.counted_once.Goals.{then-placed-k+in_ok-push, else-placed-k}

pub loop-k-preserved : goal.loop-k-preserved
loop-k-preserved c = elim c.if-placed-k.branch [
  | then-placed-k+in_ok-push w ↦ rw (w.found-is, w.in_ok-push.ensures.items)
      (once_found c.args.placed.now c.args.bonds.now c.loop-k.found.items c.loop-k.k (record { first = record { 0 = 0 }; second = record { 0 = 0 }; order = 0 }) (counted_once c.args.placed.now c.args.bonds.now)
      (omega (arith, c.requires, c.loop-k-test.true)) c.loop-k-test.true w.if-placed-k.true c.loop-k.invariant)
  | else-placed-k w ↦ rw w.found-is
      (once_passed c.args.placed.now c.args.bonds.now c.loop-k.found.items c.loop-k.k (record { first = record { 0 = 0 }; second = record { 0 = 0 }; order = 0 }) (counted_once c.args.placed.now c.args.bonds.now)
      (omega (arith, c.requires, c.loop-k-test.true)) c.loop-k-test.true w.if-placed-k.false c.loop-k.invariant)
]

use Rattle.std.proofs.Common.{subst}
use Rattle.mc_convert.proofs.CheckFound.{barrier_shown, no_text}
use Rattle.mc_convert.proofs.finding.is_barrier.Goals as goal

pub returns-in_ok-right-in-Some : goal.returns-in_ok-right-in-Some
returns-in_ok-right-in-Some c = λ to given kept.
    barrier_shown to given c.args.skeleton.now c.in-Some.skeleton c.args.refusal.now.barrier c.args.refusal.now.odd c.in_ok-right-in-Some.right c.in-Some.is kept (rw c.as_slice.ensures at c.in_ok-right-in-Some.ensures)

pub returns-in-None : goal.returns-in-None
returns-in-None c = λ to given kept.
    no_text to given c.args.skeleton.now c.args.refusal.now.barrier c.args.refusal.now.odd c.has_no_barrier.result c.in-None.is kept c.has_no_barrier.ensures

use Rattle.std.proofs.Common.{◌≡◌, sym, ◌∙◌}
use Rattle.smi_mean.specs.NeedGraphs.{is_chosen}
use Rattle.smi_mean.proofs.Passing.{atoms_push, passing_pass, flags_are}
use Rattle.smi_mean.proofs.mating.chosen.Goals as goal
use Rattle.smi_mean.proofs.mating.chosen.Goals.{then-is_chosen+in_ok-push, else-is_chosen}

pub loop-k-preserved : goal.loop-k-preserved
loop-k-preserved c =
    let test : c.is_chosen.result ≡ is_chosen c.args.needs.now c.args.set.now c.loop-k.k = c.is_chosen.ensures c.args.set.now
    (flags_are c.deref.result.now c.in_ok-flags.flags.items c.args.nodes c.args.set.now c.deref.ensures.value c.in_ok-flags.ensures.length c.in_ok-flags.ensures.flags) in
    elim c.if-is_chosen.branch [
      | then-is_chosen+in_ok-push w ↦ rw (w.atoms-is, w.in_ok-push.ensures.ok) (atoms_push (is_chosen c.args.needs.now c.args.set.now) c.loop-k.k c.loop-k.atoms c.loop-k.invariant (sym test ∙ w.if-is_chosen.true))
      | else-is_chosen w ↦ rw w.atoms-is (passing_pass (is_chosen c.args.needs.now c.args.set.now) c.loop-k.k _ c.loop-k.invariant (sym test ∙ w.if-is_chosen.false))
    ]

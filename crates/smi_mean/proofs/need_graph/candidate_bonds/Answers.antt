use Rattle.std.proofs.Common.{◌∙◌, sym}
use Rattle.smi_mean.specs.Barriers.{marked_from}
use Rattle.smi_mean.proofs.MarkedBonds.{marked_found, marked_passed}
use Rattle.smi_mean.proofs.need_graph.candidate_bonds.Goals as goal
use Rattle.smi_mean.proofs.need_graph.candidate_bonds.Goals.{then-is_candidate+in_ok-push, else-is_candidate}

pub loop-k-preserved : goal.loop-k-preserved
loop-k-preserved c = elim c.if-is_candidate.branch [
  | then-is_candidate+in_ok-push w ↦ rw (w.found-is, w.in_ok-push.ensures.items)
      (marked_found c.args.skeleton.now.candidates c.loop-k.k c.args.bonds.now c.loop-k.found.items _ (marked_from c.args.skeleton.now.candidates 0 c.args.bonds.now) c.loop-k-test.true
      (sym c.is_candidate.ensures ∙ w.if-is_candidate.true) c.loop-k.invariant)
  | else-is_candidate w ↦ rw w.found-is
      (marked_passed c.args.skeleton.now.candidates c.loop-k.k c.args.bonds.now c.loop-k.found.items (record { first = record { 0 = 0 }; second = record { 0 = 0 }; order = 0 })
      (marked_from c.args.skeleton.now.candidates 0 c.args.bonds.now) c.loop-k-test.true (sym c.is_candidate.ensures ∙ w.if-is_candidate.false) c.loop-k.invariant)
]

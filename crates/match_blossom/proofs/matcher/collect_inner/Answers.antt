use Rattle.std.proofs.Common.{arith, sym, ◌∙◌}
use Rattle.std.proofs.lemmas.List.{length-set}
use Rattle.match_blossom.proofs.Scanning.{inner_written, inner_skip}
use Rattle.match_blossom.proofs.matcher.collect_inner.Goals as goal
use Rattle.match_blossom.proofs.matcher.collect_inner.Goals.{then-is_inner, else-is_inner}

pub loop-v-preserved : goal.loop-v-preserved
loop-v-preserved c =
    let was = c.loop-v.invariant in
    let long = was.length in
    let low = was.size in
    let less = c.loop-v-test.true in
    let room = c.requires.room in
    elim c.if-is_inner.branch [
      | then-is_inner w ↦ rw (w.set-is, w.size-is) (record {
        lists = inner_written c.args.labels.now c.loop-v.v c.loop-v.size c.loop-v.set was.lists (sym c.is_inner.ensures ∙ w.if-is_inner.true) (omega arith);
        size = omega arith;
        length = length-set c.loop-v.set c.loop-v.size c.loop-v.v ∙ was.length;
      })
      | else-is_inner w ↦ rw (w.set-is, w.size-is) (record {
        lists = inner_skip c.args.labels.now c.loop-v.v _ was.lists (sym c.is_inner.ensures ∙ w.if-is_inner.false);
        size = omega arith;
        length = was.length;
      })
    ]

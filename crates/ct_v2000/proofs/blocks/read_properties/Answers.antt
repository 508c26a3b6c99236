use Rattle.std.proofs.Common.{arith, ◌∙◌, ◌<◌, ℕ, List, length, ap, sym}
use Rattle.ct_v2000.proofs.PropertyBlock.{passed_step, line_step}
use Rattle.ct_v2000.proofs.blocks.read_properties.Goals.{then-passed, else-passed+else-is_end_line}
use Rattle.ct_v2000.proofs.blocks.read_properties.Goals as goal

pub loop-k-preserved : goal.loop-k-preserved
loop-k-preserved c =
    let lines : List (List ℕ) = c.args.given.now in
    let k : ℕ = c.loop-k.k in
    let all : ℕ = length lines in
    let count = c.line_count.ensures in
    let less : k < length lines = omega arith in
    elim c.if-passed.branch [
      | then-passed w ↦ passed_step lines c.args.first c.args.atoms c.args.said.now c.args.faults.now.fault k c.loop-k.passed c.if-passed.passed c.loop-k.said c.if-passed.said c.loop-k.faults.fault c.if-passed.faults.fault
          less w.if-passed.true w.passed-is w.said-is (ap (λ x. x.fault) w.faults-is) c.loop-k.invariant
      | else-passed+else-is_end_line w ↦ line_step lines c.args.first c.args.atoms c.args.said.now c.args.faults.now.fault k w.line-line.result.now c.loop-k.passed c.if-passed.passed c.loop-k.said w.read_line.new.self c.if-passed.said c.loop-k.faults.fault w.read_line.new.faults.fault c.if-passed.faults.fault
          less w.if-passed.false w.line-line.ensures (sym w.is_end_line.ensures ∙ w.if-is_end_line.false) c.requires.masses
          w.read_line.ensures (w.passed-is ∙ w.passes_next-passed.ensures) w.said-is (ap (λ x. x.fault) w.faults-is) c.loop-k.invariant
    ]

use Rattle.std.proofs.Common.{arith, ◌∙◌, ◌<◌, ◌≤◌, ℕ, length, sym}
use Rattle.ct_v3000.proofs.EndSteps.{body_more, short_more}
use Rattle.ct_v3000.proofs.reader.end_of_table.Goals as goal

pub loop-k-preserved : goal.loop-k-preserved
loop-k-preserved c =
    let k : ℕ = c.loop-k.k in
    let all : ℕ = length c.args.given.now in
    let count = c.line_count.ensures in
    let test = c.loop-k-test.true in
    let header : 4 ≤ k = c.loop-k.invariant.header in
    let less : k < length c.args.given.now = omega arith in
    record {
      header = omega arith;
      within = omega arith;
      body = body_more k c.args.given.now _ c.line.result.now header less c.line.ensures (sym c.is_end_line.ensures ∙ c.if-is_end_line.false) c.loop-k.invariant.body;
      short = short_more k c.args.given.now c.line.result.now _ less c.line.ensures (sym c.is_end_line.ensures ∙ c.if-is_end_line.false) c.loop-k.invariant.short;
    }

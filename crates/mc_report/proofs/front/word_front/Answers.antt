use Rattle.std.proofs.Common.{arith, ◌<◌, ◌≤◌, ◌∙◌, length, sym}
use Rattle.mc_report.proofs.Words.{too_short}
use Rattle.mc_report.proofs.front.word_front.Goals as goal

pub returns-then-i-text-clause-value : goal.returns-then-i-text-clause-value
returns-then-i-text-clause-value c =
    let word = c.args.word.now in
    let text = c.args.text.now in
    let behind : c.loop-i.i < length word = omega arith in
    let past : length text ≤ c.loop-i.i = omega arith in
    sym (too_short word text c.loop-i.i behind past) ∙ c.loop-i.invariant.same

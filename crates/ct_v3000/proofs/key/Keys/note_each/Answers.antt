use Rattle.std.proofs.Common.{arith, ◌<◌, ℕ, length}
use Rattle.ct_v3000.proofs.KeySteps.{each_more}
use Rattle.ct_v3000.proofs.key.Keys.note_each.Goals as goal

pub loop-n-preserved : goal.loop-n-preserved
loop-n-preserved c =
    let n : ℕ = c.loop-n.n in
    let all : ℕ = length c.args.words.now in
    let count = c.count.ensures in
    let test = c.loop-n-test.true in
    let less : n < length c.args.words.now = omega arith in
    record {
      within = omega arith;
      shows = each_more c.args.self c.args.place n c.args.words.now c.front.result c.word.result.now c.loop-n.faults.fault c.note_word.new.faults.fault _ less c.front.ensures c.word.ensures c.note_word.ensures c.loop-n.invariant.shows;
    }

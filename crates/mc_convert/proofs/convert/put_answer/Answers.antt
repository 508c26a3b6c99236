use Rattle.std.proofs.Common.{arith}
use Rattle.mc_io.specs.Outside.{Outputs}
use Rattle.mc_convert.specs.Answers.{Reply}
use Rattle.mc_convert.specs.Runs.{HoldsLess}
use Rattle.mc_convert.proofs.Running.{part_of_out, part_of_report}
use Rattle.mc_convert.proofs.Stops.{on_err}
use Rattle.mc_convert.proofs.convert.put_answer.Goals as goal

pub returns-in_err-put_all-clause-part : goal.returns-in_err-put_all-clause-part
returns-in_err-put_all-clause-part g c =
    let reply : Reply = record { out = c.args.answer.now.out; report = c.args.answer.now.report } in
    let start : Outputs = g.K.Sink.outputs c.args.sink.now in
    let cut : Outputs = g.K.Sink.outputs c.put_all.new.sink in
    on_err c.from_residual.result (HoldsLess reply start cut)
    (part_of_out reply start cut (rw c.as_slice.ensures at c.in_err-put_all.ensures.part.part) (c.in_err-put_all.ensures.part.others 1 (omega arith)))

pub returns-in_err-put_all-2-clause-part : goal.returns-in_err-put_all-2-clause-part
returns-in_err-put_all-2-clause-part g c =
    let reply : Reply = record { out = c.args.answer.now.out; report = c.args.answer.now.report } in
    let start : Outputs = g.K.Sink.outputs c.args.sink.now in
    let mid : Outputs = g.K.Sink.outputs c.put_all.new.sink in
    let cut : Outputs = g.K.Sink.outputs c.put_all-2.new.sink in
    on_err c.from_residual-in_err-put_all-2.result (HoldsLess reply start cut)
    (part_of_report reply start mid cut (rw c.as_slice.ensures at c.in_ok-put_all.ensures.all.grown) (c.in_err-put_all-2.ensures.part.others 0 (omega arith)) (c.in_ok-put_all.ensures.all.others 1 (omega arith)) (rw c.as_slice-2.ensures at c.in_err-put_all-2.ensures.part.part))

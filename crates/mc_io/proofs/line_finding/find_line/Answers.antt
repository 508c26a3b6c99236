use Rattle.std.proofs.Common.{rules, ◌≡◌, ◌∙◌, ◌≤◌}
use Rattle.std.proofs.lemmas.Result.{err_from_is_err_and}
use Rattle.mc_io.specs.FoundLines.{FindsFront}
use Rattle.mc_io.specs.declared.line_finding.Front.TheVariants.{Long}
use Rattle.mc_io.proofs.Fillings.{finds_behind, stops_behind}
use Rattle.mc_io.proofs.line_finding.find_line.Goals as goal

pub returns-in_err-pass_long-in-Long-clause-stops : goal.returns-in_err-pass_long-in-Long-clause-stops
returns-in_err-pass_long-in-Long-clause-stops g c =
    let old = c.args.buffer.now in
    let mid = c.find_front.new.buffer in
    let x = g.S.Source.inputs c.args.source.now old.input in
    let y = g.S.Source.inputs c.find_front.new.source in
    let z = g.S.Source.inputs c.pass_long.new.source in
    let front : FindsFront Long old mid x (y old.input) = rw c.in-Long.is at c.in_ok-len.ensures.front in
    let p = err_from_is_err_and c.from_residual-in_err-pass_long-in-Long.result c.from_residual-in_err-pass_long-in-Long.ensures.1 in
    rw (p.1, p.2) (stops_behind g.S.Source.LIMIT c.in_err-pass_long-in-Long.field-0.0 old mid c.pass_long.new.buffer x y z front.0.bytes front.0.fills front.0.held c.in_ok-len.ensures.within c.in_err-pass_long-in-Long.ensures.stops)

pub returns-in_ok-pass_long-in-Long-clause-finds : goal.returns-in_ok-pass_long-in-Long-clause-finds
returns-in_ok-pass_long-in-Long-clause-finds g c =
    let old = c.args.buffer.now in
    let mid = c.find_front.new.buffer in
    let x = g.S.Source.inputs c.args.source.now old.input in
    let y = g.S.Source.inputs c.find_front.new.source in
    let z = g.S.Source.inputs c.pass_long.new.source in
    let front : FindsFront Long old mid x (y old.input) = rw c.in-Long.is at c.in_ok-len.ensures.front in
    finds_behind old mid c.pass_long.new.buffer x y z c.in_ok-pass_long-in-Long.field-0 front.0.bytes front.0.fills front.0.held c.in_ok-pass_long-in-Long.ensures.finds

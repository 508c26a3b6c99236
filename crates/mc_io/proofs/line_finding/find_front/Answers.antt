use Rattle.std.proofs.Common.{arith, rules, ◌≡◌, ◌∙◌, ap, false, Err}
use Rattle.std.proofs.lemmas.Result.{err_from_is_err_and}
use Rattle.mc_io.specs.Lines.{has_feed}
use Rattle.mc_io.specs.Outside.{Input}
use Rattle.mc_io.proofs.Fillings.{searched_line, stops_here}
use Rattle.mc_io.proofs.line_finding.find_front.Goals as goal

pub returns-in_err-read_more-clause-stops : goal.returns-in_err-read_more-clause-stops
returns-in_err-read_more-clause-stops g c =
    let inv = c.loop-len.invariant in
    let old = c.args.buffer.now in
    let now = c.loop-len.buffer in
    let stop = c.in_err-read_more.field-0.0 in
    let clear : has_feed now.held ≡ false = search rules in
    let going : now.ended ≡ false = search rules in
    let line = searched_line g.S.Source.LIMIT old now (g.S.Source.inputs c.args.source.now old.input) (g.S.Source.inputs c.loop-len.source old.input) c.loop-len.searched inv.search clear going inv.small in
    let p = err_from_is_err_and c.from_residual.result c.from_residual.ensures.1 in
    rw (p.1, p.2) (stops_here g.S.Source.LIMIT stop old now c.read_more.new.self (g.S.Source.inputs c.args.source.now old.input) (g.S.Source.inputs c.loop-len.source) (g.S.Source.inputs c.read_more.new.source) inv.search.bytes line inv.input
    (λ e. c.read_more.ensures.missed (c.in_err-read_more.was ∙ ap Err e)) (λ e. c.read_more.ensures.unread (c.in_err-read_more.was ∙ ap Err e)) (λ e. c.read_more.ensures.past (c.in_err-read_more.was ∙ ap Err e)))

use Rattle.std.proofs.Common.{arith, List, drop, refl, sym, subst}
use Rattle.mc_base.specs.declared.span.Span.{Span}
use Rattle.ct_sd.specs.declared.record_front.LineRole.TheVariants.{Line, End, TooLong}
use Rattle.ct_sd.specs.FoundRecords.{IsOpenRun}
use Rattle.ct_sd.proofs.LastRuns.{last_end, open_line, role_last, spoils_last}
use Rattle.ct_sd.proofs.Scanning.{small_line}
use Rattle.ct_sd.proofs.record_front.push_last.Goals as goal

pub push_range-requires : goal.push_range-requires
push_range-requires c = small_line c.args.at c.in-Line.text (drop c.args.at c.args.held.now) c.requires.short (role_last c.args.held.now c.args.at c.args.ranges.now.items (Line c.in-Line.text) c.requires c.in-Line.ensures)

pub returns-in_ok-push_range-in-Line : goal.returns-in_ok-push_range-in-Line
returns-in_ok-push_range-in-Line c =
    let plays = role_last c.args.held.now c.args.at c.args.ranges.now.items (Line c.in-Line.text) c.requires c.in-Line.ensures in
    subst (λ (rs : List Span). IsOpenRun c.args.held.now rs) (sym c.in_ok-push_range-in-Line.ensures)
    (open_line c.args.held.now c.args.at c.in-Line.text c.args.ranges.now.items _ c.requires (omega arith) plays refl refl)

pub returns-in-End : goal.returns-in-End
returns-in-End c = last_end c.args.held.now c.args.at c.args.ranges.now.items c.requires (omega arith) (role_last c.args.held.now c.args.at c.args.ranges.now.items End c.requires c.in-End.ensures)

pub returns-in-TooLong : goal.returns-in-TooLong
returns-in-TooLong c =
    (c.requires, spoils_last c.args.at (drop c.args.at c.args.held.now) c.requires.clear (role_last c.args.held.now c.args.at c.args.ranges.now.items TooLong c.requires c.in-TooLong.ensures))

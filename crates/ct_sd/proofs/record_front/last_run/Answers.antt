use Rattle.std.proofs.Common.{◌∙◌, Option, ap, sym, subst}
use Rattle.std.specs.Prelude.{not}
use Rattle.std.specs.List.{list_any}
use Rattle.mc_base.specs.declared.span.Span.{Span}
use Rattle.ct_sd.specs.declared.record_front.Front.{Front}
use Rattle.ct_sd.specs.Columns.{is_blank_text}
use Rattle.ct_sd.specs.FoundRecords.{IsLastPushed, IsOpenRun}
use Rattle.ct_sd.specs.Ranges.{part}
use Rattle.ct_sd.proofs.FedLines.{say_is}
use Rattle.ct_sd.proofs.LastRuns.{open_nothing, open_record}
use Rattle.ct_sd.proofs.record_front.last_run.Goals as goal

pub returns-in-None : goal.returns-in-None
returns-in-None c =
    let held = c.args.held.now in
    let ranges = c.push_last.new.ranges.items in
    let o : IsOpenRun held ranges = subst (λ (f : Option Front). IsLastPushed f held ranges) c.in-None.is c.in_ok-front.ensures in
    open_record held ranges o
    (sym (say_is held ranges o.lines o.spans)
    ∙ (ap (list_any (λ (r : Span). not (is_blank_text (part held r)))) (sym c.deref.ensures.value) ∙ (sym c.say_something.ensures ∙ c.if-say_something.true)))

pub returns-in-None-2 : goal.returns-in-None-2
returns-in-None-2 c =
    let held = c.args.held.now in
    let ranges = c.push_last.new.ranges.items in
    let o : IsOpenRun held ranges = subst (λ (f : Option Front). IsLastPushed f held ranges) c.in-None-2.is c.in_ok-front.ensures in
    open_nothing held ranges o
    (sym (say_is held ranges o.lines o.spans)
    ∙ (ap (list_any (λ (r : Span). not (is_blank_text (part held r)))) (sym c.deref.ensures.value) ∙ (sym c.say_something.ensures ∙ c.if-say_something.false)))

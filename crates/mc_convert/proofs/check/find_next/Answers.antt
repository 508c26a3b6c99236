use Rattle.std.proofs.Common.{◌∙◌, ap, subst, List, Option, Some, arith}
use Rattle.mc_base.specs.declared.ids.AtomId.{AtomId}
use Rattle.mc_report.specs.declared.report_line.ReportLine.{ReportLine}
use Rattle.mc_io.specs.LineReader.{ahead}
use Rattle.mc_io.specs.Outside.{Input}
use Rattle.mc_convert.specs.Findings.{IsMapFinding}
use Rattle.mc_convert.specs.CheckSteps.{SaidNext}
use Rattle.mc_convert.proofs.CheckFound.{written_between, refused_found}
use Rattle.mc_convert.proofs.CheckLifts.{ahead_kept}
use Rattle.mc_convert.proofs.check.find_next.Goals as goal

pub returns-in-Some-Ok-clause-finds : goal.returns-in-Some-Ok-clause-finds
returns-in-Some-Ok-clause-finds g c given is =
    let said = subst (λ (x : Option ReportLine). SaidNext c.args.k (ahead c.args.readers.now.report (g.S.Source.inputs c.args.source.now 2).left) (ahead c.read_said.new.self.report (g.S.Source.inputs c.read_said.new.source 2).left) x)
    (c.in-Some-Ok.is ∙ ap (λ (x : ReportLine). Some x) c.in-Some-Ok.field-0-is) c.in_ok-map.ensures.says in
    written_between c.args.to c.args.k c.in-Some-Ok.field-0-0 given _ _ _ _ _ _ c.in-Some-Ok.map _ c.in_ok-finding-in-Some-Ok.finding said (rw c.read_back.ensures at c.in_ok-converted-in-Some-Ok.ensures.reads)
    (λ next reads. subst (λ (m : List AtomId). IsMapFinding c.args.to given next m c.in_ok-finding-in-Some-Ok.finding) c.as_slice.ensures (c.in_ok-finding-in-Some-Ok.ensures c.args.to given next is reads))
    (ahead_kept c.args.readers.now.converted c.read_said.new.self.converted _ _ c.in_ok-map.ensures.kept.1 (ap (λ (i : Input). i.left) (c.in_ok-map.ensures.others 1 (λ e. omega arith))))
    (ahead_kept c.read_said.new.self.report c.read_converted.new.self.report _ _ c.in_ok-converted-in-Some-Ok.ensures.kept.1 (ap (λ (i : Input). i.left) (c.in_ok-converted-in-Some-Ok.ensures.others 2 (λ e. omega arith))))

pub returns-in-Some-Refused-clause-finds : goal.returns-in-Some-Refused-clause-finds
returns-in-Some-Refused-clause-finds g c given is =
    let said = subst (λ (x : Option ReportLine). SaidNext c.args.k (ahead c.args.readers.now.report (g.S.Source.inputs c.args.source.now 2).left) (ahead c.read_said.new.self.report (g.S.Source.inputs c.read_said.new.source 2).left) x)
    (c.in-Some-Refused.is ∙ ap (λ (x : ReportLine). Some x) c.in-Some-Refused.field-0-is) c.in_ok-map.ensures.says in
    refused_found c.args.to c.args.k c.in-Some-Refused.field-0-0 given _ _ _ _ c.in-Some-Refused.refusal c.in_ok-finding-in-Some-Refused.finding said
    (ahead_kept c.args.readers.now.converted c.read_said.new.self.converted _ _ c.in_ok-map.ensures.kept.1 (ap (λ (i : Input). i.left) (c.in_ok-map.ensures.others 1 (λ e. omega arith))))
    (c.in_ok-finding-in-Some-Refused.ensures c.args.to given is)

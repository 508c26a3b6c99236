use Rattle.std.proofs.Common.{ℕ, refl, subst}
use Rattle.mc_io.specs.LineReader.{Reading, ahead}
use Rattle.mc_io.specs.Outside.{Input, SameBut}
use Rattle.mc_convert.specs.Findings.{line_met}
use Rattle.mc_convert.proofs.CheckLifts.{line_taken, report_advance}
use Rattle.mc_convert.proofs.check_readers.CheckReaders.read_said.Goals as goal

pub returns-clause-says : goal.returns-clause-says
returns-clause-says g c = record {
  line = line_met c.in_ok-next.next c.next_line.new.lines.text;
  takes = line_taken g.S.Source.LIMIT c.in_ok-next.next (ahead c.args.self.now.report (g.S.Source.inputs c.args.source.now 2).left) (g.S.Source.inputs c.next_line.new.source 2).left c.next_line.new.lines
      (g.S.Source.inputs c.args.source.now 2) (g.S.Source.inputs c.next_line.new.source 2) (rw c.requires.report.number at c.in_ok-next.ensures.line) (rw c.requires.report.number at c.in_ok-next.ensures.ended);
  says = c.in_ok-said.ensures;
}

pub returns-clause-advance : goal.returns-clause-advance
returns-clause-advance g c =
    let before : ℕ → Input = g.S.Source.inputs c.args.source.now in
    let after : ℕ → Input = g.S.Source.inputs c.next_line.new.source in
    let P : ℕ → Type 0 = λ i. Reading c.args.self.now.report c.next_line.new.lines (before i) (after i) in
    let Q : ℕ → Type 0 = λ i. SameBut i before after in
    report_advance c.args.self.now (record { originals = c.args.self.now.originals; converted = c.args.self.now.converted; report = c.next_line.new.lines }) before after
    (subst P c.requires.report.number c.in_ok-next.ensures.reading) refl refl (subst Q c.requires.report.number c.in_ok-next.ensures.others)

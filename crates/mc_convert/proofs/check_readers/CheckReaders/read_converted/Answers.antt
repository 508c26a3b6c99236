use Rattle.std.proofs.Common.{ℕ, refl, subst}
use Rattle.mc_io.specs.LineReader.{Reading}
use Rattle.mc_io.specs.Outside.{Input, SameBut}
use Rattle.mc_convert.proofs.CheckLifts.{converted_advance}
use Rattle.mc_convert.proofs.check_readers.CheckReaders.read_converted.Goals as goal

pub returns-clause-advance : goal.returns-clause-advance
returns-clause-advance g c =
    let before : ℕ → Input = g.S.Source.inputs c.args.source.now in
    let after : ℕ → Input = g.S.Source.inputs c.next_record.new.source in
    let P : ℕ → Type 0 = λ i. Reading c.args.self.now.converted c.next_record.new.lines (before i) (after i) in
    let Q : ℕ → Type 0 = λ i. SameBut i before after in
    converted_advance c.args.self.now (record { originals = c.args.self.now.originals; converted = c.next_record.new.lines; report = c.args.self.now.report }) before after
    (subst P c.requires.converted.number c.in_ok-next.ensures.reading) refl refl (subst Q c.requires.converted.number c.in_ok-next.ensures.others)

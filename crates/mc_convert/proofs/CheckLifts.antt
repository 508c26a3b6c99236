-- What one reader of a check does, said of all three.
use Rattle.std.proofs.Common.{arith, ◌≡◌, ℕ, zero, suc, ◌<◌, ◌≤◌, List, [], drop, Option, Some, None, refl, ap, sym, ◌∙◌, subst, inl, inr}
use Rattle.std.specs.Prelude.{Ok, Err, Bool, IsTrue}
use Rattle.mc_io.specs.declared.read_stop.ReadStop.{ReadStop}
use Rattle.mc_io.specs.declared.read_stop.ReadStop.TheVariants.{ReadFault, InputLimit, NoMemory}
use Rattle.mc_io.specs.Outside.{SameBut, Input}
use Rattle.mc_io.specs.LineReader.{LineReader, MayGoOn, ahead, ahead_of, Reading}
use Rattle.mc_io.specs.Lines.{lines_of}
use Rattle.mc_convert.specs.declared.formats.Origin.{Origin}
use Rattle.mc_convert.specs.declared.check_readers.CheckReaders.{CheckReaders}
use Rattle.mc_convert.specs.declared.status.Halt.{Halt}
use Rattle.mc_convert.specs.declared.status.Halt.TheVariants.{ReadFault as ReadFailedHalt, InputLimit as LimitHalt, WriteFault as WriteHalt, NoMemory as MemoryHalt}
use Rattle.mc_convert.specs.declared.records.Passed.{Passed}
use Rattle.mc_convert.specs.declared.records.Passed.TheVariants.{Line, TooLong}
use Rattle.mc_convert.specs.Records.{records}
use Rattle.mc_convert.specs.Readers.{HasEnded, GivesRecord, GivesLine}
use Rattle.mc_convert.specs.Statuses.{halt_of}
use Rattle.mc_convert.specs.Findings.{line_met, record_met}
use Rattle.mc_convert.specs.Checks.{first}
use Rattle.mc_convert.specs.CheckSteps.{fresh_readers, MayRead, MayReadOn, AreWithin, Advance, ReadHalts, TakesFirst}
use Rattle.mc_convert.proofs.ReaderSteps.{records_of_none, reading_none, reading_trans, rose_later}

-- a reader that wasn't used
kept : (a b : LineReader) (x y : Input) → b ≡ a → y ≡ x → Reading a b x y
kept a b x y e f = subst (λ (z : Input). Reading a b x z) (sym f) (subst (λ (z : LineReader). Reading a z x x) (sym e) (reading_none a x))

-- what is within the limit, where one of the readers was used
with_others : (limit : ℕ) (old new : CheckReaders) → new.originals.taken ≤ limit → MayRead limit old → new.converted ≡ old.converted → new.report ≡ old.report → AreWithin limit new
with_others limit old new within may c r = record {
  originals = within;
  converted = subst (λ (z : LineReader). z.taken ≤ limit) (sym c) may.converted.within;
  report = subst (λ (z : LineReader). z.taken ≤ limit) (sym r) may.report.within;
}

with_two : (limit : ℕ) (old new : CheckReaders) → new.converted.taken ≤ limit → MayRead limit old → new.originals ≡ old.originals → new.report ≡ old.report → AreWithin limit new
with_two limit old new within may o r = record {
  originals = subst (λ (z : LineReader). z.taken ≤ limit) (sym o) may.originals.within;
  converted = within;
  report = subst (λ (z : LineReader). z.taken ≤ limit) (sym r) may.report.within;
}

with_three : (limit : ℕ) (old new : CheckReaders) → new.report.taken ≤ limit → MayRead limit old → new.originals ≡ old.originals → new.converted ≡ old.converted → AreWithin limit new
with_three limit old new within may o c = record {
  originals = subst (λ (z : LineReader). z.taken ≤ limit) (sym o) may.originals.within;
  converted = subst (λ (z : LineReader). z.taken ≤ limit) (sym c) may.converted.within;
  report = within;
}

pub all_within : (limit : ℕ) (readers : CheckReaders) → MayRead limit readers → AreWithin limit readers
all_within limit readers may = record { originals = may.originals.within; converted = may.converted.within; report = may.report.within }

-- a step of the originals' reader
pub originals_advance : (old new : CheckReaders) (before after : ℕ → Input) → Reading old.originals new.originals (before 0) (after 0) → new.converted ≡ old.converted → new.report ≡ old.report
    → SameBut 0 before after → Advance old new before after
originals_advance old new before after reading same_converted same_report same = record {
  originals = reading;
  converted = kept old.converted new.converted (before 1) (after 1) same_converted (same 1 (λ e. omega arith));
  report = kept old.report new.report (before 2) (after 2) same_report (same 2 (λ e. omega arith));
  others = λ i from. same i (λ e. omega arith);
}

pub converted_advance : (old new : CheckReaders) (before after : ℕ → Input) → Reading old.converted new.converted (before 1) (after 1) → new.originals ≡ old.originals → new.report ≡ old.report
    → SameBut 1 before after → Advance old new before after
converted_advance old new before after reading same_originals same_report same = record {
  originals = kept old.originals new.originals (before 0) (after 0) same_originals (same 0 (λ e. omega arith));
  converted = reading;
  report = kept old.report new.report (before 2) (after 2) same_report (same 2 (λ e. omega arith));
  others = λ i from. same i (λ e. omega arith);
}

pub report_advance : (old new : CheckReaders) (before after : ℕ → Input) → Reading old.report new.report (before 2) (after 2) → new.originals ≡ old.originals → new.converted ≡ old.converted
    → SameBut 2 before after → Advance old new before after
report_advance old new before after reading same_originals same_converted same = record {
  originals = kept old.originals new.originals (before 0) (after 0) same_originals (same 0 (λ e. omega arith));
  converted = kept old.converted new.converted (before 1) (after 1) same_converted (same 1 (λ e. omega arith));
  report = reading;
  others = λ i from. same i (λ e. omega arith);
}

pub may_read_on : (input limit : ℕ) (old new : LineReader) → MayReadOn input limit old → new.input ≡ old.input → MayGoOn new.answer → new.taken ≤ limit → MayReadOn input limit new
may_read_on input limit old new may same on within = record { number = same ∙ may.number; goes_on = on; within = within }

-- ---- a stop

pub originals_halts : (limit : ℕ) (stop : ReadStop) (old new : CheckReaders) (before after : ℕ → Input) → HasEnded limit (Err stop) new.originals (before 0) (after 0) → MayRead limit old
    → new.converted ≡ old.converted → new.report ≡ old.report → ReadHalts limit (halt_of stop) new before after
originals_halts limit ReadFault old new before after (within, rose, ended) may c r = (with_others limit old new within may c r, record { input = 0; is_input = omega arith; rose = rose; not_ended = ended })
originals_halts limit InputLimit old new before after (past, ended) may c r = (inl past, record { input = 0; is_input = omega arith; not_ended = ended })
originals_halts limit NoMemory old new before after within may c r = with_others limit old new within may c r

pub converted_halts : (limit : ℕ) (stop : ReadStop) (old new : CheckReaders) (before after : ℕ → Input) → HasEnded limit (Err stop) new.converted (before 1) (after 1) → MayRead limit old
    → new.originals ≡ old.originals → new.report ≡ old.report → ReadHalts limit (halt_of stop) new before after
converted_halts limit ReadFault old new before after (within, rose, ended) may o r = (with_two limit old new within may o r, record { input = 1; is_input = omega arith; rose = rose; not_ended = ended })
converted_halts limit InputLimit old new before after (past, ended) may o r = (inr (inl past), record { input = 1; is_input = omega arith; not_ended = ended })
converted_halts limit NoMemory old new before after within may o r = with_two limit old new within may o r

pub report_halts : (limit : ℕ) (stop : ReadStop) (old new : CheckReaders) (before after : ℕ → Input) → HasEnded limit (Err stop) new.report (before 2) (after 2) → MayRead limit old
    → new.originals ≡ old.originals → new.converted ≡ old.converted → ReadHalts limit (halt_of stop) new before after
report_halts limit ReadFault old new before after (within, rose, ended) may o c = (with_three limit old new within may o c, record { input = 2; is_input = omega arith; rose = rose; not_ended = ended })
report_halts limit InputLimit old new before after (past, ended) may o c = (inr (inr past), record { input = 2; is_input = omega arith; not_ended = ended })
report_halts limit NoMemory old new before after within may o c = with_three limit old new within may o c

-- ---- what is taken

pub record_first : (from : Origin) (next : Option Passed) (all rest : Option (List ℕ)) (text : List ℕ) → GivesRecord from (Ok next) all rest text → TakesFirst (records from) all rest (record_met next text)
record_first from next None rest text h = tt
record_first from None (Some all) None text h = h.0
record_first from None (Some all) (Some rest) text (takes, at_end) =
    let none : records from rest ≡ [] = ap (records from) at_end ∙ records_of_none from in
    (sym (ap first (takes ∙ none)), none ∙ sym (ap (drop 1) (takes ∙ none)))
record_first from (Some passed) (Some all) None text h = h
record_first from (Some passed) (Some all) (Some rest) text h = (sym (ap first h), sym (ap (drop 1) h))

pub line_first : (next : Option Passed) (all rest : Option (List ℕ)) (text : List ℕ) → GivesLine (Ok next) all rest text → (next ≡ None → (held : List ℕ) × (rest ≡ Some held)) → TakesFirst lines_of all rest (line_met next text)
line_first next None rest text h known = tt
line_first None (Some all) None text h known = let k = known refl in cc
line_first None (Some all) (Some rest) text (none_ahead, none_left) known =
    (sym (ap (λ (bytes : List ℕ). first (lines_of bytes)) none_ahead), ap lines_of none_left ∙ sym (ap (λ (bytes : List ℕ). drop 1 (lines_of bytes)) none_ahead))
line_first (Some Line) (Some all) None text h known = h
line_first (Some Line) (Some all) (Some rest) text h known = (sym (ap first h), sym (ap (drop 1) h))
line_first (Some TooLong) (Some all) None text h known = h
line_first (Some TooLong) (Some all) (Some rest) text h known = (sym (ap first h), sym (ap (drop 1) h))

-- a reader that has met the end knows what is ahead
pub ahead_known : (reader : LineReader) (left : Option (List ℕ)) → IsTrue reader.ended → (held : List ℕ) × (ahead reader left ≡ Some held)
ahead_known reader left ended = (reader.held, ap (λ (x : Bool). ahead_of x reader.held left) ended)

ended_at_end : (limit : ℕ) (next : Option Passed) (reader : LineReader) (before after : Input) → HasEnded limit (Ok next) reader before after → next ≡ None → IsTrue reader.ended
ended_at_end limit None reader before after h e = h.1
ended_at_end limit (Some passed) reader before after h e = cc

pub line_taken : (limit : ℕ) (next : Option Passed) (all left : Option (List ℕ)) (reader : LineReader) (before after : Input) → GivesLine (Ok next) all (ahead reader left) reader.text
    → HasEnded limit (Ok next) reader before after → TakesFirst lines_of all (ahead reader left) (line_met next reader.text)
line_taken limit next all left reader before after gives ended = line_first next all (ahead reader left) reader.text gives (λ e. ahead_known reader left (ended_at_end limit next reader before after ended e))

-- ---- several steps

pub advance_trans : (a b c : CheckReaders) (x y z : ℕ → Input) → Advance a b x y → Advance b c y z → Advance a c x z
advance_trans a b c x y z p q = record {
  originals = reading_trans a.originals b.originals c.originals (x 0) (y 0) (z 0) p.originals q.originals;
  converted = reading_trans a.converted b.converted c.converted (x 1) (y 1) (z 1) p.converted q.converted;
  report = reading_trans a.report b.report c.report (x 2) (y 2) (z 2) p.report q.report;
  others = λ i from. q.others i from ∙ p.others i from;
}

-- faults of the three inputs never fall
pub advance_later : (a b : CheckReaders) (x y : ℕ → Input) → Advance a b x y → (i : ℕ) → i < 3 → (x i).faults ≤ (y i).faults
advance_later a b x y p zero less = p.originals.takes.later
advance_later a b x y p (suc zero) less = p.converted.takes.later
advance_later a b x y p (suc (suc zero)) less = p.report.takes.later
advance_later a b x y p (suc (suc (suc i))) less = absurd (omega arith)

-- a stop behind other steps
pub halts_later : (limit : ℕ) (halt : Halt) (a b c : CheckReaders) (x y z : ℕ → Input) → Advance a b x y → ReadHalts limit halt c y z → ReadHalts limit halt c x z
halts_later limit ReadFailedHalt a b c x y z p (within, failed) = (within, record { input = failed.input; is_input = failed.is_input; rose = rose_later (x failed.input).faults (y failed.input).faults (z failed.input).faults (advance_later a b x y p failed.input failed.is_input) failed.rose; not_ended = failed.not_ended })
halts_later limit LimitHalt a b c x y z p h = h
halts_later limit MemoryHalt a b c x y z p h = h
halts_later limit WriteHalt a b c x y z p h = h

-- a reader that wasn't used has the same ahead
pub ahead_kept : (a b : LineReader) (l m : Option (List ℕ)) → b ≡ a → m ≡ l → ahead b m ≡ ahead a l
ahead_kept a b l m e f = ap (λ (r : LineReader). ahead r m) e ∙ ap (λ (x : Option (List ℕ)). ahead a x) f

pub advance_none : (readers : CheckReaders) (now : ℕ → Input) → Advance readers readers now now
advance_none readers now = record {
  originals = reading_none readers.originals (now 0);
  converted = reading_none readers.converted (now 1);
  report = reading_none readers.report (now 2);
  others = λ i from. refl;
}

pub fresh_may : (limit : ℕ) (readers : CheckReaders) → readers ≡ fresh_readers → MayRead limit readers
fresh_may limit readers e = subst (λ (r : CheckReaders). MayRead limit r) (sym e) (record {
  originals = record { number = refl; goes_on = tt; within = omega arith };
  converted = record { number = refl; goes_on = tt; within = omega arith };
  report = record { number = refl; goes_on = tt; within = omega arith };
})

-- What the answers of a reader of records say.
use Rattle.std.proofs.Common.{arith, ◌≡◌, ◌∙◌, ℕ, ◌+◌, ◌^◌, ◌<◌, ◌≤◌, Bool, true, false, if◌then◌else◌, List, [], ◌∷◌, ◌++◌, length, take, drop, map, Option, Some, None, refl, ap, sym, subst, inl, inr}
use Rattle.std.specs.Prelude.{◌⊎◌, IsTrue}
use Rattle.std.specs.Io.KnownBytes.{Consumes, IsAtEnd, prepend_known}
use Rattle.std.proofs.lemmas.Bool.{false≢true}
use Rattle.std.proofs.lemmas.List.{append_assoc, append-nil, length-append}
use Rattle.std.proofs.lemmas.List.Elements.{All-nil}
use Rattle.mc_base.specs.declared.span.Span.{Span}
use Rattle.mc_io.specs.declared.read_stop.ReadStop.{ReadStop}
use Rattle.mc_io.specs.declared.read_stop.ReadStop.TheVariants.{ReadFault, InputLimit, NoMemory}
use Rattle.mc_io.specs.Buffered.{Buffered}
use Rattle.mc_io.specs.FoundLines.{Fills}
use Rattle.mc_io.specs.LineReader.{ahead_of}
use Rattle.mc_io.specs.Outside.{Input}
use Rattle.mc_io.proofs.Fillings.{was_going}
use Rattle.ct_sd.specs.declared.fault.Fault.{Fault}
use Rattle.ct_sd.specs.declared.records.Answered.{Answered}
use Rattle.ct_sd.specs.Faults.{IsShown, refusal_of}
use Rattle.ct_sd.specs.FoundRecords.{FindsLong, FindsRecord, FindsRun, Goes, Stops, StopsWithin, most_room}
use Rattle.ct_sd.specs.Ranges.{AreWithin, part}
use Rattle.ct_sd.specs.RecordReader.{GivesRecord, GivesRefusal, GivesRun, IsSound, MayGoOn, RecordReader, TakesRuns, bytes_ahead, records_of}
use Rattle.ct_sd.specs.Records.{Run, ended_records, is_record, length_faults, sd_records}
use Rattle.ct_sd.proofs.FedLines.{count_is, spans_within, texts_are}
use Rattle.ct_sd.proofs.First.{first_is_shown}
use Rattle.ct_sd.proofs.Fronts.{front_ended, front_records}
use Rattle.ct_sd.proofs.RunSizes.{few_of_run, front_size, none_in_front}

-- ---- known bytes

read_runs : (held bytes : List ℕ) (left more rest : Option (List ℕ)) (runs : List Run) → Consumes left more bytes → TakesRuns (prepend_known (held ++ bytes) more) rest runs → TakesRuns (prepend_known held left) rest runs
read_runs held bytes None more rest runs took takes = tt
read_runs held bytes (Some l) None rest runs took takes = absurd took
read_runs held bytes (Some l) (Some m) None runs took takes = takes
read_runs held bytes (Some l) (Some m) (Some r) runs took takes = ap (λ (x : List ℕ). sd_records (held ++ x)) took ∙ ap sd_records (sym (append_assoc held bytes m)) ∙ takes

-- records were passed, whatever was read for them
passed_runs : (old new : Buffered) (before after : Input) (bytes rest : List ℕ) (runs : List Run) → Fills old new before after bytes
    → ((more : List ℕ) → (IsTrue new.ended → more ≡ []) → sd_records ((old.held ++ bytes) ++ more) ≡ runs ++ sd_records (rest ++ more))
    → TakesRuns (ahead_of old.ended old.held before.left) (ahead_of new.ended rest after.left) runs
passed_runs old new before after bytes rest runs fills cut = by_end old.ended new.ended refl refl
  where
    all_of : sd_records (old.held ++ bytes) ≡ runs ++ sd_records rest
    all_of = ap sd_records (sym (append-nil (old.held ++ bytes))) ∙ (cut [] (λ e. refl) ∙ ap (λ (x : List ℕ). runs ++ sd_records x) (append-nil rest))

    by_left : (left : Option (List ℕ)) (ended : Bool) → new.ended ≡ ended → (IsTrue ended → IsAtEnd left) → TakesRuns (prepend_known (old.held ++ bytes) left) (ahead_of ended rest left) runs
    by_left None ended is none = tt
    by_left (Some m) true is none = ap (λ (x : List ℕ). sd_records ((old.held ++ bytes) ++ x)) (none refl) ∙ (ap sd_records (append-nil (old.held ++ bytes)) ∙ all_of)
    by_left (Some m) false is none = cut m (λ end. absurd (false≢true (sym is ∙ end)))

    by_end : (was ended : Bool) → old.ended ≡ was → new.ended ≡ ended → TakesRuns (ahead_of was old.held before.left) (ahead_of ended rest after.left) runs
    by_end true false was is = absurd (false≢true (sym is ∙ (fills.stays was).0))
    by_end true true was is = let none = (fills.stays was).1 in ap sd_records (sym (ap (λ (x : List ℕ). old.held ++ x) none ∙ append-nil old.held)) ∙ all_of
    by_end false true was is = read_runs old.held bytes before.left after.left (Some rest) runs fills.takes.front (by_left after.left true is at_end)
      where
        at_end : IsTrue true → IsAtEnd after.left
        at_end e = elim (fills.met is) [ inl before_that ↦ absurd (false≢true (sym was ∙ before_that)) | inr met ↦ met.1 ]
    by_end false false was is = read_runs old.held bytes before.left after.left (prepend_known rest after.left) runs fills.takes.front (by_left after.left false is (λ e. absurd (false≢true e)))

-- ---- a reader and its buffer

-- a reader and the bytes that it holds, in a buffer
pub record Has (reader : RecordReader) (buffer : Buffered) (held : List ℕ) : Type 0 where
  pub input : reader.input ≡ buffer.input
  pub held_is : reader.held ≡ held
  pub taken : reader.taken ≡ buffer.taken
  pub ended : reader.ended ≡ buffer.ended

-- before a call, where the record that was given last is passed
pub has_passed : (buffer passed : Buffered) (ranges : List Span) (whole count : ℕ) (answer : Option Answered) (reader : RecordReader) → records_of buffer ranges whole count answer ≡ reader → passed ≡ record buffer { held = drop whole buffer.held } → Has reader passed passed.held
has_passed buffer passed ranges whole count answer reader is moved = record {
  input = sym (ap (λ (r : RecordReader). r.input) is) ∙ sym (ap (λ (b : Buffered). b.input) moved);
  held_is = sym (ap (λ (r : RecordReader). r.held) is) ∙ sym (ap (λ (b : Buffered). b.held) moved);
  taken = sym (ap (λ (r : RecordReader). r.taken) is) ∙ sym (ap (λ (b : Buffered). b.taken) moved);
  ended = sym (ap (λ (r : RecordReader). r.ended) is) ∙ sym (ap (λ (b : Buffered). b.ended) moved);
}

-- and after it
pub has_new : (buffer : Buffered) (ranges : List Span) (whole count : ℕ) (answer : Option Answered) → Has (records_of buffer ranges whole count answer) buffer (drop whole buffer.held)
has_new buffer ranges whole count answer = record { input = refl; held_is = refl; taken = refl; ended = refl }

ahead_is : (p : RecordReader) (old : Buffered) (left : Option (List ℕ)) (held : List ℕ) → Has p old held → bytes_ahead p left ≡ ahead_of old.ended held left
ahead_is p old left held was = ap (λ (e : Bool). ahead_of e p.held left) was.ended ∙ ap (λ (h : List ℕ). ahead_of old.ended h left) was.held_is

-- ---- a record

kept : (run : Run) → is_record run ≡ true → (runs : List Run) → (if is_record run then run ∷ [] else []) ++ runs ≡ run ∷ runs
kept run is runs = ap (λ (t : Bool). (if t then run ∷ [] else []) ++ runs) is

gives_run : (limit : ℕ) (run : Run) (count : ℕ) (old new : Buffered) (before after : Input) (p q : RecordReader) → FindsRun limit run count old new before after → Has p old old.held → Has q new (drop count new.held) → GivesRun run p q before after
gives_run limit run count old new before after p q f was is = record {
  takes =
      subst (λ (a : Option (List ℕ)). TakesRuns a (bytes_ahead q after.left) (run ∷ [])) (sym (ahead_is p old before.left old.held was))
      (subst (λ (a : Option (List ℕ)). TakesRuns (ahead_of old.ended old.held before.left) a (run ∷ [])) (sym (ahead_is q new after.left (drop count new.held) is))
      (passed_runs old new before after f.goes.bytes (drop count new.held) (run ∷ []) f.goes.fills
      (λ more none. front_records run (old.held ++ f.goes.bytes) (drop count new.held) more new.ended f.front none ∙ kept run f.is_record (sd_records (drop count new.held ++ more)))));
  first = record {
    bytes = f.goes.bytes;
    takes = f.goes.fills.takes;
    taken = let a = was.taken in let b = is.taken in let c = f.goes.fills.taken in omega arith;
    going = λ going. was.ended ∙ was_going old new before after f.goes.bytes f.goes.fills (sym is.ended ∙ going);
    ended = λ going later.
        ap (λ (x : List ℕ). ended_records ((x ++ f.goes.bytes) ++ later)) was.held_is
        ∙ (front_ended run (old.held ++ f.goes.bytes) (drop count new.held) later new.ended f.front (sym is.ended ∙ going)
        ∙ ap (λ (x : List ℕ). run ∷ ended_records (x ++ later)) (sym is.held_is));
  };
}

pub gives_record : (limit count : ℕ) (old new : Buffered) (before after : Input) (ranges : List Span) (p q : RecordReader) → FindsRecord limit count old new before after ranges → Has p old old.held → Has q new (drop count new.held) → q.lines ≡ map (part (take count new.held)) ranges
    → GivesRecord p q before after
gives_record limit count old new before after ranges p q f was is lines = record {
  run = f.run;
  gives = gives_run limit f.run count old new before after p q f.finds was is;
  none = f.none;
  lines = lines ∙ texts_are (take count new.held) ranges f.run.lines f.spans;
}

pub gives_refusal : (limit : ℕ) (fault : Fault) (old new : Buffered) (before after : Input) (p q : RecordReader) → FindsLong limit fault old new before after → Has p old old.held → Has q new (drop 0 new.held) → GivesRefusal (refusal_of fault) p q before after
gives_refusal limit fault old new before after p q f was is = record {
  run = f.run;
  gives = gives_run limit f.run 0 old new before after p q f.finds was is;
  shown = subst (λ (found : Option Fault). IsShown (length_faults f.run) found) f.first (first_is_shown (length_faults f.run));
}

-- ---- what was taken

pub goes_unread : (limit : ℕ) (old new : Buffered) (before after : Input) (p : RecordReader) → Goes limit old new before after → Has p old old.held → (ended_records p.held ≡ []) ⊎ (after ≡ before)
goes_unread limit old new before after p goes was = elim goes.unread [
  | inl none ↦ inr none.0
  | inr none ↦ inl (ap ended_records was.held_is ∙ none)
]

stop_unread : (limit : ℕ) (old new : Buffered) (before after : Input) (last : List ℕ) (p : RecordReader) → StopsWithin limit old new before after last → Has p old old.held → (ended_records p.held ≡ []) ⊎ (after ≡ before)
stop_unread limit old new before after last p s was = inl (ap ended_records was.held_is ∙ none_in_front old.held s.front s.none)

pub stops_unread : (limit : ℕ) (stop : ReadStop) (old new : Buffered) (before after : Input) (p : RecordReader) → Stops limit stop old new before after → Has p old old.held → (ended_records p.held ≡ []) ⊎ (after ≡ before)
stops_unread limit ReadFault old new before after p s was = stop_unread limit old new before after [] p s.0 was
stops_unread limit InputLimit old new before after p s was = stop_unread limit old new before after s.0 p s.1 was
stops_unread limit NoMemory old new before after p s was = goes_unread limit old new before after p s was

-- ---- what a reader keeps true

within_spans : (limit count : ℕ) (old new : Buffered) (before after : Input) (ranges : List Span) → FindsRecord limit count old new before after ranges → AreWithin (take count new.held) ranges
within_spans limit count old new before after ranges f = record {
  few = let lines = few_of_run f.run (old.held ++ f.finds.goes.bytes) (drop count new.held) new.ended f.finds.front f.none in let same = count_is (take count new.held) ranges f.run.lines f.spans in omega arith;
  each = spans_within (take count new.held) ranges f.run.lines f.spans;
}

few_left : (limit : ℕ) (run : Run) (count passed : ℕ) (old new : Buffered) (before after : Input) → FindsRun limit run count old new before after → passed + length old.held ≤ old.taken → passed + 1 + length (drop count new.held) ≤ new.taken
few_left limit run count passed old new before after f few =
    let size = front_size run (old.held ++ f.goes.bytes) (drop count new.held) new.ended f.front f.is_record in
    let n = length-append old.held f.goes.bytes in
    let taken = f.goes.fills.taken in omega arith

-- before a call
pub few_held : (buffer passed : Buffered) (ranges : List Span) (whole count : ℕ) (answer : Option Answered) (reader : RecordReader) → records_of buffer ranges whole count answer ≡ reader → IsSound buffer ranges whole count answer → MayGoOn reader.answer → passed ≡ record buffer { held = drop whole buffer.held }
    → count + length passed.held ≤ passed.taken
few_held buffer passed ranges whole count answer reader is sound may moved =
    let few = sound.few (subst MayGoOn (sym (ap (λ (r : RecordReader). r.answer) is)) may) in
    let held : length passed.held ≡ length (drop whole buffer.held) = ap (λ (b : Buffered). length b.held) moved in
    let taken : passed.taken ≡ buffer.taken = ap (λ (b : Buffered). b.taken) moved in omega arith

pub few_passed : (limit : ℕ) (run : Run) (count passed : ℕ) (old new : Buffered) (before after : Input) → FindsRun limit run count old new before after → passed + length old.held ≤ old.taken → passed + 1 < 2 ^ 64
few_passed limit run count passed old new before after f few =
    let left = few_left limit run count passed old new before after f few in
    let small = f.goes.small in omega arith

pub record_sound : (limit count passed : ℕ) (old new : Buffered) (before after : Input) (ranges : List Span) (answer : Option Answered) → FindsRecord limit count old new before after ranges → passed + length old.held ≤ old.taken → new.room ≤ most_room → IsSound new ranges count (passed + 1) answer
record_sound limit count passed old new before after ranges answer f few room = record {
  inside = f.finds.within;
  parts = within_spans limit count old new before after ranges f;
  few = λ _. few_left limit f.run count passed old new before after f.finds few;
  room = room;
  small = λ _. f.finds.goes.small;
  beyond = λ _. f.finds.few;
}

none_within : (held : List ℕ) → AreWithin (take 0 held) []
none_within held = record { few = omega arith; each = All-nil (λ (r : Span). (r.from ≤ r.to) × (r.to ≤ length (take 0 held))) }

pub refused_sound : (limit passed : ℕ) (fault : Fault) (old new : Buffered) (before after : Input) (answer : Option Answered) → FindsLong limit fault old new before after → passed + length old.held ≤ old.taken → new.room ≤ most_room → IsSound new [] 0 (passed + 1) answer
refused_sound limit passed fault old new before after answer f few room = record {
  inside = omega arith;
  parts = none_within new.held;
  few = λ _. few_left limit f.run 0 passed old new before after f.finds few;
  room = room;
  small = λ _. f.finds.goes.small;
  beyond = λ _. f.finds.few;
}

-- Which records have ended while an input is read, and so which are answered where reading stops.
use Rattle.std.proofs.Common.{arith, ◌≡◌, ◌∙◌, ℕ, ◌+◌, ◌<◌, ◌≤◌, false, Bool, List, length, [], ◌∷◌, ◌++◌, filter, map, Option, Some, None, refl, sym, ap, subst}
use Rattle.std.proofs.lemmas.List.{append_assoc, append-nil, length-append}
use Rattle.mc_io.specs.declared.read_stop.ReadStop.{ReadStop}
use Rattle.mc_io.specs.declared.read_stop.ReadStop.TheVariants.{ReadFault, InputLimit, NoMemory}
use Rattle.mc_io.specs.Lines.{ended_lines}
use Rattle.mc_io.specs.LineReader.{EndsNone, GivesEnded, LineReader, fresh}
use Rattle.mc_io.specs.Outside.{Input, Outputs, Takes}
use Rattle.mc_io.proofs.Takings.{takes_none as none_taken, takes_trans as more_taken}
use Rattle.mc_convert.specs.declared.formats.Formats.{Formats}
use Rattle.mc_convert.specs.declared.formats.Origin.{Origin}
use Rattle.mc_convert.specs.declared.formats.Origin.TheVariants.{Smi}
use Rattle.mc_convert.specs.declared.records.Passed.{Passed}
use Rattle.mc_convert.specs.declared.records.Passed.TheVariants.{Line, TooLong}
use Rattle.mc_convert.specs.Answers.{Reply, IsAnswer, Answers, outs, reports}
use Rattle.mc_convert.specs.Ended.{EndsLine, EndsNoRecord, EndsRecord, EndsRecords, HoldsAt, HoldsEnded}
use Rattle.mc_convert.specs.Readers.{IsEmptyLine, IsSomeLine, TakesRecords, found}
use Rattle.mc_convert.specs.Records.{Record, ended_records, is_record, line_record}
use Rattle.mc_convert.specs.Runs.{Holds, IsShown}
use Rattle.mc_convert.specs.Statuses.{halt_of}
use Rattle.mc_convert.proofs.Running.{Progress, begun, went_on}
use Rattle.std.specs.Prelude.{◌↔◌, ◌||◌, IsTrue, Ok, Err}
use Rattle.std.specs.Io.KnownBytes.{prepend_known}

-- ---- records

pub ended_none : (from : Origin) (reader : LineReader) (now : Input) → EndsRecords from [] reader reader now now
ended_none from reader now = record {
  bytes = [];
  takes = none_taken now;
  taken = omega arith;
  going = λ going. going;
  ended = λ going later. ap (λ (x : List ℕ). ended_records from (x ++ later)) (append-nil reader.held);
}

apart : (front bytes more later : List ℕ) → (front ++ (bytes ++ more)) ++ later ≡ (front ++ bytes) ++ (more ++ later)
apart front bytes more later = ap (λ (x : List ℕ). x ++ later) (sym (append_assoc front bytes more)) ∙ append_assoc (front ++ bytes) more later

pub ended_trans : (from : Origin) (a b c : LineReader) (x y z : Input) (xs ys : List Record) → EndsRecords from xs a b x y → EndsRecords from ys b c y z → EndsRecords from (xs ++ ys) a c x z
ended_trans from a b c x y z xs ys p q = record {
  bytes = p.bytes ++ q.bytes;
  takes = more_taken x y z p.bytes q.bytes p.takes q.takes;
  taken = let n = length-append p.bytes q.bytes in let first = p.taken in let second = q.taken in omega arith;
  going = λ going. p.going (q.going going);
  ended = λ going later.
      ap (ended_records from) (apart a.held p.bytes q.bytes later) ∙ p.ended (q.going going) (q.bytes ++ later)
      ∙ ap (λ (l : List ℕ). xs ++ ended_records from l) (sym (append_assoc b.held q.bytes later)) ∙ ap (λ (l : List Record). xs ++ l) (q.ended going later)
      ∙ sym (append_assoc xs ys (ended_records from (c.held ++ later)));
}

-- the lines that are records
abbrev kept : List (Option (List ℕ)) → List Record
kept lines = map line_record (filter is_record lines)

one_kept : (line : Option (List ℕ)) (lines : List (Option (List ℕ))) → kept (line ∷ lines) ≡ kept (line ∷ []) ++ kept lines
one_kept None lines = refl
one_kept (Some []) lines = refl
one_kept (Some (b ∷ text)) lines = refl

-- a line is a record, or an empty one
pub line_ended : (line : Option (List ℕ)) (a b : LineReader) (x y : Input) → GivesEnded (line ∷ []) a b x y → EndsRecords Smi (kept (line ∷ [])) a b x y
line_ended line a b x y e = record {
  bytes = e.bytes;
  takes = e.takes;
  taken = e.taken;
  going = e.going;
  ended = λ going later. ap kept (e.ended going later) ∙ one_kept line (ended_lines (b.held ++ later));
}

empty_ended : (text : List ℕ) (a b : LineReader) (x y : Input) → text ≡ [] → GivesEnded (Some text ∷ []) a b x y → EndsRecords Smi [] a b x y
empty_ended text a b x y none e = subst (λ (t : List ℕ). EndsRecords Smi (kept (Some t ∷ [])) a b x y) none (line_ended (Some text) a b x y e)

some_ended : (text : List ℕ) (a b : LineReader) (x y : Input) → 0 < length text → GivesEnded (Some text ∷ []) a b x y → EndsRecords Smi (found Line text ∷ []) a b x y
some_ended [] a b x y some e = absurd (omega arith)
some_ended (t ∷ text) a b x y some e = line_ended (Some (t ∷ text)) a b x y e

none_ended : (limit : ℕ) (a b c : LineReader) (x y z : Input) (last : List ℕ) → EndsRecords Smi [] a b x y → (a.taken ≤ limit → b.taken ≤ limit) → EndsNone limit b c y z last → EndsNoRecord Smi limit a x z last
none_ended limit a b c x y z last p within s = record {
  front = p.bytes ++ s.front;
  takes = subst (Takes x z) (sym (append_assoc p.bytes s.front last)) (more_taken x y z p.bytes (s.front ++ last) p.takes s.takes);
  few = s.few;
  going = p.going s.going;
  none = ap (ended_records Smi) (sym (append_assoc a.held p.bytes s.front)) ∙ p.ended s.going s.front ∙ ap kept s.none;
  within = λ low. let n = length-append p.bytes s.front in let first = p.taken in let later = s.within (within low) in omega arith;
}

-- a record behind empty lines
pub next_ended : (limit : ℕ) (next : Option Passed) (a b c : LineReader) (x : Input) (y z : ℕ → Input) → b.input ≡ a.input → IsSomeLine c.text next → EndsRecords Smi [] a b x (y a.input)
    → EndsLine limit (Ok next) b c (y b.input) (z b.input) → EndsRecord Smi limit (Ok next) a c x (z a.input)
next_ended limit next a b c x y z same some p e = by_next next some (subst (λ (i : ℕ). EndsLine limit (Ok next) b c (y i) (z i)) same e)
  where
    by_next : (next : Option Passed) → IsSomeLine c.text next → EndsLine limit (Ok next) b c (y a.input) (z a.input) → EndsRecord Smi limit (Ok next) a c x (z a.input)
    by_next None some e = tt
    by_next (Some Line) some e = ended_trans Smi a b c x (y a.input) (z a.input) [] (found Line c.text ∷ []) p (some_ended c.text b c (y a.input) (z a.input) some e)
    by_next (Some TooLong) some e = ended_trans Smi a b c x (y a.input) (z a.input) [] (found TooLong c.text ∷ []) p (line_ended None b c (y a.input) (z a.input) e)

-- a stop behind empty lines
pub stop_ended : (limit : ℕ) (stop : ReadStop) (a b c : LineReader) (x : Input) (y z : ℕ → Input) → b.input ≡ a.input → b.taken ≤ limit → EndsRecords Smi [] a b x (y a.input)
    → EndsLine limit (Err stop) b c (y b.input) (z b.input) → EndsRecord Smi limit (Err stop) a c x (z a.input)
stop_ended limit stop a b c x y z same within p e = by_stop stop (subst (λ (i : ℕ). EndsLine limit (Err stop) b c (y i) (z i)) same e)
  where
    by_stop : (stop : ReadStop) → EndsLine limit (Err stop) b c (y a.input) (z a.input) → EndsRecord Smi limit (Err stop) a c x (z a.input)
    by_stop ReadFault e = none_ended limit a b c x (y a.input) (z a.input) [] p (λ low. within) e
    by_stop InputLimit e = (e.0, none_ended limit a b c x (y a.input) (z a.input) e.0 p (λ low. within) e.1)
    by_stop NoMemory e = tt

pub empty_passed_on : (limit : ℕ) (next : Option Passed) (a b c : LineReader) (x : Input) (y z : ℕ → Input) → b.input ≡ a.input → IsEmptyLine c.text next → EndsRecords Smi [] a b x (y a.input)
    → EndsLine limit (Ok next) b c (y b.input) (z b.input) → EndsRecords Smi [] a c x (z a.input)
empty_passed_on limit None a b c x y z same none p e = absurd none
empty_passed_on limit (Some Line) a b c x y z same none p e =
    let one = subst (λ (i : ℕ). GivesEnded (Some c.text ∷ []) b c (y i) (z i)) same e in
    ended_trans Smi a b c x (y a.input) (z a.input) [] [] p (empty_ended c.text b c (y a.input) (z a.input) none one)
empty_passed_on limit (Some TooLong) a b c x y z same none p e = absurd none

-- ---- a run

-- The records that were answered so far are those that have ended in the bytes taken so far and aren't held.
pub record Served (formats : Formats) (number : ℕ) (refused : Bool) (input ahead : Option (List ℕ)) (old new : Outputs) (reader : LineReader) (before now : Input) : Type 0 where
  pub progress : Progress formats number refused input ahead old new
  pub ended : EndsRecords formats.from progress.done (fresh 0) reader before now

pub served_none : (formats : Formats) (input : Option (List ℕ)) (held : Outputs) (now : Input) → Served formats 0 false input (prepend_known [] input) held held (fresh 0) now now
unfolding begun
served_none formats input held now = record { progress = begun formats input held; ended = ended_none formats.from (fresh 0) now }

pub served_on : (formats : Formats) (limit n m : ℕ) (r shown : Bool) (input ahead rest : Option (List ℕ)) (old mid new : Outputs) (passed : Passed) (reply : Reply) (a b : LineReader) (x : Input) (y z : ℕ → Input)
    → Served formats n r input ahead old mid a x (y 0) → TakesRecords formats.from ahead rest (found passed b.text ∷ []) → m ≡ n + 1 → IsAnswer formats.to m (found passed b.text) reply
    → (IsTrue shown ↔ IsShown formats.to (found passed b.text)) → Holds reply mid new
    → a.input ≡ 0 → EndsRecord formats.from limit (Ok (Some passed)) a b (y a.input) (z a.input) → Served formats m (r || shown) input rest old new b x (z 0)
unfolding went_on
served_on formats limit n m r shown input ahead rest old mid new passed reply a b x y z s takes number answer is_shown held first ends =
    let one = subst (λ (i : ℕ). EndsRecords formats.from (found passed b.text ∷ []) a b (y i) (z i)) first ends in record {
      progress = went_on formats n m r shown input ahead rest old mid new (found passed b.text) reply s.progress takes number answer is_shown held;
      ended = ended_trans formats.from (fresh 0) a b x (y 0) (z 0) s.progress.done (found passed b.text ∷ []) s.ended one;
    }

holds_ended : (formats : Formats) (limit n : ℕ) (r : Bool) (input ahead : Option (List ℕ)) (old mid : Outputs) (a : LineReader) (x y z : Input) (last : List ℕ)
    → Served formats n r input ahead old mid a x y → a.taken ≤ limit → EndsNoRecord formats.from limit a y z last → HoldsEnded formats limit x z old mid last
holds_ended formats limit n r input ahead old mid a x y z last s low e =
    let p = s.progress in
    let first = s.ended in
    let all : p.done ≡ ended_records formats.from (first.bytes ++ e.front) = sym (first.ended e.going e.front ∙ ap (λ (l : List Record). p.done ++ l) e.none ∙ append-nil p.done) in record {
      front = first.bytes ++ e.front;
      takes = subst (Takes x z) (sym (append_assoc first.bytes e.front last)) (more_taken x y z first.bytes (e.front ++ last) first.takes e.takes);
      within = let size = length-append first.bytes e.front in let taken = first.taken in let within = e.within low in omega arith;
      answered = record {
        more0 = outs p.replies;
        more1 = reports p.replies;
        out = p.in_out;
        report = p.in_report;
        holds = record { replies = p.replies; answers = subst (λ (l : List Record). Answers formats.to 1 l p.replies) all p.answers; out = refl; report = refl };
      };
    }

pub holds_at : (formats : Formats) (limit : ℕ) (stop : ReadStop) (n : ℕ) (r : Bool) (input ahead : Option (List ℕ)) (old mid : Outputs) (a b : LineReader) (x : Input) (y z : ℕ → Input)
    → Served formats n r input ahead old mid a x (y 0) → a.taken ≤ limit → a.input ≡ 0
    → EndsRecord formats.from limit (Err stop) a b (y a.input) (z a.input) → HoldsAt formats limit (Err (halt_of stop)) x (z 0) old mid
holds_at formats limit stop n r input ahead old mid a b x y z s low first ends = by_stop stop (subst (λ (i : ℕ). EndsRecord formats.from limit (Err stop) a b (y i) (z i)) first ends)
  where
    by_stop : (stop : ReadStop) → EndsRecord formats.from limit (Err stop) a b (y 0) (z 0) → HoldsAt formats limit (Err (halt_of stop)) x (z 0) old mid
    by_stop ReadFault e = holds_ended formats limit n r input ahead old mid a x (y 0) (z 0) [] s low e
    by_stop InputLimit e = record { last = e.0; few = e.1.few; holds = holds_ended formats limit n r input ahead old mid a x (y 0) (z 0) e.0 s low e.1 }
    by_stop NoMemory e = tt

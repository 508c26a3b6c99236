-- What the outputs have got while a run answers records, and when it ends.
use Rattle.std.proofs.Common.{◌≡◌, ℕ, ◌+◌, ◌≤◌, List, [], ◌∷◌, ◌++◌, length, take, drop, Option, Some, None, Bool, true, false, refl, ap, sym, ◌∙◌, subst, inl, inr, arith}
use Rattle.std.specs.Prelude.{◌⊎◌, ◌↔◌, ◌||◌, IsTrue, IfSome, Result, Err}
use Rattle.std.proofs.lemmas.Bool.{false≢true}
use Rattle.std.specs.Io.KnownBytes.{Appends, IsAtEnd, prepend_known}
use Rattle.std.proofs.KnownBytes.{Appends-nil, Appends-trans, prepend_known-nil}
use Rattle.std.proofs.lemmas.List.{append_assoc, append-nil, length-append, length-take, take-append-drop}
use Rattle.mc_io.specs.declared.read_stop.ReadStop.{ReadStop}
use Rattle.mc_io.specs.declared.read_stop.ReadStop.TheVariants.{ReadFault, InputLimit, NoMemory}
use Rattle.mc_io.specs.Outside.{AppendsPart, SameBut, Input, Outputs}
use Rattle.mc_io.specs.LineReader.{LineReader, ahead, Reading, fresh}
use Rattle.mc_convert.specs.declared.formats.Formats.{Formats}
use Rattle.mc_convert.specs.declared.formats.Origin.{Origin}
use Rattle.mc_convert.specs.declared.formats.Target.{Target}
use Rattle.mc_convert.specs.declared.records.Passed.{Passed}
use Rattle.mc_convert.specs.declared.status.Halt.{Halt}
use Rattle.mc_convert.specs.declared.status.Halt.TheVariants.{ReadFault as ReadHalt, InputLimit as LimitHalt, WriteFault as WriteHalt, NoMemory as MemoryHalt}
use Rattle.mc_convert.specs.declared.status.Status.TheVariants.{Memory}
use Rattle.mc_convert.specs.Records.{Record, records}
use Rattle.mc_report.specs.Report.{line_ends}
use Rattle.mc_report.proofs.OneLine.{ends_append}
use Rattle.mc_convert.specs.Readers.{HasEnded, TakesRecords, GivesRecord}
use Rattle.mc_convert.specs.Answers.{Reply, IsAnswer, Answers, outs, reports, Whole, Stopped, LacksLine}
use Rattle.mc_convert.specs.Runs.{Grown, AnswersSome, AnswersLess, IsShown, SomeShown, AllIsHeld, Holds, HoldsLess, RanWhole, HasStopped, IsWhole}
use Rattle.mc_convert.specs.Statuses.{halt_of, status_of}
use Rattle.mc_convert.proofs.ReaderSteps.{records_of_none, takes_trans, takes_none, reading_trans, same_but_trans, rose_later}
use Rattle.mc_convert.proofs.OneAnswer.{all_lines, part_clear}

-- The records that were answered so far.
pub record Progress (formats : Formats) (number : ℕ) (refused : Bool) (input ahead : Option (List ℕ)) (old new : Outputs) : Type 0 where
  pub done : List Record
  pub replies : List Reply
  pub count : length done ≡ number
  pub takes : TakesRecords formats.from input ahead done
  pub answers : Answers formats.to 1 done replies
  pub in_out : Appends (old.held 0) (new.held 0) (outs replies)
  pub in_report : Appends (old.held 1) (new.held 1) (reports replies)
  pub shown : IsTrue refused ↔ SomeShown formats.to done

-- ---- lists of answers

pub answers_push : (to : Target) (k : ℕ) (done : List Record) (replies : List Reply) (text : Record) (reply : Reply)
    → Answers to k done replies → IsAnswer to (k + length done) text reply → Answers to k (done ++ text ∷ []) (replies ++ reply ∷ [])
answers_push to k [] [] text reply h a = let P : ℕ → Type 0 = λ i. IsAnswer to i text reply in (subst P (omega arith) a, tt)
answers_push to k [] (r ∷ replies) text reply h a = absurd h
answers_push to k (t ∷ done) [] text reply h a = absurd h
answers_push to k (t ∷ done) (r ∷ replies) text reply (one, more) a =
    let P : ℕ → Type 0 = λ i. IsAnswer to i text reply in
    let at_number : k + length (t ∷ done) ≡ k + 1 + length done = omega arith in
    (one, answers_push to (k + 1) done replies text reply more (subst P at_number a))

answers_count : (to : Target) (k : ℕ) (done : List Record) (replies : List Reply) → Answers to k done replies → length done ≡ length replies
answers_count to k [] [] h = refl
answers_count to k [] (r ∷ replies) h = absurd h
answers_count to k (t ∷ done) [] h = absurd h
answers_count to k (t ∷ done) (r ∷ replies) (one, more) = let e = answers_count to (k + 1) done replies more in omega arith

pub outs_push : (replies : List Reply) (reply : Reply) → outs (replies ++ reply ∷ []) ≡ outs replies ++ reply.out
outs_push [] reply = append-nil reply.out
outs_push (r ∷ replies) reply = ap (λ x. r.out ++ x) (outs_push replies reply) ∙ sym (append_assoc r.out (outs replies) reply.out)

pub reports_push : (replies : List Reply) (reply : Reply) → reports (replies ++ reply ∷ []) ≡ reports replies ++ reply.report
reports_push [] reply = append-nil reply.report
reports_push (r ∷ replies) reply = ap (λ x. r.report ++ x) (reports_push replies reply) ∙ sym (append_assoc r.report (reports replies) reply.report)

shown_push : (to : Target) (done : List Record) (text : Record) → SomeShown to done ⊎ IsShown to text → SomeShown to (done ++ text ∷ [])
shown_push to [] text (inl h) = absurd h
shown_push to [] text (inr h) = inl h
shown_push to (t ∷ done) text (inl (inl h)) = inl h
shown_push to (t ∷ done) text (inl (inr h)) = inr (shown_push to done text (inl h))
shown_push to (t ∷ done) text (inr h) = inr (shown_push to done text (inr h))

shown_pop : (to : Target) (done : List Record) (text : Record) → SomeShown to (done ++ text ∷ []) → SomeShown to done ⊎ IsShown to text
shown_pop to [] text (inl h) = inr h
shown_pop to [] text (inr h) = absurd h
shown_pop to (t ∷ done) text (inl h) = inl (inl h)
shown_pop to (t ∷ done) text (inr h) = elim (shown_pop to done text h) [ inl there ↦ inl (inr there) | inr here ↦ inr here ]

pub either_shown : (to : Target) (r b : Bool) (done : List Record) (text : Record) → (IsTrue r ↔ SomeShown to done) → (IsTrue b ↔ IsShown to text) → IsTrue (r || b) ↔ SomeShown to (done ++ text ∷ [])
either_shown to true b done text some one = (λ _. shown_push to done text (inl (some.0 refl)), λ _. refl)
either_shown to false b done text some one =
    (λ on. shown_push to done text (inr (one.0 on)), λ h. elim (shown_pop to done text h) [ inl there ↦ absurd (false≢true (some.1 there)) | inr here ↦ one.1 here ])

take_front : (xs ys : List Record) (n : ℕ) → n ≡ length xs → take n (xs ++ ys) ≡ xs
take_front xs ys n e = ap (λ i. take i (xs ++ ys)) e ∙ front xs
  where
    front : (xs : List Record) → take (length xs) (xs ++ ys) ≡ xs
    front [] = refl
    front (x ∷ xs) = ap (λ l. x ∷ l) (front xs)

if_some : {A : Type 0} (o : Option A) (P Q : A → Type 0) → ((x : A) → P x → Q x) → IfSome o P → IfSome o Q
if_some None P Q f h = tt
if_some (Some x) P Q f h = f x h

-- ---- from the first record to the next

unfoldable pub begun : (formats : Formats) (input : Option (List ℕ)) (held : Outputs) → Progress formats 0 false input (prepend_known [] input) held held
begun formats input held =
    let P : Option (List ℕ) → Type 0 = λ x. TakesRecords formats.from input x [] in record {
      done = [];
      replies = [];
      count = refl;
      takes = subst P (sym (prepend_known-nil input)) (takes_none formats.from input);
      answers = tt;
      in_out = Appends-nil (held.held 0);
      in_report = Appends-nil (held.held 1);
      shown = (λ on. absurd (false≢true on), λ h. absurd h);
    }

unfoldable pub went_on : (formats : Formats) (n m : ℕ) (r b : Bool) (input ahead rest : Option (List ℕ)) (old mid new : Outputs) (text : Record) (reply : Reply)
    → Progress formats n r input ahead old mid → TakesRecords formats.from ahead rest (text ∷ []) → m ≡ n + 1 → IsAnswer formats.to m text reply → (IsTrue b ↔ IsShown formats.to text) → Holds reply mid new
    → Progress formats m (r || b) input rest old new
went_on formats n m r b input ahead rest old mid new text reply p takes next answer shown held =
    let count = p.count in
    let Numbered : ℕ → Type 0 = λ i. IsAnswer formats.to i text reply in
    let at_number : m ≡ 1 + length p.done = omega arith in
    let Out : List ℕ → Type 0 = λ l. Appends (old.held 0) (new.held 0) l in
    let Report : List ℕ → Type 0 = λ l. Appends (old.held 1) (new.held 1) l in
    let more = length-append p.done (text ∷ []) in record {
      done = p.done ++ text ∷ [];
      replies = p.replies ++ reply ∷ [];
      count = omega arith;
      takes = takes_trans formats.from input ahead rest p.done (text ∷ []) p.takes takes;
      answers = answers_push formats.to 1 p.done p.replies text reply p.answers (subst Numbered at_number answer);
      in_out = subst Out (sym (outs_push p.replies reply)) (Appends-trans (old.held 0) (mid.held 0) (new.held 0) (outs p.replies) reply.out p.in_out held.in_out);
      in_report = subst Report (sym (reports_push p.replies reply)) (Appends-trans (old.held 1) (mid.held 1) (new.held 1) (reports p.replies) reply.report p.in_report held.in_report);
      shown = either_shown formats.to r b p.done text p.shown shown;
    }

-- ---- the end

all_taken : (from : Origin) (input ahead rest : Option (List ℕ)) (done : List Record) → TakesRecords from input ahead done → TakesRecords from ahead rest [] → IsAtEnd rest → IfSome input (λ bytes. done ≡ records from bytes)
all_taken from None ahead rest done first last none = tt
all_taken from (Some a) None rest done first last none = absurd first
all_taken from (Some a) (Some b) None done first last none = absurd last
all_taken from (Some a) (Some b) (Some c) done first last none = sym (first ∙ ap (λ l. done ++ l) (last ∙ (ap (records from) none ∙ records_of_none from)) ∙ append-nil done)

pub ran_whole : (formats : Formats) (n : ℕ) (r : Bool) (ahead rest : Option (List ℕ)) (before after : Input) (old new : Outputs)
    → Progress formats n r before.left ahead old new → TakesRecords formats.from ahead rest [] → IsAtEnd rest → IsTrue after.ended → RanWhole formats r before after old new
ran_whole formats n r ahead rest before after old new p takes none ended =
    let all = all_taken formats.from before.left ahead rest p.done p.takes takes none in
    let Same : List ℕ → Type 0 = λ bytes. p.done ≡ records formats.from bytes in record {
      at_end = ended;
      all = if_some before.left Same (λ bytes. Grown old new (Whole formats.to (records formats.from bytes))) (λ bytes is. record {
        more0 = outs p.replies;
        more1 = reports p.replies;
        out = p.in_out;
        report = p.in_report;
        holds = record { replies = p.replies; answers = subst (λ (x : List Record). Answers formats.to 1 x p.replies) is p.answers; out = refl; report = refl };
      }) all;
      shown = if_some before.left Same (λ bytes. IsTrue r ↔ SomeShown formats.to (records formats.from bytes)) (λ bytes is. subst (λ (x : List Record). IsTrue r ↔ SomeShown formats.to x) is p.shown) all;
    }

-- ---- a stop

record IsFront (from : Origin) (done : List Record) (bytes : List ℕ) : Type 0 where
  rest : List Record
  is : records from bytes ≡ done ++ rest

front_taken : (from : Origin) (input ahead : Option (List ℕ)) (done : List Record) → TakesRecords from input ahead done → IfSome input (IsFront from done)
front_taken from None ahead done h = tt
front_taken from (Some a) None done h = absurd h
front_taken from (Some a) (Some b) done h = record { rest = records from b; is = h }

record EndsWith (replies : List Reply) : Type 0 where
  before : List Reply
  last : Reply
  is : replies ≡ before ++ last ∷ []

ends_with : (replies : List Reply) → (replies ≡ []) ⊎ EndsWith replies
ends_with [] = inl refl
ends_with (r ∷ replies) = onto (ends_with replies)
  where
    onto : (replies ≡ []) ⊎ EndsWith replies → (r ∷ replies ≡ []) ⊎ EndsWith (r ∷ replies)
    onto (inl none) = inr (record { before = []; last = r; is = ap (λ l. r ∷ l) none })
    onto (inr e) = inr (record { before = r ∷ e.before; last = e.last; is = ap (λ l. r ∷ l) e.is })

-- behind whole answers
stopped_whole : (to : Target) (texts done rest : List Record) (replies : List Reply) → texts ≡ done ++ rest → Answers to 1 done replies → Stopped to texts (outs replies) (reports replies)
stopped_whole to texts done rest replies is answers = by_end (ends_with replies)
  where
    by_end : (replies ≡ []) ⊎ EndsWith replies → Stopped to texts (outs replies) (reports replies)
    by_end (inl none) = inl (ap outs none, ap reports none)
    by_end (inr e) =
        let count = answers_count to 1 done replies answers in
        let more = length-append e.before (e.last ∷ []) in
        let whole = ap (λ (x : List Reply). length x) e.is in
        let front : done ≡ take (length e.before + 1) texts = sym (ap (take (length e.before + 1)) is ∙ take_front done rest (length e.before + 1) (omega arith)) in
        let First : List Reply → Type 0 = λ x. Answers to 1 done x in
        let Of : List Record → Type 0 = λ x. Answers to 1 x (e.before ++ e.last ∷ []) in
        inr (record {
          before = e.before;
          last = e.last;
          part0 = e.last.out;
          part1 = e.last.report;
          answers = subst Of front (subst First e.is answers);
          part = inr (refl, ([], sym (append-nil e.last.report)));
          out = ap outs e.is ∙ outs_push e.before e.last;
          report = ap reports e.is ∙ reports_push e.before e.last;
        })

pub stopped_between : (formats : Formats) (n : ℕ) (r : Bool) (input ahead : Option (List ℕ)) (old new : Outputs) → Progress formats n r input ahead old new → AnswersSome formats input old new
stopped_between formats n r input ahead old new p =
    if_some input (IsFront formats.from p.done) (λ bytes. Grown old new (Stopped formats.to (records formats.from bytes))) (λ bytes f. record {
      more0 = outs p.replies;
      more1 = reports p.replies;
      out = p.in_out;
      report = p.in_report;
      holds = stopped_whole formats.to (records formats.from bytes) p.done f.rest p.replies f.is p.answers;
    }) (front_taken formats.from input ahead p.done p.takes)

-- within an answer
pub stopped_within : (formats : Formats) (n m : ℕ) (r : Bool) (input ahead rest : Option (List ℕ)) (old mid new : Outputs) (text : Record) (reply : Reply)
    → Progress formats n r input ahead old mid → TakesRecords formats.from ahead rest (text ∷ []) → m ≡ n + 1 → IsAnswer formats.to m text reply → HoldsLess reply mid new
    → AnswersSome formats input old new
stopped_within formats n m r input ahead rest old mid new text reply p takes next answer held =
    let done : List Record = p.done ++ text ∷ [] in
    let count = p.count in
    let Numbered : ℕ → Type 0 = λ i. IsAnswer formats.to i text reply in
    let at_number : m ≡ 1 + length p.done = omega arith in
    let answers : Answers formats.to 1 done (p.replies ++ reply ∷ []) = answers_push formats.to 1 p.done p.replies text reply p.answers (subst Numbered at_number answer) in
    let same = answers_count formats.to 1 p.done p.replies p.answers in
    let more = length-append p.done (text ∷ []) in
    let Of : List Record → Type 0 = λ x. Answers formats.to 1 x (p.replies ++ reply ∷ []) in
    if_some input (IsFront formats.from done) (λ bytes. Grown old new (Stopped formats.to (records formats.from bytes))) (λ bytes f. record {
      more0 = outs p.replies ++ held.part0;
      more1 = reports p.replies ++ held.part1;
      out = Appends-trans (old.held 0) (mid.held 0) (new.held 0) (outs p.replies) held.part0 p.in_out held.in_out;
      report = Appends-trans (old.held 1) (mid.held 1) (new.held 1) (reports p.replies) held.part1 p.in_report held.in_report;
      holds = inr (record {
        before = p.replies;
        last = reply;
        part0 = held.part0;
        part1 = held.part1;
        answers = subst Of (sym (ap (take (length p.replies + 1)) f.is ∙ take_front done f.rest (length p.replies + 1) (omega arith))) answers;
        part = held.part;
        out = refl;
        report = refl;
      });
    }) (front_taken formats.from input rest done (takes_trans formats.from input ahead rest p.done (text ∷ []) p.takes takes))

-- the report lacks a line there
pub less_within : (formats : Formats) (n m : ℕ) (r : Bool) (input ahead rest : Option (List ℕ)) (old mid new : Outputs) (text : Record) (reply : Reply)
    → Progress formats n r input ahead old mid → TakesRecords formats.from ahead rest (text ∷ []) → IsAnswer formats.to m text reply → HoldsLess reply mid new
    → AnswersLess formats input old new
less_within formats n m r input ahead rest old mid new text reply p takes answer held =
    let done : List Record = p.done ++ text ∷ [] in
    if_some input (IsFront formats.from done) (λ bytes. Grown old new (LacksLine (records formats.from bytes))) (λ bytes f. record {
      more0 = outs p.replies ++ held.part0;
      more1 = reports p.replies ++ held.part1;
      out = Appends-trans (old.held 0) (mid.held 0) (new.held 0) (outs p.replies) held.part0 p.in_out held.in_out;
      report = Appends-trans (old.held 1) (mid.held 1) (new.held 1) (reports p.replies) held.part1 p.in_report held.in_report;
      holds = (
          let ends = ends_append (reports p.replies) held.part1 in
          let before = all_lines formats.to 1 p.done p.replies p.answers in
          let part = part_clear formats.to m text reply mid new answer held in
          let all = ap (λ (x : List Record). length x) f.is in
          let joined = length-append done f.rest in
          let more = length-append p.done (text ∷ []) in
          omega arith);
    }) (front_taken formats.from input rest done (takes_trans formats.from input ahead rest p.done (text ∷ []) p.takes takes))

-- ---- causes

pub read_stopped : (formats : Formats) (stop : ReadStop) (limit : ℕ) (new : LineReader) (start before after : Input) (a b : Outputs) → start.faults ≤ before.faults → HasEnded limit (Err stop) new before after
    → HasStopped formats (halt_of stop) start after a b
read_stopped formats ReadFault limit new start before after a b later h = (rose_later start.faults before.faults after.faults later h.1, h.2)
read_stopped formats InputLimit limit new start before after a b later h = h.1
read_stopped formats NoMemory limit new start before after a b later h = tt

-- how the reader and the source stand behind one more record
pub record Stepped (limit : ℕ) (next : Result (Option Passed) ReadStop) (new : LineReader) (start mid now : ℕ → Input) : Type 0 where
  pub reading : Reading (fresh 0) new (start 0) (now 0)
  pub ended : HasEnded limit next new (mid 0) (now 0)
  pub others : SameBut 0 start now
  pub input : new.input ≡ 0

pub stepped : (limit : ℕ) (next : Result (Option Passed) ReadStop) (reader new : LineReader) (start mid now : ℕ → Input)
    → reader.input ≡ 0 → Reading (fresh 0) reader (start 0) (mid 0) → SameBut 0 start mid
    → Reading reader new (mid reader.input) (now reader.input) → HasEnded limit next new (mid reader.input) (now reader.input) → SameBut reader.input mid now
    → Stepped limit next new start mid now
stepped limit next reader new start mid now input before kept step ended same =
    let P : ℕ → Type 0 = λ i. Reading reader new (mid i) (now i) in
    let Q : ℕ → Type 0 = λ i. HasEnded limit next new (mid i) (now i) in
    let R : ℕ → Type 0 = λ i. SameBut i mid now in
    let reading = reading_trans (fresh 0) reader new (start 0) (mid 0) (now 0) before (subst P input step) in record {
      reading = reading;
      ended = subst Q input ended;
      others = same_but_trans 0 start mid now kept (subst R input same);
      input = step.input ∙ input;
    }

pub gives_at : (from : Origin) (next : Result (Option Passed) ReadStop) (reader new : LineReader) (before after : ℕ → Input) → reader.input ≡ 0
    → GivesRecord from next (ahead reader (before reader.input).left) (ahead new (after reader.input).left) new.text → GivesRecord from next (ahead reader (before 0).left) (ahead new (after 0).left) new.text
gives_at from next reader new before after input h =
    let P : ℕ → Type 0 = λ i. GivesRecord from next (ahead reader (before i).left) (ahead new (after i).left) new.text in subst P input h

-- ---- a report that lacks a line isn't all of the report

same_growth : (old new : Option (List ℕ)) (before grown more : List ℕ) → old ≡ Some before → new ≡ Some (before ++ grown) → Appends old new more → line_ends grown ≡ line_ends more
same_growth old new before grown more was is h =
    let one : Appends (Some before) new more = subst (λ (o : Option (List ℕ)). Appends o new more) was h in
    let two : before ++ grown ≡ before ++ more = subst (λ (o : Option (List ℕ)). Appends (Some before) o more) is one in
    let a = ends_append before grown in
    let b = ends_append before more in
    let c = ap line_ends two in omega arith

pub not_all_held : (formats : Formats) (input : Option (List ℕ)) (old new : Outputs) → AnswersLess formats input old new → AllIsHeld formats input old new → ⊥
not_all_held formats input old new some all =
    let w = all.whole in
    let less : Grown old new (LacksLine (records formats.from all.bytes)) = subst (λ (o : Option (List ℕ)). AnswersLess formats o old new) all.input_is some in
    let lacks = less.holds in
    let same = same_growth (old.held 1) (new.held 1) all.before1 all.grown1 less.more1 all.old1_is all.new1_is less.report in
    let lines = all_lines formats.to 1 (records formats.from all.bytes) w.replies w.answers in
    let whole = ap line_ends w.report in omega arith

-- no stop but want of memory comes where all is held
pub only_memory : (formats : Formats) (halt : Halt) (before after : Input) (old new : Outputs) → HasStopped formats halt before after old new → IsTrue after.ended
    → AllIsHeld formats before.left old new → IsWhole (status_of halt) ⊎ (status_of halt ≡ Memory)
only_memory formats ReadHalt before after old new h ended all = absurd (false≢true (sym h.1 ∙ ended))
only_memory formats LimitHalt before after old new h ended all = absurd (false≢true (sym h ∙ ended))
only_memory formats WriteHalt before after old new h ended all = absurd (not_all_held formats before.left old new h.1 all)
only_memory formats MemoryHalt before after old new h ended all = inr refl

pub none_shown : (formats : Formats) (input : Option (List ℕ)) → IfSome input (λ all. IsTrue false ↔ SomeShown formats.to (records formats.from all)) → IfSome input (λ all. SomeShown formats.to (records formats.from all) → ⊥)
none_shown formats None h = tt
none_shown formats (Some all) h = λ shown. false≢true (h.1 shown)

pub some_shown : (formats : Formats) (input : Option (List ℕ)) → IfSome input (λ all. IsTrue true ↔ SomeShown formats.to (records formats.from all)) → IfSome input (λ all. SomeShown formats.to (records formats.from all))
some_shown formats None h = tt
some_shown formats (Some all) h = h.0 refl

-- ---- the answer to one record

pub nothing_held : (formats : Formats) (input : Option (List ℕ)) (held : Outputs) → AnswersSome formats input held held
nothing_held formats input held = stopped_between formats 0 false input (prepend_known [] input) held held (begun formats input held)

pub part_of_out : (reply : Reply) (old new : Outputs) → AppendsPart (old.held 0) (new.held 0) reply.out → new.held 1 ≡ old.held 1 → HoldsLess reply old new
part_of_out reply old new (n, within, part) same =
    let P : Option (List ℕ) → Type 0 = λ x. Appends (old.held 1) x [] in
    let len : length (take n reply.out) ≡ n = length-take n reply.out ∙ omega arith in record {
      part0 = take n reply.out;
      part1 = [];
      in_out = part;
      in_report = subst P (sym same) (Appends-nil (old.held 1));
      part = inl ((drop n reply.out, sym (take-append-drop n reply.out)), refl);
      less = omega arith;
    }

pub part_of_report : (reply : Reply) (old mid new : Outputs) → Appends (old.held 0) (mid.held 0) reply.out → new.held 0 ≡ mid.held 0 → mid.held 1 ≡ old.held 1 → AppendsPart (mid.held 1) (new.held 1) reply.report → HoldsLess reply old new
part_of_report reply old mid new whole kept same (n, within, part) =
    let P : Option (List ℕ) → Type 0 = λ x. Appends (old.held 0) x reply.out in
    let Q : Option (List ℕ) → Type 0 = λ x. Appends x (new.held 1) (take n reply.report) in
    let len : length (take n reply.report) ≡ n = length-take n reply.report ∙ omega arith in record {
      part0 = reply.out;
      part1 = take n reply.report;
      in_out = subst P (sym kept) whole;
      in_report = subst Q same part;
      part = inr (refl, (drop n reply.report, sym (take-append-drop n reply.report)));
      less = omega arith;
    }

pub all_of_both : (reply : Reply) (old mid new : Outputs) → Appends (old.held 0) (mid.held 0) reply.out → new.held 0 ≡ mid.held 0 → mid.held 1 ≡ old.held 1 → Appends (mid.held 1) (new.held 1) reply.report → Holds reply old new
all_of_both reply old mid new whole kept same lines =
    let P : Option (List ℕ) → Type 0 = λ x. Appends (old.held 0) x reply.out in
    let Q : Option (List ℕ) → Type 0 = λ x. Appends x (new.held 1) reply.report in record {
      in_out = subst P (sym kept) whole;
      in_report = subst Q same lines;
    }

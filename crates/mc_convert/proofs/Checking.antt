-- How far a check is, and what it has written.
use Rattle.std.proofs.Common.{arith, ◌≡◌, ℕ, zero, suc, ◌+◌, ◌<◌, ◌≤◌, List, [], ◌∷◌, ◌++◌, length, take, drop, Bool, true, false, Option, Some, None, refl, ap, sym, ◌∙◌, subst, inl, inr}
use Rattle.std.specs.Prelude.{◌&&◌, ◌↔◌, not, IfSome, IsTrue}
use Rattle.std.proofs.lemmas.Bool.{false≢true}
use Rattle.std.specs.List.{list_all}
use Rattle.std.specs.Io.KnownBytes.{Appends}
use Rattle.std.proofs.KnownBytes.{Appends-nil, Appends-trans}
use Rattle.std.proofs.lemmas.List.{append-nil, append_assoc, length-append, length-take, take-append-drop}
use Rattle.std.proofs.lemmas.List.Folds.{list_all-append}
use Rattle.mc_io.specs.LineReader.{ahead, fresh}
use Rattle.mc_io.specs.Outside.{AppendsPart, Input, Outputs, SameBut}
use Rattle.mc_convert.specs.declared.formats.Formats.{Formats}
use Rattle.mc_convert.specs.declared.formats.Target.{Target}
use Rattle.mc_convert.specs.declared.formats.Origin.{Origin}
use Rattle.mc_convert.specs.Records.{Record}
use Rattle.mc_convert.specs.declared.check_readers.CheckReaders.{CheckReaders}
use Rattle.mc_convert.specs.declared.finding.Finding.{Finding}
use Rattle.mc_convert.specs.declared.record_read.RecordRead.{RecordRead}
use Rattle.mc_convert.specs.declared.status.Halt.{Halt}
use Rattle.mc_convert.specs.declared.status.Halt.TheVariants.{ReadFault, InputLimit, WriteFault, NoMemory}
use Rattle.mc_convert.specs.Records.{records}
use Rattle.mc_convert.specs.Findings.{AreReadAs, IsReadAs, is_true, verdict_line}
use Rattle.mc_convert.specs.Checks.{Remaining, first, at_first, extra_line, extra_text, FindsOne, Finds, IsAllTrue, IsCheckPart, IsCheckText, verdict_lines}
use Rattle.mc_convert.specs.CheckSteps.{fresh_readers, Advance, ReadHalts, ReadsNext, TakesFirst, FindsNext, OneFound}
use Rattle.mc_convert.specs.CheckRuns.{AllFound, CheckHalts, CheckStopped, ChecksAll, ChecksSome, ChecksLess, RestChecked, RestCut, RestOf, RestStopped, FoundAll, GrownBy, IfKnown, IsLessThanText, LessAt, OneChecked, PutSome, Written}
use Rattle.mc_convert.proofs.CheckLifts.{ahead_kept, halts_later}
use Rattle.mc_convert.proofs.ReaderSteps.{rose_later}
use Rattle.mc_convert.proofs.FindingsOnce.{finds_push, finds_count, lines_push, less_than_front, less_than_extra, all_true_not}

-- a stop of the reading is one of the check
pub read_halts : (limit : ℕ) (halt : Halt) (readers : CheckReaders) (before after : ℕ → Input) (old new : Outputs) → ReadHalts limit halt readers before after → CheckHalts limit halt readers before after old new
read_halts limit ReadFault readers before after old new h = h
read_halts limit InputLimit readers before after old new h = h
read_halts limit NoMemory readers before after old new h = h
read_halts limit WriteFault readers before after old new h = absurd h

-- ---- the originals so far

-- so many originals are checked, and their lines are written up to these
pub record Front (formats : Formats) (number : ℕ) (all_true : Bool) (o c r : List ℕ) (originals converted report : Option (List ℕ)) (old new : Outputs) (lines : List ℕ) : Type 0 where
  pub o_left : List ℕ
  pub c_left : List ℕ
  pub r_left : List ℕ
  pub originals_are : originals ≡ Some o_left
  pub converted_are : converted ≡ Some c_left
  pub report_is : report ≡ Some r_left
  pub done : List Record
  pub findings : List Finding
  pub split : records formats.from o ≡ done ++ records formats.from o_left
  pub finds : Finds formats.to 1 done (at_first formats.to c r) findings (at_first formats.to c_left r_left)
  pub count : length done ≡ number
  pub true_is : list_all is_true findings ≡ all_true
  pub put : PutSome (old.held 0) (new.held 0) (verdict_lines 1 findings) lines

abbrev pub Progress : Formats → ℕ → Bool → Option (List ℕ) → Option (List ℕ) → Option (List ℕ) → Option (List ℕ) → Option (List ℕ) → Option (List ℕ) → Outputs → Outputs → List ℕ → Type 0
Progress formats number all_true o c r originals converted report old new lines = IfKnown o c r (λ x y z. Front formats number all_true x y z originals converted report old new lines)

pub if_known : (o c r : Option (List ℕ)) (P Q : List ℕ → List ℕ → List ℕ → Type 0) → ((x y z : List ℕ) → P x y z → Q x y z) → IfKnown o c r P → IfKnown o c r Q
if_known None c r P Q f h = tt
if_known (Some x) None r P Q f h = tt
if_known (Some x) (Some y) None P Q f h = tt
if_known (Some x) (Some y) (Some z) P Q f h = f x y z h

pub begun : (formats : Formats) (o c r : Option (List ℕ)) (held : Outputs) → Progress formats 0 true o c r (ahead (fresh 0) o) (ahead (fresh 1) c) (ahead (fresh 2) r) held held []
begun formats None c r held = tt
begun formats (Some x) None r held = tt
begun formats (Some x) (Some y) None held = tt
begun formats (Some x) (Some y) (Some z) held = record {
  o_left = x;
  c_left = y;
  r_left = z;
  originals_are = refl;
  converted_are = refl;
  report_is = refl;
  done = [];
  findings = [];
  split = refl;
  finds = refl;
  count = refl;
  true_is = refl;
  put = record { written = []; out = Appends-nil (held.held 0); split = refl };
}

pub fresh_begun : (formats : Formats) (readers : CheckReaders) (o c r : Option (List ℕ)) (held : Outputs) → readers ≡ fresh_readers
    → Progress formats 0 true o c r (ahead readers.originals o) (ahead readers.converted c) (ahead readers.report r) held held []
fresh_begun formats readers o c r held e = subst (λ (x : CheckReaders). Progress formats 0 true o c r (ahead x.originals o) (ahead x.converted c) (ahead x.report r) held held []) (sym e) (begun formats o c r held)

-- what the next of a list is, and what follows
from_first : (g : Record) (xs ys : List Record) → Some g ≡ first xs → ys ≡ drop 1 xs → xs ≡ g ∷ ys
from_first g [] ys e f = cc
from_first g (x ∷ xs) ys e f = cc

none_first : (xs : List Record) → None ≡ first xs → xs ≡ []
none_first [] e = refl
none_first (x ∷ xs) e = cc

pub no_more : {A : Type 0} (next : Option A) → ((x : A) → next ≡ Some x → ⊥) → next ≡ None
no_more None none = refl
no_more (Some x) none = absurd (none x refl)

-- what is known of one original, with the inputs at hand
record Taken (formats : Formats) (k : ℕ) (given : Record) (o_left c_left r_left : List ℕ) (originals converted report : Option (List ℕ)) (finding : Finding) : Type 0 where
  rest : List ℕ
  rest_is : originals ≡ Some rest
  begins : records formats.from o_left ≡ given ∷ records formats.from rest
  found : OneFound formats.to k given c_left r_left converted report finding

taken : (formats : Formats) (k : ℕ) (given : Record) (o_left c_left r_left : List ℕ) (originals converted report : Option (List ℕ)) (finding : Finding)
    → TakesFirst (records formats.from) (Some o_left) originals (Some given) → FindsNext formats.to k given (Some c_left) converted (Some r_left) report finding → Taken formats k given o_left c_left r_left originals converted report finding
taken formats k given o_left c_left r_left None converted report finding takes finds = absurd takes
taken formats k given o_left c_left r_left (Some rest) converted report finding takes finds = record { rest = rest; rest_is = refl; begins = from_first given (records formats.from o_left) (records formats.from rest) takes.0 takes.1; found = finds }

both : (a b p q : Bool) → a ≡ p → b ≡ q → a && b ≡ p && q
both a b p q e f = cc

last_true : (finding : Finding) → list_all is_true (finding ∷ []) ≡ is_true finding
last_true finding = by_test (is_true finding)
  where
    by_test : (b : Bool) → b && true ≡ b
    by_test true = refl
    by_test false = refl

-- one more original, with the number of its line
at_number : (to : Target) (done : List Record) (number k : ℕ) (given : Record) (before after : Remaining) (finding : Finding) → length done ≡ number → k ≡ number + 1 → FindsOne to k given before finding after
    → FindsOne to (1 + length done) given before finding after
at_number to done number k given before after finding count next one = subst (λ (n : ℕ). FindsOne to n given before finding after) (let e : k ≡ 1 + length done = omega arith in e) one

pub front_pushed : (formats : Formats) (number k : ℕ) (t u : Bool) (o c r : List ℕ) (o1 c1 r1 o2 c2 r2 : Option (List ℕ)) (old new : Outputs) (lines more : List ℕ) (given : Record)
    → Front formats number t o c r o1 c1 r1 old new lines → k ≡ number + 1 → TakesFirst (records formats.from) o1 o2 (Some given) → OneChecked formats.to k given c1 c2 r1 r2 lines more u → Front formats k (t && u) o c r o2 c2 r2 old new more
front_pushed formats number k t u o c r o1 c1 r1 o2 c2 r2 old new lines more given f next takes one =
    let takes' = subst (λ (x : Option (List ℕ)). TakesFirst (records formats.from) x o2 (Some given)) f.originals_are takes in
    let P : Option (List ℕ) → Type 0 = λ x. FindsNext formats.to k given x c2 r1 r2 one.finding in
    let Q : Option (List ℕ) → Type 0 = λ x. FindsNext formats.to k given (Some f.c_left) c2 x r2 one.finding in
    let s = taken formats k given f.o_left f.c_left f.r_left o2 c2 r2 one.finding takes' (subst Q f.report_is (subst P f.converted_are one.finds)) in
    let step = at_number formats.to f.done number k given (at_first formats.to f.c_left f.r_left) (at_first formats.to s.found.converted_left s.found.report_left) one.finding f.count next s.found.one in
    let many = finds_count formats.to 1 f.done (at_first formats.to c r) (at_first formats.to f.c_left f.r_left) f.findings f.finds in
    let count = f.count in
    let more = length-append f.done (given ∷ []) in
    let line : verdict_line k one.finding ≡ verdict_line (1 + length f.findings) one.finding = ap (λ (n : ℕ). verdict_line n one.finding) (let e : k ≡ 1 + length f.findings = omega arith in e) in
    record {
      o_left = s.rest;
      c_left = s.found.converted_left;
      r_left = s.found.report_left;
      originals_are = s.rest_is;
      converted_are = s.found.converted_is;
      report_is = s.found.report_is;
      done = f.done ++ given ∷ [];
      findings = f.findings ++ one.finding ∷ [];
      split = f.split ∙ ap (λ (x : List Record). f.done ++ x) s.begins ∙ sym (append_assoc f.done (given ∷ []) (records formats.from s.rest));
      finds = finds_push formats.to 1 f.done given (at_first formats.to c r) (at_first formats.to f.c_left f.r_left) (at_first formats.to s.found.converted_left s.found.report_left) f.findings one.finding f.finds step;
      count = omega arith;
      true_is = list_all-append is_true f.findings (one.finding ∷ []) ∙ both (list_all is_true f.findings) (list_all is_true (one.finding ∷ [])) t u f.true_is (last_true one.finding ∙ sym one.true_is);
      put = record {
        written = f.put.written;
        out = f.put.out;
        split =
            ap (λ (x : List ℕ). f.put.written ++ x) one.added ∙ sym (append_assoc f.put.written lines (verdict_line k one.finding))
            ∙ ap (λ (x : List ℕ). x ++ verdict_line k one.finding) f.put.split
            ∙ (ap (λ (x : List ℕ). verdict_lines 1 f.findings ++ x) line ∙ sym (lines_push 1 f.findings one.finding));
      };
    }

pub pushed : (formats : Formats) (number k : ℕ) (t u : Bool) (o c r o1 c1 r1 o2 c2 r2 : Option (List ℕ)) (old new : Outputs) (lines more : List ℕ) (given : Record)
    → Progress formats number t o c r o1 c1 r1 old new lines → k ≡ number + 1 → TakesFirst (records formats.from) o1 o2 (Some given) → OneChecked formats.to k given c1 c2 r1 r2 lines more u → Progress formats k (t && u) o c r o2 c2 r2 old new more
pushed formats number k t u o c r o1 c1 r1 o2 c2 r2 old new lines more given p next takes one =
    if_known o c r (λ x y z. Front formats number t x y z o1 c1 r1 old new lines) (λ x y z. Front formats k (t && u) x y z o2 c2 r2 old new more)
    (λ x y z f. front_pushed formats number k t u x y z o1 c1 r1 o2 c2 r2 old new lines more given f next takes one) p

-- some of the lines are written
pub put_more : (formats : Formats) (number : ℕ) (t : Bool) (o c r o1 c1 r1 : Option (List ℕ)) (old mid new : Outputs) (lines rest : List ℕ)
    → Progress formats number t o c r o1 c1 r1 old mid lines → PutSome (mid.held 0) (new.held 0) lines rest → Progress formats number t o c r o1 c1 r1 old new rest
put_more formats number t o c r o1 c1 r1 old mid new lines rest p some =
    if_known o c r (λ x y z. Front formats number t x y z o1 c1 r1 old mid lines) (λ x y z. Front formats number t x y z o1 c1 r1 old new rest) (λ x y z f. record {
      o_left = f.o_left;
      c_left = f.c_left;
      r_left = f.r_left;
      originals_are = f.originals_are;
      converted_are = f.converted_are;
      report_is = f.report_is;
      done = f.done;
      findings = f.findings;
      split = f.split;
      finds = f.finds;
      count = f.count;
      true_is = f.true_is;
      put = record {
        written = f.put.written ++ some.written;
        out = Appends-trans (old.held 0) (mid.held 0) (new.held 0) f.put.written some.written f.put.out some.out;
        split = append_assoc f.put.written some.written rest ∙ (ap (λ (x : List ℕ). f.put.written ++ x) some.split ∙ f.put.split);
      };
    }) p

-- ---- a stop

take_front : (xs ys : List Record) → take (length xs) (xs ++ ys) ≡ xs
take_front [] ys = refl
take_front (x ∷ xs) ys = ap (λ (l : List Record). x ∷ l) (take_front xs ys)

-- between two originals
pub stopped_between : (formats : Formats) (number : ℕ) (t : Bool) (o c r o1 c1 r1 : Option (List ℕ)) (old new : Outputs) (lines : List ℕ) → Progress formats number t o c r o1 c1 r1 old new lines → ChecksSome formats o c r (old.held 0) (new.held 0)
stopped_between formats number t o c r o1 c1 r1 old new lines p =
    if_known o c r (λ x y z. Front formats number t x y z o1 c1 r1 old new lines) (λ x y z. GrownBy (old.held 0) (new.held 0) (IsCheckPart formats x y z)) (λ x y z f. record {
      more = f.put.written;
      out = f.put.out;
      holds = inl (record {
        count = length f.done;
        findings = f.findings;
        after = at_first formats.to f.c_left f.r_left;
        finds = subst (λ (l : List Record). Finds formats.to 1 l (at_first formats.to y z) f.findings (at_first formats.to f.c_left f.r_left)) (sym (ap (take (length f.done)) f.split ∙ take_front f.done (records formats.from f.o_left))) f.finds;
        part = (lines, sym f.put.split);
      });
    }) p

-- within what was to be written
pub record Cut (formats : Formats) (o c r : List ℕ) (old new : Option (List ℕ)) : Type 0 where
  pub some : GrownBy old new (IsCheckPart formats o c r)
  pub less : GrownBy old new (IsLessThanText formats o c r)

pub stopped_within : (formats : Formats) (number : ℕ) (t : Bool) (o c r o1 c1 r1 : Option (List ℕ)) (old mid new : Outputs) (lines : List ℕ)
    → Progress formats number t o c r o1 c1 r1 old mid lines → AppendsPart (mid.held 0) (new.held 0) lines → ChecksSome formats o c r (old.held 0) (new.held 0) × ChecksLess formats o c r (old.held 0) (new.held 0)
stopped_within formats number t o c r o1 c1 r1 old mid new lines p part =
    let front : List ℕ = take part.0 lines in
    let rest : List ℕ = drop part.0 lines in
    let some = stopped_between formats number t o c r o1 c1 r1 old new rest (put_more formats number t o c r o1 c1 r1 old mid new lines rest p (record { written = front; out = part.2; split = take-append-drop part.0 lines })) in
    let F : List ℕ → List ℕ → List ℕ → Type 0 = λ x y z. Front formats number t x y z o1 c1 r1 old mid lines in (
      some,
      if_known o c r F (λ x y z. GrownBy (old.held 0) (new.held 0) (IsLessThanText formats x y z)) (λ x y z f. record {
        more = f.put.written ++ front;
        out = Appends-trans (old.held 0) (mid.held 0) (new.held 0) f.put.written front f.put.out part.2;
        holds = λ text is.
            let within = part.1 in
            let all = ap (λ (l : List ℕ). length l) f.put.split in
            let joined = length-append f.put.written lines in
            let put = length-append f.put.written front in
            let low = length-take part.0 lines in
            less_than_front formats x y z text f.done (records formats.from f.o_left) (at_first formats.to f.c_left f.r_left) f.findings (length (f.put.written ++ front)) f.finds f.split (omega arith) is;
      }) p,
    )

-- ---- steps of the loop

-- an original that was taken and read
pub record Given (from : Origin) (all rest : Option (List ℕ)) (original : RecordRead) : Type 0 where
  pub text : Record
  pub takes : TakesFirst (records from) all rest (Some text)
  pub reads : IsReadAs text original

pub given_of : (from : Origin) (all rest : Option (List ℕ)) (read : Option RecordRead) (original : RecordRead) → read ≡ Some original → ReadsNext from all rest read → Given from all rest original
given_of from all rest read original e r = by_given r.given (subst (λ (x : Option RecordRead). AreReadAs r.given x) e r.reads) r.takes
  where
    by_given : (given : Option Record) → AreReadAs given (Some original) → TakesFirst (records from) all rest given → Given from all rest original
    by_given None reads takes = absurd reads
    by_given (Some text) reads takes = record { text = text; takes = takes; reads = reads }

-- none was left
pub none_of : (from : Origin) (all rest : Option (List ℕ)) (read : Option RecordRead) → read ≡ None → ReadsNext from all rest read → TakesFirst (records from) all rest None
none_of from all rest read e r = by_given r.given (subst (λ (x : Option RecordRead). AreReadAs r.given x) e r.reads) r.takes
  where
    by_given : (given : Option Record) → AreReadAs given None → TakesFirst (records from) all rest given → TakesFirst (records from) all rest None
    by_given None reads takes = takes
    by_given (Some text) reads takes = absurd reads

-- one more original, where other readers moved on and stayed in between
pub checked_next : (formats : Formats) (number k : ℕ) (t u : Bool) (o c r o1 c1 r1 o2 c1' r1' o3 c2 r2 : Option (List ℕ)) (old new : Outputs) (lines more : List ℕ) (text : Record)
    → Progress formats number t o c r o1 c1 r1 old new lines → k ≡ number + 1 → TakesFirst (records formats.from) o1 o2 (Some text) → c1' ≡ c1 → r1' ≡ r1 → OneChecked formats.to k text c1' c2 r1' r2 lines more u → o3 ≡ o2
    → Progress formats k (t && u) o c r o3 c2 r2 old new more
checked_next formats number k t u o c r o1 c1 r1 o2 c1' r1' o3 c2 r2 old new lines more text p next takes same_c same_r one same_o =
    let P : Option (List ℕ) → Type 0 = λ x. OneChecked formats.to k text x c2 r1' r2 lines more u in
    let Q : Option (List ℕ) → Type 0 = λ x. OneChecked formats.to k text c1 c2 x r2 lines more u in
    let R : Option (List ℕ) → Type 0 = λ x. Progress formats k (t && u) o c r x c2 r2 old new more in
    subst R (sym same_o) (pushed formats number k t u o c r o1 c1 r1 o2 c2 r2 old new lines more text p next takes (subst Q same_r (subst P same_c one)))

-- all are checked
pub all_found : (formats : Formats) (number : ℕ) (t : Bool) (o c r o1 c1 r1 o2 c2 r2 : Option (List ℕ)) (old new : Outputs) → Progress formats number t o c r o1 c1 r1 old new [] → TakesFirst (records formats.from) o1 o2 None → c2 ≡ c1 → r2 ≡ r1
    → FoundAll formats t o c r c2 r2 old new
all_found formats number t o c r o1 c1 r1 o2 c2 r2 old new p takes same_c same_r =
    if_known o c r (λ x y z. Front formats number t x y z o1 c1 r1 old new []) (λ x y z. AllFound formats t x y z c2 r2 old new) (λ x y z f.
    let none : records formats.from f.o_left ≡ [] = at_end f.o_left o2 (subst (λ (a : Option (List ℕ)). TakesFirst (records formats.from) a o2 None) f.originals_are takes) in
    record {
      c_left = f.c_left;
      r_left = f.r_left;
      converted_are = same_c ∙ f.converted_are;
      report_is = same_r ∙ f.report_is;
      findings = f.findings;
      finds = subst (λ (l : List Record). Finds formats.to 1 l (at_first formats.to y z) f.findings (at_first formats.to f.c_left f.r_left)) (sym (f.split ∙ ap (λ (l : List Record). f.done ++ l) none ∙ append-nil f.done)) f.finds;
      true_is = f.true_is;
      written = subst (λ (x : List ℕ). Appends (old.held 0) (new.held 0) x) (sym (append-nil f.put.written) ∙ f.put.split) f.put.out;
    }) p
  where
    at_end : (left : List ℕ) (rest : Option (List ℕ)) → TakesFirst (records formats.from) (Some left) rest None → records formats.from left ≡ []
    at_end left None h = absurd h
    at_end left (Some rest) h = none_first (records formats.from left) h.0

-- ---- a round, said of the readers and of what source and sink tell

abbrev pub Reached : Formats → ℕ → Bool → (ℕ → Input) → CheckReaders → (ℕ → Input) → Outputs → Outputs → List ℕ → Type 0
Reached formats number all_true start readers now old new lines =
    Progress formats number all_true (start 0).left (start 1).left (start 2).left (ahead readers.originals (now 0).left) (ahead readers.converted (now 1).left) (ahead readers.report (now 2).left) old new lines

-- an original was read: the other readers stay as they are
pub record ReadOne (formats : Formats) (a b : CheckReaders) (x y : ℕ → Input) (read : Option RecordRead) : Type 0 where
  pub reads : ReadsNext formats.from (ahead a.originals (x 0).left) (ahead b.originals (y 0).left) read
  pub kept : (b.converted ≡ a.converted) × (b.report ≡ a.report)
  pub others : SameBut 0 x y

converted_same : (formats : Formats) (a b : CheckReaders) (x y : ℕ → Input) (read : Option RecordRead) → ReadOne formats a b x y read → ahead b.converted (y 1).left ≡ ahead a.converted (x 1).left
converted_same formats a b x y read one = ahead_kept a.converted b.converted (x 1).left (y 1).left one.kept.0 (ap (λ (i : Input). i.left) (one.others 1 (λ e. omega arith)))

report_same : (formats : Formats) (a b : CheckReaders) (x y : ℕ → Input) (read : Option RecordRead) → ReadOne formats a b x y read → ahead b.report (y 2).left ≡ ahead a.report (x 2).left
report_same formats a b x y read one = ahead_kept a.report b.report (x 2).left (y 2).left one.kept.1 (ap (λ (i : Input). i.left) (one.others 2 (λ e. omega arith)))

-- what a check of an original says, whatever record it is
abbrev pub ChecksIt : Formats → ℕ → RecordRead → CheckReaders → CheckReaders → (ℕ → Input) → (ℕ → Input) → List ℕ → List ℕ → Bool → Type 0
ChecksIt formats k original b c y z lines more is_true =
    (given : Record) → IsReadAs given original → OneChecked formats.to k given (ahead b.converted (y 1).left) (ahead c.converted (z 1).left) (ahead b.report (y 2).left) (ahead c.report (z 2).left) lines more is_true

pub round : (formats : Formats) (number k : ℕ) (t u : Bool) (start x y z : ℕ → Input) (a b c : CheckReaders) (old new : Outputs) (lines more : List ℕ) (original : RecordRead)
    → Reached formats number t start a x old new lines → k ≡ number + 1 → ReadOne formats a b x y (Some original) → ChecksIt formats k original b c y z lines more u
    → c.originals ≡ b.originals → (z 0).left ≡ (y 0).left → Reached formats k (t && u) start c z old new more
round formats number k t u start x y z a b c old new lines more original p next one checked same left =
    let originals = ahead a.originals (x 0).left in
    let originals_left = ahead b.originals (y 0).left in
    let given = given_of formats.from originals originals_left (Some original) original refl one.reads in
    checked_next formats number k t u (start 0).left (start 1).left (start 2).left originals (ahead a.converted (x 1).left) (ahead a.report (x 2).left) originals_left (ahead b.converted (y 1).left) (ahead b.report (y 2).left)
    (ahead c.originals (z 0).left) (ahead c.converted (z 1).left) (ahead c.report (z 2).left) old new lines more given.text p next given.takes
    (converted_same formats a b x y (Some original) one) (report_same formats a b x y (Some original) one) (checked given.text given.reads) (ahead_kept b.originals c.originals (y 0).left (z 0).left same left)

-- some of the lines of a round are written
pub round_put : (formats : Formats) (number : ℕ) (t : Bool) (start now : ℕ → Input) (readers : CheckReaders) (old mid new : Outputs) (lines rest : List ℕ)
    → Reached formats number t start readers now old mid lines → PutSome (mid.held 0) (new.held 0) lines rest → Reached formats number t start readers now old new rest
round_put formats number t start now readers old mid new lines rest p put =
    put_more formats number t (start 0).left (start 1).left (start 2).left (ahead readers.originals (now 0).left) (ahead readers.converted (now 1).left) (ahead readers.report (now 2).left) old mid new lines rest p put

-- a write of them failed
pub round_cut : (formats : Formats) (number : ℕ) (t : Bool) (start now : ℕ → Input) (readers : CheckReaders) (old mid new : Outputs) (lines : List ℕ)
    → Reached formats number t start readers now old mid lines → AppendsPart (mid.held 0) (new.held 0) lines
    → ChecksSome formats (start 0).left (start 1).left (start 2).left (old.held 0) (new.held 0) × ChecksLess formats (start 0).left (start 1).left (start 2).left (old.held 0) (new.held 0)
round_cut formats number t start now readers old mid new lines p part =
    stopped_within formats number t (start 0).left (start 1).left (start 2).left (ahead readers.originals (now 0).left) (ahead readers.converted (now 1).left) (ahead readers.report (now 2).left) old mid new lines p part

-- between two rounds, or within one before anything is written
pub round_stopped : (formats : Formats) (number : ℕ) (t : Bool) (start now : ℕ → Input) (readers : CheckReaders) (old new : Outputs) (lines : List ℕ)
    → Reached formats number t start readers now old new lines → ChecksSome formats (start 0).left (start 1).left (start 2).left (old.held 0) (new.held 0)
round_stopped formats number t start now readers old new lines p =
    stopped_between formats number t (start 0).left (start 1).left (start 2).left (ahead readers.originals (now 0).left) (ahead readers.converted (now 1).left) (ahead readers.report (now 2).left) old new lines p

-- no original is left, and the last lines are written
pub last_round : (formats : Formats) (number : ℕ) (t : Bool) (start x y : ℕ → Input) (a b : CheckReaders) (old mid new : Outputs) (lines rest : List ℕ)
    → Reached formats number t start a x old mid lines → ReadOne formats a b x y None → PutSome (mid.held 0) (new.held 0) lines rest → rest ≡ []
    → FoundAll formats t (start 0).left (start 1).left (start 2).left (ahead b.converted (y 1).left) (ahead b.report (y 2).left) old new
last_round formats number t start x y a b old mid new lines rest p one put none =
    let originals = ahead a.originals (x 0).left in
    let originals_left = ahead b.originals (y 0).left in
    let written = subst (λ (l : List ℕ). Reached formats number t start a x old new l) none (round_put formats number t start x a old mid new lines rest p put) in
    all_found formats number t (start 0).left (start 1).left (start 2).left originals (ahead a.converted (x 1).left) (ahead a.report (x 2).left) originals_left (ahead b.converted (y 1).left) (ahead b.report (y 2).left) old new written
    (none_of formats.from originals originals_left None refl one.reads) (converted_same formats a b x y None one) (report_same formats a b x y None one)

-- what a sink does in several steps
pub written_trans : (a b c : Outputs) → Written a b → Written b c → Written a c
written_trans a b c p q = record { later = (let low = p.later in let high = q.later in omega arith); report = q.report ∙ p.report }

-- a stop of the check behind other steps
pub check_halts_later : (limit : ℕ) (halt : Halt) (a b c : CheckReaders) (x y z : ℕ → Input) (old mid new : Outputs) → Advance a b x y → old.faults ≤ mid.faults → CheckHalts limit halt c y z mid new → CheckHalts limit halt c x z old new
check_halts_later limit ReadFault a b c x y z old mid new p later h = halts_later limit ReadFault a b c x y z p h
check_halts_later limit InputLimit a b c x y z old mid new p later h = h
check_halts_later limit NoMemory a b c x y z old mid new p later h = h
check_halts_later limit WriteFault a b c x y z old mid new p later (within, rose) = (within, rose_later old.faults mid.faults new.faults later rose)

-- ---- the whole text

-- the whole text, and whether all of it is true
record WholeText (formats : Formats) (all_true extra : Bool) (o c r : List ℕ) (old new : Option (List ℕ)) : Type 0 where
  grown : GrownBy old new (IsCheckText formats o c r)
  true_is : IsTrue (all_true && not extra) ↔ IsAllTrue formats o c r

if_both : (a b : Bool) → IsTrue (a && not b) → (a ≡ true) × (b ≡ false)
if_both true true h = cc
if_both true false h = (refl, refl)
if_both false b h = cc

both_so : (a b : Bool) → a ≡ true → b ≡ false → IsTrue (a && not b)
both_so a b e f = cc

with_rest : (formats : Formats) (t extra : Bool) (o c r c_left r_left : List ℕ) (old mid new : Outputs) (findings : List Finding) → Finds formats.to 1 (records formats.from o) (at_first formats.to c r) findings (at_first formats.to c_left r_left) → list_all is_true findings ≡ t
    → Appends (old.held 0) (mid.held 0) (verdict_lines 1 findings) → RestOf formats.to c_left r_left mid new extra → WholeText formats t extra o c r (old.held 0) (new.held 0)
with_rest formats t extra o c r c_left r_left old mid new findings finds true_is written rest = record {
  grown = record {
    more = verdict_lines 1 findings ++ extra_text extra;
    out = Appends-trans (old.held 0) (mid.held 0) (new.held 0) (verdict_lines 1 findings) (extra_text extra) written rest.written;
    holds = record { findings = findings; after = at_first formats.to c_left r_left; finds = finds; written = ap (λ (b : Bool). verdict_lines 1 findings ++ extra_text b) rest.extra_is };
  };
  true_is = (
    λ h. let parts = if_both t extra h in record { findings = findings; after = at_first formats.to c_left r_left; finds = finds; all_true = true_is ∙ parts.0; no_extra = sym rest.extra_is ∙ parts.1 },
    λ all. let parts = all_true_not formats o c r findings (at_first formats.to c_left r_left) all finds in both_so t extra (sym true_is ∙ parts.0) (rest.extra_is ∙ parts.1),
  );
}

found_with_rest : (formats : Formats) (t extra : Bool) (o c r : List ℕ) (c1 r1 : Option (List ℕ)) (old mid new : Outputs) → AllFound formats t o c r c1 r1 old mid → RestChecked formats.to c1 r1 mid new extra → WholeText formats t extra o c r (old.held 0) (new.held 0)
found_with_rest formats t extra o c r c1 r1 old mid new f rest =
    let P : Option (List ℕ) → Type 0 = λ x. RestChecked formats.to x r1 mid new extra in
    let Q : Option (List ℕ) → Type 0 = λ x. RestChecked formats.to (Some f.c_left) x mid new extra in
    with_rest formats t extra o c r f.c_left f.r_left old mid new f.findings f.finds f.true_is f.written (subst Q f.report_is (subst P f.converted_are rest))

pub checks_all : (formats : Formats) (t extra : Bool) (o c r c1 r1 : Option (List ℕ)) (old mid new : Outputs) → FoundAll formats t o c r c1 r1 old mid → RestChecked formats.to c1 r1 mid new extra → ChecksAll formats o c r (old.held 0) (new.held 0)
checks_all formats t extra o c r c1 r1 old mid new found rest =
    if_known o c r (λ x y z. AllFound formats t x y z c1 r1 old mid) (λ x y z. GrownBy (old.held 0) (new.held 0) (IsCheckText formats x y z)) (λ x y z f. (found_with_rest formats t extra x y z c1 r1 old mid new f rest).grown) found

pub checks_true : (formats : Formats) (t extra : Bool) (o c r c1 r1 : Option (List ℕ)) (old mid new : Outputs) → FoundAll formats t o c r c1 r1 old mid → RestChecked formats.to c1 r1 mid new extra → IfKnown o c r (λ x y z. IsTrue (t && not extra) ↔ IsAllTrue formats x y z)
checks_true formats t extra o c r c1 r1 old mid new found rest =
    if_known o c r (λ x y z. AllFound formats t x y z c1 r1 old mid) (λ x y z. IsTrue (t && not extra) ↔ IsAllTrue formats x y z) (λ x y z f. (found_with_rest formats t extra x y z c1 r1 old mid new f rest).true_is) found

take_all : (xs : List Record) → take (length xs) xs ≡ xs
take_all [] = refl
take_all (x ∷ xs) = ap (λ (l : List Record). x ∷ l) (take_all xs)

-- behind the last original
found_part : (formats : Formats) (t : Bool) (o c r : List ℕ) (c1 r1 : Option (List ℕ)) (old new : Outputs) → AllFound formats t o c r c1 r1 old new → GrownBy (old.held 0) (new.held 0) (IsCheckPart formats o c r)
found_part formats t o c r c1 r1 old new f = record {
  more = verdict_lines 1 f.findings;
  out = f.written;
  holds = inl (record {
    count = length (records formats.from o);
    findings = f.findings;
    after = at_first formats.to f.c_left f.r_left;
    finds = subst (λ (l : List Record). Finds formats.to 1 l (at_first formats.to c r) f.findings (at_first formats.to f.c_left f.r_left)) (sym (take_all (records formats.from o))) f.finds;
    part = ([], sym (append-nil (verdict_lines 1 f.findings)));
  });
}

-- within the last line
rest_cut : (formats : Formats) (t : Bool) (o c r : List ℕ) (c1 r1 : Option (List ℕ)) (old mid new : Outputs) → AllFound formats t o c r c1 r1 old mid → IfSome c1 (λ x. IfSome r1 (λ y. RestCut formats.to x y mid new)) → Cut formats o c r (old.held 0) (new.held 0)
rest_cut formats t o c r c1 r1 old mid new f rest =
    let P : Option (List ℕ) → Type 0 = λ a. IfSome a (λ x. IfSome r1 (λ y. RestCut formats.to x y mid new)) in
    let Q : Option (List ℕ) → Type 0 = λ a. IfSome (Some f.c_left) (λ x. IfSome a (λ y. RestCut formats.to x y mid new)) in
    let cut : RestCut formats.to f.c_left f.r_left mid new = subst Q f.report_is (subst P f.converted_are rest) in
    let m : ℕ = cut.written.0 in
    let within = cut.written.1 in
    let out = Appends-trans (old.held 0) (mid.held 0) (new.held 0) (verdict_lines 1 f.findings) (take m extra_line) f.written cut.written.2 in
    record {
      some = record {
        more = verdict_lines 1 f.findings ++ take m extra_line;
        out = out;
        holds = inr (record {
          whole = verdict_lines 1 f.findings ++ extra_line;
          is = record { findings = f.findings; after = at_first formats.to f.c_left f.r_left; finds = f.finds; written = ap (λ (b : Bool). verdict_lines 1 f.findings ++ extra_text b) (sym cut.extra) };
          part = (drop m extra_line, ap (λ (x : List ℕ). verdict_lines 1 f.findings ++ x) (sym (take-append-drop m extra_line)) ∙ sym (append_assoc (verdict_lines 1 f.findings) (take m extra_line) (drop m extra_line)));
        });
      };
      less = record {
        more = verdict_lines 1 f.findings ++ take m extra_line;
        out = out;
        holds = λ text is.
            let part = length-append (verdict_lines 1 f.findings) (take m extra_line) in
            let low = length-take m extra_line in
            less_than_extra formats o c r text f.findings (at_first formats.to f.c_left f.r_left) (length (verdict_lines 1 f.findings ++ take m extra_line)) f.finds cut.extra (omega arith) is;
      };
    }

rest_as_before : (formats : Formats) (t : Bool) (o c r c1 r1 : Option (List ℕ)) (old mid new : Outputs) → FoundAll formats t o c r c1 r1 old mid → new.held 0 ≡ mid.held 0 → ChecksSome formats o c r (old.held 0) (new.held 0)
rest_as_before formats t o c r c1 r1 old mid new found same = subst (λ (x : Option (List ℕ)). ChecksSome formats o c r (old.held 0) x) (sym same)
    (if_known o c r (λ x y z. AllFound formats t x y z c1 r1 old mid) (λ x y z. GrownBy (old.held 0) (mid.held 0) (IsCheckPart formats x y z)) (λ x y z f. found_part formats t x y z c1 r1 old mid f) found)

pub rest_stopped : (formats : Formats) (halt : Halt) (t : Bool) (o c r c1 r1 : Option (List ℕ)) (old mid new : Outputs) → FoundAll formats t o c r c1 r1 old mid → RestStopped formats.to halt c1 r1 mid new → ChecksSome formats o c r (old.held 0) (new.held 0) × LessAt formats halt o c r old new
rest_stopped formats WriteFault t o c r c1 r1 old mid new found rest =
    let F : List ℕ → List ℕ → List ℕ → Type 0 = λ x y z. AllFound formats t x y z c1 r1 old mid in (
      if_known o c r F (λ x y z. GrownBy (old.held 0) (new.held 0) (IsCheckPart formats x y z)) (λ x y z f. (rest_cut formats t x y z c1 r1 old mid new f rest).some) found,
      if_known o c r F (λ x y z. GrownBy (old.held 0) (new.held 0) (IsLessThanText formats x y z)) (λ x y z f. (rest_cut formats t x y z c1 r1 old mid new f rest).less) found,
    )
rest_stopped formats ReadFault t o c r c1 r1 old mid new found rest = (rest_as_before formats t o c r c1 r1 old mid new found rest, tt)
rest_stopped formats InputLimit t o c r c1 r1 old mid new found rest = (rest_as_before formats t o c r c1 r1 old mid new found rest, tt)
rest_stopped formats NoMemory t o c r c1 r1 old mid new found rest = (rest_as_before formats t o c r c1 r1 old mid new found rest, tt)

-- ---- causes

pub stopped_by : (formats : Formats) (limit : ℕ) (halt : Halt) (readers : CheckReaders) (before after : ℕ → Input) (old new : Outputs) → CheckHalts limit halt readers before after old new → LessAt formats halt (before 0).left (before 1).left (before 2).left old new
    → CheckStopped formats halt before after old new
stopped_by formats limit ReadFault readers before after old new h less = h.1
stopped_by formats limit InputLimit readers before after old new h less = h.1
stopped_by formats limit NoMemory readers before after old new h less = tt
stopped_by formats limit WriteFault readers before after old new h less = (h.1, less)

-- all three inputs were read to their ends
pub all_ended : (readers : CheckReaders) (before after : ℕ → Input) → Advance fresh_readers readers before after → IsTrue readers.originals.ended → IsTrue readers.converted.ended → IsTrue readers.report.ended
    → (i : ℕ) → i < 3 → IsTrue (after i).ended
all_ended readers before after advance o c r zero less = advance.originals.at_end (λ h. absurd (false≢true h)) o
all_ended readers before after advance o c r (suc zero) less = advance.converted.at_end (λ h. absurd (false≢true h)) c
all_ended readers before after advance o c r (suc (suc zero)) less = advance.report.at_end (λ h. absurd (false≢true h)) r
all_ended readers before after advance o c r (suc (suc (suc i))) less = absurd (omega arith)

-- nothing is written yet
pub nothing_checked : (formats : Formats) (o c r : Option (List ℕ)) (held : Outputs) → ChecksSome formats o c r (held.held 0) (held.held 0)
nothing_checked formats o c r held = stopped_between formats 0 true o c r (ahead (fresh 0) o) (ahead (fresh 1) c) (ahead (fresh 2) r) held held [] (begun formats o c r held)

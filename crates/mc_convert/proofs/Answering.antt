-- The cases of an answer.
use Rattle.std.proofs.Common.{arith, ◌≡◌, ◌∙◌, ℕ, List, [], ◌∷◌, ◌++◌, Bool, true, false, refl, sym, ap, subst, inl, inr}
use Rattle.std.specs.List.{list_all}
use Rattle.std.specs.Prelude.{Option, Some, None, ◌↔◌, ◌<◌, ◌||◌, ◌==◌, IsTrue, not, nat_le, if◌then◌else◌, filter, map, cond}
use Rattle.std.proofs.lemmas.Bool.Decides.{nat_tests}
use Rattle.std.proofs.lemmas.Bool.{false≢true, and_parts, or_parts}
use Rattle.mc_base.specs.declared.kind.Kind.{Kind}
use Rattle.mc_base.specs.declared.kind.Kind.TheVariants.{LineTooLong, NoPlacement}
use Rattle.mc_base.specs.declared.refusal.Refusal.{Refusal}
use Rattle.mc_base.specs.declared.span.Span.{Span}
use Rattle.mc_base.specs.Kinds.{number}
use Rattle.mc_io.specs.Lines.{line_feed, carriage_return, onto_first, pieces, onto_text, text_of as line_text_of, has_feed, IsLineText}
use Rattle.mc_mol.specs.Molecule.{Molecule}
use Rattle.mc_report.specs.Report.{refused_line}
use Rattle.smi_mean.specs.Lines.{is_blank, text_of, name_of}
use Rattle.smi_graph.specs.Skeletons.{TextGraph}
use Rattle.smi_mean.specs.Rules.{SmilesStands}
use Rattle.smi_mean.specs.Written.{written_text}
use Rattle.mc_convert.specs.declared.answer.Answer.{Answer}
use Rattle.mc_convert.specs.declared.formats.Target.{Target}
use Rattle.mc_convert.specs.declared.formats.Target.TheVariants.{Smi}
use Rattle.mc_convert.specs.declared.given.Given.{Given}
use Rattle.mc_convert.specs.declared.given.Given.TheVariants.{Line as GivenLine, TooLong as GivenLong, Sd as GivenSd, SdTooLong as GivenSdLong}
use Rattle.mc_base.specs.declared.ids.AtomId.{AtomId}
use Rattle.mc_base.specs.declared.refusal.Stop.TheVariants.{Refused as StopRefused}
use Rattle.mc_base.specs.Shown.{HasReason}
use Rattle.smi_mean.specs.Sound.{IsSound}
use Rattle.ct_sd.specs.declared.fault.Fault.{Fault}
use Rattle.ct_sd.specs.declared.table.Table.{Table as SdTable}
use Rattle.ct_sd.specs.Faults.{refusal_of}
use Rattle.ct_geometry.specs.Stands.{StandsAt as StandsInTable}
use Rattle.mc_convert.specs.Records.{IsGiven, Record, Line, TooLong, Sd, SdTooLong, headers_in, is_some_text, line, name_in, record_of, record_texts, with_name}
use Rattle.mc_convert.specs.Answers.{StandsIn, RecordStands, IsBarrierOf, Shows, IsAnswer}
use Rattle.mc_convert.specs.SdRecords.{IsSdReadOf, IsSdRefused, SaysStereo, SdStands, StandsInLines}
use Rattle.mc_convert.specs.declared.sd_read.SdRead.{SdRead}
use Rattle.mc_convert.specs.declared.record_read.RecordRead.TheVariants.{Refused, Stands, Table}
use Rattle.mc_convert.proofs.SdReading.{one_table}
use Rattle.mc_convert.specs.Accepted.{IsAccepted}
use Rattle.mc_convert.specs.Findings.{IsTextOf, IsTextKept, IsReadAs, IsTableRead, NameStands}
use Rattle.mc_convert.specs.Runs.{IsShown}

-- ---- a written line is one record

-- bytes from 33 on, as those of a text
abbrev are_high : List ℕ → Bool
are_high text = list_all (λ byte. nat_le 33 byte) text

no_feed_high : (b : ℕ) → nat_le 33 b ≡ true → (b == line_feed) ≡ false
no_feed_high b h = grind (arith, nat_tests)

no_return_high : (b : ℕ) → nat_le 33 b ≡ true → (b == carriage_return) ≡ false
no_return_high b h = grind (arith, nat_tests)

-- what stands behind something that ends with no carriage return
onto_some : (b c : ℕ) (text : List ℕ) → line_text_of (c ∷ text) ≡ c ∷ text → line_text_of (b ∷ c ∷ text) ≡ b ∷ c ∷ text
onto_some b c text same = ap (onto_text b) same

-- what stands behind a byte of a line's text is such a text
text_behind : (b : ℕ) (bytes : List ℕ) → IsLineText (b ∷ bytes) → IsLineText bytes
text_behind b bytes h = record { one = (or_parts (b == line_feed) (has_feed bytes) h.one).1; ends = behind b bytes (line_text_of bytes) h.ends }
  where
    alone : (t : Bool) (b : ℕ) (bytes : List ℕ) → (if t then [] else b ∷ []) ≡ b ∷ bytes → [] ≡ bytes
    alone true b bytes e = absurd cc
    alone false b bytes e = cc

    behind : (b : ℕ) (bytes text : List ℕ) → onto_text b text ≡ b ∷ bytes → text ≡ bytes
    behind b bytes [] e = alone (b == carriage_return) b bytes e
    behind b bytes (c ∷ text) e = cc

name_text : (bytes : List ℕ) → IsLineText bytes → IsLineText (name_of bytes)
name_text [] h = h
name_text (b ∷ bytes) h = by_test (is_blank b) (text_behind b bytes h) (name_text bytes (text_behind b bytes h))
  where
    by_test : (t : Bool) → IsLineText bytes → IsLineText (name_of bytes) → IsLineText (if t then bytes else name_of bytes)
    by_test true later name = later
    by_test false later name = name

-- a text with nothing behind it
pub alone_text : (text : List ℕ) → are_high text ≡ true → IsLineText text
alone_text [] h = record { one = refl; ends = refl }
alone_text (b ∷ bs) h =
    let both = and_parts (nat_le 33 b) (are_high bs) h in
    let later = alone_text bs both.1 in record {
      one = rw (no_feed_high b both.0) later.one;
      ends = onto b bs (no_return_high b both.0) later.ends;
    }
  where
    onto : (b : ℕ) (bs : List ℕ) → (b == carriage_return) ≡ false → line_text_of bs ≡ bs → line_text_of (b ∷ bs) ≡ b ∷ bs
    onto b [] other same = rw other refl
    onto b (c ∷ bs) other same = onto_some b c bs same

-- a text with more behind it
text_with : (text : List ℕ) (c : ℕ) (more : List ℕ) → are_high text ≡ true → IsLineText (c ∷ more) → IsLineText (text ++ c ∷ more)
text_with [] c more h behind = behind
text_with (b ∷ bs) c more h behind =
    let both = and_parts (nat_le 33 b) (are_high bs) h in
    let later = text_with bs c more both.1 behind in record {
      one = rw (no_feed_high b both.0) later.one;
      ends = onto b bs later.ends;
    }
  where
    onto : (b : ℕ) (bs : List ℕ) → line_text_of (bs ++ c ∷ more) ≡ bs ++ c ∷ more → line_text_of (b ∷ bs ++ c ∷ more) ≡ b ∷ bs ++ c ∷ more
    onto b [] same = onto_some b c more same
    onto b (d ∷ bs) same = onto_some b d (bs ++ c ∷ more) same

blank_before : (name : List ℕ) → IsLineText name → IsLineText (32 ∷ name)
blank_before [] h = record { one = refl; ends = refl }
blank_before (c ∷ cs) h = record { one = h.one; ends = onto_some 32 c cs h.ends }

with_name_text : (text name : List ℕ) → are_high text ≡ true → IsLineText name → IsLineText (with_name text name)
with_name_text [] name high named = blank_before name named
with_name_text (b ∷ bs) [] high named = alone_text (b ∷ bs) high
with_name_text (b ∷ bs) (c ∷ cs) high named = text_with (b ∷ bs) 32 (c ∷ cs) high (blank_before (c ∷ cs) named)

one_piece : (text : List ℕ) → has_feed text ≡ false → pieces (line text) ≡ text ∷ []
one_piece [] clear = refl
one_piece (b ∷ bs) clear =
    let both = or_parts (b == line_feed) (has_feed bs) clear in
    rw (both.0) (ap (onto_first b) (one_piece bs both.1))

one_text : (text : List ℕ) → IsLineText text → is_some_text text ≡ true → record_texts (line text) ≡ text ∷ []
one_text text h some =
    ap (λ ps. filter is_some_text (map line_text_of ps)) (one_piece text h.one) ∙ ap (λ t. filter is_some_text (t ∷ [])) h.ends
    ∙ ap (λ (t : Bool). cond t (text ∷ []) []) some

with_name_some : (text name : List ℕ) → is_some_text (with_name text name) ≡ true
with_name_some [] name = refl
with_name_some (b ∷ bs) [] = refl
with_name_some (b ∷ bs) (c ∷ cs) = refl

one_record : (text name : List ℕ) → are_high text ≡ true → IsLineText name → record_texts (line (with_name text name)) ≡ with_name text name ∷ []
one_record text name high named = one_text (with_name text name) (with_name_text text name high named) (with_name_some text name)

-- the name of a record that is given is a line's text
name_given : (given : Given) → IsGiven given → IsLineText (name_in (record_of given))
name_given (GivenLine text) whole = name_text text.now whole.one
name_given GivenLong whole = record { one = refl; ends = refl }
name_given (GivenSd lines) whole = whole
name_given (GivenSdLong fault) whole = record { one = refl; ends = refl }

-- A text without blanks and a name are read as they were put.
not_blank : (b : ℕ) → not (is_blank b) ≡ true → is_blank b ≡ false
not_blank b h = by_test (is_blank b) h
  where
    by_test : (t : Bool) → not t ≡ true → t ≡ false
    by_test true h = sym h
    by_test false h = refl

text_alone : (text : List ℕ) → list_all (λ byte. not (is_blank byte)) text ≡ true → (text_of text ≡ text) × (name_of text ≡ [])
text_alone [] h = (refl, refl)
text_alone (b ∷ bs) h =
    let both = and_parts (not (is_blank b)) (list_all (λ byte. not (is_blank byte)) bs) h in
    let rest = text_alone bs both.1 in
    let t = not_blank b both.0 in
    (ap (λ (x : Bool). if x then [] else b ∷ text_of bs) t ∙ ap (λ (x : List ℕ). b ∷ x) rest.0, ap (λ (x : Bool). if x then bs else name_of bs) t ∙ rest.1)

text_before : (text name : List ℕ) → list_all (λ byte. not (is_blank byte)) text ≡ true → (text_of (text ++ 32 ∷ name) ≡ text) × (name_of (text ++ 32 ∷ name) ≡ name)
text_before [] name h = (refl, refl)
text_before (b ∷ bs) name h =
    let both = and_parts (not (is_blank b)) (list_all (λ byte. not (is_blank byte)) bs) h in
    let rest = text_before bs name both.1 in
    let t = not_blank b both.0 in
    (ap (λ (x : Bool). if x then [] else b ∷ text_of (bs ++ 32 ∷ name)) t ∙ ap (λ (x : List ℕ). b ∷ x) rest.0, ap (λ (x : Bool). if x then bs ++ 32 ∷ name else name_of (bs ++ 32 ∷ name)) t ∙ rest.1)

-- a byte from 33 on is no blank
high : (b : ℕ) → nat_le 33 b ≡ true → not (is_blank b) ≡ true
high b h = grind (arith, nat_tests)

no_blanks : (text : List ℕ) → list_all (λ byte. nat_le 33 byte) text ≡ true → list_all (λ byte. not (is_blank byte)) text ≡ true
no_blanks [] h = refl
no_blanks (b ∷ bs) h = let both = and_parts (nat_le 33 b) (list_all (λ byte. nat_le 33 byte) bs) h in rw (high b both.0, no_blanks bs both.1) refl

pub parts_of : (text name : List ℕ) → list_all (λ byte. not (is_blank byte)) text ≡ true → (text_of (with_name text name) ≡ text) × (name_of (with_name text name) ≡ name)
parts_of [] name h = (refl, refl)
parts_of (b ∷ bs) [] h = text_alone (b ∷ bs) h
parts_of (b ∷ bs) (c ∷ cs) h = text_before (b ∷ bs) (c ∷ cs) h

-- ---- answers

-- what is written is one record
line_alone : (bytes text : List ℕ) → record_texts bytes ≡ text ∷ [] → map Line (record_texts bytes) ≡ Line text ∷ []
line_alone bytes text is = ap (map Line) is

written : (to : Target) (k : ℕ) (given : Record) (m : Molecule) (answer : Answer) → IsLineText (name_in given) → RecordStands given m → IsAccepted to k m (name_in given) (headers_in given) answer
    → IsAnswer to k given record { out = answer.out; report = answer.report }
written Smi k given m answer named stands a =
    let back = a.reads in
    let parts = parts_of (written_text m) (name_in given) (no_blanks (written_text m) a.no_blanks) in
    inl (record {
      input = m;
      output = back.molecule;
      stands = stands;
      form = a.out;
      one_record = line_alone answer.out (with_name (written_text m) (name_in given)) (ap record_texts a.out ∙ one_record (written_text m) (name_in given) a.no_blanks named);
      name = parts.1;
      reads = subst (λ (x : List ℕ). SmilesStands x back.molecule) (sym parts.0) back.reads;
      only = λ other h. back.only other (subst (λ (x : List ℕ). SmilesStands x other) parts.0 h);
      same = back.same;
      report = a.report;
    })

-- an accepted record isn't refused
accepted_is : (to : Target) (k : ℕ) (m : Molecule) (name : List ℕ) (headers : ℕ) (answer : Answer) → IsAccepted to k m name headers answer → answer.refused ≡ false
accepted_is Smi k m name headers answer a = a.accepted

-- no kind stands in the lines of a record that stands for a molecule
none_stands : (lines : List (List ℕ)) (m : Molecule) (kind : Kind) (place : ℕ) → SdStands lines m → StandsInLines lines kind place → ⊥
none_stands lines m kind place is (inl here) = is.given.accepted kind place here
none_stands lines m kind place is (inr (inl (table, given, stands))) =
    is.stands.accepted kind place (subst (λ (t : SdTable). StandsInTable t kind place) (one_table lines table is.table given is.given) stands)
none_stands lines m kind place is (inr (inr later)) =
    let (table, given, none, says) = later.2 in is.built (subst SaysStereo (one_table lines table is.table given is.given) says)

-- a line has no headers
no_headers : (given : Record) (at : Span) → NameStands given at → 0 ≡ headers_in given
no_headers (Line text) at named = refl
no_headers TooLong at named = absurd named
no_headers (Sd lines) at named = absurd named
no_headers (SdTooLong fault) at named = absurd named

-- a record that stands for a molecule shows no refusal
pub not_shown : (to : Target) (given : Record) (m : Molecule) → RecordStands given m → IsShown to given → ⊥
not_shown to TooLong m stands shown = stands
not_shown to (Line text) m stands (refusal, shows) = stands.accepted refusal.kind refusal.place shows.stands
not_shown to (Sd lines) m stands (refusal, shows) = none_stands lines m refusal.kind refusal.place stands shows.stands
not_shown to (SdTooLong fault) m stands shown = stands

pub is_written : (to : Target) (k : ℕ) (given : Given) (m : Molecule) (skeleton : TextGraph) (at : Span) (name : List ℕ) (answer : Answer) → IsGiven given → IsReadAs (record_of given) (Stands m skeleton at) → name ≡ name_in (record_of given)
    → IsAccepted to k m name 0 answer → IsAnswer to k (record_of given) record { out = answer.out; report = answer.report }
is_written to k given m skeleton at name answer whole read named a =
    written to k (record_of given) m answer (name_given given whole) read.stands
    (subst (λ (x : ℕ). IsAccepted to k m (name_in (record_of given)) x answer) (no_headers (record_of given) at read.name_is) (subst (λ (x : List ℕ). IsAccepted to k m x 0 answer) named a))

pub table_written : (to : Target) (k : ℕ) (given : Given) (m : Molecule) (own name : List ℕ) (headers : ℕ) (answer : Answer) → IsGiven given → IsTableRead (record_of given) m own headers → name ≡ own
    → IsAccepted to k m name headers answer → IsAnswer to k (record_of given) record { out = answer.out; report = answer.report }
table_written to k given m own name headers answer whole is named a =
    written to k (record_of given) m answer (name_given given whole) is.stands
    (subst (λ (x : ℕ). IsAccepted to k m (name_in (record_of given)) x answer) is.headers_are (subst (λ (x : List ℕ). IsAccepted to k m x headers answer) (named ∙ is.name_is) a))

pub table_none_shown : (to : Target) (k : ℕ) (given : Record) (m : Molecule) (own name : List ℕ) (headers : ℕ) (answer : Answer) → IsTableRead given m own headers → IsAccepted to k m name headers answer
    → IsTrue answer.refused ↔ IsShown to given
table_none_shown to k given m own name headers answer is a =
    (λ on. absurd (false≢true (sym (accepted_is to k m name headers answer a) ∙ on)), λ shown. absurd (not_shown to given m is.stands shown))

pub none_shown : (to : Target) (k : ℕ) (given : Record) (m : Molecule) (skeleton : TextGraph) (at : Span) (name : List ℕ) (answer : Answer) → IsReadAs given (Stands m skeleton at) → IsAccepted to k m name 0 answer → IsTrue answer.refused ↔ IsShown to given
none_shown to k given m skeleton at name answer read a =
    (λ on. absurd (false≢true (sym (accepted_is to k m name 0 answer a) ∙ on)), λ shown. absurd (not_shown to given m read.stands shown))

-- a refusal that is shown is an answer
pub is_refused : (to : Target) (k : ℕ) (given : Record) (refusal : Refusal) (skeleton : Option TextGraph) (answer : Answer) → IsReadAs given (Refused refusal skeleton) → answer ≡ record { out = []; report = refused_line k refusal; refused = true }
    → IsAnswer to k given record { out = answer.out; report = answer.report }
is_refused to k given refusal skeleton answer read is =
    inr (record { refusal = refusal; shows = read.shows to; out = ap (λ (a : Answer). a.out) is; report = ap (λ (a : Answer). a.report) is })

pub is_shown : (to : Target) (k : ℕ) (given : Record) (refusal : Refusal) (skeleton : Option TextGraph) (answer : Answer) → IsReadAs given (Refused refusal skeleton) → answer ≡ record { out = []; report = refused_line k refusal; refused = true }
    → IsTrue answer.refused ↔ IsShown to given
is_shown to k given refusal skeleton answer read is = (λ _. (refusal, read.shows to), λ _. ap (λ (a : Answer). a.refused) is)

-- ---- a line that is too long

abbrev long_refusal : Refusal
long_refusal = record { kind = LineTooLong; place = 1; barrier = []; odd = 0 }

long_shown : (to : Target) → Shows to TooLong long_refusal
long_shown to = record { stands = refl; least = λ place h. omega arith; first = none_first; reason = (refl, refl) }
  where
    none_first : (kind : Kind) (place : ℕ) → number kind < number LineTooLong → StandsIn to TooLong kind place → ⊥
    none_first LineTooLong place less h = omega arith
    none_first _ place less h = h

pub long_read : IsReadAs TooLong (Refused long_refusal None)
long_read = record { shows = long_shown; text = λ e. absurd cc }

-- ---- a record of an SD file

-- one that is too long
pub long_sd_read : (fault : Fault) (refusal : Refusal) → refusal ≡ refusal_of fault → IsReadAs (SdTooLong fault) (Refused refusal None)
long_sd_read fault refusal is = subst (λ (r : Refusal). IsReadAs (SdTooLong fault) (Refused r None)) (sym is) (record { shows = shows; text = refl })
  where
    no_barrier : (IsBarrier : List AtomId → ℕ → Type 0) (kind : Kind) → IsBarrier [] 0 → HasReason IsBarrier kind [] 0
    no_barrier IsBarrier NoPlacement is = is
    no_barrier IsBarrier _ is = (refl, refl)

    shows : (to : Target) → Shows to (SdTooLong fault) (refusal_of fault)
    shows to = record {
      stands = inl refl;
      least = λ place stands. elim stands [
        | inl here ↦ (let e = ap (λ (f : Fault). f.place) here in omega arith)
        | inr none ↦ absurd none
      ];
      first = λ kind place less stands. elim stands [
        | inl here ↦ (let e = ap (λ (f : Fault). number f.kind) here in omega arith)
        | inr none ↦ absurd none
      ];
      reason = no_barrier (IsBarrierOf to (SdTooLong fault)) fault.kind (refl, refl);
    }

pub table_refused : (lines : List (List ℕ)) (refusal : Refusal) → IsSdRefused lines (StopRefused refusal) → IsReadAs (Sd lines) (Refused refusal None)
table_refused lines refusal is = record { shows = λ to. record { stands = is.stands; least = is.least; first = is.first; reason = is.reason }; text = refl }

pub table_read : (lines : List (List ℕ)) (read : SdRead) → IsSdReadOf lines read → IsSound read.ct.mol → IsReadAs (Sd lines) (Table read.ct.mol read.name read.headers)
table_read lines read is sound = record {
  stands = record { table = is.table; given = is.given; built = is.built; stands = is.is.stands };
  sound = sound;
  no_text = λ has. has;
  compare = λ output map v compared. compared;
  name_is = is.name;
  headers_are = is.headers;
}

-- ---- a line that is refused

-- a kind that keeps no text
pub other_read : (text : List ℕ) (refusal : Refusal) → ((to : Target) → Shows to (Line text) refusal) → (refusal.kind ≡ NoPlacement → ⊥) → IsReadAs (Line text) (Refused refusal None)
other_read text refusal shows other = record { shows = shows; text = kept refusal.kind other }
  where
    kept : (kind : Kind) → (kind ≡ NoPlacement → ⊥) → IsTextKept (Line text) kind None
    kept NoPlacement not = absurd (not refl)
    kept _ not = tt

pub unplaced_read : (text : List ℕ) (refusal : Refusal) (skeleton : TextGraph) → ((to : Target) → Shows to (Line text) refusal) → refusal.kind ≡ NoPlacement → IsTextOf (Line text) skeleton
    → IsReadAs (Line text) (Refused refusal (Some skeleton))
unplaced_read text refusal skeleton shows kind is = record { shows = shows; text = subst (λ (k : Kind). IsTextKept (Line text) k (Some skeleton)) (sym kind) is }

-- One original with its line of the report.
use Rattle.std.proofs.Common.{◌≡◌, ◌∙◌, ◌<◌, ℕ, Bool, true, false, List, [], length, Option, Some, None, refl, ap, sym, subst, inl, inr}
use Rattle.std.specs.Prelude.{◌↔◌, ◌⊎◌, IsTrue, slice_get}
use Rattle.std.proofs.lemmas.Bool.{false≢true}
use Rattle.std.proofs.lemmas.Option.{slice_get_within}
use Rattle.mc_base.specs.declared.ids.AtomId.{AtomId}
use Rattle.mc_base.specs.declared.refusal.Refusal.{Refusal}
use Rattle.mc_base.specs.declared.span.Span.{Span}
use Rattle.mc_base.specs.declared.verdict.Verdict.{Verdict}
use Rattle.mc_mol.specs.Molecule.{Molecule}
use Rattle.mc_base.specs.declared.kind.Kind.TheVariants.{NoPlacement}
use Rattle.smi_graph.specs.declared.skel_atom.SkelAtom.{SkelAtom}
use Rattle.smi_graph.specs.declared.text_bond.TextBond.{TextBond}
use Rattle.smi_graph.specs.Candidates.{IsCandidate, marked}
use Rattle.smi_graph.specs.Rules.{atoms_in}
use Rattle.smi_graph.specs.Skeletons.{TextGraph}
use Rattle.smi_mean.specs.Barriers.{IsBarrierIn}
use Rattle.smi_mean.specs.Lines.{text_of}
use Rattle.smi_mean.proofs.PlacedBonds.{bond_at}
use Rattle.smi_mean.proofs.CentresMarked.{sound_fits}
use Rattle.mc_same.specs.Differences.{IsVerdict}
use Rattle.mc_same.specs.Stands.{IsStandsVerdict}
use Rattle.mc_report.specs.declared.report_line.ReportLine.{ReportLine}
use Rattle.mc_report.specs.declared.report_line.ReportLine.TheVariants.{Ok as OkLine, Refused as RefusedLine}
use Rattle.mc_report.specs.Grammar.{number_of}
use Rattle.mc_io.specs.Lines.{lines_of}
use Rattle.mc_convert.specs.declared.formats.Target.{Target}
use Rattle.mc_convert.specs.Formats.{read_back}
use Rattle.mc_convert.specs.Records.{Record, Line as RecordLine, TooLong as RecordLong, Sd as RecordSd, SdTooLong as RecordSdLong}
use Rattle.mc_convert.specs.declared.finding.Finding.{Finding}
use Rattle.mc_convert.specs.declared.finding.Finding.TheVariants.{Input, Map, Output, Report}
use Rattle.mc_convert.specs.declared.record_read.RecordRead.{RecordRead}
use Rattle.mc_convert.specs.declared.record_read.RecordRead.TheVariants.{Refused, Stands, Table}
use Rattle.mc_convert.specs.Records.{records}
use Rattle.mc_convert.specs.Answers.{IsBarrierOf, RecordStands}
use Rattle.mc_convert.specs.Runs.{IsShown}
use Rattle.mc_convert.specs.Findings.{Says, CompareOriginal, IsTextOf, IsTextKept, HasCandidate, IsMapFinding, IsRead, IsReadAs, MarksFit, IsReadRefused, IsTableRead, IsRefusalFinding, AreReadAs}
use Rattle.mc_convert.specs.Checks.{first}
use Rattle.mc_convert.specs.CheckSteps.{ReadsNext, SaidNext, FindsNext}

says_number : (k : ℕ) (line : Option (Option (List ℕ))) (said : ReportLine) → Says k line said → number_of said ≡ k
says_number k None said h = absurd h
says_number k (Some None) said h = absurd h
says_number k (Some (Some text)) said h = h.1

-- a line that says 'ok' says it of this number
says_ok : (k n : ℕ) (line : Option (Option (List ℕ))) (map : List AtomId) → Says k line (OkLine n map) → Says k line (OkLine k map)
says_ok k n line map h = subst (λ (x : ℕ). Says k line (OkLine x map)) (says_number k line (OkLine n map) h) h

says_refused : (k n : ℕ) (line : Option (Option (List ℕ))) (refusal : Refusal) → Says k line (RefusedLine n refusal) → Says k line (RefusedLine k refusal)
says_refused k n line refusal h = subst (λ (x : ℕ). Says k line (RefusedLine x refusal)) (says_number k line (RefusedLine n refusal) h) h

refused_not_ok : (n m : ℕ) (refusal : Refusal) (map : List AtomId) → Some (RefusedLine n refusal) ≡ Some (OkLine m map) → ⊥
refused_not_ok n m refusal map e = cc

none_not_some : (said : ReportLine) → None ≡ Some said → ⊥
none_not_some said e = cc

pub written_found : (to : Target) (k n : ℕ) (original : Record) (c c' r r' : Option (List ℕ)) (map : List AtomId) (read : Option RecordRead) (finding : Finding)
    → SaidNext k r r' (Some (OkLine n map)) → ReadsNext (read_back to) c c' read → ((next : Option Record) → AreReadAs next read → IsMapFinding to original next map finding) → FindsNext to k original c c' r r' finding
written_found to k n original None c' r r' map read finding said reads found = tt
written_found to k n original (Some c) c' None r' map read finding said reads found = tt
written_found to k n original (Some c) None (Some r) r' map read finding said reads found = absurd reads.takes
written_found to k n original (Some c) (Some c') (Some r) None map read finding said reads found = absurd said.takes
written_found to k n original (Some c) (Some c') (Some r) (Some r') map read finding said reads found =
    let says : Says k (first (lines_of r)) (OkLine k map) =
    subst (λ (x : Option (Option (List ℕ))). Says k x (OkLine k map)) said.takes.0 (says_ok k n said.line map ((said.says (OkLine n map)).0 refl)) in
    let is : IsMapFinding to original (first (records (read_back to) c)) map finding = subst (λ (x : Option Record). IsMapFinding to original x map finding) reads.takes.0 (found reads.given reads.reads) in
    record {
      converted_left = c';
      report_left = r';
      converted_is = refl;
      report_is = refl;
      one = record {
        finding_is = inr (inl (record { map = map; says = says; holds = is }));
        lines_left = said.takes.1;
        converted_left = inl (record { map = map; says = says; holds = tt }, reads.takes.1);
      };
    }

pub refused_found : (to : Target) (k n : ℕ) (original : Record) (c c' r r' : Option (List ℕ)) (refusal : Refusal) (finding : Finding)
    → SaidNext k r r' (Some (RefusedLine n refusal)) → c' ≡ c → IsRefusalFinding to original refusal finding → FindsNext to k original c c' r r' finding
refused_found to k n original None c' r r' refusal finding said same found = tt
refused_found to k n original (Some c) c' None r' refusal finding said same found = tt
refused_found to k n original (Some c) c' (Some r) None refusal finding said same found = absurd said.takes
refused_found to k n original (Some c) c' (Some r) (Some r') refusal finding said same found =
    let says : Says k (first (lines_of r)) (RefusedLine k refusal) =
    subst (λ (x : Option (Option (List ℕ))). Says k x (RefusedLine k refusal)) said.takes.0 (says_refused k n said.line refusal ((said.says (RefusedLine n refusal)).0 refl)) in
    record {
      converted_left = c;
      report_left = r';
      converted_is = same;
      report_is = refl;
      one = record {
        finding_is = inr (inr (record { refusal = refusal; says = says; holds = found }));
        lines_left = said.takes.1;
        converted_left = inr (λ ok. refused_not_ok n k refusal ok.map ((said.says (OkLine k ok.map)).1 (subst (λ (x : Option (Option (List ℕ))). Says k x (OkLine k ok.map)) (sym said.takes.0) ok.says)), refl);
      };
    }

pub nothing_found : (to : Target) (k : ℕ) (original : Record) (c c' r r' : Option (List ℕ)) → SaidNext k r r' None → c' ≡ c → FindsNext to k original c c' r r' Report
nothing_found to k original None c' r r' said same = tt
nothing_found to k original (Some c) c' None r' said same = tt
nothing_found to k original (Some c) c' (Some r) None said same = absurd said.takes
nothing_found to k original (Some c) c' (Some r) (Some r') said same =
    let nothing : (other : ReportLine) → Says k (first (lines_of r)) other → ⊥ =
    λ other h. none_not_some other ((said.says other).1 (subst (λ (x : Option (Option (List ℕ))). Says k x other) (sym said.takes.0) h)) in
    record {
      converted_left = c;
      report_left = r';
      converted_is = same;
      report_is = refl;
      one = record {
        finding_is = inl (nothing, refl);
        lines_left = said.takes.1;
        converted_left = inr (λ ok. nothing (OkLine k ok.map) ok.says, refl);
      };
    }

-- the same with another reader's step between
pub written_between : (to : Target) (k n : ℕ) (original : Record) (c c1 c' r r1 r' : Option (List ℕ)) (map : List AtomId) (read : Option RecordRead) (finding : Finding)
    → SaidNext k r r1 (Some (OkLine n map)) → ReadsNext (read_back to) c1 c' read → ((next : Option Record) → AreReadAs next read → IsMapFinding to original next map finding)
    → c1 ≡ c → r' ≡ r1 → FindsNext to k original c c' r r' finding
written_between to k n original c c1 c' r r1 r' map read finding said reads found same_c same_r =
    written_found to k n original c c' r r' map read finding (subst (λ (x : Option (List ℕ)). SaidNext k r x (Some (OkLine n map))) (sym same_r) said)
    (subst (λ (x : Option (List ℕ)). ReadsNext (read_back to) x c' read) same_c reads) found

-- ---- what is found of a record that is said to be written

-- by the converted record that is next
pub found_by_next : (to : Target) (given : Record) (next : Option Record) (read : RecordRead) (map : List AtomId) (finding : Finding) → AreReadAs next (Some read)
    → ((converted : Record) → IsReadAs converted read → IsMapFinding to given (Some converted) map finding) → IsMapFinding to given next map finding
found_by_next to given None read map finding also found = absurd also
found_by_next to given (Some converted) read map finding also found = found converted also

pub refused_input : (to : Target) (given next : Record) (refusal : Refusal) (skeleton : Option TextGraph) (map : List AtomId) → IsReadAs given (Refused refusal skeleton) → IsMapFinding to given (Some next) map Input
refused_input to given next refusal skeleton map is = (refusal, is.shows to)

-- a record that is read as refused
pub read_refused : (given : Record) (read : RecordRead) (refusal : Refusal) (skeleton : Option TextGraph) → read ≡ Refused refusal skeleton → IsReadAs given read → IsReadRefused given refusal skeleton
read_refused given read refusal skeleton is reads = subst (λ (r : RecordRead). IsReadAs given r) is reads

pub output_refused : (to : Target) (next : Record) (read : RecordRead) (refusal : Refusal) (skeleton : Option TextGraph) → read ≡ Refused refusal skeleton → IsReadAs next read → IsShown to next ⊎ HasCandidate next
output_refused to next read refusal skeleton is reads = inl (refusal, (read_refused next read refusal skeleton is reads).shows to)

-- candidates of a record, by those that are marked in its skeleton

candidate_of : (next : Record) (written : TextGraph) → IsTextOf next written → (k : ℕ) → k < length written.bonds → marked written.candidates k ≡ true → HasCandidate next
candidate_of RecordLong written text k less at = absurd text
candidate_of (RecordSd lines) written text k less at = absurd text
candidate_of (RecordSdLong fault) written text k less at = absurd text
candidate_of (RecordLine bytes) written text k less at =
    let (b, there) = bond_at written.bonds k less in
    let is : IsCandidate written.atoms written.bonds b = (text.limits.candidates k b there).0 at in (
      k,
      b,
      ap (λ (x : List TextBond). slice_get x k) (sym text.bonds) ∙ there,
      subst (λ (x : List TextBond). IsCandidate (atoms_in (text_of bytes)) x b) text.bonds (subst (λ (x : List SkelAtom). IsCandidate x written.bonds b) text.atoms is),
    )

plain_of : (next : Record) (written : TextGraph) → IsTextOf next written → ((k : ℕ) → k < length written.bonds → marked written.candidates k ≡ false) → HasCandidate next → ⊥
plain_of RecordLong written text none has = text
plain_of (RecordSd lines) written text none has = text
plain_of (RecordSdLong fault) written text none has = text
plain_of (RecordLine bytes) written text none (k, b, at, is) =
    let there : slice_get written.bonds k ≡ Some b = ap (λ (x : List TextBond). slice_get x k) text.bonds ∙ at in
    let here : IsCandidate written.atoms written.bonds b =
    subst (λ (x : List SkelAtom). IsCandidate x written.bonds b) (sym text.atoms) (subst (λ (x : List TextBond). IsCandidate (atoms_in (text_of bytes)) x b) (sym text.bonds) is) in
    false≢true (sym (none k (slice_get_within written.bonds k b there)) ∙ (text.limits.candidates k b there).1 here)

-- a record that is read as a text, or as a table
read_text : (given : Record) (read : RecordRead) (m : Molecule) (skeleton : TextGraph) (name : Span) → read ≡ Stands m skeleton name → IsReadAs given read → IsRead given m skeleton name
read_text given read m skeleton name is reads = subst (λ (r : RecordRead). IsReadAs given r) is reads

pub read_table : (given : Record) (read : RecordRead) (m : Molecule) (name : List ℕ) (headers : ℕ) → read ≡ Table m name headers → IsReadAs given read → IsTableRead given m name headers
read_table given read m name headers is reads = subst (λ (r : RecordRead). IsReadAs given r) is reads

pub output_candidate : (to : Target) (next : Record) (read : RecordRead) (m : Molecule) (skeleton : TextGraph) (name : Span) → read ≡ Stands m skeleton name → IsReadAs next read
    → (k : ℕ) × (k < length skeleton.bonds) × (marked skeleton.candidates k ≡ true) → IsShown to next ⊎ HasCandidate next
output_candidate to next read m skeleton name is reads (k, less, at) = inr (candidate_of next skeleton (read_text next read m skeleton name is reads).text k less at)

pub output_text : (next : Record) (read : RecordRead) (m : Molecule) (skeleton : TextGraph) (name : Span) → read ≡ Stands m skeleton name → IsReadAs next read
    → ((k : ℕ) → k < length skeleton.bonds → marked skeleton.candidates k ≡ false) → RecordStands next m × (HasCandidate next → ⊥)
output_text next read m skeleton name is reads none =
    let r = read_text next read m skeleton name is reads in (r.stands, plain_of next skeleton r.text none)

pub output_table : (next : Record) (read : RecordRead) (m : Molecule) (name : List ℕ) (headers : ℕ) → read ≡ Table m name headers → IsReadAs next read → RecordStands next m × (HasCandidate next → ⊥)
output_table next read m name headers is reads = let r = read_table next read m name headers is reads in (r.stands, r.no_text)

-- what is found of an original that is read, where the converted record can't be compared, and where it can

pub no_output : (to : Target) (given next : Record) (m : Molecule) (map : List AtomId) → RecordStands given m → IsShown to next ⊎ HasCandidate next → IsMapFinding to given (Some next) map Output
no_output to given next m map stands shown = record { input = m; stands = stands; shown = shown }

text_compared : (given : Record) (skeleton : TextGraph) (m n : Molecule) (map : List AtomId) (v : Verdict) → IsTextOf given skeleton → IsStandsVerdict skeleton n map v → CompareOriginal given m n map v
text_compared RecordLong skeleton m n map v text is = text
text_compared (RecordSd lines) skeleton m n map v text is = absurd text
text_compared (RecordSdLong fault) skeleton m n map v text is = text
text_compared (RecordLine bytes) skeleton m n map v text is = record { skeleton = skeleton; text_is = text; is = is }

pub text_found : (to : Target) (given next : Record) (m n : Molecule) (skeleton : TextGraph) (name : Span) (map : List AtomId) (v : Verdict) → IsRead given m skeleton name → RecordStands next n × (HasCandidate next → ⊥)
    → IsStandsVerdict skeleton n map v → IsMapFinding to given (Some next) map (Map v)
text_found to given next m n skeleton name map v is (stands, plain) compared = record {
  input = m;
  output = n;
  input_stands = is.stands;
  output_stands = stands;
  plain = plain;
  is = text_compared given skeleton m n map v is.text compared;
}

pub table_found : (to : Target) (given next : Record) (m n : Molecule) (name : List ℕ) (headers : ℕ) (map : List AtomId) (v : Verdict) → IsTableRead given m name headers → RecordStands next n × (HasCandidate next → ⊥)
    → IsVerdict m n map v → IsMapFinding to given (Some next) map (Map v)
table_found to given next m n name headers map v is (stands, plain) compared = record {
  input = m;
  output = n;
  input_stands = is.stands;
  output_stands = stands;
  plain = plain;
  is = is.compare n map v compared;
}

-- a record that is read has marks that fit
pub marks_read : (given : Record) (read : RecordRead) → IsReadAs given read → MarksFit read
marks_read given (Refused refusal skeleton) is = tt
marks_read given (Table m name headers) is = tt
marks_read RecordLong (Stands m skeleton name) is = absurd is.text
marks_read (RecordSd lines) (Stands m skeleton name) is = absurd is.text
marks_read (RecordSdLong fault) (Stands m skeleton name) is = absurd is.text
marks_read (RecordLine bytes) (Stands m skeleton name) is = λ k less. sound_fits (text_of bytes) skeleton m k is.text is.stands.molecule is.sound

-- ---- barriers

pub barrier_shown : (to : Target) (given : Record) (skeleton : Option TextGraph) (graph : TextGraph) (barrier : List AtomId) (odd : ℕ) (right : Bool) → skeleton ≡ Some graph → IsTextKept given NoPlacement skeleton
    → (IsTrue right ↔ IsBarrierIn graph.atoms graph.bonds barrier odd) → IsTrue right ↔ IsBarrierOf to given barrier odd
barrier_shown to given skeleton graph barrier odd right is kept decides = by_record given (subst (λ (x : Option TextGraph). IsTextKept given NoPlacement x) is kept)
  where
    by_record : (given : Record) → IsTextKept given NoPlacement (Some graph) → IsTrue right ↔ IsBarrierOf to given barrier odd
    by_record RecordLong text = absurd (text refl)
    by_record (RecordSd lines) text = absurd cc
    by_record (RecordSdLong fault) text = absurd cc
    by_record (RecordLine bytes) text = (
      (λ on. subst (λ (x : List TextBond). IsBarrierIn (atoms_in (text_of bytes)) x barrier odd) text.bonds (subst (λ (x : List SkelAtom). IsBarrierIn x graph.bonds barrier odd) text.atoms (decides.0 on))),
      (λ by. decides.1 (subst (λ (x : List SkelAtom). IsBarrierIn x graph.bonds barrier odd) (sym text.atoms) (subst (λ (x : List TextBond). IsBarrierIn (atoms_in (text_of bytes)) x barrier odd) (sym text.bonds) by))),
    )

-- without a text there is no barrier
pub no_text : (to : Target) (given : Record) (skeleton : Option TextGraph) (barrier : List AtomId) (odd : ℕ) (right : Bool) → skeleton ≡ None → IsTextKept given NoPlacement skeleton
    → (IsTrue right ↔ ((barrier ≡ []) × (odd ≡ 0))) → IsTrue right ↔ IsBarrierOf to given barrier odd
no_text to given skeleton barrier odd right is kept decides = by_record given (subst (λ (x : Option TextGraph). IsTextKept given NoPlacement x) is kept)
  where
    by_record : (given : Record) → IsTextKept given NoPlacement None → IsTrue right ↔ IsBarrierOf to given barrier odd
    by_record RecordLong text = absurd (text refl)
    by_record (RecordSd lines) text = decides
    by_record (RecordSdLong fault) text = decides
    by_record (RecordLine bytes) text = absurd text

-- The findings of a check are one, and so is their text.
use Rattle.std.proofs.Common.{arith, ◌≡◌, ◌∙◌, ℕ, suc, ◌+◌, ◌<◌, ◌≤◌, List, [], ◌∷◌, ◌++◌, length, Option, Some, None, Bool, true, false, refl, sym, ap, subst, inl, inr}
use Rattle.std.specs.List.{list_all}
use Rattle.std.specs.Prelude.{◌⊎◌}
use Rattle.std.proofs.lemmas.List.{append_assoc, append-nil, length-append}
use Rattle.mc_base.specs.declared.ids.AtomId.{AtomId}
use Rattle.mc_base.specs.declared.refusal.Refusal.{Refusal}
use Rattle.mc_base.specs.declared.verdict.Verdict.{Verdict}
use Rattle.mc_mol.specs.Molecule.{Molecule}
use Rattle.mc_report.specs.declared.report_line.ReportLine.{ReportLine}
use Rattle.mc_report.specs.declared.report_line.ReportLine.TheVariants.{Ok as OkLine, Refused as RefusedLine}
use Rattle.mc_report.proofs.SpelledOnce.{spelled_once}
use Rattle.smi_mean.specs.Lines.{text_of}
use Rattle.smi_graph.specs.declared.skel_atom.SkelAtom.{SkelAtom}
use Rattle.smi_graph.specs.declared.text_bond.TextBond.{TextBond}
use Rattle.smi_graph.specs.Candidates.{AreCandidates}
use Rattle.smi_graph.specs.Rules.{atoms_in, text_bonds_in}
use Rattle.smi_graph.specs.Skeletons.{TextGraph}
use Rattle.smi_mean.proofs.PlacedBonds.{plain_molecule}
use Rattle.smi_mean.proofs.CentresRead.{centres_read}
use Rattle.mc_same.specs.Differences.{IsVerdict}
use Rattle.mc_same.proofs.OneVerdict.{stands_once, stands_of_text, verdict_once}
use Rattle.mc_convert.specs.declared.formats.Formats.{Formats}
use Rattle.mc_convert.specs.declared.formats.Target.{Target}
use Rattle.mc_convert.specs.Records.{Record, Line, TooLong, Sd, SdTooLong}
use Rattle.mc_convert.proofs.SdReading.{table_once}
use Rattle.mc_convert.proofs.Answering.{not_shown}
use Rattle.mc_convert.specs.declared.finding.Finding.{Finding}
use Rattle.mc_convert.specs.declared.finding.Finding.TheVariants.{Map, Shown, Report, Missing, Input, Output, Refusal as NotShown}
use Rattle.mc_convert.specs.Answers.{RecordStands}
use Rattle.mc_convert.specs.Runs.{IsShown}
use Rattle.mc_convert.specs.Checks.{first, Remaining, Leaves, FindsOne, Finds, is_extra, verdict_lines, extra_line, extra_text, at_first, IsCheckText, IsAllTrue}
use Rattle.mc_convert.specs.Findings.{Says, HasCandidate, Compare, CompareOriginal, IsMapFinding, IsRefusalFinding, IsFinding, is_true, verdict_line}
use Rattle.mc_convert.specs.Records.{records}

-- a line says one thing of a record
says_once : (k : ℕ) (line : Option (Option (List ℕ))) (s t : ReportLine) → Says k line s → Says k line t → s ≡ t
says_once k None s t is also = absurd is
says_once k (Some None) s t is also = absurd is
says_once k (Some (Some text)) s t is also = spelled_once s t text is.0 also.0

-- a record without a candidate stands for one molecule
plain_once : (given : Record) (m n : Molecule) → (HasCandidate given → ⊥) → RecordStands given m → RecordStands given n → m ≡ n
plain_once TooLong m n plain is also = absurd is
plain_once (Sd lines) m n plain is also = table_once lines m n is also
plain_once (SdTooLong fault) m n plain is also = absurd is
plain_once (Line bytes) m n plain is also = plain_molecule (text_of bytes) m n (λ k b at candidate. plain (k, b, at, candidate)) is.molecule also.molecule

original_once : (original : Record) (m n p : Molecule) (map : List AtomId) (v w : Verdict) → RecordStands original m → RecordStands original n → CompareOriginal original m p map v → CompareOriginal original n p map w → v ≡ w
original_once TooLong m n p map v w of_m of_n is also = absurd is
original_once (SdTooLong fault) m n p map v w of_m of_n is also = absurd is
original_once (Sd lines) m n p map v w of_m of_n is also =
    verdict_once m p map v w is (subst (λ (x : Molecule). IsVerdict x p map w) (table_once lines n m of_n of_m) also)
original_once (Line bytes) m n p map v w of_m of_n a b =
    let s = a.skeleton in
    let t = b.skeleton in
    stands_once s p map v w a.is (stands_of_text t s p map w (b.text_is.atoms ∙ sym a.text_is.atoms) (b.text_is.bonds ∙ sym a.text_is.bonds)
    (centres_read (text_of bytes) t b.text_is ∙ sym (centres_read (text_of bytes) s a.text_is)) b.text_is.limits.candidates a.text_is.limits.candidates b.is)

-- two records compare in one way under a map
compare_once : (original converted : Record) (map : List AtomId) (v w : Verdict) → Compare original converted map v → Compare original converted map w → v ≡ w
compare_once original converted map v w a b =
    let output : b.output ≡ a.output = plain_once converted b.output a.output b.plain b.output_stands a.output_stands in
    original_once original a.input b.input a.output map v w a.input_stands b.input_stands a.is (subst (λ (m : Molecule). CompareOriginal original b.input m map w) output b.is)

-- with no converted record left there is one finding
none_left : (to : Target) (original : Record) (map : List AtomId) (f : Finding) → IsMapFinding to original None map f → f ≡ Missing
none_left to original map Missing is = refl
none_left to original map _ is = absurd is

-- a converted record that is compared can be read, and says each bond's order
not_output : (to : Target) (converted : Record) (m : Molecule) → RecordStands converted m → (HasCandidate converted → ⊥) → IsShown to converted ⊎ HasCandidate converted → ⊥
not_output to converted m stands plain (inl shown) = not_shown to converted m stands shown
not_output to converted m stands plain (inr has) = plain has

map_once : (to : Target) (original : Record) (next : Option Record) (map : List AtomId) (f g : Finding) → IsMapFinding to original next map f → IsMapFinding to original next map g → f ≡ g
map_once to original None map f g is also = none_left to original map f is ∙ sym (none_left to original map g also)
map_once to original (Some converted) map Input Input is also = refl
map_once to original (Some converted) map Input Output is also = absurd (not_shown to original also.input also.stands is)
map_once to original (Some converted) map Input (Map w) is also = absurd (not_shown to original also.input also.input_stands is)
map_once to original (Some converted) map Output Input is also = absurd (not_shown to original is.input is.stands also)
map_once to original (Some converted) map Output Output is also = refl
map_once to original (Some converted) map Output (Map w) is also = absurd (not_output to converted also.output also.output_stands also.plain is.shown)
map_once to original (Some converted) map (Map v) Input is also = absurd (not_shown to original is.input is.input_stands also)
map_once to original (Some converted) map (Map v) Output is also = absurd (not_output to converted is.output is.output_stands is.plain also.shown)
map_once to original (Some converted) map (Map v) (Map w) is also = ap Map (compare_once original converted map v w is also)
map_once to original (Some converted) map Shown g is also = absurd is
map_once to original (Some converted) map Report g is also = absurd is
map_once to original (Some converted) map Missing g is also = absurd is
map_once to original (Some converted) map NotShown g is also = absurd is
map_once to original (Some converted) map _ _ is also = absurd also

refusal_once : (to : Target) (original : Record) (refusal : Refusal) (f g : Finding) → IsRefusalFinding to original refusal f → IsRefusalFinding to original refusal g → f ≡ g
refusal_once to original refusal Shown Shown is also = refl
refusal_once to original refusal Shown NotShown is also = absurd (also is)
refusal_once to original refusal NotShown Shown is also = absurd (is also)
refusal_once to original refusal NotShown NotShown is also = refl
refusal_once to original refusal Shown _ is also = absurd also
refusal_once to original refusal NotShown _ is also = absurd also
refusal_once to original refusal _ _ is also = absurd is

-- the parts of what a line says
same_map : (k : ℕ) (map other : List AtomId) → OkLine k map ≡ OkLine k other → map ≡ other
same_map k map other e = cc

same_refusal : (k : ℕ) (refusal other : Refusal) → RefusedLine k refusal ≡ RefusedLine k other → refusal ≡ other
same_refusal k refusal other e = cc

not_both : (k : ℕ) (map : List AtomId) (refusal : Refusal) → OkLine k map ≡ RefusedLine k refusal → ⊥
not_both k map refusal e = cc

-- an original has one finding
pub finding_once : (to : Target) (k : ℕ) (original : Record) (line : Option (Option (List ℕ))) (next : Option Record) (f g : Finding) → IsFinding to k original line next f → IsFinding to k original line next g → f ≡ g
finding_once to k original line next f g (inl a) (inl b) = a.1 ∙ sym b.1
finding_once to k original line next f g (inl a) (inr (inl b)) = absurd (a.0 (OkLine k b.map) b.says)
finding_once to k original line next f g (inl a) (inr (inr b)) = absurd (a.0 (RefusedLine k b.refusal) b.says)
finding_once to k original line next f g (inr (inl a)) (inl b) = absurd (b.0 (OkLine k a.map) a.says)
finding_once to k original line next f g (inr (inl a)) (inr (inl b)) =
    let same : b.map ≡ a.map = same_map k b.map a.map (says_once k line (OkLine k b.map) (OkLine k a.map) b.says a.says) in
    map_once to original next a.map f g a.holds (subst (λ (map : List AtomId). IsMapFinding to original next map g) same b.holds)
finding_once to k original line next f g (inr (inl a)) (inr (inr b)) = absurd (not_both k a.map b.refusal (says_once k line (OkLine k a.map) (RefusedLine k b.refusal) a.says b.says))
finding_once to k original line next f g (inr (inr a)) (inl b) = absurd (b.0 (RefusedLine k a.refusal) a.says)
finding_once to k original line next f g (inr (inr a)) (inr (inl b)) = absurd (not_both k b.map a.refusal (says_once k line (OkLine k b.map) (RefusedLine k a.refusal) b.says a.says))
finding_once to k original line next f g (inr (inr a)) (inr (inr b)) =
    let same : b.refusal ≡ a.refusal = same_refusal k b.refusal a.refusal (says_once k line (RefusedLine k b.refusal) (RefusedLine k a.refusal) b.says a.says) in
    refusal_once to original a.refusal f g a.holds (subst (λ (refusal : Refusal). IsRefusalFinding to original refusal g) same b.holds)

-- an original leaves the converted records in one way
pub leaves_once : (k : ℕ) (line : Option (Option (List ℕ))) (converted a b : List Record) → Leaves k line converted a → Leaves k line converted b → a ≡ b
leaves_once k line converted a b (inl x) (inl y) = x.1 ∙ sym y.1
leaves_once k line converted a b (inl x) (inr y) = absurd (y.0 x.0)
leaves_once k line converted a b (inr x) (inl y) = absurd (x.0 y.0)
leaves_once k line converted a b (inr x) (inr y) = x.1 ∙ sym y.1

abbrev made : List (Option (List ℕ)) → List Record → Remaining
made lines converted = record { lines = lines; converted = converted }

same_remaining : (a b : Remaining) → a.lines ≡ b.lines → a.converted ≡ b.converted → a ≡ b
same_remaining a b lines converted = parts a.lines b.lines a.converted b.converted lines converted
  where
    parts : (k l : List (Option (List ℕ))) (x y : List Record) → k ≡ l → x ≡ y → made k x ≡ made l y
    parts k l x y e f = cc

-- one original has one finding, and leaves one rest
pub one_once : (to : Target) (k : ℕ) (original : Record) (before after after' : Remaining) (f g : Finding) → FindsOne to k original before f after → FindsOne to k original before g after' → (f ≡ g) × (after ≡ after')
one_once to k original before after after' f g a b =
    let lines : after.lines ≡ after'.lines = a.lines_left ∙ sym b.lines_left in
    let converted = leaves_once k (first before.lines) before.converted after.converted after'.converted a.converted_left b.converted_left in
    (finding_once to k original (first before.lines) (first before.converted) f g a.finding_is b.finding_is, same_remaining after after' lines converted)

same_list : (f g : Finding) (fs gs : List Finding) → f ≡ g → fs ≡ gs → f ∷ fs ≡ g ∷ gs
same_list f g fs gs e h = cc

pub finds_once : (to : Target) (k : ℕ) (originals : List Record) (before after after' : Remaining) (fs gs : List Finding) → Finds to k originals before fs after → Finds to k originals before gs after'
    → (fs ≡ gs) × (after ≡ after')
finds_once to k [] before after after' [] [] a b = (refl, a ∙ sym b)
finds_once to k [] before after after' (f ∷ fs) gs a b = absurd a
finds_once to k [] before after after' [] (g ∷ gs) a b = absurd b
finds_once to k (o ∷ os) before after after' [] gs a b = absurd a
finds_once to k (o ∷ os) before after after' (f ∷ fs) [] a b = absurd b
finds_once to k (o ∷ os) before after after' (f ∷ fs) (g ∷ gs) (middle, one, rest) (middle', one', rest') =
    let same = one_once to k o before middle middle' f g one one' in
    let later = finds_once to (k + 1) os middle after after' fs gs rest (subst (λ (r : Remaining). Finds to (k + 1) os r gs after') (sym same.1) rest') in
    (same_list f g fs gs same.0 later.0, later.1)

-- Findings from a number on are those from an equal number on.
from_number : (to : Target) (k l : ℕ) (originals : List Record) (before after : Remaining) (fs : List Finding) → k ≡ l → Finds to k originals before fs after → Finds to l originals before fs after
from_number to k l originals before after fs e finds = subst (λ (n : ℕ). Finds to n originals before fs after) e finds

one_from : (to : Target) (k l : ℕ) (original : Record) (before after : Remaining) (f : Finding) → k ≡ l → FindsOne to k original before f after → FindsOne to l original before f after
one_from to k l original before after f e finds = subst (λ (n : ℕ). FindsOne to n original before f after) e finds

-- the findings of the first originals are the front of all
pub finds_front : (to : Target) (k : ℕ) (done more : List Record) (before middle after : Remaining) (fs gs : List Finding) → Finds to k done before fs middle → Finds to k (done ++ more) before gs after
    → (rest : List Finding) × (gs ≡ fs ++ rest) × Finds to (k + length done) more middle rest after
finds_front to k [] more before middle after [] gs a b = (gs, refl, from_number to k (k + 0) more middle after gs (omega arith) (subst (λ (r : Remaining). Finds to k more r gs after) (sym a) b))
finds_front to k [] more before middle after (f ∷ fs) gs a b = absurd a
finds_front to k (o ∷ done) more before middle after [] gs a b = absurd a
finds_front to k (o ∷ done) more before middle after (f ∷ fs) [] a b = absurd b
finds_front to k (o ∷ done) more before middle after (f ∷ fs) (g ∷ gs) (next, one, rest) (next', one', rest') =
    let same = one_once to k o before next' next g f one' one in
    let behind = finds_front to (k + 1) done more next middle after fs gs rest (subst (λ (r : Remaining). Finds to (k + 1) (done ++ more) r gs after) same.1 rest') in
    (behind.0, same_list g f gs (fs ++ behind.0) same.0 behind.1, from_number to (k + 1 + length done) (k + length (o ∷ done)) more middle after behind.0 (omega arith) behind.2)

-- one more original behind the others
pub finds_push : (to : Target) (k : ℕ) (done : List Record) (original : Record) (before middle after : Remaining) (fs : List Finding) (finding : Finding) → Finds to k done before fs middle
    → FindsOne to (k + length done) original middle finding after → Finds to k (done ++ original ∷ []) before (fs ++ finding ∷ []) after
finds_push to k [] original before middle after [] finding a one =
    (after, one_from to (k + 0) k original before after finding (omega arith) (subst (λ (r : Remaining). FindsOne to (k + 0) original r finding after) a one), refl)
finds_push to k [] original before middle after (f ∷ fs) finding a one = absurd a
finds_push to k (o ∷ done) original before middle after [] finding a one = absurd a
finds_push to k (o ∷ done) original before middle after (f ∷ fs) finding (next, first, rest) one =
    (next, first, finds_push to (k + 1) done original next middle after fs finding rest (one_from to (k + length (o ∷ done)) (k + 1 + length done) original middle after finding (omega arith) one))

-- there is one finding for each original
pub finds_count : (to : Target) (k : ℕ) (originals : List Record) (before after : Remaining) (fs : List Finding) → Finds to k originals before fs after → length fs ≡ length originals
finds_count to k [] before after [] finds = refl
finds_count to k [] before after (f ∷ fs) finds = absurd finds
finds_count to k (o ∷ os) before after [] finds = absurd finds
finds_count to k (o ∷ os) before after (f ∷ fs) (middle, one, rest) = ap suc (finds_count to (k + 1) os middle after fs rest)

-- the lines of findings behind others
lines_append : (k : ℕ) (fs gs : List Finding) → verdict_lines k (fs ++ gs) ≡ verdict_lines k fs ++ verdict_lines (k + length fs) gs
lines_append k [] gs = let same : k ≡ k + 0 = omega arith in ap (λ (n : ℕ). verdict_lines n gs) same
lines_append k (f ∷ fs) gs =
    let same : k + 1 + length fs ≡ k + length (f ∷ fs) = omega arith in
    ap (λ (x : List ℕ). verdict_line k f ++ x) (lines_append (k + 1) fs gs) ∙ sym (append_assoc (verdict_line k f) (verdict_lines (k + 1) fs) (verdict_lines (k + 1 + length fs) gs))
    ∙ ap (λ (n : ℕ). verdict_line k f ++ verdict_lines (k + 1) fs ++ verdict_lines n gs) same

-- the line of one more finding
pub lines_push : (k : ℕ) (fs : List Finding) (f : Finding) → verdict_lines k (fs ++ f ∷ []) ≡ verdict_lines k fs ++ verdict_line (k + length fs) f
lines_push k fs f = lines_append k fs (f ∷ []) ∙ ap (λ (x : List ℕ). verdict_lines k fs ++ x) (append-nil (verdict_line (k + length fs) f))

abbrev told : List Finding → Remaining → List ℕ
told findings after = verdict_lines 1 findings ++ extra_text (is_extra after)

-- the text of a check tells any findings of it
text_tells : (formats : Formats) (o c r text : List ℕ) (findings : List Finding) (after : Remaining) → IsCheckText formats o c r text → Finds formats.to 1 (records formats.from o) (at_first formats.to c r) findings after → text ≡ told findings after
text_tells formats o c r text findings after is finds =
    let same = finds_once formats.to 1 (records formats.from o) (at_first formats.to c r) is.after after is.findings findings is.finds finds in
    is.written ∙ both is.findings findings is.after after same.0 same.1
  where
    both : (fs gs : List Finding) (a b : Remaining) → fs ≡ gs → a ≡ b → told fs a ≡ told gs b
    both fs gs a b e f = ap (λ (x : List Finding). told x a) e ∙ ap (λ (x : Remaining). told gs x) f

-- a check has one text
pub text_once : (formats : Formats) (o c r s t : List ℕ) → IsCheckText formats o c r s → IsCheckText formats o c r t → s ≡ t
text_once formats o c r s t a b = text_tells formats o c r s b.findings b.after a b.finds ∙ sym b.written

-- all is true of any findings of a check, where it is of some
pub all_true_not : (formats : Formats) (o c r : List ℕ) (findings : List Finding) (after : Remaining) → IsAllTrue formats o c r → Finds formats.to 1 (records formats.from o) (at_first formats.to c r) findings after
    → (list_all is_true findings ≡ true) × (is_extra after ≡ false)
all_true_not formats o c r findings after all finds =
    let same = finds_once formats.to 1 (records formats.from o) (at_first formats.to c r) after all.after findings all.findings finds all.finds in
    (ap (λ (x : List Finding). list_all is_true x) same.0 ∙ all.all_true, ap (λ (x : Remaining). is_extra x) same.1 ∙ all.no_extra)

-- the length of what is told of findings behind others
told_length : (fs rest : List Finding) (after : Remaining) (count : ℕ) → length fs ≡ count → length (verdict_lines 1 fs) + length (verdict_lines (1 + count) rest) ≤ length (told (fs ++ rest) after)
told_length fs rest after count same =
    let a = length-append (verdict_lines 1 (fs ++ rest)) (extra_text (is_extra after)) in
    let b = ap (λ (x : List ℕ). length x) (lines_append 1 fs rest) in
    let c = length-append (verdict_lines 1 fs) (verdict_lines (1 + length fs) rest) in
    let d = ap (λ (n : ℕ). length (verdict_lines (1 + n) rest)) same in omega arith

-- Less than the lines of the first originals is less than the text of the check.
pub less_than_front : (formats : Formats) (o c r text : List ℕ) (done more : List Record) (middle : Remaining) (fs : List Finding) (n : ℕ)
    → Finds formats.to 1 done (at_first formats.to c r) fs middle → records formats.from o ≡ done ++ more → n < length (verdict_lines 1 fs) → IsCheckText formats o c r text → n < length text
less_than_front formats o c r text done more middle fs n finds split less is =
    let all = subst (λ (os : List Record). Finds formats.to 1 os (at_first formats.to c r) is.findings is.after) split is.finds in
    let behind = finds_front formats.to 1 done more (at_first formats.to c r) middle is.after fs is.findings finds all in
    let front = told_length fs behind.0 is.after (length done) (finds_count formats.to 1 done (at_first formats.to c r) middle fs finds) in
    let whole = ap (λ (x : List ℕ). length x) (is.written ∙ ap (λ (x : List Finding). told x is.after) behind.1) in omega arith

-- So is less than all lines, where there is something extra.
pub less_than_extra : (formats : Formats) (o c r text : List ℕ) (fs : List Finding) (after : Remaining) (n : ℕ) → Finds formats.to 1 (records formats.from o) (at_first formats.to c r) fs after → is_extra after ≡ true
    → n < length (verdict_lines 1 fs) + length extra_line → IsCheckText formats o c r text → n < length text
less_than_extra formats o c r text fs after n finds extra less is =
    let written = text_tells formats o c r text fs after is finds ∙ ap (λ (b : Bool). verdict_lines 1 fs ++ extra_text b) extra in
    let whole = ap (λ (x : List ℕ). length x) written in
    let joined = length-append (verdict_lines 1 fs) extra_line in omega arith

-- The report line of an answer is one line.
use Rattle.std.proofs.Common.{arith, ◌≡◌, ◌∙◌, ◌==◌, ℕ, ◌+◌, ◌<◌, Bool, true, false, cond, List, [], ◌∷◌, ◌++◌, length, refl, sym, ap, inl, inr}
use Rattle.mc_report.specs.Report.{line_ends, line_end, IsOneLine}
use Rattle.mc_report.proofs.OneLine.{ends_append, one_end, ok_one_line, refused_one_line}
use Rattle.mc_convert.specs.declared.formats.Target.{Target}
use Rattle.mc_convert.specs.Records.{Record, headers_in}
use Rattle.mc_convert.specs.Answers.{Reply, written_atoms, IsWritten, IsRefusedFor, IsAnswer, Answers, reports, IsPartOf}
use Rattle.mc_io.specs.Outside.{Outputs}
use Rattle.mc_convert.specs.Runs.{HoldsLess}

refused_one : (to : Target) (k : ℕ) (text : Record) (reply : Reply) → IsRefusedFor to k text reply → IsOneLine reply.report
refused_one to k text reply a =
    let said = refused_one_line k a.refusal in record { text = said.text; ends = a.report ∙ said.ends; one = said.one }

-- the report line of a record that is written
written_one : (to : Target) (k : ℕ) (given : Record) (reply : Reply) → IsWritten to k given reply → IsOneLine reply.report
written_one to k given reply a =
    let said = ok_one_line k 0 0 (headers_in given) (written_atoms to a.input) in record { text = said.text; ends = a.report ∙ said.ends; one = said.one }

pub one_line : (to : Target) (k : ℕ) (given : Record) (reply : Reply) → IsAnswer to k given reply → IsOneLine reply.report
one_line to k given reply (inl a) = written_one to k given reply a
one_line to k given reply (inr a) = refused_one to k given reply a

-- as many lines as records
pub all_lines : (to : Target) (k : ℕ) (texts : List Record) (replies : List Reply) → Answers to k texts replies → line_ends (reports replies) ≡ length texts
all_lines to k [] [] answers = refl
all_lines to k [] (r ∷ replies) answers = absurd answers
all_lines to k (t ∷ texts) [] answers = absurd answers
all_lines to k (t ∷ texts) (r ∷ replies) (one, more) =
    let joined = ends_append r.report (reports replies) in
    let first = one_end r.report (one_line to k t r one) in
    let rest = all_lines to (k + 1) texts replies more in omega arith

-- what stands behind a byte
behind : (b : ℕ) (bytes : List ℕ) → line_ends (b ∷ bytes) ≡ 0 → line_ends bytes ≡ 0
behind b bytes none = by_byte (b == 10) none
  where
    by_byte : (t : Bool) → cond t (1 + line_ends bytes) (line_ends bytes) ≡ 0 → line_ends bytes ≡ 0
    by_byte true e = absurd (omega arith)
    by_byte false e = e

same_behind : (b c : ℕ) (bytes others : List ℕ) → b ∷ bytes ≡ c ∷ others → (b ≡ c) × (bytes ≡ others)
same_behind b c bytes others e = (cc, cc)

-- a front of a line that isn't all of it has no line end
pub front_clear : (part rest text : List ℕ) → text ++ line_end ≡ part ++ rest → length part < length (text ++ line_end) → line_ends text ≡ 0 → line_ends part ≡ 0
front_clear [] rest text is less none = refl
front_clear (p ∷ part) rest [] is less none = absurd (omega arith)
front_clear (p ∷ part) rest (t ∷ text) is less none =
    let same = same_behind t p (text ++ line_end) (part ++ rest) is in
    let later = front_clear part rest text same.1 (omega arith) (behind t text none) in
    ap (λ (b : ℕ). line_ends (b ∷ part)) (sym same.0) ∙ front (t == 10) none later
  where
    front : (b : Bool) → cond b (1 + line_ends text) (line_ends text) ≡ 0 → line_ends part ≡ 0 → cond b (1 + line_ends part) (line_ends part) ≡ 0
    front true e later = absurd (omega arith)
    front false e later = later

-- a part of an answer that isn't all of it has no line end in the report
pub part_clear : (to : Target) (k : ℕ) (text : Record) (reply : Reply) (old new : Outputs) → IsAnswer to k text reply → (held : HoldsLess reply old new) → line_ends held.part1 ≡ 0
part_clear to k text reply old new answer held = by_part held.part
  where
    within : length held.part1 < length reply.report → (rest : List ℕ) → reply.report ≡ held.part1 ++ rest → line_ends held.part1 ≡ 0
    within less rest joined =
        let line = one_line to k text reply answer in
        let whole = ap (λ (x : List ℕ). length x) line.ends in
        front_clear held.part1 rest line.text (sym line.ends ∙ joined) (omega arith) line.one

    by_part : IsPartOf reply held.part0 held.part1 → line_ends held.part1 ≡ 0
    by_part (inl (front, none)) = ap line_ends none
    by_part (inr (whole, (rest, joined))) =
        let less = held.less in
        let out = ap (λ (x : List ℕ). length x) whole in within (omega arith) rest joined

-- A whole report line.
use Rattle.std.proofs.Common.{arith, ◌≡◌, ◌∙◌, ◌<◌, ◌≤◌, ◌^◌, ℕ, List, ◌++◌, refl, ap, sym, subst, append_assoc, inl, inr}
use Rattle.std.specs.Prelude.{Option, Some, None, ◌↔◌, decimal, codes, IsNone, IfOk, Result, Ok, Err}
use Rattle.std.proofs.lemmas.Option.{some_pair_parts}
use Rattle.mc_base.specs.declared.ids.AtomId.{AtomId}
use Rattle.mc_base.specs.declared.refusal.Refusal.{Refusal}
use Rattle.mc_base.specs.Kinds.{kind_name}
use Rattle.mc_report.specs.declared.report_line.ReportLine.{ReportLine}
use Rattle.mc_report.specs.declared.report_line.ReportLine.TheVariants.{Ok as OkLine, Refused as RefusedLine}
use Rattle.mc_report.specs.Grammar.{Spells, IsRecordNumber}
use Rattle.mc_report.specs.Report.{numbers, reason, ok_text, refused_text}
use Rattle.mc_report.specs.Fronts.{number_front, word_front}
use Rattle.mc_report.specs.Behind.{FindsLine, BehindNumber, OkBehind, RefusedBehind}
use Rattle.mc_report.proofs.Numbers.{IsNumber, number_exact}
use Rattle.mc_report.proofs.Words.{word_found, word_read}
use Rattle.mc_report.proofs.RefusedLines.{regroup}

-- a fact of what was found that another follows from
pub if_ok : {T E : Type 0} (P Q : T → Type 0) (r : Result T E) → ((x : T) → P x → Q x) → IfOk r P → IfOk r Q
if_ok P Q (Ok x) follows h = follows x h
if_ok P Q (Err e) follows h = tt

-- ---- behind the number

pub ok_found : (k : ℕ) (text rest : List ℕ) (answer : Option ReportLine) → word_front (codes " ok map=") text ≡ Some rest → FindsLine (λ line. OkBehind k line rest) answer
    → FindsLine (BehindNumber k text) answer
ok_found k text rest answer word finds = λ line. (
  (λ e. inl (record { rest = rest; joined = word_found (codes " ok map=") text rest word; is = (finds line).0 e })),
  (λ b. (finds line).1 (same line b)),
)
  where
    same : (line : ReportLine) → BehindNumber k text line → OkBehind k line rest
    same line (inl b) =
        let read : Some b.rest ≡ Some rest = sym (word_read (codes " ok map=") b.rest) ∙ ap (word_front (codes " ok map=")) (sym b.joined) ∙ word in
        subst (λ t. OkBehind k line t) (let is : b.rest ≡ rest = cc in is) b.is
    same line (inr b) =
        let read : None ≡ Some rest = ap (word_front (codes " ok map=")) (sym b.joined) ∙ word in
        cc

pub refused_found : (k : ℕ) (text rest : List ℕ) (answer : Option ReportLine) → word_front (codes " ok map=") text ≡ None → word_front (codes " refused ") text ≡ Some rest
    → FindsLine (λ line. RefusedBehind k line rest) answer → FindsLine (BehindNumber k text) answer
refused_found k text rest answer other word finds = λ line. (
  (λ e. inr (record { rest = rest; joined = word_found (codes " refused ") text rest word; is = (finds line).0 e })),
  (λ b. (finds line).1 (same line b)),
)
  where
    same : (line : ReportLine) → BehindNumber k text line → RefusedBehind k line rest
    same line (inl b) =
        let read : Some b.rest ≡ None = sym (word_read (codes " ok map=") b.rest) ∙ ap (word_front (codes " ok map=")) (sym b.joined) ∙ other in
        cc
    same line (inr b) =
        let read : Some b.rest ≡ Some rest = sym (word_read (codes " refused ") b.rest) ∙ ap (word_front (codes " refused ")) (sym b.joined) ∙ word in
        subst (λ t. RefusedBehind k line t) (let is : b.rest ≡ rest = cc in is) b.is

pub neither_found : (k : ℕ) (text : List ℕ) → word_front (codes " ok map=") text ≡ None → word_front (codes " refused ") text ≡ None → FindsLine (BehindNumber k text) None
neither_found k text ok refused = λ line. ((λ e. cc), (λ b. absurd (there line b)))
  where
    there : (line : ReportLine) → BehindNumber k text line → ⊥
    there line (inl b) =
        let read : Some b.rest ≡ None = sym (word_read (codes " ok map=") b.rest) ∙ ap (word_front (codes " ok map=")) (sym b.joined) ∙ ok in
        cc
    there line (inr b) =
        let read : Some b.rest ≡ None = sym (word_read (codes " refused ") b.rest) ∙ ap (word_front (codes " refused ")) (sym b.joined) ∙ refused in
        cc

-- ---- with the number

abbrev pub most : ℕ
most = 18446744073709551615

regroup_ok : (a b c d e f g h : List ℕ) → ((((((a ++ b) ++ c) ++ d) ++ e) ++ f) ++ g) ++ h ≡ a ++ (b ++ (c ++ (d ++ (e ++ (f ++ (g ++ h))))))
regroup_ok a b c d e f g h = simp append_assoc

ok_parts : (k : ℕ) (map : List AtomId) (idle ring lines : ℕ) → ok_text k map idle ring lines
    ≡ decimal k ++ (codes " ok map=" ++ (numbers map ++ (codes " idle=" ++ (decimal idle ++ (codes " ring=" ++ (decimal ring ++ (codes " data=" ++ decimal lines)))))))
ok_parts k map idle ring lines =
    ap (λ t. t ++ decimal lines) (regroup_ok (decimal k) (codes " ok map=") (numbers map) (codes " idle=") (decimal idle) (codes " ring=") (decimal ring) (codes " data="))
    ∙ regroup_last (decimal k) (codes " ok map=") (numbers map) (codes " idle=") (decimal idle) (codes " ring=") (decimal ring) (codes " data=") (decimal lines)
  where
    regroup_last : (a b c d e f g h i : List ℕ) → (a ++ (b ++ (c ++ (d ++ (e ++ (f ++ (g ++ h))))))) ++ i ≡ a ++ (b ++ (c ++ (d ++ (e ++ (f ++ (g ++ (h ++ i)))))))
    regroup_last a b c d e f g h i = simp append_assoc

refused_parts : (k : ℕ) (refusal : Refusal) → refused_text k refusal
    ≡ decimal k ++ (codes " refused " ++ (kind_name refusal.kind ++ reason refusal.kind refusal.place refusal.barrier refusal.odd))
refused_parts k refusal = regroup (decimal k) (codes " refused ") (kind_name refusal.kind) (reason refusal.kind refusal.place refusal.barrier refusal.odd)

-- the number of a line, and what it says behind it
pub record Parts (line : List ℕ) (read : ReportLine) : Type 0 where
  pub k : ℕ
  pub rest : List ℕ
  pub number : IsRecordNumber k
  pub is_number : IsNumber most k rest line
  pub behind : BehindNumber k rest read

fits_most : (k : ℕ) → k < 2 ^ 64 → k ≤ most
fits_most k small = omega arith

pub parts_of : (line : List ℕ) (read : ReportLine) → Spells read line → Parts line read
parts_of line (OkLine k map) s = record {
  k = k;
  rest = _;
  number = s.number;
  is_number = record { joined = s.written ∙ ok_parts k map s.idle s.ring s.lines; within = fits_most k s.number.1; stops = refl };
  behind = inl (record {
    rest = _;
    joined = refl;
    is = record {
      map = map;
      rest = _;
      is = refl;
      atoms = s.atoms;
      joined = refl;
      counts = record { idle = s.idle; ring = s.ring; lines = s.lines; idle_fits = s.idle_fits; ring_fits = s.ring_fits; lines_fit = s.lines_fit; joined = refl };
    };
  });
}
parts_of line (RefusedLine k refusal) s = record {
  k = k;
  rest = _;
  number = s.number;
  is_number = record { joined = s.written ∙ refused_parts k refusal; within = fits_most k s.number.1; stops = refl };
  behind = inr (record { rest = _; joined = refl; is = record { refusal = refusal; is = refl; fits = s.reason; joined = refl } });
}

spells_of : (line : List ℕ) (k : ℕ) (rest : List ℕ) (read : ReportLine) → IsRecordNumber k → line ≡ decimal k ++ rest → BehindNumber k rest read → Spells read line
spells_of line k rest read number is (inl b) =
    let ok = b.is in
    let c = b.is.counts in
    subst (λ r. Spells r line) (sym b.is.is) (record {
      idle = c.idle;
      ring = c.ring;
      lines = c.lines;
      number = number;
      atoms = b.is.atoms;
      idle_fits = c.idle_fits;
      ring_fits = c.ring_fits;
      lines_fit = c.lines_fit;
      written = is ∙ ap (λ t. decimal k ++ t) (b.joined ∙ ap (λ t. codes " ok map=" ++ t) (b.is.joined ∙ ap (λ t. numbers b.is.map ++ t) c.joined)) ∙ sym (ok_parts k b.is.map c.idle c.ring c.lines);
    })
spells_of line k rest read number is (inr b) =
    subst (λ r. Spells r line) (sym b.is.is) (record {
      number = number;
      reason = b.is.fits;
      written = is ∙ ap (λ t. decimal k ++ t) (b.joined ∙ ap (λ t. codes " refused " ++ t) b.is.joined) ∙ sym (refused_parts k b.is.refusal);
    })

pub fits : most < 2 ^ 64
fits = omega arith

pub line_found : (line : List ℕ) (k : ℕ) (rest : List ℕ) (answer : Option ReportLine) → number_front 18446744073709551615 line ≡ Some (k, rest) → 1 ≤ k → FindsLine (BehindNumber k rest) answer
    → FindsLine (λ read. Spells read line) answer
line_found line k rest answer found some finds = λ read. (
  (λ e. spells_of line k rest read (some, below) number.joined ((finds read).0 e)),
  (λ s. let parts = parts_of line read s in
      (finds read).1 (let there = (number_exact most line fits parts.k parts.rest).1 parts.is_number in at_same read parts (some_pair_parts k parts.k rest parts.rest (sym found ∙ there)))),
)
  where
    number : IsNumber most k rest line
    number = (number_exact most line fits k rest).0 found

    below : k < 2 ^ 64
    below = let le = number.within in omega arith

    at_same : (read : ReportLine) (parts : Parts line read) → (k ≡ parts.k) × (rest ≡ parts.rest) → BehindNumber k rest read
    at_same read parts same = subst (λ t. BehindNumber k t read) (sym same.1) (subst (λ n. BehindNumber n parts.rest read) (sym same.0) parts.behind)

pub no_number : (line : List ℕ) → number_front 18446744073709551615 line ≡ None → FindsLine (λ read. Spells read line) None
no_number line none = λ read. (
  (λ e. cc),
  (λ s. let parts = parts_of line read s in let there = (number_exact most line fits parts.k parts.rest).1 parts.is_number in cc),
)

pub number_zero : (line : List ℕ) (k : ℕ) (rest : List ℕ) → number_front 18446744073709551615 line ≡ Some (k, rest) → k ≡ 0 → FindsLine (λ read. Spells read line) None
number_zero line k rest found zero_number = λ read. (
  (λ e. cc),
  (λ s. let parts = parts_of line read s in let there = (number_exact most line fits parts.k parts.rest).1 parts.is_number in
      let same : (k ≡ parts.k) × (rest ≡ parts.rest) = some_pair_parts k parts.k rest parts.rest (sym found ∙ there) in
      absurd (positive parts.k parts.number.0 (sym same.0 ∙ zero_number))),
)
  where
    positive : (k : ℕ) → 1 ≤ k → k ≡ 0 → ⊥
    positive k some is = omega arith

-- nothing is found exactly where no line is spelled so
pub none_exact : (line : List ℕ) (answer : Option ReportLine) → FindsLine (λ read. Spells read line) answer → IsNone answer ↔ ((read : ReportLine) → Spells read line → ⊥)
none_exact line None finds = ((λ _ read s. let found = (finds read).1 s in cc), (λ _. refl))
none_exact line (Some read) finds = ((λ none. cc), (λ none. absurd (none read ((finds read).0 refl))))

-- What a line is for its record.
use Rattle.std.proofs.Common.{arith, ◌≡◌, ◌∙◌, ℕ, ◌+◌, ◌≤◌, ◌&&◌, Bool, true, false, if◌then◌else◌, List, [], ◌∷◌, ◌++◌, length, Option, Some, None, refl, ap, sym, subst}
use Rattle.std.specs.Prelude.{codes, nat_eq, nat_le, nat_lt}
use Rattle.std.specs.List.{starts_with}
use Rattle.std.proofs.lemmas.Bool.Decides.{nat_tests}
use Rattle.mc_base.specs.declared.kind.Kind.{Kind}
use Rattle.mc_base.specs.declared.kind.Kind.TheVariants.{LineTooLong, RecordTooLong}
use Rattle.mc_io.specs.Lines.{is_long, most_bytes, text_of}
use Rattle.mc_io.proofs.Cutting.{some_text}
use Rattle.ct_sd.specs.declared.record_front.LineRole.{LineRole}
use Rattle.ct_sd.specs.Faults.{shown_if}
use Rattle.ct_sd.specs.FoundRecords.{Plays, ShowsFirst, role_by, too_long_by}
use Rattle.ct_sd.specs.Records.{ends_record, length_shows, most_record_bytes, piece_of}

-- a line is long by its length and that of its text
pub long_by : (piece : List ℕ) (text : ℕ) (long : Bool) → text ≡ length (text_of piece) → long ≡ (nat_lt most_bytes (length piece) && nat_lt 0 text) → long ≡ is_long piece
long_by piece text long texts longs = longs ∙ rw (some_text piece) (ap (λ (n : ℕ). nat_lt most_bytes (length piece) && nat_lt 0 n) texts)

over : (before behind : ℕ) → before ≤ most_record_bytes → (nat_le before most_record_bytes && nat_lt most_record_bytes behind) ≡ nat_lt most_record_bytes behind
over before behind low = grind (arith, nat_tests)

-- what a line shows, and the first of it
pub shows_none : (before behind : ℕ) (long : Bool) (whole : List ℕ) → before ≤ most_record_bytes → long ≡ is_long (piece_of whole) → behind ≡ before + length whole → too_long_by before behind long ≡ None → length_shows before whole ≡ []
shows_none before behind long whole low longs ends none =
    ap (λ (b : Bool). shown_if (nat_lt before most_record_bytes && b) LineTooLong ++ shown_if (nat_le before most_record_bytes && nat_lt most_record_bytes (before + length whole)) RecordTooLong) (sym longs)
    ∙ (ap (λ (n : ℕ). shown_if (nat_lt before most_record_bytes && long) LineTooLong ++ shown_if (nat_le before most_record_bytes && nat_lt most_record_bytes n) RecordTooLong) (sym ends)
    ∙ (ap (λ (b : Bool). shown_if (nat_lt before most_record_bytes && long) LineTooLong ++ shown_if b RecordTooLong) (over before behind low)
    ∙ by_tests (nat_lt before most_record_bytes && long) (nat_lt most_record_bytes behind) none))
  where
    by_tests : (p q : Bool) → (if p then Some LineTooLong else if q then Some RecordTooLong else None) ≡ None → shown_if p LineTooLong ++ shown_if q RecordTooLong ≡ []
    by_tests true q is = absurd cc
    by_tests false true is = absurd cc
    by_tests false false is = refl

pub shows_some : (before behind : ℕ) (long : Bool) (kind : Kind) (whole : List ℕ) → before ≤ most_record_bytes → long ≡ is_long (piece_of whole) → behind ≡ before + length whole → too_long_by before behind long ≡ Some kind → ShowsFirst kind before whole
shows_some before behind long kind whole low longs ends some =
    let found = by_tests (nat_lt before most_record_bytes && long) (nat_lt most_record_bytes behind) some in (
      found.0,
      ap (λ (b : Bool). shown_if (nat_lt before most_record_bytes && b) LineTooLong ++ shown_if (nat_le before most_record_bytes && nat_lt most_record_bytes (before + length whole)) RecordTooLong) (sym longs)
          ∙ (ap (λ (n : ℕ). shown_if (nat_lt before most_record_bytes && long) LineTooLong ++ shown_if (nat_le before most_record_bytes && nat_lt most_record_bytes n) RecordTooLong) (sym ends)
          ∙ (ap (λ (b : Bool). shown_if (nat_lt before most_record_bytes && long) LineTooLong ++ shown_if b RecordTooLong) (over before behind low) ∙ found.1)),
    )
  where
    same : (j k : Kind) → Some j ≡ Some k → j ≡ k
    same j k e = cc

    by_tests : (p q : Bool) → (if p then Some LineTooLong else if q then Some RecordTooLong else None) ≡ Some kind → (rest : List Kind) × (shown_if p LineTooLong ++ shown_if q RecordTooLong ≡ kind ∷ rest)
    by_tests true q is = (shown_if q RecordTooLong, ap (λ (k : Kind). k ∷ shown_if q RecordTooLong) (same LineTooLong kind is))
    by_tests false true is = ([], ap (λ (k : Kind). k ∷ []) (same RecordTooLong kind is))
    by_tests false false is = absurd cc

pub plays_role : (before behind text : ℕ) (piece whole : List ℕ) (long ends : Bool) (kind : Option Kind) (role : LineRole) → before ≤ most_record_bytes → text ≡ length (text_of piece)
    → long ≡ (nat_lt most_bytes (length piece) && nat_lt 0 text) → kind ≡ too_long_by before behind long → ends ≡ starts_with nat_eq piece (codes "$$$$") → role ≡ role_by kind ends text
    → piece_of whole ≡ piece → behind ≡ before + length whole → Plays role before whole
plays_role before behind text piece whole long ends kind role low texts longs kinds end roles is behind_is =
    subst (λ (r : LineRole). Plays r before whole) (sym roles) (by_kind kind ends (sym kinds) (ap (λ (p : List ℕ). starts_with nat_eq p (codes "$$$$")) is ∙ sym end))
  where
    all : long ≡ is_long (piece_of whole)
    all = long_by piece text long texts longs ∙ ap is_long (sym is)

    by_kind : (k : Option Kind) (e : Bool) → too_long_by before behind long ≡ k → ends_record whole ≡ e → Plays (role_by k e text) before whole
    by_kind (Some kind) e is_k is_e = (kind, shows_some before behind long kind whole low all behind_is is_k)
    by_kind None true is_k is_e = (shows_none before behind long whole low all behind_is is_k, is_e)
    by_kind None false is_k is_e = (shows_none before behind long whole low all behind_is is_k, is_e, texts ∙ ap (λ (p : List ℕ). length (text_of p)) (sym is))

-- What is put for a record is one line: digits, names and words have no line feed.
use Rattle.std.proofs.Common.{arith, ◌≡◌, ◌∙◌, ◌+◌, ◌/◌, ◌%◌, ◌==◌, nat_lt, cond, if◌then◌else◌, ℕ, zero, suc, Bool, true, false, List, [], ◌∷◌, ◌++◌, refl, ap, sym, append_assoc}
use Rattle.std.specs.Prelude.{codes, decimal}
use Rattle.std.specs.Fmt.{digits, digits_onto, digit_glyph}
use Rattle.std.proofs.lemmas.Bool.Decides.{nat_tests}
use Rattle.mc_base.specs.declared.ids.AtomId.{AtomId}
use Rattle.mc_base.specs.declared.kind.Kind.{Kind}
use Rattle.mc_base.specs.declared.kind.Kind.TheVariants.{NotBuilt, LineTooLong, RecordTooLong, BadToken, Wildcard, OtherChirality, ShortRecord, ReactionFile, Version, BadField, Query, BondType, Radical, Reaction, Sgroup, Alias, Stext, EnhancedStereo, MassDifference, ThreeD, BadOrder, ParenOpen, RingOpen, RingClash, RingPair, AromaticBond, AtomNumber, BondPair, LimitAtoms, LimitBonds, LimitRings, LimitIsotope, LimitClass, LimitCharge, LimitCoordinate, LimitHydrogens, ValenceShort, LimitValence, HydrogenOnHydrogen, NoPlacement, NotACentre, DirectionConflict, AmbiguousCentre, Quadruple, RingSides, Crowded, Name}
use Rattle.mc_base.specs.declared.refusal.Refusal.{Refusal}
use Rattle.mc_base.specs.Kinds.{kind_name}
use Rattle.mc_report.specs.Report.{line_ends, IsOneLine, line_end, numbers, later_numbers, ok_text, reason, ok_line, refused_text, refused_line}

-- line ends of two texts
pub ends_append : (xs ys : List ℕ) → line_ends (xs ++ ys) ≡ line_ends xs + line_ends ys
ends_append [] ys = let same : line_ends ys ≡ 0 + line_ends ys = omega arith in same
ends_append (x ∷ xs) ys = by_byte (x == 10) (ends_append xs ys)
  where
    by_byte : (t : Bool) → line_ends (xs ++ ys) ≡ line_ends xs + line_ends ys → cond t (1 + line_ends (xs ++ ys)) (line_ends (xs ++ ys)) ≡ cond t (1 + line_ends xs) (line_ends xs) + line_ends ys
    by_byte true e = omega arith
    by_byte false e = e

-- texts without a line end, one behind the other
clear : (xs ys : List ℕ) → line_ends xs ≡ 0 → line_ends ys ≡ 0 → line_ends (xs ++ ys) ≡ 0
clear xs ys e f = let joined = ends_append xs ys in omega arith

-- ---- numbers

glyph : (d : ℕ) → (digit_glyph false d == 10) ≡ false
glyph d = by_size (nat_lt d 10)
  where
    by_size : (t : Bool) → ((if t then 48 + d else 87 + d) == 10) ≡ false
    by_size true = grind (arith, nat_tests)
    by_size false = grind (arith, nat_tests)

digits_clear : (k n : ℕ) (behind : List ℕ) → line_ends (digits_onto k 10 false n behind) ≡ line_ends behind
digits_clear zero n behind = refl
digits_clear (suc k) n behind = by_size (n / 10 == 0) (digits_clear k (n / 10) (digit_glyph false (n % 10) ∷ behind))
  where
    digit : line_ends (digit_glyph false (n % 10) ∷ behind) ≡ line_ends behind
    digit = ap (λ (t : Bool). cond t (1 + line_ends behind) (line_ends behind)) (glyph (n % 10))

    by_size : (t : Bool) → line_ends (digits_onto k 10 false (n / 10) (digit_glyph false (n % 10) ∷ behind)) ≡ line_ends (digit_glyph false (n % 10) ∷ behind)
        → line_ends (if t then digit_glyph false (n % 10) ∷ behind else digits_onto k 10 false (n / 10) (digit_glyph false (n % 10) ∷ behind)) ≡ line_ends behind
    by_size true later = digit
    by_size false later = later ∙ digit

number_clear : (n : ℕ) → line_ends (decimal n) ≡ 0
unfolding digits
number_clear n = digits_clear 64 n []

later_clear : (atoms : List AtomId) → line_ends (later_numbers atoms) ≡ 0
later_clear [] = refl
later_clear (a ∷ atoms) = clear (44 ∷ []) (decimal (a.0 + 1) ++ later_numbers atoms) refl (clear (decimal (a.0 + 1)) (later_numbers atoms) (number_clear (a.0 + 1)) (later_clear atoms))

numbers_clear : (atoms : List AtomId) → line_ends (numbers atoms) ≡ 0
numbers_clear [] = refl
numbers_clear (a ∷ atoms) = clear (decimal (a.0 + 1)) (later_numbers atoms) (number_clear (a.0 + 1)) (later_clear atoms)

-- a word behind a text, and a number behind that
with_number : (text word : List ℕ) (n : ℕ) → line_ends text ≡ 0 → line_ends word ≡ 0 → line_ends (text ++ word ++ decimal n) ≡ 0
with_number text word n e f = clear (text ++ word) (decimal n) (clear text word e f) (number_clear n)

-- ---- lines

name_clear : (kind : Kind) → line_ends (kind_name kind) ≡ 0
name_clear NotBuilt = refl
name_clear LineTooLong = refl
name_clear RecordTooLong = refl
name_clear BadToken = refl
name_clear Wildcard = refl
name_clear OtherChirality = refl
name_clear ShortRecord = refl
name_clear ReactionFile = refl
name_clear Version = refl
name_clear BadField = refl
name_clear Query = refl
name_clear BondType = refl
name_clear Radical = refl
name_clear Reaction = refl
name_clear Sgroup = refl
name_clear Alias = refl
name_clear Stext = refl
name_clear EnhancedStereo = refl
name_clear MassDifference = refl
name_clear ThreeD = refl
name_clear BadOrder = refl
name_clear ParenOpen = refl
name_clear RingOpen = refl
name_clear RingClash = refl
name_clear RingPair = refl
name_clear AromaticBond = refl
name_clear AtomNumber = refl
name_clear BondPair = refl
name_clear LimitAtoms = refl
name_clear LimitBonds = refl
name_clear LimitRings = refl
name_clear LimitIsotope = refl
name_clear LimitClass = refl
name_clear LimitCharge = refl
name_clear LimitCoordinate = refl
name_clear LimitHydrogens = refl
name_clear ValenceShort = refl
name_clear LimitValence = refl
name_clear HydrogenOnHydrogen = refl
name_clear NoPlacement = refl
name_clear NotACentre = refl
name_clear DirectionConflict = refl
name_clear AmbiguousCentre = refl
name_clear Quadruple = refl
name_clear RingSides = refl
name_clear Crowded = refl
name_clear Name = refl

reason_clear : (kind : Kind) (place : ℕ) (barrier : List AtomId) (odd : ℕ) → line_ends (reason kind place barrier odd) ≡ 0
reason_clear NoPlacement place barrier odd = with_number (codes " barrier=" ++ numbers barrier) (codes " odd=") odd (clear (codes " barrier=") (numbers barrier) refl (numbers_clear barrier)) refl
reason_clear _ place barrier odd = clear (codes " place=") (decimal place) refl (number_clear place)

ok_clear : (k : ℕ) (map : List AtomId) (idle ring lines : ℕ) → line_ends (ok_text k map idle ring lines) ≡ 0
ok_clear k map idle ring lines =
    let front : List ℕ = decimal k ++ codes " ok map=" in
    let text : List ℕ = front ++ numbers map in
    let with_idle : List ℕ = text ++ codes " idle=" ++ decimal idle in
    let with_ring : List ℕ = with_idle ++ codes " ring=" ++ decimal ring in
    let a : line_ends front ≡ 0 = clear (decimal k) (codes " ok map=") (number_clear k) refl in
    let b : line_ends text ≡ 0 = clear front (numbers map) a (numbers_clear map) in
    let c : line_ends with_idle ≡ 0 = with_number text (codes " idle=") idle b refl in
    let d : line_ends with_ring ≡ 0 = with_number with_idle (codes " ring=") ring c refl in
    with_number with_ring (codes " data=") lines d refl

refused_clear : (k : ℕ) (refusal : Refusal) → line_ends (refused_text k refusal) ≡ 0
refused_clear k refusal =
    let said : List ℕ = reason refusal.kind refusal.place refusal.barrier refusal.odd in
    let front : List ℕ = decimal k ++ codes " refused " in
    let text : List ℕ = front ++ kind_name refusal.kind in
    let a : line_ends front ≡ 0 = clear (decimal k) (codes " refused ") (number_clear k) refl in
    let b : line_ends text ≡ 0 = clear front (kind_name refusal.kind) a (name_clear refusal.kind) in
    clear text said b (reason_clear refusal.kind refusal.place refusal.barrier refusal.odd)

pub ok_one_line : (k idle ring lines : ℕ) (map : List AtomId) → IsOneLine (ok_line k map idle ring lines)
ok_one_line k idle ring lines map = record { text = ok_text k map idle ring lines; ends = refl; one = ok_clear k map idle ring lines }

pub refused_one_line : (k : ℕ) (refusal : Refusal) → IsOneLine (refused_line k refusal)
refused_one_line k refusal = record { text = refused_text k refusal; ends = refl; one = refused_clear k refusal }

-- a line, as it is counted
pub one_end : (bytes : List ℕ) → IsOneLine bytes → line_ends bytes ≡ 1
one_end bytes line =
    let joined = ap line_ends line.ends ∙ ends_append line.text line_end in
    let none = line.one in omega arith

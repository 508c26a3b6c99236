-- No atom of a text has more than nine hydrogens.
use Rattle.std.proofs.Common.{arith, ◌≡◌, ℕ, zero, suc, ◌-◌, ◌≤◌, ◌<◌, ◌^◌, List, [], ◌∷◌, ◌++◌, length, Bool, true, false, Some, subst, inl, inr}
use Rattle.std.specs.Prelude.{slice_get, nat_le, if◌then◌else◌}
use Rattle.std.specs.Str.Parse.{digits_value}
use Rattle.std.proofs.lemmas.Int.Digits.{digits_value-lt}
use Rattle.mc_base.specs.declared.span.Span.{Span}
use Rattle.mc_elements.specs.declared.element.Element.{Element}
use Rattle.mc_elements.specs.declared.element.Element.TheVariants.{B, C, N, O, F, P, S, Cl, Br, I}
use Rattle.mc_elements.specs.Valences.{implied, smiles_valences}
use Rattle.smi_mean.specs.Meaning.{lower_hydrogens}
use Rattle.smi_lex.specs.declared.token.Token.{Token}
use Rattle.smi_lex.specs.declared.token.TokenKind.{TokenKind}
use Rattle.smi_lex.specs.declared.token.TokenKind.TheVariants as kind
use Rattle.smi_lex.specs.Grammar.{WritesDigits, SpellsHydrogens, Spells}
use Rattle.smi_lex.specs.Reading.{IsReading}
use Rattle.smi_lex.specs.Tokens.{tokens, unread}
use Rattle.smi_graph.specs.declared.skel_atom.SkelAtom.{SkelAtom}
use Rattle.smi_graph.specs.Roles.{atom_of, atoms_of}

-- the implied hydrogens
low_or : (v sum later : ℕ) → v ≤ 9 → later ≤ 9 → (if nat_le sum v then v - sum else later) ≤ 9
low_or v sum later few low = by_test (nat_le sum v)
  where
    by_test : (t : Bool) → (if t then v - sum else later) ≤ 9
    by_test true = omega arith
    by_test false = low

pub implied_low : (e : Element) (sum : ℕ) → implied (smiles_valences e) sum ≤ 9
implied_low B sum = low_or 3 sum 0 (omega arith) (omega arith)
implied_low C sum = low_or 4 sum 0 (omega arith) (omega arith)
implied_low N sum = low_or 3 sum _ (omega arith) (low_or 5 sum 0 (omega arith) (omega arith))
implied_low O sum = low_or 2 sum 0 (omega arith) (omega arith)
implied_low P sum = low_or 3 sum _ (omega arith) (low_or 5 sum 0 (omega arith) (omega arith))
implied_low S sum = low_or 2 sum _ (omega arith) (low_or 4 sum _ (omega arith) (low_or 6 sum 0 (omega arith) (omega arith)))
implied_low F sum = low_or 1 sum 0 (omega arith) (omega arith)
implied_low Cl sum = low_or 1 sum 0 (omega arith) (omega arith)
implied_low Br sum = low_or 1 sum 0 (omega arith) (omega arith)
implied_low I sum = low_or 1 sum 0 (omega arith) (omega arith)
implied_low _ sum = omega arith

pub lower_low : (e : Element) (sum : ℕ) → lower_hydrogens e sum ≤ 9
lower_low B sum = omega arith
lower_low C sum = omega arith
lower_low N sum = omega arith
lower_low O sum = omega arith
lower_low P sum = omega arith
lower_low S sum = omega arith
lower_low F sum = omega arith
lower_low Cl sum = omega arith
lower_low Br sum = omega arith
lower_low I sum = omega arith
lower_low _ sum = omega arith

-- the written hydrogens are one digit
one_digit : (n : ℕ) (digits : List ℕ) → WritesDigits 1 1 n digits → n ≤ 9
one_digit n digits w =
    let less : digits_value 10 digits < 10 ^ length digits = digits_value-lt 10 digits w.numeral.1 in
    let e : length digits ≡ 1 = (let a = w.enough in let b = w.few in omega arith) in
    let less' : digits_value 10 digits < 10 = rw e at less in
    let v = w.value in omega arith

digit_low : (hydrogens : ℕ) (text : List ℕ) → SpellsHydrogens hydrogens text → hydrogens ≤ 9
digit_low hydrogens text (inl none) = let e = none.1 in omega arith
digit_low hydrogens text (inr (inl one)) = let e = one.1 in omega arith
digit_low hydrogens text (inr (inr (digits, is, writes))) = one_digit hydrogens digits writes

abbrev AllLow : List SkelAtom → Type 0
AllLow [] = Unit {0}
AllLow (a ∷ atoms) = (a.hydrogens ≤ 9) × AllLow atoms

one_low : (k : TokenKind) (span : Span) (text : List ℕ) (rest : List SkelAtom) → Spells k text → AllLow rest → AllLow (atom_of k span ++ rest)
one_low (kind.Bare element lower) span text rest spelled low = (omega arith, low)
one_low (kind.Bracket element lower isotope chiral hydrogens charge class) span text rest spelled low = (digit_low hydrogens spelled.hydrogens_text spelled.hydrogens_spelled, low)
one_low (kind.Bond mark) span text rest spelled low = low
one_low (kind.Ring number) span text rest spelled low = low
one_low kind.Enter span text rest spelled low = low
one_low kind.Leave span text rest spelled low = low
one_low kind.Dot span text rest spelled low = low

all_low : (text : List ℕ) (ts : List Token) (from to : ℕ) → IsReading text from ts to → AllLow (atoms_of ts)
all_low text [] from to reading = tt
all_low text (t ∷ ts) from to reading = one_low t.kind t.span _ (atoms_of ts) reading.1.spelled (all_low text ts t.span.to to reading.2)

low_at : (atoms : List SkelAtom) (k : ℕ) (a : SkelAtom) → AllLow atoms → slice_get atoms k ≡ Some a → a.hydrogens ≤ 9
low_at [] k a low is = cc
low_at (x ∷ atoms) zero a low is = subst (λ (y : SkelAtom). y.hydrogens ≤ 9) (same x a is) low.0
  where
    same : (x a : SkelAtom) → Some x ≡ Some a → x ≡ a
    same x a h = cc
low_at (x ∷ atoms) (suc k) a low is = low_at atoms k a low.1 is

pub atoms_low : (text : List ℕ) → IsReading text 0 (tokens text) (length text - length (unread text)) → (k : ℕ) (a : SkelAtom) → slice_get (atoms_of (tokens text)) k ≡ Some a → a.hydrogens ≤ 9
atoms_low text reading k a is = low_at (atoms_of (tokens text)) k a (all_low text (tokens text) 0 _ reading) is

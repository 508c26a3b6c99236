-- A token of the written form is spelled as the grammar says.
use Rattle.std.proofs.Common.{arith, ◌≡◌, ◌<◌, ◌≤◌, ◌==◌, ℕ, zero, suc, Bool, true, false, List, Option, Some, None, refl, inl, inr}
use Rattle.std.specs.Prelude.{codes, ℤ, pos, negsuc, nat_abs, nat_lt}
use Rattle.std.proofs.lemmas.Bool.{cases_Bool, eqb-true, ltb-true, ltb-false}
use Rattle.mc_elements.specs.Elements.{symbol}
use Rattle.smi_lex.specs.declared.token.TokenKind.{TokenKind}
use Rattle.smi_lex.specs.declared.token.TokenKind.TheVariants.{Bare, Bracket, Bond, Ring, Enter, Leave, Dot}
use Rattle.smi_lex.specs.Grammar.{may_be_bare, Spells, SpellsAmount, SpellsCharge, SpellsChiral, SpellsClass, SpellsHydrogens, SpellsIsotope, SpellsRing}
use Rattle.smi_lex.proofs.Written.{amount_written, class_written, hydrogens_written, isotope_written, ring_percent_written, ring_written}
use Rattle.smi_lex.specs.declared.token.BondMark.{BondMark}
use Rattle.smi_lex.specs.declared.token.BondMark.TheVariants.{Double, Triple, Quadruple}
use Rattle.smi_mean.specs.Written.{amount_text, charge_text, chiral_text, class_text, hydrogens_text, isotope_text, ring_text, spelling}

-- a bracket that is written: in upper case and within the limits
pub record IsWrittenBracket (lower : Bool) (isotope hydrogens : ℕ) (charge : ℤ) (class : ℕ) : Type 0 where
  pub upper : lower ≡ false
  pub low_isotope : isotope ≤ 999
  pub few_hydrogens : hydrogens ≤ 9
  pub low_charge : nat_abs charge ≤ 15
  pub low_class : class ≤ 999

-- a symbol that the written form has
abbrev pub is_written_mark : BondMark → Bool
is_written_mark Double = true
is_written_mark Triple = true
is_written_mark Quadruple = true
is_written_mark _ = false

-- a token that the written form has
abbrev pub IsWritten : TokenKind → Type 0
IsWritten (Bare element lower) = (lower ≡ false) × (may_be_bare element lower ≡ true)
IsWritten (Bracket element lower isotope chiral hydrogens charge class) = IsWrittenBracket lower isotope hydrogens charge class
IsWritten (Bond mark) = is_written_mark mark ≡ true
IsWritten (Ring number) = number < 100
IsWritten Enter = Unit {0}
IsWritten Leave = Unit {0}
IsWritten Dot = Unit {0}

isotope_spelled : (n : ℕ) → n ≤ 999 → SpellsIsotope n (isotope_text n)
isotope_spelled n few = elim (cases_Bool (n == 0)) [
  | inl none ↦ rw none (inl (refl, eqb-true n 0 none))
  | inr some ↦ rw some (isotope_written n (omega arith))
]

chiral_spelled : (chiral : Option Bool) → SpellsChiral chiral (chiral_text chiral)
chiral_spelled None = refl
chiral_spelled (Some true) = inl refl
chiral_spelled (Some false) = inl refl

hydrogens_spelled : (n : ℕ) → n ≤ 9 → SpellsHydrogens n (hydrogens_text n)
hydrogens_spelled n few = elim (cases_Bool (n == 0)) [
  | inl none ↦ rw none (inl (refl, eqb-true n 0 none))
  | inr some ↦ elim (cases_Bool (n == 1)) [
    | inl one ↦ rw (some, one) (inr (inl (refl, eqb-true n 1 one)))
    | inr more ↦ rw (some, more) (hydrogens_written n (omega arith))
  ]
]

amount_spelled : (sign : List ℕ) (n : ℕ) → n ≤ 15 → SpellsAmount sign n (amount_text sign n)
amount_spelled sign n few = elim (cases_Bool (n == 1)) [
  | inl one ↦ rw one (inl (refl, eqb-true n 1 one))
  | inr more ↦ rw more (amount_written sign n (omega arith))
]

charge_spelled : (charge : ℤ) → nat_abs charge ≤ 15 → SpellsCharge charge (charge_text charge)
charge_spelled (pos zero) few = inl (refl, refl)
charge_spelled (pos (suc n)) few = inr (inl (suc n, refl, amount_spelled (codes "+") (suc n) few))
charge_spelled (negsuc n) few = inr (inr (suc n, refl, amount_spelled (codes "-") (suc n) few))

class_spelled : (n : ℕ) → n ≤ 999 → SpellsClass n (class_text n)
class_spelled n few = elim (cases_Bool (n == 0)) [
  | inl none ↦ rw none (inl (refl, eqb-true n 0 none))
  | inr some ↦ rw some (class_written n (omega arith))
]

ring_spelled : (n : ℕ) → n < 100 → SpellsRing n (ring_text n)
ring_spelled n few = elim (cases_Bool (nat_lt n 10)) [
  | inl small ↦ rw small (ring_written n (ltb-true n 10 small))
  | inr large ↦ rw large (ring_percent_written n (ltb-false n 10 large) few)
]

pub token_spelled : (kind : TokenKind) → IsWritten kind → Spells kind (spelling kind)
token_spelled (Bare element true) is = cc
token_spelled (Bare element false) is = (is.1, refl)
token_spelled (Bracket element true isotope chiral hydrogens charge class) is = let upper = is.upper in cc
token_spelled (Bracket element false isotope chiral hydrogens charge class) is = record {
  isotope_text = isotope_text isotope;
  symbol_text = symbol element;
  chiral_text = chiral_text chiral;
  hydrogens_text = hydrogens_text hydrogens;
  charge_text = charge_text charge;
  class_text = class_text class;
  isotope_spelled = isotope_spelled isotope is.low_isotope;
  symbol_spelled = refl;
  chiral_spelled = chiral_spelled chiral;
  hydrogens_spelled = hydrogens_spelled hydrogens is.few_hydrogens;
  charge_spelled = charge_spelled charge is.low_charge;
  class_spelled = class_spelled class is.low_class;
  joined = refl;
}
token_spelled (Bond mark) is = refl
token_spelled (Ring number) is = ring_spelled number is
token_spelled Enter is = refl
token_spelled Leave is = refl
token_spelled Dot is = refl

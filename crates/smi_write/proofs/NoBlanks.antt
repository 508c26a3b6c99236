-- No blank and no line end stands in a written text.
use Rattle.std.proofs.Common.{arith, ◌≡◌, ℕ, zero, suc, ◌≤◌, List, [], ◌∷◌, ◌++◌, Bool, true, false, refl, Option, Some, None}
use Rattle.std.specs.List.{list_all}
use Rattle.std.specs.Fmt.{decimal}
use Rattle.std.specs.Char.{is_ascii_lowercase, is_ascii_uppercase}
use Rattle.std.specs.Str.Parse.{AllDigits}
use Rattle.std.specs.Prelude.{nat_le, flat_map, codes, ℤ, pos, negsuc, nat_abs, nat_lt, ◌==◌, if◌then◌else◌}
use Rattle.std.proofs.lemmas.Bool.Decides.{nat_tests}
use Rattle.std.proofs.lemmas.Fmt.{decimal_is_IsNumeral}
use Rattle.std.proofs.lemmas.Str.Parse.{digit_from_value}
use Rattle.std.proofs.lemmas.Bool.{and_parts}
use Rattle.mc_elements.specs.declared.element.Element.{Element}
use Rattle.mc_elements.specs.Elements.{is_symbol_text, symbol}
use Rattle.mc_elements.proofs.Symbols.{is_symbol_text-symbol}
use Rattle.smi_lex.specs.declared.token.BondMark.{BondMark}
use Rattle.smi_lex.specs.declared.token.BondMark.TheVariants.{Single, Double, Triple, Quadruple, Aromatic, Slash, Backslash}
use Rattle.smi_lex.specs.declared.token.TokenKind.{TokenKind}
use Rattle.smi_lex.specs.declared.token.TokenKind.TheVariants.{Bare, Bracket, Bond, Ring, Enter, Leave, Dot}
use Rattle.smi_lex.specs.Grammar.{mark_text}
use Rattle.mc_mol.specs.Molecule.{Molecule}
use Rattle.mc_mol.specs.WellFormed.{IsMolecule}
use Rattle.smi_mean.specs.Sound.{IsSound}
use Rattle.smi_mean.specs.Written.{isotope_text, chiral_text, hydrogens_text, amount_text, charge_text, class_text, spelling, written_text, written_tokens}
use Rattle.smi_write.proofs.TokenSpelled.{IsWritten}
use Rattle.smi_write.proofs.KindsRead.{AreWritten}
use Rattle.smi_write.proofs.TokensWritten.{tokens_written}
use Rattle.smi_write.proofs.WholeTrip.{structured_of}

abbrev pub is_plain : List ℕ → Bool
is_plain text = list_all (λ byte. nat_le 33 byte) text

join : (a b : List ℕ) → is_plain a ≡ true → is_plain b ≡ true → is_plain (a ++ b) ≡ true
join [] b h k = k
join (x ∷ a) b h k = let both = and_parts (nat_le 33 x) (is_plain a) h in rw (both.0, join a b both.1 k) refl

letter : (b : ℕ) → 33 ≤ b → nat_le 33 b ≡ true
letter b low = grind (arith, nat_tests)

upper : (b : ℕ) → is_ascii_uppercase b ≡ true → nat_le 33 b ≡ true
upper b is = grind (arith, nat_tests)

lower : (b : ℕ) → is_ascii_lowercase b ≡ true → nat_le 33 b ≡ true
lower b is = grind (arith, nat_tests)

symbol_text : (text : List ℕ) → is_symbol_text text ≡ true → is_plain text ≡ true
symbol_text [] is = cc
symbol_text (a ∷ []) is = rw (upper a is) refl
symbol_text (a ∷ b ∷ []) is = let both = and_parts (is_ascii_uppercase a) (is_ascii_lowercase b) is in rw (upper a both.0, lower b both.1) refl
symbol_text (a ∷ b ∷ c ∷ cs) is = cc

symbol_plain : (e : Element) → is_plain (symbol e) ≡ true
symbol_plain e = symbol_text (symbol e) (is_symbol_text-symbol e)

digits_plain : (ds : List ℕ) → AllDigits 10 ds → is_plain ds ≡ true
digits_plain [] d = refl
digits_plain (c ∷ cs) d = let r = digit_from_value c d.0 in let low : 33 ≤ c = (let a = r.0 in omega arith) in rw (letter c low, digits_plain cs d.1) refl

decimal_plain : (n : ℕ) → n ≤ 999 → is_plain (decimal n) ≡ true
decimal_plain n few = digits_plain (decimal n) (decimal_is_IsNumeral n (omega arith)).0.1

either : (t : Bool) (a b : List ℕ) → is_plain a ≡ true → is_plain b ≡ true → is_plain (if t then a else b) ≡ true
either true a b h k = h
either false a b h k = k

amount_plain : (sign : List ℕ) (n : ℕ) → n ≤ 999 → is_plain sign ≡ true → is_plain (amount_text sign n) ≡ true
amount_plain sign n few h = either (n == 1) sign (sign ++ decimal n) h (join sign (decimal n) h (decimal_plain n few))

charge_plain : (charge : ℤ) → nat_abs charge ≤ 15 → is_plain (charge_text charge) ≡ true
charge_plain (pos zero) few = refl
charge_plain (pos (suc n)) few = amount_plain (codes "+") (suc n) (omega arith) refl
charge_plain (negsuc n) few = amount_plain (codes "-") (suc n) (omega arith) refl

chiral_plain : (chiral : Option Bool) → is_plain (chiral_text chiral) ≡ true
chiral_plain None = refl
chiral_plain (Some true) = refl
chiral_plain (Some false) = refl

hydrogens_plain : (n : ℕ) → n ≤ 9 → is_plain (hydrogens_text n) ≡ true
hydrogens_plain n few = either (n == 0) [] _ refl (either (n == 1) (codes "H") (codes "H" ++ decimal n) refl (join (codes "H") (decimal n) refl (decimal_plain n (omega arith))))

mark_plain : (mark : BondMark) → is_plain (mark_text mark) ≡ true
mark_plain Single = refl
mark_plain Double = refl
mark_plain Triple = refl
mark_plain Quadruple = refl
mark_plain Aromatic = refl
mark_plain Slash = refl
mark_plain Backslash = refl

one_plain : (k : TokenKind) → IsWritten k → is_plain (spelling k) ≡ true
one_plain (Bare element l) is = symbol_plain element
one_plain (Bracket element l isotope chiral hydrogens charge class) is =
    let behind_charge : List ℕ = class_text class ++ codes "]" in
    let behind_hydrogens : List ℕ = charge_text charge ++ behind_charge in
    let behind_chiral : List ℕ = hydrogens_text hydrogens ++ behind_hydrogens in
    let behind_symbol : List ℕ = chiral_text chiral ++ behind_chiral in
    let behind_isotope : List ℕ = symbol element ++ behind_symbol in
    let class_plain = either (class == 0) [] (codes ":" ++ decimal class) refl (join (codes ":") (decimal class) refl (decimal_plain class is.low_class)) in
    let isotope_plain = either (isotope == 0) [] (decimal isotope) refl (decimal_plain isotope is.low_isotope) in
    join (codes "[") (isotope_text isotope ++ behind_isotope) refl
    (join (isotope_text isotope) behind_isotope isotope_plain
    (join (symbol element) behind_symbol (symbol_plain element)
    (join (chiral_text chiral) behind_chiral (chiral_plain chiral)
    (join (hydrogens_text hydrogens) behind_hydrogens (hydrogens_plain hydrogens is.few_hydrogens)
    (join (charge_text charge) behind_charge (charge_plain charge is.low_charge)
    (join (class_text class) (codes "]") class_plain refl))))))
one_plain (Bond mark) is = mark_plain mark
one_plain (Ring n) is = either (nat_lt n 10) (decimal n) (codes "%" ++ decimal n) (decimal_plain n (omega arith)) (join (codes "%") (decimal n) refl (decimal_plain n (omega arith)))
one_plain Enter is = refl
one_plain Leave is = refl
one_plain Dot is = refl

text_plain : (ks : List TokenKind) → AreWritten ks → is_plain (flat_map spelling ks) ≡ true
text_plain [] are = refl
text_plain (k ∷ ks) are = join (spelling k) (flat_map spelling ks) (one_plain k are.0) (text_plain ks are.1)

-- the text of a molecule within the limits has neither
pub no_blanks : (m : Molecule) → IsMolecule m → IsSound m → is_plain (written_text m) ≡ true
no_blanks m is sound = text_plain (written_tokens m) (tokens_written m sound (structured_of m is sound).numbers)

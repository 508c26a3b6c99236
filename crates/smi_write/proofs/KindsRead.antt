-- The tokens of the written form, spelled one behind the other, are read as these tokens.
use Rattle.std.proofs.Common.{arith, ◌≡◌, ◌<◌, ◌+◌, ℕ, true, false, List, [], ◌∷◌, ◌++◌, refl, sym, ap, subst, ◌∙◌, inl, inr}
use Rattle.std.specs.Prelude.{flat_map, nat_lt}
use Rattle.std.proofs.lemmas.Bool.{cases_Bool, ltb-true}
use Rattle.std.proofs.lemmas.Bool.Decides.{nat_tests}
use Rattle.std.proofs.lemmas.Fmt.{decimal_digit}
use Rattle.mc_elements.specs.declared.element.Element.{Element}
use Rattle.mc_elements.specs.declared.element.Element.TheVariants.{B, C, N, O, F, P, S, Cl, Br, I}
use Rattle.mc_elements.specs.Elements.{symbol}
use Rattle.smi_lex.specs.declared.token.BondMark.TheVariants.{Single, Double, Triple, Quadruple}
use Rattle.smi_lex.specs.declared.token.TokenKind.{TokenKind}
use Rattle.smi_lex.specs.declared.token.TokenKind.TheVariants.{Bare, Bracket, Bond, Ring, Enter, Leave, Dot}
use Rattle.smi_lex.specs.Grammar.{may_be_bare}
use Rattle.smi_lex.specs.Tokens.{kinds, unread}
use Rattle.smi_lex.proofs.TokenRead.{next_is}
use Rattle.smi_lex.proofs.Written.{EndsBefore, kinds_written, unread_written}
use Rattle.smi_mean.specs.Written.{ring_text, spelling}
use Rattle.smi_write.proofs.EachToken.{Each}
use Rattle.smi_write.proofs.TokenSpelled.{IsWritten, token_spelled}

-- tokens that the written form has
abbrev pub AreWritten : List TokenKind → Type 0
AreWritten ks = Each IsWritten ks

-- no l and no r is next
abbrev BeginsApart : List ℕ → Type 0
BeginsApart text = (next_is 108 text ≡ false) × (next_is 114 text ≡ false)

digit_apart : (n : ℕ) (rest : List ℕ) → n < 10 → BeginsApart ((48 + n) ∷ rest)
digit_apart n rest small = (grind (arith, nat_tests), grind (arith, nat_tests))

one_digit : (n : ℕ) → nat_lt n 10 ≡ true → ring_text n ≡ (48 + n) ∷ []
one_digit n small = rw small (decimal_digit n (ltb-true n 10 small))

ring_apart : (n : ℕ) (rest : List ℕ) → BeginsApart (ring_text n ++ rest)
ring_apart n rest = elim (cases_Bool (nat_lt n 10)) [
  | inl small ↦ subst (λ (t : List ℕ). BeginsApart (t ++ rest)) (sym (one_digit n small)) (digit_apart n rest (ltb-true n 10 small))
  | inr large ↦ rw large (refl, refl)
]

-- only an upper-case letter begins an atom without brackets
bare_apart : (element : Element) (rest : List ℕ) → may_be_bare element false ≡ true → BeginsApart (symbol element ++ rest)
bare_apart B rest may = (refl, refl)
bare_apart C rest may = (refl, refl)
bare_apart N rest may = (refl, refl)
bare_apart O rest may = (refl, refl)
bare_apart P rest may = (refl, refl)
bare_apart S rest may = (refl, refl)
bare_apart F rest may = (refl, refl)
bare_apart Cl rest may = (refl, refl)
bare_apart Br rest may = (refl, refl)
bare_apart I rest may = (refl, refl)
bare_apart _ rest may = cc

token_apart : (kind : TokenKind) (rest : List ℕ) → IsWritten kind → BeginsApart (spelling kind ++ rest)
token_apart (Bare element true) rest is = cc
token_apart (Bare element false) rest is = bare_apart element rest is.1
token_apart (Bracket element lower isotope chiral hydrogens charge class) rest is = (refl, refl)
token_apart (Bond Single) rest is = (refl, refl)
token_apart (Bond Double) rest is = (refl, refl)
token_apart (Bond Triple) rest is = (refl, refl)
token_apart (Bond Quadruple) rest is = (refl, refl)
token_apart (Bond _) rest is = cc
token_apart (Ring number) rest is = ring_apart number rest
token_apart Enter rest is = (refl, refl)
token_apart Leave rest is = (refl, refl)
token_apart Dot rest is = (refl, refl)

text_apart : (ks : List TokenKind) → AreWritten ks → BeginsApart (flat_map spelling ks)
text_apart [] are = (refl, refl)
text_apart (k ∷ ks) are = token_apart k (flat_map spelling ks) are.0

ends : (text : List ℕ) (ks : List TokenKind) → AreWritten ks → EndsBefore text (flat_map spelling ks)
ends text ks are = let apart = text_apart ks are in (λ carbon. apart.0, λ boron. apart.1)

pub kinds_read : (ks : List TokenKind) → AreWritten ks → kinds (flat_map spelling ks) ≡ ks
kinds_read [] are = refl
kinds_read (k ∷ ks) are =
    kinds_written k (spelling k) (flat_map spelling ks) (token_spelled k are.0) (ends (spelling k) ks are.1)
    ∙ ap (λ rest. k ∷ rest) (kinds_read ks are.1)

pub unread_none : (ks : List TokenKind) → AreWritten ks → unread (flat_map spelling ks) ≡ []
unread_none [] are = refl
unread_none (k ∷ ks) are =
    unread_written k (spelling k) (flat_map spelling ks) (token_spelled k are.0) (ends (spelling k) ks are.1)
    ∙ unread_none ks are.1

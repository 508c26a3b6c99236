-- Examples, which close by computing.
use Rattle.std.proofs.Common.{◌≡◌, true, false, [], ◌∷◌, Some, None, refl}
use Rattle.std.specs.Prelude.{codes, pos, negsuc}
use Rattle.mc_elements.specs.declared.element.Element.TheVariants.{C, N, O, Cl, Se, Sc}
use Rattle.mc_elements.specs.Elements.{element_of}
use Rattle.smi_lex.specs.declared.token.BondMark.TheVariants.{Double, Slash}
use Rattle.smi_lex.specs.declared.token.TokenKind.TheVariants.{Bare, Bracket, Bond, Ring, Enter, Leave, Dot}
use Rattle.smi_lex.specs.Tokens.{kinds, tokens, unread}

two_letters : kinds (codes "C%01Cl") ≡ Bare C false ∷ Ring 1 ∷ Bare Cl false ∷ []
two_letters = refl

branches : kinds (codes "C(=O)/N.c1") ≡
    Bare C false ∷ Enter ∷ Bond Double ∷ Bare O false ∷ Leave ∷ Bond Slash ∷ Bare N false ∷ Dot ∷ Bare C true ∷ Ring 1 ∷ []
branches = refl

places : tokens (codes "ClC") ≡
    record { kind = Bare Cl false; span = record { from = 0; to = 2 } } ∷ record { kind = Bare C false; span = record { from = 2; to = 3 } } ∷ []
places = refl

stops : unread (codes "CX") ≡ codes "X"
stops = refl

whole : unread (codes "C1CC1") ≡ []
whole = refl

bracket : kinds (codes "[13CH3:7]C") ≡ Bracket C false 13 None 3 (pos 0) 7 ∷ Bare C false ∷ []
unfolding element_of
bracket = refl

lower_bracket : kinds (codes "[se][nH+]") ≡ Bracket Se true 0 None 0 (pos 0) 0 ∷ Bracket N true 0 None 1 (pos 1) 0 ∷ []
unfolding element_of
lower_bracket = refl

scandium : kinds (codes "[Sc--]") ≡ Bracket Sc false 0 None 0 (negsuc 1) 0 ∷ []
unfolding element_of
scandium = refl

chiral : kinds (codes "[C@TH2H]") ≡ Bracket C false 0 (Some false) 1 (pos 0) 0 ∷ []
unfolding element_of
chiral = refl

-- What the tokens of a text do in its structure.
use Rattle.std.specs.Prelude.{List, [], ◌∷◌, ◌++◌, map, Option, None, Bool, true, false, ℕ, ℤ, pos}
use Rattle.mc_base.specs.declared.span.Span.{Span}
use Rattle.mc_elements.specs.declared.element.Element.{Element}
use Rattle.smi_lex.specs.declared.token.Token.{Token}
use Rattle.smi_lex.specs.declared.token.TokenKind.{TokenKind}
use Rattle.smi_lex.specs.declared.token.TokenKind.TheVariants as kind
use Rattle.smi_graph.specs.declared.role.Role.{Role}
use Rattle.smi_graph.specs.declared.role.Role.TheVariants.{Atom, Bond, Ring, Enter, Leave, Dot}
use Rattle.smi_graph.specs.declared.skel_atom.SkelAtom.{SkelAtom}

-- an atom says whether its symbol is in lower case
abbrev pub role_of : TokenKind → Role
role_of (kind.Bare element lower) = Atom lower
role_of (kind.Bracket element lower isotope chiral hydrogens charge class) = Atom lower
role_of (kind.Bond mark) = Bond mark
role_of (kind.Ring number) = Ring number
role_of kind.Enter = Enter
role_of kind.Leave = Leave
role_of kind.Dot = Dot

abbrev pub roles : List Token → List Role
roles tokens = map (λ token. role_of token.kind) tokens

-- an atom without brackets
abbrev pub bare_atom : Element → Bool → Span → SkelAtom
bare_atom element lower span =
    record { element = element; lower = lower; bare = true; isotope = 0; charge = pos 0; hydrogens = 0; class = 0; chiral = None; span = span }

-- an atom in brackets, with what stands in them
abbrev pub bracket_atom : Element → Bool → ℕ → Option Bool → ℕ → ℤ → ℕ → Span → SkelAtom
bracket_atom element lower isotope chiral hydrogens charge class span =
    record { element = element; lower = lower; bare = false; isotope = isotope; charge = charge; hydrogens = hydrogens; class = class; chiral = chiral; span = span }

-- the atom that a token is
abbrev pub atom_of : TokenKind → Span → List SkelAtom
atom_of (kind.Bare element lower) span = bare_atom element lower span ∷ []
atom_of (kind.Bracket element lower isotope chiral hydrogens charge class) span =
    bracket_atom element lower isotope chiral hydrogens charge class span ∷ []
atom_of (kind.Bond mark) span = []
atom_of (kind.Ring number) span = []
atom_of kind.Enter span = []
atom_of kind.Leave span = []
atom_of kind.Dot span = []

-- the atoms, in the order of the text
abbrev pub atoms_of : List Token → List SkelAtom
atoms_of [] = []
atoms_of (token ∷ tokens) = atom_of token.kind token.span ++ atoms_of tokens

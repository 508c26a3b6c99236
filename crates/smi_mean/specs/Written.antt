-- The one text in which a molecule is written (this project's own).
use Rattle.std.specs.Prelude.{ℕ, zero, suc, Bool, true, false, not, ◌&&◌, List, [], ◌∷◌, ◌++◌, Option, Some, None, ◌==◌, nat_lt, slice_get, map, flat_map, codes, ℤ, pos, negsuc, nat_abs, is_none, if◌then◌else◌}
use Rattle.std.specs.Fmt.{decimal}
use Rattle.mc_base.specs.declared.ids.AtomId.{AtomId}
use Rattle.mc_elements.specs.declared.element.Element.TheVariants.{C}
use Rattle.mc_elements.specs.Elements.{symbol}
use Rattle.mc_elements.specs.Valences.{smiles_valences, implied}
use Rattle.mc_mol.specs.declared.parts.Atom.{Atom}
use Rattle.mc_mol.specs.Molecule.{Molecule, bond_sum}
use Rattle.smi_lex.specs.Grammar.{mark_text, may_be_bare}
use Rattle.smi_lex.specs.declared.token.BondMark.{BondMark}
use Rattle.smi_lex.specs.declared.token.BondMark.TheVariants.{Double, Triple, Quadruple}
use Rattle.smi_lex.specs.declared.token.TokenKind.{TokenKind}
use Rattle.smi_lex.specs.declared.token.TokenKind.TheVariants.{Bare, Bracket, Bond, Ring, Enter, Leave, Dot}
use Rattle.smi_mean.specs.Order.{Graph, graph_of, order, atoms, parents, at, has_ring}
use Rattle.smi_mean.specs.RingNumbers.{Pair, has, closing, opening}
use Rattle.smi_mean.specs.WrittenPlaces.{atom_mark}

-- The token of an atom

-- An atom stands without brackets where it may, has nothing but its element, and has the hydrogens of a bare atom.
abbrev pub is_bare : Atom → ℕ → Bool
is_bare atom sum =
    may_be_bare atom.element false
    && (atom.isotope == 0 && (nat_abs atom.charge == 0 && (atom.class == 0 && atom.hydrogens == implied (smiles_valences atom.element) sum)))

-- the token of an atom with this bond sum; where it has the mark of a centre it stands in brackets
abbrev pub token_of : Atom → ℕ → Option Bool → TokenKind
token_of atom sum mark =
    if is_bare atom sum && is_none mark then Bare atom.element false
    else Bracket atom.element false atom.isotope mark atom.hydrogens atom.charge atom.class

abbrev pub token_in : Option Atom → ℕ → Option Bool → TokenKind
token_in (Some atom) sum mark = token_of atom sum mark
token_in None sum mark = Bare C false

-- the token of atom u of a molecule
abbrev pub atom_token : Molecule → ℕ → TokenKind
atom_token m u = token_in (slice_get m.atoms u) (bond_sum m.bonds u) (atom_mark m u)

-- The tokens

-- the symbol of a bond order; a single bond has none
abbrev pub symbol_of : ℕ → Option BondMark
symbol_of order =
    if order == 2 then Some Double else if order == 3 then Some Triple else if order == 4 then Some Quadruple else None

abbrev pub mark_tokens : Option BondMark → List TokenKind
mark_tokens None = []
mark_tokens (Some mark) = Bond mark ∷ []

-- the symbol of a ring bond stands at the opening number only
abbrev pub closed_tokens : List Pair → List TokenKind
closed_tokens [] = []
closed_tokens (p ∷ ps) = Ring p.number ∷ closed_tokens ps

abbrev pub opened_tokens : List Pair → List TokenKind
opened_tokens [] = []
opened_tokens (p ∷ ps) = mark_tokens p.symbol ++ (Ring p.number ∷ opened_tokens ps)

-- the ring numbers at atom k: those that close, then those that open
abbrev pub ring_tokens : (ℕ → ℕ → Option BondMark) → (ℕ → ℕ → Bool) → ℕ → ℕ → List TokenKind
ring_tokens symbols rings n k = closed_tokens (closing symbols rings n k) ++ opened_tokens (opening symbols rings n k)

abbrev pub if_not : Bool → TokenKind → List TokenKind
if_not true k = []
if_not false k = k ∷ []

-- What stands before atom k. Its parent is atom p - 1, and it has none where p is 0; `qs` are the same for the later
-- atoms. All children of an atom but the last are branches: `)` stands before each child but the first, `(` before each
-- child but the last. An atom without a parent stands behind a dot, unless it is the first.
abbrev pub before_atom : (ℕ → ℕ → Option BondMark) → ℕ → ℕ → List ℕ → List TokenKind
before_atom symbols zero zero qs = []
before_atom symbols (suc j) zero qs = Dot ∷ []
before_atom symbols k (suc p) qs =
    if_not (suc p == k) Leave ++ (if_not (not (has (suc p) qs)) Enter ++ mark_tokens (symbols p k))

-- the tokens of the atoms from number k on, which have these tokens and parents
abbrev pub text_from : (ℕ → ℕ → Option BondMark) → (ℕ → ℕ → Bool) → ℕ → ℕ → List TokenKind → List ℕ → List TokenKind
text_from symbols rings n k [] qs = []
text_from symbols rings n k (t ∷ ts) [] = []
text_from symbols rings n k (t ∷ ts) (p ∷ qs) =
    before_atom symbols k p qs ++ (t ∷ (ring_tokens symbols rings n k ++ text_from symbols rings n (suc k) ts qs))

-- the symbol of the bond between the atoms of these ranks, by its order
abbrev pub bond_symbol : Graph → ℕ → ℕ → Option BondMark
bond_symbol g j l = symbol_of (g.order (at g j) (at g l))

-- the tokens of a graph whose atoms have these tokens and whose bonds, by the ranks of their atoms, have these symbols
abbrev pub graph_tokens : Graph → (ℕ → ℕ → Option BondMark) → (ℕ → TokenKind) → List TokenKind
graph_tokens g symbols token =
    text_from symbols (λ j l. has_ring g j l) g.count 0 (map token (atoms (order g))) (parents (order g))

abbrev pub written_tokens : Molecule → List TokenKind
written_tokens m = graph_tokens (graph_of m) (λ j l. bond_symbol (graph_of m) j l) (atom_token m)

-- The text

abbrev pub isotope_text : ℕ → List ℕ
isotope_text n = if n == 0 then [] else decimal n

-- `@` and `@@`
abbrev pub chiral_text : Option Bool → List ℕ
chiral_text None = []
chiral_text (Some true) = codes "@"
chiral_text (Some false) = codes "@@"

abbrev pub hydrogens_text : ℕ → List ℕ
hydrogens_text n = if n == 0 then [] else if n == 1 then codes "H" else codes "H" ++ decimal n

abbrev pub amount_text : List ℕ → ℕ → List ℕ
amount_text sign n = if n == 1 then sign else sign ++ decimal n

abbrev pub charge_text : ℤ → List ℕ
charge_text (pos zero) = []
charge_text (pos (suc n)) = amount_text (codes "+") (suc n)
charge_text (negsuc n) = amount_text (codes "-") (suc n)

abbrev pub class_text : ℕ → List ℕ
class_text n = if n == 0 then [] else codes ":" ++ decimal n

abbrev pub ring_text : ℕ → List ℕ
ring_text n = if nat_lt n 10 then decimal n else codes "%" ++ decimal n

-- how a token of the written form is spelled: each part of a bracket only where there is something to say
abbrev pub spelling : TokenKind → List ℕ
spelling (Bare element lower) = symbol element
spelling (Bracket element lower isotope chiral hydrogens charge class) =
    codes "[" ++ (isotope_text isotope ++ (symbol element ++ (chiral_text chiral ++ (hydrogens_text hydrogens ++ (charge_text charge ++ (class_text class ++ codes "]"))))))
spelling (Bond mark) = mark_text mark
spelling (Ring number) = ring_text number
spelling Enter = codes "("
spelling Leave = codes ")"
spelling Dot = codes "."

-- the text, and the atoms in the order in which they are written
abbrev pub written_text : Molecule → List ℕ
written_text m = flat_map spelling (written_tokens m)

abbrev pub written_order : Molecule → List AtomId
written_order m = map (λ u. record { 0 = u }) (atoms (order (graph_of m)))

-- What the symbols of a text's bonds say: OpenSMILES 1.0, sections 3.2 (bonds) and 3.4 (rings).
use Rattle.std.specs.Prelude.{ℕ, Bool, false, not, ◌==◌, List, Option, Some, None, map}
use Rattle.mc_mol.specs.declared.parts.Bond as bond
use Rattle.smi_lex.specs.declared.token.BondMark.{BondMark}
use Rattle.smi_lex.specs.declared.token.BondMark.TheVariants.{Single, Double, Triple, Quadruple, Aromatic, Slash, Backslash}
use Rattle.smi_graph.specs.declared.role.Role.{Role}
use Rattle.smi_graph.specs.declared.text_bond.TextBond.{TextBond}
use Rattle.smi_graph.specs.Bonds.{text_bonds}

-- the first of two values that is there
abbrev pub or_else : {A : Type 0} → Option A → Option A → Option A
or_else None other = other
or_else (Some x) other = Some x

-- the symbol of a bond, which either end may have
abbrev pub symbol : TextBond → Option BondMark
symbol b = or_else b.opening b.closing

-- the order that a bond symbol says; `:` says none, and is read as a single bond
abbrev pub order_of_mark : BondMark → ℕ
order_of_mark Single = 1
order_of_mark Double = 2
order_of_mark Triple = 3
order_of_mark Quadruple = 4
order_of_mark Aromatic = 1
order_of_mark Slash = 1
order_of_mark Backslash = 1

-- a bond without a symbol is single
abbrev pub order_of : Option BondMark → ℕ
order_of None = 1
order_of (Some mark) = order_of_mark mark

-- the bond of a molecule between two atoms
abbrev pub bond_between : ℕ → ℕ → ℕ → bond.Bond
bond_between u v order = record { first = record { 0 = u }; second = record { 0 = v }; order = order }

-- the bond that a text's bond is, by the order that its symbol says
abbrev pub bond_of : TextBond → bond.Bond
bond_of b = bond_between b.first.0 b.second.0 (order_of (symbol b))

-- the bonds of the tokens so far, with their orders
abbrev pub bonds_of : List Role → List bond.Bond
bonds_of before = map bond_of (text_bonds before)

-- The order in which two symbols of one ring bond must agree: `-`, `/` and `\` are one, and `:` is one of its own.
abbrev pub said_order : BondMark → ℕ
said_order Aromatic = 5
said_order Single = 1
said_order Double = 2
said_order Triple = 3
said_order Quadruple = 4
said_order Slash = 1
said_order Backslash = 1

-- both symbols are there, and they say different orders
abbrev pub marks_clash : Option BondMark → Option BondMark → Bool
marks_clash None other = false
marks_clash (Some mark) None = false
marks_clash (Some mark) (Some other) = not (said_order mark == said_order other)

-- the two ends of a bond have symbols of different orders
abbrev pub clashes : TextBond → Bool
clashes b = marks_clash b.opening b.closing

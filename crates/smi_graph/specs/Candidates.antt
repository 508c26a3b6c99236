-- Which bonds of a text may be double though no symbol says so: OpenSMILES 1.0, section 3.5 (aromaticity). That a
-- candidate lies on a closed path is this project's own rule.
use Rattle.std.specs.List.{filter}
use Rattle.std.specs.Prelude.{◌≡◌, ◌↔◌, ℕ, Bool, true, false, not, ◌&&◌, List, Option, Some, None, map, get_or, slice_get}
use Rattle.mc_mol.specs.ClosedPaths.{LiesOnClosedPath}
use Rattle.mc_mol.specs.declared.parts.Bond as bond
use Rattle.smi_lex.specs.declared.token.BondMark.{BondMark}
use Rattle.smi_lex.specs.declared.token.BondMark.TheVariants.{Aromatic}
use Rattle.smi_graph.specs.declared.skel_atom.SkelAtom.{SkelAtom}
use Rattle.smi_graph.specs.declared.text_bond.TextBond.{TextBond}
use Rattle.smi_graph.specs.Links.{bond_of, symbol}

abbrev pub lower : Option SkelAtom → Bool
lower None = false
lower (Some atom) = atom.lower

-- atom k is in lower case
abbrev pub is_lower : List SkelAtom → ℕ → Bool
is_lower atoms k = lower (slice_get atoms k)

-- both ends of the bond are
abbrev pub joins_lower : List SkelAtom → TextBond → Bool
joins_lower atoms b = is_lower atoms b.first.0 && is_lower atoms b.second.0

-- the symbol is `:`
abbrev pub is_aromatic : Option BondMark → Bool
is_aromatic (Some Aromatic) = true
is_aromatic _ = false

-- there is no symbol, or it is `:`
abbrev pub is_unmarked_or_aromatic : Option BondMark → Bool
is_unmarked_or_aromatic None = true
is_unmarked_or_aromatic (Some Aromatic) = true
is_unmarked_or_aromatic _ = false

-- an unmarked or `:` bond between two lower-case atoms
abbrev pub is_lower_bond : List SkelAtom → TextBond → Bool
is_lower_bond atoms b = is_unmarked_or_aromatic (symbol b) && joins_lower atoms b

abbrev pub lower_bonds : List SkelAtom → List TextBond → List bond.Bond
lower_bonds atoms bonds = map bond_of (filter (is_lower_bond atoms) bonds)

-- A candidate is an unmarked or `:` bond between two lower-case atoms that lies on a closed path of such bonds.
pub record IsCandidate (atoms : List SkelAtom) (bonds : List TextBond) (b : TextBond) : Type 0 where
  pub lower : is_lower_bond atoms b ≡ true
  pub on_path : LiesOnClosedPath (lower_bonds atoms bonds) (bond_of b)

-- whether bond k is marked in a list, behind which no bond is
abbrev pub marked : List Bool → ℕ → Bool
marked marks k = get_or marks k false

-- the candidates among these bonds are those that are marked
abbrev pub AreCandidates : List SkelAtom → List TextBond → List Bool → Type 0
AreCandidates atoms bonds candidates = (k : ℕ) (b : TextBond) → slice_get bonds k ≡ Some b → (marked candidates k ≡ true) ↔ IsCandidate atoms bonds b

-- a `:` bond with an end in upper case
abbrev pub is_aromatic_at_upper : List SkelAtom → TextBond → Bool
is_aromatic_at_upper atoms b = is_aromatic (symbol b) && not (joins_lower atoms b)

abbrev pub bond_fails : List SkelAtom → Option TextBond → Bool
bond_fails atoms None = false
bond_fails atoms (Some b) = is_aromatic_at_upper atoms b

-- What the structure of a written text is read as (this project's own).
use Rattle.std.specs.Prelude.{◌≡◌, ℕ, ◌≤◌, ◌<◌, true, false, List, Option, Some, None, slice_get, length, reverse}
use Rattle.mc_mol.specs.declared.parts.Bond.{Bond}
use Rattle.mc_mol.specs.Molecule.{Molecule, are_joined, bond_sum}
use Rattle.mc_mol.specs.Same.{HasBond}
use Rattle.smi_graph.specs.declared.role.Role.{Role}
use Rattle.smi_graph.specs.Order.{misplaced_at, unclosed_at}
use Rattle.smi_lex.specs.declared.token.BondMark.{BondMark}
use Rattle.smi_graph.specs.declared.text_bond.TextBond.{TextBond}
use Rattle.smi_graph.specs.Bonds.{atom_count, open_end, text_bonds}
use Rattle.smi_graph.specs.Links.{bonds_of, order_of}
use Rattle.smi_graph.specs.RingRules.{clash_at, pair_again_at}
use Rattle.smi_mean.specs.Order.{graph_of, order_between, at}

-- the symbols of bonds, by the ranks of their atoms, say the orders of the molecule's bonds
abbrev pub SayOrders : Molecule → (ℕ → ℕ → Option BondMark) → Type 0
SayOrders m symbols = (j l : ℕ) → order_of (symbols j l) ≡ order_between m.bonds (at (graph_of m) j) (at (graph_of m) l)

-- These tokens are read as the molecule, with its atoms numbered by their ranks in the text: no token is wrong, and
-- the bonds are those of the molecule, each with its symbol at the atom that stands first.
pub record ReadsAs (m : Molecule) (symbols : ℕ → ℕ → Option BondMark) (ks : List Role) : Type 0 where
  pub placed : (i : ℕ) → i ≤ length ks → misplaced_at ks i ≡ false
  pub closed : (i : ℕ) → i ≤ length ks → unclosed_at ks i ≡ false
  pub rings : (n : ℕ) → open_end n (reverse ks) ≡ None
  pub clashes : (i : ℕ) → i ≤ length ks → clash_at ks i ≡ false
  pub pairs : (i : ℕ) → i ≤ length ks → pair_again_at ks i ≡ false
  pub atoms : atom_count (reverse ks) ≡ length m.atoms
  pub count : length (bonds_of (reverse ks)) ≡ length m.bonds
  pub sums : (k : ℕ) → k < length m.atoms → bond_sum (bonds_of (reverse ks)) k ≡ bond_sum m.bonds (at (graph_of m) k)
  pub symbols_are : (k : ℕ) (bond : TextBond) → slice_get (text_bonds (reverse ks)) k ≡ Some bond
      → (bond.opening ≡ symbols bond.first.0 bond.second.0) × (bond.closing ≡ None)
  pub bonds : (k : ℕ) (bond : Bond) → slice_get (bonds_of (reverse ks)) k ≡ Some bond
      → HasBond m.bonds (at (graph_of m) bond.first.0) (at (graph_of m) bond.second.0) bond.order
  pub joined : (j l : ℕ) → j < l → l < length m.atoms → are_joined m.bonds (at (graph_of m) j) (at (graph_of m) l) ≡ true
      → are_joined (bonds_of (reverse ks)) j l ≡ true

-- each atom stands once
pub record IsOrder (m : Molecule) (order : List ℕ) : Type 0 where
  pub whole : length order ≡ length m.atoms
  pub in_range : (k : ℕ) → k < length m.atoms → at (graph_of m) k < length m.atoms
  pub distinct : (j k : ℕ) → j < k → k < length m.atoms → at (graph_of m) j ≡ at (graph_of m) k → ⊥

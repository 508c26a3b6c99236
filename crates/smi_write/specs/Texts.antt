-- How far the text of a molecule is written.
use Rattle.std.specs.Prelude.{ℕ, List, length, map, drop}
use Rattle.mc_mol.specs.Molecule.{Molecule}
use Rattle.smi_lex.specs.declared.token.TokenKind.{TokenKind}
use Rattle.smi_mean.specs.Order.{graph_of, order, atoms, parents, has_ring}
use Rattle.smi_mean.specs.RingNumbers.{Pair, active}
use Rattle.smi_mean.specs.Written.{atom_token, text_from, bond_symbol}

-- the tokens of the atoms from rank k on
abbrev pub rest_tokens : Molecule → ℕ → List TokenKind
rest_tokens m k = text_from (λ j l. bond_symbol (graph_of m) j l) (λ j l. has_ring (graph_of m) j l) (length m.atoms) k
    (drop k (map (atom_token m) (atoms (order (graph_of m))))) (drop k (parents (order (graph_of m))))

-- the pairs that are open before the atom of rank k
abbrev pub open_pairs : Molecule → ℕ → List Pair
open_pairs m k = active (λ j l. bond_symbol (graph_of m) j l) (λ j l. has_ring (graph_of m) j l) (length m.atoms) k

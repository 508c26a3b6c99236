-- Which ring numbers are wrong: OpenSMILES 1.0, section 3.4 (rings).
-- `before` is always the list of the tokens before a place, the latest first.
use Rattle.std.specs.Prelude.{ℕ, Bool, false, ◌||◌, List, Option, Some, None, ◌==◌, slice_get}
use Rattle.mc_mol.specs.declared.parts.Bond as bond
use Rattle.mc_mol.specs.Molecule.{are_joined}
use Rattle.smi_graph.specs.declared.role.Role.{Role}
use Rattle.smi_graph.specs.declared.role.Role.TheVariants.{Ring}
use Rattle.smi_graph.specs.declared.text_bond.TextBond.{TextBond}
use Rattle.smi_graph.specs.Order.{tokens_before}
use Rattle.smi_graph.specs.Bonds.{completed}
use Rattle.smi_graph.specs.Links.{clashes, bonds_of}

-- a bond whose two symbols say different orders
abbrev pub some_clashes : Option TextBond → Bool
some_clashes None = false
some_clashes (Some b) = clashes b

-- a bond between atoms that are one, or are joined already by these
abbrev pub pairs_again : List bond.Bond → Option TextBond → Bool
pairs_again bonds None = false
pairs_again bonds (Some b) = b.first.0 == b.second.0 || are_joined bonds b.first.0 b.second.0

-- the next token is a closing number whose symbol says another order than that of the opening number
abbrev pub is_clash : List Role → Option Role → Bool
is_clash before (Some (Ring number)) = some_clashes (completed before (Ring number))
is_clash before _ = false

-- the next token is a closing number between atoms that are one, or are joined already
abbrev pub is_pair_again : List Role → Option Role → Bool
is_pair_again before (Some (Ring number)) = pairs_again (bonds_of before) (completed before (Ring number))
is_pair_again before _ = false

abbrev pub clash_at : List Role → ℕ → Bool
clash_at ks i = is_clash (tokens_before ks i) (slice_get ks i)

abbrev pub pair_again_at : List Role → ℕ → Bool
pair_again_at ks i = is_pair_again (tokens_before ks i) (slice_get ks i)

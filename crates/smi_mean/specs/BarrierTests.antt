-- Whether a list of atoms may be a barrier, as a test.
use Rattle.std.specs.Prelude.{ℕ, ◌+◌, Bool, true, false, ◌&&◌, ◌==◌, List, [], ◌∷◌, Option, Some, None, nat_le}
use Rattle.mc_base.specs.declared.ids.AtomId.{AtomId}
use Rattle.smi_graph.specs.Candidates.{marked}

-- a needing atom, none of the first `least` ones
abbrev pub is_next : List Bool → ℕ → AtomId → Bool
is_next needs least atom = nat_le least atom.0 && marked needs atom.0

-- needing atoms in increasing order, none of the first `least` ones
abbrev pub rises_among : List Bool → ℕ → List AtomId → Bool
rises_among needs least [] = true
rises_among needs least (atom ∷ atoms) = is_next needs least atom && rises_among needs (atom.0 + 1) atoms

-- this number was found
abbrev pub is_found : Option ℕ → ℕ → Bool
is_found None odd = false
is_found (Some found) odd = found == odd

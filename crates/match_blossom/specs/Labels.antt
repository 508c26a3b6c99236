-- Labels and arrays as functions of a node.
use Rattle.std.specs.Prelude.{ℕ, List, get_or, Bool, true, false}
use Rattle.match_blossom.specs.declared.tree.Label.{Label}
use Rattle.match_blossom.specs.declared.tree.Label.TheVariants.{Outside, Outer, Inner}

-- the entry of an array at a node
abbrev pub at : List ℕ → ℕ → ℕ
at xs v = get_or xs v 0

abbrev pub says_outer : Label → Bool
says_outer Outside = false
says_outer Outer = true
says_outer Inner = false

abbrev pub says_inner : Label → Bool
says_inner Outside = false
says_inner Outer = false
says_inner Inner = true

abbrev pub is_outer : List Label → ℕ → Bool
is_outer labels v = says_outer (get_or labels v Outside)

abbrev pub is_inner : List Label → ℕ → Bool
is_inner labels v = says_inner (get_or labels v Outside)

-- The types of bonds, and the atoms that they name.
use Rattle.std.specs.Prelude.{◌≡◌, ℕ, ◌==◌, Bool, false, ◌&&◌, ◌||◌, nat_le, if◌then◌else◌, List, [], ◌∷◌, ◌++◌}
use Rattle.std.specs.List.{list_any}
use Rattle.mc_base.specs.declared.kind.Kind.{Kind}
use Rattle.mc_base.specs.declared.kind.Kind.TheVariants.{Query, BondType}
use Rattle.ct_sd.specs.Faults.{shown_if}

-- types 1 to 3 are orders, 4 to 8 are queries, and 9 and 10 have no order
abbrev pub type_shows : ℕ → List Kind
type_shows type = shown_if (nat_le 4 type && nat_le type 8) Query ++ shown_if (nat_le 9 type) BondType

-- a pair of atoms that a bond names
abbrev pub Pair : Type 0
Pair = ℕ × ℕ

abbrev pub is_pair : ℕ → ℕ → Pair → Bool
is_pair u v pair = (pair.0 == u && pair.1 == v) || (pair.0 == v && pair.1 == u)

-- a pair stands among these
abbrev pub is_joined : ℕ → ℕ → List Pair → Bool
is_joined u v pairs = list_any (λ pair. is_pair u v pair) pairs

-- ---- pairs that are kept once, the lesser atom first

abbrev pub in_order : ℕ → ℕ → Pair
in_order u v = if nat_le u v then (u, v) else (v, u)

abbrev pub same_pair : Pair → Pair → Bool
same_pair p q = p.0 == q.0 && p.1 == q.1

-- a pair is kept where it is joined
abbrev pub KnowsPairs : List Pair → List Pair → Type 0
KnowsPairs keys pairs = (u v : ℕ) → list_any (same_pair (in_order u v)) keys ≡ is_joined u v pairs

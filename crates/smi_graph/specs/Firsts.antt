-- The first of some places that passes a test, and the first token of each kind of fault.
use Rattle.std.specs.Prelude.{◌≡◌, ◌<◌, ◌≤◌, ◌+◌, ◌-◌, ℕ, Bool, true, false, List, [], ◌∷◌, Option, Some, None}
use Rattle.smi_graph.specs.declared.first_faults.FirstFaults.{FirstFaults}
use Rattle.smi_graph.specs.declared.role.Role.{Role}
use Rattle.smi_graph.specs.declared.role.Role.TheVariants.{Atom, Bond, Ring, Enter, Leave, Dot}
use Rattle.smi_graph.specs.Order.{misplaced_at}
use Rattle.smi_graph.specs.RingRules.{clash_at, pair_again_at}

-- no place below this one passes
abbrev pub NoneBelow : (ℕ → Bool) → ℕ → Type 0
NoneBelow p n = (j : ℕ) → j < n → p j ≡ false

-- the first of n places that passes, or none of them does
abbrev pub IsFirstOf : (ℕ → Bool) → ℕ → Option ℕ → Type 0
IsFirstOf p n None = NoneBelow p n
IsFirstOf p n (Some i) = (i < n) × (p i ≡ true) × NoneBelow p i

-- the first place from one on, below n, that passes, or none of them does
abbrev pub IsFirstFrom : (ℕ → Bool) → ℕ → ℕ → Option ℕ → Type 0
IsFirstFrom p from n None = (j : ℕ) → from ≤ j → j < n → p j ≡ false
IsFirstFrom p from n (Some i) = (from ≤ i) × (i < n) × (p i ≡ true) × ((j : ℕ) → from ≤ j → j < i → p j ≡ false)

-- how many `)` among these tokens close a branch that was open before them
abbrev pub unmatched_with : Role → ℕ → ℕ
unmatched_with Leave n = n + 1
unmatched_with Enter n = n - 1
unmatched_with (Atom lower) n = n
unmatched_with (Bond mark) n = n
unmatched_with (Ring number) n = n
unmatched_with Dot n = n

abbrev pub unmatched : List Role → ℕ
unmatched [] = 0
unmatched (k ∷ ks) = unmatched_with k (unmatched ks)

-- of so many tokens, the first that may not stand where it does, the first that clashes, and the first that pairs again
pub record AreFirst (ks : List Role) (i : ℕ) (faults : FirstFaults) : Type 0 where
  pub misplaced : IsFirstOf (misplaced_at ks) i faults.misplaced
  pub clash : IsFirstOf (clash_at ks) i faults.clash
  pub pair : IsFirstOf (pair_again_at ks) i faults.pair

-- The lowest of some numbers.
use Rattle.std.specs.Prelude.{ℕ, Bool, List, [], ◌∷◌, Option, Some, None, nat_lt, if◌then◌else◌}

-- the lesser of two numbers, of which the first may be missing
abbrev pub lesser : Option ℕ → ℕ → Option ℕ
lesser None n = Some n
lesser (Some b) n = if nat_lt n b then Some n else Some b

-- the lowest of a number that may be missing and of the keys of those that pass
abbrev pub lowest : {A : Type 0} → (A → Bool) → (A → ℕ) → Option ℕ → List A → Option ℕ
lowest passes key best [] = best
lowest passes key best (x ∷ xs) = lowest passes key (if passes x then lesser best (key x) else best) xs

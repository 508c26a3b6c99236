-- Digits at the front of a text.
use Rattle.std.specs.Prelude.{ℕ, Bool, false, List, [], ◌∷◌}
use Rattle.std.specs.Char.{is_ascii_digit}

-- a digit stands at the front
abbrev pub starts_digit : List ℕ → Bool
starts_digit [] = false
starts_digit (b ∷ bs) = is_ascii_digit b

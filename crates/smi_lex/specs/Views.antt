-- What a reader gave, with the text behind its reference.
use Rattle.std.specs.Prelude.{List, ℕ, Option, Some, None}
use Rattle.std.specs.Borrow.{Bor}

-- a value and the text behind it, where there is one
abbrev pub front_view : {A : Type 0} → Option (A × Bor (List ℕ)) → Option (A × List ℕ)
front_view None = None
front_view (Some front) = Some (front.0, front.1.now)

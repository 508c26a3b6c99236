-- What a reader gave, with the text behind its reference.
use Rattle.std.specs.Prelude.{List, ℕ, Option, Some, None}
use Rattle.std.specs.Borrow.{Bor}

abbrev pub digits_view : Option (ℕ × ℕ × Bor (List ℕ)) → Option (ℕ × ℕ × List ℕ)
digits_view None = None
digits_view (Some digits) = Some (digits.0, digits.1, digits.2.now)

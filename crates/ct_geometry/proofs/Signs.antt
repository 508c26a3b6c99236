-- What holds of every sign, by computing it for the three.
use Rattle.std.proofs.Common.{◌≡◌, Bool, true, ◌&&◌}
use Rattle.std.proofs.lemmas.Bool.{and_parts}
use Rattle.ct_geometry.specs.Turns.{Sign, Negative, Null, Positive}

abbrev pub every : (Sign → Bool) → Bool
every f = f Negative && (f Null && f Positive)

pub every_is : (f : Sign → Bool) → every f ≡ true → (s : Sign) → f s ≡ true
every_is f e Negative = (and_parts (f Negative) (f Null && f Positive) e).0
every_is f e Null = (and_parts (f Null) (f Positive) (and_parts (f Negative) (f Null && f Positive) e).1).0
every_is f e Positive = (and_parts (f Null) (f Positive) (and_parts (f Negative) (f Null && f Positive) e).1).1

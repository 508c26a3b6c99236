-- An error that `?` passes on.
use Rattle.std.proofs.Common.{◌≡◌, ap}
use Rattle.std.specs.Prelude.{Result, Ok, Err, IsErrAnd, OnErr}

-- the error is this one
pub err_is : {A : Type 0} {E : Type 0} (r : Result A E) (e : E) → IsErrAnd r (λ f. f ≡ e) → r ≡ Err e
err_is (Ok x) e is = absurd is
err_is {A} {E} (Err f) e is = ap (λ (x : E). Err x) is

-- what holds of no error alone holds of any
pub on_err : {A : Type 0} {E : Type 0} (r : Result A E) (P : Type 0) → P → OnErr r P
on_err (Ok x) P p = tt
on_err (Err e) P p = p

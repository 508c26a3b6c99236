-- A molecule is made without stereo.
use Rattle.std.proofs.Common.{◌≡◌, List, [], ◌∷◌, length, replicate, Option, None, refl, ap}
use Rattle.smi_mean.specs.Meaning.{nones}

pub nones_are : {A B : Type 0} → (xs : List A) → nones {B = B} xs ≡ replicate (length xs) None
nones_are [] = refl
nones_are {B = B} (x ∷ xs) = ap (λ (rest : List (Option B)). None ∷ rest) (nones_are xs)

-- Lists that are empty, and tests that show no kind.
use Rattle.std.proofs.Common.{◌≡◌, ℕ, Bool, true, false, List, [], ◌∷◌, ◌++◌, refl}
use Rattle.mc_base.specs.declared.kind.Kind.{Kind}
use Rattle.ct_sd.specs.Faults.{faults_at, shown_if}

pub none_front : {A : Type 0} (xs ys : List A) → xs ++ ys ≡ [] → xs ≡ []
none_front [] ys none = refl
none_front (x ∷ xs) ys none = absurd cc

pub none_back : {A : Type 0} (xs ys : List A) → xs ++ ys ≡ [] → ys ≡ []
none_back [] ys none = none
none_back (x ∷ xs) ys none = absurd cc

pub none_at : (k : ℕ) (kinds : List Kind) → faults_at k kinds ≡ [] → kinds ≡ []
none_at k [] none = refl
none_at k (kind ∷ kinds) none = absurd cc

pub not_shown : (test : Bool) (kind : Kind) → shown_if test kind ≡ [] → test ≡ false
not_shown true kind none = absurd cc
not_shown false kind none = refl

-- The least number that passes, and tests.
use Rattle.std.proofs.Common.{◌≡◌, ℕ, zero, suc, ◌<◌, Bool, true, false, Some, None, Option, refl, ◌∙◌, arith, subst, inl, inr}
use Rattle.std.specs.Prelude.{◌&&◌}
use Rattle.std.proofs.lemmas.Bool.{cases_lt, false≢true}
use Rattle.std.proofs.lemmas.Option.{same_Some}
use Rattle.smi_graph.specs.Links.{or_else}
use Rattle.smi_mean.specs.Order.{least, some_if}

pub and_false : (a b : Bool) → a ≡ true → a && b ≡ false → b ≡ false
and_false true b e h = h
and_false false b e h = absurd (false≢true e)

-- nothing below passes
pub least_all : (p : ℕ → Bool) (n : ℕ) → least p n ≡ None → (v : ℕ) → v < n → p v ≡ false
least_all p zero h v less = absurd (omega arith)
least_all p (suc n) h v less = by_rest (λ e below. least_all p n e v below) (least p n) refl (p n) refl h
  where
    by_rest : (least p n ≡ None → v < n → p v ≡ false) → (o : Option ℕ) → least p n ≡ o → (b : Bool) → p n ≡ b → or_else o (some_if b n) ≡ None → p v ≡ false
    by_rest more None e false f h = elim (cases_lt v n) [
      | inl below ↦ more e below
      | inr above ↦ let same : n ≡ v = omega arith in subst (λ (x : ℕ). p x ≡ false) same f
    ]
    by_rest more None e true f h = cc
    by_rest more (Some k) e b f h = cc

pub record IsLeast (p : ℕ → Bool) (n k : ℕ) : Type 0 where
  pub below : k < n
  pub passes : p k ≡ true
  pub first : (v : ℕ) → v < k → p v ≡ false

pub least_some : (p : ℕ → Bool) (n k : ℕ) → least p n ≡ Some k → IsLeast p n k
least_some p zero k h = cc
least_some p (suc n) k h = by_rest (λ e. least_some p n k e) (least p n) refl (p n) refl h
  where
    by_rest : (least p n ≡ Some k → IsLeast p n k) → (o : Option ℕ) → least p n ≡ o → (b : Bool) → p n ≡ b → or_else o (some_if b n) ≡ Some k → IsLeast p (suc n) k
    by_rest more None e false f h = cc
    by_rest more None e true f h = subst (λ (x : ℕ). IsLeast p (suc n) x) (same_Some n k h) (record { below = omega arith; passes = f; first = least_all p n e })
    by_rest more (Some j) e b f h = let r = more (e ∙ h) in record { below = let l = r.below in omega arith; passes = r.passes; first = r.first }

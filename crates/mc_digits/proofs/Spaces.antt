-- Spaces, one at a time.
use Rattle.std.proofs.Common.{arith, ◌≡◌, ◌+◌, ℕ, zero, suc, List, [], ◌∷◌, ◌++◌, length, take, refl, ap, ◌∙◌, append_assoc}
use Rattle.std.specs.Prelude.{replicate}
use Rattle.std.proofs.Math.Seq.{take-append_seam}

replicate_last : (n x : ℕ) → replicate n x ++ x ∷ [] ≡ replicate (suc n) x
replicate_last zero x = refl
replicate_last (suc n) x = ap (λ t. x ∷ t) (replicate_last n x)

-- one more behind a text
pub one_more : (text old : List ℕ) (n x : ℕ) → text ≡ old ++ replicate n x → text ++ x ∷ [] ≡ old ++ replicate (n + 1) x
one_more text old n x is =
    ap (λ t. t ++ x ∷ []) is ∙ append_assoc old (replicate n x) (x ∷ [])
    ∙ ap (λ t. old ++ t) (replicate_last n x ∙ ap (λ k. replicate k x) (let e : suc n ≡ n + 1 = omega arith in e))

-- what was there stands at the front
pub front_stays : (text old more : List ℕ) → text ≡ old ++ more → take (length old) text ≡ old
front_stays text old more is = ap (λ t. take (length old) t) is ∙ take-append_seam old more

-- The first blank of a line, as a search for it answers.
use Rattle.std.proofs.Common.{arith, ◌≡◌, ◌<◌, ℕ, zero, suc, true, List, [], ◌∷◌, length, take, drop, get_or, refl, ap, inl, inr}
use Rattle.std.proofs.lemmas.Bool.{cases_Bool}
use Rattle.smi_mean.specs.Lines.{is_blank, text_of, name_of}

abbrev IsBlankAt : List ℕ → ℕ → Type 0
IsBlankAt line k = is_blank (get_or line k 0) ≡ true

pub record EndsAt (line : List ℕ) (n : ℕ) : Type 0 where
  pub text : take n line ≡ text_of line
  pub name : drop (suc n) line ≡ name_of line

pub at_blank : (line : List ℕ) (n : ℕ) → n < length line → ((k : ℕ) → k < n → IsBlankAt line k → ⊥) → IsBlankAt line n → EndsAt line n
at_blank [] n within before here = absurd (omega arith)
at_blank (b ∷ line) zero within before here = record { text = rw here refl; name = rw here refl }
at_blank (b ∷ line) (suc n) within before here =
    let later = at_blank line n (omega arith) (λ k less. before (suc k) (omega arith)) here in
    elim (cases_Bool (is_blank b)) [
      | inl blank ↦ absurd (before 0 (omega arith) blank)
      | inr other ↦ record { text = rw other (ap (λ (l : List ℕ). b ∷ l) later.text); name = rw other later.name }
    ]

pub no_blank : (line : List ℕ) → ((k : ℕ) → k < length line → IsBlankAt line k → ⊥) → EndsAt line (length line)
no_blank [] before = record { text = refl; name = refl }
no_blank (b ∷ line) before =
    let later = no_blank line (λ k less. before (suc k) (omega arith)) in
    elim (cases_Bool (is_blank b)) [
      | inl blank ↦ absurd (before 0 (omega arith) blank)
      | inr other ↦ record { text = rw other (ap (λ (l : List ℕ). b ∷ l) later.text); name = rw other later.name }
    ]

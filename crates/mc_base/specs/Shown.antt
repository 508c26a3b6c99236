-- When a record shows a refusal (this project's own): one rule for every kind.
use Rattle.std.specs.Prelude.{◌≡◌, ℕ, ◌≤◌, ◌<◌, List, []}
use Rattle.mc_base.specs.declared.ids.AtomId.{AtomId}
use Rattle.mc_base.specs.declared.kind.Kind.{Kind}
use Rattle.mc_base.specs.declared.kind.Kind.TheVariants.{NoPlacement}
use Rattle.mc_base.specs.declared.refusal.Refusal.{Refusal}
use Rattle.mc_base.specs.Kinds.{number}

-- what is said beside kind and place: a barrier for NoPlacement, and nothing for another kind
abbrev pub HasReason : (List AtomId → ℕ → Type 0) → Kind → List AtomId → ℕ → Type 0
HasReason IsBarrier NoPlacement barrier odd = IsBarrier barrier odd
HasReason IsBarrier _ barrier odd = (barrier ≡ []) × (odd ≡ 0)

-- A refusal is shown by rules that say of each kind at which places it stands: its kind stands at its place
-- and at no lesser place, and no kind that is looked for earlier stands anywhere.
pub record IsFirst (Stands : Kind → ℕ → Type 0) (IsBarrier : List AtomId → ℕ → Type 0) (refusal : Refusal) : Type 0 where
  pub stands : Stands refusal.kind refusal.place
  pub least : (place : ℕ) → Stands refusal.kind place → refusal.place ≤ place
  pub first : (kind : Kind) (place : ℕ) → number kind < number refusal.kind → Stands kind place → ⊥
  pub reason : HasReason IsBarrier refusal.kind refusal.barrier refusal.odd

-- Faults of a text, as its readers answer them.
use Rattle.std.specs.Prelude.{ℕ, [], Option, Some, None}
use Rattle.mc_base.specs.declared.kind.Kind.{Kind}
use Rattle.mc_base.specs.declared.refusal.Refusal.{Refusal}
use Rattle.mc_base.specs.Shown.{IsFirst}
use Rattle.smi_graph.specs.declared.first_faults.Fault.{Fault}
use Rattle.smi_graph.specs.Skeletons.{IsNoBarrier}

-- a refusal of this kind at this place
abbrev pub refusal_at : Kind → ℕ → Refusal
refusal_at kind place = record { kind = kind; place = place; barrier = []; odd = 0 }

-- the first fault of a text, or none
abbrev pub IsFirstFault : (Kind → ℕ → Type 0) → Option Fault → Type 0
IsFirstFault Stands None = (kind : Kind) (place : ℕ) → Stands kind place → ⊥
IsFirstFault Stands (Some fault) = IsFirst Stands IsNoBarrier (refusal_at fault.kind fault.place)

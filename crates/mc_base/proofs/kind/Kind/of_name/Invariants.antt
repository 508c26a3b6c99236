use Rattle.std.proofs.Common.{◌≡◌, ◌<◌, ℕ, get_or}
use Rattle.mc_base.specs.declared.kind.Kind.TheVariants.{NotBuilt}
use Rattle.mc_base.specs.Kinds.{kind_name}
use Rattle.mc_base.proofs.kind.Kind.of_name.Given as goal

abbrev pub invariant-loop-kind : goal.invariant-loop-kind
invariant-loop-kind l = (j : ℕ) → j < l.kind-index → kind_name (get_or l.kind-items j NotBuilt) ≡ l.name → ⊥

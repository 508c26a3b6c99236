use Rattle.std.proofs.Common.{◌≡◌, ◌<◌, ℕ, List, get_or, drop}
use Rattle.mc_elements.specs.Valences.{implied}
use Rattle.mc_elements.proofs.valence.implied.Given as goal

-- every valence so far is below the sum
pub record Passed (list : List ℕ) (sum index : ℕ) : Type 0 where
  pub below : (j : ℕ) → j < index → get_or list j 0 < sum
  pub left : implied (drop index list) sum ≡ implied list sum

abbrev pub invariant-loop-valence : goal.invariant-loop-valence
invariant-loop-valence l = Passed l.list l.sum l.valence-index

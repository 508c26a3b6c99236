use Rattle.std.proofs.Common.{◌≡◌, ◌<◌, ℕ, get_or}
use Rattle.mc_elements.specs.declared.element.Element.TheVariants.{H}
use Rattle.mc_elements.specs.Elements.{symbol}
use Rattle.mc_elements.proofs.element.Element.of_symbol.Given as goal

abbrev pub invariant-loop-element : goal.invariant-loop-element
invariant-loop-element l = (j : ℕ) → j < l.element-index → symbol (get_or l.element-items j H) ≡ l.name → ⊥

use Rattle.std.proofs.Common.{arith, rules, refl, sym}
use Rattle.mc_elements.proofs.Symbols.{unlisted, no_element_of, element_of_its_symbol}
use Rattle.mc_elements.proofs.element.Element.of_symbol.Goals as goal

pub returns-clause-none : goal.returns-clause-none
returns-clause-none c =
    (λ none element is. unlisted c.args.name.now (λ j less. c.loop-element.invariant j (omega (arith, less, c.loop-element-test.false))) element is, λ none. refl)

pub returns-clause-value : goal.returns-clause-value
returns-clause-value c =
    sym (no_element_of c.args.name.now (unlisted c.args.name.now (λ j less. c.loop-element.invariant j (omega (arith, less, c.loop-element-test.false)))))

pub returns-then-eq-clause-value : goal.returns-then-eq-clause-value
returns-then-eq-clause-value c = sym (element_of_its_symbol c.args.name.now _ (search rules))

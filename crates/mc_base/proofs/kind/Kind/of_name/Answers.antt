use Rattle.std.proofs.Common.{arith, ◌∙◌, sym}
use Rattle.std.specs.Cmp.Lexicographic.{same_text}
use Rattle.mc_base.proofs.AllKinds.{unnamed}
use Rattle.mc_base.proofs.NamesApart.{one_named}
use Rattle.mc_base.proofs.kind.Kind.of_name.Goals as goal

pub returns-then-eq-clause-only : goal.returns-then-eq-clause-only
returns-then-eq-clause-only c = λ kind is. one_named c.args.name.now _ (sym c.name.ensures ∙ same_text c.name.result.now c.args.name.now (sym (sym c.eq.ensures ∙ c.if-eq.true))) kind is

pub returns-clause-only : goal.returns-clause-only
returns-clause-only c = λ kind is. absurd (unnamed c.args.name.now (λ j less. c.loop-kind.invariant j (omega (arith, less, c.loop-kind-test.false))) kind is)

pub returns-clause-none : goal.returns-clause-none
returns-clause-none c = unnamed c.args.name.now (λ j less. c.loop-kind.invariant j (omega (arith, less, c.loop-kind-test.false)))

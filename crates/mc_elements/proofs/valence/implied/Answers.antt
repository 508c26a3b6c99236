use Rattle.std.proofs.Common.{arith, ◌-◌, ap}
use Rattle.mc_elements.proofs.Rising.{first_is_least, none_is_least}
use Rattle.mc_elements.proofs.valence.implied.Goals as goal

pub returns-then-sum-valence-clause-filled : goal.returns-then-sum-valence-clause-filled
returns-then-sum-valence-clause-filled c = λ valence least.
    ap (λ v. v - c.args.sum)
    (first_is_least c.args.list.now c.args.sum valence c.loop-valence.valence-index c.requires c.loop-valence.invariant.below
    (omega arith) c.if-sum-valence.true least)

pub returns-clause-filled : goal.returns-clause-filled
returns-clause-filled c = λ valence least.
    absurd (none_is_least c.args.list.now c.args.sum valence
    (λ j inside. c.loop-valence.invariant.below j (omega (arith, inside, c.loop-valence-test.false))) least)

use Rattle.std.proofs.Common.{arith, below_more, ◌∙◌, ◌<◌, ◌≤◌, ℕ, length, get_or, sym, subst, refl}
use Rattle.mc_same.specs.Agreement.{AgreesAt}
use Rattle.mc_same.proofs.Between.{blank, half_to, every_half}
use Rattle.mc_mol.proofs.Neighbours.{joined_ends}
use Rattle.mc_same.proofs.sides.agrees_from.Goals as goal
use Rattle.mc_same.proofs.sides.agrees_from.Goals.{then-half-pair+else-not-agrees_at, else-half-pair}

pub agrees_at-requires-clause-d : goal.agrees_at-requires-clause-d
agrees_at-requires-clause-d c =
    let halves = c.bonds_of-half-items.result.now in
    let less : c.loop-half.half-index < length halves = omega arith in
    subst (λ (n : ℕ). (get_or halves c.loop-half.half-index blank).to.0 < n) (sym c.requires.same_length)
    (half_to c.args.output.now c.args.pair.bond.second halves c.loop-half.half-index blank c.bonds_of-half-items.ensures.value c.bonds_of-half-items.ensures.twins less).0

pub returns-then-not-agrees_at : goal.returns-then-not-agrees_at
returns-then-not-agrees_at c =
    let halves = c.bonds_of-half-items.result.now in
    let less : c.loop-half.half-index < length halves = omega arith in
    let joined = (half_to c.args.output.now c.args.pair.bond.second halves c.loop-half.half-index _ c.bonds_of-half-items.ensures.value c.bonds_of-half-items.ensures.twins less).1 in
    ((λ e. cc), (λ all. sym c.if-not-agrees_at.true ∙ c.agrees_at.ensures.1 (all _ joined c.if-half-pair.true)))

pub loop-half-preserved : goal.loop-half-preserved
loop-half-preserved c = elim c.if-half-pair.branch [
  | then-half-pair+else-not-agrees_at w ↦ below_more _ _ c.loop-half.invariant (λ ne. w.agrees_at.ensures.0 w.if-not-agrees_at.false)
  | else-half-pair w ↦ below_more _ _ c.loop-half.invariant (λ ne. absurd (ne w.if-half-pair.false))
]

pub returns : goal.returns
returns c =
    let n = c.args.output.now in
    let halves = c.bonds_of-half-items.result.now in
    let pair = c.args.pair in
    let past : length halves ≤ c.loop-half.half-index = omega arith in (
      (λ _. every_half n pair.bond.second.0 pair.bond.first.0 halves c.loop-half.half-index _
          (λ (d : ℕ). AgreesAt c.args.map.now pair.bond pair.sides pair.counterpart pair.theirs c.args.c.0 d)
          c.bonds_of-half-items.ensures.value (λ v joined. (joined_ends _ n.bonds pair.bond.second.0 v c.requires.well_formed.bonds joined).different) past c.loop-half.invariant),
      (λ _. refl),
    )

use Rattle.std.proofs.Common.{arith, below_more, ◌∙◌, ◌<◌, ◌≤◌, ℕ, length, get_or, sym, subst, refl}
use Rattle.mc_same.specs.Agreement.{AgreesFrom}
use Rattle.mc_same.proofs.Between.{blank, half_to, every_half}
use Rattle.mc_mol.proofs.Neighbours.{joined_ends}
use Rattle.mc_same.proofs.sides.agrees.Goals as goal
use Rattle.mc_same.proofs.sides.agrees.Goals.{then-half-pair+else-not-agrees_from, else-half-pair}

pub agrees_from-requires-clause-c : goal.agrees_from-requires-clause-c
agrees_from-requires-clause-c c =
    let halves = c.bonds_of-half-items.result.now in
    let less : c.loop-half.half-index < length halves = omega arith in
    subst (λ (n : ℕ). (get_or halves c.loop-half.half-index blank).to.0 < n) (sym c.requires.same_length)
    (half_to c.args.output.now c.args.pair.bond.first halves c.loop-half.half-index blank c.bonds_of-half-items.ensures.value c.bonds_of-half-items.ensures.twins less).0

pub returns-then-not-agrees_from : goal.returns-then-not-agrees_from
returns-then-not-agrees_from c =
    let halves = c.bonds_of-half-items.result.now in
    let less : c.loop-half.half-index < length halves = omega arith in
    let joined = (half_to c.args.output.now c.args.pair.bond.first halves c.loop-half.half-index _ c.bonds_of-half-items.ensures.value c.bonds_of-half-items.ensures.twins less).1 in
    ((λ e. cc), (λ all. sym c.if-not-agrees_from.true ∙ c.agrees_from.ensures.1 (all _ joined c.if-half-pair.true)))

pub loop-half-preserved : goal.loop-half-preserved
loop-half-preserved c = elim c.if-half-pair.branch [
  | then-half-pair+else-not-agrees_from w ↦ below_more _ _ c.loop-half.invariant (λ ne. w.agrees_from.ensures.0 w.if-not-agrees_from.false)
  | else-half-pair w ↦ below_more _ _ c.loop-half.invariant (λ ne. absurd (ne w.if-half-pair.false))
]

pub returns : goal.returns
returns c =
    let n = c.args.output.now in
    let halves = c.bonds_of-half-items.result.now in
    let pair = c.args.pair in
    let past : length halves ≤ c.loop-half.half-index = omega arith in (
      (λ _. every_half n pair.bond.first.0 pair.bond.second.0 halves c.loop-half.half-index _
          (λ (c2 : ℕ). AgreesFrom c.args.map.now n.bonds pair.bond pair.sides pair.counterpart pair.theirs c2)
          c.bonds_of-half-items.ensures.value (λ v joined. (joined_ends _ n.bonds pair.bond.first.0 v c.requires.well_formed.bonds joined).different) past c.loop-half.invariant),
      (λ _. refl),
    )

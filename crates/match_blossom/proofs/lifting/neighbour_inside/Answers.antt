use Rattle.std.proofs.Common.{arith, subst, ap, sym, ◌∙◌, ◌≡◌, ℕ, false}
use Rattle.match_barrier.specs.Graph.{has}
use Rattle.match_barrier.proofs.Naming.{place_of}
use Rattle.match_barrier.proofs.Edges.{has_at}
use Rattle.match_blossom.proofs.lifting.neighbour_inside.Goals as goal

pub returns-clause-none : goal.returns-clause-none
returns-clause-none c = λ part points from inside.
    let (k, less, is) = place_of c.args.neighbours.now from inside in
    subst (λ (x : ℕ). has c.args.cycle.now (part x) ≡ false) is (c.loop-from.invariant part points k (omega arith))

pub returns-in-Some-clause-some : goal.returns-in-Some-clause-some
returns-in-Some-clause-some c =
    let h = c.in-Some.ensures.some in (
      has_at c.args.neighbours.now c.loop-from.from-index 0 c.loop-from-test.true,
      (λ part points. ap (has c.args.cycle.now) (sym (c.base_by_cycles-base.ensures.base part points) ∙ h.1) ∙ has_at c.args.cycle.now _ 0 h.0),
    )

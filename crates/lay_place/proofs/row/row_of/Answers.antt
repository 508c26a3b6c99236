use Rattle.lay_place.proofs.Placing.{row_step}
use Rattle.lay_place.proofs.row.row_of.Goals as goal

pub loop-done-preserved : goal.loop-done-preserved
loop-done-preserved c = row_step c.args.mol.now c.args.rings.now c.requires.may c.loop-done.done c.order-order.result.now (record { 0 = 0 }) c.loop-done.curve _ c.next_place-at.result
    c.order-order.ensures c.loop-done-test.true c.loop-done.invariant c.next_place-at.ensures.low c.next_place-at.ensures.suits c.insert.ensures

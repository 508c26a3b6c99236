use Rattle.std.proofs.Common.{rules}
use Rattle.lay_place.proofs.Placing.{fits_wide, fits_high, fits_square, below_of}
use Rattle.lay_place.proofs.curve.Curve.draw.Goals as goal

pub point-requires-clause-wide : goal.point-requires-clause-wide
point-requires-clause-wide c = fits_wide c.deref-slot-items.result.now (below_of c.args.self.now c.deref-slot-items.result.now (search rules) c.requires.below) c.len.result (search rules) c.of-stretch.result.wide c.of-stretch.result.high c.of-stretch.ensures c.loop-slot.slot-index c.loop-slot-test.true

pub point-requires-clause-high : goal.point-requires-clause-high
point-requires-clause-high c = fits_high c.deref-slot-items.result.now (below_of c.args.self.now c.deref-slot-items.result.now (search rules) c.requires.below) c.len.result (search rules) c.of-stretch.result.wide c.of-stretch.result.high c.of-stretch.ensures c.loop-slot.slot-index c.loop-slot-test.true

pub point-requires-clause-square : goal.point-requires-clause-square
point-requires-clause-square c = fits_square c.deref-slot-items.result.now (below_of c.args.self.now c.deref-slot-items.result.now (search rules) c.requires.below) c.len.result (search rules) c.of-stretch.result.wide c.of-stretch.result.high c.of-stretch.ensures c.loop-slot.slot-index c.loop-slot-test.true

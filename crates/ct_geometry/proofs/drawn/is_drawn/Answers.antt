use Rattle.ct_geometry.proofs.DrawnWhole.{not_drawn, drawn_exactly}
use Rattle.ct_geometry.proofs.drawn.is_drawn.Goals as goal

pub returns-then-not-stands_right : goal.returns-then-not-stands_right
returns-then-not-stands_right c = not_drawn c.args.mol.now c.stands_right.ensures.well_formed c.args.drawing.now c.as_slice-points.result.now c.as_slice-points.ensures c.stands_right.result c.stands_right.ensures.value c.if-not-stands_right.true

pub returns : goal.returns
returns c = drawn_exactly c.args.mol.now c.stands_right.ensures.well_formed c.args.drawing.now c.as_slice-points.result.now c.as_slice-points.ensures c.stands_right.result c.stands_right.ensures.value c.if-not-stands_right.false c.reads_right.result c.reads_right.ensures

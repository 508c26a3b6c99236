-- A difference of two products fits 64 bits.
use Rattle.ct_geometry.proofs.Products.{passed, difference_is}
use Rattle.ct_geometry.proofs.turns.cross.Goals as goal

pub returns : goal.returns
returns c = difference_is c.product.result c.product-2.result _ _
    (passed c.product.result c.args.p.0 c.args.q.1 c.product.ensures.value c.requires.p.x c.requires.q.y)
    (passed c.product-2.result c.args.q.0 c.args.p.1 c.product-2.ensures.value c.requires.q.x c.requires.p.y)
    c.product.ensures.small c.product-2.ensures.small

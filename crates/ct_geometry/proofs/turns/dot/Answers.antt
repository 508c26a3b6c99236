-- A sum of two products fits 64 bits.
use Rattle.ct_geometry.proofs.Products.{passed, sum_is}
use Rattle.ct_geometry.proofs.turns.dot.Goals as goal

pub returns : goal.returns
returns c = sum_is c.product.result c.product-2.result _ _
    (passed c.product.result c.args.p.0 c.args.q.0 c.product.ensures.value c.requires.p.x c.requires.q.x)
    (passed c.product-2.result c.args.p.1 c.args.q.1 c.product-2.ensures.value c.requires.p.y c.requires.q.y)
    c.product.ensures.small c.product-2.ensures.small

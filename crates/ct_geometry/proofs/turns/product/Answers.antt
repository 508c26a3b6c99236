-- A product of two coordinates fits 64 bits.
use Rattle.std.proofs.Common.{◌≤◌, subst, sym, ℤ}
use Rattle.std.specs.Int.RustNames.{unsigned_abs}
use Rattle.ct_geometry.proofs.Products.{product_is, product_small}
use Rattle.ct_geometry.proofs.turns.product.Goals as goal

pub returns-clause-value : goal.returns-clause-value
returns-clause-value c = product_is c.args.a c.args.b c.ranges.a c.ranges.b c.requires.a c.requires.b

pub returns-clause-small : goal.returns-clause-small
returns-clause-small c =
    subst (λ (z : ℤ). unsigned_abs z ≤ 1209999995600000004) (sym (product_is c.args.a c.args.b c.ranges.a c.ranges.b c.requires.a c.requires.b))
    (product_small c.args.a c.args.b c.requires.a c.requires.b)

use Rattle.mc_digits.proofs.Exact.{fixed_exact, fixed_none}
use Rattle.mc_digits.proofs.read.read_fixed.Goals as goal

pub returns-clause-exact : goal.returns-clause-exact
returns-clause-exact c = fixed_exact c.args.field.now c.fixed_of.result c.fixed_of.ensures

pub returns-clause-none : goal.returns-clause-none
returns-clause-none c = fixed_none c.args.field.now c.fixed_of.result c.fixed_of.ensures

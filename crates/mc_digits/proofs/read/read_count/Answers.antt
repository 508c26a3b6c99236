use Rattle.mc_digits.proofs.Exact.{count_exact, count_none}
use Rattle.mc_digits.proofs.read.read_count.Goals as goal

pub returns-clause-exact : goal.returns-clause-exact
returns-clause-exact c = count_exact c.args.field.now c.count_of.result c.count_of.ensures

pub returns-clause-none : goal.returns-clause-none
returns-clause-none c = count_none c.args.field.now c.count_of.result c.count_of.ensures

use Rattle.mc_same.proofs.Verdicts.{true_exact}
use Rattle.mc_same.proofs.check.check_map.Goals as goal

pub returns-clause-same : goal.returns-clause-same
returns-clause-same c = true_exact c.args.input.now c.args.output.now c.args.map.now c.in_ok-verdict.verdict c.in_ok-verdict.ensures

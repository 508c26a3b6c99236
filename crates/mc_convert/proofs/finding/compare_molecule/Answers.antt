use Rattle.std.proofs.Common.{refl}
use Rattle.mc_convert.proofs.CheckFound.{no_output, table_found}
use Rattle.mc_convert.proofs.finding.compare_molecule.Goals as goal

pub returns-in_ok-verdict-in-Some : goal.returns-in_ok-verdict-in-Some
returns-in_ok-verdict-in-Some c = λ to given next name headers is also.
    table_found to given next c.args.mol.now c.in-Some.output.now name headers c.args.map.now c.in_ok-verdict-in-Some.verdict is (c.in-Some.ensures.some next also) c.in_ok-verdict-in-Some.ensures.first

pub returns-in-None : goal.returns-in-None
returns-in-None c = λ to given next name headers is also.
    no_output to given next c.args.mol.now c.args.map.now is.stands (c.in-None.ensures.none to next also refl)

use Rattle.std.proofs.Common.{refl}
use Rattle.mc_convert.proofs.CheckFound.{no_output, text_found}
use Rattle.mc_convert.proofs.finding.compare_text.Goals as goal

pub returns-in_ok-verdict-in-Some : goal.returns-in_ok-verdict-in-Some
returns-in_ok-verdict-in-Some c = λ to given next name is also.
    text_found to given next c.args.mol.now c.in-Some.output.now c.args.input.now name c.args.map.now c.in_ok-verdict-in-Some.verdict is (c.in-Some.ensures.some next also) c.in_ok-verdict-in-Some.ensures.first

pub returns-in-None : goal.returns-in-None
returns-in-None c = λ to given next name is also.
    no_output to given next c.args.mol.now c.args.map.now is.stands (c.in-None.ensures.none to next also refl)

pub check_stands-requires : goal.check_stands-requires
check_stands-requires c = record { marks = λ placed is. c.requires.marks }

use Rattle.std.proofs.Common.{arith, length, add-one}
use Rattle.smi_mean.proofs.Blanks.{at_blank, no_blank}
use Rattle.smi_mean.proofs.line.text_end.Goals as goal

pub returns-in-Some-clause-text : goal.returns-in-Some-clause-text
returns-in-Some-clause-text c =
    let found = c.in-Some.ensures in
    (at_blank c.args.line.now c.in-Some.blank found.0.high (λ k less. found.0.before k (omega arith) less) found.1).text

pub returns-in-Some-clause-name : goal.returns-in-Some-clause-name
returns-in-Some-clause-name c =
    let found = c.in-Some.ensures in
    rw (add-one c.in-Some.blank) ((at_blank c.args.line.now c.in-Some.blank found.0.high (λ k less. found.0.before k (omega arith) less) found.1).name)

pub returns-in-None-clause-text : goal.returns-in-None-clause-text
returns-in-None-clause-text c = (no_blank c.args.line.now (λ k less. c.in-None.ensures k (omega arith) less)).text

pub returns-in-None-clause-name : goal.returns-in-None-clause-name
returns-in-None-clause-name c = rw (add-one (length c.args.line.now)) ((no_blank c.args.line.now (λ k less. c.in-None.ensures k (omega arith) less)).name)

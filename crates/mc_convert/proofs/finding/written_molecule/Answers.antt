use Rattle.mc_convert.proofs.CheckFound.{output_candidate, output_refused, output_table, output_text}
use Rattle.mc_convert.proofs.finding.written_molecule.Goals as goal

pub returns-in-Refused-clause-none : goal.returns-in-Refused-clause-none
returns-in-Refused-clause-none c = λ to next reads none. output_refused to next c.args.converted.now c.in-Refused.field-0 c.in-Refused.field-1 c.in-Refused.is reads

pub returns-then-has_candidate-clause-none : goal.returns-then-has_candidate-clause-none
returns-then-has_candidate-clause-none c = λ to next reads none.
    output_candidate to next c.args.converted.now c.in-Stands.mol c.in-Stands.skeleton c.in-Stands.name c.in-Stands.is reads (c.has_candidate.ensures.yes c.if-has_candidate.true)

pub returns-else-has_candidate-clause-some : goal.returns-else-has_candidate-clause-some
returns-else-has_candidate-clause-some c = λ next reads.
    output_text next c.args.converted.now c.in-Stands.mol c.in-Stands.skeleton c.in-Stands.name c.in-Stands.is reads (c.has_candidate.ensures.no c.if-has_candidate.false)

use Rattle.mc_digits.proofs.ReadBack.{count_back, fixed_back}
use Rattle.mc_digits.proofs.write.read_back_law.Goals as goal

pub returns-clause-count : goal.returns-clause-count
returns-clause-count c = count_back

pub returns-clause-fixed : goal.returns-clause-fixed
returns-clause-fixed c = fixed_back

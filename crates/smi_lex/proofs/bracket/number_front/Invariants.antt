use Rattle.std.proofs.Common.{◌≡◌, drop}
use Rattle.smi_lex.specs.Fronts.{number_front}
use Rattle.smi_lex.proofs.bracket.number_front.Given as goal

abbrev pub invariant-loop-i : goal.invariant-loop-i
invariant-loop-i l = number_front l.value (drop l.i l.text) ≡ number_front 0 l.text

use Rattle.std.proofs.Common.{◌≡◌, drop}
use Rattle.mc_digits.specs.Fronts.{skip_blanks}
use Rattle.mc_digits.proofs.read.skip_blanks.Given as goal

abbrev pub invariant-loop-i : goal.invariant-loop-i
invariant-loop-i l = skip_blanks (drop l.i l.text) ≡ skip_blanks l.text

use Rattle.std.proofs.Common.{◌≡◌, drop}
use Rattle.mc_same.specs.Stands.{is_double}
use Rattle.mc_same.proofs.stands.is_double.Given as goal

abbrev pub invariant-loop-found : goal.invariant-loop-found
invariant-loop-found l = is_double (drop l.found-index l.found-items) l.map l.bond ≡ is_double l.found-items l.map l.bond

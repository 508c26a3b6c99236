use Rattle.lay_place.specs.Curve.{IsRow}
use Rattle.lay_place.proofs.row.row_of.Given as goal

abbrev pub invariant-loop-done : goal.invariant-loop-done
invariant-loop-done l = IsRow l.mol l.rings l.done l.curve

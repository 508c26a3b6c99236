use Rattle.std.proofs.Common.{◌≡◌, ◌++◌, map, take, drop}
use Rattle.lay_place.specs.Curve.{moved}
use Rattle.lay_place.proofs.curve.make_room.Given as goal

abbrev pub invariant-loop-i : goal.invariant-loop-i
invariant-loop-i l = l.places ≡ map (moved l.k) (take l.i l.fn.places) ++ drop l.i l.fn.places

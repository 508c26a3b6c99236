use Rattle.std.proofs.Common.{◌≡◌, map, take}
use Rattle.lay_place.specs.Curve.{on_parabola, place_in}
use Rattle.lay_place.proofs.curve.Curve.draw.Given as goal

abbrev pub invariant-loop-slot : goal.invariant-loop-slot
invariant-loop-slot l = l.points.items ≡ map (λ slot. on_parabola l.stretch.wide l.stretch.high (place_in slot)) (take l.slot-index l.slot-items)

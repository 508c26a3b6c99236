use Rattle.std.proofs.Common.{◌≡◌, ◌≤◌, true}
use Rattle.lay_place.specs.Wishes.{meets}
use Rattle.lay_place.proofs.next.widest.Given as goal

abbrev pub invariant-loop-i : goal.invariant-loop-i
invariant-loop-i l = (l.best ≤ l.done) × (meets l.wish l.best ≡ true)

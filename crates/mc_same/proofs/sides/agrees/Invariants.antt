use Rattle.std.proofs.Common.{◌≢◌, ◌<◌, ℕ, get_or}
use Rattle.mc_same.specs.Agreement.{AgreesFrom}
use Rattle.mc_same.proofs.sides.agrees.Given as goal

abbrev pub invariant-loop-half : goal.invariant-loop-half
invariant-loop-half l = (j : ℕ) → j < l.half-index → (get_or l.half-items j (record { bond = record { 0 = 0 }; to = record { 0 = 0 }; twin = 0 })).to.0 ≢ l.pair.bond.second.0
    → AgreesFrom l.map l.output.bonds l.pair.bond l.pair.sides l.pair.counterpart l.pair.theirs (get_or l.half-items j (record { bond = record { 0 = 0 }; to = record { 0 = 0 }; twin = 0 })).to.0

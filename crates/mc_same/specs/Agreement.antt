-- When the sides of two double bonds agree for neighbours of their ends.
use Rattle.std.specs.Prelude.{◌≡◌, ◌≢◌, ℕ, true, List}
use Rattle.mc_base.specs.declared.ids.AtomId.{AtomId}
use Rattle.mc_mol.specs.declared.parts.Bond.{Bond}
use Rattle.mc_mol.specs.declared.parts.Sides.{Sides}
use Rattle.mc_mol.specs.Molecule.{are_joined}
use Rattle.mc_mol.specs.Same.{entry, stand_together, together_at}

-- for this neighbour of the first end and this one of the second
abbrev pub AgreesAt : List AtomId → Bond → Sides → Bond → Sides → ℕ → ℕ → Type 0
AgreesAt f bond s counterpart t c d = stand_together s c d ≡ together_at counterpart t (entry f bond.first.0) (entry f c) (entry f d)

-- for this neighbour of the first end and each of the second
abbrev pub AgreesFrom : List AtomId → List Bond → Bond → Sides → Bond → Sides → ℕ → Type 0
AgreesFrom f bonds bond s counterpart t c = (d : ℕ) → are_joined bonds bond.second.0 d ≡ true → d ≢ bond.first.0 → AgreesAt f bond s counterpart t c d

-- for each of the first and each of the second
abbrev pub Agrees : List AtomId → List Bond → Bond → Sides → Bond → Sides → Type 0
Agrees f bonds bond s counterpart t = (c : ℕ) → are_joined bonds bond.first.0 c ≡ true → c ≢ bond.second.0 → AgreesFrom f bonds bond s counterpart t c

-- The bonds of a table that is made of a molecule (for the tests).
use Rattle.std.specs.Prelude.{◌≡◌, ℕ, ◌<◌, ◌≤◌, ◌⊎◌, List, length, get_or}
use Rattle.ct_sd.specs.declared.table.TableBond.{TableBond}
use Rattle.mc_mol.specs.declared.parts.Bond.{Bond}

-- a row of a bond, whichever of its ends comes first
pub record IsRowOf (bond : Bond) (row : TableBond) : Type 0 where
  pub ends : ((row.first ≡ bond.first.0) × (row.second ≡ bond.second.0)) ⊎ ((row.first ≡ bond.second.0) × (row.second ≡ bond.first.0))
  pub order_low : 1 ≤ row.order
  pub order_high : row.order ≤ 3

-- rows of the first n bonds, in their order
pub record AreRowsOf (bonds : List Bond) (n : ℕ) (rows : List TableBond) : Type 0 where
  pub count : length rows ≡ n
  pub each : (k : ℕ) (bond : Bond) (row : TableBond) → k < n → IsRowOf (get_or bonds k bond) (get_or rows k row)

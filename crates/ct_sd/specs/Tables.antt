-- Which tables a reader gives (CTfile formats, connection table; how many atoms and bonds a table may have is this
-- project's own).
use Rattle.std.specs.Prelude.{◌≡◌, ◌≢◌, ℕ, ◌<◌, ◌≤◌, Bool, false, length, All, AllPairs}
use Rattle.ct_sd.specs.declared.table.Table.{Table}
use Rattle.ct_sd.specs.declared.table.TableBond.{TableBond}
use Rattle.ct_sd.specs.Bonds.{is_pair}

abbrev pub most_atoms : ℕ
most_atoms = 999

abbrev pub most_bonds : ℕ
most_bonds = 999

-- a bond is between two different atoms that are there, and is single, double or triple
pub record IsTableBond (atoms : ℕ) (bond : TableBond) : Type 0 where
  pub first : bond.first < atoms
  pub second : bond.second < atoms
  pub different : bond.first ≢ bond.second
  pub order_low : 1 ≤ bond.order
  pub order_high : bond.order ≤ 3

-- two bonds are between the same two atoms
abbrev pub is_parallel : TableBond → TableBond → Bool
is_parallel bond other = is_pair other.first other.second (bond.first, bond.second)

pub record IsTable (table : Table) : Type 0 where
  pub few_atoms : length table.atoms ≤ most_atoms
  pub few_bonds : length table.bonds ≤ most_bonds
  pub bonds : All (IsTableBond (length table.atoms)) table.bonds
  pub once : AllPairs (λ (bond other : TableBond). is_parallel bond other ≡ false) table.bonds

-- How many bonds a block has, as far as one and more are concerned.
use Rattle.std.specs.Prelude.{◌≡◌, ℕ, ◌<◌, ◌≤◌, List, Some, slice_get}

-- each block number is less
abbrev pub AreBelow : List ℕ → ℕ → Type 0
AreBelow blocks count = (k block : ℕ) → slice_get blocks k ≡ Some block → block < count

abbrev pub AtLeast : List ℕ → ℕ → ℕ → Type 0
AtLeast counts block least = (n : ℕ) × (slice_get counts block ≡ Some n) × (least ≤ n)

-- among the first bonds, a block that has one counts at least one, and a block that has two at least two
pub record Counted (blocks counts : List ℕ) (done : ℕ) : Type 0 where
  pub one : (i block : ℕ) → i < done → slice_get blocks i ≡ Some block → AtLeast counts block 1
  pub two : (i j block : ℕ) → i < j → j < done → slice_get blocks i ≡ Some block → slice_get blocks j ≡ Some block → AtLeast counts block 2

-- What the next atom's place must give.
use Rattle.std.specs.Prelude.{◌≡◌, ℕ, ◌<◌, ◌≤◌, Bool, true, not, List, Option}
use Rattle.mc_mol.specs.Molecule.{Molecule}
use Rattle.mc_rings.specs.Rings.{RingList}
use Rattle.lay_place.specs.declared.wish.Wish.{Wish}
use Rattle.lay_place.specs.declared.wish.Wish.TheVariants.{Anywhere, Beside, Parting}
use Rattle.lay_place.specs.Rows.{is_inside, same, shift, beside, parting}
use Rattle.lay_place.specs.Asks.{Suits}
use Rattle.lay_place.specs.Wanted.{FreeDouble, Wanted}
use Rattle.lay_place.specs.Walk.{IsBefore}
use Rattle.lay_place.specs.Curve.{place_of}

-- whether an atom that is put in at place k stands as wished
abbrev pub meets : Wish → ℕ → Bool
meets Anywhere k = true
meets (Beside near far inside) k = same (is_inside (shift k near) k (shift k far)) inside
meets (Parting end one other) k = not (same (is_inside (shift k end) (shift k one) k) (is_inside (shift k end) (shift k other) k))

-- a place that always meets it, in a row of so many atoms
abbrev pub first_place : Wish → ℕ → ℕ
first_place Anywhere count = count
first_place (Beside near far inside) count = beside near far inside
first_place (Parting end one other) count = parting end one other

-- its places are those of a row that may be drawn
abbrev pub IsLow : Wish → Type 0
IsLow Anywhere = Unit
IsLow (Beside near far inside) = (near < 4999) × (far < 4999)
IsLow (Parting end one other) = (end < 4999) × ((one < 4999) × (other < 4999))

-- it can be met in a row of so many atoms
pub record IsOpen (wish : Wish) (count : ℕ) : Type 0 where
  pub low : IsLow wish
  pub within : first_place wish count ≤ count
  pub met : meets wish (first_place wish count) ≡ true

-- it can be met, and each place that meets it suits the atom v
pub record IsWish (m : Molecule) (rings : RingList) (done : ℕ) (places : List (Option ℕ)) (v : ℕ) (wish : Wish) : Type 0 where
  pub may_be_met : IsOpen wish done
  pub suits : (k : ℕ) → meets wish k ≡ true → Suits (FreeDouble m rings.sizes) (Wanted m rings.sizes) (IsBefore rings.order done) (place_of places) v k

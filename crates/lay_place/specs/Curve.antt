-- Atoms of a molecule in a row on a parabola, while they are put in.
use Rattle.std.specs.Prelude.{◌≡◌, ℕ, ◌-◌, ◌*◌, ◌<◌, ◌≤◌, Bool, true, false, List, Option, Some, None, length, map, slice_get, pos}
use Rattle.mc_mol.specs.declared.drawing.Point.{Point}
use Rattle.mc_mol.specs.Molecule.{Molecule}
use Rattle.mc_rings.specs.Rings.{RingList}
use Rattle.mc_mol.specs.Numbered.{Mark}
use Rattle.lay_place.specs.Rows.{shift}
use Rattle.lay_place.specs.Wanted.{FreeDouble, Wanted}
use Rattle.lay_place.specs.Asks.{Stands}
use Rattle.lay_place.specs.Walk.{IsBefore}

abbrev pub place_or : Option (Option ℕ) → ℕ
place_or None = 0
place_or (Some None) = 0
place_or (Some (Some place)) = place

-- the place of an atom in the row
abbrev pub place_of : List (Option ℕ) → ℕ → ℕ
place_of places a = place_or (slice_get places a)

abbrev pub has_place : Option (Option ℕ) → Bool
has_place None = false
has_place (Some None) = false
has_place (Some (Some place)) = true

-- room for one more at place k
abbrev pub moved : ℕ → Option ℕ → Option ℕ
moved k None = None
moved k (Some place) = Some (shift k place)

-- all places are those of a row that may be drawn
abbrev pub AreLow : List (Option ℕ) → Type 0
AreLow places = (a place : ℕ) → Mark places a place → place < 4999

-- the first `done` atoms of the order have places from 0 on, all different, and stand as asked
pub record IsRow (m : Molecule) (rings : RingList) (done : ℕ) (places : List (Option ℕ)) : Type 0 where
  pub count : length places ≡ length m.atoms
  pub placed : (a place : ℕ) → Mark places a place → IsBefore rings.order done a × (place < done)
  pub all : (a : ℕ) → IsBefore rings.order done a → (place : ℕ) × (Mark places a place)
  pub stands : Stands (FreeDouble m rings.sizes) (Wanted m rings.sizes) (IsBefore rings.order done) (place_of places)
  pub least : 0 < done → (a : ℕ) × (Mark places a 0)

-- ---- in the plane

abbrev pub place_in : Option ℕ → ℕ
place_in None = 0
place_in (Some place) = place

-- the place i of the row, both coordinates stretched
abbrev pub on_parabola : ℕ → ℕ → ℕ → Point
on_parabola wide high i = record { x = pos (wide * i); y = pos (high * (i * i)) }

-- so many places stay within the columns
pub record IsStretch (count wide high : ℕ) : Type 0 where
  pub wide_some : 0 < wide
  pub high_some : 0 < high
  pub fits_wide : wide * (count - 1) ≤ 999999999
  pub fits_high : high * ((count - 1) * (count - 1)) ≤ 999999999

-- each place is below the number of atoms
abbrev pub AreBelow : List (Option ℕ) → Type 0
AreBelow places = (a place : ℕ) → Mark places a place → place < length places

-- the atoms stand on a parabola, at their places
pub record IsOnCurve (places : List (Option ℕ)) (drawing : List Point) : Type 0 where
  pub wide : ℕ
  pub high : ℕ
  pub stretch : IsStretch (length places) wide high
  pub points : drawing ≡ map (λ (slot : Option ℕ). on_parabola wide high (place_in slot)) places

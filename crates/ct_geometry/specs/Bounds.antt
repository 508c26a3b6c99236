-- Within which places and rays stay (this project's own limits of coordinates).
use Rattle.std.specs.Prelude.{◌≤◌, ◌≤ℤ◌, List, All, ℤ, pos, negsuc}
use Rattle.std.specs.Int.RustNames.{unsigned_abs}
use Rattle.mc_mol.specs.declared.drawing.Point.{Point}
use Rattle.ct_geometry.specs.Turns.{Vector}

-- from -99,999,999 to 999,999,999 ten-thousandths
pub record IsCoordinate (z : ℤ) : Type 0 where
  pub low : negsuc 99999998 ≤ℤ z
  pub high : z ≤ℤ pos 999999999

pub record IsPoint (p : Vector) : Type 0 where
  pub x : IsCoordinate p.0
  pub y : IsCoordinate p.1

pub record IsPlace (p : Point) : Type 0 where
  pub x : IsCoordinate p.x
  pub y : IsCoordinate p.y

abbrev pub ArePlaces : List Point → Type 0
ArePlaces drawing = All IsPlace drawing

-- both coordinates of the ray from one such place to another
pub record IsShort (p : Vector) : Type 0 where
  pub x : unsigned_abs p.0 ≤ 1099999998
  pub y : unsigned_abs p.1 ≤ 1099999998

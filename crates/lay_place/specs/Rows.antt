-- Atoms in a row (this project's own): the place in the row is x, and the points bend to one side.
use Rattle.std.specs.Prelude.{◌≡◌, ◌≢◌, ℕ, ◌+◌, ◌*◌, ◌<◌, ◌&&◌, ◌||◌, Bool, true, false, not, nat_lt, if◌then◌else◌, min, max, pos}
use Rattle.ct_geometry.specs.Turns.{Positive, Vector, side_of}

-- of three points in the order of the row the third stands to the left of the ray from the first to the second
pub record Bends (c : ℕ → Vector) : Type 0 where
  pub turns : (i j k : ℕ) → i < j → j < k → side_of (c i) (c j) (c k) ≡ Positive
  pub apart : (i j : ℕ) → i ≢ j → (c i).0 ≢ (c j).0

-- the parabola: places and their squares, stretched
abbrev pub parabola : ℕ → ℕ → ℕ → Vector
parabola wide high i = (pos (wide * i), pos (high * (i * i)))

-- c stands between a and b
abbrev pub is_inside : ℕ → ℕ → ℕ → Bool
is_inside a c b = (nat_lt a c && nat_lt c b) || (nat_lt b c && nat_lt c a)

abbrev pub same : Bool → Bool → Bool
same true s = s
same false s = not s

-- where an atom at place i stands once there is room for one more at place k: from k on they move up
abbrev pub shift : ℕ → ℕ → ℕ
shift k i = if nat_lt i k then i else i + 1

-- the place directly at f, between f and p or not
abbrev pub beside : ℕ → ℕ → Bool → ℕ
beside f p inside = if same (nat_lt f p) inside then f + 1 else f

-- the place from which f sees exactly one of two atoms on the way
abbrev pub parting : ℕ → ℕ → ℕ → ℕ
parting f a b = if nat_lt (max a b) f then max a b else if nat_lt f (min a b) then min a b + 1 else max a b + 1

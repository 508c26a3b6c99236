-- How far up bonds lead from an atom of a depth-first forest and from the atoms below it.
use Rattle.std.specs.Prelude.{◌≡◌, ℕ, ◌+◌, ◌<◌, ◌≤◌, ◌⊎◌, true, List, Option, Some, length, slice_get}
use Rattle.mc_base.specs.declared.ids.AtomId.{AtomId}
use Rattle.mc_mol.specs.declared.parts.Bond.{Bond}
use Rattle.mc_mol.specs.declared.parts.HalfEdge.{HalfEdge}
use Rattle.mc_mol.specs.Molecule.{are_joined}
use Rattle.mc_mol.specs.Numbered.{Mark}
use Rattle.mc_mol.specs.Forests.{Parent, IsAbove}

-- a bond, other than that of x with its parent, leads from x or a descendant of it to the atom at this place
pub record LowFrom (bonds : List Bond) (places : List (Option ℕ)) (parents : List (Option AtomId)) (x low : ℕ) : Type 0 where
  pub from : ℕ
  pub to : ℕ
  pub below : IsAbove parents x from
  pub joined : are_joined bonds from to ≡ true
  pub at : Mark places to low
  pub other : from ≡ x → Parent parents x to → ⊥

-- the least of the place of x and of those to which such bonds lead
pub record LowIs (bonds : List Bond) (places : List (Option ℕ)) (parents : List (Option AtomId)) (x low : ℕ) : Type 0 where
  pub own : (j : ℕ) → Mark places x j → low ≤ j
  pub least : (w a j : ℕ) → IsAbove parents x w → are_joined bonds w a ≡ true → (w ≡ x → Parent parents x a → ⊥) → Mark places a j → low ≤ j
  pub reached : Mark places x low ⊎ LowFrom bonds places parents x low

abbrev pub LowAt : List Bond → List (Option ℕ) → List (Option AtomId) → List ℕ → ℕ → Type 0
LowAt bonds places parents lows x = (low : ℕ) × (slice_get lows x ≡ Some low) × (LowIs bonds places parents x low)

-- the last `done` atoms of the order have theirs
pub record AreLows (bonds : List Bond) (atoms : ℕ) (places : List (Option ℕ)) (parents : List (Option AtomId)) (lows : List ℕ) (done : ℕ) : Type 0 where
  pub count : length lows ≡ atoms
  pub each : (x j : ℕ) → Mark places x j → atoms ≤ j + done → LowAt bonds places parents lows x

-- no greater than the place of a neighbour a of x that isn't its parent, nor, if a is a child, than what leads from below it
pub record AtMost (bonds : List Bond) (places : List (Option ℕ)) (parents : List (Option AtomId)) (x a low : ℕ) : Type 0 where
  pub below : (w b j : ℕ) → Parent parents a x → IsAbove parents a w → are_joined bonds w b ≡ true → (w ≡ a → Parent parents a b → ⊥) → Mark places b j → low ≤ j
  pub here : (j : ℕ) → (Parent parents x a → ⊥) → Mark places a j → low ≤ j

-- what a neighbour a of x adds to the least place of x: a parent adds nothing
pub record HalfLow (bonds : List Bond) (places : List (Option ℕ)) (parents : List (Option AtomId)) (x a low : ℕ) : Type 0 where
  pub at_most : AtMost bonds places parents x a low
  pub reached : Mark places x low ⊎ ((Mark places a low × (Parent parents x a → ⊥)) ⊎ (Parent parents a x × LowFrom bonds places parents a low))

-- the least place of x, as far as its first half-edges tell
pub record LowSoFar (bonds : List Bond) (places : List (Option ℕ)) (parents : List (Option AtomId)) (x : ℕ) (halves : List HalfEdge) (low seen : ℕ) : Type 0 where
  pub own : (j : ℕ) → Mark places x j → low ≤ j
  pub reached : Mark places x low ⊎ LowFrom bonds places parents x low
  pub at_most : (k : ℕ) (half : HalfEdge) → k < seen → slice_get halves k ≡ Some half → AtMost bonds places parents x half.to.0 low

-- such a bond leads to an atom that was found before x
pub record LeadsPast (bonds : List Bond) (places : List (Option ℕ)) (parents : List (Option AtomId)) (x : ℕ) : Type 0 where
  pub low : ℕ
  pub place : ℕ
  pub from : LowFrom bonds places parents x low
  pub at : Mark places x place
  pub earlier : low < place

-- a bond leads from x or a descendant of it to an atom that was found before p
pub record Rises (bonds : List Bond) (places : List (Option ℕ)) (parents : List (Option AtomId)) (x p : ℕ) : Type 0 where
  pub low : ℕ
  pub above : ℕ
  pub from : LowFrom bonds places parents x low
  pub at : Mark places p above
  pub earlier : low < above

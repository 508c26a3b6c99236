-- The first difference of two molecules under a map of their atoms (this project's own): the points of sameness, in the
-- order in which they are looked at.
use Rattle.std.specs.Prelude.{◌≡◌, ℕ, ◌+◌, ◌-◌, ◌<◌, ◌≤◌, List, Option, Some, None, true, slice_get, length}
use Rattle.mc_base.specs.declared.ids.AtomId.{AtomId}
use Rattle.mc_base.specs.declared.verdict.Verdict.{Verdict}
use Rattle.mc_base.specs.declared.verdict.Verdict.TheVariants.{True, Length, Range, Repeat, Atom, Bonds, Bond, Centre, Sides}
use Rattle.mc_mol.specs.declared.parts.Bond.{Bond as BondParts}
use Rattle.mc_mol.specs.declared.parts.Sides.{Sides as SidesParts}
use Rattle.mc_mol.specs.declared.parts.Slot.{Slot}
use Rattle.mc_mol.specs.Molecule.{Molecule, joins}
use Rattle.mc_mol.specs.Same.{Same, SameCentre, SameSides, HasBond, entry}

-- the map and both molecules have one number of atoms
abbrev pub SameLength : Molecule → Molecule → List AtomId → Type 0
SameLength m n f = (length f ≡ length n.atoms) × (length n.atoms ≡ length m.atoms)

-- entry k is an atom
abbrev pub InRange : Molecule → List AtomId → ℕ → Type 0
InRange m f k = entry f k < length m.atoms

-- entry k stood nowhere before
abbrev pub IsNew : List AtomId → ℕ → Type 0
IsNew f k = (j : ℕ) → j < k → entry f j ≡ entry f k → ⊥

-- atom k of n is its atom of m
abbrev pub SameAtom : Molecule → Molecule → List AtomId → ℕ → Type 0
SameAtom m n f k = slice_get n.atoms k ≡ slice_get m.atoms (entry f k)

-- bond k of n has a bond of m of its order
abbrev pub SameBond : Molecule → Molecule → List AtomId → ℕ → Type 0
SameBond m n f k = (bond : BondParts) → slice_get n.bonds k ≡ Some bond → HasBond m.bonds (entry f bond.first.0) (entry f bond.second.0) bond.order

-- atom k is a centre where its atom is, and their lists say the same
abbrev pub CentreAgrees : Molecule → Molecule → List AtomId → ℕ → Type 0
CentreAgrees m n f k = (q p : Option (List Slot)) → slice_get n.centres k ≡ Some q → slice_get m.centres (entry f k) ≡ Some p → SameCentre f q p

-- bond k has sides where its bond has, and they agree
abbrev pub SidesAgree : Molecule → Molecule → List AtomId → ℕ → Type 0
SidesAgree m n f k = (l : ℕ) (bond counterpart : BondParts) (s t : Option SidesParts) → slice_get n.bonds k ≡ Some bond → slice_get m.bonds l ≡ Some counterpart
    → joins counterpart (entry f bond.first.0) (entry f bond.second.0) ≡ true → slice_get n.sides k ≡ Some s → slice_get m.sides l ≡ Some t → SameSides f n.bonds bond s counterpart t

-- at each number below a count
abbrev pub Holds : ℕ → (ℕ → Type 0) → Type 0
Holds count P = (k : ℕ) → k < count → P k

-- the least number, counted from 1, at which it fails
pub record FailsFirst (count : ℕ) (P : ℕ → Type 0) (number : ℕ) : Type 0 where
  pub from_one : 1 ≤ number
  pub within : number ≤ count
  pub fails : P (number - 1) → ⊥
  pub before : (k : ℕ) → k + 1 < number → P k

-- the first failure, and none where there is no failure
abbrev pub FirstFailure : ℕ → (ℕ → Type 0) → Option ℕ → Type 0
FirstFailure count P None = Holds count P
FirstFailure count P (Some number) = FailsFirst count P number

-- the points that stand before a difference
abbrev pub SameMap : Molecule → Molecule → List AtomId → Type 0
SameMap m n f = SameLength m n f × Holds (length f) (InRange m f) × Holds (length f) (IsNew f)

abbrev pub SameGraph : Molecule → Molecule → List AtomId → Type 0
SameGraph m n f = SameMap m n f × Holds (length f) (SameAtom m n f) × (length n.bonds ≡ length m.bonds) × Holds (length n.bonds) (SameBond m n f)

-- The molecules are the same, or this is the first difference: points are looked at in the order of the verdicts, and
-- those of one kind from the least number on.
abbrev pub IsVerdict : Molecule → Molecule → List AtomId → Verdict → Type 0
IsVerdict m n f True = Same m n f
IsVerdict m n f Length = SameLength m n f → ⊥
IsVerdict m n f (Range k) = SameLength m n f × FailsFirst (length f) (InRange m f) k
IsVerdict m n f (Repeat k) = SameLength m n f × Holds (length f) (InRange m f) × FailsFirst (length f) (IsNew f) k
IsVerdict m n f (Atom k) = SameMap m n f × FailsFirst (length f) (SameAtom m n f) k
IsVerdict m n f Bonds = SameMap m n f × Holds (length f) (SameAtom m n f) × (length n.bonds ≡ length m.bonds → ⊥)
IsVerdict m n f (Bond k) = SameMap m n f × Holds (length f) (SameAtom m n f) × (length n.bonds ≡ length m.bonds) × FailsFirst (length n.bonds) (SameBond m n f) k
IsVerdict m n f (Centre k) = SameGraph m n f × FailsFirst (length f) (CentreAgrees m n f) k
IsVerdict m n f (Sides k) = SameGraph m n f × Holds (length f) (CentreAgrees m n f) × FailsFirst (length n.bonds) (SidesAgree m n f) k

-- The first difference of a molecule from a SMILES text under a map of its atoms (this project's own): the points of sameness
-- with the text's molecule, where a candidate may be single or double, and what makes its double bonds a placement.
-- `skeleton` is the text's, n the molecule, and f its map.
use Rattle.std.specs.List.{list_any}
use Rattle.std.specs.Prelude.{◌≡◌, ℕ, ◌+◌, Bool, true, ◌&&◌, ◌==◌, List, [], ◌∷◌, Some, slice_get, length, map}
use Rattle.mc_base.specs.declared.ids.AtomId.{AtomId}
use Rattle.mc_base.specs.declared.verdict.Verdict.{Verdict}
use Rattle.mc_base.specs.declared.verdict.Verdict.TheVariants.{True, Length, Range, Repeat, Atom, Bonds, Bond, Centre, Sides}
use Rattle.mc_mol.specs.declared.parts.Bond.{Bond as BondParts}
use Rattle.mc_mol.specs.Molecule.{Molecule, joins, touches}
use Rattle.mc_mol.specs.Same.{Same, HasBond, entry}
use Rattle.smi_graph.specs.Candidates.{marked}
use Rattle.smi_graph.specs.Links.{bond_of}
use Rattle.smi_graph.specs.Skeletons.{TextGraph}
use Rattle.smi_mean.specs.Barriers.{needs_of}
use Rattle.smi_mean.specs.Lying.{lying_of}
use Rattle.smi_mean.specs.Meant.{IsUnder, molecule_under}
use Rattle.mc_same.specs.Differences.{SameLength, InRange, IsNew, SameAtom, CentreAgrees, SidesAgree, Holds, FailsFirst, SameMap}

-- n has a bond of the text as a double bond
abbrev pub is_double : List BondParts → List AtomId → BondParts → Bool
is_double written f b = list_any (λ (found : BondParts). found.order == 2 && joins b (entry f found.first.0) (entry f found.second.0)) written

-- of each bond of the text from number k on whether it is a candidate that n has as a double bond
abbrev pub doubles_from : List Bool → List BondParts → List AtomId → ℕ → List BondParts → List Bool
doubles_from candidates written f k [] = []
doubles_from candidates written f k (b ∷ bonds) = (marked candidates k && is_double written f b) ∷ doubles_from candidates written f (k + 1) bonds

abbrev pub doubles : TextGraph → Molecule → List AtomId → List Bool
doubles skeleton n f = doubles_from skeleton.candidates n.bonds f 0 (map bond_of skeleton.bonds)

-- In what follows m is the text's molecule in which these candidates are double; `needs` says of each atom of the text whether
-- it needs a double bond, and `lying` whether it lies on one of them where it does, and else on none.

-- some bond of n is at atom k
abbrev pub has_bond : Molecule → ℕ → Bool
has_bond n k = list_any (λ (b : BondParts). touches b k) n.bonds

-- atom k of n is its atom of m, and has a bond where that needs a double bond
abbrev pub AtomFits : Molecule → List Bool → Molecule → List AtomId → ℕ → Type 0
AtomFits m needs n f k = SameAtom m n f k × (marked needs (entry f k) ≡ true → has_bond n k ≡ true)

-- bond k of n has a bond of m of its order, and the atoms of its ends lie on as many double candidates as they need
abbrev pub BondFits : Molecule → List Bool → Molecule → List AtomId → ℕ → Type 0
BondFits m lying n f k = (bond : BondParts) → slice_get n.bonds k ≡ Some bond
    → HasBond m.bonds (entry f bond.first.0) (entry f bond.second.0) bond.order × (marked lying (entry f bond.first.0) ≡ true) × (marked lying (entry f bond.second.0) ≡ true)

-- the points before stereo
abbrev pub FitsGraph : Molecule → List Bool → List Bool → Molecule → List AtomId → Type 0
FitsGraph m needs lying n f = SameMap m n f × Holds (length f) (AtomFits m needs n f) × (length n.bonds ≡ length m.bonds) × Holds (length n.bonds) (BondFits m lying n f)

-- There is no difference, or this is the first: points are looked at in the order of the verdicts, and those of one kind from
-- the least number on.
abbrev pub IsFitVerdict : Molecule → List Bool → List Bool → Molecule → List AtomId → Verdict → Type 0
IsFitVerdict m needs lying n f True = FitsGraph m needs lying n f × Holds (length f) (CentreAgrees m n f) × Holds (length n.bonds) (SidesAgree m n f)
IsFitVerdict m needs lying n f Length = SameLength m n f → ⊥
IsFitVerdict m needs lying n f (Range k) = SameLength m n f × FailsFirst (length f) (InRange m f) k
IsFitVerdict m needs lying n f (Repeat k) = SameLength m n f × Holds (length f) (InRange m f) × FailsFirst (length f) (IsNew f) k
IsFitVerdict m needs lying n f (Atom k) = SameMap m n f × FailsFirst (length f) (AtomFits m needs n f) k
IsFitVerdict m needs lying n f Bonds = SameMap m n f × Holds (length f) (AtomFits m needs n f) × (length n.bonds ≡ length m.bonds → ⊥)
IsFitVerdict m needs lying n f (Bond k) = SameMap m n f × Holds (length f) (AtomFits m needs n f) × (length n.bonds ≡ length m.bonds) × FailsFirst (length n.bonds) (BondFits m lying n f) k
IsFitVerdict m needs lying n f (Centre k) = FitsGraph m needs lying n f × FailsFirst (length f) (CentreAgrees m n f) k
IsFitVerdict m needs lying n f (Sides k) = FitsGraph m needs lying n f × Holds (length f) (CentreAgrees m n f) × FailsFirst (length n.bonds) (SidesAgree m n f) k

-- The first difference of a molecule from a text: from the text's molecule in which a candidate is double exactly where its
-- bond of n is. So a candidate allows order 1 or 2, and any other bond its own.
abbrev pub IsStandsVerdict : TextGraph → Molecule → List AtomId → Verdict → Type 0
IsStandsVerdict skeleton n f v = IsFitVerdict (molecule_under skeleton (doubles skeleton n f))
    (needs_of skeleton.atoms skeleton.bonds) (lying_of skeleton.atoms skeleton.bonds (doubles skeleton n f)) n f v

-- some molecule of the text is the same as n under the map
pub record IsSomeMolecule (skeleton : TextGraph) (n : Molecule) (f : List AtomId) : Type 0 where
  pub molecule : Molecule
  pub under : IsUnder skeleton molecule
  pub same : Same molecule n f

-- Which atoms may be tetrahedral centres (this project's own, after OpenSMILES 1.0, section 3.9).
use Rattle.std.specs.Prelude.{ℕ, Bool, true, false, ◌&&◌, ◌||◌, ◌==◌, List, Option, Some, None, if◌then◌else◌, length, nat_le, count_by, slice_get}
use Rattle.mc_mol.specs.declared.parts.Atom.{Atom}
use Rattle.mc_mol.specs.declared.parts.Bond.{Bond}
use Rattle.mc_mol.specs.Molecule.{Molecule}
use Rattle.mc_mol.specs.HalfEdges.{half_edges}

abbrev pub order_is : Option Bond → ℕ → Bool
order_is None order = false
order_is (Some bond) order = bond.order == order

-- the bond of this number has this order
abbrev pub has_order : List Bond → ℕ → ℕ → Bool
has_order bonds k order = order_is (slice_get bonds k) order

abbrev pub size_is_none : Option (Option ℕ) → Bool
size_is_none None = false
size_is_none (Some None) = true
size_is_none (Some (Some size)) = false

-- the bond of this number lies in no ring
abbrev pub lies_in_no_ring : List (Option ℕ) → ℕ → Bool
lies_in_no_ring sizes k = size_is_none (slice_get sizes k)

-- the bonds of an atom that are single, and those that are double and lie in no ring
abbrev pub singles_at : Molecule → ℕ → ℕ
singles_at m a = count_by (λ half. has_order m.bonds half.bond.0 1) (half_edges m a)

abbrev pub free_doubles_at : Molecule → List (Option ℕ) → ℕ → ℕ
free_doubles_at m sizes a = count_by (λ half. has_order m.bonds half.bond.0 2 && lies_in_no_ring sizes half.bond.0) (half_edges m a)

abbrev pub hydrogens_of : Option Atom → ℕ
hydrogens_of None = 0
hydrogens_of (Some atom) = atom.hydrogens

-- Four neighbours, no hydrogen and at least two single bonds; or three neighbours, at most one hydrogen, and single bonds
-- but for at most one double bond that lies in no ring.
abbrev pub centre_test : ℕ → ℕ → ℕ → ℕ → Bool
centre_test neighbours hydrogens singles free_doubles =
    if neighbours == 4 then hydrogens == 0 && nat_le 2 singles else
    if neighbours == 3 then nat_le hydrogens 1 && (singles == 3 || (singles == 2 && free_doubles == 1)) else false

-- the atom may be a centre
abbrev pub may_be_centre : Molecule → List (Option ℕ) → ℕ → Bool
may_be_centre m sizes a = centre_test (length (half_edges m a)) (hydrogens_of (slice_get m.atoms a)) (singles_at m a) (free_doubles_at m sizes a)

-- What is wrong with the atoms of a table (this project's own limits; BIOVIA CTfile Formats, valence field).
use Rattle.std.specs.Prelude.{◌≡◌, ℕ, ◌+◌, ◌≤◌, ◌&&◌, Bool, false, not, nat_lt, nat_abs, int_le, List, [], ◌∷◌, ◌++◌, Option, Some, None, ℤ, pos, negsuc, length, All, AllPairs}
use Rattle.ct_sd.specs.declared.fault.Fault.{Fault}
use Rattle.ct_sd.specs.declared.table.Table.{Table}
use Rattle.ct_sd.specs.declared.table.TableAtom.{TableAtom}
use Rattle.ct_sd.specs.Faults.{faults_at, shown_if}
use Rattle.mc_base.specs.declared.kind.Kind.{Kind}
use Rattle.mc_base.specs.declared.kind.Kind.TheVariants.{LimitRings, LimitIsotope, LimitClass, LimitCharge, LimitCoordinate, LimitHydrogens, ValenceShort, LimitValence, HydrogenOnHydrogen}
use Rattle.mc_mol.specs.declared.limits.TheConstants.{ATOM_LIMIT, BOND_LIMIT, RING_LIMIT, HYDROGEN_LIMIT, ISOTOPE_LIMIT, CLASS_LIMIT, CHARGE_LIMIT}
use Rattle.mc_mol.specs.declared.parts.Bond.{Bond}
use Rattle.mc_mol.specs.Limits.{is_over, is_hydrogen_with_more}
use Rattle.mc_mol.specs.Molecule.{bond_sum, joins}
use Rattle.mc_mol.specs.Parts.{independent_rings}
use Rattle.mc_mol.specs.WellFormed.{IsBond}
use Rattle.ct_geometry.specs.Tables.{bonds_of, hydrogens_of, atom_of}

-- from -99,999,999 to 999,999,999 ten-thousandths
abbrev pub is_coordinate : ℤ → Bool
is_coordinate z = int_le (negsuc 99999998) z && int_le z (pos 999999999)

-- what the values of an atom show that stand on its own line
abbrev pub value_shows : TableAtom → List Kind
value_shows atom =
    shown_if (nat_lt ISOTOPE_LIMIT atom.isotope) LimitIsotope
    ++ (shown_if (nat_lt CLASS_LIMIT atom.class) LimitClass
    ++ (shown_if (nat_lt CHARGE_LIMIT (nat_abs atom.charge)) LimitCharge
    ++ shown_if (not (is_coordinate atom.x && is_coordinate atom.y)) LimitCoordinate))

-- a valence field is below the bond sum
abbrev pub falls_short : Option ℕ → ℕ → Bool
falls_short None sum = false
falls_short (Some valence) sum = nat_lt valence sum

-- what its hydrogens and this bond sum show
abbrev pub valence_shows : TableAtom → ℕ → List Kind
valence_shows atom sum =
    shown_if (nat_lt HYDROGEN_LIMIT (hydrogens_of atom sum)) LimitHydrogens
    ++ (shown_if (falls_short atom.valence sum) ValenceShort
    ++ (shown_if (is_over (Some (atom_of atom sum)) sum) LimitValence
    ++ shown_if (is_hydrogen_with_more (Some (atom_of atom sum))) HydrogenOnHydrogen))

abbrev pub atom_shows : TableAtom → ℕ → List Kind
atom_shows atom sum = value_shows atom ++ valence_shows atom sum

-- the atoms from number k on; their places count from 1
abbrev pub atom_faults : List Bond → ℕ → List TableAtom → List Fault
atom_faults bonds k [] = []
atom_faults bonds k (atom ∷ atoms) = faults_at (k + 1) (atom_shows atom (bond_sum bonds k)) ++ atom_faults bonds (k + 1) atoms

-- the place of too many independent rings is their number
abbrev pub ring_faults : ℕ → List Fault
ring_faults rings = faults_at rings (shown_if (nat_lt RING_LIMIT rings) LimitRings)

abbrev pub rings_of : Table → ℕ
rings_of table = independent_rings (bonds_of table.bonds) (length table.atoms)

abbrev pub limit_faults : Table → List Fault
limit_faults table = ring_faults (rings_of table) ++ atom_faults (bonds_of table.bonds) 0 table.atoms

-- none of these stands by the first three of an atom's values
pub record AreValuesWithin (atom : TableAtom) : Type 0 where
  pub isotope : atom.isotope ≤ ISOTOPE_LIMIT
  pub class : atom.class ≤ CLASS_LIMIT
  pub charge : nat_abs atom.charge ≤ CHARGE_LIMIT

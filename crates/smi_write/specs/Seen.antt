-- What is seen of the neighbours of an atom, by its half-edges one after another.
use Rattle.std.specs.Prelude.{◌-◌, slice_set, ◌≡◌, true, None, Some, slice_get, ℕ, Bool, false, not, ◌&&◌, ◌||◌, ◌==◌, nat_lt, List, [], ◌∷◌, Option, get_or, if◌then◌else◌}
use Rattle.mc_mol.specs.declared.parts.HalfEdge.{HalfEdge}
use Rattle.mc_mol.specs.declared.parts.Bond.{Bond}
use Rattle.mc_mol.specs.Molecule.{Molecule}
use Rattle.smi_mean.specs.Order.{graph_of, Step, behind, unwritten_neighbour, order_between, some_if}
use Rattle.smi_write.specs.declared.order.Seen.{Seen}

abbrev pub nothing : Seen
nothing = record { some = false; more = false; back = false; least = 0; bond = record { 0 = 0 } }

-- Whether a ring bond leads from the atom of a rank, which has this parent, back to the atom at another one: that is
-- written before it and isn't its parent. All are ranks from 1.
abbrev pub leads_back : ℕ → ℕ → ℕ → Bool
leads_back rank parent at = nat_lt 0 at && (nat_lt at rank && not (at == parent))

-- one half-edge more, which leads to an unwritten atom or not, and back by a ring bond or not
abbrev pub see : Seen → HalfEdge → Bool → Bool → Seen
see found half free back = record {
  some = found.some || free;
  more = found.more || (found.some && free);
  back = found.back || back;
  least = if free && (not found.some || nat_lt half.to.0 found.least) then half.to.0 else found.least;
  bond = if free && (not found.some || nat_lt half.to.0 found.least) then half.bond else found.bond;
}

-- these half-edges more of the atom of a rank, by the ranks of the atoms
abbrev pub see_all : ℕ → ℕ → List ℕ → Seen → List HalfEdge → Seen
see_all rank parent ranks found [] = found
see_all rank parent ranks found (half ∷ halves) =
    see_all rank parent ranks (see found half (get_or ranks half.to.0 0 == 0) (leads_back rank parent (get_or ranks half.to.0 0))) halves

-- An atom to which a ring bond leads back from the atom of a rank is marked, by its rank from 0.
abbrev pub mark_one : ℕ → ℕ → List ℕ → List Bool → HalfEdge → List Bool
mark_one rank parent ranks opens half =
    if leads_back rank parent (get_or ranks half.to.0 0) then slice_set opens (get_or ranks half.to.0 0 - 1) true else opens

abbrev pub mark_all : ℕ → ℕ → List ℕ → List Bool → List HalfEdge → List Bool
mark_all rank parent ranks opens [] = opens
mark_all rank parent ranks opens (half ∷ halves) = mark_all rank parent ranks (mark_one rank parent ranks opens half) halves

-- the least unwritten neighbour
abbrev pub least_seen : Seen → Option ℕ
least_seen found = some_if found.some found.least

-- the bond of this number, which joins two atoms
pub record IsBondTo (m : Molecule) (u v n : ℕ) : Type 0 where
  pub bond : Bond
  pub is_bond : slice_get m.bonds n ≡ Some bond
  pub order : bond.order ≡ order_between m.bonds u v

-- What is found of atom u: its least unwritten neighbour with the bond to it, and whether there is another.
pub record Sees (m : Molecule) (before : List Step) (u : ℕ) (found : Seen) : Type 0 where
  pub none : found.some ≡ false → unwritten_neighbour (graph_of m) before u ≡ None
  pub least : found.some ≡ true → unwritten_neighbour (graph_of m) before u ≡ Some found.least
  pub only : found.some ≡ true → found.more ≡ false → unwritten_neighbour (graph_of m) (behind u found.least ∷ before) u ≡ None
  pub bond : found.some ≡ true → IsBondTo m u found.least found.bond.0

-- Which double bonds may have sides (this project's own, after OpenSMILES 1.0, section 3.9.3).
use Rattle.std.specs.Prelude.{ℕ, Bool, true, false, not, ◌&&◌, ◌||◌, ◌==◌, List, Option, Some, None, length, nat_le, nat_lt, count_by, slice_get}
use Rattle.std.specs.List.{list_all, list_any}
use Rattle.std.specs.Ordering.{int_eq}
use Rattle.mc_elements.specs.Elements.{atomic_number}
use Rattle.mc_mol.specs.declared.parts.Atom.{Atom}
use Rattle.mc_mol.specs.declared.parts.Bond.{Bond}
use Rattle.mc_mol.specs.declared.parts.HalfEdge.{HalfEdge}
use Rattle.mc_mol.specs.Molecule.{Molecule}
use Rattle.mc_mol.specs.HalfEdges.{half_edges}
use Rattle.mc_rings.specs.Centres.{has_order, hydrogens_of}

-- equal atoms: element, isotope, charge, hydrogens and class
abbrev pub same_atom : Atom → Atom → Bool
same_atom x y = (atomic_number x.element == atomic_number y.element) && (x.isotope == y.isotope) && int_eq x.charge y.charge
    && (x.hydrogens == y.hydrogens) && (x.class == y.class)

abbrev pub same_where_known : Option Atom → Option Atom → Bool
same_where_known (Some x) (Some y) = same_atom x y
same_where_known None y = false
same_where_known (Some x) None = false

-- an atom with one bond
abbrev pub is_leaf : Molecule → ℕ → Bool
is_leaf m a = nat_lt a (length m.atoms) && (length (half_edges m a) == 1)

-- two leaves with equal atoms
abbrev pub are_equal_leaves : Molecule → ℕ → ℕ → Bool
are_equal_leaves m u v = is_leaf m u && is_leaf m v && same_where_known (slice_get m.atoms u) (slice_get m.atoms v)

-- half-edges of two other bonds than number k, which lead to equal leaves
abbrev pub leads_to_equal_leaves : Molecule → ℕ → HalfEdge → HalfEdge → Bool
leads_to_equal_leaves m k g h = not (g.bond.0 == k) && not (h.bond.0 == k) && not (g.bond.0 == h.bond.0) && are_equal_leaves m g.to.0 h.to.0

-- how many bonds other than number k
abbrev pub others_count : List HalfEdge → ℕ → ℕ
others_count halves k = count_by (λ half. not (half.bond.0 == k)) halves

-- each bond other than number k is single
abbrev pub others_are_single : List Bond → List HalfEdge → ℕ → Bool
others_are_single bonds halves k = list_all (λ half. half.bond.0 == k || has_order bonds half.bond.0 1) halves

-- two of the bonds other than number k lead to equal leaves
abbrev pub have_equal_leaves : Molecule → List HalfEdge → ℕ → Bool
have_equal_leaves m halves k = list_any (λ g. list_any (λ h. leads_to_equal_leaves m k g h) halves) halves

-- An end of a double bond: one or two other neighbours, all by single bonds, at most one hydrogen, and no two other
-- neighbours that are leaves with equal atoms.
abbrev pub is_side_end : Molecule → ℕ → ℕ → Bool
is_side_end m k a = nat_le 1 (others_count (half_edges m a) k) && nat_le (others_count (half_edges m a) k) 2 && nat_le (hydrogens_of (slice_get m.atoms a)) 1
    && others_are_single m.bonds (half_edges m a) k && not (have_equal_leaves m (half_edges m a) k)

-- no ring, or one of at least eight bonds
abbrev pub size_allows_sides : Option (Option ℕ) → Bool
size_allows_sides None = false
size_allows_sides (Some None) = true
size_allows_sides (Some (Some size)) = nat_le 8 size

abbrev pub sides_at : Molecule → List (Option ℕ) → ℕ → Option Bond → Bool
sides_at m sizes k None = false
sides_at m sizes k (Some bond) = (bond.order == 2) && size_allows_sides (slice_get sizes k) && is_side_end m k bond.first.0 && is_side_end m k bond.second.0

-- the bond of this number may have sides
abbrev pub may_have_sides : Molecule → List (Option ℕ) → ℕ → Bool
may_have_sides m sizes k = sides_at m sizes k (slice_get m.bonds k)

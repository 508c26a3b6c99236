-- The bond between two atoms, as a reader of half-edges finds it.
use Rattle.std.proofs.Common.{arith, ◌≡◌, ◌≢◌, ◌∙◌, ◌<◌, ◌≤◌, ◌==◌, ◌||◌, ◌↔◌, ℕ, suc, Bool, true, false, List, [], ◌∷◌, length, drop, get_or, slice_get, Option, Some, None, Contains, IsTrue, refl, ap, sym, subst}
use Rattle.std.proofs.lemmas.Bool.{eqb-true, eq-eqb}
use Rattle.std.proofs.lemmas.Option.{slice_get-get_or, slice_get_within, get_or_from_slice_get, same_Some}
use Rattle.std.specs.List.{list_any}
use Rattle.std.proofs.lemmas.List.{drop_all}
use Rattle.mc_base.specs.declared.ids.AtomId.{AtomId}
use Rattle.mc_base.specs.declared.ids.BondId.{BondId}
use Rattle.mc_mol.specs.declared.parts.Bond.{Bond}
use Rattle.mc_mol.specs.declared.parts.HalfEdge.{HalfEdge}
use Rattle.mc_mol.specs.Molecule.{Molecule, joins, are_joined}
use Rattle.mc_mol.specs.WellFormed.{IsMolecule}
use Rattle.mc_mol.specs.HalfEdges.{half_edges, AllHaveTwins, HasTwin}
use Rattle.mc_mol.specs.Same.{HasBond, entry}
use Rattle.mc_mol.proofs.Halves.{are_joined-half_edges}
use Rattle.mc_same.specs.Between.{JoinedBy, FindsBond}
use Rattle.mc_same.specs.Differences.{SameBond}
use Rattle.mc_mol.proofs.Apart.{one_bond, joins_turned, are_joined_turned}
use Rattle.mc_mol.proofs.Neighbours.{joined_at}

-- what stands past the end of a list of half-edges
abbrev pub blank : HalfEdge
blank = record { bond = record { 0 = 0 }; to = record { 0 = 0 }; twin = 0 }

twin_at : (m : Molecule) (u : AtomId) (halves : List HalfEdge) (i : ℕ) (d : HalfEdge) → halves ≡ half_edges m u.0 → AllHaveTwins m u → i < length halves → HasTwin m u i (get_or halves i d)
twin_at m u halves i d is twins less = twins i (get_or halves i d) (subst (λ hs. slice_get hs i ≡ Some (get_or halves i d)) is (slice_get-get_or halves i d less))

pub half_joins : (m : Molecule) (u : AtomId) (v : ℕ) (halves : List HalfEdge) (i : ℕ) (d : HalfEdge) → halves ≡ half_edges m u.0 → AllHaveTwins m u → i < length halves
    → (get_or halves i d).to.0 ≡ v → JoinedBy m u.0 v (get_or halves i d).bond.0
half_joins m u v halves i d is twins less to =
    let twin = twin_at m u halves i d is twins less in
    record { bond = twin.bond; is_bond = twin.is_bond; joined = subst (λ w. joins twin.bond u.0 w ≡ true) to twin.joined }

pub half_to : (m : Molecule) (u : AtomId) (halves : List HalfEdge) (i : ℕ) (d : HalfEdge) → halves ≡ half_edges m u.0 → AllHaveTwins m u → i < length halves
    → ((get_or halves i d).to.0 < length m.atoms) × (are_joined m.bonds u.0 (get_or halves i d).to.0 ≡ true)
half_to m u halves i d is twins less =
    let twin = twin_at m u halves i d is twins less in
    (twin.to, joined_at m.bonds (get_or halves i d).bond.0 twin.bond u.0 (get_or halves i d).to.0 twin.is_bond twin.joined)

pub none_joins : (m : Molecule) (u v : ℕ) (halves : List HalfEdge) (i : ℕ) → halves ≡ half_edges m u → u ≢ v → length halves ≤ i
    → list_any (λ (half : HalfEdge). half.to.0 == v) (drop i halves) ≡ list_any (λ (half : HalfEdge). half.to.0 == v) halves → are_joined m.bonds u v ≡ false
none_joins m u v halves i is ne past same =
    sym (are_joined-half_edges m u v ne) ∙ ap (list_any (λ (half : HalfEdge). half.to.0 == v)) (sym is) ∙ sym same ∙ ap (list_any (λ (half : HalfEdge). half.to.0 == v)) (drop_all i halves past)

any_at : (halves : List HalfEdge) (v : ℕ) (d : HalfEdge) → list_any (λ (half : HalfEdge). half.to.0 == v) halves ≡ true → (j : ℕ) × (j < length halves) × ((get_or halves j d).to.0 ≡ v)
any_at [] v d is = cc
any_at (half ∷ halves) v d is = by_first (half.to.0 == v) refl is (λ later. any_at halves v d later)
  where
    by_first : (t : Bool) → (half.to.0 == v) ≡ t → (t || list_any (λ (half : HalfEdge). half.to.0 == v) halves) ≡ true
        → (list_any (λ (half : HalfEdge). half.to.0 == v) halves ≡ true → (j : ℕ) × (j < length halves) × ((get_or halves j d).to.0 ≡ v))
        → (j : ℕ) × (j < length (half ∷ halves)) × ((get_or (half ∷ halves) j d).to.0 ≡ v)
    by_first true e is later = (0, omega arith, eqb-true half.to.0 v e)
    by_first false e is later = let found = later is in (suc found.0, (let less = found.1 in omega arith), found.2)

-- a neighbour has its half-edge
pub joined_half : (m : Molecule) (u v : ℕ) (halves : List HalfEdge) (d : HalfEdge) → halves ≡ half_edges m u → u ≢ v → are_joined m.bonds u v ≡ true
    → (j : ℕ) × (j < length halves) × ((get_or halves j d).to.0 ≡ v)
joined_half m u v halves d is ne joined =
    any_at halves v d (ap (list_any (λ (half : HalfEdge). half.to.0 == v)) is ∙ are_joined-half_edges m u v ne ∙ joined)

pub finds_turned : (m : Molecule) (u v : ℕ) (found : Option BondId) → FindsBond m v u found → FindsBond m u v found
finds_turned m u v None none = are_joined_turned m.bonds u v ∙ none
finds_turned m u v (Some number) by = record { bond = by.bond; is_bond = by.is_bond; joined = joins_turned by.bond u v ∙ by.joined }

-- the found bond decides
pub same_order : (m : Molecule) (u v number order : ℕ) (bond : Bond) → IsMolecule m → JoinedBy m u v number → slice_get m.bonds number ≡ Some bond
    → IsTrue (bond.order == order) ↔ HasBond m.bonds u v order
same_order m u v number order bond molecule by is = ((λ same. (bond, (number, place.0, place.1), joined, eqb-true bond.order order same)), (λ has. backward has.0 has.1 has.2 has.3))
  where
    place : (number < length m.bonds) × (get_or m.bonds number bond ≡ bond)
    place = (slice_get_within m.bonds number bond is, get_or_from_slice_get m.bonds number bond bond is)

    joined : joins bond u v ≡ true
    joined = let same : by.bond ≡ bond = same_Some by.bond bond (sym by.is_bond ∙ is) in subst (λ b. joins b u v ≡ true) same by.joined

    backward : (other : Bond) → Contains m.bonds other → joins other u v ≡ true → other.order ≡ order → (bond.order == order) ≡ true
    backward other at other_joined is_order =
        let there : slice_get m.bonds at.0 ≡ Some other = slice_get-get_or m.bonds at.0 other at.1 ∙ ap (λ b. Some b) at.2 in
        let number_same : at.0 ≡ number = one_bond m.bonds molecule.once at.0 number u v other bond there is other_joined joined in
        let bond_same : Some other ≡ Some bond = sym there ∙ ap (λ n. slice_get m.bonds n) number_same ∙ is in
        let order_same : other.order ≡ bond.order = by_bond other bond bond_same in
        eq-eqb bond.order order (sym order_same ∙ is_order)
      where
        by_bond : (a b : Bond) → Some a ≡ Some b → a.order ≡ b.order
        by_bond a b e = let same : a ≡ b = cc in ap (λ (x : Bond). x.order) same

-- what holds of each half-edge but those that lead to one atom holds of each neighbour but this one
pub every_half : (m : Molecule) (u e : ℕ) (halves : List HalfEdge) (i : ℕ) (d : HalfEdge) (P : ℕ → Type 0) → halves ≡ half_edges m u → ((v : ℕ) → are_joined m.bonds u v ≡ true → u ≢ v) → length halves ≤ i
    → ((j : ℕ) → j < i → (get_or halves j d).to.0 ≢ e → P (get_or halves j d).to.0) → (v : ℕ) → are_joined m.bonds u v ≡ true → v ≢ e → P v
every_half m u e halves i d P is apart past each v joined ne =
    let found = joined_half m u v halves d is (apart v joined) joined in
    let less : found.0 < i = let within = found.1 in omega arith in
    subst P found.2 (each found.0 less (λ same. ne (sym found.2 ∙ same)))

-- a bond of the output that has its bond of the input
pub same_bond : (m n : Molecule) (f : List AtomId) (k : ℕ) (bond : Bond) → slice_get n.bonds k ≡ Some bond
    → HasBond m.bonds (entry f bond.first.0) (entry f bond.second.0) bond.order → SameBond m n f k
same_bond m n f k bond is has = λ other at. subst (λ (b : Bond). HasBond m.bonds (entry f b.first.0) (entry f b.second.0) b.order) (same other at) has
  where
    same : (other : Bond) → slice_get n.bonds k ≡ Some other → bond ≡ other
    same other at = cc

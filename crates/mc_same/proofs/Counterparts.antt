-- Each bond of a molecule has its counterpart in a molecule that is the same under a map.
use Rattle.std.proofs.Common.{arith, ◌≡◌, ◌∙◌, ◌⊎◌, ℕ, ◌<◌, List, length, get_or, slice_get, Bool, true, false, Some, refl, ap, sym, subst, inl, inr}
use Rattle.std.specs.Prelude.{AllPairs}
use Rattle.std.proofs.lemmas.Option.{slice_get-get_or, slice_get_within, same_Some}
use Rattle.mc_base.specs.declared.ids.AtomId.{AtomId}
use Rattle.mc_mol.specs.declared.parts.Bond.{Bond as BondParts}
use Rattle.mc_mol.specs.Molecule.{Molecule, joins}
use Rattle.mc_mol.specs.Same.{Same, HasBond, entry}
use Rattle.mc_mol.specs.WellFormed.{IsMolecule}
use Rattle.mc_mol.proofs.Apart.{joins_cases, joins_from, one_bond}
use Rattle.mc_mol.proofs.Neighbours.{joined_ends, bond_joined}
use Rattle.mc_same.proofs.Exact.{in_any, place, place_found, one_entry}
use Rattle.mc_same.proofs.Onto.{onto}

-- the map carries the ends of a bond of n to those of a bond of m
abbrev pub meets : List AtomId → BondParts → BondParts → Bool
meets f found b = joins b (entry f found.first.0) (entry f found.second.0)

-- two bonds whose ends the map carries to those of one bond join the same pair
one_pair : (b : BondParts) (f : List AtomId) (x y : BondParts) → ((i j : ℕ) → i < length f → j < length f → entry f i ≡ entry f j → i ≡ j)
    → x.first.0 < length f → x.second.0 < length f → y.first.0 < length f → y.second.0 < length f → meets f x b ≡ true → meets f y b ≡ true → joins y x.first.0 x.second.0 ≡ true
one_pair b f x y one x_first x_second y_first y_second of_x of_y = joins_from y x.first.0 x.second.0 (by (joins_cases b (entry f x.first.0) (entry f x.second.0) of_x) (joins_cases b (entry f y.first.0) (entry f y.second.0) of_y))
  where
    by : ((b.first.0 ≡ entry f x.first.0) × (b.second.0 ≡ entry f x.second.0)) ⊎ ((b.first.0 ≡ entry f x.second.0) × (b.second.0 ≡ entry f x.first.0))
        → ((b.first.0 ≡ entry f y.first.0) × (b.second.0 ≡ entry f y.second.0)) ⊎ ((b.first.0 ≡ entry f y.second.0) × (b.second.0 ≡ entry f y.first.0))
        → ((y.first.0 ≡ x.first.0) × (y.second.0 ≡ x.second.0)) ⊎ ((y.first.0 ≡ x.second.0) × (y.second.0 ≡ x.first.0))
    by (inl p) (inl q) = inl (one y.first.0 x.first.0 y_first x_first (sym q.0 ∙ p.0), one y.second.0 x.second.0 y_second x_second (sym q.1 ∙ p.1))
    by (inl p) (inr q) = inr (one y.first.0 x.second.0 y_first x_second (sym q.1 ∙ p.1), one y.second.0 x.first.0 y_second x_first (sym q.0 ∙ p.0))
    by (inr p) (inl q) = inr (one y.first.0 x.second.0 y_first x_second (sym q.0 ∙ p.0), one y.second.0 x.first.0 y_second x_first (sym q.1 ∙ p.1))
    by (inr p) (inr q) = inl (one y.first.0 x.first.0 y_first x_first (sym q.1 ∙ p.1), one y.second.0 x.second.0 y_second x_second (sym q.0 ∙ p.0))

-- the only bond between two atoms has the order of any
pub one_order : (bonds : List BondParts) (l u v order : ℕ) (b : BondParts) → AllPairs (λ (b c : BondParts). joins b c.first.0 c.second.0 ≡ false) bonds → slice_get bonds l ≡ Some b → joins b u v ≡ true
    → HasBond bonds u v order → order ≡ b.order
one_order bonds l u v order b once at joined (c, there, of_c, order_is) =
    let at_c : slice_get bonds there.0 ≡ Some c = slice_get-get_or bonds there.0 c there.1 ∙ ap (λ (x : BondParts). Some x) there.2 in
    let number : there.0 ≡ l = one_bond bonds once there.0 l u v c b at_c at of_c joined in
    sym order_is ∙ ap (λ (x : BondParts). x.order) (same_Some c b (sym at_c ∙ ap (slice_get bonds) number ∙ at))

-- a bond of n for each of m
pub record Counterpart (m n : Molecule) (f : List AtomId) (b : BondParts) : Type 0 where
  pub number : ℕ
  pub bond : BondParts
  pub is_bond : slice_get n.bonds number ≡ Some bond
  pub joined : meets f bond b ≡ true
  pub order : bond.order ≡ b.order

abbrev blank : BondParts
blank = record { first = record { 0 = 0 }; second = record { 0 = 0 }; order = 0 }

abbrev number : Molecule → Molecule → List AtomId → ℕ → ℕ
number m n f i = place (meets f (get_or n.bonds i blank)) m.bonds

numbered : (m n : Molecule) (f : List AtomId) (i : ℕ) → Same m n f → i < length n.bonds
    → (b : BondParts) × (slice_get m.bonds (number m n f i) ≡ Some b) × (meets f (get_or n.bonds i blank) b ≡ true)
numbered m n f i same less =
    let (c, there, joined, order) = same.bonds i (get_or n.bonds i blank) (slice_get-get_or n.bonds i blank less) in
    place_found (meets f (get_or n.bonds i blank)) m.bonds
    (in_any (meets f (get_or n.bonds i blank)) m.bonds there.0 c (slice_get-get_or m.bonds there.0 c there.1 ∙ ap (λ (x : BondParts). Some x) there.2) joined)

numbers_differ : (m n : Molecule) (f : List AtomId) (i j : ℕ) → Same m n f → IsMolecule n → i < length n.bonds → j < length n.bonds → number m n f i ≡ number m n f j → i ≡ j
numbers_differ m n f i j same is i_less j_less e =
    let x : BondParts = get_or n.bonds i blank in
    let y : BondParts = get_or n.bonds j blank in
    let at_x : slice_get n.bonds i ≡ Some x = slice_get-get_or n.bonds i blank i_less in
    let at_y : slice_get n.bonds j ≡ Some y = slice_get-get_or n.bonds j blank j_less in
    let (b, at_b, of_x) = numbered m n f i same i_less in
    let (c, at_c, of_y) = numbered m n f j same j_less in
    let one : c ≡ b = same_Some c b (sym at_c ∙ sym (ap (slice_get m.bonds) e) ∙ at_b) in
    let x_joined = bond_joined n.bonds i x at_x in
    let y_joined = bond_joined n.bonds j y at_y in
    let size = same.length_map in
    let x_ends = joined_ends (length n.atoms) n.bonds x.first.0 x.second.0 is.bonds x_joined in
    let y_ends = joined_ends (length n.atoms) n.bonds y.first.0 y.second.0 is.bonds y_joined in
    let own : joins x x.first.0 x.second.0 ≡ true = joins_from x x.first.0 x.second.0 (inl (refl, refl)) in
    let x_first = x_ends.first in
    let x_second = x_ends.second in
    let y_first = y_ends.first in
    let y_second = y_ends.second in
    one_bond n.bonds is.once i j x.first.0 x.second.0 x y at_x at_y own
    (one_pair b f x y (one_entry f (λ k less j below. same.distinct j k below less)) (omega arith) (omega arith) (omega arith) (omega arith) of_x
    (subst (λ (z : BondParts). meets f y z ≡ true) one of_y))

pub counterpart : (m n : Molecule) (f : List AtomId) (l : ℕ) (b : BondParts) → Same m n f → IsMolecule n → AllPairs (λ (b c : BondParts). joins b c.first.0 c.second.0 ≡ false) m.bonds
    → slice_get m.bonds l ≡ Some b → Counterpart m n f b
counterpart m n f l b same is once at = record {
  number = i;
  bond = get_or n.bonds i blank;
  is_bond = at_bond;
  joined = joined;
  order = one_order m.bonds l (entry f (get_or n.bonds i blank).first.0) (entry f (get_or n.bonds i blank).second.0) (get_or n.bonds i blank).order b once at joined (same.bonds i (get_or n.bonds i blank) at_bond);
}
  where
    within : (i : ℕ) → i < length n.bonds → number m n f i < length n.bonds
    within i less =
        let (c, at_c, of_c) = numbered m n f i same less in
        let low = slice_get_within m.bonds (number m n f i) c at_c in
        let size = same.length_bonds in omega arith

    there : (i : ℕ) × (i < length n.bonds) × (number m n f i ≡ l)
    there = onto (number m n f) (length n.bonds) within (λ i j i_less j_less e. numbers_differ m n f i j same is i_less j_less e) l
        (let low = slice_get_within m.bonds l b at in let size = same.length_bonds in omega arith)

    i : ℕ
    i = there.0

    at_bond : slice_get n.bonds i ≡ Some (get_or n.bonds i blank)
    at_bond = slice_get-get_or n.bonds i blank there.1

    joined : meets f (get_or n.bonds i blank) b ≡ true
    joined =
        let (c, at_c, of_c) = numbered m n f i same there.1 in
        subst (λ (z : BondParts). meets f (get_or n.bonds i blank) z ≡ true) (same_Some c b (sym at_c ∙ ap (slice_get m.bonds) there.2 ∙ at)) of_c

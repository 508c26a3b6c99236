-- The places of a skeleton's centres are lists of places, whichever of its bonds are double.
use Rattle.std.proofs.Common.{arith, ◌≡◌, ◌∙◌, ℕ, ◌+◌, ◌≤◌, ◌<◌, List, [], ◌∷◌, ◌++◌, length, map, reverse, Bool, true, false, Option, Some, None, refl, ap, sym, subst, inl, inr}
use Rattle.std.specs.Option.{option_to_list}
use Rattle.std.specs.Prelude.{◌==◌, ◌&&◌, ◌||◌, ◌↔◌, nat_le, slice_get, is_some, if◌then◌else◌}
use Rattle.std.proofs.lemmas.Bool.{false≢true, eqb-true, and_parts}
use Rattle.std.proofs.lemmas.Bool.Decides.{nat_tests}
use Rattle.std.proofs.lemmas.List.{length-map, reverse-append}
use Rattle.mc_base.specs.declared.ids.AtomId.{AtomId}
use Rattle.mc_mol.specs.declared.parts.Bond as bond
use Rattle.mc_mol.specs.declared.parts.Slot.{Slot}
use Rattle.mc_mol.specs.Molecule.{Molecule, are_joined, joins, touches}
use Rattle.mc_mol.specs.HalfEdges.{degree, half_edges}
use Rattle.mc_mol.specs.WellFormed.{IsPlaceList}
use Rattle.mc_mol.proofs.Halves.{length-half_edges_by}
use Rattle.mc_rings.specs.Centres.{may_be_centre, free_doubles_at, hydrogens_of, singles_at}
use Rattle.smi_graph.specs.declared.role.Role.{Role}
use Rattle.smi_graph.specs.NeighbourLists.{occurs, atom_number, AreNeighboursOf}
use Rattle.smi_graph.specs.TextOrder.{predecessor_of, followers, ring_partners, neighbours, has_predecessor}
use Rattle.smi_mean.specs.CentrePlaces.{place_list, places, places_by, said, Fits}
use Rattle.smi_mean.specs.Placements.{raised}
use Rattle.smi_mean.proofs.PlaceLists.{place_list_by}

-- By the list of neighbours

listed_by : (o : Option ℕ) (xs : List ℕ) (hydrogens : ℕ) → places_by (is_some o) (option_to_list o ++ xs) hydrogens ≡ place_list o xs hydrogens
listed_by None xs hydrogens = refl
listed_by (Some p) xs hydrogens = refl

pub text_places : (ks : List Role) (a hydrogens : ℕ) → places_by (has_predecessor a ks) (neighbours a ks) hydrogens ≡ places ks a hydrogens
text_places ks a hydrogens = listed_by (predecessor_of a (reverse ks)) (ring_partners a [] ks ++ followers a (reverse ks)) hydrogens

record IsListed (led : Bool) (xs : List ℕ) : Type 0 where
  before : Option ℕ
  others : List ℕ
  joined : option_to_list before ++ others ≡ xs
  same : (hydrogens : ℕ) → places_by led xs hydrogens ≡ place_list before others hydrogens

listed : (led : Bool) (xs : List ℕ) → IsListed led xs
listed true [] = record { before = None; others = []; joined = refl; same = λ hydrogens. refl }
listed true (x ∷ xs) = record { before = Some x; others = xs; joined = refl; same = λ hydrogens. refl }
listed false xs = record { before = None; others = xs; joined = refl; same = λ hydrogens. refl }

-- the neighbours of an atom, with the rest and by a mark, are a list of its places
pub list_is : (bonds : List bond.Bond) (a hydrogens : ℕ) (mark led : Bool) (list : List AtomId) → AreNeighboursOf bonds a list → Fits (length list) hydrogens
    → IsPlaceList bonds a (said mark (places_by led (map atom_number list) hydrogens))
list_is bonds a hydrogens mark led list are fit =
    let is = listed led (map atom_number list) in
    let count : Fits (length (map atom_number list)) hydrogens = subst (λ (n : ℕ). Fits n hydrogens) (sym (length-map list atom_number)) fit in
    subst (λ (x : List Slot). IsPlaceList bonds a (said mark x)) (sym (is.same hydrogens))
    (place_list_by bonds a hydrogens mark is.before is.others
    (λ v. subst (λ (x : List ℕ). occurs v x ≤ 1) (sym is.joined) (are.once v))
    (λ v. subst (λ (x : List ℕ). (0 < occurs v x) ↔ (are_joined bonds a v ≡ true)) (sym is.joined) (are.joined v))
    (subst (λ (x : List ℕ). Fits (length x) hydrogens) (sym is.joined) count))

-- Double bonds change no neighbours

pub joined_raised : (placed : List Bool) (bonds : List bond.Bond) (u v : ℕ) → are_joined (raised placed bonds) u v ≡ are_joined bonds u v
joined_raised placed [] u v = refl
joined_raised [] (b ∷ bonds) u v = refl
joined_raised (p ∷ placed) (b ∷ bonds) u v = ap (λ (t : Bool). joins b u v || t) (joined_raised placed bonds u v)

pub degree_raised : (placed : List Bool) (bonds : List bond.Bond) (a : ℕ) → degree (raised placed bonds) a ≡ degree bonds a
degree_raised placed [] a = refl
degree_raised [] (b ∷ bonds) a = refl
degree_raised (p ∷ placed) (b ∷ bonds) a = ap (λ (n : ℕ). n + (if touches b a then 1 else 0)) (degree_raised placed bonds a)

pub neighbours_raised : (placed : List Bool) (bonds : List bond.Bond) (a : ℕ) (list : List AtomId) → AreNeighboursOf bonds a list → AreNeighboursOf (raised placed bonds) a list
neighbours_raised placed bonds a list are = record {
  count = are.count ∙ sym (degree_raised placed bonds a);
  once = are.once;
  joined = λ v. subst (λ (t : Bool). (0 < occurs v (map atom_number list)) ↔ (t ≡ true)) (sym (joined_raised placed bonds a v)) (are.joined v);
}

-- An atom that may be a centre has the right number of neighbours and hydrogens

degree_append : (a : ℕ) (xs ys : List bond.Bond) → degree (xs ++ ys) a ≡ degree xs a + degree ys a
degree_append a [] ys = omega arith
degree_append a (x ∷ xs) ys = let h = degree_append a xs ys in omega arith

pub degree_reverse : (a : ℕ) (xs : List bond.Bond) → degree (reverse xs) a ≡ degree xs a
degree_reverse a [] = refl
degree_reverse a (x ∷ xs) =
    let h = degree_reverse a xs in
    let one = degree_append a (reverse xs) (x ∷ []) in
    ap (λ (ys : List bond.Bond). degree ys a) (reverse-append (x ∷ []) xs) ∙ omega arith

pub fits_degree : (m : Molecule) (sizes : List (Option ℕ)) (a : ℕ) → may_be_centre m sizes a ≡ true → Fits (degree m.bonds a) (hydrogens_of (slice_get m.atoms a))
fits_degree m sizes a may =
    subst (λ (n : ℕ). Fits n (hydrogens_of (slice_get m.atoms a))) (length-half_edges_by (reverse m.bonds) a ∙ degree_reverse a m.bonds)
    (by_tests (length (half_edges m a)) (hydrogens_of (slice_get m.atoms a)) (singles_at m a) (free_doubles_at m sizes a)
    (length (half_edges m a) == 4) (length (half_edges m a) == 3) refl refl may)
  where
    by_tests : (n h s d : ℕ) (t u : Bool) → (n == 4) ≡ t → (n == 3) ≡ u
        → (if t then h == 0 && nat_le 2 s else (if u then nat_le h 1 && (s == 3 || (s == 2 && d == 1)) else false)) ≡ true → Fits n h
    by_tests n h s d true u e f is = let r = and_parts (h == 0) (nat_le 2 s) is in inl (eqb-true n 4 e, eqb-true h 0 r.0)
    by_tests n h s d false true e f is = let r = (and_parts (nat_le h 1) (s == 3 || (s == 2 && d == 1)) is).0 in inr (eqb-true n 3 f, grind (arith, nat_tests))
    by_tests n h s d false false e f is = absurd (false≢true is)

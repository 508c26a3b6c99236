-- Whether an atom in upper case may be a centre depends on no placement: none of its bonds is placed, and placed bonds change
-- no half-edge.
use Rattle.std.proofs.Common.{◌≡◌, ◌∙◌, ℕ, zero, suc, ◌+◌, List, [], ◌∷◌, ◌++◌, length, map, reverse, Bool, true, false, Option, Some, refl, ap, sym, inl, inr}
use Rattle.std.specs.Prelude.{◌==◌, ◌&&◌, ◌||◌, cond, count_by, slice_get, if◌then◌else◌}
use Rattle.std.proofs.lemmas.Bool.{false≢true, false_from_ne_true, and_parts}
use Rattle.std.proofs.lemmas.List.{length-map, map-append, reverse-append}
use Rattle.std.proofs.lemmas.List.Sums.{sum_by-cons}
use Rattle.std.proofs.lemmas.Option.{same_Some}
use Rattle.mc_base.specs.declared.ids.AtomId.{AtomId}
use Rattle.mc_mol.specs.declared.parts.Bond as bond
use Rattle.mc_mol.specs.declared.parts.HalfEdge.{HalfEdge}
use Rattle.mc_mol.specs.Molecule.{joins, touches}
use Rattle.mc_mol.specs.HalfEdges.{degree, half_edge, half_edges_by, half_edges_in, other_end}
use Rattle.mc_mol.specs.WellFormed.{IsMolecule}
use Rattle.mc_mol.proofs.Apart.{joins_cases}
use Rattle.mc_mol.proofs.Twins.{all_have_twins}
use Rattle.mc_rings.specs.Centres.{order_is, has_order, lies_in_no_ring, may_be_centre, centre_test, free_doubles_at, hydrogens_of, singles_at}
use Rattle.smi_graph.specs.declared.skel_atom.SkelAtom.{SkelAtom}
use Rattle.smi_graph.specs.declared.text_bond.TextBond.{TextBond}
use Rattle.smi_graph.specs.Candidates.{is_lower, joins_lower, is_unmarked_or_aromatic, marked}
use Rattle.smi_graph.specs.Links.{bond_of, symbol}
use Rattle.smi_mean.specs.Meaning.{atoms_with, meaning_of}
use Rattle.smi_mean.specs.Placements.{IsPlacement, raised, raised_bond, meaning_under}

-- Half-edges depend on the ends of bonds alone

abbrev pub Ends : Type 0
Ends = AtomId × AtomId

abbrev pub ends : bond.Bond → Ends
ends b = (b.first, b.second)

head_is : (x y : Ends) (xs ys : List Ends) → x ∷ xs ≡ y ∷ ys → x ≡ y
head_is x y xs ys e = cc

tail_is : (x y : Ends) (xs ys : List Ends) → x ∷ xs ≡ y ∷ ys → xs ≡ ys
tail_is x y xs ys e = cc

ends_raised : (placed : List Bool) (bonds : List bond.Bond) → map ends (raised placed bonds) ≡ map ends bonds
ends_raised placed [] = refl
ends_raised [] (b ∷ bonds) = refl
ends_raised (p ∷ placed) (b ∷ bonds) = ap (λ (x : List Ends). ends b ∷ x) (ends_raised placed bonds)

map_reverse : (xs : List bond.Bond) → map ends (reverse xs) ≡ reverse (map ends xs)
map_reverse [] = refl
map_reverse (x ∷ xs) =
    ap (map ends) (reverse-append (x ∷ []) xs) ∙ map-append ends (reverse xs) (x ∷ [])
    ∙ ap (λ (ys : List Ends). ys ++ ends x ∷ []) (map_reverse xs) ∙ sym (reverse-append (ends x ∷ []) (map ends xs))

degree_ends : (xs ys : List bond.Bond) → map ends xs ≡ map ends ys → (a : ℕ) → degree xs a ≡ degree ys a
degree_ends [] [] e a = refl
degree_ends [] (y ∷ ys) e a = cc
degree_ends (x ∷ xs) [] e a = cc
degree_ends (x ∷ xs) (y ∷ ys) e a =
    let one : Ends → Bool = λ p. p.0.0 == a || p.1.0 == a in
    ap (λ (n : ℕ). n + (if touches x a then 1 else 0)) (degree_ends xs ys (tail_is (ends x) (ends y) (map ends xs) (map ends ys) e) a)
    ∙ ap (λ (p : Ends). degree ys a + (if one p then 1 else 0)) (head_is (ends x) (ends y) (map ends xs) (map ends ys) e)

abbrev half_if : Bool → ℕ → AtomId → ℕ → List HalfEdge
half_if t n to twin = if t then record { bond = record { 0 = n }; to = to; twin = twin } ∷ [] else []

abbrev half_of_ends : Ends → ℕ → (ℕ → ℕ) → ℕ → List HalfEdge
half_of_ends p n degrees a = half_if (p.0.0 == a || p.1.0 == a) n (if p.0.0 == a then p.1 else p.0) (degrees (if p.0.0 == a then p.1 else p.0).0)

same_half : (x y : bond.Bond) (xs ys : List bond.Bond) (a : ℕ) → ends x ≡ ends y → length xs ≡ length ys → ((v : ℕ) → degree xs v ≡ degree ys v) → half_edge x xs a ≡ half_edge y ys a
same_half x y xs ys a e count each =
    ap (λ (p : Ends). half_of_ends p (length xs) (degree xs) a) e
    ∙ ap (λ (n : ℕ). half_of_ends (ends y) n (degree xs) a) count
    ∙ ap (λ (n : ℕ). half_if (touches y a) (length ys) (other_end y a) n) (each (other_end y a).0)

halves_ends : (xs ys : List bond.Bond) → map ends xs ≡ map ends ys → (a : ℕ) → half_edges_by xs a ≡ half_edges_by ys a
halves_ends [] [] e a = refl
halves_ends [] (y ∷ ys) e a = cc
halves_ends (x ∷ xs) [] e a = cc
halves_ends (x ∷ xs) (y ∷ ys) e a =
    let rest : map ends xs ≡ map ends ys = tail_is (ends x) (ends y) (map ends xs) (map ends ys) e in
    let count : length xs ≡ length ys = sym (length-map xs ends) ∙ ap (λ (zs : List Ends). length zs) rest ∙ length-map ys ends in
    ap (λ (hs : List HalfEdge). hs ++ half_edge x xs a) (halves_ends xs ys rest a)
    ∙ ap (λ (hs : List HalfEdge). half_edges_by ys a ++ hs) (same_half x y xs ys a (head_is (ends x) (ends y) (map ends xs) (map ends ys) e) count (degree_ends xs ys rest))

pub halves_raised : (placed : List Bool) (bonds : List bond.Bond) (a : ℕ) → half_edges_in (raised placed bonds) a ≡ half_edges_in bonds a
halves_raised placed bonds a =
    halves_ends (reverse (raised placed bonds)) (reverse bonds) (map_reverse (raised placed bonds) ∙ ap reverse (ends_raised placed bonds) ∙ sym (map_reverse bonds)) a

-- The bonds of an atom in upper case stay as they are

pub count_same : (p q : HalfEdge → Bool) (halves : List HalfEdge) → ((i : ℕ) (half : HalfEdge) → slice_get halves i ≡ Some half → p half ≡ q half) → count_by p halves ≡ count_by q halves
count_same p q [] each = refl
count_same p q (h ∷ halves) each =
    let one = ap (λ (t : Bool). cond t 1 0) (each 0 h refl) in
    let rest = count_same p q halves (λ i half at. each (suc i) half at) in
    let left = sum_by-cons (λ (x : HalfEdge). cond (p x) 1 0) h halves in
    let right = sum_by-cons (λ (x : HalfEdge). cond (q x) 1 0) h halves in
    left ∙ ap (λ (n : ℕ). n + count_by p halves) one ∙ ap (λ (n : ℕ). cond (q h) 1 0 + n) rest ∙ sym right

unplaced : (placed : List Bool) (bonds : List bond.Bond) (k : ℕ) (b : bond.Bond) → slice_get bonds k ≡ Some b → marked placed k ≡ false → slice_get (raised placed bonds) k ≡ Some b
unplaced placed [] k b at none = cc
unplaced [] (c ∷ bonds) k b at none = at
unplaced (p ∷ placed) (c ∷ bonds) zero b at none = ap (λ (t : Bool). Some (raised_bond t c)) none ∙ at
unplaced (p ∷ placed) (c ∷ bonds) (suc k) b at none = unplaced placed bonds k b at none

record TextBondAt (bonds : List TextBond) (k : ℕ) (b : bond.Bond) : Type 0 where
  text : TextBond
  at : slice_get bonds k ≡ Some text
  is : bond_of text ≡ b

text_bond_at : (bonds : List TextBond) (k : ℕ) (b : bond.Bond) → slice_get (map bond_of bonds) k ≡ Some b → TextBondAt bonds k b
text_bond_at [] k b at = cc
text_bond_at (t ∷ bonds) zero b at = record { text = t; at = refl; is = same_Some (bond_of t) b at }
text_bond_at (t ∷ bonds) (suc k) b at = let r = text_bond_at bonds k b at in record { text = r.text; at = r.at; is = r.is }

-- no bond of an atom in upper case is placed
none_at_upper : (atoms : List SkelAtom) (bonds : List TextBond) (placed : List Bool) (a v k : ℕ) (b : bond.Bond) → IsPlacement atoms bonds placed → is_lower atoms a ≡ false
    → slice_get (map bond_of bonds) k ≡ Some b → joins b a v ≡ true → marked placed k ≡ false
none_at_upper atoms bonds placed a v k b is upper at joined = false_from_ne_true (marked placed k) (λ holds. never holds)
  where
    never : marked placed k ≡ true → ⊥
    never holds =
        let t = text_bond_at bonds k b at in
        let both = and_parts (is_lower atoms t.text.first.0) (is_lower atoms t.text.second.0) (and_parts (is_unmarked_or_aromatic (symbol t.text)) (joins_lower atoms t.text) (is.candidates k t.text t.at holds).lower).1 in
        elim (joins_cases b a v joined) [
          | inl ends_are ↦ false≢true (sym upper ∙ ap (is_lower atoms) (sym (ap (λ (x : bond.Bond). x.first.0) t.is ∙ ends_are.0)) ∙ both.0)
          | inr ends_are ↦ false≢true (sym upper ∙ ap (is_lower atoms) (sym (ap (λ (x : bond.Bond). x.second.0) t.is ∙ ends_are.1)) ∙ both.1)
        ]

-- the half-edges of an atom in upper case have the orders that they had
order_kept : (atoms : List SkelAtom) (bonds : List TextBond) (placed : List Bool) (a : ℕ) → IsPlacement atoms bonds placed → is_lower atoms a ≡ false → IsMolecule (meaning_of atoms (map bond_of bonds))
    → (order i : ℕ) (half : HalfEdge) → slice_get (half_edges_in (map bond_of bonds) a) i ≡ Some half
    → has_order (raised placed (map bond_of bonds)) half.bond.0 order ≡ has_order (map bond_of bonds) half.bond.0 order
order_kept atoms bonds placed a is upper molecule order i half at =
    let twin = all_have_twins (meaning_of atoms (map bond_of bonds)) (record { 0 = a }) molecule i half at in
    let none = none_at_upper atoms bonds placed a half.to.0 half.bond.0 twin.bond is upper twin.is_bond twin.joined in
    ap (λ (o : Option bond.Bond). order_is o order) (unplaced placed (map bond_of bonds) half.bond.0 twin.bond twin.is_bond none ∙ sym twin.is_bond)

-- whether it may be a centre depends on no placement
pub may_be_under : (atoms : List SkelAtom) (bonds : List TextBond) (placed : List Bool) (sizes : List (Option ℕ)) (a : ℕ) → IsPlacement atoms bonds placed → is_lower atoms a ≡ false
    → IsMolecule (meaning_of atoms (map bond_of bonds)) → may_be_centre (meaning_under atoms (map bond_of bonds) placed) sizes a ≡ may_be_centre (meaning_of atoms (map bond_of bonds)) sizes a
may_be_under atoms bonds placed sizes a is upper molecule =
    let plain : List bond.Bond = map bond_of bonds in
    let new : List bond.Bond = raised placed plain in
    let halves = halves_raised placed plain a in
    let hydrogens : ℕ = hydrogens_of (slice_get (atoms_with plain 0 atoms) a) in
    let singles : singles_at (meaning_under atoms plain placed) a ≡ singles_at (meaning_of atoms plain) a =
    ap (λ (hs : List HalfEdge). count_by (λ (half : HalfEdge). has_order new half.bond.0 1) hs) halves
    ∙ count_same (λ (half : HalfEdge). has_order new half.bond.0 1) (λ (half : HalfEdge). has_order plain half.bond.0 1) (half_edges_in plain a)
    (λ i half at. order_kept atoms bonds placed a is upper molecule 1 i half at) in
    let doubles : free_doubles_at (meaning_under atoms plain placed) sizes a ≡ free_doubles_at (meaning_of atoms plain) sizes a =
    ap (λ (hs : List HalfEdge). count_by (λ (half : HalfEdge). has_order new half.bond.0 2 && lies_in_no_ring sizes half.bond.0) hs) halves
    ∙ count_same (λ (half : HalfEdge). has_order new half.bond.0 2 && lies_in_no_ring sizes half.bond.0) (λ (half : HalfEdge). has_order plain half.bond.0 2 && lies_in_no_ring sizes half.bond.0) (half_edges_in plain a)
    (λ i half at. ap (λ (t : Bool). t && lies_in_no_ring sizes half.bond.0) (order_kept atoms bonds placed a is upper molecule 2 i half at)) in
    ap (λ (hs : List HalfEdge). centre_test (length hs) hydrogens (singles_at (meaning_under atoms plain placed) a) (free_doubles_at (meaning_under atoms plain placed) sizes a)) halves
    ∙ ap (λ (n : ℕ). centre_test (length (half_edges_in plain a)) hydrogens n (free_doubles_at (meaning_under atoms plain placed) sizes a)) singles
    ∙ ap (λ (n : ℕ). centre_test (length (half_edges_in plain a)) hydrogens (singles_at (meaning_of atoms plain) a) n) doubles

-- In a text whose bonds join no pair twice the list of an atom has each atom that is joined to it once.
use Rattle.std.proofs.Common.{◌≡◌, ◌≢◌, ℕ, ◌+◌, ◌≤◌, ◌<◌, List, [], ◌∷◌, length, map, reverse, Bool, true, false, refl, ap, sym, ◌∙◌, inl, inr, arith}
use Rattle.std.specs.Prelude.{◌==◌, ◌||◌, ◌&&◌, if◌then◌else◌}
use Rattle.std.proofs.lemmas.Bool.{cases_lt, false≢true, eqb-true, and_parts}
use Rattle.std.proofs.lemmas.List.{length-map}
use Rattle.mc_mol.specs.Molecule.{joins, are_joined, touches}
use Rattle.mc_mol.specs.HalfEdges.{degree}
use Rattle.smi_graph.specs.declared.role.Role.{Role}
use Rattle.smi_graph.specs.declared.text_bond.TextBond.{TextBond}
use Rattle.smi_graph.specs.Bonds.{text_bonds}
use Rattle.smi_graph.specs.Links.{bond_of, bonds_of}
use Rattle.smi_graph.specs.NeighbourLists.{bit, occurs, atom_number, AreNeighboursOf}
use Rattle.smi_graph.specs.RingSlots.{atom_id}
use Rattle.smi_graph.specs.TextOrder.{neighbours}
use Rattle.smi_graph.proofs.NeighbourCount.{neighbours_law, end_weight, ends_weight, length_law}
use Rattle.smi_graph.proofs.SimpleBonds.{Simple, alone}

-- Bonds that join no pair twice

-- how often these bonds join two atoms
abbrev pub joined : ℕ → ℕ → List TextBond → ℕ
joined a v bs = ends_weight (λ x. bit (x == v)) a bs

end_is : (a v : ℕ) (b : TextBond) → end_weight (λ x. bit (x == v)) a b ≡ bit (b.first.0 == a && b.second.0 == v) + bit (b.first.0 == v && b.second.0 == a)
end_is a v b = by_tests (b.first.0 == a) (b.second.0 == v) (b.first.0 == v) (b.second.0 == a)
  where
    by_tests : (s t p q : Bool) → (if s then bit t else 0) + (if q then bit p else 0) ≡ bit (s && t) + bit (p && q)
    by_tests true t true true = refl
    by_tests true t true false = refl
    by_tests true t false true = refl
    by_tests true t false false = refl
    by_tests false t true true = refl
    by_tests false t true false = refl
    by_tests false t false true = refl
    by_tests false t false false = refl

some_joins : (s t : Bool) → 0 < bit s + bit t → (s || t) ≡ true
some_joins true t h = refl
some_joins false true h = refl
some_joins false false h = absurd (omega arith)

none_joins : (s t : Bool) → (s || t) ≡ false → bit s + bit t ≡ 0
none_joins true t h = absurd (false≢true (sym h))
none_joins false true h = absurd (false≢true (sym h))
none_joins false false h = refl

one_joins : (s t : Bool) → (s || t) ≡ true → 0 < bit s + bit t
one_joins true t h = let b = bit_low t in omega arith
  where
    bit_low : (t : Bool) → 0 ≤ bit t
    bit_low t = omega arith
one_joins false true h = omega arith
one_joins false false h = absurd (false≢true h)

one_end : (a v : ℕ) (b : TextBond) → b.first.0 ≢ b.second.0 → bit (b.first.0 == a && b.second.0 == v) + bit (b.first.0 == v && b.second.0 == a) ≤ 1
one_end a v b ne = by_tests (b.first.0 == a && b.second.0 == v) refl (b.first.0 == v && b.second.0 == a) refl
  where
    by_tests : (s : Bool) → (b.first.0 == a && b.second.0 == v) ≡ s → (t : Bool) → (b.first.0 == v && b.second.0 == a) ≡ t → bit s + bit t ≤ 1
    by_tests true e true f =
        let x = and_parts (b.first.0 == a) (b.second.0 == v) e in
        let y = and_parts (b.first.0 == v) (b.second.0 == a) f in
        absurd (ne (eqb-true b.first.0 a x.0 ∙ sym (eqb-true b.second.0 a y.1)))
    by_tests true e false f = omega arith
    by_tests false e true f = omega arith
    by_tests false e false f = omega arith

pub joined_true : (a v : ℕ) (bs : List TextBond) → 0 < joined a v bs → are_joined (map bond_of bs) a v ≡ true
joined_true a v [] some = absurd (omega arith)
joined_true a v (b ∷ bs) some = by_test (joins (bond_of b) a v) refl some (λ h. joined_true a v bs h)
  where
    by_test : (t : Bool) → joins (bond_of b) a v ≡ t → 0 < joined a v (b ∷ bs) → (0 < joined a v bs → are_joined (map bond_of bs) a v ≡ true)
        → (t || are_joined (map bond_of bs) a v) ≡ true
    by_test true e some more = refl
    by_test false e some more =
        let z = none_joins (b.first.0 == a && b.second.0 == v) (b.first.0 == v && b.second.0 == a) e in
        let w = end_is a v b in
        more (omega arith)

pub joined_some : (a v : ℕ) (bs : List TextBond) → are_joined (map bond_of bs) a v ≡ true → 0 < joined a v bs
joined_some a v [] h = absurd (false≢true h)
joined_some a v (b ∷ bs) h = by_test (joins (bond_of b) a v) refl h (λ is. joined_some a v bs is)
  where
    by_test : (t : Bool) → joins (bond_of b) a v ≡ t → (t || are_joined (map bond_of bs) a v) ≡ true → (are_joined (map bond_of bs) a v ≡ true → 0 < joined a v bs)
        → 0 < joined a v (b ∷ bs)
    by_test true e is more =
        let z = one_joins (b.first.0 == a && b.second.0 == v) (b.first.0 == v && b.second.0 == a) e in
        let w = end_is a v b in omega arith
    by_test false e is more = let r = more is in omega arith

pub joined_once : (n a v : ℕ) (bs : List TextBond) → Simple n (map bond_of bs) → joined a v bs ≤ 1
joined_once n a v [] s = omega arith
joined_once n a v (b ∷ bs) s = by_test (joins (bond_of b) a v) refl (joined_once n a v bs s.1.1)
  where
    by_test : (t : Bool) → joins (bond_of b) a v ≡ t → joined a v bs ≤ 1 → joined a v (b ∷ bs) ≤ 1
    by_test true e h =
        let none : are_joined (map bond_of bs) a v ≡ false = alone (bond_of b) (map bond_of bs) a v s.1.0 e in
        let one = one_end a v b s.0.1.1 in
        let w = end_is a v b in
        elim (cases_lt 0 (joined a v bs)) [
          | inl some ↦ absurd (false≢true (sym none ∙ joined_true a v bs some))
          | inr zero' ↦ omega arith
        ]
    by_test false e h =
        let z = none_joins (b.first.0 == a && b.second.0 == v) (b.first.0 == v && b.second.0 == a) e in
        let w = end_is a v b in omega arith

-- There are as many neighbours as bonds of the atom

ends_one : (a : ℕ) (b : TextBond) → b.first.0 ≢ b.second.0 → end_weight (λ x. 1) a b ≡ (if touches (bond_of b) a then 1 else 0)
ends_one a b ne = by_tests (b.first.0 == a) refl (b.second.0 == a) refl
  where
    by_tests : (s : Bool) → (b.first.0 == a) ≡ s → (t : Bool) → (b.second.0 == a) ≡ t → (if s then 1 else 0) + (if t then 1 else 0) ≡ (if s || t then 1 else 0)
    by_tests true e true f = absurd (ne (eqb-true b.first.0 a e ∙ sym (eqb-true b.second.0 a f)))
    by_tests true e false f = refl
    by_tests false e true f = refl
    by_tests false e false f = refl

ends_degree : (n a : ℕ) (bs : List TextBond) → Simple n (map bond_of bs) → ends_weight (λ x. 1) a bs ≡ degree (map bond_of bs) a
ends_degree n a [] s = refl
ends_degree n a (b ∷ bs) s = let h = ends_degree n a bs s.1.1 in let e = ends_one a b s.0.1.1 in omega arith

pub neighbour_count : (n a : ℕ) (ks : List Role) → Simple n (bonds_of (reverse ks)) → length (neighbours a ks) ≡ degree (bonds_of (reverse ks)) a
neighbour_count n a ks s = length_law a ks ∙ ends_degree n a (text_bonds (reverse ks)) s

-- The list of a text

pub numbers_back : (xs : List ℕ) → map atom_number (map atom_id xs) ≡ xs
numbers_back [] = refl
numbers_back (x ∷ xs) = ap (λ (ys : List ℕ). x ∷ ys) (numbers_back xs)

pub are_neighbours : (ks : List Role) (a n : ℕ) → Simple n (bonds_of (reverse ks)) → AreNeighboursOf (bonds_of (reverse ks)) a (map atom_id (neighbours a ks))
are_neighbours ks a n s =
    let bonds : List TextBond = text_bonds (reverse ks) in
    let each : (v : ℕ) → occurs v (map atom_number (map atom_id (neighbours a ks))) ≡ joined a v bonds = λ v. ap (occurs v) (numbers_back (neighbours a ks)) ∙ neighbours_law a v ks in
    record {
      count = length-map (neighbours a ks) atom_id ∙ neighbour_count n a ks s;
      once = λ v. let e = each v in let o = joined_once n a v bonds s in omega arith;
      joined = λ v. (
        λ some. joined_true a v bonds (let e = each v in omega arith),
        λ is. let e = each v in let some = joined_some a v bonds is in omega arith,
      );
    }

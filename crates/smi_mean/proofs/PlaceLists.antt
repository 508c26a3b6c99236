-- The places that a text says of a centre are a list of places of its atom.
use Rattle.std.proofs.Common.{◌≡◌, ◌≢◌, ℕ, zero, suc, ◌+◌, ◌≤◌, ◌<◌, List, [], ◌∷◌, ◌++◌, length, map, reverse, Bool, true, false, Option, refl, ap, sym, ◌∙◌, subst, inl, inr, arith}
use Rattle.std.specs.Prelude.{◌==◌, ◌⊎◌, ◌||◌, ◌↔◌, Contains, nat_lt, slice_index_or}
use Rattle.std.specs.Option.{option_to_list}
use Rattle.std.proofs.lemmas.Bool.{cases_eq, ne_eqb}
use Rattle.std.proofs.lemmas.Bool.Decides.{nat_tests}
use Rattle.std.proofs.lemmas.List.{length-append, length-map}
use Rattle.mc_mol.specs.declared.parts.Slot.{Slot}
use Rattle.mc_mol.specs.declared.parts.Slot.TheVariants.{At, Rest}
use Rattle.mc_mol.specs.declared.parts.Bond.{Bond}
use Rattle.mc_mol.specs.Molecule.{are_joined}
use Rattle.mc_mol.specs.HalfEdges.{degree}
use Rattle.mc_mol.specs.Permutations.{same_slot}
use Rattle.mc_mol.specs.WellFormed.{IsPlaceList}
use Rattle.mc_mol.proofs.Halves.{same_test}
use Rattle.smi_graph.specs.declared.role.Role.{Role}
use Rattle.smi_graph.specs.declared.text_bond.TextBond.{TextBond}
use Rattle.smi_graph.specs.Bonds.{text_bonds}
use Rattle.smi_graph.specs.Links.{bonds_of}
use Rattle.smi_graph.specs.TextOrder.{predecessor_of, followers, ring_partners}
use Rattle.smi_graph.proofs.NeighbourCount.{occurs_append, neighbours_law}
use Rattle.smi_graph.specs.NeighbourLists.{bit, occurs}
use Rattle.smi_graph.proofs.JoinedAtoms.{joined_once, joined_true, joined_some, neighbour_count}
use Rattle.smi_graph.proofs.SimpleBonds.{Simple}
pub use Rattle.smi_mean.specs.CentrePlaces.{Fits}
use Rattle.smi_mean.specs.CentrePlaces.{atom_slot, rest_if, has_rest, place_list, places, exchanged, said}
use Rattle.mc_mol.proofs.Slots.{same_is, same_self}

-- How often a place stands in a list

abbrev count : Slot → List Slot → ℕ
count s [] = 0
count s (x ∷ xs) = bit (same_slot s x) + count s xs

count_append : (s : Slot) (xs ys : List Slot) → count s (xs ++ ys) ≡ count s xs + count s ys
count_append s [] ys = omega arith
count_append s (x ∷ xs) ys = ap (λ (n : ℕ). bit (same_slot s x) + n) (count_append s xs ys) ∙ omega arith

count_exchanged : (s : Slot) (xs : List Slot) → count s (exchanged xs) ≡ count s xs
count_exchanged s [] = refl
count_exchanged s (x ∷ []) = refl
count_exchanged s (x ∷ y ∷ []) = omega arith
count_exchanged s (x ∷ y ∷ z ∷ zs) = ap (λ (n : ℕ). bit (same_slot s x) + n) (count_exchanged s (y ∷ z ∷ zs))

length_exchanged : (xs : List Slot) → length (exchanged xs) ≡ length xs
length_exchanged [] = refl
length_exchanged (x ∷ []) = refl
length_exchanged (x ∷ y ∷ []) = refl
length_exchanged (x ∷ y ∷ z ∷ zs) = ap suc (length_exchanged (y ∷ z ∷ zs))

count_at : (xs : List Slot) (i : ℕ) (d : Slot) → i < length xs → 0 < count (slice_index_or xs i d) xs
count_at [] i d less = absurd (omega arith)
count_at (x ∷ xs) zero d less = let o : bit (same_slot x x) ≡ 1 = ap bit (same_self x) in omega arith
count_at (x ∷ xs) (suc i) d less = let h = count_at xs i d (omega arith) in omega arith

twice : (xs : List Slot) (i j : ℕ) (d : Slot) → i < j → j < length xs → slice_index_or xs i d ≡ slice_index_or xs j d → 1 < count (slice_index_or xs i d) xs
twice [] i j d less below e = absurd (omega arith)
twice (x ∷ xs) i zero d less below e = absurd (omega arith)
twice (x ∷ xs) zero (suc j) d less below e =
    let o : bit (same_slot x x) ≡ 1 = ap bit (same_self x) in
    let h : 0 < count x xs = subst (λ (s : Slot). 0 < count s xs) (sym e) (count_at xs j d (omega arith)) in omega arith
twice (x ∷ xs) (suc i) (suc j) d less below e = let h = twice xs i j d (omega arith) (omega arith) e in omega arith

contains_of : (s : Slot) (xs : List Slot) → 0 < count s xs → Contains xs s
contains_of s [] h = absurd (omega arith)
contains_of s (x ∷ xs) h = by_test (same_slot s x) refl h (λ some. contains_of s xs some)
  where
    by_test : (t : Bool) → same_slot s x ≡ t → 0 < bit t + count s xs → (0 < count s xs → Contains xs s) → Contains (x ∷ xs) s
    by_test true e h more = (0, omega arith, sym (same_is s x e))
    by_test false e h more = let (k, less, is) = more (omega arith) in (suc k, omega arith, is)

count_of : (s : Slot) (xs : List Slot) → Contains xs s → 0 < count s xs
count_of s xs (k, less, is) = subst (λ (x : Slot). 0 < count x xs) is (count_at xs k s less)

count_atoms : (v : ℕ) (xs : List ℕ) → count (atom_slot v) (map atom_slot xs) ≡ occurs v xs
count_atoms v [] = refl
count_atoms v (x ∷ xs) = let h = count_atoms v xs in let e : bit (v == x) ≡ bit (x == v) = ap bit (turn (cases_eq v x)) in omega arith
  where
    turn : (v ≡ x) ⊎ (v ≢ x) → (v == x) ≡ (x == v)
    turn (inl e) = ap (λ (y : ℕ). y == x) e ∙ same_test x ∙ sym (ap (λ (y : ℕ). x == y) e ∙ same_test x)
    turn (inr ne) = ne_eqb v x ne ∙ sym (ne_eqb x v (λ e. ne (sym e)))

count_no_rest : (xs : List ℕ) → count Rest (map atom_slot xs) ≡ 0
count_no_rest [] = refl
count_no_rest (x ∷ xs) = let h = count_no_rest xs in omega arith

rest_one : (t : Bool) → count Rest (rest_if t) ≤ 1
rest_one true = omega arith
rest_one false = omega arith

rest_none : (v : ℕ) (t : Bool) → count (atom_slot v) (rest_if t) ≡ 0
rest_none v true = refl
rest_none v false = refl

count_list : (s : Slot) (o : Option ℕ) (xs : List ℕ) (h : ℕ)
    → count s (place_list o xs h) ≡ count s (map atom_slot (option_to_list o)) + (count s (rest_if (has_rest h (length (option_to_list o) + length xs))) + count s (map atom_slot xs))
count_list s o xs h =
    count_append s (map atom_slot (option_to_list o)) (rest_if (has_rest h (length (option_to_list o) + length xs)) ++ map atom_slot xs)
    ∙ ap (λ (n : ℕ). count s (map atom_slot (option_to_list o)) + n) (count_append s (rest_if (has_rest h (length (option_to_list o) + length xs))) (map atom_slot xs))

count_neighbour : (v : ℕ) (o : Option ℕ) (xs : List ℕ) (h : ℕ) → count (atom_slot v) (place_list o xs h) ≡ occurs v (option_to_list o ++ xs)
count_neighbour v o xs h =
    let a = count_list (atom_slot v) o xs h in
    let b = count_atoms v (option_to_list o) in
    let c = count_atoms v xs in
    let d = rest_none v (has_rest h (length (option_to_list o) + length xs)) in
    let e = occurs_append v (option_to_list o) xs in omega arith

count_rest : (o : Option ℕ) (xs : List ℕ) (h : ℕ) → count Rest (place_list o xs h) ≤ 1
count_rest o xs h =
    let a = count_list Rest o xs h in
    let b = count_no_rest (option_to_list o) in
    let c = count_no_rest xs in
    let d = rest_one (has_rest h (length (option_to_list o) + length xs)) in omega arith

-- The list

pub length_list : (o : Option ℕ) (xs : List ℕ) (h : ℕ) → Fits (length (option_to_list o ++ xs)) h → length (place_list o xs h) ≡ 4
length_list o xs h fit =
    let rest : List Slot = rest_if (has_rest h (length (option_to_list o) + length xs)) in
    let a = length-append (map atom_slot (option_to_list o)) (rest ++ map atom_slot xs) in
    let b = length-append rest (map atom_slot xs) in
    let c = length-map (option_to_list o) atom_slot in
    let d = length-map xs atom_slot in
    let n : length (option_to_list o ++ xs) ≡ length (option_to_list o) + length xs = length-append (option_to_list o) xs in
    let r = rest_length (length (option_to_list o) + length xs) (subst (λ (k : ℕ). Fits k h) n fit) in omega arith
  where
    or_true_last : (t : Bool) → (t || true) ≡ true
    or_true_last true = refl
    or_true_last false = refl

    rest_length : (k : ℕ) → Fits k h → k + length (rest_if (has_rest h k)) ≡ 4
    rest_length k (inl four) =
        let e : k ≡ 4 = four.0 in
        let z : nat_lt 0 h ≡ false = (let z0 = four.1 in grind (arith, nat_tests)) in
        let t : (k == 3) ≡ false = ne_eqb k 3 (omega arith) in
        let l : length (rest_if (has_rest h k)) ≡ 0 = ap (λ (b : Bool). length (rest_if (b || k == 3))) z ∙ ap (λ (b : Bool). length (rest_if b)) t in omega arith
    rest_length k (inr three) =
        let e : k ≡ 3 = three.0 in
        let t : (k == 3) ≡ true = ap (λ (x : ℕ). x == 3) e in
        let l : length (rest_if (has_rest h k)) ≡ 1 = ap (λ (b : Bool). length (rest_if (nat_lt 0 h || b))) t ∙ ap (λ (b : Bool). length (rest_if b)) (or_true_last (nat_lt 0 h)) in omega arith

said_length : (mark : Bool) (xs : List Slot) → length (said mark xs) ≡ length xs
said_length true xs = refl
said_length false xs = length_exchanged xs

said_count : (mark : Bool) (s : Slot) (xs : List Slot) → count s (said mark xs) ≡ count s xs
said_count true s xs = refl
said_count false s xs = count_exchanged s xs

-- Neighbours of the right number, each once, with the right number of hydrogens are a list of places: four, all different, and
-- the atoms among them exactly the neighbours.
pub place_list_by : (bonds : List Bond) (a hydrogens : ℕ) (mark : Bool) (o : Option ℕ) (xs : List ℕ)
    → ((v : ℕ) → occurs v (option_to_list o ++ xs) ≤ 1) → ((v : ℕ) → (0 < occurs v (option_to_list o ++ xs)) ↔ (are_joined bonds a v ≡ true))
    → Fits (length (option_to_list o ++ xs)) hydrogens → IsPlaceList bonds a (said mark (place_list o xs hydrogens))
place_list_by bonds a hydrogens mark o xs once joined fit =
    let list : List Slot = said mark (place_list o xs hydrogens) in
    let atoms : (v : ℕ) → count (atom_slot v) list ≡ occurs v (option_to_list o ++ xs) = λ v. said_count mark (atom_slot v) (place_list o xs hydrogens) ∙ count_neighbour v o xs hydrogens in
    let rests : count Rest list ≤ 1 = subst (λ (k : ℕ). k ≤ 1) (sym (said_count mark Rest (place_list o xs hydrogens))) (count_rest o xs hydrogens) in
    record {
      four = said_length mark (place_list o xs hydrogens) ∙ length_list o xs hydrogens fit;
      different = λ i j d less below same. let two = twice list i j d less below same in more (slice_index_or list i d) two (λ v. let e = atoms v in let w = once v in omega arith) rests;
      neighbours = λ v. (
        λ has. (joined v).0 (let e = atoms v in let c = count_of (atom_slot v) list has in omega arith),
        λ is. contains_of (atom_slot v) list (let e = atoms v in let c = (joined v).1 is in omega arith),
      );
    }
  where
    more : (x : Slot) → 1 < count x (said mark (place_list o xs hydrogens)) → ((v : ℕ) → count (atom_slot v) (said mark (place_list o xs hydrogens)) ≤ 1) → count Rest (said mark (place_list o xs hydrogens)) ≤ 1 → ⊥
    more (At v) two each rest = let w = each v.0 in omega arith
    more Rest two each rest = omega arith

-- the list of an atom in a text whose bonds join no pair twice
pub place_list_is : (ks : List Role) (a n hydrogens : ℕ) (mark : Bool) → Simple n (bonds_of (reverse ks)) → Fits (degree (bonds_of (reverse ks)) a) hydrogens
    → IsPlaceList (bonds_of (reverse ks)) a (said mark (places ks a hydrogens))
place_list_is ks a n hydrogens mark s fit =
    let bonds : List TextBond = text_bonds (reverse ks) in
    place_list_by (bonds_of (reverse ks)) a hydrogens mark (predecessor_of a (reverse ks)) (ring_partners a [] ks ++ followers a (reverse ks))
    (λ v. let e = neighbours_law a v ks in let o = joined_once n a v bonds s in omega arith)
    (λ v. (
      λ some. joined_true a v bonds (let e = neighbours_law a v ks in omega arith),
      λ is. let e = neighbours_law a v ks in let some = joined_some a v bonds is in omega arith,
    ))
    (subst (λ (k : ℕ). Fits k hydrogens) (sym (neighbour_count n a ks s)) fit)

-- An atom of a molecule that may be a centre may be one in the molecule that is read from the written text.
use Rattle.std.proofs.Common.{◌≡◌, ◌≢◌, ℕ, zero, suc, ◌+◌, ◌-◌, ◌≤◌, ◌<◌, List, [], ◌∷◌, length, map, reverse, get_or, Bool, true, false, Option, Some, None, refl, ap, sym, ◌∙◌, subst, inl, inr, arith}
use Rattle.std.specs.Prelude.{◌==◌, ◌⊎◌, ◌||◌, ◌&&◌, nat_le, slice_get, slice_index, if◌then◌else◌}
use Rattle.std.proofs.lemmas.Bool.{and_parts, cases_lt, eqb-true, false≢true, or_cases}
use Rattle.std.proofs.lemmas.List.{length-map, reverse-reverse, get_or-map}
use Rattle.mc_mol.specs.declared.parts.Bond.{Bond}
use Rattle.mc_mol.specs.ClosedPaths.{IsClosedPath, Follows, Uses, IsRingOf}
use Rattle.mc_mol.specs.Molecule.{Molecule, joins, are_joined, touches}
use Rattle.mc_mol.specs.HalfEdges.{degree, half_edges}
use Rattle.mc_mol.specs.WellFormed.{IsMolecule}
use Rattle.mc_mol.proofs.Apart.{are_joined_turned}
use Rattle.mc_mol.proofs.Halves.{length-half_edges_by, same_test}
use Rattle.mc_rings.specs.Centres.{centre_test, free_doubles_at, has_order, hydrogens_of, lies_in_no_ring, may_be_centre, order_is, singles_at, size_is_none}
use Rattle.mc_rings.specs.RingSizes.{RingSizeIs}
use Rattle.smi_graph.specs.Links.{bonds_of}
use Rattle.smi_mean.proofs.CentreLists.{degree_reverse}
use Rattle.smi_mean.specs.Order.{Graph, graph_of, order, rank, at}
use Rattle.smi_mean.specs.RingNumbers.{onto_all}
use Rattle.smi_mean.specs.Written.{bond_symbol}
use Rattle.smi_mean.specs.WrongCentres.{AreSizes}
use Rattle.smi_write.proofs.BondCounts.{bond_count}
use Rattle.smi_write.proofs.BondSums.{symbols_say}
use Rattle.smi_write.proofs.Hits.{bit}
use Rattle.smi_write.proofs.OrderCounts.{EachBond, all_count, apart_orders, at_each, counts_all, counts_le, counts_same, each_of, half_counts, index_count, order_count, order_weight, read_order_weight}
use Rattle.smi_write.proofs.Partners.{rank_of_at}
use Rattle.smi_write.proofs.SameBonds.{bit_one, same_bonds}
use Rattle.smi_write.proofs.Whole.{graph_roles, is_read, not_joined}

half_count : (m : Molecule) (a : ℕ) → length (half_edges m a) ≡ degree m.bonds a
half_count m a = length-half_edges_by (reverse m.bonds) a ∙ degree_reverse a m.bonds

-- Closed paths

record IsLow (m : Molecule) (j l : ℕ) : Type 0 where
  first : j < length m.atoms
  second : l < length m.atoms
  is : are_joined m.bonds (at (graph_of m) j) (at (graph_of m) l) ≡ true

abbrev pub read_bonds : Molecule → List Bond
read_bonds m = bonds_of (onto_all (graph_roles (graph_of m) (λ j l. bond_symbol (graph_of m) j l)) [])

low_count : (m : Molecule) (j l : ℕ) → 0 < bond_count j l (read_bonds m) → IsLow m j l
low_count m j l some =
    let read = is_read (graph_of m) (λ j l. bond_symbol (graph_of m) j l) in
    elim (cases_lt j l) [
      | inl less ↦ elim (cases_lt l (length m.atoms)) [
        | inl below ↦ let c = read.bonds j l less below in record { first = omega arith; second = below; is = bit_one (are_joined m.bonds (at (graph_of m) j) (at (graph_of m) l)) (omega arith) }
        | inr past ↦ let z = read.others j l (inr past) in absurd (omega arith)
      ]
      | inr more ↦ let z = read.others j l (inl more) in absurd (omega arith)
    ]

read_low : (m : Molecule) (j l : ℕ) → are_joined (read_bonds m) j l ≡ true → IsLow m j l
read_low m j l h =
    elim (cases_lt 0 (bond_count j l (read_bonds m))) [
      | inl here ↦ low_count m j l here
      | inr none ↦ elim (cases_lt 0 (bond_count l j (read_bonds m))) [
        | inl there ↦ let r = low_count m l j there in record { first = r.second; second = r.first; is = are_joined_turned m.bonds (at (graph_of m) j) (at (graph_of m) l) ∙ r.is }
        | inr neither ↦ absurd (false≢true (sym (not_joined (read_bonds m) j l (omega arith) (omega arith)) ∙ h))
      ]
    ]

at_apart : (m : Molecule) (j l : ℕ) → j < length m.atoms → l < length m.atoms → j ≢ l → at (graph_of m) j ≢ at (graph_of m) l
at_apart m j l lj ll ne e =
    let pj = rank_of_at m j lj in
    let pl = rank_of_at m l ll in
    let same = ap (rank (order (graph_of m))) e in ne (omega arith)

abbrev carry : Molecule → List ℕ → List ℕ
carry m path = map (λ l. at (graph_of m) l) path

carried_at : (m : Molecule) (path : List ℕ) (i : ℕ) → i < length path → slice_index (carry m path) i ≡ at (graph_of m) (slice_index path i)
carried_at m path i less = get_or-map (λ l. at (graph_of m) l) path i 0 0 less

path_low : (m : Molecule) (path : List ℕ) → IsClosedPath (read_bonds m) path → (i : ℕ) → i < length path → slice_index path i < length m.atoms
path_low m path is i less = elim (cases_lt (i + 1) (length path)) [
  | inl more ↦ (read_low m (slice_index path i) (slice_index path (i + 1)) (is.joined i more)).first
  | inr end ↦
      let last : length path - 1 ≡ i = omega arith in
      subst (λ (x : ℕ). slice_index path x < length m.atoms) last (read_low m (slice_index path (length path - 1)) (slice_index path 0) is.closed).first
]

carried_path : (m : Molecule) (path : List ℕ) → IsClosedPath (read_bonds m) path → IsClosedPath m.bonds (carry m path)
carried_path m path is =
    let len : length (carry m path) ≡ length path = length-map path (λ l. at (graph_of m) l) in
    let long = is.long in
    record {
      long = omega arith;
      different = λ i j less below e. at_apart m (slice_index path i) (slice_index path j) (path_low m path is i (omega arith)) (path_low m path is j (omega arith)) (is.different i j less (omega arith))
          (sym (carried_at m path i (omega arith)) ∙ e ∙ carried_at m path j (omega arith));
      joined = λ i less.
          let at_i = carried_at m path i (omega arith) in
          let at_j = carried_at m path (i + 1) (omega arith) in
          ap (λ (x : ℕ). are_joined m.bonds x (slice_index (carry m path) (i + 1))) at_i ∙ ap (are_joined m.bonds (at (graph_of m) (slice_index path i))) at_j
          ∙ (read_low m (slice_index path i) (slice_index path (i + 1)) (is.joined i (omega arith))).is;
      closed =
          let end : length (carry m path) - 1 ≡ length path - 1 = omega arith in
          let at_i = carried_at m path (length path - 1) (omega arith) in
          let at_j = carried_at m path 0 (omega arith) in
          ap (λ (x : ℕ). are_joined m.bonds (slice_index (carry m path) x) (slice_index (carry m path) 0)) end
          ∙ ap (λ (x : ℕ). are_joined m.bonds x (slice_index (carry m path) 0)) at_i ∙ ap (are_joined m.bonds (at (graph_of m) (slice_index path (length path - 1)))) at_j
          ∙ (read_low m (slice_index path (length path - 1)) (slice_index path 0) is.closed).is;
    }

carried_follows : (m : Molecule) (path : List ℕ) (x y : ℕ) → 3 ≤ length path → Follows path x y → Follows (carry m path) (at (graph_of m) x) (at (graph_of m) y)
carried_follows m path x y long (inl (i, less, ex, ey)) =
    let len : length (carry m path) ≡ length path = length-map path (λ l. at (graph_of m) l) in
    inl (i, omega arith, carried_at m path i (omega arith) ∙ ap (λ l. at (graph_of m) l) ex, carried_at m path (i + 1) less ∙ ap (λ l. at (graph_of m) l) ey)
carried_follows m path x y long (inr (ex, ey)) =
    let len : length (carry m path) ≡ length path = length-map path (λ l. at (graph_of m) l) in
    let end : length (carry m path) - 1 ≡ length path - 1 = omega arith in
    inr (ap (slice_index (carry m path)) end ∙ carried_at m path (length path - 1) (omega arith) ∙ ap (λ l. at (graph_of m) l) ex, carried_at m path 0 (omega arith) ∙ ap (λ l. at (graph_of m) l) ey)

swap : {A B : Type 0} → A ⊎ B → B ⊎ A
swap (inl a) = inr a
swap (inr b) = inl b

-- a closed path along a bond that is read goes along the bond of the molecule
carried_ring : (m : Molecule) (path : List ℕ) (b c : Bond) → joins c (at (graph_of m) b.first.0) (at (graph_of m) b.second.0) ≡ true → IsRingOf (read_bonds m) b path → IsRingOf m.bonds c (carry m path)
carried_ring m path b c j is =
    let g : Graph = graph_of m in
    let long = is.closed_path.long in
    record {
      closed_path = carried_path m path is.closed_path;
      uses =
          let along : Follows (carry m path) (at g b.first.0) (at g b.second.0) ⊎ Follows (carry m path) (at g b.second.0) (at g b.first.0) = elim is.uses [
            | inl f ↦ inl (carried_follows m path b.first.0 b.second.0 long f)
            | inr f ↦ inr (carried_follows m path b.second.0 b.first.0 long f)
          ] in
          elim (or_cases (c.first.0 == at g b.first.0 && c.second.0 == at g b.second.0) (c.first.0 == at g b.second.0 && c.second.0 == at g b.first.0) j) [
            | inl t ↦
                let r = and_parts (c.first.0 == at g b.first.0) (c.second.0 == at g b.second.0) t in
                ends (at g b.first.0) (at g b.second.0) (sym (eqb-true c.first.0 (at g b.first.0) r.0)) (sym (eqb-true c.second.0 (at g b.second.0) r.1)) along
            | inr t ↦
                let r = and_parts (c.first.0 == at g b.second.0) (c.second.0 == at g b.first.0) t in
                ends (at g b.second.0) (at g b.first.0) (sym (eqb-true c.first.0 (at g b.second.0) r.0)) (sym (eqb-true c.second.0 (at g b.first.0) r.1)) (swap along)
          ];
    }
  where
    ends : (x y : ℕ) → x ≡ c.first.0 → y ≡ c.second.0 → Follows (carry m path) x y ⊎ Follows (carry m path) y x → Uses (carry m path) c
    ends x y ex ey f =
        subst (λ (z : ℕ). Follows (carry m path) z c.second.0 ⊎ Follows (carry m path) c.second.0 z) ex
        (subst (λ (z : ℕ). Follows (carry m path) x z ⊎ Follows (carry m path) z x) ey f)

-- May be a centre

test_kept : (n h s d d' : ℕ) → centre_test n h s d ≡ true → (n ≡ 3 → s ≡ 2 → d ≡ 1 → d' ≡ 1) → centre_test n h s d' ≡ true
test_kept n h s d d' is more = by_tests (n == 4) (n == 3) refl (s == 3) (s == 2) refl is
  where
    both : (a b : Bool) → a ≡ true → b ≡ true → (a && b) ≡ true
    both true b p q = q
    both false b p q = absurd (false≢true p)

    by_tests : (t u : Bool) → (n == 3) ≡ u → (x y : Bool) → (s == 2) ≡ y
        → (if t then h == 0 && nat_le 2 s else (if u then nat_le h 1 && (x || (y && d == 1)) else false)) ≡ true
        → (if t then h == 0 && nat_le 2 s else (if u then nat_le h 1 && (x || (y && d' == 1)) else false)) ≡ true
    by_tests true u e x y f is = is
    by_tests false false e x y f is = is
    by_tests false true e true y f is = is
    by_tests false true e false false f is = is
    by_tests false true e false true f is =
        let r = and_parts (nat_le h 1) (d == 1) is in
        let one : d' ≡ 1 = more (eqb-true n 3 e) (eqb-true s 2 f) (eqb-true d 1 r.1) in
        both (nat_le h 1) (d' == 1) r.0 (ap (λ (x : ℕ). x == 1) one)

in_no_ring : (sizes : List (Option ℕ)) (i : ℕ) → lies_in_no_ring sizes i ≡ true → slice_get sizes i ≡ Some None
in_no_ring sizes i h = by_get (slice_get sizes i) h
  where
    by_get : (o : Option (Option ℕ)) → size_is_none o ≡ true → o ≡ Some None
    by_get None h = absurd (false≢true h)
    by_get (Some None) h = refl
    by_get (Some (Some s)) h = absurd (false≢true h)

some_size : (sizes : List (Option ℕ)) (i : ℕ) → i < length sizes → (size : Option ℕ) × (slice_get sizes i ≡ Some size)
some_size [] i less = absurd (omega arith)
some_size (x ∷ sizes) zero less = (x, refl)
some_size (x ∷ sizes) (suc i) less = some_size sizes i (omega arith)

slice_below : (bonds : List Bond) (i : ℕ) (b : Bond) → slice_get bonds i ≡ Some b → i < length bonds
slice_below [] i b h = cc
slice_below (x ∷ bonds) zero b h = omega arith
slice_below (x ∷ bonds) (suc i) b h = let r = slice_below bonds i b h in omega arith

slice_at : (bonds : List Bond) (i : ℕ) (b : Bond) → i < length bonds → get_or bonds i b ≡ b → slice_get bonds i ≡ Some b
slice_at [] i b less e = absurd (omega arith)
slice_at (x ∷ bonds) zero b less e = ap (λ (y : Bond). Some y) e
slice_at (x ∷ bonds) (suc i) b less e = slice_at bonds i b (omega arith) e

touch_ends : (c : Bond) (x y k : ℕ) → joins c x y ≡ true → (x ≡ k) ⊎ (y ≡ k) → touches c k ≡ true
touch_ends c x y k j e = elim (or_cases (c.first.0 == x && c.second.0 == y) (c.first.0 == y && c.second.0 == x) j) [
  | inl t ↦ let r = and_parts (c.first.0 == x) (c.second.0 == y) t in ends (eqb-true c.first.0 x r.0) (eqb-true c.second.0 y r.1) e
  | inr t ↦ let r = and_parts (c.first.0 == y) (c.second.0 == x) t in turned (eqb-true c.first.0 y r.0) (eqb-true c.second.0 x r.1) e
]
  where
    first : c.first.0 ≡ k → touches c k ≡ true
    first e = let t : (c.first.0 == k) ≡ true = ap (λ (z : ℕ). z == k) e ∙ same_test k in rw t refl

    or_last : (a b : Bool) → b ≡ true → (a || b) ≡ true
    or_last true b h = refl
    or_last false b h = h

    second : c.second.0 ≡ k → touches c k ≡ true
    second e = or_last (c.first.0 == k) (c.second.0 == k) (ap (λ (z : ℕ). z == k) e ∙ same_test k)

    ends : c.first.0 ≡ x → c.second.0 ≡ y → (x ≡ k) ⊎ (y ≡ k) → touches c k ≡ true
    ends ex ey (inl e) = first (ex ∙ e)
    ends ex ey (inr e) = second (ey ∙ e)

    turned : c.first.0 ≡ y → c.second.0 ≡ x → (x ≡ k) ⊎ (y ≡ k) → touches c k ≡ true
    turned ey ex (inl e) = second (ex ∙ e)
    turned ey ex (inr e) = first (ey ∙ e)

-- a double bond that is read at atom k lies in no ring, where those at its atom of the molecule lie in none
double_stays : (m n : Molecule) (sizes sizes' : List (Option ℕ)) (k : ℕ) → IsMolecule m → n.bonds ≡ read_bonds m → AreSizes m sizes → AreSizes n sizes'
    → ((i : ℕ) (c : Bond) → slice_get m.bonds i ≡ Some c → touches c (at (graph_of m) k) ≡ true → has_order m.bonds i 2 ≡ true → lies_in_no_ring sizes i ≡ true)
    → (i : ℕ) (b : Bond) → slice_get n.bonds i ≡ Some b → touches b k ≡ true → has_order n.bonds i 2 ≡ true → lies_in_no_ring sizes' i ≡ true
double_stays m n sizes sizes' k is e are are' free i b here touch double =
    let g : Graph = graph_of m in
    let (c, (i', less, found), j, order) = same_bonds m (λ j l. bond_symbol (graph_of m) j l) i b (symbols_say m is) (ap (λ (x : List Bond). slice_get x i) (sym e) ∙ here) in
    let there : slice_get m.bonds i' ≡ Some c = slice_at m.bonds i' c less found in
    let two : (b.order == 2) ≡ true = ap (λ (o : Option Bond). order_is o 2) (sym here) ∙ double in
    let double' : has_order m.bonds i' 2 ≡ true = ap (λ (o : Option Bond). order_is o 2) there ∙ ap (λ (x : ℕ). x == 2) order ∙ two in
    let ends : (at g b.first.0 ≡ at g k) ⊎ (at g b.second.0 ≡ at g k) = elim (or_cases (b.first.0 == k) (b.second.0 == k) touch) [
      | inl t ↦ inl (ap (λ (x : ℕ). at g x) (eqb-true b.first.0 k t))
      | inr t ↦ inr (ap (λ (x : ℕ). at g x) (eqb-true b.second.0 k t))
    ] in
    let none : slice_get sizes i' ≡ Some None = in_no_ring sizes i' (free i' c there (touch_ends c (at g b.first.0) (at g b.second.0) (at g k) j ends) double') in
    let within = slice_below n.bonds i b here in
    let count = are'.count in
    let (size, is_size) = some_size sizes' i (omega arith) in
    by_size size is_size c j (are.each i' None none c there)
  where
    by_size : (size : Option ℕ) → slice_get sizes' i ≡ Some size → (c : Bond) → joins c (at (graph_of m) b.first.0) (at (graph_of m) b.second.0) ≡ true → RingSizeIs m.bonds c None → lies_in_no_ring sizes' i ≡ true
    by_size None f c j no_path = ap size_is_none f
    by_size (Some s) f c j no_path =
        let r = are'.each i (Some s) f b here in
        absurd (no_path (carry m r.path) (carried_ring m r.path b c j (subst (λ (x : List Bond). IsRingOf x b r.path) e r.ring)))

free_stays : (m n : Molecule) (sizes sizes' : List (Option ℕ)) (k : ℕ) → IsMolecule m → k < length m.atoms → n.bonds ≡ read_bonds m → AreSizes m sizes → AreSizes n sizes'
    → length (half_edges m (at (graph_of m) k)) ≡ 3 → singles_at m (at (graph_of m) k) ≡ 2 → free_doubles_at m sizes (at (graph_of m) k) ≡ 1 → free_doubles_at n sizes' k ≡ 1
free_stays m n sizes sizes' k is less e are are' three singles one =
    let u : ℕ = at (graph_of m) k in
    let p : ℕ → Bool = λ i. has_order m.bonds i 2 in
    let q : ℕ → Bool = λ i. has_order m.bonds i 2 && lies_in_no_ring sizes i in
    let p' : ℕ → Bool = λ i. has_order n.bonds i 2 in
    let q' : ℕ → Bool = λ i. has_order n.bonds i 2 && lies_in_no_ring sizes' i in
    let count = half_count m u ∙ all_count m.bonds u in
    let s = sym (half_counts (λ i. has_order m.bonds i 1) (reverse m.bonds) u) ∙ singles in
    let s' = order_count m u 1 in
    let d = order_count m u 2 in
    let f = sym (half_counts q (reverse m.bonds) u) ∙ one in
    let few = apart_orders m.bonds u in
    let le = counts_le p q (reverse m.bonds) u (λ i h. (and_parts (has_order m.bonds i 2) (lies_in_no_ring sizes i) h).0) in
    let same : index_count p (reverse m.bonds) u ≡ index_count q (reverse m.bonds) u = omega arith in
    let each = counts_all p q (reverse m.bonds) u (λ i h. (and_parts (has_order m.bonds i 2) (lies_in_no_ring sizes i) h).0) same in
    let free : (i : ℕ) (c : Bond) → slice_get m.bonds i ≡ Some c → touches c u ≡ true → has_order m.bonds i 2 ≡ true → lies_in_no_ring sizes i ≡ true = λ i c here touch double.
    (and_parts (has_order m.bonds i 2) (lies_in_no_ring sizes i)
    (at_each (λ i b. touches b u ≡ true → has_order m.bonds i 2 ≡ true → (has_order m.bonds i 2 && lies_in_no_ring sizes i) ≡ true) (reverse m.bonds) each i c
    (ap (λ (x : List Bond). slice_get x i) (reverse-reverse m.bonds) ∙ here) touch double)).1 in
    let each' : EachBond (λ i b. touches b k ≡ true → has_order n.bonds i 2 ≡ (has_order n.bonds i 2 && lies_in_no_ring sizes' i)) (reverse n.bonds) = each_of (λ i b. touches b k ≡ true → has_order n.bonds i 2 ≡ (has_order n.bonds i 2 && lies_in_no_ring sizes' i)) n.bonds (λ i b here touch.
    free_test (has_order n.bonds i 2) (lies_in_no_ring sizes' i) (λ double. double_stays m n sizes sizes' k is e are are' free i b here touch double)) in
    let d' = order_count n k 2 in
    let w : order_weight (λ x. bit (x == 2)) n.bonds k ≡ order_weight (λ x. bit (x == 2)) m.bonds u = ap (λ (x : List Bond). order_weight (λ x. bit (x == 2)) x k) e ∙ read_order_weight (λ x. bit (x == 2)) m (λ j l. bond_symbol (graph_of m) j l) k is (symbols_say m is) less in
    half_counts q' (reverse n.bonds) k ∙ sym (counts_same p' q' (reverse n.bonds) k each') ∙ (let all : index_count p' (reverse n.bonds) k ≡ 1 = omega arith in all)
  where
    free_test : (a b : Bool) → (a ≡ true → b ≡ true) → a ≡ (a && b)
    free_test true b h = sym (h refl)
    free_test false b h = refl

-- An atom that may be a centre stays one that may.
pub may_stay : (m n : Molecule) (sizes sizes' : List (Option ℕ)) (k : ℕ) → IsMolecule m → k < length m.atoms → n.bonds ≡ read_bonds m
    → hydrogens_of (slice_get n.atoms k) ≡ hydrogens_of (slice_get m.atoms (at (graph_of m) k)) → AreSizes m sizes → AreSizes n sizes'
    → may_be_centre m sizes (at (graph_of m) k) ≡ true → may_be_centre n sizes' k ≡ true
may_stay m n sizes sizes' k is less e hydrogens are are' may =
    let u : ℕ = at (graph_of m) k in
    let weighed : (f : ℕ → ℕ) → order_weight f n.bonds k ≡ order_weight f m.bonds u = λ f. ap (λ (x : List Bond). order_weight f x k) e ∙ read_order_weight f m (λ j l. bond_symbol (graph_of m) j l) k is (symbols_say m is) less in
    let halves : length (half_edges n k) ≡ length (half_edges m u) = half_count n k ∙ all_count n.bonds k ∙ weighed (λ x. 1) ∙ sym (half_count m u ∙ all_count m.bonds u) in
    let singles : singles_at n k ≡ singles_at m u =
    half_counts (λ i. has_order n.bonds i 1) (reverse n.bonds) k ∙ order_count n k 1 ∙ weighed (λ x. bit (x == 1)) ∙ sym (half_counts (λ i. has_order m.bonds i 1) (reverse m.bonds) u ∙ order_count m u 1) in
    ap (λ (x : ℕ). centre_test x (hydrogens_of (slice_get n.atoms k)) (singles_at n k) (free_doubles_at n sizes' k)) halves
    ∙ ap (λ (x : ℕ). centre_test (length (half_edges m u)) x (singles_at n k) (free_doubles_at n sizes' k)) hydrogens
    ∙ ap (λ (x : ℕ). centre_test (length (half_edges m u)) (hydrogens_of (slice_get m.atoms u)) x (free_doubles_at n sizes' k)) singles
    ∙ test_kept (length (half_edges m u)) (hydrogens_of (slice_get m.atoms u)) (singles_at m u) (free_doubles_at m sizes u) (free_doubles_at n sizes' k) may
    (λ three two one. free_stays m n sizes sizes' k is less e are are' three two one)

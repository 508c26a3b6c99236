-- A barrier of the graph of the needing atoms is a barrier of the atoms, and the other way round.
use Rattle.std.proofs.Common.{◌≡◌, ℕ, zero, suc, ◌+◌, ◌≤◌, ◌<◌, List, [], ◌∷◌, ◌++◌, length, map, Bool, true, false, refl, ap, sym, ◌∙◌, inl, inr, arith, subst}
use Rattle.std.specs.Prelude.{All, ◌==◌, not, ◌&&◌, ◌||◌, if◌then◌else◌}
use Rattle.std.proofs.lemmas.Bool.{false≢true, false_from_ne_true, cases_Bool, and_parts, and_from, eqb-true, eq-eqb, cond-true, cond-false}
use Rattle.std.proofs.lemmas.List.{length-map}
use Rattle.mc_mol.specs.declared.parts.Bond.{Bond}
use Rattle.mc_mol.specs.Molecule.{joins, are_joined}
use Rattle.mc_mol.proofs.Apart.{joins_cases, joins_from}
use Rattle.match_barrier.specs.Graph.{has, NoRepeats, adjacent, neighbours_of}
use Rattle.match_barrier.specs.Barrier.{IsLeft, Walk, NamesParts, count, is_odd, is_member, part_size, names_odd_part, OddParts, IsBarrier}
use Rattle.match_barrier.proofs.Counting.{has_cases, count_same, covered}
use Rattle.match_barrier.proofs.Edges.{same_bools, has_front, has_rest}
use Rattle.match_barrier.proofs.Walks.{walk_left, name_left}
use Rattle.match_barrier.proofs.Tutte.{no_perfect, one_number}
use Rattle.match_barrier.proofs.Naming.{some_number}
use Rattle.smi_graph.specs.Candidates.{marked}
use Rattle.smi_mean.specs.Barriers.{joined_to, graph_along, needless, Rises, IsNeedBarrier}
use Rattle.smi_mean.specs.NeedGraphs.{AreApart, node_of, atom_of, IsNeedGraph, is_chosen, chosen}
use Rattle.smi_mean.proofs.Ranks.{rank_below, rank_injective, IsNth, nth_is, nth_rank, nth_le, count_over, get_or_table_start, length_table}
use Rattle.smi_mean.proofs.Passing.{passing_is, passing_has, passing_rises, passing_length, all_of, of_all}
use Rattle.smi_mean.proofs.FromPlaced.{ArePlaced, mates_of, mates_of_placed}
use Rattle.match_blossom.proofs.Rotated.{has_left, has_right, has_either}

-- The graph of the atoms along candidates

has_both : (x y : List ℕ) (b : ℕ) → x ≡ y → has x b ≡ has y b
has_both x y b e = ap (λ (z : List ℕ). has z b) e

grown : (p q x y : Bool) → p ≡ q → x ≡ y → (x || p) ≡ (y || q)
grown p q x y h k = rw (h, k) refl

same_rest : (p q y : Bool) → p ≡ q → y ≡ false → p ≡ (y || q)
same_rest p q y h k = rw (h, k) refl

pub joined_to_is : (bonds : List Bond) (a b : ℕ) → has (joined_to bonds a) b ≡ are_joined bonds a b
joined_to_is [] a b = refl
joined_to_is (t ∷ bonds) a b = elim (cases_Bool (t.first.0 == a)) [
  | inl here ↦
      has_both (joined_to (t ∷ bonds) a) (t.second.0 ∷ joined_to bonds a) b (cond-true (t.first.0 == a) (t.second.0 ∷ joined_to bonds a) (if t.second.0 == a then t.first.0 ∷ joined_to bonds a else joined_to bonds a) here)
      ∙ grown (has (joined_to bonds a) b) (are_joined bonds a b) (t.second.0 == b) (joins t a b) (joined_to_is bonds a b) (same_bools (t.second.0 == b) (joins t a b)
      (λ h. joins_from t a b (inl (eqb-true t.first.0 a here, eqb-true t.second.0 b h)))
      (λ h. eq-eqb t.second.0 b (elim (joins_cases t a b h) [
        | inl e ↦ e.1
        | inr e ↦ e.1 ∙ sym (eqb-true t.first.0 a here) ∙ e.0
      ])))
  | inr other ↦ elim (cases_Bool (t.second.0 == a)) [
    | inl here ↦
        has_both (joined_to (t ∷ bonds) a) (t.first.0 ∷ joined_to bonds a) b
        (cond-false (t.first.0 == a) (t.second.0 ∷ joined_to bonds a) (if t.second.0 == a then t.first.0 ∷ joined_to bonds a else joined_to bonds a) other
        ∙ cond-true (t.second.0 == a) (t.first.0 ∷ joined_to bonds a) (joined_to bonds a) here)
        ∙ grown (has (joined_to bonds a) b) (are_joined bonds a b) (t.first.0 == b) (joins t a b) (joined_to_is bonds a b) (same_bools (t.first.0 == b) (joins t a b)
        (λ h. joins_from t a b (inr (eqb-true t.first.0 b h, eqb-true t.second.0 a here)))
        (λ h. eq-eqb t.first.0 b (elim (joins_cases t a b h) [
          | inl e ↦ absurd (false≢true (sym other ∙ eq-eqb t.first.0 a e.0))
          | inr e ↦ e.0
        ])))
    | inr none ↦
        has_both (joined_to (t ∷ bonds) a) (joined_to bonds a) b
        (cond-false (t.first.0 == a) (t.second.0 ∷ joined_to bonds a) (if t.second.0 == a then t.first.0 ∷ joined_to bonds a else joined_to bonds a) other
        ∙ cond-false (t.second.0 == a) (t.first.0 ∷ joined_to bonds a) (joined_to bonds a) none)
        ∙ same_rest (has (joined_to bonds a) b) (are_joined bonds a b) (joins t a b) (joined_to_is bonds a b) (false_from_ne_true (joins t a b) (λ h. elim (joins_cases t a b h) [
          | inl e ↦ false≢true (sym other ∙ eq-eqb t.first.0 a e.0)
          | inr e ↦ false≢true (sym none ∙ eq-eqb t.second.0 a e.1)
        ]))
  ]
]

pub adjacent_is : (n : ℕ) (bonds : List Bond) (a b : ℕ) → a < n → adjacent (graph_along n bonds) a b ≡ are_joined bonds a b
adjacent_is n bonds a b less = has_both (neighbours_of (graph_along n bonds) a) (joined_to bonds a) b (get_or_table_start (joined_to bonds) n a [] less) ∙ joined_to_is bonds a b

-- The atoms that need nothing

pub needless_has : (k : ℕ) (needs : List Bool) (i : ℕ) → i < length needs → marked needs i ≡ false → has (needless k needs) (k + i) ≡ true
needless_has k [] i less idle = absurd (omega arith)
needless_has k (true ∷ needs) zero less idle = absurd (false≢true (sym idle))
needless_has k (false ∷ needs) zero less idle = has_front k (needless (suc k) needs) (k + 0) (omega arith)
needless_has k (true ∷ needs) (suc i) less idle = subst (λ (x : ℕ). has (needless (suc k) needs) x ≡ true) (shift k i) (needless_has (suc k) needs i (omega arith) idle)
  where
    shift : (k i : ℕ) → suc k + i ≡ k + suc i
    shift k i = omega arith
needless_has k (false ∷ needs) (suc i) less idle = has_rest k (needless (suc k) needs) (k + suc i) (subst (λ (x : ℕ). has (needless (suc k) needs) x ≡ true) (shift k i) (needless_has (suc k) needs i (omega arith) idle))
  where
    shift : (k i : ℕ) → suc k + i ≡ k + suc i
    shift k i = omega arith

pub needless_is : (k : ℕ) (needs : List Bool) (x : ℕ) → has (needless k needs) x ≡ true → (i : ℕ) × (x ≡ k + i) × (marked needs i ≡ false)
needless_is k [] x h = absurd (false≢true h)
needless_is k (true ∷ needs) x h = let (i, is, idle) = needless_is (suc k) needs x h in (suc i, omega arith, idle)
needless_is k (false ∷ needs) x h = elim (has_cases k (needless (suc k) needs) x h) [
  | inl same ↦ (0, omega arith, refl)
  | inr rest ↦ let (i, is, idle) = needless_is (suc k) needs x rest in (suc i, omega arith, idle)
]

-- what is taken away, at an atom that needs nothing and at one that needs a double bond
taken_idle : (needs : List Bool) (set : List ℕ) (k : ℕ) → k < length needs → marked needs k ≡ false → has (set ++ needless 0 needs) k ≡ true
taken_idle needs set k less idle = has_right set (needless 0 needs) k (subst (λ (x : ℕ). has (needless 0 needs) x ≡ true) (zero_plus k) (needless_has 0 needs k less idle))
  where
    zero_plus : (k : ℕ) → 0 + k ≡ k
    zero_plus k = omega arith

taken_needing : (needs : List Bool) (set : List ℕ) (k : ℕ) → marked needs k ≡ true → has (set ++ needless 0 needs) k ≡ has set k
taken_needing needs set k needed = same_bools (has (set ++ needless 0 needs) k) (has set k)
    (λ h. elim (has_either set (needless 0 needs) k h) [
      | inl first ↦ first
      | inr second ↦ let (i, is, idle) = needless_is 0 needs k second in absurd (false≢true (sym idle ∙ subst (λ (x : ℕ). marked needs x ≡ true) (omega (arith, is)) needed))
    ])
    (λ h. has_left set (needless 0 needs) k h)

-- Parts of the two graphs

-- The graph of the needing atoms, a set of its nodes, and a list of atoms that has the same atoms.
pub record Matching (needs : List Bool) (bonds : List Bond) (g : List (List ℕ)) (set atoms : List ℕ) : Type 0 where
  pub graph : IsNeedGraph needs bonds g
  pub same : (v : ℕ) → v < length g → has atoms (atom_of needs v) ≡ has set v

the_nth : (needs : List Bool) (bonds : List Bond) (g : List (List ℕ)) → IsNeedGraph needs bonds g → (v : ℕ) → v < length g → IsNth (marked needs) (length needs) v (atom_of needs v)
the_nth needs bonds g graph v less = let nodes = graph.nodes in nth_is (marked needs) (length needs) v (omega arith)

-- an atom that is left is a needing one, and its node is left
pub record LeftDown (needs : List Bool) (g : List (List ℕ)) (set : List ℕ) (a : ℕ) : Type 0 where
  pub below : a < length needs
  pub needed : marked needs a ≡ true
  pub node : IsLeft g set (node_of needs a)
  pub atom : atom_of needs (node_of needs a) ≡ a

left_down : (needs : List Bool) (bonds : List Bond) (g : List (List ℕ)) (set atoms : List ℕ) → Matching needs bonds g set atoms
    → (a : ℕ) → IsLeft (graph_along (length needs) bonds) (atoms ++ needless 0 needs) a → LeftDown needs g set a
left_down needs bonds g set atoms m a left =
    let n : ℕ = length needs in
    let long : length (graph_along n bonds) ≡ n = length_table (joined_to bonds) 0 n in
    let less = left.0 in
    let below : a < n = omega arith in
    let needed : marked needs a ≡ true = elim (cases_Bool (marked needs a)) [
      | inl h ↦ h
      | inr idle ↦ absurd (false≢true (sym left.1 ∙ taken_idle needs atoms a below idle))
    ] in
    let atom : atom_of needs (node_of needs a) ≡ a = nth_rank (marked needs) n a below needed in
    let low : node_of needs a < count n (marked needs) = rank_below (marked needs) a n below needed in
    let nodes = m.graph.nodes in
    let v_below : node_of needs a < length g = omega arith in
    record {
      below = below;
      needed = needed;
      node = (v_below, sym (m.same (node_of needs a) v_below) ∙ ap (has atoms) atom ∙ sym (taken_needing needs atoms a needed) ∙ left.1);
      atom = atom;
    }

left_up : (needs : List Bool) (bonds : List Bond) (g : List (List ℕ)) (set atoms : List ℕ) → Matching needs bonds g set atoms
    → (v : ℕ) → IsLeft g set v → IsLeft (graph_along (length needs) bonds) (atoms ++ needless 0 needs) (atom_of needs v)
left_up needs bonds g set atoms m v left =
    let n : ℕ = length needs in
    let long : length (graph_along n bonds) ≡ n = length_table (joined_to bonds) 0 n in
    let of_v = the_nth needs bonds g m.graph v left.0 in
    let b = of_v.below in
    (omega arith, taken_needing needs atoms (atom_of needs v) of_v.passes ∙ m.same v left.0 ∙ left.1)

walk_up : (needs : List Bool) (bonds : List Bond) (g : List (List ℕ)) (set atoms : List ℕ) → Matching needs bonds g set atoms
    → (u : ℕ) (ws : List ℕ) (v : ℕ) → u < length g → Walk g set u ws v → Walk (graph_along (length needs) bonds) (atoms ++ needless 0 needs) (atom_of needs u) (map (atom_of needs) ws) (atom_of needs v)
walk_up needs bonds g set atoms m u [] v less walk = ap (atom_of needs) walk
walk_up needs bonds g set atoms m u (w ∷ ws) v less walk = (
  adjacent_is (length needs) bonds (atom_of needs u) (atom_of needs w) (the_nth needs bonds g m.graph u less).below ∙ sym (m.graph.edges u w less walk.1.0) ∙ walk.0,
  left_up needs bonds g set atoms m w walk.1,
  walk_up needs bonds g set atoms m w ws v walk.1.0 walk.2,
)

walk_down : (needs : List Bool) (bonds : List Bond) (g : List (List ℕ)) (set atoms : List ℕ) → Matching needs bonds g set atoms
    → (a : ℕ) (ws : List ℕ) (b : ℕ) → IsLeft (graph_along (length needs) bonds) (atoms ++ needless 0 needs) a
    → Walk (graph_along (length needs) bonds) (atoms ++ needless 0 needs) a ws b → Walk g set (node_of needs a) (map (node_of needs) ws) (node_of needs b)
walk_down needs bonds g set atoms m a [] b left walk = ap (node_of needs) walk
walk_down needs bonds g set atoms m a (c ∷ ws) b left walk =
    let of_a = left_down needs bonds g set atoms m a left in
    let of_c = left_down needs bonds g set atoms m c walk.1 in (
      m.graph.edges (node_of needs a) (node_of needs c) of_a.node.0 of_c.node.0 ∙ ap (λ (x : ℕ). are_joined bonds x (atom_of needs (node_of needs c))) of_a.atom ∙ ap (are_joined bonds a) of_c.atom
          ∙ sym (adjacent_is (length needs) bonds a c of_a.below) ∙ walk.0,
      of_c.node,
      walk_down needs bonds g set atoms m c ws b walk.1 walk.2,
    )

-- the parts of the atoms are named by the atoms of the names of the nodes
abbrev pub atom_name : List Bool → (ℕ → ℕ) → ℕ → ℕ
atom_name needs name a = atom_of needs (name (node_of needs a))

names_up : (needs : List Bool) (bonds : List Bond) (g : List (List ℕ)) (set atoms : List ℕ) (name : ℕ → ℕ) → Matching needs bonds g set atoms → NamesParts g set name
    → NamesParts (graph_along (length needs) bonds) (atoms ++ needless 0 needs) (atom_name needs name)
names_up needs bonds g set atoms name m names = record {
  joined = λ a left.
      let of_a = left_down needs bonds g set atoms m a left in
      let walk = names.joined (node_of needs a) of_a.node in (
        map (atom_of needs) walk.0,
        subst (λ (x : ℕ). Walk (graph_along (length needs) bonds) (atoms ++ needless 0 needs) x (map (atom_of needs) walk.0) (atom_name needs name a)) of_a.atom
            (walk_up needs bonds g set atoms m (node_of needs a) walk.0 (name (node_of needs a)) of_a.node.0 walk.1),
      );
  least = λ a b left walk.
      let of_a = left_down needs bonds g set atoms m a left in
      let of_b = left_down needs bonds g set atoms m b (walk_left (graph_along (length needs) bonds) (atoms ++ needless 0 needs) a walk.0 b left walk.1) in
      let le : name (node_of needs a) ≤ node_of needs b = names.least (node_of needs a) (node_of needs b) of_a.node (map (node_of needs) walk.0, walk_down needs bonds g set atoms m a walk.0 b left walk.1) in
      let low = of_b.node.0 in
      let nodes = m.graph.nodes in
      subst (λ (x : ℕ). atom_name needs name a ≤ x) of_b.atom (nth_le (marked needs) (length needs) (name (node_of needs a)) (node_of needs b) (omega arith) le);
}

member_up : (needs : List Bool) (bonds : List Bond) (g : List (List ℕ)) (set atoms : List ℕ) (name : ℕ → ℕ) → Matching needs bonds g set atoms → NamesParts g set name
    → (r v : ℕ) → r < length g → v < length g
    → is_member (atoms ++ needless 0 needs) (atom_name needs name) (atom_of needs r) (atom_of needs v) ≡ is_member set name r v
member_up needs bonds g set atoms name m names r v r_less v_less =
    let of_v = the_nth needs bonds g m.graph v v_less in
    let of_r = the_nth needs bonds g m.graph r r_less in
    let taken : has (atoms ++ needless 0 needs) (atom_of needs v) ≡ has set v = taken_needing needs atoms (atom_of needs v) of_v.passes ∙ m.same v v_less in
    elim (cases_Bool (has set v)) [
      | inl gone ↦ both_gone (has (atoms ++ needless 0 needs) (atom_of needs v)) (has set v) (atom_name needs name (atom_of needs v) == atom_of needs r) (name v == r) (taken ∙ gone) gone
      | inr stays ↦
          let low : name v < length g = (name_left g set name names v (v_less, stays)).0 in
          let of_name = the_nth needs bonds g m.graph (name v) low in
          let renamed : atom_name needs name (atom_of needs v) ≡ atom_of needs (name v) = ap (λ (x : ℕ). atom_of needs (name x)) of_v.rank in
          both_same (has (atoms ++ needless 0 needs) (atom_of needs v)) (has set v) (atom_name needs name (atom_of needs v) == atom_of needs r) (name v == r) taken
          (same_bools (atom_name needs name (atom_of needs v) == atom_of needs r) (name v == r)
          (λ h. eq-eqb (name v) r (sym of_name.rank ∙ ap (node_of needs) (sym renamed ∙ eqb-true (atom_name needs name (atom_of needs v)) (atom_of needs r) h) ∙ of_r.rank))
          (λ h. eq-eqb (atom_name needs name (atom_of needs v)) (atom_of needs r) (renamed ∙ ap (atom_of needs) (eqb-true (name v) r h))))
    ]
  where
    both_gone : (a b c d : Bool) → a ≡ true → b ≡ true → (not a && c) ≡ (not b && d)
    both_gone a b c d ha hb = rw (ha, hb) refl

    both_same : (a b c d : Bool) → a ≡ b → c ≡ d → (not a && c) ≡ (not b && d)
    both_same a b c d h k = rw (h, k) refl

odd_both : (a b : Bool) (x y : ℕ) → a ≡ b → x ≡ y → (a && is_odd x) ≡ (b && is_odd y)
odd_both a b x y h k = rw (h, k) refl

-- an atom that is taken away is no member
member_taken : (taken : List ℕ) (name : ℕ → ℕ) (r k : ℕ) → has taken k ≡ true → is_member taken name r k ≡ false
member_taken taken name r k h = by (has taken k) (name k == r) h
  where
    by : (a b : Bool) → a ≡ true → (not a && b) ≡ false
    by a b e = rw e refl

pub parts_up : (needs : List Bool) (bonds : List Bond) (g : List (List ℕ)) (set atoms : List ℕ) (odd : ℕ) → Matching needs bonds g set atoms → OddParts g set odd
    → OddParts (graph_along (length needs) bonds) (atoms ++ needless 0 needs) odd
parts_up needs bonds g set atoms odd m (name, names, counted) = (
  atom_name needs name,
  names_up needs bonds g set atoms name m names,
  counted ∙ ap (λ (x : ℕ). count x (names_odd_part g set name)) m.graph.nodes
      ∙ count_same (count n (marked needs)) (names_odd_part g set name) (λ v. names_odd_part h t (atom_name needs name) (atom_of needs v)) (λ r less.
      let r_less : r < length g = let nodes = m.graph.nodes in omega arith in
      sym (odd_both (is_member t (atom_name needs name) (atom_of needs r) (atom_of needs r)) (is_member set name r r)
      (part_size h t (atom_name needs name) (atom_of needs r)) (part_size g set name r)
      (member_up needs bonds g set atoms name m names r r r_less r_less)
      (sizes r r_less)))
      ∙ sym (count_over (marked needs) n (names_odd_part h t (atom_name needs name)) (λ k less idle. no_name (is_member t (atom_name needs name) k k) (is_odd (part_size h t (atom_name needs name) k)) (member_taken t (atom_name needs name) k k (taken_idle needs atoms k less idle))) n (omega arith))
      ∙ ap (λ (x : ℕ). count x (names_odd_part h t (atom_name needs name))) (sym long),
)
  where
    n : ℕ
    n = length needs

    h : List (List ℕ)
    h = graph_along n bonds

    t : List ℕ
    t = atoms ++ needless 0 needs

    long : length h ≡ n
    long = length_table (joined_to bonds) 0 n

    no_name : (a b : Bool) → a ≡ false → (a && b) ≡ false
    no_name a b e = rw e refl

    sizes : (r : ℕ) → r < length g → part_size h t (atom_name needs name) (atom_of needs r) ≡ part_size g set name r
    sizes r r_less =
        ap (λ (x : ℕ). count x (is_member t (atom_name needs name) (atom_of needs r))) long
        ∙ count_over (marked needs) n (is_member t (atom_name needs name) (atom_of needs r)) (λ k less idle. member_taken t (atom_name needs name) (atom_of needs r) k (taken_idle needs atoms k less idle)) n (omega arith)
        ∙ ap (λ (x : ℕ). count x (λ v. is_member t (atom_name needs name) (atom_of needs r) (atom_of needs v))) (sym m.graph.nodes)
        ∙ count_same (length g) (λ v. is_member t (atom_name needs name) (atom_of needs r) (atom_of needs v)) (is_member set name r) (λ v v_less. member_up needs bonds g set atoms name m names r v r_less v_less)

-- The atoms of a barrier of the graph are a barrier of the atoms, in increasing order.
pub chosen_has : (needs : List Bool) (bonds : List Bond) (g : List (List ℕ)) (set : List ℕ) → IsNeedGraph needs bonds g → (v : ℕ) → v < length g → has (chosen needs set) (atom_of needs v) ≡ has set v
chosen_has needs bonds g set graph v less =
    let of_v = the_nth needs bonds g graph v less in
    same_bools (has (chosen needs set) (atom_of needs v)) (has set v)
    (λ h. ap (has set) (sym of_v.rank) ∙ (and_parts (marked needs (atom_of needs v)) (has set (node_of needs (atom_of needs v))) (passing_is (is_chosen needs set) (length needs) (atom_of needs v) h).1).1)
    (λ h. passing_has (is_chosen needs set) (length needs) (atom_of needs v) of_v.below (and_from (marked needs (atom_of needs v)) (has set (node_of needs (atom_of needs v))) of_v.passes (ap (has set) of_v.rank ∙ h)))

pub need_barrier : (needs : List Bool) (bonds : List Bond) (g : List (List ℕ)) (set : List ℕ) (odd : ℕ) → IsNeedGraph needs bonds g → IsBarrier g set odd
    → IsNeedBarrier needs bonds (chosen needs set) odd
need_barrier needs bonds g set odd graph barrier = record {
  increasing = passing_rises (is_chosen needs set) (length needs);
  needing = all_of (λ k. marked needs k ≡ true) (chosen needs set) (λ x h. (and_parts (marked needs x) (has set (node_of needs x)) (passing_is (is_chosen needs set) (length needs) x h).1).0);
  parts = parts_up needs bonds g set (chosen needs set) odd (record { graph = graph; same = chosen_has needs bonds g set graph }) barrier.0;
  more = let more = barrier.1 in let few = short in omega arith;
}
  where
    short : length (chosen needs set) ≤ length set
    short = subst (λ (x : ℕ). x ≤ length set) (sym (passing_length (is_chosen needs set) (length needs)))
        (covered set (atom_of needs) (length needs) (is_chosen needs set) (λ k less holds.
        let both = and_parts (marked needs k) (has set (node_of needs k)) holds in
        (node_of needs k, both.1, nth_rank (marked needs) (length needs) k less both.0)))

has_map : (f : ℕ → ℕ) (xs : List ℕ) (x : ℕ) → has xs x ≡ true → has (map f xs) (f x) ≡ true
has_map f [] x h = absurd (false≢true h)
has_map f (y ∷ xs) x h = elim (has_cases y xs x h) [
  | inl same ↦ has_front (f y) (map f xs) (f x) (ap f same)
  | inr rest ↦ has_rest (f y) (map f xs) (f x) (has_map f xs x rest)
]

has_of_map : (f : ℕ → ℕ) (xs : List ℕ) (z : ℕ) → has (map f xs) z ≡ true → (x : ℕ) × (has xs x ≡ true) × (f x ≡ z)
has_of_map f [] z h = absurd (false≢true h)
has_of_map f (y ∷ xs) z h = elim (has_cases (f y) (map f xs) z h) [
  | inl same ↦ (y, has_front y xs y refl, same)
  | inr rest ↦ let (x, member, is) = has_of_map f xs z rest in (x, has_rest y xs x member, is)
]

-- An atom below the bound: an atom past the list needs nothing.
pub needing_below : (needs : List Bool) (k : ℕ) → marked needs k ≡ true → k < length needs
needing_below [] k h = absurd (false≢true h)
needing_below (b ∷ needs) zero h = omega arith
needing_below (b ∷ needs) (suc k) h = let less = needing_below needs k h in omega arith

-- atoms that need a double bond are those of their nodes
nodes_same : (needs : List Bool) (bonds : List Bond) (g : List (List ℕ)) (atoms : List ℕ) → IsNeedGraph needs bonds g → All (λ k. marked needs k ≡ true) atoms
    → (v : ℕ) → v < length g → has atoms (atom_of needs v) ≡ has (map (node_of needs) atoms) v
nodes_same needs bonds g atoms graph needing v less =
    let of_v = the_nth needs bonds g graph v less in
    same_bools (has atoms (atom_of needs v)) (has (map (node_of needs) atoms) v)
    (λ h. ap (has (map (node_of needs) atoms)) (sym of_v.rank) ∙ has_map (node_of needs) atoms (atom_of needs v) h)
    (λ h. let (x, member, is) = has_of_map (node_of needs) atoms v h in
    let needed = of_all (λ k. marked needs k ≡ true) atoms needing x member in
    ap (has atoms) (ap (atom_of needs) (sym is) ∙ nth_rank (marked needs) (length needs) x (needing_below needs x needed) needed) ∙ member)

pub node_barrier : (needs : List Bool) (bonds : List Bond) (g : List (List ℕ)) (atoms : List ℕ) (odd : ℕ) → IsNeedGraph needs bonds g → IsNeedBarrier needs bonds atoms odd
    → IsBarrier g (map (node_of needs) atoms) odd
node_barrier needs bonds g atoms odd graph barrier =
    let set : List ℕ = map (node_of needs) atoms in
    let (other, parts) = some_number g set graph.graph in
    let same : odd ≡ other = one_number (graph_along (length needs) bonds) (atoms ++ needless 0 needs) odd other barrier.parts
    (parts_up needs bonds g set atoms other (record { graph = graph; same = nodes_same needs bonds g atoms graph barrier.needing }) parts) in
    let more = barrier.more in
    let long : length set ≡ length atoms = length-map atoms (node_of needs) in
    (subst (λ (x : ℕ). OddParts g set x) (sym same) parts, omega arith)

-- atoms whose nodes are a barrier
pub atoms_barrier : (needs : List Bool) (bonds : List Bond) (g : List (List ℕ)) (atoms : List ℕ) (odd : ℕ) → IsNeedGraph needs bonds g → Rises atoms → All (λ k. marked needs k ≡ true) atoms
    → IsBarrier g (map (node_of needs) atoms) odd → IsNeedBarrier needs bonds atoms odd
atoms_barrier needs bonds g atoms odd graph rises needing barrier = record {
  increasing = rises;
  needing = needing;
  parts = parts_up needs bonds g (map (node_of needs) atoms) atoms odd (record { graph = graph; same = nodes_same needs bonds g atoms graph needing }) barrier.0;
  more = let more = barrier.1 in let long = length-map atoms (node_of needs) in omega arith;
}

-- different needing atoms have different nodes
pub nodes_differ : (needs : List Bool) (atoms : List ℕ) → Rises atoms → All (λ k. marked needs k ≡ true) atoms → NoRepeats (map (node_of needs) atoms)
nodes_differ needs [] rises needing = tt
nodes_differ needs (x ∷ atoms) rises needing = (
  false_from_ne_true (has (map (node_of needs) atoms) (node_of needs x)) (λ h.
      let (y, member, is) = has_of_map (node_of needs) atoms (node_of needs x) h in
      let needed = of_all (λ k. marked needs k ≡ true) (x ∷ atoms) needing y (has_rest x atoms y member) in
      let first : marked needs x ≡ true = needing 0 x (omega arith) in
      let same : y ≡ x = rank_injective (marked needs) y x needed first is in
      let less = of_all (λ y. x < y) atoms rises.0 y member in absurd (omega arith)),
  nodes_differ needs atoms rises.1 (λ k d less. needing (suc k) d (omega arith)),
)

pub nodes_below : (needs : List Bool) (bonds : List Bond) (g : List (List ℕ)) (atoms : List ℕ) → IsNeedGraph needs bonds g → All (λ k. marked needs k ≡ true) atoms
    → All (λ v. v < length g) (map (node_of needs) atoms)
nodes_below needs bonds g [] graph needing k d less = absurd (omega arith)
nodes_below needs bonds g (x ∷ atoms) graph needing zero d less =
    let first : marked needs x ≡ true = needing 0 x (omega arith) in
    let low = rank_below (marked needs) x (length needs) (needing_below needs x first) first in
    let nodes = graph.nodes in omega arith
nodes_below needs bonds g (x ∷ atoms) graph needing (suc k) d less = nodes_below needs bonds g atoms graph (λ j e below. needing (suc j) e (omega arith)) k d (omega arith)

-- A barrier excludes a placement.
pub barrier_excludes : (needs : List Bool) (bonds placed : List Bond) (g : List (List ℕ)) (atoms : List ℕ) (odd : ℕ) → AreApart (length needs) bonds → IsNeedGraph needs bonds g
    → IsNeedBarrier needs bonds atoms odd → ArePlaced needs bonds placed → ⊥
barrier_excludes needs bonds placed g atoms odd are graph barrier is =
    no_perfect g (map (node_of needs) atoms) odd (mates_of needs placed (length g)) graph.graph (node_barrier needs bonds g atoms odd graph barrier) (mates_of_placed needs bonds placed g are graph is)

-- The numbers of the nodes, and the graph that is built candidate by candidate.
use Rattle.std.proofs.Common.{◌≡◌, ◌≢◌, ℕ, zero, suc, ◌+◌, ◌≤◌, ◌<◌, List, [], ◌∷◌, length, take, Bool, true, false, refl, ap, sym, ◌∙◌, inl, inr, arith, subst, get_or}
use Rattle.std.specs.Prelude.{◌==◌, ◌&&◌, ◌||◌, ◌⊎◌, ◌↔◌}
use Rattle.std.proofs.lemmas.Bool.{false≢true, false_from_ne_true, and_parts, and_from, or_cases, or_left, or_right, eqb-true, eq-eqb}
use Rattle.std.proofs.lemmas.List.Folds.{list_any_more}
use Rattle.std.proofs.lemmas.List.{take_all}
use Rattle.mc_mol.specs.declared.parts.Bond.{Bond}
use Rattle.mc_mol.specs.Molecule.{joins, are_joined}
use Rattle.mc_mol.proofs.Apart.{joins_cases, joins_from, turned_joins}
use Rattle.match_barrier.specs.Graph.{adjacent, IsGraph, IsEdge}
use Rattle.match_barrier.specs.Barrier.{one_if, count}
use Rattle.match_barrier.proofs.Edges.{same_bools}
use Rattle.smi_graph.specs.Candidates.{marked}
use Rattle.smi_mean.specs.NeedGraphs.{AreApart, AreInRange, Needing, numbers_from, is_edge, edge_of, node_edge, node_of, atom_of, IsNeedGraph, IsNodeGraph}
use Rattle.smi_mean.proofs.Ranks.{rank_below, rank_injective, IsNth, nth_is, nth_rank}

-- a count from one number on
count_front : (b : Bool) (needs : List Bool) (k : ℕ) → count (suc k) (marked (b ∷ needs)) ≡ one_if b + count k (marked needs)
count_front b needs zero = omega arith
count_front b needs (suc k) = let h = count_front b needs k in omega arith

pub number_at : (n : ℕ) (needs : List Bool) (k d : ℕ) → k < length needs → get_or (numbers_from n needs) k d ≡ n + node_of needs k
number_at n [] k d less = absurd (omega arith)
number_at n (b ∷ needs) zero d less = omega arith
number_at n (b ∷ needs) (suc k) d less =
    let h : get_or (numbers_from (n + one_if b) needs) k d ≡ (n + one_if b) + node_of needs k = number_at (n + one_if b) needs k d (omega arith) in
    let c = count_front b needs k in omega arith

pub number_is : (needs : List Bool) (numbers : List ℕ) (k d : ℕ) → numbers ≡ numbers_from 0 needs → k < length needs → get_or numbers k d ≡ node_of needs k
number_is needs numbers k d are less = ap (λ (x : List ℕ). get_or x k d) are ∙ (let h = number_at 0 needs k d less in omega arith)

pub length_numbers : (n : ℕ) (needs : List Bool) → length (numbers_from n needs) ≡ length needs
length_numbers n [] = refl
length_numbers n (b ∷ needs) = ap suc (length_numbers (n + one_if b) needs)

pub numbers_length : (needs : List Bool) (numbers : List ℕ) → numbers ≡ numbers_from 0 needs → length numbers ≡ length needs
numbers_length needs numbers are = ap length are ∙ length_numbers 0 needs

pub apart_in_range : (n : ℕ) (bonds : List Bond) → AreApart n bonds → AreInRange n bonds
apart_in_range n [] are k d less = absurd (omega arith)
apart_in_range n (t ∷ bonds) are zero d less = (are.0, are.1)
apart_in_range n (t ∷ bonds) are (suc k) d less = apart_in_range n bonds are.4 k d (omega arith)

pub apart_differ : (n : ℕ) (bonds : List Bond) (i : ℕ) (d : Bond) → AreApart n bonds → i < length bonds → (get_or bonds i d).first.0 ≢ (get_or bonds i d).second.0
apart_differ n [] i d are less = absurd (omega arith)
apart_differ n (t ∷ bonds) zero d are less = are.2
apart_differ n (t ∷ bonds) (suc i) d are less = apart_differ n bonds i d are.4 (omega arith)

-- no earlier bond is between the ends of a bond
later_joined : (bonds : List Bond) (i : ℕ) (d : Bond) (a b : ℕ) → i < length bonds → joins (get_or bonds i d) a b ≡ true → are_joined bonds a b ≡ true
later_joined [] i d a b less h = absurd (omega arith)
later_joined (t ∷ bonds) zero d a b less h = or_left (joins t a b) (are_joined bonds a b) h
later_joined (t ∷ bonds) (suc i) d a b less h = or_right (joins t a b) (are_joined bonds a b) (later_joined bonds i d a b (omega arith) h)

pub none_earlier : (n : ℕ) (bonds : List Bond) (i : ℕ) (d : Bond) → AreApart n bonds → i < length bonds → are_joined (take i bonds) (get_or bonds i d).first.0 (get_or bonds i d).second.0 ≡ false
none_earlier n [] i d are less = absurd (omega arith)
none_earlier n (t ∷ bonds) zero d are less = refl
none_earlier n (t ∷ bonds) (suc i) d are less =
    let u : Bond = get_or bonds i d in
    false_from_ne_true (joins t u.first.0 u.second.0 || are_joined (take i bonds) u.first.0 u.second.0) (λ h. elim (or_cases (joins t u.first.0 u.second.0) (are_joined (take i bonds) u.first.0 u.second.0) h) [
      | inl now ↦ false≢true (sym are.3 ∙ later_joined bonds i d t.first.0 t.second.0 (omega arith) (turned_joins t u now))
      | inr rest ↦ false≢true (sym (none_earlier n bonds i d are.4 (omega arith)) ∙ rest)
    ])

-- an edge between two nodes
pub edge_cases : (needs : List Bool) (u v : ℕ) (t : Bond) → edge_of needs u v t ≡ true → (is_edge needs t ≡ true) × IsEdge (node_of needs t.first.0) (node_of needs t.second.0) u v
edge_cases needs u v t h =
    let both = and_parts (is_edge needs t) ((node_of needs t.first.0 == u && node_of needs t.second.0 == v) || (node_of needs t.first.0 == v && node_of needs t.second.0 == u)) h in (
      both.0,
      elim (or_cases (node_of needs t.first.0 == u && node_of needs t.second.0 == v) (node_of needs t.first.0 == v && node_of needs t.second.0 == u) both.1) [
        | inl p ↦ let q = and_parts (node_of needs t.first.0 == u) (node_of needs t.second.0 == v) p in inl (sym (eqb-true (node_of needs t.first.0) u q.0), sym (eqb-true (node_of needs t.second.0) v q.1))
        | inr p ↦ let q = and_parts (node_of needs t.first.0 == v) (node_of needs t.second.0 == u) p in inr (sym (eqb-true (node_of needs t.second.0) u q.1), sym (eqb-true (node_of needs t.first.0) v q.0))
      ],
    )

pub edge_of_is : (needs : List Bool) (u v : ℕ) (t : Bond) → is_edge needs t ≡ true → IsEdge (node_of needs t.first.0) (node_of needs t.second.0) u v → edge_of needs u v t ≡ true
edge_of_is needs u v t edge (inl e) = and_from (is_edge needs t) ((node_of needs t.first.0 == u && node_of needs t.second.0 == v) || (node_of needs t.first.0 == v && node_of needs t.second.0 == u)) edge
    (or_left (node_of needs t.first.0 == u && node_of needs t.second.0 == v) (node_of needs t.first.0 == v && node_of needs t.second.0 == u) (and_from (node_of needs t.first.0 == u) (node_of needs t.second.0 == v) (eq-eqb (node_of needs t.first.0) u (sym e.0)) (eq-eqb (node_of needs t.second.0) v (sym e.1))))
edge_of_is needs u v t edge (inr e) = and_from (is_edge needs t) ((node_of needs t.first.0 == u && node_of needs t.second.0 == v) || (node_of needs t.first.0 == v && node_of needs t.second.0 == u)) edge
    (or_right (node_of needs t.first.0 == u && node_of needs t.second.0 == v) (node_of needs t.first.0 == v && node_of needs t.second.0 == u) (and_from (node_of needs t.first.0 == v) (node_of needs t.second.0 == u) (eq-eqb (node_of needs t.first.0) v (sym e.1)) (eq-eqb (node_of needs t.second.0) u (sym e.0))))

pub needing_ends : (needs : List Bool) (t : Bond) → is_edge needs t ≡ true → Needing needs t
needing_ends needs t h = let b = and_parts (marked needs t.first.0) (marked needs t.second.0) h in record { first = b.0; second = b.1 }

is_edge_of : (needs : List Bool) (t : Bond) → Needing needs t → is_edge needs t ≡ true
is_edge_of needs t n = and_from (marked needs t.first.0) (marked needs t.second.0) n.first n.second

-- Between two nodes there is an edge exactly where a candidate is between their atoms.
pub node_edge_is : (needs : List Bool) (bonds : List Bond) (u v : ℕ) → AreApart (length needs) bonds → u < count (length needs) (marked needs) → v < count (length needs) (marked needs)
    → node_edge needs bonds u v ≡ are_joined bonds (atom_of needs u) (atom_of needs v)
node_edge_is needs [] u v are u_less v_less = refl
node_edge_is needs (t ∷ bonds) u v are u_less v_less =
    ors (edge_of needs u v t) (joins t (atom_of needs u) (atom_of needs v)) (node_edge needs bonds u v) (are_joined bonds (atom_of needs u) (atom_of needs v))
    (same_bools (edge_of needs u v t) (joins t (atom_of needs u) (atom_of needs v)) there back)
    (node_edge_is needs bonds u v are.4 u_less v_less)
  where
    ors : (a b p q : Bool) → a ≡ b → p ≡ q → (a || p) ≡ (b || q)
    ors a b p q h k = rw (h, k) refl

    n : ℕ
    n = length needs

    of_u : IsNth (marked needs) n u (atom_of needs u)
    of_u = nth_is (marked needs) n u u_less

    of_v : IsNth (marked needs) n v (atom_of needs v)
    of_v = nth_is (marked needs) n v v_less

    there : edge_of needs u v t ≡ true → joins t (atom_of needs u) (atom_of needs v) ≡ true
    there h =
        let cases = edge_cases needs u v t h in
        let ends = needing_ends needs t cases.0 in
        let first : atom_of needs (node_of needs t.first.0) ≡ t.first.0 = nth_rank (marked needs) n t.first.0 are.0 ends.first in
        let second : atom_of needs (node_of needs t.second.0) ≡ t.second.0 = nth_rank (marked needs) n t.second.0 are.1 ends.second in
        elim cases.1 [
          | inl e ↦ joins_from t (atom_of needs u) (atom_of needs v) (inl (sym first ∙ ap (atom_of needs) (sym e.0), sym second ∙ ap (atom_of needs) (sym e.1)))
          | inr e ↦ joins_from t (atom_of needs u) (atom_of needs v) (inr (sym first ∙ ap (atom_of needs) (sym e.1), sym second ∙ ap (atom_of needs) (sym e.0)))
        ]

    back : joins t (atom_of needs u) (atom_of needs v) ≡ true → edge_of needs u v t ≡ true
    back h =
        elim (joins_cases t (atom_of needs u) (atom_of needs v) h) [
          | inl e ↦ edge_of_is needs u v t
              (is_edge_of needs t (record {
                first = subst (λ (x : ℕ). marked needs x ≡ true) (sym e.0) of_u.passes;
                second = subst (λ (x : ℕ). marked needs x ≡ true) (sym e.1) of_v.passes;
              }))
              (inl (sym of_u.rank ∙ ap (node_of needs) (sym e.0), sym of_v.rank ∙ ap (node_of needs) (sym e.1)))
          | inr e ↦ edge_of_is needs u v t
              (is_edge_of needs t (record {
                first = subst (λ (x : ℕ). marked needs x ≡ true) (sym e.0) of_v.passes;
                second = subst (λ (x : ℕ). marked needs x ≡ true) (sym e.1) of_u.passes;
              }))
              (inr (sym of_u.rank ∙ ap (node_of needs) (sym e.1), sym of_v.rank ∙ ap (node_of needs) (sym e.0)))
        ]

pub need_graph_of : (needs : List Bool) (bonds : List Bond) (g : List (List ℕ)) → AreApart (length needs) bonds → IsGraph g → IsNodeGraph needs bonds g → IsNeedGraph needs bonds g
need_graph_of needs bonds g are is built = record {
  graph = is;
  nodes = built.nodes;
  edges = λ u v u_less v_less. let nodes = built.nodes in built.edges u v ∙ node_edge_is needs bonds u v are (omega arith) (omega arith);
}

-- the nodes of an edge are different nodes
pub record NewNodes (needs : List Bool) (g : List (List ℕ)) (t : Bond) : Type 0 where
  pub first : node_of needs t.first.0 < length g
  pub second : node_of needs t.second.0 < length g
  pub different : node_of needs t.first.0 ≢ node_of needs t.second.0
  pub no_edge : adjacent g (node_of needs t.first.0) (node_of needs t.second.0) ≡ false

pub earlier_edge : (needs : List Bool) (bonds : List Bond) (t : Bond) → ((k : ℕ) (d : Bond) → k < length bonds → ((get_or bonds k d).first.0 < length needs) × ((get_or bonds k d).second.0 < length needs))
    → t.first.0 < length needs → t.second.0 < length needs → is_edge needs t ≡ true
    → node_edge needs bonds (node_of needs t.first.0) (node_of needs t.second.0) ≡ true → are_joined bonds t.first.0 t.second.0 ≡ true
earlier_edge needs [] t range first second edge h = absurd (false≢true h)
earlier_edge needs (s ∷ bonds) t range first second edge h = elim (or_cases (edge_of needs (node_of needs t.first.0) (node_of needs t.second.0) s) (node_edge needs bonds (node_of needs t.first.0) (node_of needs t.second.0)) h) [
  | inr rest ↦ or_right (joins s t.first.0 t.second.0) (are_joined bonds t.first.0 t.second.0) (earlier_edge needs bonds t (λ k d less. range (suc k) d (omega arith)) first second edge rest)
  | inl now ↦
      let cases = edge_cases needs (node_of needs t.first.0) (node_of needs t.second.0) s now in
      let ends = needing_ends needs s cases.0 in
      let own = needing_ends needs t edge in
      or_left (joins s t.first.0 t.second.0) (are_joined bonds t.first.0 t.second.0) (elim cases.1 [
        | inl e ↦ joins_from s t.first.0 t.second.0 (inl (rank_injective (marked needs) s.first.0 t.first.0 ends.first own.first (sym e.0), rank_injective (marked needs) s.second.0 t.second.0 ends.second own.second (sym e.1)))
        | inr e ↦ joins_from s t.first.0 t.second.0 (inr (rank_injective (marked needs) s.first.0 t.second.0 ends.first own.second (sym e.1), rank_injective (marked needs) s.second.0 t.first.0 ends.second own.first (sym e.0)))
      ])
]

range_of_take : (n : ℕ) (bonds : List Bond) (i : ℕ) → AreInRange n bonds → AreInRange n (take i bonds)
range_of_take n bonds zero range k d less = absurd (omega arith)
range_of_take n [] (suc i) range k d less = absurd (omega arith)
range_of_take n (t ∷ bonds) (suc i) range zero d less = range zero t (omega arith)
range_of_take n (t ∷ bonds) (suc i) range (suc k) d less = range_of_take n bonds i (λ j e below. range (suc j) e (omega arith)) k d (omega arith)

pub new_nodes : (needs : List Bool) (bonds : List Bond) (g : List (List ℕ)) (i : ℕ) (d : Bond) → AreApart (length needs) bonds → i < length bonds → IsNodeGraph needs (take i bonds) g → is_edge needs (get_or bonds i d) ≡ true
    → NewNodes needs g (get_or bonds i d)
new_nodes needs bonds g i d are less built edge =
    let n : ℕ = length needs in
    let t : Bond = get_or bonds i d in
    let range = apart_in_range n bonds are i d less in
    let ends = needing_ends needs t edge in
    let nodes = built.nodes in
    let a : node_of needs t.first.0 < count n (marked needs) = rank_below (marked needs) t.first.0 n range.0 ends.first in
    let b : node_of needs t.second.0 < count n (marked needs) = rank_below (marked needs) t.second.0 n range.1 ends.second in
    record {
      first = omega arith;
      second = omega arith;
      different = λ e. apart_differ n bonds i d are less (rank_injective (marked needs) t.first.0 t.second.0 ends.first ends.second e);
      no_edge = built.edges (node_of needs t.first.0) (node_of needs t.second.0) ∙ false_from_ne_true (node_edge needs (take i bonds) (node_of needs t.first.0) (node_of needs t.second.0)) (λ h.
          false≢true (sym (none_earlier n bonds i d are less) ∙ earlier_edge needs (take i bonds) t (range_of_take n bonds i (apart_in_range n bonds are)) range.0 range.1 edge h));
    }

-- one bond more, an edge or not
pub edge_more : (needs : List Bool) (bonds : List Bond) (g new : List (List ℕ)) (i : ℕ) (d : Bond) → i < length bonds → IsNodeGraph needs (take i bonds) g → is_edge needs (get_or bonds i d) ≡ true
    → length new ≡ length g
    → ((u v : ℕ) → (adjacent new u v ≡ true) ↔ ((adjacent g u v ≡ true) ⊎ IsEdge (node_of needs (get_or bonds i d).first.0) (node_of needs (get_or bonds i d).second.0) u v))
    → IsNodeGraph needs (take (i + 1) bonds) new
edge_more needs bonds g new i d less built edge long edges = record {
  nodes = long ∙ built.nodes;
  edges = λ u v. same_bools (adjacent new u v) (node_edge needs (take i bonds) u v || edge_of needs u v (get_or bonds i d))
      (λ h. elim ((edges u v).0 h) [
        | inl old ↦ or_left (node_edge needs (take i bonds) u v) (edge_of needs u v (get_or bonds i d)) (sym (built.edges u v) ∙ old)
        | inr now ↦ or_right (node_edge needs (take i bonds) u v) (edge_of needs u v (get_or bonds i d)) (edge_of_is needs u v (get_or bonds i d) edge now)
      ])
      (λ h. (edges u v).1 (elim (or_cases (node_edge needs (take i bonds) u v) (edge_of needs u v (get_or bonds i d)) h) [
        | inl old ↦ inl (built.edges u v ∙ old)
        | inr now ↦ inr (edge_cases needs u v (get_or bonds i d) now).1
      ])) ∙ sym (list_any_more (edge_of needs u v) bonds i d less);
}

pub edge_skip : (needs : List Bool) (bonds : List Bond) (g : List (List ℕ)) (i : ℕ) (d : Bond) → i < length bonds → IsNodeGraph needs (take i bonds) g → is_edge needs (get_or bonds i d) ≡ false → IsNodeGraph needs (take (i + 1) bonds) g
edge_skip needs bonds g i d less built none = record {
  nodes = built.nodes;
  edges = λ u v. built.edges u v ∙ sym (list_any_more (edge_of needs u v) bonds i d less ∙ by (node_edge needs (take i bonds) u v) (is_edge needs (get_or bonds i d))
      ((node_of needs (get_or bonds i d).first.0 == u && node_of needs (get_or bonds i d).second.0 == v) || (node_of needs (get_or bonds i d).first.0 == v && node_of needs (get_or bonds i d).second.0 == u)) none);
}
  where
    by : (a b c : Bool) → b ≡ false → (a || (b && c)) ≡ a
    by true b c h = refl
    by false b c h = rw h refl

-- the same over the numbers that the loop has
pub fresh_nodes : (needs : List Bool) (bonds : List Bond) (g : List (List ℕ)) (i : ℕ) (d : Bond) (first second : ℕ) → AreApart (length needs) bonds → i < length bonds → IsNodeGraph needs (take i bonds) g → is_edge needs (get_or bonds i d) ≡ true
    → first ≡ node_of needs (get_or bonds i d).first.0 → second ≡ node_of needs (get_or bonds i d).second.0 → (first ≢ second) × (adjacent g first second ≡ false)
fresh_nodes needs bonds g i d first second are less built edge first_is second_is =
    let new = new_nodes needs bonds g i d are less built edge in
    (λ e. new.different (sym first_is ∙ e ∙ second_is), ap (λ (x : ℕ). adjacent g x second) first_is ∙ ap (adjacent g (node_of needs (get_or bonds i d).first.0)) second_is ∙ new.no_edge)

pub edge_step : (needs : List Bool) (bonds : List Bond) (g new : List (List ℕ)) (i : ℕ) (d : Bond) (first second : ℕ) → i < length bonds → IsNodeGraph needs (take i bonds) g → is_edge needs (get_or bonds i d) ≡ true
    → first ≡ node_of needs (get_or bonds i d).first.0 → second ≡ node_of needs (get_or bonds i d).second.0 → length new ≡ length g
    → ((u v : ℕ) → (adjacent new u v ≡ true) ↔ ((adjacent g u v ≡ true) ⊎ IsEdge first second u v))
    → IsNodeGraph needs (take (i + 1) bonds) new
edge_step needs bonds g new i d first second less built edge first_is second_is long edges =
    edge_more needs bonds g new i d less built edge long
    (subst (λ (x : ℕ). (u v : ℕ) → (adjacent new u v ≡ true) ↔ ((adjacent g u v ≡ true) ⊎ IsEdge (node_of needs (get_or bonds i d).first.0) x u v)) second_is
    (subst (λ (x : ℕ). (u v : ℕ) → (adjacent new u v ≡ true) ↔ ((adjacent g u v ≡ true) ⊎ IsEdge x second u v)) first_is edges))

pub built_all : (needs : List Bool) (bonds : List Bond) (g : List (List ℕ)) (i : ℕ) → length bonds ≤ i → IsNodeGraph needs (take i bonds) g → IsNodeGraph needs bonds g
built_all needs bonds g i le built = subst (λ (x : List Bond). IsNodeGraph needs x g) (take_all i bonds le) built

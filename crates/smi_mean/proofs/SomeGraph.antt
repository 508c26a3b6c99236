-- There is a graph of the needing atoms, so barriers and placements exclude each other whatever builds it.
use Rattle.std.proofs.Common.{◌≡◌, ℕ, ◌<◌, List, [], ◌∷◌, length, Bool, true, ap, sym, ◌∙◌, inl, inr, arith, subst}
use Rattle.std.proofs.lemmas.Bool.{cases_lt, false≢true, false_from_ne_true, or_cases}
use Rattle.mc_mol.specs.declared.parts.Bond.{Bond}
use Rattle.mc_mol.specs.Molecule.{joins, are_joined}
use Rattle.mc_mol.proofs.Apart.{joins_cases, are_joined_turned}
use Rattle.match_barrier.specs.Graph.{has, NoRepeats, adjacent, neighbours_of}
use Rattle.match_barrier.specs.Barrier.{count}
use Rattle.match_barrier.proofs.Edges.{same_bools}
use Rattle.smi_graph.specs.Candidates.{marked}
use Rattle.smi_mean.specs.Barriers.{table, IsNeedBarrier}
use Rattle.smi_mean.specs.RingNumbers.{passing}
use Rattle.smi_mean.specs.NeedGraphs.{AreApart, atom_of, IsNeedGraph}
use Rattle.smi_mean.proofs.Ranks.{get_or_table_start, get_or_table_past, length_table}
use Rattle.smi_mean.proofs.Passing.{passing_is, passing_has, passing_rises, rises_differ}
use Rattle.smi_mean.proofs.FromPlaced.{ArePlaced}
use Rattle.smi_mean.proofs.NeedBarriers.{barrier_excludes}

no_loop : (n : ℕ) (bonds : List Bond) (a : ℕ) → AreApart n bonds → are_joined bonds a a ≡ true → ⊥
no_loop n [] a are h = false≢true h
no_loop n (t ∷ bonds) a are h = elim (or_cases (joins t a a) (are_joined bonds a a) h) [
  | inl here ↦ elim (joins_cases t a a here) [
    | inl e ↦ are.2 (e.0 ∙ sym e.1)
    | inr e ↦ are.2 (e.0 ∙ sym e.1)
  ]
  | inr rest ↦ no_loop n bonds a are.4 rest
]

abbrev nodes_beside : List Bool → List Bond → ℕ → ℕ → List ℕ
nodes_beside needs bonds m u = passing (λ v. are_joined bonds (atom_of needs u) (atom_of needs v)) m

abbrev graph_of : List Bool → List Bond → ℕ → List (List ℕ)
graph_of needs bonds m = table (nodes_beside needs bonds m) 0 m

row_of : (needs : List Bool) (bonds : List Bond) (m u : ℕ) → u < m → neighbours_of (graph_of needs bonds m) u ≡ nodes_beside needs bonds m u
row_of needs bonds m u less = get_or_table_start (nodes_beside needs bonds m) m u [] less

record Between (needs : List Bool) (bonds : List Bond) (m u v : ℕ) : Type 0 where
  pub first : u < m
  pub second : v < m
  pub candidate : are_joined bonds (atom_of needs u) (atom_of needs v) ≡ true

between_of : (needs : List Bool) (bonds : List Bond) (m u v : ℕ) → adjacent (graph_of needs bonds m) u v ≡ true → Between needs bonds m u v
between_of needs bonds m u v h = elim (cases_lt u m) [
  | inl less ↦
      let p = passing_is (λ w. are_joined bonds (atom_of needs u) (atom_of needs w)) m v (ap (λ (row : List ℕ). has row v) (sym (row_of needs bonds m u less)) ∙ h) in
      record { first = less; second = p.0; candidate = p.1 }
  | inr past ↦ absurd (false≢true (ap (λ (row : List ℕ). has row v) (sym (get_or_table_past (nodes_beside needs bonds m) 0 m u [] past)) ∙ h))
]

of_between : (needs : List Bool) (bonds : List Bond) (m u v : ℕ) → Between needs bonds m u v → adjacent (graph_of needs bonds m) u v ≡ true
of_between needs bonds m u v b = ap (λ (row : List ℕ). has row v) (row_of needs bonds m u b.first) ∙ passing_has (λ w. are_joined bonds (atom_of needs u) (atom_of needs w)) m v b.second b.candidate

turned : (needs : List Bool) (bonds : List Bond) (m u v : ℕ) → Between needs bonds m u v → Between needs bonds m v u
turned needs bonds m u v b = record { first = b.second; second = b.first; candidate = are_joined_turned bonds (atom_of needs v) (atom_of needs u) ∙ b.candidate }

pub some_need_graph : (needs : List Bool) (bonds : List Bond) → AreApart (length needs) bonds → (g : List (List ℕ)) × IsNeedGraph needs bonds g
some_need_graph needs bonds are = (
  g,
  record {
    graph = record {
      in_range = λ u v h. subst (λ (x : ℕ). v < x) (sym long) (between_of needs bonds m u v h).second;
      symmetric = λ u v. same_bools (adjacent g u v) (adjacent g v u)
          (λ h. of_between needs bonds m v u (turned needs bonds m u v (between_of needs bonds m u v h)))
          (λ h. of_between needs bonds m u v (turned needs bonds m v u (between_of needs bonds m v u h)));
      loop_free = λ u. false_from_ne_true (adjacent g u u) (λ h. no_loop (length needs) bonds (atom_of needs u) are (between_of needs bonds m u u h).candidate);
      no_repeats = λ u. elim (cases_lt u m) [
        | inl less ↦ subst NoRepeats (sym (row_of needs bonds m u less)) (rises_differ (nodes_beside needs bonds m u) (passing_rises (λ w. are_joined bonds (atom_of needs u) (atom_of needs w)) m))
        | inr past ↦ subst NoRepeats (sym (get_or_table_past (nodes_beside needs bonds m) 0 m u [] past)) tt
      ];
    };
    nodes = long;
    edges = λ u v u_less v_less. same_bools (adjacent g u v) (are_joined bonds (atom_of needs u) (atom_of needs v))
        (λ h. (between_of needs bonds m u v h).candidate)
        (λ h. of_between needs bonds m u v (record { first = omega (arith, long); second = omega (arith, long); candidate = h }));
  },
)
  where
    m : ℕ
    m = count (length needs) (marked needs)

    g : List (List ℕ)
    g = graph_of needs bonds m

    long : length g ≡ m
    long = length_table (nodes_beside needs bonds m) 0 m

-- A barrier excludes every placement, whatever builds a graph.
pub never_both : (needs : List Bool) (bonds placed : List Bond) (set : List ℕ) (odd : ℕ) → AreApart (length needs) bonds → IsNeedBarrier needs bonds set odd → ArePlaced needs bonds placed → ⊥
never_both needs bonds placed set odd are barrier is =
    let (g, graph) = some_need_graph needs bonds are in barrier_excludes needs bonds placed g set odd are graph barrier is

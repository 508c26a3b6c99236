-- A list of atoms is looked at once before its nodes are.
use Rattle.std.proofs.Common.{◌≡◌, ◌∙◌, ℕ, zero, suc, ◌+◌, ◌≤◌, ◌<◌, List, [], ◌∷◌, length, map, Bool, true, false, refl, ap, sym, subst, arith}
use Rattle.std.specs.Prelude.{All, ◌↔◌, IsTrue, Option, Some, None, IfSome, IfNone, ◌==◌, nat_le}
use Rattle.std.proofs.lemmas.Bool.{false≢true, and_parts, and_from, eqb-true, eq-eqb}
use Rattle.std.proofs.lemmas.Bool.Decides.{nat_tests}
use Rattle.mc_base.specs.declared.ids.AtomId.{AtomId}
use Rattle.mc_mol.specs.declared.parts.Bond.{Bond}
use Rattle.match_barrier.specs.Barrier.{IsBarrier}
use Rattle.match_barrier.specs.Graph.{NoRepeats}
use Rattle.match_barrier.proofs.Edges.{same_bools}
use Rattle.match_barrier.proofs.Tutte.{one_number}
use Rattle.smi_graph.specs.declared.skel_atom.SkelAtom.{SkelAtom}
use Rattle.smi_graph.specs.declared.text_bond.TextBond.{TextBond}
use Rattle.smi_graph.specs.Candidates.{marked, AreCandidates}
use Rattle.smi_graph.specs.Links.{bond_of}
use Rattle.smi_graph.specs.Skeletons.{TextGraph, IsTextGraph}
use Rattle.smi_mean.specs.Barriers.{Rises, graph_along, marked_from, needs_of, marked_bonds, IsNeedBarrier, number_of, IsBarrierIn}
use Rattle.smi_mean.specs.BarrierTests.{is_next, rises_among, is_found}
use Rattle.smi_mean.specs.NeedGraphs.{node_of, IsNeedGraph}
use Rattle.smi_mean.proofs.NeedBarriers.{needing_below, node_barrier, atoms_barrier, nodes_differ, nodes_below}
use Rattle.smi_mean.proofs.PlacedBonds.{bond_at, bonds_count, graph_of_found}

-- The test

all_cons : (P : ℕ → Type 0) (x : ℕ) (xs : List ℕ) → P x → All P xs → All P (x ∷ xs)
all_cons P x xs first rest zero d less = first
all_cons P x xs first rest (suc k) d less = rest k d (omega arith)

-- what passes
pub record Passes (needs : List Bool) (least : ℕ) (numbers : List ℕ) : Type 0 where
  pub rises : Rises numbers
  pub needing : All (λ k. marked needs k ≡ true) numbers
  pub high : All (λ k. least ≤ k) numbers

le_of : (a b : ℕ) → nat_le a b ≡ true → a ≤ b
le_of a b h = grind (arith, nat_tests)

of_le : (a b : ℕ) → a ≤ b → nat_le a b ≡ true
of_le a b h = grind (arith, nat_tests)

pub passes_of : (needs : List Bool) (least : ℕ) (atoms : List AtomId) → rises_among needs least atoms ≡ true → Passes needs least (map number_of atoms)
passes_of needs least [] h = record { rises = tt; needing = λ k d less. absurd (omega arith); high = λ k d less. absurd (omega arith) }
passes_of needs least (a ∷ atoms) h =
    let both = and_parts (is_next needs least a) (rises_among needs (a.0 + 1) atoms) h in
    let next = and_parts (nat_le least a.0) (marked needs a.0) both.0 in
    let low : least ≤ a.0 = le_of least a.0 next.0 in
    let rest = passes_of needs (a.0 + 1) atoms both.1 in
    record {
      rises = (λ k d less. let above = rest.high k d less in omega arith, rest.rises);
      needing = all_cons (λ k. marked needs k ≡ true) a.0 (map number_of atoms) next.1 rest.needing;
      high = all_cons (λ k. least ≤ k) a.0 (map number_of atoms) low (λ k d less. let above = rest.high k d less in omega arith);
    }

of_passes : (needs : List Bool) (least : ℕ) (atoms : List AtomId) → Passes needs least (map number_of atoms) → rises_among needs least atoms ≡ true
of_passes needs least [] p = refl
of_passes needs least (a ∷ atoms) p =
    and_from (is_next needs least a) (rises_among needs (a.0 + 1) atoms)
    (and_from (nat_le least a.0) (marked needs a.0) (of_le least a.0 (p.high 0 0 (omega arith))) (p.needing 0 0 (omega arith)))
    (of_passes needs (a.0 + 1) atoms (record {
      rises = p.rises.1;
      needing = λ k d less. p.needing (suc k) d (omega arith);
      high = λ k d less. let above = p.rises.0 k d less in omega arith;
    }))

-- A barrier passes.
pub barrier_passes : (atoms : List SkelAtom) (bonds : List TextBond) (barrier : List AtomId) (odd : ℕ) → IsBarrierIn atoms bonds barrier odd → rises_among (needs_of atoms bonds) 0 barrier ≡ true
barrier_passes atoms bonds barrier odd by = of_passes (needs_of atoms bonds) 0 barrier (record { rises = by.is.increasing; needing = by.is.needing; high = λ k d less. omega arith })

pub passing_below : (needs : List Bool) (atoms : List AtomId) → rises_among needs 0 atoms ≡ true → All (λ (atom : AtomId). atom.0 < length needs) atoms
passing_below needs atoms h = below atoms (passes_of needs 0 atoms h).needing
  where
    below : (atoms : List AtomId) → All (λ k. marked needs k ≡ true) (map number_of atoms) → All (λ (atom : AtomId). atom.0 < length needs) atoms
    below [] needing k d less = absurd (omega arith)
    below (a ∷ atoms) needing zero d less = needing_below needs a.0 (needing 0 0 (omega arith))
    below (a ∷ atoms) needing (suc k) d less = below atoms (λ j e inside. needing (suc j) e (omega arith)) k d (omega arith)

pub passing_differ : (needs : List Bool) (atoms : List AtomId) (nodes : List ℕ) → rises_among needs 0 atoms ≡ true → nodes ≡ map (node_of needs) (map number_of atoms) → NoRepeats nodes
passing_differ needs atoms nodes h are = let p = passes_of needs 0 atoms h in subst NoRepeats (sym are) (nodes_differ needs (map number_of atoms) p.rises p.needing)

pub passing_in_range : (needs : List Bool) (bonds : List Bond) (g : List (List ℕ)) (atoms : List AtomId) (nodes : List ℕ) → IsNeedGraph needs bonds g → rises_among needs 0 atoms ≡ true
    → nodes ≡ map (node_of needs) (map number_of atoms) → All (λ v. v < length g) nodes
passing_in_range needs bonds g atoms nodes graph h are =
    subst (λ (x : List ℕ). All (λ v. v < length g) x) (sym are) (nodes_below needs bonds g (map number_of atoms) graph (passes_of needs 0 atoms h).needing)

-- Two lists that mark the candidates of a skeleton mark the same bonds.

same_marked : (marks others : List Bool) (j : ℕ) (bonds : List Bond) → ((k : ℕ) → k < length bonds → marked marks (j + k) ≡ marked others (j + k)) → marked_from marks j bonds ≡ marked_from others j bonds
same_marked marks others j [] same = refl
same_marked marks others j (b ∷ bonds) same =
    let here : marked marks j ≡ marked others j = first (same 0 (omega arith)) in
    let rest : marked_from marks (j + 1) bonds ≡ marked_from others (j + 1) bonds = same_marked marks others (j + 1) bonds later in
    rw (here, rest) refl
  where
    first : marked marks (j + 0) ≡ marked others (j + 0) → marked marks j ≡ marked others j
    first e = let h : j + 0 ≡ j = omega arith in subst (λ (n : ℕ). marked marks n ≡ marked others n) h e

    later : (k : ℕ) → k < length bonds → marked marks (j + 1 + k) ≡ marked others (j + 1 + k)
    later k less = let e : j + suc k ≡ j + 1 + k = omega arith in subst (λ (n : ℕ). marked marks n ≡ marked others n) e (same (suc k) (omega arith))

pub marks_agree : (atoms : List SkelAtom) (bonds : List TextBond) (marks others : List Bool) → AreCandidates atoms bonds marks → AreCandidates atoms bonds others
    → (k : ℕ) → k < length bonds → marked marks k ≡ marked others k
marks_agree atoms bonds marks others are also k less =
    let (b, at) = bond_at bonds k less in
    same_bools (marked marks k) (marked others k) (λ h. (also k b at).1 ((are k b at).0 h)) (λ h. (are k b at).1 ((also k b at).0 h))

pub one_marking : (atoms : List SkelAtom) (bonds : List TextBond) (marks others : List Bool) → AreCandidates atoms bonds marks → AreCandidates atoms bonds others
    → marked_bonds marks bonds ≡ marked_bonds others bonds
one_marking atoms bonds marks others are also =
    same_marked marks others 0 (map bond_of bonds) (λ k less.
    let e : k ≡ 0 + k = omega arith in
    let size = bonds_count bonds in subst (λ (n : ℕ). marked marks n ≡ marked others n) e (marks_agree atoms bonds marks others are also k (omega arith)))

marked_as : (atoms : List SkelAtom) (bonds : List TextBond) (barrier : List AtomId) (odd : ℕ) (marks : List Bool) → AreCandidates atoms bonds marks → IsBarrierIn atoms bonds barrier odd
    → IsNeedBarrier (needs_of atoms bonds) (marked_bonds marks bonds) (map number_of barrier) odd
marked_as atoms bonds barrier odd marks are by =
    subst (λ (x : List Bond). IsNeedBarrier (needs_of atoms bonds) x (map number_of barrier) odd) (one_marking atoms bonds by.candidates marks by.are are) by.is

-- The nodes decide.

pub barrier_by_nodes : (graph : TextGraph) (needs : List Bool) (g : List (List ℕ)) (barrier : List AtomId) (nodes : List ℕ) (odd : ℕ) → IsTextGraph graph → needs ≡ needs_of graph.atoms graph.bonds
    → IsNeedGraph needs (marked_bonds graph.candidates graph.bonds) g → rises_among needs 0 barrier ≡ true → nodes ≡ map (node_of needs) (map number_of barrier) → IsBarrier g nodes odd
    → IsBarrierIn graph.atoms graph.bonds barrier odd
barrier_by_nodes graph needs g barrier nodes odd is same built h are barrier_is =
    let p = passes_of needs 0 barrier h in
    record {
      candidates = graph.candidates;
      are = is.candidates;
      is = subst (λ (x : List Bool). IsNeedBarrier x (marked_bonds graph.candidates graph.bonds) (map number_of barrier) odd) same
          (atoms_barrier needs (marked_bonds graph.candidates graph.bonds) g (map number_of barrier) odd built p.rises p.needing (subst (λ (x : List ℕ). IsBarrier g x odd) are barrier_is));
    }

pub no_barrier_by_nodes : (graph : TextGraph) (needs : List Bool) (g : List (List ℕ)) (barrier : List AtomId) (nodes : List ℕ) → IsTextGraph graph → needs ≡ needs_of graph.atoms graph.bonds
    → IsNeedGraph needs (marked_bonds graph.candidates graph.bonds) g → nodes ≡ map (node_of needs) (map number_of barrier) → ((odd : ℕ) → IsBarrier g nodes odd → ⊥)
    → (odd : ℕ) → IsBarrierIn graph.atoms graph.bonds barrier odd → ⊥
no_barrier_by_nodes graph needs g barrier nodes is same built are none odd by =
    none odd (subst (λ (x : List ℕ). IsBarrier g x odd) (sym are)
    (node_barrier needs (marked_bonds graph.candidates graph.bonds) g (map number_of barrier) odd built
    (subst (λ (x : List Bool). IsNeedBarrier x (marked_bonds graph.candidates graph.bonds) (map number_of barrier) odd) (sym same) (marked_as graph.atoms graph.bonds barrier odd graph.candidates is.candidates by))))

-- a barrier has one number of odd parts
pub one_odd : (graph : TextGraph) (barrier : List AtomId) (odd other : ℕ) → IsTextGraph graph → IsBarrierIn graph.atoms graph.bonds barrier odd → IsBarrierIn graph.atoms graph.bonds barrier other → odd ≡ other
one_odd graph barrier odd other is by also =
    one_number (graph_along (length (needs_of graph.atoms graph.bonds)) (marked_bonds graph.candidates graph.bonds)) _ odd other
    (marked_as graph.atoms graph.bonds barrier odd graph.candidates is.candidates by).parts (marked_as graph.atoms graph.bonds barrier other graph.candidates is.candidates also).parts

pub odd_decides : (graph : TextGraph) (barrier : List AtomId) (found odd : ℕ) → IsTextGraph graph → IsBarrierIn graph.atoms graph.bonds barrier found
    → IsTrue (found == odd) ↔ IsBarrierIn graph.atoms graph.bonds barrier odd
odd_decides graph barrier found odd is by = (
  (λ same. subst (λ (n : ℕ). IsBarrierIn graph.atoms graph.bonds barrier n) (eqb-true found odd same) by),
  (λ also. eq-eqb found odd (one_odd graph barrier found odd is by also)),
)

-- The same of what was found

pub some_found : (graph : TextGraph) (needs : List Bool) (bonds found : List Bond) (g : List (List ℕ)) (barrier : List AtomId) (nodes : List ℕ) (o : Option ℕ) → IsTextGraph graph
    → needs ≡ needs_of graph.atoms graph.bonds → bonds ≡ map bond_of graph.bonds → found ≡ marked_from graph.candidates 0 bonds → IsNeedGraph needs found g → rises_among needs 0 barrier ≡ true
    → nodes ≡ map (node_of needs) (map number_of barrier) → IfSome o (IsBarrier g nodes) → IfSome o (IsBarrierIn graph.atoms graph.bonds barrier)
some_found graph needs bonds found g barrier nodes None is same bonds_are found_is built h are by = tt
some_found graph needs bonds found g barrier nodes (Some odd) is same bonds_are found_is built h are by =
    barrier_by_nodes graph needs g barrier nodes odd is same (graph_of_found graph needs bonds found g bonds_are found_is built) h are by

pub none_found : (graph : TextGraph) (needs : List Bool) (bonds found : List Bond) (g : List (List ℕ)) (barrier : List AtomId) (nodes : List ℕ) (o : Option ℕ) → IsTextGraph graph
    → needs ≡ needs_of graph.atoms graph.bonds → bonds ≡ map bond_of graph.bonds → found ≡ marked_from graph.candidates 0 bonds → IsNeedGraph needs found g
    → nodes ≡ map (node_of needs) (map number_of barrier) → IfNone o ((odd : ℕ) → IsBarrier g nodes odd → ⊥) → IfNone o ((odd : ℕ) → IsBarrierIn graph.atoms graph.bonds barrier odd → ⊥)
none_found graph needs bonds found g barrier nodes None is same bonds_are found_is built are none =
    no_barrier_by_nodes graph needs g barrier nodes is same (graph_of_found graph needs bonds found g bonds_are found_is built) are none
none_found graph needs bonds found g barrier nodes (Some odd) is same bonds_are found_is built are none = tt

pub found_decides : (graph : TextGraph) (barrier : List AtomId) (o : Option ℕ) (odd : ℕ) → IsTextGraph graph → IfSome o (IsBarrierIn graph.atoms graph.bonds barrier)
    → IfNone o ((odd : ℕ) → IsBarrierIn graph.atoms graph.bonds barrier odd → ⊥) → IsTrue (is_found o odd) ↔ IsBarrierIn graph.atoms graph.bonds barrier odd
found_decides graph barrier None odd is some none = ((λ h. absurd (false≢true h)), (λ by. absurd (none odd by)))
found_decides graph barrier (Some found) odd is some none = odd_decides graph barrier found odd is some

pub not_passing : (graph : TextGraph) (needs : List Bool) (barrier : List AtomId) (odd : ℕ) → needs ≡ needs_of graph.atoms graph.bonds → (rises_among needs 0 barrier ≡ true → ⊥)
    → IsTrue false ↔ IsBarrierIn graph.atoms graph.bonds barrier odd
not_passing graph needs barrier odd same fails = (
  (λ h. absurd (false≢true h)),
  (λ by. absurd (fails (ap (λ (x : List Bool). rises_among x 0 barrier) same ∙ barrier_passes graph.atoms graph.bonds barrier odd by))),
)

-- Placements and barriers of a skeleton, by its candidates and placed bonds as lists.
use Rattle.std.proofs.Common.{◌≡◌, ◌∙◌, ℕ, zero, suc, ◌+◌, ◌≤◌, ◌<◌, List, [], ◌∷◌, length, get_or, map, Bool, true, false, Some, refl, ap, sym, subst, inl, inr, arith}
use Rattle.std.specs.List.{All, AllPairs}
use Rattle.std.specs.Prelude.{slice_get, ◌&&◌, if◌then◌else◌}
use Rattle.std.proofs.lemmas.Bool.{false≢true, false_from_ne_true, and_parts, or_cases, or_from, or_left, or_right}
use Rattle.mc_mol.specs.declared.parts.Bond.{Bond}
use Rattle.mc_mol.specs.Molecule.{Molecule, bond_sum, touches, joins, are_joined}
use Rattle.mc_mol.specs.WellFormed.{IsBond}
use Rattle.mc_mol.proofs.Apart.{joins_from, joins_ends}
use Rattle.match_barrier.specs.Barrier.{one_if, IsBarrier}
use Rattle.match_barrier.specs.Matching.{IsPerfect}
use Rattle.mc_base.specs.declared.ids.AtomId.{AtomId}
use Rattle.smi_graph.specs.declared.skel_atom.SkelAtom.{SkelAtom}
use Rattle.smi_graph.specs.declared.text_bond.TextBond.{TextBond}
use Rattle.smi_graph.specs.Candidates.{marked, IsCandidate, AreCandidates}
use Rattle.smi_graph.specs.Rules.{atoms_in, bonds_in, text_bonds_in}
use Rattle.smi_mean.specs.Meaning.{atoms_with, without_stereo, meaning, with_centres}
use Rattle.smi_mean.specs.MeantCentres.{text_centres}
use Rattle.smi_graph.specs.Links.{bond_of}
use Rattle.smi_graph.specs.Skeletons.{TextGraph, IsTextGraph, AreBonds}
use Rattle.smi_mean.specs.Needs.{needs_in, needs}
use Rattle.smi_mean.specs.Placements.{placed_at, IsPlacement, HasNoPlacement, raised_bond, raised, IsMoleculeOf}
use Rattle.smi_mean.specs.Barriers.{needs_from, marked_from, needs_of, marked_bonds, IsNeedBarrier, number_of, IsBarrierIn}
use Rattle.smi_mean.specs.Meant.{IsBarred}
use Rattle.smi_mean.specs.NeedGraphs.{AreApart, AreInRange, counted, IsNeedGraph, is_mated, mated_from, chosen}
use Rattle.smi_mean.proofs.PlacementTest.{placement_by}
use Rattle.smi_mean.proofs.FromMates.{mated_once}
use Rattle.smi_mean.proofs.FromPlaced.{ArePlaced, mates_of, mates_of_placed}
use Rattle.smi_mean.proofs.NeedBarriers.{need_barrier}
use Rattle.smi_mean.proofs.SomeGraph.{never_both}
use Rattle.smi_mean.proofs.NodeGraphs.{apart_in_range}

-- Needs

needs_at : (bonds : List Bond) (j : ℕ) (atoms : List SkelAtom) (k : ℕ) → marked (needs_from bonds j atoms) k ≡ needs_in (slice_get atoms k) (bond_sum bonds (j + k))
needs_at bonds j [] k = refl
needs_at bonds j (a ∷ atoms) zero = let e : j ≡ j + 0 = omega arith in ap (λ (n : ℕ). needs_in (Some a) (bond_sum bonds n)) e
needs_at bonds j (a ∷ atoms) (suc k) =
    let e : j + 1 + k ≡ j + suc k = omega arith in
    needs_at bonds (j + 1) atoms k ∙ ap (λ (n : ℕ). needs_in (slice_get atoms k) (bond_sum bonds n)) e

pub needs_of_is : (atoms : List SkelAtom) (bonds : List TextBond) (k : ℕ) → marked (needs_of atoms bonds) k ≡ needs atoms (map bond_of bonds) k
needs_of_is atoms bonds k =
    let e : 0 + k ≡ k = omega arith in
    needs_at (map bond_of bonds) 0 atoms k ∙ ap (λ (n : ℕ). needs_in (slice_get atoms k) (bond_sum (map bond_of bonds) n)) e

pub length_needs : (bonds : List Bond) (j : ℕ) (atoms : List SkelAtom) → length (needs_from bonds j atoms) ≡ length atoms
length_needs bonds j [] = refl
length_needs bonds j (a ∷ atoms) = ap suc (length_needs bonds (j + 1) atoms)

-- Bonds of which no two join one pair

none_joined : (b : Bond) (bonds : List Bond) → ((j : ℕ) (d : Bond) → j < length bonds → joins b (get_or bonds j d).first.0 (get_or bonds j d).second.0 ≡ false)
    → are_joined bonds b.first.0 b.second.0 ≡ false
none_joined b [] none = refl
none_joined b (c ∷ bonds) none = or_from (joins c b.first.0 b.second.0) (are_joined bonds b.first.0 b.second.0)
    (false_from_ne_true (joins c b.first.0 b.second.0) (λ h. false≢true (sym (none 0 c (omega arith)) ∙ joins_ends b c b.first.0 b.second.0 (joins_from b b.first.0 b.second.0 (inl (refl, refl))) h)))
    (none_joined b bonds (λ j d less. none (suc j) d (omega arith)))

apart_by : (n : ℕ) (bonds : List Bond) → All (IsBond n) bonds → AllPairs (λ (b c : Bond). joins b c.first.0 c.second.0 ≡ false) bonds → AreApart n bonds
apart_by n [] each once = tt
apart_by n (b ∷ bonds) each once =
    let is = each 0 b (omega arith) in (
      is.first,
      is.second,
      is.different,
      none_joined b bonds (λ j d less. once 0 (suc j) d (omega arith) (omega arith)),
      apart_by n bonds (λ k d less. each (suc k) d (omega arith)) (λ i j d less inside. once (suc i) (suc j) d (omega arith) (omega arith)),
    )

pub apart_of : (n : ℕ) (bonds : List Bond) → AreBonds n bonds → AreApart n bonds
apart_of n bonds sound = apart_by n bonds sound.each sound.once

-- The marked ones of bonds

marked_joined : (marks : List Bool) (j : ℕ) (bonds : List Bond) (a b : ℕ) → are_joined (marked_from marks j bonds) a b ≡ true → are_joined bonds a b ≡ true
marked_joined marks j [] a b h = h
marked_joined marks j (c ∷ bonds) a b h = by_mark (marked marks j) (marked_joined marks (j + 1) bonds a b) h
  where
    by_mark : (t : Bool) → (are_joined (marked_from marks (j + 1) bonds) a b ≡ true → are_joined bonds a b ≡ true)
        → are_joined (if t then c ∷ marked_from marks (j + 1) bonds else marked_from marks (j + 1) bonds) a b ≡ true → are_joined (c ∷ bonds) a b ≡ true
    by_mark true more e = elim (or_cases (joins c a b) (are_joined (marked_from marks (j + 1) bonds) a b) e) [
      | inl here ↦ or_left (joins c a b) (are_joined bonds a b) here
      | inr rest ↦ or_right (joins c a b) (are_joined bonds a b) (more rest)
    ]
    by_mark false more e = or_right (joins c a b) (are_joined bonds a b) (more e)

apart_marked : (n : ℕ) (marks : List Bool) (j : ℕ) (bonds : List Bond) → AreApart n bonds → AreApart n (marked_from marks j bonds)
apart_marked n marks j [] are = tt
apart_marked n marks j (b ∷ bonds) are = by_mark (marked marks j) (apart_marked n marks (j + 1) bonds are.4)
  where
    by_mark : (t : Bool) → AreApart n (marked_from marks (j + 1) bonds) → AreApart n (if t then b ∷ marked_from marks (j + 1) bonds else marked_from marks (j + 1) bonds)
    by_mark true rest = (
      are.0,
      are.1,
      are.2,
      false_from_ne_true (are_joined (marked_from marks (j + 1) bonds) b.first.0 b.second.0) (λ h. false≢true (sym are.3 ∙ marked_joined marks (j + 1) bonds b.first.0 b.second.0 h)),
      rest,
    )
    by_mark false rest = rest

marked_among : (marks others : List Bool) (j : ℕ) (bonds : List Bond) → ((k : ℕ) → k < length bonds → marked marks (j + k) ≡ true → marked others (j + k) ≡ true)
    → (a b : ℕ) → are_joined (marked_from marks j bonds) a b ≡ true → are_joined (marked_from others j bonds) a b ≡ true
marked_among marks others j [] also a b h = h
marked_among marks others j (c ∷ bonds) also a b h =
    by_marks (marked marks j) (marked others j) (first (also 0 (omega arith))) (marked_among marks others (j + 1) bonds later a b) h
  where
    first : (marked marks (j + 0) ≡ true → marked others (j + 0) ≡ true) → marked marks j ≡ true → marked others j ≡ true
    first f = let here : j + 0 ≡ j = omega arith in subst (λ (n : ℕ). marked marks n ≡ true → marked others n ≡ true) here f

    later : (k : ℕ) → k < length bonds → marked marks (j + 1 + k) ≡ true → marked others (j + 1 + k) ≡ true
    later k less = let e : j + suc k ≡ j + 1 + k = omega arith in subst (λ (n : ℕ). marked marks n ≡ true → marked others n ≡ true) e (also (suc k) (omega arith))

    by_marks : (s t : Bool) → (s ≡ true → t ≡ true) → (are_joined (marked_from marks (j + 1) bonds) a b ≡ true → are_joined (marked_from others (j + 1) bonds) a b ≡ true)
        → are_joined (if s then c ∷ marked_from marks (j + 1) bonds else marked_from marks (j + 1) bonds) a b ≡ true
        → are_joined (if t then c ∷ marked_from others (j + 1) bonds else marked_from others (j + 1) bonds) a b ≡ true
    by_marks true true f rest e = elim (or_cases (joins c a b) (are_joined (marked_from marks (j + 1) bonds) a b) e) [
      | inl now ↦ or_left (joins c a b) (are_joined (marked_from others (j + 1) bonds) a b) now
      | inr more ↦ or_right (joins c a b) (are_joined (marked_from others (j + 1) bonds) a b) (rest more)
    ]
    by_marks true false f rest e = absurd (false≢true (f refl))
    by_marks false true f rest e = or_right (joins c a b) (are_joined (marked_from others (j + 1) bonds) a b) (rest e)
    by_marks false false f rest e = rest e

none_marked : (bonds : List Bond) (j : ℕ) → marked_from [] j bonds ≡ []
none_marked [] j = refl
none_marked (b ∷ bonds) j = none_marked bonds (j + 1)

marked_behind : (mark : Bool) (marks : List Bool) (j : ℕ) (bonds : List Bond) → marked_from (mark ∷ marks) (suc j) bonds ≡ marked_from marks j bonds
marked_behind mark marks j [] = refl
marked_behind mark marks j (b ∷ bonds) =
    let e : suc j + 1 ≡ suc (j + 1) = omega arith in
    ap (λ (xs : List Bond). if marked marks j then b ∷ xs else xs) (ap (λ (n : ℕ). marked_from (mark ∷ marks) n bonds) e ∙ marked_behind mark marks (j + 1) bonds)

placed_counted : (bonds : List Bond) (placed : List Bool) (a : ℕ) → placed_at bonds placed a ≡ counted (λ t. touches t a) (marked_from placed 0 bonds)
placed_counted [] placed a = refl
placed_counted (b ∷ bonds) [] a = sym (ap (counted (λ t. touches t a)) (none_marked bonds 1))
placed_counted (b ∷ bonds) (p ∷ placed) a =
    by_mark p (placed_counted bonds placed a) ∙ ap (λ (xs : List Bond). counted (λ t. touches t a) (if p then b ∷ xs else xs)) (sym (marked_behind p placed 0 bonds))
  where
    zero : (n m : ℕ) → n ≡ m → 0 + n ≡ m
    zero n m e = omega arith

    one : (t : Bool) (n m : ℕ) → n ≡ m → (if t then 1 else 0) + n ≡ one_if t + m
    one true n m e = omega arith
    one false n m e = omega arith

    by_mark : (t : Bool) → placed_at bonds placed a ≡ counted (λ t. touches t a) (marked_from placed 0 bonds)
        → (if t && touches b a then 1 else 0) + placed_at bonds placed a ≡ counted (λ t. touches t a) (if t then b ∷ marked_from placed 0 bonds else marked_from placed 0 bonds)
    by_mark true rest = one (touches b a) (placed_at bonds placed a) _ rest
    by_mark false rest = zero (placed_at bonds placed a) _ rest

pub bond_at : {A : Type 0} (xs : List A) (k : ℕ) → k < length xs → (x : A) × (slice_get xs k ≡ Some x)
bond_at [] k less = absurd (omega arith)
bond_at (x ∷ xs) zero less = (x, refl)
bond_at (x ∷ xs) (suc k) less = bond_at xs k (omega arith)

pub bonds_count : (bonds : List TextBond) → length (map bond_of bonds) ≡ length bonds
bonds_count [] = refl
bonds_count (b ∷ bonds) = ap suc (bonds_count bonds)

-- the placed bonds of a placement
pub placed_of : (atoms : List SkelAtom) (bonds : List TextBond) (candidates placed : List Bool) → AreCandidates atoms bonds candidates → IsPlacement atoms bonds placed
    → ArePlaced (needs_of atoms bonds) (marked_bonds candidates bonds) (marked_bonds placed bonds)
placed_of atoms bonds candidates placed are is = record {
  among = marked_among placed candidates 0 (map bond_of bonds) marked_at;
  once = λ k less. sym (placed_counted (map bond_of bonds) placed k) ∙ is.once k ∙ one (needs atoms (map bond_of bonds) k) (marked (needs_of atoms bonds) k) (sym (needs_of_is atoms bonds k));
}
  where
    marked_at : (k : ℕ) → k < length (map bond_of bonds) → marked placed (0 + k) ≡ true → marked candidates (0 + k) ≡ true
    marked_at k less =
        let e : k ≡ 0 + k = omega arith in
        let same = bonds_count bonds in
        let (b, at) = bond_at bonds k (omega arith) in
        subst (λ (n : ℕ). marked placed n ≡ true → marked candidates n ≡ true) e (λ h. (are k b at).1 (is.candidates k b at h))

    one : (s t : Bool) → s ≡ t → (if s then 1 else 0) ≡ one_if t
    one true true e = refl
    one true false e = cc
    one false true e = cc
    one false false e = refl

apart_in : (graph : TextGraph) (candidates : List Bool) → IsTextGraph graph → AreApart (length (needs_of graph.atoms graph.bonds)) (marked_bonds candidates graph.bonds)
apart_in graph candidates is = subst (λ (n : ℕ). AreApart n (marked_bonds candidates graph.bonds)) (sym (length_needs (map bond_of graph.bonds) 0 graph.atoms))
    (apart_marked (length graph.atoms) candidates 0 (map bond_of graph.bonds) (apart_of (length graph.atoms) (map bond_of graph.bonds) is.sound))

pub candidates_apart : (graph : TextGraph) → IsTextGraph graph → AreApart (length (needs_of graph.atoms graph.bonds)) (marked_bonds graph.candidates graph.bonds)
candidates_apart graph is = apart_in graph graph.candidates is

-- The laws, of a skeleton

mated_marked : (needing : List Bool) (mates : List ℕ) (candidates : List Bool) (j : ℕ) (bonds : List Bond) (k : ℕ) → marked (mated_from needing mates candidates j bonds) k ≡ true → marked candidates (j + k) ≡ true
mated_marked needing mates candidates j [] k h = absurd (false≢true h)
mated_marked needing mates candidates j (b ∷ bonds) zero h =
    let e : j ≡ j + 0 = omega arith in
    subst (λ (n : ℕ). marked candidates n ≡ true) e (and_parts (marked candidates j) (is_mated needing mates b) h).0
mated_marked needing mates candidates j (b ∷ bonds) (suc k) h =
    let e : j + 1 + k ≡ j + suc k = omega arith in
    subst (λ (n : ℕ). marked candidates n ≡ true) e (mated_marked needing mates candidates (j + 1) bonds k h)

length_mated : (needing : List Bool) (mates : List ℕ) (candidates : List Bool) (j : ℕ) (bonds : List Bond) → length (mated_from needing mates candidates j bonds) ≡ length bonds
length_mated needing mates candidates j [] = refl
length_mated needing mates candidates j (b ∷ bonds) = ap suc (length_mated needing mates candidates (j + 1) bonds)

-- A perfect matching of the needing atoms gives a placement.
pub placement_of_matching : (graph : TextGraph) (g : List (List ℕ)) (mates : List ℕ) → IsTextGraph graph
    → IsNeedGraph (needs_of graph.atoms graph.bonds) (marked_bonds graph.candidates graph.bonds) g → IsPerfect g mates
    → IsPlacement graph.atoms graph.bonds (mated_from (needs_of graph.atoms graph.bonds) mates graph.candidates 0 (map bond_of graph.bonds))
placement_of_matching graph g mates is built perfect =
    let bonds : List Bond = map bond_of graph.bonds in
    let needing : List Bool = needs_of graph.atoms graph.bonds in
    let long = length_needs bonds 0 graph.atoms in
    placement_by graph (mated_from needing mates graph.candidates 0 bonds) is (length_mated needing mates graph.candidates 0 bonds ∙ bonds_count graph.bonds)
    (λ k less h. let e : 0 + k ≡ k = omega arith in subst (λ (n : ℕ). marked graph.candidates n ≡ true) e (mated_marked needing mates graph.candidates 0 bonds k h))
    (λ a less. mated_once needing graph.candidates bonds g mates (candidates_apart graph is) built perfect a (omega arith) ∙ ap (λ (t : Bool). if t then 1 else 0) (needs_of_is graph.atoms graph.bonds a))

-- Where no matching is perfect there is no placement.
pub no_placement_without_matching : (graph : TextGraph) (g : List (List ℕ)) → IsTextGraph graph
    → IsNeedGraph (needs_of graph.atoms graph.bonds) (marked_bonds graph.candidates graph.bonds) g → ((mates : List ℕ) → IsPerfect g mates → ⊥)
    → HasNoPlacement graph.atoms graph.bonds
no_placement_without_matching graph g is built none placed placement =
    let needing : List Bool = needs_of graph.atoms graph.bonds in
    let of_bonds : List Bond = marked_bonds placed graph.bonds in
    none (mates_of needing of_bonds (length g))
    (mates_of_placed needing (marked_bonds graph.candidates graph.bonds) of_bonds g (candidates_apart graph is) built (placed_of graph.atoms graph.bonds graph.candidates placed is.candidates placement))

-- A barrier of the graph is one of the skeleton: the atoms of its nodes, in increasing order.
pub barrier_of_nodes : (graph : TextGraph) (g : List (List ℕ)) (set : List ℕ) (barrier : List AtomId) (odd : ℕ) → IsTextGraph graph
    → IsNeedGraph (needs_of graph.atoms graph.bonds) (marked_bonds graph.candidates graph.bonds) g → IsBarrier g set odd
    → map number_of barrier ≡ chosen (needs_of graph.atoms graph.bonds) set → IsBarrierIn graph.atoms graph.bonds barrier odd
barrier_of_nodes graph g set barrier odd is built barrier_is same = record {
  candidates = graph.candidates;
  are = is.candidates;
  is = subst (λ (x : List ℕ). IsNeedBarrier (needs_of graph.atoms graph.bonds) (marked_bonds graph.candidates graph.bonds) x odd) (sym same)
      (need_barrier (needs_of graph.atoms graph.bonds) (marked_bonds graph.candidates graph.bonds) g set odd built barrier_is);
}

-- A barrier excludes every placement.
pub barrier_excludes_placement : (graph : TextGraph) (barrier : List AtomId) (odd : ℕ) (placed : List Bool) → IsTextGraph graph → IsBarrierIn graph.atoms graph.bonds barrier odd
    → IsPlacement graph.atoms graph.bonds placed → ⊥
barrier_excludes_placement graph barrier odd placed is by placement =
    never_both (needs_of graph.atoms graph.bonds) (marked_bonds by.candidates graph.bonds) (marked_bonds placed graph.bonds) (map number_of barrier) odd
    (apart_in graph by.candidates is) by.is (placed_of graph.atoms graph.bonds by.candidates placed by.are placement)

-- The answer for a barrier of the graph.
pub barred_by : (graph : TextGraph) (needing : List Bool) (g : List (List ℕ)) (set : List ℕ) (barrier : List AtomId) (odd : ℕ) → IsTextGraph graph → needing ≡ needs_of graph.atoms graph.bonds
    → IsNeedGraph needing (marked_bonds graph.candidates graph.bonds) g → IsBarrier g set odd → ((mates : List ℕ) → IsPerfect g mates → ⊥) → map number_of barrier ≡ chosen needing set → IsBarred graph barrier odd
barred_by graph needing g set barrier odd is same built barrier_is none chosen_is =
    let built_here : IsNeedGraph (needs_of graph.atoms graph.bonds) (marked_bonds graph.candidates graph.bonds) g =
    subst (λ (x : List Bool). IsNeedGraph x (marked_bonds graph.candidates graph.bonds) g) same built in
    record {
      barrier_is = barrier_of_nodes graph g set barrier odd is built_here barrier_is (chosen_is ∙ ap (λ (x : List Bool). chosen x set) same);
      none = no_placement_without_matching graph g is built_here none;
    }

-- Where no bond is a candidate, none is placed: a text stands for one molecule.

unmarked_raised : (bonds : List Bond) (placed : List Bool) → ((k : ℕ) → k < length bonds → marked placed k ≡ false) → raised placed bonds ≡ bonds
unmarked_raised [] placed none = refl
unmarked_raised (b ∷ bonds) [] none = refl
unmarked_raised (b ∷ bonds) (p ∷ placed) none = by_mark p (none 0 (omega arith)) (unmarked_raised bonds placed (λ k less. none (suc k) (omega arith)))
  where
    by_mark : (t : Bool) → t ≡ false → raised placed bonds ≡ bonds → raised_bond t b ∷ raised placed bonds ≡ b ∷ bonds
    by_mark true e rest = absurd (false≢true (sym e))
    by_mark false e rest = ap (λ (xs : List Bond). b ∷ xs) rest

plain_is : (text : List ℕ) (m : Molecule) → ((k : ℕ) (b : TextBond) → slice_get (text_bonds_in text) k ≡ Some b → IsCandidate (atoms_in text) (text_bonds_in text) b → ⊥) → IsMoleculeOf text m → m ≡ meaning text
plain_is text m plain is =
    is.molecule ∙ ap (λ (bonds : List Bond). with_centres (text_centres text) (without_stereo (atoms_with (bonds_in text) 0 (atoms_in text)) bonds)) (unmarked_raised (bonds_in text) is.placed (λ k less.
    false_from_ne_true (marked is.placed k) (λ h.
    let same = bonds_count (text_bonds_in text) in
    let (b, at) = bond_at (text_bonds_in text) k (omega arith) in plain k b at (is.placement.candidates k b at h))))

pub plain_molecule : (text : List ℕ) (m n : Molecule) → ((k : ℕ) (b : TextBond) → slice_get (text_bonds_in text) k ≡ Some b → IsCandidate (atoms_in text) (text_bonds_in text) b → ⊥)
    → IsMoleculeOf text m → IsMoleculeOf text n → m ≡ n
plain_molecule text m n plain is also = plain_is text m plain is ∙ sym (plain_is text n plain also)

-- What the program asks for

pub few_needs : (graph : TextGraph) (needing : List Bool) → IsTextGraph graph → needing ≡ needs_of graph.atoms graph.bonds → length needing ≤ 999
few_needs graph needing is same =
    let size = ap (λ (x : List Bool). length x) same in
    let long = length_needs (map bond_of graph.bonds) 0 graph.atoms in
    let few = is.few_atoms in omega arith

pub few_bonds : (graph : TextGraph) (bonds : List Bond) → IsTextGraph graph → bonds ≡ map bond_of graph.bonds → length bonds ≤ 999
few_bonds graph bonds is same =
    let size = ap (λ (x : List Bond). length x) same in
    let long = bonds_count graph.bonds in
    let few = is.few_bonds in omega arith

needing_apart : (graph : TextGraph) (needing : List Bool) (bonds : List Bond) → IsTextGraph graph → needing ≡ needs_of graph.atoms graph.bonds → bonds ≡ map bond_of graph.bonds → AreApart (length needing) bonds
needing_apart graph needing bonds is same bonds_are =
    let size : length graph.atoms ≡ length needing = sym (ap (λ (x : List Bool). length x) same ∙ length_needs (map bond_of graph.bonds) 0 graph.atoms) in
    subst (λ (n : ℕ). AreApart n bonds) size (subst (λ (x : List Bond). AreApart (length graph.atoms) x) (sym bonds_are) (apart_of (length graph.atoms) (map bond_of graph.bonds) is.sound))

pub bonds_in_range : (graph : TextGraph) (needing : List Bool) (bonds : List Bond) → IsTextGraph graph → needing ≡ needs_of graph.atoms graph.bonds → bonds ≡ map bond_of graph.bonds → AreInRange (length needing) bonds
bonds_in_range graph needing bonds is same bonds_are = apart_in_range (length needing) bonds (needing_apart graph needing bonds is same bonds_are)

pub found_apart : (graph : TextGraph) (needing : List Bool) (bonds found : List Bond) → IsTextGraph graph → needing ≡ needs_of graph.atoms graph.bonds → bonds ≡ map bond_of graph.bonds
    → found ≡ marked_from graph.candidates 0 bonds → AreApart (length needing) found
found_apart graph needing bonds found is same bonds_are found_is =
    subst (λ (x : List Bond). AreApart (length needing) x) (sym found_is) (apart_marked (length needing) graph.candidates 0 bonds (needing_apart graph needing bonds is same bonds_are))

pub found_in_range : (graph : TextGraph) (needing : List Bool) (bonds found : List Bond) → IsTextGraph graph → needing ≡ needs_of graph.atoms graph.bonds → bonds ≡ map bond_of graph.bonds
    → found ≡ marked_from graph.candidates 0 bonds → AreInRange (length needing) found
found_in_range graph needing bonds found is same bonds_are found_is = apart_in_range (length needing) found (found_apart graph needing bonds found is same bonds_are found_is)

-- the graph of what was found is that of the skeleton
pub graph_of_found : (graph : TextGraph) (needing : List Bool) (bonds found : List Bond) (g : List (List ℕ)) → bonds ≡ map bond_of graph.bonds → found ≡ marked_from graph.candidates 0 bonds
    → IsNeedGraph needing found g → IsNeedGraph needing (marked_bonds graph.candidates graph.bonds) g
graph_of_found graph needing bonds found g bonds_are found_is built =
    subst (λ (x : List Bond). IsNeedGraph needing x g) (found_is ∙ ap (λ (x : List Bond). marked_from graph.candidates 0 x) bonds_are) built

pub placed_by : (graph : TextGraph) (needing : List Bool) (bonds found : List Bond) (g : List (List ℕ)) (mates : List ℕ) (placed : List Bool) → IsTextGraph graph → needing ≡ needs_of graph.atoms graph.bonds
    → bonds ≡ map bond_of graph.bonds → found ≡ marked_from graph.candidates 0 bonds → IsNeedGraph needing found g → IsPerfect g mates → placed ≡ mated_from needing mates graph.candidates 0 bonds
    → IsPlacement graph.atoms graph.bonds placed
placed_by graph needing bonds found g mates placed is same bonds_are found_is built perfect placed_is =
    let built_here : IsNeedGraph (needs_of graph.atoms graph.bonds) (marked_bonds graph.candidates graph.bonds) g =
    subst (λ (x : List Bool). IsNeedGraph x (marked_bonds graph.candidates graph.bonds) g) same (graph_of_found graph needing bonds found g bonds_are found_is built) in
    subst (λ (x : List Bool). IsPlacement graph.atoms graph.bonds x)
    (sym (placed_is ∙ ap (λ (x : List Bool). mated_from x mates graph.candidates 0 bonds) same ∙ ap (λ (x : List Bond). mated_from (needs_of graph.atoms graph.bonds) mates graph.candidates 0 x) bonds_are))
    (placement_of_matching graph g mates is built_here perfect)

pub needs_by : (graph : TextGraph) (atoms : List SkelAtom) (bonds : List Bond) (needing : List Bool) → atoms ≡ graph.atoms → bonds ≡ map bond_of graph.bonds → needing ≡ needs_from bonds 0 atoms
    → needing ≡ needs_of graph.atoms graph.bonds
needs_by graph atoms bonds needing atoms_are bonds_are is =
    is ∙ ap (λ (x : List SkelAtom). needs_from bonds 0 x) atoms_are ∙ ap (λ (x : List Bond). needs_from x 0 graph.atoms) bonds_are

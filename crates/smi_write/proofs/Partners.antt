-- The partners of an atom's ring bonds, by its half-edges.
use Rattle.std.proofs.Common.{◌≡◌, ◌≢◌, ℕ, zero, suc, ◌+◌, ◌-◌, ◌≤◌, ◌<◌, List, [], ◌∷◌, ◌++◌, length, map, get_or, Bool, true, false, Option, Some, None, refl, ap, sym, ◌∙◌, inl, inr, arith}
use Rattle.std.specs.Prelude.{◌⊎◌, ◌==◌, ◌&&◌, ◌||◌, not, nat_lt, if◌then◌else◌}
use Rattle.std.specs.List.{All, list_any}
use Rattle.std.proofs.lemmas.Bool.{cases_lt, cases_eq, false≢true, ne_eqb, and_parts}
use Rattle.std.proofs.lemmas.Bool.Decides.{nat_tests}
use Rattle.std.proofs.lemmas.List.{get_or-map}
use Rattle.std.proofs.lemmas.Option.{same_Some}
use Rattle.mc_base.specs.declared.ids.AtomId.{AtomId}
use Rattle.mc_mol.specs.declared.parts.HalfEdge.{HalfEdge}
use Rattle.mc_mol.specs.Molecule.{Molecule, are_joined}
use Rattle.mc_mol.specs.HalfEdges.{half_edges, AllHaveTwins}
use Rattle.mc_mol.proofs.Lists.{All-head, All-tail}
use Rattle.mc_mol.proofs.Halves.{are_joined-half_edges, same_test}
use Rattle.smi_graph.specs.Links.{or_else}
use Rattle.smi_mean.specs.Order.{Graph, graph_of, least, some_if, order, rank, parents, atoms, at, has_ring}
use Rattle.smi_mean.specs.RingNumbers.{passing}
use Rattle.smi_write.specs.declared.order.WrittenAtoms.{WrittenAtoms}
use Rattle.smi_write.specs.Lesser.{lowest}
use Rattle.smi_write.specs.WrittenOrder.{IsWrittenOrder, rank_behind, opens_ring}
use Rattle.smi_write.proofs.Least.{least_all, least_some}
use Rattle.smi_write.proofs.Walk.{grown, rank_le, length_parents}
use Rattle.smi_write.proofs.Once.{each_written, at_rank, rank_at, below_count, length_steps, length_atoms}
use Rattle.smi_write.proofs.Lowest.{lowest_is, least_cong}
use Rattle.smi_write.proofs.Advance.{halves_within}

-- Atoms and ranks

pub length_order : (g : Graph) → length (order g) ≡ g.count
length_order g = length_steps g g.count (omega arith)

pub atom_found : (m : Molecule) (w : WrittenAtoms) (k : ℕ) (a : AtomId) → IsWrittenOrder m w → k < length m.atoms → a ≡ get_or w.atoms.items k a → a.0 ≡ at (graph_of m) k
atom_found m w k a h less e =
    let len = length_atoms (order (graph_of m)) in
    let count : length (order (graph_of m)) ≡ length m.atoms = length_order (graph_of m) in
    let found : get_or (map (λ (u : ℕ). let made : AtomId = record { 0 = u } in made) (atoms (order (graph_of m)))) k a ≡ record { 0 = at (graph_of m) k } =
    get_or-map (λ (u : ℕ). let made : AtomId = record { 0 = u } in made) (atoms (order (graph_of m))) k 0 a (omega arith) in
    ap (λ (x : AtomId). x.0) (e ∙ ap (λ (x : List AtomId). get_or x k a) h.atoms_are ∙ found)

pub at_below : (m : Molecule) (k : ℕ) → k < length m.atoms → at (graph_of m) k < length m.atoms
at_below m k less = let count = length_order (graph_of m) in below_count (graph_of m) (order (graph_of m)) k (grown (graph_of m) (length m.atoms)) (let c : length (order (graph_of m)) ≡ length m.atoms = count in omega arith)

pub rank_of_at : (m : Molecule) (k : ℕ) → k < length m.atoms → rank (order (graph_of m)) (at (graph_of m) k) ≡ suc k
rank_of_at m k less =
    let count : length (order (graph_of m)) ≡ length m.atoms = length_order (graph_of m) in rank_at (graph_of m) (order (graph_of m)) k (grown (graph_of m) (length m.atoms)) (omega arith)

pub at_of_rank : (m : Molecule) (v l : ℕ) → rank (order (graph_of m)) v ≡ suc l → at (graph_of m) l ≡ v
at_of_rank m v l e = at_rank (order (graph_of m)) v l e

-- One half-edge

same_tests : (a p l : ℕ) (q : Bool) → p ≡ suc l → ((nat_lt (a + 1) p && q) && p - 1 == l) ≡ (true && (nat_lt a l && q))
same_tests a p l q e =
    let key : (p - 1 == l) ≡ true = grind (arith, nat_tests) in
    let less : nat_lt (a + 1) p ≡ nat_lt a l = by_cases (cases_lt a l) in rw (key, less) (both (nat_lt a l && q))
  where
    both : (b : Bool) → (b && true) ≡ b
    both true = refl
    both false = refl

    by_cases : (a < l) ⊎ (l ≤ a) → nat_lt (a + 1) p ≡ nat_lt a l
    by_cases (inl h) = let x : nat_lt (a + 1) p ≡ true = grind (arith, nat_tests) in let y : nat_lt a l ≡ true = grind (arith, nat_tests) in x ∙ sym y
    by_cases (inr h) = let x : nat_lt (a + 1) p ≡ false = grind (arith, nat_tests) in let y : nat_lt a l ≡ false = grind (arith, nat_tests) in x ∙ sym y

no_test : (p l : ℕ) (b : Bool) → p - 1 ≢ l → (b && p - 1 == l) ≡ false
no_test p l b ne = rw (ne_eqb (p - 1) l ne) (neither b)
  where
    neither : (b : Bool) → (b && false) ≡ false
    neither true = refl
    neither false = refl

-- whether a half-edge opens a ring to rank l: it leads to the atom there, which stands behind and isn't a child
one_half : (m : Molecule) (ranks parent_list : List ℕ) (k above l : ℕ) (half : HalfEdge) → ((u : ℕ) → u < length m.atoms → get_or ranks u 0 ≡ rank (order (graph_of m)) u)
    → half.to.0 < length m.atoms → l < length m.atoms
    → (opens_ring ranks parent_list k above half && rank_behind ranks half == l) ≡ (half.to.0 == at (graph_of m) l && (nat_lt above l && not (get_or parent_list l 0 == k + 1)))
one_half m ranks parent_list k above l half is to less = elim (cases_eq half.to.0 (at (graph_of m) l)) [
  | inl same ↦
      let p : get_or ranks half.to.0 0 ≡ suc l = is half.to.0 to ∙ ap (rank (order (graph_of m))) same ∙ rank_of_at m l less in
      let q : get_or ranks half.to.0 0 - 1 ≡ l = omega arith in
      let t : (half.to.0 == at (graph_of m) l) ≡ true = ap (λ (x : ℕ). x == at (graph_of m) l) same ∙ same_test (at (graph_of m) l) in
      ap (λ (x : ℕ). (nat_lt (above + 1) (get_or ranks half.to.0 0) && not (get_or parent_list x 0 == k + 1)) && rank_behind ranks half == l) q
      ∙ same_tests above (get_or ranks half.to.0 0) l (not (get_or parent_list l 0 == k + 1)) p
      ∙ ap (λ (b : Bool). b && (nat_lt above l && not (get_or parent_list l 0 == k + 1))) (sym t)
  | inr ne ↦
      no_test (get_or ranks half.to.0 0) l (opens_ring ranks parent_list k above half) (λ e. ne (sym (at_of_rank m half.to.0 l (sym (is half.to.0 to) ∙ written e))))
      ∙ ap (λ (b : Bool). b && (nat_lt above l && not (get_or parent_list l 0 == k + 1))) (sym (ne_eqb half.to.0 (at (graph_of m) l) ne))
]
  where
    written : get_or ranks half.to.0 0 - 1 ≡ l → get_or ranks half.to.0 0 ≡ suc l
    written e =
        let some : 0 < rank (order (graph_of m)) half.to.0 = each_written (graph_of m) half.to.0 to in
        let p = is half.to.0 to in omega arith

or_and : (a b c : Bool) → ((a && c) || (b && c)) ≡ ((a || b) && c)
or_and true true c = or_same c
  where
    or_same : (c : Bool) → (c || c) ≡ c
    or_same true = refl
    or_same false = refl
or_and true false c = or_false c
  where
    or_false : (c : Bool) → (c || false) ≡ c
    or_false true = refl
    or_false false = refl
or_and false b c = refl

all_halves : (p q : HalfEdge → Bool) (c : Bool) (halves : List HalfEdge) (n : ℕ) → All (λ half. half.to.0 < n) halves → ((half : HalfEdge) → half.to.0 < n → p half ≡ (q half && c))
    → list_any p halves ≡ (list_any q halves && c)
all_halves p q c [] n all one = refl
all_halves p q c (half ∷ halves) n all one =
    ap (λ (b : Bool). b || list_any p halves) (one half (All-head (λ half. half.to.0 < n) half halves all))
    ∙ ap (λ (b : Bool). (q half && c) || b) (all_halves p q c halves n (All-tail (λ half. half.to.0 < n) half halves all) one)
    ∙ or_and (q half) (list_any q halves) c

reorder : (x a q : Bool) → (x && (a && q)) ≡ (a && (x && q))
reorder true true q = refl
reorder true false q = refl
reorder false true q = refl
reorder false false q = refl

-- what the pass over the half-edges of the atom at rank k finds
pub partner_is : (m : Molecule) (w : WrittenAtoms) (a : AtomId) (k above : ℕ) → IsWrittenOrder m w → AllHaveTwins m a → a.0 ≡ at (graph_of m) k → k ≤ above → k < length m.atoms
    → lowest (opens_ring w.ranks.items w.parents.items k above) (rank_behind w.ranks.items) None (half_edges m a.0)
    ≡ least (λ l. nat_lt above l && has_ring (graph_of m) k l) (length m.atoms)
partner_is m w a k above h twins is_a le less =
    lowest_is (opens_ring w.ranks.items w.parents.items k above) (rank_behind w.ranks.items) (length m.atoms) (half_edges m a.0) None (λ v e. absurd (false≢true e))
    (λ i d below p. behind (get_or (half_edges m a.0) i d) (halves_within m a twins i d below))
    ∙ least_cong _ _ (length m.atoms) (λ l below. all_halves _ (λ half. half.to.0 == at (graph_of m) l) _ (half_edges m a.0) (length m.atoms) (halves_within m a twins)
    (λ half to. one_half m w.ranks.items w.parents.items k above l half h.ranks_are to below)
    ∙ here l below)
  where
    behind : (half : HalfEdge) → half.to.0 < length m.atoms → rank_behind w.ranks.items half < length m.atoms
    behind half to =
        let some : 0 < rank (order (graph_of m)) half.to.0 = each_written (graph_of m) half.to.0 to in
        let le : rank (order (graph_of m)) half.to.0 ≤ length (order (graph_of m)) = rank_le (order (graph_of m)) half.to.0 in
        let count : length (order (graph_of m)) ≡ length m.atoms = length_order (graph_of m) in
        let p = h.ranks_are half.to.0 to in omega arith

    here : (l : ℕ) → l < length m.atoms
        → (list_any (λ half. half.to.0 == at (graph_of m) l) (half_edges m a.0) && (nat_lt above l && not (get_or w.parents.items l 0 == k + 1)))
        ≡ (nat_lt above l && (are_joined m.bonds (at (graph_of m) k) (at (graph_of m) l) && not (get_or (parents (order (graph_of m))) l 0 == suc k)))
    here l below = elim (cases_eq a.0 (at (graph_of m) l)) [
      | inl same ↦
          let p : suc l ≡ suc k = sym (rank_of_at m l below) ∙ ap (rank (order (graph_of m))) (sym same ∙ is_a) ∙ rank_of_at m k less in
          let no : nat_lt above l ≡ false = grind (arith, nat_tests) in
          rw no (neither (list_any (λ half. half.to.0 == at (graph_of m) l) (half_edges m a.0)))
      | inr ne ↦
          reorder (list_any (λ half. half.to.0 == at (graph_of m) l) (half_edges m a.0)) (nat_lt above l) (not (get_or w.parents.items l 0 == k + 1))
          ∙ ap (λ (b : Bool). nat_lt above l && (b && not (get_or w.parents.items l 0 == k + 1))) (are_joined-half_edges m a.0 (at (graph_of m) l) ne ∙ ap (λ (x : ℕ). are_joined m.bonds x (at (graph_of m) l)) is_a)
          ∙ ap (λ (x : List ℕ). nat_lt above l && (are_joined m.bonds (at (graph_of m) k) (at (graph_of m) l) && not (get_or x l 0 == k + 1))) h.parents_are
          ∙ ap (λ (x : ℕ). nat_lt above l && (are_joined m.bonds (at (graph_of m) k) (at (graph_of m) l) && not (get_or (parents (order (graph_of m))) l 0 == x))) (let one : k + 1 ≡ suc k = omega arith in one)
    ]
      where
        neither : (b : Bool) → (b && false) ≡ false
        neither true = refl
        neither false = refl

pub length_parent_list : (m : Molecule) (w : WrittenAtoms) → IsWrittenOrder m w → length w.parents.items ≡ length m.atoms
length_parent_list m w h = ap length h.parents_are ∙ length_parents (order (graph_of m)) ∙ length_order (graph_of m)

-- a rank has a parent
pub ranked : (m : Molecule) (w : WrittenAtoms) (ranks parent_list : List ℕ) → IsWrittenOrder m w → ranks ≡ w.ranks.items → parent_list ≡ w.parents.items
    → (u : ℕ) → u < length ranks → get_or ranks u 0 ≤ length parent_list
ranked m w ranks parent_list h e f u less =
    let len = length_parent_list m w h in
    let len' : length parent_list ≡ length m.atoms = ap length f ∙ len in
    let count : length ranks ≡ length m.atoms = ap length e ∙ h.rank_count in
    let p : get_or ranks u 0 ≡ rank (order (graph_of m)) u = ap (λ (x : List ℕ). get_or x u 0) e ∙ h.ranks_are u (omega arith) in
    let le : rank (order (graph_of m)) u ≤ length (order (graph_of m)) = rank_le (order (graph_of m)) u in
    let all : length (order (graph_of m)) ≡ length m.atoms = length_order (graph_of m) in omega arith

-- The partners one after another

pub passing_none : (p : ℕ → Bool) (n : ℕ) → ((v : ℕ) → v < n → p v ≡ false) → passing p n ≡ []
passing_none p zero h = refl
passing_none p (suc n) h = rw (passing_none p n (λ v less. h v (omega arith)), h n (omega arith)) refl

pub none_passes : (p : ℕ → Bool) (n : ℕ) → None ≡ least p n → passing p n ≡ []
none_passes p n e = passing_none p n (least_all p n (sym e))

pub first_passes : (r : ℕ → Bool) (above l n : ℕ) → least (λ v. nat_lt above v && r v) n ≡ Some l
    → passing (λ v. nat_lt above v && r v) n ≡ l ∷ passing (λ v. nat_lt l v && r v) n
first_passes r above l zero e = cc
first_passes r above l (suc n) e = by_rest (least (λ v. nat_lt above v && r v) n) refl (nat_lt above n && r n) refl e (λ f. first_passes r above l n f)
  where
    by_rest : (o : Option ℕ) → least (λ v. nat_lt above v && r v) n ≡ o → (b : Bool) → (nat_lt above n && r n) ≡ b → or_else o (some_if b n) ≡ Some l
        → (least (λ v. nat_lt above v && r v) n ≡ Some l → passing (λ v. nat_lt above v && r v) n ≡ l ∷ passing (λ v. nat_lt l v && r v) n)
        → passing (λ v. nat_lt above v && r v) n ++ (if nat_lt above n && r n then n ∷ [] else []) ≡ l ∷ (passing (λ v. nat_lt l v && r v) n ++ (if nat_lt l n && r n then n ∷ [] else []))
    by_rest None e false f h more = cc
    by_rest None e true f h more =
        let same : n ≡ l = same_Some n l h in
        let none : passing (λ v. nat_lt above v && r v) n ≡ [] = passing_none (λ v. nat_lt above v && r v) n (least_all (λ v. nat_lt above v && r v) n e) in
        let later : passing (λ v. nat_lt l v && r v) n ≡ [] = passing_none (λ v. nat_lt l v && r v) n (λ v less. let no : nat_lt l v ≡ false = grind (arith, nat_tests) in rw no refl) in
        let no : nat_lt l n ≡ false = grind (arith, nat_tests) in
        rw (none, f, later, no) (ap (λ (x : ℕ). x ∷ []) same)
    by_rest (Some j) e b f h more =
        let same : j ≡ l = same_Some j l h in
        let found = least_some (λ v. nat_lt above v && r v) n l (e ∙ ap (λ (x : ℕ). Some x) same) in
        let over = and_parts (nat_lt above l) (r l) found.passes in
        let high : above < l = let o = over.0 in grind (arith, nat_tests) in
        let below = found.below in
        let t : nat_lt above n ≡ true = grind (arith, nat_tests) in
        let t' : nat_lt l n ≡ true = grind (arith, nat_tests) in
        rw (more (e ∙ ap (λ (x : ℕ). Some x) same), t, t') refl

pub above_less : (r : ℕ → Bool) (above l n : ℕ) → least (λ v. nat_lt above v && r v) n ≡ Some l → above < l
above_less r above l n e =
    let over = (and_parts (nat_lt above l) (r l) (least_some (λ v. nat_lt above v && r v) n l e).passes).0 in grind (arith, nat_tests)

pub below_count_less : (p : ℕ → Bool) (l n : ℕ) → least p n ≡ Some l → l < n
below_count_less p l n e = (least_some p n l e).below

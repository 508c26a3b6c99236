-- The places of an atom in the finished text are the written order of its places.
use Rattle.std.proofs.Common.{◌≡◌, ◌≢◌, ℕ, zero, suc, ◌+◌, ◌<◌, List, [], ◌∷◌, ◌++◌, length, map, reverse, get_or, Bool, true, false, Option, Some, None, refl, ap, sym, ◌∙◌, subst, inl, inr, arith}
use Rattle.std.specs.Prelude.{◌==◌, ◌⊎◌, if◌then◌else◌}
use Rattle.std.specs.Option.{option_to_list}
use Rattle.std.proofs.lemmas.Bool.{cases_eq}
use Rattle.std.proofs.lemmas.List.{append-nil, append_assoc, length-map, map-append}
use Rattle.mc_mol.specs.declared.parts.Slot.{Slot}
use Rattle.mc_mol.specs.Molecule.{Molecule}
use Rattle.mc_mol.specs.Permutations.{is_even_permutation, place_in}
use Rattle.mc_mol.specs.Same.{carried, entry, SameCentre}
use Rattle.smi_lex.specs.declared.token.TokenKind.{TokenKind}
use Rattle.smi_graph.specs.declared.role.Role.{Role}
use Rattle.smi_graph.specs.declared.role.Role.TheVariants.{Atom}
use Rattle.smi_graph.specs.Roles.{role_of}
use Rattle.smi_mean.specs.Order.{Graph, graph_of, order, atoms, parents, at, has_ring}
use Rattle.smi_mean.specs.RingNumbers.{passing, partners, onto_all}
use Rattle.smi_mean.specs.Written.{graph_tokens, written_order}
use Rattle.smi_lex.specs.declared.token.BondMark.{BondMark}
use Rattle.smi_graph.specs.TextOrder.{predecessor_of, if_behind, followers, ring_partners, neighbours}
use Rattle.smi_mean.specs.CentrePlaces.{atom_slot, rest_if, has_rest, place_list, places, said}
use Rattle.smi_mean.specs.WrittenPlaces.{above, children, closers, others, parent_of, written_neighbours, atom_at, written_places}
use Rattle.std.proofs.lemmas.Bool.{ne_eqb}
use Rattle.mc_mol.proofs.Halves.{same_test}
use Rattle.smi_write.proofs.Walk.{grown, nested, length_parents}
use Rattle.smi_write.proofs.Once.{length_steps}
use Rattle.smi_write.proofs.Whole.{graph_roles}
use Rattle.smi_write.proofs.StructureLaw.{onto_reverse, tokens_are}
use Rattle.smi_write.proofs.SameNumbers.{same_closers}
use Rattle.smi_write.proofs.NeighboursRead.{Blocks, whole_blocks, children_from, followers_read, pred_read}
use Rattle.smi_write.proofs.PartnersRead.{rings_read}
use Rattle.smi_write.proofs.Exchange.{LastDiffer, mark_law}

-- entry k of the written order is the atom at rank k
pub entry_is : (us : List ℕ) (k : ℕ) → entry (map (λ u. record { 0 = u }) us) k ≡ get_or us k 0
entry_is [] k = refl
entry_is (u ∷ us) zero = refl
entry_is (u ∷ us) (suc k) = entry_is us k

-- Children in the order in which they are written

behind_is : (a p k : ℕ) → if_behind a (above p) k ≡ (if p == suc a then k ∷ [] else [])
behind_is a zero k = ap (λ (t : Bool). if t then k ∷ [] else []) (sym (ne_eqb 0 (suc a) (omega arith)))
behind_is a (suc p) k = ap (λ (t : Bool). if t then k ∷ [] else []) (same_suc (cases_eq p a))
  where
    same_suc : (p ≡ a) ⊎ (p ≢ a) → (p == a) ≡ (suc p == suc a)
    same_suc (inl e) = ap (λ (x : ℕ). x == a) e ∙ same_test a ∙ sym (ap (λ (x : ℕ). suc x == suc a) e ∙ same_test (suc a))
    same_suc (inr ne) = ne_eqb p a ne ∙ sym (ne_eqb (suc p) (suc a) (omega arith))

children_are : (a k : ℕ) (qs : List ℕ) (p : ℕ → Bool) → ((i : ℕ) → i < length qs → p (k + i) ≡ (get_or qs i 0 == suc a)) → passing p (k + length qs) ≡ passing p k ++ children_from a k qs
children_are a k [] p is = ap (passing p) (let e : k + 0 ≡ k = omega arith in e) ∙ sym (append-nil (passing p k))
children_are a k (q ∷ qs) p is =
    let here : p k ≡ (q == suc a) = ap p (let e : k ≡ k + 0 = omega arith in e) ∙ is 0 (omega arith) in
    ap (passing p) (let e : k + suc (length qs) ≡ suc k + length qs = omega arith in e)
    ∙ children_are a (suc k) qs p (λ i less. ap p (let e : suc k + i ≡ k + suc i = omega arith in e) ∙ is (suc i) (omega arith))
    ∙ ap (λ (t : Bool). (passing p k ++ (if t then k ∷ [] else [])) ++ children_from a (suc k) qs) here
    ∙ ap (λ (x : List ℕ). (passing p k ++ x) ++ children_from a (suc k) qs) (sym (behind_is a q k))
    ∙ append_assoc (passing p k) (if_behind a (above q) k) (children_from a (suc k) qs)

-- The central law

length_parent_list : (g : Graph) → length (parents (order g)) ≡ g.count
length_parent_list g = length_parents (order g) ∙ length_steps g g.count (omega arith)

graph_blocks : (g : Graph) (v : ℕ → ℕ → Option BondMark) → Blocks v (λ j l. has_ring g j l) g.count 0 (parents (order g)) []
graph_blocks g v = whole_blocks v (λ j l. has_ring g j l) g.count (parents (order g)) (nested g (order g) (grown g g.count))

pub back : (g : Graph) (v : ℕ → ℕ → Option BondMark) → reverse (graph_roles g v) ≡ onto_all (graph_roles g v) []
back g v = sym (onto_reverse (graph_roles g v) [])

pub parent_read : (g : Graph) (v : ℕ → ℕ → Option BondMark) (k : ℕ) → k < g.count → predecessor_of k (reverse (graph_roles g v)) ≡ parent_of g k
parent_read g v k less =
    let len = length_parent_list g in
    ap (predecessor_of k) (back g v)
    ∙ pred_read v (λ j l. has_ring g j l) g.count k 0 k (parents (order g)) [] (graph_blocks g v) (omega arith) (omega arith)

pub children_read : (g : Graph) (v : ℕ → ℕ → Option BondMark) (k : ℕ) → k < g.count → followers k (reverse (graph_roles g v)) ≡ children g k
children_read g v k less =
    let len : length (parents (order g)) ≡ g.count = length_parent_list g in
    ap (followers k) (back g v)
    ∙ followers_read v (λ j l. has_ring g j l) g.count k 0 (parents (order g)) [] (graph_blocks g v)
    ∙ sym (children_are k 0 (parents (order g)) (λ l. get_or (parents (order g)) l 0 == suc k) (λ i below. ap (λ (n : ℕ). get_or (parents (order g)) n 0 == suc k) (let e : 0 + i ≡ i = omega arith in e)))
    ∙ ap (passing (λ l. get_or (parents (order g)) l 0 == suc k)) (let e : 0 + length (parents (order g)) ≡ g.count = omega arith in e)

pub partners_read : (g : Graph) (v : ℕ → ℕ → Option BondMark) (k : ℕ) → k < g.count → ring_partners k [] (graph_roles g v) ≡ closers g k ++ partners (λ j l. has_ring g j l) g.count k
partners_read g v k less =
    let len = length_parent_list g in
    rings_read v (λ j l. has_ring g j l) g.count k 0 (parents (order g)) [] (graph_blocks g v) (omega arith) less (omega arith)
    ∙ ap (λ (xs : List ℕ). xs ++ partners (λ j l. has_ring g j l) g.count k) (same_closers v (λ j l. has_ring g j l) g.count k)

pub others_read : (g : Graph) (v : ℕ → ℕ → Option BondMark) (k : ℕ) → k < g.count → ring_partners k [] (graph_roles g v) ++ followers k (reverse (graph_roles g v)) ≡ others g k
others_read g v k less =
    ap (λ (xs : List ℕ). xs ++ followers k (reverse (graph_roles g v))) (partners_read g v k less)
    ∙ ap (λ (xs : List ℕ). (closers g k ++ partners (λ j l. has_ring g j l) g.count k) ++ xs) (children_read g v k less)

-- the neighbours of atom k of the written tokens, whichever tokens its atoms and which symbols its bonds have
pub neighbours_read : (g : Graph) (v : ℕ → ℕ → Option BondMark) (token : ℕ → TokenKind) → ((u : ℕ) → role_of (token u) ≡ Atom false) → (k : ℕ) → k < g.count
    → neighbours k (map role_of (graph_tokens g v token)) ≡ written_neighbours g k
neighbours_read g v token are k less =
    ap (neighbours k) (tokens_are g v token are)
    ∙ ap (λ (o : Option ℕ). option_to_list o ++ (ring_partners k [] (graph_roles g v) ++ followers k (reverse (graph_roles g v)))) (parent_read g v k less)
    ∙ ap (λ (xs : List ℕ). option_to_list (parent_of g k) ++ xs) (others_read g v k less)

-- The places of atom k of the written tokens, whichever tokens its atoms have.
pub places_read : (g : Graph) (v : ℕ → ℕ → Option BondMark) (token : ℕ → TokenKind) → ((u : ℕ) → role_of (token u) ≡ Atom false) → (k hydrogens : ℕ) → k < g.count
    → places (map role_of (graph_tokens g v token)) k hydrogens ≡ place_list (parent_of g k) (others g k) hydrogens
places_read g v token are k hydrogens less =
    ap (λ (ks : List Role). places ks k hydrogens) (tokens_are g v token are)
    ∙ ap (λ (o : Option ℕ). place_list o (ring_partners k [] (graph_roles g v) ++ followers k (reverse (graph_roles g v))) hydrogens) (parent_read g v k less)
    ∙ ap (λ (xs : List ℕ). place_list (parent_of g k) xs hydrogens) (others_read g v k less)

-- The order carries it to the written order of the places

pub carried_atom : (m : Molecule) (k : ℕ) → carried (written_order m) (atom_slot k) ≡ atom_slot (at (graph_of m) k)
carried_atom m k = ap atom_slot (entry_is (atoms (order (graph_of m))) k)

carried_atoms : (m : Molecule) (ks : List ℕ) → map (carried (written_order m)) (map atom_slot ks) ≡ map atom_slot (map (λ l. at (graph_of m) l) ks)
carried_atoms m [] = refl
carried_atoms m (k ∷ ks) = ap (λ (s : Slot). s ∷ map (carried (written_order m)) (map atom_slot ks)) (carried_atom m k) ∙ ap (λ (x : List Slot). atom_slot (at (graph_of m) k) ∷ x) (carried_atoms m ks)

carried_rest : (m : Molecule) (t : Bool) → map (carried (written_order m)) (rest_if t) ≡ rest_if t
carried_rest m true = refl
carried_rest m false = refl

list_at : (g : Graph) (o : Option ℕ) → map (λ l. at g l) (option_to_list o) ≡ option_to_list (atom_at g o)
list_at g None = refl
list_at g (Some k) = refl

length_at : (g : Graph) (o : Option ℕ) → length (option_to_list o) ≡ length (option_to_list (atom_at g o))
length_at g None = refl
length_at g (Some k) = refl

pub carried_places : (m : Molecule) (o : Option ℕ) (xs : List ℕ) (hydrogens : ℕ)
    → map (carried (written_order m)) (place_list o xs hydrogens) ≡ place_list (atom_at (graph_of m) o) (map (λ l. at (graph_of m) l) xs) hydrogens
carried_places m o xs hydrogens =
    let g : Graph = graph_of m in
    let f : Slot → Slot = carried (written_order m) in
    let rest : List Slot = rest_if (has_rest hydrogens (length (option_to_list o) + length xs)) in
    let ys : List ℕ = map (λ l. at g l) xs in
    map-append f (map atom_slot (option_to_list o)) (rest ++ map atom_slot xs)
    ∙ ap (λ (x : List Slot). map f (map atom_slot (option_to_list o)) ++ x) (map-append f rest (map atom_slot xs))
    ∙ ap (λ (x : List Slot). x ++ (map f rest ++ map f (map atom_slot xs))) (carried_atoms m (option_to_list o) ∙ ap (map atom_slot) (list_at g o))
    ∙ ap (λ (x : List Slot). map atom_slot (option_to_list (atom_at g o)) ++ (x ++ map f (map atom_slot xs))) (carried_rest m (has_rest hydrogens (length (option_to_list o) + length xs)))
    ∙ ap (λ (x : List Slot). map atom_slot (option_to_list (atom_at g o)) ++ (rest ++ x)) (carried_atoms m xs)
    ∙ ap (λ (n : ℕ). map atom_slot (option_to_list (atom_at g o)) ++ (rest_if (has_rest hydrogens (n + length xs)) ++ map atom_slot ys)) (length_at g o)
    ∙ ap (λ (n : ℕ). map atom_slot (option_to_list (atom_at g o)) ++ (rest_if (has_rest hydrogens (length (option_to_list (atom_at g o)) + n)) ++ map atom_slot ys)) (sym (length-map xs (λ l. at g l)))

-- The order carries the places that are read at an atom to the written order of its places.
pub carried_read : (m : Molecule) (v : ℕ → ℕ → Option BondMark) (token : ℕ → TokenKind) → ((u : ℕ) → role_of (token u) ≡ Atom false) → (k hydrogens : ℕ) → k < length m.atoms
    → map (carried (written_order m)) (places (map role_of (graph_tokens (graph_of m) v token)) k hydrogens) ≡ written_places (graph_of m) k hydrogens
carried_read m v token are k hydrogens less =
    ap (map (carried (written_order m))) (places_read (graph_of m) v token are k hydrogens less) ∙ carried_places m (parent_of (graph_of m) k) (others (graph_of m) k) hydrogens

-- The list that is read at a written centre, by the mark of the parity, is carried to an even permutation of the molecule's
-- list.
pub centre_read : (m : Molecule) (v : ℕ → ℕ → Option BondMark) (token : ℕ → TokenKind) → ((u : ℕ) → role_of (token u) ≡ Atom false) → (k hydrogens : ℕ) (list : List Slot) → k < length m.atoms
    → LastDiffer (map (place_in list) (written_places (graph_of m) k hydrogens))
    → SameCentre (written_order m)
    (Some (said (is_even_permutation list (written_places (graph_of m) k hydrogens)) (places (map role_of (graph_tokens (graph_of m) v token)) k hydrogens)))
    (Some list)
centre_read m v token are k hydrogens list less differ =
    let g : Graph = graph_of m in
    let read : List Slot = places (map role_of (graph_tokens g v token)) k hydrogens in
    let same : map (carried (written_order m)) read ≡ written_places g k hydrogens = carried_read m v token are k hydrogens less in
    subst (λ (x : List Slot). is_even_permutation list (map (carried (written_order m)) (said (is_even_permutation list x) read)) ≡ true) same
    (mark_law list read (carried (written_order m)) (subst (λ (x : List Slot). LastDiffer (map (place_in list) x)) (sym same) differ))

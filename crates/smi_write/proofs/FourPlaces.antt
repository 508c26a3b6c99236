-- The written places of an atom are four where its neighbours and hydrogens are those of a centre.
use Rattle.std.proofs.Common.{◌≡◌, ◌<◌, ◌+◌, ◌-◌, ℕ, zero, suc, get_or, List, [], ◌∷◌, ◌++◌, length, map, reverse, Bool, Option, Some, None, refl, sym, ap, subst, ◌∙◌, arith}
use Rattle.std.specs.Prelude.{nat_lt, ◌==◌, ◌||◌, if◌then◌else◌, slice_get}
use Rattle.std.specs.Option.{option_to_list}
use Rattle.std.proofs.lemmas.List.{length-append, length-map}
use Rattle.mc_base.specs.declared.ids.AtomId.{AtomId}
use Rattle.mc_mol.specs.declared.parts.Atom.{Atom as MeantAtom}
use Rattle.mc_mol.specs.declared.parts.Bond.{Bond}
use Rattle.mc_mol.specs.Molecule.{Molecule, touches}
use Rattle.mc_mol.specs.Permutations.{is_even_permutation}
use Rattle.mc_mol.specs.HalfEdges.{degree}
use Rattle.mc_mol.specs.WellFormed.{IsMolecule}
use Rattle.smi_lex.specs.declared.token.BondMark.{BondMark}
use Rattle.smi_graph.specs.declared.role.Role.{Role}
use Rattle.smi_graph.specs.declared.role.Role.TheVariants.{Atom, Bond as BondRole, Ring, Enter, Leave, Dot}
use Rattle.smi_graph.specs.Bonds.{atom_count}
use Rattle.smi_graph.specs.Links.{bonds_of}
use Rattle.smi_graph.specs.RingRules.{is_pair_again}
use Rattle.smi_graph.specs.TextOrder.{neighbours, followers, ring_partners}
use Rattle.smi_graph.proofs.SoundBonds.{NeverPairs, bonds_sound}
use Rattle.smi_mean.specs.Order.{Graph, graph_of, at, before_one, rank_of}
use Rattle.smi_mean.specs.RingNumbers.{onto_all}
use Rattle.mc_mol.specs.declared.parts.Slot.{Slot}
use Rattle.mc_mol.proofs.Halves.{same_test}
use Rattle.mc_rings.specs.Centres.{hydrogens_of}
use Rattle.smi_mean.specs.CentrePlaces.{atom_slot, Fits}
use Rattle.smi_mean.specs.Sound.{IsSound}
use Rattle.smi_write.specs.CentreMarks.{CentresFit}
use Rattle.smi_mean.specs.WrittenPlaces.{above, atom_at, atom_mark, list_of, parity_mark, others, parent_of, unmarked, written_neighbours, written_places}
use Rattle.smi_graph.proofs.JoinedAtoms.{neighbour_count}
use Rattle.smi_mean.proofs.CentreLists.{fits_degree}
use Rattle.smi_mean.proofs.PlaceLists.{length_list}
use Rattle.smi_write.proofs.Partners.{rank_of_at}
use Rattle.smi_write.proofs.Along.{Along}
use Rattle.smi_write.proofs.BondSums.{weight, turned_weight}
use Rattle.smi_write.proofs.CentreKept.{neighbour_at}
use Rattle.smi_write.proofs.Hits.{bit, occurs, occurs_append}
use Rattle.smi_write.proofs.PlacesRead.{back, others_read, parent_read}
use Rattle.smi_write.proofs.Ranked.{Inverse, inverse, equal_tests, ranked, read_sum}
use Rattle.smi_write.proofs.Simple.{Simple, simple_of}
use Rattle.smi_write.proofs.Sums.{bonds_sum}
use Rattle.smi_write.proofs.Whole.{graph_roles, is_read}

never : (before : List Role) → Along is_pair_again before → NeverPairs before
never [] h = tt
never (Atom lower ∷ before) h = (never before h.0, h.1)
never (BondRole mark ∷ before) h = (never before h.0, h.1)
never (Ring number ∷ before) h = (never before h.0, h.1)
never (Enter ∷ before) h = (never before h.0, h.1)
never (Leave ∷ before) h = (never before h.0, h.1)
never (Dot ∷ before) h = (never before h.0, h.1)

-- the bonds that are read join no pair twice
pub simple_read : (g : Graph) (v : ℕ → ℕ → Option BondMark) → Simple (atom_count (onto_all (graph_roles g v) [])) (bonds_of (onto_all (graph_roles g v) []))
simple_read g v =
    let s = bonds_sound (onto_all (graph_roles g v) []) (never (onto_all (graph_roles g v) []) (is_read g v).pairs) in
    simple_of (atom_count (onto_all (graph_roles g v) [])) (bonds_of (onto_all (graph_roles g v) [])) s.each s.once

-- An atom has as many bonds as where it is read

abbrev one : ℕ → ℕ → ℕ
one j l = 1

read_ones : (k : ℕ) (bs : List Bond) → bonds_sum (weight one k) bs ≡ degree bs k
read_ones k [] = refl
read_ones k (b ∷ bs) = let r = read_ones k bs in omega arith

ranked_ones : (n k : ℕ) (bs : List Bond) (at_ pl : ℕ → ℕ) → Inverse n at_ pl → k < n → Simple n bs → bonds_sum (weight one k) (ranked pl bs) ≡ degree bs (at_ k)
ranked_ones n k [] at_ pl i below s = refl
ranked_ones n k (b ∷ bs) at_ pl i below s =
    let rest = ranked_ones n k bs at_ pl i below s.1.1 in
    let t1 = equal_tests n at_ pl b.first.0 k i s.0.0 below in
    let t2 = equal_tests n at_ pl b.second.0 k i s.0.1.0 below in
    let here = turned_weight one k (pl b.first.0) (pl b.second.0) b.order 1 (nat_lt (pl b.first.0) (pl b.second.0)) refl refl in
    let there : (if touches b (at_ k) then 1 else 0) ≡ (if pl b.first.0 == k || pl b.second.0 == k then 1 else 0) = rw (t1, t2) refl in
    ap (λ (z : ℕ). z + bonds_sum (weight one k) (ranked pl bs)) (here ∙ sym there) ∙ omega arith

pub degree_read : (m : Molecule) (v : ℕ → ℕ → Option BondMark) (k : ℕ) → IsMolecule m → k < length m.atoms
    → degree (bonds_of (onto_all (graph_roles (graph_of m) v) [])) k ≡ degree m.bonds (at (graph_of m) k)
degree_read m v k is below =
    let g : Graph = graph_of m in
    let s : Simple (length m.atoms) m.bonds = simple_of (length m.atoms) m.bonds is.bonds is.once in
    sym (read_ones k (bonds_of (onto_all (graph_roles g v) [])))
    ∙ read_sum m v (weight one k) s
    ∙ ranked_ones (length m.atoms) k m.bonds (λ j. at g j) (λ u. rank_of g u) (inverse g) below s

-- there are as many written neighbours as bonds of the atom
pub neighbours_counted : (m : Molecule) (k : ℕ) → IsMolecule m → k < length m.atoms → length (written_neighbours (graph_of m) k) ≡ degree m.bonds (at (graph_of m) k)
neighbours_counted m k is less =
    let g : Graph = graph_of m in
    let v : ℕ → ℕ → Option BondMark = λ j l. unmarked j l in
    let ks : List Role = graph_roles g v in
    let whole : onto_all ks [] ≡ reverse ks = sym (back g v) in
    let n : ℕ = atom_count (onto_all ks []) in
    let simple : Simple n (bonds_of (reverse ks)) = subst (λ (x : List Role). Simple n (bonds_of x)) whole (simple_read g v) in
    let same : neighbours k ks ≡ written_neighbours g k =
    ap (λ (o : Option ℕ). option_to_list o ++ (ring_partners k [] ks ++ followers k (reverse ks))) (parent_read g v k less)
    ∙ ap (λ (xs : List ℕ). option_to_list (parent_of g k) ++ xs) (others_read g v k less) in
    ap (λ (xs : List ℕ). length xs) (sym same) ∙ neighbour_count n k ks simple
    ∙ ap (λ (x : List Role). degree (bonds_of x) k) (sym whole) ∙ degree_read m v k is less

pub four_places : (m : Molecule) (k hydrogens : ℕ) → IsMolecule m → k < length m.atoms → Fits (degree m.bonds (at (graph_of m) k)) hydrogens
    → length (written_places (graph_of m) k hydrogens) ≡ 4
four_places m k hydrogens is less fit =
    let g : Graph = graph_of m in
    let us : List ℕ = map (λ l. at g l) (others g k) in
    let count = neighbours_counted m k is less in
    let a = length-append (option_to_list (parent_of g k)) (others g k) in
    let b = length-append (option_to_list (atom_at g (parent_of g k))) us in
    let c = length-map (others g k) (λ l. at g l) in
    let d = parents_at (parent_of g k) in
    let same : length (option_to_list (atom_at g (parent_of g k)) ++ us) ≡ degree m.bonds (at g k) = omega arith in
    length_list (atom_at g (parent_of g k)) us hydrogens (subst (λ (n : ℕ). Fits n hydrogens) (sym same) fit)
  where
    parents_at : (o : Option ℕ) → length (option_to_list o) ≡ length (option_to_list (atom_at (graph_of m) o))
    parents_at None = refl
    parents_at (Some p) = refl

-- each centre of a molecule that is written has the number of neighbours and hydrogens of one
pub centres_fit : (m : Molecule) → IsSound m → CentresFit m
centres_fit m sound u places here = let may = sound.centres u places here in fits_degree m may.sizes u may.may

-- the mark of the atom of a rank
pub mark_at : (m : Molecule) (k : ℕ) → k < length m.atoms
    → atom_mark m (at (graph_of m) k) ≡ parity_mark (list_of (slice_get m.centres (at (graph_of m) k))) (written_places (graph_of m) k (hydrogens_of (slice_get m.atoms (at (graph_of m) k))))
mark_at m k less =
    ap (λ (n : ℕ). parity_mark (list_of (slice_get m.centres (at (graph_of m) k))) (written_places (graph_of m) n (hydrogens_of (slice_get m.atoms (at (graph_of m) k)))))
    (ap before_one (rank_of_at m k less))

-- the mark that is found at a centre
pub mark_found : (m : Molecule) (k : ℕ) (u : AtomId) (atom : MeantAtom) (list places : List Slot) (plain : Bool) → IsMolecule m → k < length m.atoms → u.0 ≡ at (graph_of m) k
    → slice_get m.centres u.0 ≡ Some (Some list) → slice_get m.atoms u.0 ≡ Some atom → places ≡ written_places (graph_of m) k atom.hydrogens
    → (length places ≡ 4 → plain ≡ is_even_permutation list places) → CentresFit m → Some plain ≡ atom_mark m (at (graph_of m) k)
mark_found m k u atom list places plain is less is_u centre found are even fit =
    let g : Graph = graph_of m in
    let here : slice_get m.centres (at g k) ≡ Some (Some list) = ap (slice_get m.centres) (sym is_u) ∙ centre in
    let there : slice_get m.atoms (at g k) ≡ Some atom = ap (slice_get m.atoms) (sym is_u) ∙ found in
    let fits_here : Fits (degree m.bonds (at g k)) atom.hydrogens = subst (λ (h : ℕ). Fits (degree m.bonds (at g k)) h) (ap hydrogens_of there) (fit (at g k) list here) in
    let four : length places ≡ 4 = ap (λ (xs : List Slot). length xs) are ∙ four_places m k atom.hydrogens is less fits_here in
    ap (λ (t : Bool). Some t) (even four ∙ ap (is_even_permutation list) are)
    ∙ sym (mark_at m k less
    ∙ ap (λ (o : Option (Option (List Slot))). parity_mark (list_of o) (written_places g k (hydrogens_of (slice_get m.atoms (at g k))))) here
    ∙ ap (λ (o : Option MeantAtom). parity_mark (Some list) (written_places g k (hydrogens_of o))) there)

-- What the writer finds of them

occurs_here : (xs : List ℕ) (i : ℕ) → i < length xs → 0 < occurs (get_or xs i 0) xs
occurs_here [] i less = absurd (omega arith)
occurs_here (x ∷ xs) zero less = let own : bit (x == x) ≡ 1 = ap bit (same_test x) in omega arith
occurs_here (x ∷ xs) (suc i) less = let h = occurs_here xs i (omega arith) in omega arith

pub others_below : (m : Molecule) (k : ℕ) → k < length m.atoms → (xs : List ℕ) → xs ≡ others (graph_of m) k → (i : ℕ) → i < length xs → get_or xs i 0 < length m.atoms
others_below m k less xs is i within =
    let here = occurs_here xs i within in
    let same : occurs (get_or xs i 0) xs ≡ occurs (get_or xs i 0) (others (graph_of m) k) = ap (occurs (get_or xs i 0)) is in
    let more = occurs_append (get_or xs i 0) (option_to_list (parent_of (graph_of m) k)) (others (graph_of m) k) in
    (neighbour_at m k (get_or xs i 0) less (omega arith)).below

pub parent_slot : (g : Graph) (q p : ℕ) → q ≡ p → (p ≡ 0 → ⊥) → map atom_slot (option_to_list (atom_at g (above q))) ≡ atom_slot (at g (p - 1)) ∷ []
parent_slot g q zero e some = absurd (some refl)
parent_slot g q (suc p) e some =
    let back_p : p ≡ suc p - 1 = omega arith in
    ap (λ (x : ℕ). map atom_slot (option_to_list (atom_at g (above x)))) e ∙ ap (λ (x : ℕ). atom_slot (at g x) ∷ []) back_p

pub four_of : (xs : List Slot) (a b c d : Slot) → length xs ≡ 4 → get_or xs 0 a ∷ get_or xs 1 b ∷ get_or xs 2 c ∷ get_or xs 3 d ∷ [] ≡ xs
four_of [] a b c d h = absurd (omega arith)
four_of (p ∷ []) a b c d h = absurd (omega arith)
four_of (p ∷ q ∷ []) a b c d h = absurd (omega arith)
four_of (p ∷ q ∷ r ∷ []) a b c d h = absurd (omega arith)
four_of (p ∷ q ∷ r ∷ s ∷ []) a b c d h = refl
four_of (p ∷ q ∷ r ∷ s ∷ t ∷ xs) a b c d h = absurd (omega arith)

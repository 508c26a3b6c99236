-- A molecule's bonds, with ranks for atoms, are counted as those that are read.
use Rattle.std.specs.Prelude.{Option}
use Rattle.smi_lex.specs.declared.token.BondMark.{BondMark}
use Rattle.std.proofs.Common.{◌≡◌, ◌≢◌, ℕ, zero, suc, ◌+◌, ◌<◌, List, [], ◌∷◌, length, Bool, true, false, refl, ap, sym, ◌∙◌, inl, inr, arith}
use Rattle.std.specs.Prelude.{◌==◌, ◌&&◌, ◌||◌, nat_lt}
use Rattle.std.proofs.lemmas.Bool.{cases_eq, cases_lt, false≢true, ne_eqb, eqb-true, and_parts, false_from_ne_true}
use Rattle.std.proofs.lemmas.Bool.Decides.{nat_tests}
use Rattle.std.proofs.Math.Bool.{or-false}
use Rattle.smi_graph.proofs.SimpleBonds.{alone}
use Rattle.smi_mean.specs.Order.{Graph, graph_of, order, rank, at, before_one, rank_of}
use Rattle.mc_mol.specs.declared.parts.Bond.{Bond}
use Rattle.smi_graph.specs.Links.{bond_between, bonds_of}
use Rattle.smi_mean.specs.RingNumbers.{onto_all}
use Rattle.smi_write.proofs.Hits.{bit}
use Rattle.smi_write.proofs.BondCounts.{hit, bond_count}
use Rattle.mc_mol.specs.Molecule.{Molecule, joins, are_joined}
use Rattle.mc_mol.proofs.Halves.{same_test}
use Rattle.smi_write.proofs.Simple.{Simple}
use Rattle.smi_write.proofs.Walk.{grown, rank_le}
use Rattle.smi_write.proofs.Once.{length_steps, each_written, at_rank, rank_at}
use Rattle.smi_write.proofs.Sums.{InRange, bonds_sum, sums_same, in_range, length_is}
use Rattle.smi_write.proofs.Whole.{graph_roles, is_read}

-- ranks and atoms
pub record Inverse (n : ℕ) (at_ pl : ℕ → ℕ) : Type 0 where
  pub back : (j : ℕ) → j < n → pl (at_ j) ≡ j
  pub forth : (u : ℕ) → u < n → at_ (pl u) ≡ u
  pub below : (u : ℕ) → u < n → pl u < n

pub equal_tests : (n : ℕ) (at_ pl : ℕ → ℕ) (x j : ℕ) → Inverse n at_ pl → x < n → j < n → (x == at_ j) ≡ (pl x == j)
equal_tests n at_ pl x j i less below = elim (cases_eq x (at_ j)) [
  | inl e ↦
      let s : pl x ≡ j = ap pl e ∙ i.back j below in
      (ap (λ (y : ℕ). y == at_ j) e ∙ same_test (at_ j)) ∙ sym (ap (λ (y : ℕ). y == j) s ∙ same_test j)
  | inr ne ↦ ne_eqb x (at_ j) ne ∙ sym (ne_eqb (pl x) j (λ s. ne (sym (i.forth x less) ∙ ap at_ s)))
]

abbrev pub turn : Bool → ℕ → ℕ → ℕ → Bond
turn true x y o = bond_between x y o
turn false x y o = bond_between y x o

abbrev pub ranked : (ℕ → ℕ) → List Bond → List Bond
ranked pl [] = []
ranked pl (b ∷ bs) = turn (nat_lt (pl b.first.0) (pl b.second.0)) (pl b.first.0) (pl b.second.0) b.order ∷ ranked pl bs

two_tests : (x y j l : ℕ) → (x ≡ j → y ≡ l → ⊥) → (x == j && y == l) ≡ false
two_tests x y j l h = false_from_ne_true (x == j && y == l) (λ t. let r = and_parts (x == j) (y == l) t in h (eqb-true x j r.0) (eqb-true y l r.1))

and_swap : (a b : Bool) → (a && b) ≡ (b && a)
and_swap true true = refl
and_swap true false = refl
and_swap false true = refl
and_swap false false = refl

turned_hit : (x y o j l : ℕ) → x ≢ y → j < l → hit j l (turn (nat_lt x y) x y o) ≡ bit ((x == j && y == l) || (x == l && y == j))
turned_hit x y o j l ne less = elim (cases_lt x y) [
  | inl lt ↦
      let t : nat_lt x y ≡ true = grind (arith, nat_tests) in
      rw (t, two_tests x y l j (λ e f. omega arith)) (ap bit (sym (or-false (x == j && y == l))))
  | inr ge ↦
      let t : nat_lt x y ≡ false = grind (arith, nat_tests) in
      rw (t, two_tests x y j l (λ e f. omega arith)) (ap bit (and_swap (y == j) (x == l)))
]

pub hit_is : (n : ℕ) (at_ pl : ℕ → ℕ) (b : Bond) (j l : ℕ) → Inverse n at_ pl → b.first.0 < n → b.second.0 < n → b.first.0 ≢ b.second.0 → j < l → l < n
    → hit j l (turn (nat_lt (pl b.first.0) (pl b.second.0)) (pl b.first.0) (pl b.second.0) b.order) ≡ bit (joins b (at_ j) (at_ l))
hit_is n at_ pl b j l i a c ne less below =
    turned_hit (pl b.first.0) (pl b.second.0) b.order j l (λ e. ne (sym (i.forth b.first.0 a) ∙ ap at_ e ∙ i.forth b.second.0 c)) less
    ∙ sym (rw (equal_tests n at_ pl b.first.0 j i a (omega arith), equal_tests n at_ pl b.second.0 l i c below, equal_tests n at_ pl b.first.0 l i a below, equal_tests n at_ pl b.second.0 j i c (omega arith)) refl)

bit_or : (a b : Bool) → (a ≡ true → b ≡ false) → bit a + bit b ≡ bit (a || b)
bit_or true true h = absurd (false≢true (sym (h refl)))
bit_or true false h = refl
bit_or false true h = refl
bit_or false false h = refl

pub ranked_count : (n : ℕ) (at_ pl : ℕ → ℕ) (bs : List Bond) (j l : ℕ) → Inverse n at_ pl → Simple n bs → j < l → l < n → bond_count j l (ranked pl bs) ≡ bit (are_joined bs (at_ j) (at_ l))
ranked_count n at_ pl [] j l i s less below = refl
ranked_count n at_ pl (b ∷ bs) j l i s less below =
    let one = hit_is n at_ pl b j l i s.0.0 s.0.1.0 s.0.1.1 less below in
    let rest = ranked_count n at_ pl bs j l i s.1.1 less below in
    let both = bit_or (joins b (at_ j) (at_ l)) (are_joined bs (at_ j) (at_ l)) (alone b bs (at_ j) (at_ l) s.1.0) in
    (omega arith) ∙ both

pub ranked_range : (n : ℕ) (at_ pl : ℕ → ℕ) (bs : List Bond) → Inverse n at_ pl → Simple n bs → InRange n (ranked pl bs)
ranked_range n at_ pl [] i s = tt
ranked_range n at_ pl (b ∷ bs) i s =
    let x : ℕ = pl b.first.0 in
    let y : ℕ = pl b.second.0 in
    let ne : x ≢ y = λ e. s.0.1.1 (sym (i.forth b.first.0 s.0.0) ∙ ap at_ e ∙ i.forth b.second.0 s.0.1.0) in
    (turned x y b.order ne (i.below b.first.0 s.0.0) (i.below b.second.0 s.0.1.0), ranked_range n at_ pl bs i s.1.1)
  where
    turned : (x y o : ℕ) → x ≢ y → x < n → y < n → ((let t : Bond = turn (nat_lt x y) x y o in t.first.0) < (let t : Bond = turn (nat_lt x y) x y o in t.second.0)) × ((let t : Bond = turn (nat_lt x y) x y o in t.second.0) < n)
    turned x y o ne a c = elim (cases_lt x y) [
      | inl lt ↦ let t : nat_lt x y ≡ true = grind (arith, nat_tests) in rw t (lt, c)
      | inr ge ↦ let t : nat_lt x y ≡ false = grind (arith, nat_tests) in rw t (omega arith, a)
    ]

suc_before : (k : ℕ) → 0 < k → suc (before_one k) ≡ k
suc_before zero h = absurd (omega arith)
suc_before (suc k) h = refl

pub inverse : (g : Graph) → Inverse g.count (λ j. at g j) (λ u. rank_of g u)
inverse g =
    let len = length_steps g g.count (omega arith) in
    let h = grown g g.count in
    record {
      back = λ j below. ap before_one (rank_at g (order g) j h (omega arith));
      forth = λ u below. at_rank (order g) u (rank_of g u) (sym (suc_before (rank (order g) u) (each_written g u below)));
      below = λ u below. let s = suc_before (rank (order g) u) (each_written g u below) in let le = rank_le (order g) u in omega arith;
    }

-- Whatever is summed over the bonds that are read is the sum over the molecule's bonds by their ranks.
pub read_sum : (m : Molecule) (v : ℕ → ℕ → Option BondMark) (w : ℕ → ℕ → ℕ) → Simple (length m.atoms) m.bonds
    → bonds_sum w (bonds_of (onto_all (graph_roles (graph_of m) v) [])) ≡ bonds_sum w (ranked (λ u. rank_of (graph_of m) u) m.bonds)
read_sum m v w s =
    let g : Graph = graph_of m in
    let read = is_read g v in
    sums_same w g.count (bonds_of (onto_all (graph_roles g v) [])) (ranked (λ u. rank_of g u) m.bonds)
    (in_range g.count (bonds_of (onto_all (graph_roles g v) [])) read.others)
    (ranked_range g.count (λ j. at g j) (λ u. rank_of g u) m.bonds (inverse g) s)
    (λ j l less below. read.bonds j l less below ∙ sym (ranked_count g.count (λ j. at g j) (λ u. rank_of g u) m.bonds j l (inverse g) s less below))

ranked_length : (pl : ℕ → ℕ) (bs : List Bond) → length (ranked pl bs) ≡ length bs
ranked_length pl [] = refl
ranked_length pl (b ∷ bs) = ap suc (ranked_length pl bs)

-- as many bonds are read as there are
pub read_length : (m : Molecule) (v : ℕ → ℕ → Option BondMark) → Simple (length m.atoms) m.bonds → length (bonds_of (onto_all (graph_roles (graph_of m) v) [])) ≡ length m.bonds
read_length m v s =
    sym (length_is (bonds_of (onto_all (graph_roles (graph_of m) v) []))) ∙ read_sum m v (λ j l. 1) s ∙ length_is (ranked (λ u. rank_of (graph_of m) u) m.bonds)
    ∙ ranked_length (λ u. rank_of (graph_of m) u) m.bonds

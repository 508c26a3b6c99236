-- How many ring numbers are opened: no more than the molecule has independent rings.
use Rattle.std.proofs.Common.{◌≡◌, ℕ, zero, suc, ◌+◌, ◌≤◌, ◌<◌, List, [], ◌∷◌, length, get_or, Bool, true, false, refl, ap, sym, ◌∙◌, inl, inr, arith}
use Rattle.std.specs.Prelude.{◌==◌, ◌&&◌, ◌||◌, ◌⊎◌, not, nat_lt, if◌then◌else◌}
use Rattle.std.proofs.lemmas.Bool.{cases_lt, cases_eq, lt-ltb, le-ltb, ne_eqb, eqb-true, and_parts, or_cases, false_from_ne_true}
use Rattle.std.proofs.lemmas.List.{length-append}
use Rattle.std.proofs.Math.Bool.{and-true}
use Rattle.mc_mol.specs.declared.parts.Bond.{Bond}
use Rattle.mc_mol.specs.Molecule.{Molecule, joins, are_joined}
use Rattle.mc_mol.specs.WellFormed.{IsMolecule}
use Rattle.mc_mol.specs.Parts.{independent_rings}
use Rattle.mc_mol.proofs.Halves.{same_test}
use Rattle.smi_mean.specs.Order.{Graph, graph_of, order, parents, at, has_ring}
use Rattle.smi_mean.specs.RingNumbers.{passing, partners}
use Rattle.smi_write.proofs.Counting.{count, count_none, count_same, count_one}
use Rattle.smi_write.proofs.Walk.{grown}
use Rattle.smi_write.proofs.Once.{length_steps, distinct}
use Rattle.smi_write.proofs.Roots.{is_root, roots_few}
use Rattle.smi_write.proofs.PartsLow.{parent_at}

-- how many pairs j < l below n
abbrev pub pairs : (ℕ → ℕ → Bool) → ℕ → ℕ
pairs r zero = 0
pairs r (suc n) = pairs r n + count (λ j. r j n) n

-- how many ring numbers the atoms before atom k open
abbrev pub opens : (ℕ → ℕ → Bool) → ℕ → ℕ → ℕ
opens r n zero = 0
opens r n (suc k) = opens r n k + length (partners r n k)

-- Pairs by the later atom and by the earlier one

length_passing : (p : ℕ → Bool) (n : ℕ) → length (passing p n) ≡ count p n
length_passing p zero = refl
length_passing p (suc n) = length-append (passing p n) (if p n then n ∷ [] else []) ∙ by_test (p n) (length_passing p n)
  where
    by_test : (b : Bool) → length (passing p n) ≡ count p n → length (passing p n) + length (if b then n ∷ [] else []) ≡ (if b then suc (count p n) else count p n)
    by_test true h = omega arith
    by_test false h = omega arith

partner_more : (r : ℕ → ℕ → Bool) (n k : ℕ) → length (partners r (suc n) k) ≡ length (partners r n k) + (if nat_lt k n && r k n then 1 else 0)
partner_more r n k =
    let p : ℕ → Bool = λ l. nat_lt k l && r k l in
    let a = length_passing p n in
    let b = length_passing p (suc n) in
    b ∙ by_test (nat_lt k n && r k n) ∙ ap (λ (x : ℕ). x + (if nat_lt k n && r k n then 1 else 0)) (sym a)
  where
    by_test : (b : Bool) → (if b then suc (count (λ l. nat_lt k l && r k l) n) else count (λ l. nat_lt k l && r k l) n) ≡ count (λ l. nat_lt k l && r k l) n + (if b then 1 else 0)
    by_test true = omega arith
    by_test false = omega arith

opens_more : (r : ℕ → ℕ → Bool) (n k : ℕ) → opens r (suc n) k ≡ opens r n k + count (λ j. nat_lt j n && r j n) k
opens_more r n zero = refl
opens_more r n (suc k) = let one = partner_more r n k in let h = opens_more r n k in by_test (nat_lt k n && r k n) h one
  where
    by_test : (b : Bool) → opens r (suc n) k ≡ opens r n k + count (λ j. nat_lt j n && r j n) k → length (partners r (suc n) k) ≡ length (partners r n k) + (if b then 1 else 0)
        → opens r (suc n) k + length (partners r (suc n) k) ≡ opens r n k + length (partners r n k) + (if b then suc (count (λ j. nat_lt j n && r j n) k) else count (λ j. nat_lt j n && r j n) k)
    by_test true h one = omega arith
    by_test false h one = omega arith

partners_none : (r : ℕ → ℕ → Bool) (n k : ℕ) → n ≤ suc k → length (partners r n k) ≡ 0
partners_none r n k le =
    length_passing (λ l. nat_lt k l && r k l) n
    ∙ count_none (λ l. nat_lt k l && r k l) n (λ l less. ap (λ (b : Bool). b && r k l) (le-ltb k l (omega arith)))

pub opens_pairs : (r : ℕ → ℕ → Bool) (n : ℕ) → opens r n n ≡ pairs r n
opens_pairs r zero = refl
opens_pairs r (suc n) =
    let last = partners_none r (suc n) n (omega arith) in
    let more = opens_more r n n in
    let h = opens_pairs r n in
    let same = count_same (λ j. r j n) (λ j. nat_lt j n && r j n) n (λ j less. ap (λ (b : Bool). b && r j n) (lt-ltb j n less)) in
    omega arith

opens_later : (r : ℕ → ℕ → Bool) (n k m : ℕ) → k ≤ m → opens r n k ≤ opens r n m
opens_later r n k zero le = let e : k ≡ 0 = omega arith in let h = ap (opens r n) e in omega arith
opens_later r n k (suc m) le = elim (cases_eq k (suc m)) [
  | inl e ↦ let h = ap (opens r n) e in omega arith
  | inr ne ↦ let h = opens_later r n k m (omega arith) in omega arith
]

opens_past : (r : ℕ → ℕ → Bool) (n m : ℕ) → n ≤ m → opens r n m ≡ opens r n n
opens_past r n zero le = let e : 0 ≡ n = omega arith in ap (opens r n) e
opens_past r n (suc m) le = elim (cases_eq n (suc m)) [
  | inl e ↦ ap (opens r n) (sym e)
  | inr ne ↦
      let h = opens_past r n m (omega arith) in
      let none = partners_none r n m (omega arith) in omega arith
]

pub opens_low : (r : ℕ → ℕ → Bool) (n k : ℕ) → opens r n k ≤ pairs r n
opens_low r n k =
    let all = opens_pairs r n in
    elim (cases_lt k n) [
      | inl less ↦ let h = opens_later r n k n (omega arith) in omega arith
      | inr ge ↦ let h = opens_past r n k (omega arith) in omega arith
    ]

-- Pairs and bonds

count_or : (p q : ℕ → Bool) (n : ℕ) → count (λ v. p v || q v) n ≤ count p n + count q n
count_or p q zero = omega arith
count_or p q (suc n) = by_tests (p n) (q n) (count_or p q n)
  where
    by_tests : (a b : Bool) → count (λ v. p v || q v) n ≤ count p n + count q n
        → (if a || b then suc (count (λ v. p v || q v) n) else count (λ v. p v || q v) n) ≤ (if a then suc (count p n) else count p n) + (if b then suc (count q n) else count q n)
    by_tests true true h = omega arith
    by_tests true false h = omega arith
    by_tests false true h = omega arith
    by_tests false false h = omega arith

pairs_or : (r q : ℕ → ℕ → Bool) (n : ℕ) → pairs (λ j l. r j l || q j l) n ≤ pairs r n + pairs q n
pairs_or r q zero = omega arith
pairs_or r q (suc n) = let h = pairs_or r q n in let c = count_or (λ j. r j n) (λ j. q j n) n in omega arith

pairs_none : (r : ℕ → ℕ → Bool) (n : ℕ) → ((j l : ℕ) → j < l → l < n → r j l ≡ false) → pairs r n ≡ 0
pairs_none r zero none = refl
pairs_none r (suc n) none = let h = pairs_none r n (λ j l less below. none j l less (omega arith)) in let c = count_none (λ j. r j n) n (λ j less. none j n less (omega arith)) in omega arith

-- where one number at most passes
count_single : (p : ℕ → Bool) (n : ℕ) → ((j k : ℕ) → j < k → k < n → p j ≡ true → p k ≡ true → ⊥) → count p n ≤ 1
count_single p zero one = omega arith
count_single p (suc n) one = by_test (p n) refl (count_single p n (λ j k less below. one j k less (omega arith)))
  where
    by_test : (b : Bool) → p n ≡ b → count p n ≤ 1 → (if b then suc (count p n) else count p n) ≤ 1
    by_test false e h = h
    by_test true e h = let none = count_none p n (λ j less. false_from_ne_true (p j) (λ t. one j n less (omega arith) t e)) in omega arith

-- one that passes, where some do
count_some : (p : ℕ → Bool) (n : ℕ) → (count p n ≡ 0) ⊎ ((j : ℕ) × (j < n) × (p j ≡ true))
count_some p zero = inl refl
count_some p (suc n) = by_test (p n) refl (count_some p n)
  where
    by_test : (b : Bool) → p n ≡ b → ((count p n ≡ 0) ⊎ ((j : ℕ) × (j < n) × (p j ≡ true))) → ((if b then suc (count p n) else count p n) ≡ 0) ⊎ ((j : ℕ) × (j < suc n) × (p j ≡ true))
    by_test true e h = inr (n, omega arith, e)
    by_test false e (inl none) = inl none
    by_test false e (inr (j, less, t)) = inr (j, omega arith, t)

pairs_single : (r : ℕ → ℕ → Bool) (n : ℕ) → ((j l i k : ℕ) → j < l → l < n → i < k → k < n → r j l ≡ true → r i k ≡ true → (j ≡ i) × (l ≡ k)) → pairs r n ≤ 1
pairs_single r zero one = omega arith
pairs_single r (suc n) one = by_last (pairs_single r n (λ j l i k a b c d. one j l i k a (omega arith) c (omega arith))) (count_some (λ j. r j n) n)
  where
    by_last : pairs r n ≤ 1 → (count (λ j. r j n) n ≡ 0) ⊎ ((j : ℕ) × (j < n) × (r j n ≡ true)) → pairs r n + count (λ j. r j n) n ≤ 1
    by_last h (inl none) = omega arith
    by_last h (inr (j, less, t)) =
        let before = pairs_none r n (λ i k lt below. false_from_ne_true (r i k) (λ u. let e = (one j n i k less (omega arith) lt (omega arith) t u).1 in omega arith)) in
        let here = count_single (λ i. r i n) n (λ i k lt below u w. let e = (one i n k n (omega arith) (omega arith) below (omega arith) u w).0 in omega arith) in
        omega arith

-- a bond joins one pair of ranks at most
bond_once : (b : Bond) (at : ℕ → ℕ) (n : ℕ) → ((j k : ℕ) → j < k → k < n → at j ≡ at k → ⊥) → pairs (λ j l. joins b (at j) (at l)) n ≤ 1
bond_once b at n apart = pairs_single (λ j l. joins b (at j) (at l)) n (λ j l i k less below lt under t u. by_ends j l i k less below lt under (ends j l t) (ends i k u))
  where
    ends : (j l : ℕ) → joins b (at j) (at l) ≡ true → ((b.first.0 ≡ at j) × (b.second.0 ≡ at l)) ⊎ ((b.first.0 ≡ at l) × (b.second.0 ≡ at j))
    ends j l t = elim (or_cases (b.first.0 == at j && b.second.0 == at l) (b.first.0 == at l && b.second.0 == at j) t) [
      | inl h ↦ let r = and_parts (b.first.0 == at j) (b.second.0 == at l) h in inl (eqb-true b.first.0 (at j) r.0, eqb-true b.second.0 (at l) r.1)
      | inr h ↦ let r = and_parts (b.first.0 == at l) (b.second.0 == at j) h in inr (eqb-true b.first.0 (at l) r.0, eqb-true b.second.0 (at j) r.1)
    ]

    one_rank : (j k : ℕ) → j < n → k < n → at j ≡ at k → j ≡ k
    one_rank j k less below e = elim (cases_eq j k) [
      | inl same ↦ same
      | inr ne ↦ elim (cases_lt j k) [ inl lt ↦ absurd (apart j k lt below e) | inr ge ↦ absurd (apart k j (omega arith) less (sym e)) ]
    ]

    by_ends : (j l i k : ℕ) → j < l → l < n → i < k → k < n
        → (((b.first.0 ≡ at j) × (b.second.0 ≡ at l)) ⊎ ((b.first.0 ≡ at l) × (b.second.0 ≡ at j)))
        → (((b.first.0 ≡ at i) × (b.second.0 ≡ at k)) ⊎ ((b.first.0 ≡ at k) × (b.second.0 ≡ at i))) → (j ≡ i) × (l ≡ k)
    by_ends j l i k less below lt under (inl h) (inl g) = (one_rank j i (omega arith) (omega arith) (sym h.0 ∙ g.0), one_rank l k below under (sym h.1 ∙ g.1))
    by_ends j l i k less below lt under (inl h) (inr g) =
        let a = one_rank j k (omega arith) under (sym h.0 ∙ g.0) in let c = one_rank l i below (omega arith) (sym h.1 ∙ g.1) in absurd (omega arith)
    by_ends j l i k less below lt under (inr h) (inl g) =
        let a = one_rank l i below (omega arith) (sym h.0 ∙ g.0) in let c = one_rank j k (omega arith) under (sym h.1 ∙ g.1) in absurd (omega arith)
    by_ends j l i k less below lt under (inr h) (inr g) = (one_rank j i (omega arith) (omega arith) (sym h.1 ∙ g.1), one_rank l k below under (sym h.0 ∙ g.0))

-- the joined pairs of ranks are no more than the bonds
pub joined_few : (bonds : List Bond) (at : ℕ → ℕ) (n : ℕ) → ((j k : ℕ) → j < k → k < n → at j ≡ at k → ⊥) → pairs (λ j l. are_joined bonds (at j) (at l)) n ≤ length bonds
joined_few [] at n apart = let none = pairs_none (λ j l. are_joined [] (at j) (at l)) n (λ j l less below. refl) in omega arith
joined_few (b ∷ bonds) at n apart =
    let one = bond_once b at n apart in
    let rest = joined_few bonds at n apart in
    let both = pairs_or (λ j l. joins b (at j) (at l)) (λ j l. are_joined bonds (at j) (at l)) n in omega arith

-- Ring bonds are the joined pairs that lead to no parent.

rings_here : (g : Graph) (l : ℕ) → l < g.count → count (λ j. has_ring g j l) l + 1 ≡ count (λ j. g.joined (at g j) (at g l)) l + (if is_root g l then 1 else 0)
rings_here g l less = by_parent (get_or (parents (order g)) l 0) refl
  where
    by_parent : (p : ℕ) → get_or (parents (order g)) l 0 ≡ p → count (λ j. has_ring g j l) l + 1 ≡ count (λ j. g.joined (at g j) (at g l)) l + (if is_root g l then 1 else 0)
    by_parent zero e =
        let same = count_same (λ j. g.joined (at g j) (at g l)) (λ j. has_ring g j l) l
        (λ j lt. ap (λ (x : ℕ). g.joined (at g j) (at g l) && not (x == suc j)) e ∙ rw (ne_eqb 0 (suc j) (omega arith)) (and-true (g.joined (at g j) (at g l)))) in
        let root : is_root g l ≡ true = ap (λ (x : ℕ). x == 0) e ∙ same_test 0 in
        rw root (omega arith)
    by_parent (suc p) e =
        let up = parent_at g l p less e in
        let one = count_one (λ j. has_ring g j l) (λ j. g.joined (at g j) (at g l)) p l
        (λ j ne. sym (ap (λ (x : ℕ). g.joined (at g j) (at g l) && not (x == suc j)) e ∙ rw (ne_eqb (suc p) (suc j) (omega arith)) (and-true (g.joined (at g j) (at g l)))))
        (ap (λ (x : ℕ). g.joined (at g p) (at g l) && not (x == suc p)) e ∙ rw (up.1, same_test (suc p)) refl)
        up.1 up.0 in
        let root : is_root g l ≡ false = ap (λ (x : ℕ). x == 0) e ∙ ne_eqb (suc p) 0 (omega arith) in
        rw root (omega arith)

rings_split : (g : Graph) (n : ℕ) → n ≤ g.count → pairs (λ j l. has_ring g j l) n + n ≡ pairs (λ j l. g.joined (at g j) (at g l)) n + count (λ l. is_root g l) n
rings_split g zero le = refl
rings_split g (suc n) le = let h = rings_split g n (omega arith) in let one = rings_here g n (omega arith) in by_test (is_root g n) h one
  where
    by_test : (b : Bool) → pairs (λ j l. has_ring g j l) n + n ≡ pairs (λ j l. g.joined (at g j) (at g l)) n + count (λ l. is_root g l) n
        → count (λ j. has_ring g j n) n + 1 ≡ count (λ j. g.joined (at g j) (at g n)) n + (if b then 1 else 0)
        → pairs (λ j l. has_ring g j l) n + count (λ j. has_ring g j n) n + suc n
        ≡ pairs (λ j l. g.joined (at g j) (at g l)) n + count (λ j. g.joined (at g j) (at g n)) n + (if b then suc (count (λ l. is_root g l) n) else count (λ l. is_root g l) n)
    by_test true h one = omega arith
    by_test false h one = omega arith

pub rings_few : (m : Molecule) → IsMolecule m → pairs (λ j l. has_ring (graph_of m) j l) (length m.atoms) ≤ independent_rings m.bonds (length m.atoms)
rings_few m is =
    let g : Graph = graph_of m in
    let n : ℕ = length m.atoms in
    let len : length (order g) ≡ n = length_steps g n (omega arith) in
    let split = rings_split g n (omega arith) in
    let joined = joined_few m.bonds (λ j. at g j) n (λ j k less below. distinct g (order g) j k (grown g n) less (omega arith)) in
    let roots = roots_few m is in
    omega arith

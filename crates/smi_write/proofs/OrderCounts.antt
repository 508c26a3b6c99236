-- Sums over the bonds of an atom by their orders, and counts of them by their numbers.
use Rattle.std.proofs.Common.{◌≡◌, ℕ, zero, suc, ◌+◌, ◌≤◌, ◌<◌, List, [], ◌∷◌, ◌++◌, length, reverse, Bool, true, false, Option, Some, refl, ap, sym, ◌∙◌, subst, inl, inr, arith}
use Rattle.std.specs.Prelude.{◌==◌, ◌⊎◌, ◌||◌, cond, nat_lt, count_by, slice_get, if◌then◌else◌}
use Rattle.std.proofs.lemmas.Bool.{cases_eq, false≢true, ne_eqb}
use Rattle.std.proofs.lemmas.List.{append-nil, append_assoc, length-reverse, reverse-reverse}
use Rattle.std.proofs.lemmas.List.Sums.{sum_by-append}
use Rattle.std.proofs.lemmas.Option.{same_Some}
use Rattle.mc_mol.specs.declared.parts.Bond.{Bond}
use Rattle.mc_mol.specs.declared.parts.HalfEdge.{HalfEdge}
use Rattle.mc_mol.specs.Molecule.{Molecule, touches}
use Rattle.mc_mol.specs.HalfEdges.{degree, half_edge, half_edges_by, other_end}
use Rattle.mc_mol.specs.WellFormed.{IsMolecule}
use Rattle.mc_mol.proofs.Lists.{reverse_cons}
use Rattle.mc_rings.specs.Centres.{has_order, order_is}
use Rattle.smi_lex.specs.declared.token.BondMark.{BondMark}
use Rattle.smi_graph.specs.Links.{bonds_of}
use Rattle.smi_mean.specs.Order.{Graph, graph_of, order_between, at, rank_of}
use Rattle.smi_mean.specs.RingNumbers.{onto_all}
use Rattle.smi_write.specs.Structure.{SayOrders}
use Rattle.smi_write.proofs.BondSums.{Fits, Ordered, fits, order_at, read_orders, turned_weight, weight}
use Rattle.smi_write.proofs.Hits.{bit}
use Rattle.smi_write.proofs.Ranked.{Inverse, equal_tests, inverse, ranked, read_sum}
use Rattle.smi_write.proofs.Simple.{Simple, simple_of}
use Rattle.smi_write.proofs.Sums.{bonds_sum}
use Rattle.smi_write.proofs.Whole.{graph_roles}

-- Sums over the bonds of an atom by their orders

abbrev pub order_weight : (ℕ → ℕ) → List Bond → ℕ → ℕ
order_weight f [] a = 0
order_weight f (b ∷ bs) a = (if touches b a then f b.order else 0) + order_weight f bs a

weight_append : (f : ℕ → ℕ) (xs ys : List Bond) (a : ℕ) → order_weight f (xs ++ ys) a ≡ order_weight f xs a + order_weight f ys a
weight_append f [] ys a = omega arith
weight_append f (x ∷ xs) ys a = ap (λ (n : ℕ). (if touches x a then f x.order else 0) + n) (weight_append f xs ys a) ∙ omega arith

read_weights : (f : ℕ → ℕ) (v : ℕ → ℕ → ℕ) (k : ℕ) (bs : List Bond) → Ordered v bs → bonds_sum (weight (λ j l. f (v j l)) k) bs ≡ order_weight f bs k
read_weights f v k [] o = refl
read_weights f v k (b ∷ bs) o =
    let r = read_weights f v k bs o.1 in
    let e : weight (λ j l. f (v j l)) k b.first.0 b.second.0 ≡ (if touches b k then f b.order else 0) = ap (λ (x : ℕ). if b.first.0 == k || b.second.0 == k then f x else 0) (sym o.0) in
    omega arith

ranked_weights : (f : ℕ → ℕ) (n k : ℕ) (all bs : List Bond) (at_ pl : ℕ → ℕ) → Inverse n at_ pl → k < n → Simple n bs → Fits all bs
    → bonds_sum (weight (λ j l. f (order_between all (at_ j) (at_ l))) k) (ranked pl bs) ≡ order_weight f bs (at_ k)
ranked_weights f n k all [] at_ pl i below s fit = refl
ranked_weights f n k all (b ∷ bs) at_ pl i below s fit =
    let v : ℕ → ℕ → ℕ = λ j l. f (order_between all (at_ j) (at_ l)) in
    let rest = ranked_weights f n k all bs at_ pl i below s.1.1 fit.1 in
    let ef = i.forth b.first.0 s.0.0 in
    let es = i.forth b.second.0 s.0.1.0 in
    let e1 : v (pl b.first.0) (pl b.second.0) ≡ f b.order = ap f (ap (λ (x : ℕ). order_between all x (at_ (pl b.second.0))) ef ∙ ap (order_between all b.first.0) es ∙ fit.0.0) in
    let e2 : v (pl b.second.0) (pl b.first.0) ≡ f b.order = ap f (ap (λ (x : ℕ). order_between all x (at_ (pl b.first.0))) es ∙ ap (order_between all b.second.0) ef ∙ fit.0.1) in
    let t1 = equal_tests n at_ pl b.first.0 k i s.0.0 below in
    let t2 = equal_tests n at_ pl b.second.0 k i s.0.1.0 below in
    let here = turned_weight v k (pl b.first.0) (pl b.second.0) b.order (f b.order) (nat_lt (pl b.first.0) (pl b.second.0)) e1 e2 in
    let there : (if touches b (at_ k) then f b.order else 0) ≡ (if pl b.first.0 == k || pl b.second.0 == k then f b.order else 0) = rw (t1, t2) refl in
    ap (λ (z : ℕ). z + bonds_sum (weight v k) (ranked pl bs)) (here ∙ sym there) ∙ ap (λ (z : ℕ). (if touches b (at_ k) then f b.order else 0) + z) rest

-- what is summed over the bonds of an atom by their orders is the same where it is read
pub read_order_weight : (f : ℕ → ℕ) (m : Molecule) (symbols : ℕ → ℕ → Option BondMark) (k : ℕ) → IsMolecule m → SayOrders m symbols → k < length m.atoms
    → order_weight f (bonds_of (onto_all (graph_roles (graph_of m) symbols) [])) k ≡ order_weight f m.bonds (at (graph_of m) k)
read_order_weight f m symbols k is say below =
    let g : Graph = graph_of m in
    let v : ℕ → ℕ → ℕ = order_at m in
    let s : Simple (length m.atoms) m.bonds = simple_of (length m.atoms) m.bonds is.bonds is.once in
    sym (read_weights f v k (bonds_of (onto_all (graph_roles g symbols) [])) (read_orders m symbols say))
    ∙ read_sum m symbols (weight (λ j l. f (v j l)) k) s
    ∙ ranked_weights f (length m.atoms) k m.bonds m.bonds (λ j. at g j) (λ u. rank_of g u) (inverse g) below s (fits (length m.atoms) m.bonds s)

-- Half-edges by the numbers of their bonds

-- how many of the bonds of an atom pass, by their numbers; the latest bond first
abbrev pub index_count : (ℕ → Bool) → List Bond → ℕ → ℕ
index_count p [] a = 0
index_count p (b ∷ earlier) a = index_count p earlier a + (if touches b a then bit (p (length earlier)) else 0)

one_half : (p : ℕ → Bool) (t : Bool) (h : HalfEdge) → count_by (λ half. p half.bond.0) (if t then h ∷ [] else []) ≡ (if t then bit (p h.bond.0) else 0)
one_half p true h = by_test (p h.bond.0)
  where
    by_test : (t : Bool) → 0 + cond t 1 0 ≡ bit t
    by_test true = refl
    by_test false = refl
one_half p false h = refl

pub half_counts : (p : ℕ → Bool) (bs : List Bond) (a : ℕ) → count_by (λ half. p half.bond.0) (half_edges_by bs a) ≡ index_count p bs a
half_counts p [] a = refl
half_counts p (b ∷ earlier) a =
    let h = half_counts p earlier a in
    let s = sum_by-append (λ (half : HalfEdge). cond (p half.bond.0) 1 0) (half_edges_by earlier a) (half_edge b earlier a) in
    let o = one_half p (touches b a) (record { bond = record { 0 = length earlier }; to = other_end b a; twin = degree earlier (other_end b a).0 }) in
    s ∙ ap (λ (n : ℕ). n + count_by (λ half. p half.bond.0) (half_edge b earlier a)) h ∙ ap (λ (n : ℕ). index_count p earlier a + n) o

slice_end : (xs : List Bond) (y : Bond) (ys : List Bond) → slice_get (xs ++ y ∷ ys) (length xs) ≡ Some y
slice_end [] y ys = refl
slice_end (x ∷ xs) y ys = slice_end xs y ys

-- each bond by its number
abbrev pub EachBond : (ℕ → Bond → Type 0) → List Bond → Type 0
EachBond r [] = Unit {0}
EachBond r (b ∷ earlier) = r (length earlier) b × EachBond r earlier

each_from : (r : ℕ → Bond → Type 0) (all earlier rest : List Bond) → all ≡ reverse earlier ++ rest → ((i : ℕ) (b : Bond) → slice_get all i ≡ Some b → r i b) → EachBond r earlier
each_from r all [] rest e h = tt
each_from r all (b ∷ earlier) rest e h =
    let e' : all ≡ reverse earlier ++ (b ∷ rest) = e ∙ ap (λ (x : List Bond). x ++ rest) (reverse_cons b earlier) ∙ append_assoc (reverse earlier) (b ∷ []) rest in (
      h (length earlier) b (ap (λ (x : List Bond). slice_get x (length earlier)) e' ∙ ap (slice_get (reverse earlier ++ (b ∷ rest))) (sym (length-reverse earlier)) ∙ slice_end (reverse earlier) b rest),
      each_from r all earlier (b ∷ rest) e' h,
    )

pub each_of : (r : ℕ → Bond → Type 0) (bonds : List Bond) → ((i : ℕ) (b : Bond) → slice_get bonds i ≡ Some b → r i b) → EachBond r (reverse bonds)
each_of r bonds h = each_from r bonds (reverse bonds) [] (sym (append-nil (reverse (reverse bonds)) ∙ reverse-reverse bonds)) h

push_cases : (xs : List Bond) (y b : Bond) (i : ℕ) → slice_get (xs ++ y ∷ []) i ≡ Some b → (slice_get xs i ≡ Some b) ⊎ ((i ≡ length xs) × (y ≡ b))
push_cases [] y b zero h = inr (refl, same_Some y b h)
push_cases [] y b (suc i) h = cc
push_cases (x ∷ xs) y b zero h = inl h
push_cases (x ∷ xs) y b (suc i) h = elim (push_cases xs y b i h) [ inl there ↦ inl there | inr here ↦ inr (ap suc here.0, here.1) ]

pub at_each : (r : ℕ → Bond → Type 0) (earlier : List Bond) → EachBond r earlier → (i : ℕ) (b : Bond) → slice_get (reverse earlier) i ≡ Some b → r i b
at_each r [] h i b e = cc
at_each r (x ∷ earlier) h i b e = elim (push_cases (reverse earlier) x b i (ap (λ (y : List Bond). slice_get y i) (sym (reverse_cons x earlier)) ∙ e)) [
  | inl there ↦ at_each r earlier h.1 i b there
  | inr here ↦ subst (λ (y : Bond). r i y) here.1 (subst (λ (n : ℕ). r n x) (sym (here.0 ∙ length-reverse earlier)) h.0)
]

-- counts by orders
counts_by_order : (all earlier rest : List Bond) (o a : ℕ) → all ≡ reverse earlier ++ rest → index_count (λ i. has_order all i o) earlier a ≡ order_weight (λ x. bit (x == o)) (reverse earlier) a
counts_by_order all [] rest o a e = refl
counts_by_order all (b ∷ earlier) rest o a e =
    let e' : all ≡ reverse earlier ++ (b ∷ rest) = e ∙ ap (λ (x : List Bond). x ++ rest) (reverse_cons b earlier) ∙ append_assoc (reverse earlier) (b ∷ []) rest in
    let found : slice_get all (length earlier) ≡ Some b = ap (λ (x : List Bond). slice_get x (length earlier)) e' ∙ ap (slice_get (reverse earlier ++ (b ∷ rest))) (sym (length-reverse earlier)) ∙ slice_end (reverse earlier) b rest in
    let here : (if touches b a then bit (has_order all (length earlier) o) else 0) ≡ (if touches b a then bit (b.order == o) else 0) = ap (λ (x : Option Bond). if touches b a then bit (order_is x o) else 0) found in
    let more = counts_by_order all earlier (b ∷ rest) o a e' in
    let w = weight_append (λ x. bit (x == o)) (reverse earlier) (b ∷ []) a in
    let turn : order_weight (λ x. bit (x == o)) (reverse (b ∷ earlier)) a ≡ order_weight (λ x. bit (x == o)) (reverse earlier ++ b ∷ []) a = ap (λ (x : List Bond). order_weight (λ x. bit (x == o)) x a) (reverse_cons b earlier) in
    omega arith

pub order_count : (m : Molecule) (a o : ℕ) → index_count (λ i. has_order m.bonds i o) (reverse m.bonds) a ≡ order_weight (λ x. bit (x == o)) m.bonds a
order_count m a o =
    counts_by_order m.bonds (reverse m.bonds) [] o a (sym (append-nil (reverse (reverse m.bonds)) ∙ reverse-reverse m.bonds)) ∙ ap (λ (x : List Bond). order_weight (λ x. bit (x == o)) x a) (reverse-reverse m.bonds)

pub all_count : (bs : List Bond) (a : ℕ) → degree bs a ≡ order_weight (λ x. 1) bs a
all_count [] a = refl
all_count (b ∷ bs) a = let h = all_count bs a in omega arith

-- a bond is single or double
pub apart_orders : (bs : List Bond) (a : ℕ) → order_weight (λ x. bit (x == 1)) bs a + order_weight (λ x. bit (x == 2)) bs a ≤ order_weight (λ x. 1) bs a
apart_orders [] a = omega arith
apart_orders (b ∷ bs) a = by_test (touches b a) (apart_orders bs a)
  where
    either : bit (b.order == 1) + bit (b.order == 2) ≤ 1
    either = elim (cases_eq b.order 1) [
      | inl e ↦ let z : bit (b.order == 2) ≡ 0 = ap bit (ne_eqb b.order 2 (omega arith)) in let o : bit (b.order == 1) ≡ 1 = ap bit (ap (λ (x : ℕ). x == 1) e) in omega arith
      | inr ne ↦ let z : bit (b.order == 1) ≡ 0 = ap bit (ne_eqb b.order 1 ne) in let o = le (b.order == 2) in omega arith
    ]
      where
        le : (t : Bool) → bit t ≤ 1
        le true = omega arith
        le false = omega arith

    by_test : (t : Bool) → order_weight (λ x. bit (x == 1)) bs a + order_weight (λ x. bit (x == 2)) bs a ≤ order_weight (λ x. 1) bs a
        → ((if t then bit (b.order == 1) else 0) + order_weight (λ x. bit (x == 1)) bs a) + ((if t then bit (b.order == 2) else 0) + order_weight (λ x. bit (x == 2)) bs a) ≤ (if t then 1 else 0) + order_weight (λ x. 1) bs a
    by_test true h = let e = either in omega arith
    by_test false h = omega arith

-- Counts of those that pass a stronger test

bit_imp : (p q : Bool) → (q ≡ true → p ≡ true) → bit q ≤ bit p
bit_imp true true h = omega arith
bit_imp true false h = omega arith
bit_imp false true h = absurd (false≢true (h refl))
bit_imp false false h = omega arith

pub counts_le : (p q : ℕ → Bool) (bs : List Bond) (a : ℕ) → ((i : ℕ) → q i ≡ true → p i ≡ true) → index_count q bs a ≤ index_count p bs a
counts_le p q [] a h = omega arith
counts_le p q (b ∷ earlier) a h = by_test (touches b a) (counts_le p q earlier a h) (bit_imp (p (length earlier)) (q (length earlier)) (h (length earlier)))
  where
    by_test : (t : Bool) → index_count q earlier a ≤ index_count p earlier a → bit (q (length earlier)) ≤ bit (p (length earlier))
        → index_count q earlier a + (if t then bit (q (length earlier)) else 0) ≤ index_count p earlier a + (if t then bit (p (length earlier)) else 0)
    by_test true le one = omega arith
    by_test false le one = omega arith

pub counts_all : (p q : ℕ → Bool) (bs : List Bond) (a : ℕ) → ((i : ℕ) → q i ≡ true → p i ≡ true) → index_count p bs a ≡ index_count q bs a
    → EachBond (λ i b. touches b a ≡ true → p i ≡ true → q i ≡ true) bs
counts_all p q [] a h e = tt
counts_all p q (b ∷ earlier) a h e =
    let le = counts_le p q earlier a h in
    let one = bit_imp (p (length earlier)) (q (length earlier)) (h (length earlier)) in (
      by_test (touches b a) refl le one e,
      counts_all p q earlier a h (rest (touches b a) le one e),
    )
  where
    rest : (t : Bool) → index_count q earlier a ≤ index_count p earlier a → bit (q (length earlier)) ≤ bit (p (length earlier))
        → index_count p earlier a + (if t then bit (p (length earlier)) else 0) ≡ index_count q earlier a + (if t then bit (q (length earlier)) else 0) → index_count p earlier a ≡ index_count q earlier a
    rest true le one e = omega arith
    rest false le one e = omega arith

    same : (x y : Bool) → bit x ≡ bit y → x ≡ true → y ≡ true
    same true true e h = refl
    same true false e h = absurd (omega arith)
    same false y e h = absurd (false≢true h)

    by_test : (t : Bool) → touches b a ≡ t → index_count q earlier a ≤ index_count p earlier a → bit (q (length earlier)) ≤ bit (p (length earlier))
        → index_count p earlier a + (if t then bit (p (length earlier)) else 0) ≡ index_count q earlier a + (if t then bit (q (length earlier)) else 0)
        → touches b a ≡ true → p (length earlier) ≡ true → q (length earlier) ≡ true
    by_test true f le one e touch is = same (p (length earlier)) (q (length earlier)) (omega arith) is
    by_test false f le one e touch is = absurd (false≢true (sym f ∙ touch))

pub counts_same : (p q : ℕ → Bool) (bs : List Bond) (a : ℕ) → EachBond (λ i b. touches b a ≡ true → p i ≡ q i) bs → index_count p bs a ≡ index_count q bs a
counts_same p q [] a h = refl
counts_same p q (b ∷ earlier) a h =
    ap (λ (n : ℕ). n + (if touches b a then bit (p (length earlier)) else 0)) (counts_same p q earlier a h.1) ∙ ap (λ (n : ℕ). index_count q earlier a + n) (by_test (touches b a) refl)
  where
    by_test : (t : Bool) → touches b a ≡ t → (if t then bit (p (length earlier)) else 0) ≡ (if t then bit (q (length earlier)) else 0)
    by_test true f = ap bit (h.0 f)
    by_test false f = refl

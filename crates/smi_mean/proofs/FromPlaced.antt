-- A placement gives a perfect matching of the needing atoms.
use Rattle.std.proofs.Common.{◌≡◌, ℕ, ◌≤◌, ◌<◌, List, [], ◌∷◌, length, Bool, true, false, refl, ap, sym, ◌∙◌, inl, inr, arith, subst, get_or}
use Rattle.std.specs.Prelude.{◌==◌, if◌then◌else◌}
use Rattle.std.proofs.lemmas.Bool.{false≢true, cases_Bool, or_cases, or_left, or_right, eqb-true, eq-eqb, cond-true, cond-false}
use Rattle.mc_mol.specs.declared.parts.Bond.{Bond}
use Rattle.mc_mol.specs.Molecule.{touches, joins, are_joined}
use Rattle.mc_mol.proofs.Apart.{joins_cases, joins_from, are_joined_turned, touches_cases, joins_touches}
use Rattle.match_barrier.specs.Graph.{adjacent}
use Rattle.match_barrier.specs.Barrier.{one_if, count}
use Rattle.match_barrier.specs.Matching.{IsPerfect}
use Rattle.smi_graph.specs.Candidates.{marked}
use Rattle.smi_mean.specs.Barriers.{table}
use Rattle.smi_mean.specs.NeedGraphs.{AreApart, counted, node_of, atom_of, IsNeedGraph}
use Rattle.smi_mean.proofs.Ranks.{rank_below, IsNth, nth_is, nth_rank, get_or_table_start, length_table}

-- some candidates in which each needing atom lies exactly once, and no other atom lies
pub record ArePlaced (needs : List Bool) (candidates placed : List Bond) : Type 0 where
  pub among : (a b : ℕ) → are_joined placed a b ≡ true → are_joined candidates a b ≡ true
  pub once : (k : ℕ) → k < length needs → counted (λ t. touches t k) placed ≡ one_if (marked needs k)

abbrev other : Bond → ℕ → ℕ
other t a = if t.first.0 == a then t.second.0 else t.first.0

-- the other end of the first bond of an atom
abbrev pub partner : List Bond → ℕ → ℕ
partner [] a = a
partner (t ∷ placed) a = if touches t a then other t a else partner placed a

joins_other : (t : Bond) (a : ℕ) → touches t a ≡ true → joins t a (other t a) ≡ true
joins_other t a h = elim (cases_Bool (t.first.0 == a)) [
  | inl e ↦ joins_from t a (other t a) (inl (eqb-true t.first.0 a e, sym (cond-true (t.first.0 == a) t.second.0 t.first.0 e)))
  | inr ne ↦ joins_from t a (other t a) (inr (
    sym (cond-false (t.first.0 == a) t.second.0 t.first.0 ne),
    elim (touches_cases t a h) [
      | inl e ↦ absurd (false≢true (sym ne ∙ eq-eqb t.first.0 a e))
      | inr e ↦ e
    ],
  ))
]

other_of_joins : (t : Bond) (a b : ℕ) → joins t a b ≡ true → other t a ≡ b
other_of_joins t a b h = elim (cases_Bool (t.first.0 == a)) [
  | inl e ↦ cond-true (t.first.0 == a) t.second.0 t.first.0 e ∙ elim (joins_cases t a b h) [
    | inl c ↦ c.1
    | inr c ↦ c.1 ∙ sym (eqb-true t.first.0 a e) ∙ c.0
  ]
  | inr ne ↦ cond-false (t.first.0 == a) t.second.0 t.first.0 ne ∙ elim (joins_cases t a b h) [
    | inl c ↦ absurd (false≢true (sym ne ∙ eq-eqb t.first.0 a c.0))
    | inr c ↦ c.0
  ]
]

-- An atom that has a placed bond has one to its partner.
partner_found : (placed : List Bond) (a : ℕ) → 1 ≤ counted (λ t. touches t a) placed → are_joined placed a (partner placed a) ≡ true
partner_found [] a some = absurd (omega arith)
partner_found (t ∷ placed) a some = elim (cases_Bool (touches t a)) [
  | inl here ↦
      or_left (joins t a (partner (t ∷ placed) a)) (are_joined placed a (partner (t ∷ placed) a))
      (subst (λ (x : ℕ). joins t a x ≡ true) (sym (cond-true (touches t a) (other t a) (partner placed a) here)) (joins_other t a here))
  | inr later ↦
      let e : one_if (touches t a) ≡ 0 = ap one_if later in
      or_right (joins t a (partner (t ∷ placed) a)) (are_joined placed a (partner (t ∷ placed) a))
      (subst (λ (x : ℕ). are_joined placed a x ≡ true) (sym (cond-false (touches t a) (other t a) (partner placed a) later)) (partner_found placed a (omega arith)))
]

joined_counts : (placed : List Bond) (a b : ℕ) → are_joined placed a b ≡ true → 1 ≤ counted (λ t. touches t a) placed
joined_counts [] a b h = absurd (false≢true h)
joined_counts (t ∷ placed) a b h = elim (or_cases (joins t a b) (are_joined placed a b) h) [
  | inl here ↦ let e : one_if (touches t a) ≡ 1 = ap one_if (joins_touches t a b here) in omega arith
  | inr rest ↦ let e = joined_counts placed a b rest in omega arith
]

-- An atom with one placed bond has no other partner.
partner_only : (placed : List Bond) (a b : ℕ) → counted (λ t. touches t a) placed ≤ 1 → are_joined placed a b ≡ true → partner placed a ≡ b
partner_only [] a b one h = absurd (false≢true h)
partner_only (t ∷ placed) a b one h = elim (cases_Bool (touches t a)) [
  | inl here ↦
      let e : one_if (touches t a) ≡ 1 = ap one_if here in
      cond-true (touches t a) (other t a) (partner placed a) here ∙
      elim (or_cases (joins t a b) (are_joined placed a b) h) [
        | inl now ↦ other_of_joins t a b now
        | inr rest ↦ let c = joined_counts placed a b rest in absurd (omega arith)
      ]
  | inr later ↦
      let e : one_if (touches t a) ≡ 0 = ap one_if later in
      cond-false (touches t a) (other t a) (partner placed a) later ∙
      partner_only placed a b (omega arith) (elim (or_cases (joins t a b) (are_joined placed a b) h) [
        | inl now ↦ absurd (false≢true (sym later ∙ joins_touches t a b now))
        | inr rest ↦ rest
      ])
]

joined_below : (n : ℕ) (bonds : List Bond) (a b : ℕ) → AreApart n bonds → are_joined bonds a b ≡ true → b < n
joined_below n [] a b are h = absurd (false≢true h)
joined_below n (t ∷ bonds) a b are h = elim (or_cases (joins t a b) (are_joined bonds a b) h) [
  | inl here ↦ elim (joins_cases t a b here) [
    | inl e ↦ subst (λ (x : ℕ). x < n) e.1 are.1
    | inr e ↦ subst (λ (x : ℕ). x < n) e.0 are.0
  ]
  | inr rest ↦ joined_below n bonds a b are.4 rest
]

-- the mate of each node
abbrev pub mates_of : List Bool → List Bond → ℕ → List ℕ
mates_of needs placed n = table (λ v. node_of needs (partner placed (atom_of needs v))) 0 n

-- what is said of a node and its mate
record Pair (needs : List Bool) (placed : List Bond) (g : List (List ℕ)) (v : ℕ) : Type 0 where
  pub mate : get_or (mates_of needs placed (length g)) v 0 ≡ node_of needs (partner placed (atom_of needs v))
  pub below : node_of needs (partner placed (atom_of needs v)) < length g
  pub atom : atom_of needs (node_of needs (partner placed (atom_of needs v))) ≡ partner placed (atom_of needs v)
  pub edge : adjacent g v (node_of needs (partner placed (atom_of needs v))) ≡ true
  pub back : partner placed (partner placed (atom_of needs v)) ≡ atom_of needs v
  pub node : node_of needs (atom_of needs v) ≡ v

pair_at : (needs : List Bool) (candidates placed : List Bond) (g : List (List ℕ)) → AreApart (length needs) candidates → IsNeedGraph needs candidates g → ArePlaced needs candidates placed
    → (v : ℕ) → v < length g → Pair needs placed g v
pair_at needs candidates placed g are graph is v less =
    let n : ℕ = length needs in
    let a : ℕ = atom_of needs v in
    let b : ℕ = partner placed a in
    let nodes = graph.nodes in
    let of_v : IsNth (marked needs) n v a = nth_is (marked needs) n v (omega arith) in
    let once : counted (λ t. touches t a) placed ≡ 1 = is.once a of_v.below ∙ ap one_if of_v.passes in
    let there : are_joined placed a b ≡ true = partner_found placed a (omega arith) in
    let back : are_joined placed b a ≡ true = are_joined_turned placed b a ∙ there in
    let candidate : are_joined candidates a b ≡ true = is.among a b there in
    let b_below : b < n = joined_below n candidates a b are candidate in
    let b_counts : 1 ≤ counted (λ t. touches t b) placed = joined_counts placed b a back in
    let b_once : counted (λ t. touches t b) placed ≡ one_if (marked needs b) = is.once b b_below in
    let b_needs : marked needs b ≡ true = needing (marked needs b) (omega arith) in
    let b_few : counted (λ t. touches t b) placed ≤ 1 = few (marked needs b) (counted (λ t. touches t b) placed) b_once in
    let w : ℕ = node_of needs b in
    let w_low : w < count n (marked needs) = rank_below (marked needs) b n b_below b_needs in
    let w_below : w < length g = omega arith in
    let b_atom : atom_of needs w ≡ b = nth_rank (marked needs) n b b_below b_needs in
    record {
      mate = get_or_table_start (λ u. node_of needs (partner placed (atom_of needs u))) (length g) v 0 less;
      below = w_below;
      atom = b_atom;
      edge = graph.edges v w less w_below ∙ ap (are_joined candidates a) b_atom ∙ candidate;
      back = partner_only placed b a b_few back;
      node = of_v.rank;
    }
  where
    needing : (x : Bool) → 1 ≤ one_if x → x ≡ true
    needing true h = refl
    needing false h = absurd (omega arith)

    few : (x : Bool) (c : ℕ) → c ≡ one_if x → c ≤ 1
    few true c h = omega arith
    few false c h = omega arith

-- The partners in a placement are a perfect matching.
pub mates_of_placed : (needs : List Bool) (candidates placed : List Bond) (g : List (List ℕ)) → AreApart (length needs) candidates → IsNeedGraph needs candidates g → ArePlaced needs candidates placed
    → IsPerfect g (mates_of needs placed (length g))
mates_of_placed needs candidates placed g are graph is = record {
  each_node = length_table (λ v. node_of needs (partner placed (atom_of needs v))) 0 (length g);
  neighbour = λ v less.
      let p = pair_at needs candidates placed g are graph is v less in
      subst (λ (x : ℕ). adjacent g v x ≡ true) (sym p.mate) p.edge;
  back = λ v less.
      let p = pair_at needs candidates placed g are graph is v less in
      let w : ℕ = node_of needs (partner placed (atom_of needs v)) in
      ap (λ (x : ℕ). get_or (mates_of needs placed (length g)) x 0) p.mate
      ∙ get_or_table_start (λ u. node_of needs (partner placed (atom_of needs u))) (length g) w 0 p.below
      ∙ ap (node_of needs) (ap (partner placed) p.atom ∙ p.back) ∙ p.node;
}

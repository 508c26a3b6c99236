-- Distances from one end of a bond without the bond tell its ring size.
use Rattle.std.proofs.Common.{List, None, Option, Some, [], ap, arith, get_or, inl, inr, length, refl, reverse, slice_get, subst, suc, sym, true, zero, ℕ, ◌++◌, ◌+◌, ◌-◌, ◌<◌, ◌∙◌, ◌∷◌, ◌≡◌, ◌≢◌, ◌≤◌, ◌⊎◌}
use Rattle.std.proofs.Math.Seq.{get_or-append_seam}
use Rattle.std.proofs.lemmas.Bool.{cases_eq, cases_lt}
use Rattle.std.proofs.lemmas.List.{get_or-reverse, get_or_append_left, length-append, length-reverse}
use Rattle.mc_mol.proofs.Neighbours.{joined_back}
use Rattle.mc_mol.proofs.Paths.{last_in, next_in}
use Rattle.mc_mol.specs.ClosedPaths.{Follows, IsClosedPath, IsRingOf, Uses}
use Rattle.mc_mol.specs.Molecule.{are_joined}
use Rattle.mc_mol.specs.Numbered.{Mark}
use Rattle.mc_mol.specs.declared.parts.Bond.{Bond}
use Rattle.mc_rings.specs.Distances.{AreDistances, From, MarkWithin, Step}
use Rattle.mc_rings.specs.RingSizes.{IsRingSize}

same_mark : (marks : List (Option ℕ)) (a b d e : ℕ) → a ≡ b → Mark marks a d → Mark marks b e → d ≡ e
same_mark marks a b d e same at_a at_b = let at : slice_get marks a ≡ Some (Some e) = subst (λ (n : ℕ). Mark marks n e) (sym same) at_b in cc

-- a list of atoms with the numbers 0 to d, each a step from the one before
pub record PathTo (bonds : List Bond) (u v : ℕ) (marks : List (Option ℕ)) (a d : ℕ) : Type 0 where
  pub path : List ℕ
  pub count : length path ≡ suc d
  pub marked : (k : ℕ) → k ≤ d → Mark marks (get_or path k 0) k
  pub steps : (k : ℕ) → k < d → Step bonds u v (get_or path k 0) (get_or path (suc k) 0)
  pub ends : get_or path d 0 ≡ a

longer : (bonds : List Bond) (u v : ℕ) (marks : List (Option ℕ)) (a d : ℕ) → (from : From bonds u v marks a d) → Mark marks a (suc d) → PathTo bonds u v marks from.before d
    → PathTo bonds u v marks a (suc d)
longer bonds u v marks a d from at p = record {
  path = p.path ++ a ∷ [];
  count = length-append p.path (a ∷ []) ∙ omega (arith, p.count);
  marked = λ k h. elim (cases_lt k (suc d)) [
    | inl less ↦ subst (λ (n : ℕ). Mark marks n k) (sym (before k less)) (p.marked k (omega arith))
    | inr more ↦
        let last : k ≡ suc d = omega arith in
        subst (λ (j : ℕ). Mark marks (get_or (p.path ++ a ∷ []) j 0) j) (sym last) (subst (λ (n : ℕ). Mark marks n (suc d)) (sym seam) at)
  ];
  steps = λ k h. elim (cases_lt k d) [
    | inl less ↦ subst (λ (n : ℕ). Step bonds u v n (get_or (p.path ++ a ∷ []) (suc k) 0)) (sym (before k (omega arith)))
        (subst (λ (n : ℕ). Step bonds u v (get_or p.path k 0) n) (sym (before (suc k) (omega arith))) (p.steps k less))
    | inr more ↦
        let last : k ≡ d = omega arith in
        subst (λ (j : ℕ). Step bonds u v (get_or (p.path ++ a ∷ []) j 0) (get_or (p.path ++ a ∷ []) (suc j) 0)) (sym last)
        (subst (λ (n : ℕ). Step bonds u v n (get_or (p.path ++ a ∷ []) (suc d) 0)) (sym (before d (omega arith) ∙ p.ends))
        (subst (λ (n : ℕ). Step bonds u v from.before n) (sym seam) from.step))
  ];
  ends = seam;
}
  where
    before : (k : ℕ) → k < suc d → get_or (p.path ++ a ∷ []) k 0 ≡ get_or p.path k 0
    before k h = get_or_append_left p.path (a ∷ []) 0 k (omega (arith, p.count))

    seam : get_or (p.path ++ a ∷ []) (suc d) 0 ≡ a
    seam = subst (λ (n : ℕ). get_or (p.path ++ a ∷ []) n 0 ≡ a) p.count (get_or-append_seam p.path a [] 0)

path_to : (bonds : List Bond) (u v : ℕ) (marks : List (Option ℕ)) → AreDistances bonds u v marks → (d a : ℕ) → Mark marks a d → PathTo bonds u v marks a d
path_to bonds u v marks are zero a at = record {
  path = a ∷ [];
  count = refl;
  marked = λ k h. let k_is : 0 ≡ k = omega arith in subst (λ (j : ℕ). Mark marks (get_or (a ∷ []) j 0) j) k_is at;
  steps = λ k h. absurd (omega arith);
  ends = refl;
}
path_to bonds u v marks are (suc d) a at =
    let from : From bonds u v marks a d = are.down a d at in
    longer bonds u v marks a d from at (path_to bonds u v marks are d from.before from.marked)

-- the path back from v, closed by the bond
ring_of : (bonds : List Bond) (bond : Bond) (marks : List (Option ℕ)) → AreDistances bonds bond.first.0 bond.second.0 marks → bond.first.0 ≢ bond.second.0
    → are_joined bonds bond.first.0 bond.second.0 ≡ true → (d : ℕ) → (p : PathTo bonds bond.first.0 bond.second.0 marks bond.second.0 d) → IsRingOf bonds bond p.path
ring_of bonds bond marks are different joined d p = record {
  closed_path = record {
    long = let l = p.count in let t = at_least_two in omega arith;
    different = λ i j less within same.
        let l = p.count in
        let i_is : i ≤ d = omega arith in
        let j_is : j ≤ d = omega arith in
        let e : i ≡ j = same_mark marks _ _ i j same (p.marked i i_is) (p.marked j j_is) in
        omega arith;
    joined = λ i within.
        let l = p.count in
        let less : i < d = omega arith in
        let next : suc i ≡ i + 1 = omega arith in
        subst (λ (k : ℕ). are_joined bonds (get_or p.path i 0) (get_or p.path k 0) ≡ true) next (p.steps i less).joined;
    closed = subst (λ (n : ℕ). are_joined bonds n (get_or p.path 0 0) ≡ true) (sym last)
        (subst (λ (n : ℕ). are_joined bonds bond.second.0 n ≡ true) (sym first) (joined_back bonds bond.first.0 bond.second.0 joined));
  };
  uses = inr (inr (last, first));
}
  where
    first : get_or p.path 0 0 ≡ bond.first.0
    first = are.zero_is (get_or p.path 0 0) (p.marked 0 (omega arith))

    last : get_or p.path (length p.path - 1) 0 ≡ bond.second.0
    last = let l : length p.path - 1 ≡ d = omega (arith, p.count) in subst (λ (k : ℕ). get_or p.path k 0 ≡ bond.second.0) (sym l) p.ends

    not_zero : d ≢ 0
    not_zero e = different (sym first ∙ subst (λ (k : ℕ). get_or p.path k 0 ≡ bond.second.0) e p.ends)

    not_one : d ≢ 1
    not_one e = (p.steps 0 (omega arith)).not_barred first (subst (λ (k : ℕ). get_or p.path k 0 ≡ bond.second.0) e p.ends)

    at_least_two : 2 ≤ d
    at_least_two = let a = not_zero in let b = not_one in omega arith

-- the other way round a closed path
reversed_at : (path : List ℕ) (k : ℕ) → k < length path → get_or (reverse path) k 0 ≡ get_or path (length path - 1 - k) 0
reversed_at path k h = get_or-reverse path k 0 h

turned : (bonds : List Bond) (path : List ℕ) → IsClosedPath bonds path → IsClosedPath bonds (reverse path)
turned bonds path is = record {
  long = let l = length-reverse path in let n = is.long in omega arith;
  different = λ i j less within same.
      let l = length-reverse path in
      let j_in : j < length path = omega arith in
      let i_in : i < length path = omega arith in
      let one : length path - 1 - j < length path - 1 - i = omega arith in
      let two : length path - 1 - i < length path = omega arith in
      is.different (length path - 1 - j) (length path - 1 - i) one two (sym (reversed_at path j j_in) ∙ sym same ∙ reversed_at path i i_in);
  joined = λ i within.
      let l = length-reverse path in
      let i_in : i < length path = omega arith in
      let next_in : i + 1 < length path = omega arith in
      let k_is : length path - 1 - (i + 1) + 1 ≡ length path - 1 - i = omega arith in
      let k_in : length path - 1 - (i + 1) + 1 < length path = omega arith in
      subst (λ (n : ℕ). are_joined bonds n (get_or (reverse path) (i + 1) 0) ≡ true) (sym (reversed_at path i i_in))
      (subst (λ (n : ℕ). are_joined bonds (get_or path (length path - 1 - i) 0) n ≡ true) (sym (reversed_at path (i + 1) next_in))
      (joined_back bonds _ _ (subst (λ (k : ℕ). are_joined bonds (get_or path (length path - 1 - (i + 1)) 0) (get_or path k 0) ≡ true) k_is
      (is.joined (length path - 1 - (i + 1)) k_in))));
  closed =
      let n = is.long in
      let l = length-reverse path in
      let last_in : length (reverse path) - 1 < length path = omega arith in
      let first_in : 0 < length path = omega arith in
      let last_is : length path - 1 - (length (reverse path) - 1) ≡ 0 = omega arith in
      let first_is : length path - 1 - 0 ≡ length path - 1 = omega arith in
      subst (λ (n : ℕ). are_joined bonds n (get_or (reverse path) 0 0) ≡ true) (sym (reversed_at path (length (reverse path) - 1) last_in))
      (subst (λ (n : ℕ). are_joined bonds (get_or path (length path - 1 - (length (reverse path) - 1)) 0) n ≡ true) (sym (reversed_at path 0 first_in))
      (subst (λ (k : ℕ). are_joined bonds (get_or path k 0) (get_or path (length path - 1 - 0) 0) ≡ true) (sym last_is)
      (subst (λ (k : ℕ). are_joined bonds (get_or path 0 0) (get_or path k 0) ≡ true) (sym first_is) (joined_back bonds _ _ is.closed))));
}

turned_follows : (path : List ℕ) (x y : ℕ) → 3 ≤ length path → Follows path x y → Follows (reverse path) y x
turned_follows path x y long (inl (i, within, at_x, at_y)) =
    let l = length-reverse path in
    let j_in : length path - 1 - (i + 1) < length path = omega arith in
    let next_in : length path - 1 - (i + 1) + 1 < length path = omega arith in
    let fits : length path - 1 - (i + 1) + 1 < length (reverse path) = omega arith in
    let back : length path - 1 - (length path - 1 - (i + 1)) ≡ i + 1 = omega arith in
    let back_next : length path - 1 - (length path - 1 - (i + 1) + 1) ≡ i = omega arith in
    inl (
      length path - 1 - (i + 1),
      fits,
      reversed_at path (length path - 1 - (i + 1)) j_in ∙ ap (λ (k : ℕ). get_or path k 0) back ∙ at_y,
      reversed_at path (length path - 1 - (i + 1) + 1) next_in ∙ ap (λ (k : ℕ). get_or path k 0) back_next ∙ at_x,
    )
turned_follows path x y long (inr (at_x, at_y)) =
    let l = length-reverse path in
    let last_in : length (reverse path) - 1 < length path = omega arith in
    let first_in : 0 < length path = omega arith in
    let last_is : length path - 1 - (length (reverse path) - 1) ≡ 0 = omega arith in
    let first_is : length path - 1 - 0 ≡ length path - 1 = omega arith in
    inr (
      reversed_at path (length (reverse path) - 1) last_in ∙ ap (λ (k : ℕ). get_or path k 0) last_is ∙ at_y,
      reversed_at path 0 first_in ∙ ap (λ (k : ℕ). get_or path k 0) first_is ∙ at_x,
    )

-- all atoms nearer than the level are followed
record Onward (bonds : List Bond) (u v : ℕ) (marks : List (Option ℕ)) (level : ℕ) : Type 0 where
  start : Mark marks u 0
  onward : (x y d : ℕ) → Mark marks x d → d < level → Step bonds u v x y → MarkWithin marks y (suc d)

-- the atom has a number of at most this, or this lies past the level
abbrev Reached : List (Option ℕ) → ℕ → ℕ → ℕ → Type 0
Reached marks level a most = MarkWithin marks a most ⊎ (level ≤ most)

within_more : (marks : List (Option ℕ)) (level : ℕ) (a m n : ℕ) → m ≤ n → Reached marks level a m → Reached marks level a n
within_more marks level a m n le (inl (d, at, few)) = inl (d, at, omega arith)
within_more marks level a m n le (inr past) = inr (omega arith)

onward_within : (bonds : List Bond) (u v : ℕ) (marks : List (Option ℕ)) (level : ℕ) → Onward bonds u v marks level → (x y most : ℕ) → Reached marks level x most → Step bonds u v x y
    → Reached marks level y (suc most)
onward_within bonds u v marks level are x y most (inr past) step = inr (omega arith)
onward_within bonds u v marks level are x y most (inl (d, at, few)) step = elim (cases_lt d level) [
  | inl nearer ↦ within_more marks level y (suc d) (suc most) (omega arith) (inl (are.onward x y d at nearer step))
  | inr far ↦ inr (omega arith)
]

-- two places of a closed path that hold one atom are one place
same_place : (bonds : List Bond) (path : List ℕ) → IsClosedPath bonds path → (i j : ℕ) → i < length path → j < length path → get_or path i 0 ≡ get_or path j 0 → i ≡ j
same_place bonds path is i j i_in j_in same = elim (cases_lt i j) [
  | inl less ↦ absurd (is.different i j less j_in same)
  | inr more ↦ elim (cases_eq i j) [
    | inl equal ↦ equal
    | inr other ↦ absurd (is.different j i (omega arith) i_in (sym same))
  ]
]

-- u at one place and v at another, where v doesn't stand directly behind u
record Ends (bonds : List Bond) (u v : ℕ) (path : List ℕ) (i j : ℕ) : Type 0 where
  is : IsClosedPath bonds path
  i_in : i < length path
  j_in : j < length path
  at_u : get_or path i 0 ≡ u
  at_v : get_or path j 0 ≡ v
  not_next : i + 1 ≢ j
  not_round : i + 1 ≡ length path → j ≢ 0

along : (bonds : List Bond) (u v : ℕ) (marks : List (Option ℕ)) (level : ℕ) (path : List ℕ) (i j : ℕ) → Onward bonds u v marks level → Ends bonds u v path i j
    → (k : ℕ) → i + k < length path → Reached marks level (get_or path (i + k) 0) k
along bonds u v marks level path i j are e zero h =
    let i_is : i ≡ i + 0 = omega arith in
    inl (0, subst (λ (n : ℕ). Mark marks n 0) (sym e.at_u ∙ ap (λ (k : ℕ). get_or path k 0) i_is) are.start, omega arith)
along bonds u v marks level path i j are e (suc k) h =
    let before : i + k < length path = omega arith in
    let next : i + k + 1 ≡ i + suc k = omega arith in
    let next_in : i + k + 1 < length path = omega arith in
    let step : Step bonds u v (get_or path (i + k) 0) (get_or path (i + k + 1) 0) = record {
      joined = e.is.joined (i + k) next_in;
      not_barred = λ x_is y_is.
          let x_place : i + k ≡ i = same_place bonds path e.is (i + k) i before e.i_in (x_is ∙ sym e.at_u) in
          let y_place : i + k + 1 ≡ j = same_place bonds path e.is (i + k + 1) j next_in e.j_in (y_is ∙ sym e.at_v) in
          e.not_next (omega arith);
    } in
    subst (λ (n : ℕ). Reached marks level (get_or path n 0) (suc k)) next
    (onward_within bonds u v marks level are _ _ k (along bonds u v marks level path i j are e k before) step)

round : (bonds : List Bond) (u v : ℕ) (marks : List (Option ℕ)) (level : ℕ) (path : List ℕ) (i j : ℕ) → Onward bonds u v marks level → Ends bonds u v path i j
    → (k : ℕ) → k ≤ j → j < i → Reached marks level (get_or path k 0) (length path - i + k)
round bonds u v marks level path i j are e zero h less =
    let n = e.i_in in
    let last_is : i + (length path - 1 - i) ≡ length path - 1 = omega arith in
    let last_in : i + (length path - 1 - i) < length path = omega arith in
    let last = subst (λ (k : ℕ). Reached marks level (get_or path k 0) (length path - 1 - i)) last_is (along bonds u v marks level path i j are e (length path - 1 - i) last_in) in
    let step : Step bonds u v (get_or path (length path - 1) 0) (get_or path 0 0) = record {
      joined = e.is.closed;
      not_barred = λ x_is y_is.
          let end_in : length path - 1 < length path = omega arith in
          let first_in : 0 < length path = omega arith in
          let x_place : length path - 1 ≡ i = same_place bonds path e.is (length path - 1) i end_in e.i_in (x_is ∙ sym e.at_u) in
          let y_place : 0 ≡ j = same_place bonds path e.is 0 j first_in e.j_in (y_is ∙ sym e.at_v) in
          e.not_round (omega arith) (sym y_place);
    } in
    within_more marks level (get_or path 0 0) (suc (length path - 1 - i)) (length path - i + 0) (omega arith) (onward_within bonds u v marks level are _ _ (length path - 1 - i) last step)
round bonds u v marks level path i j are e (suc k) h less =
    let next : k + 1 ≡ suc k = omega arith in
    let j_in = e.j_in in
    let k_in : k < length path = omega arith in
    let next_in : k + 1 < length path = omega arith in
    let step : Step bonds u v (get_or path k 0) (get_or path (k + 1) 0) = record {
      joined = e.is.joined k next_in;
      not_barred = λ x_is y_is.
          let x_place : k ≡ i = same_place bonds path e.is k i k_in e.i_in (x_is ∙ sym e.at_u) in
          absurd (omega arith);
    } in
    subst (λ (n : ℕ). Reached marks level (get_or path n 0) (length path - i + suc k)) next
    (within_more marks level _ (suc (length path - i + k)) (length path - i + suc k) (omega arith)
    (onward_within bonds u v marks level are _ _ (length path - i + k) (round bonds u v marks level path i j are e k (omega arith) less) step))

-- where u follows v, v has a number below the length
reaches : (bonds : List Bond) (u v : ℕ) (marks : List (Option ℕ)) (level : ℕ) (path : List ℕ) → Onward bonds u v marks level → IsClosedPath bonds path → Follows path v u
    → Reached marks level v (length path - 1)
reaches bonds u v marks level path are is (inl (j, within, at_v, at_u)) =
    let long = is.long in
    let ends : Ends bonds u v path (j + 1) j = record {
      is = is;
      i_in = within;
      j_in = omega arith;
      at_u = at_u;
      at_v = at_v;
      not_next = λ e. omega arith;
      not_round = λ e f. omega arith;
    } in
    subst (λ (n : ℕ). Reached marks level n (length path - 1)) at_v
    (within_more marks level (get_or path j 0) (length path - (j + 1) + j) (length path - 1) (omega arith) (round bonds u v marks level path (j + 1) j are ends j (omega arith) (omega arith)))
reaches bonds u v marks level path are is (inr (at_v, at_u)) =
    let long = is.long in
    let ends : Ends bonds u v path 0 (length path - 1) = record {
      is = is;
      i_in = omega arith;
      j_in = omega arith;
      at_u = at_u;
      at_v = at_v;
      not_next = λ e. omega arith;
      not_round = λ e f. omega arith;
    } in
    let place : 0 + (length path - 1) ≡ length path - 1 = omega arith in
    subst (λ (n : ℕ). Reached marks level n (length path - 1)) at_v
    (subst (λ (k : ℕ). Reached marks level (get_or path k 0) (length path - 1)) place (along bonds u v marks level path 0 (length path - 1) are ends (length path - 1) (omega arith)))

reaches_ring : (bonds : List Bond) (bond : Bond) (marks : List (Option ℕ)) (level : ℕ) (path : List ℕ) → Onward bonds bond.first.0 bond.second.0 marks level → IsClosedPath bonds path
    → Uses path bond → Reached marks level bond.second.0 (length path - 1)
reaches_ring bonds bond marks level path are is (inl along_it) =
    let n : length (reverse path) - 1 ≡ length path - 1 = omega (arith, length-reverse path) in
    subst (λ (k : ℕ). Reached marks level bond.second.0 k) n
    (reaches bonds bond.first.0 bond.second.0 marks level (reverse path) are (turned bonds path is) (turned_follows path bond.first.0 bond.second.0 is.long along_it))
reaches_ring bonds bond marks level path are is (inr against_it) = reaches bonds bond.first.0 bond.second.0 marks level path are is against_it

-- the number of the second end, and the bond itself
pub ring_size_found : (bonds : List Bond) (bond : Bond) (marks : List (Option ℕ)) → AreDistances bonds bond.first.0 bond.second.0 marks → bond.first.0 ≢ bond.second.0
    → are_joined bonds bond.first.0 bond.second.0 ≡ true → (d : ℕ) → Mark marks bond.second.0 d → IsRingSize bonds bond (suc d)
ring_size_found bonds bond marks are different joined d at =
    let p : PathTo bonds bond.first.0 bond.second.0 marks bond.second.0 d = path_to bonds bond.first.0 bond.second.0 marks are d bond.second.0 at in
    record {
      path = p.path;
      ring = ring_of bonds bond marks are different joined d p;
      size_is = p.count;
      least = λ other ring. least other ring.closed_path.long
          (reaches_ring bonds bond marks are.level other (record { start = are.start; onward = are.onward }) ring.closed_path ring.uses);
    }
  where
    least : (other : List ℕ) → 3 ≤ length other → Reached marks are.level bond.second.0 (length other - 1) → suc d ≤ length other
    least other long (inl (found, at_found, few)) = let same : d ≡ found = same_mark marks bond.second.0 bond.second.0 d found refl at at_found in omega arith
    least other long (inr past) = let low = are.low bond.second.0 d at in omega arith

pub ring_size_none : (bonds : List Bond) (bond : Bond) (marks : List (Option ℕ)) → AreDistances bonds bond.first.0 bond.second.0 marks
    → slice_get marks bond.second.0 ≡ Some None → (path : List ℕ) → ¬ IsRingOf bonds bond path
ring_size_none bonds bond marks are free path ring = nowhere ring.closed_path.long
    (reaches_ring bonds bond marks (length path) path (record { start = are.start; onward = λ x y d at less step. are.further free x y d at step }) ring.closed_path ring.uses)
  where
    nowhere : 3 ≤ length path → Reached marks (length path) bond.second.0 (length path - 1) → ⊥
    nowhere long (inl (found, at, few)) = cc
    nowhere long (inr past) = omega arith

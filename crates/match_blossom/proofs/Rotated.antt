-- A cycle may begin at any of its nodes.
use Rattle.std.proofs.Common.{◌≡◌, ℕ, zero, suc, ◌<◌, List, [], ◌∷◌, ◌++◌, length, get_or, take, drop, append-nil, drop-cons, true, refl, ap, sym, ◌∙◌, inl, inr, arith, subst}
use Rattle.std.specs.Prelude.{◌⊎◌}
use Rattle.std.proofs.lemmas.Bool.{false≢true, false_from_ne_true}
use Rattle.std.proofs.lemmas.List.{append_assoc, length-append, take-append-drop}
use Rattle.match_barrier.specs.Graph.{has, NoRepeats}
use Rattle.match_barrier.proofs.Counting.{has_cases}
use Rattle.match_barrier.proofs.Edges.{has_front, has_rest, same_bools}
use Rattle.match_blossom.specs.Foldings.{Chain, IsCycle}

pub has_left : (xs ys : List ℕ) (z : ℕ) → has xs z ≡ true → has (xs ++ ys) z ≡ true
has_left [] ys z h = absurd (false≢true h)
has_left (x ∷ xs) ys z h = elim (has_cases x xs z h) [
  | inl same ↦ has_front x (xs ++ ys) z same
  | inr rest ↦ has_rest x (xs ++ ys) z (has_left xs ys z rest)
]

pub has_right : (xs ys : List ℕ) (z : ℕ) → has ys z ≡ true → has (xs ++ ys) z ≡ true
has_right [] ys z h = h
has_right (x ∷ xs) ys z h = has_rest x (xs ++ ys) z (has_right xs ys z h)

pub has_either : (xs ys : List ℕ) (z : ℕ) → has (xs ++ ys) z ≡ true → (has xs z ≡ true) ⊎ (has ys z ≡ true)
has_either [] ys z h = inr h
has_either (x ∷ xs) ys z h = elim (has_cases x (xs ++ ys) z h) [
  | inl same ↦ inl (has_front x xs z same)
  | inr rest ↦ elim (has_either xs ys z rest) [
    | inl left ↦ inl (has_rest x xs z left)
    | inr right ↦ inr right
  ]
]

has_turned : (xs ys : List ℕ) (z : ℕ) → has (xs ++ ys) z ≡ true → has (ys ++ xs) z ≡ true
has_turned xs ys z h = elim (has_either xs ys z h) [
  | inl left ↦ has_right ys xs z left
  | inr right ↦ has_left ys xs z right
]

different_left : (xs ys : List ℕ) → NoRepeats (xs ++ ys) → NoRepeats xs
different_left [] ys d = tt
different_left (x ∷ xs) ys d = (false_from_ne_true (has xs x) (λ h. false≢true (sym d.0 ∙ has_left xs ys x h)), different_left xs ys d.1)

different_right : (xs ys : List ℕ) → NoRepeats (xs ++ ys) → NoRepeats ys
different_right [] ys d = d
different_right (x ∷ xs) ys d = different_right xs ys d.1

apart : (xs ys : List ℕ) → NoRepeats (xs ++ ys) → (z : ℕ) → has xs z ≡ true → has ys z ≡ true → ⊥
apart [] ys d z h k = false≢true h
apart (x ∷ xs) ys d z h k = elim (has_cases x xs z h) [
  | inl same ↦ false≢true (sym d.0 ∙ has_right xs ys x (subst (λ (w : ℕ). has ys w ≡ true) (sym same) k))
  | inr rest ↦ apart xs ys d.1 z rest k
]

different_join : (xs ys : List ℕ) → NoRepeats xs → NoRepeats ys → ((z : ℕ) → has xs z ≡ true → has ys z ≡ true → ⊥) → NoRepeats (xs ++ ys)
different_join [] ys d e no_both = e
different_join (x ∷ xs) ys d e no_both = (
  false_from_ne_true (has (xs ++ ys) x) (λ h. elim (has_either xs ys x h) [
    | inl left ↦ false≢true (sym d.0 ∙ left)
    | inr right ↦ no_both x (has_front x xs x refl) right
  ]),
  different_join xs ys d.1 e (λ z h k. no_both z (has_rest x xs z h) k),
)

different_turned : (xs ys : List ℕ) → NoRepeats (xs ++ ys) → NoRepeats (ys ++ xs)
different_turned xs ys d = different_join ys xs (different_right xs ys d) (different_left xs ys d) (λ z h k. apart xs ys d z k h)

pub chain_first : (g : List (List ℕ)) (part : ℕ → ℕ) (xs : List ℕ) (y : ℕ) (ys : List ℕ) → Chain g part (xs ++ y ∷ ys) → Chain g part (xs ++ y ∷ [])
chain_first g part [] y ys c = tt
chain_first g part (x ∷ []) y ys c = (c.0, tt)
chain_first g part (x ∷ z ∷ xs) y ys c = (c.0, chain_first g part (z ∷ xs) y ys c.1)

chain_tail : (g : List (List ℕ)) (part : ℕ → ℕ) (x : ℕ) (xs : List ℕ) → Chain g part (x ∷ xs) → Chain g part xs
chain_tail g part x [] c = tt
chain_tail g part x (y ∷ xs) c = c.1

pub chain_second : (g : List (List ℕ)) (part : ℕ → ℕ) (xs : List ℕ) (y : ℕ) (ys : List ℕ) → Chain g part (xs ++ y ∷ ys) → Chain g part (y ∷ ys)
chain_second g part [] y ys c = c
chain_second g part (x ∷ xs) y ys c = chain_second g part xs y ys (chain_tail g part x (xs ++ y ∷ ys) c)

pub chain_join : (g : List (List ℕ)) (part : ℕ → ℕ) (xs : List ℕ) (y : ℕ) (ys : List ℕ) → Chain g part (xs ++ y ∷ []) → Chain g part (y ∷ ys) → Chain g part (xs ++ y ∷ ys)
chain_join g part [] y ys c d = d
chain_join g part (x ∷ []) y ys c d = (c.0, d)
chain_join g part (x ∷ z ∷ xs) y ys c d = (c.0, chain_join g part (z ∷ xs) y ys c.1 d)

chain_front : (g : List (List ℕ)) (part : ℕ → ℕ) (xs ys : List ℕ) → Chain g part (xs ++ ys) → Chain g part xs
chain_front g part [] ys c = tt
chain_front g part (x ∷ []) ys c = tt
chain_front g part (x ∷ z ∷ xs) ys c = (c.0, chain_front g part (z ∷ xs) ys c.1)

-- the cycle without its way back
pub chain_of_cycle : (g : List (List ℕ)) (part : ℕ → ℕ) (base : ℕ) (others : List ℕ) → IsCycle g part base others → Chain g part (base ∷ others)
chain_of_cycle g part base others is = chain_front g part (base ∷ others) (base ∷ []) is.closed

pub chain_of_others : (g : List (List ℕ)) (part : ℕ → ℕ) (base : ℕ) (others : List ℕ) → IsCycle g part base others → Chain g part others
chain_of_others g part base others is = chain_tail g part base others (chain_of_cycle g part base others is)

turn : (g : List (List ℕ)) (part : ℕ → ℕ) (b c : ℕ) (before behind : List ℕ) → IsCycle g part b (before ++ c ∷ behind) → IsCycle g part c (behind ++ b ∷ before)
turn g part b c before behind is = record {
  living = λ x h. is.living x (has_turned (c ∷ behind) (b ∷ before) x h);
  different = different_turned (b ∷ before) (c ∷ behind) is.different;
  closed =
      let whole : Chain g part ((b ∷ before) ++ c ∷ (behind ++ b ∷ [])) = subst (λ (xs : List ℕ). Chain g part (b ∷ xs)) (append_assoc before (c ∷ behind) (b ∷ [])) is.closed in
      subst (λ (xs : List ℕ). Chain g part (c ∷ xs)) (sym (append_assoc behind (b ∷ before) (c ∷ [])))
      (chain_join g part (c ∷ behind) b (before ++ c ∷ []) (chain_second g part (b ∷ before) c (behind ++ b ∷ []) whole) (chain_first g part (b ∷ before) c (behind ++ b ∷ []) whole));
}

-- the same cycle, begun at another of its nodes
pub record IsTurned (g : List (List ℕ)) (part : ℕ → ℕ) (base : ℕ) (others : List ℕ) (c : ℕ) (rest : List ℕ) : Type 0 where
  pub cycle : IsCycle g part c rest
  pub long : length rest ≡ length others
  pub same : (z : ℕ) → has (c ∷ rest) z ≡ has (base ∷ others) z

-- The cycle turned by k places, as one list.
pub turned : (g : List (List ℕ)) (part : ℕ → ℕ) (base : ℕ) (others : List ℕ) (k : ℕ) (list : List ℕ) → IsCycle g part base others → k < length (base ∷ others) → list ≡ drop k (base ∷ others) ++ take k (base ∷ others)
    → (get_or list 0 0 ≡ get_or (base ∷ others) k 0) × (list ≡ get_or list 0 0 ∷ drop 1 list) × IsTurned g part base others (get_or list 0 0) (drop 1 list)
turned g part base others zero list is less from =
    let e : list ≡ base ∷ others = from ∙ append-nil (base ∷ others) in
    subst (λ (xs : List ℕ). (get_or xs 0 0 ≡ base) × (xs ≡ get_or xs 0 0 ∷ drop 1 xs) × IsTurned g part base others (get_or xs 0 0) (drop 1 xs)) (sym e)
    (refl, refl, record { cycle = is; long = refl; same = λ z. refl })
turned g part base others (suc j) list is less from =
    let within : j < length others = omega arith in
    let c : ℕ = get_or others j 0 in
    let before : List ℕ = take j others in
    let behind : List ℕ = drop (suc j) others in
    let split : others ≡ before ++ c ∷ behind = sym (take-append-drop j others) ∙ ap (λ (xs : List ℕ). before ++ xs) (drop-cons others j 0 within) in
    let e : list ≡ c ∷ (behind ++ base ∷ before) = from ∙ ap (λ (xs : List ℕ). xs ++ base ∷ before) (drop-cons others j 0 within) in
    subst (λ (xs : List ℕ). (get_or xs 0 0 ≡ c) × (xs ≡ get_or xs 0 0 ∷ drop 1 xs) × IsTurned g part base others (get_or xs 0 0) (drop 1 xs)) (sym e) (
      refl,
      refl,
      record {
        cycle = turn g part base c before behind (subst (IsCycle g part base) split is);
        long = let a = length-append behind (base ∷ before) in let b = length-append before (c ∷ behind) in let e = ap length split in omega arith;
        same = λ z. same_bools (has (c ∷ (behind ++ base ∷ before)) z) (has (base ∷ others) z)
            (λ k. subst (λ (xs : List ℕ). has (base ∷ xs) z ≡ true) (sym split) (has_turned (c ∷ behind) (base ∷ before) z k))
            (λ k. has_turned (base ∷ before) (c ∷ behind) z (subst (λ (xs : List ℕ). has (base ∷ xs) z ≡ true) split k));
      },
    )

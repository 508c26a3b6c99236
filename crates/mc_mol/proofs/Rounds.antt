-- A path with a bond between its ends is a closed path, and each closed path is one.
use Rattle.std.proofs.Common.{List, [], ap, arith, get_or, inl, inr, length, length-append, refl, subst, suc, sym, true, zero, ℕ, ◌+◌, ◌-◌, ◌<◌, ◌∙◌, ◌∷◌, ◌≡◌, ◌≢◌, ◌≤◌, ◌⊎◌}
use Rattle.std.proofs.lemmas.Bool.{cases_eq}
use Rattle.mc_mol.proofs.Paths.{path_turned, ring_of_other, turned}
use Rattle.mc_mol.specs.ClosedPaths.{Follows, IsClosedPath}
use Rattle.mc_mol.specs.Molecule.{are_joined}
use Rattle.mc_mol.specs.Paths.{Chain, Distinct, HeadIs, In, LastIs, Next, OpenPath, Pair, RingBy}
use Rattle.mc_mol.specs.declared.parts.Bond.{Bond}

abbrev pub SamePair : ℕ → ℕ → ℕ → ℕ → Type 0
SamePair u v x y = ((u ≡ x) × (v ≡ y)) ⊎ ((u ≡ y) × (v ≡ x))

-- a path with the bond between its ends is a closed path
at_least : (path : List ℕ) (v u x y : ℕ) → HeadIs path v → LastIs path u → Pair path x y → SamePair u v x y ⊎ (3 ≤ length path)
at_least [] v u x y head last pair = absurd head
at_least (a ∷ []) v u x y head last (inl (inl (e, h))) = absurd h
at_least (a ∷ []) v u x y head last (inl (inr h)) = absurd h
at_least (a ∷ []) v u x y head last (inr (inl (e, h))) = absurd h
at_least (a ∷ []) v u x y head last (inr (inr h)) = absurd h
at_least (a ∷ b ∷ []) v u x y head last (inl (inl (e, h))) = inl (inr (sym last ∙ h, sym head ∙ e))
at_least (a ∷ b ∷ []) v u x y head last (inl (inr (inl (e, h)))) = absurd h
at_least (a ∷ b ∷ []) v u x y head last (inl (inr (inr h))) = absurd h
at_least (a ∷ b ∷ []) v u x y head last (inr (inl (e, h))) = inl (inl (sym last ∙ h, sym head ∙ e))
at_least (a ∷ b ∷ []) v u x y head last (inr (inr (inl (e, h)))) = absurd h
at_least (a ∷ b ∷ []) v u x y head last (inr (inr (inr h))) = absurd h
at_least (a ∷ b ∷ c ∷ path) v u x y head last pair = inr (omega arith)

in_at : (xs : List ℕ) (j : ℕ) → j < length xs → In (get_or xs j 0) xs
in_at [] j less = absurd (omega arith)
in_at (x ∷ xs) zero less = inl refl
in_at (x ∷ xs) (suc j) less = inr (in_at xs j (omega arith))

different_at : (xs : List ℕ) → Distinct xs → (i j : ℕ) → i < j → j < length xs → get_or xs i 0 ≢ get_or xs j 0
different_at [] d i j less within same = absurd (omega arith)
different_at (x ∷ xs) (new, d) i zero less within same = absurd (omega arith)
different_at (x ∷ xs) (new, d) zero (suc j) less within same = new (subst (λ (m : ℕ). In m xs) (sym same) (in_at xs j (omega arith)))
different_at (x ∷ xs) (new, d) (suc i) (suc j) less within same = different_at xs d i j (omega arith) (omega arith) same

head_at : (xs : List ℕ) → 0 < length xs → HeadIs xs (get_or xs 0 0)
head_at [] less = absurd (omega arith)
head_at (x ∷ xs) less = refl

joined_next : (bonds : List Bond) (xs : List ℕ) → Chain bonds xs → (i : ℕ) → suc i < length xs → are_joined bonds (get_or xs i 0) (get_or xs (suc i) 0) ≡ true
joined_next bonds [] c i within = absurd (omega arith)
joined_next bonds (x ∷ xs) (step, c) zero within = step (get_or xs 0 0) (head_at xs (omega arith))
joined_next bonds (x ∷ xs) (step, c) (suc i) within = joined_next bonds xs c i (omega arith)

last_at : (xs : List ℕ) (u : ℕ) → LastIs xs u → get_or xs (length xs - 1) 0 ≡ u
last_at [] u h = absurd h
last_at (x ∷ []) u h = h
last_at (x ∷ y ∷ ys) u h =
    let rest = last_at (y ∷ ys) u h in
    let n : length (x ∷ y ∷ ys) - 1 ≡ suc (length (y ∷ ys) - 1) = omega arith in
    ap (λ (m : ℕ). get_or (x ∷ y ∷ ys) m 0) n ∙ rest

head_is : (xs : List ℕ) (v : ℕ) → HeadIs xs v → get_or xs 0 0 ≡ v
head_is [] v h = absurd h
head_is (x ∷ xs) v h = h

next_at : (xs : List ℕ) (x y : ℕ) → Next xs x y → (i : ℕ) × (suc i < length xs) × (get_or xs i 0 ≡ x) × (get_or xs (suc i) 0 ≡ y)
next_at [] x y h = absurd h
next_at (z ∷ []) x y (inl (e, h)) = absurd h
next_at (z ∷ w ∷ xs) x y (inl (e, h)) = (0, omega arith, e, h)
next_at (z ∷ xs) x y (inr h) = let n = next_at xs x y h in let within = n.1 in (suc n.0, omega arith, n.2, n.3)

follows : (path : List ℕ) (x y : ℕ) → Next path x y → Follows path x y
follows path x y h =
    let n = next_at path x y h in
    let one : suc n.0 ≡ n.0 + 1 = omega arith in
    let within = n.1 in
    inl (n.0, omega arith, n.2, subst (λ (m : ℕ). get_or path m 0 ≡ y) one n.3)

-- the path goes from x to y or back
abbrev pub Goes : List ℕ → ℕ → ℕ → Type 0
Goes path x y = Follows path x y ⊎ Follows path y x

goes_pair : (path : List ℕ) (x y : ℕ) → Pair path x y → Goes path x y
goes_pair path x y (inl h) = inl (follows path x y h)
goes_pair path x y (inr h) = inr (follows path y x h)

pub goes_back : (path : List ℕ) (x y : ℕ) → Goes path x y → Goes path y x
goes_back path x y (inl h) = inr h
goes_back path x y (inr h) = inl h

-- a closed path that goes from u to v, and from x to y
pub record ClosedBy (bonds : List Bond) (u v x y : ℕ) : Type 0 where
  pub path : List ℕ
  pub closed : IsClosedPath bonds path
  pub first : Goes path u v
  pub second : Goes path x y

pub closed_by : (bonds : List Bond) (u v x y : ℕ) → are_joined bonds u v ≡ true → (¬ SamePair u v x y) → RingBy bonds u v x y → ClosedBy bonds u v x y
closed_by bonds u v x y joined other ring = record {
  path = ring.path;
  closed = record {
    long = long (at_least ring.path v u x y ring.is.head ring.is.last ring.uses);
    different = different_at ring.path ring.is.distinct;
    joined = λ i within. let one : suc i ≡ i + 1 = omega arith in
        subst (λ (m : ℕ). are_joined bonds (get_or ring.path i 0) (get_or ring.path m 0) ≡ true) one (joined_next bonds ring.path ring.is.chain i (omega arith));
    closed = subst (λ (m : ℕ). are_joined bonds m (get_or ring.path 0 0) ≡ true) (sym (last_at ring.path u ring.is.last))
        (subst (λ (m : ℕ). are_joined bonds u m ≡ true) (sym (head_is ring.path v ring.is.head)) joined);
  };
  first = inl (inr (last_at ring.path u ring.is.last, head_is ring.path v ring.is.head));
  second = goes_pair ring.path x y ring.uses;
}
  where
    long : SamePair u v x y ⊎ (3 ≤ length ring.path) → 3 ≤ length ring.path
    long (inl same) = absurd (other same)
    long (inr more) = more

-- and a closed path is such a path
chain_of : (bonds : List Bond) (xs : List ℕ) → ((i : ℕ) → suc i < length xs → are_joined bonds (get_or xs i 0) (get_or xs (suc i) 0) ≡ true) → Chain bonds xs
chain_of bonds [] joined = tt
chain_of bonds (x ∷ []) joined = ((λ y h. absurd h), tt)
chain_of bonds (x ∷ z ∷ xs) joined = (
  (λ y h. subst (λ (m : ℕ). are_joined bonds x m ≡ true) h (joined 0 (omega arith))),
  chain_of bonds (z ∷ xs) (λ i within. joined (suc i) (omega arith)),
)

place_in : (xs : List ℕ) (x : ℕ) → In x xs → (j : ℕ) × (j < length xs) × (get_or xs j 0 ≡ x)
place_in [] x h = absurd h
place_in (y ∷ xs) x (inl e) = (0, omega arith, sym e)
place_in (y ∷ xs) x (inr h) = let p = place_in xs x h in let within = p.1 in (suc p.0, omega arith, p.2)

distinct_of : (xs : List ℕ) → ((i j : ℕ) → i < j → j < length xs → get_or xs i 0 ≢ get_or xs j 0) → Distinct xs
distinct_of [] different = tt
distinct_of (x ∷ xs) different = (
  (λ h. let p = place_in xs x h in let within = p.1 in different 0 (suc p.0) (omega arith) (omega arith) (sym p.2)),
  distinct_of xs (λ i j less within. different (suc i) (suc j) (omega arith) (omega arith)),
)

last_of : (xs : List ℕ) → 0 < length xs → LastIs xs (get_or xs (length xs - 1) 0)
last_of [] less = absurd (omega arith)
last_of (x ∷ []) less = refl
last_of (x ∷ y ∷ ys) less =
    let n : suc (length (y ∷ ys) - 1) ≡ length (x ∷ y ∷ ys) - 1 = omega arith in
    subst (λ (m : ℕ). LastIs (y ∷ ys) (get_or (x ∷ y ∷ ys) m 0)) n (last_of (y ∷ ys) (omega arith))

next_of : (xs : List ℕ) (i : ℕ) → suc i < length xs → Next xs (get_or xs i 0) (get_or xs (suc i) 0)
next_of [] i within = absurd (omega arith)
next_of (x ∷ xs) zero within = inl (refl, head_at xs (omega arith))
next_of (x ∷ xs) (suc i) within = inr (next_of xs i (omega arith))

pub open_of : (bonds : List Bond) (path : List ℕ) → IsClosedPath bonds path → OpenPath bonds path (get_or path 0 0) (get_or path (length path - 1) 0)
open_of bonds path is = record {
  chain = chain_of bonds path (λ i within. let one : i + 1 ≡ suc i = omega arith in
      subst (λ (m : ℕ). are_joined bonds (get_or path i 0) (get_or path m 0) ≡ true) one (is.joined i (omega arith)));
  distinct = distinct_of path is.different;
  head = head_at path (let l = is.long in omega arith);
  last = last_of path (let l = is.long in omega arith);
}

pub next_followed : (path : List ℕ) (x y i : ℕ) → i + 1 < length path → get_or path i 0 ≡ x → get_or path (i + 1) 0 ≡ y → Next path x y
next_followed path x y i within e f =
    let one : suc i ≡ i + 1 = omega arith in
    subst (λ (m : ℕ). Next path m y) e (subst (λ (m : ℕ). Next path (get_or path i 0) m) (ap (λ (m : ℕ). get_or path m 0) one ∙ f) (next_of path i (omega arith)))

-- ---- a closed path without one of its steps

-- a path of at least three atoms from one atom to another
pub record LongPath (bonds : List Bond) (from to : ℕ) : Type 0 where
  pub path : List ℕ
  pub is : OpenPath bonds path from to
  pub long : 3 ≤ length path

length-turned : (xs : List ℕ) → length (turned xs) ≡ length xs
length-turned [] = refl
length-turned (x ∷ xs) = let rest = length-turned xs in let more = length-append (turned xs) (x ∷ []) in omega arith

long_turned : (bonds : List Bond) (from to : ℕ) → LongPath bonds from to → LongPath bonds to from
long_turned bonds from to way = record { path = turned way.path; is = path_turned bonds way.path from to way.is; long = let same = length-turned way.path in let long = way.long in omega arith }

-- a step in the middle of the path: its two atoms aren't the first and the last one
inner_way : (bonds : List Bond) (path : List ℕ) (x y i : ℕ) → IsClosedPath bonds path → i + 1 < length path → get_or path i 0 ≡ x → get_or path (i + 1) 0 ≡ y → LongPath bonds y x
inner_way bonds path x y i is within at_x at_y =
    let first = get_or path 0 0 in
    let last = get_or path (length path - 1) 0 in
    let ring : RingBy bonds last first x y = record { path = path; is = open_of bonds path is; uses = inl (next_followed path x y i within at_x at_y) } in
    let other = ring_of_other bonds last first x y ring is.closed in
    record {
      path = other.path;
      is = other.is;
      long = long other.path (at_least other.path y x last first other.is.head other.is.last other.uses);
    }
  where
    apart : SamePair x y (get_or path (length path - 1) 0) (get_or path 0 0) → ⊥
    apart (inl (e, f)) = let l = is.long in is.different i (length path - 1) (omega arith) (omega arith) (at_x ∙ e)
    apart (inr (e, f)) = elim (cases_eq (i + 1) (length path - 1)) [
      | inl ends ↦ let l = is.long in is.different 0 i (omega arith) (omega arith) (sym e ∙ sym at_x)
      | inr more ↦ let l = is.long in is.different (i + 1) (length path - 1) (omega arith) (omega arith) (at_y ∙ f)
    ]

    long : (xs : List ℕ) → SamePair x y (get_or path (length path - 1) 0) (get_or path 0 0) ⊎ (3 ≤ length xs) → 3 ≤ length xs
    long xs (inl same) = absurd (apart same)
    long xs (inr more) = more

follows_way : (bonds : List Bond) (path : List ℕ) (x y : ℕ) → IsClosedPath bonds path → Follows path x y → LongPath bonds y x
follows_way bonds path x y is (inl (i, within, at_x, at_y)) = inner_way bonds path x y i is within at_x at_y
follows_way bonds path x y is (inr (at_x, at_y)) = record {
  path = path;
  is = subst (λ (m : ℕ). OpenPath bonds path m x) at_y (subst (λ (m : ℕ). OpenPath bonds path (get_or path 0 0) m) at_x (open_of bonds path is));
  long = is.long;
}

pub long_way : (bonds : List Bond) (path : List ℕ) (x y : ℕ) → IsClosedPath bonds path → Goes path x y → LongPath bonds x y
long_way bonds path x y is (inl h) = long_turned bonds y x (follows_way bonds path x y is h)
long_way bonds path x y is (inr h) = follows_way bonds path y x is h

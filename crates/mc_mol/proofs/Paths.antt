-- To share a closed path is transitive.
use Rattle.std.proofs.Common.{List, [], ap, inl, inr, refl, subst, sym, true, ℕ, ◌++◌, ◌∙◌, ◌∷◌, ◌≡◌, ◌≢◌, ◌⊎◌}
use Rattle.std.proofs.lemmas.List.{append_assoc}
use Rattle.std.proofs.lemmas.Bool.{cases_eq}
use Rattle.mc_mol.proofs.Neighbours.{joined_back}
use Rattle.mc_mol.specs.Molecule.{are_joined}
use Rattle.mc_mol.specs.Paths.{Chain, Distinct, HeadIs, In, LastIs, Next, OpenPath, Pair, RingBy}
use Rattle.mc_mol.specs.declared.parts.Bond.{Bond}

-- atoms in a list

pub in_left : (x : ℕ) (xs ys : List ℕ) → In x xs → In x (xs ++ ys)
in_left x [] ys h = absurd h
in_left x (z ∷ xs) ys (inl e) = inl e
in_left x (z ∷ xs) ys (inr h) = inr (in_left x xs ys h)

pub in_right : (x : ℕ) (xs ys : List ℕ) → In x ys → In x (xs ++ ys)
in_right x [] ys h = h
in_right x (z ∷ xs) ys h = inr (in_right x xs ys h)

pub in_cases : (x : ℕ) (xs ys : List ℕ) → In x (xs ++ ys) → In x xs ⊎ In x ys
in_cases x [] ys h = inr h
in_cases x (z ∷ xs) ys (inl e) = inl (inl e)
in_cases x (z ∷ xs) ys (inr h) = elim (in_cases x xs ys h) [ inl left ↦ inl (inr left) | inr right ↦ inr right ]

pub in_or : (x : ℕ) (xs : List ℕ) → In x xs ⊎ (¬ In x xs)
in_or x [] = inr (λ h. h)
in_or x (y ∷ ys) = elim (cases_eq x y) [
  | inl same ↦ inl (inl same)
  | inr other ↦ elim (in_or x ys) [
    | inl there ↦ inl (inr there)
    | inr nowhere ↦ inr (λ h. not_in other nowhere h)
  ]
]
  where
    not_in : x ≢ y → (¬ In x ys) → (x ≡ y) ⊎ In x ys → ⊥
    not_in other nowhere (inl same) = other same
    not_in other nowhere (inr there) = nowhere there

-- distinct lists
pub distinct_left : (xs ys : List ℕ) → Distinct (xs ++ ys) → Distinct xs
distinct_left [] ys d = tt
distinct_left (x ∷ xs) ys (new, d) = ((λ h. new (in_left x xs ys h)), distinct_left xs ys d)

pub distinct_right : (xs ys : List ℕ) → Distinct (xs ++ ys) → Distinct ys
distinct_right [] ys d = d
distinct_right (x ∷ xs) ys (new, d) = distinct_right xs ys d

pub distinct_apart : (xs ys : List ℕ) → Distinct (xs ++ ys) → (x : ℕ) → In x xs → In x ys → ⊥
distinct_apart [] ys d x h g = h
distinct_apart (z ∷ xs) ys (new, d) x (inl e) g = new (in_right z xs ys (subst (λ (n : ℕ). In n ys) e g))
distinct_apart (z ∷ xs) ys (new, d) x (inr h) g = distinct_apart xs ys d x h g

pub distinct_join : (xs ys : List ℕ) → Distinct xs → Distinct ys → ((x : ℕ) → In x xs → In x ys → ⊥) → Distinct (xs ++ ys)
distinct_join [] ys d e apart = e
distinct_join (x ∷ xs) ys (new, d) e apart = (
  (λ h. elim (in_cases x xs ys h) [ inl left ↦ new left | inr right ↦ apart x (inl refl) right ]),
  distinct_join xs ys d e (λ z h g. apart z (inr h) g),
)

-- heads and lasts
head_left : (xs : List ℕ) (y : ℕ) (ys zs : List ℕ) (v : ℕ) → HeadIs (xs ++ y ∷ ys) v → HeadIs (xs ++ y ∷ zs) v
head_left [] y ys zs v h = h
head_left (x ∷ xs) y ys zs v h = h

pub last_right : (xs : List ℕ) (y : ℕ) (ys : List ℕ) (u : ℕ) → LastIs (xs ++ y ∷ ys) u → LastIs (y ∷ ys) u
last_right [] y ys u h = h
last_right (x ∷ []) y ys u h = h
last_right (x ∷ z ∷ xs) y ys u h = last_right (z ∷ xs) y ys u h

pub last_put : (xs : List ℕ) (y : ℕ) (ys : List ℕ) (u : ℕ) → LastIs (y ∷ ys) u → LastIs (xs ++ y ∷ ys) u
last_put [] y ys u h = h
last_put (x ∷ []) y ys u h = h
last_put (x ∷ z ∷ xs) y ys u h = last_put (z ∷ xs) y ys u h

pub head_in : (xs : List ℕ) (v : ℕ) → HeadIs xs v → In v xs
head_in [] v h = absurd h
head_in (x ∷ xs) v h = inl (sym h)

pub last_in : (xs : List ℕ) (u : ℕ) → LastIs xs u → In u xs
last_in [] u h = absurd h
last_in (x ∷ []) u h = inl (sym h)
last_in (x ∷ y ∷ ys) u h = inr (last_in (y ∷ ys) u h)

-- chains
pub chain_right : (bonds : List Bond) (xs ys : List ℕ) → Chain bonds (xs ++ ys) → Chain bonds ys
chain_right bonds [] ys c = c
chain_right bonds (x ∷ xs) ys (step, c) = chain_right bonds xs ys c

pub chain_left : (bonds : List Bond) (xs : List ℕ) (y : ℕ) (ys : List ℕ) → Chain bonds (xs ++ y ∷ ys) → Chain bonds (xs ++ y ∷ [])
chain_left bonds [] y ys c = ((λ z h. absurd h), tt)
chain_left bonds (x ∷ xs) y ys (step, c) = ((λ z h. step z (head_left xs y [] ys z h)), chain_left bonds xs y ys c)

chain_join : (bonds : List Bond) (xs : List ℕ) (y : ℕ) (ys : List ℕ) → Chain bonds (xs ++ y ∷ []) → Chain bonds (y ∷ ys) → Chain bonds (xs ++ y ∷ ys)
chain_join bonds [] y ys c d = d
chain_join bonds (x ∷ xs) y ys (step, c) d = ((λ z h. step z (head_left xs y ys [] z h)), chain_join bonds xs y ys c d)

-- two chains, the last of the one joined to the head of the other
pub chain_seam : (bonds : List Bond) (xs ys : List ℕ) (u v : ℕ) → Chain bonds xs → Chain bonds ys → LastIs xs u → HeadIs ys v → are_joined bonds u v ≡ true → Chain bonds (xs ++ ys)
chain_seam bonds [] ys u v c d last head joined = d
chain_seam bonds (x ∷ []) ys u v c d last head joined = ((λ z h. subst (λ (n : ℕ). are_joined bonds n z ≡ true) (sym last) (subst (λ (n : ℕ). are_joined bonds u n ≡ true) (one_head ys v z head h) joined)), d)
  where
    one_head : (ys : List ℕ) (v z : ℕ) → HeadIs ys v → HeadIs ys z → v ≡ z
    one_head [] v z h g = absurd h
    one_head (y ∷ ys) v z h g = sym h ∙ g
chain_seam bonds (x ∷ w ∷ xs) ys u v (step, c) d last head joined = (step, chain_seam bonds (w ∷ xs) ys u v c d last head joined)

-- neighbours in a list
pub next_left : (xs : List ℕ) (y : ℕ) (ys : List ℕ) (u v : ℕ) → Next (xs ++ y ∷ []) u v → Next (xs ++ y ∷ ys) u v
next_left [] y ys u v (inl (e, h)) = absurd h
next_left [] y ys u v (inr h) = absurd h
next_left (x ∷ xs) y ys u v (inl (e, h)) = inl (e, head_left xs y [] ys v h)
next_left (x ∷ xs) y ys u v (inr h) = inr (next_left xs y ys u v h)

next_right : (xs ys : List ℕ) (u v : ℕ) → Next ys u v → Next (xs ++ ys) u v
next_right [] ys u v h = h
next_right (x ∷ xs) ys u v h = inr (next_right xs ys u v h)

next_seam : (xs ys : List ℕ) (u v : ℕ) → LastIs xs u → HeadIs ys v → Next (xs ++ ys) u v
next_seam [] ys u v last head = absurd last
next_seam (x ∷ []) ys u v last head = inl (last, head)
next_seam (x ∷ w ∷ xs) ys u v last head = inr (next_seam (w ∷ xs) ys u v last head)

pub next_in : (xs : List ℕ) (u v : ℕ) → Next xs u v → In u xs × In v xs
next_in [] u v h = absurd h
next_in (x ∷ xs) u v (inl (e, h)) = (inl (sym e), inr (head_in xs v h))
next_in (x ∷ xs) u v (inr h) = let g = next_in xs u v h in (inr g.0, inr g.1)

pub pair_in : (xs : List ℕ) (u v : ℕ) → Pair xs u v → In u xs × In v xs
pair_in xs u v (inl h) = next_in xs u v h
pair_in xs u v (inr h) = let g = next_in xs v u h in (g.1, g.0)

-- a list the other way round
abbrev pub turned : List ℕ → List ℕ
turned [] = []
turned (x ∷ xs) = turned xs ++ x ∷ []

pub in_turned : (x : ℕ) (xs : List ℕ) → In x (turned xs) → In x xs
in_turned x [] h = h
in_turned x (y ∷ ys) h = elim (in_cases x (turned ys) (y ∷ []) h) [ inl left ↦ inr (in_turned x ys left) | inr right ↦ single x y ys right ]
  where
    single : (x y : ℕ) (ys : List ℕ) → In x (y ∷ []) → In x (y ∷ ys)
    single x y ys (inl e) = inl e
    single x y ys (inr h) = absurd h

distinct_turned : (xs : List ℕ) → Distinct xs → Distinct (turned xs)
distinct_turned [] d = tt
distinct_turned (x ∷ xs) (new, d) = distinct_join (turned xs) (x ∷ []) (distinct_turned xs d) ((λ h. h), tt) (λ z h g. apart z h g)
  where
    apart : (z : ℕ) → In z (turned xs) → In z (x ∷ []) → ⊥
    apart z h (inl e) = new (subst (λ (n : ℕ). In n xs) e (in_turned z xs h))
    apart z h (inr g) = g

last_turned : (xs : List ℕ) (v : ℕ) → HeadIs xs v → LastIs (turned xs) v
last_turned [] v h = absurd h
last_turned (x ∷ xs) v h = last_put (turned xs) x [] v h

head_put : (xs : List ℕ) (y v : ℕ) → HeadIs xs v → HeadIs (xs ++ y ∷ []) v
head_put [] y v h = absurd h
head_put (x ∷ xs) y v h = h

head_turned : (xs : List ℕ) (u : ℕ) → LastIs xs u → HeadIs (turned xs) u
head_turned [] u h = absurd h
head_turned (x ∷ []) u h = h
head_turned (x ∷ y ∷ ys) u h = head_put (turned (y ∷ ys)) x u (head_turned (y ∷ ys) u h)

head_is : (bonds : List Bond) (x : ℕ) (xs : List ℕ) → Chain bonds (x ∷ xs) → Chain bonds (turned xs) → Chain bonds (turned xs ++ x ∷ [])
head_is bonds x [] c d = ((λ z h. absurd h), tt)
head_is bonds x (y ∷ ys) (step, c) d = chain_seam bonds (turned (y ∷ ys)) (x ∷ []) y x d ((λ z h. absurd h), tt) (last_turned (y ∷ ys) y refl) refl (joined_back bonds x y (step y refl))

chain_turned : (bonds : List Bond) (xs : List ℕ) → Chain bonds xs → Chain bonds (turned xs)
chain_turned bonds [] c = tt
chain_turned bonds (x ∷ xs) (step, c) = head_is bonds x xs (step, c) (chain_turned bonds xs c)

next_turned : (xs : List ℕ) (u v : ℕ) → Next xs u v → Next (turned xs) v u
next_turned [] u v h = absurd h
next_turned (x ∷ xs) u v (inl (e, h)) = next_seam (turned xs) (x ∷ []) v u (last_turned xs v h) e
next_turned (x ∷ xs) u v (inr h) = next_more (turned xs) x v u (next_turned xs u v h)
  where
    next_more : (xs : List ℕ) (y u v : ℕ) → Next xs u v → Next (xs ++ y ∷ []) u v
    next_more [] y u v h = absurd h
    next_more (x ∷ xs) y u v (inl (e, h)) = inl (e, head_put xs y v h)
    next_more (x ∷ xs) y u v (inr h) = inr (next_more xs y u v h)

pair_turned : (xs : List ℕ) (u v : ℕ) → Pair xs u v → Pair (turned xs) u v
pair_turned xs u v (inl h) = inr (next_turned xs u v h)
pair_turned xs u v (inr h) = inl (next_turned xs v u h)

pub path_turned : (bonds : List Bond) (path : List ℕ) (from to : ℕ) → OpenPath bonds path from to → OpenPath bonds (turned path) to from
path_turned bonds path from to is = record {
  chain = chain_turned bonds path is.chain;
  distinct = distinct_turned path is.distinct;
  head = head_turned path to is.last;
  last = last_turned path from is.head;
}

pub ring_turned : (bonds : List Bond) (u v x y : ℕ) → RingBy bonds u v x y → RingBy bonds v u x y
ring_turned bonds u v x y ring = record { path = turned ring.path; is = path_turned bonds ring.path v u ring.is; uses = pair_turned ring.path x y ring.uses }

pub ring_swapped : (bonds : List Bond) (u v x y : ℕ) → RingBy bonds u v x y → RingBy bonds u v y x
ring_swapped bonds u v x y ring = record { path = ring.path; is = ring.is; uses = swapped ring.uses }
  where
    swapped : Pair ring.path x y → Pair ring.path y x
    swapped (inl h) = inr h
    swapped (inr h) = inl h

-- where two atoms stand side by side the list comes in two
record Parted (path : List ℕ) (u v : ℕ) : Type 0 where
  front : List ℕ
  back : List ℕ
  is : path ≡ front ++ back
  last : LastIs front u
  head : HeadIs back v

parted : (path : List ℕ) (u v : ℕ) → Next path u v → Parted path u v
parted [] u v h = absurd h
parted (x ∷ xs) u v (inl (e, h)) = record { front = x ∷ []; back = xs; is = refl; last = e; head = h }
parted (x ∷ xs) u v (inr h) = let p = parted xs u v h in record { front = x ∷ p.front; back = p.back; is = ap (λ (ys : List ℕ). x ∷ ys) p.is; last = longer p.front x u p.last; head = p.head }
  where
    longer : (ys : List ℕ) (x u : ℕ) → LastIs ys u → LastIs (x ∷ ys) u
    longer [] x u h = absurd h
    longer (y ∷ ys) x u h = h

last_back : (xs ys : List ℕ) (v u : ℕ) → HeadIs ys v → LastIs (xs ++ ys) u → LastIs ys u
last_back xs [] v u head h = absurd head
last_back xs (y ∷ ys) v u head h = last_right xs y ys u h

head_front : (xs ys : List ℕ) (u v : ℕ) → LastIs xs u → HeadIs (xs ++ ys) v → HeadIs xs v
head_front [] ys u v last h = absurd last
head_front (x ∷ xs) ys u v last h = h

pub chain_front : (bonds : List Bond) (xs ys : List ℕ) → Chain bonds (xs ++ ys) → Chain bonds xs
chain_front bonds [] ys c = tt
chain_front bonds (x ∷ xs) ys (step, c) = ((λ z h. step z (longer xs ys z h)), chain_front bonds xs ys c)
  where
    longer : (xs ys : List ℕ) (z : ℕ) → HeadIs xs z → HeadIs (xs ++ ys) z
    longer [] ys z h = absurd h
    longer (x ∷ xs) ys z h = h

last_front : (xs ys : List ℕ) (u v : ℕ) → LastIs xs u → HeadIs ys v → LastIs (ys ++ xs) u
last_front [] ys u v last head = absurd last
last_front (x ∷ xs) ys u v last head = last_put ys x xs u last

head_back : (xs ys : List ℕ) (v : ℕ) → HeadIs ys v → HeadIs (ys ++ xs) v
head_back xs [] v h = absurd h
head_back xs (y ∷ ys) v h = h

-- a path that goes along a bond, begun there
begun_there : (bonds : List Bond) (u v x y : ℕ) (path : List ℕ) → OpenPath bonds path v u → are_joined bonds u v ≡ true → Next path x y → RingBy bonds x y u v
begun_there bonds u v x y path is joined h =
    let p = parted path x y h in
    let whole = subst (λ (xs : List ℕ). OpenPath bonds xs v u) p.is is in
    let last = last_back p.front p.back y u p.head whole.last in
    let head = head_front p.front p.back x v p.last whole.head in
    record {
      path = p.back ++ p.front;
      is = record {
        chain = chain_seam bonds p.back p.front u v (chain_right bonds p.front p.back whole.chain) (chain_front bonds p.front p.back whole.chain) last head joined;
        distinct = distinct_join p.back p.front (distinct_right p.front p.back whole.distinct) (distinct_left p.front p.back whole.distinct)
            (λ z in_back in_front. distinct_apart p.front p.back whole.distinct z in_front in_back);
        head = head_back p.front p.back y p.head;
        last = last_front p.front p.back x y p.last p.head;
      };
      uses = inl (next_seam p.back p.front u v last head);
    }

pub ring_of_other : (bonds : List Bond) (u v x y : ℕ) → RingBy bonds u v x y → are_joined bonds u v ≡ true → RingBy bonds x y u v
ring_of_other bonds u v x y ring joined = cases ring.uses
  where
    cases : Pair ring.path x y → RingBy bonds x y u v
    cases (inl h) = begun_there bonds u v x y ring.path ring.is joined h
    cases (inr h) = ring_turned bonds y x u v (begun_there bonds u v y x ring.path ring.is joined h)

-- The first and the last atom of a list that stand in another one.
record FirstIn (xs ys : List ℕ) : Type 0 where
  front : List ℕ
  here : ℕ
  back : List ℕ
  is : xs ≡ front ++ here ∷ back
  in_it : In here ys
  none : (x : ℕ) → In x front → In x ys → ⊥

first_in : (xs ys : List ℕ) (x : ℕ) → In x xs → In x ys → FirstIn xs ys
first_in [] ys x h g = absurd h
first_in (z ∷ xs) ys x h g = elim (in_or z ys) [
  | inl here ↦ record { front = []; here = z; back = xs; is = refl; in_it = here; none = λ w in_none in_ys. in_none }
  | inr nowhere ↦
      let f = first_in xs ys x (later h nowhere) g in
      record { front = z ∷ f.front; here = f.here; back = f.back; is = ap (λ (l : List ℕ). z ∷ l) f.is; in_it = f.in_it; none = λ w in_front in_ys. none f nowhere w in_front in_ys }
]
  where
    later : (x ≡ z) ⊎ In x xs → (¬ In z ys) → In x xs
    later (inl e) nowhere = absurd (nowhere (subst (λ (n : ℕ). In n ys) e g))
    later (inr h) nowhere = h

    none : (f : FirstIn xs ys) → (¬ In z ys) → (w : ℕ) → (w ≡ z) ⊎ In w f.front → In w ys → ⊥
    none f nowhere w (inl e) in_ys = nowhere (subst (λ (n : ℕ). In n ys) e in_ys)
    none f nowhere w (inr h) in_ys = f.none w h in_ys

record LastIn (xs ys : List ℕ) : Type 0 where
  front : List ℕ
  here : ℕ
  back : List ℕ
  is : xs ≡ front ++ here ∷ back
  in_it : In here ys
  none : (x : ℕ) → In x back → In x ys → ⊥

any_in : (xs ys : List ℕ) → ((x : ℕ) × (In x xs) × (In x ys)) ⊎ ((x : ℕ) → In x xs → In x ys → ⊥)
any_in [] ys = inr (λ x h g. h)
any_in (z ∷ xs) ys = elim (in_or z ys) [
  | inl here ↦ inl (z, inl refl, here)
  | inr nowhere ↦ elim (any_in xs ys) [
    | inl some ↦ inl (some.0, inr some.1, some.2)
    | inr none ↦ inr (λ x h g. neither none nowhere x h g)
  ]
]
  where
    neither : ((x : ℕ) → In x xs → In x ys → ⊥) → (¬ In z ys) → (x : ℕ) → (x ≡ z) ⊎ In x xs → In x ys → ⊥
    neither none nowhere x (inl e) g = nowhere (subst (λ (n : ℕ). In n ys) e g)
    neither none nowhere x (inr h) g = none x h g

last_in_it : (xs ys : List ℕ) (x : ℕ) → In x xs → In x ys → LastIn xs ys
last_in_it [] ys x h g = absurd h
last_in_it (z ∷ xs) ys x h g = elim (any_in xs ys) [
  | inl some ↦ let f = last_in_it xs ys some.0 some.1 some.2 in record { front = z ∷ f.front; here = f.here; back = f.back; is = ap (λ (l : List ℕ). z ∷ l) f.is; in_it = f.in_it; none = f.none }
  | inr none ↦ record { front = []; here = z; back = xs; is = refl; in_it = subst (λ (n : ℕ). In n ys) (it h none) g; none = none }
]
  where
    it : (x ≡ z) ⊎ In x xs → ((w : ℕ) → In w xs → In w ys → ⊥) → x ≡ z
    it (inl e) none = e
    it (inr h) none = absurd (none x h g)

-- a way from p to q beside a path, which goes along a bond
record Detour (bonds : List Bond) (path : List ℕ) (p q x y : ℕ) : Type 0 where
  way : List ℕ
  chain : Chain bonds (p ∷ way ++ q ∷ [])
  distinct : Distinct way
  beside : (z : ℕ) → In z way → In z path → ⊥
  uses : Pair (p ∷ way ++ q ∷ []) x y

in_split : (xs : List ℕ) (x : ℕ) → In x xs → (front : List ℕ) × (back : List ℕ) × (xs ≡ front ++ x ∷ back)
in_split [] x h = absurd h
in_split (z ∷ xs) x (inl e) = ([], xs, ap (λ (n : ℕ). n ∷ xs) (sym e))
in_split (z ∷ xs) x (inr h) = let s = in_split xs x h in (z ∷ s.0, s.1, ap (λ (l : List ℕ). z ∷ l) s.2)

pair_left : (xs : List ℕ) (y : ℕ) (ys : List ℕ) (u v : ℕ) → Pair (xs ++ y ∷ []) u v → Pair (xs ++ y ∷ ys) u v
pair_left xs y ys u v (inl h) = inl (next_left xs y ys u v h)
pair_left xs y ys u v (inr h) = inr (next_left xs y ys v u h)

pair_right : (xs ys : List ℕ) (u v : ℕ) → Pair ys u v → Pair (xs ++ ys) u v
pair_right xs ys u v (inl h) = inl (next_right xs ys u v h)
pair_right xs ys u v (inr h) = inr (next_right xs ys v u h)

-- the middle of a path is exchanged for the detour
detoured : (bonds : List Bond) (front : List ℕ) (p : ℕ) (middle : List ℕ) (q : ℕ) (back : List ℕ) (u v x y : ℕ) → OpenPath bonds (front ++ (p ∷ (middle ++ q ∷ back))) v u
    → Detour bonds (front ++ (p ∷ (middle ++ q ∷ back))) p q x y → RingBy bonds u v x y
detoured bonds front p middle q back u v x y is d = record {
  path = front ++ (p ∷ (d.way ++ q ∷ back));
  is = record {
    chain = chain_join bonds front p (d.way ++ q ∷ back) (chain_left bonds front p (middle ++ q ∷ back) is.chain)
        (chain_join bonds (p ∷ d.way) q back d.chain (chain_right bonds (p ∷ middle) (q ∷ back) (chain_right bonds front (p ∷ middle ++ q ∷ back) is.chain)));
    distinct = distinct_join front (p ∷ d.way ++ q ∷ back) (distinct_left front (p ∷ middle ++ q ∷ back) is.distinct) (
      (λ h. elim (in_cases p d.way (q ∷ back) h) [
        | inl left ↦ d.beside p left (in_right p front (p ∷ middle ++ q ∷ back) (inl refl))
        | inr right ↦ rest.0 (in_right p middle (q ∷ back) right)
      ]),
      distinct_join d.way (q ∷ back) d.distinct (distinct_right middle (q ∷ back) rest.1)
          (λ z in_way in_back. d.beside z in_way (in_right z front (p ∷ middle ++ q ∷ back) (inr (in_right z middle (q ∷ back) in_back)))),
    )
        (λ z in_front in_rest. apart z in_front in_rest);
    head = head_left front p (middle ++ q ∷ back) (d.way ++ q ∷ back) v is.head;
    last = last_put front p (d.way ++ q ∷ back) u (last_put (p ∷ d.way) q back u (last_right (p ∷ middle) q back u (last_right front p (middle ++ q ∷ back) u is.last)));
  };
  uses = pair_right front (p ∷ d.way ++ q ∷ back) x y (pair_left (p ∷ d.way) q back x y d.uses);
}
  where
    rest : (¬ In p (middle ++ q ∷ back)) × Distinct (middle ++ q ∷ back)
    rest = distinct_right front (p ∷ middle ++ q ∷ back) is.distinct

    apart : (z : ℕ) → In z front → In z (p ∷ d.way ++ q ∷ back) → ⊥
    apart z in_front (inl e) = distinct_apart front (p ∷ middle ++ q ∷ back) is.distinct z in_front (inl e)
    apart z in_front (inr h) = elim (in_cases z d.way (q ∷ back) h) [
      | inl left ↦ d.beside z left (in_left z front (p ∷ middle ++ q ∷ back) in_front)
      | inr right ↦ distinct_apart front (p ∷ middle ++ q ∷ back) is.distinct z in_front (inr (in_right z middle (q ∷ back) right))
    ]

-- the detour the other way
turned_push : (xs : List ℕ) (y : ℕ) → turned (xs ++ y ∷ []) ≡ y ∷ turned xs
turned_push [] y = refl
turned_push (x ∷ xs) y = ap (λ (l : List ℕ). l ++ x ∷ []) (turned_push xs y)

detour_turned : (bonds : List Bond) (path : List ℕ) (p q x y : ℕ) → Detour bonds path p q x y → Detour bonds path q p x y
detour_turned bonds path p q x y d =
    let e : turned (p ∷ d.way ++ q ∷ []) ≡ q ∷ turned d.way ++ p ∷ [] = ap (λ (l : List ℕ). l ++ p ∷ []) (turned_push d.way q) in
    record {
      way = turned d.way;
      chain = subst (λ (l : List ℕ). Chain bonds l) e (chain_turned bonds (p ∷ d.way ++ q ∷ []) d.chain);
      distinct = distinct_turned d.way d.distinct;
      beside = λ z h g. d.beside z (in_turned z d.way h) g;
      uses = subst (λ (l : List ℕ). Pair l x y) e (pair_turned (p ∷ d.way ++ q ∷ []) x y d.uses);
    }

-- from its last atom on the path a ring goes round, along the bond that closes it, to its first one
detour_of : (bonds : List Bond) (path : List ℕ) (x y : ℕ) (front : List ℕ) (b : ℕ) (middle : List ℕ) (a : ℕ) (back : List ℕ) → OpenPath bonds (front ++ (b ∷ (middle ++ a ∷ back))) y x
    → are_joined bonds x y ≡ true → ((z : ℕ) → In z front → In z path → ⊥) → ((z : ℕ) → In z back → In z path → ⊥) → Detour bonds path a b x y
detour_of bonds path x y front b middle a back is joined front_beside back_beside =
    let e : (a ∷ back) ++ (front ++ b ∷ []) ≡ a ∷ (back ++ front) ++ b ∷ [] = ap (λ (l : List ℕ). a ∷ l) (sym (append_assoc back front (b ∷ []))) in
    let right = chain_right bonds (b ∷ middle) (a ∷ back) (chain_right bonds front (b ∷ middle ++ a ∷ back) is.chain) in
    let left = chain_left bonds front b (middle ++ a ∷ back) is.chain in
    let last = last_right (b ∷ middle) a back x (last_right front b (middle ++ a ∷ back) x is.last) in
    let head = head_left front b (middle ++ a ∷ back) [] y is.head in
    let rest = distinct_right (b ∷ middle) (a ∷ back) (distinct_right front (b ∷ middle ++ a ∷ back) is.distinct) in
    record {
      way = back ++ front;
      chain = subst (λ (l : List ℕ). Chain bonds l) e (chain_seam bonds (a ∷ back) (front ++ b ∷ []) x y right left last head joined);
      distinct = distinct_join back front rest.1 (distinct_left front (b ∷ middle ++ a ∷ back) is.distinct)
          (λ z in_back in_front. distinct_apart front (b ∷ middle ++ a ∷ back) is.distinct z in_front (inr (in_right z middle (a ∷ back) (inr in_back))));
      beside = λ z h g. elim (in_cases z back front h) [ inl left ↦ back_beside z left g | inr right ↦ front_beside z right g ];
      uses = inl (subst (λ (l : List ℕ). Next l x y) e (next_seam (a ∷ back) (front ++ b ∷ []) x y last head));
    }

-- a path is led by the detour between two of its atoms
led : (bonds : List Bond) (path : List ℕ) (u v a b x y : ℕ) → OpenPath bonds path v u → a ≢ b → In a path → In b path → Detour bonds path a b x y → RingBy bonds u v x y
led bonds path u v a b x y is other in_a in_b d =
    let s = in_split path a in_a in
    elim (in_cases b s.0 (a ∷ s.1) (subst (λ (l : List ℕ). In b l) s.2 in_b)) [
      | inl before ↦
          let t = in_split s.0 b before in
          let e : path ≡ t.0 ++ (b ∷ (t.1 ++ a ∷ s.1)) = s.2 ∙ ap (λ (l : List ℕ). l ++ a ∷ s.1) t.2 ∙ append_assoc t.0 (b ∷ t.1) (a ∷ s.1) in
          detoured bonds t.0 b t.1 a s.1 u v x y (subst (λ (l : List ℕ). OpenPath bonds l v u) e is)
          (subst (λ (l : List ℕ). Detour bonds l b a x y) e (detour_turned bonds path a b x y d))
      | inr after ↦ behind s.0 s.1 s.2 after
    ]
  where
    behind : (front back : List ℕ) → path ≡ front ++ a ∷ back → (b ≡ a) ⊎ In b back → RingBy bonds u v x y
    behind front back e (inl same) = absurd (other (sym same))
    behind front back e (inr h) =
        let t = in_split back b h in
        let f : path ≡ front ++ (a ∷ (t.0 ++ b ∷ t.1)) = e ∙ ap (λ (l : List ℕ). front ++ (a ∷ l)) t.2 in
        detoured bonds front a t.0 b t.1 u v x y (subst (λ (l : List ℕ). OpenPath bonds l v u) f is) (subst (λ (l : List ℕ). Detour bonds l a b x y) f d)

-- Two rings that go along one bond: one ring goes along the bonds that close them.
pub ring_across : (bonds : List Bond) (u v x y f g : ℕ) → f ≢ g → are_joined bonds x y ≡ true → RingBy bonds u v f g → RingBy bonds x y f g → RingBy bonds u v x y
ring_across bonds u v x y f g other joined ring round =
    let in_ring = pair_in ring.path f g ring.uses in
    let in_round = pair_in round.path f g round.uses in
    let first = first_in round.path ring.path f in_round.0 in_ring.0 in
    let more = second first in_ring in_round in
    let last = last_in_it first.back ring.path more.0 more.1 more.2 in
    let e : round.path ≡ first.front ++ (first.here ∷ (last.front ++ last.here ∷ last.back)) = first.is ∙ ap (λ (l : List ℕ). first.front ++ (first.here ∷ l)) last.is in
    let whole = subst (λ (l : List ℕ). OpenPath bonds l y x) e round.is in
    let rest = distinct_right first.front (first.here ∷ last.front ++ last.here ∷ last.back) whole.distinct in
    led bonds ring.path u v last.here first.here x y ring.is (λ same. rest.0 (in_right first.here last.front (last.here ∷ last.back) (inl (sym same)))) last.in_it first.in_it
    (detour_of bonds ring.path x y first.front first.here last.front last.here last.back whole joined first.none last.none)
  where
    second : (first : FirstIn round.path ring.path) → In f ring.path × In g ring.path → In f round.path × In g round.path → (z : ℕ) × (In z first.back) × (In z ring.path)
    second first in_ring in_round =
        elim (in_cases f first.front (first.here ∷ first.back) (subst (λ (l : List ℕ). In f l) first.is in_round.0)) [
          | inl before ↦ absurd (first.none f before in_ring.0)
          | inr f_there ↦ elim (in_cases g first.front (first.here ∷ first.back) (subst (λ (l : List ℕ). In g l) first.is in_round.1)) [
            | inl before ↦ absurd (first.none g before in_ring.1)
            | inr g_there ↦ one f_there g_there
          ]
        ]
      where
        one : (f ≡ first.here) ⊎ In f first.back → (g ≡ first.here) ⊎ In g first.back → (z : ℕ) × (In z first.back) × (In z ring.path)
        one (inr h) g_there = (f, h, in_ring.0)
        one (inl e) (inr h) = (g, h, in_ring.1)
        one (inl e) (inl same) = absurd (other (e ∙ sym same))

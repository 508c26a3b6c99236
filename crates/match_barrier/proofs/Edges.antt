-- The graph with no edges, and with one edge more.
use Rattle.std.proofs.Common.{◌≡◌, ◌≢◌, ℕ, zero, suc, ◌<◌, List, [], ◌∷◌, ◌++◌, length, get_or, set, map, take, replicate, Bool, true, false, refl, ap, sym, ◌∙◌, inl, inr, arith, subst}
use Rattle.std.specs.Prelude.{Result, Ok, Err, OnOk, OnErr, ◌↔◌, ◌==◌, ◌||◌, ◌⊎◌}
use Rattle.std.specs.List.{All}
use Rattle.std.proofs.lemmas.Bool.{cases_eq, false≢true, false_from_ne_true}
use Rattle.std.proofs.lemmas.List.{get_or-set_same, get_or-set_other, length-set, map-set, length-map, set-get_or, set-set, take_at}
use Rattle.std.proofs.lemmas.List.Folds.{list_any_at}
use Rattle.match_barrier.specs.Graph.{has, neighbours_of, adjacent, NoRepeats, IsGraph, IsEdge, with_edge}
use Rattle.match_barrier.proofs.Counting.{test_same, has_cases}

pub has_at : (xs : List ℕ) (k d : ℕ) → k < length xs → has xs (get_or xs k d) ≡ true
has_at xs k d less = list_any_at (λ y. y == get_or xs k d) xs k d less (test_same (get_or xs k d) (get_or xs k d) refl)

pub has_rest : (y : ℕ) (xs : List ℕ) (x : ℕ) → has xs x ≡ true → has (y ∷ xs) x ≡ true
has_rest y xs x h = by (y == x)
  where
    by : (b : Bool) → (b || has xs x) ≡ true
    by true = refl
    by false = h

pub has_front : (y : ℕ) (xs : List ℕ) (x : ℕ) → y ≡ x → has (y ∷ xs) x ≡ true
has_front y xs x e = rw (test_same y x e) refl

pub has_push_old : (xs : List ℕ) (y x : ℕ) → has xs x ≡ true → has (xs ++ y ∷ []) x ≡ true
has_push_old [] y x h = absurd (false≢true h)
has_push_old (z ∷ xs) y x h = elim (has_cases z xs x h) [
  | inl same ↦ has_front z (xs ++ y ∷ []) x same
  | inr rest ↦ has_rest z (xs ++ y ∷ []) x (has_push_old xs y x rest)
]

pub has_push_new : (xs : List ℕ) (y x : ℕ) → y ≡ x → has (xs ++ y ∷ []) x ≡ true
has_push_new [] y x e = has_front y [] x e
has_push_new (z ∷ xs) y x e = has_rest z (xs ++ y ∷ []) x (has_push_new xs y x e)

pub has_push_cases : (xs : List ℕ) (y x : ℕ) → has (xs ++ y ∷ []) x ≡ true → (has xs x ≡ true) ⊎ (y ≡ x)
has_push_cases [] y x h = elim (has_cases y [] x h) [
  | inl same ↦ inr same
  | inr rest ↦ absurd (false≢true rest)
]
has_push_cases (z ∷ xs) y x h = elim (has_cases z (xs ++ y ∷ []) x h) [
  | inl same ↦ inl (has_front z xs x same)
  | inr rest ↦ elim (has_push_cases xs y x rest) [
    | inl old ↦ inl (has_rest z xs x old)
    | inr new ↦ inr new
  ]
]

pub same_bools : (a b : Bool) → (a ≡ true → b ≡ true) → (b ≡ true → a ≡ true) → a ≡ b
same_bools true b there back = sym (there refl)
same_bools false true there back = back refl
same_bools false false there back = refl

pub no_repeats_push : (xs : List ℕ) (y : ℕ) → NoRepeats xs → has xs y ≡ false → NoRepeats (xs ++ y ∷ [])
no_repeats_push [] y none new = (refl, tt)
no_repeats_push (x ∷ xs) y none new = (
  false_from_ne_true (has (xs ++ y ∷ []) x) (λ h. elim (has_push_cases xs y x h) [
    | inl old ↦ false≢true (sym none.0 ∙ old)
    | inr same ↦ false≢true (sym new ∙ has_front x xs y (sym same))
  ]),
  no_repeats_push xs y none.1 (false_from_ne_true (has xs y) (λ h. false≢true (sym new ∙ has_rest x xs y h))),
)

no_row : (n u : ℕ) → get_or {A = List ℕ} (replicate n []) u [] ≡ []
no_row zero u = refl
no_row (suc n) zero = refl
no_row (suc n) (suc u) = no_row n u

pub no_edges : (n : ℕ) → IsGraph (replicate n [])
no_edges n = record {
  in_range = λ u v edge. absurd (none u v edge);
  symmetric = λ u v. ap (λ (row : List ℕ). has row v) (no_row n u) ∙ sym (ap (λ (row : List ℕ). has row u) (no_row n v));
  loop_free = λ u. ap (λ (row : List ℕ). has row u) (no_row n u);
  no_repeats = λ u. subst NoRepeats (sym (no_row n u)) tt;
}
  where
    none : (u v : ℕ) → adjacent (replicate n []) u v ≡ true → ⊥
    none u v edge = false≢true (sym (ap (λ (row : List ℕ). has row v) (no_row n u)) ∙ edge)

row_first : (g : List (List ℕ)) (u v : ℕ) → u < length g → u ≢ v → neighbours_of (with_edge g u v) u ≡ neighbours_of g u ++ v ∷ []
row_first g u v less ne = get_or-set_other (set g u (neighbours_of g u ++ v ∷ [])) v u (neighbours_of (set g u (neighbours_of g u ++ v ∷ [])) v ++ u ∷ []) [] ne ∙ get_or-set_same g u (neighbours_of g u ++ v ∷ []) [] less

row_second : (g : List (List ℕ)) (u v : ℕ) → v < length g → u ≢ v → neighbours_of (with_edge g u v) v ≡ neighbours_of g v ++ u ∷ []
row_second g u v less ne =
    let h : List (List ℕ) = set g u (neighbours_of g u ++ v ∷ []) in
    let long : length h ≡ length g = length-set g u (neighbours_of g u ++ v ∷ []) in
    get_or-set_same h v (neighbours_of h v ++ u ∷ []) [] (omega arith)
    ∙ ap (λ (row : List ℕ). row ++ u ∷ []) (get_or-set_other g u v (neighbours_of g u ++ v ∷ []) [] (λ e. ne (sym e)))

row_other : (g : List (List ℕ)) (u v a : ℕ) → a ≢ u → a ≢ v → neighbours_of (with_edge g u v) a ≡ neighbours_of g a
row_other g u v a nu nv =
    get_or-set_other (set g u (neighbours_of g u ++ v ∷ [])) v a (neighbours_of (set g u (neighbours_of g u ++ v ∷ [])) v ++ u ∷ []) [] nv
    ∙ get_or-set_other g u a (neighbours_of g u ++ v ∷ []) [] nu

-- an edge of the new graph
data NewEdge (g : List (List ℕ)) (u v a b : ℕ) : Type 0 where
  old : adjacent g a b ≡ true → NewEdge g u v a b
  there : a ≡ u → b ≡ v → NewEdge g u v a b
  back : a ≡ v → b ≡ u → NewEdge g u v a b

new_edge : (g : List (List ℕ)) (u v a b : ℕ) → u < length g → v < length g → u ≢ v → adjacent (with_edge g u v) a b ≡ true → NewEdge g u v a b
new_edge g u v a b lu lv ne h = elim (cases_eq a u) [
  | inl first ↦ elim (has_push_cases (neighbours_of g u) v b (ap (λ (row : List ℕ). has row b) (sym (row_first g u v lu ne)) ∙ ap (λ (x : ℕ). adjacent (with_edge g u v) x b) (sym first) ∙ h)) [
    | inl was ↦ old (ap (λ (x : ℕ). adjacent g x b) first ∙ was)
    | inr new ↦ there first (sym new)
  ]
  | inr nu ↦ elim (cases_eq a v) [
    | inl second ↦ elim (has_push_cases (neighbours_of g v) u b (ap (λ (row : List ℕ). has row b) (sym (row_second g u v lv ne)) ∙ ap (λ (x : ℕ). adjacent (with_edge g u v) x b) (sym second) ∙ h)) [
      | inl was ↦ old (ap (λ (x : ℕ). adjacent g x b) second ∙ was)
      | inr new ↦ back second (sym new)
    ]
    | inr nv ↦ old (ap (λ (row : List ℕ). has row b) (sym (row_other g u v a nu nv)) ∙ h)
  ]
]

edge_of : (g : List (List ℕ)) (u v a b : ℕ) → u < length g → v < length g → u ≢ v → NewEdge g u v a b → adjacent (with_edge g u v) a b ≡ true
edge_of g u v a b lu lv ne (there first second) =
    ap (λ (x : ℕ). adjacent (with_edge g u v) x b) first ∙ ap (λ (row : List ℕ). has row b) (row_first g u v lu ne) ∙ has_push_new (neighbours_of g u) v b (sym second)
edge_of g u v a b lu lv ne (back first second) =
    ap (λ (x : ℕ). adjacent (with_edge g u v) x b) first ∙ ap (λ (row : List ℕ). has row b) (row_second g u v lv ne) ∙ has_push_new (neighbours_of g v) u b (sym second)
edge_of g u v a b lu lv ne (old was) = elim (cases_eq a u) [
  | inl first ↦ ap (λ (x : ℕ). adjacent (with_edge g u v) x b) first ∙ ap (λ (row : List ℕ). has row b) (row_first g u v lu ne) ∙ has_push_old (neighbours_of g u) v b (ap (λ (x : ℕ). adjacent g x b) (sym first) ∙ was)
  | inr nu ↦ elim (cases_eq a v) [
    | inl second ↦ ap (λ (x : ℕ). adjacent (with_edge g u v) x b) second ∙ ap (λ (row : List ℕ). has row b) (row_second g u v lv ne) ∙ has_push_old (neighbours_of g v) u b (ap (λ (x : ℕ). adjacent g x b) (sym second) ∙ was)
    | inr nv ↦ ap (λ (row : List ℕ). has row b) (row_other g u v a nu nv) ∙ was
  ]
]

turned : (g : List (List ℕ)) (u v a b : ℕ) → IsGraph g → NewEdge g u v a b → NewEdge g u v b a
turned g u v a b is (old was) = old (sym (is.symmetric a b) ∙ was)
turned g u v a b is (there first second) = back second first
turned g u v a b is (back first second) = there second first

pub length_with_edge : (g : List (List ℕ)) (u v : ℕ) → length (with_edge g u v) ≡ length g
length_with_edge g u v = length-set (set g u (neighbours_of g u ++ v ∷ [])) v (neighbours_of (set g u (neighbours_of g u ++ v ∷ [])) v ++ u ∷ []) ∙ length-set g u (neighbours_of g u ++ v ∷ [])

pub more_edge : (g : List (List ℕ)) (u v : ℕ) → IsGraph g → u < length g → v < length g → u ≢ v → adjacent g u v ≡ false → IsGraph (with_edge g u v)
more_edge g u v is lu lv ne new =
    let long : length (with_edge g u v) ≡ length g = length_with_edge g u v in
    record {
      in_range = λ a b edge. subst (λ (n : ℕ). b < n) (sym long) (range a b (new_edge g u v a b lu lv ne edge));
      symmetric = λ a b. same_bools (adjacent (with_edge g u v) a b) (adjacent (with_edge g u v) b a)
          (λ h. edge_of g u v b a lu lv ne (turned g u v a b is (new_edge g u v a b lu lv ne h)))
          (λ h. edge_of g u v a b lu lv ne (turned g u v b a is (new_edge g u v b a lu lv ne h)));
      loop_free = λ a. false_from_ne_true (adjacent (with_edge g u v) a a) (λ h. no_loop a (new_edge g u v a a lu lv ne h));
      no_repeats = λ a. elim (cases_eq a u) [
        | inl first ↦ subst (λ (x : ℕ). NoRepeats (neighbours_of (with_edge g u v) x)) (sym first) (subst NoRepeats (sym (row_first g u v lu ne)) (no_repeats_push (neighbours_of g u) v (is.no_repeats u) new))
        | inr nu ↦ elim (cases_eq a v) [
          | inl second ↦ subst (λ (x : ℕ). NoRepeats (neighbours_of (with_edge g u v) x)) (sym second) (subst NoRepeats (sym (row_second g u v lv ne)) (no_repeats_push (neighbours_of g v) u (is.no_repeats v) (is.symmetric v u ∙ new)))
          | inr nv ↦ subst NoRepeats (sym (row_other g u v a nu nv)) (is.no_repeats a)
        ]
      ];
    }
  where
    range : (a b : ℕ) → NewEdge g u v a b → b < length g
    range a b (old was) = is.in_range a b was
    range a b (there first second) = subst (λ (x : ℕ). x < length g) (sym second) lv
    range a b (back first second) = subst (λ (x : ℕ). x < length g) (sym second) lu

    no_loop : (a : ℕ) → NewEdge g u v a a → ⊥
    no_loop a (old was) = false≢true (sym (is.loop_free a) ∙ was)
    no_loop a (there first second) = ne (sym first ∙ second)
    no_loop a (back first second) = ne (sym second ∙ first)

pub row_in_range : (g : List (List ℕ)) (u : ℕ) (row : List ℕ) → IsGraph g → row ≡ neighbours_of g u → All (λ v. v < length g) row
row_in_range g u row is same = subst (λ (r : List ℕ). All (λ v. v < length g) r) (sym same) (λ k d less. is.in_range u (get_or (neighbours_of g u) k d) (has_at (neighbours_of g u) k d less))

-- Rows of numbers behind a function, as the items of vectors.
pub get_or_map : {X : Type 0} (f : X → List ℕ) (rows : List X) (u : ℕ) (row : X) → u < length rows → row ≡ get_or rows u row → get_or (map f rows) u [] ≡ f row
get_or_map f [] u row less is = absurd (omega arith)
get_or_map f (x ∷ rows) zero row less is = ap f (sym is)
get_or_map f (x ∷ rows) (suc u) row less is = get_or_map f rows u row (omega arith) is

pub set_row : {X : Type 0} (f : X → List ℕ) (rows : List X) (u : ℕ) (new : X) (ys : List ℕ) → f new ≡ ys → map f (set rows u new) ≡ set (map f rows) u ys
set_row f rows u new ys is = map-set f rows u new ∙ ap (λ (y : List ℕ). set (map f rows) u y) is

pub row_pushed : {X : Type 0} (f : X → List ℕ) (rows : List X) (u v : ℕ) (row new : X) → u < length rows → row ≡ get_or rows u row → f new ≡ f row ++ v ∷ [] → map f (set rows u new) ≡ set (map f rows) u (get_or (map f rows) u [] ++ v ∷ [])
row_pushed f rows u v row new less is grown = set_row f rows u new (get_or (map f rows) u [] ++ v ∷ []) (grown ∙ ap (λ (y : List ℕ). y ++ v ∷ []) (sym (get_or_map f rows u row less is)))

pub row_kept : {X : Type 0} (f : X → List ℕ) (rows : List X) (u : ℕ) (row new : X) → u < length rows → row ≡ get_or rows u row → f new ≡ f row → map f (set rows u new) ≡ map f rows
row_kept f rows u row new less is kept = set_row f rows u new (get_or (map f rows) u []) (kept ∙ sym (get_or_map f rows u row less is)) ∙ set-get_or (map f rows) u []

pub row_cut : {X : Type 0} (f : X → List ℕ) (rows : List X) (u n : ℕ) (row new : X) → u < length rows → row ≡ get_or rows u row → f new ≡ take n (f row) → map f (set rows u new) ≡ set (map f rows) u (take n (get_or (map f rows) u []))
row_cut f rows u n row new less is cut = set_row f rows u new (take n (get_or (map f rows) u [])) (cut ∙ ap (λ (y : List ℕ). take n y) (sym (get_or_map f rows u row less is)))

pub cut_back : (g : List (List ℕ)) (u v n : ℕ) → u < length g → n ≡ length (neighbours_of g u) → set (set g u (neighbours_of g u ++ v ∷ [])) u (take n (neighbours_of (set g u (neighbours_of g u ++ v ∷ [])) u)) ≡ g
cut_back g u v n less is =
    set-set g u (neighbours_of g u ++ v ∷ []) (take n (neighbours_of (set g u (neighbours_of g u ++ v ∷ [])) u))
    ∙ ap (λ (y : List ℕ). set g u y) (ap (take n) (get_or-set_same g u (neighbours_of g u ++ v ∷ []) [] less) ∙ take_at (neighbours_of g u) (v ∷ []) n (sym is))
    ∙ set-get_or g u []

pub neighbours_in_range : {X : Type 0} (f : X → List ℕ) (rows : List X) (g : List (List ℕ)) (u : ℕ) (row : X) (slice : List ℕ) → map f rows ≡ g → IsGraph (map f rows) → u < length g → row ≡ get_or rows u row → slice ≡ f row → All (λ v. v < length g) slice
neighbours_in_range f rows g u row slice view is less at same =
    let long : length rows ≡ length g = sym (length-map rows f) ∙ ap length view in
    row_in_range g u slice (subst IsGraph view is) (same ∙ sym (get_or_map f rows u row (omega arith) at) ∙ ap (λ (h : List (List ℕ)). neighbours_of h u) view)

pub cut_after : (g pushed same new : List (List ℕ)) (u v n : ℕ) → u < length g → n ≡ length (neighbours_of g u) → pushed ≡ set g u (neighbours_of g u ++ v ∷ []) → same ≡ pushed → new ≡ set same u (take n (neighbours_of same u)) → new ≡ g
cut_after g pushed same new u v n less is push keep cut = cut ∙ ap (λ (x : List (List ℕ)). set x u (take n (neighbours_of x u))) (keep ∙ push) ∙ cut_back g u v n less is

-- The edges are those from before, and the new one.
edges_of : (g : List (List ℕ)) (u v : ℕ) → u < length g → v < length g → u ≢ v → (a b : ℕ) → (adjacent (with_edge g u v) a b ≡ true) ↔ ((adjacent g a b ≡ true) ⊎ IsEdge u v a b)
edges_of g u v lu lv ne a b = (λ h. known (new_edge g u v a b lu lv ne h), λ h. edge_of g u v a b lu lv ne (fresh h))
  where
    known : NewEdge g u v a b → (adjacent g a b ≡ true) ⊎ IsEdge u v a b
    known (old was) = inl was
    known (there first second) = inr (inl (first, second))
    known (back first second) = inr (inr (first, second))

    fresh : (adjacent g a b ≡ true) ⊎ IsEdge u v a b → NewEdge g u v a b
    fresh (inl was) = old was
    fresh (inr (inl e)) = there e.0 e.1
    fresh (inr (inr e)) = back e.0 e.1

pub edges_after : {T E : Type 0} (r : Result T E) (g now new : List (List ℕ)) (u v : ℕ) → g ≡ now → u < length now → v < length now → u ≢ v → OnOk r (new ≡ with_edge g u v)
    → OnOk r ((a b : ℕ) → (adjacent new a b ≡ true) ↔ ((adjacent now a b ≡ true) ⊎ IsEdge u v a b))
edges_after (Ok x) g now new u v view lu lv ne ok = λ a b.
    subst (λ (h : List (List ℕ)). (adjacent h a b ≡ true) ↔ ((adjacent now a b ≡ true) ⊎ IsEdge u v a b)) (sym (ok ∙ ap (λ (h : List (List ℕ)). with_edge h u v) view)) (edges_of now u v lu lv ne a b)
edges_after (Err e) g now new u v view lu lv ne ok = tt

pub still_graph : {T E : Type 0} (r : Result T E) (g now new : List (List ℕ)) (u v : ℕ) → g ≡ now → IsGraph g → u < length now → v < length now → u ≢ v → adjacent now u v ≡ false → OnOk r (new ≡ with_edge g u v) → OnErr r (new ≡ g) → IsGraph new
still_graph (Ok x) g now new u v view is lu lv ne none ok err = subst IsGraph (sym ok) (more_edge g u v is (subst (λ (h : List (List ℕ)). u < length h) (sym view) lu) (subst (λ (h : List (List ℕ)). v < length h) (sym view) lv) ne (ap (λ (h : List (List ℕ)). adjacent h u v) view ∙ none))
still_graph (Err e) g now new u v view is lu lv ne none ok err = subst IsGraph (sym err) is

-- A tree with no edge left to scan is stuck.
use Rattle.std.proofs.Common.{◌≡◌, ◌≢◌, ℕ, suc, ◌+◌, ◌≤◌, ◌<◌, List, length, get_or, Bool, true, false, refl, ap, sym, ◌∙◌, inl, inr, arith}
use Rattle.std.specs.Prelude.{◌⊎◌}
use Rattle.std.proofs.lemmas.Bool.{false≢true, cases_Bool}
use Rattle.match_barrier.specs.Graph.{has, adjacent}
use Rattle.match_barrier.specs.Barrier.{count}
use Rattle.match_barrier.proofs.Counting.{but, but_is, but_other, count_but}
use Rattle.match_blossom.specs.Foldings.{IsLiving}
use Rattle.match_blossom.specs.Search.{Tree, Stuck}
use Rattle.match_blossom.proofs.Parity.{covered_count}

-- the mate of a matched living node has this node as its mate
mate_back : (g : List (List ℕ)) (mates : List ℕ) (root : ℕ) (part : ℕ → ℕ) (outer inner : ℕ → Bool) (parent order : ℕ → ℕ) → Tree g mates root part outer inner parent order
    → (v : ℕ) → IsLiving g part v → get_or mates v 0 ≢ length g → get_or mates (get_or mates v 0) 0 ≡ v
mate_back g mates root part outer inner parent order t v living not_free = (t.matching.mate v living refl not_free).3

pub one_more : (g : List (List ℕ)) (mates : List ℕ) (root : ℕ) (part : ℕ → ℕ) (outer inner : ℕ → Bool) (parent order : ℕ → ℕ) → Tree g mates root part outer inner parent order
    → count (length g) outer ≡ count (length g) inner + 1
one_more g mates root part outer inner parent order t =
    let n : ℕ = length g in
    let rest : ℕ → Bool = but outer root in
    let whole : count n outer ≡ suc (count n rest) = count_but n outer root (t.outer_living root t.root_outer).0 t.root_outer in
    let up : count n rest ≤ count n inner = covered_count n inner (λ v. get_or mates v 0) n rest (λ o less passes.
    let both = but_is outer root o passes in
    let i = t.outer_mate o both.0 both.1 in
    let l = t.inner_living (get_or mates o 0) i in
    (get_or mates o 0, l.0, i, mate_back g mates root part outer inner parent order t o (t.outer_living o both.0) (λ e. let k = l.0 in absurd (omega arith)))) in
    let down : count n inner ≤ count n rest = covered_count n rest (λ v. get_or mates v 0) n inner (λ i less passes.
    let o = t.inner_mate i passes in
    let l = t.outer_living (get_or mates i 0) o in
    let back = mate_back g mates root part outer inner parent order t i (t.inner_living i passes) (λ e. let k = l.0 in absurd (omega arith)) in
    let not_root : get_or mates i 0 ≢ root = λ e. let free = sym back ∙ ap (λ (x : ℕ). get_or mates x 0) e ∙ t.root_free in absurd (omega arith) in
    (get_or mates i 0, l.0, but_other outer root (get_or mates i 0) not_root ∙ o, back)) in
    omega arith

pub stuck_of_tree : (g : List (List ℕ)) (set : List ℕ) (mates : List ℕ) (root : ℕ) (part : ℕ → ℕ) (outer inner : ℕ → Bool) (parent order : ℕ → ℕ) → Tree g mates root part outer inner parent order
    → ((v : ℕ) → v < length g → has set v ≡ inner v) → length set ≡ count (length g) inner
    → ((u v : ℕ) → adjacent g u v ≡ true → outer (part u) ≡ true → (part v ≡ part u) ⊎ (inner (part v) ≡ true))
    → Stuck g set part outer inner
stuck_of_tree g set mates root part outer inner parent order t members size closed = record {
  members = members;
  size = size;
  inner_alone = λ u less in'. t.alone u less (by (part u) in' (cases_Bool (outer (part u))));
  inner_living = λ v in'. (t.inner_living v in').1;
  not_both = t.not_both;
  odd_classes = λ o less out. t.odd_classes o out;
  closed = closed;
  one_more = one_more g mates root part outer inner parent order t;
}
  where
    by : (x : ℕ) → inner x ≡ true → (outer x ≡ true) ⊎ (outer x ≡ false) → outer x ≡ false
    by x in' (inl o) = absurd (false≢true (sym (t.not_both x o) ∙ in'))
    by x in' (inr o) = o

-- Where no edge is left, the living inner nodes are a barrier.
use Rattle.std.proofs.Common.{◌≡◌, ℕ, ◌≤◌, ◌<◌, List, length, Bool, true, false, ap, sym, ◌∙◌, inl, inr, arith}
use Rattle.std.specs.Prelude.{◌==◌, ◌⊎◌}
use Rattle.std.proofs.lemmas.Bool.{false≢true, eqb-true, cases_Bool}
use Rattle.match_barrier.specs.Graph.{has, IsGraph}
use Rattle.match_barrier.specs.Barrier.{count, names_odd_part, OddParts, IsBarrier}
use Rattle.match_barrier.proofs.Counting.{test_same}
use Rattle.match_barrier.proofs.Naming.{some_number}
use Rattle.match_blossom.specs.Search.{Stuck}
use Rattle.match_blossom.proofs.Parity.{IsClosed, OddPartIn, odd_part_in, covered_count}

class_closed : (g : List (List ℕ)) (s : List ℕ) (part : ℕ → ℕ) (outer inner : ℕ → Bool) → IsGraph g → Stuck g s part outer inner → (o : ℕ) → outer o ≡ true → IsClosed g s (λ u. part u == o)
class_closed g s part outer inner is stuck o is_outer = record {
  left = λ u less inside. by u less (eqb-true (part u) o inside) (cases_Bool (has s u));
  closed = λ u v inside edge left. let same : part u ≡ o = eqb-true (part u) o inside in
      elim (stuck.closed u v edge (ap outer same ∙ is_outer)) [
        | inl one ↦ test_same (part v) o (one ∙ same)
        | inr blocked ↦ let alone : part v ≡ v = stuck.inner_alone v left.0 blocked in
            absurd (false≢true (sym left.1 ∙ stuck.members v left.0 ∙ ap inner (sym alone) ∙ blocked))
      ];
}
  where
    by : (u : ℕ) → u < length g → part u ≡ o → (has s u ≡ true) ⊎ (has s u ≡ false) → has s u ≡ false
    by u less same (inr h) = h
    by u less same (inl h) =
        let in' : inner u ≡ true = sym (stuck.members u less) ∙ h in
        absurd (false≢true (sym (stuck.not_both o is_outer) ∙ ap inner (sym same ∙ stuck.inner_living u in') ∙ in'))

pub stuck_barrier : (g : List (List ℕ)) (s : List ℕ) (part : ℕ → ℕ) (outer inner : ℕ → Bool) (odd : ℕ) → IsGraph g → Stuck g s part outer inner → OddParts g s odd → IsBarrier g s odd
stuck_barrier g s part outer inner odd is stuck parts =
    let (name, names, counted) = parts in
    let c : count (length g) outer ≤ count (length g) (names_odd_part g s name) = covered_count (length g) (names_odd_part g s name) part (length g) outer (λ o less is_outer.
    let found : OddPartIn g s name (λ u. part u == o) = odd_part_in g s name (λ u. part u == o) is names (class_closed g s part outer inner is stuck o is_outer) (stuck.odd_classes o less is_outer) in
    (found.node, found.below, found.odd, eqb-true (part found.node) o found.inside)) in
    let one = stuck.one_more in
    let size = stuck.size in
    (parts, omega arith)

-- So a stuck search has a barrier.
pub stuck_has_barrier : (g : List (List ℕ)) (s : List ℕ) (part : ℕ → ℕ) (outer inner : ℕ → Bool) → IsGraph g → Stuck g s part outer inner → (odd : ℕ) × IsBarrier g s odd
stuck_has_barrier g s part outer inner is stuck = let n = some_number g s is in (n.0, stuck_barrier g s part outer inner n.0 is stuck n.1)

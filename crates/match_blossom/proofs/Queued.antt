-- Putting inner nodes behind the queue.
use Rattle.std.proofs.Common.{◌≡◌, ℕ, ◌+◌, ◌≤◌, ◌<◌, List, length, get_or, set, take, true, false, ap, sym, ◌∙◌, inl, inr, arith, subst}
use Rattle.std.proofs.lemmas.Bool.{cases_eq, false≢true}
use Rattle.std.proofs.lemmas.List.{get_or-set_same, get_or-set_other, length-set, take_more}
use Rattle.match_barrier.specs.Graph.{has}
use Rattle.match_barrier.proofs.Edges.{has_at, has_push_cases}
use Rattle.match_blossom.specs.declared.tree.Label.{Label}
use Rattle.match_blossom.specs.Labels.{is_inner}
use Rattle.match_blossom.specs.Forest.{StandsIn}
use Rattle.match_blossom.proofs.Growth.{stands_on, stands_new}

pub record IsQueueing (labels : List Label) (nodes old queue : List ℕ) (queued i end : ℕ) : Type 0 where
  pub length : length queue ≡ length old
  pub kept : (k : ℕ) → k < queued → get_or queue k 0 ≡ get_or old k 0
  pub low : queued ≤ end
  pub high : end ≤ queued + i
  pub new : (k : ℕ) → queued ≤ k → k < end → (has nodes (get_or queue k 0) ≡ true) × (is_inner labels (get_or queue k 0) ≡ true)
  pub each : (u : ℕ) → has (take i nodes) u ≡ true → is_inner labels u ≡ true → StandsIn queue queued end u

pub queueing_more : (labels : List Label) (nodes old queue : List ℕ) (queued i end v : ℕ) → IsQueueing labels nodes old queue queued i end → i < length nodes → v ≡ get_or nodes i 0 → is_inner labels v ≡ true → queued + length nodes ≤ length old
    → IsQueueing labels nodes old (set queue end v) queued (i + 1) (end + 1)
queueing_more labels nodes old queue queued i end v q less v_is inner room =
    let low = q.low in
    let high = q.high in
    let long = q.length in
    record {
      length = length-set queue end v ∙ q.length;
      kept = λ k b. get_or-set_other queue end k v 0 (λ e. absurd (omega arith)) ∙ q.kept k b;
      low = omega arith;
      high = omega arith;
      new = λ k from to. elim (cases_eq k end) [
        | inl e ↦
            let here : get_or (set queue end v) k 0 ≡ v = ap (λ (j : ℕ). get_or (set queue end v) j 0) e ∙ get_or-set_same queue end v 0 (omega arith) in
            (ap (has nodes) (here ∙ v_is) ∙ has_at nodes i 0 less, ap (is_inner labels) here ∙ inner)
        | inr ne ↦
            let same : get_or (set queue end v) k 0 ≡ get_or queue k 0 = get_or-set_other queue end k v 0 ne in
            let n = q.new k from (omega arith) in (ap (has nodes) same ∙ n.0, ap (is_inner labels) same ∙ n.1)
      ];
      each = λ u h i'. elim (has_push_cases (take i nodes) (get_or nodes i 0) u (ap (λ (xs : List ℕ). has xs u) (sym (take_more nodes i 0 less)) ∙ h)) [
        | inl old' ↦ stands_on queue queued end end u v (omega arith) (q.each u old' i')
        | inr e ↦ subst (λ (x : ℕ). StandsIn (set queue end v) queued (end + 1) x) (v_is ∙ e) (stands_new queue queued end v (omega arith) (omega arith))
      ];
    }

pub queueing_skip : (labels : List Label) (nodes old queue : List ℕ) (queued i end v : ℕ) → IsQueueing labels nodes old queue queued i end → i < length nodes → v ≡ get_or nodes i 0 → is_inner labels v ≡ false
    → IsQueueing labels nodes old queue queued (i + 1) end
queueing_skip labels nodes old queue queued i end v q less v_is outside =
    let high = q.high in
    record {
      length = q.length;
      kept = q.kept;
      low = q.low;
      high = omega arith;
      new = q.new;
      each = λ u h i'. elim (has_push_cases (take i nodes) (get_or nodes i 0) u (ap (λ (xs : List ℕ). has xs u) (sym (take_more nodes i 0 less)) ∙ h)) [
        | inl old' ↦ q.each u old' i'
        | inr e ↦ absurd (false≢true (sym (ap (is_inner labels) (sym (v_is ∙ e)) ∙ outside) ∙ i'))
      ];
    }

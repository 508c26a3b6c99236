use Rattle.std.proofs.Common.{arith, ◌≡◌, ◌∙◌, ◌+◌, ◌-◌, ◌<◌, length, drop, get_or, ℕ, List, ap, sym, subst, Some}
use Rattle.std.specs.Prelude.{◌&&◌, nat_le}
use Rattle.std.proofs.lemmas.Option.{slice_get-get_or}
use Rattle.smi_graph.specs.declared.role.Role.{Role}
use Rattle.smi_graph.specs.Order.{is_enter, unclosed_at}
use Rattle.smi_graph.specs.Firsts.{unmatched, unmatched_with, IsFirstFrom}
use Rattle.smi_graph.proofs.Unmatched.{is_unclosed, unmatched_here}
use Rattle.smi_graph.proofs.unclosed.first_unclosed.Goals as goal

pub loop-i-preserved : goal.loop-i-preserved
loop-i-preserved c =
    let ks : List Role = c.args.roles.now in
    let i : ℕ = c.loop-i.i - 1 in
    let next : c.loop-i.i ≡ i + 1 = omega arith in
    let less : i < length ks = omega (arith, c.loop-i.invariant.within) in
    let k : Role = get_or ks i _ in
    let behind : c.loop-i.unmatched ≡ unmatched (drop (i + 1) ks) = c.loop-i.invariant.unmatched ∙ ap (λ (n : ℕ). unmatched (drop n ks)) next in
    let here : unclosed_at ks i ≡ c.is_unclosed.result =
    is_unclosed ks i k (slice_get-get_or ks i _ less) ∙ ap (λ (n : ℕ). is_enter (Some k) && nat_le n 0) (sym behind) ∙ sym c.is_unclosed.ensures in
    record {
      within = omega arith;
      unmatched = c.unmatched_with-unmatched.ensures.value ∙ ap (unmatched_with k) behind ∙ sym (unmatched_here ks i _ less);
      few = omega arith;
      first = c.earlier-first.ensures (unclosed_at ks) (length ks) less (subst (λ (n : ℕ). IsFirstFrom (unclosed_at ks) n (length ks) c.loop-i.first) next c.loop-i.invariant.first) here;
    }

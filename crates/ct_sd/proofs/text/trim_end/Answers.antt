use Rattle.std.proofs.Common.{arith, ◌≡◌, ℕ, ◌+◌, ◌-◌, ◌<◌, ◌∙◌, length, take, ap, sym, subst}
use Rattle.ct_sd.specs.Columns.{trim_end}
use Rattle.ct_sd.proofs.Trimming.{blank_behind, other_behind, nothing_left}
use Rattle.ct_sd.proofs.text.trim_end.Goals.{then-loop-len-test+else-is_blank, else-loop-len-test}
use Rattle.ct_sd.proofs.text.trim_end.Goals as goal

pub loop-len-preserved : goal.loop-len-preserved
loop-len-preserved c =
    let text = c.args.text.now in
    let n : ℕ = c.loop-len.len - 1 in
    let less : n < length text = omega arith in
    let back : c.loop-len.len ≡ n + 1 = omega arith in
    record {
      within = omega arith;
      same = sym (blank_behind text n less (sym c.is_blank.ensures ∙ c.if-is_blank.true)) ∙ ap (λ (k : ℕ). trim_end (take k text)) (sym back) ∙ c.loop-len.invariant.same;
    }

pub returns : goal.returns
returns c = elim c.loop-len-test.branch [
  | then-loop-len-test+else-is_blank w ↦
      let text = c.args.text.now in
      let n : ℕ = c.loop-len.len - 1 in
      let less : n < length text = omega arith in
      let back : c.loop-len.len ≡ n + 1 = omega arith in
      let ends = subst (λ (k : ℕ). trim_end (take k text) ≡ take k text) (sym back) (other_behind text n less (sym w.is_blank.ensures ∙ w.if-is_blank.false)) in
      sym ends ∙ c.loop-len.invariant.same
  | else-loop-len-test w ↦ nothing_left c.loop-len.len c.args.text.now (omega arith) c.loop-len.invariant.same
]

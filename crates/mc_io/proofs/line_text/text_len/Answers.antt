use Rattle.std.proofs.Common.{arith, ◌≡◌, ◌-◌, ◌+◌, ◌<◌, ◌∙◌, length, take, ap, sym, subst, ℕ}
use Rattle.std.proofs.lemmas.List.{length-take-le}
use Rattle.mc_io.specs.Lines.{text_of}
use Rattle.mc_io.proofs.Cutting.{text_behind, text_ends}
use Rattle.mc_io.proofs.line_text.text_len.Goals as goal

pub loop-len-preserved : goal.loop-len-preserved
loop-len-preserved c =
    let piece = c.args.piece.now in
    let n : ℕ = c.loop-len.len - 1 in
    let less : n < length piece = omega arith in
    let back : c.loop-len.len ≡ n + 1 = omega arith in
    record {
      within = omega arith;
      same = sym (text_behind piece n less c.if-piece-len-eq13.true) ∙ ap (λ (k : ℕ). text_of (take k piece)) (sym back) ∙ c.loop-len.invariant.same;
    }

pub returns-else-piece-len-eq13-clause-value : goal.returns-else-piece-len-eq13-clause-value
returns-else-piece-len-eq13-clause-value c =
    let piece = c.args.piece.now in
    let n : ℕ = c.loop-len.len - 1 in
    let less : n < length piece = omega arith in
    let back : c.loop-len.len ≡ n + 1 = omega arith in
    let ends = subst (λ (k : ℕ). text_of (take k piece) ≡ take k piece) (sym back) (text_ends piece n less c.if-piece-len-eq13.false) in
    sym (length-take-le c.loop-len.len piece c.loop-len.invariant.within) ∙ ap length (sym ends ∙ c.loop-len.invariant.same)

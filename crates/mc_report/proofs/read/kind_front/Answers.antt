use Rattle.std.proofs.Common.{◌∙◌, take, drop, ap, ℕ}
use Rattle.std.proofs.lemmas.List.{take_rest}
use Rattle.mc_report.proofs.RefusedLines.{kind_some}
use Rattle.mc_report.proofs.read.kind_front.Goals as goal

pub returns : goal.returns
returns c =
    let text = c.args.text.now in
    kind_some text c.in_ok-kind.kind _
    (c.in_ok-kind.ensures.found ∙ ap (λ (n : ℕ). take n text) c.name_len-end.ensures.value)
    (rw take_rest (ap (λ (n : ℕ). drop n text) c.name_len-end.ensures.value))

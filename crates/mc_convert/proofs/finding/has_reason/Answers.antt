use Rattle.std.proofs.Common.{◌↔◌, sym, subst}
use Rattle.std.specs.Prelude.{IsTrue}
use Rattle.mc_base.specs.declared.kind.Kind.{Kind}
use Rattle.mc_base.specs.Shown.{HasReason}
use Rattle.mc_convert.specs.Answers.{IsBarrierOf}
use Rattle.mc_convert.specs.Findings.{IsTextKept}
use Rattle.mc_convert.proofs.finding.has_reason.Goals as goal

pub returns-in_ok-right-in-NoPlacement : goal.returns-in_ok-right-in-NoPlacement
returns-in_ok-right-in-NoPlacement c = λ to given kept.
    subst (λ (kind : Kind). IsTrue c.in_ok-right-in-NoPlacement.right ↔ HasReason (IsBarrierOf to given) kind c.args.refusal.now.barrier c.args.refusal.now.odd) (sym c.in-NoPlacement.is)
    (c.in_ok-right-in-NoPlacement.ensures to given (subst (λ (kind : Kind). IsTextKept given kind c.args.skeleton.now) c.in-NoPlacement.is kept))

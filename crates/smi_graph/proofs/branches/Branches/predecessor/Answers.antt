use Rattle.std.proofs.Common.{◌∙◌, Bool, ap, sym}
use Rattle.smi_graph.specs.Order.{latest}
use Rattle.smi_graph.specs.Branches.{is_dot, unless_dot}
use Rattle.smi_graph.proofs.OpenLaw.{predecessor_is}
use Rattle.smi_graph.proofs.branches.Branches.predecessor.Goals as goal

pub returns : goal.returns
returns c = λ before previous opened.
    c.unless_dot.ensures
    ∙ ap (λ (t : Bool). unless_dot t c.args.self.now.latest) (c.is_dot.ensures ∙ ap is_dot previous)
    ∙ ap (unless_dot (is_dot (latest before))) opened.latest ∙ sym (predecessor_is before)

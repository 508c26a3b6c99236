use Rattle.std.proofs.Common.{◌≡◌, ◌∙◌, None, sym, ap}
use Rattle.smi_graph.specs.Order.{depth, tokens_before}
use Rattle.smi_graph.proofs.Closed.{all_closed}
use Rattle.smi_graph.proofs.Placing.{none_of}
use Rattle.smi_graph.proofs.structure.Structure.is_closed.Goals as goal

pub returns-then-is_none : goal.returns-then-is_none
returns-then-is_none c = λ ks flat all follows.
    let none : c.args.self.now.faults.misplaced ≡ None = none_of c.args.self.now.faults.misplaced c.is_none.result c.is_none.ensures c.if-is_none.true in
    let behind = follows.order none in
    all_closed ks c.args.self.now.order.depth (sym c.is_flat.ensures ∙ flat) (ap (λ n. depth (tokens_before ks n)) (sym all) ∙ behind.depth)

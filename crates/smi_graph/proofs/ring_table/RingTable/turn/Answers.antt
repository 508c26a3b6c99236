use Rattle.std.proofs.Common.{◌≡◌, ◌∙◌, Option, None, get_or, List, ap}
use Rattle.smi_graph.specs.declared.ring_table.RingEnd.{RingEnd}
use Rattle.smi_graph.specs.Bonds.{open_end}
use Rattle.smi_graph.specs.RingTables.{turned}
use Rattle.smi_graph.proofs.RingEnds.{ring_step}
use Rattle.smi_graph.proofs.ring_table.RingTable.turn.Goals as goal

pub returns : goal.returns
returns c = λ before here holds n.
    let other : c.end_of.result ≡ open_end c.args.number before =
    c.end_of.ensures ∙ ap (λ (x : List (Option RingEnd)). get_or x c.args.number None) c.deref.ensures ∙ holds c.args.number in
    c.in_ok-set_end.ensures n
    ∙ ring_step c.args.number n before _ _ (c.turned-end.ensures ∙ (ap (λ (x : Option RingEnd). turned x c.args.here) other ∙ ap (turned (open_end c.args.number before)) here)) (holds n)

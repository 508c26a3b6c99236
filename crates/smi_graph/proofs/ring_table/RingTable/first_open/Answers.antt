use Rattle.smi_graph.proofs.FirstEnds.{first_open_is}
use Rattle.smi_graph.proofs.ring_table.RingTable.first_open.Goals as goal

pub returns : goal.returns
returns c = λ before holds. first_open_is before c.deref.result.now c.first_end.result (rw c.deref.ensures holds) c.first_end.ensures

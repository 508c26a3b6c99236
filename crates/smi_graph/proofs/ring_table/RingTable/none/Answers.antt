use Rattle.std.specs.Prelude.{refl}
use Rattle.smi_graph.proofs.ring_table.RingTable.none.Goals as goal

pub returns : goal.returns
returns c = λ n. rw c.new.ensures.items refl

use Rattle.smi_graph.specs.RingTables.{IsFirstEnd}
use Rattle.smi_graph.proofs.ring_table.first_end.Given as goal

abbrev pub invariant-loop-end : goal.invariant-loop-end
invariant-loop-end l = IsFirstEnd l.ends l.end-index l.first

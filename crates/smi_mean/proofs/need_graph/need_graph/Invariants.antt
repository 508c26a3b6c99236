use Rattle.std.proofs.Common.{take}
use Rattle.smi_mean.specs.NeedGraphs.{IsNodeGraph}
use Rattle.smi_mean.proofs.need_graph.need_graph.Given as goal

abbrev pub invariant-loop-bond : goal.invariant-loop-bond
invariant-loop-bond l = IsNodeGraph l.needs (take l.bond-index l.candidates) l.graph

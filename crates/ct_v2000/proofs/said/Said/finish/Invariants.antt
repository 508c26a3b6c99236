use Rattle.std.proofs.Common.{◌≡◌, ◌+◌, ◌++◌, drop}
use Rattle.ct_sd.specs.Faults.{first_of}
use Rattle.ct_v2000.specs.Table.{late_faults}
use Rattle.ct_v2000.specs.Blocks.{atoms_by_said}
use Rattle.ct_v2000.proofs.said.Said.finish.Given as goal

abbrev pub invariant-loop-k : goal.invariant-loop-k
invariant-loop-k l = record {
  atoms : l.atoms ++ atoms_by_said l.self l.k (drop l.k l.lines) ≡ atoms_by_said l.self 0 l.lines;
  shows : first_of l.faults.fault (late_faults l.self.codes_replaced l.self.differences_replaced (5 + l.k) (drop l.k l.lines)) ≡ first_of l.initial.faults.fault (late_faults l.self.codes_replaced l.self.differences_replaced 5 l.lines);
}

use Rattle.std.proofs.Common.{◌≡◌, drop}
use Rattle.ct_sd.specs.Faults.{first_of}
use Rattle.ct_geometry.specs.TableFaults.{atom_faults}
use Rattle.ct_geometry.proofs.table_faults.note_atoms.Given as goal

abbrev pub invariant-loop-k : goal.invariant-loop-k
invariant-loop-k l = record {
  shows : first_of l.faults.fault (atom_faults l.bonds l.k (drop l.k l.atoms)) ≡ first_of l.initial.faults.fault (atom_faults l.bonds 0 l.atoms);
}

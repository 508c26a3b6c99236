use Rattle.std.proofs.Common.{◌≡◌, ◌≤◌, ◌+◌, ◌-◌, ◌++◌}
use Rattle.ct_sd.specs.Faults.{first_of, faults_of_lines}
use Rattle.ct_v2000.specs.AtomLines.{atom_line_shows, atom_lines_of}
use Rattle.ct_v2000.specs.Blocks.{still}
use Rattle.ct_v2000.proofs.blocks.read_atoms.Given as goal

abbrev pub invariant-loop-n : goal.invariant-loop-n
invariant-loop-n l = record {
  within : l.n ≤ l.count;
  atoms : l.atoms.items ++ atom_lines_of (5 + l.n) (still 4 l.n l.count l.given) ≡ atom_lines_of 5 (still 4 0 l.count l.given);
  shows : first_of l.faults.fault (faults_of_lines atom_line_shows (5 + l.n) (still 4 l.n l.count l.given)) ≡ first_of l.initial.faults.fault (faults_of_lines atom_line_shows 5 (still 4 0 l.count l.given));
}

abbrev pub decreases-loop-n : goal.decreases-loop-n
decreases-loop-n l = l.count - l.n

use Rattle.std.proofs.Common.{◌≡◌, ◌≤◌, ◌+◌, ◌*◌, ◌-◌}
use Rattle.ct_sd.specs.Faults.{first_of, faults_at}
use Rattle.ct_v2000.specs.Properties.{sgroup_kinds, each_shows}
use Rattle.ct_v2000.proofs.sgroup.note_each.Given as goal

abbrev pub invariant-loop-e : goal.invariant-loop-e
invariant-loop-e l = record {
  within : l.e ≤ l.count;
  shows : first_of l.faults.fault (faults_at l.place (each_shows sgroup_kinds (l.count - l.e) (10 + 8 * l.e) l.line)) ≡ first_of l.initial.faults.fault (faults_at l.place (each_shows sgroup_kinds l.count 10 l.line));
}

abbrev pub decreases-loop-e : goal.decreases-loop-e
decreases-loop-e l = l.count - l.e

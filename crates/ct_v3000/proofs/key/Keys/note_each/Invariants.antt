use Rattle.std.proofs.Common.{◌≡◌, ◌≤◌, ◌-◌, [], take, drop, length}
use Rattle.ct_sd.specs.Faults.{first_of, faults_at}
use Rattle.ct_v3000.specs.Keys.{each_key_shows}
use Rattle.ct_v3000.proofs.key.Keys.note_each.Given as goal

abbrev pub invariant-loop-n : goal.invariant-loop-n
invariant-loop-n l = record {
  within : l.n ≤ length l.words;
  shows : first_of l.faults.fault (faults_at l.place (each_key_shows l.self (take l.n l.words) (drop l.n l.words))) ≡ first_of l.initial.faults.fault (faults_at l.place (each_key_shows l.self [] l.words));
}

abbrev pub decreases-loop-n : goal.decreases-loop-n
decreases-loop-n l = length l.words - l.n

-- The promises of the commands, from how their runs ended.
use Rattle.std.proofs.Common.{arith, ◌≡◌, ℕ, zero, suc, ◌<◌, ◌≤◌, List, Bool, true, false, Option, Some, None, refl, ap, subst, inl, inr}
use Rattle.std.specs.Prelude.{◌≢◌, Result, Ok, Err}
use Rattle.std.proofs.lemmas.Bool.{cases_lt}
use Rattle.mc_io.specs.Outside.{Input, Outputs, SameBut}
use Rattle.mc_convert.specs.declared.formats.Formats.{Formats}
use Rattle.mc_convert.specs.declared.command_line.Command.{Command}
use Rattle.mc_convert.specs.declared.status.Halt.{Halt}
use Rattle.mc_convert.specs.declared.status.Halt.TheVariants.{ReadFault as ReadHalt, InputLimit as LimitHalt, WriteFault as WriteHalt, NoMemory as MemoryHalt}
use Rattle.mc_convert.specs.declared.status.Status.{Status}
use Rattle.mc_convert.specs.declared.status.Status.TheVariants.{Done, SomeRefused, Usage, ReadFault, WriteFault, InputLimit}
use Rattle.mc_convert.specs.Words.{IsCommand, IsLineOf}
use Rattle.mc_convert.specs.Ended.{HoldsAt}
use Rattle.mc_convert.specs.Runs.{AnswersSome, FaultsRose, HasStopped, IsStop, IsWhole, RanWhole, Taken}
use Rattle.mc_convert.specs.CheckRuns.{CheckedAll, ChecksSome, CheckStopped, IfAllKnown, IfKnown, Written}
use Rattle.mc_convert.specs.Checks.{OneText}
use Rattle.mc_convert.specs.Promises.{Checks, Converts, HasCauses, Promises}
use Rattle.mc_convert.specs.Statuses.{ended_status, status_of}
use Rattle.mc_convert.proofs.CheckEnds.{is_not_true, is_true, only_memory as only_memory_of_check}
use Rattle.mc_convert.proofs.FindingsOnce.{text_once}
use Rattle.mc_convert.proofs.Limits.{limit_of, taken_done, taken_refused}
use Rattle.mc_convert.proofs.Running.{none_shown, only_memory, some_shown}

-- ---- statuses

not_whole : (halt : Halt) → IsWhole (status_of halt) → ⊥
not_whole ReadHalt (inl e) = cc
not_whole ReadHalt (inr e) = cc
not_whole LimitHalt (inl e) = cc
not_whole LimitHalt (inr e) = cc
not_whole WriteHalt (inl e) = cc
not_whole WriteHalt (inr e) = cc
not_whole MemoryHalt (inl e) = cc
not_whole MemoryHalt (inr e) = cc

not_usage : (halt : Halt) → status_of halt ≢ Usage
not_usage ReadHalt e = cc
not_usage LimitHalt e = cc
not_usage WriteHalt e = cc
not_usage MemoryHalt e = cc

read_halt : (halt : Halt) → status_of halt ≡ ReadFault → halt ≡ ReadHalt
read_halt ReadHalt e = refl
read_halt LimitHalt e = absurd cc
read_halt WriteHalt e = absurd cc
read_halt MemoryHalt e = absurd cc

limit_halt : (halt : Halt) → status_of halt ≡ InputLimit → halt ≡ LimitHalt
limit_halt ReadHalt e = absurd cc
limit_halt LimitHalt e = refl
limit_halt WriteHalt e = absurd cc
limit_halt MemoryHalt e = absurd cc

write_halt : (halt : Halt) → status_of halt ≡ WriteFault → halt ≡ WriteHalt
write_halt ReadHalt e = absurd cc
write_halt LimitHalt e = absurd cc
write_halt WriteHalt e = refl
write_halt MemoryHalt e = absurd cc

-- a run that went to its end has no other cause
causes_done : (count limit : ℕ) (before after : ℕ → Input) (old new : Outputs) → Taken count limit (Done ≡ InputLimit) before after
    → ((i : ℕ) → i < count → (before i).faults ≤ (after i).faults) → old.faults ≤ new.faults → ((i : ℕ) → count ≤ i → after i ≡ before i)
    → HasCauses count limit before after old new Done
causes_done count limit before after old new taken read written others = record {
  words = λ e. cc;
  read = λ e. absurd cc;
  write = λ e. absurd cc;
  taken = taken;
  limit = limit_of count limit (Done ≡ InputLimit) before after taken;
  later_read = read;
  later_written = written;
  others = others;
}

causes_refused : (count limit : ℕ) (before after : ℕ → Input) (old new : Outputs) → Taken count limit (SomeRefused ≡ InputLimit) before after
    → ((i : ℕ) → i < count → (before i).faults ≤ (after i).faults) → old.faults ≤ new.faults → ((i : ℕ) → count ≤ i → after i ≡ before i)
    → HasCauses count limit before after old new SomeRefused
causes_refused count limit before after old new taken read written others = record {
  words = λ e. cc;
  read = λ e. absurd cc;
  write = λ e. absurd cc;
  taken = taken;
  limit = limit_of count limit (SomeRefused ≡ InputLimit) before after taken;
  later_read = read;
  later_written = written;
  others = others;
}

-- ---- 'convert'

first_later : (before after : ℕ → Input) → (before 0).faults ≤ (after 0).faults → (i : ℕ) → i < 1 → (before i).faults ≤ (after i).faults
first_later before after later zero less = later
first_later before after later (suc i) less = absurd (omega arith)

others_same : (before after : ℕ → Input) → SameBut 0 before after → (i : ℕ) → 1 ≤ i → after i ≡ before i
others_same before after same i more = same i (λ e. absurd (omega arith))

pub converts_done : (formats : Formats) (limit : ℕ) (before after : ℕ → Input) (old new : Outputs) → RanWhole formats false (before 0) (after 0) old new → Taken 1 limit (Done ≡ InputLimit) before after
    → (before 0).faults ≤ (after 0).faults → old.faults ≤ new.faults → SameBut 0 before after → Converts formats limit before after old new Done
converts_done formats limit before after old new ran taken read written same = record {
  whole = λ _. (ran.at_end, ran.all);
  done = λ _. none_shown formats (before 0).left ran.shown;
  some_refused = λ e. absurd cc;
  exactly = λ _ _. inl (inl refl);
  stopped = no_stop;
  read_fault = λ e. absurd cc;
  input_limit = λ e. absurd cc;
  causes = causes_done 1 limit before after old new taken (first_later before after read) written (others_same before after same);
}
  where
    no_stop : IsStop Done → AnswersSome formats (before 0).left old new
    no_stop (inl e) = absurd cc
    no_stop (inr (inl e)) = absurd cc
    no_stop (inr (inr (inl e))) = absurd cc
    no_stop (inr (inr (inr e))) = absurd cc

pub converts_refused : (formats : Formats) (limit : ℕ) (before after : ℕ → Input) (old new : Outputs) → RanWhole formats true (before 0) (after 0) old new → Taken 1 limit (SomeRefused ≡ InputLimit) before after
    → (before 0).faults ≤ (after 0).faults → old.faults ≤ new.faults → SameBut 0 before after → Converts formats limit before after old new SomeRefused
converts_refused formats limit before after old new ran taken read written same = record {
  whole = λ _. (ran.at_end, ran.all);
  done = λ e. absurd cc;
  some_refused = λ _. some_shown formats (before 0).left ran.shown;
  exactly = λ _ _. inl (inr refl);
  stopped = no_stop;
  read_fault = λ e. absurd cc;
  input_limit = λ e. absurd cc;
  causes = causes_refused 1 limit before after old new taken (first_later before after read) written (others_same before after same);
}
  where
    no_stop : IsStop SomeRefused → AnswersSome formats (before 0).left old new
    no_stop (inl e) = absurd cc
    no_stop (inr (inl e)) = absurd cc
    no_stop (inr (inr (inl e))) = absurd cc
    no_stop (inr (inr (inr e))) = absurd cc

abbrev halted : Halt → Result Bool Halt
halted halt = Err halt

pub converts_stopped : (formats : Formats) (limit : ℕ) (halt : Halt) (before after : ℕ → Input) (old new : Outputs) → AnswersSome formats (before 0).left old new → HasStopped formats halt (before 0) (after 0) old new → HoldsAt formats limit (halted halt) (before 0) (after 0) old new
    → Taken 1 limit (status_of halt ≡ InputLimit) before after → (before 0).faults ≤ (after 0).faults → old.faults ≤ new.faults → SameBut 0 before after
    → Converts formats limit before after old new (status_of halt)
converts_stopped formats limit halt before after old new some stopped holds taken read written same = record {
  whole = λ ends. absurd (not_whole halt ends);
  done = λ e. absurd (not_whole halt (inl e));
  some_refused = λ e. absurd (not_whole halt (inr e));
  exactly = λ ended all. only_memory formats halt (before 0) (after 0) old new stopped ended all;
  stopped = λ _. some;
  read_fault = λ e. subst (λ (h : Halt). HoldsAt formats limit (halted h) (before 0) (after 0) old new) (read_halt halt e) holds;
  input_limit = λ e. subst (λ (h : Halt). HoldsAt formats limit (halted h) (before 0) (after 0) old new) (limit_halt halt e) holds;
  causes = record {
    words = not_usage halt;
    read = λ e. rose (subst (λ (h : Halt). HasStopped formats h (before 0) (after 0) old new) (read_halt halt e) stopped);
    write = λ e. (subst (λ (h : Halt). HasStopped formats h (before 0) (after 0) old new) (write_halt halt e) stopped).0;
    taken = taken;
    limit = limit_of 1 limit (status_of halt ≡ InputLimit) before after taken;
    later_read = first_later before after read;
    later_written = written;
    others = others_same before after same;
  };
}
  where
    rose : HasStopped formats ReadHalt (before 0) (after 0) old new → FaultsRose 1 before after
    rose h = record { input = 0; is_input = omega arith; rose = h.0 }

-- ---- 'check'

abbrev ok : Bool → Result Bool Halt
ok b = Ok b

one_text : (formats : Formats) (before : ℕ → Input) → IfAllKnown before (OneText formats)
one_text formats before = by_left (before 0).left (before 1).left (before 2).left
  where
    by_left : (o c r : Option (List ℕ)) → IfKnown o c r (OneText formats)
    by_left None c r = tt
    by_left (Some o) None r = tt
    by_left (Some o) (Some c) None = tt
    by_left (Some o) (Some c) (Some r) = text_once formats o c r

pub checks_done : (formats : Formats) (limit : ℕ) (before after : ℕ → Input) (old new : Outputs) → CheckedAll formats true before after old new → Taken 3 limit (Done ≡ InputLimit) before after
    → ((i : ℕ) → i < 3 → (before i).faults ≤ (after i).faults) → Written old new → ((i : ℕ) → 3 ≤ i → after i ≡ before i) → Checks formats limit before after old new Done
checks_done formats limit before after old new ran taken read written others = record {
  ended = λ _. ran.ended;
  whole = λ _. ran.all;
  one_text = one_text formats before;
  done = λ _. is_true formats (before 0).left (before 1).left (before 2).left ran.true_is;
  some_refused = λ e. absurd cc;
  exactly = λ _ _. inl (inl refl);
  stopped = no_stop;
  kept = written.report;
  causes = causes_done 3 limit before after old new taken read written.later others;
}
  where
    no_stop : IsStop Done → ChecksSome formats (before 0).left (before 1).left (before 2).left (old.held 0) (new.held 0)
    no_stop (inl e) = absurd cc
    no_stop (inr (inl e)) = absurd cc
    no_stop (inr (inr (inl e))) = absurd cc
    no_stop (inr (inr (inr e))) = absurd cc

pub checks_refused : (formats : Formats) (limit : ℕ) (before after : ℕ → Input) (old new : Outputs) → CheckedAll formats false before after old new → Taken 3 limit (SomeRefused ≡ InputLimit) before after
    → ((i : ℕ) → i < 3 → (before i).faults ≤ (after i).faults) → Written old new → ((i : ℕ) → 3 ≤ i → after i ≡ before i) → Checks formats limit before after old new SomeRefused
checks_refused formats limit before after old new ran taken read written others = record {
  ended = λ _. ran.ended;
  whole = λ _. ran.all;
  one_text = one_text formats before;
  done = λ e. absurd cc;
  some_refused = λ _. is_not_true formats (before 0).left (before 1).left (before 2).left ran.true_is;
  exactly = λ _ _. inl (inr refl);
  stopped = no_stop;
  kept = written.report;
  causes = causes_refused 3 limit before after old new taken read written.later others;
}
  where
    no_stop : IsStop SomeRefused → ChecksSome formats (before 0).left (before 1).left (before 2).left (old.held 0) (new.held 0)
    no_stop (inl e) = absurd cc
    no_stop (inr (inl e)) = absurd cc
    no_stop (inr (inr (inl e))) = absurd cc
    no_stop (inr (inr (inr e))) = absurd cc

pub checks_ended : (formats : Formats) (limit : ℕ) (b : Bool) (before after : ℕ → Input) (old new : Outputs) → CheckedAll formats b before after old new → Taken 3 limit (ok b ≡ Err LimitHalt) before after
    → ((i : ℕ) → i < 3 → (before i).faults ≤ (after i).faults) → Written old new → ((i : ℕ) → 3 ≤ i → after i ≡ before i) → Checks formats limit before after old new (ended_status b)
checks_ended formats limit true before after old new ran taken read written others = checks_done formats limit before after old new ran (taken_done 3 limit true before after taken) read written others
checks_ended formats limit false before after old new ran taken read written others = checks_refused formats limit before after old new ran (taken_refused 3 limit false before after taken) read written others

pub checks_stopped : (formats : Formats) (limit : ℕ) (halt : Halt) (before after : ℕ → Input) (old new : Outputs) → ChecksSome formats (before 0).left (before 1).left (before 2).left (old.held 0) (new.held 0)
    → CheckStopped formats halt before after old new → Taken 3 limit (status_of halt ≡ InputLimit) before after
    → ((i : ℕ) → i < 3 → (before i).faults ≤ (after i).faults) → Written old new → ((i : ℕ) → 3 ≤ i → after i ≡ before i) → Checks formats limit before after old new (status_of halt)
checks_stopped formats limit halt before after old new some stopped taken read written others = record {
  ended = λ ends. absurd (not_whole halt ends);
  whole = λ ends. absurd (not_whole halt ends);
  one_text = one_text formats before;
  done = λ e. absurd (not_whole halt (inl e));
  some_refused = λ e. absurd (not_whole halt (inr e));
  exactly = λ ended all. only_memory_of_check formats halt before after old new stopped ended all;
  stopped = λ _. some;
  kept = written.report;
  causes = record {
    words = not_usage halt;
    read = λ e. rose (subst (λ (h : Halt). CheckStopped formats h before after old new) (read_halt halt e) stopped);
    write = λ e. (subst (λ (h : Halt). CheckStopped formats h before after old new) (write_halt halt e) stopped).0;
    taken = taken;
    limit = limit_of 3 limit (status_of halt ≡ InputLimit) before after taken;
    later_read = read;
    later_written = written.later;
    others = others;
  };
}
  where
    rose : CheckStopped formats ReadHalt before after old new → FaultsRose 3 before after
    rose h = record { input = h.input; is_input = h.is_input; rose = h.rose }

-- ---- whatever the command is

pub later_of : (count limit : ℕ) (before after : ℕ → Input) (old new : Outputs) (status : Status) → HasCauses count limit before after old new status
    → (i : ℕ) → (before i).faults ≤ (after i).faults
later_of count limit before after old new status causes i = elim (cases_lt i count) [
  | inl less ↦ causes.later_read i less
  | inr more ↦ let kept = ap (λ (x : Input). x.faults) (causes.others i more) in omega arith
]

pub others_of : (count limit : ℕ) (before after : ℕ → Input) (old new : Outputs) (status : Status) → HasCauses count limit before after old new status
    → count ≤ 3 → (i : ℕ) → 3 ≤ i → after i ≡ before i
others_of count limit before after old new status causes few i more = causes.others i (omega arith)

pub kept_by : (words : List (List ℕ)) (found : Command) (limit : ℕ) (before after : ℕ → Input) (old new : Outputs) (status : Status)
    → ((command : Command) (files : List (List ℕ)) → IsCommand command words files → Some found ≡ Some command) → Promises found limit before after old new status
    → (command : Command) → IsLineOf command words → Promises command limit before after old new status
kept_by words found limit before after old new status only promise command (files, is) =
    subst (λ (c : Command). Promises c limit before after old new status) (same found command (only command files is)) promise
  where
    same : (c d : Command) → Some c ≡ Some d → c ≡ d
    same c d e = cc

-- What was taken of the inputs, and the limit.
use Rattle.std.proofs.Common.{arith, ◌≡◌, ℕ, zero, suc, ◌+◌, ◌^◌, ◌<◌, ◌≤◌, List, length, Bool, refl, inl, inr}
use Rattle.std.specs.Prelude.{◌↔◌, Result, Ok, Err}
use Rattle.mc_io.specs.declared.read_stop.ReadStop.{ReadStop}
use Rattle.mc_io.specs.declared.read_stop.ReadStop.TheVariants.{ReadFault, InputLimit, NoMemory}
use Rattle.mc_io.specs.LineReader.{LineReader, Reading, fresh}
use Rattle.mc_io.specs.Outside.{Input, Outputs, Takes}
use Rattle.mc_convert.specs.declared.check_readers.CheckReaders.{CheckReaders}
use Rattle.mc_convert.specs.declared.status.Halt.{Halt}
use Rattle.mc_convert.specs.declared.status.Halt.TheVariants.{ReadFault as ReadHalt, InputLimit as LimitHalt, WriteFault as WriteHalt, NoMemory as MemoryHalt}
use Rattle.mc_convert.specs.declared.status.Status.TheVariants.{Done, SomeRefused, InputLimit as LimitStatus}
use Rattle.mc_convert.specs.Readers.{HasEnded}
use Rattle.mc_convert.specs.Runs.{PastLimit, Taken, risen}
use Rattle.mc_convert.specs.Statuses.{halt_of, status_of}
use Rattle.mc_convert.specs.CheckSteps.{Advance, AreWithin, IsPast, fresh_readers}
use Rattle.mc_convert.specs.CheckRuns.{CheckHalts}

-- ---- the count of what was taken

risen_is : (before after : Input) (bytes : List ℕ) → Takes before after bytes → length bytes < 2 ^ 65 → before.taken < 2 ^ 127 → after.taken ≡ before.taken + length bytes
risen_is before after bytes takes few less = let is = takes.count in omega arith

-- by the counts, where those are far from their end
pub limit_of : (count limit : ℕ) (P : Type 0) (before after : ℕ → Input) → Taken count limit P before after → ((i : ℕ) → i < count → (before i).taken < 2 ^ 127) → P ↔ PastLimit count limit (risen before after)
limit_of count limit P before after taken few = (λ p. by_count (taken.stopped.0 p), λ past. taken.stopped.1 (by_bytes past))
  where
    by_count : PastLimit count limit (λ i. length (taken.bytes i)) → PastLimit count limit (risen before after)
    by_count p =
        let past = p.past in
        let is = risen_is (before p.input) (after p.input) (taken.bytes p.input) (taken.takes p.input p.is_input) (taken.few p.input p.is_input) (few p.input p.is_input) in
        record { input = p.input; is_input = p.is_input; past = omega arith }

    by_bytes : PastLimit count limit (risen before after) → PastLimit count limit (λ i. length (taken.bytes i))
    by_bytes p =
        let past = p.past in
        let is = risen_is (before p.input) (after p.input) (taken.bytes p.input) (taken.takes p.input p.is_input) (taken.few p.input p.is_input) (few p.input p.is_input) in
        record { input = p.input; is_input = p.is_input; past = omega arith }

pub limit_of_one : (limit : ℕ) (P : Type 0) (before after : ℕ → Input) → Taken 1 limit P before after → (before 0).taken < 2 ^ 127 → P ↔ ((before 0).taken + limit < (after 0).taken)
limit_of_one limit P before after taken few =
    let both = limit_of 1 limit P before after taken first_few in
    (λ p. let past = both.0 p in by_input past.input past.is_input past.past, λ more. both.1 (record { input = 0; is_input = omega arith; past = omega arith }))
  where
    first_few : (i : ℕ) → i < 1 → (before i).taken < 2 ^ 127
    first_few zero less = few
    first_few (suc i) less = absurd (omega arith)

    by_input : (i : ℕ) → i < 1 → limit < risen before after i → (before 0).taken + limit < (after 0).taken
    by_input zero less more = omega arith
    by_input (suc i) less more = absurd (omega arith)

-- ---- how a stop is said

abbrev stop : Halt → Result Bool Halt
stop halt = Err halt

taken_as : (count limit : ℕ) (P Q : Type 0) (before after : ℕ → Input) → (P → Q) → (Q → P) → Taken count limit P before after → Taken count limit Q before after
taken_as count limit P Q before after f g taken = record {
  bytes = taken.bytes;
  takes = taken.takes;
  few = taken.few;
  stopped = (λ q. taken.stopped.0 (g q), λ past. f (taken.stopped.1 past));
}

pub taken_status : (count limit : ℕ) (halt : Halt) (before after : ℕ → Input) → Taken count limit (stop halt ≡ stop LimitHalt) before after → Taken count limit (status_of halt ≡ LimitStatus) before after
taken_status count limit halt before after taken = taken_as count limit (stop halt ≡ stop LimitHalt) (status_of halt ≡ LimitStatus) before after (to halt) (from halt) taken
  where
    to : (halt : Halt) → stop halt ≡ stop LimitHalt → status_of halt ≡ LimitStatus
    to ReadHalt e = absurd cc
    to LimitHalt e = refl
    to WriteHalt e = absurd cc
    to MemoryHalt e = absurd cc

    from : (halt : Halt) → status_of halt ≡ LimitStatus → stop halt ≡ stop LimitHalt
    from ReadHalt e = absurd cc
    from LimitHalt e = refl
    from WriteHalt e = absurd cc
    from MemoryHalt e = absurd cc

pub taken_done : (count limit : ℕ) (b : Bool) (before after : ℕ → Input) → Taken count limit (Ok b ≡ stop LimitHalt) before after → Taken count limit (Done ≡ LimitStatus) before after
taken_done count limit b before after taken = taken_as count limit (Ok b ≡ stop LimitHalt) (Done ≡ LimitStatus) before after (λ e. absurd cc) (λ e. absurd cc) taken

pub taken_refused : (count limit : ℕ) (b : Bool) (before after : ℕ → Input) → Taken count limit (Ok b ≡ stop LimitHalt) before after → Taken count limit (SomeRefused ≡ LimitStatus) before after
taken_refused count limit b before after taken = taken_as count limit (Ok b ≡ stop LimitHalt) (SomeRefused ≡ LimitStatus) before after (λ e. absurd cc) (λ e. absurd cc) taken

-- ---- one reader

-- what was taken of input 0 is what its reader counts
pub taken_by_one : (limit : ℕ) (P : Type 0) (reader : LineReader) (start now : ℕ → Input) → Reading (fresh 0) reader (start 0) (now 0) → P ↔ (limit < reader.taken) → Taken 1 limit P start now
taken_by_one limit P reader start now reading stops =
    let is = reading.taken in
    let low = reading.few (omega arith) in record {
      bytes = λ i. reading.bytes;
      takes = takes_at;
      few = λ i less. omega arith;
      stopped = (λ p. let past = stops.0 p in record { input = 0; is_input = omega arith; past = omega arith }, λ past. let more = past.past in stops.1 (omega arith));
    }
  where
    takes_at : (i : ℕ) → i < 1 → Takes (start i) (now i) reading.bytes
    takes_at zero less = reading.takes
    takes_at (suc i) less = absurd (omega arith)

pub limit_read : (halt : ReadStop) (limit : ℕ) (new : LineReader) (before after : Input) → HasEnded limit (Err halt) new before after → (stop (halt_of halt) ≡ stop LimitHalt) ↔ (limit < new.taken)
limit_read ReadFault limit new before after h = let low = h.0 in (λ e. absurd cc, λ more. absurd (omega arith))
limit_read InputLimit limit new before after h = let high = h.0 in (λ _. high, λ _. refl)
limit_read NoMemory limit new before after h = let low = h in (λ e. absurd cc, λ more. absurd (omega arith))

pub limit_kept : {P : Type 0} (limit taken : ℕ) → (P → ⊥) → taken ≤ limit → P ↔ (limit < taken)
limit_kept limit taken other within = (λ h. absurd (other h), λ more. absurd (omega arith))

-- ---- three readers

taken_by_all : (limit : ℕ) (P : Type 0) (readers : CheckReaders) (before after : ℕ → Input) → Advance fresh_readers readers before after → P ↔ IsPast limit readers → Taken 3 limit P before after
taken_by_all limit P readers before after advance stops =
    let one = advance.originals.taken in
    let two = advance.converted.taken in
    let three = advance.report.taken in
    record {
      bytes = bytes_at;
      takes = takes_at;
      few = few_at;
      stopped = (λ p. past_at (stops.0 p), λ past. stops.1 (is_past past.input past.is_input past.past));
    }
  where
    bytes_at : ℕ → List ℕ
    bytes_at zero = advance.originals.bytes
    bytes_at (suc zero) = advance.converted.bytes
    bytes_at (suc (suc i)) = advance.report.bytes

    takes_at : (i : ℕ) → i < 3 → Takes (before i) (after i) (bytes_at i)
    takes_at zero less = advance.originals.takes
    takes_at (suc zero) less = advance.converted.takes
    takes_at (suc (suc zero)) less = advance.report.takes
    takes_at (suc (suc (suc i))) less = absurd (omega arith)

    few_at : (i : ℕ) → i < 3 → length (bytes_at i) < 2 ^ 65
    few_at zero less = let is = advance.originals.taken in let low = advance.originals.few (omega arith) in omega arith
    few_at (suc zero) less = let is = advance.converted.taken in let low = advance.converted.few (omega arith) in omega arith
    few_at (suc (suc zero)) less = let is = advance.report.taken in let low = advance.report.few (omega arith) in omega arith
    few_at (suc (suc (suc i))) less = absurd (omega arith)

    past_at : IsPast limit readers → PastLimit 3 limit (λ i. length (bytes_at i))
    past_at (inl past) = let is = advance.originals.taken in record { input = 0; is_input = omega arith; past = omega arith }
    past_at (inr (inl past)) = let is = advance.converted.taken in record { input = 1; is_input = omega arith; past = omega arith }
    past_at (inr (inr past)) = let is = advance.report.taken in record { input = 2; is_input = omega arith; past = omega arith }

    is_past : (i : ℕ) → i < 3 → limit < length (bytes_at i) → IsPast limit readers
    is_past zero less more = let is = advance.originals.taken in inl (omega arith)
    is_past (suc zero) less more = let is = advance.converted.taken in inr (inl (omega arith))
    is_past (suc (suc zero)) less more = let is = advance.report.taken in inr (inr (omega arith))
    is_past (suc (suc (suc i))) less more = absurd (omega arith)

not_past : (limit : ℕ) (readers : CheckReaders) → AreWithin limit readers → IsPast limit readers → ⊥
not_past limit readers within (inl past) = let low = within.originals in omega arith
not_past limit readers within (inr (inl past)) = let low = within.converted in omega arith
not_past limit readers within (inr (inr past)) = let low = within.report in omega arith

-- a check that was stopped
pub taken_stopped : (limit : ℕ) (halt : Halt) (readers : CheckReaders) (before after : ℕ → Input) (old new : Outputs) → Advance fresh_readers readers before after → CheckHalts limit halt readers before after old new
    → Taken 3 limit (stop halt ≡ stop LimitHalt) before after
taken_stopped limit halt readers before after old new advance halts = taken_by_all limit (stop halt ≡ stop LimitHalt) readers before after advance (by_halt halt halts)
  where
    by_halt : (halt : Halt) → CheckHalts limit halt readers before after old new → (stop halt ≡ stop LimitHalt) ↔ IsPast limit readers
    by_halt ReadHalt h = (λ e. absurd cc, λ past. absurd (not_past limit readers h.0 past))
    by_halt LimitHalt h = (λ _. h.0, λ _. refl)
    by_halt MemoryHalt h = (λ e. absurd cc, λ past. absurd (not_past limit readers h past))
    by_halt WriteHalt h = (λ e. absurd cc, λ past. absurd (not_past limit readers h.0 past))

-- and one that wasn't
pub taken_whole : (limit : ℕ) (result : Bool) (readers : CheckReaders) (before after : ℕ → Input) → Advance fresh_readers readers before after → AreWithin limit readers
    → Taken 3 limit (Ok result ≡ stop LimitHalt) before after
taken_whole limit result readers before after advance within =
    taken_by_all limit (Ok result ≡ stop LimitHalt) readers before after advance (λ e. absurd cc, λ past. absurd (not_past limit readers within past))

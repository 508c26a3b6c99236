-- The bytes of an input that were read, in one buffer (this project's own).
use Rattle.std.specs.Prelude.{◌≡◌, ℕ, ◌+◌, ◌<◌, ◌≤◌, Bool, false, IsTrue, List, [], ◌++◌, length, take, slice_range, Result, Ok, Err}
use Rattle.std.specs.Io.KnownBytes.{IsAtEnd}
use Rattle.mc_io.specs.Outside.{GaveNone, Input, Takes}

-- the most bytes of one read
abbrev pub most_read : ℕ
most_read = 65536

-- A buffer: the number of its input; the bytes that were read and aren't passed; how many bytes its reads have taken;
-- whether they have met the end; and how many bytes it has room for.
pub record Buffered : Type 0 where
  pub input : ℕ
  pub held : List ℕ
  pub taken : ℕ
  pub ended : Bool
  pub room : ℕ

-- a buffer that has read nothing yet
abbrev pub fresh_buffer : ℕ → Buffered
fresh_buffer input = record { input = input; held = []; taken = 0; ended = false; room = 0 }

-- what a buffer keeps true of where its bytes stand
pub record IsInOrder (input held_from held_to room : ℕ) : Type 0 where
  pub in_range : input < 3
  pub order : held_from ≤ held_to
  pub within : held_to ≤ room

-- what stands before a place of a buffer stays
pub record Stays (at : ℕ) (old new : List ℕ) : Type 0 where
  pub front : take at new ≡ take at old
  pub size : length new ≡ length old

pub record PutsSome (at n : ℕ) (old new : List ℕ) (before after : Input) : Type 0 where
  pub stays : Stays at old new
  pub within : at + n ≤ length new
  pub few : n ≤ most_read
  pub takes : Takes before after (slice_range new at (at + n))
  pub ended : n ≡ 0 → IsTrue after.ended × IsAtEnd after.left
  pub going : 0 < n → after.ended ≡ false

-- a read that gave n bytes put them at a place of a buffer, and one that failed put none
abbrev pub Puts : {E : Type 0} → ℕ → List ℕ → List ℕ → Input → Input → Result ℕ E → Type 0
Puts at old new before after (Ok n) = PutsSome at n old new before after
Puts at old new before after (Err failed) = Stays at old new × GaveNone before after

-- these bytes were read, and stand behind those that were held
pub record Adds (old new : Buffered) (before after : Input) (bytes : List ℕ) : Type 0 where
  pub takes : Takes before after bytes
  pub input : new.input ≡ old.input
  pub held : new.held ≡ old.held ++ bytes
  pub taken : new.taken ≡ old.taken + length bytes

-- a read met the end, or gave some bytes
pub record Reads (old new : Buffered) (before after : Input) : Type 0 where
  pub bytes : List ℕ
  pub adds : Adds old new before after bytes
  pub few : length bytes ≤ most_read
  pub ended : IsTrue new.ended → (bytes ≡ []) × IsTrue after.ended × IsAtEnd after.left
  pub going : new.ended ≡ false → (0 < length bytes) × (after.ended ≡ false)

-- What a source tells of an input and a sink of its outputs, and what reads and writes do to it (this project's own),
-- by the words of std for known bytes.
use Rattle.std.specs.Prelude.{◌≡◌, ◌≢◌, ℕ, ◌+◌, ◌-◌, ◌^◌, ◌≤◌, ◌<◌, min, max, Bool, false, List, [], take, length, Option, Result, Ok, Err, IsTrue, ◌↔◌}
use Rattle.std.specs.Io.KnownBytes.{Appends, Consumes, IsAtEnd, Keeps}
use Rattle.mc_io.specs.Causes.{Rose}

-- a meaning by number is the same but at one number
abbrev pub SameBut : {A : Type 0} → ℕ → (ℕ → A) → (ℕ → A) → Type 0
SameBut k old new = (i : ℕ) → i ≢ k → new i ≡ old i

-- ---- a source

-- what a source tells of an input: what is left of it, where the source tells it; how often reads of it have failed; how
-- many bytes of it have been taken; and whether the last read gave its end
pub record Input : Type 0 where
  pub left : Option (List ℕ)
  pub faults : ℕ
  pub taken : ℕ
  pub ended : Bool

-- an input that hasn't been read yet
abbrev pub unread : Option (List ℕ) → Input
unread left = record { left = left; faults = 0; taken = 0; ended = false }

-- a count of 128 bits that stands still at its end
abbrev pub counted : ℕ → ℕ → ℕ
counted taken n = max taken (min (taken + n) (2 ^ 128 - 1))

-- these bytes were taken: they are a front of what was left, and they are counted; the count of faults never falls
pub record Takes (before after : Input) (bytes : List ℕ) : Type 0 where
  pub front : Consumes before.left after.left bytes
  pub count : after.taken ≡ counted before.taken (length bytes)
  pub later : before.faults ≤ after.faults

-- a read gave n bytes, which stand at the front of its buffer; none are the end, and nothing else is
pub record Gave (before after : Input) (n : ℕ) (buffer : List ℕ) : Type 0 where
  pub within : n ≤ length buffer
  pub takes : Takes before after (take n buffer)
  pub ended : IsTrue after.ended ↔ (n ≡ 0)
  pub at_end : n ≡ 0 → IsAtEnd after.left

-- a read failed and took nothing, and the count of faults tells it
pub record GaveNone (before after : Input) : Type 0 where
  pub takes : Takes before after []
  pub rose : Rose before.faults after.faults
  pub not_ended : after.ended ≡ false

-- what a read does to its input
abbrev pub Reads : {E : Type 0} → Input → Input → Result ℕ E → List ℕ → Type 0
Reads before after (Ok n) buffer = Gave before after n buffer
Reads before after (Err failed) buffer = GaveNone before after

-- ---- a sink

-- what a sink tells: what an output holds, where the sink tells it, and how often writes have failed
pub record Outputs : Type 0 where
  pub held : ℕ → Option (List ℕ)
  pub faults : ℕ

-- an output got these bytes, and the others stay as they were; the count of faults never falls
pub record Gets (output : ℕ) (before after : Outputs) (bytes : List ℕ) : Type 0 where
  pub grown : Appends (before.held output) (after.held output) bytes
  pub others : SameBut output before.held after.held
  pub later : before.faults ≤ after.faults

-- a write took n bytes from the front of a piece, and some
pub record Took (output : ℕ) (before after : Outputs) (n : ℕ) (piece : List ℕ) : Type 0 where
  pub some : 0 < n
  pub within : n ≤ length piece
  pub gets : Gets output before after (take n piece)

-- a write failed and took nothing, and the count of faults tells it
pub record TookNone (output : ℕ) (before after : Outputs) : Type 0 where
  pub kept : Keeps (before.held output) (after.held output)
  pub others : SameBut output before.held after.held
  pub later : before.faults ≤ after.faults
  pub rose : Rose before.faults after.faults

-- what a write does to the outputs
abbrev pub Writes : {E : Type 0} → ℕ → Outputs → Outputs → Result ℕ E → List ℕ → Type 0
Writes output before after (Ok n) piece = Took output before after n piece
Writes output before after (Err failed) piece = TookNone output before after

-- known bytes grow by a front of these, and not by all
abbrev pub AppendsPart : Option (List ℕ) → Option (List ℕ) → List ℕ → Type 0
AppendsPart old new piece = (n : ℕ) × (n < length piece) × Appends old new (take n piece)

-- an output got a front of a piece, and not all of it, since a write failed
pub record GetsPart (output : ℕ) (before after : Outputs) (piece : List ℕ) : Type 0 where
  pub part : AppendsPart (before.held output) (after.held output) piece
  pub others : SameBut output before.held after.held
  pub later : before.faults ≤ after.faults
  pub rose : Rose before.faults after.faults

-- How the line at the front of an input is found in a buffer (this project's own).
use Rattle.std.specs.Prelude.{◌≡◌, ◌⊎◌, ℕ, ◌+◌, ◌^◌, ◌<◌, ◌≤◌, Bool, true, false, IsTrue, if◌then◌else◌, List, [], ◌∷◌, ◌++◌, length, take, drop, Option, Some, None}
use Rattle.std.specs.Io.KnownBytes.{IsAtEnd}
use Rattle.mc_io.specs.declared.line_finding.FoundLine.{FoundLine}
use Rattle.mc_io.specs.declared.line_finding.Front.{Front}
use Rattle.mc_io.specs.declared.line_finding.Front.TheVariants.{Piece, Rest, Long}
use Rattle.mc_io.specs.declared.read_stop.ReadStop.{ReadStop}
use Rattle.mc_io.specs.declared.read_stop.ReadStop.TheVariants.{ReadFault, InputLimit, NoMemory}
use Rattle.mc_io.specs.Buffered.{Buffered, most_read}
use Rattle.mc_io.specs.Causes.{Rose}
use Rattle.mc_io.specs.Lines.{line_feed, has_feed, most_bytes, line_of}
use Rattle.mc_io.specs.Outside.{Input, Takes}

-- the most bytes that a reader of lines keeps: a line, and one read
abbrev pub most_room : ℕ
most_room = 1114112

-- n bytes stand before the first line feed
pub record IsFirstFeed (bytes : List ℕ) (n : ℕ) : Type 0 where
  pub within : n < length bytes
  pub clear : has_feed (take n bytes) ≡ false
  pub split : bytes ≡ take n bytes ++ line_feed ∷ drop (n + 1) bytes

-- Any number of reads took these bytes and counted them. The end is met where the last of them met it; behind it
-- nothing is read.
pub record Fills (old new : Buffered) (before after : Input) (bytes : List ℕ) : Type 0 where
  pub takes : Takes before after bytes
  pub input : new.input ≡ old.input
  pub taken : new.taken ≡ old.taken + length bytes
  pub met : IsTrue new.ended → IsTrue old.ended ⊎ (IsTrue after.ended × IsAtEnd after.left)
  pub stays : IsTrue old.ended → IsTrue new.ended × (bytes ≡ []) × (after ≡ before)

-- what stands at the front of what is held, after reads
pub record FrontIs (old new : Buffered) (before after : Input) (Holds : List ℕ → Type 0) : Type 0 where
  pub bytes : List ℕ
  pub fills : Fills old new before after bytes
  pub held : new.held ≡ old.held ++ bytes
  pub holds : Holds new.held

-- few bytes stand behind the first line feed
pub record IsPiece (n : ℕ) (held : List ℕ) : Type 0 where
  pub feed : IsFirstFeed held n
  pub beyond : length held ≤ n + 1 + most_read

pub record IsLong (held : List ℕ) : Type 0 where
  pub clear : has_feed held ≡ false
  pub long : most_bytes < length held

abbrev pub FindsFront : Front → Buffered → Buffered → Input → Input → Type 0
FindsFront (Piece n) old new before after = FrontIs old new before after (IsPiece n)
FindsFront Rest old new before after = FrontIs old new before after (λ held. has_feed held ≡ false) × IsTrue new.ended
FindsFront Long old new before after = FrontIs old new before after IsLong × (new.ended ≡ false)

-- the piece at the front of bytes, and what stands behind it: a line feed ends it, or else the end of the input
abbrev pub IsFrontPiece : List ℕ → List ℕ → List ℕ → Bool → Type 0
IsFrontPiece piece bytes rest ended = (bytes ≡ piece ++ line_feed ∷ rest) ⊎ ((bytes ≡ piece) × (rest ≡ []) × (0 < length piece) × IsTrue ended)

-- a text of so many bytes at the front of others; none where a line is long
abbrev pub text_in : Option ℕ → List ℕ → Option (List ℕ)
text_in None held = None
text_in (Some n) held = Some (take n held)

abbrev pub text_len : Option ℕ → ℕ
text_len None = 0
text_len (Some n) = n

-- a line that is longer than the limit: one of carriage returns alone is empty
abbrev pub over_long : Bool → ℕ → FoundLine
over_long returns whole = record { text = if returns then Some 0 else None; whole = whole }

-- a line was found
pub record Finds (line : FoundLine) (old new : Buffered) (before after : Input) : Type 0 where
  pub bytes : List ℕ
  pub fills : Fills old new before after bytes
  pub piece : List ℕ
  pub clear : has_feed piece ≡ false
  pub front : IsFrontPiece piece (old.held ++ bytes) (drop line.whole new.held) new.ended
  pub is : line_of piece ≡ text_in line.text new.held
  pub within : line.whole ≤ length new.held
  pub text_within : text_len line.text ≤ line.whole
  pub beyond : length new.held ≤ line.whole + most_read

-- nothing is left
pub record FindsNone (old new : Buffered) (before after : Input) : Type 0 where
  pub fills : Fills old new before after []
  pub none : old.held ≡ []
  pub none_new : new.held ≡ []
  pub ended : IsTrue new.ended

abbrev pub FindsLine : Option FoundLine → Buffered → Buffered → Input → Input → Type 0
FindsLine None old new before after = FindsNone old new before after
FindsLine (Some line) old new before after = Finds line old new before after

-- Reading stopped within a line: `last` was taken by the last read, and no line ends in what was held and what was read
-- before it, which is within the limit.
pub record Stopped (limit : ℕ) (old new : Buffered) (before after : Input) (last : List ℕ) : Type 0 where
  pub front : List ℕ
  pub fills : Fills old new before after (front ++ last)
  pub few : length last ≤ most_read
  pub going : old.ended ≡ false
  pub clear : has_feed (old.held ++ front) ≡ false
  pub small : old.taken + length front < 2 ^ 64
  pub within : old.taken ≤ limit → old.taken + length front ≤ limit
  pub held : length new.held ≤ length old.held + length (front ++ last)

-- a read failed, the limit was passed, or memory ran out
abbrev pub Stops : ℕ → ReadStop → Buffered → Buffered → Input → Input → Type 0
Stops limit ReadFault old new before after = Stopped limit old new before after [] × Rose before.faults after.faults × (after.ended ≡ false)
Stops limit InputLimit old new before after = (last : List ℕ) × Stopped limit old new before after last × (limit < new.taken) × (after.ended ≡ false)
Stops limit NoMemory old new before after = Stopped limit old new before after []

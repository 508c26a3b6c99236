-- What a source in memory that never fails tells.
use Rattle.std.specs.Prelude.{ℕ}
use Rattle.mc_io.specs.declared.safe_source.SafeSource.{SafeSource}
use Rattle.mc_io.specs.Outside.{Input}
use Rattle.mc_io.specs.InputsTaken.{told_of, piece_of, given_of}

-- what is told of an input, of which no read fails
abbrev pub inputs_of : {LIMIT : ℕ} → SafeSource LIMIT → ℕ → Input
inputs_of s i = told_of s.inputs 0 i

-- how many bytes a read gives at most
abbrev pub greatest_piece : {LIMIT : ℕ} → SafeSource LIMIT → ℕ
greatest_piece s = piece_of s.inputs

-- how many bytes a read gives, where there is room for so many
abbrev pub given : {LIMIT : ℕ} → SafeSource LIMIT → ℕ → ℕ → ℕ
given s i room = given_of s.inputs i room

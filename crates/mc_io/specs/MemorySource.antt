-- What a source in memory tells.
use Rattle.std.specs.Prelude.{ℕ, List, get_or}
use Rattle.mc_io.specs.declared.memory_source.MemorySource.{MemorySource}
use Rattle.mc_io.specs.Outside.{Input}
use Rattle.mc_io.specs.InputsTaken.{told_of, piece_of, given_of}

-- what is told of an input
abbrev pub inputs_of : {LIMIT : ℕ} → MemorySource LIMIT → ℕ → Input
inputs_of s i = told_of s.inputs (get_or s.faults i 0) i

-- how many bytes a read gives at most
abbrev pub greatest_piece : {LIMIT : ℕ} → MemorySource LIMIT → ℕ
greatest_piece s = piece_of s.inputs

-- how many bytes a read that doesn't fail gives, where there is room for so many
abbrev pub given : {LIMIT : ℕ} → MemorySource LIMIT → ℕ → ℕ → ℕ
given s i room = given_of s.inputs i room

-- the numbers of the calls that fail
abbrev pub failing_calls : {LIMIT : ℕ} → MemorySource LIMIT → List ℕ
failing_calls s = s.failing.numbers.items

-- how many calls were made
abbrev pub calls_made : {LIMIT : ℕ} → MemorySource LIMIT → ℕ
calls_made s = s.failing.made

-- What is known of the inputs of a process (this project's own).
use Rattle.std.specs.Io.KnownBytes.{ReadConsumes}
use Rattle.std.specs.Prelude.{ℕ, false, List, Option, None, Some, Result, ⊤, get_or, slice_get}
use Rattle.mc_io.specs.Outside.{Input}
use Rattle.molconv.specs.declared.reads.ReadCounts.{ReadCounts}

-- what is known of the reads of an input
abbrev pub reads_at : List ReadCounts → ℕ → ReadCounts
reads_at inputs i = get_or inputs i record { taken = 0; ended = false; faults = 0 }

-- what is told of an input: nobody tells what is left of it
abbrev pub input_of : List ReadCounts → ℕ → Input
input_of inputs i = record { left = None; faults = (reads_at inputs i).faults; taken = (reads_at inputs i).taken; ended = (reads_at inputs i).ended }

-- what a file has left, which nobody knows before it is opened
abbrev pub left_in : {F : Type 0} → (F → Option (List ℕ)) → Option F → Option (List ℕ)
left_in left None = None
left_in left (Some file) = left file

-- a read of a file, where there is one
abbrev pub ReadsIt : {F E : Type 0} → (F → Option (List ℕ)) → Option F → Option F → Result ℕ E → List ℕ → Type 0
ReadsIt left None None result into = ⊤
ReadsIt left None (Some after) result into = ⊥
ReadsIt left (Some before) None result into = ⊥
ReadsIt left (Some before) (Some after) result into = ReadConsumes (left before) (left after) result into

-- a read of an input reads its file
abbrev pub ReadsFile : {F E : Type 0} → (F → Option (List ℕ)) → List F → List F → ℕ → Result ℕ E → List ℕ → Type 0
ReadsFile left old new input result into = ReadsIt left (slice_get old input) (slice_get new input) result into

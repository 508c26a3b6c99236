-- What is known of the outputs of a process (this project's own).
use Rattle.std.specs.Prelude.{ℕ, None}
use Rattle.mc_io.specs.Outside.{Outputs}

-- what is told of the outputs, of which so many writes have failed: nobody tells what they hold
abbrev pub outputs_of : ℕ → Outputs
outputs_of faults = record { held = λ _. None; faults = faults }

-- The numbers of the statuses (this project's own).
use Rattle.std.specs.Prelude.{ℕ, Bool, true, false}
use Rattle.mc_io.specs.declared.read_stop.ReadStop.{ReadStop}
use Rattle.mc_io.specs.declared.read_stop.ReadStop.TheVariants.{ReadFault as ReadFailed, InputLimit as LimitReached, NoMemory as MemoryOut}
use Rattle.mc_convert.specs.declared.status.Halt.{Halt}
use Rattle.mc_convert.specs.declared.status.Halt.TheVariants.{ReadFault as ReadHalt, InputLimit as LimitHalt, WriteFault as WriteHalt, NoMemory as MemoryHalt}
use Rattle.mc_convert.specs.declared.status.Status.{Status}
use Rattle.mc_convert.specs.declared.status.Status.TheVariants.{Done, SomeRefused, Usage, ReadFault, WriteFault, Memory, InputLimit}

abbrev pub status_number : Status → ℕ
status_number Done = 0
status_number SomeRefused = 1
status_number Usage = 2
status_number ReadFault = 3
status_number WriteFault = 4
status_number Memory = 5
status_number InputLimit = 6

-- a stopped read stops the run
abbrev pub halt_of : ReadStop → Halt
halt_of ReadFailed = ReadHalt
halt_of LimitReached = LimitHalt
halt_of MemoryOut = MemoryHalt

-- how a run ended that was stopped
abbrev pub status_of : Halt → Status
status_of ReadHalt = ReadFault
status_of LimitHalt = InputLimit
status_of WriteHalt = WriteFault
status_of MemoryHalt = Memory

-- how a check ended whose text is written
abbrev pub ended_status : Bool → Status
ended_status true = Done
ended_status false = SomeRefused

-- What the program tells at the end of a run: its exit status, and its line.
use Rattle.std.specs.Prelude.{ℕ, List, [], ◌++◌, codes, Result, Ok, Err}
use Rattle.fed_stream.specs.declared.stream.Ended.{Ended}
use Rattle.fed_stream.specs.declared.stream.Ended.TheVariants as ends
use Rattle.fed_stream.specs.declared.stream.StreamFault.{StreamFault}
use Rattle.fed_stream.specs.declared.stream.StreamFault.TheVariants as streams
use Rattle.fed_setup.specs.Told.{Came, fault_text}
use Rattle.fed_setup.specs.declared.told.RunFault.TheVariants as faults

-- how a stream that ended so is told: the end of the input is no fault
abbrev pub told_of : Result Ended StreamFault → Came
told_of (Ok ends.Eof) = Ok tt
told_of (Ok ends.Closed) = Err faults.ProtocolViolation
told_of (Err streams.Read) = Err faults.Read
told_of (Err streams.Write) = Err faults.Write
told_of (Err streams.TooLong) = Err faults.TooManyReads
told_of (Err streams.NoRoom) = Err faults.NoMemory

-- the exit status of a run, and the line on standard error: none where the input ended
abbrev pub run_status : Came → ℕ
run_status (Ok _) = 0
run_status (Err fault) = 1

abbrev pub run_line : Came → List ℕ
run_line (Ok _) = []
run_line (Err fault) = codes "fedq: " ++ fault_text fault ++ codes "\n"

-- What the beginning of a program is told as, and the texts of all faults of a run.
use Rattle.std.specs.Prelude.{ℕ, List, ◌++◌, codes, decimal, Result, Ok, Err}
use Rattle.std.specs.Borrow.{Bor}
use Rattle.med_value.specs.Causes.{code_of, name_of}
use Rattle.med_session.specs.declared.adding.AddFault.{AddFault}
use Rattle.med_session.specs.declared.adding.AddFault.TheVariants as adding
use Rattle.fed_setup.specs.declared.script.ScriptFault.{ScriptFault}
use Rattle.fed_setup.specs.declared.script.ScriptFault.TheVariants as scripts
use Rattle.fed_setup.specs.declared.told.RunFault.{RunFault}
use Rattle.fed_setup.specs.declared.told.RunFault.TheVariants as faults

-- what a run came to
abbrev pub Came : Type 0
Came = Result (Unit {0}) RunFault

-- how it is told that the source of this name was not added
abbrev pub added_of : Bor (List ℕ) → AddFault → RunFault
added_of name adding.NoMemory = faults.NoMemory
added_of name adding.Taken = faults.NameTaken name
added_of name adding.TooMany = faults.TooManySources name

-- how it is told that the set-up of the source of this name came to this
abbrev pub setup_told : Bor (List ℕ) → Result ℕ ScriptFault → Came
setup_told name (Ok count) = Ok tt
setup_told name (Err scripts.NoMemory) = Err faults.NoMemory
setup_told name (Err why) = Err (faults.CannotOpen name)

-- how it is told that the replay of the init file's script came to this
abbrev pub replay_told : Result ℕ ScriptFault → Came
replay_told (Ok count) = Ok tt
replay_told (Err scripts.NoMemory) = Err faults.NoMemory
replay_told (Err scripts.NotText) = Err faults.InitNotText
replay_told (Err (scripts.Line number cause)) = Err (faults.InitLine number cause)

-- the text of a fault
abbrev pub fault_text : RunFault → List ℕ
fault_text faults.NoMemory = codes "out of memory"
fault_text faults.Read = codes "read fault"
fault_text faults.Write = codes "write fault"
fault_text faults.TooManyReads = codes "too many reads"
fault_text faults.ProtocolViolation = codes "protocol violation"
fault_text (faults.NameTaken name) = codes "source " ++ name.now ++ codes ": name taken"
fault_text (faults.TooManySources name) = codes "source " ++ name.now ++ codes ": too many sources"
fault_text (faults.CannotOpen name) = codes "source " ++ name.now ++ codes ": cannot open"
fault_text (faults.CannotReadInit path) = codes "cannot read init " ++ path.now
fault_text faults.InitNotText = codes "init is not UTF-8"
fault_text (faults.InitLine number cause) =
    codes "init line " ++ decimal number ++ codes ": " ++ code_of cause ++ codes " " ++ name_of cause

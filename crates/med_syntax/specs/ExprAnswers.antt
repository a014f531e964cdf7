-- What a function that reads terminals returns.
use Rattle.std.specs.Prelude.{◌≡◌, Result, Ok, Err}
use Rattle.med_syntax.specs.declared.refusal.ReadFault.{ReadFault}
use Rattle.med_syntax.specs.declared.refusal.ReadFault.TheVariants as faults
use Rattle.med_syntax.specs.declared.refusal.Refusal.{Refusal}
use Rattle.med_syntax.specs.declared.refusal.Refusal.TheVariants.{Syntax, TooHigh}
use Rattle.med_value.specs.declared.cause.Cause.{Cause}
use Rattle.med_value.specs.declared.cause.Cause.TheVariants as causes

-- What was returned, seen by view, is what reading gives, unless memory ran out.
abbrev pub ReadsAs : {X Y : Type 0} → (X → Y) → Result X ReadFault → Result Y Refusal → Type 0
ReadsAs view (Ok x) read = read ≡ Ok (view x)
ReadsAs view (Err faults.NoMemory) read = Unit {0}
ReadsAs view (Err (faults.Refused e)) read = read ≡ Err e

abbrev pub cause_of_read : ReadFault → Cause
cause_of_read faults.NoMemory = causes.OutOfMemory
cause_of_read (faults.Refused Syntax) = causes.Syntax
cause_of_read (faults.Refused TooHigh) = causes.TooDeep

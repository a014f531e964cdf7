-- What a call that failed tells.
use Rattle.std.proofs.Common.{Result, Ok, Err, IfErr, OnOk}
use Rattle.med_value.specs.declared.cause.Cause.{Cause}
use Rattle.fdw_api.specs.declared.interface.Fault.{Fault}
use Rattle.fdw_api.specs.declared.interface.Fault.TheVariants.{NoMemory, Source, Refused}
use Rattle.fdw_api.specs.Calls.{not_refused}
use Rattle.sqlite_tables.specs.Refusing.{OnlyBy}

-- a fault that is no cause is refused by none
pub by_none : (by : Cause → Type 0) (f : Fault) → not_refused f → OnlyBy by f
by_none by NoMemory h = tt
by_none by Source h = tt
by_none by (Refused c) h = absurd h

pub only_more : (by more : Cause → Type 0) (f : Fault) → ((c : Cause) → by c → more c) → OnlyBy by f → OnlyBy more f
only_more by more NoMemory up h = tt
only_more by more Source up h = tt
only_more by more (Refused c) up h = up c h

pub both_only : (one two more : Cause → Type 0) (f : Fault) → ((c : Cause) → one c → two c → more c) → OnlyBy one f → OnlyBy two f
    → OnlyBy more f
both_only one two more NoMemory up h k = tt
both_only one two more Source up h k = tt
both_only one two more (Refused c) up h k = up c h k

-- what a refused call tells, and what a call that was not refused does
pub refused_more : {T : Type 0} (r : Result T Fault) (by more : Cause → Type 0) → ((c : Cause) → by c → more c) → IfErr r (OnlyBy by)
    → IfErr r (OnlyBy more)
refused_more (Ok x) by more up h = tt
refused_more (Err f) by more up h = only_more by more f up h

pub done_more : {T : Type 0} (r : Result T Fault) (P Q : Type 0) → (P → Q) → OnOk r P → OnOk r Q
done_more (Ok x) P Q up h = up h
done_more (Err f) P Q up h = tt

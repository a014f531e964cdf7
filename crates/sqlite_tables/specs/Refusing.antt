-- By which causes a call may refuse.
use Rattle.med_value.specs.declared.cause.Cause.{Cause}
use Rattle.fdw_api.specs.declared.interface.Fault.{Fault}
use Rattle.fdw_api.specs.declared.interface.Fault.TheVariants.{NoMemory, Source, Refused}

-- the fault is no cause of refusal, or one of these
abbrev pub OnlyBy : (Cause → Type 0) → Fault → Type 0
OnlyBy by NoMemory = Unit {0}
OnlyBy by Source = Unit {0}
OnlyBy by (Refused c) = by c

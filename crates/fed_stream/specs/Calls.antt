-- Which calls a stream makes of a source and a sink that tell them.
use Rattle.std.specs.Prelude.{◌≡◌, ◌≤◌, ◌⊎◌, ⊤, ℕ, List, [], ◌∷◌, ◌++◌, length, Result, Ok, Err}
use Rattle.fed_stream.specs.Inlets.{Inlet, counted}
use Rattle.fed_stream.specs.Outlets.{Outlet, Does}
use Rattle.fed_stream.specs.declared.source.Arrival.{Arrival}
use Rattle.fed_stream.specs.declared.source.Arrival.TheVariants.{Byte, Interruption, Fault}
use Rattle.fed_stream.specs.declared.stream.Ended.{Ended}
use Rattle.fed_stream.specs.declared.stream.Ended.TheVariants as ended
use Rattle.fed_stream.specs.declared.stream.StreamFault.{StreamFault}
use Rattle.fed_stream.specs.declared.stream.StreamFault.TheVariants as fault

-- no read fails
abbrev pub IsClean : List Arrival → Type 0
IsClean [] = ⊤
IsClean (Byte b ∷ more) = IsClean more
IsClean (Interruption ∷ more) = IsClean more
IsClean (Fault ∷ more) = ⊥

-- What reads met while a stream was served: at its end nothing comes any more; a read fault is told of the one read that failed, the
-- last; and too many reads are all that are allowed. At each other end no read failed.
abbrev pub IsReadTo : ℕ → Result Ended StreamFault → List Arrival → Inlet → ℕ → Type 0
IsReadTo most (Ok ended.Eof) met after reads = IsClean met × (after.comes ≡ [])
IsReadTo most (Ok ended.Closed) met after reads = IsClean met
IsReadTo most (Err fault.Read) met after reads = (others : List Arrival) × IsClean others × (met ≡ others ++ (Fault ∷ []))
IsReadTo most (Err fault.TooLong) met after reads = IsClean met × (reads ≡ most)
IsReadTo most (Err fault.Write) met after reads = IsClean met
IsReadTo most (Err fault.NoRoom) met after reads = IsClean met

-- The reads of a stream that ended so, of which so many are allowed: what they met comes no more, and there were no more.
pub record ReadsWithin (limit : ℕ) (old new : Inlet) (result : Result Ended StreamFault) : Type 0 where
  pub met : List Arrival
  pub reads : ℕ
  pub gone : old.comes ≡ met ++ new.comes
  pub count : new.reads ≡ counted old.reads reads
  pub most : reads ≤ limit
  pub ends : IsReadTo limit result met new reads

-- the same of a stream of which as many are allowed as a number of 32 bits counts
abbrev pub ReadsStream : Inlet → Inlet → Result Ended StreamFault → Type 0
ReadsStream old new result = ReadsWithin 4294967295 old new result

-- All that was written was flushed, where all was before.
abbrev pub KeepsFlushed : Outlet → Outlet → Type 0
KeepsFlushed old new = old.flushed ≡ length old.bytes → new.flushed ≡ length new.bytes

-- Which calls of a sink failed, and how many were interrupted: a write fault is told where one call failed, the last, or where at least
-- 4,294,967,295 were interrupted. Else none failed, and all is flushed.
abbrev pub IsWrittenTo : {T : Type 0} → Result T StreamFault → Outlet → Outlet → ℕ → ℕ → Type 0
IsWrittenTo (Ok x) old new interruptions faults = (faults ≡ 0) × KeepsFlushed old new
IsWrittenTo (Err fault.Read) old new interruptions faults = (faults ≡ 0) × KeepsFlushed old new
IsWrittenTo (Err fault.TooLong) old new interruptions faults = (faults ≡ 0) × KeepsFlushed old new
IsWrittenTo (Err fault.NoRoom) old new interruptions faults = (faults ≡ 0) × KeepsFlushed old new
IsWrittenTo (Err fault.Write) old new interruptions faults = (faults ≡ 1) ⊎ ((faults ≡ 0) × (4294967295 ≤ interruptions))

-- The calls of a sink, to which this text was written.
pub record WritesStream {T : Type 0} (old new : Outlet) (result : Result T StreamFault) : Type 0 where
  pub text : List ℕ
  pub interruptions : ℕ
  pub faults : ℕ
  pub does : Does old new text interruptions faults
  pub ends : IsWrittenTo result old new interruptions faults

-- What reads of a source meet.
use Rattle.std.specs.Prelude.{◌≡◌, ◌<◌, ◌+◌, ◌^◌, ◌-◌, ℕ, zero, suc, min, List, [], ◌∷◌, ◌++◌, length, take, map, Result, Ok, Err, IfOk}
use Rattle.fed_stream.specs.declared.source.Arrival.{Arrival}
use Rattle.fed_stream.specs.declared.source.Arrival.TheVariants.{Byte, Interruption, Fault}
use Rattle.fed_stream.specs.declared.source.CallFault.{CallFault}
use Rattle.fed_stream.specs.declared.source.CallFault.TheVariants as call
use Rattle.fed_stream.specs.declared.source.GivenUp.{GivenUp}
use Rattle.fed_stream.specs.declared.source.GivenUp.TheVariants as given_up

-- the bytes among what comes
abbrev pub bytes_of : List Arrival → List ℕ
bytes_of [] = []
bytes_of (Byte b ∷ more) = b ∷ bytes_of more
bytes_of (Interruption ∷ more) = bytes_of more
bytes_of (Fault ∷ more) = bytes_of more

-- a count, so many times one more, where it stays at 2^64 - 1
abbrev pub counted : ℕ → ℕ → ℕ
counted n zero = n
counted n (suc times) = min (counted n times + 1) (2 ^ 64 - 1)

-- A source: what its reads meet from here on, one after another, and how often it was read, up to 2^64 - 1.
pub record Inlet : Type 0 where
  pub comes : List Arrival
  pub reads : ℕ

-- what a read met that told this
abbrev pub met_by : Result ℕ CallFault → List ℕ → List Arrival
met_by (Ok n) piece = map Byte (take n piece)
met_by (Err call.Interrupted) piece = Interruption ∷ []
met_by (Err call.Failed) piece = Fault ∷ []

-- One read: what it met comes no more. Into a piece with room it gives no byte only where nothing comes.
pub record Reads (old new : Inlet) (result : Result ℕ CallFault) (piece : List ℕ) : Type 0 where
  pub met : old.comes ≡ met_by result piece ++ new.comes
  pub count : new.reads ≡ counted old.reads 1
  pub at_end : IfOk result (λ n. n ≡ 0 → 0 < length piece → new.comes ≡ [])

-- so many interruptions, and then this
abbrev pub interrupted : ℕ → List Arrival → List Arrival
interrupted zero more = more
interrupted (suc times) more = Interruption ∷ interrupted times more

-- what the last of some reads met, where they told this together and it was not interrupted; and how many reads there were, of which so
-- many were interrupted
abbrev pub met_at_last : Result ℕ GivenUp → List ℕ → List Arrival
met_at_last (Ok n) piece = map Byte (take n piece)
met_at_last (Err given_up.Failed) piece = Fault ∷ []
met_at_last (Err given_up.TooMany) piece = []

abbrev pub reads_made : ℕ → Result ℕ GivenUp → ℕ
reads_made times (Ok n) = suc times
reads_made times (Err given_up.Failed) = suc times
reads_made times (Err given_up.TooMany) = times

-- The reads for one piece, of which so many were granted before and so many are granted after: they were interrupted, and then the last
-- of them met bytes, the end or a fault, or none was granted any more.
pub record ReadsPiece (old new : Inlet) (before after : ℕ) (result : Result ℕ GivenUp) (piece : List ℕ) : Type 0 where
  pub times : ℕ
  pub met : old.comes ≡ interrupted times (met_at_last result piece ++ new.comes)
  pub count : new.reads ≡ counted old.reads (reads_made times result)
  pub granted : before ≡ after + reads_made times result
  pub at_end : IfOk result (λ n. n ≡ 0 → new.comes ≡ [])

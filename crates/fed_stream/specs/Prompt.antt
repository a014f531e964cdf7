-- What is answered, written and flushed from one read of a stream to the next.
use Rattle.std.specs.Prelude.{◌≡◌, ⊤, ℕ, suc, Option, Some, None, List, [], ◌∷◌, ◌++◌, map, Result, Ok, Err}
use Rattle.std.specs.Io.KnownBytes.{Consumes, Appends}
use Rattle.session_wire.specs.Run.{Steps, Fed}
use Rattle.fed_stream.specs.Known.{Known}
use Rattle.fed_stream.specs.Inlets.{Inlet, counted, interrupted}
use Rattle.fed_stream.specs.Outlets.{Outlet}
use Rattle.fed_stream.specs.Calls.{KeepsFlushed}
use Rattle.fed_stream.specs.declared.source.Arrival.TheVariants.{Byte}
use Rattle.fed_stream.specs.declared.stream.Ended.{Ended}
use Rattle.fed_stream.specs.declared.stream.Ended.TheVariants as ended
use Rattle.fed_stream.specs.declared.stream.StreamFault.{StreamFault}
use Rattle.fed_stream.specs.declared.stream.StreamFault.TheVariants as fault

-- What is seen of a source and a sink: their bytes, and their calls, each where it is known.
pub record Seen (R W : Type 0) : Type 0 where
  pub remaining : R → Option (List ℕ)
  pub inlet : R → Option Inlet
  pub contents : W → Option (List ℕ)
  pub outlet : W → Option Outlet

abbrev pub seen : {R W : Type 0} → (R → Option (List ℕ)) → (R → Option Inlet) → (W → Option (List ℕ)) → (W → Option Outlet) → Seen R W
seen remaining inlet contents outlet = record { remaining = remaining; inlet = inlet; contents = contents; outlet = outlet }

-- The moment at which a source is read: the handler, the bytes that are held back, the source and the sink.
pub record Moment (H R W : Type 0) : Type 0 where
  pub handler : H
  pub held : List ℕ
  pub reader : R
  pub writer : W

abbrev pub moment : {H R W : Type 0} → H → List ℕ → R → W → Moment H R W
moment handler held reader writer = record { handler = handler; held = held; reader = reader; writer = writer }

-- reads that were interrupted, and then one that gave this piece
pub record GivesPiece (old new : Inlet) (piece : List ℕ) : Type 0 where
  pub times : ℕ
  pub met : old.comes ≡ interrupted times (map Byte piece ++ new.comes)
  pub count : new.reads ≡ counted old.reads (suc times)

-- From one moment to another: one read gave a piece, the lines that it ends were answered, their replies were written, and then all that
-- was written was flushed. These bytes are held back, or the stream is closed.
pub record Answers {H R W : Type 0} (step : Steps H) (ends : H → H → Type 0) (s : Seen R W) (old new : Moment H R W)
    (left : Option (List ℕ)) : Type 0 where
  pub piece : List ℕ
  pub text : List ℕ
  pub read : Consumes (s.remaining old.reader) (s.remaining new.reader) piece
  pub gives : Known (s.inlet old.reader) (s.inlet new.reader) (λ a b. GivesPiece a b piece)
  pub fed : Fed step ends old.handler (old.held ++ piece) text new.handler left
  pub written : Appends (s.contents old.writer) (s.contents new.writer) text
  pub flushed : Known (s.outlet old.writer) (s.outlet new.writer) KeepsFlushed

-- the same, where the stream goes on with the next read
abbrev pub GoesOn : {H R W : Type 0} → Steps H → (H → H → Type 0) → Seen R W → Moment H R W → Moment H R W → Type 0
GoesOn step ends s old new = Answers step ends s old new (Some new.held)

-- each of these follows the one before it, from the first to the last
abbrev pub Follows : {M : Type 0} → (M → M → Type 0) → M → List M → M → Type 0
Follows next first [] last = last ≡ first
Follows next first (m ∷ more) last = next first m × Follows next m more last

-- What was done after the last moment at which the stream went on. At the end of the input, at a read fault and after too many reads
-- nothing was: the last reads gave no byte. A line that closes the stream is answered and flushed as any other. What is known after a write
-- fault, and where room was refused, `Serves` says.
abbrev pub EndsAfter : {H R W : Type 0} → Steps H → (H → H → Type 0) → Seen R W → Moment H R W → Moment H R W → Result Ended StreamFault
    → Type 0
EndsAfter step ends s last new (Ok ended.Eof) = (new.handler ≡ last.handler) × (new.writer ≡ last.writer)
EndsAfter step ends s last new (Ok ended.Closed) = Answers step ends s last new None
EndsAfter step ends s last new (Err fault.Read) = (new.handler ≡ last.handler) × (new.writer ≡ last.writer)
EndsAfter step ends s last new (Err fault.TooLong) = (new.handler ≡ last.handler) × (new.writer ≡ last.writer)
EndsAfter step ends s last new (Err fault.Write) = ⊤
EndsAfter step ends s last new (Err fault.NoRoom) = ⊤

-- A stream has a moment for each read, from the first on: between one and the next the piece of that one read was answered, its replies
-- were written, and all that was written was flushed, where all was flushed at first. Source and sink have no common order of calls: which
-- of a read and a write came first it does not say.
pub record Prompt {H R W : Type 0} (step : Steps H) (ends : H → H → Type 0) (s : Seen R W) (first new : Moment H R W)
    (result : Result Ended StreamFault) : Type 0 where
  pub moments : List (Moment H R W)
  pub last : Moment H R W
  pub each : Follows (GoesOn step ends s) first moments last
  pub at_end : EndsAfter step ends s last new result

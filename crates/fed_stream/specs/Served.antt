-- What was read and written when a stream ends.
use Rattle.std.specs.Prelude.{◌≡◌, ◌≤◌, ℕ, suc, Option, Some, None, IsSome, List, ◌++◌, length, slice_get, Result, Ok, Err}
use Rattle.std.specs.Io.KnownBytes.{Consumes, Appends, IsAtEnd}
use Rattle.session_wire.specs.Run.{Steps, Fed, BrokenOff}
use Rattle.fed_stream.specs.Streams.{Stream, stream, IsUntouched}
use Rattle.fed_stream.specs.declared.stream.Ended.{Ended}
use Rattle.fed_stream.specs.declared.stream.Ended.TheVariants as ended
use Rattle.fed_stream.specs.declared.stream.StreamFault.{StreamFault}
use Rattle.fed_stream.specs.declared.stream.StreamFault.TheVariants as fault

-- These bytes were read of an input, and the text of the run of the bytes held back before with them was written to an output.
pub record Served {W : Type 0} (step : Steps W) (ends : W → W → Type 0) (old : W) (before : List ℕ) (new : W)
    (left : Option (List ℕ)) (input output : Stream) : Type 0 where
  pub bytes : List ℕ
  pub text : List ℕ
  pub read : Consumes input.before input.after bytes
  pub written : Appends output.before output.after text
  pub fed : Fed step ends old (before ++ bytes) text new left

-- at most one line: LF stands at its end alone
abbrev pub IsOneLine : List ℕ → Type 0
IsOneLine bytes = (k : ℕ) → slice_get bytes k ≡ Some 10 → length bytes ≡ suc k

-- These bytes were read and served, and then a last line, or what there was of it: of its reply a front was written, and the run ends with
-- it. What stood behind that line in the last piece read, of at most 8,192 bytes, is dropped.
pub record Ran {W : Type 0} (step : Steps W) (ends : W → W → Type 0) (old : W) (before : List ℕ) (new : W)
    (left : Option (List ℕ)) (input output : Stream) : Type 0 where
  pub between : Option (List ℕ)
  pub shown : Option (List ℕ)
  pub mid : W
  pub after : List ℕ
  pub served : Served step ends old before mid (Some after) (stream input.before between) (stream output.before shown)
  pub last : List ℕ
  pub dropped : List ℕ
  pub read : Consumes between input.after (last ++ dropped)
  pub one : IsOneLine last
  pub in_piece : length dropped ≤ 8192
  pub front : List ℕ
  pub others : List ℕ
  pub written : Appends shown output.after front
  pub fed : Fed step ends mid (after ++ last) (front ++ others) new left

-- These bytes were read and served, and then a last piece, of which some lines were answered. Their text
-- was not written.
pub record Stopped {W : Type 0} (step : Steps W) (ends : W → W → Type 0) (old : W) (before : List ℕ) (new : W)
    (input output : Stream) : Type 0 where
  pub between : Option (List ℕ)
  pub mid : W
  pub after : List ℕ
  pub served : Served step ends old before mid (Some after) (stream input.before between) output
  pub piece : List ℕ
  pub read : Consumes between input.after piece
  pub text : List ℕ
  pub broken : BrokenOff step ends mid (after ++ piece) text new

-- What is known at each end. At the end of the input all bytes were served, and the stream is open; after
-- a closing line it is closed. After a fault of the reader, and after too many reads, the stream is open;
-- after one of the writer the run is known; where room was refused the stream is closed.
abbrev pub Serves : {W : Type 0} → Steps W → (W → W → Type 0) → W → List ℕ → W
    → Option (List ℕ) → Stream → Stream → Result Ended StreamFault → Type 0
Serves step ends old before new left input output (Ok ended.Eof) =
    Served step ends old before new left input output × IsAtEnd input.after × IsSome left
Serves step ends old before new left input output (Ok ended.Closed) =
    Served step ends old before new left input output × (left ≡ None)
Serves step ends old before new left input output (Err fault.Read) =
    Served step ends old before new left input output × IsSome left
Serves step ends old before new left input output (Err fault.TooLong) =
    Served step ends old before new left input output × IsSome left
Serves step ends old before new left input output (Err fault.Write) = Ran step ends old before new left input output
Serves step ends old before new left input output (Err fault.NoRoom) =
    Stopped step ends old before new input output × (left ≡ None)

-- what is known where a part of a piece is not answered, or its answer not written
abbrev pub Fails : {W : Type 0} → Steps W → (W → W → Type 0) → W → List ℕ → W → Option (List ℕ) → Stream → StreamFault → Type 0
Fails step ends old bytes new left output fault.Write =
    (front : List ℕ) × (others : List ℕ) × Appends output.before output.after front × Fed step ends old bytes (front ++ others) new left
Fails step ends old bytes new left output fault.NoRoom =
    (text : List ℕ) × BrokenOff step ends old bytes text new × IsUntouched output × (left ≡ None)
Fails step ends old bytes new left output fault.Read = ⊥
Fails step ends old bytes new left output fault.TooLong = ⊥

-- Connections that are served one after the other.
use Rattle.std.specs.Prelude.{◌≡◌, ◌<◌, ℕ, Bool, true, List, [], ◌∷◌, ◌&&◌, Option, Result, Ok, Err}
use Rattle.med_session.specs.Prelude.{World, Shown, Agrees}
use Rattle.fed_cli.specs.Exits.{TellsRun}
use Rattle.fed_stream.specs.Streams.{Stream, stream}
use Rattle.fed_cli.specs.Told.{told_of}
use Rattle.fed_stream.specs.declared.stream.Ended.{Ended}
use Rattle.fed_stream.specs.declared.stream.StreamFault.{StreamFault}
use Rattle.fed_cli.specs.Kept.{KeepsServed}

-- A connection that was served: its reader and writer as they were taken, and as they were given back, and how it ended.
pub record Turn (R W : Type 0) : Type 0 where
  pub reader : R
  pub writer : W
  pub reader_back : R
  pub writer_back : W
  pub ended : Result Ended StreamFault

-- what was read of it, of readers that have these bytes left
abbrev pub input_of : {R W : Type 0} → (R → Option (List ℕ)) → Turn R W → Stream
input_of remaining t = stream (remaining t.reader) (remaining t.reader_back)

-- what was written to it, of writers that hold these bytes
abbrev pub output_of : {R W : Type 0} → (W → Option (List ℕ)) → Turn R W → Stream
output_of contents t = stream (contents t.writer) (contents t.writer_back)

-- from the first state a connection may be taken, or given back, which leaves the last state
abbrev pub Moves : Type 0 → Type 0 → Type 0 → Type 1
Moves C R W = C → R → W → C → Type 0

-- these connections were taken, in order, and each was given back before the next was taken
abbrev pub AreTaken : {C R W : Type 0} → Moves C R W → Moves C R W → C → List (Turn R W) → C → Type 0
AreTaken accepts closes old [] new = new ≡ old
AreTaken {C} accepts closes old (t ∷ ts) new =
    (mid : C) × (back : C) × accepts old t.reader t.writer mid × closes mid t.reader_back t.writer_back back
    × AreTaken accepts closes back ts new

-- So many connections were wanted, and this many served: all of them, or fewer, and then none could be taken.
abbrev pub Ends : {C F : Type 0} → (C → C → Type 0) → ℕ → ℕ → C → Result (Unit {0}) F → C → Type 0
Ends refuses count served last (Ok done) new = (served ≡ count) × (new ≡ last)
Ends refuses count served last (Err fault) new = (served < count) × refuses last new

-- Connections are served in turn by an engine that shows this before and that after, from one world to another: each from the world that
-- the one before left, which has that one's objects and rows, and no session.
abbrev pub ServesEach : {R W : Type 0} → (R → Option (List ℕ)) → (W → Option (List ℕ)) → Shown → World → List (Turn R W)
    → Shown → World → Type 0
ServesEach remaining contents old w [] new after = (new ≡ old) × (after ≡ w)
ServesEach remaining contents old w (t ∷ ts) new after =
    (mid : Shown) × (between : World) × KeepsServed old mid w between (input_of remaining t) (output_of contents t) t.ended
    × ServesEach remaining contents mid between ts new after

-- How these connections ended was told in order, and nothing else: of each that ended otherwise than with its input its line, or a front of
-- it. All of it where all is told.
abbrev pub TellsEach : {R W : Type 0} → List (Turn R W) → Bool → Option (List ℕ) → Option (List ℕ) → Type 0
TellsEach [] is_told before after = (is_told ≡ true) × (after ≡ before)
TellsEach (t ∷ ts) is_told before after =
    (first : Bool) × (rest : Bool) × (between : Option (List ℕ)) × (is_told ≡ (first && rest))
    × TellsRun (told_of t.ended) first (stream before between) × TellsEach ts rest between after

-- These connections were served by an engine that shows this before and that after, from each world that agrees with it to one that does,
-- and standard error was told of them.
pub record AreServed {R W : Type 0} (remaining : R → Option (List ℕ)) (contents : W → Option (List ℕ)) (old : Shown)
    (turns : List (Turn R W)) (new : Shown) (is_told : Bool) (errors : Stream) : Type 0 where
  pub worlds : (w : World) → Agrees old w → (after : World) × ServesEach remaining contents old w turns new after × Agrees new after
  pub told : TellsEach turns is_told errors.before errors.after

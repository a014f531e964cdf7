-- One more read that is answered.
use Rattle.std.proofs.Common.{◌≡◌, ◌⊎◌, inl, inr, ℕ, Option, Some, None, List, [], ◌∷◌, ◌++◌, take, Result, Ok, Err, refl, sym, subst}
use Rattle.std.specs.Io.KnownBytes.{Consumes, Appends}
use Rattle.session_wire.specs.Run.{Steps, Fed}
use Rattle.fed_stream.specs.Known.{Known}
use Rattle.fed_stream.specs.Inlets.{ReadsPiece}
use Rattle.fed_stream.specs.Calls.{WritesStream}
use Rattle.fed_stream.specs.Prompt.{Seen, Moment, moment, Answers, GoesOn, Follows, EndsAfter, Prompt}
use Rattle.fed_stream.specs.declared.stream.Ended.{Ended}
use Rattle.fed_stream.specs.declared.stream.Ended.TheVariants as ended
use Rattle.fed_stream.specs.declared.stream.StreamFault.{StreamFault}
use Rattle.fed_stream.specs.declared.stream.StreamFault.TheVariants as faults
use Rattle.fed_stream.proofs.Known.{known_map}

follows_more : {M : Type 0} (next : M → M → Type 0) (first : M) (ms : List M) (mid new : M) → Follows next first ms mid → next mid new
    → Follows next first (ms ++ new ∷ []) new
follows_more next first [] mid new e one = (subst (λ m. next m new) e one, refl)
follows_more next first (m ∷ ms) mid new each one = (each.0, follows_more next m ms mid new each.1 one)

-- the moments so far
abbrev pub PromptSoFar : {H R W : Type 0} → Steps H → (H → H → Type 0) → Seen R W → Moment H R W → Moment H R W → Type 0
PromptSoFar {H} {R} {W} step ends s first last = (moments : List (Moment H R W)) × Follows (GoesOn step ends s) first moments last

pub prompt_first : {H R W : Type 0} (step : Steps H) (ends : H → H → Type 0) (s : Seen R W) (first : Moment H R W)
    → PromptSoFar step ends s first first
prompt_first step ends s first = ([], refl)

pub prompt_more : {H R W : Type 0} (step : Steps H) (ends : H → H → Type 0) (s : Seen R W) (first last new : Moment H R W)
    (left : Option (List ℕ))
    → PromptSoFar step ends s first last → Answers step ends s last new left → left ≡ Some new.held → PromptSoFar step ends s first new
prompt_more step ends s first last new left so_far one e = (
  so_far.0 ++ new ∷ [],
  follows_more (GoesOn step ends s) first so_far.0 last new so_far.1 (subst (λ l. Answers step ends s last new l) e one),
)

-- a piece was read and answered
pub answered : {H R W T : Type 0} (step : Steps H) (ends : H → H → Type 0) (s : Seen R W) (old new : Moment H R W) (left : Option (List ℕ))
    (n : ℕ) (buffer : List ℕ) (before after : ℕ) (text : List ℕ) (x : T)
    → Consumes (s.remaining old.reader) (s.remaining new.reader) (take n buffer)
    → Known (s.inlet old.reader) (s.inlet new.reader) (λ a b. ReadsPiece a b before after (Ok n) buffer)
    → Appends (s.contents old.writer) (s.contents new.writer) text
    → Fed step ends old.handler (old.held ++ take n buffer) text new.handler left
    → Known (s.outlet old.writer) (s.outlet new.writer) (λ a b. WritesStream a b (Ok x))
    → Answers step ends s old new left
answered step ends s old new left n buffer before after text x read gives written fed writes = record {
  piece = take n buffer;
  text = text;
  read = read;
  gives = known_map (s.inlet old.reader) (s.inlet new.reader) _ _ (λ a b q. record { times = q.times; met = q.met; count = q.count }) gives;
  fed = fed;
  written = written;
  flushed = known_map (s.outlet old.writer) (s.outlet new.writer) _ _ (λ a b q. q.ends.1) writes;
}

pub prompt_ends : {H R W : Type 0} (step : Steps H) (ends : H → H → Type 0) (s : Seen R W) (first last new : Moment H R W)
    (result : Result Ended StreamFault)
    → PromptSoFar step ends s first last → EndsAfter step ends s last new result → Prompt step ends s first new result
prompt_ends step ends s first last new result so_far at_end = record { moments = so_far.0; last = last; each = so_far.1; at_end = at_end }

-- a line closed the stream
pub prompt_closed : {H R W : Type 0} (step : Steps H) (ends : H → H → Type 0) (s : Seen R W) (first last new : Moment H R W)
    (left : Option (List ℕ))
    → PromptSoFar step ends s first last → Answers step ends s last new left → left ≡ None → Prompt step ends s first new (Ok ended.Closed)
prompt_closed step ends s first last new left so_far one e =
    prompt_ends step ends s first last new (Ok ended.Closed) so_far (subst (λ l. Answers step ends s last new l) e one)

-- a part of a piece was not answered, or its answer not written
pub prompt_fault : {H R W : Type 0} (step : Steps H) (ends : H → H → Type 0) (s : Seen R W) (first last new : Moment H R W)
    (f : StreamFault)
    → PromptSoFar step ends s first last → ((f ≡ faults.Write) ⊎ (f ≡ faults.NoRoom)) → Prompt step ends s first new (Err f)
prompt_fault step ends s first last new f so_far (inl e) =
    subst (λ g. Prompt step ends s first new (Err g)) (sym e) (prompt_ends step ends s first last new (Err faults.Write) so_far tt)
prompt_fault step ends s first last new f so_far (inr e) =
    subst (λ g. Prompt step ends s first new (Err g)) (sym e) (prompt_ends step ends s first last new (Err faults.NoRoom) so_far tt)

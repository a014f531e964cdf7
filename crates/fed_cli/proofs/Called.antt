-- What was written to a sink, and the calls where nothing was done.
use Rattle.std.proofs.Common.{◌≡◌, Bool, ℕ, List, [], Option, None, Result, Ok, Err, is_ok, refl, subst, arith}
use Rattle.session_wire.specs.Run.{Steps}
use Rattle.session_wire.specs.Servers.{handler_of, held_back}
use Rattle.session_wire.specs.declared.server.Server.{Server}
use Rattle.fed_stream.specs.Inlets.{Inlet}
use Rattle.fed_stream.specs.Outlets.{Outlet, FrontWritten}
use Rattle.fed_stream.specs.Known.{Known}
use Rattle.fed_stream.proofs.Known.{known_self}
use Rattle.fed_stream.specs.Calls.{ReadsStream, WritesStream}
use Rattle.fed_stream.specs.Streams.{stream}
use Rattle.fed_stream.specs.Prompt.{Seen, Moment, moment, Answers, EndsAfter, Prompt}
use Rattle.fed_stream.specs.declared.stream.Ended.{Ended}
use Rattle.fed_stream.specs.declared.stream.Ended.TheVariants as ended
use Rattle.fed_stream.specs.declared.stream.StreamFault.{StreamFault}
use Rattle.fed_stream.specs.declared.stream.StreamFault.TheVariants as faults
use Rattle.fed_stream.proofs.Calls.{writes_no_room}
use Rattle.fed_cli.specs.Exits.{TellsText, TellsRun, TellsWords, Written, WritesRun, WritesIf, is_help}
use Rattle.fed_cli.specs.Told.{run_line}
use Rattle.fed_setup.specs.Told.{Came}
use Rattle.fed_words.specs.Told.{words_text}
use Rattle.fed_words.specs.declared.words.WordsFault.{WordsFault}
use Rattle.fed_words.specs.declared.words.WordsFault.TheVariants.{Help, Usage, NoPath, BadName, NoMemory}
use Rattle.std.specs.Prelude.{not}

-- ---- where there is no room for a server

reads_none : (a : Inlet) → ReadsStream a a (Err faults.NoRoom)
reads_none a = record { met = []; reads = 0; gone = refl; count = refl; most = omega arith; ends = tt }

pub nothing_read : (old : Option Inlet) → Known old old (λ a b. ReadsStream a b (Err faults.NoRoom))
nothing_read old = known_self old _ reads_none

pub nothing_called : (old : Option Outlet) → Known old old (λ a b. WritesStream {T = Ended} a b (Err faults.NoRoom))
nothing_called old = known_self old _ writes_no_room

-- ---- a text that was written, or a front of it

pub front_told : (held holds : Option (List ℕ)) (old new : Option Outlet) (result : Written) (told : Bool) (text : List ℕ) → told ≡ is_ok result → FrontWritten held holds old new result text
    → TellsText told (stream held holds) text
front_told held holds old new (Ok x) told text e p = record { front = p.front; others = p.others; parts = p.parts; whole = λ _. p.whole; written = p.written }
front_told held holds old new (Err f) told text e p = record { front = p.front; others = p.others; parts = p.parts; whole = λ yes. absurd cc; written = p.written }

pub run_told : (came : Came) (held holds : Option (List ℕ)) (old new : Option Outlet) (result : Written) (told : Bool) → told ≡ is_ok result → WritesRun came result held holds old new
    → TellsRun came told (stream held holds)
run_told (Ok x) held holds old new result told e w = (cc, w.1)
run_told (Err fault) held holds old new result told e w = front_told held holds old new result told (run_line (Err fault)) e w

pub words_told : (fault : WordsFault) (out outs held holds : Option (List ℕ)) (o os old new : Option Outlet) (result : Written) (told : Bool) → told ≡ is_ok result
    → WritesIf (is_help fault) (words_text fault) result out outs o os → WritesIf (not (is_help fault)) (words_text fault) result held holds old new
    → TellsWords fault told (stream out outs) (stream held holds)
words_told (Help text) out outs held holds o os old new result told e p q = (front_told out outs o os result told (words_text (Help text)) e p, q.0)
words_told (Usage text) out outs held holds o os old new result told e p q = (p.0, front_told held holds old new result told (words_text (Usage text)) e q)
words_told (NoPath value) out outs held holds o os old new result told e p q = (p.0, front_told held holds old new result told (words_text (NoPath value)) e q)
words_told (BadName name) out outs held holds o os old new result told e p q = (p.0, front_told held holds old new result told (words_text (BadName name)) e q)
words_told NoMemory out outs held holds o os old new result told e p q = (p.0, front_told held holds old new result told (words_text NoMemory) e q)

-- an answer to a piece is the same, whatever is said to be held back after it
answers_held : {H R W : Type 0} (step : Steps H) (ends : H → H → Type 0) (s : Seen R W) (last : Moment H R W) (h : H) (held : List ℕ)
    (r : R) (w : W) (left : Option (List ℕ))
    → Answers step ends s last (moment h held r w) left → Answers step ends s last (moment h [] r w) left
answers_held step ends s last h held r w left a =
    record { piece = a.piece; text = a.text; read = a.read; gives = a.gives; fed = a.fed; written = a.written; flushed = a.flushed }

ends_held : {H R W : Type 0} (step : Steps H) (ends : H → H → Type 0) (s : Seen R W) (last : Moment H R W) (h : H) (held : List ℕ)
    (r : R) (w : W) (result : Result Ended StreamFault)
    → EndsAfter step ends s last (moment h held r w) result → EndsAfter step ends s last (moment h [] r w) result
ends_held step ends s last h held r w (Ok ended.Eof) e = e
ends_held step ends s last h held r w (Ok ended.Closed) e = answers_held step ends s last h held r w None e
ends_held step ends s last h held r w (Err faults.Read) e = e
ends_held step ends s last h held r w (Err faults.TooLong) e = e
ends_held step ends s last h held r w (Err faults.Write) e = tt
ends_held step ends s last h held r w (Err faults.NoRoom) e = tt

prompt_held : {H R W : Type 0} (step : Steps H) (ends : H → H → Type 0) (s : Seen R W) (first : Moment H R W) (h : H) (held : List ℕ)
    (r : R) (w : W) (result : Result Ended StreamFault)
    → Prompt step ends s first (moment h held r w) result → Prompt step ends s first (moment h [] r w) result
prompt_held step ends s first h held r w result p =
    record { moments = p.moments; last = p.last; each = p.each; at_end = ends_held step ends s p.last h held r w result p.at_end }

-- what a stream served by an engine did at each read, where the server is a new one over it
pub prompt_server : {H R W : Type 0} (step : Steps H) (ends : H → H → Type 0) (s : Seen R W) (server back : Server H) (engine : H)
    (r r' : R) (w w' : W) (result : Result Ended StreamFault)
    → handler_of server ≡ engine → held_back server ≡ []
    → Prompt step ends s (moment (handler_of server) (held_back server) r w) (moment (handler_of back) (held_back back) r' w') result
    → (last : H) × Prompt step ends s (moment engine [] r w) (moment last [] r' w') result
prompt_server step ends s server back engine r r' w w' result of none p =
    let begun = subst (λ e. Prompt step ends s (moment e [] r w) (moment (handler_of back) (held_back back) r' w') result) of
    (subst (λ b. Prompt step ends s (moment (handler_of server) b r w) (moment (handler_of back) (held_back back) r' w') result) none p) in
    (handler_of back, prompt_held step ends s (moment engine [] r w) (handler_of back) (held_back back) r' w' result begun)

-- there was no room for a server
pub prompt_none : {H R W : Type 0} (step : Steps H) (ends : H → H → Type 0) (s : Seen R W) (engine : H) (r : R) (w : W)
    → (last : H) × Prompt step ends s (moment engine [] r w) (moment last [] r w) (Err faults.NoRoom)
prompt_none step ends s engine r w = (engine, record { moments = []; last = moment engine [] r w; each = refl; at_end = tt })

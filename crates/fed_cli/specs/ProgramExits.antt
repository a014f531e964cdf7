-- What the program has done when it exits.
use Rattle.std.specs.Prelude.{◌≡◌, ◌&&◌, ℕ, Bool, true, List, [], ◌++◌, codes, map, Option, Some, None, option_map, Result, Ok, Err, Vec, String, string_bytes}
use Rattle.std.specs.Global.{Global}
use Rattle.fdw_api.specs.State.{BoxState}
use Rattle.med_exec.specs.Slots.{states}
use Rattle.med_session.specs.Engine.{Shown, EachBox, IsAtRest, ClosesAll}
use Rattle.med_session.specs.declared.adding.Sources.{Sources}
use Rattle.fed_words.specs.Told.{told_status}
use Rattle.fed_words.specs.Words.{Reads}
use Rattle.fed_words.specs.declared.words.AskedRun.{AskedRun}
use Rattle.fed_words.specs.declared.words.Service.TheVariants.{StandardInput, Connections}
use Rattle.fed_words.specs.declared.words.WordsFault.{WordsFault}
use Rattle.fed_cli.specs.Exits.{Runs, TellsText, TellsRun, TellsWords, Written}
use Rattle.fed_setup.specs.Setup.{Outside, BeginsBy, BeginsNot, IsReadOf}
use Rattle.fed_stream.specs.Outlets.{Outlet, FrontWritten}
use Rattle.fed_stream.specs.Streams.{Stream, stream, IsUntouched}
use Rattle.fed_cli.specs.Told.{run_status}
use Rattle.fed_setup.specs.Told.{Came}
use Rattle.fed_setup.specs.declared.told.RunFault.{RunFault}
use Rattle.fed_cli.specs.Listens.{Listens, listen_text}
use Rattle.fed_cli.specs.declared.listening.ListenFault.{ListenFault}
use Rattle.fed_cli.specs.declared.asked.ArgsFault.{ArgsFault}
use Rattle.fed_cli.specs.declared.asked.ArgsFault.TheVariants as args
use Rattle.fed_cli.specs.declared.asked.Exit.{Exit}

-- what it came to that connections were served
abbrev pub Listened : Type 0
Listened = Result (Unit {0}) ListenFault

-- the exit status of a program that served connections, and the line on standard error: none where all were served
abbrev pub listen_status : Listened → ℕ
listen_status (Ok _) = 0
listen_status (Err fault) = 1

abbrev pub listen_line : Listened → List ℕ
listen_line (Ok _) = []
listen_line (Err fault) = codes "fedq: " ++ listen_text fault ++ codes "\n"

-- Standard error gets nothing where all were served, and else that line. A write may fail: then it got a front of it.
abbrev pub TellsListened : Listened → Bool → Stream → Type 0
TellsListened (Ok x) is_told errors = (is_told ≡ true) × IsUntouched errors
TellsListened (Err fault) is_told errors = TellsText is_told errors (listen_line (Err fault))

-- That line was written to a sink, or a front of it and then a call was given up; nothing was done to it where all were served.
abbrev pub WritesListened : Listened → Written → Option (List ℕ) → Option (List ℕ) → Option Outlet → Option Outlet → Type 0
WritesListened (Ok x) result held holds old new = (result ≡ Ok tt) × (holds ≡ held) × (new ≡ old)
WritesListened (Err fault) result held holds old new = FrontWritten held holds old new result (listen_line (Err fault))

-- Connections to a port were served for what is asked, with this script, and it came to this: an engine with which the program begins
-- served them, and once its sessions are closed its boxes are the last ones. Standard error got the lines of connections, and then the last
-- one.
pub record ServesPort {R S : Type 0} (outside : Outside) (remaining : R → Option (List ℕ)) (contents : S → Option (List ℕ)) (asked : AskedRun)
    (script : Option (List ℕ)) (last : List (Option BoxState)) (port count : ℕ) (came : Listened) (is_told : Bool)
    (output errors : Stream) : Type 0 where
  pub engine : Shown
  pub begins : BeginsBy outside asked script engine
  pub after : Shown
  pub between : Option (List ℕ)
  pub listened : Bool
  pub listens : Listens remaining contents engine port count came after listened output (stream errors.before between)
  pub told : Bool
  pub tells : TellsListened came told (stream between errors.after)
  pub all : is_told ≡ (listened && told)
  pub closed : Shown
  pub closes : ClosesAll after closed
  pub boxes : last ≡ closed.boxes

-- the bytes of the init file that an exit hands back
abbrev pub script_of : {W : Type 0} → Exit W → Option (List ℕ)
script_of exit = option_map (λ v. v.items) exit.script

-- so many connections to a port are asked, and the program exits so, with this done to standard output and standard error
pub data ServesAsked {W R S : Type 0} (outside : Outside) (meaning : W → BoxState) (remaining : R → Option (List ℕ))
    (contents : S → Option (List ℕ)) (asked : AskedRun) (port count : ℕ) (exit : Exit W) (output errors : Stream) : Type 0 where
  -- it did not begin, for this: nothing was listened to
  has_not_begun : (fault : RunFault) → BeginsNot outside asked (script_of exit) fault
      → exit.sources ≡ None → IsUntouched output → exit.status ≡ run_status (Err fault) → TellsRun (Err fault) exit.is_told errors
      → ServesAsked outside meaning remaining contents asked port count exit output errors
  -- it did, and the sources are handed back
  has_begun : (sources : Sources W) → exit.sources ≡ Some sources → EachBox IsAtRest (states meaning sources.slots.items)
      → IsReadOf outside asked.init (script_of exit) → (came : Listened)
      → ServesPort outside remaining contents asked (script_of exit) (states meaning sources.slots.items) port count came exit.is_told
      output errors
      → exit.status ≡ listen_status came → ServesAsked outside meaning remaining contents asked port count exit output errors

-- the program exits so on these words, with this done to standard input, standard output and standard error
pub data Exits {W R S : Type 0} (outside : Outside) (meaning : W → BoxState) (remaining : R → Option (List ℕ)) (contents : S → Option (List ℕ))
    (words : List (List ℕ)) (exit : Exit W) (input output errors : Stream) : Type 0 where
  -- the words ask for a run
  has_run : (asked : AskedRun) → Reads words (Ok asked) → asked.service ≡ StandardInput → (came : Came)
      → Runs outside meaning asked came (script_of exit) exit.sources input output → exit.status ≡ run_status came
      → TellsRun came exit.is_told errors → Exits outside meaning remaining contents words exit input output errors
  -- they ask for connections
  has_served : (asked : AskedRun) → Reads words (Ok asked) → (port count : ℕ) → asked.service ≡ Connections port count → IsUntouched input
      → ServesAsked outside meaning remaining contents asked port count exit output errors
      → Exits outside meaning remaining contents words exit input output errors
  -- they do not ask for either
  has_refused : (fault : WordsFault) → Reads words (Err fault) → exit.sources ≡ None → exit.script ≡ None → IsUntouched input
      → TellsWords fault exit.is_told output errors → exit.status ≡ told_status fault exit.is_told
      → Exits outside meaning remaining contents words exit input output errors

-- the exit status where the environment gives no words, and the line on standard error
abbrev pub args_status : ArgsFault → ℕ
args_status args.NotText = 2
args_status args.NoMemory = 1

abbrev pub args_line : ArgsFault → List ℕ
args_line args.NotText = codes "error: invalid UTF-8 was detected in one or more arguments\n"
args_line args.NoMemory = codes "fedq: out of memory\n"

-- The program exits by this status on what its environment gives: so on its words, or, where they cannot be read, with nothing read of
-- standard input, nothing written to standard output, and that line on standard error, or a front of it.
pub data ExitsBy {W R S : Type 0} (outside : Outside) (meaning : W → BoxState)
    (remaining : R → Option (List ℕ)) (contents : S → Option (List ℕ)) (words : Result (Vec (String Global) Global) ArgsFault) (status : ℕ)
    (input output errors : Stream) : Type 0 where
  on_words : (given : Vec (String Global) Global) → words ≡ Ok given → (exit : Exit W)
      → Exits outside meaning remaining contents (map string_bytes given.items) exit input output errors
      → status ≡ exit.status → ExitsBy outside meaning remaining contents words status input output errors
  on_none : (fault : ArgsFault) → words ≡ Err fault → IsUntouched input → IsUntouched output → status ≡ args_status fault
      → (is_told : Bool) → TellsText is_told errors (args_line fault)
      → ExitsBy outside meaning remaining contents words status input output errors

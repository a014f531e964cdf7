-- What a run has done when it ends, and what is told of it.
use Rattle.std.specs.Prelude.{◌≡◌, ℕ, Bool, true, false, List, [], ◌++◌, Option, Some, None, Result, Ok, Err}
use Rattle.std.specs.Io.KnownBytes.{Appends}
use Rattle.fdw_api.specs.State.{BoxState}
use Rattle.med_exec.specs.Slots.{states}
use Rattle.med_session.specs.Engine.{EachBox, IsAtRest}
use Rattle.med_session.specs.declared.adding.Sources.{Sources}
use Rattle.fed_cli.specs.Answered.{ServesProgram}
use Rattle.fed_setup.specs.Setup.{Outside, BeginsNot, IsReadOf, list_asked}
use Rattle.fed_stream.specs.Streams.{Stream, IsUntouched}
use Rattle.fed_cli.specs.Told.{told_of, run_line}
use Rattle.fed_setup.specs.Told.{Came}
use Rattle.fed_stream.specs.Outlets.{Outlet, FrontWritten}
use Rattle.fed_stream.specs.declared.source.GivenUp.{GivenUp}
use Rattle.fed_words.specs.Told.{words_text}
use Rattle.fed_words.specs.Words.{places_asked}
use Rattle.fed_stream.specs.declared.stream.Ended.{Ended}
use Rattle.fed_stream.specs.declared.stream.StreamFault.{StreamFault}
use Rattle.fed_setup.specs.declared.told.RunFault.{RunFault}
use Rattle.fed_words.specs.declared.words.AskedRun.{AskedRun}
use Rattle.fed_words.specs.declared.words.WordsFault.{WordsFault}
use Rattle.fed_words.specs.declared.words.WordsFault.TheVariants.{Help, Usage, NoPath, BadName, NoMemory}

-- A run came to this, and these bytes of its init file were read. Where no sources are handed back it did not begin: nothing was read or
-- written. Else the input was served, and standard output got the replies alone.
abbrev pub Runs : {W : Type 0} → Outside → (W → BoxState) → AskedRun → Came → Option (List ℕ) → Option (Sources W) → Stream → Stream → Type 0
Runs outside meaning asked came script None input output =
    (fault : RunFault) × (came ≡ Err fault) × BeginsNot outside asked script fault × IsUntouched input × IsUntouched output
Runs outside meaning asked came script (Some sources) input output =
    (ended : Result Ended StreamFault) × (came ≡ told_of ended) × IsReadOf outside asked.init script
    × ServesProgram outside asked.owner.now (list_asked asked) (places_asked asked) script (states meaning sources.slots.items) input output
    ended
    × EachBox IsAtRest (states meaning sources.slots.items)

-- A front of this text was written to a stream, and nothing else: all of it where it is told.
pub record TellsText (is_told : Bool) (s : Stream) (text : List ℕ) : Type 0 where
  pub front : List ℕ
  pub others : List ℕ
  pub parts : text ≡ front ++ others
  pub whole : is_told ≡ true → others ≡ []
  pub written : Appends s.before s.after front

-- Standard error gets nothing where the input ended, and else the line of the run. A write may fail: then it got a front of it.
abbrev pub TellsRun : Came → Bool → Stream → Type 0
TellsRun (Ok x) is_told errors = (is_told ≡ true) × IsUntouched errors
TellsRun (Err fault) is_told errors = TellsText is_told errors (run_line (Err fault))

-- Where the words ask no run, standard output gets the help that was asked alone, and else nothing; standard error gets nothing where
-- help was asked, and else what is told of the words. A write may fail: then a front of it was written.
abbrev pub TellsWords : WordsFault → Bool → Stream → Stream → Type 0
TellsWords (Help text) is_told output errors = TellsText is_told output (words_text (Help text)) × IsUntouched errors
TellsWords (Usage text) is_told output errors = IsUntouched output × TellsText is_told errors (words_text (Usage text))
TellsWords (NoPath value) is_told output errors = IsUntouched output × TellsText is_told errors (words_text (NoPath value))
TellsWords (BadName name) is_told output errors = IsUntouched output × TellsText is_told errors (words_text (BadName name))
TellsWords NoMemory is_told output errors = IsUntouched output × TellsText is_told errors (words_text NoMemory)

-- what writes came to
abbrev pub Written : Type 0
Written = Result (Unit {0}) GivenUp

-- The line of a run was written to a sink, or a front of it and then a call was given up; nothing was done to it where the input ended.
abbrev pub WritesRun : Came → Written → Option (List ℕ) → Option (List ℕ) → Option Outlet → Option Outlet → Type 0
WritesRun (Ok x) result held holds old new = (result ≡ Ok tt) × (holds ≡ held) × (new ≡ old)
WritesRun (Err fault) result held holds old new = FrontWritten held holds old new result (run_line (Err fault))

-- This text was written to a sink if it is to be, or a front of it and then a call was given up; else nothing was done to it.
abbrev pub WritesIf : Bool → List ℕ → Written → Option (List ℕ) → Option (List ℕ) → Option Outlet → Option Outlet → Type 0
WritesIf true text result held holds old new = FrontWritten held holds old new result text
WritesIf false text result held holds old new = (holds ≡ held) × (new ≡ old)

-- help was asked
abbrev pub is_help : WordsFault → Bool
is_help (Help text) = true
is_help (Usage text) = false
is_help (NoPath value) = false
is_help (BadName name) = false
is_help NoMemory = false

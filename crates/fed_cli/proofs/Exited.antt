-- A program that exits.
use Rattle.std.proofs.Common.{◌≡◌, ℕ, Bool, List, Option, option_map, Result, Ok, Err, is_ok, Vec, String, string_bytes, map, refl, sym, subst}
use Rattle.std.specs.Global.{Global}
use Rattle.fdw_api.specs.State.{BoxState}
use Rattle.fed_words.specs.declared.words.AskedRun.{AskedRun}
use Rattle.fed_setup.specs.Setup.{Outside, BeginsNot}
use Rattle.fed_cli.specs.Exits.{Written}
use Rattle.fed_cli.proofs.Called.{front_told}
use Rattle.fed_stream.specs.Outlets.{Outlet}
use Rattle.fed_stream.specs.Streams.{Stream, stream}
use Rattle.fed_setup.specs.declared.told.RunFault.{RunFault}
use Rattle.fed_cli.specs.ProgramExits.{Exits, ExitsBy, Listened, TellsListened, WritesListened, listen_line, on_words}
use Rattle.fed_cli.specs.declared.asked.ArgsFault.{ArgsFault}
use Rattle.fed_cli.specs.declared.asked.Exit.{Exit}

-- it exits on these words
pub on_given : {W R S : Type 0} (outside : Outside) (meaning : W → BoxState) (remaining : R → Option (List ℕ)) (contents : S → Option (List ℕ)) (words : Result (Vec (String Global) Global) ArgsFault) (given : Vec (String Global) Global) (texts : List (String Global)) (exit : Exit W) (input output errors : Stream)
    → words ≡ Ok given → texts ≡ given.items → Exits outside meaning remaining contents (map string_bytes texts) exit input output errors → ExitsBy outside meaning remaining contents words exit.status input output errors
on_given outside meaning remaining contents words given texts exit input output errors is same exits =
    on_words given is exit (subst (λ ts. Exits outside meaning remaining contents (map string_bytes ts) exit input output errors) same exits) refl

-- the script is the one that was read
pub by_script : (outside : Outside) (asked : AskedRun) (s r : Option (Vec ℕ Global)) (fault : RunFault) → s ≡ r → BeginsNot outside asked (option_map (λ v. v.items) r) fault
    → BeginsNot outside asked (option_map (λ v. v.items) s) fault
by_script outside asked s r fault e h = subst (λ q. BeginsNot outside asked (option_map (λ v. v.items) q) fault) (sym e) h

-- what connections came to is told
pub listened_told : (came : Listened) (held holds : Option (List ℕ)) (old new : Option Outlet) (result : Written) (told : Bool) → told ≡ is_ok result → WritesListened came result held holds old new
    → TellsListened came told (stream held holds)
listened_told (Ok x) held holds old new result told e w = (cc, w.1)
listened_told (Err fault) held holds old new result told e w = front_told held holds old new result told (listen_line (Err fault)) e w

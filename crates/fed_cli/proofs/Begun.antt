-- A run that does not begin.
use Rattle.std.proofs.Common.{◌≡◌, ℕ, List, Option, None, option_map, Err, Vec, sym, subst}
use Rattle.std.specs.Global.{Global}
use Rattle.fdw_api.specs.State.{BoxState}
use Rattle.med_session.specs.declared.adding.Sources.{Sources}
use Rattle.fed_cli.specs.Exits.{Runs}
use Rattle.fed_setup.specs.Setup.{Outside, BeginsNot}
use Rattle.fed_stream.specs.Streams.{Stream, IsUntouched}
use Rattle.fed_setup.specs.Told.{Came}
use Rattle.fed_setup.specs.declared.told.RunFault.{RunFault}
use Rattle.fed_words.specs.declared.words.AskedRun.{AskedRun}

-- nothing is handed back
pub not_begun : {W : Type 0} (outside : Outside) (meaning : W → BoxState) (asked : AskedRun) (came : Came) (script : Option (List ℕ)) (sources : Option (Sources W)) (input output : Stream) (fault : RunFault)
    → came ≡ Err fault → sources ≡ None → BeginsNot outside asked script fault → IsUntouched input → IsUntouched output → Runs outside meaning asked came script sources input output
not_begun outside meaning asked came script sources input output fault e none why i o = subst (λ s. Runs outside meaning asked came script s input output) (sym none) (fault, e, why, i, o)

-- the same of the same script
pub by_script : (outside : Outside) (asked : AskedRun) (s r : Option (Vec ℕ Global)) (fault : RunFault) → s ≡ r → BeginsNot outside asked (option_map (λ v. v.items) r) fault
    → BeginsNot outside asked (option_map (λ v. v.items) s) fault
by_script outside asked s r fault e h = subst (λ q. BeginsNot outside asked (option_map (λ v. v.items) q) fault) (sym e) h

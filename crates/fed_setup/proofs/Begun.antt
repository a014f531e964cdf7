-- A program that begins, or does not.
use Rattle.std.proofs.Common.{◌≡◌, ℕ, List, Option, Some, None, option_map, Result, Ok, Err, Vec, refl, sym, subst}
use Rattle.std.specs.Global.{Global}
use Rattle.session_wire.specs.Worlds.{Scene}
use Rattle.fed_setup.specs.Replays.{Replays}
use Rattle.fed_setup.specs.Engines.{SceneAnswers, SceneCloses}
use Rattle.fed_setup.specs.declared.script.ScriptFault.{ScriptFault}
use Rattle.fed_setup.specs.declared.script.ScriptFault.TheVariants as scripts
use Rattle.fed_setup.specs.Setup.{Outside, IsFirst, HasNoFirst, ReadsNot, IsReadOf, ReplaysInit, BeginsNot, list_asked}
use Rattle.fed_setup.specs.Told.{Came, replay_told}
use Rattle.fed_words.specs.Words.{places_asked}
use Rattle.fed_setup.specs.declared.told.RunFault.{RunFault}
use Rattle.fed_setup.specs.declared.told.RunFault.TheVariants as faults
use Rattle.fed_words.specs.declared.words.AskedRun.{AskedRun}

-- a script that is there was replayed
pub replays_script : (o : Option (Vec ℕ Global)) (v : Vec ℕ Global) (bytes owner : List ℕ) (result : Result ℕ ScriptFault) (came : Came) (first after : Scene)
    → o ≡ Some v → bytes ≡ v.items → came ≡ replay_told result → Replays SceneAnswers SceneCloses first owner bytes result after
    → ReplaysInit first owner (option_map (λ v. v.items) o) came after
replays_script o v bytes owner result came first after is items told replays =
    subst (λ p. ReplaysInit first owner (option_map (λ v. v.items) p) came after) (sym is)
    (result, told, subst (λ bs. Replays SceneAnswers SceneCloses first owner bs result after) items replays)

-- there is no first world
pub no_first_world : (outside : Outside) (asked : AskedRun) (script : Option (List ℕ)) (fault : RunFault) → HasNoFirst outside asked fault → BeginsNot outside asked script fault
no_first_world outside asked script faults.NoMemory h = tt
no_first_world outside asked script (faults.CannotOpen told) h = h
no_first_world outside asked script (faults.NameTaken told) h = h
no_first_world outside asked script (faults.TooManySources told) h = h
no_first_world outside asked script faults.Read h = h
no_first_world outside asked script faults.Write h = h
no_first_world outside asked script faults.TooManyReads h = h
no_first_world outside asked script faults.ProtocolViolation h = h
no_first_world outside asked script (faults.CannotReadInit told) h = absurd h
no_first_world outside asked script faults.InitNotText h = absurd h
no_first_world outside asked script (faults.InitLine number cause) h = absurd h

-- the init file was not read
pub not_read : (outside : Outside) (asked : AskedRun) (fault : RunFault) (first : Scene) → IsFirst outside asked.owner.now (list_asked asked) (places_asked asked) first → ReadsNot asked.init fault
    → BeginsNot outside asked None fault
not_read outside asked faults.NoMemory first is h = tt
not_read outside asked (faults.CannotReadInit told) first is h = (h, refl, (first, is))
not_read outside asked (faults.CannotOpen told) first is h = absurd h
not_read outside asked (faults.NameTaken told) first is h = absurd h
not_read outside asked (faults.TooManySources told) first is h = absurd h
not_read outside asked faults.Read first is h = absurd h
not_read outside asked faults.Write first is h = absurd h
not_read outside asked faults.TooManyReads first is h = absurd h
not_read outside asked faults.ProtocolViolation first is h = absurd h
not_read outside asked faults.InitNotText first is h = absurd h
not_read outside asked (faults.InitLine number cause) first is h = absurd h

-- its replay was refused
pub not_replayed : (outside : Outside) (asked : AskedRun) (script : Option (List ℕ)) (fault : RunFault) (first after : Scene) → IsReadOf outside asked.init script
    → IsFirst outside asked.owner.now (list_asked asked) (places_asked asked) first → ReplaysInit first asked.owner.now script (Err fault) after → BeginsNot outside asked script fault
not_replayed outside asked None fault first after read is (e, same) = absurd cc
not_replayed outside asked (Some script) fault first after read is (Ok count, e, replays) = absurd cc
not_replayed outside asked (Some script) fault first after read is (Err scripts.NoMemory, e, replays) =
    let same : fault ≡ faults.NoMemory = cc in subst (λ f. BeginsNot outside asked (Some script) f) (sym same) tt
not_replayed outside asked (Some script) fault first after read is (Err scripts.NotText, e, replays) =
    let same : fault ≡ faults.InitNotText = cc in
    subst (λ f. BeginsNot outside asked (Some script) f) (sym same)
    (read, (after, record { first = first; is_first = is; replays = (Err scripts.NotText, refl, replays) }))
not_replayed outside asked (Some script) fault first after read is (Err (scripts.Line number cause), e, replays) =
    let same : fault ≡ faults.InitLine number cause = cc in
    subst (λ f. BeginsNot outside asked (Some script) f) (sym same)
    (read, (after, record { first = first; is_first = is; replays = (Err (scripts.Line number cause), refl, replays) }))

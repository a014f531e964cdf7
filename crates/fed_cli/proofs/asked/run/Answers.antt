use Rattle.std.proofs.Common.{refl, rules}
use Rattle.fed_cli.specs.ProgramExits.{on_none}
use Rattle.fed_cli.specs.declared.asked.ArgsFault.TheVariants.{NotText, NoMemory}
use Rattle.fed_cli.proofs.Called.{front_told}
use Rattle.fed_cli.proofs.Exited.{on_given}
use Rattle.fed_cli.proofs.asked.run.Goals as goal

-- the words are there
pub returns-in-Ok : goal.returns-in-Ok
returns-in-Ok g c = on_given _ _ _ _ _ c.in-Ok.words _ c.run_words.result _ _ _ c.in-Ok.is c.deref.ensures.value c.run_words.ensures

-- one is no text
pub returns-in-Err-NotText : goal.returns-in-Err-NotText
returns-in-Err-NotText g c = on_none NotText (search rules) refl refl refl _ (front_told _ _ _ _ c.write_front.result _ _ refl c.write_front.ensures)

-- memory was refused
pub returns-in-Err-NoMemory : goal.returns-in-Err-NoMemory
returns-in-Err-NoMemory g c = on_none NoMemory (search rules) refl refl refl _ (front_told _ _ _ _ c.write_front-in-Err-NoMemory.result _ _ refl c.write_front-in-Err-NoMemory.ensures)

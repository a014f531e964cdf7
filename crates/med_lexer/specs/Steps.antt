-- What the functions that cut a text answer.
use Rattle.std.specs.Prelude.{◌≡◌, Result, Ok, Err, Option, Some, None}
use Rattle.med_lexer.specs.declared.cut.Step.{Step}
use Rattle.med_lexer.specs.declared.cut.Step.TheVariants as s
use Rattle.med_lexer.specs.declared.error.LexFault.{LexFault}
use Rattle.med_lexer.specs.declared.error.LexFault.TheVariants.{NoMemory, BadToken}
use Rattle.med_lexer.specs.Cutting.{Next, done, blank, token, bad}
use Rattle.med_lexer.specs.View.{shape_of}

abbrev pub next_of : Step → Next
next_of s.Done = done
next_of (s.Blank after) = blank after.now
next_of (s.Cut kind after) = token (shape_of kind) after.now

abbrev pub Steps : Result Step LexFault → Next → Type 0
Steps (Ok x) n = n ≡ next_of x
Steps (Err NoMemory) n = Unit {0}
Steps (Err BadToken) n = n ≡ bad

-- what was returned, seen by f, is this, unless memory ran out
abbrev pub GivesLexed : {X Y : Type 0} → (X → Y) → Result X LexFault → Option Y → Type 0
GivesLexed f (Ok x) o = o ≡ Some (f x)
GivesLexed f (Err NoMemory) o = Unit {0}
GivesLexed f (Err BadToken) o = o ≡ None

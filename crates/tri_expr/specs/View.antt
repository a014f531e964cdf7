-- What a value that is only looked at means, and what a call that answers such a value says.
use Rattle.std.specs.Prelude.{◌≡◌, Result, Ok, Err}
use Rattle.med_value.specs.Datum.{Datum, NoValue, Whole, Chars, Logic}
use Rattle.tri_expr.specs.declared.view.View.{View}
use Rattle.tri_expr.specs.declared.view.View.TheVariants.{Null, Int, Text, Bool}
use Rattle.tri_expr.specs.declared.expr.Fault.{Fault}
use Rattle.tri_expr.specs.Outcome.{Outcome, Is, Fails}

-- the value that is looked at
abbrev pub seen : View → Datum
seen Null = NoValue
seen (Int n) = Whole n
seen (Text t) = Chars t.now
seen (Bool b) = Logic b

-- a call answers the outcome, and nothing in its place
abbrev pub Sees : Result View Fault → Outcome → Type 0
Sees (Ok v) o = o ≡ Is (seen v)
Sees (Err c) o = o ≡ Fails c

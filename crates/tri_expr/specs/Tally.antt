-- What an accumulator holds after a list of values.
use Rattle.std.specs.Prelude.{◌≡◌, ◌==◌, ℕ, ℤ, pos, negsuc, ◌+◌, ◌+ℤ◌, if◌then◌else◌, List, length, filter}
use Rattle.med_value.specs.Prelude.{Datum, NoValue, Whole, is_missing}
use Rattle.tri_expr.specs.Lists.{gather}
use Rattle.tri_expr.specs.declared.expr.SetFunction.{SetFunction}
use Rattle.tri_expr.specs.declared.expr.SetFunction.TheVariants.{Count, Sum, Min, Max}
use Rattle.tri_expr.specs.declared.tally.Tally.{Tally}
use Rattle.tri_expr.specs.Outcome.{Outcome, Is, ranged}
use Rattle.tri_expr.specs.View.{seen}
use Rattle.tri_expr.specs.Aggregate.{is_present, whole_of, total, lesser, greater}

-- a bound on the size of a number, which leaves room in 128 bits for the sum of 2^63 numbers of 64 bits
abbrev pub magnitude : ℤ → ℕ
magnitude (pos n) = n
magnitude (negsuc n) = n + 1

-- what min and max hold after one more value; the others hold none
abbrev pub better_of : SetFunction → Datum → Datum → Datum
better_of Count best v = best
better_of Sum best v = best
better_of Min best v = lesser best v
better_of Max best v = greater best v

-- what they hold after all values
abbrev pub best_of : SetFunction → List Datum → Datum
best_of Count vs = NoValue
best_of Sum vs = NoValue
best_of Min vs = gather lesser NoValue vs
best_of Max vs = gather greater NoValue vs

-- the accumulator after these values: their number, their exact total, the best of them
pub record Tallied (t : Tally) (vs : List Datum) : Type 0 where
  pub count : t.count ≡ length (filter is_present vs)
  pub total : t.total ≡ total vs
  pub best : seen t.best ≡ best_of t.function vs

-- the aggregate that an accumulator ends in
abbrev pub finished : SetFunction → ℕ → ℤ → Datum → Outcome
finished Count count total best = Is (Whole (pos count))
finished Sum count total best = if count == 0 then Is NoValue else ranged total
finished Min count total best = Is best
finished Max count total best = Is best

-- new is old with one more value
pub record IsAdded (old new : Tally) (v : Datum) : Type 0 where
  pub function : new.function ≡ old.function
  pub count : new.count ≡ old.count + (if is_missing v then 0 else 1)
  pub total : new.total ≡ old.total +ℤ whole_of v
  pub best : seen new.best ≡ better_of old.function (seen old.best) v

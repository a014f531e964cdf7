-- Aggregates over the values of an argument, one value for each row; NULL is skipped
-- (SQL standard, 10.9 <aggregate function>).
use Rattle.std.specs.Prelude.{ℕ, ℤ, pos, ◌+ℤ◌, Bool, not, ◌==◌, if◌then◌else◌, List, length, filter}
use Rattle.std.specs.Ordering.{is_lt}
use Rattle.med_value.specs.Prelude.{Datum, NoValue, Whole, datum_cmp, is_missing}
use Rattle.tri_expr.specs.Lists.{gather}
use Rattle.tri_expr.specs.declared.expr.SetFunction.{SetFunction}
use Rattle.tri_expr.specs.declared.expr.SetFunction.TheVariants.{Count, Sum, Min, Max}
use Rattle.tri_expr.specs.Outcome.{Outcome, Is, ranged}

-- not NULL
abbrev pub is_present : Datum → Bool
is_present v = not (is_missing v)

-- how many values there are
abbrev pub number : List Datum → ℕ
number vs = length (filter is_present vs)

-- the exact total, whatever its size
abbrev pub whole_of : Datum → ℤ
whole_of (Whole n) = n
whole_of v = pos 0

abbrev pub total : List Datum → ℤ
total = gather (λ v t. whole_of v +ℤ t) (pos 0)

-- the lesser and the greater of two values, where NULL counts as none
abbrev pub skipping : (Datum → Datum → Datum) → Datum → Datum → Datum
skipping better v w = if is_missing v then w else (if is_missing w then v else better v w)

abbrev pub lesser : Datum → Datum → Datum
lesser = skipping (λ v w. if is_lt (datum_cmp w v) then w else v)

abbrev pub greater : Datum → Datum → Datum
greater = skipping (λ v w. if is_lt (datum_cmp v w) then w else v)

-- count(x) is the number of values; sum is their exact total, out of range exactly where that total is; sum, min and
-- max over no value are NULL
abbrev pub aggregated : SetFunction → List Datum → Outcome
aggregated Count vs = Is (Whole (pos (number vs)))
aggregated Sum vs = if number vs == 0 then Is NoValue else ranged (total vs)
aggregated Min vs = Is (gather lesser NoValue vs)
aggregated Max vs = Is (gather greater NoValue vs)

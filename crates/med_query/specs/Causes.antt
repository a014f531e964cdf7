-- Which causes of the phase of the run a query shows over tables.
use Rattle.std.specs.Prelude.{◌≡◌, ◌<◌, ◌⊎◌, IsSome, Contains, length}
use Rattle.std.specs.List.{Any}
use Rattle.med_value.specs.declared.cause.Cause.{Cause}
use Rattle.med_value.specs.declared.cause.Cause.TheVariants.{OutOfRange, DivisionByZero, TooLarge}
use Rattle.med_value.specs.Limits.{group_limit}
use Rattle.tri_expr.specs.declared.expr.Fault.{Fault as Wrong}
use Rattle.tri_expr.specs.declared.expr.Fault.TheVariants.{Range, Zero}
use Rattle.med_query.specs.Query.{Core, Query, Tables, faults, kept}

-- 22003 and 22012
abbrev pub wrong_cause : Wrong → Cause
wrong_cause Range = OutOfRange
wrong_cause Zero = DivisionByZero

-- A core groups over more than 2^62 kept rows.
abbrev pub IsTooLarge : Core → Tables → Type 0
IsTooLarge k db = IsSome k.group × (group_limit < length (kept k db))

-- The causes of the phase of the run that a query shows over tables: its faults, and 54000 where a core of it groups over too many rows.
abbrev pub IsShownCause : Query → Tables → Cause → Type 0
IsShownCause q db c =
    ((f : Wrong) × Contains (faults q db) f × (c ≡ wrong_cause f)) ⊎ (Any (λ k. IsTooLarge k db) q.cores × (c ≡ TooLarge))

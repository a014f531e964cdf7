-- What an expression gives, and the rules of faults, NULL and truth values (SQL standard, 6.32 <numeric value expression>,
-- 6.42 <boolean value expression>, 8.2 <comparison predicate>).
use Rattle.std.specs.Prelude.{◌≡◌, ℕ, ℤ, pos, negsuc, ◌+ℤ◌, ◌-ℤ◌, ◌*ℤ◌, neg_ℤ, int_div, int_rem, ◌^◌, nat_lt, Bool, true, false, not, ◌==◌, if◌then◌else◌, List, [], ◌∷◌, map, Option, Some, None, Result, Ok, Err}
use Rattle.std.specs.List.{list_any, list_all}
use Rattle.med_value.specs.declared.value.Value.{Value}
use Rattle.med_value.specs.Prelude.{Datum, NoValue, Whole, Chars, Logic, datum, is_text, datum_cmp, holds}
use Rattle.med_value.specs.declared.order.Comparison.{Comparison}
use Rattle.med_value.specs.declared.operators.Operation.{Operation}
use Rattle.med_value.specs.declared.operators.Operation.TheVariants.{Add, Subtract, Multiply, Divide, Remainder}
use Rattle.med_value.specs.declared.operators.Status.{Status}
use Rattle.med_value.specs.declared.operators.Status.TheVariants.{Null, True, False, Unknown}
use Rattle.tri_expr.specs.declared.expr.Fault.{Fault}
use Rattle.tri_expr.specs.declared.expr.Fault.TheVariants.{Range, Zero}
use Rattle.tri_expr.specs.declared.expr.EvalFault.{EvalFault}
use Rattle.tri_expr.specs.declared.expr.EvalFault.TheVariants.{OutOfRange, ZeroDivisor, NoMemory}

-- a value, NULL among them, or a fault: a number out of the type's range, or a divisor of zero
pub data Outcome : Type 0 where
  Is : Datum → Outcome
  Fails : Fault → Outcome

-- true or false; unknown is NULL
abbrev pub truth : Bool → Outcome
truth b = Is (Logic b)

-- a fault of an operand is the fault of the whole, also beside NULL; of two faults the left one is told
abbrev pub strict : (Datum → Outcome) → Outcome → Outcome
strict f (Is v) = f v
strict f (Fails c) = Fails c

-- the same of two operands
abbrev pub strict_two : (Datum → Datum → Outcome) → Outcome → Outcome → Outcome
strict_two f (Is v) (Is w) = f v w
strict_two f (Is v) (Fails c) = Fails c
strict_two f (Fails c) o = Fails c

-- a comparison with NULL is unknown
abbrev pub compared_values : Comparison → Datum → Datum → Outcome
compared_values op NoValue w = Is NoValue
compared_values op (Whole m) NoValue = Is NoValue
compared_values op (Chars s) NoValue = Is NoValue
compared_values op (Logic p) NoValue = Is NoValue
compared_values op v w = truth (holds op (datum_cmp v w))

-- a comparison of two operands
abbrev pub compared : Comparison → Outcome → Outcome → Outcome
compared op = strict_two (compared_values op)

-- a whole number from -2^63 to 2^63-1, or the fault
abbrev pub size_of : ℤ → ℕ
size_of (pos n) = n
size_of (negsuc n) = n

-- the number, where it is in range
abbrev pub ranged : ℤ → Outcome
ranged z = if nat_lt (size_of z) (2 ^ 63) then Is (Whole z) else Fails Range

-- a divisor of zero
abbrev pub is_zero : ℤ → Bool
is_zero (pos n) = n == 0
is_zero (negsuc n) = false

-- exact arithmetic on whole numbers: division truncates towards zero, the remainder has the dividend's sign
abbrev pub computed_numbers : Operation → ℤ → ℤ → Outcome
computed_numbers Add m n = ranged (m +ℤ n)
computed_numbers Subtract m n = ranged (m -ℤ n)
computed_numbers Multiply m n = ranged (m *ℤ n)
computed_numbers Divide m n = if is_zero n then Fails Zero else ranged (int_div m n)
computed_numbers Remainder m n = if is_zero n then Fails Zero else Is (Whole (int_rem m n))

-- an operand NULL gives NULL, also beside a zero divisor
abbrev pub computed_values : Operation → Datum → Datum → Outcome
computed_values op (Whole m) (Whole n) = computed_numbers op m n
computed_values op v w = Is NoValue

-- arithmetic on two operands
abbrev pub computed : Operation → Outcome → Outcome → Outcome
computed op = strict_two (computed_values op)

-- unary minus
abbrev pub negated_value : Datum → Outcome
negated_value (Whole n) = ranged (neg_ℤ n)
negated_value v = Is NoValue

abbrev pub negated : Outcome → Outcome
negated = strict negated_value

-- NOT of unknown is unknown
abbrev pub opposite_value : Datum → Outcome
opposite_value (Logic b) = truth (not b)
opposite_value v = Is NoValue

abbrev pub opposite : Outcome → Outcome
opposite = strict opposite_value

-- the outcome itself, or under NOT its opposite
abbrev pub turned : Bool → Outcome → Outcome
turned negative = strict (λ v. if negative then opposite_value v else Is v)

-- a truth value, and this one
abbrev pub is_truth : Bool → Outcome → Bool
is_truth true (Is (Logic p)) = p
is_truth false (Is (Logic p)) = not p
is_truth b o = false

-- the fault that stands first, from the left
abbrev pub first_fault : List Outcome → Option Fault
first_fault [] = None
first_fault (Is v ∷ os) = first_fault os
first_fault (Fails c ∷ os) = Some c

-- the fault, if there is one
abbrev pub or_else : Option Fault → Outcome → Outcome
or_else None o = o
or_else (Some c) o = Fails c

-- AND (`by` is false) and OR (`by` is true) of operands: one operand that is `by` decides, whatever faults stand
-- beside it; else the first fault is told; else the answer is the other truth value where all operands are that,
-- and unknown where one is unknown
abbrev pub settled : Bool → List Outcome → Outcome
settled by os =
    if list_any (is_truth by) os then truth by
    else or_else (first_fault os) (if list_all (is_truth (not by)) os then truth (not by) else Is NoValue)

-- IS NULL, TRUE, FALSE and UNKNOWN are never unknown
abbrev pub passes : Status → Datum → Bool
passes Null NoValue = true
passes Unknown NoValue = true
passes True (Logic b) = b
passes False (Logic b) = not b
passes t v = false

-- IS [NOT] of an operand, whose fault stays
abbrev pub tested : Status → Bool → Outcome → Outcome
tested t negative = strict (λ v. truth (if negative then not (passes t v) else passes t v))

-- the outcomes of many over the same rows
abbrev pub over : {X : Type 0} → List (X → Outcome) → X → List Outcome
over fs x = map (λ f. f x) fs

-- the value; a fault counts as NULL here, and is told by itself
abbrev pub value_of : Outcome → Datum
value_of (Is v) = v
value_of (Fails c) = NoValue

-- only a text asks for memory
abbrev pub is_text_value : Outcome → Bool
is_text_value (Is v) = is_text v
is_text_value (Fails c) = false

-- A call answers the outcome. Want of memory may stand in the place of a text, and of nothing else.
abbrev pub Answers : Result Value EvalFault → Outcome → Type 0
Answers (Ok v) o = o ≡ Is (datum v)
Answers (Err OutOfRange) o = o ≡ Fails Range
Answers (Err ZeroDivisor) o = o ≡ Fails Zero
Answers (Err NoMemory) o = is_text_value o ≡ true

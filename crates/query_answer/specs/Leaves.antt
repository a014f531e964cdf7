-- The leaves of an expression over a class of rows, which are all that it looks at in the rows: columns, count(*) and aggregates. An
-- expression over what they give, which are its parameters, means what the expression means over the class.
use Rattle.std.specs.Prelude.{◌≡◌, ℤ, pos, negsuc, ◌==◌, ◌^◌, ◌-◌, nat_lt, if◌then◌else◌, List, [], ◌∷◌, ◌++◌, flat_map, length}
use Rattle.med_value.specs.Datum.{Datum, NoValue, Whole, Tuple}
use Rattle.tri_expr.specs.declared.expr.Expr.{Expr}
use Rattle.tri_expr.specs.Prelude.{over, size_of, value_of, aggregated, number, total, argument, meaning, shared}
use Rattle.med_query.specs.Query.{senses}
use Rattle.query_answer.specs.declared.leaves.Leaf.{Leaf}
use Rattle.query_answer.specs.declared.leaves.Leaf.TheVariants.{Column, Rows, Aggregate, Total}

-- the values of an aggregate's argument, row by row
abbrev pub argument_values : Expr → List Tuple → List Datum
argument_values a c = argument (meaning [] a) c

-- the greatest or the least number of 64 bits, on the side of a number that is none, and by how much that side is passed at least
abbrev pub last_number : ℤ → ℤ
last_number (pos n) = pos (2 ^ 63 - 1)
last_number (negsuc n) = negsuc (2 ^ 63 - 1)

abbrev pub one_beyond : ℤ → ℤ
one_beyond (pos n) = pos 1
one_beyond (negsuc n) = negsuc 0

-- SUM in two numbers, whose own sum is out of range just where the total is
abbrev pub number_within : ℤ → ℤ
number_within z = if nat_lt (size_of z) (2 ^ 63) then z else last_number z

abbrev pub number_beyond : ℤ → ℤ
number_beyond z = if nat_lt (size_of z) (2 ^ 63) then pos 0 else one_beyond z

abbrev pub total_within : List Datum → Datum
total_within vs = if number vs == 0 then NoValue else Whole (number_within (total vs))

-- the value of a leaf over a class
abbrev pub leaf_value : Leaf → List Tuple → Datum
leaf_value (Column at) c = shared at c
leaf_value Rows c = Whole (pos (length c))
leaf_value (Aggregate function a) c = value_of (aggregated function (argument_values a c))
leaf_value (Total a) c = total_within (argument_values a c)

-- what a leaf has beyond its value: of a total by how much it is out of range, of any other leaf nothing
abbrev pub leaf_beyond : Leaf → List Tuple → Datum
leaf_beyond (Total a) c = Whole (number_beyond (total (argument_values a c)))
leaf_beyond l c = NoValue

-- what leaves give, in two places each
abbrev pub leaf_values : List Leaf → List Tuple → Tuple
leaf_values ls c = flat_map (λ l. leaf_value l c ∷ leaf_beyond l c ∷ []) ls

-- An expression over the values of these leaves, and of any further ones, means what this expression means over the class.
abbrev pub Lifts : List Leaf → Expr → Expr → Type 0
Lifts ls e lifted = (more : List Leaf) (c : List Tuple) → meaning (leaf_values (ls ++ more) c) lifted [] ≡ meaning [] e c

-- the same of each of several expressions
abbrev pub AllLift : List Leaf → List Expr → List Expr → Type 0
AllLift ls es lifted = (more : List Leaf) (c : List Tuple)
    → over (senses (leaf_values (ls ++ more) c) lifted) [] ≡ over (senses [] es) c

-- there are further leaves behind those that there were
abbrev pub AreMore : List Leaf → List Leaf → Type 0
AreMore old new = (more : List Leaf) × (new ≡ old ++ more)

-- The type of an expression whose names are places, over rows whose cells are of these types.
use Rattle.std.specs.Prelude.{List, map, Option, Some, None, unwrap_or, slice_get}
use Rattle.med_value.specs.Prelude.{Column, Datum, NoValue, Whole, Chars, Logic}
use Rattle.med_value.specs.declared.value.ColType.{ColType}
use Rattle.med_value.specs.declared.value.ColType.TheVariants.{Int, Text, Bool as Truth}
use Rattle.tri_expr.specs.declared.expr.SetFunction.{SetFunction}
use Rattle.tri_expr.specs.declared.expr.SetFunction.TheVariants.{Count, Sum, Min, Max}
use Rattle.tri_expr.specs.Tree.{Tree, column, parameter, literal, compare, compute, negate, all_of, some_of, opposite, asks, between, within, matches, parenthesised, count_rows, aggregate}

-- of a value; NULL has none, and takes the type that its place asks
abbrev pub datum_type : Datum → Option ColType
datum_type NoValue = None
datum_type (Whole n) = Some Int
datum_type (Chars x) = Some Text
datum_type (Logic b) = Some Truth

-- a count and a sum are whole numbers, a least and a greatest value what the argument is; a NULL literal counts as text there
abbrev pub set_type : SetFunction → Option ColType → Option ColType
set_type Count t = Some Int
set_type Sum t = Some Int
set_type Min t = Some (unwrap_or t Text)
set_type Max t = Some (unwrap_or t Text)

-- of an expression; none for a NULL literal, and for a place past the cells
abbrev pub tree_type : List ColType → Tree → Option ColType
tree_type kinds (column at) = slice_get kinds at
tree_type kinds (parameter n) = None
tree_type kinds (literal v) = datum_type v
tree_type kinds (compare op a b) = Some Truth
tree_type kinds (compute op a b) = Some Int
tree_type kinds (negate a) = Some Int
tree_type kinds (all_of ts) = Some Truth
tree_type kinds (some_of ts) = Some Truth
tree_type kinds (opposite a) = Some Truth
tree_type kinds (asks t negative a) = Some Truth
tree_type kinds (between negative x a b) = Some Truth
tree_type kinds (within negative x ts) = Some Truth
tree_type kinds (matches negative x pattern) = Some Truth
tree_type kinds (parenthesised a) = tree_type kinds a
tree_type kinds count_rows = Some Int
tree_type kinds (aggregate function a) = set_type function (tree_type kinds a)

-- the types of the cells of these columns
abbrev pub column_kinds : List Column → List ColType
column_kinds columns = map (λ (c : Column). c.kind) columns

-- The types of queries with UNION ALL. Each line is proved by computing both sides.
use Rattle.std.proofs.Common.{◌≡◌, false, [], ◌∷◌, codes, None, refl}
use Rattle.med_value.specs.declared.value.ColType.TheVariants.{Int, Text}
use Rattle.med_value.specs.declared.cause.Cause.TheVariants.{DatatypeMismatch, ValuesSyntax}
use Rattle.med_syntax.specs.Prelude.{ExprTree, num, null, value, CoreTree, SelectTree}
use Rattle.bind_names.proofs.WorkedQueries.{tables, from, both, shown}
use Rattle.bind_types.specs.Typing.{answer_types, in_place, place_type, select_type_causes}

-- SELECT e
abbrev only : ExprTree → CoreTree
only e = record { distinct = false; items = value e None ∷ []; from = []; condition = None; groups = []; having = None }

-- SELECT NULL UNION ALL SELECT 1 ORDER BY 1 DESC LIMIT 3
abbrev with_null : SelectTree
with_null = both (only null) (only (num 1)) (num 1)

whole_numbers : place_type (in_place (answer_types tables with_null) 0) ≡ Int
whole_numbers = refl

null_fits : select_type_causes tables with_null ≡ []
null_fits = refl

-- SELECT NULL UNION ALL SELECT NULL
text_of_nulls : place_type (in_place (answer_types tables (both (only null) (only null) (num 1))) 0) ≡ Text
text_of_nulls = refl

-- SELECT id FROM parts UNION ALL SELECT name FROM parts
two_types : select_type_causes tables (both (from (shown (codes "id") ∷ []) (codes "parts") None) (from (shown (codes "name") ∷ []) (codes "parts") None) (num 1)) ≡ DatatypeMismatch ∷ []
two_types = refl

-- SELECT id FROM parts UNION ALL SELECT id, name FROM parts
two_widths : select_type_causes tables (both (from (shown (codes "id") ∷ []) (codes "parts") None) (from (shown (codes "id") ∷ shown (codes "name") ∷ []) (codes "parts") None) (num 1)) ≡ ValuesSyntax ∷ []
two_widths = refl

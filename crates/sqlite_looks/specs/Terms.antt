-- Whether a term, a list of terms or a join is the one that is wanted.
use Rattle.std.specs.Prelude.{ℕ, ℤ, Bool, true, false, ◌&&◌, if◌then◌else◌, nat_eq, List, [], ◌∷◌, Option, Some, None}
use Rattle.std.specs.Ordering.{int_eq}
use Rattle.sqlite_sql.specs.Term.{Term, lit, col, op2}
use Rattle.sqlite_sql.specs.Query.{Join, inner, end}
use Rattle.sqlite_value.specs.declared.value.Value.{Value}
use Rattle.sqlite_value.specs.declared.value.Value.TheVariants.{Null, Int}
use Rattle.sqlite_sql.specs.declared.ops.BinaryOp.{BinaryOp}
use Rattle.sqlite_sql.specs.declared.ops.BinaryOp.TheVariants.{Compare}
use Rattle.sqlite_sql.specs.declared.ops.CompareOp.TheVariants.{Eq, Ge, Le}
use Rattle.sqlite_value.specs.declared.keys.Collation.TheVariants.{Binary}
use Rattle.sqlite_value.specs.declared.keys.Collation.{Collation}
use Rattle.sqlite_value.specs.declared.keys.Key.{Key}

-- the term is this column of this slot: slot 0 has the parameters, and slot 1 the row
abbrev pub is_column : ℕ → ℕ → Term → Bool
is_column slot at (col s a) = nat_eq s slot && nat_eq a at
is_column slot at _ = false

abbrev pub is_int : ℤ → Value → Bool
is_int n (Int m) = int_eq m n
is_int n _ = false

abbrev pub is_null : Value → Bool
is_null Null = true
is_null _ = false

-- the term is this number
abbrev pub is_number : ℤ → Term → Bool
is_number n (lit v) = is_int n v
is_number n _ = false

-- the term is NULL
abbrev pub is_nothing : Term → Bool
is_nothing (lit v) = is_null v
is_nothing _ = false

-- the operator by which the term compares the rowid with this parameter
abbrev pub compared : ℕ → Term → Option BinaryOp
compared parameter (op2 op a b) = if is_column 1 0 a && is_column 0 parameter b then Some op else None
compared parameter _ = None

abbrev pub is_at_least : Option BinaryOp → Bool
is_at_least (Some (Compare Ge Binary)) = true
is_at_least _ = false

abbrev pub is_at_most : Option BinaryOp → Bool
is_at_most (Some (Compare Le Binary)) = true
is_at_most _ = false

abbrev pub is_equal : Option BinaryOp → Bool
is_equal (Some (Compare Eq Binary)) = true
is_equal _ = false

-- the terms say that the rowid is at least ?1 and at most ?2
abbrev pub is_page_filter : List Term → Bool
is_page_filter (low ∷ high ∷ []) = is_at_least (compared 0 low) && is_at_most (compared 1 high)
is_page_filter _ = false

-- the one term says that the rowid is ?1
abbrev pub is_delete_filter : List Term → Bool
is_delete_filter (only ∷ []) = is_equal (compared 0 only)
is_delete_filter _ = false

-- the terms are the columns of the row at these places
abbrev pub shows : List ℕ → List Term → Bool
shows [] [] = true
shows [] (t ∷ ts) = false
shows (p ∷ ps) [] = false
shows (p ∷ ps) (t ∷ ts) = is_column 1 p t && shows ps ts

-- the term is this cell of a new row: the value of a parameter, or NULL
abbrev pub is_cell : Option ℕ → Term → Bool
is_cell None t = is_nothing t
is_cell (Some parameter) t = is_column 0 parameter t

abbrev pub are_cells : List (Option ℕ) → List Term → Bool
are_cells [] [] = true
are_cells [] (t ∷ ts) = false
are_cells (c ∷ cs) [] = false
are_cells (c ∷ cs) (t ∷ ts) = is_cell c t && are_cells cs ts

abbrev pub is_binary : Collation → Bool
is_binary Binary = true
is_binary _ = false

abbrev pub is_rising : Bool → Bool
is_rising true = false
is_rising false = true

-- the order is that of the rowid, from the least on
abbrev pub is_by_key : List (Term × Key) → Bool
is_by_key (only ∷ []) = is_column 1 0 only.0 && (is_binary only.1.collation && is_rising only.1.descending)
is_by_key _ = false

abbrev pub is_end : Join → Bool
is_end end = true
is_end _ = false

-- the rows come from this tree alone
abbrev pub is_from : ℕ → Join → Bool
is_from tree (inner t more) = nat_eq t tree && is_end more
is_from tree _ = false

-- Reading the statements that write rows by recursive descent, on lists of terminals, with room for the height of each expression.
use Rattle.std.specs.Prelude.{ℕ, cond, List, [], ◌∷◌, codes, Result, Ok, Err, Option, Some, None}
use Rattle.med_value.specs.declared.order.Comparison.TheVariants.{Equal}
use Rattle.med_syntax.specs.declared.refusal.Refusal.{Refusal}
use Rattle.med_syntax.specs.declared.refusal.Refusal.TheVariants.{Syntax}
use Rattle.med_syntax.specs.Prelude.{choose, bounded, Name, Terminal, ExprTree, values, SetTree, WriteTree, insert, update, delete}
use Rattle.med_syntax.specs.ExprReading.{below}
use Rattle.med_syntax.specs.ExprReading.{◌>>=◌}
use Rattle.med_syntax.specs.Terminal as t
use Rattle.query_reader.specs.QueryReading.{Parser, behind_word, behind_words, read_name, list_of, entry_of, perhaps_of, is_end}

abbrev pub behind_left : List Terminal → Option (List Terminal)
behind_left (t.LeftParen ∷ ts) = Some ts
behind_left ts = None

abbrev pub behind_right : List Terminal → Result (List Terminal) Refusal
behind_right (t.RightParen ∷ ts) = Ok ts
behind_right ts = Err Syntax

-- behind a left parenthesis: x {, x} )
unfoldable pub inside : {X : Type 0} → Parser X → Parser (List X)
inside item ts = list_of item ts >>= λ x. behind_right x.1 >>= λ after. Ok (x.0, after)

-- [( name {, name} )]
unfoldable pub columns_of : Parser (Option (List Name))
columns_of ts = choose (behind_left ts) (Ok (None, ts)) (λ after. inside read_name after >>= λ x. Ok (Some x.0, x.1))

-- behind INSERT INTO
unfoldable pub target_of : Parser (Name × Option (List Name))
target_of ts = read_name ts >>= λ x. columns_of x.1 >>= λ y. Ok ((x.0, y.0), y.1)

-- ( expr {, expr} )
unfoldable pub row_of : ℕ → Parser (List ExprTree)
row_of room ts = choose (behind_left ts) (Err Syntax) (inside (below room).whole)

-- behind INSERT INTO, where VALUES follows
unfoldable pub insert_of : ℕ → Parser WriteTree
insert_of room ts =
    target_of ts >>= λ x. choose (behind_word (codes "values") x.1) (Err Syntax) (λ after.
    list_of (row_of room) after >>= λ y. Ok (insert (record { table = x.0.0; columns = x.0.1; given = values y.0 }), y.1))

-- name =
abbrev pub set_at : Parser Name
set_at (t.Name n ∷ t.Compare Equal ∷ ts) = Ok (n, ts)
set_at ts = Err Syntax

-- name = expr
unfoldable pub set_of : ℕ → Parser SetTree
set_of room ts = set_at ts >>= λ x. (below room).whole x.1 >>= λ y. Ok (record { column = x.0; value = y.0 }, y.1)

-- [WHERE expr]
abbrev pub where_of : ℕ → Parser (Option ExprTree)
where_of room = perhaps_of (codes "where" ∷ []) (below room).whole

-- behind SET
unfoldable pub sets_of : ℕ → Parser (List SetTree × Option ExprTree)
sets_of room ts = list_of (set_of room) ts >>= λ x. where_of room x.1 >>= λ y. Ok ((x.0, y.0), y.1)

-- behind UPDATE
unfoldable pub update_of : ℕ → Parser WriteTree
update_of room ts =
    entry_of ts >>= λ x. choose (behind_word (codes "set") x.1) (Err Syntax) (λ after.
    sets_of room after >>= λ y. Ok (update (record { entry = x.0; sets = y.0.0; condition = y.0.1 }), y.1))

-- behind DELETE FROM
unfoldable pub delete_of : ℕ → Parser WriteTree
delete_of room ts = entry_of ts >>= λ x. where_of room x.1 >>= λ y. Ok (delete (record { entry = x.0; condition = y.0 }), y.1)

-- a statement without a query
unfoldable pub plain_of : ℕ → Parser WriteTree
plain_of room ts =
    choose (behind_words (codes "insert" ∷ codes "into" ∷ []) ts) (choose (behind_words (codes "delete" ∷ codes "from" ∷ []) ts)
    (choose (behind_word (codes "update") ts) (Err Syntax) (update_of room)) (delete_of room)) (insert_of room)

unfoldable pub plain_line : ℕ → List Terminal → Result WriteTree Refusal
plain_line room ts = plain_of room ts >>= λ x. cond (is_end x.1) (Ok x.0) (Err Syntax)

unfoldable pub bounded_plain : List Terminal → Result WriteTree Refusal
bounded_plain ts = bounded plain_line ts

-- behind a target, where SELECT follows
unfoldable pub query_at : Parser (Name × Option (List Name))
query_at ts =
    choose (behind_words (codes "insert" ∷ codes "into" ∷ []) ts) (Err Syntax) (λ after.
    target_of after >>= λ x. choose (behind_word (codes "select") x.1) (Err Syntax) (λ more. Ok x))

-- The reserved words of this profile (SQL:2016, <reserved word>): they are names only where they are quoted.
use Rattle.std.specs.Prelude.{ℕ, Bool, List, [], ◌∷◌, codes}
use Rattle.std.specs.List.{list_any}
use Rattle.std.specs.Str.{bytes_eq}

-- in lower case, as tokens have them
abbrev pub reserved : List (List ℕ)
reserved =
    codes "all" ∷ codes "and" ∷ codes "as" ∷ codes "asc" ∷ codes "between" ∷ codes "by" ∷ codes "case" ∷ codes "create" ∷
    codes "cross" ∷ codes "current_user" ∷ codes "declare" ∷ codes "delete" ∷ codes "desc" ∷ codes "distinct" ∷ codes "drop" ∷
    codes "else" ∷ codes "end" ∷ codes "except" ∷ codes "false" ∷ codes "fetch" ∷ codes "for" ∷ codes "foreign" ∷ codes "from" ∷
    codes "full" ∷ codes "group" ∷ codes "having" ∷ codes "in" ∷ codes "inner" ∷ codes "insert" ∷ codes "intersect" ∷ codes "into" ∷
    codes "is" ∷ codes "join" ∷ codes "left" ∷ codes "like" ∷ codes "limit" ∷ codes "natural" ∷ codes "not" ∷ codes "null" ∷
    codes "offset" ∷ codes "on" ∷ codes "or" ∷ codes "order" ∷ codes "outer" ∷ codes "right" ∷ codes "select" ∷ codes "set" ∷
    codes "then" ∷ codes "true" ∷ codes "union" ∷ codes "update" ∷ codes "user" ∷ codes "using" ∷ codes "values" ∷ codes "when" ∷
    codes "where" ∷ codes "with" ∷ []

unfoldable pub is_reserved : List ℕ → Bool
is_reserved w = list_any (λ r. bytes_eq r w) reserved

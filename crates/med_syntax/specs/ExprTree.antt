-- The grammar of expressions: what each tree is spelled by, and which trees it has (SQL:2016, part 2, 6.28 <value expression>,
-- 8 "Predicates", 10.4 <routine invocation>, 10.9 <aggregate function>).
--     expr  = conj {OR conj}           conj = neg {AND neg}
--     neg   = NOT neg | test           test = comp [IS [NOT] (NULL | TRUE | FALSE | UNKNOWN)]
--     comp  = range [(= | <> | < | <= | > | >=) range]
--     range = sum [[NOT] (BETWEEN sum AND sum | IN ( expr {, expr} ) | LIKE text)]
--     sum   = prod {(+ | -) prod}      prod = unary {(* | / | %) unary}
--     unary = - num | - unary | prim
--     prim  = num | text | TRUE | FALSE | NULL | name [. name] | name ( * ) | name ( [expr {, expr}] ) | ( expr )
-- A minus directly before a number, in the place of a unary, makes a negative literal. A name before a parenthesis is a function.
use Rattle.std.specs.Prelude.{◌≡◌, ℕ, suc, ◌≤◌, Bool, true, false, List, [], ◌∷◌, ◌++◌, max, Option, Some, None}
use Rattle.med_value.specs.declared.operators.Operation.{Operation}
use Rattle.med_value.specs.declared.operators.Operation.TheVariants.{Add, Subtract, Multiply, Divide, Remainder}
use Rattle.med_value.specs.declared.order.Comparison.{Comparison}
use Rattle.med_syntax.specs.declared.expr.Joint.{Joint}
use Rattle.med_syntax.specs.declared.expr.Joint.TheVariants.{Or, And}
use Rattle.med_value.specs.declared.operators.Status.{Status}
use Rattle.med_value.specs.declared.operators.Status.TheVariants as statuses
use Rattle.med_syntax.specs.Tree.{Name}
use Rattle.med_syntax.specs.Terminal.{Terminal}
use Rattle.med_syntax.specs.Terminal as t

-- An expression without where it lies in memory. A new form is a constructor here, and a line each in `spelling`, `level`, `Fits`, `height`
-- and `in_range`. The truth value of a test says whether it is written with NOT.
mutual
  pub data ExprTree : Type 0 where
    num : ℕ → ExprTree
    negative : ℕ → ExprTree
    text : List ℕ → ExprTree
    truth : Bool → ExprTree
    null : ExprTree
    column : Option Name → Name → ExprTree
    call_all : Name → ExprTree
    call : Name → ExprTrees → ExprTree
    paren : ExprTree → ExprTree
    minus : ExprTree → ExprTree
    binary : Operation → ExprTree → ExprTree → ExprTree
    between : Bool → ExprTree → ExprTree → ExprTree → ExprTree
    among : Bool → ExprTree → ExprTree → ExprTrees → ExprTree
    like : Bool → ExprTree → List ℕ → ExprTree
    compare : Comparison → ExprTree → ExprTree → ExprTree
    tested : Bool → ExprTree → Status → ExprTree
    negation : ExprTree → ExprTree
    chain : Joint → ExprTree → ExprTrees → ExprTree

  pub data ExprTrees : Type 0 where
    none : ExprTrees
    more : ExprTree → ExprTrees → ExprTrees

-- ---- what a tree is spelled by

-- [NOT]
abbrev pub perhaps_not : Bool → List Terminal
perhaps_not true = t.Not ∷ []
perhaps_not false = []

abbrev pub status_terminal : Status → Terminal
status_terminal statuses.Null = t.Null
status_terminal statuses.True = t.Truth true
status_terminal statuses.False = t.Truth false
status_terminal statuses.Unknown = t.Unknown

-- name [. name]
abbrev pub column_spelling : Option Name → Name → List Terminal
column_spelling None n = t.Name n ∷ []
column_spelling (Some q) n = t.Name q ∷ t.Dot ∷ t.Name n ∷ []

abbrev mutual
  pub spelling : ExprTree → List Terminal
  spelling (num n) = t.Num n ∷ []
  spelling (negative n) = t.Binary Subtract ∷ t.Num n ∷ []
  spelling (text x) = t.Text x ∷ []
  spelling (truth b) = t.Truth b ∷ []
  spelling null = t.Null ∷ []
  spelling (column q n) = column_spelling q n
  spelling (call_all f) = t.Name f ∷ t.LeftParen ∷ t.Binary Multiply ∷ t.RightParen ∷ []
  spelling (call f parts) = t.Name f ∷ t.LeftParen ∷ parts_spelling parts
  spelling (paren e) = t.LeftParen ∷ (spelling e ++ t.RightParen ∷ [])
  spelling (minus e) = t.Binary Subtract ∷ spelling e
  spelling (binary op a b) = spelling a ++ t.Binary op ∷ spelling b
  spelling (between neg e low high) = spelling e ++ (perhaps_not neg ++ t.Between ∷ (spelling low ++ t.Joined And ∷ spelling high))
  spelling (among neg e first others) =
      spelling e ++ (perhaps_not neg ++ t.In ∷ t.LeftParen ∷ (spelling first ++ (spellings t.Comma others ++ t.RightParen ∷ [])))
  spelling (like neg e x) = spelling e ++ (perhaps_not neg ++ t.Like ∷ t.Text x ∷ [])
  spelling (compare op a b) = spelling a ++ t.Compare op ∷ spelling b
  spelling (tested neg e s) = spelling e ++ (t.Is ∷ (perhaps_not neg ++ status_terminal s ∷ []))
  spelling (negation e) = t.Not ∷ spelling e
  spelling (chain joint first others) = spelling first ++ spellings (t.Joined joint) others

  -- [expr {, expr}] )
  pub parts_spelling : ExprTrees → List Terminal
  parts_spelling none = t.RightParen ∷ []
  parts_spelling (more e es) = spelling e ++ (spellings t.Comma es ++ t.RightParen ∷ [])

  -- each behind a mark
  pub spellings : Terminal → ExprTrees → List Terminal
  spellings mark none = []
  spellings mark (more e es) = mark ∷ (spelling e ++ spellings mark es)

-- ---- how tightly a form binds

abbrev pub binary_level : Operation → ℕ
binary_level Add = 6
binary_level Subtract = 6
binary_level Multiply = 7
binary_level Divide = 7
binary_level Remainder = 7

abbrev pub joint_level : Joint → ℕ
joint_level Or = 0
joint_level And = 1

abbrev pub level : ExprTree → ℕ
level (num n) = 9
level (negative n) = 8
level (text x) = 9
level (truth b) = 9
level null = 9
level (column q n) = 9
level (call_all f) = 9
level (call f parts) = 9
level (paren e) = 9
level (minus e) = 8
level (binary op a b) = binary_level op
level (between neg e low high) = 5
level (among neg e first others) = 5
level (like neg e x) = 5
level (compare op a b) = 4
level (tested neg e s) = 3
level (negation e) = 2
level (chain joint first others) = joint_level joint

-- a minus directly before a number is part of the number
abbrev pub is_num : ExprTree → Bool
is_num (num n) = true
is_num _ = false

abbrev pub IsMany : ExprTrees → Type 0
IsMany none = ⊥
IsMany (more e es) = Unit {0}

-- the trees of the grammar: each operand binds tightly enough
abbrev mutual
  pub Fits : ExprTree → Type 0
  Fits (call f parts) = AllFit 0 parts
  Fits (paren e) = Fits e
  Fits (minus e) = Fits e × (8 ≤ level e) × (is_num e ≡ false)
  Fits (binary op a b) = Fits a × Fits b × (binary_level op ≤ level a) × (suc (binary_level op) ≤ level b)
  Fits (between neg e low high) = Fits e × (6 ≤ level e) × Fits low × (6 ≤ level low) × Fits high × (6 ≤ level high)
  Fits (among neg e first others) = Fits e × (6 ≤ level e) × Fits first × AllFit 0 others
  Fits (like neg e x) = Fits e × (6 ≤ level e)
  Fits (compare op a b) = Fits a × Fits b × (5 ≤ level a) × (5 ≤ level b)
  Fits (tested neg e s) = Fits e × (4 ≤ level e)
  Fits (negation e) = Fits e × (2 ≤ level e)
  Fits (chain joint first others) =
      Fits first × (suc (joint_level joint) ≤ level first) × AllFit (suc (joint_level joint)) others × IsMany others
  Fits _ = Unit {0}

  pub AllFit : ℕ → ExprTrees → Type 0
  AllFit n none = Unit {0}
  AllFit n (more e es) = Fits e × (n ≤ level e) × AllFit n es

-- ---- how high it is

abbrev mutual
  pub height : ExprTree → ℕ
  height (call f parts) = suc (highest parts)
  height (paren e) = suc (height e)
  height (minus e) = suc (height e)
  height (binary op a b) = suc (max (height a) (height b))
  height (between neg e low high) = suc (max (height e) (max (height low) (height high)))
  height (among neg e first others) = suc (max (height e) (max (height first) (highest others)))
  height (like neg e x) = suc (height e)
  height (compare op a b) = suc (max (height a) (height b))
  height (tested neg e s) = suc (height e)
  height (negation e) = suc (height e)
  height (chain joint first others) = suc (max (height first) (highest others))
  height _ = 1

  pub highest : ExprTrees → ℕ
  highest none = 0
  highest (more e es) = max (height e) (highest es)

-- the terminals are an expression with this tree
pub record IsExpr (terminals : List Terminal) (e : ExprTree) : Type 0 where
  pub fits : Fits e
  pub spelled : terminals ≡ spelling e

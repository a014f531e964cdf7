-- Reading expressions by recursive descent, on lists of terminals.
use Rattle.std.specs.Prelude.{ℕ, zero, suc, Bool, true, false, cond, nat_le, List, [], ◌∷◌, length, Result, Ok, Err, Option, Some, None}
use Rattle.med_value.specs.declared.operators.Operation.{Operation}
use Rattle.med_value.specs.declared.operators.Operation.TheVariants.{Add, Subtract, Multiply, Divide, Remainder}
use Rattle.med_syntax.specs.declared.expr.Joint.{Joint}
use Rattle.med_syntax.specs.declared.expr.Joint.TheVariants.{Or, And}
use Rattle.med_value.specs.declared.operators.Status.{Status}
use Rattle.med_value.specs.declared.operators.Status.TheVariants as statuses
use Rattle.med_syntax.specs.declared.refusal.Refusal.{Refusal}
use Rattle.med_syntax.specs.declared.refusal.Refusal.TheVariants.{Syntax, TooHigh}
use Rattle.med_syntax.specs.Tree.{Name}
use Rattle.med_syntax.specs.Terminal.{Terminal}
use Rattle.med_syntax.specs.Terminal as t
use Rattle.med_syntax.specs.ExprTree.{ExprTree, ExprTrees, num, negative, text, truth, null, column, call_all, call, paren, minus, binary, between, among, like, compare, tested, negation, chain, none, more, height}

-- a tree and the terminals after it, or the refusal
abbrev pub Read : Type 0
Read = Result (ExprTree × List Terminal) Refusal

abbrev pub Reads : Type 0
Reads = Result (ExprTrees × List Terminal) Refusal

abbrev pub Parser : Type 0
Parser = List Terminal → Read

infixl 10 ◌>>=◌
abbrev pub ◌>>=◌ : {A B : Type 0} → Result A Refusal → (A → Result B Refusal) → Result B Refusal
(Ok x) >>= f = f x
(Err e) >>= f = Err e

-- a tree of at most this height
abbrev pub within : ℕ → ExprTree → List Terminal → Read
within room e ts = cond (nat_le (height e) room) (Ok (e, ts)) (Err TooHigh)

-- the parsers of the expressions that have room below
pub record Below : Type 0 where
  pub whole : Parser
  pub negated : Parser
  pub signed : Parser

abbrev pub choose : {A B : Type 0} → Option A → B → (A → B) → B
choose None absent present = absent
choose (Some x) absent present = present x

-- ---- terminals

abbrev pub additive : Terminal → Option Operation
additive (t.Binary Add) = Some Add
additive (t.Binary Subtract) = Some Subtract
additive _ = None

abbrev pub multiplicative : Terminal → Option Operation
multiplicative (t.Binary Multiply) = Some Multiply
multiplicative (t.Binary Divide) = Some Divide
multiplicative (t.Binary Remainder) = Some Remainder
multiplicative _ = None

abbrev pub is_comma : Terminal → Bool
is_comma t.Comma = true
is_comma _ = false

abbrev pub is_joint : Joint → Terminal → Bool
is_joint Or (t.Joined Or) = true
is_joint And (t.Joined And) = true
is_joint _ _ = false

abbrev pub status_of : Terminal → Option Status
status_of t.Null = Some statuses.Null
status_of (t.Truth true) = Some statuses.True
status_of (t.Truth false) = Some statuses.False
status_of t.Unknown = Some statuses.Unknown
status_of _ = None

-- ---- loops, each bounded by the terminals that are left

abbrev pub left_more : (Terminal → Option Operation) → Parser → ℕ → ℕ → ExprTree → Parser
left_more op_of item room zero e ts = Ok (e, ts)
left_more op_of item room (suc k) e [] = Ok (e, [])
left_more op_of item room (suc k) e (u ∷ ts) =
    choose (op_of u) (Ok (e, u ∷ ts))
    (λ op. item ts >>= λ x. within room (binary op e x.0) x.1 >>= λ y. left_more op_of item room k y.0 y.1)

unfoldable pub left_of : (Terminal → Option Operation) → Parser → ℕ → Parser
left_of op_of item room ts = item ts >>= λ x. left_more op_of item room (length x.1) x.0 x.1

abbrev pub others_after : (Terminal → Bool) → Parser → ℕ → List Terminal → Reads
others_after is_mark item zero ts = Ok (none, ts)
others_after is_mark item (suc k) [] = Ok (none, [])
others_after is_mark item (suc k) (u ∷ ts) =
    cond (is_mark u) (item ts >>= λ x. others_after is_mark item k x.1 >>= λ y. Ok (more x.0 y.0, y.1)) (Ok (none, u ∷ ts))

abbrev pub chained : Joint → ℕ → ExprTree → ExprTrees → Parser
chained joint room first none ts = Ok (first, ts)
chained joint room first (more e es) ts = within room (chain joint first (more e es)) ts

unfoldable pub chain_of : Joint → Parser → ℕ → Parser
chain_of joint item room ts = do
  x ← item ts
  y ← others_after (is_joint joint) item (length x.1) x.1
  chained joint room x.0 y.0 y.1

-- ---- the levels

abbrev pub closed : ExprTree → Parser
closed e (t.RightParen ∷ ts) = Ok (paren e, ts)
closed e _ = Err Syntax

-- behind the name of a column, or of its table
abbrev pub column_after : Name → Parser
column_after n (t.Dot ∷ t.Name m ∷ ts) = Ok (column (Some n) m, ts)
column_after n (t.Dot ∷ ts) = Err Syntax
column_after n ts = Ok (column None n, ts)

abbrev pub closed_call_all : Name → Parser
closed_call_all f (t.RightParen ∷ ts) = Ok (call_all f, ts)
closed_call_all f _ = Err Syntax

abbrev pub closed_call : Name → ExprTree → ExprTrees → Parser
closed_call f first others (t.RightParen ∷ ts) = Ok (call f (more first others), ts)
closed_call f first others _ = Err Syntax

-- the parts of a call that has some
abbrev pub parts_after : Below → Name → Parser
parts_after b f ts = do
  x ← b.whole ts
  y ← others_after is_comma b.whole (length x.1) x.1
  closed_call f x.0 y.0 y.1

-- behind a name and (
abbrev pub call_after : Below → Name → Parser
call_after b f (t.Binary Multiply ∷ ts) = closed_call_all f ts
call_after b f (t.RightParen ∷ ts) = Ok (call f none, ts)
call_after b f ts = parts_after b f ts

-- behind a name
abbrev pub named_after : Below → Name → Parser
named_after b n (t.LeftParen ∷ ts) = call_after b n ts
named_after b n ts = column_after n ts

abbrev pub primary_of : Below → Parser
primary_of b (t.Num n ∷ ts) = Ok (num n, ts)
primary_of b (t.Text x ∷ ts) = Ok (text x, ts)
primary_of b (t.Truth v ∷ ts) = Ok (truth v, ts)
primary_of b (t.Null ∷ ts) = Ok (null, ts)
primary_of b (t.Name n ∷ ts) = named_after b n ts
primary_of b (t.LeftParen ∷ ts) = b.whole ts >>= λ x. closed x.0 x.1
primary_of b _ = Err Syntax

abbrev pub after_minus : Below → Parser
after_minus b (t.Num n ∷ ts) = Ok (negative n, ts)
after_minus b ts = b.signed ts >>= λ x. Ok (minus x.0, x.1)

abbrev pub signed_of : Below → Parser
signed_of b (t.Binary Subtract ∷ ts) = after_minus b ts
signed_of b ts = primary_of b ts

abbrev pub product_of : Below → ℕ → Parser
product_of b room = left_of multiplicative (signed_of b) room

abbrev pub sum_of : Below → ℕ → Parser
sum_of b room = left_of additive (product_of b room) room

abbrev pub closed_in : ℕ → Bool → ExprTree → ExprTree → ExprTrees → Parser
closed_in room neg e first others (t.RightParen ∷ ts) = within room (among neg e first others) ts
closed_in room neg e first others _ = Err Syntax

-- behind IN (
abbrev pub list_after : Below → ℕ → Bool → ExprTree → Parser
list_after b room neg e ts = do
  x ← b.whole ts
  y ← others_after is_comma b.whole (length x.1) x.1
  closed_in room neg e x.0 y.0 y.1

abbrev pub high_after : Below → ℕ → Bool → ExprTree → ExprTree → Parser
high_after b room neg e low (t.Joined And ∷ ts) = sum_of b room ts >>= λ x. within room (between neg e low x.0) x.1
high_after b room neg e low _ = Err Syntax

-- behind BETWEEN
abbrev pub bounds_after : Below → ℕ → Bool → ExprTree → Parser
bounds_after b room neg e ts = sum_of b room ts >>= λ x. high_after b room neg e x.0 x.1

-- a test behind its operand and perhaps NOT
abbrev pub test_after : Below → ℕ → Bool → ExprTree → Parser
test_after b room neg e (t.Between ∷ ts) = bounds_after b room neg e ts
test_after b room neg e (t.In ∷ t.LeftParen ∷ ts) = list_after b room neg e ts
test_after b room neg e (t.Like ∷ t.Text x ∷ ts) = within room (like neg e x) ts
test_after b room neg e _ = Err Syntax

abbrev pub range_after : Below → ℕ → ExprTree → Parser
range_after b room e (t.Not ∷ ts) = test_after b room true e ts
range_after b room e (t.Between ∷ ts) = test_after b room false e (t.Between ∷ ts)
range_after b room e (t.In ∷ ts) = test_after b room false e (t.In ∷ ts)
range_after b room e (t.Like ∷ ts) = test_after b room false e (t.Like ∷ ts)
range_after b room e ts = Ok (e, ts)

unfoldable pub range_of : Below → ℕ → Parser
range_of b room ts = sum_of b room ts >>= λ x. range_after b room x.0 x.1

abbrev pub compare_after : Below → ℕ → ExprTree → Parser
compare_after b room e (t.Compare op ∷ ts) = range_of b room ts >>= λ x. within room (compare op e x.0) x.1
compare_after b room e ts = Ok (e, ts)

unfoldable pub compare_of : Below → ℕ → Parser
compare_of b room ts = range_of b room ts >>= λ x. compare_after b room x.0 x.1

-- behind IS and perhaps NOT
abbrev pub status_after : ℕ → Bool → ExprTree → Parser
status_after room neg e [] = Err Syntax
status_after room neg e (u ∷ ts) = choose (status_of u) (Err Syntax) (λ s. within room (tested neg e s) ts)

abbrev pub is_after : ℕ → ExprTree → Parser
is_after room e (t.Is ∷ t.Not ∷ ts) = status_after room true e ts
is_after room e (t.Is ∷ ts) = status_after room false e ts
is_after room e ts = Ok (e, ts)

unfoldable pub is_of : Below → ℕ → Parser
is_of b room ts = compare_of b room ts >>= λ x. is_after room x.0 x.1

abbrev pub negated_of : Below → ℕ → Parser
negated_of b room (t.Not ∷ ts) = b.negated ts >>= λ x. Ok (negation x.0, x.1)
negated_of b room ts = is_of b room ts

abbrev pub conjunction_of : Below → ℕ → Parser
conjunction_of b room = chain_of And (negated_of b room) room

abbrev pub whole_of : Below → ℕ → Parser
whole_of b room = chain_of Or (conjunction_of b room) room

unfoldable pub below : ℕ → Below
below zero = record { whole = λ _. Err TooHigh; negated = λ _. Err TooHigh; signed = λ _. Err TooHigh }
below (suc room) = record {
  whole = whole_of (below room) (suc room);
  negated = negated_of (below room) (suc room);
  signed = signed_of (below room);
}

abbrev pub ended : ExprTree → List Terminal → Result ExprTree Refusal
ended e [] = Ok e
ended e _ = Err Syntax

unfoldable pub all_of : ℕ → List Terminal → Result ExprTree Refusal
all_of room ts = (below room).whole ts >>= λ x. ended x.0 x.1

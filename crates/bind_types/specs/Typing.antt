-- Phase 4, types: the type of an expression in a scope, and the causes of refusal that stand for a statement over tables. A list is read
-- as a set. A cause stands at a part by the types of its operands, whether or not an operand is itself refused.
use Rattle.std.specs.Prelude.{ℕ, nat_eq, Bool, true, false, not, ◌||◌, ◌==◌, List, [], ◌∷◌, ◌++◌, length, map, slice_index_or, Option, Some, None, unwrap_or, if◌then◌else◌, Contains, flat_map}
use Rattle.std.specs.List.{list_all, list_any, range_with_len}
use Rattle.med_value.specs.declared.value.ColType.{ColType}
use Rattle.med_value.specs.declared.value.ColType.TheVariants.{Int, Text, Bool as Truth}
use Rattle.med_value.specs.declared.cause.Cause.{Cause}
use Rattle.med_value.specs.declared.cause.Cause.TheVariants.{DatatypeMismatch, UndefinedFunction, Grouping, InvalidEscape, FeatureNotSupported, ValuesSyntax}
use Rattle.med_value.specs.declared.operators.Status.{Status}
use Rattle.med_value.specs.declared.operators.Status.TheVariants as statuses
use Rattle.med_syntax.specs.ExprTree.{ExprTree, ExprTrees, num, negative, text, truth, null, column, call_all, call, paren, minus, binary, between, among, like, compare, tested, negation, chain, none, more}
use Rattle.med_syntax.specs.QueryTree.{ItemTree, all, all_of, value, JoinTree, inner_join, left_join, cross_join, ChainTree, KeyTree, CoreTree, SelectTree, cores_of, StatementTree, select}
use Rattle.tri_expr.specs.declared.expr.SetFunction.{SetFunction}
use Rattle.tri_expr.specs.declared.expr.SetFunction.TheVariants.{Count, Sum, Min, Max}
use Rattle.tri_expr.specs.Prelude.{Tree, is_risky_tree}
use Rattle.med_query.specs.Form.{JoinForm, cross_form, inner_form, left_form, ChainForm, GroupForm, CoreForm, Form}
use Rattle.bind_names.specs.Prelude.{TableShape, Scope, candidates, columns_of, kind_among, entry_shape, from_scope, has_aggregate, is_ungrouped, Output, SortKey, position, output_name, expression, sort_key, function_named, with_join, core_outputs, output_values, meant_in}
use Rattle.bind_types.specs.TreeTypes.{tree_type, column_kinds}

-- count(*) is a whole number; no other function takes *
abbrev pub all_rows_type : Option SetFunction → Option ColType
all_rows_type (Some Count) = Some Int
all_rows_type f = None

-- A count and a sum are whole numbers, a least and a greatest value what their argument is; a NULL literal counts as text there. What is
-- refused has no type.
abbrev pub call_type : Option SetFunction → List (Option ColType) → Option ColType
call_type (Some Count) (t ∷ []) = Some Int
call_type (Some Sum) (t ∷ []) = Some Int
call_type (Some Min) (t ∷ []) = Some (unwrap_or t Text)
call_type (Some Max) (t ∷ []) = Some (unwrap_or t Text)
call_type f ts = None

-- The type of an expression; none for a NULL literal, which takes the type that its place asks.
abbrev mutual
  pub type_of : Scope → ExprTree → Option ColType
  type_of s (num n) = Some Int
  type_of s (negative n) = Some Int
  type_of s (text x) = Some Text
  type_of s (truth b) = Some Truth
  type_of s null = None
  type_of s (column q n) = kind_among s (candidates s q n)
  type_of s (call_all f) = all_rows_type (function_named f)
  type_of s (call f es) = call_type (function_named f) (types_of s es)
  type_of s (paren e) = type_of s e
  type_of s (minus e) = Some Int
  type_of s (binary op a b) = Some Int
  type_of s (between neg e low high) = Some Truth
  type_of s (among neg e first others) = Some Truth
  type_of s (like neg e x) = Some Truth
  type_of s (compare op a b) = Some Truth
  type_of s (tested neg e t) = Some Truth
  type_of s (negation e) = Some Truth
  type_of s (chain joint first others) = Some Truth

  pub types_of : Scope → ExprTrees → List (Option ColType)
  types_of s none = []
  types_of s (more e es) = type_of s e ∷ types_of s es

abbrev pub same_type : ColType → ColType → Bool
same_type Int Int = true
same_type Text Text = true
same_type Truth Truth = true
same_type t u = false

-- an operand of this type can stand where that one is asked
abbrev pub takes : ColType → Option ColType → Bool
takes asked None = true
takes asked (Some t) = same_type asked t

-- there is one type that all operands can have
abbrev pub have_one_type : List (Option ColType) → Bool
have_one_type ts = list_all (takes Int) ts || (list_all (takes Text) ts || list_all (takes Truth) ts)

-- the cause, unless the test holds
abbrev pub unless : Bool → Cause → List Cause
unless holds c = if holds then [] else c ∷ []

-- 42883 for operands that are compared and have two types
abbrev pub comparing : List (Option ColType) → List Cause
comparing ts = unless (have_one_type ts) UndefinedFunction

-- 42883 for what is not a whole number, and for what is not a text
abbrev pub as_number : Option ColType → List Cause
as_number t = unless (takes Int t) UndefinedFunction

abbrev pub as_text : Option ColType → List Cause
as_text t = unless (takes Text t) UndefinedFunction

-- 42883 for a value of a type that has no least and no greatest value
abbrev pub as_ordered : Option ColType → List Cause
as_ordered t = unless (takes Int t || takes Text t) UndefinedFunction

-- 42883 for any call but count(*), count(x), sum of a whole number, and min and max of a whole number or a text
abbrev pub as_call_all : Option SetFunction → List Cause
as_call_all (Some Count) = []
as_call_all f = UndefinedFunction ∷ []

abbrev pub as_call : Option SetFunction → List (Option ColType) → List Cause
as_call (Some Count) (t ∷ []) = []
as_call (Some Sum) (t ∷ []) = as_number t
as_call (Some Min) (t ∷ []) = as_ordered t
as_call (Some Max) (t ∷ []) = as_ordered t
as_call f ts = UndefinedFunction ∷ []

-- 42804 for what is not boolean
abbrev pub as_condition : Option ColType → List Cause
as_condition t = unless (takes Truth t) DatatypeMismatch

-- IS NULL takes any type, IS TRUE, FALSE and UNKNOWN a condition
abbrev pub as_tested : Status → Option ColType → List Cause
as_tested statuses.Null t = []
as_tested statuses.True t = as_condition t
as_tested statuses.False t = as_condition t
as_tested statuses.Unknown t = as_condition t

-- a backslash (92) takes what follows as itself; at the end it is alone
abbrev pub ends_in_escape : List ℕ → Bool
ends_in_escape [] = false
ends_in_escape (c ∷ []) = c == 92
ends_in_escape (c ∷ d ∷ cs) = if c == 92 then ends_in_escape cs else ends_in_escape (d ∷ cs)

-- 22025
abbrev pub as_pattern : List ℕ → List Cause
as_pattern x = if ends_in_escape x then InvalidEscape ∷ [] else []

abbrev mutual
  pub type_causes : Scope → ExprTree → List Cause
  type_causes s (num n) = []
  type_causes s (negative n) = []
  type_causes s (text x) = []
  type_causes s (truth b) = []
  type_causes s null = []
  type_causes s (column q n) = []
  type_causes s (call_all f) = as_call_all (function_named f)
  type_causes s (call f es) = type_causes_of_all s es ++ as_call (function_named f) (types_of s es)
  type_causes s (paren e) = type_causes s e
  type_causes s (minus e) = type_causes s e ++ as_number (type_of s e)
  type_causes s (binary op a b) = (type_causes s a ++ as_number (type_of s a)) ++ (type_causes s b ++ as_number (type_of s b))
  type_causes s (between neg e low high) =
      (type_causes s e ++ (type_causes s low ++ type_causes s high))
      ++ comparing (type_of s e ∷ type_of s low ∷ type_of s high ∷ [])
  type_causes s (among neg e first others) =
      (type_causes s e ++ (type_causes s first ++ type_causes_of_all s others))
      ++ comparing (type_of s e ∷ type_of s first ∷ types_of s others)
  type_causes s (like neg e x) = (type_causes s e ++ as_text (type_of s e)) ++ as_pattern x
  type_causes s (compare op a b) = (type_causes s a ++ type_causes s b) ++ comparing (type_of s a ∷ type_of s b ∷ [])
  type_causes s (tested neg e t) = type_causes s e ++ as_tested t (type_of s e)
  type_causes s (negation e) = type_causes s e ++ as_condition (type_of s e)
  type_causes s (chain joint first others) = (type_causes s first ++ as_condition (type_of s first)) ++ condition_causes s others

  pub type_causes_of_all : Scope → ExprTrees → List Cause
  type_causes_of_all s none = []
  type_causes_of_all s (more e es) = type_causes s e ++ type_causes_of_all s es

  -- of operands of AND or OR
  pub condition_causes : Scope → ExprTrees → List Cause
  condition_causes s none = []
  condition_causes s (more e es) = (type_causes s e ++ as_condition (type_of s e)) ++ condition_causes s es

abbrev pub item_type_causes : Scope → ItemTree → List Cause
item_type_causes s all = []
item_type_causes s (all_of q) = []
item_type_causes s (value e alias) = type_causes s e

-- of WHERE, HAVING and ON
abbrev pub as_where : Scope → ExprTree → List Cause
as_where s e = type_causes s e ++ as_condition (type_of s e)

abbrev pub condition_type_causes : Scope → Option ExprTree → List Cause
condition_type_causes s None = []
condition_type_causes s (Some e) = as_where s e

abbrev pub on_type_causes : Scope → JoinTree → List Cause
on_type_causes s (inner_join e on) = as_where s on
on_type_causes s (left_join e on) = as_where s on
on_type_causes s (cross_join e) = []

abbrev pub joins_type_causes : List TableShape → Scope → List JoinTree → List Cause
joins_type_causes tables before [] = []
joins_type_causes tables before (j ∷ js) = let s = with_join tables before j in on_type_causes s j ++ joins_type_causes tables s js

abbrev pub chain_type_causes : List TableShape → ChainTree → List Cause
chain_type_causes tables c = joins_type_causes tables (entry_shape tables c.first ∷ []) c.joins

-- of a key of ORDER BY that is no output
abbrev pub sort_key_type_causes : Scope → SortKey → List Cause
sort_key_type_causes s (position n) = []
sort_key_type_causes s (output_name n) = []
sort_key_type_causes s (expression e) = type_causes s e

abbrev pub key_type_causes : Scope → List Output → KeyTree → List Cause
key_type_causes s outs k = sort_key_type_causes s (sort_key outs k.key)

-- ---- where aggregates and columns stand

-- 42803 for an aggregate in WHERE or ON
abbrev pub no_aggregate : List Tree → List Cause
no_aggregate conjuncts = unless (not (list_any has_aggregate conjuncts)) Grouping

-- 0A000 for an ON that may fault
abbrev pub no_risk : List Tree → List Cause
no_risk conjuncts = unless (not (list_any is_risky_tree conjuncts)) FeatureNotSupported

abbrev pub join_causes : JoinForm → List Cause
join_causes (cross_form number) = []
join_causes (inner_form number on) = no_aggregate on ++ no_risk on
join_causes (left_form number width on) = no_aggregate on ++ no_risk on

abbrev pub chain_causes : ChainForm → List Cause
chain_causes c = flat_map join_causes c.joins

-- 42803 in a query that groups: a column outside aggregates that is no key, or an aggregate in an aggregate
abbrev pub grouping_causes : Option GroupForm → List Tree → List Cause
grouping_causes None shown = []
grouping_causes (Some g) shown = unless (not (list_any (is_ungrouped g.keys) (g.having ++ shown))) Grouping

abbrev pub core_causes : CoreForm → List Cause
core_causes f = flat_map chain_causes f.from ++ (no_aggregate f.conditions ++ grouping_causes f.group (f.keys ++ f.items))

abbrev pub form_causes : Form → List Cause
form_causes f = flat_map core_causes f.cores

-- of the types of what is written in a core
abbrev pub core_written_causes : List TableShape → CoreTree → List Cause
core_written_causes tables c =
    let s = from_scope tables c.from in
    flat_map (chain_type_causes tables) c.from ++ (flat_map (item_type_causes s) c.items ++ (condition_type_causes s c.condition
    ++ condition_type_causes s c.having))

-- of ORDER BY, which only in a query of one core has a key that is no output
abbrev pub order_type_causes : List TableShape → SelectTree → List Cause
order_type_causes tables q = flat_map (key_type_causes (from_scope tables q.core.from) (core_outputs tables q.core)) q.keys

-- of the types of what is written
abbrev pub written_type_causes : List TableShape → SelectTree → List Cause
written_type_causes tables q = flat_map (core_written_causes tables) (cores_of q) ++ order_type_causes tables q

-- ---- the outputs of the cores that UNION ALL joins

-- the types of the outputs of a core; none for a NULL literal
abbrev pub core_types : List TableShape → CoreTree → List (Option ColType)
core_types tables c = map (tree_type (column_kinds (columns_of (from_scope tables c.from)))) (output_values (core_outputs tables c))

abbrev pub answer_types : List TableShape → SelectTree → List (List (Option ColType))
answer_types tables q = map (core_types tables) (cores_of q)

-- The type of an output of the query, by the types that the cores have in its place: that of the first core whose output there is no NULL
-- literal, else text.
abbrev pub place_type : List (Option ColType) → ColType
place_type [] = Text
place_type (None ∷ ts) = place_type ts
place_type (Some t ∷ ts) = t

-- 42804 for outputs of different types in one place
abbrev pub place_causes : List (Option ColType) → List Cause
place_causes ts = unless (list_all (takes (place_type ts)) ts) DatatypeMismatch

-- what each core has in a place; none where it has too few outputs
abbrev pub in_place : List (List (Option ColType)) → ℕ → List (Option ColType)
in_place rows place = map (λ (ts : List (Option ColType)). slice_index_or ts place None) rows

-- of cores whose outputs are of these types, the first having so many: 42601 where another has not as many
abbrev pub union_causes : ℕ → List (List (Option ColType)) → List Cause
union_causes width rows =
    unless (list_all (λ (ts : List (Option ColType)). nat_eq (length ts) width) rows) ValuesSyntax
    ++ flat_map (λ (place : ℕ). place_causes (in_place rows place)) (range_with_len 0 width)

abbrev pub output_type_causes : List TableShape → SelectTree → List Cause
output_type_causes tables q = union_causes (length (core_outputs tables q.core)) (answer_types tables q)

-- ---- the whole

abbrev pub select_type_causes : List TableShape → SelectTree → List Cause
select_type_causes tables q = written_type_causes tables q ++ (form_causes (meant_in tables q).form ++ output_type_causes tables q)

abbrev pub statement_type_causes : List TableShape → StatementTree → List Cause
statement_type_causes tables (select q) = select_type_causes tables q

-- the cause stands for the statement
abbrev pub TypeCauses : List TableShape → StatementTree → Cause → Type 0
TypeCauses tables tree c = Contains (statement_type_causes tables tree) c

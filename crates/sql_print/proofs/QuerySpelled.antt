-- What is written of a statement is spelled so.
use Rattle.std.proofs.Common.{ℕ, inl, inr, Bool, true, false, List, [], ◌∷◌, ◌++◌, refl, codes}
use Rattle.std.specs.Prelude.{Option, Some, None}
use Rattle.med_syntax.specs.Prelude.{Name, Terminal, ExprTree, spelling, keywords, SpellsOthers, SpellsList, SpellsLabel, SpellsAlias, SpellsItem, SpellsEntry, SpellsOn, SpellsJoin, SpellsJoins, SpellsChain, SpellsGroup, SpellsFlag, SpellsNulls, SpellsKey, SpellsLimit, SpellsOffset, SpellsPerhaps, SpellsListed, SpellsExpr, SpellsCore, SpellsUnions, Spells}
use Rattle.med_syntax.specs.Terminal as t
use Rattle.med_syntax.specs.QueryTree.{ItemTree, all, all_of, value, EntryTree, inner_join, left_join, cross_join, LimitTree, no_limit, rows, StatementTree, select}
use Rattle.sql_print.specs.QueryPrinting.{alias_written, item_written, others_written, list_written, entry_written, on_written, join_written, joins_written, chain_written, group_written, flag_written, nulls_written, key_written, quantifier_written, limit_written, offset_written, perhaps_written, listed_written, core_written, unions_written, statement_written}

-- ---- what is written is spelled so

alias_label : (label : Option Name) → SpellsLabel label (alias_written label)
alias_label None = refl
alias_label (Some n) = inr (t.Name n, refl, inl refl)

alias_alias : (alias : Option Name) → SpellsAlias alias (alias_written alias)
alias_alias None = refl
alias_alias (Some n) = inr refl

item_spelled : (x : ItemTree) (ts : List Terminal) → SpellsItem x ts → SpellsItem x (item_written x)
item_spelled all ts s = refl
item_spelled (all_of q) ts s = refl
item_spelled (value e label) ts s = (spelling e, alias_written label, refl, record { fits = (s.3).fits; spelled = refl }, alias_label label)

-- what is written of what is spelled is spelled so
abbrev pub Spelled : {X : Type 0} → (X → List Terminal → Type 0) → (X → List Terminal) → Type 0
Spelled {X} Spelling written = (x : X) (ts : List Terminal) → Spelling x ts → Spelling x (written x)

others_spelled : {X : Type 0} (Spelling : X → List Terminal → Type 0) (written : X → List Terminal) → Spelled Spelling written → (xs : List X) (ts : List Terminal) → SpellsOthers Spelling xs ts → SpellsOthers Spelling xs (others_written written xs)
others_spelled Spelling written item [] ts s = refl
others_spelled Spelling written item (x ∷ xs) ts s = (written x, others_written written xs, refl, item x s.0 s.3, others_spelled Spelling written item xs s.1 s.4)

pub list_spelled : {X : Type 0} (Spelling : X → List Terminal → Type 0) (written : X → List Terminal) → Spelled Spelling written → (xs : List X) (ts : List Terminal) → SpellsList Spelling xs ts → SpellsList Spelling xs (list_written written xs)
list_spelled Spelling written item [] ts s = s
list_spelled Spelling written item (x ∷ xs) ts s = (written x, others_written written xs, refl, item x s.0 s.3, others_spelled Spelling written item xs s.1 s.4)

listed_spelled : {X : Type 0} (words : List (List ℕ)) (Spelling : X → List Terminal → Type 0) (written : X → List Terminal) → Spelled Spelling written → (xs : List X) (ts : List Terminal) → SpellsListed words Spelling xs ts → SpellsListed words Spelling xs (listed_written words written xs)
listed_spelled words Spelling written item [] ts s = refl
listed_spelled words Spelling written item (x ∷ xs) ts s = (list_written written (x ∷ xs), refl, list_spelled Spelling written item (x ∷ xs) s.0 s.2)

pub condition_spelled : (words : List (List ℕ)) (condition : Option ExprTree) (ts : List Terminal) → SpellsPerhaps words SpellsExpr condition ts → SpellsPerhaps words SpellsExpr condition (perhaps_written words spelling condition)
condition_spelled words None ts s = refl
condition_spelled words (Some e) ts s = (spelling e, refl, record { fits = (s.2).fits; spelled = refl })

pub entry_spelled : Spelled SpellsEntry entry_written
entry_spelled e ts s = (alias_written e.alias, refl, alias_alias e.alias)

on_spelled : (e : EntryTree) (on : ExprTree) (ts : List Terminal) → SpellsOn e on ts → SpellsOn e on (on_written e on)
on_spelled e on ts s = (entry_written e, spelling on, refl, (alias_written e.alias, refl, alias_alias e.alias), record { fits = (s.4).fits; spelled = refl })

join_spelled : Spelled SpellsJoin join_written
join_spelled (inner_join e on) ts s = (keywords (codes "join" ∷ []), on_written e on, refl, inl refl, on_spelled e on s.1 s.4)
join_spelled (left_join e on) ts s = (keywords (codes "left" ∷ codes "join" ∷ []), on_written e on, refl, inl refl, on_spelled e on s.1 s.4)
join_spelled (cross_join e) ts s = (entry_written e, refl, entry_spelled e s.0 s.2)

joins_spelled : Spelled SpellsJoins joins_written
joins_spelled [] ts s = refl
joins_spelled (x ∷ xs) ts s = (join_written x, joins_written xs, refl, join_spelled x s.0 s.3, joins_spelled xs s.1 s.4)

chain_spelled : Spelled SpellsChain chain_written
chain_spelled c ts s = (entry_written c.first, joins_written c.joins, refl, entry_spelled c.first s.0 s.3, joins_spelled c.joins s.1 s.4)

group_spelled : Spelled SpellsGroup group_written
group_spelled g ts s = refl

direction_spelled : (b : Bool) → SpellsFlag (codes "desc") (codes "asc") b (flag_written (codes "desc") (codes "asc") b)
direction_spelled true = refl
direction_spelled false = inr refl

nulls_spelled : (b first : Bool) → SpellsNulls b first (nulls_written first)
nulls_spelled b true = inr (inl (refl, refl))
nulls_spelled b false = inr (inr (refl, refl))

key_spelled : Spelled SpellsKey key_written
key_spelled k ts s =
    (spelling k.key, flag_written (codes "desc") (codes "asc") k.descending, nulls_written k.nulls_first, refl, record { fits = (s.4).fits; spelled = refl }, direction_spelled k.descending, nulls_spelled k.descending k.nulls_first)

quantifier_spelled : (b : Bool) → SpellsFlag (codes "distinct") (codes "all") b (quantifier_written b)
quantifier_spelled true = refl
quantifier_spelled false = inl refl

limit_spelled : (limit : Option LimitTree) → SpellsLimit limit (limit_written limit)
limit_spelled None = refl
limit_spelled (Some no_limit) = refl
limit_spelled (Some (rows n)) = refl

offset_spelled : (offset : Option ℕ) → SpellsOffset offset (offset_written offset)
offset_spelled None = refl
offset_spelled (Some n) = ([], refl, inl refl)

core_spelled : Spelled SpellsCore core_written
core_spelled c ts s = record {
  quantifier = quantifier_written c.distinct;
  items = list_written item_written c.items;
  from = listed_written (codes "from" ∷ []) chain_written c.from;
  condition = perhaps_written (codes "where" ∷ []) spelling c.condition;
  groups = listed_written (codes "group" ∷ codes "by" ∷ []) group_written c.groups;
  having = perhaps_written (codes "having" ∷ []) spelling c.having;
  is = refl;
  quantified = quantifier_spelled c.distinct;
  answered = list_spelled SpellsItem item_written item_spelled c.items s.items s.answered;
  joined = listed_spelled (codes "from" ∷ []) SpellsChain chain_written chain_spelled c.from s.from s.joined;
  filtered = condition_spelled (codes "where" ∷ []) c.condition s.condition s.filtered;
  grouped = listed_spelled (codes "group" ∷ codes "by" ∷ []) SpellsGroup group_written group_spelled c.groups s.groups s.grouped;
  kept = condition_spelled (codes "having" ∷ []) c.having s.having s.kept;
}

unions_spelled : Spelled SpellsUnions unions_written
unions_spelled [] ts s = refl
unions_spelled (c ∷ cs) ts s = (core_written c, unions_written cs, refl, core_spelled c s.0 s.3, unions_spelled cs s.1 s.4)

pub statement_spelled : (s : StatementTree) (ts : List Terminal) → Spells s ts → Spells s (statement_written s)
statement_spelled (select q) ts s = record {
  core = core_written q.core;
  others = unions_written q.others;
  keys = listed_written (codes "order" ∷ codes "by" ∷ []) key_written q.keys;
  limits = limit_written q.limit ++ offset_written q.offset;
  is = refl;
  first = core_spelled q.core s.core s.first;
  united = unions_spelled q.others s.others s.united;
  ordered = listed_spelled (codes "order" ∷ codes "by" ∷ []) SpellsKey key_written key_spelled q.keys s.keys s.ordered;
  cut = (limit_written q.limit, offset_written q.offset, limit_spelled q.limit, offset_spelled q.offset, inl refl);
}

-- What is written of a statement is that statement.
use Rattle.std.proofs.Common.{◌≡◌, ℕ, inl, inr, Bool, true, false, cond, List, [], ◌∷◌, ◌++◌, refl, sym, ◌∙◌, ap, subst, append-nil, codes}
use Rattle.std.specs.Prelude.{◌&&◌, Option, Some, None, map}
use Rattle.med_lexer.specs.declared.Mark.{Mark}
use Rattle.med_lexer.specs.declared.Mark.TheVariants as marks
use Rattle.med_lexer.specs.Lexemes.{Shape, word, quoted, literal, number, mark, Lexeme, Lexes}
use Rattle.med_lexer.specs.Printing.{IsShape, AreShapes}
use Rattle.med_value.specs.declared.operators.Operation.TheVariants.{Multiply}
use Rattle.med_syntax.specs.Prelude.{Name, shapes, Terminal, terminal_of, mark_terminal, IsWord, AreWords, label_of, ExprTree, num, column_spelling, spelling, IsExpr, in_range, keywords, SpellsOthers, SpellsList, SpellsLabel, SpellsAlias, SpellsItem, SpellsEntry, SpellsOn, SpellsJoin, SpellsJoins, SpellsChain, SpellsGroup, SpellsKey, SpellsLimit, SpellsOffset, SpellsLimits, SpellsPerhaps, SpellsListed, SpellsExpr, SpellsCore, SpellsUnions, Spells, IsStatement, HasStatement, all_in_range, perhaps_in_range, item_in_range, join_in_range, chain_in_range, key_in_range, limit_in_range, count_in_range, core_in_range, statement_in_range}
use Rattle.med_syntax.specs.Words.{is_reserved}
use Rattle.med_syntax.specs.Terminal as t
use Rattle.expr_writer.specs.ExprPrinting.{shape_for, shapes_for}
use Rattle.med_syntax.specs.QueryTree.{ItemTree, all, all_of, value, EntryTree, inner_join, left_join, cross_join, GroupTree, LimitTree, no_limit, rows, CoreTree, SelectTree, cores_of, StatementTree, select}
use Rattle.sql_print.specs.QueryPrinting.{alias_written, item_written, others_written, list_written, entry_written, on_written, join_written, joins_written, chain_written, group_written, flag_written, nulls_written, key_written, quantifier_written, limit_written, offset_written, perhaps_written, listed_written, clauses_written, core_written, union_written, unions_written, tail_written, statement_written, printed_statement}
use Rattle.expr_writer.proofs.ExprPrints.{Writable, AreWritable, both_left, both_right, writable, written_terminal, says, name_shape, written_shape, PrintedAgain}
use Rattle.med_syntax.proofs.QueryLabels.{word_label, label_is}
use Rattle.med_syntax.proofs.QueryKeywords.{free_reserved}
use Rattle.sql_print.proofs.QuerySpelled.{statement_spelled}

-- ---- terminals of a text

-- some token is this terminal
abbrev Genuine : Terminal → Type 0
Genuine u = (s : Shape) × IsShape s × IsWord s u

abbrev AreGenuine : List Terminal → Type 0
AreGenuine [] = Unit {0}
AreGenuine (u ∷ us) = Genuine u × AreGenuine us

genuine : (ss : List Shape) (us : List Terminal) → AreShapes ss → AreWords ss us → AreGenuine us
genuine ss [] a h = tt
genuine [] (u ∷ us) a h = absurd h
genuine (s ∷ ss) (u ∷ us) a h = ((s, a.0, h.0), genuine ss us a.1 h.1)

genuine_left : (us vs : List Terminal) → AreGenuine (us ++ vs) → AreGenuine us
genuine_left [] vs h = tt
genuine_left (u ∷ us) vs h = (h.0, genuine_left us vs h.1)

genuine_right : (us vs : List Terminal) → AreGenuine (us ++ vs) → AreGenuine vs
genuine_right [] vs h = h
genuine_right (u ∷ us) vs h = genuine_right us vs h.1

-- ---- terminals that can be written

-- what is written for the terminal is a token, and is this terminal
record Printed (u : Terminal) : Type 0 where
  shape : IsShape (shape_for u)
  is : IsWord (shape_for u) u

abbrev ArePrinted : List Terminal → Type 0
ArePrinted [] = Unit {0}
ArePrinted (u ∷ us) = Printed u × ArePrinted us

printed_both : (us vs : List Terminal) → ArePrinted us → ArePrinted vs → ArePrinted (us ++ vs)
printed_both [] vs p q = q
printed_both (u ∷ us) vs p q = (p.0, printed_both us vs p.1 q)

token_printed : (s : Shape) (u : Terminal) → IsShape s → IsWord s u → Writable u → Printed u
token_printed s u h (inl i) w = record { shape = written_shape s u h (says s u i) w; is = inl (written_terminal u w) }
token_printed s u h (inr i) w = subst Printed (sym i.3) (record { shape = subst IsShape i.1 h; is = inr (i.0, refl, i.2, refl) })

one_printed : (u : Terminal) → Genuine u → Writable u → Printed u
one_printed u g w = token_printed g.0 u g.1 g.2 w

all_printed : (us : List Terminal) → AreGenuine us → AreWritable us → ArePrinted us
all_printed [] g w = tt
all_printed (u ∷ us) g w = (one_printed u g.0 w.0, all_printed us g.1 w.1)

expr_printed : (e : ExprTree) (us : List Terminal) → IsExpr us e → in_range e ≡ true → AreGenuine us → ArePrinted (spelling e)
expr_printed e us x r g = all_printed (spelling e) (subst AreGenuine x.spelled g) (subst AreWritable (append-nil (spelling e)) (writable e [] r tt))

none_some : {A : Type 0} (x : A) → ◌≡◌ {A = Option A} None (Some x) → ⊥
none_some x h = absurd (cc)

some_is : {A : Type 0} (x y : A) → ◌≡◌ {A = Option A} (Some x) (Some y) → x ≡ y
some_is x y h = cc

mark_label : (m : Mark) → label_of (mark_terminal m) ≡ None
mark_label marks.LeftParen = refl
mark_label m = refl

-- a token that is a label can be written as a name
label_shape : (s : Shape) (n : Name) → IsShape s → label_of (terminal_of s) ≡ Some n → IsShape (quoted n)
label_shape (word w) n h p = name_shape (word w) n h (some_is n w (sym p ∙ word_label w))
label_shape (quoted q) n h p = name_shape (quoted q) n h (sym (some_is q n p))
label_shape (literal x) n h p = absurd (none_some n p)
label_shape (number d) n h p = absurd (none_some n p)
label_shape (mark m) n h p = absurd (none_some n (sym (mark_label m) ∙ p))

label_quoted : (s : Shape) (u : Terminal) (n : Name) → IsShape s → IsWord s u → label_of u ≡ Some n → IsShape (quoted n)
label_quoted s u n h (inl (inl k)) l = label_shape s n h (ap label_of (sym k) ∙ l)
label_quoted s u n h (inl (inr k)) l = absurd (none_some n (ap label_of (sym k.1) ∙ l))
label_quoted s u n h (inr k) l = absurd (none_some n (ap (λ (b : Bool). cond b (Some k.0) None) (sym (free_reserved k.0 k.2)) ∙ ap label_of (sym k.3) ∙ l))

name_printed : (u : Terminal) (n : Name) → Genuine u → label_of u ≡ Some n → Printed (t.Name n)
name_printed u n g l = record { shape = label_quoted g.0 u n g.1 g.2 l; is = inl (inl refl) }

select_printed : Printed (t.Reserved (codes "select"))
unfolding is_reserved
select_printed = record { shape = (codes "select", (refl, (refl, (refl, (refl, (refl, (refl, tt))))), refl)); is = inl (inl refl) }

distinct_printed : Printed (t.Reserved (codes "distinct"))
unfolding is_reserved
distinct_printed = record { shape = (codes "distinct", (refl, (refl, (refl, (refl, (refl, (refl, (refl, (refl, tt))))))), refl)); is = inl (inl refl) }

all_word_printed : Printed (t.Reserved (codes "all"))
unfolding is_reserved
all_word_printed = record { shape = (codes "all", (refl, (refl, (refl, tt)), refl)); is = inl (inl refl) }

as_printed : Printed (t.Reserved (codes "as"))
unfolding is_reserved
as_printed = record { shape = (codes "as", (refl, (refl, tt), refl)); is = inl (inl refl) }

from_printed : Printed (t.Reserved (codes "from"))
unfolding is_reserved
from_printed = record { shape = (codes "from", (refl, (refl, (refl, (refl, tt))), refl)); is = inl (inl refl) }

join_printed : Printed (t.Reserved (codes "join"))
unfolding is_reserved
join_printed = record { shape = (codes "join", (refl, (refl, (refl, (refl, tt))), refl)); is = inl (inl refl) }

left_printed : Printed (t.Reserved (codes "left"))
unfolding is_reserved
left_printed = record { shape = (codes "left", (refl, (refl, (refl, (refl, tt))), refl)); is = inl (inl refl) }

cross_printed : Printed (t.Reserved (codes "cross"))
unfolding is_reserved
cross_printed = record { shape = (codes "cross", (refl, (refl, (refl, (refl, (refl, tt)))), refl)); is = inl (inl refl) }

on_printed : Printed (t.Reserved (codes "on"))
unfolding is_reserved
on_printed = record { shape = (codes "on", (refl, (refl, tt), refl)); is = inl (inl refl) }

where_printed : Printed (t.Reserved (codes "where"))
unfolding is_reserved
where_printed = record { shape = (codes "where", (refl, (refl, (refl, (refl, (refl, tt)))), refl)); is = inl (inl refl) }

group_word_printed : Printed (t.Reserved (codes "group"))
unfolding is_reserved
group_word_printed = record { shape = (codes "group", (refl, (refl, (refl, (refl, (refl, tt)))), refl)); is = inl (inl refl) }

by_printed : Printed (t.Reserved (codes "by"))
unfolding is_reserved
by_printed = record { shape = (codes "by", (refl, (refl, tt), refl)); is = inl (inl refl) }

having_printed : Printed (t.Reserved (codes "having"))
unfolding is_reserved
having_printed = record { shape = (codes "having", (refl, (refl, (refl, (refl, (refl, (refl, tt))))), refl)); is = inl (inl refl) }

union_printed : Printed (t.Reserved (codes "union"))
unfolding is_reserved
union_printed = record { shape = (codes "union", (refl, (refl, (refl, (refl, (refl, tt)))), refl)); is = inl (inl refl) }

order_printed : Printed (t.Reserved (codes "order"))
unfolding is_reserved
order_printed = record { shape = (codes "order", (refl, (refl, (refl, (refl, (refl, tt)))), refl)); is = inl (inl refl) }

asc_printed : Printed (t.Reserved (codes "asc"))
unfolding is_reserved
asc_printed = record { shape = (codes "asc", (refl, (refl, (refl, tt)), refl)); is = inl (inl refl) }

desc_printed : Printed (t.Reserved (codes "desc"))
unfolding is_reserved
desc_printed = record { shape = (codes "desc", (refl, (refl, (refl, (refl, tt))), refl)); is = inl (inl refl) }

limit_printed : Printed (t.Reserved (codes "limit"))
unfolding is_reserved
limit_printed = record { shape = (codes "limit", (refl, (refl, (refl, (refl, (refl, tt)))), refl)); is = inl (inl refl) }

offset_printed : Printed (t.Reserved (codes "offset"))
unfolding is_reserved
offset_printed = record { shape = (codes "offset", (refl, (refl, (refl, (refl, (refl, (refl, tt))))), refl)); is = inl (inl refl) }

nulls_printed : Printed (t.Reserved (codes "nulls"))
nulls_printed = record { shape = (codes "nulls", (refl, (refl, (refl, (refl, (refl, tt)))), refl)); is = inr (codes "nulls", refl, refl, refl) }

first_printed : Printed (t.Reserved (codes "first"))
first_printed = record { shape = (codes "first", (refl, (refl, (refl, (refl, (refl, tt)))), refl)); is = inr (codes "first", refl, refl, refl) }

last_printed : Printed (t.Reserved (codes "last"))
last_printed = record { shape = (codes "last", (refl, (refl, (refl, (refl, tt))), refl)); is = inr (codes "last", refl, refl, refl) }

star_printed : Printed (t.Binary Multiply)
star_printed = record { shape = ((42 ∷ []), inl refl); is = inl (inl refl) }

dot_printed : Printed t.Dot
dot_printed = record { shape = ((46 ∷ []), inl refl); is = inl (inl refl) }

comma_printed : Printed t.Comma
comma_printed = record { shape = ((44 ∷ []), inl refl); is = inl (inl refl) }

-- ---- the parts of a statement

label_printed : (label : Option Name) (ts : List Terminal) → SpellsLabel label ts → AreGenuine ts → ArePrinted (alias_written label)
label_printed None ts s g = tt
label_printed (Some n) ts (inl s) g = let h = subst AreGenuine s g in (as_printed, (name_printed (t.Name n) n h.0 refl, tt))
label_printed (Some n) ts (inr s) g = let h = subst AreGenuine s.1 g in (as_printed, (name_printed s.0 n h.1.0 (label_is n s.0 s.2), tt))

alias_printed : (alias : Option Name) (ts : List Terminal) → SpellsAlias alias ts → AreGenuine ts → ArePrinted (alias_written alias)
alias_printed None ts s g = tt
alias_printed (Some n) ts (inl s) g = let h = subst AreGenuine s g in (as_printed, (name_printed (t.Name n) n h.0 refl, tt))
alias_printed (Some n) ts (inr s) g = let h = subst AreGenuine s g in (as_printed, (name_printed (t.Name n) n h.1.0 refl, tt))

item_printed : (x : ItemTree) (ts : List Terminal) → SpellsItem x ts → item_in_range x ≡ true → AreGenuine ts → ArePrinted (item_written x)
item_printed all ts s r g = (star_printed, tt)
item_printed (all_of q) ts s r g = let h = subst AreGenuine s g in (name_printed (t.Name q) q h.0 refl, (dot_printed, (star_printed, tt)))
item_printed (value e label) ts s r g =
    let h = subst AreGenuine s.2 g in
    printed_both (spelling e) (alias_written label) (expr_printed e s.0 s.3 r (genuine_left s.0 s.1 h)) (label_printed label s.1 s.4 (genuine_right s.0 s.1 h))

-- what is written of a part in range is tokens
abbrev PartPrinted : {X : Type 0} → (X → List Terminal → Type 0) → (X → Bool) → (X → List Terminal) → Type 0
PartPrinted {X} Spelling fit written = (x : X) (ts : List Terminal) → Spelling x ts → fit x ≡ true → AreGenuine ts → ArePrinted (written x)

others_printed : {X : Type 0} (Spelling : X → List Terminal → Type 0) (fit : X → Bool) (written : X → List Terminal) → PartPrinted Spelling fit written → (xs : List X) (ts : List Terminal) → SpellsOthers Spelling xs ts → all_in_range fit xs ≡ true → AreGenuine ts → ArePrinted (others_written written xs)
others_printed Spelling fit written item [] ts s r g = tt
others_printed Spelling fit written item (x ∷ xs) ts s r g =
    let h = subst AreGenuine s.2 g in (
      comma_printed,
      printed_both (written x) (others_written written xs) (item x s.0 s.3 (both_left (fit x) (all_in_range fit xs) r) (genuine_left s.0 s.1 h.1))
          (others_printed Spelling fit written item xs s.1 s.4 (both_right (fit x) (all_in_range fit xs) r) (genuine_right s.0 s.1 h.1)),
    )

list_printed : {X : Type 0} (Spelling : X → List Terminal → Type 0) (fit : X → Bool) (written : X → List Terminal) → PartPrinted Spelling fit written → (xs : List X) (ts : List Terminal) → SpellsList Spelling xs ts → all_in_range fit xs ≡ true → AreGenuine ts → ArePrinted (list_written written xs)
list_printed Spelling fit written item [] ts s r g = tt
list_printed Spelling fit written item (x ∷ xs) ts s r g =
    let h = subst AreGenuine s.2 g in
    printed_both (written x) (others_written written xs) (item x s.0 s.3 (both_left (fit x) (all_in_range fit xs) r) (genuine_left s.0 s.1 h))
    (others_printed Spelling fit written item xs s.1 s.4 (both_right (fit x) (all_in_range fit xs) r) (genuine_right s.0 s.1 h))

listed_printed : {X : Type 0} (words : List (List ℕ)) (Spelling : X → List Terminal → Type 0) (fit : X → Bool) (written : X → List Terminal) → ArePrinted (keywords words) → PartPrinted Spelling fit written → (xs : List X) (ts : List Terminal) → SpellsListed words Spelling xs ts → all_in_range fit xs ≡ true → AreGenuine ts → ArePrinted (listed_written words written xs)
listed_printed words Spelling fit written k item [] ts s r g = tt
listed_printed words Spelling fit written k item (x ∷ xs) ts s r g =
    let h = subst AreGenuine s.1 g in
    printed_both (keywords words) (list_written written (x ∷ xs)) k (list_printed Spelling fit written item (x ∷ xs) s.0 s.2 r (genuine_right (keywords words) s.0 h))

condition_printed : (words : List (List ℕ)) (condition : Option ExprTree) (ts : List Terminal) → ArePrinted (keywords words) → SpellsPerhaps words SpellsExpr condition ts → perhaps_in_range in_range condition ≡ true → AreGenuine ts → ArePrinted (perhaps_written words spelling condition)
condition_printed words None ts k s r g = tt
condition_printed words (Some e) ts k s r g =
    let h = subst AreGenuine s.1 g in
    printed_both (keywords words) (spelling e) k (expr_printed e s.0 s.2 r (genuine_right (keywords words) s.0 h))

entry_printed : (e : EntryTree) (ts : List Terminal) → SpellsEntry e ts → AreGenuine ts → ArePrinted (entry_written e)
entry_printed e ts s g = let h = subst AreGenuine s.1 g in (name_printed (t.Name e.table) e.table h.0 refl, alias_printed e.alias s.0 s.2 h.1)

on_all_printed : (e : EntryTree) (on : ExprTree) (ts : List Terminal) → SpellsOn e on ts → in_range on ≡ true → AreGenuine ts → ArePrinted (on_written e on)
on_all_printed e on ts s r g =
    let h = subst AreGenuine s.2 g in
    let k = genuine_right s.0 (t.Reserved (codes "on") ∷ s.1) h in
    printed_both (entry_written e) (t.Reserved (codes "on") ∷ spelling on) (entry_printed e s.0 s.3 (genuine_left s.0 (t.Reserved (codes "on") ∷ s.1) h)) (on_printed, expr_printed on s.1 s.4 r k.1)

join_all_printed : PartPrinted SpellsJoin join_in_range join_written
join_all_printed (inner_join e on) ts s r g = (join_printed, on_all_printed e on s.1 s.4 r (genuine_right s.0 s.1 (subst AreGenuine s.2 g)))
join_all_printed (left_join e on) ts s r g = (left_printed, (join_printed, on_all_printed e on s.1 s.4 r (genuine_right s.0 s.1 (subst AreGenuine s.2 g))))
join_all_printed (cross_join e) ts s r g = (cross_printed, (join_printed, entry_printed e s.0 s.2 (genuine_right (keywords (codes "cross" ∷ codes "join" ∷ [])) s.0 (subst AreGenuine s.1 g))))

joins_printed : PartPrinted SpellsJoins (all_in_range join_in_range) joins_written
joins_printed [] ts s r g = tt
joins_printed (x ∷ xs) ts s r g =
    let h = subst AreGenuine s.2 g in
    printed_both (join_written x) (joins_written xs) (join_all_printed x s.0 s.3 (both_left (join_in_range x) (all_in_range join_in_range xs) r) (genuine_left s.0 s.1 h))
    (joins_printed xs s.1 s.4 (both_right (join_in_range x) (all_in_range join_in_range xs) r) (genuine_right s.0 s.1 h))

chain_printed : PartPrinted SpellsChain chain_in_range chain_written
chain_printed c ts s r g =
    let h = subst AreGenuine s.2 g in
    printed_both (entry_written c.first) (joins_written c.joins) (entry_printed c.first s.0 s.3 (genuine_left s.0 s.1 h)) (joins_printed c.joins s.1 s.4 r (genuine_right s.0 s.1 h))

column_printed : (q : Option Name) (n : Name) → AreGenuine (column_spelling q n) → ArePrinted (column_spelling q n)
column_printed None n g = (name_printed (t.Name n) n g.0 refl, tt)
column_printed (Some q) n g = (name_printed (t.Name q) q g.0 refl, (dot_printed, (name_printed (t.Name n) n g.1.1.0 refl, tt)))

-- a column has no number
abbrev any_group : GroupTree → Bool
any_group g = true

all_groups : (xs : List GroupTree) → all_in_range any_group xs ≡ true
all_groups [] = refl
all_groups (x ∷ xs) = all_groups xs

group_printed : PartPrinted SpellsGroup any_group group_written
group_printed g ts s r h = column_printed g.qualifier g.column (subst AreGenuine s h)

direction_printed : (b : Bool) → ArePrinted (flag_written (codes "desc") (codes "asc") b)
direction_printed true = (desc_printed, tt)
direction_printed false = (asc_printed, tt)

nulls_all_printed : (b : Bool) → ArePrinted (nulls_written b)
nulls_all_printed true = (nulls_printed, (first_printed, tt))
nulls_all_printed false = (nulls_printed, (last_printed, tt))

key_printed : PartPrinted SpellsKey key_in_range key_written
key_printed k ts s r g =
    let h = subst AreGenuine s.3 g in
    printed_both (spelling k.key) (flag_written (codes "desc") (codes "asc") k.descending ++ nulls_written k.nulls_first) (expr_printed k.key s.0 s.4 r (genuine_left s.0 (s.1 ++ s.2) h))
    (printed_both (flag_written (codes "desc") (codes "asc") k.descending) (nulls_written k.nulls_first) (direction_printed k.descending) (nulls_all_printed k.nulls_first))

quantifier_printed : (b : Bool) → ArePrinted (quantifier_written b)
quantifier_printed true = (distinct_printed, tt)
quantifier_printed false = tt

-- a number in range, as an expression of its own
number_printed : (n : ℕ) → count_in_range n ≡ true → Genuine (t.Num n) → Printed (t.Num n)
number_printed n r g = (all_printed (t.Num n ∷ []) (g, tt) (subst AreWritable (append-nil (t.Num n ∷ [])) (writable (num n) [] r tt))).0

limit_all_printed : (limit : Option LimitTree) (ts : List Terminal) → SpellsLimit limit ts → perhaps_in_range limit_in_range limit ≡ true → AreGenuine ts → ArePrinted (limit_written limit)
limit_all_printed None ts s r g = tt
limit_all_printed (Some no_limit) ts s r g = (limit_printed, (all_word_printed, tt))
limit_all_printed (Some (rows n)) ts s r g = let h = subst AreGenuine s g in (limit_printed, (number_printed n r h.1.0, tt))

offset_all_printed : (offset : Option ℕ) (ts : List Terminal) → SpellsOffset offset ts → perhaps_in_range count_in_range offset ≡ true → AreGenuine ts → ArePrinted (offset_written offset)
offset_all_printed None ts s r g = tt
offset_all_printed (Some n) ts s r g = let h = subst AreGenuine s.1 g in (offset_printed, (number_printed n r h.1.0, tt))

limits_printed : (limit : Option LimitTree) (offset : Option ℕ) (ts : List Terminal) → SpellsLimits limit offset ts → perhaps_in_range limit_in_range limit ≡ true → perhaps_in_range count_in_range offset ≡ true → AreGenuine ts → ArePrinted (limit_written limit ++ offset_written offset)
limits_printed limit offset ts s r q g =
    elim (s.4) [
      | inl h ↦ (let k = subst AreGenuine h g in printed_both (limit_written limit) (offset_written offset) (limit_all_printed limit s.0 s.2 r (genuine_left s.0 s.1 k)) (offset_all_printed offset s.1 s.3 q (genuine_right s.0 s.1 k)))
      | inr h ↦ (let k = subst AreGenuine h g in printed_both (limit_written limit) (offset_written offset) (limit_all_printed limit s.0 s.2 r (genuine_right s.1 s.0 k)) (offset_all_printed offset s.1 s.3 q (genuine_left s.1 s.0 k)))
    ]

-- each number of each clause
record CoreInRange (c : CoreTree) : Type 0 where
  items : all_in_range item_in_range c.items ≡ true
  from : all_in_range chain_in_range c.from ≡ true
  condition : perhaps_in_range in_range c.condition ≡ true
  having : perhaps_in_range in_range c.having ≡ true

clauses_in_range : (c : CoreTree) → core_in_range c ≡ true → CoreInRange c
clauses_in_range c r =
    let a = both_right (all_in_range item_in_range c.items) _ r in
    let b = both_right (all_in_range chain_in_range c.from) _ a in
    record {
      items = both_left (all_in_range item_in_range c.items) _ r;
      from = both_left (all_in_range chain_in_range c.from) _ a;
      condition = both_left (perhaps_in_range in_range c.condition) (perhaps_in_range in_range c.having) b;
      having = both_right (perhaps_in_range in_range c.condition) (perhaps_in_range in_range c.having) b;
    }

core_printed : PartPrinted SpellsCore core_in_range core_written
core_printed c ts s r g =
    let f = clauses_in_range c r in
    let h = subst AreGenuine s.is g in
    let h1 = genuine_right s.quantifier (s.items ++ (s.from ++ (s.condition ++ (s.groups ++ s.having)))) h.1 in
    let h2 = genuine_right s.items (s.from ++ (s.condition ++ (s.groups ++ s.having))) h1 in
    let h3 = genuine_right s.from (s.condition ++ (s.groups ++ s.having)) h2 in
    let h4 = genuine_right s.condition (s.groups ++ s.having) h3 in
    let h5 = genuine_right s.groups s.having h4 in
    let p4 = condition_printed (codes "having" ∷ []) c.having s.having (having_printed, tt) s.kept f.having h5 in
    let p3 = printed_both (listed_written (codes "group" ∷ codes "by" ∷ []) group_written c.groups) (perhaps_written (codes "having" ∷ []) spelling c.having)
    (listed_printed (codes "group" ∷ codes "by" ∷ []) SpellsGroup any_group group_written (group_word_printed, (by_printed, tt)) group_printed c.groups s.groups s.grouped (all_groups c.groups) (genuine_left s.groups s.having h4)) p4 in
    let p2 = printed_both (perhaps_written (codes "where" ∷ []) spelling c.condition) _
    (condition_printed (codes "where" ∷ []) c.condition s.condition (where_printed, tt) s.filtered f.condition (genuine_left s.condition (s.groups ++ s.having) h3)) p3 in
    let p1 = printed_both (listed_written (codes "from" ∷ []) chain_written c.from) _
    (listed_printed (codes "from" ∷ []) SpellsChain chain_in_range chain_written (from_printed, tt) chain_printed c.from s.from s.joined f.from (genuine_left s.from (s.condition ++ (s.groups ++ s.having)) h2)) p2 in
    let p0 = printed_both (list_written item_written c.items) (clauses_written c)
    (list_printed SpellsItem item_in_range item_written item_printed c.items s.items s.answered f.items (genuine_left s.items (s.from ++ (s.condition ++ (s.groups ++ s.having))) h1)) p1 in
    (select_printed, printed_both (quantifier_written c.distinct) (list_written item_written c.items ++ clauses_written c) (quantifier_printed c.distinct) p0)

unions_printed : PartPrinted SpellsUnions (all_in_range core_in_range) unions_written
unions_printed [] ts s r g = tt
unions_printed (c ∷ cs) ts s r g =
    let h = genuine_right (keywords (codes "union" ∷ codes "all" ∷ [])) (s.0 ++ s.1) (subst AreGenuine s.2 g) in
    let first = core_printed c s.0 s.3 (both_left (core_in_range c) (all_in_range core_in_range cs) r) (genuine_left s.0 s.1 h) in
    printed_both (union_written c) (unions_written cs) (union_printed, (all_word_printed, first))
    (unions_printed cs s.1 s.4 (both_right (core_in_range c) (all_in_range core_in_range cs) r) (genuine_right s.0 s.1 h))

tail_printed : (q : SelectTree) (ts us : List Terminal) → SpellsListed (codes "order" ∷ codes "by" ∷ []) SpellsKey q.keys ts → SpellsLimits q.limit q.offset us →
    all_in_range key_in_range q.keys && (perhaps_in_range limit_in_range q.limit && perhaps_in_range count_in_range q.offset) ≡ true → AreGenuine (ts ++ us) → ArePrinted (tail_written q)
tail_printed q ts us s l r g =
    let a = both_right (all_in_range key_in_range q.keys) (perhaps_in_range limit_in_range q.limit && perhaps_in_range count_in_range q.offset) r in
    let keys = both_left (all_in_range key_in_range q.keys) (perhaps_in_range limit_in_range q.limit && perhaps_in_range count_in_range q.offset) r in
    let limit = both_left (perhaps_in_range limit_in_range q.limit) (perhaps_in_range count_in_range q.offset) a in
    let offset = both_right (perhaps_in_range limit_in_range q.limit) (perhaps_in_range count_in_range q.offset) a in
    printed_both (listed_written (codes "order" ∷ codes "by" ∷ []) key_written q.keys) (limit_written q.limit ++ offset_written q.offset)
    (listed_printed (codes "order" ∷ codes "by" ∷ []) SpellsKey key_in_range key_written (order_printed, (by_printed, tt)) key_printed q.keys ts s keys (genuine_left ts us g))
    (limits_printed q.limit q.offset us l limit offset (genuine_right ts us g))

statement_printed : (s : StatementTree) (ts : List Terminal) → Spells s ts → statement_in_range s ≡ true → AreGenuine ts → ArePrinted (statement_written s)
statement_printed (select q) ts s r g =
    let cores = both_left (all_in_range core_in_range (cores_of q)) _ r in
    let rest = both_right (all_in_range core_in_range (cores_of q)) _ r in
    let h = subst AreGenuine s.is g in
    let h1 = genuine_right s.core (s.others ++ (s.keys ++ s.limits)) h in
    let h2 = genuine_right s.others (s.keys ++ s.limits) h1 in
    let first = core_printed q.core s.core s.first (both_left (core_in_range q.core) (all_in_range core_in_range q.others) cores) (genuine_left s.core (s.others ++ (s.keys ++ s.limits)) h) in
    let others = unions_printed q.others s.others s.united (both_right (core_in_range q.core) (all_in_range core_in_range q.others) cores) (genuine_left s.others (s.keys ++ s.limits) h1) in
    printed_both (core_written q.core) (unions_written q.others ++ tail_written q) first
    (printed_both (unions_written q.others) (tail_written q) others (tail_printed q s.keys s.limits s.ordered s.cut rest h2))

-- ---- the text written

shapes_printed : (us : List Terminal) → ArePrinted us → AreShapes (shapes_for us)
shapes_printed [] p = tt
shapes_printed (u ∷ us) p = ((p.0).shape, shapes_printed us p.1)

terminals_printed : (us : List Terminal) → ArePrinted us → AreWords (shapes_for us) us
terminals_printed [] p = tt
terminals_printed (u ∷ us) p = ((p.0).is, terminals_printed us p.1)

tokens_printed : (ss : List Shape) (s : StatementTree) → AreShapes ss → IsStatement ss s → statement_in_range s ≡ true → ArePrinted (statement_written s)
tokens_printed ss s a x r = statement_printed s x.2.0 x.2.3 r (genuine_left x.2.0 x.2.1 (subst AreGenuine x.2.2 (genuine ss x.0 a x.1)))

written_statement : (s : StatementTree) (ts : List Terminal) → Spells s ts → ArePrinted (statement_written s) → IsStatement (shapes_for (statement_written s)) s
written_statement s ts x p =
    (statement_written s, terminals_printed (statement_written s) p, (statement_written s, [], sym (append-nil (statement_written s)), statement_spelled s ts x, inl refl))

-- the tokens that a statement in range is written by, where some tokens are that statement
pub record Written (s : StatementTree) : Type 0 where
  pub shapes : AreShapes (shapes_for (statement_written s))
  pub is : IsStatement (shapes_for (statement_written s)) s

pub written : (ss : List Shape) (s : StatementTree) → AreShapes ss → IsStatement ss s → statement_in_range s ≡ true → Written s
written ss s a x r =
    let p : ArePrinted (statement_written s) = tokens_printed ss s a x r in
    record { shapes = shapes_printed (statement_written s) p; is = written_statement s x.2.0 x.2.3 p }

pub printed_has : PrintedAgain → ((text : List ℕ) (ts : List Lexeme) → Lexes 0 text ts → AreShapes (map (λ (t : Lexeme). t.shape) ts)) → (text : List ℕ) (s : StatementTree) → HasStatement text s → statement_in_range s ≡ true → HasStatement (printed_statement s) s
printed_has again can bytes s x r =
    let w : Written s = written (shapes x.0) s (can bytes x.0 x.1) x.2 r in
    let made = again (shapes_for (statement_written s)) w.shapes in
    (made.0, made.1, subst (λ ss. IsStatement ss s) (sym made.2) w.is)

-- What is written of a statement that writes rows is that statement.
use Rattle.std.proofs.Common.{◌≡◌, ℕ, inl, inr, Bool, true, List, [], ◌∷◌, ◌++◌, refl, sym, ap, subst, append-nil, codes}
use Rattle.std.specs.Prelude.{Option, Some, None, map}
use Rattle.med_value.specs.declared.order.Comparison.TheVariants.{Equal}
use Rattle.med_lexer.specs.Lexemes.{Shape, Lexeme, Lexes}
use Rattle.med_lexer.specs.Printing.{IsShape, AreShapes}
use Rattle.med_syntax.specs.Prelude.{Name, Terminal, IsTerminal, AreTerminals, ExprTree, spelling, IsExpr, EntryTree, SelectTree, select, shapes, in_range, SpellsOthers, SpellsList, SpellsAlias, SpellsEntry, SpellsExpr, all_in_range, perhaps_in_range, GivenTree, values, rows_of, UpdateTree, DeleteTree, WriteTree, insert, update, delete}
use Rattle.med_syntax.specs.Words.{is_reserved}
use Rattle.med_syntax.specs.Terminal as t
use Rattle.expr_writer.specs.ExprPrinting.{shape_for, shapes_for}
use Rattle.expr_writer.proofs.ExprPrints.{Writable, AreWritable, both_left, both_right, writable, written_terminal, says, written_shape, PrintedAgain}
use Rattle.sql_print.specs.QueryPrinting.{alias_written, entry_written, others_written, list_written, select_written}
use Rattle.sql_print.proofs.QueryPrints as query
use Rattle.write_parser.specs.WriteGrammar.{SpellsTuple, SpellsName, SpellsColumns, SpellsTarget, SpellsValues, SpellsInsert, SpellsSet, SpellsWhere, SpellsUpdate, SpellsDelete, IsLineOf, IsInsert, IsWrite, HasWrite}
use Rattle.write_parser.specs.WriteCauses.{row_in_range, given_in_range, set_in_range, update_in_range, delete_in_range, write_in_range}
use Rattle.sql_print.specs.WritePrinting.{tuple_written, name_written, columns_written, target_written, row_written, given_written, set_written, where_written, sets_written, update_written, delete_written, write_written, printed_write}
use Rattle.sql_print.proofs.WriteSpelled.{target_spelled, insert_spelled, update_spelled, delete_spelled}

-- ---- terminals of a text

-- some token is this terminal
abbrev Genuine : Terminal → Type 0
Genuine u = (s : Shape) × IsShape s × IsTerminal s u

abbrev AreGenuine : List Terminal → Type 0
AreGenuine [] = Unit {0}
AreGenuine (u ∷ us) = Genuine u × AreGenuine us

genuine : (ss : List Shape) (us : List Terminal) → AreShapes ss → AreTerminals ss us → AreGenuine us
genuine ss [] a h = tt
genuine [] (u ∷ us) a h = absurd h
genuine (s ∷ ss) (u ∷ us) a h = ((s, a.0, h.0), genuine ss us a.1 h.1)

genuine_left : (us vs : List Terminal) → AreGenuine (us ++ vs) → AreGenuine us
genuine_left [] vs h = tt
genuine_left (u ∷ us) vs h = (h.0, genuine_left us vs h.1)

genuine_right : (us vs : List Terminal) → AreGenuine (us ++ vs) → AreGenuine vs
genuine_right [] vs h = h
genuine_right (u ∷ us) vs h = genuine_right us vs h.1

-- ---- terminals that can be written

-- what is written for the terminal is a token, and is this terminal
record Printed (u : Terminal) : Type 0 where
  shape : IsShape (shape_for u)
  is : IsTerminal (shape_for u) u

abbrev ArePrinted : List Terminal → Type 0
ArePrinted [] = Unit {0}
ArePrinted (u ∷ us) = Printed u × ArePrinted us

printed_both : (us vs : List Terminal) → ArePrinted us → ArePrinted vs → ArePrinted (us ++ vs)
printed_both [] vs p q = q
printed_both (u ∷ us) vs p q = (p.0, printed_both us vs p.1 q)

one_printed : (u : Terminal) → Genuine u → Writable u → Printed u
one_printed u g w = record { shape = written_shape g.0 u g.1 (says g.0 u g.2) w; is = written_terminal u w }

all_printed : (us : List Terminal) → AreGenuine us → AreWritable us → ArePrinted us
all_printed [] g w = tt
all_printed (u ∷ us) g w = (one_printed u g.0 w.0, all_printed us g.1 w.1)

expr_printed : (e : ExprTree) (us : List Terminal) → IsExpr us e → in_range e ≡ true → AreGenuine us → ArePrinted (spelling e)
expr_printed e us x r g = all_printed (spelling e) (subst AreGenuine x.spelled g) (subst AreWritable (append-nil (spelling e)) (writable e [] r tt))

name_printed : (n : Name) → Genuine (t.Name n) → Printed (t.Name n)
name_printed n g = one_printed (t.Name n) g tt

insert_printed : Printed (t.Reserved (codes "insert"))
unfolding is_reserved
insert_printed = record { shape = (codes "insert", (refl, (refl, (refl, (refl, (refl, (refl, tt))))), refl)); is = inl refl }

into_printed : Printed (t.Reserved (codes "into"))
unfolding is_reserved
into_printed = record { shape = (codes "into", (refl, (refl, (refl, (refl, tt))), refl)); is = inl refl }

values_word_printed : Printed (t.Reserved (codes "values"))
unfolding is_reserved
values_word_printed = record { shape = (codes "values", (refl, (refl, (refl, (refl, (refl, (refl, tt))))), refl)); is = inl refl }

update_word_printed : Printed (t.Reserved (codes "update"))
unfolding is_reserved
update_word_printed = record { shape = (codes "update", (refl, (refl, (refl, (refl, (refl, (refl, tt))))), refl)); is = inl refl }

set_word_printed : Printed (t.Reserved (codes "set"))
unfolding is_reserved
set_word_printed = record { shape = (codes "set", (refl, (refl, (refl, tt)), refl)); is = inl refl }

delete_word_printed : Printed (t.Reserved (codes "delete"))
unfolding is_reserved
delete_word_printed = record { shape = (codes "delete", (refl, (refl, (refl, (refl, (refl, (refl, tt))))), refl)); is = inl refl }

from_printed : Printed (t.Reserved (codes "from"))
unfolding is_reserved
from_printed = record { shape = (codes "from", (refl, (refl, (refl, (refl, tt))), refl)); is = inl refl }

where_word_printed : Printed (t.Reserved (codes "where"))
unfolding is_reserved
where_word_printed = record { shape = (codes "where", (refl, (refl, (refl, (refl, (refl, tt)))), refl)); is = inl refl }

as_printed : Printed (t.Reserved (codes "as"))
unfolding is_reserved
as_printed = record { shape = (codes "as", (refl, (refl, tt), refl)); is = inl refl }

left_printed : Printed t.LeftParen
left_printed = record { shape = ((40 ∷ []), inl refl); is = inl refl }

right_printed : Printed t.RightParen
right_printed = record { shape = ((41 ∷ []), inl refl); is = inl refl }

comma_printed : Printed t.Comma
comma_printed = record { shape = ((44 ∷ []), inl refl); is = inl refl }

equal_printed : Printed (t.Compare Equal)
equal_printed = record { shape = ((61 ∷ []), inl refl); is = inl refl }

-- ---- the parts of a statement

alias_printed : (alias : Option Name) (ts : List Terminal) → SpellsAlias alias ts → AreGenuine ts → ArePrinted (alias_written alias)
alias_printed None ts s g = tt
alias_printed (Some n) ts (inl s) g = let h = subst AreGenuine s g in (as_printed, (name_printed n h.0, tt))
alias_printed (Some n) ts (inr s) g = let h = subst AreGenuine s g in (as_printed, (name_printed n h.1.0, tt))

entry_printed : (e : EntryTree) (ts : List Terminal) → SpellsEntry e ts → AreGenuine ts → ArePrinted (entry_written e)
entry_printed e ts s g = let h = subst AreGenuine s.1 g in (name_printed e.table h.0, alias_printed e.alias s.0 s.2 h.1)

-- what is written of a part in range is tokens
abbrev PartPrinted : {X : Type 0} → (X → List Terminal → Type 0) → (X → Bool) → (X → List Terminal) → Type 0
PartPrinted {X} Spelling fit written = (x : X) (ts : List Terminal) → Spelling x ts → fit x ≡ true → AreGenuine ts → ArePrinted (written x)

others_printed : {X : Type 0} (Spelling : X → List Terminal → Type 0) (fit : X → Bool) (written : X → List Terminal) → PartPrinted Spelling fit written → (xs : List X) (ts : List Terminal) → SpellsOthers Spelling xs ts → all_in_range fit xs ≡ true → AreGenuine ts → ArePrinted (others_written written xs)
others_printed Spelling fit written item [] ts s r g = tt
others_printed Spelling fit written item (x ∷ xs) ts s r g =
    let h = subst AreGenuine s.2 g in (
      comma_printed,
      printed_both (written x) (others_written written xs) (item x s.0 s.3 (both_left (fit x) (all_in_range fit xs) r) (genuine_left s.0 s.1 h.1))
          (others_printed Spelling fit written item xs s.1 s.4 (both_right (fit x) (all_in_range fit xs) r) (genuine_right s.0 s.1 h.1)),
    )

list_printed : {X : Type 0} (Spelling : X → List Terminal → Type 0) (fit : X → Bool) (written : X → List Terminal) → PartPrinted Spelling fit written → (xs : List X) (ts : List Terminal) → SpellsList Spelling xs ts → all_in_range fit xs ≡ true → AreGenuine ts → ArePrinted (list_written written xs)
list_printed Spelling fit written item [] ts s r g = tt
list_printed Spelling fit written item (x ∷ xs) ts s r g =
    let h = subst AreGenuine s.2 g in
    printed_both (written x) (others_written written xs) (item x s.0 s.3 (both_left (fit x) (all_in_range fit xs) r) (genuine_left s.0 s.1 h))
    (others_printed Spelling fit written item xs s.1 s.4 (both_right (fit x) (all_in_range fit xs) r) (genuine_right s.0 s.1 h))

tuple_printed : {X : Type 0} (Spelling : X → List Terminal → Type 0) (fit : X → Bool) (written : X → List Terminal) → PartPrinted Spelling fit written → (xs : List X) (ts : List Terminal) → SpellsTuple Spelling xs ts → all_in_range fit xs ≡ true → AreGenuine ts → ArePrinted (tuple_written written xs)
tuple_printed Spelling fit written item xs ts s r g =
    let h = subst AreGenuine s.1 g in
    let inner : ArePrinted (list_written written xs) = list_printed Spelling fit written item xs s.0 s.2 r (genuine_left s.0 (t.RightParen ∷ []) h.1) in
    (left_printed, printed_both (list_written written xs) (t.RightParen ∷ []) inner (right_printed, tt))

-- a name has no number
abbrev any_name : Name → Bool
any_name n = true

all_names : (ns : List Name) → all_in_range any_name ns ≡ true
all_names [] = refl
all_names (n ∷ ns) = all_names ns

column_printed : PartPrinted SpellsName any_name name_written
column_printed n ts s r g = let h = subst AreGenuine s g in (name_printed n h.0, tt)

columns_printed : (c : Option (List Name)) (ts : List Terminal) → SpellsColumns c ts → AreGenuine ts → ArePrinted (columns_written c)
columns_printed None ts s g = tt
columns_printed (Some ns) ts s g = tuple_printed SpellsName any_name name_written column_printed ns ts s (all_names ns) g

target_printed : (n : Name) (c : Option (List Name)) (ts : List Terminal) → SpellsTarget n c ts → AreGenuine ts → ArePrinted (target_written n c)
target_printed n c ts s g =
    let h = subst AreGenuine s.1 g in
    (insert_printed, (into_printed, (name_printed n h.1.1.0, columns_printed c s.0 s.2 h.1.1.1)))

value_printed : PartPrinted SpellsExpr in_range spelling
value_printed e ts s r g = expr_printed e ts s r g

row_printed : PartPrinted (SpellsTuple SpellsExpr) row_in_range row_written
row_printed es ts s r g = tuple_printed SpellsExpr in_range spelling value_printed es ts s r g

values_printed : (rows : List (List ExprTree)) (ts : List Terminal) → SpellsValues rows ts → all_in_range row_in_range rows ≡ true → AreGenuine ts → ArePrinted (given_written (values rows))
values_printed rows ts s r g =
    let h = subst AreGenuine s.1 g in
    (values_word_printed, list_printed (SpellsTuple SpellsExpr) row_in_range row_written row_printed rows s.0 s.2 r h.1)

insert_all_printed : (n : Name) (c : Option (List Name)) (rows : List (List ExprTree)) (ts : List Terminal) → SpellsInsert n c rows ts → all_in_range row_in_range rows ≡ true → AreGenuine ts → ArePrinted (target_written n c ++ given_written (values rows))
insert_all_printed n c rows ts s r g =
    let h = subst AreGenuine s.2 g in
    printed_both (target_written n c) (given_written (values rows)) (target_printed n c s.0 s.3 (genuine_left s.0 s.1 h)) (values_printed rows s.1 s.4 r (genuine_right s.0 s.1 h))

set_printed : PartPrinted SpellsSet set_in_range set_written
set_printed x ts s r g =
    let h = subst AreGenuine s.1 g in
    (name_printed x.column h.0, (equal_printed, expr_printed x.value s.0 s.2 r h.1.1))

where_printed : (condition : Option ExprTree) (ts : List Terminal) → SpellsWhere condition ts → perhaps_in_range in_range condition ≡ true → AreGenuine ts → ArePrinted (where_written condition)
where_printed None ts s r g = tt
where_printed (Some e) ts s r g = let h = subst AreGenuine s.1 g in (where_word_printed, expr_printed e s.0 s.2 r h.1)

update_printed : (u : UpdateTree) (ts : List Terminal) → SpellsUpdate u ts → update_in_range u ≡ true → AreGenuine ts → ArePrinted (update_written u)
update_printed u ts s r g =
    let h = subst AreGenuine s.is g in
    let k = genuine_right s.entry (t.Reserved (codes "set") ∷ (s.sets ++ s.condition)) h.1 in
    let sets : ArePrinted (list_written set_written u.sets) = list_printed SpellsSet set_in_range set_written set_printed u.sets s.sets s.changed (both_left (all_in_range set_in_range u.sets) (perhaps_in_range in_range u.condition) r) (genuine_left s.sets s.condition k.1) in
    let condition : ArePrinted (where_written u.condition) = where_printed u.condition s.condition s.filtered (both_right (all_in_range set_in_range u.sets) (perhaps_in_range in_range u.condition) r) (genuine_right s.sets s.condition k.1) in
    let entry : ArePrinted (entry_written u.entry) = entry_printed u.entry s.entry s.named (genuine_left s.entry (t.Reserved (codes "set") ∷ (s.sets ++ s.condition)) h.1) in
    (update_word_printed, printed_both (entry_written u.entry) (sets_written u) entry (set_word_printed, printed_both (list_written set_written u.sets) (where_written u.condition) sets condition))

delete_printed : (d : DeleteTree) (ts : List Terminal) → SpellsDelete d ts → delete_in_range d ≡ true → AreGenuine ts → ArePrinted (delete_written d)
delete_printed d ts s r g =
    let h = subst AreGenuine s.is g in
    let condition : ArePrinted (where_written d.condition) = where_printed d.condition s.condition s.filtered r (genuine_right s.entry s.condition h.1.1) in
    let entry : ArePrinted (entry_written d.entry) = entry_printed d.entry s.entry s.named (genuine_left s.entry s.condition h.1.1) in
    (delete_word_printed, (from_printed, printed_both (entry_written d.entry) (where_written d.condition) entry condition))

-- ---- the tokens written

shapes_printed : (us : List Terminal) → ArePrinted us → AreShapes (shapes_for us)
shapes_printed [] p = tt
shapes_printed (u ∷ us) p = ((p.0).shape, shapes_printed us p.1)

terminals_printed : (us : List Terminal) → ArePrinted us → AreTerminals (shapes_for us) us
terminals_printed [] p = tt
terminals_printed (u ∷ us) p = ((p.0).is, terminals_printed us p.1)

shapes_apart : (us vs : List Terminal) → shapes_for (us ++ vs) ≡ shapes_for us ++ shapes_for vs
shapes_apart [] vs = refl
shapes_apart (u ∷ us) vs = ap (λ ss. shape_for u ∷ ss) (shapes_apart us vs)

shapes_left : (ss rs : List Shape) → AreShapes (ss ++ rs) → AreShapes ss
shapes_left [] rs h = tt
shapes_left (s ∷ ss) rs h = (h.0, shapes_left ss rs h.1)

shapes_right : (ss rs : List Shape) → AreShapes (ss ++ rs) → AreShapes rs
shapes_right [] rs h = h
shapes_right (s ∷ ss) rs h = shapes_right ss rs h.1

shapes_both : (ss rs : List Shape) → AreShapes ss → AreShapes rs → AreShapes (ss ++ rs)
shapes_both [] rs p q = q
shapes_both (s ∷ ss) rs p q = (p.0, shapes_both ss rs p.1 q)

-- the tokens that a statement in range is written by, where some tokens are that statement
record Written (w : WriteTree) : Type 0 where
  shapes : AreShapes (shapes_for (write_written w))
  is : IsWrite (shapes_for (write_written w)) w

line_written : (Spelling : List Terminal → Type 0) (us : List Terminal) → ArePrinted us → Spelling us → IsLineOf Spelling (shapes_for us)
line_written Spelling us p s = (us, [], subst (AreTerminals (shapes_for us)) (sym (append-nil us)) (terminals_printed us p), s, inl refl)

-- of the terminals of a line those of its statement
line_genuine : (ss : List Shape) (us end : List Terminal) → AreShapes ss → AreTerminals ss (us ++ end) → AreGenuine us
line_genuine ss us end a h = genuine_left us end (genuine ss (us ++ end) a h)

query_inserted : (n : Name) (c : Option (List Name)) (q : SelectTree) (ss : List Shape) → AreShapes ss → IsInsert n c (rows_of q) ss → given_in_range (rows_of q) ≡ true → Written (insert (record { table = n; columns = c; given = rows_of q }))
query_inserted n c q ss a x r =
    let b : AreShapes (x.0 ++ x.1) = subst AreShapes x.2 a in
    let target = x.3 in
    let p : ArePrinted (target_written n c) = target_printed n c target.0 target.2 (genuine x.0 target.0 (shapes_left x.0 x.1 b) target.1) in
    let w : query.Written (select q) = query.written x.1 (select q) (shapes_right x.0 x.1 b) x.4 r in
    let apart : shapes_for (target_written n c ++ select_written q) ≡ shapes_for (target_written n c) ++ shapes_for (select_written q) = shapes_apart (target_written n c) (select_written q) in
    record {
      shapes = subst AreShapes (sym apart) (shapes_both (shapes_for (target_written n c)) (shapes_for (select_written q)) (shapes_printed (target_written n c) p) w.shapes);
      is = (shapes_for (target_written n c), shapes_for (select_written q), apart, (target_written n c, terminals_printed (target_written n c) p, target_spelled n c target.0 target.2), w.is);
    }

inserted : (n : Name) (c : Option (List Name)) (g : GivenTree) (ss : List Shape) → AreShapes ss → IsInsert n c g ss → given_in_range g ≡ true → Written (insert (record { table = n; columns = c; given = g }))
inserted n c (rows_of q) ss a x r = query_inserted n c q ss a x r
inserted n c (values rows) ss a x r =
    let us : List Terminal = target_written n c ++ given_written (values rows) in
    let p : ArePrinted us = insert_all_printed n c rows x.0 x.3 r (line_genuine ss x.0 x.1 a x.2) in
    record { shapes = shapes_printed us p; is = line_written (SpellsInsert n c rows) us p (insert_spelled n c rows x.0 x.3) }

written : (ss : List Shape) (w : WriteTree) → AreShapes ss → IsWrite ss w → write_in_range w ≡ true → Written w
written ss (insert i) a x r = inserted i.table i.columns i.given ss a x r
written ss (update u) a x r =
    let p : ArePrinted (update_written u) = update_printed u x.0 x.3 r (line_genuine ss x.0 x.1 a x.2) in
    record { shapes = shapes_printed (update_written u) p; is = line_written (SpellsUpdate u) (update_written u) p (update_spelled u x.0 x.3) }
written ss (delete d) a x r =
    let p : ArePrinted (delete_written d) = delete_printed d x.0 x.3 r (line_genuine ss x.0 x.1 a x.2) in
    record { shapes = shapes_printed (delete_written d) p; is = line_written (SpellsDelete d) (delete_written d) p (delete_spelled d x.0 x.3) }

-- ---- the text written

pub printed_has : PrintedAgain → ((text : List ℕ) (ts : List Lexeme) → Lexes 0 text ts → AreShapes (map (λ (t : Lexeme). t.shape) ts)) → (text : List ℕ) (w : WriteTree) → HasWrite text w → write_in_range w ≡ true → HasWrite (printed_write w) w
printed_has again can text w x r =
    let k : Written w = written (shapes x.0) w (can text x.0 x.1) x.2 r in
    let made = again (shapes_for (write_written w)) k.shapes in
    (made.0, made.1, subst (λ ss. IsWrite ss w) (sym made.2) k.is)

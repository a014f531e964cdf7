-- The texts of a statement that writes rows stand among its terminals.
use Rattle.std.proofs.Common.{ℕ, codes, List, [], ◌∷◌, ◌++◌, flat_map, All, Option, sym, subst}
use Rattle.std.proofs.lemmas.List.Elements.{All-cons, All-nil, All-append}
use Rattle.med_lexer.specs.Lexemes.{Shape}
use Rattle.med_syntax.specs.Prelude.{Name, Terminal, ExprTree, ExprTrees, num, negative, text, truth, null, column, call_all, call, paren, minus, binary, between, among, like, compare, tested, negation, chain, none, more, spelling, parts_spelling, spellings, IsExpr, shapes, keywords, SpellsOthers, SpellsList, SpellsItem, SpellsExpr, SpellsCore, SpellsUnions, IsStatement, GivenTree, values, rows_of, SetTree, UpdateTree, WriteTree, insert, update, delete}
use Rattle.med_syntax.specs.Terminal as t
use Rattle.med_syntax.specs.QueryTree.{ItemTree, all, all_of, value, CoreTree, SelectTree, select}
use Rattle.write_parser.specs.WriteGrammar.{SpellsTuple, SpellsValues, SpellsInsert, SpellsSet, SpellsUpdate, IsInsert, IsLineOf, IsWrite, HasWrite}
use Rattle.bind_write.specs.Naming.{set_values}
use Rattle.bind_write.proofs.Lists.{flat_over}
use Rattle.med_statements.specs.Typed.{texts_in, texts_in_all, item_texts, core_texts, query_texts, given_texts, IsClean}
use Rattle.med_statements.proofs.Tokens.{IsCleanText, AreCleanShapes, AreClean, clean_left, clean_right, shapes_right, lexed_clean, terminals_clean, words_clean}

abbrev AllText : List (List ℕ) → Type 0
AllText = All IsCleanText

-- ---- expressions

mutual
  expr_clean : (e : ExprTree) → AreClean (spelling e) → AllText (texts_in e)
  expr_clean (num n) h = All-nil IsCleanText
  expr_clean (negative n) h = All-nil IsCleanText
  expr_clean (text x) h = All-cons IsCleanText x [] h.0 (All-nil IsCleanText)
  expr_clean (truth b) h = All-nil IsCleanText
  expr_clean null h = All-nil IsCleanText
  expr_clean (column q n) h = All-nil IsCleanText
  expr_clean (call_all f) h = All-nil IsCleanText
  expr_clean (call f es) h = parts_clean es h.1.1
  expr_clean (paren e) h = expr_clean e (clean_left (spelling e) (t.RightParen ∷ []) h.1)
  expr_clean (minus e) h = All-nil IsCleanText
  expr_clean (binary op a b) h = All-nil IsCleanText
  expr_clean (between neg e low high) h = All-nil IsCleanText
  expr_clean (among neg e first others) h = All-nil IsCleanText
  expr_clean (like neg e x) h = All-nil IsCleanText
  expr_clean (compare op a b) h = All-nil IsCleanText
  expr_clean (tested neg e s) h = All-nil IsCleanText
  expr_clean (negation e) h = All-nil IsCleanText
  expr_clean (chain joint first others) h = All-nil IsCleanText

  parts_clean : (es : ExprTrees) → AreClean (parts_spelling es) → AllText (texts_in_all es)
  parts_clean none h = All-nil IsCleanText
  parts_clean (more e es) h =
      All-append IsCleanText (texts_in e) (texts_in_all es) (expr_clean e (clean_left (spelling e) (spellings t.Comma es ++ t.RightParen ∷ []) h))
      (more_clean es (clean_left (spellings t.Comma es) (t.RightParen ∷ []) (clean_right (spelling e) (spellings t.Comma es ++ t.RightParen ∷ []) h)))

  more_clean : (es : ExprTrees) → AreClean (spellings t.Comma es) → AllText (texts_in_all es)
  more_clean none h = All-nil IsCleanText
  more_clean (more e es) h =
      All-append IsCleanText (texts_in e) (texts_in_all es) (expr_clean e (clean_left (spelling e) (spellings t.Comma es) h.1)) (more_clean es (clean_right (spelling e) (spellings t.Comma es) h.1))

spelled_clean : (e : ExprTree) (ts : List Terminal) → IsExpr ts e → AreClean ts → AllText (texts_in e)
spelled_clean e ts is h = expr_clean e (subst AreClean is.spelled h)

-- ---- lists

-- what is spelled by clean terminals has clean texts
abbrev HasTexts : {X : Type 0} → (X → List Terminal → Type 0) → (X → List (List ℕ)) → Type 0
HasTexts Spells texts = (x : _) (ts : List Terminal) → Spells x ts → AreClean ts → AllText (texts x)

others_clean : {X : Type 0} (Spells : X → List Terminal → Type 0) (texts : X → List (List ℕ)) → HasTexts Spells texts → (xs : List X) (ts : List Terminal) → SpellsOthers Spells xs ts → AreClean ts → AllText (flat_map texts xs)
others_clean Spells texts f [] ts h k = All-nil IsCleanText
others_clean Spells texts f (x ∷ xs) ts (item, others, is, one, rest) k =
    let c : AreClean (item ++ others) = (subst AreClean is k).1 in
    All-append IsCleanText (texts x) (flat_map texts xs) (f x item one (clean_left item others c)) (others_clean Spells texts f xs others rest (clean_right item others c))

list_clean : {X : Type 0} (Spells : X → List Terminal → Type 0) (texts : X → List (List ℕ)) → HasTexts Spells texts → (xs : List X) (ts : List Terminal) → SpellsList Spells xs ts → AreClean ts → AllText (flat_map texts xs)
list_clean Spells texts f [] ts h k = absurd h
list_clean Spells texts f (x ∷ xs) ts (item, others, is, one, rest) k =
    let c : AreClean (item ++ others) = subst AreClean is k in
    All-append IsCleanText (texts x) (flat_map texts xs) (f x item one (clean_left item others c)) (others_clean Spells texts f xs others rest (clean_right item others c))

-- ---- the forms of rows

row_clean : (row : List ExprTree) (ts : List Terminal) → SpellsTuple SpellsExpr row ts → AreClean ts → AllText (flat_map texts_in row)
row_clean row ts (inner, is, list) k = list_clean SpellsExpr texts_in spelled_clean row inner list (clean_left inner (t.RightParen ∷ []) (subst AreClean is k).1)

values_clean : (rows : List (List ExprTree)) (ts : List Terminal) → SpellsValues rows ts → AreClean ts → AllText (flat_map (flat_map texts_in) rows)
values_clean rows ts (behind, is, list) k = list_clean (SpellsTuple SpellsExpr) (flat_map texts_in) row_clean rows behind list (subst AreClean is k).1

item_clean : (i : ItemTree) (ts : List Terminal) → SpellsItem i ts → AreClean ts → AllText (item_texts i)
item_clean all ts h k = All-nil IsCleanText
item_clean (all_of q) ts h k = All-nil IsCleanText
item_clean (value e label) ts (expr, behind, is, one, rest) k = spelled_clean e expr one (clean_left expr behind (subst AreClean is k))

set_clean : (s : SetTree) (ts : List Terminal) → SpellsSet s ts → AreClean ts → AllText (texts_in s.value)
set_clean s ts (expr, is, one) k = spelled_clean s.value expr one (subst AreClean is k).1.1

update_clean : (u : UpdateTree) (ts : List Terminal) → SpellsUpdate u ts → AreClean ts → AllText (flat_map texts_in (set_values u.sets))
update_clean u ts h k =
    let behind : AreClean (t.Reserved (codes "set") ∷ (h.sets ++ h.condition)) = clean_right h.entry (t.Reserved (codes "set") ∷ (h.sets ++ h.condition)) (subst AreClean h.is k).1 in
    subst AllText (sym (flat_over texts_in (λ (s : SetTree). s.value) u.sets))
    (list_clean SpellsSet (λ (s : SetTree). texts_in s.value) set_clean u.sets h.sets h.changed (clean_left h.sets h.condition behind.1))

-- ---- the whole

line_clean : (Spelled : List Terminal → Type 0) (texts : List (List ℕ)) → ((ts : List Terminal) → Spelled ts → AreClean ts → AllText texts) → (ss : List Shape) → IsLineOf Spelled ss → AreCleanShapes ss → AllText texts
line_clean Spelled texts f ss (statement, end, are, is, ends) k = f statement is (clean_left statement end (terminals_clean ss (statement ++ end) k are))

core_clean : (c : CoreTree) (ts : List Terminal) → SpellsCore c ts → AreClean ts → AllText (core_texts c)
core_clean c ts spelled k =
    let parts = (subst AreClean spelled.is k).1 in
    list_clean SpellsItem item_texts item_clean c.items spelled.items spelled.answered (clean_left spelled.items _ (clean_right spelled.quantifier _ parts))

unions_clean : (cs : List CoreTree) (ts : List Terminal) → SpellsUnions cs ts → AreClean ts → AllText (flat_map core_texts cs)
unions_clean [] ts h k = All-nil IsCleanText
unions_clean (c ∷ cs) ts (core, others, is, one, rest) k =
    let behind : AreClean (core ++ others) = clean_right (keywords (codes "union" ∷ codes "all" ∷ [])) (core ++ others) (subst AreClean is k) in
    All-append IsCleanText (core_texts c) (flat_map core_texts cs) (core_clean c core one (clean_left core others behind)) (unions_clean cs others rest (clean_right core others behind))

query_clean : (q : SelectTree) (ss : List Shape) → IsStatement ss (select q) → AreCleanShapes ss → AllText (query_texts q)
query_clean q ss (ts, are, (statement, end, is, spelled, ends)) k =
    let whole : AreClean (statement ++ end) = subst AreClean is (words_clean ss ts k are) in
    let parts : AreClean (spelled.core ++ (spelled.others ++ (spelled.keys ++ spelled.limits))) = subst AreClean spelled.is (clean_left statement end whole) in
    let behind = clean_right spelled.core (spelled.others ++ (spelled.keys ++ spelled.limits)) parts in
    All-append IsCleanText (core_texts q.core) (flat_map core_texts q.others) (core_clean q.core spelled.core spelled.first (clean_left spelled.core _ parts))
    (unions_clean q.others spelled.others spelled.united (clean_left spelled.others _ behind))

insert_clean : (table : Name) (columns : Option (List Name)) (rows : List (List ExprTree)) (ts : List Terminal) → SpellsInsert table columns rows ts → AreClean ts → AllText (flat_map (flat_map texts_in) rows)
insert_clean table columns rows ts (target, given, is, at, spelled) k = values_clean rows given spelled (clean_right target given (subst AreClean is k))

given_clean : (table : Name) (columns : Option (List Name)) (g : GivenTree) (ss : List Shape) → IsInsert table columns g ss → AreCleanShapes ss → AllText (given_texts g)
given_clean table columns (values rows) ss h k =
    line_clean (SpellsInsert table columns rows) (flat_map (flat_map texts_in) rows) (insert_clean table columns rows) ss h k
given_clean table columns (rows_of q) ss (target, query, is, at, statement) k = query_clean q query statement (shapes_right target query (subst AreCleanShapes is k))

write_clean : (ss : List Shape) (w : WriteTree) → IsWrite ss w → AreCleanShapes ss → IsClean w
write_clean ss (insert i) h k = given_clean i.table i.columns i.given ss h k
write_clean ss (update u) h k = line_clean (SpellsUpdate u) (flat_map texts_in (set_values u.sets)) (update_clean u) ss h k
write_clean ss (delete d) h k = All-nil IsCleanText

pub text_clean : (line : List ℕ) (w : WriteTree) → HasWrite line w → IsClean w
text_clean line w (ts, lexes, is) = write_clean (shapes ts) w is (lexed_clean 0 line ts lexes)

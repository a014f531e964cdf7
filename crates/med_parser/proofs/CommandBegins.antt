-- With which word the tokens of a command begin.
use Rattle.std.proofs.Common.{◌≡◌, ℕ, ◌<◌, ◌≤◌, arith, length, get_or, inl, inr, Bool, true, false, cond, List, [], ◌∷◌, ◌++◌, codes, refl, sym, ◌∙◌, ap, subst}
use Rattle.std.specs.Prelude.{Option}
use Rattle.std.specs.Str.{bytes_eq}
use Rattle.med_lexer.specs.declared.Mark.{Mark}
use Rattle.med_lexer.specs.declared.Mark.TheVariants as marks
use Rattle.med_lexer.specs.declared.Token.{Token}
use Rattle.med_lexer.specs.View.{shape_of}
use Rattle.med_syntax.specs.Prelude.{shapes_of, Name, Terminal, mark_terminal, word_terminal, terminal_of, IsTerminal, AreTerminals, StatementTree, select, IsWord, AreWords, is_free_keyword, SpellsCore, Spells, IsStatement, GivenTree, values, rows_of, insert, update, delete}
use Rattle.med_syntax.specs.Words.{is_reserved}
use Rattle.med_lexer.specs.Lexemes.{Shape, word, quoted, literal, number, mark}
use Rattle.med_syntax.specs.declared.expr.Joint.TheVariants.{Or, And}
use Rattle.med_syntax.specs.Terminal as t
use Rattle.write_parser.specs.WriteGrammar.{SpellsInsert, SpellsUpdate, SpellsDelete, IsLineOf, IsInsert}
use Rattle.write_parser.proofs.CursorRead as cursor
use Rattle.ddl_parser.proofs.DdlComplete as ddl
use Rattle.med_parser.specs.declared.command_kind.CommandKind.{CommandKind}
use Rattle.med_parser.specs.declared.command_kind.CommandKind.TheVariants as kinds
use Rattle.med_parser.specs.CommandTree.{CommandTree, on_data, on_rows, on_cursors, on_objects}
use Rattle.med_parser.specs.CommandKinds.{kind_of_tree, kind_of_word, kind_of_shape}
use Rattle.med_parser.specs.CommandGrammar.{IsCommand}

-- ---- a token that is a reserved word is that word

keyword : (p0 p1 p2 p3 p4 p5 p6 p7 p8 p9 k : Bool) (w v : List ℕ) →
    cond p0 (t.Joined And) (cond p1 (t.Joined Or) (cond p2 t.Not (cond p3 t.Between (cond p4 t.In (cond p5 t.Is (cond p6 t.Like (cond p7 t.Null (cond p8 (t.Truth true) (cond p9 (t.Truth false) (cond k (t.Reserved w) (t.Name w))))))))))) ≡ t.Reserved v → w ≡ v
keyword true _ _ _ _ _ _ _ _ _ _ w v h = absurd (cc)
keyword false true _ _ _ _ _ _ _ _ _ w v h = absurd (cc)
keyword false false true _ _ _ _ _ _ _ _ w v h = absurd (cc)
keyword false false false true _ _ _ _ _ _ _ w v h = absurd (cc)
keyword false false false false true _ _ _ _ _ _ w v h = absurd (cc)
keyword false false false false false true _ _ _ _ _ w v h = absurd (cc)
keyword false false false false false false true _ _ _ _ w v h = absurd (cc)
keyword false false false false false false false true _ _ _ w v h = absurd (cc)
keyword false false false false false false false false true _ _ w v h = absurd (cc)
keyword false false false false false false false false false true _ w v h = absurd (cc)
keyword false false false false false false false false false false true w v h = cc
keyword false false false false false false false false false false false w v h = absurd (cc)

word_reserved : (w v : List ℕ) → word_terminal w ≡ t.Reserved v → w ≡ v
word_reserved w v h =
    keyword (bytes_eq w (codes "and")) (bytes_eq w (codes "or")) (bytes_eq w (codes "not")) (bytes_eq w (codes "between")) (bytes_eq w (codes "in")) (bytes_eq w (codes "is")) (bytes_eq w (codes "like")) (bytes_eq w (codes "null")) (bytes_eq w (codes "true")) (bytes_eq w (codes "false")) (is_reserved w) w v h

mark_reserved : (m : Mark) (v : List ℕ) → mark_terminal m ≡ t.Reserved v → ⊥
mark_reserved marks.LeftParen v h = absurd (cc)
mark_reserved marks.RightParen v h = absurd (cc)
mark_reserved marks.Comma v h = absurd (cc)
mark_reserved marks.Dot v h = absurd (cc)
mark_reserved marks.Semicolon v h = absurd (cc)
mark_reserved marks.Star v h = absurd (cc)
mark_reserved marks.Plus v h = absurd (cc)
mark_reserved marks.Minus v h = absurd (cc)
mark_reserved marks.Slash v h = absurd (cc)
mark_reserved marks.Percent v h = absurd (cc)
mark_reserved marks.Equal v h = absurd (cc)
mark_reserved marks.Apart v h = absurd (cc)
mark_reserved marks.Below v h = absurd (cc)
mark_reserved marks.AtMost v h = absurd (cc)
mark_reserved marks.Above v h = absurd (cc)
mark_reserved marks.AtLeast v h = absurd (cc)

shape_reserved : (s : Shape) (v : List ℕ) → terminal_of s ≡ t.Reserved v → s ≡ word v
shape_reserved (word w) v h = ap word (word_reserved w v h)
shape_reserved (quoted q) v h = absurd (cc)
shape_reserved (literal x) v h = absurd (cc)
shape_reserved (number d) v h = absurd (cc)
shape_reserved (mark m) v h = absurd (mark_reserved m v h)

token_is : (s : Shape) (v : List ℕ) → IsTerminal s (t.Reserved v) → s ≡ word v
token_is s v (inl h) = shape_reserved s v (sym h)
token_is s v (inr h) = absurd (let no : t.Reserved v ≡ t.Unknown = h.1 in cc)

select_is : (s : Shape) → IsWord s (t.Reserved (codes "select")) → s ≡ word (codes "select")
select_is s (inl h) = token_is s (codes "select") h
select_is s (inr h) = absurd (let equal : codes "select" ≡ h.0 = (let x : t.Reserved (codes "select") ≡ t.Reserved h.0 = h.3 in cc) in let free : is_free_keyword (codes "select") ≡ true = ap is_free_keyword equal ∙ h.2 in let no : is_free_keyword (codes "select") ≡ false = refl in cc)

-- ---- the first word

-- the first token is this word
abbrev Begins : List ℕ → List Shape → Type 0
Begins w ss = (us : List Shape) × (ss ≡ word w ∷ us)

first_select : (ss : List Shape) (rest : List Terminal) → AreWords ss (t.Reserved (codes "select") ∷ rest) → Begins (codes "select") ss
first_select [] rest a = absurd a
first_select (s ∷ ss) rest a = (ss, ap (λ x. x ∷ ss) (select_is s a.0))

begins_select : (s : StatementTree) (ts : List Terminal) → Spells s ts → (rest : List Terminal) × (ts ≡ t.Reserved (codes "select") ∷ rest)
begins_select (select q) ts x =
    let c : SpellsCore q.core x.core = x.first in
    let behind : List Terminal = x.others ++ (x.keys ++ x.limits) in
    ((c.quantifier ++ (c.items ++ (c.from ++ (c.condition ++ (c.groups ++ c.having))))) ++ behind, x.is ∙ ap (λ us. us ++ behind) c.is)

query_word : (ss : List Shape) (s : StatementTree) → IsStatement ss s → Begins (codes "select") ss
query_word ss s x =
    let b = begins_select s x.2.0 x.2.3 in
    let line : x.0 ≡ t.Reserved (codes "select") ∷ (b.0 ++ x.2.1) = x.2.2 ∙ ap (λ us. us ++ x.2.1) b.1 in
    first_select ss (b.0 ++ x.2.1) (subst (AreWords ss) line x.1)

first_token : (ss : List Shape) (rest : List Terminal) (w : List ℕ) → AreTerminals ss (t.Reserved w ∷ rest) → Begins w ss
first_token [] rest w a = absurd a
first_token (s ∷ ss) rest w a = (ss, ap (λ x. x ∷ ss) (token_is s w a.0))

first_word : (ss : List Shape) (ts rest : List Terminal) (w : List ℕ) → AreTerminals ss ts → ts ≡ t.Reserved w ∷ rest → Begins w ss
first_word ss ts rest w a p = first_token ss rest w (subst (AreTerminals ss) p a)

line_word : (Spelling : List Terminal → Type 0) (w : List ℕ) (ss : List Shape) (x : IsLineOf Spelling ss) (rest : List Terminal) → x.0 ≡ t.Reserved w ∷ rest → Begins w ss
line_word Spelling w ss x rest p = first_word ss (x.0 ++ x.1) (rest ++ x.1) w x.2 (ap (λ us. us ++ x.1) p)

insert_word : (n : Name) (c : Option (List Name)) (g : GivenTree) (ss : List Shape) → IsInsert n c g ss → Begins (codes "insert") ss
insert_word n c (values rows) ss x =
    let s = x.3 in
    line_word (SpellsInsert n c rows) (codes "insert") ss x ((t.Reserved (codes "into") ∷ t.Name n ∷ (s.3).0) ++ s.1) (s.2 ∙ ap (λ us. us ++ s.1) (s.3).1)
insert_word n c (rows_of q) ss x =
    let target = x.3 in
    let f : Begins (codes "insert") x.0 = first_word x.0 target.0 (t.Reserved (codes "into") ∷ t.Name n ∷ (target.2).0) (codes "insert") target.1 (target.2).1 in
    (f.0 ++ x.1, x.2 ∙ ap (λ us. us ++ x.1) f.1)

-- ---- the kind

-- the first token is a word of the kind
record BeginsAs (ss : List Shape) (k : CommandKind) : Type 0 where
  first : List ℕ
  others : List Shape
  is : ss ≡ word first ∷ others
  kind : kind_of_word first ≡ k

begins_as : (ss : List Shape) (w : List ℕ) (k : CommandKind) → kind_of_word w ≡ k → Begins w ss → BeginsAs ss k
begins_as ss w k h b = record { first = w; others = b.0; is = b.1; kind = h }

begins : (ss : List Shape) (c : CommandTree) → IsCommand ss c → BeginsAs ss (kind_of_tree c)
begins ss (on_data s) x = begins_as ss (codes "select") kinds.Data refl (query_word ss s x)
begins ss (on_rows (insert i)) x = begins_as ss (codes "insert") kinds.Rows refl (insert_word i.table i.columns i.given ss x)
begins ss (on_rows (update u)) x =
    let s = x.3 in
    begins_as ss (codes "update") kinds.Rows refl (line_word (SpellsUpdate u) (codes "update") ss x (s.entry ++ t.Reserved (codes "set") ∷ (s.sets ++ s.condition)) s.is)
begins ss (on_rows (delete d)) x =
    let s = x.3 in
    begins_as ss (codes "delete") kinds.Rows refl (line_word (SpellsDelete d) (codes "delete") ss x (t.Reserved (codes "from") ∷ (s.entry ++ s.condition)) s.is)
begins ss (on_cursors e) x = elim (cursor.begun ss e x) [
  | inl h ↦ begins_as ss (codes "declare") kinds.Cursor refl h
  | inr (inl h) ↦ begins_as ss (codes "fetch") kinds.Cursor refl h
  | inr (inr h) ↦ begins_as ss (codes "close") kinds.Cursor refl h
]
begins ss (on_objects d) x = elim (ddl.begun ss d x) [
  | inl h ↦ begins_as ss (codes "create") kinds.Objects refl h
  | inr h ↦ begins_as ss (codes "drop") kinds.Objects refl h
]

first_is : (s r : Shape) (ss rs : List Shape) → s ∷ ss ≡ r ∷ rs → s ≡ r
first_is s r ss rs h = cc

kind_here : (s : Shape) (us : List Shape) (c : CommandTree) → IsCommand (s ∷ us) c → kind_of_tree c ≡ kind_of_shape s
kind_here s us c x =
    let b = begins (s ∷ us) c x in
    sym b.kind ∙ ap kind_of_shape (sym (first_is s (word b.first) us b.others b.is))

-- tokens are commands of one kind
pub one_kind : (ss : List Shape) (a b : CommandTree) → IsCommand ss a → IsCommand ss b → kind_of_tree a ≡ kind_of_tree b
one_kind ss a b x y =
    let f = begins ss b y in
    kind_here (word f.first) f.others a (subst (λ us. IsCommand us a) f.is x) ∙ f.kind

-- no tokens are no command
no_first : (c : CommandTree) → IsCommand [] c → ⊥
no_first c x = absurd (let b = begins [] c x in let no : ◌≡◌ {A = List Shape} [] (word b.first ∷ b.others) = b.is in cc)

-- ---- as the code has it

pub kind_none : (ts : List Token) → length ts < 1 → (c : CommandTree) → IsCommand (shapes_of ts) c → kind_of_tree c ≡ kinds.Data
kind_none [] h c x = absurd (no_first c x)
kind_none (y ∷ ts) h c x = absurd (omega arith)

pub kind_first : (ts : List Token) (first : Token) (k : CommandKind) → 1 ≤ length ts → first ≡ get_or ts 0 first → k ≡ kind_of_shape (shape_of first.kind) →
    (c : CommandTree) → IsCommand (shapes_of ts) c → kind_of_tree c ≡ k
kind_first [] first k h p q c x = absurd (omega arith)
kind_first (y ∷ ts) first k h p q c x = kind_here (shape_of y.kind) (shapes_of ts) c x ∙ ap (λ (z : Token). kind_of_shape (shape_of z.kind)) (sym p) ∙ sym q

-- What a text's tokens say of its command and of its causes.
use Rattle.std.proofs.Common.{◌≡◌, ℕ, ◌≤◌, ◌⊎◌, inl, inr, arith, true, false, List, refl, sym, ◌∙◌, ap, subst}
use Rattle.std.specs.Prelude.{Any, Result, Ok, Err, IfOk, OnOk, IfErr, String}
use Rattle.std.specs.String.{string_bytes}
use Rattle.med_value.specs.declared.cause.Cause.{Cause}
use Rattle.med_value.specs.declared.cause.Cause.TheVariants as causes
use Rattle.med_lexer.specs.declared.Token.{Token}
use Rattle.med_lexer.specs.Lexemes.{Shape, Lexeme, Lexes}
use Rattle.med_lexer.specs.View.{views}
use Rattle.med_syntax.specs.Prelude.{shapes, IsLongName, shapes_of, LexesOnly, cause_of, AreReadable, words_at, ReadsAs, cause_of_read, StatementTree, statement_height, IsStatement, HasStatement, statement_in_range, DdlTree, ddl_tree, WriteTree, write_tree, CursorTree, cursor_tree, statement_tree}
use Rattle.med_syntax.specs.declared.fault.ParseFault.{ParseFault}
use Rattle.med_syntax.specs.declared.fault.ParseFault.TheVariants as parse_faults
use Rattle.med_syntax.specs.declared.statement.Statement.{Statement}
use Rattle.med_syntax.specs.declared.refusal.ReadFault.{ReadFault}
use Rattle.med_syntax.specs.declared.refusal.ReadFault.TheVariants as faults
use Rattle.med_syntax.specs.declared.refusal.Refusal.TheVariants.{Syntax, TooHigh}
use Rattle.med_syntax.specs.declared.query_symbols.Place.TheVariants.{Before}
use Rattle.sql_print.specs.QueryPrinting.{printed_statement}
use Rattle.ddl_parser.specs.DdlPrinting.{printed_ddl}
use Rattle.med_parser.specs.CommandPrinting.{printed_command}
use Rattle.med_parser.specs.CommandTree.{CommandTree, on_data, on_rows, on_cursors, on_objects, command_height, command_tree}
use Rattle.med_syntax.specs.declared.write.WriteStatement.{WriteStatement}
use Rattle.write_parser.specs.WriteGrammar.{IsWrite, HasWrite}
use Rattle.write_parser.specs.WriteCauses.{write_in_range, Refuses}
use Rattle.write_parser.proofs.WriteRead.{one_write}
use Rattle.sql_print.specs.WritePrinting.{printed_write}
use Rattle.med_syntax.specs.declared.cursor.CursorStatement.{CursorStatement}
use Rattle.write_parser.specs.CursorGrammar.{IsCursor, HasCursor}
use Rattle.write_parser.specs.CursorCauses.{cursor_in_range}
use Rattle.write_parser.specs.CursorCauses as cursor_causes
use Rattle.write_parser.proofs.CursorRead as cursor
use Rattle.sql_print.specs.CursorPrinting.{printed_cursor}
use Rattle.med_parser.specs.declared.command.Command.{Command}
use Rattle.med_parser.specs.declared.command.Command.TheVariants as commands
use Rattle.med_syntax.specs.declared.ddl.Ddl.{Ddl}
use Rattle.ddl_parser.specs.DdlGrammar.{HasDdl}
use Rattle.med_parser.specs.declared.command_kind.CommandKind.{CommandKind}
use Rattle.med_parser.specs.declared.command_kind.CommandKind.TheVariants as kinds
use Rattle.med_parser.specs.CommandKinds.{kind_of_tree}
use Rattle.med_parser.specs.CommandGrammar.{IsCommand, HasCommand}
use Rattle.med_parser.proofs.CommandBegins.{one_kind}
use Rattle.med_parser.specs.CommandCauses.{command_in_range, is_fetch_zero_command, TokenCauses, SyntaxCauses}
use Rattle.query_reader.specs.QueryReading.{bounded_line}
use Rattle.med_syntax.proofs.TokenShapes.{OneList, shapes_are}
use Rattle.med_syntax.proofs.TokenNumbers.{small_at}
use Rattle.query_reader.proofs.QueryComplete.{one_line}
use Rattle.ddl_parser.proofs.DdlComplete as ddl
use Rattle.med_syntax.proofs.QueryTerminals.{to_terminals, of_terminals}
use Rattle.query_reader.proofs.QueryWeighing.{words_weigh, bounded_sound, bounded_out, bounded_told}

-- ---- no tokens are statements of two kinds

one_statement : (ss : List Shape) (r s : StatementTree) → IsStatement ss r → IsStatement ss s → r ≡ s
one_statement ss r s x y = one_line (words_at (Before false) false ss) r s (to_terminals ss r x) (to_terminals ss s y)

pub one_command : (ss : List Shape) (a b : CommandTree) → IsCommand ss a → IsCommand ss b → a ≡ b
one_command ss (on_data r) (on_data s) x y = ap on_data (one_statement ss r s x y)
one_command ss (on_data r) (on_rows w) x y = absurd (let no : kinds.Data ≡ kinds.Rows = one_kind ss (on_data r) (on_rows w) x y in cc)
one_command ss (on_data r) (on_cursors f) x y = absurd (let no : kinds.Data ≡ kinds.Cursor = one_kind ss (on_data r) (on_cursors f) x y in cc)
one_command ss (on_data r) (on_objects g) x y = absurd (let no : kinds.Data ≡ kinds.Objects = one_kind ss (on_data r) (on_objects g) x y in cc)
one_command ss (on_rows v) (on_data s) x y = absurd (let no : kinds.Rows ≡ kinds.Data = one_kind ss (on_rows v) (on_data s) x y in cc)
one_command ss (on_rows v) (on_rows w) x y = ap on_rows (one_write ss v w x y)
one_command ss (on_rows v) (on_cursors f) x y = absurd (let no : kinds.Rows ≡ kinds.Cursor = one_kind ss (on_rows v) (on_cursors f) x y in cc)
one_command ss (on_rows v) (on_objects g) x y = absurd (let no : kinds.Rows ≡ kinds.Objects = one_kind ss (on_rows v) (on_objects g) x y in cc)
one_command ss (on_cursors e) (on_data s) x y = absurd (let no : kinds.Cursor ≡ kinds.Data = one_kind ss (on_cursors e) (on_data s) x y in cc)
one_command ss (on_cursors e) (on_rows w) x y = absurd (let no : kinds.Cursor ≡ kinds.Rows = one_kind ss (on_cursors e) (on_rows w) x y in cc)
one_command ss (on_cursors e) (on_cursors f) x y = ap on_cursors (cursor.one_cursor ss e f x y)
one_command ss (on_cursors e) (on_objects g) x y = absurd (let no : kinds.Cursor ≡ kinds.Objects = one_kind ss (on_cursors e) (on_objects g) x y in cc)
one_command ss (on_objects d) (on_data s) x y = absurd (let no : kinds.Objects ≡ kinds.Data = one_kind ss (on_objects d) (on_data s) x y in cc)
one_command ss (on_objects d) (on_rows w) x y = absurd (let no : kinds.Objects ≡ kinds.Rows = one_kind ss (on_objects d) (on_rows w) x y in cc)
one_command ss (on_objects d) (on_cursors f) x y = absurd (let no : kinds.Objects ≡ kinds.Cursor = one_kind ss (on_objects d) (on_cursors f) x y in cc)
one_command ss (on_objects d) (on_objects g) x y = ap on_objects (ddl.one_line ss d g x y)

-- ---- causes of tokens

-- each tree of the tokens is of the kind
abbrev pub OnlyOf : List Shape → CommandKind → Type 0
OnlyOf ss k = (c : CommandTree) → IsCommand ss c → kind_of_tree c ≡ k

-- tokens that are no command of the one kind that they can be of are none

no_query : (ss : List Shape) → OnlyOf ss kinds.Data → ((s : StatementTree) → IsStatement ss s → ⊥) → (c : CommandTree) → IsCommand ss c → ⊥
no_query ss only none (on_data s) x = none s x
no_query ss only none (on_rows w) x = absurd (let no : kinds.Rows ≡ kinds.Data = only (on_rows w) x in cc)
no_query ss only none (on_cursors e) x = absurd (let no : kinds.Cursor ≡ kinds.Data = only (on_cursors e) x in cc)
no_query ss only none (on_objects d) x = absurd (let no : kinds.Objects ≡ kinds.Data = only (on_objects d) x in cc)

no_write : (ss : List Shape) → OnlyOf ss kinds.Rows → ((w : WriteTree) → IsWrite ss w → ⊥) → (c : CommandTree) → IsCommand ss c → ⊥
no_write ss only none (on_data s) x = absurd (let no : kinds.Data ≡ kinds.Rows = only (on_data s) x in cc)
no_write ss only none (on_rows w) x = none w x
no_write ss only none (on_cursors e) x = absurd (let no : kinds.Cursor ≡ kinds.Rows = only (on_cursors e) x in cc)
no_write ss only none (on_objects d) x = absurd (let no : kinds.Objects ≡ kinds.Rows = only (on_objects d) x in cc)

no_cursor : (ss : List Shape) → OnlyOf ss kinds.Cursor → ((e : CursorTree) → IsCursor ss e → ⊥) → (c : CommandTree) → IsCommand ss c → ⊥
no_cursor ss only none (on_data s) x = absurd (let no : kinds.Data ≡ kinds.Cursor = only (on_data s) x in cc)
no_cursor ss only none (on_rows w) x = absurd (let no : kinds.Rows ≡ kinds.Cursor = only (on_rows w) x in cc)
no_cursor ss only none (on_cursors e) x = none e x
no_cursor ss only none (on_objects d) x = absurd (let no : kinds.Objects ≡ kinds.Cursor = only (on_objects d) x in cc)

-- the reader of statements on data refused the tokens so
abbrev QueryRefused : List Shape → ReadFault → Type 0
QueryRefused ss f = ReadsAs statement_tree (Err f) (bounded_line (words_at (Before false) false ss))

-- the reader of statements on data found none
no_data : (ss : List Shape) → QueryRefused ss (faults.Refused Syntax) → (s : StatementTree) → IsStatement ss s → ⊥
no_data ss h s x = bounded_out (words_at (Before false) false ss) h s (to_terminals ss s x)

-- what a reader's fault tells of the tokens
abbrev pub Told : List Shape → ReadFault → Type 0
Told ss f = (f ≡ faults.NoMemory) ⊎ TokenCauses ss (cause_of_read f)

pub told_rows : (ss : List Shape) (f : ReadFault) → OnlyOf ss kinds.Rows → Refuses ss f → Told ss f
told_rows ss faults.NoMemory only h = inl refl
told_rows ss (faults.Refused Syntax) only h = inr (no_write ss only h)
told_rows ss (faults.Refused TooHigh) only (inl h) = inr (inl (on_rows h.0, h.1, h.2))
told_rows ss (faults.Refused TooHigh) only (inr h) = inr (inr (no_write ss only h.0, h.1))

pub told_cursor : (ss : List Shape) (f : ReadFault) → OnlyOf ss kinds.Cursor → cursor_causes.Refuses ss f → Told ss f
told_cursor ss faults.NoMemory only h = inl refl
told_cursor ss (faults.Refused Syntax) only h = inr (no_cursor ss only h)
told_cursor ss (faults.Refused TooHigh) only (inl h) = inr (inl (on_cursors h.0, h.1, h.2))
told_cursor ss (faults.Refused TooHigh) only (inr h) = inr (inr (no_cursor ss only h.0, h.1))

pub told_data : (ss : List Shape) (f : ReadFault) → OnlyOf ss kinds.Data → ReadsAs statement_tree (Err f) (bounded_line (words_at (Before false) false ss)) → Told ss f
told_data ss faults.NoMemory only h = inl refl
told_data ss (faults.Refused Syntax) only h = inr (no_query ss only (no_data ss h))
told_data ss (faults.Refused TooHigh) only h = elim (bounded_told (words_at (Before false) false ss) h) [
  | inl x ↦ inr (inl (on_data x.0, of_terminals ss x.0 x.1, x.2))
  | inr x ↦ inr (inr (no_query ss only (λ s y. x.0 s (to_terminals ss s y)), omega (arith, x.1, words_weigh (Before false) false ss)))
]

pub read_statement : (ss : List Shape) (s : StatementTree) → bounded_line (words_at (Before false) false ss) ≡ Ok s → IsStatement ss s × (statement_height s ≤ 64)
read_statement ss s h =
    let x = bounded_sound (words_at (Before false) false ss) s h in
    (of_terminals ss s x.0, x.1)

pub no_cause : (ss : List Shape) (c : CommandTree) → IsCommand ss c → command_height c ≤ 64 → command_in_range c ≡ true → is_fetch_zero_command c ≡ false → AreReadable ss → (Any IsLongName ss → ⊥) → (k : Cause) → TokenCauses ss k → ⊥
no_cause ss c x low range some r short causes.Syntax h = h c x
no_cause ss c x low range some r short causes.NameTooLong h = short h
no_cause ss c x low range some r short causes.LiteralOutOfRange (inl h) = small_at ss h.0 h.1 r h.2 h.3 h.4
no_cause ss c x low range some r short causes.LiteralOutOfRange (inr h) = absurd (let same : command_in_range h.0 ≡ command_in_range c = ap command_in_range (one_command ss h.0 c h.1 x) in let f : command_in_range h.0 ≡ false = h.2 in cc)
no_cause ss c x low range some r short causes.TooDeep (inl h) = absurd (omega (arith, h.2, ap command_height (one_command ss h.0 c h.1 x)))
no_cause ss c x low range some r short causes.TooDeep (inr h) = h.0 c x
no_cause ss c x low range some r short causes.FetchZero h = absurd (let same : is_fetch_zero_command h.0 ≡ is_fetch_zero_command c = ap is_fetch_zero_command (one_command ss h.0 c h.1 x) in let t : is_fetch_zero_command h.0 ≡ true = h.2 in cc)
no_cause ss c x low range some r short k h = absurd h

-- ---- causes of texts

text_has : (text : List ℕ) (ts : List Token) (s : CommandTree) → Lexes 0 text (views ts) → IsCommand (shapes_of ts) s → HasCommand text s
text_has text ts s l x = (views ts, l, subst (λ ss. IsCommand ss s) (sym (shapes_are ts)) x)

same_shapes : (text : List ℕ) (ts : List Token) (us : List Lexeme) → OneList text (views ts) → Lexes 0 text us → shapes us ≡ shapes_of ts
same_shapes text ts us one l = ap shapes (one us l) ∙ shapes_are ts

text_cause : (text : List ℕ) (ts : List Token) → Lexes 0 text (views ts) → OneList text (views ts) → (c : Cause) → TokenCauses (shapes_of ts) c → SyntaxCauses text c
text_cause text ts l one causes.Syntax h = λ s x. h s (subst (λ ss. IsCommand ss s) (same_shapes text ts x.0 one x.1) x.2)
text_cause text ts l one causes.NameTooLong h = (views ts, l, subst (λ ss. TokenCauses ss causes.NameTooLong) (sym (shapes_are ts)) h)
text_cause text ts l one causes.LiteralOutOfRange h = (views ts, l, subst (λ ss. TokenCauses ss causes.LiteralOutOfRange) (sym (shapes_are ts)) h)
text_cause text ts l one causes.TooDeep h = (views ts, l, subst (λ ss. TokenCauses ss causes.TooDeep) (sym (shapes_are ts)) h)
text_cause text ts l one causes.FetchZero h = (views ts, l, subst (λ ss. TokenCauses ss causes.FetchZero) (sym (shapes_are ts)) h)
text_cause text ts l one c h = absurd h

text_clear : (text : List ℕ) (ts : List Token) → Lexes 0 text (views ts) → OneList text (views ts) → ((c : Cause) → TokenCauses (shapes_of ts) c → ⊥) → (c : Cause) → SyntaxCauses text c → ⊥
text_clear text ts l one none causes.Syntax h = none causes.Syntax (λ s x. h s (text_has text ts s l x))
text_clear text ts l one none causes.NameTooLong h = none causes.NameTooLong (subst (λ ss. TokenCauses ss causes.NameTooLong) (same_shapes text ts h.0 one h.1) h.2)
text_clear text ts l one none causes.LiteralOutOfRange h = none causes.LiteralOutOfRange (subst (λ ss. TokenCauses ss causes.LiteralOutOfRange) (same_shapes text ts h.0 one h.1) h.2)
text_clear text ts l one none causes.TooDeep h = none causes.TooDeep (subst (λ ss. TokenCauses ss causes.TooDeep) (same_shapes text ts h.0 one h.1) h.2)
text_clear text ts l one none causes.FetchZero h = none causes.FetchZero (subst (λ ss. TokenCauses ss causes.FetchZero) (same_shapes text ts h.0 one h.1) h.2)
text_clear text ts l one none c h = absurd h.2

pub text_refused : {X : Type 0} (text : List ℕ) (ts : List Token) → Lexes 0 text (views ts) → OneList text (views ts) → (r : Result X Cause) → IfErr r (λ c. (c ≡ causes.OutOfMemory) ⊎ TokenCauses (shapes_of ts) c) → IfErr r (λ c. (c ≡ causes.OutOfMemory) ⊎ SyntaxCauses text c)
text_refused text ts l one (Ok x) h = tt
text_refused text ts l one (Err c) (inl h) = inl h
text_refused text ts l one (Err c) (inr h) = inr (text_cause text ts l one c h)

pub only_memory : {X : Type 0} (text : List ℕ) (r : Result X Cause) → IfErr r (λ c. (c ≡ causes.OutOfMemory) ⊎ SyntaxCauses text c) → ((c : Cause) → SyntaxCauses text c → ⊥) → IfErr r (λ c. c ≡ causes.OutOfMemory)
only_memory text (Ok x) h none = tt
only_memory text (Err c) (inl h) none = h
only_memory text (Err c) (inr h) none = absurd (none c h)

pub one_text : ((text : List ℕ) (ts us : List Lexeme) → Lexes 0 text ts → Lexes 0 text us → ts ≡ us) → (text : List ℕ) (r s : CommandTree) → HasCommand text r → HasCommand text s → r ≡ s
one_text one text r s x y =
    let same : x.0 ≡ y.0 = one text x.0 y.0 x.1 y.1 in
    one_command (shapes y.0) r s (subst (λ ts. IsCommand (shapes ts) r) same x.2) y.2

pub text_found : (text : List ℕ) (ts : List Token) → Lexes 0 text (views ts) → (r : Result Command Cause) → IfOk r (λ s. IsCommand (shapes_of ts) (command_tree s)) → IfOk r (λ s. HasCommand text (command_tree s))
text_found text ts l (Ok s) h = text_has text ts (command_tree s) l h
text_found text ts l (Err c) h = tt

pub text_none : (text : List ℕ) (ts : List Token) → Lexes 0 text (views ts) → OneList text (views ts) → (r : Result Command Cause) → OnOk r ((c : Cause) → TokenCauses (shapes_of ts) c → ⊥) → OnOk r ((c : Cause) → SyntaxCauses text c → ⊥)
text_none text ts l one (Ok s) h = text_clear text ts l one h
text_none text ts l one (Err c) h = tt

-- what the tokens of a text are no command of is no command
pub text_syntax : {X : Type 0} (text : List ℕ) (ts : List Token) → Lexes 0 text (views ts) → (r : Result X Cause) → (TokenCauses (shapes_of ts) causes.Syntax → IfErr r (λ c. c ≡ causes.NameTooLong → ⊥)) → SyntaxCauses text causes.Syntax → IfErr r (λ c. c ≡ causes.NameTooLong → ⊥)
text_syntax text ts l r h none = h (λ s x. none s (text_has text ts s l x))

-- ---- as the code has it

pub told_refused : {X : Type 0} (ss : List Shape) (f : ReadFault) (r : Result X Cause) → (f ≡ faults.NoMemory) ⊎ TokenCauses ss (cause_of_read f) → r ≡ Err (cause_of_read f) → IfErr r (λ c. (c ≡ causes.OutOfMemory) ⊎ TokenCauses ss c)
told_refused ss f r (inl h) is = rw is (inl (ap cause_of_read h))
told_refused ss f r (inr h) is = rw is (inr h)

not_memory : causes.OutOfMemory ≡ causes.NameTooLong → ⊥
not_memory h = absurd (cc)

not_syntax : causes.Syntax ≡ causes.NameTooLong → ⊥
not_syntax h = absurd (cc)

not_deep : causes.TooDeep ≡ causes.NameTooLong → ⊥
not_deep h = absurd (cc)

pub told_syntax : {X : Type 0} (f : ReadFault) (r : Result X Cause) → r ≡ Err (cause_of_read f) → IfErr r (λ c. c ≡ causes.NameTooLong → ⊥)
told_syntax faults.NoMemory r is = rw is not_memory
told_syntax (faults.Refused Syntax) r is = rw is not_syntax
told_syntax (faults.Refused TooHigh) r is = rw is not_deep

pub lexed_syntax : {X : Type 0} (f : ParseFault) (r : Result X Cause) → r ≡ Err (cause_of f) → IfErr r (λ c. c ≡ causes.NameTooLong → ⊥)
lexed_syntax parse_faults.NoMemory r is = rw is not_memory
lexed_syntax parse_faults.Syntax r is = rw is not_syntax

pub lexed_read : {X : Type 0} (A : Type 0) (text : List ℕ) (f : ParseFault) (r : Result X Cause) → LexesOnly {A = A} (Err f) text → r ≡ Err (cause_of f) → ((c : Cause) → SyntaxCauses text c → ⊥) → IfErr r (λ c. c ≡ causes.OutOfMemory)
lexed_read A text parse_faults.NoMemory r h is none = rw is refl
lexed_read A text parse_faults.Syntax r h is none = absurd (none causes.Syntax (λ s x. h x.0 x.1))

-- ---- commands written out

pub printed_again : ((text : List ℕ) (s : StatementTree) → HasStatement text s → statement_in_range s ≡ true → HasStatement (printed_statement s) s) → ((text : List ℕ) (w : WriteTree) → HasWrite text w → write_in_range w ≡ true → HasWrite (printed_write w) w) → ((text : List ℕ) (x : CursorTree) → HasCursor text x → cursor_in_range x ≡ true → HasCursor (printed_cursor x) x) → ((text : List ℕ) (d : DdlTree) → HasDdl text d → HasDdl (printed_ddl d) d) →
    (text : List ℕ) (c : CommandTree) → HasCommand text c → command_in_range c ≡ true → HasCommand (printed_command c) c
printed_again statements rows cursors objects text (on_data s) x r = statements text s x r
printed_again statements rows cursors objects text (on_rows w) x r = rows text w x r
printed_again statements rows cursors objects text (on_cursors e) x r = cursors text e x r
printed_again statements rows cursors objects text (on_objects d) x r = objects text d x

pub data_again : {A E : Type 0} (k : Command) (s : Statement) (r : Result (String A) E) → k ≡ commands.Data s →
    ((text : List ℕ) → HasStatement text (statement_tree s) → statement_in_range (statement_tree s) ≡ true → IfOk r (λ x. HasStatement (string_bytes x) (statement_tree s))) →
    (text : List ℕ) → HasCommand text (command_tree k) → command_in_range (command_tree k) ≡ true → IfOk r (λ x. HasCommand (string_bytes x) (command_tree k))
data_again k s r is h = subst (λ (y : Command). (text : List ℕ) → HasCommand text (command_tree y) → command_in_range (command_tree y) ≡ true → IfOk r (λ x. HasCommand (string_bytes x) (command_tree y))) (sym is) h

pub rows_again : {A E : Type 0} (k : Command) (s : WriteStatement) (r : Result (String A) E) → k ≡ commands.Rows s →
    ((text : List ℕ) → HasWrite text (write_tree s) → write_in_range (write_tree s) ≡ true → IfOk r (λ x. HasWrite (string_bytes x) (write_tree s))) →
    (text : List ℕ) → HasCommand text (command_tree k) → command_in_range (command_tree k) ≡ true → IfOk r (λ x. HasCommand (string_bytes x) (command_tree k))
rows_again k s r is h = subst (λ (y : Command). (text : List ℕ) → HasCommand text (command_tree y) → command_in_range (command_tree y) ≡ true → IfOk r (λ x. HasCommand (string_bytes x) (command_tree y))) (sym is) h

pub cursor_again : {A E : Type 0} (k : Command) (s : CursorStatement) (r : Result (String A) E) → k ≡ commands.Cursor s →
    ((text : List ℕ) → HasCursor text (cursor_tree s) → cursor_in_range (cursor_tree s) ≡ true → IfOk r (λ x. HasCursor (string_bytes x) (cursor_tree s))) →
    (text : List ℕ) → HasCommand text (command_tree k) → command_in_range (command_tree k) ≡ true → IfOk r (λ x. HasCommand (string_bytes x) (command_tree k))
cursor_again k s r is h = subst (λ (y : Command). (text : List ℕ) → HasCommand text (command_tree y) → command_in_range (command_tree y) ≡ true → IfOk r (λ x. HasCommand (string_bytes x) (command_tree y))) (sym is) h

pub ddl_again : {A E : Type 0} (k : Command) (d : Ddl) (r : Result (String A) E) → k ≡ commands.Ddl d →
    ((text : List ℕ) → HasDdl text (ddl_tree d) → IfOk r (λ x. HasDdl (string_bytes x) (ddl_tree d))) →
    (text : List ℕ) → HasCommand text (command_tree k) → command_in_range (command_tree k) ≡ true → IfOk r (λ x. HasCommand (string_bytes x) (command_tree k))
ddl_again k d r is h = subst (λ (y : Command). (text : List ℕ) → HasCommand text (command_tree y) → command_in_range (command_tree y) ≡ true → IfOk r (λ x. HasCommand (string_bytes x) (command_tree y))) (sym is) (λ text x fit. h text x)

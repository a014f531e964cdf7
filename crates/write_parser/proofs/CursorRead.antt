-- What is told of a statement's tokens.
use Rattle.std.proofs.Common.{◌≡◌, ℕ, ◌+◌, ◌≤◌, ◌⊎◌, inl, inr, Bool, true, false, cond, List, [], ◌∷◌, ◌++◌, refl, sym, ◌∙◌, ap, subst, arith, codes}
use Rattle.std.specs.Prelude.{Result, Ok, Err, Some, IfOk, IfErr, count_by}
use Rattle.std.specs.Str.{bytes_eq}
use Rattle.std.proofs.lemmas.Slice.Eq.{bytes_eq-Decides}
use Rattle.std.proofs.lemmas.List.Recursion.{is_count_by}
use Rattle.med_lexer.specs.Lexemes.{Shape, word}
use Rattle.med_syntax.specs.declared.refusal.ReadFault.{ReadFault}
use Rattle.med_syntax.specs.declared.refusal.ReadFault.TheVariants as faults
use Rattle.med_syntax.specs.declared.refusal.Refusal.{Refusal}
use Rattle.med_syntax.specs.declared.refusal.Refusal.TheVariants.{Syntax, TooHigh}
use Rattle.med_syntax.specs.Prelude.{ReadsAs, AreReadable, deepens, Name, Terminal, word_terminal, StatementTree, select, is_free_keyword, IsWord, AreWords, words_at, SpellsCore, Spells, IsLine, IsStatement, DdlTree, CursorTree, declare, fetch, close, cursor_height, cursor_tree}
use Rattle.med_syntax.specs.Words.{is_reserved}
use Rattle.med_syntax.specs.ExprReading.{◌>>=◌}
use Rattle.med_syntax.proofs.ExprSound.{bind_ok, ok_same}
use Rattle.med_syntax.proofs.ExprWeighing.{deep}
use Rattle.med_syntax.specs.Terminal as t
use Rattle.med_syntax.specs.declared.query_symbols.Place.TheVariants.{Before}
use Rattle.med_syntax.proofs.QueryTerminals.{to_terminals, of_terminals}
use Rattle.query_reader.specs.QueryReading.{bounded_line}
use Rattle.query_reader.proofs.QueryComplete as query_line
use Rattle.ddl_parser.specs.DdlGrammar.{Both, IsEnd, IsDdl}
use Rattle.ddl_parser.specs.DdlReading.{seq, behind_word, words_if}
use Rattle.ddl_parser.proofs.DdlSound.{FoundForm, word_is, err_ok}
use Rattle.ddl_parser.proofs.DdlComplete as ddl
use Rattle.med_syntax.specs.declared.cursor.CursorStatement.{CursorStatement}
use Rattle.write_parser.specs.CursorGrammar.{Declaring, QueryIs, IsCursor}
use Rattle.write_parser.specs.CursorReading.{held_of, properties_of, declared_of, plain_of, ended, plain_line, query_of, line_behind, line_of}
use Rattle.write_parser.specs.CursorCauses.{Refuses}
use Rattle.query_reader.proofs.QueryWeighing.{words_weigh, bounded_sound, bounded_out, bounded_told}
use Rattle.write_parser.proofs.CursorSound.{Plain, declared_sound, plain_line_sound, plain_found}
use Rattle.write_parser.proofs.CursorComplete.{declared_takes, plain_line_takes, undeclared, first_fetch, first_close, first_declare}

-- the terminals of a query's tokens
abbrev Words : List Shape → List Terminal
Words ss = words_at (Before false) false ss

-- ---- what is read is spelled

query_asked : (n : Name) (ss : List Shape) (d : CursorTree) → query_of n ss ≡ Ok d → (q : StatementTree) × (bounded_line (Words ss) ≡ Ok q) × (declare n q ≡ d)
unfolding query_of
query_asked n ss d h =
    let x = bind_ok (bounded_line (Words ss)) (λ q. Ok (declare n q)) d h in
    (x.0, x.1, ok_same (declare n x.0) d x.2)

declared_as : (ss : List Shape) (n : Name) (rest : List Shape) (q : StatementTree) → declared_of ss ≡ Ok (n, rest) → IsStatement rest q → IsCursor ss (declare n q)
declared_as ss n rest q p s =
    let f : FoundForm (Declaring n) ss rest = declared_sound ss n rest p in
    record { front = f.front; behind = rest; is = f.is; first = f.spelled; second = s }

-- a tree with no expression higher than 64
abbrev Low : List Shape → CursorTree → Type 0
Low ss d = IsCursor ss d × (cursor_height d ≤ 64)

asked_sound : (ss : List Shape) (n : Name) (rest : List Shape) (d : CursorTree) → declared_of ss ≡ Ok (n, rest) → query_of n rest ≡ Ok d → Low ss d
asked_sound ss n rest d p h =
    let x = query_asked n rest d h in
    let y = bounded_sound (Words rest) x.0 x.1 in
    subst (Low ss) x.2 (declared_as ss n rest x.0 p (of_terminals rest x.0 y.0), y.1)

plain_low : (ss : List Shape) (d : CursorTree) → Both (Plain d) IsEnd ss → cursor_height d ≤ 64
plain_low ss (declare n q) s = absurd s.first
plain_low ss (fetch c n) s = omega arith
plain_low ss (close n) s = omega arith

line_sound : (ss : List Shape) (d : CursorTree) → line_of ss ≡ Ok d → Low ss d
unfolding line_of
line_sound ss d h =
    let go : (r : Result (Name × List Shape) Refusal) → declared_of ss ≡ r → line_behind r (plain_line ss) ≡ Ok d → Low ss d = elim [
      | Ok x ↦ (λ p q. asked_sound ss x.0 x.1 d p q)
      | Err e ↦ (λ p q. (plain_found ss d q, plain_low ss d (plain_line_sound ss d q)))
    ]
    in go (declared_of ss) refl h

pub line_found : (ss : List Shape) (r : Result CursorStatement ReadFault) → ReadsAs cursor_tree r (line_of ss) → IfOk r (λ c. IsCursor ss (cursor_tree c))
line_found ss (Ok c) h = (line_sound ss (cursor_tree c) h).0
line_found ss (Err f) h = tt

pub line_low : (ss : List Shape) (r : Result CursorStatement ReadFault) → ReadsAs cursor_tree r (line_of ss) → IfOk r (λ c. cursor_height (cursor_tree c) ≤ 64)
line_low ss (Ok c) h = (line_sound ss (cursor_tree c) h).1
line_low ss (Err f) h = tt

-- ---- one tree

declared_at : (ss : List Shape) (n : Name) (q : StatementTree) (x : Both (Declaring n) (QueryIs q) ss) → declared_of ss ≡ Ok (n, x.behind)
declared_at ss n q x = ap declared_of x.is ∙ declared_takes n x.front x.behind x.first

-- what is declared is no statement without a query
plain_apart : (ss : List Shape) (x : Name × List Shape) (d : CursorTree) → declared_of ss ≡ Ok x → Both (Plain d) IsEnd ss → ⊥
plain_apart ss x d p s = err_ok Syntax x (sym (undeclared ss d s) ∙ p)

-- the query that stands behind what was read is the declared one
query_behind : (ss : List Shape) (x : Name × List Shape) (n : Name) (q : StatementTree) → declared_of ss ≡ Ok x → IsCursor ss (declare n q) → (n ≡ x.0) × IsStatement x.1 q
query_behind ss x n q p s =
    let same : (n, s.behind) ≡ x = ok_same (n, s.behind) x (sym (declared_at ss n q s) ∙ p) in
    (ap (λ (y : Name × List Shape). y.0) same, subst (λ (y : Name × List Shape). IsStatement y.1 q) same s.second)

same_declared : (n m : Name) (q r : StatementTree) → n ≡ m → q ≡ r → declare n q ≡ declare m r
same_declared n m q r f g = (λ i. declare (f i) (g i))

one_query : (ss : List Shape) (r s : StatementTree) → IsStatement ss r → IsStatement ss s → r ≡ s
one_query ss r s x y = query_line.one_line (Words ss) r s (to_terminals ss r x) (to_terminals ss s y)

one_declared : (ss : List Shape) (n m : Name) (q r : StatementTree) → IsCursor ss (declare n q) → IsCursor ss (declare m r) → declare n q ≡ declare m r
one_declared ss n m q r x y =
    let k = query_behind ss (m, y.behind) n q (declared_at ss m r y) x in
    same_declared n m q r k.0 (one_query y.behind q r k.1 y.second)

one_plain : (ss : List Shape) (a b : CursorTree) → Both (Plain a) IsEnd ss → Both (Plain b) IsEnd ss → a ≡ b
one_plain ss a b x y = ok_same a b (sym (plain_line_takes ss a x) ∙ plain_line_takes ss b y)

pub one_cursor : (ss : List Shape) (a b : CursorTree) → IsCursor ss a → IsCursor ss b → a ≡ b
one_cursor ss (declare n q) (declare m r) x y = one_declared ss n m q r x y
one_cursor ss (declare n q) (fetch c m) x y = absurd (plain_apart ss (n, x.behind) (fetch c m) (declared_at ss n q x) y)
one_cursor ss (declare n q) (close m) x y = absurd (plain_apart ss (n, x.behind) (close m) (declared_at ss n q x) y)
one_cursor ss (fetch c n) (declare m q) x y = absurd (plain_apart ss (m, y.behind) (fetch c n) (declared_at ss m q y) x)
one_cursor ss (close n) (declare m q) x y = absurd (plain_apart ss (m, y.behind) (close n) (declared_at ss m q y) x)
one_cursor ss (fetch c n) (fetch d m) x y = one_plain ss (fetch c n) (fetch d m) x y
one_cursor ss (fetch c n) (close m) x y = one_plain ss (fetch c n) (close m) x y
one_cursor ss (close n) (fetch c m) x y = one_plain ss (close n) (fetch c m) x y
one_cursor ss (close n) (close m) x y = one_plain ss (close n) (close m) x y

-- ---- what is refused

query_failed : (n : Name) (ss : List Shape) (f : Refusal) → query_of n ss ≡ Err f → bounded_line (Words ss) ≡ Err f
unfolding query_of
query_failed n ss f h =
    let go : (r : Result StatementTree Refusal) → ◌≡◌ {A = Result CursorTree Refusal} (r >>= λ q. Ok (declare n q)) (Err f) → r ≡ Err f = elim [
      | Ok q ↦ (λ e. absurd (err_ok f (declare n q) (sym e)))
      | Err g ↦ (λ e. ap Err (let same : g ≡ f = cc in same))
    ]
    in go (bounded_line (Words ss)) h

-- nothing is spelled where what was declared has no query
none_asked : (ss : List Shape) (x : Name × List Shape) → declared_of ss ≡ Ok x → ((q : StatementTree) → IsLine (Words x.1) q → ⊥) → (d : CursorTree) → IsCursor ss d → ⊥
none_asked ss x p none (declare n q) s = none q (to_terminals x.1 q (query_behind ss x n q p s).1)
none_asked ss x p none (fetch c n) s = plain_apart ss x (fetch c n) p s
none_asked ss x p none (close n) s = plain_apart ss x (close n) p s

-- nothing is spelled where nothing is declared, and there is no statement without a query
none_plain : (ss : List Shape) (e f : Refusal) → declared_of ss ≡ Err e → plain_line ss ≡ Err f → (d : CursorTree) → IsCursor ss d → ⊥
none_plain ss e f p h (declare n q) s = err_ok e (n, s.behind) (sym p ∙ declared_at ss n q s)
none_plain ss e f p h (fetch c n) s = err_ok f (fetch c n) (sym h ∙ plain_line_takes ss (fetch c n) s)
none_plain ss e f p h (close n) s = err_ok f (close n) (sym h ∙ plain_line_takes ss (close n) s)

deep_is : (ss : List Shape) → deep ss ≡ count_by deepens ss
deep_is ss = is_count_by deep deepens refl (λ s ss. refl) ss

more_or_same : (b : Bool) (n m : ℕ) → n ≤ m → n ≤ cond b (1 + m) m
more_or_same true n m h = omega (arith, h)
more_or_same false n m h = h

deep_more : (front behind : List Shape) → deep behind ≤ deep (front ++ behind)
deep_more [] behind = omega arith
deep_more (s ∷ front) behind = more_or_same (deepens s) (deep behind) (deep (front ++ behind)) (deep_more front behind)

heavy_behind : (ss : List Shape) (front behind : List Shape) → ss ≡ front ++ behind → count_by deepens behind ≤ count_by deepens ss
heavy_behind ss front behind is = omega (arith, deep_more front behind, deep_is behind, deep_is ss, ap deep is)

asked_refused : (ss : List Shape) (x : Name × List Shape) (f : Refusal) → declared_of ss ≡ Ok x → bounded_line (Words x.1) ≡ Err f → Refuses ss (faults.Refused f)
asked_refused ss x Syntax p h = none_asked ss x p (bounded_out (Words x.1) h)
asked_refused ss x TooHigh p h =
    let f : FoundForm (Declaring x.0) ss x.1 = declared_sound ss x.0 x.1 p in
    elim (bounded_told (Words x.1) h) [
      | inl y ↦ inl (declare x.0 y.0, declared_as ss x.0 x.1 y.0 p (of_terminals x.1 y.0 y.1), y.2)
      | inr y ↦ inr (none_asked ss x p y.0, omega (arith, y.1, words_weigh (Before false) false x.1, heavy_behind ss f.front x.1 f.is))
    ]

not_high : (r : Result (CursorTree × List Shape) Refusal) → ended r ≡ Err TooHigh → ⊥
not_high (Ok x) h =
    let go : (b : Bool) → ◌≡◌ {A = Result CursorTree Refusal} (cond b (Ok x.0) (Err Syntax)) (Err TooHigh) → ⊥ = elim [ true ↦ (λ e. absurd (cc)) | false ↦ (λ e. absurd (cc)) ] in
    go _ h
not_high (Err e) h = absurd (let bad : ◌≡◌ {A = Result CursorTree Refusal} (Err Syntax) (Err TooHigh) = h in cc)

plain_not_high : (ss : List Shape) → plain_line ss ≡ Err TooHigh → ⊥
unfolding plain_line
plain_not_high ss h = not_high (plain_of ss) h

plain_refused : (ss : List Shape) (e f : Refusal) → declared_of ss ≡ Err e → plain_line ss ≡ Err f → Refuses ss (faults.Refused f)
plain_refused ss e Syntax p h = none_plain ss e Syntax p h
plain_refused ss e TooHigh p h = absurd (plain_not_high ss h)

line_refuses : (ss : List Shape) (f : Refusal) → line_of ss ≡ Err f → Refuses ss (faults.Refused f)
unfolding line_of
line_refuses ss f h =
    let go : (r : Result (Name × List Shape) Refusal) → declared_of ss ≡ r → line_behind r (plain_line ss) ≡ Err f → Refuses ss (faults.Refused f) = elim [
      | Ok x ↦ (λ p q. asked_refused ss x f p (query_failed x.0 x.1 f q))
      | Err e ↦ (λ p q. plain_refused ss e f p q)
    ]
    in go (declared_of ss) refl h

pub line_refused : (ss : List Shape) (r : Result CursorStatement ReadFault) → ReadsAs cursor_tree r (line_of ss) → IfErr r (Refuses ss)
line_refused ss (Ok c) h = tt
line_refused ss (Err faults.NoMemory) h = tt
line_refused ss (Err (faults.Refused f)) h = line_refuses ss f h

-- ---- as the code has it

pub readable_behind : (front behind : List Shape) → AreReadable (front ++ behind) → AreReadable behind
readable_behind [] behind h = h
readable_behind (x ∷ front) behind h = readable_behind front behind h.1

pub word_readable : (w : List ℕ) (ss after : List Shape) → behind_word w ss ≡ Some after → AreReadable ss → AreReadable after
word_readable w ss after h r = (subst AreReadable (word_is w ss after h) r).1

pub query_readable : (ss : List Shape) (n : Name) (rest : List Shape) → declared_of ss ≡ Ok (n, rest) → AreReadable ss → AreReadable rest
query_readable ss n rest p h =
    let f : FoundForm (Declaring n) ss rest = declared_sound ss n rest p in
    readable_behind f.front rest (subst AreReadable f.is h)

pub properties_at : (ss us vs : List Shape) (b c : Bool) → words_if (codes "insensitive" ∷ []) ss ≡ Ok (b, us) → words_if (codes "no" ∷ codes "scroll" ∷ []) us ≡ Ok (c, vs) → properties_of ss ≡ held_of vs
unfolding properties_of seq
properties_at ss us vs b c h k = rw h (rw k refl)

-- ---- the first word

-- the first word of a statement on cursors
abbrev Begins : List ℕ → List Shape → Type 0
Begins w ss = (us : List Shape) × (ss ≡ word w ∷ us)

pub begun : (ss : List Shape) (c : CursorTree) → IsCursor ss c → Begins (codes "declare") ss ⊎ Begins (codes "fetch") ss ⊎ Begins (codes "close") ss
begun ss (declare n q) s = inl (first_declare ss n s)
begun ss (fetch c n) s = inr (inl (first_fetch ss c n s))
begun ss (close n) s = inr (inr (first_close ss n s))

same_first : (v w : List ℕ) (us vs : List Shape) → word v ∷ us ≡ word w ∷ vs → v ≡ w
same_first v w us vs h = cc

words_apart : (ss : List Shape) (v w : List ℕ) → bytes_eq v w ≡ false → Begins v ss → Begins w ss → ⊥
words_apart ss v w f x y = absurd (let yes : bytes_eq v w ≡ true = (bytes_eq-Decides v w).1 (same_first v w x.0 y.0 (sym x.1 ∙ y.1)) in cc)

pub no_ddl : (ss : List Shape) (c : CursorTree) (d : DdlTree) → IsCursor ss c → IsDdl ss d → ⊥
no_ddl ss c d x y =
    let go : (w : List ℕ) → bytes_eq w (codes "create") ≡ false → bytes_eq w (codes "drop") ≡ false → Begins w ss → ⊥ = λ w f g b.
    elim (ddl.begun ss d y) [ inl h ↦ words_apart ss w (codes "create") f b h | inr h ↦ words_apart ss w (codes "drop") g b h ]
    in
    elim (begun ss c x) [
      | inl h ↦ go (codes "declare") refl refl h
      | inr (inl h) ↦ go (codes "fetch") refl refl h
      | inr (inr h) ↦ go (codes "close") refl refl h
    ]

-- the terminal of a word that is no keyword without being reserved, and not UNKNOWN
word_terminals : (w : List ℕ) (u : Terminal) → is_free_keyword w ≡ false → bytes_eq w (codes "unknown") ≡ false → IsWord (word w) u → u ≡ word_terminal w
word_terminals w u f n (inl (inl h)) = h
word_terminals w u f n (inl (inr h)) = absurd (let equal : w ≡ codes "unknown" = same_first w (codes "unknown") [] [] (ap (λ s. s ∷ []) h.0) in let yes : bytes_eq w (codes "unknown") ≡ true = (bytes_eq-Decides w (codes "unknown")).1 equal in cc)
word_terminals w u f n (inr h) = absurd (let equal : w ≡ h.0 = same_first w h.0 [] [] (ap (λ s. s ∷ []) h.1) in let no : is_free_keyword h.0 ≡ false = ap is_free_keyword (sym equal) ∙ f in cc)

declare_terminal : word_terminal (codes "declare") ≡ t.Reserved (codes "declare")
unfolding is_reserved
declare_terminal = refl

fetch_terminal : word_terminal (codes "fetch") ≡ t.Reserved (codes "fetch")
unfolding is_reserved
fetch_terminal = refl

close_terminal : word_terminal (codes "close") ≡ t.Name (codes "close")
unfolding is_reserved
close_terminal = refl

begins_select : (s : StatementTree) (ts : List Terminal) → Spells s ts → (rest : List Terminal) × (ts ≡ t.Reserved (codes "select") ∷ rest)
begins_select (select q) ts x =
    let c : SpellsCore q.core x.core = x.first in
    let behind : List Terminal = x.others ++ (x.keys ++ x.limits) in
    ((c.quantifier ++ (c.items ++ (c.from ++ (c.condition ++ (c.groups ++ c.having))))) ++ behind, x.is ∙ ap (λ us. us ++ behind) c.is)

first_select : (ss : List Shape) (s : StatementTree) → IsStatement ss s → (rest : List Terminal) × AreWords ss (t.Reserved (codes "select") ∷ rest)
first_select ss s x =
    let b = begins_select s x.2.0 x.2.3 in
    (b.0 ++ x.2.1, subst (AreWords ss) (x.2.2 ∙ ap (λ us. us ++ x.2.1) b.1) x.1)

-- what begins with a word of another terminal is no query
select_apart : (w : List ℕ) (ss : List Shape) (s : StatementTree) → is_free_keyword w ≡ false → bytes_eq w (codes "unknown") ≡ false → (word_terminal w ≡ t.Reserved (codes "select") → ⊥) → Begins w ss → IsStatement ss s → ⊥
select_apart w ss s f n other b x =
    let k = first_select ss s x in
    let a : AreWords (word w ∷ b.0) (t.Reserved (codes "select") ∷ k.0) = subst (λ us. AreWords us (t.Reserved (codes "select") ∷ k.0)) b.1 k.1 in
    other (sym (word_terminals w (t.Reserved (codes "select")) f n a.0))

reserved_apart : (v w : List ℕ) → bytes_eq v w ≡ false → t.Reserved v ≡ t.Reserved w → ⊥
reserved_apart v w f h = absurd (let equal : v ≡ w = cc in let yes : bytes_eq v w ≡ true = (bytes_eq-Decides v w).1 equal in cc)

name_apart : (v w : List ℕ) → t.Name v ≡ t.Reserved w → ⊥
name_apart v w h = absurd (cc)

pub no_query : (ss : List Shape) (c : CursorTree) (s : StatementTree) → IsCursor ss c → IsStatement ss s → ⊥
no_query ss c s x y =
    elim (begun ss c x) [
      | inl h ↦ select_apart (codes "declare") ss s refl refl (λ e. reserved_apart (codes "declare") (codes "select") refl (sym declare_terminal ∙ e)) h y
      | inr (inl h) ↦ select_apart (codes "fetch") ss s refl refl (λ e. reserved_apart (codes "fetch") (codes "select") refl (sym fetch_terminal ∙ e)) h y
      | inr (inr h) ↦ select_apart (codes "close") ss s refl refl (λ e. name_apart (codes "close") (codes "select") (sym close_terminal ∙ e)) h y
    ]

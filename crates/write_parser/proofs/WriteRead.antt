-- What is told of a statement's tokens.
use Rattle.std.proofs.Common.{◌≡◌, ℕ, ◌+◌, ◌≤◌, ◌<◌, ◌⊎◌, inl, inr, Bool, true, false, cond, List, [], ◌∷◌, ◌++◌, length, refl, sym, ◌∙◌, ap, subst, ◌-◌, arith, length-append}
use Rattle.std.specs.Prelude.{Result, Ok, Err, IfOk, IfErr, Option, count_by, take, drop}
use Rattle.std.proofs.lemmas.List.Recursion.{is_count_by}
use Rattle.std.proofs.lemmas.List.{take_rest, drop-map, drop_at, length-map}
use Rattle.med_lexer.specs.declared.Token.{Token}
use Rattle.med_lexer.specs.View.{shape_of}
use Rattle.med_syntax.specs.Prelude.{shapes_of, terminal_of_symbol, terminals_of, ReadsAs, terminals_at, AreReadable, deepens, Name, Terminal, SelectTree, StatementTree, select, statement_height, select_tree, statement_tree, words_at, IsLine, IsStatement, rows_of, WriteTree, insert, given_height, write_height, given_tree, write_tree}
use Rattle.med_syntax.specs.declared.symbols.Symbol.{Symbol}
use Rattle.med_lexer.specs.Lexemes.{Shape}
use Rattle.med_syntax.specs.declared.refusal.ReadFault.{ReadFault}
use Rattle.med_syntax.specs.declared.refusal.ReadFault.TheVariants as faults
use Rattle.med_syntax.specs.declared.refusal.Refusal.{Refusal}
use Rattle.med_syntax.specs.declared.refusal.Refusal.TheVariants.{Syntax, TooHigh}
use Rattle.med_syntax.proofs.ExprTerminals.{terminals_are}
use Rattle.med_syntax.proofs.ExprWeighing.{weight_is, deep}
use Rattle.med_syntax.proofs.ExprSound.{ok_same}
use Rattle.med_syntax.specs.declared.statement.Statement.{Statement}
use Rattle.med_syntax.specs.declared.statement.Statement.TheVariants as s
use Rattle.med_syntax.specs.declared.query_symbols.Place.TheVariants.{Before}
use Rattle.med_syntax.proofs.QueryTerminals.{to_terminals, of_terminals}
use Rattle.query_reader.specs.QueryReading.{bounded_line}
use Rattle.query_reader.proofs.PartSound.{err_ok}
use Rattle.query_reader.proofs.QueryComplete as query_line
use Rattle.med_syntax.specs.declared.write.Given.TheVariants as g
use Rattle.med_syntax.specs.declared.write.WriteStatement.{WriteStatement}
use Rattle.write_parser.specs.WriteGrammar.{IsInsert, IsWrite}
use Rattle.write_parser.specs.WriteReading.{query_at, bounded_plain}
use Rattle.write_parser.specs.WriteCauses.{Refuses}
use Rattle.write_parser.proofs.WriteSound.{IsPlain}
use Rattle.write_parser.proofs.WriteComplete.{reads_line, one_line}
use Rattle.query_reader.proofs.QueryWeighing.{words_weigh}
use Rattle.query_reader.proofs.QueryWeighing as query
use Rattle.write_parser.proofs.WriteWeighing.{bounded_sound, bounded_out, bounded_told}
use Rattle.write_parser.proofs.WriteTokens.{AskedInsert, Parted, plain_write, write_cases, query_reads, query_plain, query_parted, same_length}

-- ---- statements without a query

pub plain_found : (ss : List Shape) (r : Result WriteStatement ReadFault) → ReadsAs write_tree r (bounded_plain (terminals_at false ss)) → IfOk r (λ w. IsWrite ss (write_tree w))
plain_found ss (Ok w) h = plain_write ss (write_tree w) (bounded_sound (terminals_at false ss) (write_tree w) h).0
plain_found ss (Err f) h = tt

pub plain_low : (ss : List Shape) (r : Result WriteStatement ReadFault) → ReadsAs write_tree r (bounded_plain (terminals_at false ss)) → IfOk r (λ w. write_height (write_tree w) ≤ 64)
plain_low ss (Ok w) h = (bounded_sound (terminals_at false ss) (write_tree w) h).1
plain_low ss (Err f) h = tt

-- nothing is spelled where neither is
none_spelled : (ss : List Shape) (e : Refusal) → query_at (terminals_at false ss) ≡ Err e → ((w : WriteTree) → IsPlain (terminals_at false ss) w → ⊥) → (w : WriteTree) → IsWrite ss w → ⊥
none_spelled ss e outside none w x =
    elim (write_cases ss w x) [
      | inl h ↦ none w h
      | inr a ↦ absurd (err_ok e ((a.table, a.columns), terminals_at false (a.spelled).1) (sym outside ∙ query_reads ss a.table a.columns a.query a.spelled))
    ]

pub plain_refused : (ss : List Shape) (e : Refusal) → query_at (terminals_at false ss) ≡ Err e → (r : Result WriteStatement ReadFault) → ReadsAs write_tree r (bounded_plain (terminals_at false ss)) → IfErr r (Refuses ss)
plain_refused ss e outside (Ok w) h = tt
plain_refused ss e outside (Err faults.NoMemory) h = tt
plain_refused ss e outside (Err (faults.Refused Syntax)) h = none_spelled ss e outside (bounded_out (terminals_at false ss) h)
plain_refused ss e outside (Err (faults.Refused TooHigh)) h =
    elim (bounded_told (terminals_at false ss) h) [
      | inl x ↦ inl (x.0, plain_write ss x.0 x.1, x.2)
      | inr x ↦ inr (none_spelled ss e outside x.0, omega (arith, x.1, weight_is false ss))
    ]

-- ---- INSERT of a query

pub given_found : (ss : List Shape) (n : Name) (c : Option (List Name)) (rest : List Terminal) (y : Parted ss n c rest) (q : Statement) → bounded_line (words_at (Before false) false y.behind) ≡ Ok (statement_tree q) → IsInsert n c (given_tree (g.Rows q)) ss
given_found ss n c rest y (s.Select q) h =
    (y.front, y.behind, y.is, y.spelled, of_terminals y.behind (select (select_tree q)) (query.bounded_sound (words_at (Before false) false y.behind) (select (select_tree q)) h).0)

pub given_low : (ss : List Shape) (q : Statement) → bounded_line (words_at (Before false) false ss) ≡ Ok (statement_tree q) → given_height (given_tree (g.Rows q)) ≤ 64
given_low ss (s.Select q) h = (query.bounded_sound (words_at (Before false) false ss) (select (select_tree q)) h).1

suffix_same : (a b c d : List Shape) → a ++ b ≡ c ++ d → length b ≡ length d → b ≡ d
suffix_same [] b [] d h l = h
suffix_same [] b (y ∷ c) d h l = absurd (omega (arith, ap length h, l, length-append c d))
suffix_same (x ∷ a) b [] d h l = absurd (omega (arith, ap length h, l, length-append a b))
suffix_same (x ∷ a) b (y ∷ c) d h l = suffix_same a b c d (let same : a ++ b ≡ c ++ d = cc in same) l

asked_behind : (ss : List Shape) (n : Name) (c : Option (List Name)) (rest : List Terminal) → query_at (terminals_at false ss) ≡ Ok ((n, c), rest) → (y : Parted ss n c rest) → (w : WriteTree) → (a : AskedInsert ss w) → IsStatement y.behind (select a.query)
asked_behind ss n c rest at y w a =
    let x = a.spelled in
    let both : Ok ((n, c), rest) ≡ Ok ((a.table, a.columns), terminals_at false x.1) = sym at ∙ query_reads ss a.table a.columns a.query x in
    let same : rest ≡ terminals_at false x.1 = ap (λ (p : (Name × Option (List Name)) × List Terminal). p.1) (ok_same ((n, c), rest) ((a.table, a.columns), terminals_at false x.1) both) in
    let long : length x.1 ≡ length y.behind = same_length x.1 (terminals_at false x.1) (terminals_are false x.1) ∙ ap length (sym same) ∙ sym y.same in
    subst (λ us. IsStatement us (select a.query)) (suffix_same x.0 x.1 y.front y.behind (sym x.2 ∙ y.is) long) x.4

plain_none : (ss : List Shape) (x : Name × Option (List Name)) (rest : List Terminal) → query_at (terminals_at false ss) ≡ Ok (x, rest) → (w : WriteTree) → IsPlain (terminals_at false ss) w → ⊥
plain_none ss x rest at w h =
    err_ok Syntax w (sym (query_plain (terminals_at false ss) x rest at (write_height w)) ∙ reads_line (write_height w) (terminals_at false ss) w h (omega arith))

none_asked : (ss : List Shape) (n : Name) (c : Option (List Name)) (rest : List Terminal) → query_at (terminals_at false ss) ≡ Ok ((n, c), rest) → (y : Parted ss n c rest) → ((q : StatementTree) → IsLine (words_at (Before false) false y.behind) q → ⊥) → (w : WriteTree) → IsWrite ss w → ⊥
none_asked ss n c rest at y none w x =
    elim (write_cases ss w x) [
      | inl h ↦ plain_none ss (n, c) rest at w h
      | inr a ↦ none (select a.query) (to_terminals y.behind (select a.query) (asked_behind ss n c rest at y w a))
    ]

deep_is : (ss : List Shape) → deep ss ≡ count_by deepens ss
deep_is ss = is_count_by deep deepens refl (λ s ss. refl) ss

more_or_same : (b : Bool) (n m : ℕ) → n ≤ m → n ≤ cond b (1 + m) m
more_or_same true n m h = omega (arith, h)
more_or_same false n m h = h

deep_more : (front behind : List Shape) → deep behind ≤ deep (front ++ behind)
deep_more [] behind = omega arith
deep_more (s ∷ front) behind = more_or_same (deepens s) (deep behind) (deep (front ++ behind)) (deep_more front behind)

heavy_behind : (ss : List Shape) (front behind : List Shape) → ss ≡ front ++ behind → count_by deepens behind ≤ count_by deepens ss
heavy_behind ss front behind is = omega (arith, deep_more front behind, deep_is behind, deep_is ss, ap deep is)

told_high : (ss : List Shape) (n : Name) (c : Option (List Name)) (rest : List Terminal) (y : Parted ss n c rest) (q : StatementTree) → IsLine (words_at (Before false) false y.behind) q → 64 < statement_height q → (w : WriteTree) × IsWrite ss w × (64 < write_height w)
told_high ss n c rest y (select q) l h = (insert (record { table = n; columns = c; given = rows_of q }), (y.front, y.behind, y.is, y.spelled, of_terminals y.behind (select q) l), h)

pub query_refused : (ss : List Shape) (n : Name) (c : Option (List Name)) (rest : List Terminal) → query_at (terminals_at false ss) ≡ Ok ((n, c), rest) → (y : Parted ss n c rest) → (f : ReadFault) → ReadsAs statement_tree (Err f) (bounded_line (words_at (Before false) false y.behind)) → Refuses ss f
query_refused ss n c rest at y faults.NoMemory h = tt
query_refused ss n c rest at y (faults.Refused Syntax) h = none_asked ss n c rest at y (query.bounded_out (words_at (Before false) false y.behind) h)
query_refused ss n c rest at y (faults.Refused TooHigh) h =
    elim (query.bounded_told (words_at (Before false) false y.behind) h) [
      | inl x ↦ inl (told_high ss n c rest y x.0 x.1 x.2)
      | inr x ↦ inr (none_asked ss n c rest at y x.0, omega (arith, x.1, words_weigh (Before false) false y.behind, heavy_behind ss y.front y.behind y.is))
    ]

-- ---- as the code has it

readable_behind : (front behind : List Shape) → AreReadable (front ++ behind) → AreReadable behind
readable_behind [] behind h = h
readable_behind (x ∷ front) behind h = readable_behind front behind h.1

suffix_length : (ts : List Token) (n : Name) (c : Option (List Name)) (rest : List Terminal) → (y : Parted (shapes_of ts) n c rest) → length y.front + length rest ≡ length ts
suffix_length ts n c rest y = omega (arith, ap length y.is, length-append y.front y.behind, y.same, length-map ts (λ (t : Token). shape_of t.kind))

pub suffix_within : (ts : List Token) (n : Name) (c : Option (List Name)) (rest : List Symbol) → Parted (shapes_of ts) n c (terminals_of rest) → length rest ≤ length ts
suffix_within ts n c rest y = omega (arith, suffix_length ts n c (terminals_of rest) y, length-map rest terminal_of_symbol)

pub suffix_is : (ts : List Token) (n : Name) (c : Option (List Name)) (rest : List Symbol) → (y : Parted (shapes_of ts) n c (terminals_of rest)) →
    shapes_of (take (length ts - (length ts - length rest)) (drop (length ts - length rest) ts)) ≡ y.behind
suffix_is ts n c rest y =
    let k : ℕ = length ts - length rest in
    let long : length y.front ≡ k = omega (arith, suffix_length ts n c (terminals_of rest) y, length-map rest terminal_of_symbol) in
    ap shapes_of (take_rest ts k) ∙ sym (drop-map (λ (t : Token). shape_of t.kind) k ts) ∙ ap (drop k) y.is ∙ drop_at y.front y.behind k long

pub suffix_readable : (ss : List Shape) (n : Name) (c : Option (List Name)) (rest : List Terminal) → (y : Parted ss n c rest) → AreReadable ss → AreReadable y.behind
suffix_readable ss n c rest y h = readable_behind y.front y.behind (subst AreReadable y.is h)

pub refused_at : {X Y : Type 0} (view : X → Y) (f : ReadFault) (e : Refusal) (r : Result Y Refusal) → ReadsAs view (Err f) r → f ≡ faults.Refused e → r ≡ Err e
refused_at view faults.NoMemory e r h is = absurd (cc)
refused_at view (faults.Refused d) e r h is = h ∙ ap Err (let same : d ≡ e = cc in same)

pub refused_as : (ss : List Shape) (f : ReadFault) (r : Result WriteStatement ReadFault) → Refuses ss f → r ≡ Err f → IfErr r (Refuses ss)
refused_as ss f r h is = rw is h

-- ---- one tree

same_insert : (n m : Name) (b c : Option (List Name)) (q r : SelectTree) → n ≡ m → b ≡ c → q ≡ r → insert (record { table = n; columns = b; given = rows_of q }) ≡ insert (record { table = m; columns = c; given = rows_of r })
same_insert n m b c q r f g h = (λ i. insert (record { table = f i; columns = g i; given = rows_of (h i) }))

query_of_select : (q r : SelectTree) → select q ≡ select r → q ≡ r
query_of_select q r h = cc

one_asked : (ss : List Shape) (v w : WriteTree) → AskedInsert ss v → AskedInsert ss w → v ≡ w
one_asked ss v w a b =
    let rest : List Terminal = terminals_at false (a.spelled).1 in
    let at : query_at (terminals_at false ss) ≡ Ok ((a.table, a.columns), rest) = query_reads ss a.table a.columns a.query a.spelled in
    let other : query_at (terminals_at false ss) ≡ Ok ((b.table, b.columns), terminals_at false (b.spelled).1) = query_reads ss b.table b.columns b.query b.spelled in
    let same = ok_same ((a.table, a.columns), rest) ((b.table, b.columns), terminals_at false (b.spelled).1) (sym at ∙ other) in
    let y : Parted ss a.table a.columns rest = query_parted ss (a.table, a.columns) rest at in
    let queries = query_of_select a.query b.query (query_line.one_line (words_at (Before false) false y.behind) (select a.query) (select b.query)
    (to_terminals y.behind (select a.query) (asked_behind ss a.table a.columns rest at y v a)) (to_terminals y.behind (select b.query) (asked_behind ss a.table a.columns rest at y w b)))
    in
    a.is
    ∙ same_insert a.table b.table a.columns b.columns a.query b.query (ap (λ (p : (Name × Option (List Name)) × List Terminal). p.0.0) same) (ap (λ (p : (Name × Option (List Name)) × List Terminal). p.0.1) same) queries
    ∙ sym b.is

pub one_write : (ss : List Shape) (v w : WriteTree) → IsWrite ss v → IsWrite ss w → v ≡ w
one_write ss v w x y =
    let go : IsPlain (terminals_at false ss) v ⊎ AskedInsert ss v → IsPlain (terminals_at false ss) w ⊎ AskedInsert ss w → v ≡ w = elim [
      | inl a ↦ elim [
        | inl b ↦ one_line (terminals_at false ss) v w a b
        | inr b ↦ absurd (plain_none ss (b.table, b.columns) (terminals_at false (b.spelled).1) (query_reads ss b.table b.columns b.query b.spelled) v a)
      ]
      | inr a ↦ elim [
        | inl b ↦ absurd (plain_none ss (a.table, a.columns) (terminals_at false (a.spelled).1) (query_reads ss a.table a.columns a.query a.spelled) w b)
        | inr b ↦ one_asked ss v w a b
      ]
    ]
    in go (write_cases ss v x) (write_cases ss w y)

-- The terminals of tokens that are a statement that writes rows.
use Rattle.std.proofs.Common.{◌≡◌, ℕ, suc, ◌⊎◌, inl, inr, Bool, false, List, [], ◌∷◌, ◌++◌, length, refl, sym, ◌∙◌, ap, subst, append_assoc, append-nil, codes}
use Rattle.std.specs.Prelude.{Result, Ok, Err, Option, Some, None}
use Rattle.med_lexer.specs.Lexemes.{Shape, word, quoted, literal, number, mark}
use Rattle.med_syntax.specs.declared.refusal.Refusal.{Refusal}
use Rattle.med_syntax.specs.declared.refusal.Refusal.TheVariants.{Syntax}
use Rattle.med_syntax.specs.Prelude.{choose, follows, terminal_at, terminals_at, Name, Terminal, AreTerminals, SelectTree, select, word_at, words_at, keywords, SpellsOthers, SpellsList, SpellsAlias, SpellsEntry, SpellsExpr, SpellsCore, SpellsSelect, IsEnd, IsLine, IsStatement, GivenTree, values, rows_of, WriteTree, insert, update, delete}
use Rattle.med_syntax.specs.ExprReading.{◌>>=◌}
use Rattle.med_syntax.proofs.ExprTerminals.{Good, good, terminals_are, same_terminals}
use Rattle.med_syntax.proofs.ExprSound.{bind_ok, ok_same}
use Rattle.med_syntax.specs.Terminal as t
use Rattle.med_syntax.specs.declared.query_symbols.Place.TheVariants as p
use Rattle.med_syntax.proofs.QueryTerminals.{to_terminals}
use Rattle.query_reader.specs.QueryReading.{behind_word, behind_words}
use Rattle.query_reader.proofs.PartSound.{FoundPart, flat, err_ok, word_is, words_are}
use Rattle.write_parser.specs.WriteGrammar.{SpellsTuple, SpellsName, SpellsColumns, SpellsTarget, SpellsSet, SpellsWhere, IsLineOf, IsInsert, IsWrite}
use Rattle.write_parser.specs.WriteReading.{target_of, insert_of, plain_line, query_at}
use Rattle.write_parser.proofs.WriteSound.{SpellsNamed, SpellsGiven, SpellsPlain, IsPlain, target_sound}
use Rattle.write_parser.proofs.WriteComplete.{tuple_is, target_takes, plain_insert}

-- ---- no UNKNOWN stands where it is a name

abbrev Parts : {X : Type 0} → (X → List Terminal → Type 0) → Type 0
Parts {X} Spelling = (x : X) (ts rest : List Terminal) → Spelling x ts → Good false rest → Good false (ts ++ rest)

others_good : {X : Type 0} (Spelling : X → List Terminal → Type 0) → Parts Spelling → (xs : List X) (ts rest : List Terminal) → SpellsOthers Spelling xs ts → Good false rest → Good false (ts ++ rest)
others_good Spelling item [] ts rest s g = subst (λ us. Good false (us ++ rest)) (sym s) g
others_good Spelling item (x ∷ xs) ts rest s g =
    subst (λ us. Good false (us ++ rest)) (sym s.2) (tt, subst (Good false) (sym (append_assoc s.0 s.1 rest)) (item x s.0 (s.1 ++ rest) s.3 (others_good Spelling item xs s.1 rest s.4 g)))

list_good : {X : Type 0} (Spelling : X → List Terminal → Type 0) → Parts Spelling → Parts (SpellsList Spelling)
list_good Spelling item [] ts rest s g = absurd s
list_good Spelling item (x ∷ xs) ts rest s g =
    subst (λ us. Good false (us ++ rest)) (sym s.2) (subst (Good false) (sym (append_assoc s.0 s.1 rest)) (item x s.0 (s.1 ++ rest) s.3 (others_good Spelling item xs s.1 rest s.4 g)))

tuple_good : {X : Type 0} (Spelling : X → List Terminal → Type 0) → Parts Spelling → Parts (SpellsTuple Spelling)
tuple_good Spelling item xs ts rest s g = subst (Good false) (sym (tuple_is ts s.0 rest s.1)) (tt, list_good Spelling item xs s.0 (t.RightParen ∷ rest) s.2 (tt, g))

name_good : Parts SpellsName
name_good n ts rest s g = subst (λ us. Good false (us ++ rest)) (sym s) (tt, g)

expr_good : Parts SpellsExpr
expr_good e ts rest x g = subst (λ us. Good false (us ++ rest)) (sym x.spelled) (good e rest g)

columns_good : Parts SpellsColumns
columns_good None ts rest s g = subst (λ us. Good false (us ++ rest)) (sym s) g
columns_good (Some ns) ts rest s g = tuple_good SpellsName name_good ns ts rest s g

target_good : (n : Name) (c : Option (List Name)) (ts rest : List Terminal) → SpellsTarget n c ts → Good false rest → Good false (ts ++ rest)
target_good n c ts rest s g = subst (λ us. Good false (us ++ rest)) (sym s.1) (tt, (tt, (tt, columns_good c s.0 rest s.2 g)))

alias_good : Parts SpellsAlias
alias_good None ts rest s g = subst (λ us. Good false (us ++ rest)) (sym s) g
alias_good (Some n) ts rest (inl s) g = subst (λ us. Good false (us ++ rest)) (sym s) (tt, g)
alias_good (Some n) ts rest (inr s) g = subst (λ us. Good false (us ++ rest)) (sym s) (tt, (tt, g))

entry_good : Parts SpellsEntry
entry_good e ts rest s g = subst (λ us. Good false (us ++ rest)) (sym s.1) (tt, alias_good e.alias s.0 rest s.2 g)

where_good : Parts SpellsWhere
where_good None ts rest s g = subst (λ us. Good false (us ++ rest)) (sym s) g
where_good (Some e) ts rest s g = subst (λ us. Good false (us ++ rest)) (sym s.1) (tt, expr_good e s.0 rest s.2 g)

set_good : Parts SpellsSet
set_good x ts rest s g = subst (λ us. Good false (us ++ rest)) (sym s.1) (tt, (tt, expr_good x.value s.0 rest s.2 g))

given_good : (n : Name) (c : Option (List Name)) (given : GivenTree) (ts rest : List Terminal) → SpellsGiven n c given ts → Good false rest → Good false (ts ++ rest)
given_good n c (rows_of q) ts rest s g = absurd s
given_good n c (values rows) ts rest s g =
    let f : Good false (s.1 ++ rest) = subst (λ us. Good false (us ++ rest)) (sym (s.4).1) (tt, list_good (SpellsTuple SpellsExpr) (tuple_good SpellsExpr expr_good) rows (s.4).0 rest (s.4).2 g) in
    subst (λ us. Good false (us ++ rest)) (sym s.2) (subst (Good false) (sym (append_assoc s.0 s.1 rest)) (target_good n c s.0 (s.1 ++ rest) s.3 f))

plain_good : Parts SpellsPlain
plain_good (insert i) ts rest s g = given_good i.table i.columns i.given ts rest s g
plain_good (update u) ts rest s g =
    let f = where_good u.condition s.condition rest s.filtered g in
    let h = subst (Good false) (sym (append_assoc s.sets s.condition rest)) (list_good SpellsSet set_good u.sets s.sets (s.condition ++ rest) s.changed f) in
    let k = entry_good u.entry s.entry (t.Reserved (codes "set") ∷ ((s.sets ++ s.condition) ++ rest)) s.named (tt, h) in
    subst (λ us. Good false (us ++ rest)) (sym s.is) (tt, subst (Good false) (sym (append_assoc s.entry (t.Reserved (codes "set") ∷ (s.sets ++ s.condition)) rest)) k)
plain_good (delete d) ts rest s g =
    let f = where_good d.condition s.condition rest s.filtered g in
    let h = subst (Good false) (sym (append_assoc s.entry s.condition rest)) (entry_good d.entry s.entry (s.condition ++ rest) s.named f) in
    subst (λ us. Good false (us ++ rest)) (sym s.is) (tt, (tt, h))

end_good : (ts : List Terminal) → IsEnd ts → Good false ts
end_good ts (inl h) = subst (Good false) (sym h) tt
end_good ts (inr h) = subst (Good false) (sym h) (tt, tt)

-- ---- statements without a query

pub to_plain : (ss : List Shape) (w : WriteTree) → IsLineOf (SpellsPlain w) ss → IsPlain (terminals_at false ss) w
to_plain ss w x = (x.0, x.1, sym (same_terminals false ss (x.0 ++ x.1) x.2 (plain_good w x.0 x.1 x.3 (end_good x.1 x.4))), x.3, x.4)

of_plain : (ss : List Shape) (w : WriteTree) → IsPlain (terminals_at false ss) w → IsLineOf (SpellsPlain w) ss
of_plain ss w x = (x.0, x.1, subst (AreTerminals ss) x.2 (terminals_are false ss), x.3, x.4)

given_line : (n : Name) (c : Option (List Name)) (g : GivenTree) (ss : List Shape) → IsLineOf (SpellsGiven n c g) ss → IsInsert n c g ss
given_line n c (values rows) ss x = x
given_line n c (rows_of q) ss x = absurd x.3

pub plain_write : (ss : List Shape) (w : WriteTree) → IsPlain (terminals_at false ss) w → IsWrite ss w
plain_write ss (insert i) x = given_line i.table i.columns i.given ss (of_plain ss (insert i) x)
plain_write ss (update u) x = of_plain ss (update u) x
plain_write ss (delete d) x = of_plain ss (delete d) x

-- an INSERT of a query
pub record AskedInsert (ss : List Shape) (w : WriteTree) : Type 0 where
  pub table : Name
  pub columns : Option (List Name)
  pub query : SelectTree
  pub is : w ≡ insert (record { table = table; columns = columns; given = rows_of query })
  pub spelled : IsInsert table columns (rows_of query) ss

given_cases : (n : Name) (c : Option (List Name)) (g : GivenTree) (ss : List Shape) → IsInsert n c g ss → IsPlain (terminals_at false ss) (insert (record { table = n; columns = c; given = g })) ⊎ AskedInsert ss (insert (record { table = n; columns = c; given = g }))
given_cases n c (values rows) ss x = inl (to_plain ss (insert (record { table = n; columns = c; given = values rows })) x)
given_cases n c (rows_of q) ss x = inr (record { table = n; columns = c; query = q; is = refl; spelled = x })

pub write_cases : (ss : List Shape) (w : WriteTree) → IsWrite ss w → IsPlain (terminals_at false ss) w ⊎ AskedInsert ss w
write_cases ss (insert i) x = given_cases i.table i.columns i.given ss x
write_cases ss (update u) x = inl (to_plain ss (update u) x)
write_cases ss (delete d) x = inl (to_plain ss (delete d) x)

-- ---- the terminals of a target and of the query behind it

abbrev after : Bool → List Terminal → Bool
after b [] = b
after b (u ∷ us) = after (follows b u) us

apart_terminals : (b : Bool) (xs ys : List Shape) → terminals_at b (xs ++ ys) ≡ terminals_at b xs ++ terminals_at (after b (terminals_at b xs)) ys
apart_terminals b [] ys = refl
apart_terminals b (x ∷ xs) ys = ap (λ us. terminal_at b x ∷ us) (apart_terminals (follows b (terminal_at b x)) xs ys)

right_after : (b : Bool) (us : List Terminal) → after b (us ++ t.RightParen ∷ []) ≡ false
right_after b [] = refl
right_after b (u ∷ us) = right_after (follows b u) us

columns_after : (c : Option (List Name)) (ts : List Terminal) → SpellsColumns c ts → after false ts ≡ false
columns_after None ts s = ap (after false) s
columns_after (Some ns) ts s = ap (after false) s.1 ∙ right_after false s.0

target_after : (n : Name) (c : Option (List Name)) (ts : List Terminal) → SpellsTarget n c ts → after false ts ≡ false
target_after n c ts s = ap (after false) s.1 ∙ columns_after c s.0 s.2

query_terminals : (n : Name) (c : Option (List Name)) (target query : List Shape) (ts : List Terminal) → AreTerminals target ts → SpellsTarget n c ts → terminals_at false (target ++ query) ≡ ts ++ terminals_at false query
query_terminals n c target query ts are s =
    let e : ts ≡ terminals_at false target = same_terminals false target ts are (subst (Good false) (append-nil ts) (target_good n c ts [] s tt)) in
    let f : after false (terminals_at false target) ≡ false = ap (after false) (sym e) ∙ target_after n c ts s in
    apart_terminals false target query ∙ ap (λ b. terminals_at false target ++ terminals_at b query) f ∙ ap (λ us. us ++ terminals_at false query) (sym e)

same_at : (s : Shape) → word_at (p.Before false) false s ≡ terminal_at false s
same_at (word w) = refl
same_at (quoted q) = refl
same_at (literal x) = refl
same_at (number d) = refl
same_at (mark m) = refl

first_is : (u v : Terminal) (us vs : List Terminal) → u ∷ us ≡ v ∷ vs → u ≡ v
first_is u v us vs h = cc

first_word : (ss : List Shape) (us : List Terminal) → words_at (p.Before false) false ss ≡ t.Reserved (codes "select") ∷ us → (vs : List Terminal) × (terminals_at false ss ≡ t.Reserved (codes "select") ∷ vs)
first_word [] us h = absurd (cc)
first_word (s ∷ ss) us h =
    (terminals_at (follows false (terminal_at false s)) ss, ap (λ u. u ∷ terminals_at (follows false (terminal_at false s)) ss) (sym (same_at s) ∙ first_is _ _ _ _ h))

select_first : (ss : List Shape) (q : SelectTree) → IsStatement ss (select q) → (vs : List Terminal) × (terminals_at false ss ≡ t.Reserved (codes "select") ∷ vs)
select_first ss q x =
    let l : IsLine (words_at (p.Before false) false ss) (select q) = to_terminals ss (select q) x in
    let s : SpellsSelect q l.0 = l.3 in
    let core : SpellsCore q.core s.core = s.first in
    first_word ss _ (l.2 ∙ ap (λ us. us ++ l.1) (s.is ∙ ap (λ us. us ++ (s.others ++ (s.keys ++ s.limits))) core.is))

query_step : (x : Name × Option (List Name)) (ts vs : List Terminal) → target_of ts ≡ Ok (x, t.Reserved (codes "select") ∷ vs) → query_at (keywords (codes "insert" ∷ codes "into" ∷ []) ++ ts) ≡ Ok (x, t.Reserved (codes "select") ∷ vs)
unfolding query_at
query_step x ts vs h = rw h refl

pub query_reads : (ss : List Shape) (n : Name) (c : Option (List Name)) (q : SelectTree) → (x : IsInsert n c (rows_of q) ss) → query_at (terminals_at false ss) ≡ Ok ((n, c), terminals_at false x.1)
query_reads ss n c q x =
    let s = (x.3).2 in
    let first = select_first x.1 q x.4 in
    let terms : terminals_at false ss ≡ keywords (codes "insert" ∷ codes "into" ∷ []) ++ ((t.Name n ∷ s.0) ++ t.Reserved (codes "select") ∷ first.0) =
    ap (terminals_at false) x.2 ∙ query_terminals n c x.0 x.1 (x.3).0 (x.3).1 s ∙ ap (λ us. us ++ terminals_at false x.1) s.1
    ∙ ap (λ us. keywords (codes "insert" ∷ codes "into" ∷ []) ++ ((t.Name n ∷ s.0) ++ us)) first.1
    in
    ap query_at terms ∙ query_step (n, c) ((t.Name n ∷ s.0) ++ t.Reserved (codes "select") ∷ first.0) first.0 (target_takes (n, c) (t.Name n ∷ s.0) (t.Reserved (codes "select") ∷ first.0) (s.0, refl, s.2) refl)
    ∙ ap (λ us. Ok ((n, c), us)) (sym first.1)

-- a target that was read, and the query's terminals
record Target (ts : List Terminal) (x : Name × Option (List Name)) (rest : List Terminal) : Type 0 where
  front : List Terminal
  is : ts ≡ front ++ rest
  spelled : SpellsTarget x.0 x.1 front
  plain : (room : ℕ) → plain_line room ts ≡ Err Syntax

refused_insert : (room : ℕ) (x : Name × Option (List Name)) (after more : List Terminal) → target_of after ≡ Ok (x, t.Reserved (codes "select") ∷ more) → insert_of room after ≡ Err Syntax
unfolding insert_of
refused_insert room x after more h = rw h refl

refused_line : (room : ℕ) (after : List Terminal) → insert_of room after ≡ Err Syntax → plain_line room (keywords (codes "insert" ∷ codes "into" ∷ []) ++ after) ≡ Err Syntax
unfolding plain_line
refused_line room after h = rw (plain_insert room after ∙ h) refl

target_found : (ts after : List Terminal) (x : Name × Option (List Name)) (rest : List Terminal) → ts ≡ keywords (codes "insert" ∷ codes "into" ∷ []) ++ after → target_of after ≡ Ok (x, rest) → (more : List Terminal) → rest ≡ t.Reserved (codes "select") ∷ more → Target ts x rest
target_found ts after x rest is h more asks =
    let f : FoundPart SpellsNamed flat 0 after x rest = target_sound after x rest h in
    record {
      front = keywords (codes "insert" ∷ codes "into" ∷ []) ++ f.front;
      is = is ∙ ap (λ us. keywords (codes "insert" ∷ codes "into" ∷ []) ++ us) f.is;
      spelled = ((f.spelled).0, ap (λ us. keywords (codes "insert" ∷ codes "into" ∷ []) ++ us) (f.spelled).1, (f.spelled).2);
      plain = λ room. ap (plain_line room) is ∙ refused_line room after (refused_insert room x after more (h ∙ ap (λ us. Ok (x, us)) asks));
    }

query_found : (ts : List Terminal) (x : Name × Option (List Name)) (rest : List Terminal) → query_at ts ≡ Ok (x, rest) → Target ts x rest
unfolding query_at
query_found ts x rest h =
    let next : (Name × Option (List Name)) × List Terminal → Result ((Name × Option (List Name)) × List Terminal) Refusal = λ y. choose (behind_word (codes "select") y.1) (Err Syntax) (λ more. Ok y) in
    let go : (o : Option (List Terminal)) → behind_words (codes "insert" ∷ codes "into" ∷ []) ts ≡ o → choose o (Err Syntax) (λ after. target_of after >>= next) ≡ Ok (x, rest) → Target ts x rest = elim [
      | None ↦ (λ is e. absurd (err_ok Syntax (x, rest) e))
      | Some after ↦ (λ is e.
          let y = bind_ok (target_of after) next (x, rest) e in
          let last : (o : Option (List Terminal)) → behind_word (codes "select") y.0.1 ≡ o → choose {B = Result ((Name × Option (List Name)) × List Terminal) Refusal} o (Err Syntax) (λ more. Ok y.0) ≡ Ok (x, rest) → Target ts x rest = elim [
            | None ↦ (λ p q. absurd (err_ok Syntax (x, rest) q))
            | Some more ↦ (λ p q.
                subst (λ (z : (Name × Option (List Name)) × List Terminal). Target ts z.0 z.1) (ok_same y.0 (x, rest) q)
                (target_found ts after y.0.0 y.0.1 (words_are (codes "insert" ∷ codes "into" ∷ []) ts after is) y.1 more (word_is (codes "select") y.0.1 more p)))
          ]
          in last (behind_word (codes "select") y.0.1) refl y.2)
    ]
    in go (behind_words (codes "insert" ∷ codes "into" ∷ []) ts) refl h

-- the tokens of a target and of the query behind it
pub record Parted (ss : List Shape) (n : Name) (c : Option (List Name)) (rest : List Terminal) : Type 0 where
  pub front : List Shape
  pub behind : List Shape
  pub is : ss ≡ front ++ behind
  pub spelled : (ts : List Terminal) × AreTerminals front ts × SpellsTarget n c ts
  pub same : length behind ≡ length rest

pub same_length : (ss : List Shape) (us : List Terminal) → AreTerminals ss us → length ss ≡ length us
same_length [] [] h = refl
same_length [] (u ∷ us) h = absurd h
same_length (s ∷ ss) [] h = absurd h
same_length (s ∷ ss) (u ∷ us) h = ap suc (same_length ss us h.1)

split_terminals : (ss : List Shape) (us vs : List Terminal) → AreTerminals ss (us ++ vs) → (front behind : List Shape) × (ss ≡ front ++ behind) × AreTerminals front us × (length behind ≡ length vs)
split_terminals ss [] vs h = ([], ss, refl, tt, same_length ss vs h)
split_terminals [] (u ∷ us) vs h = absurd h
split_terminals (s ∷ ss) (u ∷ us) vs h =
    let x = split_terminals ss us vs h.1 in
    (s ∷ x.0, x.1, ap (λ ys. s ∷ ys) x.2, (h.0, x.3), x.4)

-- what is an INSERT of a query is no statement without one
pub query_plain : (ts : List Terminal) (x : Name × Option (List Name)) (rest : List Terminal) → query_at ts ≡ Ok (x, rest) → (room : ℕ) → plain_line room ts ≡ Err Syntax
query_plain ts x rest h = let f : Target ts x rest = query_found ts x rest h in f.plain

pub query_parted : (ss : List Shape) (x : Name × Option (List Name)) (rest : List Terminal) → query_at (terminals_at false ss) ≡ Ok (x, rest) → Parted ss x.0 x.1 rest
query_parted ss x rest h =
    let f : Target (terminals_at false ss) x rest = query_found (terminals_at false ss) x rest h in
    let y = split_terminals ss f.front rest (subst (AreTerminals ss) f.is (terminals_are false ss)) in
    record { front = y.0; behind = y.1; is = y.2; spelled = (f.front, y.3, f.spelled); same = y.4 }

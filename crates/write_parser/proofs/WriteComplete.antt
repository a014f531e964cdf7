-- What is spelled so is read so.
use Rattle.std.proofs.Common.{◌≡◌, ℕ, ◌+◌, ◌≤◌, ◌<◌, inl, inr, true, List, [], ◌∷◌, ◌++◌, refl, sym, ◌∙◌, ap, subst, arith, append_assoc, codes}
use Rattle.std.specs.Prelude.{max, Ok, Err, Option, Some, None}
use Rattle.med_value.specs.declared.order.Comparison.TheVariants.{Equal}
use Rattle.med_syntax.specs.declared.refusal.Refusal.TheVariants.{TooHigh}
use Rattle.med_syntax.specs.declared.symbols.Separator.TheVariants.{Comma}
use Rattle.med_syntax.specs.Prelude.{behind_of, Name, Terminal, ExprTree, height, highest_of, condition_height, keywords, SpellsList, SpellsExpr, IsEnd, GivenTree, values, rows_of, SetTree, UpdateTree, DeleteTree, WriteTree, insert, update, delete, row_height, set_height, update_height, write_height}
use Rattle.med_syntax.specs.ExprReading.{below}
use Rattle.med_syntax.specs.ExprReading.{◌>>=◌}
use Rattle.med_syntax.specs.Terminal as t
use Rattle.query_reader.specs.QueryReading.{Parser, behind_word, behind_words, read_name, list_of, entry_of, is_end}
use Rattle.query_reader.proofs.PartSound.{flat}
use Rattle.query_reader.proofs.PartComplete.{held, held_low, held_high, Takes, then_held, Parted, Stops, parted_reach, list_takes, entry_takes, condition_takes}
use Rattle.med_syntax.proofs.ExprChains.{low_or_high, reach}
use Rattle.med_syntax.proofs.ExprComplete.{completes}
use Rattle.write_parser.specs.WriteGrammar.{SpellsTuple, SpellsName, SpellsColumns, SpellsSet, SpellsWhere}
use Rattle.write_parser.specs.WriteReading.{behind_left, behind_right, inside, columns_of, target_of, row_of, insert_of, set_of, where_of, sets_of, update_of, delete_of, plain_of, plain_line}
use Rattle.write_parser.proofs.WriteSound.{SpellsNamed, SpellsGiven, SpellsPlain, IsPlain}

-- ---- what is made of a part

made_held : {X Z : Type 0} (room h : ℕ) (x : X) (rest : List Terminal) (make : X → Z) → (held room h x rest >>= λ y. Ok (make y.0, y.1)) ≡ held room h (make x) rest
made_held room h x rest make =
    elim (low_or_high h room) [
      | inr g ↦ rw (held_high room h x rest g, held_high room h (make x) rest g) refl
      | inl g ↦ rw (held_low room h x rest g, held_low room h (make x) rest g) refl
    ]

closed_held : {X : Type 0} (room h : ℕ) (xs : X) (rest : List Terminal) → (held room h xs (t.RightParen ∷ rest) >>= λ x. behind_right x.1 >>= λ after. Ok (x.0, after)) ≡ held room h xs rest
closed_held room h xs rest =
    elim (low_or_high h room) [
      | inr g ↦ rw (held_high room h xs (t.RightParen ∷ rest) g, held_high room h xs rest g) refl
      | inl g ↦ rw (held_low room h xs (t.RightParen ∷ rest) g, held_low room h xs rest g) refl
    ]

-- no operand goes on
abbrev Low : List Terminal → Type 0
Low ts = reach ts ≤ 0

comma_low : (ts : List Terminal) → Low (t.Comma ∷ ts)
comma_low ts = omega arith

right_low : (ts : List Terminal) → Low (t.RightParen ∷ ts)
right_low ts = omega arith

-- any terminals
abbrev Anything : List Terminal → Type 0
Anything ts = Unit {0}

expr_takes : (room : ℕ) → Takes SpellsExpr Low height room (below room).whole
expr_takes room e ts rest x f = ap (λ us. (below room).whole (us ++ rest)) x.spelled ∙ (completes room).whole e rest x.fits (omega arith) f

name_takes : (room : ℕ) → Takes SpellsName Anything flat room read_name
name_takes room n ts rest s f = ap (λ us. read_name (us ++ rest)) s ∙ sym (held_low room 0 n rest (omega arith))

inside_takes : {X : Type 0} (Spelling : X → List Terminal → Type 0) (Follows : List Terminal → Type 0) (high : X → ℕ) (room : ℕ) (item : Parser X) → Takes Spelling Follows high room item → ((ts : List Terminal) → Follows (t.Comma ∷ ts)) → ((ts : List Terminal) → Follows (t.RightParen ∷ ts)) →
    (xs : List X) (inner rest : List Terminal) → SpellsList Spelling xs inner → inside item (inner ++ t.RightParen ∷ rest) ≡ held room (highest_of high xs) xs rest
unfolding inside
inside_takes Spelling Follows high room item takes comma right xs inner rest s =
    rw (list_takes Spelling Follows high room item takes comma xs inner (t.RightParen ∷ rest) s (right rest) refl) (closed_held room (highest_of high xs) xs rest)

pub tuple_is : (ts inner rest : List Terminal) → ts ≡ t.LeftParen ∷ (inner ++ t.RightParen ∷ []) → ts ++ rest ≡ t.LeftParen ∷ (inner ++ t.RightParen ∷ rest)
tuple_is ts inner rest h = ap (λ us. us ++ rest) h ∙ ap (λ us. t.LeftParen ∷ us) (append_assoc inner (t.RightParen ∷ []) rest)

row_behind : (room : ℕ) (ts : List Terminal) → row_of room (t.LeftParen ∷ ts) ≡ inside (below room).whole ts
unfolding row_of
row_behind room ts = refl

row_takes : (room : ℕ) → Takes (SpellsTuple SpellsExpr) Anything row_height room (row_of room)
row_takes room es ts rest s f =
    ap (row_of room) (tuple_is ts s.0 rest s.1) ∙ row_behind room (s.0 ++ t.RightParen ∷ rest)
    ∙ inside_takes SpellsExpr Low height room (below room).whole (expr_takes room) comma_low right_low es s.0 rest s.2

flat_low : {X : Type 0} (xs : List X) → highest_of flat xs ≤ 0
flat_low [] = omega arith
flat_low (x ∷ xs) = omega (arith, flat_low xs)

columns_behind : (ns : List Name) (ts rest : List Terminal) → inside read_name ts ≡ Ok (ns, rest) → columns_of (t.LeftParen ∷ ts) ≡ Ok (Some ns, rest)
unfolding columns_of
columns_behind ns ts rest h = rw h refl

columns_none : (rest : List Terminal) → behind_left rest ≡ None → columns_of rest ≡ Ok (None, rest)
unfolding columns_of
columns_none rest h = rw h refl

columns_take : (columns : Option (List Name)) (ts rest : List Terminal) → SpellsColumns columns ts → behind_left rest ≡ None → columns_of (ts ++ rest) ≡ Ok (columns, rest)
columns_take None ts rest s h = ap (λ us. columns_of (us ++ rest)) s ∙ columns_none rest h
columns_take (Some ns) ts rest s h =
    ap columns_of (tuple_is ts s.0 rest s.1)
    ∙ columns_behind ns (s.0 ++ t.RightParen ∷ rest) rest
    (inside_takes SpellsName Anything flat 0 read_name (name_takes 0) (λ us. tt) (λ us. tt) ns s.0 rest s.2 ∙ held_low 0 (highest_of flat ns) ns rest (flat_low ns))

target_step : (x : Name × Option (List Name)) (middle rest : List Terminal) → columns_of middle ≡ Ok (x.1, rest) → target_of (t.Name x.0 ∷ middle) ≡ Ok (x, rest)
unfolding target_of
target_step x middle rest h = rw h refl

pub target_takes : (x : Name × Option (List Name)) (ts rest : List Terminal) → SpellsNamed x ts → behind_left rest ≡ None → target_of (ts ++ rest) ≡ Ok (x, rest)
target_takes x ts rest s h = ap (λ us. target_of (us ++ rest)) s.1 ∙ target_step x (s.0 ++ rest) rest (columns_take x.1 s.0 rest s.2 h)

-- ---- SET and WHERE

set_step : (room : ℕ) (s : SetTree) (ts rest : List Terminal) → (below room).whole ts ≡ held room (height s.value) s.value rest → set_of room (t.Name s.column ∷ t.Compare Equal ∷ ts) ≡ held room (height s.value) s rest
unfolding set_of
set_step room s ts rest h = rw h (made_held room (height s.value) s.value rest (λ (e : ExprTree). record { column = s.column; value = e }))

set_takes : (room : ℕ) → Takes SpellsSet Low set_height room (set_of room)
set_takes room s ts rest x f = ap (λ us. set_of room (us ++ rest)) x.1 ∙ set_step room s (x.0 ++ rest) rest (expr_takes room s.value x.0 rest x.2 f)

end_parted : (rest : List Terminal) → IsEnd rest → Parted rest
end_parted rest (inl h) = subst Parted (sym h) tt
end_parted rest (inr h) = subst Parted (sym h) tt

end_word : (w : List ℕ) (rest : List Terminal) → IsEnd rest → behind_words (w ∷ []) rest ≡ None
end_word w rest (inl h) = ap (behind_words (w ∷ [])) h
end_word w rest (inr h) = ap (behind_words (w ∷ [])) h

end_comma : (rest : List Terminal) → IsEnd rest → behind_of Comma rest ≡ None
end_comma rest (inl h) = ap (behind_of Comma) h
end_comma rest (inr h) = ap (behind_of Comma) h

end_as : (rest : List Terminal) → IsEnd rest → behind_word (codes "as") rest ≡ None
end_as rest (inl h) = ap (behind_word (codes "as")) h
end_as rest (inr h) = ap (behind_word (codes "as")) h

where_low : (c : Option ExprTree) (ts rest : List Terminal) → SpellsWhere c ts → IsEnd rest → Low (ts ++ rest)
where_low None ts rest s f = subst (λ us. Low (us ++ rest)) (sym s) (parted_reach rest (end_parted rest f))
where_low (Some e) ts rest s f = subst (λ us. Low (us ++ rest)) (sym s.1) (omega arith)

where_comma : (c : Option ExprTree) (ts rest : List Terminal) → SpellsWhere c ts → IsEnd rest → behind_of Comma (ts ++ rest) ≡ None
where_comma None ts rest s f = ap (λ us. behind_of Comma (us ++ rest)) s ∙ end_comma rest f
where_comma (Some e) ts rest s f = ap (λ us. behind_of Comma (us ++ rest)) s.1

where_stops : (c : Option ExprTree) (ts rest : List Terminal) → SpellsWhere c ts → IsEnd rest → Stops (ts ++ rest)
where_stops None ts rest s f = subst (λ us. Stops (us ++ rest)) (sym s) (end_as rest f, end_parted rest f)
where_stops (Some e) ts rest s f = subst (λ us. Stops (us ++ rest)) (sym s.1) (refl, tt)

where_takes : (room : ℕ) (c : Option ExprTree) (ts rest : List Terminal) → SpellsWhere c ts → IsEnd rest → where_of room (ts ++ rest) ≡ held room (condition_height c) c rest
where_takes room c ts rest s f = condition_takes room (codes "where" ∷ []) c ts rest s (end_parted rest f) (end_word (codes "where") rest f)

sets_take : (room : ℕ) (s : List SetTree × Option ExprTree) (sets condition rest : List Terminal) → SpellsList SpellsSet s.0 sets → SpellsWhere s.1 condition → IsEnd rest →
    sets_of room (sets ++ (condition ++ rest)) ≡ held room (max (highest_of set_height s.0) (condition_height s.1)) s rest
unfolding sets_of
sets_take room s sets condition rest a b f =
    rw (list_takes SpellsSet Low set_height room (set_of room) (set_takes room) comma_low s.0 sets (condition ++ rest) a (where_low s.1 condition rest b f) (where_comma s.1 condition rest b f))
    (then_held room (highest_of set_height s.0) (condition_height s.1) s.0 s.1 s (condition ++ rest) rest (where_of room) (λ x y. (x, y)) (where_takes room s.1 condition rest b f) refl)

-- ---- statements

update_step : (room : ℕ) (u : UpdateTree) (ts middle rest : List Terminal) → entry_of ts ≡ Ok (u.entry, t.Reserved (codes "set") ∷ middle) → sets_of room middle ≡ held room (update_height u) (u.sets, u.condition) rest → update_of room ts ≡ held room (update_height u) (update u) rest
unfolding update_of
update_step room u ts middle rest p q =
    rw p (rw q (made_held room (update_height u) (u.sets, u.condition) rest (λ (s : List SetTree × Option ExprTree). update (record { entry = u.entry; sets = s.0; condition = s.1 }))))

delete_step : (room : ℕ) (d : DeleteTree) (ts middle rest : List Terminal) → entry_of ts ≡ Ok (d.entry, middle) → where_of room middle ≡ held room (condition_height d.condition) d.condition rest → delete_of room ts ≡ held room (condition_height d.condition) (delete d) rest
unfolding delete_of
delete_step room d ts middle rest p q = rw p (rw q (made_held room (condition_height d.condition) d.condition rest (λ (c : Option ExprTree). delete (record { entry = d.entry; condition = c }))))

insert_step : (room : ℕ) (x : Name × Option (List Name)) (rows : List (List ExprTree)) (ts middle rest : List Terminal) → target_of ts ≡ Ok (x, t.Reserved (codes "values") ∷ middle) → list_of (row_of room) middle ≡ held room (highest_of row_height rows) rows rest →
    insert_of room ts ≡ held room (highest_of row_height rows) (insert (record { table = x.0; columns = x.1; given = values rows })) rest
unfolding insert_of
insert_step room x rows ts middle rest p q =
    rw p (rw q (made_held room (highest_of row_height rows) rows rest (λ (ys : List (List ExprTree)). insert (record { table = x.0; columns = x.1; given = values ys }))))

pub plain_insert : (room : ℕ) (ts : List Terminal) → plain_of room (keywords (codes "insert" ∷ codes "into" ∷ []) ++ ts) ≡ insert_of room ts
unfolding plain_of
plain_insert room ts = refl

plain_update : (room : ℕ) (ts : List Terminal) → plain_of room (t.Reserved (codes "update") ∷ ts) ≡ update_of room ts
unfolding plain_of
plain_update room ts = refl

plain_delete : (room : ℕ) (ts : List Terminal) → plain_of room (keywords (codes "delete" ∷ codes "from" ∷ []) ++ ts) ≡ delete_of room ts
unfolding plain_of
plain_delete room ts = refl

insert_is : (n : Name) (ts target given a b rest : List Terminal) → ts ≡ target ++ given → target ≡ keywords (codes "insert" ∷ codes "into" ∷ []) ++ t.Name n ∷ a → given ≡ t.Reserved (codes "values") ∷ b →
    ts ++ rest ≡ keywords (codes "insert" ∷ codes "into" ∷ []) ++ ((t.Name n ∷ a) ++ t.Reserved (codes "values") ∷ (b ++ rest))
insert_is n ts target given a b rest p q r =
    ap (λ us. us ++ rest) (p ∙ ap (λ us. us ++ given) q ∙ ap (λ us. (keywords (codes "insert" ∷ codes "into" ∷ []) ++ t.Name n ∷ a) ++ us) r)
    ∙ append_assoc (keywords (codes "insert" ∷ codes "into" ∷ []) ++ t.Name n ∷ a) (t.Reserved (codes "values") ∷ b) rest

given_takes : (room : ℕ) (n : Name) (c : Option (List Name)) (g : GivenTree) (ts rest : List Terminal) → SpellsGiven n c g ts → IsEnd rest → plain_of room (ts ++ rest) ≡ held room (write_height (insert (record { table = n; columns = c; given = g }))) (insert (record { table = n; columns = c; given = g })) rest
given_takes room n c (rows_of q) ts rest s f = absurd s
given_takes room n c (values rows) ts rest s f =
    let target = s.3 in
    let given = s.4 in
    ap (plain_of room) (insert_is n ts s.0 s.1 target.0 given.0 rest s.2 target.1 given.1)
    ∙ plain_insert room ((t.Name n ∷ target.0) ++ t.Reserved (codes "values") ∷ (given.0 ++ rest))
    ∙ insert_step room (n, c) rows ((t.Name n ∷ target.0) ++ t.Reserved (codes "values") ∷ (given.0 ++ rest)) (given.0 ++ rest) rest
    (target_takes (n, c) (t.Name n ∷ target.0) (t.Reserved (codes "values") ∷ (given.0 ++ rest)) (target.0, refl, target.2) refl)
    (list_takes (SpellsTuple SpellsExpr) Anything row_height room (row_of room) (row_takes room) (λ us. tt) rows given.0 rest given.2 tt (end_comma rest f))

update_is : (ts a b c rest : List Terminal) → ts ≡ t.Reserved (codes "update") ∷ (a ++ t.Reserved (codes "set") ∷ (b ++ c)) → ts ++ rest ≡ t.Reserved (codes "update") ∷ (a ++ t.Reserved (codes "set") ∷ (b ++ (c ++ rest)))
update_is ts a b c rest h = ap (λ us. us ++ rest) h ∙ ap (λ us. t.Reserved (codes "update") ∷ us) (append_assoc a (t.Reserved (codes "set") ∷ (b ++ c)) rest ∙ ap (λ us. a ++ t.Reserved (codes "set") ∷ us) (append_assoc b c rest))

delete_is : (ts a b rest : List Terminal) → ts ≡ keywords (codes "delete" ∷ codes "from" ∷ []) ++ (a ++ b) → ts ++ rest ≡ keywords (codes "delete" ∷ codes "from" ∷ []) ++ (a ++ (b ++ rest))
delete_is ts a b rest h = ap (λ us. us ++ rest) h ∙ ap (λ us. keywords (codes "delete" ∷ codes "from" ∷ []) ++ us) (append_assoc a b rest)

pub plain_takes : (room : ℕ) → Takes SpellsPlain IsEnd write_height room (plain_of room)
plain_takes room (insert i) ts rest s f = given_takes room i.table i.columns i.given ts rest s f
plain_takes room (update u) ts rest s f =
    let middle : List Terminal = s.sets ++ (s.condition ++ rest) in
    ap (plain_of room) (update_is ts s.entry s.sets s.condition rest s.is) ∙ plain_update room (s.entry ++ t.Reserved (codes "set") ∷ middle)
    ∙ update_step room u (s.entry ++ t.Reserved (codes "set") ∷ middle) middle rest (entry_takes u.entry s.entry (t.Reserved (codes "set") ∷ middle) s.named (refl, tt))
    (sets_take room (u.sets, u.condition) s.sets s.condition rest s.changed s.filtered f)
plain_takes room (delete d) ts rest s f =
    ap (plain_of room) (delete_is ts s.entry s.condition rest s.is) ∙ plain_delete room (s.entry ++ (s.condition ++ rest))
    ∙ delete_step room d (s.entry ++ (s.condition ++ rest)) (s.condition ++ rest) rest (entry_takes d.entry s.entry (s.condition ++ rest) s.named (where_stops d.condition s.condition rest s.filtered f))
    (where_takes room d.condition s.condition rest s.filtered f)

-- ---- lines

end_is : (end : List Terminal) → IsEnd end → is_end end ≡ true
end_is end (inl h) = ap is_end h
end_is end (inr h) = ap is_end h

line_low : (room : ℕ) (s : WriteTree) (ts end : List Terminal) → plain_of room ts ≡ held room (write_height s) s end → is_end end ≡ true → write_height s ≤ room → plain_line room ts ≡ Ok s
unfolding plain_line
line_low room s ts end p q l = rw p (rw (held_low room (write_height s) s end l) (rw q refl))

line_high : (room : ℕ) (s : WriteTree) (ts end : List Terminal) → plain_of room ts ≡ held room (write_height s) s end → room < write_height s → plain_line room ts ≡ Err TooHigh
unfolding plain_line
line_high room s ts end p l = rw p (rw (held_high room (write_height s) s end l) refl)

-- what is in the grammar and has room is read
pub reads_line : (room : ℕ) (ts : List Terminal) (s : WriteTree) → IsPlain ts s → write_height s ≤ room → plain_line room ts ≡ Ok s
reads_line room ts s x l = ap (plain_line room) x.2 ∙ line_low room s (x.0 ++ x.1) x.1 (plain_takes room s x.0 x.1 x.3 x.4) (end_is x.1 x.4) l

-- what is in the grammar and has no room is told to be too high
pub refuses_line : (room : ℕ) (ts : List Terminal) (s : WriteTree) → IsPlain ts s → room < write_height s → plain_line room ts ≡ Err TooHigh
refuses_line room ts s x l = ap (plain_line room) x.2 ∙ line_high room s (x.0 ++ x.1) x.1 (plain_takes room s x.0 x.1 x.3 x.4) l

pub one_line : (ts : List Terminal) (r s : WriteTree) → IsPlain ts r → IsPlain ts s → r ≡ s
one_line ts r s x y =
    let room : ℕ = write_height r + write_height s in
    let p : plain_line room ts ≡ Ok r = reads_line room ts r x (omega arith) in
    let q : plain_line room ts ≡ Ok s = reads_line room ts s y (omega arith) in
    cc

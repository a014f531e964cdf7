-- The parts of a statement that are read are spelled so.
use Rattle.std.proofs.Common.{◌≡◌, ℕ, ◌≤◌, inl, inr, cond, List, [], ◌∷◌, ◌++◌, refl, sym, ◌∙◌, ap, subst, arith, append_assoc, codes}
use Rattle.std.specs.Prelude.{Result, Ok, Err, Option, Some, None}
use Rattle.med_value.specs.declared.order.Comparison.TheVariants.{Equal}
use Rattle.med_syntax.specs.declared.refusal.Refusal.{Refusal}
use Rattle.med_syntax.specs.declared.refusal.Refusal.TheVariants.{Syntax}
use Rattle.med_syntax.specs.Prelude.{choose, Name, Terminal, ExprTree, height, EntryTree, highest_of, condition_height, keywords, SpellsList, SpellsEntry, SpellsExpr, IsEnd, GivenTree, values, rows_of, SetTree, WriteTree, insert, update, delete, row_height, set_height, write_height}
use Rattle.med_syntax.specs.ExprReading.{below}
use Rattle.med_syntax.specs.ExprReading.{◌>>=◌}
use Rattle.med_syntax.specs.Terminal as t
use Rattle.query_reader.specs.QueryReading.{Parser, behind_word, behind_words, read_name, list_of, entry_of, is_end}
use Rattle.query_reader.proofs.PartSound.{FoundPart, Sound, found_as, flat, err_ok, none_some, some_is, word_is, words_are, list_sound, entry_sound, expr_sound, condition_sound}
use Rattle.med_syntax.proofs.ExprSound.{bind_ok, ok_same}
use Rattle.write_parser.specs.WriteGrammar.{SpellsTuple, SpellsName, SpellsColumns, SpellsInsert, SpellsSet, SpellsWhere, SpellsUpdate, SpellsDelete}
use Rattle.write_parser.specs.WriteReading.{behind_left, behind_right, inside, columns_of, target_of, row_of, insert_of, set_at, set_of, where_of, sets_of, update_of, delete_of, plain_of, plain_line}

-- ---- names, parentheses and lists in them

pub name_sound : Sound SpellsName flat 0 read_name
name_sound [] n rest h = absurd (err_ok Syntax (n, rest) h)
name_sound (t.Name m ∷ us) n rest h = found_as SpellsName flat 0 (t.Name m ∷ us) m n us rest h (record { front = t.Name m ∷ []; is = refl; spelled = refl; low = omega arith })
name_sound (u ∷ us) n rest h = absurd (err_ok Syntax (n, rest) h)

left_is : (ts after : List Terminal) → behind_left ts ≡ Some after → ts ≡ t.LeftParen ∷ after
left_is [] after h = absurd (none_some after h)
left_is (t.LeftParen ∷ us) after h = ap (λ vs. t.LeftParen ∷ vs) (some_is us after h)
left_is (u ∷ us) after h = absurd (none_some after h)

right_is : (ts after : List Terminal) → behind_right ts ≡ Ok after → ts ≡ t.RightParen ∷ after
right_is [] after h = absurd (err_ok Syntax after h)
right_is (t.RightParen ∷ us) after h = ap (λ vs. t.RightParen ∷ vs) (ok_same us after h)
right_is (u ∷ us) after h = absurd (err_ok Syntax after h)

inside_found : {X : Type 0} (Spelling : X → List Terminal → Type 0) (high : X → ℕ) (room : ℕ) (item : Parser X) → Sound Spelling high room item → (ts after : List Terminal) (xs : List X) (rest : List Terminal) →
    ts ≡ t.LeftParen ∷ after → inside item after ≡ Ok (xs, rest) → FoundPart (SpellsTuple Spelling) (highest_of high) room ts xs rest
unfolding inside
inside_found Spelling high room item sound ts after xs rest is h =
    let x = bind_ok (list_of item after) (λ x. behind_right x.1 >>= λ more. Ok (x.0, more)) (xs, rest) h in
    let y = bind_ok (behind_right x.0.1) (λ more. Ok (x.0.0, more)) (xs, rest) x.2 in
    let f : FoundPart (SpellsList Spelling) (highest_of high) room after x.0.0 x.0.1 = list_sound Spelling high room item sound after x.0.0 x.0.1 x.1 in
    found_as (SpellsTuple Spelling) (highest_of high) room ts x.0.0 xs y.0 rest y.2 (record {
      front = t.LeftParen ∷ (f.front ++ t.RightParen ∷ []);
      is = is ∙ ap (λ us. t.LeftParen ∷ us) (f.is ∙ ap (λ us. f.front ++ us) (right_is x.0.1 y.0 y.1) ∙ sym (append_assoc f.front (t.RightParen ∷ []) y.0));
      spelled = (f.front, refl, f.spelled);
      low = f.low;
    })

pub row_sound : (room : ℕ) → Sound (SpellsTuple SpellsExpr) row_height room (row_of room)
unfolding row_of
row_sound room ts es rest h =
    let go : (o : Option (List Terminal)) → behind_left ts ≡ o → choose {B = Result (List ExprTree × List Terminal) Refusal} o (Err Syntax) (inside (below room).whole) ≡ Ok (es, rest) → FoundPart (SpellsTuple SpellsExpr) row_height room ts es rest = elim [
      | None ↦ (λ is e. absurd (err_ok Syntax (es, rest) e))
      | Some after ↦ (λ is e. inside_found SpellsExpr height room (below room).whole (expr_sound room) ts after es rest (left_is ts after is) e)
    ]
    in go (behind_left ts) refl h

columns_sound : Sound SpellsColumns flat 0 columns_of
unfolding columns_of
columns_sound ts names rest h =
    let named : List Terminal → Result (Option (List Name) × List Terminal) Refusal = λ after. inside read_name after >>= λ x. Ok (Some x.0, x.1) in
    let go : (o : Option (List Terminal)) → behind_left ts ≡ o → choose o (Ok (None, ts)) named ≡ Ok (names, rest) → FoundPart SpellsColumns flat 0 ts names rest = elim [
      | None ↦ (λ is e. found_as SpellsColumns flat 0 ts None names ts rest e (record { front = []; is = refl; spelled = refl; low = omega arith }))
      | Some after ↦ (λ is e.
          let x = bind_ok (inside read_name after) (λ x. Ok (Some x.0, x.1)) (names, rest) e in
          let f : FoundPart (SpellsTuple SpellsName) (highest_of flat) 0 ts x.0.0 x.0.1 = inside_found SpellsName flat 0 read_name name_sound ts after x.0.0 x.0.1 (left_is ts after is) x.1 in
          found_as SpellsColumns flat 0 ts (Some x.0.0) names x.0.1 rest x.2 (record { front = f.front; is = f.is; spelled = f.spelled; low = omega arith }))
    ]
    in go (behind_left ts) refl h

-- behind INSERT INTO
abbrev pub SpellsNamed : Name × Option (List Name) → List Terminal → Type 0
SpellsNamed x ts = (behind : List Terminal) × (ts ≡ t.Name x.0 ∷ behind) × SpellsColumns x.1 behind

name_is : (ts : List Terminal) (n : Name) (rest : List Terminal) → read_name ts ≡ Ok (n, rest) → ts ≡ t.Name n ∷ rest
name_is ts n rest h = let f : FoundPart SpellsName flat 0 ts n rest = name_sound ts n rest h in f.is ∙ ap (λ us. us ++ rest) f.spelled

pub target_sound : Sound SpellsNamed flat 0 target_of
unfolding target_of
target_sound ts target rest h =
    let x = bind_ok (read_name ts) (λ x. columns_of x.1 >>= λ y. Ok ((x.0, y.0), y.1)) (target, rest) h in
    let y = bind_ok (columns_of x.0.1) (λ y. Ok ((x.0.0, y.0), y.1)) (target, rest) x.2 in
    let f : FoundPart SpellsColumns flat 0 x.0.1 y.0.0 y.0.1 = columns_sound x.0.1 y.0.0 y.0.1 y.1 in
    found_as SpellsNamed flat 0 ts (x.0.0, y.0.0) target y.0.1 rest y.2 (record {
      front = t.Name x.0.0 ∷ f.front;
      is = name_is ts x.0.0 x.0.1 x.1 ∙ ap (λ us. t.Name x.0.0 ∷ us) f.is;
      spelled = (f.front, refl, f.spelled);
      low = omega arith;
    })

-- ---- SET

set_is : (ts : List Terminal) (n : Name) (rest : List Terminal) → set_at ts ≡ Ok (n, rest) → ts ≡ t.Name n ∷ t.Compare Equal ∷ rest
set_is (t.Name m ∷ t.Compare Equal ∷ us) n rest h =
    let e : ◌≡◌ {A = Name × List Terminal} (m, us) (n, rest) = ok_same (m, us) (n, rest) h in
    ap (λ (p : Name × List Terminal). t.Name p.0 ∷ t.Compare Equal ∷ p.1) e
set_is ts n rest h = absurd (err_ok Syntax (n, rest) h)

pub set_sound : (room : ℕ) → Sound SpellsSet set_height room (set_of room)
unfolding set_of
set_sound room ts s rest h =
    let x = bind_ok (set_at ts) (λ x. (below room).whole x.1 >>= λ y. Ok (record { column = x.0; value = y.0 }, y.1)) (s, rest) h in
    let y = bind_ok ((below room).whole x.0.1) (λ y. Ok (record { column = x.0.0; value = y.0 }, y.1)) (s, rest) x.2 in
    let f : FoundPart SpellsExpr height room x.0.1 y.0.0 y.0.1 = expr_sound room x.0.1 y.0.0 y.0.1 y.1 in
    found_as SpellsSet set_height room ts (record { column = x.0.0; value = y.0.0 }) s y.0.1 rest y.2 (record {
      front = t.Name x.0.0 ∷ t.Compare Equal ∷ f.front;
      is = set_is ts x.0.0 x.0.1 x.1 ∙ ap (λ us. t.Name x.0.0 ∷ t.Compare Equal ∷ us) f.is;
      spelled = (f.front, refl, f.spelled);
      low = f.low;
    })

-- ---- statements

abbrev pub SpellsGiven : Name → Option (List Name) → GivenTree → List Terminal → Type 0
SpellsGiven table columns (values rows) ts = SpellsInsert table columns rows ts
SpellsGiven table columns (rows_of q) ts = ⊥

-- a statement without a query
abbrev pub SpellsPlain : WriteTree → List Terminal → Type 0
SpellsPlain (insert i) ts = SpellsGiven i.table i.columns i.given ts
SpellsPlain (update u) ts = SpellsUpdate u ts
SpellsPlain (delete d) ts = SpellsDelete d ts

abbrev pub IsPlain : List Terminal → WriteTree → Type 0
IsPlain ts w = (statement end : List Terminal) × (ts ≡ statement ++ end) × SpellsPlain w statement × IsEnd end

found_insert : (room : ℕ) (ts after middle given rest : List Terminal) (target : Name × Option (List Name)) (rows : List (List ExprTree)) → ts ≡ keywords (codes "insert" ∷ codes "into" ∷ []) ++ after → FoundPart SpellsNamed flat 0 after target middle →
    middle ≡ t.Reserved (codes "values") ∷ given → FoundPart (SpellsList (SpellsTuple SpellsExpr)) (highest_of row_height) room given rows rest → FoundPart SpellsPlain write_height room ts (insert (record { table = target.0; columns = target.1; given = values rows })) rest
found_insert room ts after middle given rest target rows is f word g = record {
  front = (keywords (codes "insert" ∷ codes "into" ∷ []) ++ f.front) ++ t.Reserved (codes "values") ∷ g.front;
  is = is ∙ ap (λ us. keywords (codes "insert" ∷ codes "into" ∷ []) ++ us) (f.is ∙ ap (λ us. f.front ++ us) (word ∙ ap (λ us. t.Reserved (codes "values") ∷ us) g.is))
      ∙ sym (append_assoc (keywords (codes "insert" ∷ codes "into" ∷ []) ++ f.front) (t.Reserved (codes "values") ∷ g.front) rest ∙ append_assoc (keywords (codes "insert" ∷ codes "into" ∷ [])) f.front (t.Reserved (codes "values") ∷ (g.front ++ rest)));
  spelled = (
    keywords (codes "insert" ∷ codes "into" ∷ []) ++ f.front,
    t.Reserved (codes "values") ∷ g.front,
    refl,
    ((f.spelled).0, ap (λ us. keywords (codes "insert" ∷ codes "into" ∷ []) ++ us) (f.spelled).1, (f.spelled).2),
    (g.front, refl, g.spelled),
  );
  low = g.low;
}

insert_sound : (room : ℕ) (ts after : List Terminal) (w : WriteTree) (rest : List Terminal) → ts ≡ keywords (codes "insert" ∷ codes "into" ∷ []) ++ after → insert_of room after ≡ Ok (w, rest) → FoundPart SpellsPlain write_height room ts w rest
unfolding insert_of
insert_sound room ts after w rest is h =
    let made : Name × Option (List Name) → List (List ExprTree) → WriteTree = λ x rows. insert (record { table = x.0; columns = x.1; given = values rows }) in
    let next : Name × Option (List Name) → List Terminal → Result (WriteTree × List Terminal) Refusal = λ x given. list_of (row_of room) given >>= λ y. Ok (made x y.0, y.1) in
    let x = bind_ok (target_of after) (λ x. choose (behind_word (codes "values") x.1) (Err Syntax) (next x.0)) (w, rest) h in
    let go : (o : Option (List Terminal)) → behind_word (codes "values") x.0.1 ≡ o → choose o (Err Syntax) (next x.0.0) ≡ Ok (w, rest) → FoundPart SpellsPlain write_height room ts w rest = elim [
      | None ↦ (λ p e. absurd (err_ok Syntax (w, rest) e))
      | Some given ↦ (λ p e.
          let y = bind_ok (list_of (row_of room) given) (λ y. Ok (made x.0.0 y.0, y.1)) (w, rest) e in
          found_as SpellsPlain write_height room ts (made x.0.0 y.0.0) w y.0.1 rest y.2
          (found_insert room ts after x.0.1 given y.0.1 x.0.0 y.0.0 is (target_sound after x.0.0 x.0.1 x.1) (word_is (codes "values") x.0.1 given p)
          (list_sound (SpellsTuple SpellsExpr) row_height room (row_of room) (row_sound room) given y.0.0 y.0.1 y.1)))
    ]
    in go (behind_word (codes "values") x.0.1) refl x.2

-- SET name = expr {, name = expr} [WHERE expr]
record FoundSets (room : ℕ) (ts : List Terminal) (x : List SetTree × Option ExprTree) (rest : List Terminal) : Type 0 where
  sets : List Terminal
  condition : List Terminal
  is : ts ≡ sets ++ (condition ++ rest)
  changed : SpellsList SpellsSet x.0 sets
  filtered : SpellsWhere x.1 condition
  low : highest_of set_height x.0 ≤ room
  filter_low : condition_height x.1 ≤ room

sets_sound : (room : ℕ) (ts : List Terminal) (s : List SetTree × Option ExprTree) (rest : List Terminal) → sets_of room ts ≡ Ok (s, rest) → FoundSets room ts s rest
unfolding sets_of
sets_sound room ts s rest h =
    let x = bind_ok (list_of (set_of room) ts) (λ x. where_of room x.1 >>= λ y. Ok ((x.0, y.0), y.1)) (s, rest) h in
    let y = bind_ok (where_of room x.0.1) (λ y. Ok ((x.0.0, y.0), y.1)) (s, rest) x.2 in
    let f : FoundPart (SpellsList SpellsSet) (highest_of set_height) room ts x.0.0 x.0.1 = list_sound SpellsSet set_height room (set_of room) (set_sound room) ts x.0.0 x.0.1 x.1 in
    let g : FoundPart SpellsWhere condition_height room x.0.1 y.0.0 y.0.1 = condition_sound room (codes "where" ∷ []) x.0.1 y.0.0 y.0.1 y.1 in
    let e : ◌≡◌ {A = (List SetTree × Option ExprTree) × List Terminal} ((x.0.0, y.0.0), y.0.1) (s, rest) = ok_same ((x.0.0, y.0.0), y.0.1) (s, rest) y.2 in
    let r : FoundSets room ts (x.0.0, y.0.0) y.0.1 = record { sets = f.front; condition = g.front; is = f.is ∙ ap (λ us. f.front ++ us) g.is; changed = f.spelled; filtered = g.spelled; low = f.low; filter_low = g.low } in
    subst (λ (p : (List SetTree × Option ExprTree) × List Terminal). FoundSets room ts p.0 p.1) e r

update_apart : (a b c rest : List Terminal) → t.Reserved (codes "update") ∷ (a ++ t.Reserved (codes "set") ∷ (b ++ (c ++ rest))) ≡ (t.Reserved (codes "update") ∷ (a ++ t.Reserved (codes "set") ∷ (b ++ c))) ++ rest
update_apart a b c rest = simp append_assoc

found_update : (room : ℕ) (ts after middle given rest : List Terminal) (e : EntryTree) (s : List SetTree × Option ExprTree) → ts ≡ t.Reserved (codes "update") ∷ after → FoundPart SpellsEntry flat 0 after e middle →
    middle ≡ t.Reserved (codes "set") ∷ given → FoundSets room given s rest → FoundPart SpellsPlain write_height room ts (update (record { entry = e; sets = s.0; condition = s.1 })) rest
found_update room ts after middle given rest e s is f word g = record {
  front = t.Reserved (codes "update") ∷ (f.front ++ t.Reserved (codes "set") ∷ (g.sets ++ g.condition));
  is = is ∙ ap (λ us. t.Reserved (codes "update") ∷ us) (f.is ∙ ap (λ us. f.front ++ us) (word ∙ ap (λ us. t.Reserved (codes "set") ∷ us) g.is)) ∙ update_apart f.front g.sets g.condition rest;
  spelled = record { entry = f.front; sets = g.sets; condition = g.condition; is = refl; named = f.spelled; changed = g.changed; filtered = g.filtered };
  low = omega (arith, g.low, g.filter_low);
}

update_sound : (room : ℕ) (ts after : List Terminal) (w : WriteTree) (rest : List Terminal) → ts ≡ t.Reserved (codes "update") ∷ after → update_of room after ≡ Ok (w, rest) → FoundPart SpellsPlain write_height room ts w rest
unfolding update_of
update_sound room ts after w rest is h =
    let made : EntryTree → List SetTree × Option ExprTree → WriteTree = λ e s. update (record { entry = e; sets = s.0; condition = s.1 }) in
    let next : EntryTree → List Terminal → Result (WriteTree × List Terminal) Refusal = λ e given. sets_of room given >>= λ y. Ok (made e y.0, y.1) in
    let x = bind_ok (entry_of after) (λ x. choose (behind_word (codes "set") x.1) (Err Syntax) (next x.0)) (w, rest) h in
    let go : (o : Option (List Terminal)) → behind_word (codes "set") x.0.1 ≡ o → choose o (Err Syntax) (next x.0.0) ≡ Ok (w, rest) → FoundPart SpellsPlain write_height room ts w rest = elim [
      | None ↦ (λ p e. absurd (err_ok Syntax (w, rest) e))
      | Some given ↦ (λ p e.
          let y = bind_ok (sets_of room given) (λ y. Ok (made x.0.0 y.0, y.1)) (w, rest) e in
          found_as SpellsPlain write_height room ts (made x.0.0 y.0.0) w y.0.1 rest y.2
          (found_update room ts after x.0.1 given y.0.1 x.0.0 y.0.0 is (entry_sound after x.0.0 x.0.1 x.1) (word_is (codes "set") x.0.1 given p) (sets_sound room given y.0.0 y.0.1 y.1)))
    ]
    in go (behind_word (codes "set") x.0.1) refl x.2

delete_sound : (room : ℕ) (ts after : List Terminal) (w : WriteTree) (rest : List Terminal) → ts ≡ keywords (codes "delete" ∷ codes "from" ∷ []) ++ after → delete_of room after ≡ Ok (w, rest) → FoundPart SpellsPlain write_height room ts w rest
unfolding delete_of
delete_sound room ts after w rest is h =
    let made : EntryTree → Option ExprTree → WriteTree = λ e c. delete (record { entry = e; condition = c }) in
    let x = bind_ok (entry_of after) (λ x. where_of room x.1 >>= λ y. Ok (made x.0 y.0, y.1)) (w, rest) h in
    let y = bind_ok (where_of room x.0.1) (λ y. Ok (made x.0.0 y.0, y.1)) (w, rest) x.2 in
    let f : FoundPart SpellsEntry flat 0 after x.0.0 x.0.1 = entry_sound after x.0.0 x.0.1 x.1 in
    let g : FoundPart SpellsWhere condition_height room x.0.1 y.0.0 y.0.1 = condition_sound room (codes "where" ∷ []) x.0.1 y.0.0 y.0.1 y.1 in
    found_as SpellsPlain write_height room ts (made x.0.0 y.0.0) w y.0.1 rest y.2 (record {
      front = keywords (codes "delete" ∷ codes "from" ∷ []) ++ (f.front ++ g.front);
      is = is ∙ ap (λ us. keywords (codes "delete" ∷ codes "from" ∷ []) ++ us) (f.is ∙ ap (λ us. f.front ++ us) g.is ∙ sym (append_assoc f.front g.front y.0.1));
      spelled = record { entry = f.front; condition = g.front; is = refl; named = f.spelled; filtered = g.spelled };
      low = g.low;
    })

plain_sound : (room : ℕ) → Sound SpellsPlain write_height room (plain_of room)
unfolding plain_of
plain_sound room ts w rest h =
    let go_update : (o : Option (List Terminal)) → behind_word (codes "update") ts ≡ o → choose o (Err Syntax) (update_of room) ≡ Ok (w, rest) → FoundPart SpellsPlain write_height room ts w rest = elim [
      | None ↦ (λ p e. absurd (err_ok Syntax (w, rest) e))
      | Some after ↦ (λ p e. update_sound room ts after w rest (word_is (codes "update") ts after p) e)
    ] in
    let updates : Result (WriteTree × List Terminal) Refusal = choose (behind_word (codes "update") ts) (Err Syntax) (update_of room) in
    let go_delete : (o : Option (List Terminal)) → behind_words (codes "delete" ∷ codes "from" ∷ []) ts ≡ o → choose o updates (delete_of room) ≡ Ok (w, rest) → FoundPart SpellsPlain write_height room ts w rest = elim [
      | None ↦ (λ p e. go_update (behind_word (codes "update") ts) refl e)
      | Some after ↦ (λ p e. delete_sound room ts after w rest (words_are (codes "delete" ∷ codes "from" ∷ []) ts after p) e)
    ] in
    let others : Result (WriteTree × List Terminal) Refusal = choose (behind_words (codes "delete" ∷ codes "from" ∷ []) ts) updates (delete_of room) in
    let go : (o : Option (List Terminal)) → behind_words (codes "insert" ∷ codes "into" ∷ []) ts ≡ o → choose o others (insert_of room) ≡ Ok (w, rest) → FoundPart SpellsPlain write_height room ts w rest = elim [
      | None ↦ (λ p e. go_delete (behind_words (codes "delete" ∷ codes "from" ∷ []) ts) refl e)
      | Some after ↦ (λ p e. insert_sound room ts after w rest (words_are (codes "insert" ∷ codes "into" ∷ []) ts after p) e)
    ]
    in go (behind_words (codes "insert" ∷ codes "into" ∷ []) ts) refl h

-- ---- lines

end_sound : (ts : List Terminal) (r s : WriteTree) → cond (is_end ts) (Ok r) (Err Syntax) ≡ Ok s → IsEnd ts × (r ≡ s)
end_sound [] r s h = (inl refl, ok_same r s h)
end_sound (t.Semicolon ∷ []) r s h = (inr refl, ok_same r s h)
end_sound ts r s h = absurd (err_ok Syntax s h)

pub line_sound : (room : ℕ) (ts : List Terminal) (w : WriteTree) → plain_line room ts ≡ Ok w → IsPlain ts w × (write_height w ≤ room)
unfolding plain_line
line_sound room ts w h =
    let x = bind_ok (plain_of room ts) (λ x. cond (is_end x.1) (Ok x.0) (Err Syntax)) w h in
    let f : FoundPart SpellsPlain write_height room ts x.0.0 x.0.1 = plain_sound room ts x.0.0 x.0.1 x.1 in
    let e = end_sound x.0.1 x.0.0 w x.2 in
    ((f.front, x.0.1, f.is, subst (λ r. SpellsPlain r f.front) e.1 f.spelled, e.0), subst (λ r. write_height r ≤ room) e.1 f.low)

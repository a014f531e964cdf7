-- The parts of a clause that are read are spelled so.
use Rattle.std.proofs.Common.{◌≡◌, ℕ, zero, suc, ◌≤◌, inl, inr, Bool, true, false, cond, List, [], ◌∷◌, ◌++◌, length, refl, sym, ◌∙◌, ap, subst, arith, append_assoc, codes}
use Rattle.std.specs.Prelude.{Result, Ok, Err, Option, Some, None}
use Rattle.std.specs.Str.{bytes_eq}
use Rattle.std.proofs.lemmas.Slice.Eq.{bytes_eq-Decides}
use Rattle.med_value.specs.declared.operators.Operation.TheVariants.{Multiply}
use Rattle.med_syntax.specs.declared.expr.Joint.TheVariants.{Or, And}
use Rattle.med_syntax.specs.declared.refusal.Refusal.{Refusal}
use Rattle.med_syntax.specs.declared.refusal.Refusal.TheVariants.{Syntax}
use Rattle.med_syntax.specs.declared.symbols.Separator.TheVariants.{Comma}
use Rattle.med_syntax.specs.Prelude.{Name, Terminal, word_terminal, ExprTree, spelling, height, choose, behind_of, keywords, SpellsOthers, SpellsList, IsLabel, SpellsLabel, SpellsAlias, SpellsItem, SpellsEntry, SpellsFlag, SpellsPerhaps, SpellsListed, SpellsExpr, label_of}
use Rattle.med_syntax.specs.ExprReading.{below}
use Rattle.med_syntax.specs.Words.{is_reserved}
use Rattle.med_syntax.specs.ExprReading.{◌>>=◌}
use Rattle.med_syntax.specs.Terminal as t
use Rattle.med_syntax.specs.QueryTree.{all, all_of, value, item_height, highest_of, condition_height}
use Rattle.query_reader.specs.QueryReading.{Parser, behind_word, behind_words, flag_of, read_name, perhaps_name, label_at, label_after, value_item, item_of, others, list_of, alias_after, entry_of, perhaps_of, listed_of}
use Rattle.med_syntax.proofs.ExprSound.{bind_ok, ok_same, sounds}
use Rattle.med_syntax.proofs.ExprSound as expr

-- the front of the terminals spells x, which has room, and the rest is left
pub record FoundPart {X : Type 0} (Spelling : X → List Terminal → Type 0) (high : X → ℕ) (room : ℕ) (ts : List Terminal) (x : X) (rest : List Terminal) : Type 0 where
  pub front : List Terminal
  pub is : ts ≡ front ++ rest
  pub spelled : Spelling x front
  pub low : high x ≤ room

abbrev pub Sound : {X : Type 0} → (X → List Terminal → Type 0) → (X → ℕ) → ℕ → Parser X → Type 0
Sound {X} Spelling high room item = (ts : List Terminal) (x : X) (rest : List Terminal) → item ts ≡ Ok (x, rest) → FoundPart Spelling high room ts x rest

pub found_as : {X : Type 0} (Spelling : X → List Terminal → Type 0) (high : X → ℕ) (room : ℕ) (ts : List Terminal) (x y : X) (rest last : List Terminal) → ◌≡◌ {A = Result (X × List Terminal) Refusal} (Ok (x, rest)) (Ok (y, last)) → FoundPart Spelling high room ts x rest → FoundPart Spelling high room ts y last
found_as {X} Spelling high room ts x y rest last h f =
    let e : ◌≡◌ {A = X × List Terminal} (x, rest) (y, last) = ok_same (x, rest) (y, last) h in
    subst (λ (p : X × List Terminal). FoundPart Spelling high room ts p.0 p.1) e f

-- a part that is found without room for an expression
abbrev pub flat : {X : Type 0} → X → ℕ
flat x = 0

-- ---- words and names

word_at : (w v : List ℕ) (us after : List Terminal) (b : Bool) → bytes_eq v w ≡ b → cond b (Some us) None ≡ Some after → t.Reserved v ∷ us ≡ t.Reserved w ∷ after
word_at w v us after false e h = absurd (cc)
word_at w v us after true e h = (λ i. t.Reserved ((bytes_eq-Decides v w).0 e i) ∷ (let same : us ≡ after = cc in same) i)

pub none_some : {A : Type 0} (x : A) → ◌≡◌ {A = Option A} None (Some x) → ⊥
none_some x h = absurd (cc)

pub some_is : {A : Type 0} (x y : A) → ◌≡◌ {A = Option A} (Some x) (Some y) → x ≡ y
some_is x y h = cc

pub err_ok : {A : Type 0} (f : Refusal) (x : A) → ◌≡◌ {A = Result A Refusal} (Err f) (Ok x) → ⊥
err_ok f x h = absurd (cc)

pub word_is : (w : List ℕ) (ts after : List Terminal) → behind_word w ts ≡ Some after → ts ≡ t.Reserved w ∷ after
word_is w [] after h = absurd (none_some after h)
word_is w (t.Reserved v ∷ us) after h = word_at w v us after (bytes_eq v w) refl h
word_is w (u ∷ us) after h = absurd (none_some after h)

pub comma_is : (ts after : List Terminal) → behind_of Comma ts ≡ Some after → ts ≡ t.Comma ∷ after
comma_is [] after h = absurd (none_some after h)
comma_is (t.Comma ∷ us) after h = ap (λ vs. t.Comma ∷ vs) (let same : us ≡ after = cc in same)
comma_is (u ∷ us) after h = absurd (none_some after h)

pub words_are : (ws : List (List ℕ)) (ts after : List Terminal) → behind_words ws ts ≡ Some after → ts ≡ keywords ws ++ after
words_are [] ts after h = some_is ts after h
words_are (w ∷ ws) ts after h =
    let go : (o : Option (List Terminal)) → behind_word w ts ≡ o → choose o None (behind_words ws) ≡ Some after → ts ≡ keywords (w ∷ ws) ++ after = elim [
      | None ↦ (λ p q. absurd (none_some after q))
      | Some us ↦ (λ p q. word_is w ts us p ∙ ap (λ vs. t.Reserved w ∷ vs) (words_are ws us after q))
    ]
    in go (behind_word w ts) refl h

name_is : (ts : List Terminal) (n : Name) (rest : List Terminal) → read_name ts ≡ Ok (n, rest) → ts ≡ t.Name n ∷ rest
name_is [] n rest h = absurd (err_ok Syntax (n, rest) h)
name_is (t.Name m ∷ us) n rest h = ap (λ (p : Name × List Terminal). t.Name p.0 ∷ p.1) (ok_same (m, us) (n, rest) h)
name_is (u ∷ us) n rest h = absurd (err_ok Syntax (n, rest) h)

-- ---- labels and aliases

perhaps_label : (ts : List Terminal) (label : Option Name) (rest : List Terminal) → perhaps_name ts ≡ Ok (label, rest) → FoundPart SpellsLabel flat 0 ts label rest
perhaps_label [] label rest h = found_as SpellsLabel flat 0 [] None label [] rest h (record { front = []; is = refl; spelled = refl; low = omega arith })
perhaps_label (t.Name m ∷ us) label rest h = found_as SpellsLabel flat 0 (t.Name m ∷ us) (Some m) label us rest h (record { front = t.Name m ∷ []; is = refl; spelled = inl refl; low = omega arith })
perhaps_label (u ∷ us) label rest h = found_as SpellsLabel flat 0 (u ∷ us) None label (u ∷ us) rest h (record { front = []; is = refl; spelled = refl; low = omega arith })

perhaps_alias : (ts : List Terminal) (alias : Option Name) (rest : List Terminal) → perhaps_name ts ≡ Ok (alias, rest) → FoundPart SpellsAlias flat 0 ts alias rest
perhaps_alias [] alias rest h = found_as SpellsAlias flat 0 [] None alias [] rest h (record { front = []; is = refl; spelled = refl; low = omega arith })
perhaps_alias (t.Name m ∷ us) alias rest h = found_as SpellsAlias flat 0 (t.Name m ∷ us) (Some m) alias us rest h (record { front = t.Name m ∷ []; is = refl; spelled = inl refl; low = omega arith })
perhaps_alias (u ∷ us) alias rest h = found_as SpellsAlias flat 0 (u ∷ us) None alias (u ∷ us) rest h (record { front = []; is = refl; spelled = refl; low = omega arith })

word_same : (u : Terminal) (w n : List ℕ) → u ≡ word_terminal w → ◌≡◌ {A = Option Name} (Some w) (Some n) → IsLabel n u
word_same u w n p h = inr (inr (p ∙ ap word_terminal (some_is w n h)))

reserved_label : (w n : List ℕ) (b : Bool) → is_reserved w ≡ b → ◌≡◌ {A = Option Name} (cond b (Some w) None) (Some n) → IsLabel n (t.Reserved w)
reserved_label w n true p h = let e : w ≡ n = some_is w n h in inr (inl (ap t.Reserved e, subst (λ v. is_reserved v ≡ true) e p))
reserved_label w n false p h = absurd (none_some n h)

label_terminal : (u : Terminal) (n : Name) → label_of u ≡ Some n → IsLabel n u
unfolding is_reserved
label_terminal (t.Joined And) n h = word_same (t.Joined And) (codes "and") n refl h
label_terminal (t.Joined Or) n h = word_same (t.Joined Or) (codes "or") n refl h
label_terminal t.Not n h = word_same t.Not (codes "not") n refl h
label_terminal t.Between n h = word_same t.Between (codes "between") n refl h
label_terminal t.In n h = word_same t.In (codes "in") n refl h
label_terminal t.Is n h = word_same t.Is (codes "is") n refl h
label_terminal t.Like n h = word_same t.Like (codes "like") n refl h
label_terminal t.Null n h = word_same t.Null (codes "null") n refl h
label_terminal (t.Truth true) n h = word_same (t.Truth true) (codes "true") n refl h
label_terminal (t.Truth false) n h = word_same (t.Truth false) (codes "false") n refl h
label_terminal (t.Name m) n h = inl (ap t.Name (some_is m n h))
label_terminal (t.Reserved w) n h = reserved_label w n (is_reserved w) refl h
label_terminal u n h = absurd (none_some n h)

label_at_sound : (ts after : List Terminal) (label : Option Name) (rest : List Terminal) → ts ≡ t.Reserved (codes "as") ∷ after → label_at after ≡ Ok (label, rest) → FoundPart SpellsLabel flat 0 ts label rest
label_at_sound ts [] label rest p h = absurd (err_ok Syntax (label, rest) h)
label_at_sound ts (u ∷ us) label rest p h =
    let go : (o : Option Name) → label_of u ≡ o → choose {B = Result (Option Name × List Terminal) Refusal} o (Err Syntax) (λ n. Ok (Some n, us)) ≡ Ok (label, rest) → FoundPart SpellsLabel flat 0 ts label rest = elim [
      | None ↦ (λ is e. absurd (err_ok Syntax (label, rest) e))
      | Some n ↦ (λ is e. found_as SpellsLabel flat 0 ts (Some n) label us rest e (record { front = t.Reserved (codes "as") ∷ u ∷ []; is = p; spelled = inr (u, refl, label_terminal u n is); low = omega arith }))
    ]
    in go (label_of u) refl h

pub label_sound : Sound SpellsLabel flat 0 label_after
unfolding label_after
label_sound ts label rest h =
    let go : (o : Option (List Terminal)) → behind_word (codes "as") ts ≡ o → choose o (perhaps_name ts) label_at ≡ Ok (label, rest) → FoundPart SpellsLabel flat 0 ts label rest = elim [
      | None ↦ (λ is e. perhaps_label ts label rest e)
      | Some after ↦ (λ is e. label_at_sound ts after label rest (word_is (codes "as") ts after is) e)
    ]
    in go (behind_word (codes "as") ts) refl h

pub alias_sound : Sound SpellsAlias flat 0 alias_after
unfolding alias_after
alias_sound ts alias rest h =
    let named : List Terminal → Result (Option Name × List Terminal) Refusal = λ after. read_name after >>= λ x. Ok (Some x.0, x.1) in
    let go : (o : Option (List Terminal)) → behind_word (codes "as") ts ≡ o → choose o (perhaps_name ts) named ≡ Ok (alias, rest) → FoundPart SpellsAlias flat 0 ts alias rest = elim [
      | None ↦ (λ is e. perhaps_alias ts alias rest e)
      | Some after ↦ (λ is e.
          let x = bind_ok (read_name after) (λ x. Ok (Some x.0, x.1)) (alias, rest) e in
          found_as SpellsAlias flat 0 ts (Some x.0.0) alias x.0.1 rest x.2 (record {
            front = t.Reserved (codes "as") ∷ t.Name x.0.0 ∷ [];
            is = word_is (codes "as") ts after is ∙ ap (λ us. t.Reserved (codes "as") ∷ us) (name_is after x.0.0 x.0.1 x.1);
            spelled = inr refl;
            low = omega arith;
          }))
    ]
    in go (behind_word (codes "as") ts) refl h

-- ---- items

found_value : (room : ℕ) (ts middle : List Terminal) (e : ExprTree) (label : Option Name) (rest : List Terminal) → expr.FoundExpr 0 room ts e middle → FoundPart SpellsLabel flat 0 middle label rest → FoundPart SpellsItem item_height room ts (value e label) rest
found_value room ts middle e label rest f l = record {
  front = spelling e ++ l.front;
  is = f.spelled ∙ ap (λ us. spelling e ++ us) l.is ∙ sym (append_assoc (spelling e) l.front rest);
  spelled = (spelling e, l.front, refl, record { fits = f.fits; spelled = refl }, l.spelled);
  low = f.low;
}

value_sound : (room : ℕ) → Sound SpellsItem item_height room (value_item room)
unfolding value_item
value_sound room ts item rest h =
    let x = bind_ok ((below room).whole ts) (λ x. label_after x.1 >>= λ y. Ok (value x.0 y.0, y.1)) (item, rest) h in
    let y = bind_ok (label_after x.0.1) (λ y. Ok (value x.0.0 y.0, y.1)) (item, rest) x.2 in
    found_as SpellsItem item_height room ts (value x.0.0 y.0.0) item y.0.1 rest y.2
    (found_value room ts x.0.1 x.0.0 y.0.0 y.0.1 ((sounds room).whole ts x.0.0 x.0.1 x.1) (label_sound x.0.1 y.0.0 y.0.1 y.1))

pub item_sound : (room : ℕ) → Sound SpellsItem item_height room (item_of room)
item_sound room (t.Binary Multiply ∷ us) item rest h = found_as SpellsItem item_height room (t.Binary Multiply ∷ us) all item us rest h (record { front = t.Binary Multiply ∷ []; is = refl; spelled = refl; low = omega arith })
item_sound room (t.Name q ∷ t.Dot ∷ t.Binary Multiply ∷ us) item rest h =
    found_as SpellsItem item_height room (t.Name q ∷ t.Dot ∷ t.Binary Multiply ∷ us) (all_of q) item us rest h (record { front = t.Name q ∷ t.Dot ∷ t.Binary Multiply ∷ []; is = refl; spelled = refl; low = omega arith })
item_sound room ts item rest h = value_sound room ts item rest h

-- ---- lists

found_none : {X : Type 0} (Spelling : X → List Terminal → Type 0) (high : X → ℕ) (room : ℕ) (ts : List Terminal) (xs : List X) (rest : List Terminal) → ◌≡◌ {A = Result (List X × List Terminal) Refusal} (Ok ([], ts)) (Ok (xs, rest)) → FoundPart (SpellsOthers Spelling) (highest_of high) room ts xs rest
found_none Spelling high room ts xs rest h = found_as (SpellsOthers Spelling) (highest_of high) room ts [] xs ts rest h (record { front = []; is = refl; spelled = refl; low = omega arith })

found_more : {X : Type 0} (Spelling : X → List Terminal → Type 0) (high : X → ℕ) (room : ℕ) (ts after : List Terminal) (x : X) (middle : List Terminal) (xs : List X) (rest : List Terminal) → ts ≡ t.Comma ∷ after → FoundPart Spelling high room after x middle → FoundPart (SpellsOthers Spelling) (highest_of high) room middle xs rest → FoundPart (SpellsOthers Spelling) (highest_of high) room ts (x ∷ xs) rest
found_more Spelling high room ts after x middle xs rest c f o = record {
  front = t.Comma ∷ (f.front ++ o.front);
  is = c ∙ ap (λ us. t.Comma ∷ us) (f.is ∙ ap (λ us. f.front ++ us) o.is ∙ sym (append_assoc f.front o.front rest));
  spelled = (f.front, o.front, refl, f.spelled, o.spelled);
  low = omega (arith, f.low, o.low);
}

found_list : {X : Type 0} (Spelling : X → List Terminal → Type 0) (high : X → ℕ) (room : ℕ) (ts : List Terminal) (x : X) (middle : List Terminal) (xs : List X) (rest : List Terminal) → FoundPart Spelling high room ts x middle → FoundPart (SpellsOthers Spelling) (highest_of high) room middle xs rest → FoundPart (SpellsList Spelling) (highest_of high) room ts (x ∷ xs) rest
found_list Spelling high room ts x middle xs rest f o = record {
  front = f.front ++ o.front;
  is = f.is ∙ ap (λ us. f.front ++ us) o.is ∙ sym (append_assoc f.front o.front rest);
  spelled = (f.front, o.front, refl, f.spelled, o.spelled);
  low = omega (arith, f.low, o.low);
}

others_sound : {X : Type 0} (Spelling : X → List Terminal → Type 0) (high : X → ℕ) (room : ℕ) (item : Parser X) → Sound Spelling high room item → (k : ℕ) → Sound (SpellsOthers Spelling) (highest_of high) room (others item k)
unfolding others
others_sound Spelling high room item sound zero ts xs rest h = found_none Spelling high room ts xs rest h
others_sound {X} Spelling high room item sound (suc k) ts xs rest h =
    let go_on : List Terminal → Result (List X × List Terminal) Refusal = λ after. item after >>= λ x. others item k x.1 >>= λ y. Ok (x.0 ∷ y.0, y.1) in
    let go : (o : Option (List Terminal)) → behind_of Comma ts ≡ o → choose o (Ok ([], ts)) go_on ≡ Ok (xs, rest) → FoundPart (SpellsOthers Spelling) (highest_of high) room ts xs rest = elim [
      | None ↦ (λ c e. found_none Spelling high room ts xs rest e)
      | Some after ↦ (λ c e.
          let x = bind_ok (item after) (λ x. others item k x.1 >>= λ y. Ok (x.0 ∷ y.0, y.1)) (xs, rest) e in
          let y = bind_ok (others item k x.0.1) (λ y. Ok (x.0.0 ∷ y.0, y.1)) (xs, rest) x.2 in
          found_as (SpellsOthers Spelling) (highest_of high) room ts (x.0.0 ∷ y.0.0) xs y.0.1 rest y.2
          (found_more Spelling high room ts after x.0.0 x.0.1 y.0.0 y.0.1 (comma_is ts after c) (sound after x.0.0 x.0.1 x.1) (others_sound Spelling high room item sound k x.0.1 y.0.0 y.0.1 y.1)))
    ]
    in go (behind_of Comma ts) refl h

pub list_sound : {X : Type 0} (Spelling : X → List Terminal → Type 0) (high : X → ℕ) (room : ℕ) (item : Parser X) → Sound Spelling high room item → Sound (SpellsList Spelling) (highest_of high) room (list_of item)
unfolding list_of
list_sound Spelling high room item sound ts xs rest h =
    let x = bind_ok (item ts) (λ x. others item (length x.1) x.1 >>= λ y. Ok (x.0 ∷ y.0, y.1)) (xs, rest) h in
    let y = bind_ok (others item (length x.0.1) x.0.1) (λ y. Ok (x.0.0 ∷ y.0, y.1)) (xs, rest) x.2 in
    found_as (SpellsList Spelling) (highest_of high) room ts (x.0.0 ∷ y.0.0) xs y.0.1 rest y.2
    (found_list Spelling high room ts x.0.0 x.0.1 y.0.0 y.0.1 (sound ts x.0.0 x.0.1 x.1) (others_sound Spelling high room item sound (length x.0.1) x.0.1 y.0.0 y.0.1 y.1))

-- ---- clauses

pub entry_sound : Sound SpellsEntry flat 0 entry_of
unfolding entry_of
entry_sound ts e rest h =
    let x = bind_ok (read_name ts) (λ x. alias_after x.1 >>= λ y. Ok (record { table = x.0; alias = y.0 }, y.1)) (e, rest) h in
    let y = bind_ok (alias_after x.0.1) (λ y. Ok (record { table = x.0.0; alias = y.0 }, y.1)) (e, rest) x.2 in
    let a : FoundPart SpellsAlias flat 0 x.0.1 y.0.0 y.0.1 = alias_sound x.0.1 y.0.0 y.0.1 y.1 in
    found_as SpellsEntry flat 0 ts (record { table = x.0.0; alias = y.0.0 }) e y.0.1 rest y.2 (record {
      front = t.Name x.0.0 ∷ a.front;
      is = name_is ts x.0.0 x.0.1 x.1 ∙ ap (λ us. t.Name x.0.0 ∷ us) a.is;
      spelled = (a.front, refl, a.spelled);
      low = omega arith;
    })

-- ---- parts that may be left out

perhaps_sound : {X : Type 0} (words : List (List ℕ)) (Spelling : X → List Terminal → Type 0) (high : X → ℕ) (high_perhaps : Option X → ℕ) (room : ℕ) (item : Parser X) → Sound Spelling high room item → high_perhaps None ≤ room → ((x : X) → high x ≤ room → high_perhaps (Some x) ≤ room) →
    Sound (SpellsPerhaps words Spelling) high_perhaps room (perhaps_of words item)
unfolding perhaps_of
perhaps_sound {X} words Spelling high high_perhaps room item sound low lows ts x rest h =
    let named : List Terminal → Result (Option X × List Terminal) Refusal = λ after. item after >>= λ y. Ok (Some y.0, y.1) in
    let go : (o : Option (List Terminal)) → behind_words words ts ≡ o → choose o (Ok (None, ts)) named ≡ Ok (x, rest) → FoundPart (SpellsPerhaps words Spelling) high_perhaps room ts x rest = elim [
      | None ↦ (λ is e. found_as (SpellsPerhaps words Spelling) high_perhaps room ts None x ts rest e (record { front = []; is = refl; spelled = refl; low = low }))
      | Some after ↦ (λ is e.
          let y = bind_ok (item after) (λ y. Ok (Some y.0, y.1)) (x, rest) e in
          let f : FoundPart Spelling high room after y.0.0 y.0.1 = sound after y.0.0 y.0.1 y.1 in
          found_as (SpellsPerhaps words Spelling) high_perhaps room ts (Some y.0.0) x y.0.1 rest y.2 (record {
            front = keywords words ++ f.front;
            is = words_are words ts after is ∙ ap (λ us. keywords words ++ us) f.is ∙ sym (append_assoc (keywords words) f.front y.0.1);
            spelled = (f.front, refl, f.spelled);
            low = lows y.0.0 f.low;
          }))
    ]
    in go (behind_words words ts) refl h

pub expr_sound : (room : ℕ) → Sound SpellsExpr height room (below room).whole
expr_sound room ts e rest h =
    let f : expr.FoundExpr 0 room ts e rest = (sounds room).whole ts e rest h in
    record { front = spelling e; is = f.spelled; spelled = record { fits = f.fits; spelled = refl }; low = f.low }

pub condition_sound : (room : ℕ) (words : List (List ℕ)) → Sound (SpellsPerhaps words SpellsExpr) condition_height room (perhaps_of words (below room).whole)
condition_sound room words = perhaps_sound words SpellsExpr height condition_height room (below room).whole (expr_sound room) (omega arith) (λ e l. l)

found_listed : {X : Type 0} (words : List (List ℕ)) (Spelling : X → List Terminal → Type 0) (high : X → ℕ) (room : ℕ) (ts after : List Terminal) (xs : List X) (rest : List Terminal) → ts ≡ keywords words ++ after → FoundPart (SpellsList Spelling) (highest_of high) room after xs rest → FoundPart (SpellsListed words Spelling) (highest_of high) room ts xs rest
found_listed words Spelling high room ts after [] rest is f = absurd f.spelled
found_listed words Spelling high room ts after (x ∷ xs) rest is f = record {
  front = keywords words ++ f.front;
  is = is ∙ ap (λ us. keywords words ++ us) f.is ∙ sym (append_assoc (keywords words) f.front rest);
  spelled = (f.front, refl, f.spelled);
  low = f.low;
}

pub listed_sound : {X : Type 0} (words : List (List ℕ)) (Spelling : X → List Terminal → Type 0) (high : X → ℕ) (room : ℕ) (item : Parser X) → Sound Spelling high room item → Sound (SpellsListed words Spelling) (highest_of high) room (listed_of words item)
unfolding listed_of
listed_sound {X} words Spelling high room item sound ts xs rest h =
    let go : (o : Option (List Terminal)) → behind_words words ts ≡ o → choose {B = Result (List X × List Terminal) Refusal} o (Ok ([], ts)) (list_of item) ≡ Ok (xs, rest) → FoundPart (SpellsListed words Spelling) (highest_of high) room ts xs rest = elim [
      | None ↦ (λ is e. found_as (SpellsListed words Spelling) (highest_of high) room ts [] xs ts rest e (record { front = []; is = refl; spelled = refl; low = omega arith }))
      | Some after ↦ (λ is e. found_listed words Spelling high room ts after xs rest (words_are words ts after is) (list_sound Spelling high room item sound after xs rest e))
    ]
    in go (behind_words words ts) refl h

-- what was told of the words in front, and what stands behind them
pub record FoundFlag (one other : List ℕ) (ts : List Terminal) (b : Bool) (rest : List Terminal) : Type 0 where
  pub front : List Terminal
  pub is : ts ≡ front ++ rest
  pub spelled : SpellsFlag one other b front

flag_as : (one other : List ℕ) (ts : List Terminal) (p q : Bool × List Terminal) → p ≡ q → FoundFlag one other ts p.0 p.1 → FoundFlag one other ts q.0 q.1
flag_as one other ts p q h f = subst (λ (r : Bool × List Terminal). FoundFlag one other ts r.0 r.1) h f

flag_other : (one other : List ℕ) (ts : List Terminal) (o : Option (List Terminal)) → behind_word other ts ≡ o → (r : Bool × List Terminal) → choose {B = Bool × List Terminal} o (false, ts) (λ after. (false, after)) ≡ r → FoundFlag one other ts r.0 r.1
flag_other one other ts None p r q = flag_as one other ts (false, ts) r q (record { front = []; is = refl; spelled = inl refl })
flag_other one other ts (Some after) p r q = flag_as one other ts (false, after) r q (record { front = t.Reserved other ∷ []; is = word_is other ts after p; spelled = inr refl })

pub flag_sound : (one other : List ℕ) (ts : List Terminal) → FoundFlag one other ts (flag_of one other ts).0 (flag_of one other ts).1
unfolding flag_of
flag_sound one other ts =
    let rest : Option (List Terminal) → Bool × List Terminal = λ o. choose {B = Bool × List Terminal} o (false, ts) (λ after. (false, after)) in
    let go : (o : Option (List Terminal)) → behind_word one ts ≡ o → (r : Bool × List Terminal) → choose {B = Bool × List Terminal} o (rest (behind_word other ts)) (λ after. (true, after)) ≡ r → FoundFlag one other ts r.0 r.1 = elim [
      | None ↦ (λ p r q. flag_other one other ts (behind_word other ts) refl r q)
      | Some after ↦ (λ p r q. flag_as one other ts (true, after) r q (record { front = t.Reserved one ∷ []; is = word_is one ts after p; spelled = refl }))
    ]
    in go (behind_word one ts) refl (flag_of one other ts) refl

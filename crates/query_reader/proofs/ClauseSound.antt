-- The clauses that are read are spelled so.
use Rattle.std.proofs.Common.{◌≡◌, ℕ, zero, suc, ◌⊎◌, inl, inr, Bool, true, false, List, [], ◌∷◌, ◌++◌, length, refl, sym, ◌∙◌, ap, subst, arith, append_assoc, codes}
use Rattle.std.specs.Prelude.{Result, Ok, Err, Option, Some, None}
use Rattle.med_syntax.specs.declared.refusal.Refusal.{Refusal}
use Rattle.med_syntax.specs.declared.refusal.Refusal.TheVariants.{Syntax}
use Rattle.query_reader.specs.declared.query_source.JoinWay.{JoinWay}
use Rattle.query_reader.specs.declared.query_source.JoinWay.TheVariants as ways
use Rattle.med_syntax.specs.Prelude.{Terminal, ExprTree, height, choose, EntryTree, JoinTree, inner_join, left_join, cross_join, KeyTree, LimitTree, no_limit, rows, join_height, chain_height, key_height, highest_of, keywords, SpellsEntry, SpellsOn, SpellsJoin, SpellsJoins, SpellsChain, SpellsGroup, SpellsNulls, SpellsKey, SpellsLimit, SpellsOffset, SpellsLimits, SpellsExpr}
use Rattle.med_syntax.specs.ExprReading.{below}
use Rattle.med_syntax.specs.ExprReading.{◌>>=◌}
use Rattle.med_syntax.specs.Terminal as t
use Rattle.query_reader.specs.QueryReading.{behind_word, behind_words, flag_of, entry_of, join_words, on_of, join_of, joins_of, all_joins_of, source_of, group_of, nulls_of, key_after, key_of, number_of, limit_at, limit_of, behind_unit, offset_of, limit_after, limits_of}
use Rattle.med_syntax.proofs.ExprSound.{bind_ok, ok_same}
use Rattle.query_reader.proofs.PartSound.{FoundPart, Sound, found_as, flat, none_some, some_is, err_ok, word_is, words_are, entry_sound, expr_sound, FoundFlag, flag_sound}

-- ---- FROM

found_on : (room : ℕ) (ts a after rest : List Terminal) (e : EntryTree) (on : ExprTree) → FoundPart SpellsEntry flat 0 ts e a → a ≡ t.Reserved (codes "on") ∷ after → FoundPart SpellsExpr height room after on rest →
    FoundPart (λ (x : EntryTree × ExprTree). SpellsOn x.0 x.1) (λ x. height x.1) room ts (e, on) rest
found_on room ts a after rest e on f p g = record {
  front = f.front ++ t.Reserved (codes "on") ∷ g.front;
  is = f.is ∙ ap (λ us. f.front ++ us) (p ∙ ap (λ us. t.Reserved (codes "on") ∷ us) g.is) ∙ sym (append_assoc f.front (t.Reserved (codes "on") ∷ g.front) rest);
  spelled = (f.front, g.front, refl, f.spelled, g.spelled);
  low = g.low;
}

on_sound : (room : ℕ) → Sound (λ (x : EntryTree × ExprTree). SpellsOn x.0 x.1) (λ x. height x.1) room (on_of room)
unfolding on_of
on_sound room ts y rest h =
    let on : EntryTree → List Terminal → Result ((EntryTree × ExprTree) × List Terminal) Refusal = λ e after. (below room).whole after >>= λ z. Ok ((e, z.0), z.1) in
    let x = bind_ok (entry_of ts) (λ x. choose (behind_word (codes "on") x.1) (Err Syntax) (on x.0)) (y, rest) h in
    let go : (o : Option (List Terminal)) → behind_word (codes "on") x.0.1 ≡ o → choose o (Err Syntax) (on x.0.0) ≡ Ok (y, rest) → FoundPart (λ (x : EntryTree × ExprTree). SpellsOn x.0 x.1) (λ x. height x.1) room ts y rest = elim [
      | None ↦ (λ is e. absurd (err_ok Syntax (y, rest) e))
      | Some after ↦ (λ is e.
          let z = bind_ok ((below room).whole after) (λ z. Ok ((x.0.0, z.0), z.1)) (y, rest) e in
          found_as (λ (x : EntryTree × ExprTree). SpellsOn x.0 x.1) (λ x. height x.1) room ts (x.0.0, z.0.0) y z.0.1 rest z.2
          (found_on room ts x.0.1 after z.0.1 x.0.0 z.0.0 (entry_sound ts x.0.0 x.0.1 x.1) (word_is (codes "on") x.0.1 after is) (expr_sound room after z.0.0 z.0.1 z.1)))
    ]
    in go (behind_word (codes "on") x.0.1) refl x.2

-- the words of a join, by how it joins
abbrev WayWords : JoinWay → List Terminal → Type 0
WayWords ways.Inner ts = (ts ≡ keywords (codes "join" ∷ [])) ⊎ (ts ≡ keywords (codes "inner" ∷ codes "join" ∷ []))
WayWords ways.Left ts = (ts ≡ keywords (codes "left" ∷ codes "join" ∷ [])) ⊎ (ts ≡ keywords (codes "left" ∷ codes "outer" ∷ codes "join" ∷ []))
WayWords ways.Cross ts = ts ≡ keywords (codes "cross" ∷ codes "join" ∷ [])

record FoundWay (ts : List Terminal) (way : JoinWay) (rest : List Terminal) : Type 0 where
  front : List Terminal
  is : ts ≡ front ++ rest
  words : WayWords way front

way_as : (ts : List Terminal) (x y : JoinWay × List Terminal) → ◌≡◌ {A = Option (JoinWay × List Terminal)} (Some x) (Some y) → FoundWay ts x.0 x.1 → FoundWay ts y.0 y.1
way_as ts x y h f = subst (λ (z : JoinWay × List Terminal). FoundWay ts z.0 z.1) (some_is x y h) f

abbrev Ways : Type 0
Ways = Option (JoinWay × List Terminal)

-- one after the other, the first that stands in front
way_step : (ts : List Terminal) (words : List (List ℕ)) (way : JoinWay) → WayWords way (keywords words) → (other : Ways) → ((x : JoinWay × List Terminal) → other ≡ Some x → FoundWay ts x.0 x.1) →
    (x : JoinWay × List Terminal) → choose {B = Ways} (behind_words words ts) other (λ after. Some (way, after)) ≡ Some x → FoundWay ts x.0 x.1
way_step ts words way w other go_on x h =
    let go : (o : Option (List Terminal)) → behind_words words ts ≡ o → choose {B = Ways} o other (λ after. Some (way, after)) ≡ Some x → FoundWay ts x.0 x.1 = elim [
      | None ↦ (λ p q. go_on x q)
      | Some after ↦ (λ p q. way_as ts (way, after) x q (record { front = keywords words; is = words_are words ts after p; words = w }))
    ]
    in go (behind_words words ts) refl h

way_sound : (ts : List Terminal) (x : JoinWay × List Terminal) → join_words ts ≡ Some x → FoundWay ts x.0 x.1
unfolding join_words
way_sound ts x h =
    way_step ts (codes "join" ∷ []) ways.Inner (inl refl) _
    (way_step ts (codes "inner" ∷ codes "join" ∷ []) ways.Inner (inr refl) _
    (way_step ts (codes "left" ∷ codes "join" ∷ []) ways.Left (inl refl) _
    (way_step ts (codes "left" ∷ codes "outer" ∷ codes "join" ∷ []) ways.Left (inr refl) _
    (way_step ts (codes "cross" ∷ codes "join" ∷ []) ways.Cross refl None (λ y p. absurd (none_some y p)))))) x h

found_inner : (room : ℕ) (ts after : List Terminal) (e : EntryTree) (on : ExprTree) (rest : List Terminal) → FoundWay ts ways.Inner after → FoundPart (λ (x : EntryTree × ExprTree). SpellsOn x.0 x.1) (λ x. height x.1) room after (e, on) rest → FoundPart SpellsJoin join_height room ts (inner_join e on) rest
found_inner room ts after e on rest w f = record {
  front = w.front ++ f.front;
  is = w.is ∙ ap (λ us. w.front ++ us) f.is ∙ sym (append_assoc w.front f.front rest);
  spelled = (w.front, f.front, refl, w.words, f.spelled);
  low = f.low;
}

found_left : (room : ℕ) (ts after : List Terminal) (e : EntryTree) (on : ExprTree) (rest : List Terminal) → FoundWay ts ways.Left after → FoundPart (λ (x : EntryTree × ExprTree). SpellsOn x.0 x.1) (λ x. height x.1) room after (e, on) rest → FoundPart SpellsJoin join_height room ts (left_join e on) rest
found_left room ts after e on rest w f = record {
  front = w.front ++ f.front;
  is = w.is ∙ ap (λ us. w.front ++ us) f.is ∙ sym (append_assoc w.front f.front rest);
  spelled = (w.front, f.front, refl, w.words, f.spelled);
  low = f.low;
}

found_cross : (room : ℕ) (ts after : List Terminal) (e : EntryTree) (rest : List Terminal) → FoundWay ts ways.Cross after → FoundPart SpellsEntry flat 0 after e rest → FoundPart SpellsJoin join_height room ts (cross_join e) rest
found_cross room ts after e rest w f = record {
  front = keywords (codes "cross" ∷ codes "join" ∷ []) ++ f.front;
  is = w.is ∙ ap (λ us. us ++ after) w.words ∙ ap (λ us. keywords (codes "cross" ∷ codes "join" ∷ []) ++ us) f.is;
  spelled = (f.front, refl, f.spelled);
  low = omega arith;
}

join_sound : (room : ℕ) (way : JoinWay) (ts after : List Terminal) (x : JoinTree) (rest : List Terminal) → FoundWay ts way after → join_of way room after ≡ Ok (x, rest) → FoundPart SpellsJoin join_height room ts x rest
join_sound room ways.Inner ts after x rest w h =
    let y = bind_ok (on_of room after) (λ y. Ok (inner_join y.0.0 y.0.1, y.1)) (x, rest) h in
    found_as SpellsJoin join_height room ts (inner_join y.0.0.0 y.0.0.1) x y.0.1 rest y.2 (found_inner room ts after y.0.0.0 y.0.0.1 y.0.1 w (on_sound room after y.0.0 y.0.1 y.1))
join_sound room ways.Left ts after x rest w h =
    let y = bind_ok (on_of room after) (λ y. Ok (left_join y.0.0 y.0.1, y.1)) (x, rest) h in
    found_as SpellsJoin join_height room ts (left_join y.0.0.0 y.0.0.1) x y.0.1 rest y.2 (found_left room ts after y.0.0.0 y.0.0.1 y.0.1 w (on_sound room after y.0.0 y.0.1 y.1))
join_sound room ways.Cross ts after x rest w h =
    let y = bind_ok (entry_of after) (λ y. Ok (cross_join y.0, y.1)) (x, rest) h in
    found_as SpellsJoin join_height room ts (cross_join y.0.0) x y.0.1 rest y.2 (found_cross room ts after y.0.0 y.0.1 w (entry_sound after y.0.0 y.0.1 y.1))

-- what one join leaves
pub join_found : (room : ℕ) (ts after : List Terminal) (way : JoinWay) (x : JoinTree) (rest : List Terminal) → join_words ts ≡ Some (way, after) → join_of way room after ≡ Ok (x, rest) → FoundPart SpellsJoin join_height room ts x rest
join_found room ts after way x rest p h = join_sound room way ts after x rest (way_sound ts (way, after) p) h

found_joins : (room : ℕ) (ts : List Terminal) (x : JoinTree) (middle : List Terminal) (xs : List JoinTree) (rest : List Terminal) → FoundPart SpellsJoin join_height room ts x middle → FoundPart SpellsJoins (highest_of join_height) room middle xs rest → FoundPart SpellsJoins (highest_of join_height) room ts (x ∷ xs) rest
found_joins room ts x middle xs rest f o = record {
  front = f.front ++ o.front;
  is = f.is ∙ ap (λ us. f.front ++ us) o.is ∙ sym (append_assoc f.front o.front rest);
  spelled = (f.front, o.front, refl, f.spelled, o.spelled);
  low = omega (arith, f.low, o.low);
}

no_joins : (room : ℕ) (ts : List Terminal) (xs : List JoinTree) (rest : List Terminal) → ◌≡◌ {A = Result (List JoinTree × List Terminal) Refusal} (Ok ([], ts)) (Ok (xs, rest)) → FoundPart SpellsJoins (highest_of join_height) room ts xs rest
no_joins room ts xs rest h = found_as SpellsJoins (highest_of join_height) room ts [] xs ts rest h (record { front = []; is = refl; spelled = refl; low = omega arith })

joins_sound : (room k : ℕ) → Sound SpellsJoins (highest_of join_height) room (joins_of room k)
unfolding joins_of
joins_sound room zero ts xs rest h = no_joins room ts xs rest h
joins_sound room (suc k) ts xs rest h =
    let go_on : JoinWay × List Terminal → Result (List JoinTree × List Terminal) Refusal = λ j. join_of j.0 room j.1 >>= λ x. joins_of room k x.1 >>= λ y. Ok (x.0 ∷ y.0, y.1) in
    let go : (o : Ways) → join_words ts ≡ o → choose o (Ok ([], ts)) go_on ≡ Ok (xs, rest) → FoundPart SpellsJoins (highest_of join_height) room ts xs rest = elim [
      | None ↦ (λ p e. no_joins room ts xs rest e)
      | Some j ↦ (λ p e.
          let x = bind_ok (join_of j.0 room j.1) (λ x. joins_of room k x.1 >>= λ y. Ok (x.0 ∷ y.0, y.1)) (xs, rest) e in
          let y = bind_ok (joins_of room k x.0.1) (λ y. Ok (x.0.0 ∷ y.0, y.1)) (xs, rest) x.2 in
          found_as SpellsJoins (highest_of join_height) room ts (x.0.0 ∷ y.0.0) xs y.0.1 rest y.2
          (found_joins room ts x.0.0 x.0.1 y.0.0 y.0.1 (join_sound room j.0 ts j.1 x.0.0 x.0.1 (way_sound ts j p) x.1) (joins_sound room k x.0.1 y.0.0 y.0.1 y.1)))
    ]
    in go (join_words ts) refl h

all_joins_sound : (room : ℕ) → Sound SpellsJoins (highest_of join_height) room (all_joins_of room)
unfolding all_joins_of
all_joins_sound room ts xs rest h = joins_sound room (length ts) ts xs rest h

found_chain : (room : ℕ) (ts a rest : List Terminal) (e : EntryTree) (xs : List JoinTree) → FoundPart SpellsEntry flat 0 ts e a → FoundPart SpellsJoins (highest_of join_height) room a xs rest → FoundPart SpellsChain chain_height room ts (record { first = e; joins = xs }) rest
found_chain room ts a rest e xs f g = record {
  front = f.front ++ g.front;
  is = f.is ∙ ap (λ us. f.front ++ us) g.is ∙ sym (append_assoc f.front g.front rest);
  spelled = (f.front, g.front, refl, f.spelled, g.spelled);
  low = g.low;
}

pub chain_sound : (room : ℕ) → Sound SpellsChain chain_height room (source_of room)
unfolding source_of
chain_sound room ts c rest h =
    let x = bind_ok (entry_of ts) (λ x. all_joins_of room x.1 >>= λ y. Ok (record { first = x.0; joins = y.0 }, y.1)) (c, rest) h in
    let y = bind_ok (all_joins_of room x.0.1) (λ y. Ok (record { first = x.0.0; joins = y.0 }, y.1)) (c, rest) x.2 in
    found_as SpellsChain chain_height room ts (record { first = x.0.0; joins = y.0.0 }) c y.0.1 rest y.2
    (found_chain room ts x.0.1 y.0.1 x.0.0 y.0.0 (entry_sound ts x.0.0 x.0.1 x.1) (all_joins_sound room x.0.1 y.0.0 y.0.1 y.1))

-- ---- GROUP BY and ORDER BY

pub group_sound : (room : ℕ) → Sound SpellsGroup flat room group_of
group_sound room (t.Name q ∷ t.Dot ∷ t.Name n ∷ us) g rest h =
    found_as SpellsGroup flat room (t.Name q ∷ t.Dot ∷ t.Name n ∷ us) (record { qualifier = Some q; column = n }) g us rest h (record { front = t.Name q ∷ t.Dot ∷ t.Name n ∷ []; is = refl; spelled = refl; low = omega arith })
group_sound room (t.Name n ∷ us) g rest h =
    found_as SpellsGroup flat room (t.Name n ∷ us) (record { qualifier = None; column = n }) g us rest h (record { front = t.Name n ∷ []; is = refl; spelled = refl; low = omega arith })
group_sound room us g rest h = absurd (err_ok Syntax (g, rest) h)

record FoundNulls (b : Bool) (ts : List Terminal) (first : Bool) (rest : List Terminal) : Type 0 where
  front : List Terminal
  is : ts ≡ front ++ rest
  spelled : SpellsNulls b first front

nulls_as : (b : Bool) (ts : List Terminal) (p q : Bool × List Terminal) → p ≡ q → FoundNulls b ts p.0 p.1 → FoundNulls b ts q.0 q.1
nulls_as b ts p q h f = subst (λ (r : Bool × List Terminal). FoundNulls b ts r.0 r.1) h f

nulls_last : (b : Bool) (ts : List Terminal) (o : Option (List Terminal)) → behind_words (codes "nulls" ∷ codes "last" ∷ []) ts ≡ o → (r : Bool × List Terminal) → choose {B = Bool × List Terminal} o (b, ts) (λ after. (false, after)) ≡ r → FoundNulls b ts r.0 r.1
nulls_last b ts None p r q = nulls_as b ts (b, ts) r q (record { front = []; is = refl; spelled = inl (refl, refl) })
nulls_last b ts (Some after) p r q = nulls_as b ts (false, after) r q (record { front = keywords (codes "nulls" ∷ codes "last" ∷ []); is = words_are (codes "nulls" ∷ codes "last" ∷ []) ts after p; spelled = inr (inr (refl, refl)) })

nulls_sound : (b : Bool) (ts : List Terminal) → FoundNulls b ts (nulls_of b ts).0 (nulls_of b ts).1
unfolding nulls_of
nulls_sound b ts =
    let first : List (List ℕ) = codes "nulls" ∷ codes "first" ∷ [] in
    let last : Option (List Terminal) → Bool × List Terminal = λ o. choose {B = Bool × List Terminal} o (b, ts) (λ after. (false, after)) in
    let go : (o : Option (List Terminal)) → behind_words first ts ≡ o → (r : Bool × List Terminal) → choose {B = Bool × List Terminal} o (last (behind_words (codes "nulls" ∷ codes "last" ∷ []) ts)) (λ after. (true, after)) ≡ r → FoundNulls b ts r.0 r.1 = elim [
      | None ↦ (λ p r q. nulls_last b ts (behind_words (codes "nulls" ∷ codes "last" ∷ []) ts) refl r q)
      | Some after ↦ (λ p r q. nulls_as b ts (true, after) r q (record { front = keywords first; is = words_are first ts after p; spelled = inr (inl (refl, refl)) }))
    ]
    in go (behind_words first ts) refl (nulls_of b ts) refl

found_key : (room : ℕ) (ts a b rest : List Terminal) (e : ExprTree) (descending first : Bool) → FoundPart SpellsExpr height room ts e a → FoundFlag (codes "desc") (codes "asc") a descending b → FoundNulls descending b first rest →
    FoundPart SpellsKey key_height room ts (record { key = e; descending = descending; nulls_first = first }) rest
found_key room ts a b rest e descending first f g k = record {
  front = f.front ++ (g.front ++ k.front);
  is = f.is ∙ ap (λ us. f.front ++ us) (g.is ∙ ap (λ us. g.front ++ us) k.is ∙ sym (append_assoc g.front k.front rest)) ∙ sym (append_assoc f.front (g.front ++ k.front) rest);
  spelled = (f.front, g.front, k.front, refl, f.spelled, g.spelled, k.spelled);
  low = f.low;
}

directed_sound : (room : ℕ) (ts a : List Terminal) (e : ExprTree) → FoundPart SpellsExpr height room ts e a → FoundPart SpellsKey key_height room ts (key_after e a).0 (key_after e a).1
unfolding key_after
directed_sound room ts a e f =
    let d : Bool × List Terminal = flag_of (codes "desc") (codes "asc") a in
    found_key room ts a d.1 (nulls_of d.0 d.1).1 e d.0 (nulls_of d.0 d.1).0 f (flag_sound (codes "desc") (codes "asc") a) (nulls_sound d.0 d.1)

pub key_sound : (room : ℕ) → Sound SpellsKey key_height room (key_of room)
unfolding key_of
key_sound room ts k rest h =
    let x = bind_ok ((below room).whole ts) (λ x. Ok (key_after x.0 x.1)) (k, rest) h in
    let same : key_after x.0.0 x.0.1 ≡ (k, rest) = ok_same (key_after x.0.0 x.0.1) (k, rest) x.2 in
    subst (λ (p : KeyTree × List Terminal). FoundPart SpellsKey key_height room ts p.0 p.1) same (directed_sound room ts x.0.1 x.0.0 (expr_sound room ts x.0.0 x.0.1 x.1))

-- ---- LIMIT and OFFSET

number_is : (ts : List Terminal) (n : ℕ) (rest : List Terminal) → number_of ts ≡ Ok (n, rest) → ts ≡ t.Num n ∷ rest
number_is [] n rest h = absurd (err_ok Syntax (n, rest) h)
number_is (t.Num m ∷ us) n rest h = ap (λ (p : ℕ × List Terminal). t.Num p.0 ∷ p.1) (ok_same (m, us) (n, rest) h)
number_is (u ∷ us) n rest h = absurd (err_ok Syntax (n, rest) h)

limit_at_sound : (ts after : List Terminal) (limit : Option LimitTree) (rest : List Terminal) → ts ≡ t.Reserved (codes "limit") ∷ after → limit_at after ≡ Ok (limit, rest) → FoundPart SpellsLimit flat 0 ts limit rest
unfolding limit_at
limit_at_sound ts after limit rest p h =
    let counted : Result (Option LimitTree × List Terminal) Refusal = number_of after >>= λ x. Ok (Some (rows x.0), x.1) in
    let go : (o : Option (List Terminal)) → behind_word (codes "all") after ≡ o → choose o counted (λ us. Ok (Some no_limit, us)) ≡ Ok (limit, rest) → FoundPart SpellsLimit flat 0 ts limit rest = elim [
      | None ↦ (λ is e.
          let x = bind_ok (number_of after) (λ x. Ok (Some (rows x.0), x.1)) (limit, rest) e in
          found_as SpellsLimit flat 0 ts (Some (rows x.0.0)) limit x.0.1 rest x.2 (record {
            front = t.Reserved (codes "limit") ∷ t.Num x.0.0 ∷ [];
            is = p ∙ ap (λ us. t.Reserved (codes "limit") ∷ us) (number_is after x.0.0 x.0.1 x.1);
            spelled = refl;
            low = omega arith;
          }))
      | Some us ↦ (λ is e. found_as SpellsLimit flat 0 ts (Some no_limit) limit us rest e (record {
        front = keywords (codes "limit" ∷ codes "all" ∷ []);
        is = p ∙ ap (λ vs. t.Reserved (codes "limit") ∷ vs) (word_is (codes "all") after us is);
        spelled = refl;
        low = omega arith;
      }))
    ]
    in go (behind_word (codes "all") after) refl h

limit_sound : Sound SpellsLimit flat 0 limit_of
unfolding limit_of
limit_sound ts limit rest h =
    let go : (o : Option (List Terminal)) → behind_word (codes "limit") ts ≡ o → choose {B = Result (Option LimitTree × List Terminal) Refusal} o (Ok (None, ts)) limit_at ≡ Ok (limit, rest) → FoundPart SpellsLimit flat 0 ts limit rest = elim [
      | None ↦ (λ is e. found_as SpellsLimit flat 0 ts None limit ts rest e (record { front = []; is = refl; spelled = refl; low = omega arith }))
      | Some after ↦ (λ is e. limit_at_sound ts after limit rest (word_is (codes "limit") ts after is) e)
    ]
    in go (behind_word (codes "limit") ts) refl h

record FoundUnit (ts rest : List Terminal) : Type 0 where
  front : List Terminal
  is : ts ≡ front ++ rest
  spelled : (front ≡ []) ⊎ (front ≡ keywords (codes "row" ∷ [])) ⊎ (front ≡ keywords (codes "rows" ∷ []))

unit_rows : (ts : List Terminal) (o : Option (List Terminal)) → behind_word (codes "rows") ts ≡ o → FoundUnit ts (choose o ts (λ after. after))
unit_rows ts None p = record { front = []; is = refl; spelled = inl refl }
unit_rows ts (Some after) p = record { front = keywords (codes "rows" ∷ []); is = word_is (codes "rows") ts after p; spelled = inr (inr refl) }

unit_sound : (ts : List Terminal) → FoundUnit ts (behind_unit ts)
unfolding behind_unit
unit_sound ts =
    let rest : List Terminal = choose (behind_word (codes "rows") ts) ts (λ after. after) in
    let go : (o : Option (List Terminal)) → behind_word (codes "row") ts ≡ o → FoundUnit ts (choose o rest (λ after. after)) = elim [
      | None ↦ (λ p. unit_rows ts (behind_word (codes "rows") ts) refl)
      | Some after ↦ (λ p. record { front = keywords (codes "row" ∷ []); is = word_is (codes "row") ts after p; spelled = inr (inl refl) })
    ]
    in go (behind_word (codes "row") ts) refl

found_offset : (ts after middle rest : List Terminal) (n : ℕ) → ts ≡ t.Reserved (codes "offset") ∷ after → after ≡ t.Num n ∷ middle → FoundUnit middle rest → FoundPart SpellsOffset flat 0 ts (Some n) rest
found_offset ts after middle rest n p q f = record {
  front = t.Reserved (codes "offset") ∷ t.Num n ∷ f.front;
  is = p ∙ ap (λ us. t.Reserved (codes "offset") ∷ us) (q ∙ ap (λ us. t.Num n ∷ us) f.is);
  spelled = (f.front, refl, f.spelled);
  low = omega arith;
}

offset_sound : Sound SpellsOffset flat 0 offset_of
unfolding offset_of
offset_sound ts offset rest h =
    let counted : List Terminal → Result (Option ℕ × List Terminal) Refusal = λ after. number_of after >>= λ x. Ok (Some x.0, behind_unit x.1) in
    let go : (o : Option (List Terminal)) → behind_word (codes "offset") ts ≡ o → choose o (Ok (None, ts)) counted ≡ Ok (offset, rest) → FoundPart SpellsOffset flat 0 ts offset rest = elim [
      | None ↦ (λ is e. found_as SpellsOffset flat 0 ts None offset ts rest e (record { front = []; is = refl; spelled = refl; low = omega arith }))
      | Some after ↦ (λ is e.
          let x = bind_ok (number_of after) (λ x. Ok (Some x.0, behind_unit x.1)) (offset, rest) e in
          found_as SpellsOffset flat 0 ts (Some x.0.0) offset (behind_unit x.0.1) rest x.2
          (found_offset ts after x.0.1 (behind_unit x.0.1) x.0.0 (word_is (codes "offset") ts after is) (number_is after x.0.0 x.0.1 x.1) (unit_sound x.0.1)))
    ]
    in go (behind_word (codes "offset") ts) refl h

abbrev pub SpellsCut : Option LimitTree × Option ℕ → List Terminal → Type 0
SpellsCut x ts = SpellsLimits x.0 x.1 ts

found_limits : (ts a b rest : List Terminal) (before limit : Option LimitTree) (offset : Option ℕ) → FoundPart SpellsLimit flat 0 ts before a → FoundPart SpellsOffset flat 0 a offset b → limit_after before b ≡ Ok (limit, rest) → FoundPart SpellsCut flat 0 ts (limit, offset) rest
found_limits ts a b rest (Some l) limit offset f g h =
    found_as SpellsCut flat 0 ts (Some l, offset) (limit, offset) b rest (ap (λ (p : Result (Option LimitTree × List Terminal) Refusal). p >>= λ x. Ok ((x.0, offset), x.1)) h) (record {
      front = f.front ++ g.front;
      is = f.is ∙ ap (λ us. f.front ++ us) g.is ∙ sym (append_assoc f.front g.front b);
      spelled = (f.front, g.front, f.spelled, g.spelled, inl refl);
      low = omega arith;
    })
found_limits ts a b rest None limit offset f g h =
    let k : FoundPart SpellsLimit flat 0 b limit rest = limit_sound b limit rest h in
    record {
      front = g.front ++ k.front;
      is = f.is ∙ ap (λ us. us ++ a) f.spelled ∙ g.is ∙ ap (λ us. g.front ++ us) k.is ∙ sym (append_assoc g.front k.front rest);
      spelled = (k.front, g.front, k.spelled, g.spelled, inr refl);
      low = omega arith;
    }

pub limits_sound : Sound SpellsCut flat 0 limits_of
unfolding limits_of
limits_sound ts c rest h =
    let x = bind_ok (limit_of ts) (λ x. offset_of x.1 >>= λ y. limit_after x.0 y.1 >>= λ z. Ok ((z.0, y.0), z.1)) (c, rest) h in
    let y = bind_ok (offset_of x.0.1) (λ y. limit_after x.0.0 y.1 >>= λ z. Ok ((z.0, y.0), z.1)) (c, rest) x.2 in
    let z = bind_ok (limit_after x.0.0 y.0.1) (λ z. Ok ((z.0, y.0.0), z.1)) (c, rest) y.2 in
    found_as SpellsCut flat 0 ts (z.0.0, y.0.0) c z.0.1 rest z.2
    (found_limits ts x.0.1 y.0.1 z.0.1 x.0.0 z.0.0 y.0.0 (limit_sound ts x.0.0 x.0.1 x.1) (offset_sound x.0.1 y.0.0 y.0.1 y.1) z.1)

-- The cores that are read are spelled so.
use Rattle.std.proofs.Common.{◌≡◌, ℕ, zero, suc, Bool, List, [], ◌∷◌, ◌++◌, length, refl, sym, ◌∙◌, ap, subst, arith, append_assoc, codes}
use Rattle.std.specs.Prelude.{Result, Ok, Err, Option, Some, None}
use Rattle.med_syntax.specs.declared.refusal.Refusal.{Refusal}
use Rattle.med_syntax.specs.declared.refusal.Refusal.TheVariants.{Syntax}
use Rattle.med_syntax.specs.Prelude.{Terminal, choose, CoreTree, item_height, chain_height, highest_of, condition_height, core_height, keywords, SpellsList, SpellsItem, SpellsChain, SpellsGroup, SpellsPerhaps, SpellsListed, SpellsExpr, SpellsCore, SpellsUnions}
use Rattle.med_syntax.specs.ExprReading.{below}
use Rattle.med_syntax.specs.ExprReading.{◌>>=◌}
use Rattle.med_syntax.specs.Terminal as t
use Rattle.query_reader.specs.QueryReading.{Parser, seq, behind_word, behind_words, flag_of, item_of, list_of, perhaps_of, listed_of, source_of, group_of, quantified_of, selected_of, core_of, unions_of, all_unions_of}
use Rattle.med_syntax.proofs.ExprSound.{bind_ok, ok_same}
use Rattle.query_reader.proofs.PartSound.{FoundPart, Sound, found_as, flat, err_ok, word_is, words_are, item_sound, list_sound, condition_sound, listed_sound, FoundFlag, flag_sound}
use Rattle.query_reader.proofs.ClauseSound.{chain_sound, group_sound}

pub seq_sound : {X Y : Type 0} (p : Parser X) (f : X → Parser Y) (ts : List Terminal) (y : Y) (rest : List Terminal) → seq p f ts ≡ Ok (y, rest) → (x : X) × (middle : List Terminal) × (p ts ≡ Ok (x, middle)) × (f x middle ≡ Ok (y, rest))
unfolding seq
seq_sound p f ts y rest h = let x = bind_ok (p ts) (λ x. f x.0 x.1) (y, rest) h in (x.0.0, x.0.1, x.1, x.2)

-- the parts of a core behind SELECT and its quantifier
record Parts (room : ℕ) (ts : List Terminal) (q : CoreTree) (rest : List Terminal) : Type 0 where
  a : List Terminal
  b : List Terminal
  c : List Terminal
  d : List Terminal
  items : FoundPart (SpellsList SpellsItem) (highest_of item_height) room ts q.items a
  from : FoundPart (SpellsListed (codes "from" ∷ []) SpellsChain) (highest_of chain_height) room a q.from b
  condition : FoundPart (SpellsPerhaps (codes "where" ∷ []) SpellsExpr) condition_height room b q.condition c
  groups : FoundPart (SpellsListed (codes "group" ∷ codes "by" ∷ []) SpellsGroup) (highest_of flat) room c q.groups d
  having : FoundPart (SpellsPerhaps (codes "having" ∷ []) SpellsExpr) condition_height room d q.having rest

record Quantified (room : ℕ) (distinct : Bool) (ts : List Terminal) (q : CoreTree) (rest : List Terminal) : Type 0 where
  same : q.distinct ≡ distinct
  parts : Parts room ts q rest

quantified_parts : (distinct : Bool) (room : ℕ) (ts : List Terminal) (q : CoreTree) (rest : List Terminal) → quantified_of distinct room ts ≡ Ok (q, rest) → Quantified room distinct ts q rest
unfolding quantified_of
quantified_parts distinct room ts q rest h =
    let i = seq_sound (list_of (item_of room)) _ ts q rest h in
    let f = seq_sound (listed_of (codes "from" ∷ []) (source_of room)) _ i.1 q rest i.3 in
    let w = seq_sound (perhaps_of (codes "where" ∷ []) (below room).whole) _ f.1 q rest f.3 in
    let g = seq_sound (listed_of (codes "group" ∷ codes "by" ∷ []) group_of) _ w.1 q rest w.3 in
    let v = seq_sound (perhaps_of (codes "having" ∷ []) (below room).whole) _ g.1 q rest g.3 in
    let made : CoreTree = record { distinct = distinct; items = i.0; from = f.0; condition = w.0; groups = g.0; having = v.0 } in
    let same : ◌≡◌ {A = CoreTree × List Terminal} (made, v.1) (q, rest) = ok_same (made, v.1) (q, rest) v.3 in
    subst (λ (p : CoreTree × List Terminal). Quantified room distinct ts p.0 p.1) same (record {
      same = refl;
      parts = record {
        a = i.1;
        b = f.1;
        c = w.1;
        d = g.1;
        items = list_sound SpellsItem item_height room (item_of room) (item_sound room) ts i.0 i.1 i.2;
        from = listed_sound (codes "from" ∷ []) SpellsChain chain_height room (source_of room) (chain_sound room) i.1 f.0 f.1 f.2;
        condition = condition_sound room (codes "where" ∷ []) f.1 w.0 w.1 w.2;
        groups = listed_sound (codes "group" ∷ codes "by" ∷ []) SpellsGroup flat room group_of (group_sound room) w.1 g.0 g.1 g.2;
        having = condition_sound room (codes "having" ∷ []) g.1 v.0 v.1 v.2;
      };
    })

pub joined : (a b ts us rest : List Terminal) → ts ≡ a ++ us → us ≡ b ++ rest → ts ≡ (a ++ b) ++ rest
joined a b ts us rest p q = p ∙ ap (λ vs. a ++ vs) q ∙ sym (append_assoc a b rest)

found_core : (room : ℕ) (ts after middle rest : List Terminal) (q : CoreTree) → ts ≡ t.Reserved (codes "select") ∷ after → FoundFlag (codes "distinct") (codes "all") after q.distinct middle → Parts room middle q rest → FoundPart SpellsCore core_height room ts q rest
found_core room ts after middle rest q p d k =
    let g4 = joined k.groups.front k.having.front k.c k.d rest k.groups.is k.having.is in
    let g3 = joined k.condition.front (k.groups.front ++ k.having.front) k.b k.c rest k.condition.is g4 in
    let g2 = joined k.from.front (k.condition.front ++ (k.groups.front ++ k.having.front)) k.a k.b rest k.from.is g3 in
    let g1 = joined k.items.front (k.from.front ++ (k.condition.front ++ (k.groups.front ++ k.having.front))) middle k.a rest k.items.is g2 in
    let g0 = joined d.front (k.items.front ++ (k.from.front ++ (k.condition.front ++ (k.groups.front ++ k.having.front)))) after middle rest d.is g1 in
    record {
      front = t.Reserved (codes "select") ∷ (d.front ++ (k.items.front ++ (k.from.front ++ (k.condition.front ++ (k.groups.front ++ k.having.front)))));
      is = p ∙ ap (λ us. t.Reserved (codes "select") ∷ us) g0;
      spelled = record {
        quantifier = d.front;
        items = k.items.front;
        from = k.from.front;
        condition = k.condition.front;
        groups = k.groups.front;
        having = k.having.front;
        is = refl;
        quantified = d.spelled;
        answered = k.items.spelled;
        joined = k.from.spelled;
        filtered = k.condition.spelled;
        grouped = k.groups.spelled;
        kept = k.having.spelled;
      };
      low = omega (arith, k.items.low, k.from.low, k.condition.low, k.having.low);
    }

selected_sound : (room : ℕ) (ts after : List Terminal) (q : CoreTree) (rest : List Terminal) → ts ≡ t.Reserved (codes "select") ∷ after → selected_of room after ≡ Ok (q, rest) → FoundPart SpellsCore core_height room ts q rest
unfolding selected_of
selected_sound room ts after q rest p h =
    let d : Bool × List Terminal = flag_of (codes "distinct") (codes "all") after in
    let k : Quantified room d.0 d.1 q rest = quantified_parts d.0 room d.1 q rest h in
    found_core room ts after d.1 rest q p (subst (λ (b : Bool). FoundFlag (codes "distinct") (codes "all") after b d.1) (sym k.same) (flag_sound (codes "distinct") (codes "all") after)) k.parts

pub core_sound : (room : ℕ) → Sound SpellsCore core_height room (core_of room)
unfolding core_of
core_sound room ts q rest h =
    let go : (o : Option (List Terminal)) → behind_word (codes "select") ts ≡ o → choose o (Err Syntax) (selected_of room) ≡ Ok (q, rest) → FoundPart SpellsCore core_height room ts q rest = elim [
      | None ↦ (λ is e. absurd (err_ok Syntax (q, rest) e))
      | Some after ↦ (λ is e. selected_sound room ts after q rest (word_is (codes "select") ts after is) e)
    ]
    in go (behind_word (codes "select") ts) refl h

-- ---- UNION ALL

found_unions : (room : ℕ) (ts after : List Terminal) (c : CoreTree) (middle : List Terminal) (cs : List CoreTree) (rest : List Terminal) → ts ≡ keywords (codes "union" ∷ codes "all" ∷ []) ++ after → FoundPart SpellsCore core_height room after c middle → FoundPart SpellsUnions (highest_of core_height) room middle cs rest → FoundPart SpellsUnions (highest_of core_height) room ts (c ∷ cs) rest
found_unions room ts after c middle cs rest p f o = record {
  front = keywords (codes "union" ∷ codes "all" ∷ []) ++ (f.front ++ o.front);
  is = p ∙ ap (λ us. keywords (codes "union" ∷ codes "all" ∷ []) ++ us) (joined f.front o.front after middle rest f.is o.is);
  spelled = (f.front, o.front, refl, f.spelled, o.spelled);
  low = omega (arith, f.low, o.low);
}

no_unions : (room : ℕ) (ts : List Terminal) (cs : List CoreTree) (rest : List Terminal) → ◌≡◌ {A = Result (List CoreTree × List Terminal) Refusal} (Ok ([], ts)) (Ok (cs, rest)) → FoundPart SpellsUnions (highest_of core_height) room ts cs rest
no_unions room ts cs rest h = found_as SpellsUnions (highest_of core_height) room ts [] cs ts rest h (record { front = []; is = refl; spelled = refl; low = omega arith })

unions_sound : (room k : ℕ) → Sound SpellsUnions (highest_of core_height) room (unions_of room k)
unfolding unions_of
unions_sound room zero ts cs rest h = no_unions room ts cs rest h
unions_sound room (suc k) ts cs rest h =
    let words : List (List ℕ) = codes "union" ∷ codes "all" ∷ [] in
    let go_on : List Terminal → Result (List CoreTree × List Terminal) Refusal = λ after. core_of room after >>= λ x. unions_of room k x.1 >>= λ y. Ok (x.0 ∷ y.0, y.1) in
    let go : (o : Option (List Terminal)) → behind_words words ts ≡ o → choose o (Ok ([], ts)) go_on ≡ Ok (cs, rest) → FoundPart SpellsUnions (highest_of core_height) room ts cs rest = elim [
      | None ↦ (λ p e. no_unions room ts cs rest e)
      | Some after ↦ (λ p e.
          let x = bind_ok (core_of room after) (λ x. unions_of room k x.1 >>= λ y. Ok (x.0 ∷ y.0, y.1)) (cs, rest) e in
          let y = bind_ok (unions_of room k x.0.1) (λ y. Ok (x.0.0 ∷ y.0, y.1)) (cs, rest) x.2 in
          found_as SpellsUnions (highest_of core_height) room ts (x.0.0 ∷ y.0.0) cs y.0.1 rest y.2
          (found_unions room ts after x.0.0 x.0.1 y.0.0 y.0.1 (words_are words ts after p) (core_sound room after x.0.0 x.0.1 x.1) (unions_sound room k x.0.1 y.0.0 y.0.1 y.1)))
    ]
    in go (behind_words words ts) refl h

pub all_unions_sound : (room : ℕ) → Sound SpellsUnions (highest_of core_height) room (all_unions_of room)
unfolding all_unions_of
all_unions_sound room ts cs rest h = unions_sound room (length ts) ts cs rest h

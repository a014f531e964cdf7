-- The height of a statement's expressions is bounded by its heavy terminals.
use Rattle.std.proofs.Common.{◌≡◌, ℕ, ◌+◌, ◌*◌, ◌≤◌, ◌<◌, ◌⊎◌, Bool, true, false, cond, List, [], ◌∷◌, ◌++◌, refl, sym, ◌∙◌, ap, arith, codes}
use Rattle.std.specs.Prelude.{Ok, Err, Some, None, count_by}
use Rattle.med_syntax.specs.declared.refusal.Refusal.TheVariants.{Syntax, TooHigh}
use Rattle.std.proofs.lemmas.List.Recursion.{is_count_by}
use Rattle.med_lexer.specs.Lexemes.{Shape, word, quoted, literal, number, mark}
use Rattle.med_syntax.specs.declared.query_symbols.Place.{Place}
use Rattle.med_syntax.specs.Prelude.{deepens, follows, terminal_at, is_one_of, keywords_at, word_at, words_at, place_behind, Terminal, ExprTree, height, IsExpr, is_heavy, weight, keywords, SpellsOthers, SpellsList, SpellsItem, SpellsOn, SpellsJoin, SpellsJoins, SpellsChain, SpellsKey, SpellsPerhaps, SpellsListed, SpellsExpr, SpellsCore, SpellsUnions, SpellsSelect, Spells, IsLine}
use Rattle.med_syntax.specs.Terminal as t
use Rattle.med_syntax.specs.QueryTree.{ItemTree, all, all_of, value, EntryTree, inner_join, left_join, cross_join, StatementTree, select, item_height, join_height, chain_height, key_height, highest_of, condition_height, core_height, select_height, statement_height}
use Rattle.query_reader.specs.QueryReading.{line_of, bounded_line}
use Rattle.med_syntax.proofs.BoundedReading.{ReadsInRoom, tried_sound, tried_out, tried_told}
use Rattle.med_syntax.proofs.ExprWeighing.{weight_append, weight_more, weight_step, heavy_at, deep, bound}
use Rattle.med_syntax.proofs.QueryKeywords.{keyword_name}
use Rattle.query_reader.proofs.QueryComplete.{reads_line, refuses_line}
use Rattle.query_reader.proofs.QuerySound.{line_sound}

pub expr_bound : (ts : List Terminal) (e : ExprTree) → IsExpr ts e → height e ≤ 7 * weight ts + 7
expr_bound ts e x = omega (arith, bound e x.fits, ap weight x.spelled)

item_bound : (x : ItemTree) (ts : List Terminal) → SpellsItem x ts → item_height x ≤ 7 * weight ts + 7
item_bound all ts s = omega arith
item_bound (all_of q) ts s = omega arith
item_bound (value e label) ts s = omega (arith, expr_bound s.0 e s.3, ap weight s.2, weight_append s.0 s.1)

-- what is spelled by few heavy terminals is not high
abbrev pub Bounded : {X : Type 0} → (X → List Terminal → Type 0) → (X → ℕ) → Type 0
Bounded {X} Spelling high = (x : X) (ts : List Terminal) → Spelling x ts → high x ≤ 7 * weight ts + 7

pub others_bound : {X : Type 0} (Spelling : X → List Terminal → Type 0) (high : X → ℕ) → Bounded Spelling high → Bounded (SpellsOthers Spelling) (highest_of high)
others_bound Spelling high item [] ts s = omega arith
others_bound Spelling high item (x ∷ xs) ts s = omega (arith, item x s.0 s.3, others_bound Spelling high item xs s.1 s.4, ap weight s.2, weight_append s.0 s.1, weight_more t.Comma (s.0 ++ s.1))

pub list_bound : {X : Type 0} (Spelling : X → List Terminal → Type 0) (high : X → ℕ) → Bounded Spelling high → Bounded (SpellsList Spelling) (highest_of high)
list_bound Spelling high item [] ts s = absurd s
list_bound Spelling high item (x ∷ xs) ts s = omega (arith, item x s.0 s.3, others_bound Spelling high item xs s.1 s.4, ap weight s.2, weight_append s.0 s.1)

pub listed_bound : {X : Type 0} (words : List (List ℕ)) (Spelling : X → List Terminal → Type 0) (high : X → ℕ) → Bounded Spelling high → Bounded (SpellsListed words Spelling) (highest_of high)
listed_bound words Spelling high item [] ts s = omega arith
listed_bound words Spelling high item (x ∷ xs) ts s = omega (arith, list_bound Spelling high item (x ∷ xs) s.0 s.2, ap weight s.1, weight_append (keywords words) s.0)

pub condition_bound : (words : List (List ℕ)) → Bounded (SpellsPerhaps words SpellsExpr) condition_height
condition_bound words None ts s = omega arith
condition_bound words (Some e) ts s = omega (arith, expr_bound s.0 e s.2, ap weight s.1, weight_append (keywords words) s.0)

on_bound : (e : EntryTree) (on : ExprTree) (ts : List Terminal) → SpellsOn e on ts → height on ≤ 7 * weight ts + 7
on_bound e on ts s = omega (arith, expr_bound s.1 on s.4, ap weight s.2, weight_append s.0 (t.Reserved (codes "on") ∷ s.1), weight_more (t.Reserved (codes "on")) s.1)

join_bound : Bounded SpellsJoin join_height
join_bound (inner_join e on) ts s = omega (arith, on_bound e on s.1 s.4, ap weight s.2, weight_append s.0 s.1)
join_bound (left_join e on) ts s = omega (arith, on_bound e on s.1 s.4, ap weight s.2, weight_append s.0 s.1)
join_bound (cross_join e) ts s = omega arith

joins_bound : Bounded SpellsJoins (highest_of join_height)
joins_bound [] ts s = omega arith
joins_bound (x ∷ xs) ts s = omega (arith, join_bound x s.0 s.3, joins_bound xs s.1 s.4, ap weight s.2, weight_append s.0 s.1)

chain_bound : Bounded SpellsChain chain_height
chain_bound c ts s = omega (arith, joins_bound c.joins s.1 s.4, ap weight s.2, weight_append s.0 s.1)

key_bound : Bounded SpellsKey key_height
key_bound k ts s = omega (arith, expr_bound s.0 k.key s.4, ap weight s.3, weight_append s.0 (s.1 ++ s.2))

-- each part weighs no more than the whole
behind_bound : (u : Terminal) (a b c d e f : List Terminal) →
    (weight b ≤ weight (u ∷ (a ++ (b ++ (c ++ (d ++ (e ++ f)))))))
    × (weight c ≤ weight (u ∷ (a ++ (b ++ (c ++ (d ++ (e ++ f)))))))
    × (weight d ≤ weight (u ∷ (a ++ (b ++ (c ++ (d ++ (e ++ f)))))))
    × (weight f ≤ weight (u ∷ (a ++ (b ++ (c ++ (d ++ (e ++ f)))))))
behind_bound u a b c d e f =
    let w1 = weight_more u (a ++ (b ++ (c ++ (d ++ (e ++ f))))) in
    let w2 = weight_append a (b ++ (c ++ (d ++ (e ++ f)))) in
    let w3 = weight_append b (c ++ (d ++ (e ++ f))) in
    let w4 = weight_append c (d ++ (e ++ f)) in
    let w5 = weight_append d (e ++ f) in
    let w6 = weight_append e f in
    (omega (arith, w1, w2, w3), omega (arith, w1, w2, w3, w4), omega (arith, w1, w2, w3, w4, w5), omega (arith, w1, w2, w3, w4, w5, w6))

core_bound : Bounded SpellsCore core_height
core_bound c ts s =
    let w = behind_bound (t.Reserved (codes "select")) s.quantifier s.items s.from s.condition s.groups s.having in
    let same = ap weight s.is in
    let items = list_bound SpellsItem item_height item_bound c.items s.items s.answered in
    let from = listed_bound (codes "from" ∷ []) SpellsChain chain_height chain_bound c.from s.from s.joined in
    let condition = condition_bound (codes "where" ∷ []) c.condition s.condition s.filtered in
    let having = condition_bound (codes "having" ∷ []) c.having s.having s.kept in
    omega (arith, w.0, w.1, w.2, w.3, same, items, from, condition, having)

unions_bound : Bounded SpellsUnions (highest_of core_height)
unions_bound [] ts s = omega arith
unions_bound (c ∷ cs) ts s =
    omega (arith, core_bound c s.0 s.3, unions_bound cs s.1 s.4, ap weight s.2, weight_append (keywords (codes "union" ∷ codes "all" ∷ [])) (s.0 ++ s.1), weight_append s.0 s.1)

select_bound : Bounded SpellsSelect select_height
select_bound q ts s =
    let w1 = weight_append s.core (s.others ++ (s.keys ++ s.limits)) in
    let w2 = weight_append s.others (s.keys ++ s.limits) in
    let w3 = weight_append s.keys s.limits in
    let core = core_bound q.core s.core s.first in
    let others = unions_bound q.others s.others s.united in
    let keys = listed_bound (codes "order" ∷ codes "by" ∷ []) SpellsKey key_height key_bound q.keys s.keys s.ordered in
    omega (arith, w1, w2, w3, ap weight s.is, core, others, keys)

statement_bound : (s : StatementTree) (ts : List Terminal) → Spells s ts → statement_height s ≤ 7 * weight ts + 7
statement_bound (select q) ts s = select_bound q ts s

line_bound : (ts : List Terminal) (s : StatementTree) → IsLine ts s → statement_height s ≤ 7 * weight ts + 7
line_bound ts s x = omega (arith, statement_bound s x.0 x.3, ap weight x.2, weight_append x.0 x.1)

-- ---- what tokens weigh in a statement

same_heavy : (at : Place) (b : Bool) (s : Shape) → is_heavy (word_at at b s) ≡ is_heavy (terminal_at b s)
same_heavy at b (word w) =
    let go : (k : Bool) → is_one_of (keywords_at at) w ≡ k → is_heavy (cond k (t.Reserved w) (terminal_at b (word w))) ≡ is_heavy (terminal_at b (word w)) = elim [
      | true ↦ (λ h. sym (ap is_heavy (keyword_name at w h b)))
      | false ↦ (λ h. refl)
    ]
    in go (is_one_of (keywords_at at) w) refl
same_heavy at b (quoted q) = refl
same_heavy at b (literal x) = refl
same_heavy at b (number d) = refl
same_heavy at b (mark m) = refl

words_deep : (at : Place) (b : Bool) (ss : List Shape) → weight (words_at at b ss) ≡ deep ss
words_deep at b [] = refl
words_deep at b (s ∷ ss) =
    weight_step (is_heavy (word_at at b s)) (deepens s) (weight (words_at (place_behind at (word_at at b s)) (follows b (word_at at b s)) ss)) (deep ss) (same_heavy at b s ∙ heavy_at b s)
    (words_deep (place_behind at (word_at at b s)) (follows b (word_at at b s)) ss)

pub words_weigh : (at : Place) (b : Bool) (ss : List Shape) → weight (words_at at b ss) ≡ count_by deepens ss
words_weigh at b ss = words_deep at b ss ∙ is_count_by deep deepens refl (λ s ss. refl) ss

-- ---- what the bounded reader gives

in_room : ReadsInRoom IsLine statement_height line_of
in_room = record { reads = reads_line; refuses = refuses_line; sound = line_sound; low = line_bound }

pub bounded_sound : (ts : List Terminal) (s : StatementTree) → bounded_line ts ≡ Ok s → IsLine ts s × (statement_height s ≤ 64)
unfolding bounded_line
bounded_sound ts s g = tried_sound IsLine statement_height line_of in_room ts s g

-- what is refused as no statement is none
pub bounded_out : (ts : List Terminal) → bounded_line ts ≡ Err Syntax → (s : StatementTree) → IsLine ts s → ⊥
unfolding bounded_line
bounded_out ts g s x = tried_out IsLine statement_height line_of in_room ts g s x

-- what is refused as too high has an expression that is so, or is no statement and has many heavy terminals
pub bounded_told : (ts : List Terminal) → bounded_line ts ≡ Err TooHigh → ((s : StatementTree) × IsLine ts s × (64 < statement_height s)) ⊎ (((s : StatementTree) → IsLine ts s → ⊥) × (64 < weight ts))
unfolding bounded_line
bounded_told ts g = tried_told IsLine statement_height line_of in_room ts g

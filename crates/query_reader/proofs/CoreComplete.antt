-- The cores that are spelled so are read so.
use Rattle.std.proofs.Common.{◌≡◌, ℕ, zero, suc, ◌+◌, ◌≤◌, Bool, true, false, cond, List, [], ◌∷◌, ◌++◌, length, refl, sym, ◌∙◌, ap, subst, arith, append_assoc, length-append, codes}
use Rattle.std.specs.Prelude.{nat_le, max, Result, Ok, Err, Option, Some, None}
use Rattle.med_syntax.specs.declared.refusal.Refusal.{Refusal}
use Rattle.med_syntax.specs.declared.refusal.Refusal.TheVariants.{Syntax, TooHigh}
use Rattle.med_syntax.specs.declared.symbols.Separator.TheVariants.{Comma}
use Rattle.med_syntax.specs.Prelude.{Terminal, ExprTree, height, Fits, spelling, behind_of, keywords, SpellsList, SpellsItem, SpellsChain, SpellsGroup, SpellsFlag, SpellsPerhaps, SpellsListed, SpellsExpr, SpellsCore, SpellsUnions}
use Rattle.med_syntax.specs.ExprReading.{below, chain_of, is_of, compare_of, range_of, left_of}
use Rattle.med_syntax.specs.Terminal as t
use Rattle.med_syntax.specs.QueryTree.{ItemTree, all, all_of, value, CoreTree, item_height, chain_height, highest_of, condition_height, core_height}
use Rattle.query_reader.specs.QueryReading.{Parser, seq, behind_word, behind_words, flag_of, item_of, source_of, group_of, quantified_of, selected_of, core_of, unions_of, all_unions_of}
use Rattle.med_syntax.proofs.ExprChains.{reach}
use Rattle.med_syntax.proofs.ExprComplete.{completes}
use Rattle.query_reader.proofs.PartComplete.{held, held_low, Takes, then_held, step_held, step_ok, Parted, Clear, Stops, first_none, label_reach, item_takes, follows_others, list_takes, listed_takes, condition_takes, flag_takes}
use Rattle.query_reader.proofs.ClauseComplete.{chain_words, chain_takes, flat, group_takes}

-- ---- what stands behind a clause

-- no comma, and none of these words
pub record Behind (ws : List (List ℕ)) (rest : List Terminal) : Type 0 where
  pub clear : Clear ws rest
  pub comma : behind_of Comma rest ≡ None

-- behind FROM, WHERE, GROUP BY and HAVING, behind the cores, and behind ORDER BY
abbrev from_words : List (List ℕ)
from_words = codes "from" ∷ chain_words

abbrev where_words : List (List ℕ)
where_words = codes "where" ∷ from_words

abbrev group_words : List (List ℕ)
group_words = codes "group" ∷ where_words

abbrev pub having_words : List (List ℕ)
having_words = codes "having" ∷ group_words

abbrev pub core_words : List (List ℕ)
core_words = codes "union" ∷ having_words

abbrev pub order_words : List (List ℕ)
order_words = codes "order" ∷ codes "nulls" ∷ codes "desc" ∷ codes "asc" ∷ core_words

pub listed_lift : {X : Type 0} (P : List Terminal → Type 0) (w : List ℕ) (ws : List (List ℕ)) (Spelling : X → List Terminal → Type 0) (xs : List X) (ts rest : List Terminal) → SpellsListed (w ∷ ws) Spelling xs ts → P rest → ((us : List Terminal) → P (t.Reserved w ∷ us)) → P (ts ++ rest)
listed_lift P w ws Spelling [] ts rest s f g = subst (λ us. P (us ++ rest)) (sym s) f
listed_lift P w ws Spelling (x ∷ xs) ts rest s f g = subst (λ us. P (us ++ rest)) (sym s.1) (g ((keywords ws ++ s.0) ++ rest))

perhaps_lift : {X : Type 0} (P : List Terminal → Type 0) (w : List ℕ) (ws : List (List ℕ)) (Spelling : X → List Terminal → Type 0) (x : Option X) (ts rest : List Terminal) → SpellsPerhaps (w ∷ ws) Spelling x ts → P rest → ((us : List Terminal) → P (t.Reserved w ∷ us)) → P (ts ++ rest)
perhaps_lift P w ws Spelling None ts rest s f g = subst (λ us. P (us ++ rest)) (sym s) f
perhaps_lift P w ws Spelling (Some x) ts rest s f g = subst (λ us. P (us ++ rest)) (sym s.1) (g ((keywords ws ++ s.0) ++ rest))

behind_groups : (c : CoreTree) (having rest : List Terminal) → SpellsPerhaps (codes "having" ∷ []) SpellsExpr c.having having → Behind having_words rest → Behind group_words (having ++ rest)
behind_groups c having rest s f = perhaps_lift (Behind group_words) (codes "having") [] SpellsExpr c.having having rest s (record { clear = f.clear.1; comma = f.comma }) (λ us. record { clear = (refl, (refl, (refl, (refl, (refl, (refl, (refl, (refl, tt)))))))); comma = refl })

behind_condition : (c : CoreTree) (groups rest : List Terminal) → SpellsListed (codes "group" ∷ codes "by" ∷ []) SpellsGroup c.groups groups → Behind group_words rest → Behind where_words (groups ++ rest)
behind_condition c groups rest s f = listed_lift (Behind where_words) (codes "group") (codes "by" ∷ []) SpellsGroup c.groups groups rest s (record { clear = f.clear.1; comma = f.comma }) (λ us. record { clear = (refl, (refl, (refl, (refl, (refl, (refl, (refl, tt))))))); comma = refl })

behind_from : (c : CoreTree) (condition rest : List Terminal) → SpellsPerhaps (codes "where" ∷ []) SpellsExpr c.condition condition → Behind where_words rest → Behind from_words (condition ++ rest)
behind_from c condition rest s f = perhaps_lift (Behind from_words) (codes "where") [] SpellsExpr c.condition condition rest s (record { clear = f.clear.1; comma = f.comma }) (λ us. record { clear = (refl, (refl, (refl, (refl, (refl, (refl, tt)))))); comma = refl })

behind_items : (c : CoreTree) (from rest : List Terminal) → SpellsListed (codes "from" ∷ []) SpellsChain c.from from → Behind from_words rest → Behind (codes "as" ∷ []) (from ++ rest)
behind_items c from rest s f = listed_lift (Behind (codes "as" ∷ [])) (codes "from") [] SpellsChain c.from from rest s (record { clear = f.clear.1.1.1.1.1; comma = f.comma }) (λ us. record { clear = (refl, tt); comma = refl })

pub parted : (ws : List (List ℕ)) (rest : List Terminal) → Clear ws rest → Parted rest
parted [] rest f = f
parted (w ∷ ws) rest f = parted ws rest f.1

-- ---- no expression begins with a keyword

keyword_refused : (w : List ℕ) (us : List Terminal) → (below 1).whole (t.Reserved w ∷ us) ≡ Err Syntax
unfolding below chain_of is_of compare_of range_of left_of
keyword_refused w us = refl

held_no_syntax : (room h : ℕ) (e : ExprTree) (rest : List Terminal) → held room h e rest ≡ Err Syntax → ⊥
held_no_syntax room h e rest p =
    let go : (b : Bool) → ◌≡◌ {A = Result (ExprTree × List Terminal) Refusal} (cond b (Ok (e, rest)) (Err TooHigh)) (Err Syntax) → ⊥ = elim [ true ↦ (λ q. absurd (cc)) | false ↦ (λ q. absurd (cc)) ] in go (nat_le h room) p

expr_first : (v : List ℕ) (us : List Terminal) (e : ExprTree) (rest : List Terminal) → Fits e → reach rest ≤ 0 → spelling e ++ rest ≡ t.Reserved v ∷ us → ⊥
expr_first v us e rest f r p =
    held_no_syntax 1 (height e) e rest (sym ((completes 1).whole e rest f (omega arith) r) ∙ ap (below 1).whole p ∙ keyword_refused v us)

no_word : (w : List ℕ) (e : ExprTree) (rest ts : List Terminal) → Fits e → reach rest ≤ 0 → spelling e ++ rest ≡ ts → behind_word w ts ≡ None
no_word w e rest [] f r p = refl
no_word w e rest (t.Reserved v ∷ us) f r p = absurd (expr_first v us e rest f r p)
no_word w e rest (u ∷ us) f r p = refl

item_word : (w : List ℕ) (x : ItemTree) (ts rest : List Terminal) → SpellsItem x ts → Stops rest → behind_word w (ts ++ rest) ≡ None
item_word w all ts rest s f = ap (λ us. behind_word w (us ++ rest)) s
item_word w (all_of q) ts rest s f = ap (λ us. behind_word w (us ++ rest)) s
item_word w (value e label) ts rest s f =
    no_word w e (s.1 ++ rest) (ts ++ rest) (s.3).fits (label_reach label s.1 rest s.4 f) (sym (ap (λ us. us ++ rest) s.2 ∙ ap (λ us. (us ++ s.1) ++ rest) (s.3).spelled ∙ append_assoc (spelling e) s.1 rest))

list_word : (w : List ℕ) (xs : List ItemTree) (ts rest : List Terminal) → SpellsList SpellsItem xs ts → Stops rest → behind_word w (ts ++ rest) ≡ None
list_word w [] ts rest s f = absurd s
list_word w (x ∷ xs) ts rest s f =
    ap (behind_word w) (ap (λ us. us ++ rest) s.2 ∙ append_assoc s.0 s.1 rest) ∙ item_word w x s.0 (s.1 ++ rest) s.3 (follows_others SpellsItem Stops (λ us. (refl, tt)) xs s.1 rest s.4 f)

-- ---- cores

pub seq_held : {X Z : Type 0} (room h k : ℕ) (x : X) (z : Z) (p : Parser X) (f : X → Parser Z) (ts middle rest : List Terminal) → p ts ≡ held room h x middle → f x middle ≡ held room k z rest → seq p f ts ≡ held room (max h k) z rest
unfolding seq
seq_held room h k x z p f ts middle rest reads after = rw reads (step_held room h k x z middle rest (λ y. f y.0 y.1) after)

flat_low : {X : Type 0} (room : ℕ) (xs : List X) → highest_of flat xs ≤ room
flat_low room [] = omega arith
flat_low room (x ∷ xs) = omega (arith, flat_low room xs)

seq_flat : {X Z : Type 0} (room : ℕ) (xs : List X) (w : Result (Z × List Terminal) Refusal) (p : Parser (List X)) (f : List X → Parser Z) (ts middle : List Terminal) → p ts ≡ held room (highest_of flat xs) xs middle → f xs middle ≡ w → seq p f ts ≡ w
unfolding seq
seq_flat room xs w p f ts middle reads after = step_ok xs middle (p ts) (λ y. f y.0 y.1) w (reads ∙ held_low room (highest_of flat xs) xs middle (flat_low room xs)) after

pub seq_ok : {X Z : Type 0} (x : X) (w : Result (Z × List Terminal) Refusal) (p : Parser X) (f : X → Parser Z) (ts middle : List Terminal) → p ts ≡ Ok (x, middle) → f x middle ≡ w → seq p f ts ≡ w
unfolding seq
seq_ok x w p f ts middle reads after = step_ok x middle (p ts) (λ y. f y.0 y.1) w reads after

pub same_height : {X : Type 0} (room h k : ℕ) (x : X) (rest : List Terminal) → h ≡ k → held room h x rest ≡ held room k x rest
same_height room h k x rest p = ap (λ n. held room n x rest) p

-- the terminals behind SELECT and its quantifier
record Clauses (c : CoreTree) (items from condition groups having : List Terminal) : Type 0 where
  answered : SpellsList SpellsItem c.items items
  joined : SpellsListed (codes "from" ∷ []) SpellsChain c.from from
  filtered : SpellsPerhaps (codes "where" ∷ []) SpellsExpr c.condition condition
  grouped : SpellsListed (codes "group" ∷ codes "by" ∷ []) SpellsGroup c.groups groups
  kept : SpellsPerhaps (codes "having" ∷ []) SpellsExpr c.having having

quantified_takes : (room : ℕ) (c : CoreTree) (items from condition groups having rest : List Terminal) → Clauses c items from condition groups having → Behind having_words rest →
    quantified_of c.distinct room (items ++ (from ++ (condition ++ (groups ++ (having ++ rest))))) ≡ held room (core_height c) c rest
unfolding quantified_of
quantified_takes room c items from condition groups having rest s f =
    let f3 = behind_groups c having rest s.kept f in
    let f2 = behind_condition c groups (having ++ rest) s.grouped f3 in
    let f1 = behind_from c condition (groups ++ (having ++ rest)) s.filtered f2 in
    let f0 = behind_items c from (condition ++ (groups ++ (having ++ rest))) s.joined f1 in
    let heights : ℕ = max (highest_of item_height c.items) (max (highest_of chain_height c.from) (max (condition_height c.condition) (max (condition_height c.having) 0))) in
    let same : heights ≡ core_height c = omega arith in
    seq_held room (highest_of item_height c.items) _ c.items c _ _ _ _ rest
    (list_takes SpellsItem Stops item_height room (item_of room) (item_takes room) (λ ts. (refl, tt)) c.items items (from ++ (condition ++ (groups ++ (having ++ rest)))) s.answered f0.clear f0.comma)
    (seq_held room (highest_of chain_height c.from) _ c.from c _ _ _ _ rest
    (listed_takes (codes "from" ∷ []) SpellsChain (Clear chain_words) chain_height room (source_of room) (chain_takes room) (λ ts. (refl, (refl, (refl, (refl, (refl, tt)))))) c.from from (condition ++ (groups ++ (having ++ rest))) s.joined f1.clear.1 f1.comma
    (first_none (codes "from") [] (condition ++ (groups ++ (having ++ rest))) f1.clear.0))
    (seq_held room (condition_height c.condition) _ c.condition c _ _ _ _ rest
    (condition_takes room (codes "where" ∷ []) c.condition condition (groups ++ (having ++ rest)) s.filtered (parted where_words _ f2.clear) (first_none (codes "where") [] (groups ++ (having ++ rest)) f2.clear.0))
    (seq_flat room c.groups _ _ _ _ _
    (listed_takes (codes "group" ∷ codes "by" ∷ []) SpellsGroup Parted flat room group_of (group_takes room) (λ ts. tt) c.groups groups (having ++ rest) s.grouped (parted group_words _ f3.clear) f3.comma
    (first_none (codes "group") (codes "by" ∷ []) (having ++ rest) f3.clear.0))
    (seq_held room (condition_height c.having) 0 c.having c _ _ _ _ rest
    (condition_takes room (codes "having" ∷ []) c.having having rest s.kept (parted having_words _ f.clear) (first_none (codes "having") [] rest f.clear.0))
    (sym (held_low room 0 c rest (omega arith)))))))
    ∙ same_height room heights (core_height c) c rest same

selected_step : (room : ℕ) (c : CoreTree) (ts middle rest : List Terminal) → flag_of (codes "distinct") (codes "all") ts ≡ (c.distinct, middle) → quantified_of c.distinct room middle ≡ held room (core_height c) c rest → selected_of room ts ≡ held room (core_height c) c rest
unfolding selected_of
selected_step room c ts middle rest p h = rw p h

selected_takes : (room : ℕ) (c : CoreTree) (quantifier items from condition groups having rest : List Terminal) → SpellsFlag (codes "distinct") (codes "all") c.distinct quantifier → Clauses c items from condition groups having → Behind having_words rest →
    selected_of room (quantifier ++ (items ++ (from ++ (condition ++ (groups ++ (having ++ rest)))))) ≡ held room (core_height c) c rest
selected_takes room c quantifier items from condition groups having rest d s f =
    let f3 = behind_groups c having rest s.kept f in
    let f2 = behind_condition c groups (having ++ rest) s.grouped f3 in
    let f1 = behind_from c condition (groups ++ (having ++ rest)) s.filtered f2 in
    let f0 = behind_items c from (condition ++ (groups ++ (having ++ rest))) s.joined f1 in
    selected_step room c _ _ rest
    (flag_takes (codes "distinct") (codes "all") c.distinct quantifier _ d refl (list_word (codes "distinct") c.items items _ s.answered f0.clear) (list_word (codes "all") c.items items _ s.answered f0.clear))
    (quantified_takes room c items from condition groups having rest s f)

core_step : (room : ℕ) (ts : List Terminal) → core_of room (t.Reserved (codes "select") ∷ ts) ≡ selected_of room ts
unfolding core_of
core_step room ts = refl

clauses_of : (c : CoreTree) (ts : List Terminal) → (s : SpellsCore c ts) → Clauses c s.items s.from s.condition s.groups s.having
clauses_of c ts s = record { answered = s.answered; joined = s.joined; filtered = s.filtered; grouped = s.grouped; kept = s.kept }

apart : (a b c d e f rest : List Terminal) → (a ++ (b ++ (c ++ (d ++ (e ++ f))))) ++ rest ≡ a ++ (b ++ (c ++ (d ++ (e ++ (f ++ rest)))))
apart a b c d e f rest = simp append_assoc

pub core_takes : (room : ℕ) → Takes SpellsCore (Behind having_words) core_height room (core_of room)
core_takes room c ts rest s f =
    ap (λ us. core_of room (us ++ rest)) s.is
    ∙ ap (λ us. core_of room (t.Reserved (codes "select") ∷ us)) (apart s.quantifier s.items s.from s.condition s.groups s.having rest)
    ∙ core_step room _
    ∙ selected_takes room c s.quantifier s.items s.from s.condition s.groups s.having rest s.quantified (clauses_of c ts s) f

-- ---- UNION ALL

-- what stands behind a core is another, or what stands behind all of them
pub unions_behind : (cs : List CoreTree) (ts rest : List Terminal) → SpellsUnions cs ts → Behind core_words rest → Behind having_words (ts ++ rest)
unions_behind [] ts rest s f = subst (λ us. Behind having_words (us ++ rest)) (sym s) (record { clear = f.clear.1; comma = f.comma })
unions_behind (c ∷ cs) ts rest s f =
    subst (λ us. Behind having_words (us ++ rest)) (sym s.2) (record { clear = (refl, (refl, (refl, (refl, (refl, (refl, (refl, (refl, (refl, tt))))))))); comma = refl })

unions_end : (room k : ℕ) (rest : List Terminal) → behind_words (codes "union" ∷ codes "all" ∷ []) rest ≡ None → unions_of room k rest ≡ Ok ([], rest)
unfolding unions_of
unions_end room zero rest h = refl
unions_end room (suc k) rest h = rw h refl

unions_step : (room k : ℕ) (c : CoreTree) (cs : List CoreTree) (ts middle rest : List Terminal) → core_of room ts ≡ held room (core_height c) c middle → unions_of room k middle ≡ held room (highest_of core_height cs) cs rest →
    unions_of room (suc k) (keywords (codes "union" ∷ codes "all" ∷ []) ++ ts) ≡ held room (highest_of core_height (c ∷ cs)) (c ∷ cs) rest
unfolding unions_of
unions_step room k c cs ts middle rest p q = rw p (then_held room (core_height c) (highest_of core_height cs) c cs (c ∷ cs) middle rest (unions_of room k) (λ a b. a ∷ b) q refl)

unions_take : (room : ℕ) (cs : List CoreTree) (k : ℕ) (ts rest : List Terminal) → SpellsUnions cs ts → Behind core_words rest → length (ts ++ rest) ≤ k → unions_of room k (ts ++ rest) ≡ held room (highest_of core_height cs) cs rest
unions_take room [] k ts rest s f enough =
    ap (λ us. unions_of room k (us ++ rest)) s ∙ unions_end room k rest (first_none (codes "union") (codes "all" ∷ []) rest f.clear.0) ∙ sym (held_low room 0 [] rest (omega arith))
unions_take room (c ∷ cs) k ts rest s f enough =
    let is : ts ++ rest ≡ keywords (codes "union" ∷ codes "all" ∷ []) ++ (s.0 ++ (s.1 ++ rest)) =
    ap (λ us. us ++ rest) s.2 ∙ ap (λ us. keywords (codes "union" ∷ codes "all" ∷ []) ++ us) (append_assoc s.0 s.1 rest) in
    let long : length (ts ++ rest) ≡ suc (suc (length s.0 + length (s.1 ++ rest))) = ap length is ∙ ap (λ n. suc (suc n)) (length-append s.0 (s.1 ++ rest)) in
    let go : (j : ℕ) → length (ts ++ rest) ≤ j → unions_of room j (ts ++ rest) ≡ held room (highest_of core_height (c ∷ cs)) (c ∷ cs) rest = elim [
      | zero ↦ (λ l. absurd (omega (arith, l, long)))
      | suc j ↦ (λ l. ap (unions_of room (suc j)) is
          ∙ unions_step room j c cs (s.0 ++ (s.1 ++ rest)) (s.1 ++ rest) rest (core_takes room c s.0 (s.1 ++ rest) s.3 (unions_behind cs s.1 rest s.4 f))
          (unions_take room cs j s.1 rest s.4 f (omega (arith, l, long))))
    ]
    in go k enough

pub all_unions_take : (room : ℕ) → Takes SpellsUnions (Behind core_words) (highest_of core_height) room (all_unions_of room)
unfolding all_unions_of
all_unions_take room cs ts rest s f = unions_take room cs (length (ts ++ rest)) ts rest s f (omega arith)

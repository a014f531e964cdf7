-- The clauses that are spelled so are read so.
use Rattle.std.proofs.Common.{◌≡◌, ℕ, zero, suc, ◌+◌, ◌≤◌, inl, inr, Bool, true, false, List, [], ◌∷◌, ◌++◌, length, refl, sym, ◌∙◌, ap, subst, arith, append_assoc, length-append, codes}
use Rattle.std.specs.Prelude.{Ok, Option, Some, None}
use Rattle.query_reader.specs.declared.query_source.JoinWay.{JoinWay}
use Rattle.query_reader.specs.declared.query_source.JoinWay.TheVariants as ways
use Rattle.med_syntax.specs.Prelude.{Name, Terminal, ExprTree, column_spelling, height, spelling, EntryTree, JoinTree, inner_join, left_join, cross_join, ChainTree, GroupTree, KeyTree, LimitTree, no_limit, rows, join_height, chain_height, key_height, highest_of, keywords, SpellsEntry, SpellsOn, SpellsJoin, SpellsJoins, SpellsChain, SpellsGroup, SpellsFlag, SpellsNulls, SpellsKey, SpellsLimit, SpellsOffset, SpellsLimits}
use Rattle.med_syntax.specs.ExprReading.{below}
use Rattle.med_syntax.specs.ExprReading.{◌>>=◌}
use Rattle.med_syntax.specs.Terminal as t
use Rattle.query_reader.specs.QueryReading.{behind_word, flag_of, entry_of, join_words, on_of, join_of, joins_of, all_joins_of, source_of, group_of, nulls_of, key_after, key_of, limit_at, limit_of, behind_unit, offset_of, limit_after, limits_of}
use Rattle.med_syntax.proofs.ExprChains.{low_or_high}
use Rattle.med_syntax.proofs.ExprComplete.{completes}
use Rattle.query_reader.proofs.PartComplete.{held, held_low, held_high, Takes, then_held, Parted, Clear, Stops, parted_reach, entry_takes, flag_takes}

-- ---- FROM

on_step : (room : ℕ) (e : EntryTree) (on : ExprTree) (ts middle rest : List Terminal) → entry_of ts ≡ Ok (e, t.Reserved (codes "on") ∷ middle) → (below room).whole middle ≡ held room (height on) on rest → on_of room ts ≡ held room (height on) (e, on) rest
unfolding on_of
on_step room e on ts middle rest p q =
    rw p (rw q (elim (low_or_high (height on) room) [
      | inr g ↦ rw (held_high room (height on) on rest g, held_high {X = EntryTree × ExprTree} room (height on) (e, on) rest g) refl
      | inl g ↦ rw (held_low room (height on) on rest g, held_low {X = EntryTree × ExprTree} room (height on) (e, on) rest g) refl
    ]))

on_takes : (room : ℕ) (e : EntryTree) (on : ExprTree) (ts rest : List Terminal) → SpellsOn e on ts → Parted rest → on_of room (ts ++ rest) ≡ held room (height on) (e, on) rest
on_takes room e on ts rest s f =
    let is : ts ++ rest ≡ s.0 ++ t.Reserved (codes "on") ∷ (spelling on ++ rest) =
    ap (λ us. us ++ rest) s.2 ∙ append_assoc s.0 (t.Reserved (codes "on") ∷ s.1) rest ∙ ap (λ us. s.0 ++ t.Reserved (codes "on") ∷ (us ++ rest)) (s.4).spelled in
    ap (on_of room) is
    ∙ on_step room e on (s.0 ++ t.Reserved (codes "on") ∷ (spelling on ++ rest)) (spelling on ++ rest) rest (entry_takes e s.0 (t.Reserved (codes "on") ∷ (spelling on ++ rest)) s.3 (refl, tt))
    ((completes room).whole on rest (s.4).fits (omega arith) (parted_reach rest f))

-- a join is read from its words on
record JoinRead (room : ℕ) (x : JoinTree) (ts rest : List Terminal) : Type 0 where
  way : JoinWay
  behind : List Terminal
  words : join_words ts ≡ Some (way, behind)
  reads : join_of way room behind ≡ held room (join_height x) x rest

with_on : (room h : ℕ) (make : EntryTree × ExprTree → JoinTree) (e : EntryTree) (on : ExprTree) (ts rest : List Terminal) → on_of room ts ≡ held room h (e, on) rest → (on_of room ts >>= λ x. Ok (make x.0, x.1)) ≡ held room h (make (e, on)) rest
with_on room h make e on ts rest p =
    rw p (elim (low_or_high h room) [
      | inr g ↦ rw (held_high {X = EntryTree × ExprTree} room h (e, on) rest g, held_high room h (make (e, on)) rest g) refl
      | inl g ↦ rw (held_low {X = EntryTree × ExprTree} room h (e, on) rest g, held_low room h (make (e, on)) rest g) refl
    ])

inner_takes : (room : ℕ) (e : EntryTree) (on : ExprTree) (us rest : List Terminal) → SpellsOn e on us → Parted rest → join_of ways.Inner room (us ++ rest) ≡ held room (height on) (inner_join e on) rest
inner_takes room e on us rest s f = with_on room (height on) (λ x. inner_join x.0 x.1) e on (us ++ rest) rest (on_takes room e on us rest s f)

left_takes : (room : ℕ) (e : EntryTree) (on : ExprTree) (us rest : List Terminal) → SpellsOn e on us → Parted rest → join_of ways.Left room (us ++ rest) ≡ held room (height on) (left_join e on) rest
left_takes room e on us rest s f = with_on room (height on) (λ x. left_join x.0 x.1) e on (us ++ rest) rest (on_takes room e on us rest s f)

cross_takes : (room : ℕ) (e : EntryTree) (us rest : List Terminal) → SpellsEntry e us → Stops rest → join_of ways.Cross room (us ++ rest) ≡ held room 0 (cross_join e) rest
cross_takes room e us rest s f = rw (entry_takes e us rest s f) (sym (held_low room 0 (cross_join e) rest (omega arith)))

join_at : (room : ℕ) (x : JoinTree) (words behind ts rest : List Terminal) (way : JoinWay) → ts ≡ words ++ behind → join_words (words ++ (behind ++ rest)) ≡ Some (way, behind ++ rest) → join_of way room (behind ++ rest) ≡ held room (join_height x) x rest → JoinRead room x (ts ++ rest) rest
join_at room x words behind ts rest way is told reads =
    record { way = way; behind = behind ++ rest; words = ap join_words (ap (λ us. us ++ rest) is ∙ append_assoc words behind rest) ∙ told; reads = reads }

words_one : (us : List Terminal) → join_words (keywords (codes "join" ∷ []) ++ us) ≡ Some (ways.Inner, us)
unfolding join_words
words_one us = refl

words_inner : (us : List Terminal) → join_words (keywords (codes "inner" ∷ codes "join" ∷ []) ++ us) ≡ Some (ways.Inner, us)
unfolding join_words
words_inner us = refl

words_left : (us : List Terminal) → join_words (keywords (codes "left" ∷ codes "join" ∷ []) ++ us) ≡ Some (ways.Left, us)
unfolding join_words
words_left us = refl

words_outer : (us : List Terminal) → join_words (keywords (codes "left" ∷ codes "outer" ∷ codes "join" ∷ []) ++ us) ≡ Some (ways.Left, us)
unfolding join_words
words_outer us = refl

words_cross : (us : List Terminal) → join_words (keywords (codes "cross" ∷ codes "join" ∷ []) ++ us) ≡ Some (ways.Cross, us)
unfolding join_words
words_cross us = refl

join_takes : (room : ℕ) (x : JoinTree) (ts rest : List Terminal) → SpellsJoin x ts → Stops rest → JoinRead room x (ts ++ rest) rest
join_takes room (inner_join e on) ts rest s f =
    let told : join_words (s.0 ++ (s.1 ++ rest)) ≡ Some (ways.Inner, s.1 ++ rest) = elim (s.3) [
      | inl h ↦ ap (λ us. join_words (us ++ (s.1 ++ rest))) h ∙ words_one (s.1 ++ rest)
      | inr h ↦ ap (λ us. join_words (us ++ (s.1 ++ rest))) h ∙ words_inner (s.1 ++ rest)
    ]
    in join_at room (inner_join e on) s.0 s.1 ts rest ways.Inner s.2 told (inner_takes room e on s.1 rest s.4 f.1)
join_takes room (left_join e on) ts rest s f =
    let told : join_words (s.0 ++ (s.1 ++ rest)) ≡ Some (ways.Left, s.1 ++ rest) = elim (s.3) [
      | inl h ↦ ap (λ us. join_words (us ++ (s.1 ++ rest))) h ∙ words_left (s.1 ++ rest)
      | inr h ↦ ap (λ us. join_words (us ++ (s.1 ++ rest))) h ∙ words_outer (s.1 ++ rest)
    ]
    in join_at room (left_join e on) s.0 s.1 ts rest ways.Left s.2 told (left_takes room e on s.1 rest s.4 f.1)
join_takes room (cross_join e) ts rest s f =
    join_at room (cross_join e) (keywords (codes "cross" ∷ codes "join" ∷ [])) s.0 ts rest ways.Cross s.1 (words_cross (s.0 ++ rest)) (cross_takes room e s.0 rest s.2 f)

-- a join begins with a word
pub join_long : (x : JoinTree) (ts : List Terminal) → SpellsJoin x ts → 1 ≤ length ts
join_long (inner_join e on) ts s =
    elim (s.3) [
      | inl h ↦ subst (λ us. 1 ≤ length us) (sym (s.2 ∙ ap (λ us. us ++ s.1) h)) (omega arith)
      | inr h ↦ subst (λ us. 1 ≤ length us) (sym (s.2 ∙ ap (λ us. us ++ s.1) h)) (omega arith)
    ]
join_long (left_join e on) ts s =
    elim (s.3) [
      | inl h ↦ subst (λ us. 1 ≤ length us) (sym (s.2 ∙ ap (λ us. us ++ s.1) h)) (omega arith)
      | inr h ↦ subst (λ us. 1 ≤ length us) (sym (s.2 ∙ ap (λ us. us ++ s.1) h)) (omega arith)
    ]
join_long (cross_join e) ts s = subst (λ us. 1 ≤ length us) (sym s.1) (omega arith)

join_stops : (x : JoinTree) (ts rest : List Terminal) → SpellsJoin x ts → Stops (ts ++ rest)
join_stops (inner_join e on) ts rest s =
    elim (s.3) [
      | inl h ↦ subst (λ us. Stops (us ++ rest)) (sym (s.2 ∙ ap (λ us. us ++ s.1) h)) (refl, tt)
      | inr h ↦ subst (λ us. Stops (us ++ rest)) (sym (s.2 ∙ ap (λ us. us ++ s.1) h)) (refl, tt)
    ]
join_stops (left_join e on) ts rest s =
    elim (s.3) [
      | inl h ↦ subst (λ us. Stops (us ++ rest)) (sym (s.2 ∙ ap (λ us. us ++ s.1) h)) (refl, tt)
      | inr h ↦ subst (λ us. Stops (us ++ rest)) (sym (s.2 ∙ ap (λ us. us ++ s.1) h)) (refl, tt)
    ]
join_stops (cross_join e) ts rest s = subst (λ us. Stops (us ++ rest)) (sym s.1) (refl, tt)

joins_stop : (xs : List JoinTree) (ts rest : List Terminal) → SpellsJoins xs ts → Stops rest → Stops (ts ++ rest)
joins_stop [] ts rest s f = subst (λ us. Stops (us ++ rest)) (sym s) f
joins_stop (x ∷ xs) ts rest s f = subst Stops (sym (ap (λ us. us ++ rest) s.2 ∙ append_assoc s.0 s.1 rest)) (join_stops x s.0 (s.1 ++ rest) s.3)

joins_end : (room k : ℕ) (rest : List Terminal) → join_words rest ≡ None → joins_of room k rest ≡ Ok ([], rest)
unfolding joins_of
joins_end room zero rest h = refl
joins_end room (suc k) rest h = rw h refl

joins_step : (room k : ℕ) (x : JoinTree) (xs : List JoinTree) (ts middle rest : List Terminal) → JoinRead room x ts middle → joins_of room k middle ≡ held room (highest_of join_height xs) xs rest →
    joins_of room (suc k) ts ≡ held room (highest_of join_height (x ∷ xs)) (x ∷ xs) rest
unfolding joins_of
joins_step room k x xs ts middle rest r q =
    rw (r.words) (rw (r.reads) (then_held room (join_height x) (highest_of join_height xs) x xs (x ∷ xs) middle rest (joins_of room k) (λ a b. a ∷ b) q refl))

joins_take : (room : ℕ) (xs : List JoinTree) (k : ℕ) (ts rest : List Terminal) → SpellsJoins xs ts → Stops rest → join_words rest ≡ None → length (ts ++ rest) ≤ k → joins_of room k (ts ++ rest) ≡ held room (highest_of join_height xs) xs rest
joins_take room [] k ts rest s f stop enough = ap (λ us. joins_of room k (us ++ rest)) s ∙ joins_end room k rest stop ∙ sym (held_low room 0 [] rest (omega arith))
joins_take room (x ∷ xs) k ts rest s f stop enough =
    let is : ts ++ rest ≡ s.0 ++ (s.1 ++ rest) = ap (λ us. us ++ rest) s.2 ∙ append_assoc s.0 s.1 rest in
    let long : length (ts ++ rest) ≡ length s.0 + length (s.1 ++ rest) = ap length is ∙ length-append s.0 (s.1 ++ rest) in
    let go : (j : ℕ) → length (ts ++ rest) ≤ j → joins_of room j (ts ++ rest) ≡ held room (highest_of join_height (x ∷ xs)) (x ∷ xs) rest = elim [
      | zero ↦ (λ l. absurd (omega (arith, l, long, join_long x s.0 s.3)))
      | suc j ↦ (λ l. ap (joins_of room (suc j)) is
          ∙ joins_step room j x xs (s.0 ++ (s.1 ++ rest)) (s.1 ++ rest) rest (join_takes room x s.0 (s.1 ++ rest) s.3 (joins_stop xs s.1 rest s.4 f))
          (joins_take room xs j s.1 rest s.4 f stop (omega (arith, l, long, join_long x s.0 s.3))))
    ]
    in go k enough

all_joins_take : (room : ℕ) (xs : List JoinTree) (ts rest : List Terminal) → SpellsJoins xs ts → Stops rest → join_words rest ≡ None → all_joins_of room (ts ++ rest) ≡ held room (highest_of join_height xs) xs rest
unfolding all_joins_of
all_joins_take room xs ts rest s f stop = joins_take room xs (length (ts ++ rest)) ts rest s f stop (omega arith)

-- behind a chain
abbrev pub chain_words : List (List ℕ)
chain_words = codes "join" ∷ codes "inner" ∷ codes "left" ∷ codes "cross" ∷ codes "as" ∷ []

no_join : (rest : List Terminal) → Clear chain_words rest → join_words rest ≡ None
unfolding join_words
no_join rest f = rw (f.0) (rw (f.1.0) (rw (f.1.1.0) (rw (f.1.1.1.0) refl)))

chain_step : (room : ℕ) (c : ChainTree) (ts middle rest : List Terminal) → entry_of ts ≡ Ok (c.first, middle) → all_joins_of room middle ≡ held room (highest_of join_height c.joins) c.joins rest → source_of room ts ≡ held room (chain_height c) c rest
unfolding source_of
chain_step room c ts middle rest p q =
    rw p (rw q (elim (low_or_high (highest_of join_height c.joins) room) [
      | inr g ↦ rw (held_high room (highest_of join_height c.joins) c.joins rest g, held_high room (chain_height c) c rest g) refl
      | inl g ↦ rw (held_low room (highest_of join_height c.joins) c.joins rest g, held_low room (chain_height c) c rest g) refl
    ]))

pub chain_takes : (room : ℕ) → Takes SpellsChain (Clear chain_words) chain_height room (source_of room)
chain_takes room c ts rest s f =
    let stops : Stops rest = f.1.1.1.1 in
    ap (source_of room) (ap (λ us. us ++ rest) s.2 ∙ append_assoc s.0 s.1 rest)
    ∙ chain_step room c (s.0 ++ (s.1 ++ rest)) (s.1 ++ rest) rest (entry_takes c.first s.0 (s.1 ++ rest) s.3 (joins_stop c.joins s.1 rest s.4 stops))
    (all_joins_take room c.joins s.1 rest s.4 stops (no_join rest f))

-- ---- GROUP BY and ORDER BY

group_at : (room : ℕ) (q : Option Name) (n : Name) (rest : List Terminal) → Parted rest → group_of (column_spelling q n ++ rest) ≡ held room 0 (record { qualifier = q; column = n }) rest
group_at room (Some q) n rest f = sym (held_low room 0 (record { qualifier = Some q; column = n }) rest (omega arith))
group_at room None n [] f = sym (held_low {X = GroupTree} room 0 (record { qualifier = None; column = n }) [] (omega arith))
group_at room None n (t.Dot ∷ us) f = absurd f
group_at room None n (u ∷ us) f = sym (held_low {X = GroupTree} room 0 (record { qualifier = None; column = n }) (u ∷ us) (omega arith))

abbrev pub flat : {X : Type 0} → X → ℕ
flat x = 0

pub group_takes : (room : ℕ) → Takes SpellsGroup Parted flat room group_of
group_takes room g ts rest s f = ap (λ us. group_of (us ++ rest)) s ∙ group_at room g.qualifier g.column rest f

-- behind a key
abbrev pub key_words : List (List ℕ)
key_words = codes "nulls" ∷ codes "desc" ∷ codes "asc" ∷ []

nulls_takes : (b first : Bool) (ts rest : List Terminal) → SpellsNulls b first ts → behind_word (codes "nulls") rest ≡ None → nulls_of b (ts ++ rest) ≡ (first, rest)
unfolding nulls_of
nulls_takes b first ts rest (inl s) f = ap (λ us. nulls_of b (us ++ rest)) s.0 ∙ (rw f (ap (λ (v : Bool). (v, rest)) (sym s.1)))
nulls_takes b first ts rest (inr (inl s)) f = ap (λ us. nulls_of b (us ++ rest)) s.0 ∙ ap (λ (v : Bool). (v, rest)) (sym s.1)
nulls_takes b first ts rest (inr (inr s)) f = ap (λ us. nulls_of b (us ++ rest)) s.0 ∙ ap (λ (v : Bool). (v, rest)) (sym s.1)

-- a part that is nothing or begins with the word
nulls_lift : (P : List Terminal → Type 0) (b first : Bool) (ts rest : List Terminal) → SpellsNulls b first ts → P rest → ((us : List Terminal) → P (t.Reserved (codes "nulls") ∷ us)) → P (ts ++ rest)
nulls_lift P b first ts rest (inl s) f w = subst (λ us. P (us ++ rest)) (sym s.0) f
nulls_lift P b first ts rest (inr (inl s)) f w = subst (λ us. P (us ++ rest)) (sym s.0) (w (t.Reserved (codes "first") ∷ rest))
nulls_lift P b first ts rest (inr (inr s)) f w = subst (λ us. P (us ++ rest)) (sym s.0) (w (t.Reserved (codes "last") ∷ rest))

flag_parted : (one other : List ℕ) (b : Bool) (ts rest : List Terminal) → SpellsFlag one other b ts → Parted rest → Parted (ts ++ rest)
flag_parted one other true ts rest s f = subst (λ us. Parted (us ++ rest)) (sym s) tt
flag_parted one other false ts rest (inl s) f = subst (λ us. Parted (us ++ rest)) (sym s) f
flag_parted one other false ts rest (inr s) f = subst (λ us. Parted (us ++ rest)) (sym s) tt

after_step : (k : KeyTree) (ts middle rest : List Terminal) → flag_of (codes "desc") (codes "asc") ts ≡ (k.descending, middle) → nulls_of k.descending middle ≡ (k.nulls_first, rest) → key_after k.key ts ≡ (k, rest)
unfolding key_after
after_step k ts middle rest p q = rw p (rw q refl)

key_step : (room : ℕ) (k : KeyTree) (ts middle rest : List Terminal) → (below room).whole ts ≡ held room (height k.key) k.key middle → key_after k.key middle ≡ (k, rest) → key_of room ts ≡ held room (key_height k) k rest
unfolding key_of
key_step room k ts middle rest p q =
    rw p (elim (low_or_high (height k.key) room) [
      | inr g ↦ rw (held_high room (height k.key) k.key middle g, held_high room (key_height k) k rest g) refl
      | inl g ↦ rw (held_low room (height k.key) k.key middle g, held_low room (key_height k) k rest g) (ap (λ (x : KeyTree × List Terminal). Ok x) q)
    ])

pub key_takes : (room : ℕ) → Takes SpellsKey (Clear key_words) key_height room (key_of room)
key_takes room k ts rest s f =
    let after : List Terminal = s.1 ++ (s.2 ++ rest) in
    let is : ts ++ rest ≡ spelling k.key ++ after = ap (λ us. us ++ rest) s.3 ∙ append_assoc s.0 (s.1 ++ s.2) rest ∙ ap (λ us. s.0 ++ us) (append_assoc s.1 s.2 rest) ∙ ap (λ us. us ++ after) (s.4).spelled in
    let parted : Parted (s.2 ++ rest) = nulls_lift Parted k.descending k.nulls_first s.2 rest s.6 f.1.1.1 (λ us. tt) in
    ap (key_of room) is
    ∙ key_step room k (spelling k.key ++ after) after rest
    ((completes room).whole k.key after (s.4).fits (omega arith) (parted_reach after (flag_parted (codes "desc") (codes "asc") k.descending s.1 (s.2 ++ rest) s.5 parted)))
    (after_step k after (s.2 ++ rest) rest
    (flag_takes (codes "desc") (codes "asc") k.descending s.1 (s.2 ++ rest) s.5 refl
    (nulls_lift (λ us. behind_word (codes "desc") us ≡ None) k.descending k.nulls_first s.2 rest s.6 f.1.0 (λ us. refl))
    (nulls_lift (λ us. behind_word (codes "asc") us ≡ None) k.descending k.nulls_first s.2 rest s.6 f.1.1.0 (λ us. refl)))
    (nulls_takes k.descending k.nulls_first s.2 rest s.6 f.0))

-- ---- LIMIT and OFFSET

limit_takes : (limit : Option LimitTree) (ts rest : List Terminal) → SpellsLimit limit ts → behind_word (codes "limit") rest ≡ None → limit_of (ts ++ rest) ≡ Ok (limit, rest)
unfolding limit_of limit_at
limit_takes None ts rest s f = ap (λ us. limit_of (us ++ rest)) s ∙ (rw f refl)
limit_takes (Some no_limit) ts rest s f = ap (λ us. limit_of (us ++ rest)) s
limit_takes (Some (rows n)) ts rest s f = ap (λ us. limit_of (us ++ rest)) s

-- behind OFFSET and its number
abbrev pub unit_words : List (List ℕ)
unit_words = codes "row" ∷ codes "rows" ∷ []

offset_takes : (offset : Option ℕ) (ts rest : List Terminal) → SpellsOffset offset ts → behind_word (codes "offset") rest ≡ None → Clear unit_words rest → offset_of (ts ++ rest) ≡ Ok (offset, rest)
unfolding offset_of behind_unit
offset_takes None ts rest s f u = ap (λ us. offset_of (us ++ rest)) s ∙ (rw f refl)
offset_takes (Some n) ts rest s f u =
    elim (s.2) [
      | inl h ↦ ap (λ us. offset_of (us ++ rest)) (s.1 ∙ ap (λ us. t.Reserved (codes "offset") ∷ t.Num n ∷ us) h) ∙ (rw (u.0) (rw (u.1.0) refl))
      | inr (inl h) ↦ ap (λ us. offset_of (us ++ rest)) (s.1 ∙ ap (λ us. t.Reserved (codes "offset") ∷ t.Num n ∷ us) h)
      | inr (inr h) ↦ ap (λ us. offset_of (us ++ rest)) (s.1 ∙ ap (λ us. t.Reserved (codes "offset") ∷ t.Num n ∷ us) h)
    ]

limit_lift : (P : List Terminal → Type 0) (limit : Option LimitTree) (ts rest : List Terminal) → SpellsLimit limit ts → P rest → ((us : List Terminal) → P (t.Reserved (codes "limit") ∷ us)) → P (ts ++ rest)
limit_lift P None ts rest s f w = subst (λ us. P (us ++ rest)) (sym s) f
limit_lift P (Some no_limit) ts rest s f w = subst (λ us. P (us ++ rest)) (sym s) (w (t.Reserved (codes "all") ∷ rest))
limit_lift P (Some (rows n)) ts rest s f w = subst (λ us. P (us ++ rest)) (sym s) (w (t.Num n ∷ rest))

offset_lift : (P : List Terminal → Type 0) (offset : Option ℕ) (ts rest : List Terminal) → SpellsOffset offset ts → P rest → ((us : List Terminal) → P (t.Reserved (codes "offset") ∷ us)) → P (ts ++ rest)
offset_lift P None ts rest s f w = subst (λ us. P (us ++ rest)) (sym s) f
offset_lift P (Some n) ts rest s f w = subst (λ us. P (us ++ rest)) (sym s.1) (w (t.Num n ∷ (s.0 ++ rest)))

pub limits_lift : (P : List Terminal → Type 0) (limit : Option LimitTree) (offset : Option ℕ) (ts rest : List Terminal) → SpellsLimits limit offset ts → P rest → ((us : List Terminal) → P (t.Reserved (codes "limit") ∷ us)) → ((us : List Terminal) → P (t.Reserved (codes "offset") ∷ us)) → P (ts ++ rest)
limits_lift P limit offset ts rest s f w v =
    elim (s.4) [
      | inl h ↦ subst P (sym (ap (λ us. us ++ rest) h ∙ append_assoc s.0 s.1 rest)) (limit_lift P limit s.0 (s.1 ++ rest) s.2 (offset_lift P offset s.1 rest s.3 f v) w)
      | inr h ↦ subst P (sym (ap (λ us. us ++ rest) h ∙ append_assoc s.1 s.0 rest)) (offset_lift P offset s.1 (s.0 ++ rest) s.3 (limit_lift P limit s.0 rest s.2 f w) v)
    ]

limits_step : (limit before : Option LimitTree) (offset : Option ℕ) (ts a b rest : List Terminal) → limit_of ts ≡ Ok (before, a) → offset_of a ≡ Ok (offset, b) → limit_after before b ≡ Ok (limit, rest) → limits_of ts ≡ Ok ((limit, offset), rest)
unfolding limits_of
limits_step limit before offset ts a b rest p q r = rw p (rw q (rw r refl))

limit_kept : (limit : Option LimitTree) (rest : List Terminal) → behind_word (codes "limit") rest ≡ None → limit_after limit rest ≡ Ok (limit, rest)
limit_kept None rest f = limit_takes None [] rest refl f
limit_kept (Some l) rest f = refl

-- behind a query
abbrev pub limit_words : List (List ℕ)
limit_words = codes "limit" ∷ codes "offset" ∷ unit_words

limit_first : (limit : Option LimitTree) (offset : Option ℕ) (a b rest : List Terminal) → SpellsLimit limit a → SpellsOffset offset b → Clear limit_words rest → limits_of (a ++ (b ++ rest)) ≡ Ok ((limit, offset), rest)
limit_first limit offset a b rest s p f =
    limits_step limit limit offset (a ++ (b ++ rest)) (b ++ rest) rest rest
    (limit_takes limit a (b ++ rest) s (offset_lift (λ us. behind_word (codes "limit") us ≡ None) offset b rest p f.0 (λ us. refl)))
    (offset_takes offset b rest p f.1.0 f.1.1) (limit_kept limit rest f.0)

offset_first : (limit : Option LimitTree) (offset : Option ℕ) (a b rest : List Terminal) → SpellsLimit limit a → SpellsOffset offset b → Clear limit_words rest → limits_of (b ++ (a ++ rest)) ≡ Ok ((limit, offset), rest)
offset_first limit None a b rest s p f = ap (λ us. limits_of (us ++ (a ++ rest))) p ∙ limit_first limit None a [] rest s refl f
offset_first limit (Some n) a b rest s p f =
    limits_step limit None (Some n) (b ++ (a ++ rest)) (b ++ (a ++ rest)) (a ++ rest) rest
    (limit_takes None [] (b ++ (a ++ rest)) refl (ap (λ us. behind_word (codes "limit") (us ++ (a ++ rest))) p.1))
    (offset_takes (Some n) b (a ++ rest) p
    (limit_lift (λ us. behind_word (codes "offset") us ≡ None) limit a rest s f.1.0 (λ us. refl))
    (limit_lift (Clear unit_words) limit a rest s f.1.1 (λ us. (refl, (refl, tt)))))
    (limit_takes limit a rest s f.0)

pub limits_take : (limit : Option LimitTree) (offset : Option ℕ) (ts rest : List Terminal) → SpellsLimits limit offset ts → Clear limit_words rest → limits_of (ts ++ rest) ≡ Ok ((limit, offset), rest)
limits_take limit offset ts rest s f =
    elim (s.4) [
      | inl h ↦ ap limits_of (ap (λ us. us ++ rest) h ∙ append_assoc s.0 s.1 rest) ∙ limit_first limit offset s.0 s.1 rest s.2 s.3 f
      | inr h ↦ ap limits_of (ap (λ us. us ++ rest) h ∙ append_assoc s.1 s.0 rest) ∙ offset_first limit offset s.0 s.1 rest s.2 s.3 f
    ]

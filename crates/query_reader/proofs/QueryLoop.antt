-- The loop over the items of a list, and over items that are in range.
use Rattle.std.proofs.Common.{◌≡◌, ℕ, zero, suc, ◌≤◌, ◌<◌, List, [], ◌∷◌, ◌++◌, length, refl, sym, ◌∙◌, ap, subst, arith, append_assoc, append-nil, length-append, codes}
use Rattle.std.specs.Prelude.{Result, Ok, Err, Option, Some, None, map}
use Rattle.med_syntax.specs.declared.refusal.ReadFault.{ReadFault}
use Rattle.med_syntax.specs.declared.refusal.ReadFault.TheVariants as faults
use Rattle.med_syntax.specs.declared.refusal.Refusal.{Refusal}
use Rattle.med_syntax.specs.declared.symbols.Separator.TheVariants.{Comma}
use Rattle.med_syntax.specs.Prelude.{Terminal, ReadsAs, behind_of, JoinTree, CoreTree}
use Rattle.med_syntax.specs.ExprReading.{◌>>=◌}
use Rattle.med_syntax.specs.Terminal as t
use Rattle.query_reader.specs.declared.query_source.JoinWay.{JoinWay}
use Rattle.query_reader.specs.QueryReading.{Parser, behind_words, others, list_of, join_words, join_of, joins_of, all_joins_of, core_of, unions_of, all_unions_of}
use Rattle.query_reader.proofs.ClauseComplete.{join_long}
use Rattle.query_reader.proofs.PartSound.{Sound, comma_is, words_are}
use Rattle.query_reader.proofs.ClauseSound.{join_found}
use Rattle.query_reader.proofs.CoreSound.{core_sound}

abbrev pub after_these : {X : Type 0} → List X → Result (List X × List Terminal) Refusal → Result (List X × List Terminal) Refusal
after_these xs r = r >>= λ y. Ok (xs ++ y.0, y.1)

-- The items xs stand in front of the rest.
pub record ListLoop {X : Type 0} (item : Parser X) (terminals : List Terminal) (xs : List X) (rest : List Terminal) : Type 0 where
  pub k : ℕ
  pub enough : length rest ≤ k
  pub same : list_of item terminals ≡ after_these xs (others item k rest)

start_at : {X : Type 0} (item : Parser X) (ts : List Terminal) (x : X) (rest : List Terminal) → item ts ≡ Ok (x, rest) → list_of item ts ≡ after_these (x ∷ []) (others item (length rest) rest)
unfolding list_of
start_at item ts x rest h = rw h refl

pub list_start : {X : Type 0} (item : Parser X) (ts : List Terminal) (x : X) (xs : List X) (rest : List Terminal) → item ts ≡ Ok (x, rest) → xs ≡ x ∷ [] → ListLoop item ts xs rest
list_start item ts x xs rest h is = subst (λ ys. ListLoop item ts ys rest) (sym is) (record { k = length rest; enough = omega arith; same = start_at item ts x rest h })

one_more : {X : Type 0} (xs : List X) (x : X) (r : Result (List X × List Terminal) Refusal) → after_these xs (r >>= λ y. Ok (x ∷ y.0, y.1)) ≡ after_these (xs ++ x ∷ []) r
one_more xs x (Err e) = refl
one_more xs x (Ok y) = ap (λ z. Ok (z, y.1)) (sym (append_assoc xs (x ∷ []) y.0))

others_at : {X : Type 0} (item : Parser X) (k : ℕ) (after : List Terminal) (x : X) (more : List Terminal) → item after ≡ Ok (x, more) → others item (suc k) (t.Comma ∷ after) ≡ (others item k more >>= λ y. Ok (x ∷ y.0, y.1))
unfolding others
others_at item k after x more h = rw h refl

more_at : {X : Type 0} (item : Parser X) (k : ℕ) (ts : List Terminal) (xs : List X) (after : List Terminal) (x : X) (more : List Terminal) → length (t.Comma ∷ after) ≤ k → list_of item ts ≡ after_these xs (others item k (t.Comma ∷ after)) → item after ≡ Ok (x, more) → length more ≤ length after → ListLoop item ts (xs ++ x ∷ []) more
more_at item zero ts xs after x more enough same h short = absurd (omega arith)
more_at item (suc k) ts xs after x more enough same h short =
    record { k = k; enough = omega arith; same = same ∙ ap (after_these xs) (others_at item k after x more h) ∙ one_more xs x (others item k more) }

list_more : {X : Type 0} (item : Parser X) (ts : List Terminal) (xs : List X) (rest after : List Terminal) (x : X) (more : List Terminal) → ListLoop item ts xs rest → behind_of Comma rest ≡ Some after → item after ≡ Ok (x, more) → length more ≤ length after → ListLoop item ts (xs ++ x ∷ []) more
list_more item ts xs rest after x more loop b h short =
    let e = comma_is rest after b in
    more_at item loop.k ts xs after x more (omega (arith, ap length e, loop.enough)) (subst (λ z. list_of item ts ≡ after_these xs (others item loop.k z)) e loop.same) h short

no_more : {X : Type 0} (item : Parser X) (k : ℕ) (rest : List Terminal) → behind_of Comma rest ≡ None → others item k rest ≡ Ok ([], rest)
unfolding others
no_more item zero rest h = refl
no_more item (suc k) rest h = rw h refl

pub list_end : {X : Type 0} (item : Parser X) (ts : List Terminal) (xs : List X) (rest : List Terminal) → ListLoop item ts xs rest → behind_of Comma rest ≡ None → list_of item ts ≡ Ok (xs, rest)
list_end item ts xs rest loop b = loop.same ∙ ap (after_these xs) (no_more item loop.k rest b) ∙ ap (λ z. Ok (z, rest)) (append-nil xs)

others_failed : {X : Type 0} (item : Parser X) (k : ℕ) (after : List Terminal) (f : Refusal) → item after ≡ Err f → others item (suc k) (t.Comma ∷ after) ≡ Err f
unfolding others
others_failed item k after f h = rw h refl

failed_at : {X : Type 0} (item : Parser X) (k : ℕ) (ts : List Terminal) (xs : List X) (after : List Terminal) (f : Refusal) → length (t.Comma ∷ after) ≤ k → list_of item ts ≡ after_these xs (others item k (t.Comma ∷ after)) → item after ≡ Err f → list_of item ts ≡ Err f
failed_at item zero ts xs after f enough same h = absurd (omega arith)
failed_at item (suc k) ts xs after f enough same h = same ∙ ap (after_these xs) (others_failed item k after f h)

pub list_failed : {X Y Z : Type 0} (view : Y → List X × List Terminal) (seen : Z → X × List Terminal) (item : Parser X) (ts : List Terminal) (xs : List X) (rest after : List Terminal) (e : ReadFault) (r : Result Y ReadFault) →
    ListLoop item ts xs rest → behind_of Comma rest ≡ Some after → ReadsAs seen (Err e) (item after) → r ≡ Err e → ReadsAs view r (list_of item ts)
list_failed view seen item ts xs rest after faults.NoMemory r loop b h is = rw is tt
list_failed view seen item ts xs rest after (faults.Refused f) r loop b h is =
    let e = comma_is rest after b in
    rw is (failed_at item loop.k ts xs after f (omega (arith, ap length e, loop.enough)) (subst (λ z. list_of item ts ≡ after_these xs (others item loop.k z)) e loop.same) h)

start_none : {X : Type 0} (item : Parser X) (ts : List Terminal) (f : Refusal) → item ts ≡ Err f → list_of item ts ≡ Err f
unfolding list_of
start_none item ts f h = rw h refl

pub list_unstarted : {X Y Z : Type 0} (view : Y → List X × List Terminal) (seen : Z → X × List Terminal) (item : Parser X) (ts : List Terminal) (e : ReadFault) (r : Result Y ReadFault) → ReadsAs seen (Err e) (item ts) → r ≡ Err e → ReadsAs view r (list_of item ts)
list_unstarted view seen item ts faults.NoMemory r h is = rw is tt
list_unstarted view seen item ts (faults.Refused f) r h is = rw is (start_none item ts f h)

pub map-push : {X Y : Type 0} (f : X → Y) (xs : List X) (x : X) → map f (xs ++ x ∷ []) ≡ map f xs ++ f x ∷ []
map-push f [] x = refl
map-push f (y ∷ ys) x = ap (λ z. f y ∷ z) (map-push f ys x)

-- ---- what a function reads by a loop

pub parts_shorter : {X : Type 0} (Spelling : X → List Terminal → Type 0) (high : X → ℕ) (room : ℕ) (item : Parser X) → Sound Spelling high room item → (rest after : List Terminal) (x : X) (more : List Terminal) → behind_of Comma rest ≡ Some after → item after ≡ Ok (x, more) → length more < length rest
parts_shorter Spelling high room item sound rest after x more b h =
    let f = sound after x more h in
    omega (arith, ap length (comma_is rest after b), ap length f.is, length-append f.front more)

pub parts_more : {S X : Type 0} (Spelling : X → List Terminal → Type 0) (high : X → ℕ) (room : ℕ) (item : Parser X) → Sound Spelling high room item → (view : S → X) (ts : List Terminal) (old new : List S) (s : S) (rest after more : List Terminal) →
    ListLoop item ts (map view old) rest → behind_of Comma rest ≡ Some after → item after ≡ Ok (view s, more) → new ≡ old ++ s ∷ [] → ListLoop item ts (map view new) more
parts_more Spelling high room item sound view ts old new s rest after more loop b h is =
    let f = sound after (view s) more h in
    subst (λ z. ListLoop item ts z more) (sym (ap (map view) is ∙ map-push view old s))
    (list_more item ts (map view old) rest after (view s) more loop b h (omega (arith, ap length f.is, length-append f.front more)))

-- ---- joins

-- The joins xs stand in front of the rest.
pub record JoinsLoop (room : ℕ) (terminals : List Terminal) (xs : List JoinTree) (rest : List Terminal) : Type 0 where
  pub k : ℕ
  pub enough : length rest ≤ k
  pub same : all_joins_of room terminals ≡ after_these xs (joins_of room k rest)

after_none : {X : Type 0} (r : Result (List X × List Terminal) Refusal) → r ≡ after_these [] r
after_none (Ok y) = refl
after_none (Err f) = refl

joins_at_start : (room : ℕ) (ts : List Terminal) → all_joins_of room ts ≡ after_these [] (joins_of room (length ts) ts)
unfolding all_joins_of
joins_at_start room ts = after_none (joins_of room (length ts) ts)

pub joins_start : (room : ℕ) (ts : List Terminal) (xs : List JoinTree) → xs ≡ [] → JoinsLoop room ts xs ts
joins_start room ts xs is = subst (λ ys. JoinsLoop room ts ys ts) (sym is) (record { k = length ts; enough = omega arith; same = joins_at_start room ts })

joins_step : (room k : ℕ) (rest after : List Terminal) (way : JoinWay) (x : JoinTree) (more : List Terminal) → join_words rest ≡ Some (way, after) → join_of way room after ≡ Ok (x, more) → joins_of room (suc k) rest ≡ (joins_of room k more >>= λ y. Ok (x ∷ y.0, y.1))
unfolding joins_of
joins_step room k rest after way x more p h = rw p (rw h refl)

pub joins_shorter : (room : ℕ) (rest after : List Terminal) (way : JoinWay) (x : JoinTree) (more : List Terminal) → join_words rest ≡ Some (way, after) → join_of way room after ≡ Ok (x, more) → length more < length rest
joins_shorter room rest after way x more p h =
    let f = join_found room rest after way x more p h in
    omega (arith, ap length f.is, length-append f.front more, join_long x f.front f.spelled)

joins_next : (room k : ℕ) (ts : List Terminal) (xs : List JoinTree) (rest after : List Terminal) (way : JoinWay) (x : JoinTree) (more : List Terminal) → length rest ≤ k → all_joins_of room ts ≡ after_these xs (joins_of room k rest) →
    join_words rest ≡ Some (way, after) → join_of way room after ≡ Ok (x, more) → length more < length rest → JoinsLoop room ts (xs ++ x ∷ []) more
joins_next room zero ts xs rest after way x more enough same p h short = absurd (omega (arith, enough, short))
joins_next room (suc k) ts xs rest after way x more enough same p h short =
    record { k = k; enough = omega (arith, enough, short); same = same ∙ ap (after_these xs) (joins_step room k rest after way x more p h) ∙ one_more xs x (joins_of room k more) }

pub joins_more : {S : Type 0} (room : ℕ) (view : S → JoinTree) (ts : List Terminal) (old new : List S) (s : S) (rest after : List Terminal) (way : JoinWay) (more : List Terminal) →
    JoinsLoop room ts (map view old) rest → join_words rest ≡ Some (way, after) → join_of way room after ≡ Ok (view s, more) → new ≡ old ++ s ∷ [] → JoinsLoop room ts (map view new) more
joins_more room view ts old new s rest after way more loop p h is =
    subst (λ z. JoinsLoop room ts z more) (sym (ap (map view) is ∙ map-push view old s))
    (joins_next room loop.k ts (map view old) rest after way (view s) more loop.enough loop.same p h (joins_shorter room rest after way (view s) more p h))

no_more_joins : (room k : ℕ) (rest : List Terminal) → join_words rest ≡ None → joins_of room k rest ≡ Ok ([], rest)
unfolding joins_of
no_more_joins room zero rest h = refl
no_more_joins room (suc k) rest h = rw h refl

pub joins_end : (room : ℕ) (ts : List Terminal) (xs : List JoinTree) (rest : List Terminal) → JoinsLoop room ts xs rest → join_words rest ≡ None → all_joins_of room ts ≡ Ok (xs, rest)
joins_end room ts xs rest loop h = loop.same ∙ ap (after_these xs) (no_more_joins room loop.k rest h) ∙ ap (λ z. Ok (z, rest)) (append-nil xs)

joins_failed_at : (room k : ℕ) (rest after : List Terminal) (way : JoinWay) (f : Refusal) → join_words rest ≡ Some (way, after) → join_of way room after ≡ Err f → joins_of room (suc k) rest ≡ Err f
unfolding joins_of
joins_failed_at room k rest after way f p h = rw p (rw h refl)

no_words : (way : JoinWay) (after : List Terminal) → join_words [] ≡ Some (way, after) → ⊥
unfolding join_words
no_words way after p = absurd (let bad : ◌≡◌ {A = Option (JoinWay × List Terminal)} None (Some (way, after)) = p in cc)

words_long : (rest after : List Terminal) (way : JoinWay) → join_words rest ≡ Some (way, after) → 1 ≤ length rest
words_long [] after way p = absurd (no_words way after p)
words_long (u ∷ us) after way p = omega arith

joins_stop_at : (room k : ℕ) (ts : List Terminal) (xs : List JoinTree) (rest after : List Terminal) (way : JoinWay) (f : Refusal) → length rest ≤ k → all_joins_of room ts ≡ after_these xs (joins_of room k rest) → join_words rest ≡ Some (way, after) → join_of way room after ≡ Err f → all_joins_of room ts ≡ Err f
joins_stop_at room zero ts xs rest after way f enough same p h = absurd (omega (arith, enough, words_long rest after way p))
joins_stop_at room (suc k) ts xs rest after way f enough same p h = same ∙ ap (after_these xs) (joins_failed_at room k rest after way f p h)

pub joins_failed : {Y Z : Type 0} (view : Y → List JoinTree × List Terminal) (seen : Z → JoinTree × List Terminal) (room : ℕ) (ts : List Terminal) (xs : List JoinTree) (rest after : List Terminal) (way : JoinWay) (e : ReadFault) (r : Result Y ReadFault) →
    JoinsLoop room ts xs rest → join_words rest ≡ Some (way, after) → ReadsAs seen (Err e) (join_of way room after) → r ≡ Err e → ReadsAs view r (all_joins_of room ts)
joins_failed view seen room ts xs rest after way faults.NoMemory r loop p h is = rw is tt
joins_failed view seen room ts xs rest after way (faults.Refused f) r loop p h is = rw is (joins_stop_at room loop.k ts xs rest after way f loop.enough loop.same p h)

-- ---- UNION ALL

abbrev union_all : List (List ℕ)
union_all = codes "union" ∷ codes "all" ∷ []

-- The cores xs stand in front of the rest.
pub record UnionsLoop (room : ℕ) (terminals : List Terminal) (xs : List CoreTree) (rest : List Terminal) : Type 0 where
  pub k : ℕ
  pub enough : length rest ≤ k
  pub same : all_unions_of room terminals ≡ after_these xs (unions_of room k rest)

unions_at_start : (room : ℕ) (ts : List Terminal) → all_unions_of room ts ≡ after_these [] (unions_of room (length ts) ts)
unfolding all_unions_of
unions_at_start room ts = after_none (unions_of room (length ts) ts)

pub unions_start : (room : ℕ) (ts : List Terminal) (xs : List CoreTree) → xs ≡ [] → UnionsLoop room ts xs ts
unions_start room ts xs is = subst (λ ys. UnionsLoop room ts ys ts) (sym is) (record { k = length ts; enough = omega arith; same = unions_at_start room ts })

unions_step : (room k : ℕ) (rest after : List Terminal) (x : CoreTree) (more : List Terminal) → behind_words union_all rest ≡ Some after → core_of room after ≡ Ok (x, more) → unions_of room (suc k) rest ≡ (unions_of room k more >>= λ y. Ok (x ∷ y.0, y.1))
unfolding unions_of
unions_step room k rest after x more p h = rw p (rw h refl)

pub unions_shorter : (room : ℕ) (rest after : List Terminal) (x : CoreTree) (more : List Terminal) → behind_words union_all rest ≡ Some after → core_of room after ≡ Ok (x, more) → length more < length rest
unions_shorter room rest after x more p h =
    let f = core_sound room after x more h in
    omega (arith, ap length (words_are union_all rest after p), ap length f.is, length-append f.front more)

unions_next : (room k : ℕ) (ts : List Terminal) (xs : List CoreTree) (rest after : List Terminal) (x : CoreTree) (more : List Terminal) → length rest ≤ k → all_unions_of room ts ≡ after_these xs (unions_of room k rest) →
    behind_words union_all rest ≡ Some after → core_of room after ≡ Ok (x, more) → length more < length rest → UnionsLoop room ts (xs ++ x ∷ []) more
unions_next room zero ts xs rest after x more enough same p h short = absurd (omega (arith, enough, short))
unions_next room (suc k) ts xs rest after x more enough same p h short =
    record { k = k; enough = omega (arith, enough, short); same = same ∙ ap (after_these xs) (unions_step room k rest after x more p h) ∙ one_more xs x (unions_of room k more) }

pub unions_more : {S : Type 0} (room : ℕ) (view : S → CoreTree) (ts : List Terminal) (old new : List S) (s : S) (rest after more : List Terminal) →
    UnionsLoop room ts (map view old) rest → behind_words union_all rest ≡ Some after → core_of room after ≡ Ok (view s, more) → new ≡ old ++ s ∷ [] → UnionsLoop room ts (map view new) more
unions_more room view ts old new s rest after more loop p h is =
    subst (λ z. UnionsLoop room ts z more) (sym (ap (map view) is ∙ map-push view old s))
    (unions_next room loop.k ts (map view old) rest after (view s) more loop.enough loop.same p h (unions_shorter room rest after (view s) more p h))

no_more_unions : (room k : ℕ) (rest : List Terminal) → behind_words union_all rest ≡ None → unions_of room k rest ≡ Ok ([], rest)
unfolding unions_of
no_more_unions room zero rest h = refl
no_more_unions room (suc k) rest h = rw h refl

pub unions_end : (room : ℕ) (ts : List Terminal) (xs : List CoreTree) (rest : List Terminal) → UnionsLoop room ts xs rest → behind_words union_all rest ≡ None → all_unions_of room ts ≡ Ok (xs, rest)
unions_end room ts xs rest loop h = loop.same ∙ ap (after_these xs) (no_more_unions room loop.k rest h) ∙ ap (λ z. Ok (z, rest)) (append-nil xs)

unions_failed_at : (room k : ℕ) (rest after : List Terminal) (f : Refusal) → behind_words union_all rest ≡ Some after → core_of room after ≡ Err f → unions_of room (suc k) rest ≡ Err f
unfolding unions_of
unions_failed_at room k rest after f p h = rw p (rw h refl)

unions_stop_at : (room k : ℕ) (ts : List Terminal) (xs : List CoreTree) (rest after : List Terminal) (f : Refusal) → length rest ≤ k → all_unions_of room ts ≡ after_these xs (unions_of room k rest) → behind_words union_all rest ≡ Some after → core_of room after ≡ Err f → all_unions_of room ts ≡ Err f
unions_stop_at room zero ts xs rest after f enough same p h = absurd (omega (arith, enough, ap length (words_are union_all rest after p)))
unions_stop_at room (suc k) ts xs rest after f enough same p h = same ∙ ap (after_these xs) (unions_failed_at room k rest after f p h)

pub unions_failed : {Y Z : Type 0} (view : Y → List CoreTree × List Terminal) (seen : Z → CoreTree × List Terminal) (room : ℕ) (ts : List Terminal) (xs : List CoreTree) (rest after : List Terminal) (e : ReadFault) (r : Result Y ReadFault) →
    UnionsLoop room ts xs rest → behind_words union_all rest ≡ Some after → ReadsAs seen (Err e) (core_of room after) → r ≡ Err e → ReadsAs view r (all_unions_of room ts)
unions_failed view seen room ts xs rest after faults.NoMemory r loop p h is = rw is tt
unions_failed view seen room ts xs rest after (faults.Refused f) r loop p h is = rw is (unions_stop_at room loop.k ts xs rest after f loop.enough loop.same p h)

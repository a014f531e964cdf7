-- Rows in runs: where each stands, and what a change of one run makes of all rows.
use Rattle.std.proofs.Common.{◌≡◌, ℕ, ◌+◌, ◌<◌, ◌≤◌, Bool, true, false, List, [], ◌∷◌, ◌++◌, length, take, drop, get_or, set, suc, zero, refl, ap, sym, ◌∙◌, arith, length-append, append_assoc, append-nil, subst, length-take, length-drop}
use Rattle.std.specs.List.{insert}
use Rattle.std.proofs.lemmas.List.{get_or_append_left, get_or-append-add, set-append_left, set-append_right, take-append-le, drop-append-le, drop_more, drop_all, take_all, take_more_set, drop-set-lt}
use Rattle.med_value.specs.declared.value.Row.{Row}
use Rattle.list_wrapper.specs.declared.runs.Run.{Run}
use Rattle.list_wrapper.specs.Stay.{stay}
use Rattle.list_wrapper.specs.Runs.{rows_in, run_rows, before, Counted, room_of, room_in}

-- the rows of a run that is there
pub run_is : (runs : List Run) (k : ℕ) (r : Run) → k < length runs → r ≡ get_or runs k r → run_rows runs k ≡ r.rows.items
run_is [] k r lt e = absurd (omega arith)
run_is (x ∷ runs) zero r lt e = ap (λ (z : Run). z.rows.items) (sym e)
run_is (x ∷ runs) (suc k) r lt e = run_is runs k r (omega arith) e

-- how many rows there are before a run, before the next one, and before the end
pub before_all : (runs : List Run) → before runs (length runs) ≡ length (rows_in runs)
before_all [] = refl
before_all (r ∷ runs) = let h = before_all runs in let l = length-append r.rows.items (rows_in runs) in omega arith

pub before_next : (runs : List Run) (k : ℕ) → before runs (suc k) ≡ before runs k + length (run_rows runs k)
before_next [] k = refl
before_next (r ∷ []) zero = omega arith
before_next (r ∷ s ∷ runs) zero = omega arith
before_next (r ∷ runs) (suc k) = let h = before_next runs k in omega arith

pub before_within : (runs : List Run) (k : ℕ) → before runs k ≤ length (rows_in runs)
before_within [] k = omega arith
before_within (r ∷ runs) zero = omega arith
before_within (r ∷ runs) (suc k) = let h = before_within runs k in let l = length-append r.rows.items (rows_in runs) in omega arith

-- the number with which a run is marked
pub end_is : (n : ℕ) (runs : List Run) (k : ℕ) (r : Run) → Counted n runs → k < length runs → r ≡ get_or runs k r → r.end ≡ n + before runs (suc k)
end_is n [] k r c lt e = absurd (omega arith)
end_is n (x ∷ []) zero r c lt e = ap (λ (z : Run). z.end) e ∙ c.0 ∙ omega arith
end_is n (x ∷ y ∷ runs) zero r c lt e = ap (λ (z : Run). z.end) e ∙ c.0 ∙ omega arith
end_is n (x ∷ runs) (suc k) r c lt e = let h = end_is x.end runs k r c.1 (omega arith) e in let first = c.0 in omega arith

-- the row at a place
pub row_is : (runs : List Run) (k i : ℕ) (d : Row) → i < length (run_rows runs k) → get_or (rows_in runs) (before runs k + i) d ≡ get_or (run_rows runs k) i d
row_is [] k i d lt = absurd (omega arith)
row_is (r ∷ runs) zero i d lt = ap (λ (n : ℕ). get_or (r.rows.items ++ rows_in runs) n d) (omega arith) ∙ get_or_append_left r.rows.items (rows_in runs) d i lt
row_is (r ∷ runs) (suc k) i d lt =
    ap (λ (n : ℕ). get_or (r.rows.items ++ rows_in runs) n d) (omega arith)
    ∙ get_or-append-add r.rows.items (rows_in runs) (before runs k + i) d ∙ row_is runs k i d lt

-- another row in its place
pub row_put : (runs : List Run) (k i : ℕ) (row : Row) (r : Run) → i < length (run_rows runs k) → r.rows.items ≡ set (run_rows runs k) i row
    → rows_in (set runs k r) ≡ set (rows_in runs) (before runs k + i) row
row_put [] k i row r lt e = absurd (omega arith)
row_put (x ∷ runs) zero i row r lt e =
    ap (λ (l : List Row). l ++ rows_in runs) e ∙ sym (set-append_left x.rows.items (rows_in runs) i row lt)
    ∙ ap (λ (n : ℕ). set (x.rows.items ++ rows_in runs) n row) (omega arith)
row_put (x ∷ runs) (suc k) i row r lt e =
    ap (λ (l : List Row). x.rows.items ++ l) (row_put runs k i row r lt e ∙ ap (λ (n : ℕ). set (rows_in runs) n row) (omega arith))
    ∙ sym (set-append_right x.rows.items (rows_in runs) (length x.rows.items) (length x.rows.items + before runs k + i) row refl (omega arith))

-- without it
without_left : (xs ys : List Row) (i : ℕ) → i < length xs → (take i xs ++ drop (i + 1) xs) ++ ys ≡ take i (xs ++ ys) ++ drop (i + 1) (xs ++ ys)
without_left xs ys i lt =
    append_assoc (take i xs) (drop (i + 1) xs) ys ∙ ap (λ (l : List Row). take i xs ++ l) (sym (drop-append-le (i + 1) xs ys (omega arith)))
    ∙ ap (λ (l : List Row). l ++ drop (i + 1) (xs ++ ys)) (sym (take-append-le i xs ys (omega arith)))

without_right : (xs ys : List Row) (i : ℕ) → xs ++ (take i ys ++ drop (i + 1) ys) ≡ take (length xs + i) (xs ++ ys) ++ drop (length xs + i + 1) (xs ++ ys)
without_right [] ys i = let same : i ≡ 0 + i = omega arith in ap (λ (n : ℕ). take n ys ++ drop (n + 1) ys) same
without_right (x ∷ xs) ys i =
    let behind : suc (length xs + i + 1) ≡ suc (length xs + i) + 1 = omega arith in
    let place : suc (length xs + i) ≡ suc (length xs) + i = omega arith in
    ap (λ (l : List Row). x ∷ l) (without_right xs ys i)
    ∙ ap (λ (n : ℕ). take (suc (length xs + i)) (x ∷ (xs ++ ys)) ++ drop n (x ∷ (xs ++ ys))) behind
    ∙ ap (λ (n : ℕ). take n (x ∷ (xs ++ ys)) ++ drop (n + 1) (x ∷ (xs ++ ys))) place

pub row_out : (runs : List Run) (k i : ℕ) (r : Run) → i < length (run_rows runs k) → r.rows.items ≡ take i (run_rows runs k) ++ drop (i + 1) (run_rows runs k)
    → rows_in (set runs k r) ≡ take (before runs k + i) (rows_in runs) ++ drop (before runs k + i + 1) (rows_in runs)
row_out [] k i r lt e = absurd (omega arith)
row_out (x ∷ runs) zero i r lt e =
    let same : i ≡ 0 + i = omega arith in
    ap (λ (l : List Row). l ++ rows_in runs) e ∙ without_left x.rows.items (rows_in runs) i lt
    ∙ ap (λ (n : ℕ). take n (x.rows.items ++ rows_in runs) ++ drop (n + 1) (x.rows.items ++ rows_in runs)) same
row_out (x ∷ runs) (suc k) i r lt e =
    let place : length x.rows.items + (before runs k + i) ≡ length x.rows.items + before runs k + i = omega arith in
    ap (λ (l : List Row). x.rows.items ++ l) (row_out runs k i r lt e) ∙ without_right x.rows.items (rows_in runs) (before runs k + i)
    ∙ ap (λ (n : ℕ). take n (x.rows.items ++ rows_in runs) ++ drop (n + 1) (x.rows.items ++ rows_in runs)) place

-- the same rows, where a run has the same
pub same_rows : (runs : List Run) (k : ℕ) (r : Run) → r.rows.items ≡ run_rows runs k → rows_in (set runs k r) ≡ rows_in runs
same_rows [] k r e = refl
same_rows (x ∷ runs) zero r e = ap (λ (l : List Row). l ++ rows_in runs) e
same_rows (x ∷ runs) (suc k) r e = ap (λ (l : List Row). x.rows.items ++ l) (same_rows runs k r e)

-- where an empty run goes
empty_left : (runs : List Run) (k : ℕ) → k < length runs → run_rows runs k ≡ [] → rows_in (take k runs ++ drop (suc k) runs) ≡ rows_in runs
empty_left [] k lt e = absurd (omega arith)
empty_left (x ∷ runs) zero lt e = sym (ap (λ (l : List Row). l ++ rows_in runs) e)
empty_left (x ∷ runs) (suc k) lt e = ap (λ (l : List Row). x.rows.items ++ l) (empty_left runs k (omega arith) e)

pub empty_gone : (runs new : List Run) (k : ℕ) (r : Run) → k < length runs → r ≡ get_or runs k r → r.rows.items ≡ [] → new ≡ take k runs ++ drop (k + 1) runs
    → rows_in new ≡ rows_in runs
empty_gone runs new k r lt e none is =
    let next : k + 1 ≡ suc k = omega arith in
    ap rows_in (is ∙ ap (λ (n : ℕ). take k runs ++ drop n runs) next) ∙ empty_left runs k lt (run_is runs k r lt e ∙ none)

-- where a run is cut in two
rows_cut : (runs : List Run) (k : ℕ) (r s : Run) → k < length runs → run_rows runs k ≡ r.rows.items ++ s.rows.items
    → rows_in (take (suc k) (set runs k r) ++ s ∷ drop (suc k) (set runs k r)) ≡ rows_in runs
rows_cut [] k r s lt e = absurd (omega arith)
rows_cut (x ∷ runs) zero r s lt e = sym (append_assoc r.rows.items s.rows.items (rows_in runs)) ∙ sym (ap (λ (l : List Row). l ++ rows_in runs) e)
rows_cut (x ∷ runs) (suc k) r s lt e = ap (λ (l : List Row). x.rows.items ++ l) (rows_cut runs k r s (omega arith) e)

first_part : (runs : List Run) (k : ℕ) (r s : Run) → k < length runs → run_rows (take (suc k) (set runs k r) ++ s ∷ drop (suc k) (set runs k r)) k ≡ r.rows.items
first_part [] k r s lt = absurd (omega arith)
first_part (x ∷ runs) zero r s lt = refl
first_part (x ∷ runs) (suc k) r s lt = first_part runs k r s (omega arith)

pub cut_rows : (runs new : List Run) (k : ℕ) (x r s : Run) → k < length runs → x ≡ get_or runs k x → x.rows.items ≡ r.rows.items ++ s.rows.items
    → new ≡ insert (set runs k r) (k + 1) s → rows_in new ≡ rows_in runs
cut_rows runs new k x r s lt e parts is =
    let next : k + 1 ≡ suc k = omega arith in
    ap rows_in (is ∙ ap (λ (n : ℕ). insert (set runs k r) n s) next) ∙ rows_cut runs k r s lt (run_is runs k x lt e ∙ parts)

pub cut_first : (runs new : List Run) (k : ℕ) (r s : Run) → k < length runs → new ≡ insert (set runs k r) (k + 1) s → run_rows new k ≡ r.rows.items
cut_first runs new k r s lt is =
    let next : k + 1 ≡ suc k = omega arith in
    ap (λ (l : List Run). run_rows l k) (is ∙ ap (λ (n : ℕ). insert (set runs k r) n s) next) ∙ first_part runs k r s lt

-- rows of runs one behind the other
pub rows_append : (xs ys : List Run) → rows_in (xs ++ ys) ≡ rows_in xs ++ rows_in ys
rows_append [] ys = refl
rows_append (x ∷ xs) ys = ap (λ (l : List Row). x.rows.items ++ l) (rows_append xs ys) ∙ sym (append_assoc x.rows.items (rows_in xs) (rows_in ys))

-- runs are counted: those up to a place and one more, with another run in a place, and with one more behind them
pub count_next : (n : ℕ) (runs : List Run) (k : ℕ) (r : Run) → k < length runs → Counted n (take k runs) → r.end ≡ n + before runs k + length r.rows.items
    → Counted n (take (suc k) (set runs k r))
count_next n [] k r lt c e = absurd (omega arith)
count_next n (x ∷ runs) zero r lt c e = (omega arith, tt)
count_next n (x ∷ runs) (suc k) r lt c e = (c.0, count_next x.end runs k r (omega arith) c.1 (let first = c.0 in omega arith))

pub count_same : (n : ℕ) (runs : List Run) (k : ℕ) (r s : Run) → k < length runs → r ≡ get_or runs k r → s.end ≡ r.end → length s.rows.items ≡ length r.rows.items
    → Counted n runs → Counted n (set runs k s)
count_same n [] k r s lt e same many c = absurd (omega arith)
count_same n (x ∷ runs) zero r s lt e same many c =
    let is : s.end ≡ x.end = same ∙ ap (λ (z : Run). z.end) e in
    let long : length s.rows.items ≡ length x.rows.items = many ∙ ap (λ (z : Run). length z.rows.items) e in
    let first = c.0 in
    (omega arith, rw is c.1)
count_same n (x ∷ runs) (suc k) r s lt e same many c = (c.0, count_same x.end runs k r s (omega arith) e same many c.1)

pub count_push : (n : ℕ) (runs : List Run) (r : Run) → Counted n runs → r.end ≡ n + length (rows_in runs) + length r.rows.items → Counted n (runs ++ r ∷ [])
count_push n [] r c e = (omega arith, tt)
count_push n (x ∷ runs) r c e = (c.0, count_push x.end runs r c.1 (let first = c.0 in let l = length-append x.rows.items (rows_in runs) in omega arith))

pub count_last : (n : ℕ) (runs : List Run) (k : ℕ) (r : Run) → k + 1 ≡ length runs → Counted n runs → r.end ≡ n + before runs k + length r.rows.items → Counted n (set runs k r)
count_last n [] k r last c e = absurd (omega arith)
count_last n (x ∷ []) zero r last c e = (omega arith, tt)
count_last n (x ∷ y ∷ runs) zero r last c e = absurd (omega arith)
count_last n (x ∷ runs) (suc k) r last c e = (c.0, count_last x.end runs k r (omega arith) c.1 (let first = c.0 in omega arith))

-- room is that of the last run
pub room_is : (runs : List Run) (k : ℕ) (r : Run) → k + 1 ≡ length runs → r ≡ get_or runs k r → room_in runs ≡ room_of r
room_is [] k r last e = absurd (omega arith)
room_is (x ∷ []) zero r last e = sym (ap room_of e)
room_is (x ∷ y ∷ runs) zero r last e = absurd (omega arith)
room_is (x ∷ []) (suc k) r last e = absurd (omega arith)
room_is (x ∷ y ∷ runs) (suc k) r last e = room_is (y ∷ runs) k r (omega arith) e

pub room_last : (runs : List Run) (k : ℕ) (r : Run) → k + 1 ≡ length runs → room_in (set runs k r) ≡ room_of r
room_last [] k r last = absurd (omega arith)
room_last (x ∷ []) zero r last = refl
room_last (x ∷ y ∷ runs) zero r last = absurd (omega arith)
room_last (x ∷ []) (suc k) r last = absurd (omega arith)
room_last (x ∷ y ∷ runs) (suc zero) r last = room_last (y ∷ runs) zero r (omega arith)
room_last (x ∷ y ∷ runs) (suc (suc k)) r last = room_last (y ∷ runs) (suc k) r (omega arith)

pub room_push : (runs : List Run) (r : Run) → room_in (runs ++ r ∷ []) ≡ room_of r
room_push [] r = refl
room_push (x ∷ []) r = refl
room_push (x ∷ y ∷ runs) r = room_push (y ∷ runs) r

pub room_same : (runs : List Run) (k : ℕ) (r s : Run) → r ≡ get_or runs k r → k < length runs → room_of s ≡ room_of r → room_in (set runs k s) ≡ room_in runs
room_same [] k r s e lt same = refl
room_same (x ∷ []) zero r s e lt same = same ∙ ap room_of e
room_same (x ∷ y ∷ runs) zero r s e lt same = refl
room_same (x ∷ []) (suc k) r s e lt same = absurd (omega arith)
room_same (x ∷ y ∷ runs) (suc zero) r s e lt same = room_same (y ∷ runs) zero r s e (omega arith) same
room_same (x ∷ y ∷ runs) (suc (suc k)) r s e lt same = room_same (y ∷ runs) (suc k) r s e (omega arith) same

pub some_run : (runs : List Run) → 0 < room_in runs → 0 < length runs
some_run [] lt = absurd (omega arith)
some_run (r ∷ runs) lt = omega arith

some_rows : (runs : List Run) → 0 < length (rows_in runs) → 0 < length runs
some_rows [] lt = absurd (omega arith)
some_rows (r ∷ runs) lt = omega arith

pub rows_some : (runs : List Run) (place : ℕ) → place < length (rows_in runs) → 0 < length runs
rows_some runs place lt = some_rows runs (omega arith)

-- nothing is before the first run
pub before_none : (runs : List Run) → before runs 0 ≡ 0
before_none [] = refl
before_none (r ∷ runs) = refl

-- a run's end, where all are counted from the start
pub end_at : (runs : List Run) (k : ℕ) (r : Run) → Counted 0 runs → k < length runs → r ≡ get_or runs k r → r.end ≡ before runs (k + 1)
end_at runs k r c lt e =
    let h = end_is 0 runs k r c lt e in
    let next : before runs (suc k) ≡ before runs (k + 1) = ap (before runs) (omega arith) in
    omega arith

pub before_more : (runs : List Run) (k : ℕ) → before runs (k + 1) ≡ before runs k + length (run_rows runs k)
before_more runs k = ap (before runs) (omega arith) ∙ before_next runs k

-- counting goes on behind a run
set_before : (runs : List Run) (k : ℕ) (r : Run) → k < length runs → before (set runs k r) (suc k) ≡ before runs k + length r.rows.items
set_before [] k r lt = absurd (omega arith)
set_before (x ∷ []) zero r lt = omega arith
set_before (x ∷ y ∷ runs) zero r lt = omega arith
set_before (x ∷ runs) (suc k) r lt = let h = set_before runs k r (omega arith) in omega arith

pub before_set : (runs : List Run) (k : ℕ) (r : Run) → k < length runs → before (set runs k r) (k + 1) ≡ before runs k + length r.rows.items
before_set runs k r lt = ap (before (set runs k r)) (omega arith) ∙ set_before runs k r lt

pub count_more : (runs : List Run) (k : ℕ) (r : Run) → k < length runs → Counted 0 (take k runs) → r.end ≡ before runs k + length r.rows.items
    → Counted 0 (take (k + 1) (set runs k r))
count_more runs k r lt c e =
    let next : suc k ≡ k + 1 = omega arith in
    subst (λ (n : ℕ). Counted 0 (take n (set runs k r))) next (count_next 0 runs k r lt c (omega arith))

-- a row more in the last run
pub row_more : (runs : List Run) (k : ℕ) (row : Row) (r : Run) → k + 1 ≡ length runs → r.rows.items ≡ run_rows runs k ++ row ∷ [] → rows_in (set runs k r) ≡ rows_in runs ++ row ∷ []
row_more [] k row r last e = absurd (omega arith)
row_more (x ∷ []) zero row r last e = append-nil r.rows.items ∙ e ∙ ap (λ (l : List Row). l ++ row ∷ []) (sym (append-nil x.rows.items))
row_more (x ∷ y ∷ runs) zero row r last e = absurd (omega arith)
row_more (x ∷ runs) (suc k) row r last e =
    ap (λ (l : List Row). x.rows.items ++ l) (row_more runs k row r (omega arith) e) ∙ sym (append_assoc x.rows.items (rows_in runs) (row ∷ []))

-- rows that are taken out run by run
none_behind : (n : ℕ) → drop {A = Bool} n [] ≡ []
none_behind n = drop_all n [] (omega arith)

stay_append : (xs ys : List Row) (gone : List Bool) → stay (xs ++ ys) gone ≡ stay xs gone ++ stay ys (drop (length xs) gone)
stay_append [] ys gone = refl
stay_append (x ∷ xs) ys [] =
    ap (λ (l : List Row). x ∷ l) (stay_append xs ys []) ∙ ap (λ (l : List Bool). x ∷ stay xs [] ++ stay ys l) (none_behind (length xs))
stay_append (x ∷ xs) ys (true ∷ gone) = stay_append xs ys gone
stay_append (x ∷ xs) ys (false ∷ gone) = ap (λ (l : List Row). x ∷ l) (stay_append xs ys gone)

pub stay_next : (runs : List Run) (k : ℕ) (r s : Run) (gone : List Bool) (all : List Row) → k < length runs → r ≡ get_or runs k r → s.rows.items ≡ stay r.rows.items gone
    → rows_in (take k runs) ++ stay (rows_in (drop k runs)) gone ≡ all
    → rows_in (take (k + 1) (set runs k s)) ++ stay (rows_in (drop (k + 1) (set runs k s))) (drop (length r.rows.items) gone) ≡ all
stay_next runs k r s gone all lt e is h =
    let rest : List Row = rows_in (drop (k + 1) runs) in
    let later : List Row = stay rest (drop (length r.rows.items) gone) in
    let here : rows_in (drop k runs) ≡ r.rows.items ++ rest =
    ap rows_in (drop_more runs k r lt ∙ ap (λ (z : Run). z ∷ drop (k + 1) runs) (sym e)) in
    ap (λ (l : List Run). rows_in l ++ stay (rows_in (drop (k + 1) (set runs k s))) (drop (length r.rows.items) gone)) (take_more_set runs k s lt)
    ∙ ap (λ (l : List Run). rows_in (take k runs ++ s ∷ []) ++ stay (rows_in l) (drop (length r.rows.items) gone)) (drop-set-lt (k + 1) runs k s (omega arith))
    ∙ ap (λ (l : List Row). l ++ later) (rows_append (take k runs) (s ∷ []) ∙ ap (λ (l : List Row). rows_in (take k runs) ++ l) (append-nil s.rows.items ∙ is))
    ∙ append_assoc (rows_in (take k runs)) (stay r.rows.items gone) later
    ∙ ap (λ (l : List Row). rows_in (take k runs) ++ l) (sym (stay_append r.rows.items rest gone) ∙ sym (ap (λ (l : List Row). stay l gone) here))
    ∙ h

pub all_stay : (runs : List Run) (k : ℕ) (gone : List Bool) (all : List Row) → length runs ≤ k → rows_in (take k runs) ++ stay (rows_in (drop k runs)) gone ≡ all → rows_in runs ≡ all
all_stay runs k gone all le h =
    sym (append-nil (rows_in runs)) ∙ sym (ap (λ (l : List Run). rows_in l ++ []) (take_all k runs le))
    ∙ sym (ap (λ (l : List Run). rows_in (take k runs) ++ stay (rows_in l) gone) (drop_all k runs le)) ∙ h

-- fewer rows can be counted, too
pub fewer_left : (rows : List Row) (i : ℕ) → length (take i rows ++ drop (i + 1) rows) ≤ length rows
fewer_left rows i =
    let l = length-append (take i rows) (drop (i + 1) rows) in
    let t = length-take i rows in
    let d = length-drop (i + 1) rows in
    omega arith

pub fewer_stay : (rows : List Row) (gone : List Bool) → length (stay rows gone) ≤ length rows
fewer_stay [] gone = omega arith
fewer_stay (r ∷ rows) [] = let h = fewer_stay rows [] in omega arith
fewer_stay (r ∷ rows) (true ∷ gone) = let h = fewer_stay rows gone in omega arith
fewer_stay (r ∷ rows) (false ∷ gone) = let h = fewer_stay rows gone in omega arith

-- how many rows there are all in all, as they are counted
pub total_is : (runs seen : List Run) (many total : ℕ) → seen ≡ runs → many ≡ length runs → total ≡ before seen many → total ≡ length (rows_in runs)
total_is runs seen many total same all is = is ∙ ap (λ (l : List Run). before l many) same ∙ ap (before runs) all ∙ before_all runs

-- Cursors of an engine beside those of a world: the cursor of a name, one more, one fewer, and one that runs on.
use Rattle.std.proofs.Common.{◌≡◌, ℕ, ◌≤◌, ◌||◌, Bool, true, false, not, cond, List, [], ◌∷◌, ◌++◌, Option, Some, None, is_some, Contains, find, filter, slice_get, length, map, refl, ap, sym, ◌∙◌, subst, zero, suc, arith, bytes_eq}
use Rattle.std.specs.List.{IsDistinct, AllByRecursion, list_any}
use Rattle.std.proofs.lemmas.Bool.{false≢true}
use Rattle.std.proofs.lemmas.List.{map-append}
use Rattle.std.proofs.lemmas.Option.{same_Some}
use Rattle.med_value.specs.Datum.{Tuple}
use Rattle.med_syntax.specs.Tree.{Name}
use Rattle.fdw_api.specs.State.{BoxState}
use Rattle.med_exec.specs.declared.running.Run.{Run}
use Rattle.med_world.specs.Open.{Opened, AreNamedApart, has_name, opened_named, without_named, runs_on, with_run}
use Rattle.sql_meaning.specs.Prelude.{World, Cursor, reads_table, is_cursor, hand_out}
use Rattle.med_world.specs.Seats.{CursorAgrees, CursorsAgree}
use Rattle.med_world.proofs.Lists.{same_bytes, bytes_same, other_bytes, bytes_other, each_at}
use Rattle.med_world.proofs.NamedTables.{place_of, at_place, map_place, none_later, distinct_push}
use Rattle.med_world.proofs.Seats.{StandsOn, RestsStay, here_first, here_later, cursor_stays, or_true}

-- ---- the cursor of a name

-- a cursor and the engine's have one name
same_named : (boxes : List (Option BoxState)) (w : World) (name : Name) (o : Opened) (c : Cursor) → CursorAgrees boxes w o c → is_cursor name c ≡ has_name name o
same_named boxes w name o c h = ap (λ (n : Name). bytes_eq n name) h.name

pub as_found : (boxes : List (Option BoxState)) (w : World) (name : Name) (os : List Opened) (cs : List Cursor) → CursorsAgree boxes w os cs → is_some (find (is_cursor name) cs) ≡ is_some (find (has_name name) os)
as_found boxes w name [] [] h = refl
as_found boxes w name [] (c ∷ cs) h = absurd h
as_found boxes w name (o ∷ os) [] h = absurd h
as_found boxes w name (o ∷ os) (c ∷ cs) h =
    ap (λ b. is_some (cond b (Some c) (find (is_cursor name) cs))) (same_named boxes w name o c h.0) ∙ split (has_name name o) (as_found boxes w name os cs h.1)
  where
    split : (b : Bool) → is_some (find (is_cursor name) cs) ≡ is_some (find (has_name name) os) → is_some (cond b (Some c) (find (is_cursor name) cs)) ≡ is_some (cond b (Some o) (find (has_name name) os))
    split true rest = refl
    split false rest = rest

-- what the world has of the engine's cursor of a name
pub record IsFound (boxes : List (Option BoxState)) (w : World) (name : Name) (o : Opened) (cs : List Cursor) : Type 0 where
  pub cursor : Cursor
  pub is : find (is_cursor name) cs ≡ Some cursor
  pub agrees : CursorAgrees boxes w o cursor

pub found : (boxes : List (Option BoxState)) (w : World) (name : Name) (os : List Opened) (cs : List Cursor) (o : Opened) → CursorsAgree boxes w os cs → find (has_name name) os ≡ Some o → IsFound boxes w name o cs
found boxes w name [] [] o h at = absurd cc
found boxes w name [] (c ∷ cs) o h at = absurd h
found boxes w name (x ∷ os) [] o h at = absurd h
found boxes w name (x ∷ os) (c ∷ cs) o h at = split (has_name name x) refl (λ rest. found boxes w name os cs o h.1 rest) at
  where
    named : is_cursor name c ≡ has_name name x
    named = same_named boxes w name x c h.0

    split : (b : Bool) → has_name name x ≡ b → (find (has_name name) os ≡ Some o → IsFound boxes w name o cs) → cond b (Some x) (find (has_name name) os) ≡ Some o → IsFound boxes w name o (c ∷ cs)
    split true is rest e = record {
      cursor = c;
      is = ap (λ b. cond b (Some c) (find (is_cursor name) cs)) (named ∙ is);
      agrees = subst (λ (y : Opened). CursorAgrees boxes w y c) (same_Some x o e) h.0;
    }
    split false is rest e =
        let r = rest e in
        record { cursor = r.cursor; is = ap (λ b. cond b (Some c) (find (is_cursor name) cs)) (named ∙ is) ∙ r.is; agrees = r.agrees }

pub as_many : (boxes : List (Option BoxState)) (w : World) (os : List Opened) (cs : List Cursor) → CursorsAgree boxes w os cs → length cs ≡ length os
as_many boxes w [] [] h = refl
as_many boxes w [] (c ∷ cs) h = absurd h
as_many boxes w (o ∷ os) [] h = absurd h
as_many boxes w (o ∷ os) (c ∷ cs) h = ap suc (as_many boxes w os cs h.1)

-- two cursors of one name are one, and it is the one that is found
pub named_one : (name : Name) (os : List Opened) (o c : Opened) → AreNamedApart os → find (has_name name) os ≡ Some o → Contains os c → has_name name c ≡ true → c ≡ o
unfolding IsDistinct
named_one name [] o c apart at has is = absurd cc
named_one name (x ∷ os) o c apart at has is = split (λ f later. named_one name os o c apart.1 f later is) (has_name name x) refl at (place_of (x ∷ os) c has)
  where
    split : (find (has_name name) os ≡ Some o → Contains os c → c ≡ o) → (b : Bool) → has_name name x ≡ b → cond b (Some x) (find (has_name name) os) ≡ Some o → (k : ℕ) × (slice_get (x ∷ os) k ≡ Some c) → c ≡ o
    split rest b e f (zero, p) = first b e f (same_Some x c p)
      where
        first : (b : Bool) → has_name name x ≡ b → cond b (Some x) (find (has_name name) os) ≡ Some o → x ≡ c → c ≡ o
        first true e f same = sym same ∙ same_Some x o f
        first false e f same = absurd (false≢true (sym e ∙ ap (has_name name) same ∙ is))
    split rest true e f (suc k, p) = absurd (bytes_other x.name c.name (each_at (λ n. bytes_eq x.name n ≡ false) (map (λ (y : Opened). y.name) os) k c.name apart.0 (map_place (λ (y : Opened). y.name) os k c p)) (bytes_same x.name name e ∙ sym (bytes_same c.name name is)))
    split rest false e f (suc k, p) = rest f (at_place os k c p)

-- ---- one more

pub one_more : (boxes : List (Option BoxState)) (w : World) (os : List Opened) (cs : List Cursor) (o : Opened) (c : Cursor) → CursorsAgree boxes w os cs → CursorAgrees boxes w o c → CursorsAgree boxes w (os ++ o ∷ []) (cs ++ c ∷ [])
one_more boxes w [] [] o c h last = (last, tt)
one_more boxes w [] (y ∷ ys) o c h last = absurd h
one_more boxes w (x ∷ xs) [] o c h last = absurd h
one_more boxes w (x ∷ xs) (y ∷ ys) o c h last = (h.0, one_more boxes w xs ys o c h.1 last)

-- it is the one of its name
pub named_last : (name : Name) (os : List Opened) (o : Opened) → o.name ≡ name → opened_named name os ≡ None → opened_named name (os ++ o ∷ []) ≡ Some o
named_last name [] o is none = ap (λ b. cond b (Some o) None) (same_bytes o.name name is)
named_last name (x ∷ os) o is none =
    let n = none_later (has_name name) x os none in
    ap (λ b. cond b (Some x) (find (has_name name) (os ++ o ∷ []))) n.0 ∙ named_last name os o is n.1

nowhere : (name : Name) (os : List Opened) → find (has_name name) os ≡ None → (k : ℕ) → slice_get (map (λ (o : Opened). o.name) os) k ≡ Some name → ⊥
nowhere name [] none k at = cc
nowhere name (o ∷ os) none zero at =
    let n = none_later (has_name name) o os none in
    bytes_other o.name name n.0 (same_Some o.name name at)
nowhere name (o ∷ os) none (suc k) at = nowhere name os (none_later (has_name name) o os none).1 k at

pub more_apart : (os : List Opened) (o : Opened) → opened_named o.name os ≡ None → AreNamedApart os → AreNamedApart (os ++ o ∷ [])
more_apart os o none apart =
    subst (λ names. IsDistinct bytes_eq names) (sym (map-append (λ (x : Opened). x.name) os (o ∷ [])))
    (distinct_push (map (λ (x : Opened). x.name) os) o.name (nowhere o.name os none) apart)

-- ---- one fewer

pub one_fewer : (boxes : List (Option BoxState)) (w : World) (name : Name) (os : List Opened) (cs : List Cursor) → CursorsAgree boxes w os cs
    → CursorsAgree boxes w (without_named name os) (filter (λ c. not (is_cursor name c)) cs)
one_fewer boxes w name [] [] h = tt
one_fewer boxes w name [] (c ∷ cs) h = absurd h
one_fewer boxes w name (o ∷ os) [] h = absurd h
one_fewer boxes w name (o ∷ os) (c ∷ cs) h =
    subst (λ b. CursorsAgree boxes w (without_named name (o ∷ os)) (cond (not b) (c ∷ filter (λ x. not (is_cursor name x)) cs) (filter (λ x. not (is_cursor name x)) cs))) (sym (same_named boxes w name o c h.0))
    (split (has_name name o) (one_fewer boxes w name os cs h.1))
  where
    split : (b : Bool) → CursorsAgree boxes w (without_named name os) (filter (λ x. not (is_cursor name x)) cs)
        → CursorsAgree boxes w (cond (not b) (o ∷ without_named name os) (without_named name os)) (cond (not b) (c ∷ filter (λ x. not (is_cursor name x)) cs) (filter (λ x. not (is_cursor name x)) cs))
    split true rest = rest
    split false rest = (h.0, rest)

-- names that differ from one still do where some cursors are left out
still_other : (P : Name → Type 0) (q : Opened → Bool) (os : List Opened) → AllByRecursion P (map (λ (o : Opened). o.name) os) → AllByRecursion P (map (λ (o : Opened). o.name) (filter q os))
still_other P q [] h = h
still_other P q (o ∷ os) h = split (q o) (still_other P q os h.1)
  where
    split : (b : Bool) → AllByRecursion P (map (λ (x : Opened). x.name) (filter q os)) → AllByRecursion P (map (λ (x : Opened). x.name) (cond b (o ∷ filter q os) (filter q os)))
    split true rest = (h.0, rest)
    split false rest = rest

pub fewer_apart : (q : Opened → Bool) (os : List Opened) → AreNamedApart os → AreNamedApart (filter q os)
unfolding IsDistinct
fewer_apart q [] apart = apart
fewer_apart q (o ∷ os) apart = split (q o) (fewer_apart q os apart.1)
  where
    split : (b : Bool) → AreNamedApart (filter q os) → AreNamedApart (cond b (o ∷ filter q os) (filter q os))
    split true rest = (still_other (λ n. bytes_eq o.name n ≡ false) q os apart.0, rest)
    split false rest = rest

pub fewer_most : (q : Opened → Bool) (os : List Opened) → length (filter q os) ≤ length os
fewer_most q [] = omega arith
fewer_most q (o ∷ os) = split (q o) (fewer_most q os)
  where
    split : (b : Bool) → length (filter q os) ≤ length os → length (cond b (o ∷ filter q os) (filter q os)) ≤ suc (length os)
    split true h = omega arith
    split false h = omega arith

-- ---- one runs on

-- it keeps its name
run_name : (name : Name) (run : Run) (o : Opened) → (runs_on name run o).name ≡ o.name
run_name name run o = split (has_name name o)
  where
    split : (b : Bool) → (cond b (record o { run = run }) o).name ≡ o.name
    split true = refl
    split false = refl

names_run : (name : Name) (run : Run) (os : List Opened) → map (λ (o : Opened). o.name) (with_run name run os) ≡ map (λ (o : Opened). o.name) os
names_run name run [] = refl
names_run name run (o ∷ os) = λ i. run_name name run o i ∷ names_run name run os i

pub run_apart : (name : Name) (run : Run) (os : List Opened) → AreNamedApart os → AreNamedApart (with_run name run os)
run_apart name run os apart = subst (λ names. IsDistinct bytes_eq names) (sym (names_run name run os)) apart

pub run_most : (name : Name) (run : Run) (os : List Opened) → length (with_run name run os) ≡ length os
run_most name run [] = refl
run_most name run (o ∷ os) = ap suc (run_most name run os)

-- a pair of another name stays
abbrev Pair : List (Option BoxState) → World → Name → Run → List Tuple → Opened → Cursor → Type 0
Pair boxes w name run rows o c = CursorAgrees boxes w (runs_on name run o) (hand_out name rows c)

pair_stays : (old new : List (Option BoxState)) (w v : World) (name : Name) (run : Run) (rows : List Tuple) (o : Opened) (c : Cursor) → has_name name o ≡ false → CursorAgrees old w o c → CursorAgrees new v o c → Pair new v name run rows o c
pair_stays old new w v name run rows o c other was h =
    subst (λ b. CursorAgrees new v (runs_on name run o) (cond b (record c { handed = c.handed ++ rows }) c)) (sym (same_named old w name o c was ∙ other))
    (subst (λ b. CursorAgrees new v (cond b (record o { run = run }) o) c) (sym other) h)

pair_turns : (old new : List (Option BoxState)) (w v : World) (name : Name) (run : Run) (rows : List Tuple) (o : Opened) (c : Cursor) → has_name name o ≡ true → CursorAgrees old w o c
    → CursorAgrees new v (record o { run = run }) (record c { handed = c.handed ++ rows }) → Pair new v name run rows o c
pair_turns old new w v name run rows o c is was h =
    subst (λ b. CursorAgrees new v (runs_on name run o) (cond b (record c { handed = c.handed ++ rows }) c)) (sym (same_named old w name o c was ∙ is))
    (subst (λ b. CursorAgrees new v (cond b (record o { run = run }) o) (record c { handed = c.handed ++ rows })) (sym is) h)

-- the runs of cursors of other names
abbrev pub OthersStay : List (Option BoxState) → List (Option BoxState) → Name → List Opened → Type 0
OthersStay old new name os = (o : Opened) → Contains os o → has_name name o ≡ false → RestsStay old new o

-- those of other names
others_stay : (old new : List (Option BoxState)) (w v : World) (name : Name) (run : Run) (rows : List Tuple) (os : List Opened) (cs : List Cursor) → StandsOn w v cs
    → OthersStay old new name os → AllByRecursion (λ n. bytes_eq n name ≡ false) (map (λ (o : Opened). o.name) os) → CursorsAgree old w os cs → CursorsAgree new v (with_run name run os) (map (hand_out name rows) cs)
others_stay old new w v name run rows [] [] on stay apart h = tt
others_stay old new w v name run rows [] (c ∷ cs) on stay apart h = absurd h
others_stay old new w v name run rows (o ∷ os) [] on stay apart h = absurd h
others_stay old new w v name run rows (o ∷ os) (c ∷ cs) on stay apart h = (
  pair_stays old new w v name run rows o c apart.0 h.0 (cursor_stays old new w v o c (λ l e. on l (ap (λ b. b || list_any (reads_table l.table) cs) e)) (stay o (here_first o os) apart.0) h.0),
  others_stay old new w v name run rows os cs (λ l e. on l (or_true (reads_table l.table c) (list_any (reads_table l.table) cs) e)) (λ x has. stay x (here_later o x os has)) apart.1 h.1,
)

-- names that differ from one differ from an equal one
all_turned : (a name : Name) (ns : List Name) → a ≡ name → AllByRecursion (λ n. bytes_eq a n ≡ false) ns → AllByRecursion (λ n. bytes_eq n name ≡ false) ns
all_turned a name [] same h = tt
all_turned a name (n ∷ ns) same h = (other_bytes n name (λ e. bytes_other a n h.0 (same ∙ sym e)), all_turned a name ns same h.1)

-- The cursor of a name runs on, and has handed out rows; its step is given.
pub one_turns : (old new : List (Option BoxState)) (w v : World) (name : Name) (run : Run) (rows : List Tuple) (os : List Opened) (cs : List Cursor) (o : Opened) → StandsOn w v cs → OthersStay old new name os → AreNamedApart os → find (has_name name) os ≡ Some o
    → ((c : Cursor) → CursorAgrees old w o c → CursorAgrees new v (record o { run = run }) (record c { handed = c.handed ++ rows })) → CursorsAgree old w os cs → CursorsAgree new v (with_run name run os) (map (hand_out name rows) cs)
unfolding IsDistinct
one_turns old new w v name run rows [] [] o on stay apart at step h = tt
one_turns old new w v name run rows [] (c ∷ cs) o on stay apart at step h = absurd h
one_turns old new w v name run rows (x ∷ os) [] o on stay apart at step h = absurd h
one_turns old new w v name run rows (x ∷ os) (c ∷ cs) o on stay apart at step h =
    split (has_name name x) refl at (λ rest. one_turns old new w v name run rows os cs o on_rest stay_rest apart.1 rest step h.1)
  where
    on_rest : StandsOn w v cs
    on_rest = λ l e. on l (or_true (reads_table l.table c) (list_any (reads_table l.table) cs) e)

    stay_rest : OthersStay old new name os
    stay_rest y has = stay y (here_later x y os has)

    split : (b : Bool) → has_name name x ≡ b → cond b (Some x) (find (has_name name) os) ≡ Some o → (find (has_name name) os ≡ Some o → CursorsAgree new v (with_run name run os) (map (hand_out name rows) cs))
        → Pair new v name run rows x c × CursorsAgree new v (with_run name run os) (map (hand_out name rows) cs)
    split true is e rest =
        let same : x ≡ o = same_Some x o e in (
          pair_turns old new w v name run rows x c is h.0
              (subst (λ (y : Opened). CursorAgrees new v (record y { run = run }) (record c { handed = c.handed ++ rows })) (sym same) (step c (subst (λ (y : Opened). CursorAgrees old w y c) same h.0))),
          others_stay old new w v name run rows os cs on_rest stay_rest (all_turned x.name name (map (λ (o : Opened). o.name) os) (bytes_same x.name name is) apart.0) h.1,
        )
    split false is e rest = (pair_stays old new w v name run rows x c is h.0 (cursor_stays old new w v x c (λ l e. on l (ap (λ b. b || list_any (reads_table l.table) cs) e)) (stay x (here_first x os) is) h.0), rest e)

-- ---- among cursors of which one goes on with another run

pub named_runs : (name : Name) (r : Run) (cs : List Opened) (at : Opened) → opened_named name cs ≡ Some at → opened_named name (with_run name r cs) ≡ Some (record at { run = r })
named_runs name r [] at e = absurd cc
named_runs name r (c ∷ cs) at e = go (named_runs name r cs at) (has_name name c) refl e
  where
    go : (opened_named name cs ≡ Some at → opened_named name (with_run name r cs) ≡ Some (record at { run = r })) → (b : Bool) → has_name name c ≡ b → cond b (Some c) (opened_named name cs) ≡ Some at
        → opened_named name (cond b (record c { run = r }) c ∷ with_run name r cs) ≡ Some (record at { run = r })
    go rest true has is =
        let same : c ≡ at = cc in
        ap (λ b. cond b (Some (record c { run = r })) (opened_named name (with_run name r cs))) has ∙ ap (λ (x : Opened). Some (record x { run = r })) same
    go rest false has is = ap (λ b. cond b (Some c) (opened_named name (with_run name r cs))) has ∙ rest is

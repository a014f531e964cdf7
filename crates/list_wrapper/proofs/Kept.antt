-- What staged changes make of the rows of a list.
use Rattle.std.proofs.Common.{◌≡◌, ℕ, ◌+◌, ◌-◌, ◌<◌, ◌≤◌, cond, Bool, true, false, if◌then◌else◌, nat_eq, List, [], ◌∷◌, ◌++◌, length, map, flat_map, drop, get_or, suc, refl, ap, sym, ◌∙◌, subst, arith, length-append}
use Rattle.std.specs.List.{count_by, list_any}
use Rattle.std.proofs.lemmas.List.Sums.{sum_by-cons}
use Rattle.med_value.specs.declared.value.Row.{Row}
use Rattle.fdw_api.specs.Prelude.{Held, held, row_after, inserted, rows_after}
use Rattle.list_wrapper.specs.declared.changes.ListChange.{ListChange}
use Rattle.list_wrapper.specs.declared.changes.ListChange.TheVariants.{Insert, Update, Delete}
use Rattle.list_wrapper.specs.Lists.{no_line}
use Rattle.list_wrapper.specs.Scans.{numbered}
use Rattle.list_wrapper.specs.Changes.{change_is, as_held, is_insert, is_delete, is_yes, gone_after, row_changed, fresh_rows}
use Rattle.list_wrapper.specs.Stay.{stay}
use Rattle.list_wrapper.proofs.TakingOut.{stay_none}

-- what changes leave of a row that was gone before them, or was there
abbrev left : ℕ → List ListChange → Bool → Row → List Held
left id cs g r = if gone_after id cs g then [] else as_held (row_changed id cs r) ∷ []

row_is : (id : ℕ) (cs : List ListChange) (g : Bool) (r : Row) → row_after no_line id (map change_is cs) (if g then [] else as_held r ∷ []) ≡ left id cs g r
row_is id [] g r = refl
row_is id (Insert x ∷ cs) g r = row_is id cs g r
row_is id (Update j x ∷ cs) g r = updated (nat_eq j id) (row_is id cs)
  where
    updated : (b : Bool) → ((g : Bool) (r : Row) → row_after no_line id (map change_is cs) (if g then [] else as_held r ∷ []) ≡ left id cs g r)
        → row_after no_line id (map change_is cs) (if b then as_held x ∷ [] else (if g then [] else as_held r ∷ [])) ≡ left id cs (if b then false else g) (if b then x else r)
    updated true h = h false x
    updated false h = h g r
row_is id (Delete j ∷ cs) g r = deleted (nat_eq j id) (row_is id cs)
  where
    deleted : (b : Bool) → ((g : Bool) (r : Row) → row_after no_line id (map change_is cs) (if g then [] else as_held r ∷ []) ≡ left id cs g r)
        → row_after no_line id (map change_is cs) (if b then [] else (if g then [] else as_held r ∷ [])) ≡ left id cs (if b then true else g) r
    deleted true h = h true r
    deleted false h = h g r

-- where no change takes a row out, none is gone
pub none_gone : (cs : List ListChange) → list_any is_delete cs ≡ false → (id : ℕ) → gone_after id cs false ≡ false
none_gone [] e id = refl
none_gone (Insert x ∷ cs) e id = none_gone cs e id
none_gone (Update j x ∷ cs) e id = same (nat_eq j id) (none_gone cs e id)
  where
    same : (b : Bool) → gone_after id cs false ≡ false → gone_after id cs (if b then false else false) ≡ false
    same true h = h
    same false h = h
none_gone (Delete j ∷ cs) e id = absurd cc

yes_more : (g : Bool) (gone : List Bool) → count_by is_yes (g ∷ gone) ≡ cond (is_yes g) 1 0 + count_by is_yes gone
yes_more g gone = sum_by-cons (λ x. cond (is_yes x) 1 0) g gone

pub stay_length : (rows : List Row) (gone : List Bool) → length gone ≤ length rows → length (stay rows gone) + count_by is_yes gone ≡ length rows
stay_length [] [] le = refl
stay_length [] (g ∷ gone) le = absurd (omega arith)
stay_length (r ∷ rows) [] le = let h = stay_length rows [] (omega arith) in let e : suc (length (stay rows [])) + count_by is_yes [] ≡ suc (length rows) = omega arith in e
stay_length (r ∷ rows) (true ∷ gone) le =
    let h = stay_length rows gone (omega arith) in
    let m : count_by is_yes (true ∷ gone) ≡ 1 + count_by is_yes gone = yes_more true gone in
    let e : length (stay rows gone) + count_by is_yes (true ∷ gone) ≡ suc (length rows) = omega arith in e
stay_length (r ∷ rows) (false ∷ gone) le =
    let h = stay_length rows gone (omega arith) in
    let m : count_by is_yes (false ∷ gone) ≡ 0 + count_by is_yes gone = yes_more false gone in
    let e : suc (length (stay rows gone)) + count_by is_yes (false ∷ gone) ≡ suc (length rows) = omega arith in e

pub fresh_count : (cs : List ListChange) → length (fresh_rows cs) ≡ count_by is_insert cs
fresh_count [] = refl
fresh_count (Insert x ∷ cs) =
    let h = fresh_count cs in
    let m : count_by is_insert (Insert x ∷ cs) ≡ 1 + count_by is_insert cs = sum_by-cons (λ c. cond (is_insert c) 1 0) (Insert x) cs in
    let e : suc (length (fresh_rows cs)) ≡ count_by is_insert (Insert x ∷ cs) = omega arith in e
fresh_count (Update j x ∷ cs) = fresh_count cs
fresh_count (Delete j ∷ cs) = fresh_count cs

fresh_is : (cs : List ListChange) → map as_held (fresh_rows cs) ≡ flat_map (inserted no_line) (map change_is cs)
fresh_is [] = refl
fresh_is (Insert x ∷ cs) = ap (λ (l : List Held). as_held x ∷ l) (fresh_is cs)
fresh_is (Update j x ∷ cs) = fresh_is cs
fresh_is (Delete j ∷ cs) = fresh_is cs

held_length : (rows : List Row) → length (map as_held rows) ≡ length rows
held_length [] = refl
held_length (r ∷ rows) = ap (λ (n : ℕ). suc n) (held_length rows)

-- the marks are of these changes, and the rows are as these changes leave them, both from an id on
abbrev Marks : ℕ → List Row → List Bool → List ListChange → Type 0
Marks n rows gone cs = (i : ℕ) → i < length rows → get_or gone i false ≡ gone_after (n + i) cs false

abbrev Changes : ℕ → List Row → List Row → List ListChange → Type 0
Changes n rows now cs = (i : ℕ) (d : Row) → i < length rows → get_or now i d ≡ row_changed (n + i) cs (get_or rows i d)

-- of each old row what the changes leave, without the new rows
abbrev old_left : ℕ → List Row → List ListChange → List Held
old_left n rows cs = flat_map (λ r. row_after no_line r.id (map change_is cs) (held r ∷ [])) (numbered n rows)

marks_on : (n : ℕ) (r : Row) (rows : List Row) (g : Bool) (gone : List Bool) (cs : List ListChange) → Marks n (r ∷ rows) (g ∷ gone) cs → Marks (n + 1) rows gone cs
marks_on n r rows g gone cs m i lt = m (suc i) (omega arith) ∙ ap (λ (k : ℕ). gone_after k cs false) (omega arith)

none_on : (n : ℕ) (r : Row) (rows : List Row) (cs : List ListChange) → Marks n (r ∷ rows) [] cs → Marks (n + 1) rows [] cs
none_on n r rows cs m i lt = m (suc i) (omega arith) ∙ ap (λ (k : ℕ). gone_after k cs false) (omega arith)

changes_on : (n : ℕ) (r x : Row) (rows now : List Row) (cs : List ListChange) → Changes n (r ∷ rows) (x ∷ now) cs → Changes (n + 1) rows now cs
changes_on n r x rows now cs c i d lt = c (suc i) d (omega arith) ∙ ap (λ (k : ℕ). row_changed k cs (get_or rows i d)) (omega arith)

-- the first row as the changes leave it
first_left : (n : ℕ) (r x : Row) (g : Bool) (cs : List ListChange) → g ≡ gone_after (n + 0) cs false → x ≡ row_changed (n + 0) cs r
    → row_after no_line n (map change_is cs) (as_held r ∷ []) ≡ (if g then [] else as_held x ∷ [])
first_left n r x g cs eg ex =
    let zero_more : n + 0 ≡ n = omega arith in
    row_is n cs false r ∙ rw (eg, ex, zero_more) refl

stay_from : (n : ℕ) (rows now : List Row) (gone : List Bool) (cs : List ListChange) → length gone ≤ length rows → length rows ≤ length now
    → Marks n rows gone cs → Changes n rows now cs → map as_held (stay now gone) ≡ old_left n rows cs ++ map as_held (drop (length rows) now)
stay_from n [] now [] cs lg ln m c = ap (map as_held) (stay_none now)
stay_from n [] now (g ∷ gone) cs lg ln m c = absurd (omega arith)
stay_from n (r ∷ rows) [] gone cs lg ln m c = absurd (omega arith)
stay_from n (r ∷ rows) (x ∷ now) [] cs lg ln m c =
    let h = stay_from (n + 1) rows now [] cs (omega arith) (omega arith) (none_on n r rows cs m) (changes_on n r x rows now cs c) in
    let f = first_left n r x false cs (m 0 (omega arith)) (c 0 r (omega arith)) in
    ap (λ (l : List Held). as_held x ∷ l) h ∙ ap (λ (l : List Held). (l ++ old_left (n + 1) rows cs) ++ map as_held (drop (length rows) now)) (sym f)
stay_from n (r ∷ rows) (x ∷ now) (true ∷ gone) cs lg ln m c =
    let h = stay_from (n + 1) rows now gone cs (omega arith) (omega arith) (marks_on n r rows true gone cs m) (changes_on n r x rows now cs c) in
    let f = first_left n r x true cs (m 0 (omega arith)) (c 0 r (omega arith)) in
    h ∙ ap (λ (l : List Held). (l ++ old_left (n + 1) rows cs) ++ map as_held (drop (length rows) now)) (sym f)
stay_from n (r ∷ rows) (x ∷ now) (false ∷ gone) cs lg ln m c =
    let h = stay_from (n + 1) rows now gone cs (omega arith) (omega arith) (marks_on n r rows false gone cs m) (changes_on n r x rows now cs c) in
    let f = first_left n r x false cs (m 0 (omega arith)) (c 0 r (omega arith)) in
    ap (λ (l : List Held). as_held x ∷ l) h ∙ ap (λ (l : List Held). (l ++ old_left (n + 1) rows cs) ++ map as_held (drop (length rows) now)) (sym f)

-- the rows that stay, once changed rows are in their places and new ones behind all, are the rows after all changes
pub rows_stay : (rows now : List Row) (gone : List Bool) (cs : List ListChange) → length gone ≤ length rows → length rows ≤ length now
    → ((i : ℕ) → i < length rows → get_or gone i false ≡ gone_after i cs false)
    → ((i : ℕ) (d : Row) → i < length rows → get_or now i d ≡ row_changed i cs (get_or rows i d))
    → drop (length rows) now ≡ fresh_rows cs → map as_held (stay now gone) ≡ rows_after no_line (numbered 0 rows) (map change_is cs)
rows_stay rows now gone cs lg ln m c f =
    stay_from 0 rows now gone cs lg ln (λ i lt. m i lt ∙ ap (λ (k : ℕ). gone_after k cs false) (omega arith)) (λ i d lt. c i d lt ∙ ap (λ (k : ℕ). row_changed k cs (get_or rows i d)) (omega arith))
    ∙ ap (λ (l : List Row). old_left 0 rows cs ++ map as_held l) f ∙ ap (λ (l : List Held). old_left 0 rows cs ++ l) (fresh_is cs)

old_length : (n : ℕ) (rows : List Row) (gone : List Bool) (cs : List ListChange) → Marks n rows gone cs → length (old_left n rows cs) ≡ length (stay rows gone)
old_length n [] gone cs m = refl
old_length n (r ∷ rows) [] cs m =
    let h = old_length (n + 1) rows [] cs (none_on n r rows cs m) in
    ap (λ (l : List Held). length (l ++ old_left (n + 1) rows cs)) (first_left n r (row_changed (n + 0) cs r) false cs (m 0 (omega arith)) refl) ∙ ap (λ (k : ℕ). suc k) h
old_length n (r ∷ rows) (true ∷ gone) cs m =
    let h = old_length (n + 1) rows gone cs (marks_on n r rows true gone cs m) in
    ap (λ (l : List Held). length (l ++ old_left (n + 1) rows cs)) (first_left n r (row_changed (n + 0) cs r) true cs (m 0 (omega arith)) refl) ∙ h
old_length n (r ∷ rows) (false ∷ gone) cs m =
    let h = old_length (n + 1) rows gone cs (marks_on n r rows false gone cs m) in
    ap (λ (l : List Held). length (l ++ old_left (n + 1) rows cs)) (first_left n r (row_changed (n + 0) cs r) false cs (m 0 (omega arith)) refl) ∙ ap (λ (k : ℕ). suc k) h

-- how many rows there are after all changes
pub after_length : (rows : List Row) (gone : List Bool) (cs : List ListChange) → length gone ≤ length rows
    → ((i : ℕ) → i < length rows → get_or gone i false ≡ gone_after i cs false)
    → length (rows_after no_line (numbered 0 rows) (map change_is cs)) ≡ (length rows - count_by is_yes gone) + count_by is_insert cs
after_length rows gone cs lg m =
    let o = old_length 0 rows gone cs (λ i lt. m i lt ∙ ap (λ (k : ℕ). gone_after k cs false) (omega arith)) in
    let s = stay_length rows gone lg in
    let f = fresh_count cs in
    let i : length (flat_map (inserted no_line) (map change_is cs)) ≡ length (fresh_rows cs) = sym (ap length (fresh_is cs)) ∙ held_length (fresh_rows cs) in
    length-append (old_left 0 rows cs) (flat_map (inserted no_line) (map change_is cs)) ∙ omega arith

-- rows that stay are no more than the rows after all changes
pub same_length : (xs : List Row) (ws : List Held) → map as_held xs ≡ ws → length xs ≡ length ws
same_length xs ws e = sym (held_length xs) ∙ ap length e

-- changes that are made step by step leave the rows after all changes
pub all_applied : (rows mid now last : List Row) (gone marks : List Bool) (cs seen : List ListChange) → mid ≡ rows → marks ≡ gone → seen ≡ cs → length gone ≤ length rows
    → ((i : ℕ) → i < length rows → get_or gone i false ≡ gone_after i seen false)
    → ((i : ℕ) (d : Row) → i < length mid → get_or now i d ≡ row_changed i cs (get_or mid i d))
    → drop (length mid) now ≡ fresh_rows cs → length mid ≤ length now → last ≡ stay now marks → map as_held last ≡ rows_after no_line (numbered 0 rows) (map change_is cs)
all_applied rows mid now last gone marks cs seen em ek es lg m c f ln l =
    ap (map as_held) (l ∙ ap (stay now) ek)
    ∙ rows_stay rows now gone cs lg (subst (λ (l : List Row). length l ≤ length now) em ln) (λ i lt. m i lt ∙ ap (λ (l : List ListChange). gone_after i l false) es)
    (λ i d lt. c i d (subst (λ (l : List Row). i < length l) (sym em) lt) ∙ ap (λ (l : List Row). row_changed i cs (get_or l i d)) em) (sym (ap (λ (l : List Row). drop (length l) now) em) ∙ f)

-- how many rows that will be, as it is counted
pub counted : (rows : List Row) (gone marks : List Bool) (cs seen told : List ListChange) (taken fresh : ℕ) → marks ≡ gone → seen ≡ cs → told ≡ cs → length gone ≤ length rows
    → ((i : ℕ) → i < length rows → get_or gone i false ≡ gone_after i seen false) → taken ≡ count_by is_yes marks → fresh ≡ count_by is_insert told
    → length (rows_after no_line (numbered 0 rows) (map change_is cs)) ≡ (length rows - taken) + fresh
counted rows gone marks cs seen told taken fresh ek es et lg m eg ef =
    after_length rows gone cs lg (λ i lt. m i lt ∙ ap (λ (l : List ListChange). gone_after i l false) es)
    ∙ ap (λ (n : ℕ). (length rows - n) + count_by is_insert cs) (sym (eg ∙ ap (count_by is_yes) ek)) ∙ ap (λ (n : ℕ). (length rows - taken) + n) (sym (ef ∙ ap (count_by is_insert) et))

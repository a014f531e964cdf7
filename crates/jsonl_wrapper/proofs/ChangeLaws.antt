-- What is set for places, and what it leaves of the lines that stand there.
use Rattle.std.proofs.Common.{◌≡◌, ℕ, ◌+◌, ◌-◌, ◌<◌, ◌≤◌, Bool, true, false, cond, List, [], ◌∷◌, ◌++◌, length, map, take, drop, get_or, replicate, nat_lt, slice_set, String, Global, string_bytes, Option, Some, None, suc, zero, refl, ap, sym, ◌∙◌, arith, rules}
use Rattle.std.specs.List.{range_with_len, slice_range, AllByRecursion}
use Rattle.std.specs.List.Sorted.{IsStrictlySortedBy}
use Rattle.std.specs.Ordering.{nat_cmp, is_eq}
use Rattle.std.specs.Map.{lookup, keys_of}
use Rattle.std.specs.BTreeMap.{BTreeMap, is_at, get, Updates}
use Rattle.std.proofs.lemmas.List.{append_assoc, length-drop, take_all, drop_more, drop-drop}
use Rattle.std.proofs.lemmas.Cmp.{ranked}
use Rattle.std.specs.declared.cmp.Ordering.TheVariants.{Less}
use Rattle.std.proofs.lemmas.Bool.{lt-ltb, le-ltb}
use Rattle.wrapper_parts.specs.declared.fates.Fate.{Fate}
use Rattle.wrapper_parts.specs.declared.fates.Fate.TheVariants.{Keep}
use Rattle.wrapper_parts.specs.Weaving.{outcome}
use Rattle.wrapper_parts.proofs.Weaves.{left_on, left_delete}
use Rattle.fdw_api.specs.Kinds.{Held, Change, Deletes}
use Rattle.jsonl_wrapper.specs.Contents.{row_at, json_line}
use Rattle.jsonl_wrapper.specs.Tables.{readers_in, lines_in}
use Rattle.jsonl_wrapper.specs.declared.table.JsonTable.{JsonTable}
use Rattle.jsonl_wrapper.specs.Changes.{left_by, rows_left, fate_is, fates_of, set_lines}

-- what is set for places, in their order
abbrev Entries : Type 0
Entries = List (ℕ × Option (String Global))

abbrev fate_in : Entries → ℕ → Fate (String Global)
fate_in es at = fate_is (lookup (is_at (nat_cmp at)) es)

-- what is left of lines of which the first has a place
abbrev pub left_from : Entries → ℕ → List (List ℕ) → List (List ℕ)
left_from es at lines = left_by (map (fate_in es) (range_with_len at (length lines))) lines

-- each place from here on
abbrev pub Behind : ℕ → Entries → Type 0
Behind at es = AllByRecursion (λ k. at ≤ k) (keys_of es)

differs : (p k : ℕ) → p < k → is_eq (nat_cmp p k) ≡ false
differs p k lt = rw (lt-ltb p k lt) refl

same_as : (k : ℕ) → is_eq (nat_cmp k k) ≡ true
same_as k = let a : nat_lt k k ≡ false = le-ltb k k (omega arith) in search rules

passed : (p k : ℕ) → k < p → is_eq (nat_cmp p k) ≡ false
passed p k lt = let a : nat_lt p k ≡ false = le-ltb p k (omega arith) in search rules

-- where nothing is set, a line stays
unset : (p : ℕ) (es : Entries) → Behind (p + 1) es → fate_in es p ≡ Keep
unset p [] all = refl
unset p (e ∷ es) all = rw (differs p e.0 (let le = all.0 in omega arith)) (unset p es all.1)

closer : (m n : ℕ) (es : Entries) → n ≤ m → Behind m es → Behind n es
closer m n [] le all = tt
closer m n (e ∷ es) le all = ((let lt = all.0 in omega arith), closer m n es le all.1)

-- so many lines stay
stays : (es : Entries) (at k : ℕ) (lines : List (List ℕ)) → Behind (at + k) es → k ≤ length lines
    → left_from es at lines ≡ take k lines ++ left_from es (at + k) (drop k lines)
stays es at zero lines all le = ap (λ (n : ℕ). left_from es n lines) (omega arith)
stays es at (suc k) [] all le = absurd (omega arith)
stays es at (suc k) (l ∷ ls) all le =
    let next : at + 1 + k ≡ at + suc k = omega arith in
    let here : fate_in es at ≡ Keep = unset at es (closer (at + suc k) (at + 1) es (omega arith) all) in
    ap (λ (f : Fate (String Global)). outcome string_bytes l f ++ left_from es (at + 1) ls) here
    ∙ ap (λ (rest : List (List ℕ)). l ∷ rest) (stays es (at + 1) k ls (closer (at + suc k) (at + 1 + k) es (omega arith) all) (omega arith)
    ∙ ap (λ (n : ℕ). take k ls ++ left_from es n (drop k ls)) next)

all_stay : (es : Entries) (at : ℕ) (lines : List (List ℕ)) → Behind (at + length lines) es → left_from es at lines ≡ lines
all_stay es at [] all = refl
all_stay es at (l ∷ ls) all =
    let here : fate_in es at ≡ Keep = unset at es (closer (at + length (l ∷ ls)) (at + 1) es (omega arith) all) in
    ap (λ (f : Fate (String Global)). outcome string_bytes l f ++ left_from es (at + 1) ls) here
    ∙ ap (λ (rest : List (List ℕ)). l ∷ rest) (all_stay es (at + 1) ls (closer (at + length (l ∷ ls)) (at + 1 + length ls) es (omega arith) all))

-- a place that is passed is asked no more
forgets : (e : ℕ × Option (String Global)) (es : Entries) (at : ℕ) (lines : List (List ℕ)) → e.0 < at → left_from (e ∷ es) at lines ≡ left_from es at lines
forgets e es at [] lt = refl
forgets e es at (l ∷ ls) lt =
    let here : fate_in (e ∷ es) at ≡ fate_in es at = rw (passed at e.0 lt) refl in
    ap (λ (f : Fate (String Global)). outcome string_bytes l f ++ left_from (e ∷ es) (at + 1) ls) here
    ∙ ap (λ (rest : List (List ℕ)). outcome string_bytes l (fate_in es at) ++ rest) (forgets e es (at + 1) ls (omega arith))

all_behind : (k : ℕ) (es : Entries) → AllByRecursion (λ q. nat_cmp k q ≡ Less) (keys_of es) → Behind (k + 1) es
all_behind k [] all = tt
all_behind k (e ∷ es) all = (less k e.0 all.0, all_behind k es all.1)
  where
    less : (k q : ℕ) → nat_cmp k q ≡ Less → k + 1 ≤ q
    less k q e = let lt : k < q = ranked k q Less (sym e) in omega arith

set_outcome : (l : List ℕ) (o : Option (String Global)) → outcome string_bytes l (fate_is (Some o)) ≡ set_lines o
set_outcome l None = refl
set_outcome l (Some line) = refl

-- the lines before the next place that is set stay, and then comes what is set for it
pub set_next : (k : ℕ) (o : Option (String Global)) (es : Entries) (at : ℕ) (lines : List (List ℕ)) → Behind at ((k, o) ∷ es)
    → IsStrictlySortedBy nat_cmp (keys_of ((k, o) ∷ es)) → k < length lines
    → (left_from ((k, o) ∷ es) at (drop at lines) ≡ slice_range lines at k ++ (set_lines o ++ left_from es (k + 1) (drop (k + 1) lines)))
    × Behind (k + 1) es × IsStrictlySortedBy nat_cmp (keys_of es)
unfolding IsStrictlySortedBy
set_next k o es at lines all sorted lt =
    let all_es : Entries = (k, o) ∷ es in
    let n = k - at in
    let le : at ≤ k = all.0 in
    let there : at + n ≡ k = omega arith in
    let others : Behind (k + 1) es = all_behind k es sorted.0 in
    let behind : Behind (at + n) all_es = (omega arith, closer (k + 1) (at + n) es (omega arith) others) in
    let long = length-drop at lines in
    let rest : drop n (drop at lines) ≡ drop k lines = drop-drop n at lines ∙ ap (λ (m : ℕ). drop m lines) there in
    let l = get_or lines k [] in
    let more = drop (k + 1) lines in
    let cut : drop k lines ≡ l ∷ more = drop_more lines k [] lt in
    let here : fate_in all_es k ≡ fate_is (Some o) = rw (same_as k) refl in (
      stays all_es at n (drop at lines) behind (omega arith)
          ∙ ap (λ (ls : List (List ℕ)). take n (drop at lines) ++ left_from all_es (at + n) ls) (rest ∙ cut)
          ∙ ap (λ (m : ℕ). take n (drop at lines) ++ left_from all_es m (l ∷ more)) there
          ∙ ap (λ (f : Fate (String Global)). take n (drop at lines) ++ (outcome string_bytes l f ++ left_from all_es (k + 1) more)) here
          ∙ ap (λ (ls : List (List ℕ)). take n (drop at lines) ++ (ls ++ left_from all_es (k + 1) more)) (set_outcome l o)
          ∙ ap (λ (ls : List (List ℕ)). take n (drop at lines) ++ (set_lines o ++ ls)) (forgets (k, o) es (k + 1) more (omega arith)),
      others,
      sorted.1,
    )

-- the lines so far, with those and what is set
pub put_on : (done run new left rest all : List (List ℕ)) → done ++ left ≡ all → left ≡ run ++ (new ++ rest) → (done ++ run ++ new) ++ rest ≡ all
put_on done run new left rest all i e =
    append_assoc (done ++ run) new rest ∙ append_assoc done run (new ++ rest) ∙ ap (λ (ls : List (List ℕ)). done ++ ls) (sym e) ∙ i

-- what is set for a place behind the last line leaves all lines
pub set_past : (k : ℕ) (o : Option (String Global)) (es : Entries) (at : ℕ) (lines : List (List ℕ)) → Behind at ((k, o) ∷ es)
    → IsStrictlySortedBy nat_cmp (keys_of ((k, o) ∷ es)) → length lines ≤ k → at ≤ length lines
    → (left_from ((k, o) ∷ es) at (drop at lines) ≡ left_from es at (drop at lines)) × Behind at es × IsStrictlySortedBy nat_cmp (keys_of es)
unfolding IsStrictlySortedBy
set_past k o es at lines all sorted le within =
    let long = length-drop at lines in
    let others : Behind (k + 1) es = all_behind k es sorted.0 in
    let none : Behind (at + length (drop at lines)) es = closer (k + 1) (at + length (drop at lines)) es (omega arith) others in (
      all_stay ((k, o) ∷ es) at (drop at lines) (omega arith, none) ∙ sym (all_stay es at (drop at lines) none),
      closer (k + 1) at es (omega arith) others,
      sorted.1,
    )

-- where nothing more is set, the other lines stay
pub set_end : (es : Entries) (at : ℕ) (lines : List (List ℕ)) → es ≡ [] → left_from es at (drop at lines) ≡ slice_range lines at (length lines)
set_end es at lines none =
    let long = length-drop at lines in
    ap (λ (fs : Entries). left_from fs at (drop at lines)) none ∙ all_stay [] at (drop at lines) tt
    ∙ sym (take_all (length lines - at) (drop at lines) (omega arith))

pub all_from_zero : (es : Entries) → Behind 0 es
all_from_zero [] = tt
all_from_zero (e ∷ es) = (omega arith, all_from_zero es)

-- fates, as they are set
pub fates_at_first : (changed : BTreeMap ℕ (Option (String Global))) (n : ℕ) → changed.entries ≡ [] → fates_of changed n ≡ replicate n Keep
fates_at_first changed n none = ap (λ (es : Entries). map (fate_in es) (range_with_len 0 n)) none ∙ go 0 n
  where
    go : (at n : ℕ) → map (fate_in []) (range_with_len at n) ≡ replicate n Keep
    go at zero = refl
    go at (suc n) = ap (λ (fs : List (Fate (String Global))). Keep ∷ fs) (go (at + 1) n)

same_behind : (f g : ℕ → Fate (String Global)) (x : Fate (String Global)) (k : ℕ) → ((q : ℕ) → g q ≡ cond (is_eq (nat_cmp k q)) x (f q))
    → (at n : ℕ) → k < at → map g (range_with_len at n) ≡ map f (range_with_len at n)
same_behind f g x k is at zero lt = refl
same_behind f g x k is at (suc n) lt =
    let here : g at ≡ f at = is at ∙ rw (differs k at lt) refl in
    ap (λ (y : Fate (String Global)). y ∷ map g (range_with_len (at + 1) n)) here
    ∙ ap (λ (ys : List (Fate (String Global))). f at ∷ ys) (same_behind f g x k is (at + 1) n (omega arith))

set_there : (f g : ℕ → Fate (String Global)) (x : Fate (String Global)) (k : ℕ) → ((q : ℕ) → g q ≡ cond (is_eq (nat_cmp k q)) x (f q))
    → (at n j : ℕ) → k ≡ at + j → map g (range_with_len at n) ≡ slice_set (map f (range_with_len at n)) j x
set_there f g x k is at zero j e = refl
set_there f g x k is at (suc n) zero e =
    let same : at ≡ k = omega arith in
    let here : g at ≡ x = is at ∙ ap (λ (q : ℕ). cond (is_eq (nat_cmp k q)) x (f at)) same ∙ rw (same_as k) refl in
    ap (λ (y : Fate (String Global)). y ∷ map g (range_with_len (at + 1) n)) here
    ∙ ap (λ (ys : List (Fate (String Global))). x ∷ ys) (same_behind f g x k is (at + 1) n (omega arith))
set_there f g x k is at (suc n) (suc j) e =
    let here : g at ≡ f at = is at ∙ rw (passed k at (omega arith)) refl in
    ap (λ (y : Fate (String Global)). y ∷ map g (range_with_len (at + 1) n)) here
    ∙ ap (λ (ys : List (Fate (String Global))). f at ∷ ys) (set_there f g x k is (at + 1) n j (omega arith))

pub fates_set : (old new : BTreeMap ℕ (Option (String Global))) (k n : ℕ) (o : Option (String Global)) → Updates nat_cmp old new k (Some o)
    → fates_of new n ≡ slice_set (fates_of old n) k (fate_is (Some o))
fates_set old new k n o up =
    set_there (fate_in old.entries) (fate_in new.entries) (fate_is (Some o)) k (λ q. ap fate_is (up.0 q) ∙ pick (is_eq (nat_cmp k q)) (get nat_cmp old q)) 0 n k (omega arith)
  where
    pick : (b : Bool) (was : Option (Option (String Global))) → fate_is (cond b (Some o) was) ≡ cond b (fate_is (Some o)) (fate_is was)
    pick true was = refl
    pick false was = refl

-- the loop over changes goes on behind a line that is deleted
pub deletes_on : (t : JsonTable) (old new : BTreeMap ℕ (Option (String Global))) (id : ℕ) (cs ds : List Change) (all : List Held)
    → rows_left (readers_in t) (lines_in t) (fates_of old (length t.lines.items)) cs ≡ all → cs ≡ Deletes id ∷ ds → Updates nat_cmp old new id (Some None)
    → rows_left (readers_in t) (lines_in t) (fates_of new (length t.lines.items)) ds ≡ all
deletes_on t old new id cs ds all i ce up =
    let readers = readers_in t in
    let write = json_line readers in
    let read = row_at readers in
    let n = length t.lines.items in
    let set : rows_left readers (lines_in t) (fates_of old n) (Deletes id ∷ ds) ≡ rows_left readers (lines_in t) (fates_of new n) ds =
    left_delete write read string_bytes id (lines_in t) (fates_of old n) ds
    ∙ ap (λ (fs : List (Fate (String Global))). rows_left readers (lines_in t) fs ds) (sym (fates_set old new id n None up)) in
    left_on write read string_bytes (lines_in t) (fates_of old n) (fates_of new n) (Deletes id) cs ds all i ce set

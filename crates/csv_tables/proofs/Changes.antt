-- What is set for places, and what it leaves of the records that stand there.
use Rattle.std.proofs.Common.{◌≡◌, ℕ, ◌+◌, ◌-◌, ◌<◌, ◌≤◌, Bool, true, false, cond, List, [], ◌∷◌, ◌++◌, length, map, take, drop, get_or, replicate, nat_lt, slice_set, Option, Some, None, suc, zero, refl, ap, sym, ◌∙◌, arith, rules}
use Rattle.std.specs.List.{range_with_len, AllByRecursion}
use Rattle.std.specs.List.Sorted.{IsStrictlySortedBy}
use Rattle.std.specs.Ordering.{nat_cmp, is_eq}
use Rattle.std.specs.Map.{lookup, keys_of}
use Rattle.std.specs.BTreeMap.{BTreeMap, is_at, get, Updates}
use Rattle.std.proofs.lemmas.List.{append_assoc, length-drop, take_all, drop_more, drop-drop}
use Rattle.std.proofs.lemmas.Cmp.{ranked}
use Rattle.std.specs.declared.cmp.Ordering.TheVariants.{Less}
use Rattle.std.proofs.lemmas.Bool.{lt-ltb, le-ltb}
use Rattle.std.proofs.lemmas.Bool.Decides.{nat_tests}
use Rattle.csv.specs.Records.{fields_of}
use Rattle.csv.specs.declared.record.ByteRecord.{ByteRecord}
use Rattle.wrapper_parts.specs.declared.fates.Fate.{Fate}
use Rattle.wrapper_parts.specs.declared.fates.Fate.TheVariants.{Keep}
use Rattle.wrapper_parts.specs.Weaving.{outcome}
use Rattle.csv_tables.specs.CsvRecords.{Record}
use Rattle.csv_tables.specs.Rewriting.{left_by, fate_is, fates_of, is_wide}

-- what is set for places, in their order
abbrev pub Entries : Type 0
Entries = List (ℕ × Option ByteRecord)

abbrev pub fate_in : Entries → ℕ → Fate ByteRecord
fate_in es at = fate_is (lookup (is_at (nat_cmp at)) es)

-- what is left of records of which the first has a place
abbrev pub left_from : Entries → ℕ → List Record → List Record
left_from es at records = left_by (map (fate_in es) (range_with_len at (length records))) records

-- each place from here on
abbrev pub Behind : ℕ → Entries → Type 0
Behind at es = AllByRecursion (λ k. at ≤ k) (keys_of es)

differs : (p k : ℕ) → p < k → is_eq (nat_cmp p k) ≡ false
differs p k lt = rw (lt-ltb p k lt) refl

same_as : (k : ℕ) → is_eq (nat_cmp k k) ≡ true
same_as k = let a : nat_lt k k ≡ false = le-ltb k k (omega arith) in search rules

passed : (p k : ℕ) → k < p → is_eq (nat_cmp p k) ≡ false
passed p k lt = let a : nat_lt p k ≡ false = le-ltb p k (omega arith) in search rules

-- where nothing is set, a record stays
unset : (p : ℕ) (es : Entries) → Behind (p + 1) es → fate_in es p ≡ Keep
unset p [] all = refl
unset p (e ∷ es) all = rw (differs p e.0 (let le = all.0 in omega arith)) (unset p es all.1)

closer : (m n : ℕ) (es : Entries) → n ≤ m → Behind m es → Behind n es
closer m n [] le all = tt
closer m n (e ∷ es) le all = ((let lt = all.0 in omega arith), closer m n es le all.1)

-- so many records stay
stays : (es : Entries) (at k : ℕ) (records : List Record) → Behind (at + k) es → k ≤ length records
    → left_from es at records ≡ take k records ++ left_from es (at + k) (drop k records)
stays es at zero records all le = ap (λ (n : ℕ). left_from es n records) (omega arith)
stays es at (suc k) [] all le = absurd (omega arith)
stays es at (suc k) (l ∷ ls) all le =
    let next : at + 1 + k ≡ at + suc k = omega arith in
    let here : fate_in es at ≡ Keep = unset at es (closer (at + suc k) (at + 1) es (omega arith) all) in
    ap (λ (f : Fate ByteRecord). outcome fields_of l f ++ left_from es (at + 1) ls) here
    ∙ ap (λ (rest : List Record). l ∷ rest) (stays es (at + 1) k ls (closer (at + suc k) (at + 1 + k) es (omega arith) all) (omega arith)
    ∙ ap (λ (n : ℕ). take k ls ++ left_from es n (drop k ls)) next)

all_stay : (es : Entries) (at : ℕ) (records : List Record) → Behind (at + length records) es → left_from es at records ≡ records
all_stay es at [] all = refl
all_stay es at (l ∷ ls) all =
    let here : fate_in es at ≡ Keep = unset at es (closer (at + length (l ∷ ls)) (at + 1) es (omega arith) all) in
    ap (λ (f : Fate ByteRecord). outcome fields_of l f ++ left_from es (at + 1) ls) here
    ∙ ap (λ (rest : List Record). l ∷ rest) (all_stay es (at + 1) ls (closer (at + length (l ∷ ls)) (at + 1 + length ls) es (omega arith) all))

-- a place that is passed is asked no more
forgets : (e : ℕ × Option ByteRecord) (es : Entries) (at : ℕ) (records : List Record) → e.0 < at → left_from (e ∷ es) at records ≡ left_from es at records
forgets e es at [] lt = refl
forgets e es at (l ∷ ls) lt =
    let here : fate_in (e ∷ es) at ≡ fate_in es at = rw (passed at e.0 lt) refl in
    ap (λ (f : Fate ByteRecord). outcome fields_of l f ++ left_from (e ∷ es) (at + 1) ls) here
    ∙ ap (λ (rest : List Record). outcome fields_of l (fate_in es at) ++ rest) (forgets e es (at + 1) ls (omega arith))

all_behind : (k : ℕ) (es : Entries) → AllByRecursion (λ q. nat_cmp k q ≡ Less) (keys_of es) → Behind (k + 1) es
all_behind k [] all = tt
all_behind k (e ∷ es) all = (less k e.0 all.0, all_behind k es all.1)
  where
    less : (k q : ℕ) → nat_cmp k q ≡ Less → k + 1 ≤ q
    less k q e = let lt : k < q = ranked k q Less (sym e) in omega arith

-- what stands in the place of a record that is set
abbrev pub set_records : Option ByteRecord → List Record
set_records None = []
set_records (Some new) = fields_of new ∷ []

set_outcome : (l : Record) (o : Option ByteRecord) → outcome fields_of l (fate_is (Some o)) ≡ set_records o
set_outcome l None = refl
set_outcome l (Some new) = refl

-- the records before the next place that is set stay, and then comes what is set for it
pub set_next : (k : ℕ) (o : Option ByteRecord) (es : Entries) (at : ℕ) (records : List Record) → Behind at ((k, o) ∷ es)
    → IsStrictlySortedBy nat_cmp (keys_of ((k, o) ∷ es)) → k < length records
    → (left_from ((k, o) ∷ es) at (drop at records) ≡ take (k - at) (drop at records) ++ (set_records o ++ left_from es (k + 1) (drop (k + 1) records)))
    × Behind (k + 1) es × IsStrictlySortedBy nat_cmp (keys_of es)
unfolding IsStrictlySortedBy
set_next k o es at records all sorted lt =
    let all_es : Entries = (k, o) ∷ es in
    let n = k - at in
    let le : at ≤ k = all.0 in
    let there : at + n ≡ k = omega arith in
    let others : Behind (k + 1) es = all_behind k es sorted.0 in
    let behind : Behind (at + n) all_es = (omega arith, closer (k + 1) (at + n) es (omega arith) others) in
    let long = length-drop at records in
    let rest : drop n (drop at records) ≡ drop k records = drop-drop n at records ∙ ap (λ (m : ℕ). drop m records) there in
    let l = get_or records k [] in
    let more = drop (k + 1) records in
    let cut : drop k records ≡ l ∷ more = drop_more records k [] lt in
    let here : fate_in all_es k ≡ fate_is (Some o) = rw (same_as k) refl in (
      stays all_es at n (drop at records) behind (omega arith)
          ∙ ap (λ (ls : List Record). take n (drop at records) ++ left_from all_es (at + n) ls) (rest ∙ cut)
          ∙ ap (λ (m : ℕ). take n (drop at records) ++ left_from all_es m (l ∷ more)) there
          ∙ ap (λ (f : Fate ByteRecord). take n (drop at records) ++ (outcome fields_of l f ++ left_from all_es (k + 1) more)) here
          ∙ ap (λ (ls : List Record). take n (drop at records) ++ (ls ++ left_from all_es (k + 1) more)) (set_outcome l o)
          ∙ ap (λ (ls : List Record). take n (drop at records) ++ (set_records o ++ ls)) (forgets (k, o) es (k + 1) more (omega arith)),
      others,
      sorted.1,
    )

-- the records so far, with those
pub set_on : (done run : List Record) (new : Record) (left rest all : List Record) → done ++ left ≡ all → left ≡ run ++ (new ∷ [] ++ rest)
    → (done ++ run ++ new ∷ []) ++ rest ≡ all
set_on done run new left rest all i e =
    append_assoc (done ++ run) (new ∷ []) rest ∙ append_assoc done run (new ∷ rest) ∙ ap (λ (ls : List Record). done ++ ls) (sym e) ∙ i

pub gone_on : (done run left rest all : List Record) → done ++ left ≡ all → left ≡ run ++ rest → (done ++ run) ++ rest ≡ all
gone_on done run left rest all i e = append_assoc done run rest ∙ ap (λ (ls : List Record). done ++ ls) (sym e) ∙ i

-- what is set for a place behind the last record leaves all records
pub set_past : (k : ℕ) (o : Option ByteRecord) (es : Entries) (at : ℕ) (records : List Record) → Behind at ((k, o) ∷ es)
    → IsStrictlySortedBy nat_cmp (keys_of ((k, o) ∷ es)) → length records ≤ k → at ≤ length records
    → (left_from ((k, o) ∷ es) at (drop at records) ≡ left_from es at (drop at records)) × Behind at es × IsStrictlySortedBy nat_cmp (keys_of es)
unfolding IsStrictlySortedBy
set_past k o es at records all sorted le within =
    let long = length-drop at records in
    let others : Behind (k + 1) es = all_behind k es sorted.0 in
    let none : Behind (at + length (drop at records)) es = closer (k + 1) (at + length (drop at records)) es (omega arith) others in (
      all_stay ((k, o) ∷ es) at (drop at records) (omega arith, none) ∙ sym (all_stay es at (drop at records) none),
      closer (k + 1) at es (omega arith) others,
      sorted.1,
    )

-- where nothing more is set, the other records stay
pub set_end : (es : Entries) (at : ℕ) (records : List Record) → es ≡ [] → left_from es at (drop at records) ≡ take (length records - at) (drop at records)
set_end es at records none =
    let long = length-drop at records in
    ap (λ (fs : Entries). left_from fs at (drop at records)) none ∙ all_stay [] at (drop at records) tt
    ∙ sym (take_all (length records - at) (drop at records) (omega arith))

pub all_from_zero : (es : Entries) → Behind 0 es
all_from_zero [] = tt
all_from_zero (e ∷ es) = (omega arith, all_from_zero es)

-- fates, as they are set
pub fates_at_first : (changed : BTreeMap ℕ (Option ByteRecord)) (n : ℕ) → changed.entries ≡ [] → fates_of changed n ≡ replicate n Keep
fates_at_first changed n none = ap (λ (es : Entries). map (fate_in es) (range_with_len 0 n)) none ∙ go 0 n
  where
    go : (at n : ℕ) → map (fate_in []) (range_with_len at n) ≡ replicate n Keep
    go at zero = refl
    go at (suc n) = ap (λ (fs : List (Fate ByteRecord)). Keep ∷ fs) (go (at + 1) n)

same_behind : (f g : ℕ → Fate ByteRecord) (x : Fate ByteRecord) (k : ℕ) → ((q : ℕ) → g q ≡ cond (is_eq (nat_cmp k q)) x (f q))
    → (at n : ℕ) → k < at → map g (range_with_len at n) ≡ map f (range_with_len at n)
same_behind f g x k is at zero lt = refl
same_behind f g x k is at (suc n) lt =
    let here : g at ≡ f at = is at ∙ rw (differs k at lt) refl in
    ap (λ (y : Fate ByteRecord). y ∷ map g (range_with_len (at + 1) n)) here
    ∙ ap (λ (ys : List (Fate ByteRecord)). f at ∷ ys) (same_behind f g x k is (at + 1) n (omega arith))

set_there : (f g : ℕ → Fate ByteRecord) (x : Fate ByteRecord) (k : ℕ) → ((q : ℕ) → g q ≡ cond (is_eq (nat_cmp k q)) x (f q))
    → (at n j : ℕ) → k ≡ at + j → map g (range_with_len at n) ≡ slice_set (map f (range_with_len at n)) j x
set_there f g x k is at zero j e = refl
set_there f g x k is at (suc n) zero e =
    let same : at ≡ k = omega arith in
    let here : g at ≡ x = is at ∙ ap (λ (q : ℕ). cond (is_eq (nat_cmp k q)) x (f at)) same ∙ rw (same_as k) refl in
    ap (λ (y : Fate ByteRecord). y ∷ map g (range_with_len (at + 1) n)) here
    ∙ ap (λ (ys : List (Fate ByteRecord)). x ∷ ys) (same_behind f g x k is (at + 1) n (omega arith))
set_there f g x k is at (suc n) (suc j) e =
    let here : g at ≡ f at = is at ∙ rw (passed k at (omega arith)) refl in
    ap (λ (y : Fate ByteRecord). y ∷ map g (range_with_len (at + 1) n)) here
    ∙ ap (λ (ys : List (Fate ByteRecord)). f at ∷ ys) (set_there f g x k is (at + 1) n j (omega arith))

pub fates_set : (old new : BTreeMap ℕ (Option ByteRecord)) (k n : ℕ) (o : Option ByteRecord) → Updates nat_cmp old new k (Some o)
    → fates_of new n ≡ slice_set (fates_of old n) k (fate_is (Some o))
fates_set old new k n o up =
    set_there (fate_in old.entries) (fate_in new.entries) (fate_is (Some o)) k (λ q. ap fate_is (up.0 q) ∙ pick (is_eq (nat_cmp k q)) (get nat_cmp old q)) 0 n k (omega arith)
  where
    pick : (b : Bool) (was : Option (Option ByteRecord)) → fate_is (cond b (Some o) was) ≡ cond b (fate_is (Some o)) (fate_is was)
    pick true was = refl
    pick false was = refl

-- each record that is set is wide: before any is set, once one more is set, and behind the first of them
pub wide_first : (width : ℕ) (changed : BTreeMap ℕ (Option ByteRecord)) → changed.entries ≡ [] → (place : ℕ) → is_wide width (fate_in changed.entries place) ≡ true
wide_first width changed none place = ap (λ (es : Entries). is_wide width (fate_in es place)) none

pub wide_set : (width : ℕ) (old new : BTreeMap ℕ (Option ByteRecord)) (k : ℕ) (o : Option ByteRecord) → Updates nat_cmp old new k (Some o)
    → is_wide width (fate_is (Some o)) ≡ true → ((place : ℕ) → is_wide width (fate_in old.entries place) ≡ true) → (place : ℕ) → is_wide width (fate_in new.entries place) ≡ true
wide_set width old new k o up here was place =
    ap (λ (f : Option (Option ByteRecord)). is_wide width (fate_is f)) (up.0 place) ∙ pick (is_eq (nat_cmp k place)) (get nat_cmp old place) (was place)
  where
    pick : (b : Bool) (f : Option (Option ByteRecord)) → is_wide width (fate_is f) ≡ true → is_wide width (fate_is (cond b (Some o) f)) ≡ true
    pick true f e = here
    pick false f e = e

pub wide_here : (width k : ℕ) (o : Option ByteRecord) (es : Entries) → ((place : ℕ) → is_wide width (fate_in ((k, o) ∷ es) place) ≡ true) → is_wide width (fate_is (Some o)) ≡ true
wide_here width k o es wide =
    let here : fate_in ((k, o) ∷ es) k ≡ fate_is (Some o) = rw (same_as k) refl in
    ap (is_wide width) (sym here) ∙ wide k

unset_before : (place at : ℕ) (es : Entries) → place < at → Behind at es → fate_in es place ≡ Keep
unset_before place at es lt all = unset place es (closer at (place + 1) es (omega arith) all)

below : (m n : ℕ) → nat_lt m n ≡ true → m < n
below m n e = grind (arith, nat_tests)

above : (m n : ℕ) → nat_lt m n ≡ false → n ≤ m
above m n e = grind (arith, nat_tests)

behind_wide : (width k : ℕ) (o : Option ByteRecord) (es : Entries) → Behind (k + 1) es → ((place : ℕ) → is_wide width (fate_in ((k, o) ∷ es) place) ≡ true)
    → (place : ℕ) → is_wide width (fate_in es place) ≡ true
behind_wide width k o es all wide place = at (nat_lt place (k + 1)) refl
  where
    at : (b : Bool) → nat_lt place (k + 1) ≡ b → is_wide width (fate_in es place) ≡ true
    at true e = ap (is_wide width) (unset_before place (k + 1) es (below place (k + 1) e) all)
    at false e =
        let le = above place (k + 1) e in
        let same : fate_in ((k, o) ∷ es) place ≡ fate_in es place = rw (passed place k (omega arith)) refl in
        ap (is_wide width) (sym same) ∙ wide place

pub wide_rest : (width k : ℕ) (o : Option ByteRecord) (es : Entries) → IsStrictlySortedBy nat_cmp (keys_of ((k, o) ∷ es))
    → ((place : ℕ) → is_wide width (fate_in ((k, o) ∷ es) place) ≡ true) → (place : ℕ) → is_wide width (fate_in es place) ≡ true
unfolding IsStrictlySortedBy
wide_rest width k o es sorted wide = behind_wide width k o es (all_behind k es sorted.0) wide

-- the records before the first place that is set stay, and so do those behind the last one
pub left_around : (es : Entries) (from at : ℕ) (records done : List Record) → Behind from es → from ≤ length records
    → done ++ left_from [] at (drop at records) ≡ left_from es from (drop from records) → take from records ++ done ++ drop at records ≡ left_from es 0 records
left_around es from at records done all le e =
    let zero_on : 0 + from ≡ from = omega arith in
    let last : left_from [] at (drop at records) ≡ drop at records = all_stay [] at (drop at records) tt in
    append_assoc (take from records) done (drop at records)
    ∙ ap (λ (l : List Record). take from records ++ l) (ap (λ (l : List Record). done ++ l) (sym last) ∙ e)
    ∙ sym (stays es 0 from records (closer from (0 + from) es (omega arith) all) le ∙ ap (λ (n : ℕ). take from records ++ left_from es n (drop from records)) zero_on)

-- Pages of a table that is read whole.
use Rattle.std.proofs.Common.{◌≡◌, ℕ, ℤ, pos, ◌+ℤ◌, ◌+◌, ◌<◌, ◌≤◌, Bool, true, false, ◌&&◌, if◌then◌else◌, nat_eq, nat_lt, int_lt, List}
use Rattle.std.proofs.Common.{[], ◌∷◌, ◌++◌, map, take, length, Option, Some, None, IfSome, Contains, refl, ap, sym, ◌∙◌, subst, arith}
use Rattle.std.proofs.Common.{get_or}
use Rattle.std.proofs.lemmas.Int.{ints}
use Rattle.std.proofs.lemmas.List.{take_more, length-append, length-map}
use Rattle.std.specs.List.{list_all}
use Rattle.sqlite.specs.Order.{Row as SqlRow}
use Rattle.sqlite_looks.specs.Pages.{range_of, key_of}
use Rattle.med_value.specs.declared.cause.Cause.{Cause}
use Rattle.med_value.specs.declared.cause.Cause.TheVariants.{InvalidText, TooLarge}
use Rattle.fdw_api.specs.Scan.{row_fits}
use Rattle.sqlite_tables.specs.Layouts.{Layout, kinds_in, places}
use Rattle.sqlite_tables.specs.Readings.{content_causes}
use Rattle.sqlite_tables.specs.Cells.{key_in, greatest, least, row_in, rows_in}
use Rattle.sqlite.specs.Effect.{Database}
use Rattle.sqlite_tables.specs.Tables.{behind, rest_of, entries_of}
use Rattle.sqlite_tables.specs.Surveys.{fits_in, last_key, next_after, rows_from, IsSeen, causes_in}
use Rattle.sqlite_tables.proofs.PagesJoin.{between}

all_append : {X : Type 0} (p : X → Bool) (xs ys : List X) → list_all p (xs ++ ys) ≡ (list_all p xs && list_all p ys)
all_append p [] ys = refl
all_append p (x ∷ xs) ys = go (p x) (all_append p xs ys)
  where
    go : (b : Bool) → list_all p (xs ++ ys) ≡ (list_all p xs && list_all p ys)
        → (b && list_all p (xs ++ ys)) ≡ ((b && list_all p xs) && list_all p ys)
    go true e = e
    go false e = refl

both_are : (a b : Bool) → a ≡ true → b ≡ true → (a && b) ≡ true
both_are a b d e = rw (d, e) refl

second_not : (a b : Bool) → b ≡ false → (a && b) ≡ false
second_not true b e = e
second_not false b e = refl

first_not : (a b : Bool) → a ≡ false → (a && b) ≡ false
first_not a b e = rw e refl

pub last_is : (xs : List SqlRow) (r : SqlRow) → last_key (xs ++ r ∷ []) ≡ Some (key_in r)
last_is [] r = refl
last_is (x ∷ []) r = refl
last_is (x ∷ y ∷ xs) r = last_is (y ∷ xs) r

-- one more row of a page
pub row_more : (p : SqlRow → Bool) (xs : List SqlRow) (i : ℕ) (r : SqlRow) → i < length xs → r ≡ get_or xs i r
    → list_all p (take i xs) ≡ true → p r ≡ true
    → (list_all p (take (i + 1) xs) ≡ true) × (last_key (take (i + 1) xs) ≡ Some (key_in r))
row_more p xs i r lt is before fits =
    let more : take (i + 1) xs ≡ take i xs ++ r ∷ [] = take_more xs i r lt ∙ ap (λ (y : SqlRow). take i xs ++ y ∷ []) (sym is) in
    (rw more (all_append p (take i xs) (r ∷ []) ∙ both_are _ _ before (both_are (p r) true fits refl)), rw more (last_is (take i xs) r))

-- the first key after rows, by the key of the last
behind_last : (low : ℤ) (r : SqlRow) (rs : List SqlRow) (k : ℤ) → last_key (r ∷ rs) ≡ Some k → behind low (r ∷ rs) ≡ k +ℤ pos 1
behind_last low r [] k e = let s : key_in r ≡ k = cc in ap (λ (z : ℤ). z +ℤ pos 1) s
behind_last low r (s ∷ rs) k e = behind_last (key_in r +ℤ pos 1) s rs k e

above_greatest : (l : Layout) (low : ℤ) (es : List SqlRow) → int_lt greatest low ≡ true → range_of (places l) low greatest es ≡ []
above_greatest l low [] e = refl
above_greatest l low (r ∷ es) e = rw (empty (key_of r) e) (above_greatest l low es e)
  where
    empty : (k : ℤ) → int_lt greatest low ≡ true → between low greatest k ≡ false
    empty k e = grind (arith, ints)

past : (k : ℤ) → int_lt k greatest ≡ false → int_lt greatest (k +ℤ pos 1) ≡ true
past k e = grind (arith, ints)

-- the rows after a page begin where the next page does
pub rest_is : (l : Layout) (low : ℤ) (es page : List SqlRow) (last : Option ℤ) → last ≡ last_key page
    → rest_of l low greatest es page ≡ rows_from l (next_after (length page) last) es
rest_is l low es [] last is = rw is refl
rest_is l low es (r ∷ rs) None is = absurd (some_last r rs (sym is))
  where
    some_last : (r : SqlRow) (rs : List SqlRow) → last_key (r ∷ rs) ≡ None → ⊥
    some_last r [] e = cc
    some_last r (s ∷ rs) e = some_last s rs e
rest_is l low es (r ∷ rs) (Some k) is = go (nat_eq (length (r ∷ rs)) 64) (int_lt k greatest) refl
  where
    go : (b c : Bool) → int_lt k greatest ≡ c
        → (if b then range_of (places l) (behind low (r ∷ rs)) greatest es else []) ≡ rows_from l
        (if b && c then Some (k +ℤ pos 1) else None) es
    go false c e = refl
    go true true e = ap (λ (z : ℤ). range_of (places l) z greatest es) (behind_last low r rs k (sym is))
    go true false e = ap (λ (z : ℤ). range_of (places l) z greatest es) (behind_last low r rs k (sym is))
        ∙ above_greatest l (k +ℤ pos 1) es (past k e)

pub page_seen : (l : Layout) (low : ℤ) (es page rows : List SqlRow) (last next : Option ℤ) (count : ℕ)
    → range_of (places l) low greatest es ≡ page ++ rest_of l low greatest es page → rows ≡ page
    → last ≡ last_key rows → list_all (fits_in l) rows ≡ true → count ≡ length page → next ≡ next_after count last
    → IsSeen l es (Some low) next count
page_seen l low es page rows last next count joins same last_is fit counted next_is = rw (next_is, counted) (record {
  seen = page;
  parts = joins ∙ ap (λ (rest : List SqlRow). page ++ rest) (rest_is l low es page last (last_is ∙ ap last_key same));
  fit = ap (list_all (fits_in l)) (sym same) ∙ fit;
  count_is = refl;
})

-- a row of a page that does not fit is one of the rows from its first key on
pub page_not : (l : Layout) (low : ℤ) (es page rows : List SqlRow)
    → range_of (places l) low greatest es ≡ page ++ rest_of l low greatest es page → rows ≡ page → list_all (fits_in l) rows ≡ false
    → list_all (fits_in l) (range_of (places l) low greatest es) ≡ false
page_not l low es page rows joins same e = ap (list_all (fits_in l)) joins ∙ all_append (fits_in l) page _
    ∙ first_not _ _ (ap (list_all (fits_in l)) (sym same) ∙ e)

pub full_page : (count : ℕ) (last : Option ℤ) (k : ℤ) → next_after count last ≡ Some k → count ≡ 64
full_page count None k e = absurd cc
full_page count (Some key) k e = go (nat_eq count 64) (int_lt key greatest) refl e
  where
    go : (b c : Bool) → nat_eq count 64 ≡ b → (if b && c then Some (key +ℤ pos 1) else None) ≡ Some k → count ≡ 64
    go true c e f = grind arith
    go false c e f = absurd cc

-- rows seen up to a key, and rows seen from there on
pub seen_on : (l : Layout) (es : List SqlRow) (low mid next : Option ℤ) (m n : ℕ) → IsSeen l es low mid m → IsSeen l es mid next n
    → IsSeen l es low next (m + n)
seen_on l es low mid next m n a b = record {
  seen = a.seen ++ b.seen;
  parts = a.parts ∙ ap (λ (rest : List SqlRow). a.seen ++ rest) b.parts ∙ sym (joined a.seen b.seen (rows_from l next es));
  fit = all_append (fits_in l) a.seen b.seen ∙ both_are _ _ a.fit b.fit;
  count_is = length-append a.seen b.seen ∙ (let c = a.count_is in let d = b.count_is in omega arith);
}
  where
    joined : (xs ys zs : List SqlRow) → (xs ++ ys) ++ zs ≡ xs ++ (ys ++ zs)
    joined [] ys zs = refl
    joined (x ∷ xs) ys zs = ap (λ (l : List SqlRow). x ∷ l) (joined xs ys zs)

-- none is seen at the start
pub seen_none : (l : Layout) (es : List SqlRow) (low : Option ℤ) → IsSeen l es low low 0
seen_none l es low = record { seen = []; parts = refl; fit = refl; count_is = refl }

same_fit : (l : Layout) (rs : List SqlRow)
    → list_all (row_fits (kinds_in l)) (map (λ r. r.cells) (map (row_in l) rs)) ≡ list_all (fits_in l) rs
same_fit l [] = refl
same_fit l (r ∷ rs) = ap (λ (b : Bool). fits_in l r && b) (same_fit l rs)

many : (l : Layout) (rs : List SqlRow) → length (map (λ r. r.cells) (map (row_in l) rs)) ≡ length rs
many l [] = refl
many l (r ∷ rs) = let h = many l rs in omega (arith, h)

-- all rows were seen, and they are not too many
pub no_causes : (l : Layout) (es : List SqlRow) (count : ℕ) → IsSeen l es (Some least) None count → count ≤ 1000000 → causes_in l es ≡ []
no_causes l es count a le = rw (fit, few) refl
  where
    all : (xs : List SqlRow) → xs ≡ a.seen ++ [] → (list_all (fits_in l) xs ≡ true) × (length xs ≡ count)
    all xs e =
        let f = ap (list_all (fits_in l)) e ∙ all_append (fits_in l) a.seen [] ∙ both_are _ _ a.fit refl in
        (f, ap length e ∙ length-append a.seen [] ∙ (let c = a.count_is in omega arith))

    fit : list_all (row_fits (kinds_in l)) (map (λ r. r.cells) (rows_in l es)) ≡ true
    fit = same_fit l (range_of (places l) least greatest es) ∙ (all (range_of (places l) least greatest es) a.parts).0

    few : nat_lt 1000000 (length (map (λ r. r.cells) (rows_in l es))) ≡ false
    few = let n = many l (range_of (places l) least greatest es)
        ∙ (all (range_of (places l) least greatest es) a.parts).1 in grind (arith, n)

first_in : (c : Cause) (cs : List Cause) → Contains (c ∷ cs) c
first_in c cs = (0, omega arith, refl)

-- a row that does not fit: 22P02 stands
pub stray_stands : (l : Layout) (es : List SqlRow) (low : ℤ) (count : ℕ) → IsSeen l es (Some least) (Some low) count
    → list_all (fits_in l) (range_of (places l) low greatest es) ≡ false
    → Contains (causes_in l es) InvalidText
stray_stands l es low count a e = rw fit (go (nat_lt 1000000 (length (map (λ r. r.cells) (rows_in l es)))))
  where
    fit : list_all (row_fits (kinds_in l)) (map (λ r. r.cells) (rows_in l es)) ≡ false
    fit = same_fit l (range_of (places l) least greatest es) ∙ ap (list_all (fits_in l)) a.parts ∙ all_append (fits_in l) a.seen _
        ∙ second_not _ _ e

    go : (b : Bool) → Contains (content_causes false b) InvalidText
    go true = first_in InvalidText (TooLarge ∷ [])
    go false = first_in InvalidText []

-- too many rows: 54000 stands
pub many_stand : (l : Layout) (es : List SqlRow) (next : Option ℤ) (count : ℕ) → IsSeen l es (Some least) next count → 1000000 < count
    → Contains (causes_in l es) TooLarge
many_stand l es next count a lt = rw big (go (list_all (row_fits (kinds_in l)) (map (λ r. r.cells) (rows_in l es))))
  where
    big : nat_lt 1000000 (length (map (λ r. r.cells) (rows_in l es))) ≡ true
    big =
        let n = many l (range_of (places l) least greatest es) in
        let m = ap length a.parts ∙ length-append a.seen (rows_from l next es) in
        let c = a.count_is in grind (arith, n, m, c)

    go : (b : Bool) → Contains (content_causes b true) TooLarge
    go true = first_in TooLarge []
    go false = (1, omega arith, refl)

-- a page that is full or the last: where one follows, it has 64 rows
pub full_if : (count : ℕ) (last next : Option ℤ) → next ≡ next_after count last → IfSome next (λ k. count ≡ 64)
full_if count last None e = tt
full_if count last (Some k) e = full_page count last k (sym e)

-- the rows seen so far, and those of the next page
pub seen_further : (l : Layout) (db after : Database) (next further : Option ℤ) (low : ℤ) (m n : ℕ) → after ≡ db → next ≡ Some low
    → IsSeen l (entries_of db l) (Some least) next m
    → IsSeen l (entries_of after l) (Some low) further n → IsSeen l (entries_of db l) (Some least) further (m + n)
seen_further l db after next further low m n same is a b =
    seen_on l (entries_of db l) (Some least) (Some low) further m n
    (subst (λ (o : Option ℤ). IsSeen l (entries_of db l) (Some least) o m) is a)
    (subst (λ (d : Database). IsSeen l (entries_of d l) (Some low) further n) same b)

-- a row of the next page does not fit
pub stray_further : (l : Layout) (db after : Database) (next : Option ℤ) (low : ℤ) (m : ℕ) (c : Cause) → after ≡ db → next ≡ Some low
    → IsSeen l (entries_of db l) (Some least) next m
    → list_all (fits_in l) (range_of (places l) low greatest (entries_of after l)) ≡ false → c ≡ InvalidText
    → Contains (causes_in l (entries_of db l)) c
stray_further l db after next low m c same is a e is_text =
    subst (λ (d : Cause). Contains (causes_in l (entries_of db l)) d) (sym is_text)
    (stray_stands l (entries_of db l) low m (subst (λ (o : Option ℤ). IsSeen l (entries_of db l) (Some least) o m) is a)
    (subst (λ (d : Database). list_all (fits_in l) (range_of (places l) low greatest (entries_of d l)) ≡ false) same e))

-- a table of which no page follows was seen whole
pub seen_whole : (l : Layout) (es : List SqlRow) (next : Option ℤ) (count : ℕ) → next ≡ None → IsSeen l es (Some least) next count
    → count ≤ 1000000 → causes_in l es ≡ []
seen_whole l es next count is a le = no_causes l es count (subst (λ (o : Option ℤ). IsSeen l es (Some least) o count) is a) le

-- and its rows are as many as were seen
pub seen_count : (l : Layout) (es : List SqlRow) (next : Option ℤ) (count : ℕ) → next ≡ None → IsSeen l es (Some least) next count
    → count ≡ length (rows_in l es)
seen_count l es next count is a = whole (subst (λ (o : Option ℤ). IsSeen l es (Some least) o count) is a)
  where
    whole : IsSeen l es (Some least) None count → count ≡ length (rows_in l es)
    whole b =
        sym (length-map (range_of (places l) least greatest es) (row_in l) ∙ ap length b.parts ∙ length-append b.seen []
        ∙ (let c = b.count_is in omega arith))

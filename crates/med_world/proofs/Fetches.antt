-- The rows of the FETCHes of one cursor, joined.
use Rattle.std.proofs.Common.{◌≡◌, ℕ, ◌+◌, ◌-◌, min, List, [], ◌∷◌, ◌++◌, Option, Some, None, Contains, slice_get, length, map, drop, refl, ap, sym, ◌∙◌, subst, zero, suc, arith, inl, inr}
use Rattle.std.proofs.lemmas.List.{append_assoc, append-nil, length-append, length-take, length-drop, length-map}
use Rattle.std.proofs.lemmas.List.Sorted.{length_permutation}
use Rattle.std.proofs.lemmas.Option.{same_Some}
use Rattle.med_value.specs.Datum.{Tuple}
use Rattle.med_query.specs.Query.{Query, Tables, Output, outputs, limited, page, IsAnswer}
use Rattle.med_syntax.specs.CursorTree.{CountTree, some_rows, all_rows}
use Rattle.sql_meaning.specs.Prelude.{Cursor, rows_leased, handing, IsEnough, Fetched, AreFetched, IsLast, rows_fetched}
use Rattle.med_world.proofs.NamedTables.{place_of}

-- ---- answers are of one length

limited_many : {X : Type 0} (limit : Option ℕ) (xs ys : List X) → length xs ≡ length ys → length (limited limit xs) ≡ length (limited limit ys)
limited_many None xs ys e = e
limited_many (Some n) xs ys e = length-take n xs ∙ ap (λ k. min n k) e ∙ sym (length-take n ys)

page_many : {X : Type 0} (q : Query) (xs ys : List X) → length xs ≡ length ys → length (page q xs) ≡ length (page q ys)
page_many q xs ys e = limited_many q.limit (drop q.offset xs) (drop q.offset ys) (length-drop q.offset xs ∙ ap (λ k. k - q.offset) e ∙ sym (length-drop q.offset ys))

as_many : (q : Query) (db : Tables) (xs ys : List Tuple) → IsAnswer q db xs → IsAnswer q db ys → length xs ≡ length ys
as_many q db xs ys a b =
    let ordered : length a.ordered ≡ length b.ordered = length_permutation (outputs q db) a.ordered a.same ∙ sym (length_permutation (outputs q db) b.ordered b.same) in
    ap length a.shown ∙ page_many q (map (λ (o : Output). o.1) a.ordered) (map (λ (o : Output). o.1) b.ordered)
    (length-map a.ordered (λ (o : Output). o.1) ∙ ordered ∙ sym (length-map b.ordered (λ (o : Output). o.1))) ∙ ap length (sym b.shown)

-- ---- they begin one answer

-- behind the rows that were handed out before
abbrev Begins : Cursor → List Tuple → Type 0
Begins c rows = (left : List Tuple) × IsAnswer c.query (rows_leased c.reads) ((c.handed ++ rows) ++ left)

one_begins : (c : Cursor) (f : Fetched) (fs : List Fetched) → AreFetched c (f ∷ fs) → Begins c (rows_fetched (f ∷ fs))
one_begins c f [] h = (h.0.left, subst (λ (rows : List Tuple). IsAnswer c.query (rows_leased c.reads) ((c.handed ++ rows) ++ h.0.left)) (sym (append-nil f.rows)) h.0.answers)
one_begins c f (g ∷ gs) h =
    let rest = one_begins (handing c f.rows) g gs h.1 in
    (rest.0, subst (λ (rows : List Tuple). IsAnswer c.query (rows_leased c.reads) (rows ++ rest.0)) (append_assoc c.handed f.rows (rows_fetched (g ∷ gs))) rest.1)

-- ---- they are all of it

nil_of_none : {X : Type 0} (xs : List X) → length xs ≡ 0 → xs ≡ []
nil_of_none [] e = refl
nil_of_none (x ∷ xs) e = absurd (omega (arith, e))

-- what a FETCH leaves that gave fewer rows than were asked for
none_left : (asked : CountTree) (rows left : List Tuple) → IsLast asked rows → IsEnough asked rows left → left ≡ []
none_left (some_rows n) rows left fewer (inl many) = absurd (omega (arith, fewer, many))
none_left (some_rows n) rows left fewer (inr x) = x.1
none_left all_rows rows left fewer x = x

-- behind the whole answer nothing is given
whole_stays : (c : Cursor) (fs : List Fetched) → IsAnswer c.query (rows_leased c.reads) c.handed → AreFetched c fs → rows_fetched fs ≡ []
whole_stays c [] whole h = refl
whole_stays c (f ∷ fs) whole h =
    let b = one_begins c f fs h in
    let same : length ((c.handed ++ rows_fetched (f ∷ fs)) ++ b.0) ≡ length c.handed = as_many c.query (rows_leased c.reads) ((c.handed ++ rows_fetched (f ∷ fs)) ++ b.0) c.handed b.1 whole in
    let first : length ((c.handed ++ rows_fetched (f ∷ fs)) ++ b.0) ≡ length (c.handed ++ rows_fetched (f ∷ fs)) + length b.0 = length-append (c.handed ++ rows_fetched (f ∷ fs)) b.0 in
    let second : length (c.handed ++ rows_fetched (f ∷ fs)) ≡ length c.handed + length (rows_fetched (f ∷ fs)) = length-append c.handed (rows_fetched (f ∷ fs)) in
    nil_of_none (rows_fetched (f ∷ fs)) (omega (arith, same, first, second))

all_given : (c : Cursor) (f : Fetched) (fs : List Fetched) (k : ℕ) → AreFetched c fs → slice_get fs k ≡ Some f → IsLast f.asked f.rows → IsAnswer c.query (rows_leased c.reads) (c.handed ++ rows_fetched fs)
all_given c f [] k h at last = absurd cc
all_given c f (g ∷ gs) zero h at last =
    let same : g ≡ f = same_Some g f at in
    let left : h.0.left ≡ [] = none_left g.asked g.rows h.0.left (subst (λ (x : Fetched). IsLast x.asked x.rows) (sym same) last) h.0.enough in
    let whole : IsAnswer c.query (rows_leased c.reads) (c.handed ++ g.rows) =
    subst (IsAnswer c.query (rows_leased c.reads)) (ap (λ (l : List Tuple). (c.handed ++ g.rows) ++ l) left ∙ append-nil (c.handed ++ g.rows)) h.0.answers in
    let behind : rows_fetched gs ≡ [] = whole_stays (handing c g.rows) gs whole h.1 in
    subst (IsAnswer c.query (rows_leased c.reads)) (ap (λ (rows : List Tuple). c.handed ++ rows) (sym (append-nil g.rows) ∙ ap (λ (rows : List Tuple). g.rows ++ rows) (sym behind))) whole
all_given c f (g ∷ gs) (suc k) h at last =
    subst (IsAnswer c.query (rows_leased c.reads)) (append_assoc c.handed g.rows (rows_fetched gs)) (all_given (handing c g.rows) f gs k h.1 at last)

-- ---- from DECLARE on

pub begins : (c : Cursor) (f : Fetched) (fs : List Fetched) → c.handed ≡ [] → AreFetched c (f ∷ fs) → (left : List Tuple) × IsAnswer c.query (rows_leased c.reads) (rows_fetched (f ∷ fs) ++ left)
begins c f fs none h =
    let b = one_begins c f fs h in
    (b.0, subst (λ (handed : List Tuple). IsAnswer c.query (rows_leased c.reads) ((handed ++ rows_fetched (f ∷ fs)) ++ b.0)) none b.1)

pub all : (c : Cursor) (f : Fetched) (fs : List Fetched) → c.handed ≡ [] → AreFetched c fs → Contains fs f → IsLast f.asked f.rows → IsAnswer c.query (rows_leased c.reads) (rows_fetched fs)
all c f fs none h has last =
    let p = place_of fs f has in
    subst (λ (handed : List Tuple). IsAnswer c.query (rows_leased c.reads) (handed ++ rows_fetched fs)) none (all_given c f fs p.0 h p.1 last)

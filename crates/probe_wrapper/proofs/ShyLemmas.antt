-- Plain scans and the bare inner ones that they stand on, and how the tables and scans of the inner wrapper are seen.
use Rattle.std.proofs.Common.{◌≡◌, ◌≢◌, ℕ, Bool, true, false, not, ◌&&◌, ◌||◌, nat_eq, if◌then◌else◌, List, [], ◌∷◌, length, replicate, map, Option, Some, None, IsSome, option_map, refl, ap, sym, ◌∙◌, subst}
use Rattle.std.specs.FinMap as finmap
use Rattle.std.proofs.lemmas.List.Elements.{All-weaker}
use Rattle.std.proofs.lemmas.Bool.{and_parts, not-true}
use Rattle.std.proofs.lemmas.Option.{same_Some}
use Rattle.med_value.specs.Datum.{Tuple}
use Rattle.fdw_api.specs.Prelude.{Spec, RestrictionForm, pick, given_row, GivenRow, TableRow, IsComing, meets_all, meets_exact, params_fit, row_fits, cells_fit, shown_fits, BoxTable, BoxState, Ledger, Scan, IsIdle, scan_of, set_at, Leaves, IsOpen, new_scan, is_unpromised}
use Rattle.med_value.specs.declared.value.ColType.{ColType}
use Rattle.fdw_api.specs.declared.scan.Agree.{Agree}
use Rattle.fdw_api.specs.declared.scan.Agree.TheVariants.{Ignored, Hint, Exact}
use Rattle.fdw_api.proofs.Unpromised.{any_order, all_first, promises_none}
use Rattle.probe_wrapper.specs.Shy.{all_left, is_plain, has_none, is_bare, AskedForm, asked_scan, hidden_bound, hidden_ledger, hidden}
use Rattle.probe_wrapper.proofs.SeenScans.{Scans, See, each_get, each_len, each_insert, each_change, each_remove, each_keep}

abbrev pub Asks : Type 0
Asks = ℕ → Option AskedForm

-- the inner wrapper's table
pub inner_of : (hints : Bool) (o : Option BoxTable) (b : BoxTable) → option_map (hidden_bound hints) o ≡ Some b → (a : BoxTable) × (o ≡ Some a) × (hidden_bound hints a ≡ b)
inner_of hints None b e = absurd cc
inner_of hints (Some a) b e = (a, refl, same_Some _ _ e)

pub some_of : (hints : Bool) (o : Option BoxTable) → IsSome (option_map (hidden_bound hints) o) → IsSome o
some_of hints None e = absurd cc
some_of hints (Some a) e = refl

pub none_of_none : (hints : Bool) (o : Option BoxTable) → o ≡ None → option_map (hidden_bound hints) o ≡ None
none_of_none hints o e = rw e refl

none_there : (fs : List RestrictionForm) → has_none fs ≡ true → fs ≡ []
none_there [] e = refl
none_there (f ∷ fs) e = absurd cc

-- a Hint for each restriction is allowed where hints are
pub hint_is_left : (fs : List RestrictionForm) → all_left true fs (replicate (length fs) Hint) ≡ true
hint_is_left [] = refl
hint_is_left (f ∷ fs) = hint_is_left fs

-- what is told of a plain and of a bare scan
pub plain_tells : (hints : Bool) (spec : Spec) → is_plain hints spec ≡ true → (spec.narrow ≡ false) × (is_unpromised spec ≡ true) × (all_left hints spec.offered spec.answers ≡ true)
plain_tells hints spec e =
    let w = and_parts (not spec.narrow) (is_unpromised spec && all_left hints spec.offered spec.answers) e in
    let v = and_parts (is_unpromised spec) (all_left hints spec.offered spec.answers) w.1 in
    (not-true spec.narrow w.0, v.0, v.1)

pub bare_tells : (spec : Spec) → is_bare spec ≡ true → (spec.narrow ≡ false) × (is_unpromised spec ≡ true) × (has_none spec.offered ≡ true)
bare_tells spec e =
    let w = and_parts (not spec.narrow) (is_unpromised spec && has_none spec.offered) e in
    let v = and_parts (is_unpromised spec) (has_none spec.offered) w.1 in
    (not-true spec.narrow w.0, v.0, v.1)

pub bare_is_whole : (spec : Spec) → is_bare spec ≡ true → spec.narrow ≡ false
bare_is_whole spec e = (bare_tells spec e).0

pub plain_is_whole : (hints : Bool) (spec : Spec) → is_plain hints spec ≡ true → spec.narrow ≡ false
plain_is_whole hints spec e = (plain_tells hints spec e).0

-- a row that fits one scan of whole rows fits another
pub whole_fits : (kinds : List ColType) (spec inner : Spec) (cells : Tuple) → spec.narrow ≡ false → inner.narrow ≡ false → shown_fits kinds inner cells ≡ true → shown_fits kinds spec cells ≡ true
whole_fits kinds spec inner cells e i h =
    ap (λ (b : Bool). if b then cells_fit kinds spec.wanted cells else row_fits kinds cells) e ∙ sym (ap (λ (b : Bool). if b then cells_fit kinds inner.wanted cells else row_fits kinds cells) i) ∙ h

pub bare_offers : (spec : Spec) → is_bare spec ≡ true → spec.offered ≡ []
bare_offers spec e = none_there spec.offered (bare_tells spec e).2

pub bare_fits : (kinds : List ColType) (spec : Spec) → is_bare spec ≡ true → params_fit kinds spec.offered [] ≡ true
bare_fits kinds spec e = ap (λ (l : List RestrictionForm). params_fit kinds l []) (bare_offers spec e)

-- a plain scan may give what its bare inner scan gives
no_exact : (hints : Bool) (fs : List RestrictionForm) (answers : List Agree) (params cells : Tuple) → all_left hints fs answers ≡ true → meets_exact fs answers params cells ≡ true
no_exact hints [] answers params cells e = refl
no_exact hints (f ∷ fs) [] params cells e = refl
no_exact hints (f ∷ fs) (Ignored ∷ answers) params cells e = no_exact hints fs answers params cells e
no_exact hints (f ∷ fs) (Hint ∷ answers) params cells e = no_exact hints fs answers params cells (and_parts hints _ e).1
no_exact hints (f ∷ fs) (Exact ∷ answers) params cells e = absurd cc

whole_shown : (spec : Spec) (r : TableRow) → spec.narrow ≡ false → given_row spec r ≡ record { id = r.id; cells = r.cells }
whole_shown spec r e = ap (λ (b : Bool). record { id = r.id; cells = if b then pick spec.wanted r.cells else r.cells }) e

clash : {X : Type 0} → true ≡ false → X
clash e = absurd cc

pub plain_come : (hints : Bool) (rows : List TableRow) (spec inner : Spec) (params : Tuple) (coming : List GivenRow) → is_plain hints spec ≡ true → is_bare inner ≡ true → IsComing rows inner [] coming → IsComing rows spec params coming
plain_come hints rows spec inner params coming plain bare c =
    let w = plain_tells hints spec plain in
    let none = promises_none spec w.1 in
    let limit : inner.limit ≡ None = (promises_none inner (bare_tells inner bare).1).1 in
    let same : (r : TableRow) → given_row inner r ≡ given_row spec r = λ r. whole_shown inner r (bare_is_whole inner bare) ∙ sym (whole_shown spec r w.0) in
    record {
      taken = c.taken;
      left_out = c.left_out;
      parts = c.parts;
      failing = All-weaker _ (λ r. meets_all spec.offered params r.cells ≡ false) (λ r e. clash (sym (ap (λ (l : List RestrictionForm). meets_all l [] r.cells) (bare_offers inner bare)) ∙ e)) c.left_out c.failing;
      exact = All-weaker (λ r. meets_exact inner.offered inner.answers [] r.cells ≡ true) _ (λ r e. no_exact hints spec.offered spec.answers params r.cells w.2) c.taken c.exact;
      sorted = any_order spec.order none.0 c.taken;
      is = c.is ∙ ap (map (given_row inner)) (all_first inner.limit limit c.taken) ∙ ap (λ (f : TableRow → GivenRow). map f c.taken) (λ i r. same r i) ∙ ap (map (given_row spec)) (sym (all_first spec.limit none.1 c.taken));
    }

-- the map of the scans as they are seen
abbrev see : (hints : Bool) → Asks → See
see hints asked = λ q. asked_scan hints (asked q)

pub seen_get : (hints : Bool) (s : BoxState) (asked : Asks) (q : ℕ) → scan_of (hidden hints s asked) q ≡ option_map (asked_scan hints (asked q)) (scan_of s q)
seen_get hints s asked q = each_get (see hints asked) s.ledger.live q

pub seen_len : (hints : Bool) (asked : Asks) (l : Ledger) → finmap.len (hidden_ledger hints asked l).live ≡ finmap.len l.live
seen_len hints asked l = each_len (see hints asked) l.live

pub insert_of : (hints : Bool) (old new : Asks) (l : Ledger) (m : Scans) (q : ℕ) (s : Scan) → ((x : ℕ) → x ≢ q → new x ≡ old x) → (hidden_ledger hints new (record l { live = finmap.insert m q s })).live ≡ finmap.insert (hidden_ledger hints old (record l { live = m })).live q (asked_scan hints (new q) s)
insert_of hints old new l m q s others = each_insert (see hints old) (see hints new) m q s (λ x ne. ap (asked_scan hints) (others x ne))

pub change_of : (hints : Bool) (old new : Asks) (l : Ledger) (q : ℕ) (s : Scan) → finmap.get l.live q ≡ Some s → ((x : ℕ) → x ≢ q → new x ≡ old x) → (hidden_ledger hints new l).live ≡ finmap.insert (hidden_ledger hints old l).live q (asked_scan hints (new q) s)
change_of hints old new l q s is others = each_change (see hints old) (see hints new) l.live q s is (λ x ne. ap (asked_scan hints) (others x ne))

pub remove_of : (hints : Bool) (old new : Asks) (l : Ledger) (q : ℕ) → ((x : ℕ) → x ≢ q → new x ≡ old x) → (hidden_ledger hints new (record l { live = finmap.remove l.live q })).live ≡ finmap.remove (hidden_ledger hints old l).live q
remove_of hints old new l q others = each_remove (see hints old) (see hints new) l.live q (λ x ne. ap (asked_scan hints) (others x ne))

pub keep_of : (hints : Bool) (old new : Asks) (l : Ledger) → ((x : ℕ) → new x ≡ old x) → hidden_ledger hints new l ≡ hidden_ledger hints old l
keep_of hints old new l same = ap (λ (m : Scans). record (hidden_ledger hints old l) { live = m }) (each_keep (see hints old) (see hints new) l.live (λ x. ap (asked_scan hints) (same x)))

-- what is live or open outside is so inside
some_seen : (hints : Bool) (t : Option AskedForm) (o : Option Scan) → IsSome (option_map (asked_scan hints t) o) → IsSome o
some_seen hints t None e = absurd cc
some_seen hints t (Some s) e = refl

pub live_in : (hints : Bool) (s : BoxState) (asked : Asks) (q : ℕ) → IsSome (scan_of (hidden hints s asked) q) → IsSome (scan_of s q)
live_in hints s asked q live = some_seen hints (asked q) (scan_of s q) (subst IsSome (seen_get hints s asked q) live)

-- an open scan, with what it was asked for and its inner scan
pub record OpenInside (hints : Bool) (s : BoxState) (asked : Asks) (q : ℕ) (scan : Scan) : Type 0 where
  pub ask : AskedForm
  pub at : asked q ≡ Some ask
  pub inner : Scan
  pub is : scan_of s q ≡ Some inner
  pub seen_as : scan ≡ asked_scan hints (Some ask) inner
  pub whole : ask.broken ≡ false
  pub whole_in : inner.broken ≡ false
  pub plain : is_plain hints ask.spec ≡ true
  pub bare : is_bare inner.spec ≡ true

or_left : (a b : Bool) → (a || b) ≡ false → a ≡ false
or_left true b e = absurd cc
or_left false b e = refl

or_right : (a b : Bool) → (a || b) ≡ false → b ≡ false
or_right true b e = absurd cc
or_right false b e = e

not_false : (a : Bool) → not a ≡ false → a ≡ true
not_false true e = refl
not_false false e = absurd cc

pub open_in : (hints : Bool) (s : BoxState) (asked : Asks) (q : ℕ) (scan : Scan) → scan_of (hidden hints s asked) q ≡ Some scan → scan.broken ≡ false → OpenInside hints s asked q scan
open_in hints s asked q scan at whole = go (asked q) (scan_of s q) refl refl (sym (seen_get hints s asked q) ∙ at)
  where
    go : (o : Option AskedForm) (i : Option Scan) → asked q ≡ o → scan_of s q ≡ i → option_map (asked_scan hints o) i ≡ Some scan → OpenInside hints s asked q scan
    go o None e f h = absurd cc
    go None (Some x) e f h =
        let same = same_Some (record x { broken = true }) scan h in
        clash (ap (λ (z : Scan). z.broken) same ∙ whole)
    go (Some a) (Some x) e f h =
        let same = same_Some (asked_scan hints (Some a) x) scan h in
        let all : (a.broken || (x.broken || not (is_plain hints a.spec && is_bare x.spec))) ≡ false = ap (λ (z : Scan). z.broken) same ∙ whole in
        let rest = or_right a.broken _ all in
        let on = and_parts (is_plain hints a.spec) (is_bare x.spec) (not_false _ (or_right x.broken _ rest)) in
        record { ask = a; at = e; inner = x; is = f; seen_as = sym same; whole = or_left a.broken _ all; whole_in = or_left x.broken _ rest; plain = on.0; bare = on.1 }

pub is_open_in : (hints : Bool) (s : BoxState) (asked : Asks) (q : ℕ) → IsOpen (hidden hints s asked) q → IsOpen s q
is_open_in hints s asked q o = let w = open_in hints s asked q o.0 o.1 o.2 in (w.inner, w.is, w.whole_in)

-- an inner scan as it is seen
pub seen_at : (hints : Bool) (s : BoxState) (asked : Asks) (q : ℕ) (scan : Scan) → scan_of s q ≡ Some scan → scan_of (hidden hints s asked) q ≡ Some (asked_scan hints (asked q) scan)
seen_at hints s asked q scan is = seen_get hints s asked q ∙ ap (option_map (asked_scan hints (asked q))) is

pub seen_left : (hints : Bool) (o : Option AskedForm) (s : Scan) (n : ℕ) → asked_scan hints o (record s { left = n }) ≡ record (asked_scan hints o s) { left = n }
seen_left hints None s n = refl
seen_left hints (Some a) s n = refl

pub left_seen : (hints : Bool) (o : Option AskedForm) (s : Scan) → (asked_scan hints o s).left ≡ s.left
left_seen hints None s = refl
left_seen hints (Some a) s = refl

pub table_seen : (hints : Bool) (o : Option AskedForm) (s : Scan) → (asked_scan hints o s).table ≡ s.table
table_seen hints None s = refl
table_seen hints (Some a) s = refl

pub seen_broken : (hints : Bool) (o : Option AskedForm) (s : Scan) → asked_scan hints o (record s { broken = true }) ≡ record (asked_scan hints o s) { broken = true }
seen_broken hints None s = refl
seen_broken hints (Some a) s = at a.broken
  where
    at : (b : Bool) → asked_scan hints (Some (record a { broken = b })) (record s { broken = true }) ≡ record (asked_scan hints (Some (record a { broken = b })) s) { broken = true }
    at true = refl
    at false = refl

-- a scan of its asking that was just begun, where the inner one was
pub seen_begun : (hints : Bool) (ask : AskedForm) (t : ℕ) (kinds : List ColType) (inner : Spec) (left : ℕ) → is_plain hints ask.spec ≡ true → is_bare inner ≡ true → ask.broken ≡ false → asked_scan hints (Some ask) (new_scan t kinds inner [] left) ≡ new_scan t kinds ask.spec ask.params left
seen_begun hints ask t kinds inner left plain bare whole =
    ap (λ (b : Bool). record (new_scan t kinds ask.spec ask.params left) { broken = b || (false || not (is_plain hints ask.spec && is_bare inner)) }) whole
    ∙ ap (λ (b : Bool). record (new_scan t kinds ask.spec ask.params left) { broken = not (b && is_bare inner) }) plain
    ∙ ap (λ (b : Bool). record (new_scan t kinds ask.spec ask.params left) { broken = not b }) bare

pub leaves : (hints : Bool) {tickets tables : ℕ → Type 0} {remotes : List ℕ → Type 0} (s t : BoxState) (old new : Asks) → Leaves tickets tables remotes s t → Leaves tickets tables remotes (hidden hints s old) (hidden hints t new)
leaves hints s t old new l = record { coming = λ q live other. l.coming q (live_in hints s old q live) other; rows = l.rows; holdings = l.holdings }

setting : (hints : Bool) (f : ℕ → Option BoxTable) (t : ℕ) (x : Option BoxTable) (b : Bool) (q : ℕ) → option_map (hidden_bound hints) (if b then x else f q) ≡ (if b then option_map (hidden_bound hints) x else option_map (hidden_bound hints) (f q))
setting hints f t x true q = refl
setting hints f t x false q = refl

-- a table changed, seen from outside
pub tables_set : (hints : Bool) (asked : Asks) (l : Ledger) (t : ℕ) (x : Option BoxTable) → hidden_ledger hints asked (record l { tables = set_at l.tables t x }) ≡ record (hidden_ledger hints asked l) { tables = set_at (λ q. option_map (hidden_bound hints) (l.tables q)) t (option_map (hidden_bound hints) x) }
tables_set hints asked l t x = ap (λ (f : ℕ → Option BoxTable). record (hidden_ledger hints asked l) { tables = f }) (λ i q. setting hints l.tables t x (nat_eq q t) q i)

-- a wrapper round an idle one is idle
pub is_idle : (hints : Bool) (s : BoxState) (asked : Asks) → IsIdle s → IsIdle (hidden hints s asked)
is_idle hints s asked i = record { no_table = λ t. ap (option_map (hidden_bound hints)) (i.no_table t); no_scan = λ q. seen_get hints s asked q ∙ ap (option_map (asked_scan hints (asked q))) (i.no_scan q); no_staging = i.no_staging }

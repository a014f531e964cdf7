-- Tables and servers of an engine by their places.
use Rattle.std.proofs.Common.{◌≡◌, ◌⊎◌, inl, inr, ◌<◌, ◌+◌, is_none, if◌then◌else◌, ℕ, Bool, true, false, List, [], ◌∷◌, ◌++◌, Option, Some, None, Result, Ok, Err, OnOk, OnErr, IfErr, IfNone, IsSome, is_some, option_map, cond, slice_get, slice_set, get_or, length, map, remove, zero, suc, refl, ap, sym, ◌∙◌, subst, arith, bytes_eq}
use Rattle.std.specs.List.{IsDistinct, AllByRecursion}
use Rattle.std.proofs.lemmas.Bool.{false≢true}
use Rattle.med_syntax.specs.Prelude.{Name, DdlTree, create_wrapper, create_server, create_mapping, create_table, drop_wrapper, drop_server, drop_table, drop_mapping}
use Rattle.fdw_api.specs.Prelude.{BoxState, Scan, scan_of, IsSoundBox, Column, OptionForm, Binds, CanUnbind, Unbinds}
use Rattle.fdw_api.specs.declared.interface.Counts.{Counts}
use Rattle.med_exec.specs.Slots.{counts_at, counts_in, BoxAt, ChangesAt}
use Rattle.med_catalog.specs.Prelude.{ServerObject, TableObject, Objects, server_named, table_named, ObjectChange, new_server, new_table, no_table, no_server, changed, is_skipped, Asks, skips, makes, CauseRow, Stands, NoneStands, DdlCauses, IsTold, object_rows, ddl_rows, nothing_leased}
use Rattle.std.proofs.lemmas.List.{length-map, length_push}
use Rattle.std.proofs.lemmas.Option.{slice_get-map, same_Some}
use Rattle.med_binder.specs.declared.bound_table.BoundTable.{BoundTable}
use Rattle.med_binder.specs.Places.{Attached, attached}
use Rattle.sql_meaning.specs.World.{is_taken, beside_without}
use Rattle.med_world.specs.Prelude.{Label, Shown, leased, IsNamedAt, IsStandingAt, IsServerAt, IsFirst, IsUnstaged, IsSound, with_change, Alters, HasSource}
use Rattle.med_value.specs.declared.cause.Cause.{Cause}
use Rattle.med_value.specs.declared.cause.Cause.TheVariants.{OutOfMemory, UndefinedObject, UndefinedTable}
use Rattle.med_world.specs.Altering.{IsFreeAt, IsAllowed, SourcesAllow, IsAltered, BindsInVain, NotAltered, catalog_shows, not_free, bind_fails, bind_undone, no_memory as refused_memory}
use Rattle.med_session.specs.Binding.{BindFails, before_bind, by_fault}
use Rattle.med_session.specs.Tables.{TableFails, no_memory, fails_by, undone, TakesSource, ServerFails, source_taken, memory_refused}
use Rattle.med_world.proofs.Faring.{set_this, same_box}
use Rattle.med_world.proofs.ScansChanged.{fresh_scan}
use Rattle.med_world.proofs.Lists.{push_last, one_place, same_bytes, other_bytes}
use Rattle.med_world.proofs.NamedTables.{map_place, found_place, at_place, place_of}
use Rattle.med_session.specs.declared.sources.NamedSource.{NamedSource}
use Rattle.med_session.specs.Shows.{label}
use Rattle.med_statements.specs.Ready.{AreReady}
use Rattle.med_statements.specs.ReadyWrites.{IsReady}
use Rattle.med_session.proofs.Seats.{set_twice}

-- ---- sources by their names

named_once : (e : Shown) (name : Name) (i j : ℕ) → IsSound e → IsNamedAt e.labels i name → IsNamedAt e.labels j name → i ≡ j
named_once e name i j h p q = one_place (map (λ (l : Label). l.name) e.labels) name i j h.source_names
    (map_place (λ (l : Label). l.name) e.labels i p.0 p.1 ∙ ap Some p.2) (map_place (λ (l : Label). l.name) e.labels j q.0 q.1 ∙ ap Some q.2)

stands_named : (e : Shown) (s : ServerObject) (place : ℕ) → IsStandingAt e s place → IsNamedAt e.labels place s.source
stands_named e s place x = (x.label, x.there, x.named)

-- the source that is named stands in one place, with one kind
one_kind : (e : Shown) (s : ServerObject) (p place : ℕ) (l : Label) → IsSound e → slice_get e.labels p ≡ Some l → l.name ≡ s.source → IsStandingAt e s place → l.kind ≡ s.kind
one_kind e s p place l h there named x =
    let same : p ≡ place = named_once e s.source p place h (l, there, named) (stands_named e s place x) in
    ap (λ (k : Label). k.kind) (same_Some l x.label (sym there ∙ ap (slice_get e.labels) same ∙ x.there)) ∙ x.of_kind

pub of_other_kind : (e : Shown) (s : ServerObject) (p : ℕ) (l : Label) → IsSound e → slice_get e.labels p ≡ Some l → l.name ≡ s.source → (l.kind ≡ s.kind → ⊥) → (place : ℕ) → IsFreeAt e s place → ⊥
of_other_kind e s p l h there named other place x = other (one_kind e s p place l h there named x.stands)

pub taken_by : (e : Shown) (s : ServerObject) → is_taken e.catalog s.source ≡ true → (place : ℕ) → IsFreeAt e s place → ⊥
taken_by e s taken place x = false≢true (sym x.untaken ∙ taken)

some_counts : (o : Option (Option BoxState)) (c : Counts) → counts_in o ≡ Some c → (b : BoxState) × (o ≡ Some (Some b))
some_counts None c e = absurd cc
some_counts (Some None) c e = absurd cc
some_counts (Some (Some b)) c e = (b, refl)

no_counts : (o : Option (Option BoxState)) (b : BoxState) → counts_in o ≡ None → o ≡ Some (Some b) → ⊥
no_counts None b e is = absurd cc
no_counts (Some None) b e is = absurd cc
no_counts (Some (Some x)) b e is = absurd cc

pub box_counted : (e : Shown) (place : ℕ) (c : Counts) → counts_at e.boxes place ≡ Some c → (b : BoxState) × (slice_get e.boxes place ≡ Some (Some b))
box_counted e place c is = some_counts (slice_get e.boxes place) c is

pub dropped_by : (e : Shown) (s : ServerObject) (p : ℕ) → IsSound e → IsNamedAt e.labels p s.source → counts_at e.boxes p ≡ None → (place : ℕ) → IsFreeAt e s place → ⊥
dropped_by e s p h named none place x =
    let same : p ≡ place = named_once e s.source p place h named (stands_named e s place x.stands) in
    no_counts (slice_get e.boxes p) x.stands.box none (ap (slice_get e.boxes) same ∙ x.stands.box_there)

-- ---- tables by their names

apart : (n : Name) (ts : List TableObject) (k : ℕ) (t : TableObject) → AllByRecursion (λ m. bytes_eq n m ≡ false) (map (λ (x : TableObject). x.name) ts) → slice_get ts k ≡ Some t → bytes_eq n t.name ≡ false
apart n [] k t h at = absurd cc
apart n (x ∷ xs) zero t h at = subst (λ (y : TableObject). bytes_eq n y.name ≡ false) (same_Some x t at) h.0
apart n (x ∷ xs) (suc k) t h at = apart n xs k t h.1 at

turned : (a b : Name) → bytes_eq a b ≡ false → bytes_eq b a ≡ false
turned a b h = other_bytes b a (λ e. false≢true (sym h ∙ same_bytes a b (sym e)))

-- a table's place is the first of its name, where each name stands once
pub first_at : (ts : List TableObject) (n : Name) (k : ℕ) (t : TableObject) → IsDistinct bytes_eq (map (λ (x : TableObject). x.name) ts) → slice_get ts k ≡ Some t → t.name ≡ n → IsFirst n ts k
unfolding IsDistinct
first_at [] n k t h at is = absurd cc
first_at (x ∷ xs) n zero t h at is = same_bytes n x.name (sym is ∙ ap (λ (y : TableObject). y.name) (sym (same_Some x t at)))
first_at (x ∷ xs) n (suc k) t h at is =
    (ap (λ m. bytes_eq m x.name) (sym is) ∙ turned x.name t.name (apart x.name xs k t h.0 at), first_at xs n k t h.1 at is)

-- what is removed from a place is what is left where the first of a name goes
pub removed_first : {X : Type 0} (n : Name) (ts : List TableObject) (xs : List X) (k : ℕ) → IsFirst n ts k → length xs ≡ length ts → remove xs k ≡ beside_without n ts xs
removed_first n [] xs k first same = absurd first
removed_first n (t ∷ ts) [] k first same = absurd (let e = same in omega arith)
removed_first n (t ∷ ts) (x ∷ xs) zero first same = sym (ap (λ b. cond b xs (x ∷ beside_without n ts xs)) first)
removed_first n (t ∷ ts) (x ∷ xs) (suc k) first same =
    let e : length xs ≡ length ts = omega arith in
    ap (λ l. x ∷ l) (removed_first n ts xs k first.1 e) ∙ sym (ap (λ b. cond b xs (x ∷ beside_without n ts xs)) first.0)

-- the label of a source that is read in its place
pub label_read : (xs : List NamedSource) (place : ℕ) (s : NamedSource) (l : Label) → s ≡ get_or xs place s → slice_get (map label xs) place ≡ Some l → l ≡ label s
label_read [] place s l read at = absurd cc
label_read (x ∷ xs) zero s l read at = sym (same_Some (label x) l at) ∙ ap label (sym read)
label_read (x ∷ xs) (suc k) s l read at = label_read xs k s l read at

-- ---- servers by their names

pub none_follows : {X A B : Type 0} (o : Option X) → IfNone o A → (A → B) → IfNone o B
none_follows None h f = f h
none_follows (Some x) h f = tt

-- the source of a server was added
pub source_there : (e : Shown) (name : Name) (s : ServerObject) → IsSound e → server_named e.catalog name ≡ Some s → HasSource e.labels s.source
source_there e name s h is =
    let p = found_place (λ (x : ServerObject). bytes_eq name x.name) e.catalog.servers s is in
    let x = h.servers_stand s (at_place e.catalog.servers p.0 s p.1) in
    (x.0, stands_named e s x.0 x.1)

-- where a table is bound, as it is shown
pub attached_at : (xs : List BoundTable) (k : ℕ) (t : BoundTable) → slice_get xs k ≡ Some t → slice_get (map attached xs) k ≡ Some (attached t)
attached_at xs k t at = slice_get-map attached xs k ∙ ap (option_map attached) at

pub removed_attached : (xs : List BoundTable) (k : ℕ) → map attached (remove xs k) ≡ remove (map attached xs) k
removed_attached [] zero = refl
removed_attached [] (suc k) = refl
removed_attached (x ∷ xs) zero = refl
removed_attached (x ∷ xs) (suc k) = ap (λ l. attached x ∷ l) (removed_attached xs k)

pub within_by : {X : Type 0} (xs : List X) (k : ℕ) (x : X) → slice_get xs k ≡ Some x → k < length xs
within_by [] k x at = absurd cc
within_by (y ∷ ys) zero x at = omega arith
within_by (y ∷ ys) (suc k) x at = let r : k < length ys = within_by ys k x at in omega arith

pub get_within : {X : Type 0} (xs : List X) (k : ℕ) → k < length xs → (x : X) × (slice_get xs k ≡ Some x)
get_within [] k h = absurd (omega arith)
get_within (x ∷ xs) zero h = (x, refl)
get_within (x ∷ xs) (suc k) h = get_within xs k (omega arith)

pub bound_within : (e : Shown) (xs : List BoundTable) (k : ℕ) (t : TableObject) → length (map attached xs) ≡ length e.catalog.tables → slice_get e.catalog.tables k ≡ Some t → k < length xs
bound_within e xs k t many at =
    let w : k < length e.catalog.tables = within_by e.catalog.tables k t at in
    let n : length (map attached xs) ≡ length xs = length-map xs attached in
    omega arith

pub unbinds_by : (e : Shown) (name : Name) (o : Objects) (boxes : List (Option BoxState)) (bound : List Attached) → o ≡ changed (no_table name) e.catalog → bound ≡ beside_without name e.catalog.tables e.bound
    → record { catalog = o; labels = e.labels; boxes = boxes; bound = bound; seats = e.seats } ≡ record (with_change e (no_table name)) { boxes = boxes; bound = beside_without name e.catalog.tables e.bound }
unbinds_by e name o boxes bound p q = λ i. record { catalog = p i; labels = e.labels; boxes = boxes; bound = q i; seats = e.seats }

pub drops_by : (e : Shown) (name : Name) (o : Objects) (boxes : List (Option BoxState)) (place : ℕ) → o ≡ changed (no_server name) e.catalog → boxes ≡ slice_set e.boxes place None
    → record { catalog = o; labels = e.labels; boxes = boxes; bound = e.bound; seats = e.seats } ≡ record (with_change e (no_server name)) { boxes = slice_set e.boxes place None }
drops_by e name o boxes place p q = λ i. record { catalog = p i; labels = e.labels; boxes = q i; bound = e.bound; seats = e.seats }

pub binds_by : (e : Shown) (t : TableObject) (o : Objects) (boxes : List (Option BoxState)) (bound more : List Attached) → o ≡ changed (new_table t) e.catalog → bound ≡ more
    → record { catalog = o; labels = e.labels; boxes = boxes; bound = bound; seats = e.seats } ≡ record (with_change e (new_table t)) { boxes = boxes; bound = more }
binds_by e t o boxes bound more p q = λ i. record { catalog = p i; labels = e.labels; boxes = boxes; bound = q i; seats = e.seats }

-- ---- what follows from an answer

pub on_follows : {T E A B : Type 0} (r : Result T E) → OnOk r A → (A → B) → OnOk r B
on_follows (Ok x) h f = f h
on_follows (Err e) h f = tt

pub err_follows : {T E : Type 0} {A B : E → Type 0} (r : Result T E) → IfErr r A → ((e : E) → A e → B e) → IfErr r B
err_follows (Ok x) h f = tt
err_follows (Err e) h f = f e h

-- a refusal that leaves all as it was
pub err_kept : {T E K : Type 0} {A B : E → Type 0} (r : Result T E) → IfErr r A → OnErr r K → ((e : E) → A e → K → B e) → IfErr r B
err_kept (Ok x) h k f = tt
err_kept (Err e) h k f = f e h k

-- ---- a table that was just bound

-- what was just bound may be unbound, where nothing was staged
mid_ready : (b mid : BoxState) (remote : List ℕ) (columns : List Column) (settings : List OptionForm) (t : ℕ) → IsSoundBox b → IsUnstaged b → Binds b remote columns settings t mid → CanUnbind mid t
mid_ready b mid remote columns settings t sound unstaged binds = record {
  is_bound = ap is_some (ap (λ l. l.tables t) binds.ledger ∙ set_this b.ledger.tables t (Some binds.bound) t refl);
  no_scan = λ q scan live. fresh_scan b t sound binds.fresh q scan (was q scan live);
  not_staged = ap (λ l. l.staged) binds.ledger ∙ unstaged;
}
  where
    was : (q : ℕ) (scan : Scan) → scan_of mid q ≡ Some scan → scan_of b q ≡ Some scan
    was q scan live = ap (λ m. scan_of (record b { ledger = record b.ledger { live = m } }) q) (sym (ap (λ l. l.live) binds.ledger)) ∙ live

-- the last of the bound tables is the one that was bound last
pub last_bound : (old new : List BoundTable) (place number : ℕ) (t : BoundTable) → map attached new ≡ map attached old ++ record { source = place; number = number } ∷ [] → slice_get new (length old) ≡ Some t
    → attached t ≡ record { source = place; number = number }
last_bound old new place number t is at =
    let n : length (map attached old) ≡ length old = length-map old attached in
    same_Some (attached t) (record { source = place; number = number })
    (sym (attached_at new (length old) t at) ∙ ap (λ (xs : List Attached). slice_get xs (length old)) is
    ∙ ap (slice_get (map attached old ++ record { source = place; number = number } ∷ [])) (sym n) ∙ push_last (map attached old) (record { source = place; number = number }))

pub grown_by_one : (old new : List BoundTable) (a : Attached) → map attached new ≡ map attached old ++ a ∷ [] → length new ≡ length old + 1
grown_by_one old new a is = sym (length-map new attached) ∙ ap (λ (xs : List Attached). length xs) is ∙ length_push (map attached old) a ∙ ap (λ n. n + 1) (length-map old attached)

pub can_let_go : (e : Shown) (boxes : List (Option BoxState)) (place number : ℕ) (remote : List ℕ) (columns : List Column) (settings : List OptionForm) (t : BoundTable) → IsSound e → ChangesAt e.boxes place (λ a b. Binds a remote columns settings number b) boxes
    → attached t ≡ record { source = place; number = number } → BoxAt boxes t.source (λ s. CanUnbind s t.number.number)
can_let_go e boxes place number remote columns settings t h binds is = record {
  box = binds.after;
  there = ap (λ (a : Attached). slice_get boxes a.source) is ∙ binds.now;
  holds = subst (λ (n : ℕ). CanUnbind binds.after n) (sym (ap (λ (a : Attached). a.number) is)) (mid_ready binds.before binds.after remote columns settings number (h.sound_boxes place binds.before binds.there) (h.scans.unstaged place binds.before binds.there) binds.change);
}

pub in_vain : (e : Shown) (t : TableObject) (mid new : List (Option BoxState)) (place number : ℕ) → ChangesAt e.boxes place (λ a b. Binds a t.remote t.columns t.settings number b) mid → ChangesAt mid place (λ a b. Unbinds a number b) new
    → ChangesAt e.boxes place (BindsInVain t) new
in_vain e t mid new place number b u =
    let same : u.before ≡ b.after = same_box u.before b.after (sym u.there ∙ b.now) in
    record {
      before = b.before;
      after = u.after;
      there = b.there;
      now = u.now;
      others = λ other ne. u.others other ne ∙ b.others other ne;
      slots = u.slots ∙ ap (λ (xs : List (Option BoxState)). slice_set xs place (Some u.after)) b.slots ∙ set_twice e.boxes place (Some b.after) (Some u.after);
      change = record { number = number; mid = b.after; binds = b.change; unbinds = subst (λ (x : BoxState). Unbinds x number u.after) same u.change };
    }

pub let_go : (boxes new : List (Option BoxState)) (place number : ℕ) (t : BoundTable) → attached t ≡ record { source = place; number = number } → ChangesAt boxes t.source (λ a b. Unbinds a t.number.number b) new → ChangesAt boxes place (λ a b. Unbinds a number b) new
let_go boxes new place number t is h = subst (λ (a : Attached). ChangesAt boxes a.source (λ x y. Unbinds x a.number y) new) is h

-- what is left where the last goes again
pub last_removed : (xs : List Attached) (a : Attached) → remove (xs ++ a ∷ []) (length xs) ≡ xs
last_removed [] a = refl
last_removed (x ∷ xs) a = ap (λ l. x ∷ l) (last_removed xs a)

-- ---- why a table is not bound

pub bind_failed : (e : Shown) (t : TableObject) (place : ℕ) (c : Cause) (boxes : List (Option BoxState)) → IsServerAt e t.server place → BindFails place t.remote t.columns t.settings c e.boxes boxes → TableFails e t c (record e { boxes = boxes })
bind_failed e t place c boxes server (before_bind is same) = no_memory is (λ i. record e { boxes = same i })
bind_failed e t place c boxes server (by_fault fault is changes) = fails_by place server fault is changes refl

-- ---- a statement that the catalogue allows

-- the catalogue tells what it and the leases show
pub told_leased : (e : Shown) (user : Name) (d : DdlTree) (c : Cause) → IsTold (ddl_rows e.catalog (leased e) user d) c → NotAltered e user d c e
told_leased e user d c t = catalog_shows t.stands t.least refl

pub not_checked : (e : Shown) (user : Name) (d : DdlTree) (c : Cause) → (IsTold (ddl_rows e.catalog nothing_leased user d) c → IsTold (ddl_rows e.catalog (leased e) user d) c)
    → (c ≡ OutOfMemory) ⊎ IsTold (ddl_rows e.catalog nothing_leased user d) c → NotAltered e user d c e
not_checked e user d c as_leased (inl is) = refused_memory is refl
not_checked e user d c as_leased (inr t) = told_leased e user d c (as_leased t)

-- a change that is no DROP of a leased table is allowed, where the catalogue shows no cause
pub allowed_by : (e : Shown) (user : Name) (d : DdlTree) (change : ObjectChange) → (((name : Name) → change ≡ no_table name → leased e name ≡ false) → NoneStands (ddl_rows e.catalog (leased e) user d)) → Asks e.catalog user d change
    → ((name : Name) → change ≡ no_table name → leased e name ≡ false) → IsAllowed e user d change
allowed_by e user d change clear asks free = record { clear = clear free; asks = asks }

pub is_altered : (e n : Shown) (user : Name) (d : DdlTree) (change : ObjectChange) → IsAllowed e user d change → SourcesAllow e change → Alters e change n → IsAltered e user d n
is_altered e n user d change allowed sources alters = record { change = change; allowed = allowed; sources = sources; alters = alters }

pub server_added : (e n : Shown) (user : Name) (d : DdlTree) (s : ServerObject) → IsAllowed e user d (new_server s) → TakesSource e s n → IsAltered e user d n
server_added e n user d s allowed t = is_altered e n user d (new_server s) allowed (t.place, t.free) t.is

pub server_not_added : (e n : Shown) (user : Name) (d : DdlTree) (s : ServerObject) (c : Cause) → IsAllowed e user d (new_server s) → ServerFails e s c → n ≡ e → NotAltered e user d c n
server_not_added e n user d s c allowed (source_taken told none) is = not_free s allowed none told is
server_not_added e n user d s c allowed (memory_refused told) is = refused_memory told is

pub table_not_added : (e n : Shown) (user : Name) (d : DdlTree) (t : TableObject) (c : Cause) → IsAllowed e user d (new_table t) → TableFails e t c n → NotAltered e user d c n
table_not_added e n user d t c allowed (no_memory told is) = refused_memory told is
table_not_added e n user d t c allowed (fails_by place server fault told changes is) = bind_fails t allowed place server fault told changes is
table_not_added e n user d t c allowed (undone place told changes is) = bind_undone t place told changes is

row_false : (rows : List CauseRow) (k : ℕ) (b : Bool) (c : Cause) → ((d : Cause) → Stands rows d → ⊥) → slice_get rows k ≡ Some (b, c) → b ≡ false
row_false rows k true c none at = absurd (none c (at_place rows k (true, c) at))
row_false rows k false c none at = refl

clear_rows : (o : Objects) (user : Name) (d : DdlTree) → ((c : Cause) → DdlCauses o nothing_leased user d c → ⊥) → is_skipped o user d ≡ false → (c : Cause) → Stands (object_rows o nothing_leased user d) c → ⊥
clear_rows o user d clear skipped c stands = let p = place_of (object_rows o nothing_leased user d) (true, c) stands in
    clear c (at_place (ddl_rows o nothing_leased user d) (suc p.0) (true, c) (subst (λ b. slice_get (if b then [] else object_rows o nothing_leased user d) p.0 ≡ Some (true, c)) (sym skipped) p.1))

some_by : {X : Type 0} (o : Option X) → is_none o ≡ false → IsSome o
some_by None h = absurd (false≢true (sym h))
some_by (Some x) h = refl

pub dropped_server : (o : Objects) (user : Name) (d : DdlTree) (name : Name) → ((c : Cause) → DdlCauses o nothing_leased user d c → ⊥) → Asks o user d (no_server name) → IsSome (server_named o name)
dropped_server o user d name clear (skips s e) = absurd (cc)
dropped_server o user (create_wrapper n h) name clear (makes s m) = absurd (let e = m.2 in cc)
dropped_server o user (create_server x) name clear (makes s m) = absurd (let e = m.2 in cc)
dropped_server o user (create_mapping x) name clear (makes s m) = absurd (let e = m.2 in cc)
dropped_server o user (create_table x) name clear (makes s m) = absurd (let e = m.2 in cc)
dropped_server o user (drop_wrapper b n) name clear (makes s m) = absurd (cc)
dropped_server o user (drop_server b n) name clear (makes s m) =
    let same : n ≡ name = cc in
    subst (λ (x : Name). IsSome (server_named o x)) same
    (some_by (server_named o n) (row_false (object_rows o nothing_leased user (drop_server b n)) 0 (is_none (server_named o n)) UndefinedObject (clear_rows o user (drop_server b n) clear s) refl))
dropped_server o user (drop_table b n) name clear (makes s m) = absurd (cc)
dropped_server o user (drop_mapping b w n) name clear (makes s m) = absurd (cc)

pub dropped_table : (o : Objects) (user : Name) (d : DdlTree) (name : Name) → ((c : Cause) → DdlCauses o nothing_leased user d c → ⊥) → Asks o user d (no_table name) → IsSome (table_named o name)
dropped_table o user d name clear (skips s e) = absurd (cc)
dropped_table o user (create_wrapper n h) name clear (makes s m) = absurd (let e = m.2 in cc)
dropped_table o user (create_server x) name clear (makes s m) = absurd (let e = m.2 in cc)
dropped_table o user (create_mapping x) name clear (makes s m) = absurd (let e = m.2 in cc)
dropped_table o user (create_table x) name clear (makes s m) = absurd (let e = m.2 in cc)
dropped_table o user (drop_wrapper b n) name clear (makes s m) = absurd (cc)
dropped_table o user (drop_server b n) name clear (makes s m) = absurd (cc)
dropped_table o user (drop_table b n) name clear (makes s m) =
    let same : n ≡ name = cc in
    subst (λ (x : Name). IsSome (table_named o x)) same
    (some_by (table_named o n) (row_false (object_rows o nothing_leased user (drop_table b n)) 0 (is_none (table_named o n)) UndefinedTable (clear_rows o user (drop_table b n) clear s) refl))
dropped_table o user (drop_mapping b w n) name clear (makes s m) = absurd (cc)

-- ---- the engine after a change, and what may be asked of it

-- the engine is as it was, but for its boxes
pub undone_by : (e : Shown) (o : Objects) (boxes : List (Option BoxState)) (bound : List Attached) → o ≡ e.catalog → bound ≡ e.bound → record { catalog = o; labels = e.labels; boxes = boxes; bound = bound; seats = e.seats } ≡ record e { boxes = boxes }
undone_by e o boxes bound p q = λ i. record { catalog = p i; labels = e.labels; boxes = boxes; bound = q i; seats = e.seats }

-- what is left where the one that came goes again
pub left_as_it_was : (old new : List Attached) (a : Attached) (k : ℕ) → new ≡ old ++ a ∷ [] → k ≡ length old → remove new k ≡ old
left_as_it_was old new a k is at = ap (λ (xs : List Attached). remove xs k) is ∙ ap (remove (old ++ a ∷ [])) at ∙ last_removed old a

-- queries and writes may be asked of the boxes of a sound engine
pub queries_ready : (e : Shown) → IsSound e → AreReady e.catalog e.bound e.boxes
queries_ready e h = record {
  sound = h.sound_boxes;
  tables = λ k t a at_t at_a. let x = h.tables_bound k t a at_t at_a in record { box = x.box; there = x.there; holds = (x.bound, x.is, x.kinds) };
}

pub ready_of : (e : Shown) → IsSound e → IsReady e.catalog e.bound e.boxes
ready_of e h = record {
  unstaged = h.scans.unstaged;
  sound = (queries_ready e h).sound;
  tables = (queries_ready e h).tables;
}

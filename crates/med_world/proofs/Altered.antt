-- A change of objects that an engine makes leads each world that agrees to one that agrees.
use Rattle.std.proofs.Common.{◌≡◌, ◌≢◌, ℕ, ◌⊎◌, true, false, cond, Bool, List, [], ◌∷◌, ◌++◌, Option, Some, None, slice_get, slice_set, length, map, refl, ap, sym, ◌∙◌, subst, zero, suc, inl, inr, eqb, arith, option_map, bytes_eq, IsPermutation}
use Rattle.std.proofs.lemmas.Bool.{false≢true}
use Rattle.std.proofs.lemmas.Bool.Decides.{eqb_tells}
use Rattle.std.specs.List.{IsDistinct}
use Rattle.std.proofs.lemmas.Option.{slice_get-map, same_Some}
use Rattle.std.proofs.lemmas.Map.Keys.{IsDistinct-tail}
use Rattle.std.proofs.lemmas.List.Sorted.{IsPermutation-refl}
use Rattle.med_syntax.specs.Tree.{Name}
use Rattle.fdw_api.specs.Prelude.{Kind, Holding, Held, held, Reading, TableRow, BoxState, is_honest, table_of, rows_of, NoScan, Binds, Unbinds, Refuses, Picks}
use Rattle.fdw_api.specs.declared.interface.Fault.{Fault}
use Rattle.med_exec.specs.Slots.{ChangesAt}
use Rattle.med_catalog.specs.Prelude.{ServerObject, TableObject, Objects, server_named, ObjectChange, new_table, no_server, no_table, changed}
use Rattle.med_binder.specs.Places.{Attached}
use Rattle.sql_meaning.specs.Prelude.{World, Source, SourceState, standing, dropped, source_named, drop_source, drop_source_of, IsStanding, Serves, is_shared_state, is_shared_source, has_shared, is_shared_server, beside_without, Pick, no_pick, Reads, PicksEntry, with_catalog, HasRows, as_read, any_rows, Changes}
use Rattle.med_world.specs.Engine.{Label, Shown, leased, IsSound, IsNamedAt, IsServerAt, IsBoundAs, state_of, sources_of, AreRowsOf, RowsAgree, Agrees, with_change, BindsTable, UnbindsTable, DropsBox}
use Rattle.med_world.specs.Altering.{BindsInVain}
use Rattle.med_world.proofs.Seats.{sessions_stay, sessions_still, leases_same, named_apart, pushed_stands, dropped_stands, many_rows}
use Rattle.med_world.proofs.Scans.{all_stay, unleased_scan}
use Rattle.med_world.proofs.States.{honest_state, shared_state, honest_since, same_state}
use Rattle.med_world.proofs.ScansChanged.{left_itself, quiet_left, catalog_scans, bind_quiet, bind_scans, unbind_quiet, unbind_scans, refused_quiet, refused_scans, vain_quiet, vain_scans, drop_left, drop_scans, first_named}
use Rattle.med_world.proofs.Lists.{none_some, same_bytes, other_bytes, one_place, zero≢suc, left_was}
use Rattle.med_world.proofs.Faring.{Spares, that_is, vain_spares, refuses_spares, changes_by, binds_spares, unbinds_spares, set_other, same_box}

-- ---- sources

state_spared : (only : ℕ → Type 0) (b c : BoxState) → Spares only b c → state_of (Some c) ≡ state_of (Some b)
state_spared only b c k = same_state b c k.nature (λ honest r. ap (λ (f : Name → Holding). f r) (k.holdings honest))

pub sources_set : (labels : List Label) (old : List (Option BoxState)) (slot : ℕ) (b c : BoxState) → slice_get old slot ≡ Some (Some b) → state_of (Some c) ≡ state_of (Some b) → sources_of labels (slice_set old slot (Some c)) ≡ sources_of labels old
sources_set [] old slot b c at e = refl
sources_set (l ∷ ls) [] slot b c at e = absurd cc
sources_set (l ∷ ls) (x ∷ xs) zero b c at e =
    let x_is : x ≡ Some b = cc in
    ap (λ (s : SourceState). record { name = l.name; kind = l.kind; state = s } ∷ sources_of ls xs) (e ∙ sym (ap state_of x_is))
sources_set (l ∷ ls) (x ∷ xs) (suc slot) b c at e = ap (λ (ss : List Source). record { name = l.name; kind = l.kind; state = state_of x } ∷ ss) (sources_set ls xs slot b c at e)

sources_spared : (e : Shown) (new : List (Option BoxState)) (place : ℕ) (only : ℕ → Type 0) → ChangesAt e.boxes place (Spares only) new → sources_of e.labels new ≡ sources_of e.labels e.boxes
sources_spared e new place only h =
    ap (sources_of e.labels) h.slots ∙ sources_set e.labels e.boxes place h.before h.after h.there (state_spared only h.before h.after h.change)

pub named_in : (labels : List Label) (place : ℕ) (name : Name) → IsNamedAt labels place name → slice_get (map (λ (l : Label). l.name) labels) place ≡ Some name
named_in labels place name h = slice_get-map (λ (l : Label). l.name) labels place ∙ ap (option_map (λ (l : Label). l.name)) h.1 ∙ ap Some h.2

-- the source of a box is dropped with it
sources_dropped : (labels : List Label) (boxes : List (Option BoxState)) (place : ℕ) (name : Name) (b : Option BoxState) → IsDistinct bytes_eq (map (λ (l : Label). l.name) labels) → IsNamedAt labels place name → slice_get boxes place ≡ Some b
    → sources_of labels (slice_set boxes place None) ≡ drop_source name (sources_of labels boxes)
sources_dropped [] boxes place name b distinct h at = absurd (let e = h.1 in cc)
sources_dropped (l ∷ ls) [] place name b distinct h at = absurd cc
sources_dropped (l ∷ ls) (x ∷ xs) zero name b distinct h at =
    let this : l ≡ h.0 = cc in
    let e : l.name ≡ name = ap (λ (k : Label). k.name) this ∙ h.2 in
    sym (ap (λ c. cond c (record { name = l.name; kind = l.kind; state = dropped } ∷ sources_of ls xs) (record { name = l.name; kind = l.kind; state = state_of x } ∷ drop_source name (sources_of ls xs))) (same_bytes l.name name e))
sources_dropped (l ∷ ls) (x ∷ xs) (suc place) name b distinct h at =
    let rest = sources_dropped ls xs place name b (IsDistinct-tail bytes_eq l.name (map (λ (k : Label). k.name) ls) distinct) h at in
    let other : l.name ≡ name → ⊥ = λ e. zero≢suc place (one_place (map (λ (k : Label). k.name) (l ∷ ls)) name zero (suc place) distinct (ap Some e) (named_in ls place name h)) in
    ap (λ (ss : List Source). record { name = l.name; kind = l.kind; state = state_of x } ∷ ss) rest
    ∙ sym (ap (λ c. cond c (record { name = l.name; kind = l.kind; state = dropped } ∷ sources_of ls xs) (record { name = l.name; kind = l.kind; state = state_of x } ∷ drop_source name (sources_of ls xs))) (other_bytes l.name name other))

-- the source of a name stands where its box is there
pub find_source : (labels : List Label) (boxes : List (Option BoxState)) (name : Name) (place : ℕ) (b : Option BoxState) → IsDistinct bytes_eq (map (λ (l : Label). l.name) labels) → (h : IsNamedAt labels place name) → slice_get boxes place ≡ Some b
    → (s : Source) × (source_named name (sources_of labels boxes) ≡ Some s) × (s.state ≡ state_of b) × (s.kind ≡ h.0.kind)
find_source [] boxes name place b distinct h at = absurd (let e = h.1 in cc)
find_source (l ∷ ls) [] name place b distinct h at = absurd cc
find_source (l ∷ ls) (x ∷ xs) name zero b distinct h at =
    let this : l ≡ h.0 = cc in
    let e : l.name ≡ name = ap (λ (k : Label). k.name) this ∙ h.2 in
    let q : x ≡ b = cc in
    let s : Source = record { name = l.name; kind = l.kind; state = state_of x } in
    (s, ap (λ c. cond c (Some s) (source_named name (sources_of ls xs))) (same_bytes l.name name e), ap state_of q, ap (λ (k : Label). k.kind) this)
find_source (l ∷ ls) (x ∷ xs) name (suc place) b distinct h at =
    let rest = find_source ls xs name place b (IsDistinct-tail bytes_eq l.name (map (λ (k : Label). k.name) ls) distinct) h at in
    let s : Source = record { name = l.name; kind = l.kind; state = state_of x } in
    let other : l.name ≡ name → ⊥ = λ e. zero≢suc place (one_place (map (λ (k : Label). k.name) (l ∷ ls)) name zero (suc place) distinct (ap Some e) (named_in ls place name h)) in
    (rest.0, ap (λ c. cond c (Some s) (source_named name (sources_of ls xs))) (other_bytes l.name name other) ∙ rest.1, rest.2, rest.3)

pub standing_at : (e : Shown) (w : World) (source : Name) (place : ℕ) (b : BoxState) → IsSound e → Agrees e w → IsNamedAt e.labels place source → slice_get e.boxes place ≡ Some (Some b) → is_honest b → IsStanding w source b.nature.kind b.content.holdings
standing_at e w source place b sound h named there honest =
    let s = find_source e.labels e.boxes source place (Some b) sound.source_names named there in
    record { at = s.0; is = ap (source_named source) h.sources ∙ s.1; state = s.2 ∙ honest_state b honest }

server_in : (e : Shown) (w : World) (server : Name) (at : ServerObject) → Agrees e w → server_named e.catalog server ≡ Some at → server_named w.catalog server ≡ Some at
server_in e w server at h is = ap (λ (o : Objects). server_named o server) h.catalog ∙ is

-- the source of the server serves in the world, as its box shows
pub serves_at : (e : Shown) (w : World) (server : Name) (place : ℕ) (b : BoxState) → IsSound e → Agrees e w → IsServerAt e server place → slice_get e.boxes place ≡ Some (Some b) → is_honest b → Serves w server b.nature.kind b.content.holdings
serves_at e w server place b sound h at there honest = record {
  at = at.at;
  is = server_in e w server at.at h at.is;
  stands = standing_at e w at.at.source place b sound h at.source there honest;
}

-- a server serves by one kind and one store
pub one_store : (w : World) (server : Name) (k m : Kind) (f g : Name → Holding) → Serves w server k f → Serves w server m g → f ≡ g
one_store w server k m f g a b =
    let at : a.at ≡ b.at = same_Some a.at b.at (sym a.is ∙ b.is) in
    let one : Some a.stands.at ≡ Some b.stands.at = sym a.stands.is ∙ ap (λ (s : ServerObject). source_named s.source w.sources) at ∙ b.stands.is in
    let s : a.stands.at ≡ b.stands.at = same_Some a.stands.at b.stands.at one in
    let st : standing k f ≡ standing m g = sym a.stands.state ∙ ap (λ (x : Source). x.state) s ∙ b.stands.state in
    cc

-- one standing source is one with one kind
pub one_kind : (w : World) (server : Name) (k m : Kind) (f g : Name → Holding) → Serves w server k f → Serves w server m g → k ≡ m
one_kind w server k m f g a b =
    let at : a.at ≡ b.at = same_Some a.at b.at (sym a.is ∙ b.is) in
    let one : Some a.stands.at ≡ Some b.stands.at = sym a.stands.is ∙ ap (λ (s : ServerObject). source_named s.source w.sources) at ∙ b.stands.is in
    let s : a.stands.at ≡ b.stands.at = same_Some a.stands.at b.stands.at one in
    let st : standing k f ≡ standing m g = sym a.stands.state ∙ ap (λ (x : Source). x.state) s ∙ b.stands.state in
    cc

-- ---- sources that are shared

-- a server whose box is not honest has a shared source
pub shared_at : (e : Shown) (w : World) (server : Name) (place : ℕ) (b : BoxState) → IsSound e → Agrees e w → IsServerAt e server place → slice_get e.boxes place ≡ Some (Some b) → b.nature.honest ≡ false → is_shared_server w server ≡ true
shared_at e w server place b sound h at there lies =
    let s = find_source e.labels e.boxes at.at.source place (Some b) sound.source_names at.source there in
    ap (has_shared w.sources) (server_in e w server at.at h at.is)
    ∙ ap is_shared_source (ap (source_named at.at.source) h.sources ∙ s.1) ∙ ap is_shared_state (s.2 ∙ shared_state b lies)

-- and the box of one that is not shared is honest
pub honest_at : (e : Shown) (w : World) (server : Name) (place : ℕ) (b : BoxState) → IsSound e → Agrees e w → IsServerAt e server place → slice_get e.boxes place ≡ Some (Some b) → is_shared_server w server ≡ false → is_honest b
honest_at e w server place b sound h at there known = by b.nature.honest refl
  where
    by : (honest : Bool) → b.nature.honest ≡ honest → b.nature.honest ≡ true
    by true is = is
    by false is = absurd (false≢true (sym known ∙ shared_at e w server place b sound h at there is))

-- a source that is shared serves with no holdings
pub none_serves : (w : World) (server : Name) (kind : Kind) (holdings : Name → Holding) → is_shared_server w server ≡ true → Serves w server kind holdings → ⊥
none_serves w server kind holdings is s = false≢true (sym known ∙ is)
  where
    known : is_shared_server w server ≡ false
    known = ap (has_shared w.sources) s.is ∙ ap is_shared_source s.stands.is ∙ ap is_shared_state s.stands.state

-- ---- rows

-- the rows of a table are those of its box still, where the table is another one, or its slot
row_spared : (old new : List (Option BoxState)) (place : ℕ) (only : ℕ → Type 0) (a : Attached) (rows : List Held) → ChangesAt old place (Spares only) new
    → (a.source ≡ place → only a.number → ⊥) → AreRowsOf old a rows → AreRowsOf new a rows
row_spared old new place only a rows h other r = split (eqb_tells a.source place)
  where
    split : ((eqb a.source place ≡ true) × (a.source ≡ place)) ⊎ ((eqb a.source place ≡ false) × (a.source ≢ place)) → AreRowsOf new a rows
    split (inl s) =
        let e : h.before ≡ r.box = same_box h.before r.box (sym h.there ∙ ap (slice_get old) (sym s.1) ∙ r.there) in
        record {
          box = h.after;
          there = ap (slice_get new) s.1 ∙ h.now;
          holds = λ honest.
              let was = honest_since h.before h.after h.change.nature honest in
              let same : rows_of h.after a.number ≡ rows_of h.before a.number = h.change.rows was a.number (other s.1) in
              subst (λ (rs : List TableRow). IsPermutation (map held rs) rows) (sym (same ∙ ap (λ (b : BoxState). rows_of b a.number) e)) (r.holds (subst is_honest e was));
        }
    split (inr s) = record { box = r.box; there = h.others a.source s.1 ∙ r.there; holds = r.holds }

-- those of all tables
rows_spared : (old new : List (Option BoxState)) (place : ℕ) (only : ℕ → Type 0) → ChangesAt old place (Spares only) new → (bound : List Attached) (rows : List (List Held))
    → ((k : ℕ) (a : Attached) → slice_get bound k ≡ Some a → a.source ≡ place → only a.number → ⊥) → RowsAgree old bound rows → RowsAgree new bound rows
rows_spared old new place only h [] [] other r = tt
rows_spared old new place only h [] (x ∷ xs) other r = absurd r
rows_spared old new place only h (a ∷ more) [] other r = absurd r
rows_spared old new place only h (a ∷ more) (x ∷ xs) other r = (
  row_spared old new place only a x h (other zero a refl) r.0,
  rows_spared old new place only h more xs (λ k. other (suc k)) r.1,
)

rows_push : (boxes : List (Option BoxState)) (bound : List Attached) (rows : List (List Held)) (a : Attached) (r : List Held) → RowsAgree boxes bound rows → AreRowsOf boxes a r → RowsAgree boxes (bound ++ a ∷ []) (rows ++ r ∷ [])
rows_push boxes [] [] a r h last = (last, tt)
rows_push boxes [] (x ∷ xs) a r h last = absurd h
rows_push boxes (b ∷ bs) [] a r h last = absurd h
rows_push boxes (b ∷ bs) (x ∷ xs) a r h last = (h.0, rows_push boxes bs xs a r h.1 last)

rows_gone : (boxes : List (Option BoxState)) (name : Name) (tables : List TableObject) (bound : List Attached) (rows : List (List Held)) → RowsAgree boxes bound rows → RowsAgree boxes (beside_without name tables bound) (beside_without name tables rows)
rows_gone boxes name [] bound rows h = h
rows_gone boxes name (t ∷ ts) [] [] h = tt
rows_gone boxes name (t ∷ ts) [] (x ∷ xs) h = absurd h
rows_gone boxes name (t ∷ ts) (b ∷ bs) [] h = absurd h
rows_gone boxes name (t ∷ ts) (b ∷ bs) (x ∷ xs) h = split (bytes_eq name t.name) (rows_gone boxes name ts bs xs h.1)
  where
    split : (c : Bool) → RowsAgree boxes (beside_without name ts bs) (beside_without name ts xs)
        → RowsAgree boxes (cond c bs (b ∷ beside_without name ts bs)) (cond c xs (x ∷ beside_without name ts xs))
    split true rest = h.1
    split false rest = (h.0, rest)

-- ---- the changes

-- one of the catalogue alone
pub catalog_agrees : (e : Shown) (change : ObjectChange) (w : World) → (changed change w.catalog).tables ≡ w.catalog.tables → Agrees e w → Agrees (with_change e change) (with_catalog w change)
catalog_agrees e change w tables h = record { catalog = ap (changed change) h.catalog; sources = h.sources; rows = h.rows; sessions = sessions_still e e.boxes w (with_catalog w change) refl tables refl (all_stay e e.boxes h.scans (left_itself e)) h; scans = catalog_scans e change (sym (ap (λ (o : Objects). (changed change o).tables) h.catalog) ∙ tables ∙ ap (λ (o : Objects). o.tables) h.catalog) h.scans }

-- a table that is bound has another number than a fresh one
pub fresh_other : (e : Shown) (place number : ℕ) (b : BoxState) → IsSound e → length e.bound ≡ length e.catalog.tables → slice_get e.boxes place ≡ Some (Some b) → table_of b number ≡ None
    → (k : ℕ) (a : Attached) (t : TableObject) → slice_get e.catalog.tables k ≡ Some t → slice_get e.bound k ≡ Some a → a.source ≡ place → a.number ≢ number
fresh_other e place number b sound many there fresh k a t table at here same =
    let w : IsBoundAs e t a = sound.tables_bound k t a table at in
    let e1 : w.box ≡ b = same_box w.box b (sym w.there ∙ ap (slice_get e.boxes) here ∙ there) in
    none_some w.bound (table_of b number) fresh (sym (ap (λ (x : BoxState). table_of x number) e1) ∙ sym (ap (table_of w.box) same) ∙ w.is)

pub has_table : (ts : List TableObject) (bs : List Attached) (k : ℕ) (a : Attached) → length bs ≡ length ts → slice_get bs k ≡ Some a → (t : TableObject) × (slice_get ts k ≡ Some t)
has_table [] [] k a many at = absurd cc
has_table [] (x ∷ xs) k a many at = absurd (omega arith)
has_table (t ∷ ts) [] k a many at = absurd cc
has_table (t ∷ ts) (x ∷ xs) zero a many at = (t, refl)
has_table (t ∷ ts) (x ∷ xs) (suc k) a many at = has_table ts xs k a (omega arith) at

-- what is said of a table that is bound, by whether its box is honest
record BoundIn (e : Shown) (t : TableObject) (w : World) (h : BoxState) (number : ℕ) : Type 0 where
  pub pick : Pick
  pub picked : PicksEntry w t pick
  pub rows : List Held
  pub has : HasRows w pick t rows
  pub are : is_honest h → IsPermutation (map held (rows_of h number)) rows

bound_in : (e : Shown) (t : TableObject) (w : World) (place number : ℕ) (b c : BoxState) → IsSound e → Agrees e w → IsServerAt e t.server place → slice_get e.boxes place ≡ Some (Some b) → Binds b t.remote t.columns t.settings number c → BoundIn e t w c number
bound_in e t w place number b c sound agrees server there h = by b.nature.honest refl
  where
    by : (honest : Bool) → b.nature.honest ≡ honest → BoundIn e t w c number
    by true honest = record {
      pick = record no_pick { entry = h.entry };
      picked = λ kind holdings s. subst (λ (f : Name → Holding). Picks (f t.remote) h.entry) (one_store w t.server b.nature.kind kind b.content.holdings holdings serves s) (h.picked honest);
      rows = reading.rows;
      has = as_read reading reads (h.no_cause honest) refl;
      are = λ now. subst (λ (rs : List Held). IsPermutation (map held (rows_of c number)) rs) (h.rows honest) (IsPermutation-refl (map held (rows_of c number)));
    }
      where
        reading : Reading
        reading = b.nature.kind.reads t.columns t.settings h.entry

        serves : Serves w t.server b.nature.kind b.content.holdings
        serves = serves_at e w t.server place b sound agrees server there honest

        reads : Reads w t h.entry reading
        reads = record { kind = b.nature.kind; holdings = b.content.holdings; serves = serves; read = refl }
    by false lies = record {
      pick = no_pick;
      picked = λ kind holdings s. absurd (none_serves w t.server kind holdings is_shared_there s);
      rows = [];
      has = any_rows is_shared_there;
      are = λ honest. absurd (false≢true (sym lies ∙ honest_since b c h.nature honest));
    }
      where
        is_shared_there : is_shared_server w t.server ≡ true
        is_shared_there = shared_at e w t.server place b sound agrees server there lies

-- a table is bound
pub bind_agrees : (e n : Shown) (t : TableObject) (w : World) → IsSound e → (h : BindsTable e t n) → Agrees e w
    → (p : Pick) × PicksEntry w t p × ((after : World) × Changes w p (new_table t) after × Agrees n after)
bind_agrees e n t w sound h agrees = (x.pick, x.picked, (after, (x.rows, x.has, refl), subst (λ (y : Shown). Agrees y after) (sym h.is) agrees_after))
  where
    b : BoxState
    b = h.binds.before

    x : BoundIn e t w h.binds.after h.number
    x = bound_in e t w h.place h.number b h.binds.after sound agrees h.server h.binds.there h.binds.change

    after : World
    after = record (with_catalog w (new_table t)) { rows = w.rows ++ x.rows ∷ [] }

    new : List (Option BoxState)
    new = n.boxes

    spares : ChangesAt e.boxes h.place (Spares (that_is h.number)) new
    spares = changes_by (λ x y. Binds x t.remote t.columns t.settings h.number y) (Spares (that_is h.number)) e.boxes new h.place (λ x y k. binds_spares x y t.remote t.columns t.settings h.number k) h.binds

    others : RowsAgree new e.bound w.rows
    others = rows_spared e.boxes new h.place (that_is h.number) spares e.bound w.rows
        (λ k a at. let u = has_table e.catalog.tables e.bound k a sound.many at in fresh_other e h.place h.number b sound sound.many h.binds.there h.binds.change.fresh k a u.0 u.1 at) agrees.rows

    last : AreRowsOf new (record { source = h.place; number = h.number }) x.rows
    last = record { box = h.binds.after; there = h.binds.now; holds = x.are }

    many : length w.rows ≡ length w.catalog.tables
    many = many_rows e.boxes e.bound w.rows agrees.rows ∙ sound.many ∙ ap (λ (o : Objects). length o.tables) (sym agrees.catalog)

    grown : Shown
    grown = record (with_change e (new_table t)) { boxes = new; bound = e.bound ++ record { source = h.place; number = h.number } ∷ [] }

    agrees_after : Agrees grown after
    agrees_after = record {
      scans = bind_scans e n t sound h;
      catalog = ap (changed (new_table t)) agrees.catalog;
      sources = agrees.sources ∙ sym (sources_spared e new h.place (that_is h.number) spares);
      rows = rows_push new e.bound w.rows (record { source = h.place; number = h.number }) x.rows others last;
      sessions = sessions_stay e new w after refl (λ l taken y. pushed_stands w t x.rows l many y) (all_stay e new sound.scans (quiet_left e new h.place (bind_quiet e n t sound h))) agrees;
    }

-- a table is unbound
pub unbind_agrees : (e n : Shown) (name : Name) (w : World) (p : Pick) → IsSound e → leased e name ≡ false → (h : UnbindsTable e name n) → Agrees e w → (after : World) × Changes w p (no_table name) after × Agrees n after
unbind_agrees e n name w p sound free h agrees = (after, refl, subst (λ (x : Shown). Agrees x after) (sym h.is) agrees_after)
  where
    new : List (Option BoxState)
    new = n.boxes

    after : World
    after = record (with_catalog w (no_table name)) { rows = beside_without name w.catalog.tables w.rows }

    spares : ChangesAt e.boxes h.at.source (Spares (that_is h.at.number)) new
    spares = changes_by (λ x y. Unbinds x h.at.number y) (Spares (that_is h.at.number)) e.boxes new h.at.source (λ x y k. unbinds_spares x y h.at.number k) h.unbinds

    none : (s : BoxState) → slice_get e.boxes h.at.source ≡ Some (Some s) → NoScan s h.at.number
    none s there =
        let t = has_table e.catalog.tables e.bound h.place h.at sound.many h.bound in
        unleased_scan e h.place t.0 h.at s sound.bound_once sound.scans t.1 h.bound (ap (leased e) (first_named name e.catalog.tables h.place t.0 h.first t.1) ∙ free) there

    left : List Attached
    left = beside_without name e.catalog.tables e.bound

    gone : RowsAgree e.boxes left (beside_without name e.catalog.tables w.rows)
    gone = rows_gone e.boxes name e.catalog.tables e.bound w.rows agrees.rows

    apart : (k : ℕ) (a : Attached) → slice_get left k ≡ Some a → a.source ≡ h.at.source → a.number ≢ h.at.number
    apart k a at here same = let was = left_was name e.catalog.tables e.bound h.place h.first k a at in was.2 (sound.bound_once was.0 h.place a h.at was.1 h.bound here same)

    kept : RowsAgree new left (beside_without name e.catalog.tables w.rows)
    kept = rows_spared e.boxes new h.at.source (that_is h.at.number) spares left (beside_without name e.catalog.tables w.rows) apart gone

    shrunk : Shown
    shrunk = record (with_change e (no_table name)) { boxes = new; bound = left }

    agrees_after : Agrees shrunk after
    agrees_after = record {
      scans = unbind_scans e n name sound free h none;
      catalog = ap (changed (no_table name)) agrees.catalog;
      sources = agrees.sources ∙ sym (sources_spared e new h.at.source (that_is h.at.number) spares);
      rows = subst (λ (o : Objects). RowsAgree new left (beside_without name o.tables w.rows)) (sym agrees.catalog) kept;
      sessions = sessions_stay e new w after refl (λ l taken x. dropped_stands w name l (named_apart w l.table name taken (ap (λ f. f name) (leases_same e w sound agrees) ∙ free)) x) (all_stay e new sound.scans (quiet_left e new h.at.source (unbind_quiet e n name sound free h none))) agrees;
    }

-- a box is dropped
rows_elsewhere : (boxes : List (Option BoxState)) (place : ℕ) (bound : List Attached) (rows : List (List Held)) → ((k : ℕ) (a : Attached) → slice_get bound k ≡ Some a → a.source ≢ place)
    → RowsAgree boxes bound rows → RowsAgree (slice_set boxes place None) bound rows
rows_elsewhere boxes place [] [] other h = tt
rows_elsewhere boxes place [] (x ∷ xs) other h = absurd h
rows_elsewhere boxes place (a ∷ more) [] other h = absurd h
rows_elsewhere boxes place (a ∷ more) (x ∷ xs) other h = (
  record { box = h.0.box; there = set_other boxes place a.source None (other zero a refl) ∙ h.0.there; holds = h.0.holds },
  rows_elsewhere boxes place more xs (λ k. other (suc k)) h.1,
)

-- a call that was refused changes no world
pub refused_agrees : (e : Shown) (new : List (Option BoxState)) (place : ℕ) (fault : Fault) → ChangesAt e.boxes place (Refuses fault) new → (w : World) → Agrees e w → Agrees (record e { boxes = new }) w
refused_agrees e new place fault h w agrees = record {
  scans = refused_scans e new place fault h agrees.scans;
  catalog = agrees.catalog;
  sources = agrees.sources ∙ sym (sources_spared e new place nothing_at spares);
  rows = rows_spared e.boxes new place nothing_at spares e.bound w.rows (λ k a at here only. only) agrees.rows;
  sessions = sessions_still e new w w refl refl refl (all_stay e new agrees.scans (quiet_left e new place (refused_quiet e new place fault h))) agrees;
}
  where
    nothing_at : ℕ → Type 0
    nothing_at t = ⊥

    spares : ChangesAt e.boxes place (Spares nothing_at) new
    spares = changes_by (Refuses fault) (Spares nothing_at) e.boxes new place (λ x y k. refuses_spares fault nothing_at x y k) h

-- nor does a bind that was undone
pub vain_agrees : (e : Shown) (new : List (Option BoxState)) (t : TableObject) (place : ℕ) → IsSound e → ChangesAt e.boxes place (BindsInVain t) new → (w : World) → Agrees e w → Agrees (record e { boxes = new }) w
vain_agrees e new t place sound h w agrees = record {
  scans = vain_scans e new t place sound h;
  catalog = agrees.catalog;
  sources = agrees.sources ∙ sym (sources_spared e new place only spares);
  rows = rows_spared e.boxes new place only spares e.bound w.rows
      (λ k a at. let u = has_table e.catalog.tables e.bound k a sound.many at in fresh_other e place h.change.number h.before sound sound.many h.there h.change.binds.fresh k a u.0 u.1 at) agrees.rows;
  sessions = sessions_still e new w w refl refl refl (all_stay e new agrees.scans (quiet_left e new place (vain_quiet e new t place sound h))) agrees;
}
  where
    only : ℕ → Type 0
    only = that_is h.change.number

    spares : ChangesAt e.boxes place (Spares only) new
    spares = record { before = h.before; after = h.after; there = h.there; now = h.now; others = h.others; slots = h.slots; change = vain_spares t h.before h.after h.change }

pub drop_agrees : (e n : Shown) (name : Name) (w : World) (p : Pick) → IsSound e → (h : DropsBox e name n) → Agrees e w → (after : World) × Changes w p (no_server name) after × Agrees n after
drop_agrees e n name w p sound h agrees = (after, is, subst (λ (x : Shown). Agrees x after) (sym h.is) agrees_after)
  where
    new : List (Option BoxState)
    new = slice_set e.boxes h.place None

    after : World
    after = record (with_catalog w (no_server name)) { sources = drop_source h.server.at.source w.sources }

    is : Changes w p (no_server name) after
    is = ap (λ (s : Option ServerObject). record (with_catalog w (no_server name)) { sources = drop_source_of s w.sources }) (sym (server_in e w name h.server.at agrees h.server.is))

    shrunk : Shown
    shrunk = record (with_change e (no_server name)) { boxes = new }

    apart : (k : ℕ) (a : Attached) → slice_get e.bound k ≡ Some a → a.source ≢ h.place
    apart k a at here =
        let u = has_table e.catalog.tables e.bound k a sound.many at in
        let x : IsBoundAs e u.0 a = sound.tables_bound k u.0 a u.1 at in
        let e1 : x.box ≡ h.box = same_box x.box h.box (sym x.there ∙ ap (slice_get e.boxes) here ∙ h.there) in
        none_some x.bound (table_of h.box a.number) (h.idle.no_table a.number) (sym (ap (λ (y : BoxState). table_of y a.number) e1) ∙ x.is)

    agrees_after : Agrees shrunk after
    agrees_after = record {
      scans = drop_scans e h.place h.box h.there h.idle name sound.scans;
      catalog = ap (changed (no_server name)) agrees.catalog;
      sources = ap (drop_source h.server.at.source) agrees.sources ∙ sym (sources_dropped e.labels e.boxes h.place h.server.at.source (Some h.box) sound.source_names h.server.source h.there);
      rows = rows_elsewhere e.boxes h.place e.bound w.rows apart agrees.rows;
      sessions = sessions_still e new w after refl refl refl (all_stay e new sound.scans (drop_left e h.place h.box h.there h.idle)) agrees;
    }

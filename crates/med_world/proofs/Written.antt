-- A write that is done leads each world that agrees to one that agrees, and leaves an engine sound.
use Rattle.std.proofs.Common.{◌≡◌, ◌≢◌, ℕ, ◌+◌, ◌⊎◌, true, false, List, Option, Some, is_some, map, slice_get, refl, ap, sym, ◌∙◌, subst, inl, inr, eqb, arith, bytes_eq, IsPermutation, if◌then◌else◌, Bool}
use Rattle.std.proofs.lemmas.Bool.{false≢true}
use Rattle.std.proofs.lemmas.Bool.Decides.{eqb_tells}
use Rattle.std.proofs.lemmas.List.Sorted.{IsPermutation-trans}
use Rattle.std.proofs.lemmas.Option.{same_Some}
use Rattle.med_value.specs.Datum.{Tuple}
use Rattle.med_syntax.specs.Prelude.{Name, WriteTree}
use Rattle.tri_expr.proofs.Shuffled.{Shuffled, back, to_swaps, from_swaps, same as same_shuffled}
use Rattle.fdw_api.specs.Prelude.{Kind, Entry, Holding, Known, Unknown, Held, held, TableRow, Nature, BoxTable, BoxState, is_honest, table_of, scan_of, rows_of, NoScan, HoldsImage, Written}
use Rattle.med_exec.specs.Slots.{ChangesAt}
use Rattle.med_write.specs.Writing.{rows_after}
use Rattle.med_exec.proofs.WrittenRows.{rows_written}
use Rattle.bind_write.specs.Meaning.{target_of}
use Rattle.med_catalog.specs.Objects.{ServerObject, TableObject, Objects, server_named, table_named}
use Rattle.med_binder.specs.Places.{Attached}
use Rattle.sql_meaning.specs.Prelude.{World, standing, is_shared_server, is_shared, rows_with, rows_named, holding_at, holds_at, with_state, rows_held, writes_shared, IsTarget, holding_after}
use Rattle.med_world.specs.Engine.{Shown, IsServerAt, IsWrittenAs, IsBoundAs, IsSound, IsFirst, state_of, sources_of, AreRowsOf, RowsAgree, Agrees, Rises, EachRises, leased}
use Rattle.med_world.specs.Writing.{columns_for, form_for, IsTargetAt, DoesWrite}
use Rattle.med_world.specs.Laws.{with_boxes}
use Rattle.med_world.proofs.Seats.{sessions_stay, sessions_still, leases_same, named_apart, written_stands}
use Rattle.med_world.proofs.Scans.{leases_itself, all_stay, unleased_scan}
use Rattle.med_world.proofs.ScansChanged.{IsQuiet, quiet_left, quiet_scans, first_named}
use Rattle.med_world.proofs.Lists.{bytes_same, bytes_other}
use Rattle.med_world.proofs.Faring.{same_box, changes_by, changes_rise, rises_itself, was_there, is_there}
use Rattle.med_world.proofs.Altered.{sources_set, serves_at, shared_at, honest_at}
use Rattle.med_world.proofs.States.{honest_state, honest_since, same_state}
use Rattle.med_world.proofs.Sounds.{standing_still, written_still, takes_by, sound_changed, as_many}
use Rattle.med_world.proofs.AnyRows.{after_same}
use Rattle.med_world.proofs.WrittenBoxes.{KeepsBox, keeps_itself, written_keeps, written_rises, written_box_sound}
use Rattle.med_world.proofs.TargetRows.{Stays, first_from, first_table, rows_found, rows_stay, rows_changed, sources_changed}

-- ---- the table that is written, in its box

-- the table of the catalogue, and how its box has it
pub record TargetIn (e : Shown) (t : WriteTree) (at : Attached) (b : BoxState) : Type 0 where
  pub place : ℕ
  pub first : IsFirst (target_of t) e.catalog.tables place
  pub there : slice_get e.bound place ≡ Some at
  pub table : TableObject
  pub named : table_named e.catalog (target_of t) ≡ Some table
  pub server : IsServerAt e table.server at.source
  pub bound : BoxTable
  pub is : table_of b at.number ≡ Some bound
  pub remote : bound.remote ≡ table.remote
  pub writes : IsWrittenAs b.nature.kind table bound

pub target_in : (e : Shown) (t : WriteTree) (at : Attached) (b : BoxState) → IsSound e → IsTargetAt e.catalog e.bound t at → slice_get e.boxes at.source ≡ Some (Some b) → TargetIn e t at b
target_in e t at b sound target there = record {
  place = f.0;
  first = f.2;
  there = at_place;
  table = u.0;
  named = u.2;
  server = x.server;
  bound = x.bound;
  is = ap (λ (s : BoxState). table_of s at.number) (sym same) ∙ x.is;
  remote = x.remote;
  writes = written_still u.0 x.bound x.box.nature b.nature (sym (ap (λ (s : BoxState). s.nature) same)) x.writes;
}
  where
    f : (k : ℕ) × (target.place ≡ 0 + k) × IsFirst (target_of t) e.catalog.tables k
    f = first_from e.catalog.tables (target_of t) 0 target.place target.named

    is_place : target.place ≡ f.0
    is_place = let same : target.place ≡ 0 + f.0 = f.1 in omega (arith, same)

    at_place : slice_get e.bound f.0 ≡ Some at
    at_place = ap (slice_get e.bound) (sym is_place) ∙ target.there

    u : (u : TableObject) × (slice_get e.catalog.tables f.0 ≡ Some u) × (table_named e.catalog (target_of t) ≡ Some u)
    u = first_table e.catalog.tables (target_of t) f.0 f.2

    x : IsBoundAs e u.0 at
    x = sound.tables_bound f.0 u.0 at u.1 at_place

    same : x.box ≡ b
    same = same_box x.box b (sym x.there ∙ there)

-- in a world: the table, its source, and its rows
pub target_world : (e : Shown) (w : World) (t : WriteTree) (at : Attached) (b : BoxState) → IsSound e → Agrees e w → slice_get e.boxes at.source ≡ Some (Some b) → (x : TargetIn e t at b) → is_honest b → IsTarget w t x.table b.nature.kind b.content.holdings
target_world e w t at b sound a there x honest = record {
  there = ap (λ (o : Objects). table_named o (target_of t)) a.catalog ∙ x.named;
  serves = serves_at e w x.table.server at.source b sound a x.server there honest;
}

-- whether its source is shared
shared_as : (e : Shown) (w : World) (t : WriteTree) (at : Attached) (b : BoxState) → Agrees e w → (x : TargetIn e t at b) → writes_shared w t ≡ is_shared_server w x.table.server
shared_as e w t at b a x = ap (is_shared w) (ap (λ (o : Objects). table_named o (target_of t)) a.catalog ∙ x.named)

pub target_honest : (e : Shown) (w : World) (t : WriteTree) (at : Attached) (b : BoxState) → IsSound e → Agrees e w → slice_get e.boxes at.source ≡ Some (Some b) → TargetIn e t at b → writes_shared w t ≡ false → is_honest b
target_honest e w t at b sound a there x unshared = honest_at e w x.table.server at.source b sound a x.server there (sym (shared_as e w t at b a x) ∙ unshared)

pub target_shared : (e : Shown) (w : World) (t : WriteTree) (at : Attached) (b : BoxState) → IsSound e → Agrees e w → slice_get e.boxes at.source ≡ Some (Some b) → TargetIn e t at b → b.nature.honest ≡ false → writes_shared w t ≡ true
target_shared e w t at b sound a there x lies = shared_as e w t at b a x ∙ shared_at e w x.table.server at.source b sound a x.server there lies

pub held_same : (e : Shown) (w : World) (t : WriteTree) (at : Attached) (b : BoxState) → Agrees e w → slice_get e.boxes at.source ≡ Some (Some b) → TargetIn e t at b → is_honest b → Shuffled (map held (rows_of b at.number)) (rows_held w t)
held_same e w t at b a there x honest = from_swaps (map held (rows_of b at.number)) (rows_held w t)
    (subst (λ (o : Objects). IsPermutation (map held (rows_of b at.number)) (rows_named (target_of t) o.tables w.rows)) (sym a.catalog)
    (subst (λ (s : BoxState). IsPermutation (map held (rows_of s at.number)) (rows_named (target_of t) e.catalog.tables w.rows)) same (found.holds (subst is_honest (sym same) honest))))
  where
    found : AreRowsOf e.boxes at (rows_named (target_of t) e.catalog.tables w.rows)
    found = rows_found e.boxes (target_of t) e.catalog.tables e.bound w.rows x.place at x.first a.rows x.there

    same : found.box ≡ b
    same = same_box found.box b (sym found.there ∙ there)

-- ---- the rows of other tables

stays_elsewhere : (old new : List (Option BoxState)) (P : BoxState → BoxState → Type 0) (slot number : ℕ) (c : Attached) → (h : ChangesAt old slot P new)
    → h.after.nature ≡ h.before.nature → (is_honest h.before → (u : ℕ) → u ≢ number → rows_of h.after u ≡ rows_of h.before u) → (is_honest h.before → c.source ≡ slot → c.number ≢ number) → Stays old new c
stays_elsewhere old new P slot number c h nature kept other rows r = split (eqb_tells c.source slot)
  where
    split : ((eqb c.source slot ≡ true) × (c.source ≡ slot)) ⊎ ((eqb c.source slot ≡ false) × (c.source ≢ slot)) → AreRowsOf new c rows
    split (inl s) =
        let e : h.before ≡ r.box = same_box h.before r.box (sym h.there ∙ ap (slice_get old) (sym s.1) ∙ r.there) in
        record {
          box = h.after;
          there = ap (slice_get new) s.1 ∙ h.now;
          holds = λ honest.
              let was = honest_since h.before h.after nature honest in
              let same : rows_of h.after c.number ≡ rows_of r.box c.number = kept was c.number (other was s.1) ∙ ap (λ (b : BoxState). rows_of b c.number) e in
              subst (λ (rs : List TableRow). IsPermutation (map held rs) rows) (sym same) (r.holds (subst is_honest e was));
        }
    split (inr s) = record { box = r.box; there = h.others c.source s.1 ∙ r.there; holds = r.holds }

-- ---- what the source holds

image_after : (bound : BoxTable) (rows : List Held) (old new : Holding) → HoldsImage bound rows old new → new ≡ holding_after (λ e. bound.image e rows) old
image_after bound rows (Known e) new h = h
image_after bound rows Unknown new h = h

holding_now : (remote : Name) (now : Holding) (old new : Name → Holding) → new remote ≡ now → ((r : Name) → (r ≡ remote → ⊥) → new r ≡ old r) → new ≡ holding_at remote now old
holding_now remote now old new here others = λ i r. at r (bytes_eq r remote) refl i
  where
    at : (r : Name) (c : Bool) → bytes_eq r remote ≡ c → new r ≡ (if c then now else old r)
    at r true is = ap new (bytes_same r remote is) ∙ here
    at r false is = others r (bytes_other r remote is)

-- ---- a write that is done

abbrev pub Done : Shown → WriteTree → List Tuple → Attached → ℕ → List (Option BoxState) → Type 0
Done e t answer at count new = ChangesAt e.boxes at.source (λ a b. DoesWrite e.catalog t answer at.number count a b) new

done_keeps : (e : Shown) (t : WriteTree) (answer : List Tuple) (at : Attached) (count : ℕ) (new : List (Option BoxState)) → Done e t answer at count new → ChangesAt e.boxes at.source KeepsBox new
done_keeps e t answer at count new h =
    changes_by (λ a b. DoesWrite e.catalog t answer at.number count a b) KeepsBox e.boxes new at.source
    (λ a b k. written_keeps (columns_for e.catalog t) (form_for e.catalog t) answer a at.number count b k.writes) h

-- the table that is written is not leased, so that no scan of it is live
pub no_scan_there : (e : Shown) (t : WriteTree) (at : Attached) (b : BoxState) → IsSound e → leased e (target_of t) ≡ false → IsTargetAt e.catalog e.bound t at → slice_get e.boxes at.source ≡ Some (Some b) → NoScan b at.number
no_scan_there e t at b sound free target there = unleased_scan e f.0 u.0 at b sound.bound_once sound.scans u.1 at_place (ap (leased e) (first_named (target_of t) e.catalog.tables f.0 u.0 f.2 u.1) ∙ free) there
  where
    f : (k : ℕ) × (target.place ≡ 0 + k) × IsFirst (target_of t) e.catalog.tables k
    f = first_from e.catalog.tables (target_of t) 0 target.place target.named

    at_place : slice_get e.bound f.0 ≡ Some at
    at_place = let same : target.place ≡ f.0 = (let z : target.place ≡ 0 + f.0 = f.1 in omega (arith, z)) in ap (slice_get e.bound) (sym same) ∙ target.there

    u : (u : TableObject) × (slice_get e.catalog.tables f.0 ≡ Some u) × (table_named e.catalog (target_of t) ≡ Some u)
    u = first_table e.catalog.tables (target_of t) f.0 f.2

-- a write leaves the scans of other tables
written_quiet : (e : Shown) (t : WriteTree) (answer : List Tuple) (number count : ℕ) (b c : BoxState) → NoScan b number → DoesWrite e.catalog t answer number count b c → IsQuiet b c
written_quiet e t answer number count b c none h = record {
  live = keeps.live;
  staged = keeps.staged;
  keeps = λ q scan live. record {
    nature = keeps.nature;
    live = ap (λ m. scan_of (record b { ledger = record b.ledger { live = m } }) q) keeps.live ∙ live;
    table = ap (λ f. f scan.table) keeps.tables;
    coming = λ honest. (h.writes.content honest).leaves.coming q (ap is_some live) (λ x. x);
    rows = λ honest. (h.writes.content honest).leaves.rows scan.table (none q scan live);
  };
}
  where
    keeps : KeepsBox b c
    keeps = written_keeps (columns_for e.catalog t) (form_for e.catalog t) answer b number count c h.writes

done_quiet : (e : Shown) (t : WriteTree) (answer : List Tuple) (at : Attached) (count : ℕ) (new : List (Option BoxState)) → IsSound e → leased e (target_of t) ≡ false → IsTargetAt e.catalog e.bound t at → Done e t answer at count new → ChangesAt e.boxes at.source IsQuiet new
done_quiet e t answer at count new sound free target h = record {
  before = h.before;
  after = h.after;
  there = h.there;
  now = h.now;
  others = h.others;
  slots = h.slots;
  change = written_quiet e t answer at.number count h.before h.after (no_scan_there e t at h.before sound free target h.there) h.change;
}

pub done_rises : (e : Shown) (t : WriteTree) (answer : List Tuple) (at : Attached) (count : ℕ) (new : List (Option BoxState)) → Done e t answer at count new → EachRises e.boxes new
done_rises e t answer at count new h = changes_rise Or e.boxes new at.source (λ b. inl refl) rises (changes_by P Or e.boxes new at.source (λ b c k. inr k) h)
  where
    P : BoxState → BoxState → Type 0
    P b c = DoesWrite e.catalog t answer at.number count b c

    Or : BoxState → BoxState → Type 0
    Or b c = (c ≡ b) ⊎ P b c

    rises : (b c : BoxState) → Or b c → Rises b c
    rises b c (inl same) = subst (Rises b) (sym same) (rises_itself b)
    rises b c (inr k) = written_rises (columns_for e.catalog t) (form_for e.catalog t) answer b at.number count c k.writes

pub done_sound : (e : Shown) (t : WriteTree) (answer : List Tuple) (at : Attached) (count : ℕ) (new : List (Option BoxState)) → IsSound e → leased e (target_of t) ≡ false → IsTargetAt e.catalog e.bound t at → Done e t answer at count new → IsSound (with_boxes e new)
done_sound e t answer at count new sound free target h = record {
  objects = sound.objects;
  places = as_many P e.boxes new at.source h ∙ sound.places;
  sources = sound.sources;
  sessions = sound.sessions;
  seated = sound.seated;
  source_names = sound.source_names;
  scans = quiet_scans e (with_boxes e new) at.source refl sound.scans (done_quiet e t answer at count new sound free target h) (leases_itself e);
  sound_boxes = sound_changed P e.boxes new at.source (λ b c s k. written_box_sound (columns_for e.catalog t) (form_for e.catalog t) answer b at.number count c s k.can k.writes) h sound.sound_boxes;
  takes = takes_by e.labels e.boxes new (λ i c at_c. let x = was_there KeepsBox e.boxes new at.source i c keeps_itself keeps at_c in (x.0, x.1, x.2.nature)) sound.takes;
  servers_stand = λ s in_p. let p = sound.servers_stand s in_p in
      (p.0, standing_still e (with_boxes e new) s s p.0 refl refl refl (λ i b at_b. let x = is_there KeepsBox e.boxes new at.source i b keeps_itself keeps at_b in (x.0, x.1)) p.1);
  many = sound.many;
  tables_bound = λ k u a at_t at_a. let x = sound.tables_bound k u a at_t at_a in let now = is_there KeepsBox e.boxes new at.source a.source x.box keeps_itself keeps x.there in record {
    server = record { at = x.server.at; is = x.server.is; source = x.server.source };
    box = now.0;
    there = now.1;
    bound = x.bound;
    is = ap (λ f. f a.number) now.2.tables ∙ x.is;
    remote = x.remote;
    kinds = x.kinds;
    writes = written_still u x.bound x.box.nature now.0.nature now.2.nature x.writes;
  };
  bound_attached = λ slot number s b at_s is. let was = was_there KeepsBox e.boxes new at.source slot s keeps_itself keeps at_s in
      sound.bound_attached slot number was.0 b was.1 (sym (ap (λ f. f number) was.2.tables) ∙ is);
  bound_once = sound.bound_once;
}
  where
    P : BoxState → BoxState → Type 0
    P b c = DoesWrite e.catalog t answer at.number count b c

    keeps : ChangesAt e.boxes at.source KeepsBox new
    keeps = done_keeps e t answer at count new h

-- ---- in a world

bound_one : (a b : BoxTable) (o : Option BoxTable) → o ≡ Some a → o ≡ Some b → a ≡ b
bound_one a b o p q = cc

-- the world after the write, and what it says
pub record DoneIn (e : Shown) (w : World) (t : WriteTree) (answer : List Tuple) (new : List (Option BoxState)) : Type 0 where
  pub table : TableObject
  pub kind : Kind
  pub holdings : Name → Holding
  pub target : IsTarget w t table kind holdings
  pub rows : List Held
  pub same : IsPermutation (rows_after (kind.line table.columns table.settings) (form_for e.catalog t) answer (rows_held w t)) rows
  pub after : World
  pub is : after ≡ record w {
    rows = rows_with (target_of t) rows w.catalog.tables w.rows;
    sources = with_state target.serves.at.source
        (holds_at table.remote (holding_after (λ e. kind.image table.columns table.settings e rows) (holdings table.remote))) w.sources;
  }
  pub agrees : Agrees (with_boxes e new) after

pub done_agrees : (e : Shown) (w : World) (t : WriteTree) (answer : List Tuple) (at : Attached) (count : ℕ) (new : List (Option BoxState)) → IsSound e → leased e (target_of t) ≡ false → IsTargetAt e.catalog e.bound t at → (h : Done e t answer at count new) → Agrees e w → is_honest h.before → DoneIn e w t answer new
done_agrees e w t answer at count new sound free target_at h a honest = record {
  table = x.table;
  kind = b.nature.kind;
  holdings = b.content.holdings;
  target = target;
  rows = rows;
  same = same;
  after = after;
  is = refl;
  agrees = agrees;
}
  where
    b : BoxState
    b = h.before

    c : BoxState
    c = h.after

    honest_now : is_honest c
    honest_now = ap (λ (n : Nature). n.honest) h.change.writes.nature ∙ honest

    x : TargetIn e t at b
    x = target_in e t at b sound target_at h.there

    target : IsTarget w t x.table b.nature.kind b.content.holdings
    target = target_world e w t at b sound a h.there x honest

    k : Written b (record { table = at.number; changes = h.change.writes.changes; broken = false }) c
    k = h.change.writes.content honest

    one : k.bound ≡ x.bound
    one = bound_one k.bound x.bound (table_of b at.number) k.is x.is

    rows : List Held
    rows = map held (rows_of c at.number)

    line_is : x.bound.line ≡ b.nature.kind.line x.table.columns x.table.settings
    line_is = x.writes.line

    -- the rows of the box
    box_rows : rows ≡ x.bound.arrangement.arranged (rows_after x.bound.line (form_for e.catalog t) answer (map held (rows_of b at.number)))
    box_rows = rows_written (columns_for e.catalog t) (form_for e.catalog t) answer b c at.number count honest ((sound.sound_boxes at.source b h.there).once honest at.number x.bound x.is) h.change.writes x.bound x.is

    same : IsPermutation (rows_after (b.nature.kind.line x.table.columns x.table.settings) (form_for e.catalog t) answer (rows_held w t)) rows
    same = subst (λ (line : Tuple → List (List ℕ)). IsPermutation (rows_after line (form_for e.catalog t) answer (rows_held w t)) rows) line_is
        (IsPermutation-trans (rows_after x.bound.line (form_for e.catalog t) answer (rows_held w t)) (rows_after x.bound.line (form_for e.catalog t) answer (map held (rows_of b at.number))) rows
        (to_swaps (after_same x.bound.line (form_for e.catalog t) answer (rows_held w t) (map held (rows_of b at.number)) (back (held_same e w t at b a h.there x honest))))
        (subst (λ (rs : List Held). IsPermutation (rows_after x.bound.line (form_for e.catalog t) answer (map held (rows_of b at.number))) rs) (sym box_rows)
        (x.bound.arrangement.permutes (rows_after x.bound.line (form_for e.catalog t) answer (map held (rows_of b at.number))))))

    image : Option Entry → Option Entry
    image = λ en. b.nature.kind.image x.table.columns x.table.settings en rows

    now : Holding
    now = holding_after image (b.content.holdings x.table.remote)

    after : World
    after = record w {
      rows = rows_with (target_of t) rows w.catalog.tables w.rows;
      sources = with_state target.serves.at.source (holds_at x.table.remote now) w.sources;
    }

    -- what the source holds
    remote_is : k.bound.remote ≡ x.table.remote
    remote_is = ap (λ (z : BoxTable). z.remote) one ∙ x.remote

    held_now : c.content.holdings x.table.remote ≡ now
    held_now =
        subst (λ (r : Name). c.content.holdings r ≡ holding_after (λ en. k.bound.image en rows) (b.content.holdings r)) remote_is
        (image_after k.bound rows (b.content.holdings k.bound.remote) (c.content.holdings k.bound.remote) k.holdings)
        ∙ ap (λ (f : Option Entry → List Held → Option Entry). holding_after (λ en. f en rows) (b.content.holdings x.table.remote)) (ap (λ (z : BoxTable). z.image) one ∙ x.writes.image)

    holdings_are : c.content.holdings ≡ holding_at x.table.remote now b.content.holdings
    holdings_are = holding_now x.table.remote now b.content.holdings c.content.holdings held_now (λ r other. k.leaves.holdings r (λ is. other (is ∙ remote_is)))

    state_is : state_of (Some c) ≡ holds_at x.table.remote now (state_of (Some b))
    state_is = honest_state c honest_now ∙ (λ i. standing (h.change.writes.nature i).kind (holdings_are i)) ∙ sym (ap (holds_at x.table.remote now) (honest_state b honest))

    source_is : target.serves.at.source ≡ x.server.at.source
    source_is = ap (λ (s : ServerObject). s.source) (same_Some target.serves.at x.server.at (sym target.serves.is ∙ ap (λ (o : Objects). server_named o x.table.server) a.catalog ∙ x.server.is))

    sources : after.sources ≡ sources_of e.labels new
    sources =
        ap (λ (n : Name). with_state n (holds_at x.table.remote now) w.sources) source_is
        ∙ ap (with_state x.server.at.source (holds_at x.table.remote now)) a.sources
        ∙ sym (ap (sources_of e.labels) h.slots ∙ sources_changed e.labels e.boxes at.source x.server.at.source b c (holds_at x.table.remote now) sound.source_names x.server.source h.there state_is)

    -- the rows of all tables
    here : AreRowsOf new at rows
    here = record { box = c; there = h.now; holds = λ is. to_swaps (same_shuffled rows) }

    others : (j : ℕ) (d : Attached) → slice_get e.bound j ≡ Some d → j ≢ x.place → Stays e.boxes new d
    others j d at_d ne =
        stays_elsewhere e.boxes new (λ b c. DoesWrite e.catalog t answer at.number count b c) at.source at.number d h h.change.writes.nature (λ is u other. k.leaves.rows u other)
        (λ is source number. ne (sound.bound_once j x.place d at at_d x.there source number))

    table_rows : RowsAgree new e.bound (rows_with (target_of t) rows e.catalog.tables w.rows)
    table_rows = rows_changed e.boxes new (target_of t) rows e.catalog.tables e.bound w.rows x.place at x.first x.there here others a.rows

    keeps : ChangesAt e.boxes at.source KeepsBox new
    keeps = done_keeps e t answer at count new h

    agrees : Agrees (with_boxes e new) after
    agrees = record {
      scans = quiet_scans e (with_boxes e new) at.source refl sound.scans (done_quiet e t answer at count new sound free target_at h) (leases_itself e);
      catalog = a.catalog;
      sources = sources;
      rows = subst (λ (o : Objects). RowsAgree new e.bound (rows_with (target_of t) rows o.tables w.rows)) (sym a.catalog) table_rows;
      sessions = sessions_stay e new w after refl (λ l taken y. written_stands w after (target_of t) rows l refl refl (named_apart w l.table (target_of t) taken (ap (λ f. f (target_of t)) (leases_same e w sound a) ∙ free)) y) (all_stay e new sound.scans (quiet_left e new at.source (done_quiet e t answer at count new sound free target_at h))) a;
    }

-- where its source is shared the world stays as it was
pub done_unseen : (e : Shown) (w : World) (t : WriteTree) (answer : List Tuple) (at : Attached) (count : ℕ) (new : List (Option BoxState)) → IsSound e → leased e (target_of t) ≡ false → IsTargetAt e.catalog e.bound t at → (h : Done e t answer at count new) → Agrees e w
    → h.before.nature.honest ≡ false → Agrees (with_boxes e new) w
done_unseen e w t answer at count new sound free target h a lies = record {
  scans = quiet_scans e (with_boxes e new) at.source refl sound.scans quiet (leases_itself e);
  catalog = a.catalog;
  sources = a.sources ∙ sym (ap (sources_of e.labels) h.slots ∙ sources_set e.labels e.boxes at.source h.before h.after h.there (same_state h.before h.after h.change.writes.nature (λ honest r. absurd (untrue honest))));
  rows = rows_stay e.boxes new e.bound w.rows
      (λ j d at_d. stays_elsewhere e.boxes new (λ b c. DoesWrite e.catalog t answer at.number count b c) at.source at.number d h h.change.writes.nature (λ honest u other. absurd (untrue honest)) (λ honest same number. absurd (untrue honest))) a.rows;
  sessions = sessions_still e new w w refl refl refl (all_stay e new sound.scans (quiet_left e new at.source quiet)) a;
}
  where
    untrue : is_honest h.before → ⊥
    untrue honest = false≢true (sym lies ∙ honest)

    quiet : ChangesAt e.boxes at.source IsQuiet new
    quiet = done_quiet e t answer at count new sound free target h

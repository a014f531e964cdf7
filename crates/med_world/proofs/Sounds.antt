-- A change of objects that an engine makes leaves it sound.
use Rattle.std.proofs.Common.{◌≡◌, ◌≢◌, ℕ, ◌+◌, ◌⊎◌, true, false, List, [], ◌∷◌, ◌++◌, Option, Some, None, Contains, slice_get, slice_set, length, find, is_some, refl, ap, sym, ◌∙◌, subst, inl, inr, eqb, bytes_eq}
use Rattle.std.proofs.lemmas.Bool.Decides.{eqb_tells}
use Rattle.std.proofs.lemmas.List.{length-set, length_push}
use Rattle.std.proofs.lemmas.Option.{same_Some}
use Rattle.med_syntax.specs.Tree.{Name}
use Rattle.fdw_api.specs.Prelude.{Column, OptionForm, Nature, BoxState, BoxTable, Scan, IsIdle, table_of, scan_of, set_at, NoScan, Binds, CanUnbind, Unbinds, Refuses, IsSoundBox}
use Rattle.fdw_api.specs.declared.interface.Fault.{Fault}
use Rattle.med_exec.specs.Slots.{ChangesAt}
use Rattle.med_catalog.specs.Prelude.{ServerObject, TableObject, Objects, server_named, ObjectChange, new_table, no_table, no_server, changed, table_settings, column_settings}
use Rattle.med_binder.specs.Places.{Attached}
use Rattle.sql_meaning.specs.World.{beside_without}
use Rattle.med_world.specs.Engine.{Label, Shown, leased, EachTakes, EachBox, IsUnstaged, AreSound, IsServerAt, IsStandingAt, IsWrittenAs, IsBoundAs, IsAmong, IsSound, with_change, BindsTable, UnbindsTable, DropsBox}
use Rattle.med_world.specs.Altering.{BindsInVain}
use Rattle.med_world.proofs.Lists.{none_some, push_before, push_last, push_cases, past}
use Rattle.med_world.proofs.Indexes.{was_index, was_once, was_other, was_some, left_at, tables_left, as_many_left}
use Rattle.med_world.proofs.Faring.{Spares, that_is, vain_spares, spares_itself, changes_by, binds_spares, unbinds_spares, refuses_spares, was_there, is_there, set_other, set_this, set_that, same_box, left_box}
use Rattle.med_world.proofs.Altered.{has_table, fresh_other}
use Rattle.med_world.proofs.Ready.{unbind_ready}
use Rattle.med_world.proofs.Scans.{unleased_scan}
use Rattle.med_world.proofs.ScansChanged.{catalog_scans, bind_scans, unbind_scans, refused_scans, vain_scans, drop_scans, first_named, fresh_scan}

-- ---- laws of the crates below

-- boxes stay sound: `tables_stay_sound` of fdw_api
pub record StaySound : Type 0 where
  pub binds : (old new : BoxState) (remote : List ℕ) (columns : List Column) (settings : List OptionForm) (t : ℕ) → IsSoundBox old → Binds old remote columns settings t new → IsSoundBox new
  pub refuses : (old new : BoxState) (fault : Fault) → IsSoundBox old → Refuses fault old new → IsSoundBox new

-- What a change of the catalogue leaves of its servers but those of a name: a law of med_catalog, for each change.
pub record ServersStay (gone : Name → Type 0) (o p : Objects) : Type 0 where
  pub there : (name : Name) (at : ServerObject) → (gone name → ⊥) → server_named o name ≡ Some at → (now : ServerObject) × (server_named p name ≡ Some now) × (now.source ≡ at.source)
  pub back : (s : ServerObject) → Contains p.servers s → (was : ServerObject) × Contains o.servers was × (was.source ≡ s.source) × (was.kind ≡ s.kind)

abbrev pub none_gone : Name → Type 0
none_gone name = ⊥

-- ---- boxes

pub as_many : (P : BoxState → BoxState → Type 0) (old new : List (Option BoxState)) (slot : ℕ) → ChangesAt old slot P new → length new ≡ length old
as_many P old new slot h = ap (λ (l : List (Option BoxState)). length l) h.slots ∙ length-set old slot (Some h.after)

-- each box is as it was, or changed so
pub sound_changed : (P : BoxState → BoxState → Type 0) (old new : List (Option BoxState)) (slot : ℕ) → ((b c : BoxState) → IsSoundBox b → P b c → IsSoundBox c) → ChangesAt old slot P new → EachBox IsSoundBox old → EachBox IsSoundBox new
sound_changed P old new slot law h each i c at = was w.0 (each i w.0 w.1) w.2
  where
    Or : BoxState → BoxState → Type 0
    Or b c = (c ≡ b) ⊎ P b c

    w : (b : BoxState) × (slice_get old i ≡ Some (Some b)) × Or b c
    w = was_there Or old new slot i c (λ b. inl refl) (changes_by P Or old new slot (λ b d k. inr k) h) at

    was : (b : BoxState) → IsSoundBox b → Or b c → IsSoundBox c
    was b sound (inl kept) = subst IsSoundBox (sym kept) sound
    was b sound (inr q) = law b c sound q

pub takes_by : (labels : List Label) (old new : List (Option BoxState)) → ((i : ℕ) (c : BoxState) → slice_get new i ≡ Some (Some c) → (b : BoxState) × (slice_get old i ≡ Some (Some b)) × (c.nature ≡ b.nature)) → EachTakes labels old → EachTakes labels new
takes_by labels old new was h place l c at_l at_c o t columns declared clear =
    let b = was place c at_c in
    ap (λ n. n.kind.objections columns (table_settings l.kind t.options ++ column_settings 1 t.columns)) b.2 ∙ h place l b.0 at_l b.1 o t columns declared clear

takes_spared : (labels : List Label) (only : ℕ → Type 0) (old new : List (Option BoxState)) (slot : ℕ) → ChangesAt old slot (Spares only) new → EachTakes labels old → EachTakes labels new
takes_spared labels only old new slot h = takes_by labels old new (λ i c at. let x = was_there (Spares only) old new slot i c (spares_itself only) h at in (x.0, x.1, x.2.nature))

-- a source stands where it stood, since its box is there still
pub standing_still : (e n : Shown) (s was : ServerObject) (place : ℕ) → n.labels ≡ e.labels → was.source ≡ s.source → was.kind ≡ s.kind → ((i : ℕ) (b : BoxState) → slice_get e.boxes i ≡ Some (Some b) → (c : BoxState) × (slice_get n.boxes i ≡ Some (Some c)))
    → IsStandingAt e was place → IsStandingAt n s place
standing_still e n s was place labels source kind stay h =
    let b = stay place h.box h.box_there in
    record { label = h.label; there = ap (λ (l : List Label). slice_get l place) labels ∙ h.there; named = h.named ∙ source; of_kind = h.of_kind ∙ kind; box = b.0; box_there = b.1 }

server_still : (e n : Shown) (gone : Name → Type 0) (server : Name) (place : ℕ) → n.labels ≡ e.labels → ServersStay gone e.catalog n.catalog → (gone server → ⊥) → IsServerAt e server place → IsServerAt n server place
server_still e n gone server place labels stay other h =
    let now = stay.there server h.at other h.is in
    record { at = now.0; is = now.1; source = (h.source.0, ap (λ (l : List Label). slice_get l place) labels ∙ h.source.1, h.source.2 ∙ sym now.2) }

-- a kind says of writes to a bound table what it said, while the box is of its kind
pub written_still : (t : TableObject) (bound : BoxTable) (m n : Nature) → n ≡ m → IsWrittenAs m.kind t bound → IsWrittenAs n.kind t bound
written_still t bound m n same h = subst (λ (x : Nature). IsWrittenAs x.kind t bound) (sym same) h

-- ---- a change of the catalogue alone

pub catalog_sound : (e : Shown) (change : ObjectChange) → IsSound e → AreSound (changed change e.catalog) → ServersStay none_gone e.catalog (changed change e.catalog) → (changed change e.catalog).tables ≡ e.catalog.tables → IsSound (with_change e change)
catalog_sound e change h objects stay tables = record {
  objects = objects;
  places = h.places;
  sources = h.sources;
  sessions = h.sessions;
  seated = h.seated;
  source_names = h.source_names;
  scans = catalog_scans e change tables h.scans;
  sound_boxes = h.sound_boxes;
  takes = h.takes;
  servers_stand = λ s in_p. let was = stay.back s in_p in let p = h.servers_stand was.0 was.1 in (p.0, standing_still e (with_change e change) s was.0 p.0 refl was.2 was.3 (λ i b at. (b, at)) p.1);
  many = h.many ∙ sym (ap (λ (ts : List TableObject). length ts) tables);
  tables_bound = λ k t a at_t at_a. let x = h.tables_bound k t a (sym (ap (λ (ts : List TableObject). slice_get ts k) tables) ∙ at_t) at_a in
      record { server = server_still e (with_change e change) none_gone t.server a.source refl stay (λ x. x) x.server; box = x.box; there = x.there; bound = x.bound; is = x.is; remote = x.remote; kinds = x.kinds; writes = x.writes };
  bound_attached = h.bound_attached;
  bound_once = h.bound_once;
}

-- ---- a table is unbound

same_server_named : (e n : Shown) → n.catalog.servers ≡ e.catalog.servers → ServersStay none_gone e.catalog n.catalog
same_server_named e n same = record {
  there = λ name at none is. (at, ap (λ (ss : List ServerObject). find (λ (s : ServerObject). bytes_eq name s.name) ss) same ∙ is, refl);
  back = λ s in_p. (s, subst (λ (ss : List ServerObject). Contains ss s) same in_p, refl, refl);
}

pub unbound_sound : (e n : Shown) (name : Name) → ((old new : BoxState) (t : ℕ) → IsSoundBox old → CanUnbind old t → Unbinds old t new → IsSoundBox new) → IsSound e → leased e name ≡ false → AreSound (changed (no_table name) e.catalog) → (h : UnbindsTable e name n) → IsSound n
unbound_sound e n name law sound free objects h = subst IsSound (sym h.is) (record {
  objects = objects;
  places = as_many Q e.boxes n.boxes h.at.source ready ∙ sound.places;
  sources = sound.sources;
  sessions = sound.sessions;
  seated = sound.seated;
  source_names = sound.source_names;
  scans = unbind_scans e n name sound free h none;
  sound_boxes = sound_changed Q e.boxes n.boxes h.at.source (λ b c s q. law b c h.at.number s q.0 q.1) ready sound.sound_boxes;
  takes = takes_spared e.labels only e.boxes n.boxes h.at.source spares sound.takes;
  servers_stand = λ s in_p. let p = sound.servers_stand s in_p in (p.0, standing_still e shrunk s s p.0 refl refl refl stay p.1);
  many = as_many_left name e.catalog.tables e.bound sound.many;
  tables_bound = bound;
  bound_attached = attached;
  bound_once = λ j k a b at_j at_k sources numbers. was_once h.place j k
      (sound.bound_once (was_index h.place j) (was_index h.place k) a b (sym (left_at name e.catalog.tables e.bound h.place h.first j) ∙ at_j) (sym (left_at name e.catalog.tables e.bound h.place h.first k) ∙ at_k) sources numbers);
})
  where
    Q : BoxState → BoxState → Type 0
    Q b c = CanUnbind b h.at.number × Unbinds b h.at.number c

    none : (s : BoxState) → slice_get e.boxes h.at.source ≡ Some (Some s) → NoScan s h.at.number
    none s there =
        let t = has_table e.catalog.tables e.bound h.place h.at sound.many h.bound in
        unleased_scan e h.place t.0 h.at s sound.bound_once sound.scans t.1 h.bound (ap (leased e) (first_named name e.catalog.tables h.place t.0 h.first t.1) ∙ free) there

    ready : ChangesAt e.boxes h.at.source Q n.boxes
    ready =
        let t = has_table e.catalog.tables e.bound h.place h.at sound.many h.bound in
        let can = unbind_ready e t.0 h.place h.at sound t.1 h.bound (ap (leased e) (first_named name e.catalog.tables h.place t.0 h.first t.1) ∙ free) in
        let same : can.box ≡ h.unbinds.before = same_box can.box h.unbinds.before (sym can.there ∙ h.unbinds.there) in
        record {
          before = h.unbinds.before;
          after = h.unbinds.after;
          there = h.unbinds.there;
          now = h.unbinds.now;
          others = h.unbinds.others;
          slots = h.unbinds.slots;
          change = (subst (λ (b : BoxState). CanUnbind b h.at.number) same can.holds, h.unbinds.change);
        }

    only : ℕ → Type 0
    only = that_is h.at.number

    spares : ChangesAt e.boxes h.at.source (Spares only) n.boxes
    spares = changes_by Q (Spares only) e.boxes n.boxes h.at.source (λ b c k. unbinds_spares b c h.at.number k.1) ready

    shrunk : Shown
    shrunk = record (with_change e (no_table name)) { boxes = n.boxes; bound = beside_without name e.catalog.tables e.bound }

    stay : (i : ℕ) (b : BoxState) → slice_get e.boxes i ≡ Some (Some b) → (c : BoxState) × (slice_get n.boxes i ≡ Some (Some c))
    stay i b at = let x = is_there (Spares only) e.boxes n.boxes h.at.source i b (spares_itself only) spares at in (x.0, x.1)

    -- a table that is left is bound as it was: it is another one, or in another box
    bound : (k : ℕ) (t : TableObject) (a : Attached) → slice_get shrunk.catalog.tables k ≡ Some t → slice_get shrunk.bound k ≡ Some a → IsBoundAs shrunk t a
    bound k t a at_t at_a = record { server = server_still e shrunk none_gone t.server a.source refl (same_server_named e shrunk refl) (λ x. x) x.server; box = now.0; there = now.1; bound = x.bound; is = now.2 ∙ x.is; remote = x.remote; kinds = x.kinds; writes = written_still t x.bound x.box.nature now.0.nature now.3 x.writes }
      where
        was_a : slice_get e.bound (was_index h.place k) ≡ Some a
        was_a = sym (left_at name e.catalog.tables e.bound h.place h.first k) ∙ at_a

        x : IsBoundAs e t a
        x = sound.tables_bound (was_index h.place k) t a (sym (tables_left name e.catalog.tables h.place h.first k) ∙ at_t) was_a

        apart : a.source ≡ h.at.source → a.number ≡ h.at.number → ⊥
        apart s q = was_other h.place k (sound.bound_once (was_index h.place k) h.place a h.at was_a h.bound s q)

        now : (c : BoxState) × (slice_get n.boxes a.source ≡ Some (Some c)) × (table_of c a.number ≡ table_of x.box a.number) × (c.nature ≡ x.box.nature)
        now = split (eqb_tells a.source h.at.source)
          where
            split : ((eqb a.source h.at.source ≡ true) × (a.source ≡ h.at.source)) ⊎ ((eqb a.source h.at.source ≡ false) × (a.source ≢ h.at.source)) → (c : BoxState) × (slice_get n.boxes a.source ≡ Some (Some c)) × (table_of c a.number ≡ table_of x.box a.number) × (c.nature ≡ x.box.nature)
            split (inl s) =
                let same : spares.before ≡ x.box = same_box spares.before x.box (sym spares.there ∙ ap (slice_get e.boxes) (sym s.1) ∙ x.there) in
                (spares.after, ap (slice_get n.boxes) s.1 ∙ spares.now, spares.change.tables a.number (apart s.1) ∙ ap (λ (b : BoxState). table_of b a.number) same, spares.change.nature ∙ ap (λ (b : BoxState). b.nature) same)
            split (inr s) = (x.box, spares.others a.source s.1 ∙ x.there, refl, refl)

    attached : (slot number : ℕ) (s : BoxState) (b : BoxTable) → slice_get n.boxes slot ≡ Some (Some s) → table_of s number ≡ Some b → IsAmong shrunk.bound slot number
    attached slot number s b at is = split (eqb_tells slot h.at.source)
      where
        left : (q : BoxState) → slice_get e.boxes slot ≡ Some (Some q) → table_of q number ≡ Some b → (slot ≡ h.at.source → number ≢ h.at.number) → IsAmong shrunk.bound slot number
        left q there was other =
            let among = sound.bound_attached slot number q b there was in
            let ne : among.place ≢ h.place = λ same. (let one : among.at ≡ h.at = same_Some among.at h.at (sym among.there ∙ ap (slice_get e.bound) same ∙ h.bound) in
            other (sym among.source_is ∙ ap (λ (a : Attached). a.source) one) (sym among.number_is ∙ ap (λ (a : Attached). a.number) one)) in
            let j = was_some h.place among.place ne in
            record { place = j.0; at = among.at; there = left_at name e.catalog.tables e.bound h.place h.first j.0 ∙ ap (slice_get e.bound) j.1 ∙ among.there; source_is = among.source_is; number_is = among.number_is }

        split : ((eqb slot h.at.source ≡ true) × (slot ≡ h.at.source)) ⊎ ((eqb slot h.at.source ≡ false) × (slot ≢ h.at.source)) → IsAmong shrunk.bound slot number
        split (inl k) = number_split (eqb_tells number h.at.number)
          where
            same : h.unbinds.after ≡ s
            same = same_box h.unbinds.after s (sym h.unbinds.now ∙ ap (slice_get n.boxes) (sym k.1) ∙ at)

            tables_are : table_of s number ≡ set_at h.unbinds.before.ledger.tables h.at.number None number
            tables_are = ap (λ (x : BoxState). table_of x number) (sym same) ∙ ap (λ l. l.tables number) h.unbinds.change.ledger

            number_split : ((eqb number h.at.number ≡ true) × (number ≡ h.at.number)) ⊎ ((eqb number h.at.number ≡ false) × (number ≢ h.at.number)) → IsAmong shrunk.bound slot number
            number_split (inl m) = absurd (none_some b (table_of s number) (tables_are ∙ set_this h.unbinds.before.ledger.tables h.at.number None number m.1) is)
            number_split (inr m) =
                left h.unbinds.before (ap (slice_get e.boxes) k.1 ∙ h.unbinds.there)
                (sym (set_that h.unbinds.before.ledger.tables h.at.number None number m.1) ∙ sym tables_are ∙ is) (λ z. m.1)
        split (inr k) = left s (sym (h.unbinds.others slot k.1) ∙ at) is (λ z. absurd (k.1 z))

-- ---- a table is bound

pub bound_sound : StaySound → (e n : Shown) (t : TableObject) → IsSound e → AreSound (changed (new_table t) e.catalog) → (h : BindsTable e t n) → IsSound n
bound_sound law e n t sound objects h = subst IsSound (sym h.is) (record {
  objects = objects;
  places = as_many Q e.boxes n.boxes h.place h.binds ∙ sound.places;
  sources = sound.sources;
  sessions = sound.sessions;
  seated = sound.seated;
  source_names = sound.source_names;
  scans = bind_scans e n t sound h;
  sound_boxes = sound_changed Q e.boxes n.boxes h.place (λ b c s q. law.binds b c t.remote t.columns t.settings h.number s q) h.binds sound.sound_boxes;
  takes = takes_spared e.labels only e.boxes n.boxes h.place spares sound.takes;
  servers_stand = λ s in_p. let p = sound.servers_stand s in_p in (p.0, standing_still e grown s s p.0 refl refl refl stay p.1);
  many = length_push e.bound new_one ∙ ap (λ k. k + 1) sound.many ∙ sym (length_push e.catalog.tables t);
  tables_bound = bound;
  bound_attached = attached;
  bound_once = once;
})
  where
    Q : BoxState → BoxState → Type 0
    Q b c = Binds b t.remote t.columns t.settings h.number c

    only : ℕ → Type 0
    only = that_is h.number

    new_one : Attached
    new_one = record { source = h.place; number = h.number }

    grown : Shown
    grown = record (with_change e (new_table t)) { boxes = n.boxes; bound = e.bound ++ new_one ∷ [] }

    spares : ChangesAt e.boxes h.place (Spares only) n.boxes
    spares = changes_by Q (Spares only) e.boxes n.boxes h.place (λ b c k. binds_spares b c t.remote t.columns t.settings h.number k) h.binds

    stay : (i : ℕ) (b : BoxState) → slice_get e.boxes i ≡ Some (Some b) → (c : BoxState) × (slice_get n.boxes i ≡ Some (Some c))
    stay i b at = let x = is_there (Spares only) e.boxes n.boxes h.place i b (spares_itself only) spares at in (x.0, x.1)

    still : (server : Name) (place : ℕ) → IsServerAt e server place → IsServerAt grown server place
    still server place = server_still e grown none_gone server place refl (same_server_named e grown refl) (λ x. x)

    -- the tables of before have other numbers, or are in other boxes
    other : (k : ℕ) (a : Attached) → slice_get e.bound k ≡ Some a → a.source ≡ h.place → a.number ≢ h.number
    other k a at = let u = has_table e.catalog.tables e.bound k a sound.many at in fresh_other e h.place h.number h.binds.before sound sound.many h.binds.there h.binds.change.fresh k a u.0 u.1 at

    old_bound : (k : ℕ) (u : TableObject) (a : Attached) → slice_get e.catalog.tables k ≡ Some u → slice_get e.bound k ≡ Some a → IsBoundAs grown u a
    old_bound k u a at_u at_a = record { server = still u.server a.source x.server; box = now.0; there = now.1; bound = x.bound; is = now.2 ∙ x.is; remote = x.remote; kinds = x.kinds; writes = written_still u x.bound x.box.nature now.0.nature now.3 x.writes }
      where
        x : IsBoundAs e u a
        x = sound.tables_bound k u a at_u at_a

        now : (c : BoxState) × (slice_get n.boxes a.source ≡ Some (Some c)) × (table_of c a.number ≡ table_of x.box a.number) × (c.nature ≡ x.box.nature)
        now = split (eqb_tells a.source h.place)
          where
            split : ((eqb a.source h.place ≡ true) × (a.source ≡ h.place)) ⊎ ((eqb a.source h.place ≡ false) × (a.source ≢ h.place)) → (c : BoxState) × (slice_get n.boxes a.source ≡ Some (Some c)) × (table_of c a.number ≡ table_of x.box a.number) × (c.nature ≡ x.box.nature)
            split (inl s) =
                let same : spares.before ≡ x.box = same_box spares.before x.box (sym spares.there ∙ ap (slice_get e.boxes) (sym s.1) ∙ x.there) in
                (spares.after, ap (slice_get n.boxes) s.1 ∙ spares.now, spares.change.tables a.number (other k a at_a s.1) ∙ ap (λ (b : BoxState). table_of b a.number) same, spares.change.nature ∙ ap (λ (b : BoxState). b.nature) same)
            split (inr s) = (x.box, spares.others a.source s.1 ∙ x.there, refl, refl)

    last_bound : IsBoundAs grown t new_one
    last_bound = record {
      server = still t.server h.place h.server;
      box = h.binds.after;
      there = h.binds.now;
      bound = h.binds.change.bound;
      is = ap (λ l. l.tables h.number) h.binds.change.ledger ∙ set_this h.binds.before.ledger.tables h.number (Some h.binds.change.bound) h.number refl;
      remote = h.binds.change.remote_is;
      kinds = h.binds.change.kinds_are;
      writes = written_still t h.binds.change.bound h.binds.before.nature h.binds.after.nature h.binds.change.nature (record {
        line = h.binds.change.line_is;
        image = h.binds.change.image_is;
        arrangement = h.binds.change.arrangement_is;
        refuses = h.binds.change.refuses_is;
      });
    }

    bound : (k : ℕ) (u : TableObject) (a : Attached) → slice_get (e.catalog.tables ++ t ∷ []) k ≡ Some u → slice_get (e.bound ++ new_one ∷ []) k ≡ Some a → IsBoundAs grown u a
    bound k u a at_u at_a = both (push_cases e.catalog.tables t k u at_u) (push_cases e.bound new_one k a at_a)
      where
        both : (slice_get e.catalog.tables k ≡ Some u) ⊎ ((k ≡ length e.catalog.tables) × (t ≡ u)) → (slice_get e.bound k ≡ Some a) ⊎ ((k ≡ length e.bound) × (new_one ≡ a)) → IsBoundAs grown u a
        both (inl x) (inl y) = old_bound k u a x y
        both (inl x) (inr y) = absurd (past e.catalog.tables k u x (y.0 ∙ sound.many))
        both (inr x) (inl y) = absurd (past e.bound k a y (x.0 ∙ sym sound.many))
        both (inr x) (inr y) = subst (λ (z : TableObject). IsBoundAs grown z a) x.1 (subst (λ (z : Attached). IsBoundAs grown t z) y.1 last_bound)

    among_more : (slot number : ℕ) → IsAmong e.bound slot number → IsAmong grown.bound slot number
    among_more slot number x = record { place = x.place; at = x.at; there = push_before e.bound new_one x.place x.at x.there; source_is = x.source_is; number_is = x.number_is }

    attached : (slot number : ℕ) (s : BoxState) (b : BoxTable) → slice_get n.boxes slot ≡ Some (Some s) → table_of s number ≡ Some b → IsAmong grown.bound slot number
    attached slot number s b at is = split (eqb_tells slot h.place)
      where
        split : ((eqb slot h.place ≡ true) × (slot ≡ h.place)) ⊎ ((eqb slot h.place ≡ false) × (slot ≢ h.place)) → IsAmong grown.bound slot number
        split (inl k) = number_split (eqb_tells number h.number)
          where
            same : spares.after ≡ s
            same = same_box spares.after s (sym spares.now ∙ ap (slice_get n.boxes) (sym k.1) ∙ at)

            number_split : ((eqb number h.number ≡ true) × (number ≡ h.number)) ⊎ ((eqb number h.number ≡ false) × (number ≢ h.number)) → IsAmong grown.bound slot number
            number_split (inl m) = record { place = length e.bound; at = new_one; there = push_last e.bound new_one; source_is = sym k.1; number_is = sym m.1 }
            number_split (inr m) =
                among_more slot number (sound.bound_attached slot number spares.before b (ap (slice_get e.boxes) k.1 ∙ spares.there)
                (sym (spares.change.tables number m.1) ∙ ap (λ (x : BoxState). table_of x number) same ∙ is))
        split (inr k) = among_more slot number (sound.bound_attached slot number s b (sym (h.binds.others slot k.1) ∙ at) is)

    once : (j k : ℕ) (a b : Attached) → slice_get (e.bound ++ new_one ∷ []) j ≡ Some a → slice_get (e.bound ++ new_one ∷ []) k ≡ Some b → a.source ≡ b.source → a.number ≡ b.number → j ≡ k
    once j k a b at_j at_k sources numbers = both (push_cases e.bound new_one j a at_j) (push_cases e.bound new_one k b at_k)
      where
        both : (slice_get e.bound j ≡ Some a) ⊎ ((j ≡ length e.bound) × (new_one ≡ a)) → (slice_get e.bound k ≡ Some b) ⊎ ((k ≡ length e.bound) × (new_one ≡ b)) → j ≡ k
        both (inl x) (inl y) = sound.bound_once j k a b x y sources numbers
        both (inl x) (inr y) = absurd (other j a x (sources ∙ sym (ap (λ (z : Attached). z.source) y.1)) (numbers ∙ sym (ap (λ (z : Attached). z.number) y.1)))
        both (inr x) (inl y) = absurd (other k b y (sym sources ∙ sym (ap (λ (z : Attached). z.source) x.1)) (sym numbers ∙ sym (ap (λ (z : Attached). z.number) x.1)))
        both (inr x) (inr y) = x.0 ∙ sym y.0

-- ---- a box is dropped

-- `alone`: no other server has the source that goes; `unused`: no table is of the server
pub dropped_sound : (e n : Shown) (name : Name) → IsSound e → AreSound (changed (no_server name) e.catalog) → ServersStay (λ server. server ≡ name) e.catalog (changed (no_server name) e.catalog) → (h : DropsBox e name n)
    → ((s : ServerObject) → Contains (changed (no_server name) e.catalog).servers s → s.source ≢ h.server.at.source) → ((t : TableObject) (k : ℕ) → slice_get e.catalog.tables k ≡ Some t → t.server ≢ name) → IsSound n
dropped_sound e n name sound objects stay h alone unused = subst IsSound (sym h.is) (record {
  objects = objects;
  places = length-set e.boxes h.place None ∙ sound.places;
  sources = sound.sources;
  sessions = sound.sessions;
  seated = sound.seated;
  source_names = sound.source_names;
  scans = drop_scans e h.place h.box h.there h.idle name sound.scans;
  sound_boxes = λ i c at. sound.sound_boxes i c (left_box e.boxes h.place i h.box c h.there at);
  takes = takes_by e.labels e.boxes (slice_set e.boxes h.place None) (λ i c at. (c, left_box e.boxes h.place i h.box c h.there at, refl)) sound.takes;
  servers_stand = stand;
  many = sound.many;
  tables_bound = bound;
  bound_attached = λ slot number s b at is. sound.bound_attached slot number s b (left_box e.boxes h.place slot h.box s h.there at) is;
  bound_once = sound.bound_once;
})
  where
    shrunk : Shown
    shrunk = record (with_change e (no_server name)) { boxes = slice_set e.boxes h.place None }

    stand : (s : ServerObject) → Contains shrunk.catalog.servers s → (place : ℕ) × IsStandingAt shrunk s place
    stand s in_p = (p.0, record { label = p.1.label; there = p.1.there; named = p.1.named ∙ was.2; of_kind = p.1.of_kind ∙ was.3; box = p.1.box; box_there = set_other e.boxes h.place p.0 None elsewhere ∙ p.1.box_there })
      where
        was : (was : ServerObject) × Contains e.catalog.servers was × (was.source ≡ s.source) × (was.kind ≡ s.kind)
        was = stay.back s in_p

        p : (place : ℕ) × IsStandingAt e was.0 place
        p = sound.servers_stand was.0 was.1

        elsewhere : p.0 ≢ h.place
        elsewhere same =
            let one : p.1.label ≡ h.server.source.0 = same_Some p.1.label h.server.source.0 (sym p.1.there ∙ ap (slice_get e.labels) same ∙ h.server.source.1) in
            alone s in_p (sym was.2 ∙ sym p.1.named ∙ ap (λ (l : Label). l.name) one ∙ h.server.source.2)

    bound : (k : ℕ) (t : TableObject) (a : Attached) → slice_get e.catalog.tables k ≡ Some t → slice_get e.bound k ≡ Some a → IsBoundAs shrunk t a
    bound k t a at_t at_a = record {
      server = server_still e shrunk (λ server. server ≡ name) t.server a.source refl stay (unused t k at_t) x.server;
      box = x.box;
      there = set_other e.boxes h.place a.source None elsewhere ∙ x.there;
      bound = x.bound;
      is = x.is;
      remote = x.remote;
      kinds = x.kinds;
      writes = x.writes;
    }
      where
        x : IsBoundAs e t a
        x = sound.tables_bound k t a at_t at_a

        elsewhere : a.source ≢ h.place
        elsewhere same =
            let e1 : x.box ≡ h.box = same_box x.box h.box (sym x.there ∙ ap (slice_get e.boxes) same ∙ h.there) in
            none_some x.bound (table_of h.box a.number) (h.idle.no_table a.number) (sym (ap (λ (y : BoxState). table_of y a.number) e1) ∙ x.is)

-- the box of a server without tables is idle
pub idle_at : (e : Shown) (name : Name) (place : ℕ) (box : BoxState) → IsSound e → IsServerAt e name place → slice_get e.boxes place ≡ Some (Some box)
    → ((t : TableObject) (k : ℕ) → slice_get e.catalog.tables k ≡ Some t → t.server ≢ name) → ((s r : ServerObject) (a b : Name) → server_named e.catalog a ≡ Some s → server_named e.catalog b ≡ Some r → s.source ≡ r.source → a ≡ b) → IsIdle box
idle_at e name place box sound server there unused once = record {
  no_table = λ q. none_at (table_of box q) (λ b is. bound_there q b is);
  no_scan = λ q. none_at (scan_of box q) (λ scan live. let bound = (sound.sound_boxes place box there).scans q scan live in bound_there scan.table bound.0 bound.1);
  no_staging = sound.scans.unstaged place box there;
}
  where
    none_at : {X : Type 0} (o : Option X) → ((x : X) → o ≡ Some x → ⊥) → o ≡ None
    none_at None f = refl
    none_at (Some x) f = absurd (f x refl)

    bound_there : (q : ℕ) (b : BoxTable) → table_of box q ≡ Some b → ⊥
    bound_there q b is = of_server (sound.tables_bound among.place u.0 among.at u.1 among.there)
      where
        among : IsAmong e.bound place q
        among = sound.bound_attached place q box b there is

        u : (t : TableObject) × (slice_get e.catalog.tables among.place ≡ Some t)
        u = has_table e.catalog.tables e.bound among.place among.at sound.many among.there

        of_server : IsBoundAs e u.0 among.at → ⊥
        of_server x =
            let one : x.server.source.0 ≡ server.source.0 = same_Some x.server.source.0 server.source.0 (sym x.server.source.1 ∙ ap (slice_get e.labels) among.source_is ∙ server.source.1) in
            let sources : x.server.at.source ≡ server.at.source = sym x.server.source.2 ∙ ap (λ (l : Label). l.name) one ∙ server.source.2 in
            unused u.0 among.place u.1 (once x.server.at server.at u.0.server name x.server.is server.is sources)

-- ---- a call that was refused leaves an engine sound

pub refused_sound : StaySound → (e : Shown) (new : List (Option BoxState)) (place : ℕ) (fault : Fault) → IsSound e → ChangesAt e.boxes place (Refuses fault) new → IsSound (record e { boxes = new })
refused_sound law e new place fault sound h = record {
  objects = sound.objects;
  places = as_many (Refuses fault) e.boxes new place h ∙ sound.places;
  sources = sound.sources;
  sessions = sound.sessions;
  seated = sound.seated;
  source_names = sound.source_names;
  scans = refused_scans e new place fault h sound.scans;
  sound_boxes = sound_changed (Refuses fault) e.boxes new place (λ b c s q. law.refuses b c fault s q) h sound.sound_boxes;
  takes = takes_spared e.labels only e.boxes new place spared sound.takes;
  servers_stand = λ s in_p. let p = sound.servers_stand s in_p in (p.0, standing_still e after s s p.0 refl refl refl (λ i b at. let x = is_there (Spares only) e.boxes new place i b (spares_itself only) spared at in (x.0, x.1)) p.1);
  many = sound.many;
  tables_bound = λ k t a at_t at_a. let x = sound.tables_bound k t a at_t at_a in let now = is_there (Spares only) e.boxes new place a.source x.box (spares_itself only) spared x.there in
      record { server = record { at = x.server.at; is = x.server.is; source = x.server.source }; box = now.0; there = now.1; bound = x.bound; is = now.2.tables a.number (λ z. z) ∙ x.is; remote = x.remote; kinds = x.kinds; writes = written_still t x.bound x.box.nature now.0.nature now.2.nature x.writes };
  bound_attached = λ slot number s b at is. let was = was_there (Spares only) e.boxes new place slot s (spares_itself only) spared at in sound.bound_attached slot number was.0 b was.1 (sym (was.2.tables number (λ z. z)) ∙ is);
  bound_once = sound.bound_once;
}
  where
    only : ℕ → Type 0
    only t = ⊥

    after : Shown
    after = record e { boxes = new }

    spared : ChangesAt e.boxes place (Spares only) new
    spared = changes_by (Refuses fault) (Spares only) e.boxes new place (λ x y k. refuses_spares fault only x y k) h

-- ---- nor does a bind that was undone unsettle it

-- what was just bound may be unbound, where nothing was staged
mid_ready : (b mid : BoxState) (remote : List ℕ) (columns : List Column) (settings : List OptionForm) (t : ℕ) → IsSoundBox b → IsUnstaged b → Binds b remote columns settings t mid → CanUnbind mid t
mid_ready b mid remote columns settings t sound unstaged binds = record {
  is_bound = ap is_some (ap (λ l. l.tables t) binds.ledger ∙ set_this b.ledger.tables t (Some binds.bound) t refl);
  no_scan = λ q scan live. fresh_scan b t sound binds.fresh q scan (was q scan live);
  not_staged = ap (λ l. l.staged) binds.ledger ∙ unstaged;
}
  where
    was : (q : ℕ) (scan : Scan) → scan_of mid q ≡ Some scan → scan_of b q ≡ Some scan
    was q scan live = ap (λ m. scan_of (record b { ledger = record b.ledger { live = m } }) q) (sym (ap (λ l. l.live) binds.ledger)) ∙ live

pub vain_sound : StaySound → ((old new : BoxState) (t : ℕ) → IsSoundBox old → CanUnbind old t → Unbinds old t new → IsSoundBox new) → (e : Shown) (new : List (Option BoxState)) (t : TableObject) (place : ℕ) → IsSound e → (h : ChangesAt e.boxes place (BindsInVain t) new) → IsSound (record e { boxes = new })
vain_sound law unbinds e new t place sound h = record {
  objects = sound.objects;
  places = as_many (BindsInVain t) e.boxes new place h ∙ sound.places;
  sources = sound.sources;
  sessions = sound.sessions;
  seated = sound.seated;
  source_names = sound.source_names;
  scans = vain_scans e new t place sound h;
  sound_boxes = sound_changed Unstaged e.boxes new place
      (λ b c s q. unbinds q.1.mid c q.1.number (law.binds b q.1.mid t.remote t.columns t.settings q.1.number s q.1.binds) (mid_ready b q.1.mid t.remote t.columns t.settings q.1.number s q.0 q.1.binds) q.1.unbinds)
      unstaged sound.sound_boxes;
  takes = takes_spared e.labels only e.boxes new place spared sound.takes;
  servers_stand = λ s in_p. let p = sound.servers_stand s in_p in (p.0, standing_still e after s s p.0 refl refl refl (λ i b at. let x = is_there (Spares only) e.boxes new place i b (spares_itself only) spared at in (x.0, x.1)) p.1);
  many = sound.many;
  tables_bound = λ k u a at_t at_a. let x = sound.tables_bound k u a at_t at_a in let now = is_there SameTables e.boxes new place a.source x.box same_itself tables x.there in
      record { server = record { at = x.server.at; is = x.server.is; source = x.server.source }; box = now.0; there = now.1; bound = x.bound; is = now.2.0 a.number ∙ x.is; remote = x.remote; kinds = x.kinds; writes = written_still u x.bound x.box.nature now.0.nature now.2.1 x.writes };
  bound_attached = λ slot number s b at is. let was = was_there SameTables e.boxes new place slot s same_itself tables at in sound.bound_attached slot number was.0 b was.1 (sym (was.2.0 number) ∙ is);
  bound_once = sound.bound_once;
}
  where
    only : ℕ → Type 0
    only = that_is h.change.number

    after : Shown
    after = record e { boxes = new }

    spared : ChangesAt e.boxes place (Spares only) new
    spared = record { before = h.before; after = h.after; there = h.there; now = h.now; others = h.others; slots = h.slots; change = vain_spares t h.before h.after h.change }

    Unstaged : BoxState → BoxState → Type 0
    Unstaged b c = IsUnstaged b × BindsInVain t b c

    unstaged : ChangesAt e.boxes place Unstaged new
    unstaged = record { before = h.before; after = h.after; there = h.there; now = h.now; others = h.others; slots = h.slots; change = (sound.scans.unstaged place h.before h.there, h.change) }

    SameTables : BoxState → BoxState → Type 0
    SameTables b c = ((q : ℕ) → table_of c q ≡ table_of b q) × (c.nature ≡ b.nature)

    same_itself : (b : BoxState) → SameTables b b
    same_itself b = (λ q. refl, refl)

    -- also the number that was bound in vain is as free as it was
    same : (q : ℕ) → table_of h.after q ≡ table_of h.before q
    same q = split (eqb_tells q h.change.number)
      where
        split : ((eqb q h.change.number ≡ true) × (q ≡ h.change.number)) ⊎ ((eqb q h.change.number ≡ false) × (q ≢ h.change.number)) → table_of h.after q ≡ table_of h.before q
        split (inl k) =
            ap (λ l. l.tables q) h.change.unbinds.ledger ∙ set_this h.change.mid.ledger.tables h.change.number None q k.1
            ∙ sym (ap (table_of h.before) k.1 ∙ h.change.binds.fresh)
        split (inr k) = spared.change.tables q k.1

    tables : ChangesAt e.boxes place SameTables new
    tables = record { before = h.before; after = h.after; there = h.there; now = h.now; others = h.others; slots = h.slots; change = (same, spared.change.nature) }

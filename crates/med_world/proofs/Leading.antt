-- Requests lead to their replies: what every request shares, sessions, and statements on objects.
use Rattle.std.proofs.Common.{◌≡◌, ◌≢◌, ℕ, ◌+◌, ◌-◌, ◌^◌, ◌<◌, ◌≤◌, ◌⊎◌, min, cond, Bool, true, false, List, [], Option, Some, None, option_map, refl, ap, sym, ◌∙◌, subst, arith, inl, inr}
use Rattle.std.proofs.lemmas.Bool.{false≢true, cases_lt}
use Rattle.std.proofs.lemmas.Option.{same_Some}
use Rattle.med_value.specs.declared.cause.Cause.{Cause}
use Rattle.med_value.specs.declared.cause.Cause.TheVariants.{UnableToConnect, OutOfMemory, SourceFault}
use Rattle.med_syntax.specs.Prelude.{Name, DdlTree}
use Rattle.fdw_api.specs.Prelude.{Entry, Holding, Reading, BoxState, Picks, Binds, Unbinds, Refuses, RefusesBind, IsLeast}
use Rattle.fdw_api.specs.declared.interface.Fault.TheVariants.{Source as SourceFailed, Refused}
use Rattle.med_exec.specs.Prelude.{ChangesAt, HasFailed}
use Rattle.med_catalog.specs.Prelude.{ServerObject, TableObject, Objects, changed, ObjectChange, nothing, new_wrapper, new_server, new_mapping, new_table, no_wrapper, no_server, no_mapping, no_table, Asks, DdlCauses, phase}
use Rattle.sql_meaning.specs.Prelude.{AskedLine, sql, Pick, no_pick, World, Cursor, Session, standing, shared, dropped, source_named, is_taken, IsFree, Serves, is_shared_server, Reads, SourceCauses, ObjectCauses, TreeCauses, PicksEntry, IsPickOf, IsTold, NoneStands, NoneBeforeState, RestsOnShared, MayShow, done, refused}
use Rattle.med_parser.specs.CommandTree.{CommandTree, on_objects}
use Rattle.sql_meaning.specs.Steps.{ddl_tag, Trouble, TakesMemory, with_catalog, Changes, Step, is_refused, is_done, lacks_memory, source_fails, shared_shows}
use Rattle.med_world.specs.Open.{Seated}
use Rattle.med_world.specs.Seats.{seat_of, SeatAgrees}
use Rattle.med_world.specs.Engine.{Rises, Shown, leased, IsSound, IsNamedAt, IsServerAt, Agrees, Befell, EachRises, AsksBoxes, Leads, with_change, Alters, state_of}
use Rattle.med_world.specs.Laws.{IsRead}
use Rattle.med_world.specs.Altering.{IsFreeAt, IsAllowed, SourcesAllow, IsAltered}
use Rattle.med_world.proofs.Faring.{changes_by, changes_rise, rises_itself, none_rises, drop_rises, binds_rises, unbinds_rises}
use Rattle.med_world.proofs.Altered.{catalog_agrees, bind_agrees, unbind_agrees, drop_agrees, serves_at, shared_at, one_store, find_source}
use Rattle.med_world.proofs.Asks.{asks_refused, asks_read}
use Rattle.med_world.proofs.Kept.{free_to_drop}
use Rattle.med_world.proofs.Told.{IsKnownAs, told_tree, none_tree, before_tree, run_before, pick_tree}
use Rattle.med_world.proofs.Objecting.{AreObjects, asks_same, causes_same, of_source, told_objects, told_bind, none_made, none_shared, source_phase}

-- ---- trouble

pub calm : Trouble
calm = record { memory = false; asked = false; source = false; numbers = false }

pub refused_memory : Trouble
refused_memory = record { memory = true; asked = false; source = false; numbers = false }

pub failed_source : Trouble
failed_source = record { memory = false; asked = false; source = true; numbers = false }

pub calm_befell : (old new : List (Option BoxState)) → Befell old new calm
unfolding calm
calm_befell old new = record { source = λ e. absurd (false≢true e); numbers = λ e. absurd (false≢true e) }

-- no cursor was asked for a row
pub calm_unasked : calm.asked ≡ true → ⊥
unfolding calm
calm_unasked e = false≢true e

memory_befell : (old new : List (Option BoxState)) → Befell old new refused_memory
unfolding refused_memory
memory_befell old new = record { source = λ e. absurd (false≢true e); numbers = λ e. absurd (false≢true e) }

-- a request that is refused by a cause, with the worlds as they were: in each world a step leads to it, as where it is told
pub leads_either : (e new : Shown) (sid : ℕ) (request : AskedLine) (c : Cause) → AsksBoxes e sid request (refused c) new → EachRises e.boxes new.boxes → ((w : World) → Agrees e w → Agrees new w)
    → ((w : World) → Agrees e w → Step w sid request calm (refused c) w) → Leads e sid request (refused c) new
leads_either e new sid request c asks rises kept step = record {
  trouble = calm;
  befell = calm_befell e.boxes new.boxes;
  asked = λ x. absurd (calm_unasked x);
  rises = rises;
  asks = asks;
  step = λ w a. (w, step w a, kept w a);
}

-- a cause that a shared source may show
pub shared_step : (w : World) (sid : ℕ) (text : List ℕ) (s : Session) (tree : CommandTree) (c : Cause) → IsKnownAs w sid text s tree → RestsOnShared w s tree → MayShow tree c → ((p : Pick) (d : Cause) → TreeCauses w s p tree d → 5 < phase d)
    → Step w sid (sql text) calm (refused c) w
shared_step w sid text s tree c k rests may none = shared_shows s tree c k.is rests may (run_before w sid text s tree k none) refl refl

pub leads_refused : (e new : Shown) (sid : ℕ) (request : AskedLine) (c : Cause) → AsksBoxes e sid request (refused c) new → EachRises e.boxes new.boxes → ((w : World) → Agrees e w → Agrees new w)
    → ((w : World) → Agrees e w → (p : Pick) × IsPickOf w sid request p × IsTold w sid p request c) → Leads e sid request (refused c) new
leads_refused e new sid request c asks rises kept told = leads_either e new sid request c asks rises kept (λ w a. let t = told w a in is_refused t.0 c t.1 t.2 refl refl)

-- one for which memory was refused
pub leads_memory : (e new : Shown) (sid : ℕ) (request : AskedLine) → AsksBoxes e sid request (refused OutOfMemory) new → TakesMemory request → EachRises e.boxes new.boxes → ((w : World) → Agrees e w → Agrees new w) → Leads e sid request (refused OutOfMemory) new
unfolding refused_memory
leads_memory e new sid request asks takes rises kept = record {
  trouble = refused_memory;
  befell = memory_befell e.boxes new.boxes;
  asked = λ q. absurd (false≢true q);
  rises = rises;
  asks = asks;
  step = λ w a. (w, lacks_memory refl refl takes refl refl, kept w a);
}

-- ---- a statement that was read

-- the session of this user, as it is in the world
abbrev pub cursors_in : Option Session → List Cursor
cursors_in None = []
cursors_in (Some s) = s.cursors

abbrev pub session_in : World → ℕ → Name → Session
session_in w sid user = record { user = user; cursors = cursors_in (w.sessions sid) }

same_session : (boxes : List (Option BoxState)) (w : World) (user : Name) (seat : Option Seated) (s : Option Session) → SeatAgrees boxes w seat s → option_map (λ (x : Seated). x.user) seat ≡ Some user
    → s ≡ Some (record { user = user; cursors = cursors_in s })
same_session boxes w user None s h e = absurd cc
same_session boxes w user (Some seat) None h e = absurd h
same_session boxes w user (Some seat) (Some s) h e =
    let is : s.user ≡ user = h.0 ∙ same_Some seat.user user e in
    ap (λ (n : Name). Some (record { user = n; cursors = s.cursors })) is

-- what a statement's text and session give in every world that agrees
pub known : (e : Shown) (w : World) (sid : ℕ) (text : List ℕ) (user : Name) (tree : CommandTree) → Agrees e w → IsRead e sid text user tree → IsKnownAs w sid text (session_in w sid user) tree
known e w sid text user tree a read = record {
  is = (same_session e.boxes w user (seat_of e.seats sid) (w.sessions sid) (a.sessions sid read.is_sid) read.is_user, read.has);
  clear = read.clear;
  one = read.one;
}

-- ---- a statement on objects that is done

-- a source that has a box was not dropped
still_there : (b : BoxState) → state_of (Some b) ≢ dropped
still_there b = by b.nature.honest
  where
    by : (honest : Bool) → cond honest (standing b.nature.kind b.content.holdings) (shared b.nature.kind) ≢ dropped
    by true e = cc
    by false e = cc

-- a free source of the engine is free in the world
free_in : (e : Shown) (w : World) (s : ServerObject) (place : ℕ) → IsSound e → Agrees e w → IsFreeAt e s place → IsFree w s.source s.kind
free_in e w s place sound h f =
    let named : IsNamedAt e.labels place s.source = (f.stands.label, f.stands.there, f.stands.named) in
    let x = find_source e.labels e.boxes s.source place (Some f.stands.box) sound.source_names named f.stands.box_there in
    record {
      at = x.0;
      is = ap (λ sources. source_named s.source sources) h.sources ∙ x.1;
      of_kind = x.3 ∙ f.stands.of_kind;
      there = λ gone. still_there f.stands.box (sym x.2 ∙ gone);
      untaken = ap (λ (o : Objects). is_taken o s.source) h.catalog ∙ f.untaken;
    }

-- what a change is picked, leads to, and that no source stands against it
pub record Altering (w : World) (change : ObjectChange) (n : Shown) : Type 0 where
  pub pick : Pick
  pub picked : (t : TableObject) → change ≡ new_table t → PicksEntry w t pick
  pub after : World
  pub changes : Changes w pick change after
  pub agrees : Agrees n after
  pub clear : (c : Cause) → SourceCauses w pick change c → ⊥

-- one of the catalogue alone
of_catalog : (e n : Shown) (change : ObjectChange) (w : World) → (changed change w.catalog).tables ≡ w.catalog.tables → Agrees e w → n ≡ with_change e change → ((t : TableObject) → change ≡ new_table t → ⊥) → Changes w no_pick change (with_catalog w change)
    → ((c : Cause) → SourceCauses w no_pick change c → ⊥) → Altering w change n
of_catalog e n change w tables h is other changes clear = record {
  pick = no_pick;
  picked = λ t q. absurd (other t q);
  after = with_catalog w change;
  changes = changes;
  agrees = subst (λ (x : Shown). Agrees x (with_catalog w change)) (sym is) (catalog_agrees e change w tables h);
  clear = clear;
}

pub altering : (e n : Shown) (change : ObjectChange) (w : World) → IsSound e → Agrees e w → ((name : Name) → change ≡ no_table name → leased e name ≡ false) → SourcesAllow e change → Alters e change n → Altering w change n
altering e n nothing w sound h free allow is = of_catalog e n nothing w refl h is (λ t q. cc) refl (λ c x. x)
altering e n (new_wrapper o) w sound h free allow is = of_catalog e n (new_wrapper o) w refl h is (λ t q. cc) refl (λ c x. x)
altering e n (new_server s) w sound h free allow is = of_catalog e n (new_server s) w refl h is (λ t q. cc) refl (λ c x. x.1 (free_in e w s allow.0 sound h allow.1))
altering e n (new_mapping s m) w sound h free allow is = of_catalog e n (new_mapping s m) w refl h is (λ t q. cc) refl (λ c x. x)
altering e n (no_wrapper name) w sound h free allow is = of_catalog e n (no_wrapper name) w refl h is (λ t q. cc) refl (λ c x. x)
altering e n (no_mapping s u) w sound h free allow is = of_catalog e n (no_mapping s u) w refl h is (λ t q. cc) refl (λ c x. x)
altering e n (new_table t) w sound h free allow is =
    let b = bind_agrees e n t w sound is h in
    record {
      pick = b.0;
      picked = λ u q. (let same : t ≡ u = cc in subst (λ (x : TableObject). PicksEntry w x b.0) same b.1);
      after = b.2.0;
      changes = b.2.1;
      agrees = b.2.2;
      clear = none_made w t b.0 b.2.1.0 b.2.1.1;
    }
altering e n (no_table name) w sound h free allow is =
    let b = unbind_agrees e n name w no_pick sound (free name refl) is h in
    record { pick = no_pick; picked = λ t q. absurd (cc); after = b.0; changes = b.1; agrees = b.2; clear = λ c x. x }
altering e n (no_server name) w sound h free allow is =
    let b = drop_agrees e n name w no_pick sound is h in
    record { pick = no_pick; picked = λ t q. absurd (cc); after = b.0; changes = b.1; agrees = b.2; clear = λ c x. x }

same_boxes : (e n : Shown) (change : ObjectChange) → n ≡ with_change e change → EachRises e.boxes n.boxes
same_boxes e n change is = subst (λ (x : Shown). EachRises e.boxes x.boxes) (sym is) (none_rises e.boxes)

pub altered_rises : (e n : Shown) (change : ObjectChange) → Alters e change n → EachRises e.boxes n.boxes
altered_rises e n nothing is = same_boxes e n nothing is
altered_rises e n (new_wrapper o) is = same_boxes e n (new_wrapper o) is
altered_rises e n (new_server s) is = same_boxes e n (new_server s) is
altered_rises e n (new_mapping s m) is = same_boxes e n (new_mapping s m) is
altered_rises e n (no_wrapper name) is = same_boxes e n (no_wrapper name) is
altered_rises e n (no_mapping s u) is = same_boxes e n (no_mapping s u) is
altered_rises e n (new_table t) is =
    changes_rise OrBinds e.boxes n.boxes is.place (λ b. inl refl) rises (changes_by Q OrBinds e.boxes n.boxes is.place (λ b c k. inr k) is.binds)
  where
    Q : BoxState → BoxState → Type 0
    Q b c = Binds b t.remote t.columns t.settings is.number c

    OrBinds : BoxState → BoxState → Type 0
    OrBinds b c = (c ≡ b) ⊎ Q b c

    rises : (b c : BoxState) → OrBinds b c → Rises b c
    rises b c (inl same) = subst (Rises b) (sym same) (rises_itself b)
    rises b c (inr k) = binds_rises b c t.remote t.columns t.settings is.number k
altered_rises e n (no_table name) is =
    changes_rise OrUnbinds e.boxes n.boxes is.at.source (λ b. inl refl) rises (changes_by Q OrUnbinds e.boxes n.boxes is.at.source (λ b c k. inr k) is.unbinds)
  where
    Q : BoxState → BoxState → Type 0
    Q b c = Unbinds b is.at.number c

    OrUnbinds : BoxState → BoxState → Type 0
    OrUnbinds b c = (c ≡ b) ⊎ Q b c

    rises : (b c : BoxState) → OrUnbinds b c → Rises b c
    rises b c (inl same) = subst (Rises b) (sym same) (rises_itself b)
    rises b c (inr k) = unbinds_rises b c is.at.number k
altered_rises e n (no_server name) is = subst (λ (x : Shown). EachRises e.boxes x.boxes) (sym is.is) (drop_rises e.boxes is.place is.box is.there is.idle)

-- a statement on objects is done, and answered by its tag
pub altered_leads : AreObjects → (e n : Shown) (sid : ℕ) (text : List ℕ) (user : Name) (d : DdlTree) → IsRead e sid text user (on_objects d) → IsSound e → (h : IsAltered e user d n) → Leads e sid (sql text) (done (ddl_tag d)) n
altered_leads law e n sid text user d read sound h = record {
  trouble = calm;
  befell = calm_befell e.boxes n.boxes;
  asked = λ x. absurd (calm_unasked x);
  rises = altered_rises e n h.change h.alters;
  asks = asks_read e sid text user (on_objects d) (done (ddl_tag d)) n read tt;
  step = step;
}
  where
    step : (w : World) → Agrees e w → (after : World) × Step w sid (sql text) calm (done (ddl_tag d)) after × Agrees n after
    step w a = (x.after, is_done x.pick picks none ((session_in w sid user, on_objects d, k.is, (refl, (h.change, asks, x.changes)))), x.agrees)
      where
        free : (name : Name) → h.change ≡ no_table name → leased e name ≡ false
        free name is = free_to_drop e.catalog (leased e) user d name h.allowed.clear (subst (λ (x : ObjectChange). Asks e.catalog user d x) is h.allowed.asks)

        x : Altering w h.change n
        x = altering e n h.change w sound a free h.sources h.alters

        k : IsKnownAs w sid text (session_in w sid user) (on_objects d)
        k = known e w sid text user (on_objects d) a read

        asks : Asks w.catalog user d h.change
        asks = asks_same e w user d h.change a h.allowed.asks

        picks : IsPickOf w sid (sql text) x.pick
        picks = pick_tree w sid x.pick text (session_in w sid user) (on_objects d) k (λ t is. x.picked t (law.once w.catalog user d h.change (new_table t) asks is))

        none : NoneStands w sid x.pick (sql text)
        none = none_tree w sid x.pick text (session_in w sid user) (on_objects d) k
            (λ c y. x.clear c (of_source law e w user x.pick d h.change sound a h.allowed.asks h.allowed.clear c y))

-- ---- one that is not done

-- whatever is picked, what stands against it is of sources, and so of phases 5 and 6
not_early : AreObjects → (e : Shown) (w : World) (sid : ℕ) (text : List ℕ) (user : Name) (d : DdlTree) (change : ObjectChange) → IsRead e sid text user (on_objects d) → IsSound e → Agrees e w → IsAllowed e user d change → NoneBeforeState w sid (sql text)
not_early law e w sid text user d change read sound a allowed =
    before_tree w sid text (session_in w sid user) (on_objects d) (known e w sid text user (on_objects d) a read)
    (λ p c x. late p c (source_phase w p change c (of_source law e w user p d change sound a allowed.asks allowed.clear c x)))
  where
    late : (p : Pick) (c : Cause) → 5 ≤ phase c → 4 < phase c
    late p c h = omega arith

-- a pick for the table of a statement, if it makes one
picks_table : (w : World) (t : TableObject) (change : ObjectChange) (p : Pick) → PicksEntry w t p → change ≡ new_table t → (u : TableObject) → change ≡ new_table u → PicksEntry w u p
picks_table w t change p h is u other = (let same : new_table t ≡ new_table u = sym is ∙ other in let e : t ≡ u = cc in subst (λ (x : TableObject). PicksEntry w x p) e h)

-- the catalogue shows a cause
pub shows_leads : AreObjects → (e : Shown) (sid : ℕ) (text : List ℕ) (user : Name) (d : DdlTree) (c : Cause) → IsRead e sid text user (on_objects d) → IsSound e → DdlCauses e.catalog (leased e) user d c
    → ((x : Cause) → DdlCauses e.catalog (leased e) user d x → phase c ≤ phase x) → ((w : World) → Agrees e w → (p : Pick) × IsPickOf w sid (sql text) p) → Leads e sid (sql text) (refused c) e
shows_leads law e sid text user d c read sound stands least pick = leads_refused e e sid (sql text) c (asks_refused e sid (sql text) c e refl) (none_rises e.boxes) (λ w a. a) told
  where
    told : (w : World) → Agrees e w → (p : Pick) × IsPickOf w sid (sql text) p × IsTold w sid p (sql text) c
    told w a =
        let p = pick w a in
        let k = known e w sid text user (on_objects d) a read in
        (p.0, p.1, told_tree w sid p.0 text (session_in w sid user) (on_objects d) c k (inl (causes_same e w user d c sound a stands)) (told_objects law e w user p.0 d c sound a stands least))

-- the source of a new server is not free
pub taken_leads : AreObjects → (e : Shown) (sid : ℕ) (text : List ℕ) (user : Name) (d : DdlTree) (s : ServerObject) → IsRead e sid text user (on_objects d) → IsSound e → IsAllowed e user d (new_server s)
    → ((w : World) → Agrees e w → IsFree w s.source s.kind → ⊥) → Leads e sid (sql text) (refused UnableToConnect) e
taken_leads law e sid text user d s read sound allowed taken = leads_refused e e sid (sql text) UnableToConnect (asks_refused e sid (sql text) UnableToConnect e refl) (none_rises e.boxes) (λ w a. a) told
  where
    told : (w : World) → Agrees e w → (p : Pick) × IsPickOf w sid (sql text) p × IsTold w sid p (sql text) UnableToConnect
    told w a = (no_pick, picks, told_tree w sid no_pick text (session_in w sid user) (on_objects d) UnableToConnect k (inr (new_server s, asks, (refl, taken w a))) least)
      where
        k : IsKnownAs w sid text (session_in w sid user) (on_objects d)
        k = known e w sid text user (on_objects d) a read

        asks : Asks w.catalog user d (new_server s)
        asks = asks_same e w user d (new_server s) a allowed.asks

        picks : IsPickOf w sid (sql text) no_pick
        picks = pick_tree w sid no_pick text (session_in w sid user) (on_objects d) k (λ t is. absurd (let q : new_server s ≡ new_table t = law.once w.catalog user d (new_server s) (new_table t) asks is in cc))

        least : (x : Cause) → ObjectCauses w user no_pick d x → 5 ≤ phase x
        least x y = source_phase w no_pick (new_server s) x (of_source law e w user no_pick d (new_server s) sound a allowed.asks allowed.clear x y)

-- the box refuses the bind
pub refused_leads : AreObjects → (e n : Shown) (sid : ℕ) (text : List ℕ) (user : Name) (d : DdlTree) (t : TableObject) (place : ℕ) (c : Cause) → IsRead e sid text user (on_objects d) → IsSound e → IsAllowed e user d (new_table t) → IsServerAt e t.server place
    → (h : ChangesAt e.boxes place (λ a b. RefusesBind a t.remote t.columns t.settings (Refused c) b) n.boxes) → EachRises e.boxes n.boxes → ((w : World) → Agrees e w → Agrees n w) → Leads e sid (sql text) (refused c) n
refused_leads law e n sid text user d t place c read sound allowed server h rises kept =
    leads_either e n sid (sql text) c (asks_read e sid text user (on_objects d) (refused c) n read tt) rises kept (λ w a. by w a b.nature.honest refl)
  where
    b : BoxState
    b = h.before

    by : (w : World) → Agrees e w → (honest : Bool) → b.nature.honest ≡ honest → Step w sid (sql text) calm (refused c) w
    by w a true honest = is_refused p c picks (told_tree w sid p text (session_in w sid user) (on_objects d) c k (inr (new_table t, asks, (reading, reads, because.2.stands))) least) refl refl
      where
        because : (entry : Option Entry) × Picks (b.content.holdings t.remote) entry × IsLeast (b.nature.kind.reads t.columns t.settings entry).causes c
        because = h.change.cause.1 honest

        p : Pick
        p = record no_pick { entry = because.0 }

        reading : Reading
        reading = b.nature.kind.reads t.columns t.settings because.0

        serves : Serves w t.server b.nature.kind b.content.holdings
        serves = serves_at e w t.server place b sound a server h.there honest

        reads : Reads w t because.0 reading
        reads = record { kind = b.nature.kind; holdings = b.content.holdings; serves = serves; read = refl }

        k : IsKnownAs w sid text (session_in w sid user) (on_objects d)
        k = known e w sid text user (on_objects d) a read

        asks : Asks w.catalog user d (new_table t)
        asks = asks_same e w user d (new_table t) a allowed.asks

        entry : PicksEntry w t p
        entry kind holdings s = subst (λ (f : Name → Holding). Picks (f t.remote) because.0) (one_store w t.server b.nature.kind kind b.content.holdings holdings serves s) because.1

        picks : IsPickOf w sid (sql text) p
        picks = pick_tree w sid p text (session_in w sid user) (on_objects d) k (λ u is. picks_table w t (new_table t) p entry refl u (law.once w.catalog user d (new_table t) (new_table u) asks is))

        least : (x : Cause) → ObjectCauses w user p d x → phase c ≤ phase x
        least x y = told_bind w t p reading c reads because.2 x (of_source law e w user p d (new_table t) sound a allowed.asks allowed.clear x y)
    by w a false lies = shared_step w sid text (session_in w sid user) (on_objects d) c (known e w sid text user (on_objects d) a read) (t, asks_same e w user d (new_table t) a allowed.asks, shares) h.change.cause.0
        (λ p x y. absurd (none_shared w t p shares x (of_source law e w user p d (new_table t) sound a allowed.asks allowed.clear x y)))
      where
        shares : is_shared_server w t.server ≡ true
        shares = shared_at e w t.server place b sound a server h.there lies

count_cases : (a b : ℕ) → b ≡ min (a + 1) (2 ^ 64 - 1) → (a < b) ⊎ (b ≡ 2 ^ 64 - 1)
count_cases a b e = split (cases_lt a b)
  where
    split : (a < b) ⊎ (b ≤ a) → (a < b) ⊎ (b ≡ 2 ^ 64 - 1)
    split (inl x) = inl x
    split (inr x) = inr (omega arith)

has_failed : (s t : BoxState) → Refuses SourceFailed s t → HasFailed s t
has_failed s t h = go s.ledger.faults t.ledger.faults (ap (λ l. l.faults) h.ledger)
  where
    go : (a b : ℕ) → b ≡ min (a + 1) (2 ^ 64 - 1) → (a < b) ⊎ (2 ^ 64 - 1 ≤ b)
    go a b e = elim (count_cases a b e) [
      | inl rises ↦ inl rises
      | inr at_end ↦ inr (omega (arith, at_end))
    ]

-- the source fails in the bind
pub failed_leads : AreObjects → (e n : Shown) (sid : ℕ) (text : List ℕ) (user : Name) (d : DdlTree) (t : TableObject) (place : ℕ) → IsRead e sid text user (on_objects d) → IsSound e → IsAllowed e user d (new_table t)
    → (h : ChangesAt e.boxes place (Refuses SourceFailed) n.boxes) → EachRises e.boxes n.boxes → ((w : World) → Agrees e w → Agrees n w) → Leads e sid (sql text) (refused SourceFault) n
unfolding failed_source
failed_leads law e n sid text user d t place read sound allowed h rises kept = record {
  trouble = failed_source;
  befell = record {
    source = λ q. record { slot = place; before = h.before; after = h.after; was = h.there; is = h.now; shows = has_failed h.before h.after h.change };
    numbers = λ q. absurd (false≢true q);
  };
  asked = λ q. absurd (false≢true q);
  rises = rises;
  asks = asks_read e sid text user (on_objects d) (refused SourceFault) n read tt;
  step = λ w a. (
    w,
    source_fails refl (session_in w sid user) (on_objects d) (known e w sid text user (on_objects d) a read).is (not_early law e w sid text user d (new_table t) read sound a allowed) refl refl,
    kept w a,
  );
}

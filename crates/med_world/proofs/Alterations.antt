-- A statement on objects, done or not, leaves an engine sound; and what its calls of boxes ask holds.
use Rattle.std.proofs.Common.{◌≡◌, ◌≢◌, ℕ, ◌⊎◌, Bool, List, [], ◌∷◌, ◌++◌, Some, Contains, slice_get, length, map, find, refl, ap, sym, ◌∙◌, subst, inl, inr, bytes_eq}
use Rattle.std.proofs.lemmas.Option.{same_Some}
use Rattle.med_value.specs.declared.cause.Cause.{Cause}
use Rattle.med_syntax.specs.Prelude.{Name, TableTree, DdlTree, create_wrapper, create_server, create_mapping, create_table, drop_wrapper, drop_server, drop_table, drop_mapping}
use Rattle.fdw_api.specs.Prelude.{BoxState, IsIdle, CanBind, CanUnbind, Unbinds, Refuses, RefusesBind, IsSoundBox}
use Rattle.med_catalog.specs.Prelude.{MappingObject, ServerObject, TableObject, Objects, server_named, ObjectChange, nothing, new_wrapper, new_server, new_mapping, new_table, no_wrapper, no_server, no_mapping, no_table, without, with_first, changed, IsNewTable, Asks, skips, makes, Stands, create_table_rows}
use Rattle.med_catalog.specs.declared.kind.SourceKind.{SourceKind}
use Rattle.med_world.specs.Engine.{Label, Shown, leased, AreSound, IsServerAt, IsStandingAt, TakesAs, IsSound, with_change, Alters}
use Rattle.med_world.specs.Altering.{IsAllowed, SourcesAllow, IsAltered, NotAltered, catalog_shows, not_free, no_memory, bind_fails, bind_undone}
use Rattle.med_world.proofs.Lists.{bytes_same, other_bytes, push_cases, one_place}
use Rattle.med_world.proofs.NamedTables.{place_of, at_place, map_place, found_place, found_passes, find_first, back_first, find_fewer, back_fewer, none_left, still_found}
use Rattle.med_world.proofs.Faring.{changes_by}
use Rattle.med_world.proofs.ScansChanged.{catalog_scans}
use Rattle.med_world.proofs.Kept.{IsClear, IsUntaken, free_to_drop, stays_sound, unused, unbound, table_rows}
use Rattle.med_world.proofs.Ready.{SourcesOnce, bind_ready}
use Rattle.med_world.proofs.Sounds.{StaySound, ServersStay, none_gone, catalog_sound, unbound_sound, bound_sound, dropped_sound, idle_at, refused_sound, vain_sound}

-- ---- servers

-- what a change leaves of servers but their mappings
stay_changed : (o : Objects) (test : ServerObject → Bool) (f : ServerObject → List MappingObject)
    → ServersStay none_gone o (record o { servers = with_first test (λ (s : ServerObject). record s { mappings = f s }) o.servers })
stay_changed o test f = record { there = there; back = back }
  where
    g : ServerObject → ServerObject
    g s = record s { mappings = f s }

    there : (name : Name) (at : ServerObject) → (none_gone name → ⊥) → server_named o name ≡ Some at → (now : ServerObject) × (find (λ (s : ServerObject). bytes_eq name s.name) (with_first test g o.servers) ≡ Some now) × (now.source ≡ at.source)
    there name at none is = find_first (λ (s : ServerObject). bytes_eq name s.name) test g (λ (s : ServerObject). s.source) (λ s. refl) (λ s. refl) o.servers at is

    back : (s : ServerObject) → Contains (with_first test g o.servers) s → (was : ServerObject) × Contains o.servers was × (was.source ≡ s.source) × (was.kind ≡ s.kind)
    back s c =
        let p = place_of (with_first test g o.servers) s c in
        let q = back_first test g (λ (x : ServerObject). record x { mappings = [] }) (λ x. refl) o.servers p.0 s p.1 in
        (q.0, at_place o.servers p.0 q.0 q.1, ap (λ (x : ServerObject). x.source) q.2, ap (λ (x : ServerObject). x.kind) q.2)

stay_same : (o p : Objects) → p.servers ≡ o.servers → ServersStay none_gone o p
stay_same o p same = record {
  there = λ name at none is. (at, ap (λ (ss : List ServerObject). find (λ (s : ServerObject). bytes_eq name s.name) ss) same ∙ is, refl);
  back = λ s c. (s, subst (λ (ss : List ServerObject). Contains ss s) same c, refl, refl);
}

stay_without : (o : Objects) (name : Name) → ServersStay (λ server. server ≡ name) o (changed (no_server name) o)
stay_without o name = record {
  there = λ n at other is. (
    at,
    find_fewer (λ (s : ServerObject). bytes_eq n s.name) (λ (s : ServerObject). bytes_eq name s.name) (λ x is. other_bytes n x.name (λ same. other (same ∙ sym (bytes_same name x.name is)))) o.servers ∙ is,
    refl,
  );
  back = λ s c.
      let p = place_of (without (λ (x : ServerObject). bytes_eq name x.name) o.servers) s c in
      let q = back_fewer (λ (x : ServerObject). bytes_eq name x.name) o.servers p.0 s p.1 in
      (s, at_place o.servers q.0 s q.1, refl, refl);
}

-- servers of one source have one name
pub sources_once : (o : Objects) → AreSound o → SourcesOnce o
sources_once o h s r a b is_s is_r same =
    let p = found_place (λ (x : ServerObject). bytes_eq a x.name) o.servers s is_s in
    let q = found_place (λ (x : ServerObject). bytes_eq b x.name) o.servers r is_r in
    let sources = map (λ (x : ServerObject). x.source) o.servers in
    let one : p.0 ≡ q.0 = one_place sources s.source p.0 q.0 h.sources_once (map_place (λ (x : ServerObject). x.source) o.servers p.0 s p.1)
    (map_place (λ (x : ServerObject). x.source) o.servers q.0 r q.1 ∙ ap Some (sym same)) in
    let e : s ≡ r = same_Some s r (sym p.1 ∙ ap (slice_get o.servers) one ∙ q.1) in
    bytes_same a s.name (found_passes (λ (x : ServerObject). bytes_eq a x.name) o.servers s is_s)
    ∙ ap (λ (x : ServerObject). x.name) e ∙ sym (bytes_same b r.name (found_passes (λ (x : ServerObject). bytes_eq b x.name) o.servers r is_r))

-- ---- by the statement

unused_by : (o : Objects) (leased : Name → Bool) (user : Name) (d : DdlTree) (name : Name) → IsClear o leased user d → Asks o user d (no_server name) → (k : ℕ) (t : TableObject) → slice_get o.tables k ≡ Some t → t.server ≢ name
unused_by o leased user d name clear (skips s e) k t at = absurd (cc)
unused_by o leased user (create_wrapper n h) name clear (makes s m) k t at = absurd (let e = m.2 in cc)
unused_by o leased user (create_server x) name clear (makes s m) k t at = absurd (let e = m.2 in cc)
unused_by o leased user (create_mapping x) name clear (makes s m) k t at = absurd (let e = m.2 in cc)
unused_by o leased user (create_table x) name clear (makes s m) k t at = absurd (let e = m.2 in cc)
unused_by o leased user (drop_wrapper b n) name clear (makes s m) k t at = absurd (cc)
unused_by o leased user (drop_server b n) name clear (makes s m) k t at =
    let same : name ≡ n = cc in
    λ h. unused o leased user b n clear s k t at (h ∙ same)
unused_by o leased user (drop_table b n) name clear (makes s m) k t at = absurd (cc)
unused_by o leased user (drop_mapping b w n) name clear (makes s m) k t at = absurd (cc)

-- what CREATE FOREIGN TABLE makes, against which no cause stands
pub record IsMade (o : Objects) (t : TableObject) : Type 0 where
  pub tree : TableTree
  pub is : IsNewTable o tree t
  pub none : (c : Cause) → Stands (create_table_rows o is.server.kind tree) c → ⊥

made_by : (o : Objects) (leased : Name → Bool) (user : Name) (d : DdlTree) (t : TableObject) → IsClear o leased user d → Asks o user d (new_table t) → IsMade o t
made_by o leased user d t clear (skips s e) = absurd (cc)
made_by o leased user (create_wrapper n h) t clear (makes s m) = absurd (let e = m.2 in cc)
made_by o leased user (create_server x) t clear (makes s m) = absurd (let e = m.2 in cc)
made_by o leased user (create_mapping x) t clear (makes s m) = absurd (let e = m.2 in cc)
made_by o leased user (create_table tree) t clear (makes s (made, is, e)) =
    let same : made ≡ t = (let q = e in cc) in
    subst (λ (x : TableObject). IsMade o x) same (record { tree = tree; is = is; none = table_rows o leased user tree is.server clear s is.there })
made_by o leased user (drop_wrapper b n) t clear (makes s m) = absurd (cc)
made_by o leased user (drop_server b n) t clear (makes s m) = absurd (cc)
made_by o leased user (drop_table b n) t clear (makes s m) = absurd (cc)
made_by o leased user (drop_mapping b w n) t clear (makes s m) = absurd (cc)

-- ---- an engine whose source is taken by a new server

server_sound : (e : Shown) (s : ServerObject) (place : ℕ) → IsSound e → AreSound (changed (new_server s) e.catalog) → IsStandingAt e s place → IsSound (with_change e (new_server s))
server_sound e s place h objects stands = record {
  objects = objects;
  places = h.places;
  sources = h.sources;
  sessions = h.sessions;
  seated = h.seated;
  source_names = h.source_names;
  scans = catalog_scans e (new_server s) refl h.scans;
  sound_boxes = h.sound_boxes;
  takes = h.takes;
  servers_stand = λ r c. let p = place_of (e.catalog.servers ++ s ∷ []) r c in either r p.0 (push_cases e.catalog.servers s p.0 r p.1);
  many = h.many;
  tables_bound = λ k t a at_t at_a. let x = h.tables_bound k t a at_t at_a in record {
    server = record { at = x.server.at; is = still_found (λ (r : ServerObject). bytes_eq t.server r.name) e.catalog.servers (s ∷ []) x.server.at x.server.is; source = x.server.source };
    box = x.box;
    there = x.there;
    bound = x.bound;
    is = x.is;
    remote = x.remote;
    kinds = x.kinds;
    writes = x.writes;
  };
  bound_attached = h.bound_attached;
  bound_once = h.bound_once;
}
  where
    after : Shown
    after = with_change e (new_server s)

    again : (r : ServerObject) (place : ℕ) → IsStandingAt e r place → IsStandingAt after r place
    again r place x = record { label = x.label; there = x.there; named = x.named; of_kind = x.of_kind; box = x.box; box_there = x.box_there }

    either : (r : ServerObject) (k : ℕ) → (slice_get e.catalog.servers k ≡ Some r) ⊎ ((k ≡ length e.catalog.servers) × (s ≡ r)) → (place : ℕ) × IsStandingAt after r place
    either r k (inl at) = let x = h.servers_stand r (at_place e.catalog.servers k r at) in (x.0, again r x.0 x.1)
    either r k (inr (i, same)) = (place, again r place (subst (λ (x : ServerObject). IsStandingAt e x place) same stands))

-- ---- done, or not

-- what the laws of boxes say of those that are unbound
abbrev pub UnbindsSoundly : Type 0
UnbindsSoundly = (old new : BoxState) (t : ℕ) → IsSoundBox old → CanUnbind old t → Unbinds old t new → IsSoundBox new

untaken_by : (e : Shown) (change : ObjectChange) → SourcesAllow e change → IsUntaken e.catalog change
untaken_by e (new_server s) h = h.1.untaken
untaken_by e nothing h = tt
untaken_by e (new_wrapper w) h = tt
untaken_by e (new_mapping server m) h = tt
untaken_by e (new_table t) h = tt
untaken_by e (no_wrapper name) h = tt
untaken_by e (no_server name) h = tt
untaken_by e (no_mapping server user) h = tt
untaken_by e (no_table name) h = tt

changed_sound : StaySound → UnbindsSoundly → (e n : Shown) (user : Name) (d : DdlTree) (change : ObjectChange) → IsSound e → IsAllowed e user d change → AreSound (changed change e.catalog) → SourcesAllow e change → Alters e change n → IsSound n
changed_sound law unbinds e n user d nothing h allowed objects sources is = subst IsSound (sym is) (catalog_sound e nothing h objects (stay_same e.catalog e.catalog refl) refl)
changed_sound law unbinds e n user d (new_wrapper w) h allowed objects sources is = subst IsSound (sym is) (catalog_sound e (new_wrapper w) h objects (stay_same e.catalog (changed (new_wrapper w) e.catalog) refl) refl)
changed_sound law unbinds e n user d (new_server s) h allowed objects sources is = subst IsSound (sym is) (server_sound e s sources.0 h objects sources.1.stands)
changed_sound law unbinds e n user d (new_mapping server m) h allowed objects sources is = subst IsSound (sym is)
    (catalog_sound e (new_mapping server m) h objects (stay_changed e.catalog (λ (s : ServerObject). bytes_eq server s.name) (λ s. s.mappings ++ m ∷ [])) refl)
changed_sound law unbinds e n user d (new_table t) h allowed objects sources is = bound_sound law e n t h objects is
changed_sound law unbinds e n user d (no_wrapper name) h allowed objects sources is = subst IsSound (sym is) (catalog_sound e (no_wrapper name) h objects (stay_same e.catalog (changed (no_wrapper name) e.catalog) refl) refl)
changed_sound law unbinds e n user d (no_server name) h allowed objects sources is =
    dropped_sound e n name h objects (stay_without e.catalog name) is
    (λ s c. let p = place_of (without (λ (x : ServerObject). bytes_eq name x.name) e.catalog.servers) s c in
    none_left (λ (x : ServerObject). x.source) (λ (x : ServerObject). bytes_eq name x.name) e.catalog.servers is.server.at h.objects.sources_once is.server.is p.0 s p.1)
    (λ t k at. unused_by e.catalog (leased e) user d name allowed.clear allowed.asks k t at)
changed_sound law unbinds e n user d (no_mapping server whose) h allowed objects sources is = subst IsSound (sym is)
    (catalog_sound e (no_mapping server whose) h objects
    (stay_changed e.catalog (λ (s : ServerObject). bytes_eq server s.name) (λ s. without (λ (m : MappingObject). bytes_eq whose m.user) s.mappings)) refl)
changed_sound law unbinds e n user d (no_table name) h allowed objects sources is = unbound_sound e n name unbinds h (free_to_drop e.catalog (leased e) user d name allowed.clear allowed.asks) objects is

pub altered_sound : StaySound → UnbindsSoundly → (e n : Shown) (user : Name) (d : DdlTree) → IsSound e → IsAltered e user d n → IsSound n
altered_sound law unbinds e n user d h is =
    changed_sound law unbinds e n user d is.change h is.allowed (stays_sound e.catalog (leased e) user d is.change h.objects is.allowed.clear is.allowed.asks (untaken_by e is.change is.sources)) is.sources is.alters

pub not_altered_sound : StaySound → UnbindsSoundly → (e n : Shown) (user : Name) (d : DdlTree) (c : Cause) → IsSound e → NotAltered e user d c n → IsSound n
not_altered_sound law unbinds e n user d c h (catalog_shows stands least is) = subst IsSound (sym is) h
not_altered_sound law unbinds e n user d c h (not_free s allowed none told is) = subst IsSound (sym is) h
not_altered_sound law unbinds e n user d c h (no_memory told is) = subst IsSound (sym is) h
not_altered_sound law unbinds e n user d c h (bind_fails t allowed place server fault told changes is) = subst IsSound (sym is)
    (refused_sound law e n.boxes place fault h (changes_by (λ a b. RefusesBind a t.remote t.columns t.settings fault b) (Refuses fault) e.boxes n.boxes place (λ a b k. k.refuses) changes))
not_altered_sound law unbinds e n user d c h (bind_undone t place told changes is) = subst IsSound (sym is) (vain_sound law unbinds e n.boxes t place h changes)

-- ---- what the calls of boxes ask

-- the source of a server stands where its label does
pub box_of_server : (e : Shown) (name : Name) (place : ℕ) → IsSound e → (server : IsServerAt e name place) → (box : BoxState) × (slice_get e.boxes place ≡ Some (Some box)) × (server.source.0.kind ≡ server.at.kind)
box_of_server e name place h server =
    let p = found_place (λ (x : ServerObject). bytes_eq name x.name) e.catalog.servers server.at server.is in
    let x = h.servers_stand server.at (at_place e.catalog.servers p.0 server.at p.1) in
    let labels = map (λ (l : Label). l.name) e.labels in
    let one : x.0 ≡ place = one_place labels server.at.source x.0 place h.source_names (map_place (λ (l : Label). l.name) e.labels x.0 x.1.label x.1.there ∙ ap Some x.1.named)
    (map_place (λ (l : Label). l.name) e.labels place server.source.0 server.source.1 ∙ ap Some server.source.2) in
    let same : x.1.label ≡ server.source.0 = same_Some x.1.label server.source.0 (sym x.1.there ∙ ap (slice_get e.labels) one ∙ server.source.1) in
    (x.1.box, ap (slice_get e.boxes) (sym one) ∙ x.1.box_there, ap (λ (l : Label). l.kind) (sym same) ∙ x.1.of_kind)

pub bind_allowed : (e : Shown) (user : Name) (d : DdlTree) (t : TableObject) (place : ℕ) (box : BoxState) → IsSound e → IsAllowed e user d (new_table t) → IsServerAt e t.server place → slice_get e.boxes place ≡ Some (Some box)
    → CanBind box t.remote t.columns t.settings
bind_allowed e user d t place box h allowed server there = bind_ready e t place box h (sources_once e.catalog h.objects) server there
    (λ u k at same remote. unbound e.catalog made.tree made.is.server.kind t.remote made.none made.is.remote u k at (same ∙ made.is.of_server) remote) takes
  where
    made : IsMade e.catalog t
    made = made_by e.catalog (leased e) user d t allowed.clear allowed.asks

    same_server : server.at ≡ made.is.server
    same_server = same_Some server.at made.is.server (sym server.is ∙ ap (server_named e.catalog) made.is.of_server ∙ made.is.there)

    kind_is : server.source.0.kind ≡ made.is.server.kind
    kind_is = (box_of_server e t.server place h server).2 ∙ ap (λ (s : ServerObject). s.kind) same_server

    takes_as : TakesAs made.is.server.kind box
    takes_as = subst (λ (k : SourceKind). TakesAs k box) kind_is (h.takes place server.source.0 box server.source.1 there)

    takes : box.nature.kind.objections t.columns t.settings ≡ []
    takes = ap (box.nature.kind.objections t.columns) made.is.settings ∙ takes_as e.catalog made.tree t.columns made.is.columns made.none

pub idle_allowed : (e : Shown) (user : Name) (d : DdlTree) (name : Name) (place : ℕ) (box : BoxState) → IsSound e → IsAllowed e user d (no_server name) → IsServerAt e name place → slice_get e.boxes place ≡ Some (Some box) → IsIdle box
idle_allowed e user d name place box h allowed server there =
    idle_at e name place box h server there (λ t k at. unused_by e.catalog (leased e) user d name allowed.clear allowed.asks k t at) (sources_once e.catalog h.objects)

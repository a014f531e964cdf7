-- What a statement's change keeps of the objects of a catalogue that is sound, where no cause stands against it.
use Rattle.std.proofs.Common.{◌≡◌, ◌≢◌, ◌⊎◌, ◌&&◌, ℕ, Bool, true, false, ◌||◌, if◌then◌else◌, List, [], ◌∷◌, ◌++◌, cond, Option, Some, None, IsSome, is_some, Contains, slice_get, length, find, refl, ap, sym, ◌∙◌, subst, zero, suc, inl, inr, bytes_eq}
use Rattle.std.specs.List.{IsDistinct, list_any}
use Rattle.std.proofs.lemmas.Bool.{false≢true}
use Rattle.std.proofs.lemmas.Option.{same_Some}
use Rattle.med_value.specs.Column.{Column}
use Rattle.med_value.specs.declared.cause.Cause.{Cause}
use Rattle.med_value.specs.declared.cause.Cause.TheVariants.{DuplicateTable, DuplicateObject, DependentObjects, InUse}
use Rattle.med_syntax.specs.Prelude.{Name, ColumnTree, ServerTree, MappingTree, TableTree, DdlTree, create_wrapper, create_server, create_mapping, create_table, drop_wrapper, drop_server, drop_table, drop_mapping}
use Rattle.med_catalog.specs.Prelude.{MappingObject, ServerObject, TableObject, Objects, server_named, table_named, user_meant, text_of, remote_label, table_settings, column_settings, ObjectChange, nothing, new_wrapper, new_server, new_mapping, new_table, no_wrapper, no_server, no_mapping, no_table, without, with_first, changed, is_skipped, IsDeclared, AreDeclared, IsNewServer, IsNewMapping, IsNewTable, Makes, Asks, skips, makes, CauseRow, DdlCauses, Stands, create_table_rows, create_table_rows_at, is_bound, has_dependents, has_mappings, lease_rows, object_rows, ddl_rows}
use Rattle.fdw_api.specs.Kinds.{OptionForm}
use Rattle.med_catalog.specs.declared.kind.SourceKind.{SourceKind}
use Rattle.sql_meaning.specs.World.{is_taken}
use Rattle.med_world.specs.Engine.{AreSound}
use Rattle.med_world.proofs.Lists.{bytes_same, same_bytes, other_bytes, bytes_other, push_cases}
use Rattle.med_world.proofs.NamedTables.{place_of, at_place, distinct_more, distinct_fewer, same_first, find_first, find_fewer, back_fewer, still_found, some_of, none_of}

-- ---- a statement asks one change

declared_once : (cs : List ColumnTree) (a b : List Column) → AreDeclared cs a → AreDeclared cs b → a ≡ b
declared_once [] [] [] h k = refl
declared_once [] [] (y ∷ ys) h k = absurd k
declared_once [] (x ∷ xs) b h k = absurd h
declared_once (c ∷ cs) [] b h k = absurd h
declared_once (c ∷ cs) (x ∷ xs) [] h k = absurd k
declared_once (c ∷ cs) (x ∷ xs) (y ∷ ys) h k =
    λ i. one c x y h.0 k.0 i ∷ declared_once cs xs ys h.1 k.1 i
  where
    one : (c : ColumnTree) (x y : Column) → IsDeclared c x → IsDeclared c y → x ≡ y
    one c x y h k = λ i. record { name = (h.0 ∙ sym k.0) i; kind = same_Some x.kind y.kind (sym h.1 ∙ k.1) i; not_null = (h.2 ∙ sym k.2) i }

server_once : (o : Objects) (s : ServerTree) (a b : ServerObject) → IsNewServer o s a → IsNewServer o s b → a ≡ b
server_once o s a b h k =
    let w : h.wrapper ≡ k.wrapper = same_Some h.wrapper k.wrapper (sym h.there ∙ k.there) in
    let t : h.source ≡ k.source = same_Some h.source k.source (sym h.takes ∙ k.takes) in
    h.is ∙ (λ i. record { name = s.name; wrapper = s.wrapper; kind = (w i).kind; source = t i; mappings = [] }) ∙ sym k.is

mapping_once : (user : Name) (m : MappingTree) (a b : MappingObject) → IsNewMapping user m a → IsNewMapping user m b → a ≡ b
mapping_once user m a b h k = λ i. record { user = (h.whose ∙ sym k.whose) i; mode = same_Some a.mode b.mode (sym h.mode ∙ k.mode) i }

table_once : (o : Objects) (t : TableTree) (a b : TableObject) → IsNewTable o t a → IsNewTable o t b → a ≡ b
table_once o t a b h k =
    let s : h.server ≡ k.server = same_Some h.server k.server (sym h.there ∙ k.there) in
    λ i. record {
      name = (h.name ∙ sym k.name) i;
      server = (h.of_server ∙ sym k.of_server) i;
      remote = same_Some a.remote b.remote (sym h.remote ∙ ap (λ (x : ServerObject). text_of t.options (remote_label x.kind)) s ∙ k.remote) i;
      columns = declared_once t.columns a.columns b.columns h.columns k.columns i;
      settings = (h.settings ∙ ap (λ (x : ServerObject). settings_of x) s ∙ sym k.settings) i;
    }
  where
    settings_of : ServerObject → List OptionForm
    settings_of x = table_settings x.kind t.options ++ column_settings 1 t.columns

makes_once : (o : Objects) (user : Name) (d : DdlTree) (a b : ObjectChange) → Makes o user d a → Makes o user d b → a ≡ b
makes_once o user (create_wrapper name handler) a b h k =
    let e : h.0 ≡ k.0 = same_Some h.0 k.0 (sym h.1 ∙ k.1) in
    h.2 ∙ ap (λ (kind : SourceKind). new_wrapper (record { name = name; kind = kind })) e ∙ sym k.2
makes_once o user (create_server s) a b h k = h.2 ∙ ap new_server (server_once o s h.0 k.0 h.1 k.1) ∙ sym k.2
makes_once o user (create_mapping m) a b h k = h.2 ∙ ap (new_mapping m.server) (mapping_once user m h.0 k.0 h.1 k.1) ∙ sym k.2
makes_once o user (create_table t) a b h k = h.2 ∙ ap new_table (table_once o t h.0 k.0 h.1 k.1) ∙ sym k.2
makes_once o user (drop_wrapper if_exists name) a b h k = h ∙ sym k
makes_once o user (drop_server if_exists name) a b h k = h ∙ sym k
makes_once o user (drop_table if_exists name) a b h k = h ∙ sym k
makes_once o user (drop_mapping if_exists whose server) a b h k = h ∙ sym k

pub asks_once : (o : Objects) (user : Name) (d : DdlTree) (a b : ObjectChange) → Asks o user d a → Asks o user d b → a ≡ b
asks_once o user d a b (skips s h) (skips t k) = h ∙ sym k
asks_once o user d a b (skips s h) (makes t k) = absurd (false≢true (sym t ∙ s))
asks_once o user d a b (makes s h) (skips t k) = absurd (false≢true (sym s ∙ t))
asks_once o user d a b (makes s h) (makes t k) = makes_once o user d a b h k

-- ---- where no cause stands, none of the rows does

-- no cause stands against the statement of this user
abbrev pub IsClear : Objects → (Name → Bool) → Name → DdlTree → Type 0
IsClear o leased user d = (c : Cause) → DdlCauses o leased user d c → ⊥

pub clear_rows : (o : Objects) (leased : Name → Bool) (user : Name) (d : DdlTree) → IsClear o leased user d → is_skipped o user d ≡ false → (c : Cause) → Stands (object_rows o leased user d) c → ⊥
clear_rows o leased user d clear skipped c stands = let p = place_of (object_rows o leased user d) (true, c) stands in
    clear c (at_place (ddl_rows o leased user d) (suc p.0) (true, c) (subst (λ b. slice_get (if b then [] else object_rows o leased user d) p.0 ≡ Some (true, c)) (sym skipped) p.1))

-- a table that is dropped is not leased
pub free_to_drop : (o : Objects) (leased : Name → Bool) (user : Name) (d : DdlTree) (name : Name) → IsClear o leased user d → Asks o user d (no_table name) → leased name ≡ false
free_to_drop o leased user d name clear (skips s e) = absurd (cc)
free_to_drop o leased user (create_wrapper n h) name clear (makes s m) = absurd (let e = m.2 in cc)
free_to_drop o leased user (create_server x) name clear (makes s m) = absurd (let e = m.2 in cc)
free_to_drop o leased user (create_mapping x) name clear (makes s m) = absurd (let e = m.2 in cc)
free_to_drop o leased user (create_table x) name clear (makes s m) = absurd (let e = m.2 in cc)
free_to_drop o leased user (drop_wrapper b n) name clear (makes s m) = absurd (cc)
free_to_drop o leased user (drop_server b n) name clear (makes s m) = absurd (cc)
free_to_drop o leased user (drop_table b n) name clear (makes s m) = (let same : name ≡ n = cc in ap leased same) ∙ split (leased n) refl
  where
    split : (r : Bool) → leased n ≡ r → leased n ≡ false
    split true is = absurd (clear_rows o leased user (drop_table b n) clear s InUse (at_place (object_rows o leased user (drop_table b n)) 1 (true, InUse) (ap (λ r. slice_get (lease_rows r) 0) is)))
    split false is = is
free_to_drop o leased user (drop_mapping b w n) name clear (makes s m) = absurd (cc)

row_false : (rows : List CauseRow) (k : ℕ) (b : Bool) (c : Cause) → ((d : Cause) → Stands rows d → ⊥) → slice_get rows k ≡ Some (b, c) → b ≡ false
row_false rows k true c none at = absurd (none c (at_place rows k (true, c) at))
row_false rows k false c none at = refl

left_false : (a b : Bool) → (a || b) ≡ false → a ≡ false
left_false true b e = e
left_false false b e = refl

right_false : (a b : Bool) → (a || b) ≡ false → b ≡ false
right_false true b e = absurd (false≢true (sym e))
right_false false b e = e

none_passes : {X : Type 0} (p : X → Bool) (xs : List X) (k : ℕ) (x : X) → list_any p xs ≡ false → slice_get xs k ≡ Some x → p x ≡ false
none_passes p [] k x e at = absurd cc
none_passes p (y ∷ ys) zero x e at = ap p (sym (same_Some y x at)) ∙ left_false (p y) (list_any p ys) e
none_passes p (y ∷ ys) (suc k) x e at = none_passes p ys k x (right_false (p y) (list_any p ys) e) at

none_found : {X : Type 0} (p : X → Bool) (xs : List X) → list_any p xs ≡ false → find p xs ≡ None
none_found p [] e = refl
none_found p (y ∷ ys) e =
    ap (λ b. cond b (Some y) (find p ys)) (left_false (p y) (list_any p ys) e) ∙ none_found p ys (right_false (p y) (list_any p ys) e)

-- ---- the rows that count

-- a server that is dropped has no table
pub unused : (o : Objects) (leased : Name → Bool) (user : Name) (if_exists : Bool) (name : Name) → IsClear o leased user (drop_server if_exists name) → is_skipped o user (drop_server if_exists name) ≡ false
    → (k : ℕ) (t : TableObject) → slice_get o.tables k ≡ Some t → t.server ≢ name
unused o leased user if_exists name clear skipped k t at same =
    let none : has_dependents o name ≡ false = row_false (object_rows o leased user (drop_server if_exists name)) 1 (has_dependents o name) DependentObjects (clear_rows o leased user (drop_server if_exists name) clear skipped) refl in
    let other : bytes_eq name t.server ≡ false =
    none_passes (λ (u : TableObject). bytes_eq name u.server) o.tables k t (left_false (list_any (λ (u : TableObject). bytes_eq name u.server) o.tables) (has_mappings (server_named o name)) none) at in
    bytes_other name t.server other (sym same)

-- a new server has a name of its own
new_server_name : (o : Objects) (leased : Name → Bool) (user : Name) (s : ServerTree) → IsClear o leased user (create_server s) → is_skipped o user (create_server s) ≡ false → server_named o s.name ≡ None
new_server_name o leased user s clear skipped =
    none_of (server_named o s.name) (row_false (object_rows o leased user (create_server s)) 1 (is_some (server_named o s.name)) DuplicateObject (clear_rows o leased user (create_server s) clear skipped) refl)

-- the rows of a new table, whose server is there
pub table_rows : (o : Objects) (leased : Name → Bool) (user : Name) (t : TableTree) (s : ServerObject) → IsClear o leased user (create_table t) → is_skipped o user (create_table t) ≡ false → server_named o t.server ≡ Some s
    → (c : Cause) → Stands (create_table_rows o s.kind t) c → ⊥
table_rows o leased user t s clear skipped there c stands =
    clear_rows o leased user (create_table t) clear skipped c (subst (λ (x : Option ServerObject). Stands (create_table_rows_at o x t) c) (sym there) stands)

new_table_name : (o : Objects) (t : TableTree) (kind : SourceKind) → ((c : Cause) → Stands (create_table_rows o kind t) c → ⊥) → table_named o t.name ≡ None
new_table_name o t kind none = none_of (table_named o t.name) (row_false (create_table_rows o kind t) 0 (is_some (table_named o t.name)) DuplicateTable none refl)

-- no table of the server stands for the remote table
pub unbound : (o : Objects) (t : TableTree) (kind : SourceKind) (remote : List ℕ) → ((c : Cause) → Stands (create_table_rows o kind t) c → ⊥) → text_of t.options (remote_label kind) ≡ Some remote
    → (u : TableObject) (k : ℕ) → slice_get o.tables k ≡ Some u → u.server ≡ t.server → u.remote ≡ remote → ⊥
unbound o t kind remote none is u k at server same =
    let free : is_bound o t.server (Some remote) ≡ false =
    ap (is_bound o t.server) (sym is) ∙ row_false (create_table_rows o kind t) 10 (is_bound o t.server (text_of t.options (remote_label kind))) InUse none refl in
    let other = none_passes (λ (x : TableObject). bytes_eq t.server x.server && bytes_eq remote x.remote) o.tables k u free at in
    false≢true (sym other ∙ (λ i. same_bytes t.server u.server (sym server) i && same_bytes remote u.remote (sym same) i))

-- ---- what is kept

-- a new server's source is no other's
abbrev pub IsUntaken : Objects → ObjectChange → Type 0
IsUntaken o (new_server s) = is_taken o s.source ≡ false
IsUntaken o other = Unit {0}

-- each table has its server still, where the servers are those with the first of a name changed
still_served : (o : Objects) (test : ServerObject → Bool) (f : ServerObject → ServerObject) → ((s : ServerObject) → (f s).name ≡ s.name) → AreSound o → (t : TableObject) → Contains o.tables t
    → IsSome (find (λ (s : ServerObject). bytes_eq t.server s.name) (with_first test f o.servers))
still_served o test f same h t c =
    let r = some_of (server_named o t.server) (h.served t c) in
    let q = find_first (λ (s : ServerObject). bytes_eq t.server s.name) test f (λ (s : ServerObject). s.name) (λ s. ap (bytes_eq t.server) (same s)) same o.servers r.0 r.1 in
    ap is_some q.1

servers_changed : (o : Objects) (test : ServerObject → Bool) (f : ServerObject → ServerObject) → ((s : ServerObject) → (f s).name ≡ s.name) → ((s : ServerObject) → (f s).source ≡ s.source) → AreSound o
    → AreSound (record o { servers = with_first test f o.servers })
servers_changed o test f names sources h = record {
  owner = h.owner;
  server_names = subst (λ (ns : List Name). IsDistinct bytes_eq ns) (sym (same_first test f (λ (s : ServerObject). s.name) names o.servers)) h.server_names;
  sources_once = subst (λ (ns : List (List ℕ)). IsDistinct bytes_eq ns) (sym (same_first test f (λ (s : ServerObject). s.source) sources o.servers)) h.sources_once;
  table_names = h.table_names;
  served = λ t c. still_served o test f names h t c;
}

server_added : (o : Objects) (s : ServerObject) → server_named o s.name ≡ None → is_taken o s.source ≡ false → AreSound o → AreSound (changed (new_server s) o)
server_added o s none untaken h = record {
  owner = h.owner;
  server_names = distinct_more (λ (x : ServerObject). x.name) o.servers s none h.server_names;
  sources_once = distinct_more (λ (x : ServerObject). x.source) o.servers s (none_found (λ (x : ServerObject). bytes_eq s.source x.source) o.servers untaken) h.sources_once;
  table_names = h.table_names;
  served = λ t c.
      let r = some_of (server_named o t.server) (h.served t c) in
      ap is_some (still_found (λ (x : ServerObject). bytes_eq t.server x.name) o.servers (s ∷ []) r.0 r.1);
}

table_added : (o : Objects) (t : TableObject) → table_named o t.name ≡ None → IsSome (server_named o t.server) → AreSound o → AreSound (changed (new_table t) o)
table_added o t none there h = record {
  owner = h.owner;
  server_names = h.server_names;
  sources_once = h.sources_once;
  table_names = distinct_more (λ (x : TableObject). x.name) o.tables t none h.table_names;
  served = λ u c. let p = place_of (o.tables ++ t ∷ []) u c in either u p.0 (push_cases o.tables t p.0 u p.1);
}
  where
    either : (u : TableObject) (k : ℕ) → (slice_get o.tables k ≡ Some u) ⊎ ((k ≡ length o.tables) × (t ≡ u)) → IsSome (server_named o u.server)
    either u k (inl at) = h.served u (at_place o.tables k u at)
    either u k (inr (e, same)) = subst (λ (x : TableObject). IsSome (server_named o x.server)) same there

server_gone : (o : Objects) (name : Name) → ((k : ℕ) (t : TableObject) → slice_get o.tables k ≡ Some t → t.server ≢ name) → AreSound o → AreSound (changed (no_server name) o)
server_gone o name none h = record {
  owner = h.owner;
  server_names = distinct_fewer (λ (x : ServerObject). x.name) (λ (x : ServerObject). bytes_eq name x.name) o.servers h.server_names;
  sources_once = distinct_fewer (λ (x : ServerObject). x.source) (λ (x : ServerObject). bytes_eq name x.name) o.servers h.sources_once;
  table_names = h.table_names;
  served = λ t c.
      let p = place_of o.tables t c in
      let other : t.server ≢ name = none p.0 t p.1 in
      ap is_some (find_fewer (λ (x : ServerObject). bytes_eq t.server x.name) (λ (x : ServerObject). bytes_eq name x.name)
      (λ x is. other_bytes t.server x.name (λ same. other (same ∙ sym (bytes_same name x.name is)))) o.servers) ∙ h.served t c;
}

table_gone : (o : Objects) (name : Name) → AreSound o → AreSound (changed (no_table name) o)
table_gone o name h = record {
  owner = h.owner;
  server_names = h.server_names;
  sources_once = h.sources_once;
  table_names = distinct_fewer (λ (x : TableObject). x.name) (λ (x : TableObject). bytes_eq name x.name) o.tables h.table_names;
  served = λ t c.
      let p = place_of (without (λ (x : TableObject). bytes_eq name x.name) o.tables) t c in
      let q = back_fewer (λ (x : TableObject). bytes_eq name x.name) o.tables p.0 t p.1 in
      h.served t (at_place o.tables q.0 t q.1);
}

by : (o : Objects) (a b : ObjectChange) → b ≡ a → AreSound (changed a o) → AreSound (changed b o)
by o a b e h = subst (λ (x : ObjectChange). AreSound (changed x o)) (sym e) h

makes_sound : (o : Objects) (leased : Name → Bool) (user : Name) (d : DdlTree) (change : ObjectChange) → AreSound o → IsClear o leased user d → is_skipped o user d ≡ false → Makes o user d change → IsUntaken o change → AreSound (changed change o)
makes_sound o leased user (create_wrapper name handler) change h clear skipped m untaken = by o (new_wrapper (record { name = name; kind = m.0 })) change m.2 (record {
  owner = h.owner;
  server_names = h.server_names;
  sources_once = h.sources_once;
  table_names = h.table_names;
  served = h.served;
})
makes_sound o leased user (create_server s) change h clear skipped (made, is, e) untaken = by o (new_server made) change e
    (server_added o made (ap (server_named o) (ap (λ (x : ServerObject). x.name) is.is) ∙ new_server_name o leased user s clear skipped) (subst (IsUntaken o) e untaken) h)
makes_sound o leased user (create_mapping m) change h clear skipped (made, is, e) untaken = by o (new_mapping m.server made) change e
    (servers_changed o (λ (s : ServerObject). bytes_eq m.server s.name) (λ (s : ServerObject). record s { mappings = s.mappings ++ made ∷ [] }) (λ s. refl) (λ s. refl) h)
makes_sound o leased user (create_table t) change h clear skipped (made, is, e) untaken = by o (new_table made) change e
    (table_added o made (ap (table_named o) is.name ∙ new_table_name o t is.server.kind (table_rows o leased user t is.server clear skipped is.there)) (ap is_some (ap (server_named o) is.of_server ∙ is.there)) h)
makes_sound o leased user (drop_wrapper if_exists name) change h clear skipped e untaken = by o (no_wrapper name) change e (record {
  owner = h.owner;
  server_names = h.server_names;
  sources_once = h.sources_once;
  table_names = h.table_names;
  served = h.served;
})
makes_sound o leased user (drop_server if_exists name) change h clear skipped e untaken = by o (no_server name) change e (server_gone o name (unused o leased user if_exists name clear skipped) h)
makes_sound o leased user (drop_table if_exists name) change h clear skipped e untaken = by o (no_table name) change e (table_gone o name h)
makes_sound o leased user (drop_mapping if_exists whose server) change h clear skipped e untaken = by o (no_mapping server (user_meant user whose)) change e
    (servers_changed o (λ (s : ServerObject). bytes_eq server s.name)
    (λ (s : ServerObject). record s { mappings = without (λ (m : MappingObject). bytes_eq (user_meant user whose) m.user) s.mappings }) (λ s. refl) (λ s. refl) h)

pub stays_sound : (o : Objects) (leased : Name → Bool) (user : Name) (d : DdlTree) (change : ObjectChange) → AreSound o → IsClear o leased user d → Asks o user d change → IsUntaken o change → AreSound (changed change o)
stays_sound o leased user d change h clear (skips s e) untaken = by o nothing change e h
stays_sound o leased user d change h clear (makes s m) untaken = makes_sound o leased user d change h clear s m untaken

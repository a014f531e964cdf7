-- What the calls of boxes ask holds in an engine that is sound.
use Rattle.std.proofs.Common.{◌≡◌, ◌≢◌, ℕ, false, [], Option, Some, IsSome, slice_get, refl, ap, sym, ◌∙◌, subst}
use Rattle.std.proofs.lemmas.Option.{same_Some}
use Rattle.med_syntax.specs.Tree.{Name}
use Rattle.fdw_api.specs.Prelude.{BoxState, BoxTable, table_of, CanBind, CanUnbind}
use Rattle.med_exec.specs.Slots.{BoxAt}
use Rattle.med_catalog.specs.Objects.{ServerObject, TableObject, Objects, server_named}
use Rattle.med_binder.specs.Places.{Attached}
use Rattle.med_world.specs.Engine.{Label, Shown, leased, IsServerAt, IsBoundAs, IsAmong, IsSound}
use Rattle.med_world.proofs.Faring.{same_box}
use Rattle.med_world.proofs.Scans.{unleased_scan}
use Rattle.med_world.proofs.Altered.{has_table}

-- ---- what the calls of boxes ask

-- servers of one source have one name: of AreSound, `sources_once`
abbrev pub SourcesOnce : Objects → Type 0
SourcesOnce o = (s r : ServerObject) (a b : Name) → server_named o a ≡ Some s → server_named o b ≡ Some r → s.source ≡ r.source → a ≡ b

-- a table may be bound where no other table of its server stands for its remote name, and the kind of the source takes it
pub bind_ready : (e : Shown) (t : TableObject) (place : ℕ) (box : BoxState) → IsSound e → SourcesOnce e.catalog → IsServerAt e t.server place → slice_get e.boxes place ≡ Some (Some box)
    → ((u : TableObject) (k : ℕ) → slice_get e.catalog.tables k ≡ Some u → u.server ≡ t.server → u.remote ≡ t.remote → ⊥) → box.nature.kind.objections t.columns t.settings ≡ [] → CanBind box t.remote t.columns t.settings
bind_ready e t place box sound once server there unbound takes = record { free = free; no_objection = takes }
  where
    free : (q : ℕ) (b : BoxTable) → table_of box q ≡ Some b → b.remote ≢ t.remote
    free q b is same = of_table (sound.tables_bound among.place u.0 among.at u.1 among.there)
      where
        among : IsAmong e.bound place q
        among = sound.bound_attached place q box b there is

        u : (t : TableObject) × (slice_get e.catalog.tables among.place ≡ Some t)
        u = has_table e.catalog.tables e.bound among.place among.at sound.many among.there

        of_table : IsBoundAs e u.0 among.at → ⊥
        of_table x =
            let one : x.server.source.0 ≡ server.source.0 = same_Some x.server.source.0 server.source.0 (sym x.server.source.1 ∙ ap (slice_get e.labels) among.source_is ∙ server.source.1) in
            let sources : x.server.at.source ≡ server.at.source = sym x.server.source.2 ∙ ap (λ (l : Label). l.name) one ∙ server.source.2 in
            let servers : u.0.server ≡ t.server = once x.server.at server.at u.0.server t.server x.server.is server.is sources in
            let boxes : x.box ≡ box = same_box x.box box (sym x.there ∙ ap (slice_get e.boxes) among.source_is ∙ there) in
            let bounds : x.bound ≡ b = same_Some x.bound b (sym x.is ∙ ap (λ (y : BoxState). table_of y among.at.number) boxes ∙ ap (table_of box) among.number_is ∙ is) in
            unbound u.0 among.place u.1 servers (sym x.remote ∙ ap (λ (y : BoxTable). y.remote) bounds ∙ same)

-- a bound table that is not leased may be unbound, since no scan of it is live
pub unbind_ready : (e : Shown) (t : TableObject) (k : ℕ) (a : Attached) → IsSound e → slice_get e.catalog.tables k ≡ Some t → slice_get e.bound k ≡ Some a → leased e t.name ≡ false → BoxAt e.boxes a.source (λ s. CanUnbind s a.number)
unbind_ready e t k a sound at_t at_a free =
    let x = sound.tables_bound k t a at_t at_a in
    record {
      box = x.box;
      there = x.there;
      holds = record {
        is_bound = subst (λ (o : Option BoxTable). IsSome o) (sym x.is) refl;
        no_scan = unleased_scan e k t a x.box sound.bound_once sound.scans at_t at_a free x.there;
        not_staged = sound.scans.unstaged a.source x.box x.there;
      };
    }

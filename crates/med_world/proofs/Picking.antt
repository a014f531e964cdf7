-- Something can always be picked, and what a world's source is in the engine.
use Rattle.std.proofs.Common.{◌≡◌, ℕ, Bool, true, false, cond, List, [], ◌∷◌, Option, Some, None, slice_get, refl, ap, sym, ◌∙◌, subst, suc, unwrap_or, bytes_eq}
use Rattle.med_syntax.specs.Prelude.{Name, TableTree, DdlTree, create_wrapper, create_server, create_mapping, create_table, drop_wrapper, drop_server, drop_table, drop_mapping}
use Rattle.fdw_api.specs.Prelude.{Kind, Entry, Holding, Known, Unknown, BoxState, Picks}
use Rattle.med_catalog.specs.Prelude.{ServerObject, TableObject, Objects, server_named, text_of, remote_label, new_table, Makes, Asks, skips, makes}
use Rattle.sql_meaning.specs.Prelude.{Pick, no_pick, World, Source, SourceState, standing, shared, dropped, source_named, is_taken, IsFree, Serves, PicksEntry}
use Rattle.med_world.specs.Engine.{Label, Shown, state_of, sources_of, Agrees}
use Rattle.med_world.specs.Altering.{IsFreeAt}
use Rattle.med_world.proofs.Lists.{bytes_same}

-- some entry that a source may hold
pub pick_of : Holding → Option Entry
pick_of (Known e) = e
pick_of Unknown = None

pub picks_pick : (h : Holding) → Picks h (pick_of h)
unfolding pick_of
picks_pick (Known e) = refl
picks_pick Unknown = tt

abbrev in_state : SourceState → Name → Option Entry
in_state (standing k f) remote = pick_of (f remote)
in_state (shared k) remote = None
in_state dropped remote = None

abbrev entry_in : Option Source → Name → Option Entry
entry_in None remote = None
entry_in (Some s) remote = in_state s.state remote

abbrev entry_at : World → Option ServerObject → Name → Option Entry
entry_at w None remote = None
entry_at w (Some s) remote = entry_in (source_named s.source w.sources) remote

-- the remote name that a statement gives its table
abbrev remote_of : TableTree → Option ServerObject → Name
remote_of t None = []
remote_of t (Some s) = unwrap_or (text_of t.options (remote_label s.kind)) []

abbrev entry_for : World → TableTree → Option Entry
entry_for w t = let s = server_named w.catalog t.server in entry_at w s (remote_of t s)

picked_entry : (w : World) (server remote : Name) (k : Kind) (f : Name → Holding) → Serves w server k f → Picks (f remote) (entry_at w (server_named w.catalog server) remote)
picked_entry w server remote k f h =
    subst (Picks (f remote)) (sym (ap (λ o. entry_at w o remote) h.is ∙ ap (λ o. entry_in o remote) h.stands.is ∙ ap (λ s. in_state s remote) h.stands.state)) (picks_pick (f remote))

same_table : (a b : TableObject) → new_table a ≡ new_table b → a ≡ b
same_table a b e = cc

-- of a statement that makes a table
made_entry : (w : World) (user : Name) (tree : TableTree) (t : TableObject) → Asks w.catalog user (create_table tree) (new_table t) → PicksEntry w t (record no_pick { entry = entry_for w tree })
made_entry w user tree t (skips x e) = absurd (cc)
made_entry w user tree t (makes x (made, is, e)) = subst (λ (u : TableObject). PicksEntry w u (record no_pick { entry = entry_for w tree })) (sym (same_table t made e)) entry
  where
    remote : remote_of tree (server_named w.catalog tree.server) ≡ made.remote
    remote = ap (remote_of tree) is.there ∙ ap (λ r. unwrap_or r []) is.remote

    entry : PicksEntry w made (record no_pick { entry = entry_for w tree })
    entry kind holdings s =
        let here : Serves w tree.server kind holdings = subst (λ (n : Name). Serves w n kind holdings) is.of_server s in
        let p : Picks (holdings made.remote) (entry_at w (server_named w.catalog tree.server) made.remote) = picked_entry w tree.server made.remote kind holdings here in
        subst (λ (r : Name). Picks (holdings made.remote) (entry_at w (server_named w.catalog tree.server) r)) (sym remote) p

-- any other makes none
no_table_made : (o : Objects) (user : Name) (d : DdlTree) (t : TableObject) → ((u : TableObject) → Makes o user d (new_table u) → ⊥) → Asks o user d (new_table t) → ⊥
no_table_made o user d t none (skips x e) = cc
no_table_made o user d t none (makes x m) = none t m

pub some_pick : (w : World) (user : Name) (d : DdlTree) → (p : Pick) × ((t : TableObject) → Asks w.catalog user d (new_table t) → PicksEntry w t p)
some_pick w user (create_table tree) = (record no_pick { entry = entry_for w tree }, λ t h. made_entry w user tree t h)
some_pick w user (create_wrapper n h) = (no_pick, λ t x. absurd (no_table_made w.catalog user (create_wrapper n h) t (λ u m. (let e = m.2 in cc)) x))
some_pick w user (create_server s) = (no_pick, λ t x. absurd (no_table_made w.catalog user (create_server s) t (λ u m. (let e = m.2 in cc)) x))
some_pick w user (create_mapping m) = (no_pick, λ t x. absurd (no_table_made w.catalog user (create_mapping m) t (λ u m. (let e = m.2 in cc)) x))
some_pick w user (drop_wrapper b n) = (no_pick, λ t x. absurd (no_table_made w.catalog user (drop_wrapper b n) t (λ u m. cc) x))
some_pick w user (drop_server b n) = (no_pick, λ t x. absurd (no_table_made w.catalog user (drop_server b n) t (λ u m. cc) x))
some_pick w user (drop_table b n) = (no_pick, λ t x. absurd (no_table_made w.catalog user (drop_table b n) t (λ u m. cc) x))
some_pick w user (drop_mapping b who n) = (no_pick, λ t x. absurd (no_table_made w.catalog user (drop_mapping b who n) t (λ u m. cc) x))

-- ---- the source of a name in a world, by its place in the engine

record InPlace (labels : List Label) (boxes : List (Option BoxState)) (name : Name) (s : Source) : Type 0 where
  place : ℕ
  label : Label
  at : slice_get labels place ≡ Some label
  named : label.name ≡ name
  box : Option BoxState
  there : slice_get boxes place ≡ Some box
  state : s.state ≡ state_of box
  kind : s.kind ≡ label.kind

next_place : (labels : List Label) (boxes : List (Option BoxState)) (l : Label) (b : Option BoxState) (name : Name) (s : Source) → InPlace labels boxes name s → InPlace (l ∷ labels) (b ∷ boxes) name s
next_place labels boxes l b name s h = record { place = suc h.place; label = h.label; at = h.at; named = h.named; box = h.box; there = h.there; state = h.state; kind = h.kind }

source_place : (labels : List Label) (boxes : List (Option BoxState)) (name : Name) (s : Source) → source_named name (sources_of labels boxes) ≡ Some s → InPlace labels boxes name s
source_place [] boxes name s e = absurd cc
source_place (l ∷ ls) [] name s e = absurd cc
source_place (l ∷ ls) (b ∷ bs) name s e = split (bytes_eq l.name name) refl (λ q. source_place ls bs name s q) e
  where
    split : (r : Bool) → bytes_eq l.name name ≡ r → (source_named name (sources_of ls bs) ≡ Some s → InPlace ls bs name s) → cond r (Some (record { name = l.name; kind = l.kind; state = state_of b })) (source_named name (sources_of ls bs)) ≡ Some s → InPlace (l ∷ ls) (b ∷ bs) name s
    split true is rest q =
        let this : record { name = l.name; kind = l.kind; state = state_of b } ≡ s = cc in
        record { place = 0; label = l; at = refl; named = bytes_same l.name name is; box = b; there = refl; state = sym (ap (λ (x : Source). x.state) this); kind = sym (ap (λ (x : Source). x.kind) this) }
    split false is rest q = next_place ls bs l b name s (rest q)

-- a source that is free in the world is free in the engine
pub free_back : (e : Shown) (w : World) (s : ServerObject) → Agrees e w → ((place : ℕ) → IsFreeAt e s place → ⊥) → IsFree w s.source s.kind → ⊥
free_back e w s h none f = split at.box at.there at.state
  where
    at : InPlace e.labels e.boxes s.source f.at
    at = source_place e.labels e.boxes s.source f.at (ap (source_named s.source) (sym h.sources) ∙ f.is)

    split : (b : Option BoxState) → slice_get e.boxes at.place ≡ Some b → f.at.state ≡ state_of b → ⊥
    split None there st = f.there st
    split (Some box) there st = none at.place (record {
      stands = record { label = at.label; there = at.at; named = at.named; of_kind = sym at.kind ∙ f.of_kind; box = box; box_there = there };
      untaken = ap (λ (o : Objects). is_taken o s.source) (sym h.catalog) ∙ f.untaken;
    })

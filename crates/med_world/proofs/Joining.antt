-- A source that is added leaves an engine sound, and in agreement with the worlds that have it too.
use Rattle.std.proofs.Common.{◌≡◌, ℕ, ◌+◌, ◌<◌, ◌≤◌, List, [], ◌∷◌, ◌++◌, Option, Some, None, slice_get, length, map, refl, ap, sym, ◌∙◌, subst, zero, suc, inl, inr, arith, bytes_eq, ◌⊎◌}
use Rattle.std.specs.List.{IsDistinct}
use Rattle.std.proofs.lemmas.List.{length_push, map-append}
use Rattle.std.proofs.lemmas.Option.{same_Some}
use Rattle.fdw_api.specs.Prelude.{Held, BoxState, BoxTable, IsIdle, table_of, IsSoundBox}
use Rattle.med_catalog.specs.declared.kind.SourceKind.{SourceKind}
use Rattle.med_binder.specs.Places.{Attached}
use Rattle.med_value.specs.Limits.{source_limit}
use Rattle.sql_meaning.specs.World.{World, Source, with_source}
use Rattle.med_world.specs.Engine.{Label, Shown, EachBox, EachTakes, TakesAs, IsNamedAt, IsAmong, IsSound, state_of, sources_of, RowsAgree, Agrees}
use Rattle.med_world.specs.Adding.{HasSource, with_box, Adds}
use Rattle.med_world.proofs.Lists.{none_some, push_before, push_cases, past}
use Rattle.med_world.proofs.NamedTables.{distinct_push}
use Rattle.med_world.proofs.Seats.{sessions_still}
use Rattle.med_world.proofs.Scans.{all_stay}
use Rattle.med_world.proofs.ScansChanged.{add_left, add_scans}

each_push : (P : BoxState → Type 0) (boxes : List (Option BoxState)) (b : BoxState) → EachBox P boxes → P b → EachBox P (boxes ++ Some b ∷ [])
each_push P boxes b h p slot s at =
    let r = push_cases boxes (Some b) slot (Some s) at in
    elim r as (λ _. P s) [ inl old ↦ h slot s old | inr new ↦ (let e : b ≡ s = cc in subst P e p) ]

labelled : (labels : List Label) (name : List ℕ) (i : ℕ) → slice_get (map (λ (l : Label). l.name) labels) i ≡ Some name → IsNamedAt labels i name
labelled [] name i h = absurd cc
labelled (l ∷ ls) name zero h =
    let e : l.name ≡ name = cc in
    (l, refl, e)
labelled (l ∷ ls) name (suc i) h = labelled ls name i h

takes_push : (labels : List Label) (boxes : List (Option BoxState)) (l : Label) (b : BoxState) → length boxes ≡ length labels → EachTakes labels boxes → TakesAs l.kind b → EachTakes (labels ++ l ∷ []) (boxes ++ Some b ∷ [])
takes_push labels boxes l b same h takes place k s at_k at_s = both (push_cases labels l place k at_k) (push_cases boxes (Some b) place (Some s) at_s)
  where
    both : (slice_get labels place ≡ Some k) ⊎ ((place ≡ length labels) × (l ≡ k)) → (slice_get boxes place ≡ Some (Some s)) ⊎ ((place ≡ length boxes) × (Some b ≡ Some s)) → TakesAs k.kind s
    both (inl x) (inl y) = h place k s x y
    both (inl x) (inr y) = absurd (past labels place k x (y.0 ∙ same))
    both (inr x) (inl y) = absurd (past boxes place (Some s) y (x.0 ∙ sym same))
    both (inr x) (inr y) =
        let e : b ≡ s = same_Some b s y.1 in
        subst (λ (z : BoxState). TakesAs k.kind z) e (subst (λ (z : Label). TakesAs z.kind b) x.1 takes)

-- an idle box is sound: a law of boxes
abbrev pub IdleIsSound : Type 0
IdleIsSound = (s : BoxState) → IsIdle s → IsSoundBox s

added_sound : IdleIsSound → (e : Shown) (name : List ℕ) (kind : SourceKind) (b : BoxState) → IsSound e → (HasSource e.labels name → ⊥) → length e.labels < source_limit → IsIdle b → TakesAs kind b → IsSound (with_box e name kind b)
added_sound law e name kind b h none room idle takes = record {
  objects = h.objects;
  places = length_push e.boxes (Some b) ∙ ap (λ n. n + 1) h.places ∙ sym (length_push e.labels l);
  sources = subst (λ n. n ≤ source_limit) (sym (length_push e.labels l)) (omega arith);
  sessions = h.sessions;
  seated = h.seated;
  source_names = subst (λ names. IsDistinct bytes_eq names) (sym (map-append (λ (x : Label). x.name) e.labels (l ∷ [])))
      (distinct_push (map (λ (x : Label). x.name) e.labels) name (λ i at. none (i, labelled e.labels name i at)) h.source_names);
  scans = add_scans e (with_box e name kind b) b refl idle refl refl refl h.scans;
  sound_boxes = each_push IsSoundBox e.boxes b h.sound_boxes (law b idle);
  takes = takes_push e.labels e.boxes l b h.places h.takes takes;
  servers_stand = λ s c. let x = h.servers_stand s c in (
    x.0,
    record {
      label = x.1.label;
      there = push_before e.labels l x.0 x.1.label x.1.there;
      named = x.1.named;
      of_kind = x.1.of_kind;
      box = x.1.box;
      box_there = push_before e.boxes (Some b) x.0 (Some x.1.box) x.1.box_there;
    },
  );
  many = h.many;
  tables_bound = λ k t a at_t at_a. let x = h.tables_bound k t a at_t at_a in record {
    server = record { at = x.server.at; is = x.server.is; source = (x.server.source.0, push_before e.labels l a.source x.server.source.0 x.server.source.1, x.server.source.2) };
    box = x.box;
    there = push_before e.boxes (Some b) a.source (Some x.box) x.there;
    bound = x.bound;
    is = x.is;
    remote = x.remote;
    kinds = x.kinds;
    writes = x.writes;
  };
  bound_attached = attached;
  bound_once = h.bound_once;
}
  where
    l : Label
    l = record { name = name; kind = kind }

    attached : (slot number : ℕ) (s : BoxState) (x : BoxTable) → slice_get (e.boxes ++ Some b ∷ []) slot ≡ Some (Some s) → table_of s number ≡ Some x → IsAmong e.bound slot number
    attached slot number s x at is = either (push_cases e.boxes (Some b) slot (Some s) at)
      where
        either : (slice_get e.boxes slot ≡ Some (Some s)) ⊎ ((slot ≡ length e.boxes) × (Some b ≡ Some s)) → IsAmong e.bound slot number
        either (inl old) = h.bound_attached slot number s x old is
        either (inr new) =
            let same : b ≡ s = same_Some b s new.1 in
            absurd (none_some x (table_of s number) (subst (λ (z : BoxState). table_of z number ≡ None) same (idle.no_table number)) is)

sources_push : (labels : List Label) (boxes : List (Option BoxState)) (l : Label) (b : BoxState) → length boxes ≡ length labels
    → sources_of (labels ++ l ∷ []) (boxes ++ Some b ∷ []) ≡ sources_of labels boxes ++ record { name = l.name; kind = l.kind; state = state_of (Some b) } ∷ []
sources_push [] [] l b e = refl
sources_push [] (x ∷ xs) l b e = absurd (omega arith)
sources_push (y ∷ ys) [] l b e = absurd (omega arith)
sources_push (y ∷ ys) (x ∷ xs) l b e = ap (λ (rest : List Source). record { name = y.name; kind = y.kind; state = state_of x } ∷ rest) (sources_push ys xs l b (omega arith))

rows_push : (boxes : List (Option BoxState)) (b : BoxState) (bound : List Attached) (rows : List (List Held)) → RowsAgree boxes bound rows → RowsAgree (boxes ++ Some b ∷ []) bound rows
rows_push boxes b [] [] h = tt
rows_push boxes b [] (r ∷ rs) h = h
rows_push boxes b (a ∷ more) [] h = h
rows_push boxes b (a ∷ more) (r ∷ rs) h =
    (record { box = h.0.box; there = push_before boxes (Some b) a.source (Some h.0.box) h.0.there; holds = h.0.holds }, rows_push boxes b more rs h.1)

added_agrees : (e : Shown) (name : List ℕ) (kind : SourceKind) (b : BoxState) → IsSound e → IsIdle b → (w : World) → Agrees e w → Agrees (with_box e name kind b) (with_source w name kind (state_of (Some b)))
added_agrees e name kind b sound idle w h =
    let l : Label = record { name = name; kind = kind } in
    record {
      catalog = h.catalog;
      sources = ap (λ (ss : List Source). ss ++ record { name = name; kind = kind; state = state_of (Some b) } ∷ []) h.sources ∙ sym (sources_push e.labels e.boxes l b sound.places);
      rows = rows_push e.boxes b e.bound w.rows h.rows;
      sessions = sessions_still e (e.boxes ++ Some b ∷ []) w (with_source w name kind (state_of (Some b))) refl refl refl (all_stay e (e.boxes ++ Some b ∷ []) h.scans (add_left e (with_box e name kind b) b refl idle)) h;
      scans = add_scans e (with_box e name kind b) b refl idle refl refl refl h.scans;
    }

pub sound_of : IdleIsSound → (e n : Shown) (name : List ℕ) (kind : SourceKind) (b : BoxState) → Adds e name kind b n → IsSound e → IsIdle b → TakesAs kind b → IsSound n
sound_of law e n name kind b h sound idle takes = subst IsSound (sym h.is) (added_sound law e name kind b sound h.name_free h.room idle takes)

pub agrees_of : (e n : Shown) (name : List ℕ) (kind : SourceKind) (b : BoxState) → Adds e name kind b n → IsSound e → IsIdle b
    → (w : World) → Agrees e w → Agrees n (with_source w name kind (state_of (Some b)))
agrees_of e n name kind b h sound idle w agrees =
    subst (λ (x : Shown). Agrees x (with_source w name kind (state_of (Some b)))) (sym h.is) (added_agrees e name kind b sound idle w agrees)

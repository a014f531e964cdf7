-- What a run of a query does to boxes leaves an engine sound, and in agreement with the same worlds.
use Rattle.std.proofs.Common.{◌≡◌, ℕ, true, List, [], ◌∷◌, ◌++◌, Option, Some, None, slice_get, length, map, refl, ap, sym, ◌∙◌, subst, zero, suc, nat_eq, IsPermutation, Contains, ◌⊎◌, inl, inr, arith}
use Rattle.std.specs.List.{list_all, IsDistinct}
use Rattle.med_value.specs.declared.value.ColType.{ColType}
use Rattle.fdw_api.specs.Prelude.{Held, held, TableRow, row_fits, BoxState, BoxTable, Scan, is_honest, table_of, scan_of, IsTableOf, IsSoundBox}
use Rattle.med_exec.specs.Running.{Served, Held as Scans, none_held, further, ServesRun, AllServed}
use Rattle.med_exec.proofs.Served.{box_inj, after_service, before_service}
use Rattle.med_exec.proofs.Leaving.{in_or_not, served_had}
use Rattle.med_value.specs.Limits.{session_count}
use Rattle.med_world.specs.Open.{Seated}
use Rattle.med_world.specs.Seats.{AreSoundSeats}
use Rattle.med_catalog.specs.Options.{table_settings, column_settings}
use Rattle.med_binder.specs.Places.{Attached}
use Rattle.sql_meaning.specs.World.{World, Source, SourceState, dropped}
use Rattle.med_world.specs.Engine.{Label, Shown, EachBox, KeepsScans, IsSound, state_of, sources_of, AreRowsOf, RowsAgree, Agrees, Rises, EachRises}
use Rattle.med_world.proofs.Seats.{sessions_still}
use Rattle.med_world.proofs.States.{honest_since, same_state}
use Rattle.med_world.proofs.Scans.{serving_scans, all_left, all_stay}
use Rattle.med_world.proofs.Faring.{no_box}
use Rattle.med_world.proofs.Sounds.{standing_still, written_still}

pub served_onward : (f g : Scans) (old new : List (Option BoxState)) → ServesRun f g old new → (i : ℕ) (b : BoxState) → slice_get old i ≡ Some (Some b) → (c : BoxState) × (slice_get new i ≡ Some (Some c)) × Served (f i) (g i) b c
served_onward f g old new h i b at =
    let p = after_service f g old new i b h at in
    (p.after, p.is, subst (λ (z : BoxState). Served (f i) (g i) z p.after) (box_inj p.before b (sym p.was ∙ at)) p.served)

pub served_backward : (f g : Scans) (old new : List (Option BoxState)) → ServesRun f g old new → (i : ℕ) (c : BoxState) → slice_get new i ≡ Some (Some c) → (b : BoxState) × (slice_get old i ≡ Some (Some b)) × Served (f i) (g i) b c
served_backward f g old new h i c at =
    let p = before_service f g old new i c h at in
    (p.before, p.was, subst (λ (z : BoxState). Served (f i) (g i) p.before z) (box_inj p.after c (sym p.is ∙ at)) p.served)

served_gone : (f g : Scans) (old new : List (Option BoxState)) → ServesRun f g old new → (i : ℕ) → slice_get old i ≡ Some None → slice_get new i ≡ Some None
served_gone f g [] [] h i at = absurd cc
served_gone f g [] (y ∷ ys) h i at = absurd h
served_gone f g (None ∷ xs) [] h i at = absurd h
served_gone f g (Some a ∷ xs) [] h i at = absurd h
served_gone f g (None ∷ xs) (Some y ∷ ys) h i at = absurd h
served_gone f g (Some a ∷ xs) (None ∷ ys) h i at = absurd h
served_gone f g (None ∷ xs) (None ∷ ys) h zero at = refl
served_gone f g (None ∷ xs) (None ∷ ys) h (suc i) at = served_gone (further f) (further g) xs ys h i at
served_gone f g (Some a ∷ xs) (Some c ∷ ys) h zero at = absurd (no_box a at)
served_gone f g (Some a ∷ xs) (Some c ∷ ys) h (suc i) at = served_gone (further f) (further g) xs ys h.1 i at

pub served_many : (f g : Scans) (old new : List (Option BoxState)) → ServesRun f g old new → length new ≡ length old
served_many f g [] [] h = refl
served_many f g [] (y ∷ ys) h = absurd h
served_many f g (None ∷ xs) [] h = absurd h
served_many f g (Some a ∷ xs) [] h = absurd h
served_many f g (None ∷ xs) (Some y ∷ ys) h = absurd h
served_many f g (Some a ∷ xs) (None ∷ ys) h = absurd h
served_many f g (None ∷ xs) (None ∷ ys) h = ap suc (served_many (further f) (further g) xs ys h)
served_many f g (Some a ∷ xs) (Some b ∷ ys) h = ap suc (served_many (further f) (further g) xs ys h.1)

served_rises : (l m : List ℕ) (b c : BoxState) → Served l m b c → Rises b c
served_rises l m b c h = record { nature = h.nature; next = h.next; end = h.end; pulled = h.pulled; faults = h.faults }

-- boxes that served a run have risen
pub run_rises : (f g : Scans) (old new : List (Option BoxState)) → ServesRun f g old new → EachRises old new
run_rises f g old new h = record {
  stays = λ i b at. let n = served_onward f g old new h i b at in (Some n.0, n.1, served_rises (f i) (g i) b n.0 n.2);
  stood = λ i c at. let n = served_backward f g old new h i c at in (n.0, n.1, served_rises (f i) (g i) n.0 c n.2);
  gone = λ i at. served_gone f g old new h i at;
}

pub serving_rises : (old new : List (Option BoxState)) → AllServed old new → EachRises old new
serving_rises old new h = run_rises none_held none_held old new h

-- ---- worlds

state_served : (l m : List ℕ) (b c : BoxState) → Served l m b c → state_of (Some c) ≡ state_of (Some b)
state_served l m b c k = same_state b c k.nature k.holdings

pub sources_served : (f g : Scans) (labels : List Label) (old new : List (Option BoxState)) → ServesRun f g old new → sources_of labels new ≡ sources_of labels old
sources_served f g [] old new h = refl
sources_served f g (l ∷ ls) [] [] h = refl
sources_served f g (l ∷ ls) [] (y ∷ ys) h = absurd h
sources_served f g (l ∷ ls) (None ∷ xs) [] h = absurd h
sources_served f g (l ∷ ls) (Some a ∷ xs) [] h = absurd h
sources_served f g (l ∷ ls) (None ∷ xs) (Some y ∷ ys) h = absurd h
sources_served f g (l ∷ ls) (Some a ∷ xs) (None ∷ ys) h = absurd h
sources_served f g (l ∷ ls) (None ∷ xs) (None ∷ ys) h =
    ap (λ (ss : List Source). record { name = l.name; kind = l.kind; state = dropped } ∷ ss) (sources_served (further f) (further g) ls xs ys h)
sources_served f g (l ∷ ls) (Some a ∷ xs) (Some b ∷ ys) h =
    ap (λ (s : SourceState). record { name = l.name; kind = l.kind; state = s } ∷ sources_of ls ys) (state_served (f 0) (g 0) a b h.0)
    ∙ ap (λ (ss : List Source). record { name = l.name; kind = l.kind; state = state_of (Some a) } ∷ ss) (sources_served (further f) (further g) ls xs ys h.1)

row_served : (f g : Scans) (old new : List (Option BoxState)) (a : Attached) (rows : List Held) → ServesRun f g old new → AreRowsOf old a rows → AreRowsOf new a rows
row_served f g old new a rows h r =
    let now = served_onward f g old new h a.source r.box r.there in
    record {
      box = now.0;
      there = now.1;
      holds = λ honest. let was = honest_since r.box now.0 now.2.nature honest in
          subst (λ (rs : List TableRow). IsPermutation (map held rs) rows) (sym (now.2.rows was a.number)) (r.holds was);
    }

pub rows_served : (f g : Scans) (old new : List (Option BoxState)) → ServesRun f g old new → (bound : List Attached) (rows : List (List Held)) → RowsAgree old bound rows → RowsAgree new bound rows
rows_served f g old new h [] [] r = tt
rows_served f g old new h [] (x ∷ xs) r = absurd r
rows_served f g old new h (a ∷ more) [] r = absurd r
rows_served f g old new h (a ∷ more) (x ∷ xs) r = (row_served f g old new a x h r.0, rows_served f g old new h more xs r.1)

pub serving_agrees : (e : Shown) (new : List (Option BoxState)) → AllServed e.boxes new → (w : World) → Agrees e w → Agrees (record e { boxes = new }) w
serving_agrees e new h w agrees = record {
  scans = serving_scans e new h agrees.scans;
  catalog = agrees.catalog;
  sources = agrees.sources ∙ sym (sources_served none_held none_held e.labels e.boxes new h);
  rows = rows_served none_held none_held e.boxes new h e.bound w.rows agrees.rows;
  sessions = sessions_still e new w w refl refl refl (all_stay e new agrees.scans (all_left e new h)) agrees;
}

-- ---- the engine

honest_before : (l m : List ℕ) (b c : BoxState) → Served l m b c → is_honest c → is_honest b
honest_before l m b c k h = ap (λ n. n.honest) (sym k.nature) ∙ h

table_before : (l m : List ℕ) (b c : BoxState) (t : ℕ) (x : BoxTable) → Served l m b c → table_of c t ≡ Some x → table_of b t ≡ Some x
table_before l m b c t x k is = sym (ap (λ f. f t) k.tables) ∙ is

still_table : (l m : List ℕ) (b c : BoxState) (t : ℕ) (kinds : List ColType) → Served l m b c → IsTableOf b t kinds → IsTableOf c t kinds
still_table l m b c t kinds k w = (w.0, ap (λ f. f t) k.tables ∙ w.1, w.2)

-- a box is sound that was so, where each live scan of the run is of a bound table, with its columns' types
sound_served : (l m : List ℕ) (b c : BoxState) → Served l m b c → ((q : ℕ) (scan : Scan) → scan_of c q ≡ Some scan → IsTableOf c scan.table scan.kinds) → IsSoundBox b → IsSoundBox c
sound_served l m b c k scans h = record {
  typed = λ honest t x is. subst (λ (rs : List TableRow). list_all (λ r. row_fits x.kinds r.cells) rs ≡ true) (sym (k.rows (honest_before l m b c k honest) t)) (h.typed (honest_before l m b c k honest) t x (table_before l m b c t x k is));
  once = λ honest t x is. subst (λ (rs : List TableRow). IsDistinct nat_eq (map (λ r. r.id) rs)) (sym (k.rows (honest_before l m b c k honest) t)) (h.once (honest_before l m b c k honest) t x (table_before l m b c t x k is));
  scans = scans;
  staged = λ staging is. let w = h.staged staging (sym k.staged ∙ is) in (w.0, still_table l m b c staging.table w.0 k w.1, w.2);
}

-- each scan that a run holds now is of a bound table, with its columns' types
abbrev pub AreTyped : Scans → List (Option BoxState) → Type 0
AreTyped own boxes = (slot number : ℕ) (t : BoxState) (scan : Scan) → Contains (own slot) number → slice_get boxes slot ≡ Some (Some t) → scan_of t number ≡ Some scan → IsTableOf t scan.table scan.kinds

pub none_typed : (boxes : List (Option BoxState)) → AreTyped none_held boxes
none_typed boxes slot number t scan has at live = absurd (let n = has.1 in omega arith)

pub boxes_sound : (f g : Scans) (old new : List (Option BoxState)) → ServesRun f g old new → AreTyped g new → EachBox IsSoundBox old → EachBox IsSoundBox new
boxes_sound f g old new h typed sound i c at = sound_served (f i) (g i) b.0 c b.2 scans (sound i b.0 b.1)
  where
    b : (b : BoxState) × (slice_get old i ≡ Some (Some b)) × Served (f i) (g i) b c
    b = served_backward f g old new h i c at

    scans : (q : ℕ) (scan : Scan) → scan_of c q ≡ Some scan → IsTableOf c scan.table scan.kinds
    scans q scan live = split (in_or_not q (g i))
      where
        split : Contains (g i) q ⊎ (Contains (g i) q → ⊥) → IsTableOf c scan.table scan.kinds
        split (inl has) = typed i q c scan has at live
        split (inr out) =
            let was = (served_had f g old new i q c scan h out at live).0 in
            let same : was.box ≡ b.0 = box_inj was.box b.0 (sym was.there ∙ b.1) in
            still_table (f i) (g i) b.0 c scan.table scan.kinds b.2 ((sound i b.0 b.1).scans q scan (ap (λ (z : BoxState). scan_of z q) (sym same) ∙ was.holds))

-- An engine with other sessions stays sound, whose boxes have served their cursors.
pub run_sound : (e : Shown) (seats : List (Option Seated)) (new : List (Option BoxState)) (f g : Scans) → IsSound e → length seats ≡ session_count → AreSoundSeats seats → ServesRun f g e.boxes new → AreTyped g new
    → KeepsScans (record e { seats = seats; boxes = new }) → IsSound (record e { seats = seats; boxes = new })
run_sound e seats new f g sound long seated h typed scans = record {
  objects = sound.objects;
  places = served_many f g e.boxes new h ∙ sound.places;
  sources = sound.sources;
  sessions = long;
  seated = seated;
  source_names = sound.source_names;
  scans = scans;
  sound_boxes = boxes_sound f g e.boxes new h typed sound.sound_boxes;
  takes = λ place l c at_l at_c o t columns declared clear. let b = served_backward f g e.boxes new h place c at_c in
      ap (λ n. n.kind.objections columns (table_settings l.kind t.options ++ column_settings 1 t.columns)) b.2.nature ∙ sound.takes place l b.0 at_l b.1 o t columns declared clear;
  servers_stand = λ s in_p. let p = sound.servers_stand s in_p in (p.0, standing_still e (record e { seats = seats; boxes = new }) s s p.0 refl refl refl (λ i b at. let n = served_onward f g e.boxes new h i b at in (n.0, n.1)) p.1);
  many = sound.many;
  tables_bound = λ k t a at_t at_a. let x = sound.tables_bound k t a at_t at_a in let now = served_onward f g e.boxes new h a.source x.box x.there in
      record { server = record { at = x.server.at; is = x.server.is; source = x.server.source }; box = now.0; there = now.1; bound = x.bound; is = ap (λ f. f a.number) now.2.tables ∙ x.is; remote = x.remote; kinds = x.kinds; writes = written_still t x.bound x.box.nature now.0.nature now.2.nature x.writes };
  bound_attached = λ slot number s b at is. let was = served_backward f g e.boxes new h slot s at in sound.bound_attached slot number was.0 b was.1 (table_before (f slot) (g slot) was.0 s number b was.2 is);
  bound_once = sound.bound_once;
}

pub serving_sound : (e : Shown) (new : List (Option BoxState)) → AllServed e.boxes new → IsSound e → IsSound (record e { boxes = new })
serving_sound e new h sound = run_sound e e.seats new none_held none_held sound sound.sessions sound.seated h (none_typed new) (serving_scans e new h sound.scans)

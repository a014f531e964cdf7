-- A write leads to its tag or its refusal in each world that agrees, and leaves an engine sound.
use Rattle.std.proofs.Common.{◌≡◌, ℕ, ◌≤◌, ◌⊎◌, Bool, true, false, List, [], Option, Some, IsPermutation, slice_get, ◌+◌, refl, ap, sym, ◌∙◌, subst, arith, inl, inr}
use Rattle.med_value.specs.Prelude.{Tuple, phase_of}
use Rattle.med_value.specs.declared.cause.Cause.{Cause}
use Rattle.med_value.specs.declared.cause.Cause.TheVariants.{LimitExceeded, InUse}
use Rattle.med_syntax.specs.Prelude.{Name, SelectTree, GivenTree, values, rows_of, WriteTree, insert, update, delete}
use Rattle.med_parser.specs.CommandTree.{on_rows}
use Rattle.fdw_api.specs.Prelude.{is_of_run, GivenRow}
use Rattle.tri_expr.specs.declared.expr.Fault.TheVariants.{Range, Zero}
use Rattle.tri_expr.specs.declared.expr.EvalFault.TheVariants.{OutOfRange, ZeroDivisor, NoMemory as WantsMemory}
use Rattle.med_query.specs.Prelude.{Tables, SameRows, IsShownCause}
use Rattle.fdw_api.specs.State.{BoxState, Ledger, is_honest, rows_of as rows_in_box}
use Rattle.fdw_api.specs.declared.interface.Fault.TheVariants.{Source}
use Rattle.med_exec.specs.Running.{AllServed, SlotShows, HasFailed, IsUsedUp, HonestOver, Breaks, wants_memory, box_breaks, none_held}
use Rattle.med_exec.proofs.Served.{all_served, all_on, change_served, before_service, breaks_between}
use Rattle.med_planner.specs.Planned.{entry_rows}
use Rattle.med_catalog.specs.Prelude.{Objects, phase}
use Rattle.bind_names.specs.Meaning.{Meant}
use Rattle.med_binder.specs.Prelude.{Attached, meant_by}
use Rattle.med_write.specs.declared.write.WriteFault.{WriteFault}
use Rattle.med_write.specs.declared.write.WriteFault.TheVariants.{Evaluation, NotNull}
use Rattle.med_write.specs.Form.{WriteForm}
use Rattle.med_write.specs.Writing.{count_of, rows_after}
use Rattle.med_write.specs.Making.{cells_of as cells_given, IsWriteFault}
use Rattle.med_exec.specs.Writing.{AreRead, write_refusal, KindRefuses, Bars, lacks_memory as box_lacks_memory, source_fails as box_fails_now, gives_twice, numbers_end as box_numbers_end, write_shows, kind_refuses, RefusesWrite}
use Rattle.bind_write.specs.Meaning.{target_of}
use Rattle.bind_write.specs.Naming.{WriteNames}
use Rattle.bind_write.specs.Typing.{WriteTypes}
use Rattle.bind_write.specs.Binding.{IsBindable, NotBound}
use Rattle.med_world.specs.Fetching.{cause_of}
use Rattle.sql_meaning.specs.Prelude.{Pick, no_pick, has_none, World, cells_of, rows_of_place, is_large_form, Writes, WritesIn, is_written, is_unseen}
use Rattle.sql_meaning.specs.Causes.{query_of, entry_tables, meant_over, entries_in, reads_shared, QueryState, QueryRun, OfGiven, OfQuery, write_over, rows_held, writes_shared, WriteState, query_shows, IsRowPick, PicksWrite, MayShow}
use Rattle.med_world.specs.Engine.{Shown, leased, IsSound, Agrees}
use Rattle.med_world.specs.Starting.{RunFails, no_memory, box_fails, numbers_out, shows_cause}
use Rattle.med_world.specs.Writing.{FailsQuery, IsUntyped, columns_for, form_for, IsTargetAt, WritesRows, RefusesRows, WriteFails, not_bound, in_use, too_many, query_fails, box_refuses, rows_untyped}
use Rattle.med_world.specs.Laws.{with_boxes}
use Rattle.med_world.proofs.RowEnds.{RowsDoneIn, RowsDone, RowsToldIn, RestsIn, RowsRefusedIn, told_in, shared_in, NoneBeforeRows, WhyNotDone, is_told, lacks_memory, source_fails, numbers_end, RowsNotDone}
use Rattle.med_world.proofs.Seats.{leases_same}
use Rattle.med_world.proofs.Faring.{none_rises, rise_twice}
use Rattle.med_world.proofs.Querying.{same_meant, same_entries, none_many}
use Rattle.med_world.proofs.Serving.{serving_rises, serving_agrees, serving_sound}
use Rattle.med_world.proofs.AnyRows.{count_same, read_same}
use Rattle.med_world.proofs.WrittenBoxes.{refuses_served, has_failed}
use Rattle.med_world.proofs.Written.{TargetIn, target_in, target_honest, target_shared, held_same, done_rises, done_sound, DoneIn, done_agrees, done_unseen}
use Rattle.med_world.proofs.Sharing.{query_honest}
use Rattle.med_world.proofs.TargetRows.{first_from, first_table}
use Rattle.med_world.proofs.RowCausing.{of_query, WritesPhased, row_phase, row_from_types, row_from_state, row_from_run, none_row, writable_in, none_state, write_run_phase}
use Rattle.med_world.proofs.RowPicks.{PicksOne, given_served, answer_picked, query_clear, query_few, form_same, RunsClear, RunShows, done_clear, unseen_clear, kind_told, Shows, shows_told, some_write, fault_in, lack_in}

-- ---- done

pub rows_done : (e : Shown) (user : Name) (t : WriteTree) (n : ℕ) (new : List (Option BoxState)) → IsSound e → WritesRows e.catalog user e.bound t (leased e (target_of t)) e.boxes n new → RowsDone e user t n (with_boxes e new)
rows_done e user t n new sound h = record { rises = rise_twice e.boxes h.now new (serving_rises e.boxes h.now served) (done_rises mid t h.answer h.at n new h.writes); each = each }
  where
    mid : Shown
    mid = with_boxes e h.now

    served : AllServed e.boxes h.now
    served = given_served e.catalog e.bound t e.boxes h.answer h.now h.given

    mid_sound : IsSound mid
    mid_sound = serving_sound e h.now served sound

    b : BoxState
    b = h.writes.before

    x : TargetIn mid t h.at b
    x = target_in mid t h.at b mid_sound h.target h.writes.there

    each : (w : World) → Agrees e w → RowsDoneIn w user t n (with_boxes e new)
    each w a = by b.nature.honest refl
      where
        now : Agrees mid w
        now = serving_agrees e h.now served w a

        picked : PicksOne w t h.answer
        picked = answer_picked e w t h.answer h.now sound a h.given

        query : (c : Cause) → OfQuery (λ q. QueryRun w q c) t → ⊥
        query = query_clear e w t h.answer h.now sound a h.given

        form : form_for e.catalog t ≡ write_over w t
        form = form_same e w t a

        read : List GivenRow
        read = h.writes.change.writes.read

        done_in : (clear : RunsClear w t h.answer) (after : World) → WritesIn w clear.pick t n after → Agrees (with_boxes e new) after → RowsDoneIn w user t n (with_boxes e new)
        done_in clear after writes agrees = record {
          pick = clear.pick;
          picks = λ writable. clear.picks;
          none = none_row w user clear.pick t (writable_in e w user t a h.bindable) (none_state e w t sound h.free a (query_few e w t h.answer h.now a h.given)) clear.none;
          after = after;
          writes = writes;
          agrees = agrees;
        }

        by : (honest : Bool) → b.nature.honest ≡ honest → RowsDoneIn w user t n (with_boxes e new)
        by false lies =
            let shares = target_shared mid w t h.at b mid_sound now h.writes.there x lies in
            done_in (unseen_clear w t h.answer shares picked query) w (is_unseen shares refl) (done_unseen mid w t h.answer h.at n new mid_sound h.free h.target h.writes now lies)
        by true honest = done_in clear done.after (is_written writes) done.agrees
          where
            clear : RunsClear w t h.answer
            clear = done_clear mid w t h.answer h.at n new mid_sound h.target h.writes now picked honest query

            done : DoneIn mid w t h.answer new
            done = done_agrees mid w t h.answer h.at n new mid_sound h.free h.target h.writes now honest

            count : n ≡ count_of (write_over w t) (cells_of (rows_held w t)) clear.pick.answer
            count =
                h.writes.change.writes.many ∙ h.writes.change.writes.are_changes.many
                ∙ count_same (form_for e.catalog t) h.answer (cells_given read) (cells_of (rows_held w t))
                (read_same (form_for e.catalog t) (rows_in_box b h.at.number) read (rows_held w t) (h.writes.change.writes.are_read honest) (held_same mid w t h.at b now h.writes.there x honest))
                ∙ ap (λ (m : WriteForm). count_of m (cells_of (rows_held w t)) h.answer) form
                ∙ ap (λ (rows : List Tuple). count_of (write_over w t) (cells_of (rows_held w t)) rows) (sym clear.answer_is)

            writes : Writes w clear.pick t n done.after
            writes = record {
              table = done.table;
              kind = done.kind;
              holdings = done.holdings;
              target = done.target;
              count = count;
              rows = done.rows;
              same = subst (λ (rows : List Tuple). IsPermutation (rows_after (done.kind.line done.table.columns done.table.settings) (write_over w t) rows (rows_held w t)) done.rows) (sym clear.answer_is)
                  (subst (λ (m : WriteForm). IsPermutation (rows_after (done.kind.line done.table.columns done.table.settings) m h.answer (rows_held w t)) done.rows) form done.same);
              is = done.is;
            }

pub rows_done_sound : (e : Shown) (user : Name) (t : WriteTree) (n : ℕ) (new : List (Option BoxState)) → IsSound e → WritesRows e.catalog user e.bound t (leased e (target_of t)) e.boxes n new → IsSound (with_boxes e new)
rows_done_sound e user t n new sound h =
    done_sound (with_boxes e h.now) t h.answer h.at n new (serving_sound e h.now (given_served e.catalog e.bound t e.boxes h.answer h.now h.given) sound) h.free h.target h.writes

-- ---- the query of an INSERT

linked : (P : SelectTree → Type 0) (t : WriteTree) → OfQuery P t → OfQuery (λ q. P q × OfQuery (λ r. r ≡ q) t) t
linked P (insert i) h = in_given i.given h
  where
    in_given : (g : GivenTree) → OfGiven P g → OfGiven (λ q. P q × OfGiven (λ r. r ≡ q) g) g
    in_given (values rows) x = x
    in_given (rows_of q) x = (x, refl)
linked P (update u) h = h
linked P (delete d) h = h

in_query : (P Q : SelectTree → Type 0) (t : WriteTree) → ((q : SelectTree) → P q → Q q) → OfQuery P t → OfQuery Q t
in_query P Q (insert i) f h = in_given i.given h
  where
    in_given : (g : GivenTree) → OfGiven P g → OfGiven Q g
    in_given (values rows) x = x
    in_given (rows_of q) x = f q x
in_query P Q (update u) f h = h
in_query P Q (delete d) f h = h

one_query : (t : WriteTree) (q s : SelectTree) → OfQuery (λ r. r ≡ q) t → OfQuery (λ r. r ≡ s) t → q ≡ s
one_query (insert i) q s x y = in_given i.given x y
  where
    in_given : (g : GivenTree) → OfGiven (λ r. r ≡ q) g → OfGiven (λ r. r ≡ s) g → q ≡ s
    in_given (values rows) x y = absurd x
    in_given (rows_of r) x y = sym x ∙ y
one_query (update u) q s x y = absurd x
one_query (delete d) q s x y = absurd x

-- ---- refused

none_early : (e : Shown) (user : Name) (t : WriteTree) → IsBindable e.catalog user t → NoneBeforeRows e user t
none_early e user t b w a p d h = let r : 5 ≤ phase d = row_from_state w user p t (writable_in e w user t a b) d h in omega arith

-- a cause of names, rights, types or state: nothing is picked
early : (w : World) (user : Name) (t : WriteTree) (c : Cause) (s : WriteNames w.catalog user t c ⊎ (WriteTypes w.catalog t c ⊎ WriteState w t c)) → IsRowPick w user t no_pick
early w user t c s writable = absurd (writable c s)

-- a cause of the run
told_run : (e : Shown) (w : World) (user : Name) (t : WriteTree) (c : Cause) → IsSound e → leased e (target_of t) ≡ false → Agrees e w → IsBindable e.catalog user t → (OfQuery (λ q. (d : Cause) × QueryState w q d) t → ⊥) → RunShows w t c → RowsToldIn w user t c
told_run e w user t c sound free a b few r = record {
  pick = r.pick;
  picks = λ writable. r.picks;
  stands = inr (inr (inr r.stands));
  least = λ d x. let p : phase c ≡ 6 = write_run_phase w r.pick t c r.stands in let q : 6 ≤ phase d = row_from_run w user r.pick t (writable_in e w user t a b) (none_state e w t sound free a few) d x in omega arith;
}

-- nothing was asked of a box
quiet : (e : Shown) (new : List (Option BoxState)) (user : Name) (t : WriteTree) (c : Cause) → new ≡ e.boxes → WhyNotDone e user t c e → RowsNotDone e user t c (with_boxes e new)
quiet e new user t c same why = subst (λ (boxes : List (Option BoxState)). RowsNotDone e user t c (with_boxes e boxes)) (sym same) (record { rises = none_rises e.boxes; kept = λ w a. a; why = why })

-- it is not bound
not_bound_ends : WritesPhased → (e : Shown) (user : Name) (t : WriteTree) (c : Cause) → NotBound e.catalog user t c → WhyNotDone e user t c e
not_bound_ends law e user t c (inl is) = lacks_memory is
not_bound_ends law e user t c (inr (inl h)) = is_told (λ w a. told_in (told w a))
  where
    told : (w : World) → Agrees e w → RowsToldIn w user t c
    told w a =
        let stands : WriteNames w.catalog user t c = subst (λ (o : Objects). WriteNames o user t c) (sym a.catalog) h in
        record {
          pick = no_pick;
          picks = early w user t c (inl stands);
          stands = inl stands;
          least = λ d x. let p : phase c ≡ 3 = law.names e.catalog user t c h in let r : 3 ≤ phase d = row_phase law w user no_pick t d x in omega arith;
        }
not_bound_ends law e user t c (inr (inr (h, none))) = is_told (λ w a. told_in (told w a))
  where
    told : (w : World) → Agrees e w → RowsToldIn w user t c
    told w a =
        let stands : WriteTypes w.catalog t c = subst (λ (o : Objects). WriteTypes o t c) (sym a.catalog) h in
        record {
          pick = no_pick;
          picks = early w user t c (inr (inl stands));
          stands = inr (inl stands);
          least = λ d x. let p : phase c ≡ 4 = law.types e.catalog t c h in
              let r : 4 ≤ phase d = row_from_types law w user no_pick t (subst (λ (o : Objects). (y : Cause) → WriteNames o user t y → ⊥) (sym a.catalog) none) d x in omega arith;
        }

-- its query is larger than it may be
many_end : (e : Shown) (user : Name) (t : WriteTree) → IsBindable e.catalog user t → OfQuery (λ q. is_large_form (meant_by e.catalog q).form ≡ true) t → WhyNotDone e user t LimitExceeded e
many_end e user t b many = is_told (λ w a. told_in (told w a))
  where
    told : (w : World) → Agrees e w → RowsToldIn w user t LimitExceeded
    told w a = record {
      pick = no_pick;
      picks = early w user t LimitExceeded (inr (inr stands));
      stands = inr (inr (inl stands));
      least = row_from_state w user no_pick t (writable_in e w user t a b);
    }
      where
        stands : WriteState w t LimitExceeded
        stands = inr (in_query (λ q. is_large_form (meant_by e.catalog q).form ≡ true) (λ q. QueryState w q LimitExceeded) t (λ q x. (subst (λ (m : Meant). is_large_form m.form ≡ true) (same_meant e w q a) x, refl)) many)

-- a cursor reads its table
use_end : (e : Shown) (user : Name) (t : WriteTree) → IsSound e → IsBindable e.catalog user t → leased e (target_of t) ≡ true → WhyNotDone e user t InUse e
use_end e user t sound b taken = is_told (λ w a. told_in (told w a))
  where
    told : (w : World) → Agrees e w → RowsToldIn w user t InUse
    told w a =
        let stands : WriteState w t InUse = inl (refl, ap (λ (f : Name → Bool). f (target_of t)) (leases_same e w sound a) ∙ taken) in
        record {
          pick = no_pick;
          picks = early w user t InUse (inr (inr stands));
          stands = inr (inr (inl stands));
          least = row_from_state w user no_pick t (writable_in e w user t a b);
        }

-- the box of its table is there
target_box : (e : Shown) (t : WriteTree) (at : Attached) → IsSound e → IsTargetAt e.catalog e.bound t at → (b : BoxState) × (slice_get e.boxes at.source ≡ Some (Some b))
target_box e t at sound target =
    let f = first_from e.catalog.tables (target_of t) 0 target.place target.named in
    let u = first_table e.catalog.tables (target_of t) f.0 f.2 in
    let same : target.place ≡ f.0 = (let z : target.place ≡ 0 + f.0 = f.1 in omega (arith, z)) in
    let x = sound.tables_bound f.0 u.0 at u.1 (ap (slice_get e.bound) (sym same) ∙ target.there) in
    (x.box, x.there)

-- whether a write rests on a shared source
abbrev IsUnshared : World → WriteTree → Type 0
IsUnshared w t = (writes_shared w t ≡ false) × ((q : SelectTree) → OfQuery (λ r. r ≡ q) t → reads_shared w q ≡ false)

rests_or_not : (w : World) (t : WriteTree) → RestsIn w t ⊎ IsUnshared w t
rests_or_not w t = by (writes_shared w t) refl
  where
    of_one : (q : SelectTree) (b : Bool) → reads_shared w q ≡ b → (reads_shared w q ≡ true) ⊎ ((s : SelectTree) → q ≡ s → reads_shared w s ≡ false)
    of_one q true is = inl is
    of_one q false is = inr (λ s same. ap (reads_shared w) (sym same) ∙ is)

    of_given : (g : GivenTree) → OfGiven (λ q. reads_shared w q ≡ true) g ⊎ ((q : SelectTree) → OfGiven (λ r. r ≡ q) g → reads_shared w q ≡ false)
    of_given (values rows) = inr (λ q x. absurd x)
    of_given (rows_of q) = of_one q (reads_shared w q) refl

    of_tree : (t : WriteTree) → OfQuery (λ q. reads_shared w q ≡ true) t ⊎ ((q : SelectTree) → OfQuery (λ r. r ≡ q) t → reads_shared w q ≡ false)
    of_tree (insert i) = of_given i.given
    of_tree (update u) = inr (λ q x. absurd x)
    of_tree (delete d) = inr (λ q x. absurd x)

    both : writes_shared w t ≡ false → OfQuery (λ q. reads_shared w q ≡ true) t ⊎ ((q : SelectTree) → OfQuery (λ r. r ≡ q) t → reads_shared w q ≡ false) → RestsIn w t ⊎ IsUnshared w t
    both unshared (inl x) = inl (inr x)
    both unshared (inr x) = inr (unshared, x)

    by : (b : Bool) → writes_shared w t ≡ b → RestsIn w t ⊎ IsUnshared w t
    by true is = inl (inl is)
    by false is = both is (of_tree t)

-- a cause that may be told of the run, and that stands where no source is shared
ends_in : (e : Shown) (w : World) (user : Name) (t : WriteTree) (c : Cause) → IsSound e → leased e (target_of t) ≡ false → Agrees e w → IsBindable e.catalog user t → (OfQuery (λ q. (d : Cause) × QueryState w q d) t → ⊥) → MayShow (on_rows t) c
    → (IsUnshared w t → RunShows w t c) → RowsRefusedIn w user t c
ends_in e w user t c sound free a b few may shows = by (rests_or_not w t)
  where
    by : RestsIn w t ⊎ IsUnshared w t → RowsRefusedIn w user t c
    by (inl rests) = shared_in rests may (λ p d x. let r : 6 ≤ phase d = row_from_run w user p t (writable_in e w user t a b) (none_state e w t sound free a few) d x in omega arith)
    by (inr unshared) = told_in (told_run e w user t c sound free a b few (shows unshared))

-- its query is not answered
query_told : (e : Shown) (w : World) (t : WriteTree) (at : Attached) (q : SelectTree) (c : Cause) (new : List (Option BoxState)) → IsSound e → IsTargetAt e.catalog e.bound t at → Agrees e w → OfQuery (λ r. r ≡ q) t
    → (h : FailsQuery e.catalog e.bound q e.boxes c new) → (HonestOver h.places e.boxes → (db : Tables) → SameRows (entry_rows e.boxes h.places) db → IsShownCause (query_of (meant_by e.catalog q)) db c) → IsUnshared w t → RunShows w t c
query_told e w t at q c new sound target_at a is h shows unshared = record {
  pick = p.0;
  picks = p.1;
  stands = query_shows (in_query (λ r. r ≡ q) (λ r. QueryRun w r c) t (λ r same. subst (λ (s : SelectTree). QueryRun w s c) (sym same) run) is);
}
  where
    honest : HonestOver h.places e.boxes
    honest = query_honest e w q h.places sound a (unshared.1 q is) h.are

    run : QueryRun w q c
    run = (
      unshared.1 q is,
      subst (λ (m : Meant). IsShownCause (query_of m) (entry_tables m.entries (rows_of_place w.rows)) c) (same_meant e w q a)
          (shows honest (entry_tables (meant_by e.catalog q).entries (rows_of_place w.rows)) (same_entries e w q h.places a h.are honest)),
    )

    none_given : PicksOne w t []
    none_given s same unread = has_none c (subst (λ (r : SelectTree). IsShownCause (query_of (meant_over w r)) (entries_in w r) c) (one_query t q s is same) run.1) refl

    box : (b : BoxState) × (slice_get e.boxes at.source ≡ Some (Some b))
    box = target_box e t at sound target_at

    p : (p : Pick) × PicksWrite w t p × (p.answer ≡ [])
    p = some_write e w t [] at box.0 sound target_at box.1 a none_given unshared.0

few_for : (e : Shown) (w : World) (t : WriteTree) (q : SelectTree) → Agrees e w → OfQuery (λ r. r ≡ q) t → is_large_form (meant_by e.catalog q).form ≡ false → OfQuery (λ r. (d : Cause) × QueryState w r d) t → ⊥
few_for e w t q a is few h = of_query (λ r. ((d : Cause) × QueryState w r d) × OfQuery (λ s. s ≡ r) t) ⊥ t (λ r x. none_many e w q a few x.0.0 (subst (λ (s : SelectTree). QueryState w s x.0.0) (sym (one_query t q r is x.1)) x.0.1))
    (linked (λ r. (d : Cause) × QueryState w r d) t h)

query_ends : (e : Shown) (new : List (Option BoxState)) (user : Name) (t : WriteTree) (at : Attached) (q : SelectTree) (c : Cause) → IsSound e → leased e (target_of t) ≡ false → IsBindable e.catalog user t → IsTargetAt e.catalog e.bound t at → OfQuery (λ r. r ≡ q) t
    → (h : FailsQuery e.catalog e.bound q e.boxes c new) → RunFails (query_of (meant_by e.catalog q)) h.places c e.boxes new → WhyNotDone e user t c (with_boxes e new)
query_ends e new user t at q c sound free b target_at is h (no_memory e1) = lacks_memory e1
query_ends e new user t at q c sound free b target_at is h (box_fails e1 s) = source_fails e1 s (none_early e user t b)
query_ends e new user t at q c sound free b target_at is h (numbers_out e1 s) = numbers_end e1 s (none_early e user t b)
query_ends e new user t at q c sound free b target_at is h (shows_cause of_run s) = is_told (λ w a. ends_in e w user t c sound free a b (few_for e w t q a is h.few) (inl of_run) (query_told e w t at q c new sound target_at a is h s))

-- the box of its table refuses it
one_box : (e : Shown) (w : World) (user : Name) (t : WriteTree) (c : Cause) (new : List (Option BoxState)) → IsSound e → leased e (target_of t) ≡ false → IsBindable e.catalog user t → (r : RefusesRows e.catalog e.bound t e.boxes c new) → Agrees e w
    → MayShow (on_rows t) c → (writes_shared w t ≡ false → RunShows w t c) → RowsRefusedIn w user t c
one_box e w user t c new sound free b r a may shows = ends_in e w user t c sound free a b (query_few e w t r.answer r.now a r.given) may (λ unshared. shows unshared.0)

mid_sound : (e : Shown) (t : WriteTree) (c : Cause) (new : List (Option BoxState)) → IsSound e → (r : RefusesRows e.catalog e.bound t e.boxes c new) → IsSound (with_boxes e r.now)
mid_sound e t c new sound r = serving_sound e r.now (given_served e.catalog e.bound t e.boxes r.answer r.now r.given) sound

mid_agrees : (e : Shown) (w : World) (t : WriteTree) (c : Cause) (new : List (Option BoxState)) → (r : RefusesRows e.catalog e.bound t e.boxes c new) → Agrees e w → Agrees (with_boxes e r.now) w
mid_agrees e w t c new r a = serving_agrees e r.now (given_served e.catalog e.bound t e.boxes r.answer r.now r.given) w a

-- where its source is not shared, the box is honest
box_honest : (e : Shown) (w : World) (t : WriteTree) (c : Cause) (new : List (Option BoxState)) → IsSound e → (r : RefusesRows e.catalog e.bound t e.boxes c new) → Agrees (with_boxes e r.now) w → writes_shared w t ≡ false → is_honest r.refuses.before
box_honest e w t c new sound r now unshared =
    let m = mid_sound e t c new sound r in
    target_honest (with_boxes e r.now) w t r.at r.refuses.before m now r.refuses.there (target_in (with_boxes e r.now) t r.at r.refuses.before m r.target r.refuses.there) unshared

shown_by : (e : Shown) (w : World) (user : Name) (t : WriteTree) (c : Cause) (new : List (Option BoxState)) → IsSound e → (r : RefusesRows e.catalog e.bound t e.boxes c new) → Agrees e w
    → (Agrees (with_boxes e r.now) w → is_honest r.refuses.before → Shows w t r.answer c) → writes_shared w t ≡ false → RunShows w t c
shown_by e w user t c new sound r a shows unshared =
    let now = mid_agrees e w t c new r a in
    shows_told (with_boxes e r.now) w t r.answer r.at r.refuses.before c (mid_sound e t c new sound r) r.target r.refuses.there now (shows now (box_honest e w t c new sound r now unshared)) (answer_picked e w t r.answer r.now sound a r.given) unshared

-- what is told of a fault of the write
fault_ends : (e : Shown) (user : Name) (t : WriteTree) (c : Cause) (new : List (Option BoxState)) (f : WriteFault) (read : List GivenRow) → IsSound e → leased e (target_of t) ≡ false → IsBindable e.catalog user t → (r : RefusesRows e.catalog e.bound t e.boxes c new)
    → r.fault ≡ write_refusal f → (is_honest r.refuses.before → AreRead (form_for e.catalog t) (rows_in_box r.refuses.before r.at.number) read) → IsWriteFault f (columns_for e.catalog t) (form_for e.catalog t) (cells_given read) r.answer → WhyNotDone e user t c (with_boxes e new)
fault_ends e user t c new (Evaluation WantsMemory) read sound free b r is are h = lacks_memory (r.told ∙ ap cause_of is)
fault_ends e user t c new (Evaluation OutOfRange) read sound free b r is are h = is_told (λ w a. one_box e w user t c new sound free b r a (inl (ap (λ (d : Cause). is_of_run (phase_of d)) (r.told ∙ ap cause_of is))) (shown_by e w user t c new sound r a (λ now honest. inl (
  Range,
  fault_in (with_boxes e r.now) w t r.answer r.at r.refuses.before read Range (mid_sound e t c new sound r) r.target r.refuses.there now honest (are honest) h,
  r.told ∙ ap cause_of is,
))))
fault_ends e user t c new (Evaluation ZeroDivisor) read sound free b r is are h = is_told (λ w a. one_box e w user t c new sound free b r a (inl (ap (λ (d : Cause). is_of_run (phase_of d)) (r.told ∙ ap cause_of is))) (shown_by e w user t c new sound r a (λ now honest. inl (
  Zero,
  fault_in (with_boxes e r.now) w t r.answer r.at r.refuses.before read Zero (mid_sound e t c new sound r) r.target r.refuses.there now honest (are honest) h,
  r.told ∙ ap cause_of is,
))))
fault_ends e user t c new NotNull read sound free b r is are h = is_told (λ w a. one_box e w user t c new sound free b r a (inl (ap (λ (d : Cause). is_of_run (phase_of d)) (r.told ∙ ap cause_of is))) (shown_by e w user t c new sound r a (λ now honest. inr (
  lack_in (with_boxes e r.now) w t r.answer r.at r.refuses.before read (mid_sound e t c new sound r) r.target r.refuses.there now honest (are honest) h,
  r.told ∙ ap cause_of is,
))))

-- the boxes have served, and no more
refused_served : (e : Shown) (t : WriteTree) (c : Cause) (new : List (Option BoxState)) → (r : RefusesRows e.catalog e.bound t e.boxes c new) → AllServed r.now new
refused_served e t c new r = change_served (λ a b. RefusesWrite (columns_for e.catalog t) (form_for e.catalog t) r.answer a r.at.number r.fault b) r.now r.at.source new
    (λ a b k. refuses_served (columns_for e.catalog t) (form_for e.catalog t) r.answer a r.at.number r.fault b k) r.refuses

source_shows : (old new : List (Option BoxState)) → Breaks Source old new → SlotShows old new HasFailed
source_shows old new (wants_memory is) = absurd (cc)
source_shows old new (box_breaks is s) = s

bars_end : (e : Shown) (user : Name) (t : WriteTree) (c : Cause) (new : List (Option BoxState)) → IsSound e → leased e (target_of t) ≡ false → IsBindable e.catalog user t → (r : RefusesRows e.catalog e.bound t e.boxes c new)
    → Bars (columns_for e.catalog t) (form_for e.catalog t) r.answer r.refuses.before r.at.number r.fault r.refuses.change.faults → WhyNotDone e user t c (with_boxes e new)
bars_end e user t c new sound free b r (box_lacks_memory is same) = lacks_memory (r.told ∙ ap cause_of is)
bars_end e user t c new sound free b r (box_fails_now is same) = source_fails (r.told ∙ ap cause_of is) shows (none_early e user t b)
  where
    here : SlotShows r.now new HasFailed
    here = record {
      slot = r.at.source;
      before = r.refuses.before;
      after = r.refuses.after;
      was = r.refuses.there;
      is = r.refuses.now;
      shows = has_failed r.refuses.before r.refuses.after r.refuses.change.faults (ap (λ (l : Ledger). l.faults) r.refuses.change.ledger) same;
    }

    shows : SlotShows e.boxes new HasFailed
    shows = source_shows e.boxes new (breaks_between none_held none_held none_held none_held e.boxes r.now new new Source (given_served e.catalog e.bound t e.boxes r.answer r.now r.given) (box_breaks refl here) (all_served new))
bars_end e user t c new sound free b r (gives_twice is same lies) =
    is_told (λ w a. one_box e w user t c new sound free b r a (inr (r.told ∙ ap cause_of is)) (λ unshared. absurd (lies (box_honest e w t c new sound r (mid_agrees e w t c new r a) unshared))))
bars_end e user t c new sound free b r (box_numbers_end is same at_end) = numbers_end (r.told ∙ ap cause_of is) shows (none_early e user t b)
  where
    shows : SlotShows e.boxes new IsUsedUp
    shows =
        let first = before_service none_held none_held e.boxes r.now r.at.source r.refuses.before (given_served e.catalog e.bound t e.boxes r.answer r.now r.given) r.refuses.there in
        record {
          slot = r.at.source;
          before = first.before;
          after = r.refuses.after;
          was = first.was;
          is = r.refuses.now;
          shows = ap (λ (l : Ledger). l.next) r.refuses.change.ledger ∙ r.refuses.change.stays at_end;
        }
bars_end e user t c new sound free b r (write_shows f read is same are h) = fault_ends e user t c new f read sound free b r is are h
bars_end e user t c new sound free b r (kind_refuses d is same run stands) =
    is_told (λ w a. one_box e w user t c new sound free b r a (inl (ap (λ (x : Cause). is_of_run (phase_of x)) (r.told ∙ ap cause_of is) ∙ run)) (told w a))
  where
    told : (w : World) → Agrees e w → writes_shared w t ≡ false → RunShows w t c
    told w a unshared =
        let now = mid_agrees e w t c new r a in
        let honest = box_honest e w t c new sound r now unshared in
        kind_told (with_boxes e r.now) w t r.answer r.at r.refuses.before c (mid_sound e t c new sound r) r.target r.refuses.there now
        (subst (λ (x : Cause). KindRefuses (columns_for e.catalog t) (form_for e.catalog t) r.answer r.refuses.before r.at.number x) (sym (r.told ∙ ap cause_of is)) (stands honest))
        (answer_picked e w t r.answer r.now sound a r.given) honest

-- boxes that served agree with the same worlds
serving_ends : (e : Shown) (new : List (Option BoxState)) (user : Name) (t : WriteTree) (c : Cause) → AllServed e.boxes new → WhyNotDone e user t c (with_boxes e new) → RowsNotDone e user t c (with_boxes e new)
serving_ends e new user t c served why = record { rises = serving_rises e.boxes new served; kept = serving_agrees e new served; why = why }

pub rows_not_done : WritesPhased → (e : Shown) (user : Name) (t : WriteTree) (c : Cause) (new : List (Option BoxState)) → IsSound e → WriteFails e.catalog user e.bound t (leased e (target_of t)) e.boxes c new → RowsNotDone e user t c (with_boxes e new)
rows_not_done law e user t c new sound (not_bound why same) = quiet e new user t c same (not_bound_ends law e user t c why)
rows_not_done law e user t c new sound (too_many b many is same) =
    quiet e new user t c same (subst (λ (d : Cause). WhyNotDone e user t d e) (sym is) (many_end e user t b many))
rows_not_done law e user t c new sound (query_fails b free at target h) =
    of_query (λ q. FailsQuery e.catalog e.bound q e.boxes c new × OfQuery (λ r. r ≡ q) t) (RowsNotDone e user t c (with_boxes e new)) t
    (λ q x. serving_ends e new user t c x.0.served (query_ends e new user t at q c sound free b target x.1 x.0 x.0.fails))
    (linked (λ q. FailsQuery e.catalog e.bound q e.boxes c new) t h)
rows_not_done law e user t c new sound (box_refuses b free r) =
    serving_ends e new user t c (all_on e.boxes r.now new (given_served e.catalog e.bound t e.boxes r.answer r.now r.given) (refused_served e t c new r)) (bars_end e user t c new sound free b r r.refuses.change.bars)
rows_not_done law e user t c new sound (in_use b taken is same) =
    quiet e new user t c same (subst (λ (d : Cause). WhyNotDone e user t d e) (sym is) (use_end e user t sound b taken))
rows_not_done law e user t c new sound (rows_untyped b free lies is served) = serving_ends e new user t c served (is_told (λ w a.
    of_query (λ q. IsUntyped e.catalog e.bound q e.boxes × OfQuery (λ r. r ≡ q) t) (RowsRefusedIn w user t c) t
    (λ q x. ends_in e w user t c sound free a b (few_for e w t q a x.1 x.0.few) (inr is)
    (λ unshared. absurd (x.0.lies (query_honest e w q x.0.places sound a (unshared.1 q x.1) x.0.are))))
    (linked (λ q. IsUntyped e.catalog e.bound q e.boxes) t lies)))

pub rows_not_done_sound : (e : Shown) (user : Name) (t : WriteTree) (c : Cause) (new : List (Option BoxState)) → IsSound e → WriteFails e.catalog user e.bound t (leased e (target_of t)) e.boxes c new → IsSound (with_boxes e new)
rows_not_done_sound e user t c new sound (not_bound why same) = subst (λ (boxes : List (Option BoxState)). IsSound (with_boxes e boxes)) (sym same) sound
rows_not_done_sound e user t c new sound (too_many b many is same) = subst (λ (boxes : List (Option BoxState)). IsSound (with_boxes e boxes)) (sym same) sound
rows_not_done_sound e user t c new sound (in_use b taken is same) = subst (λ (boxes : List (Option BoxState)). IsSound (with_boxes e boxes)) (sym same) sound
rows_not_done_sound e user t c new sound (query_fails b free at target h) =
    of_query (λ q. FailsQuery e.catalog e.bound q e.boxes c new) (IsSound (with_boxes e new)) t (λ q x. serving_sound e new x.served sound) h
rows_not_done_sound e user t c new sound (box_refuses b free r) =
    serving_sound e new (all_on e.boxes r.now new (given_served e.catalog e.bound t e.boxes r.answer r.now r.given) (refused_served e t c new r)) sound
rows_not_done_sound e user t c new sound (rows_untyped b free lies is served) = serving_sound e new served sound

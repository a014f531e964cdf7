-- What is picked of a write in a world that agrees, and which causes of its run stand then.
use Rattle.std.proofs.Common.{◌≡◌, ℕ, ◌⊎◌, true, false, List, [], ◌∷◌, ◌++◌, Option, Some, Contains, IsPermutation, slice_get, map, flat_map, refl, ap, sym, ◌∙◌, subst, arith, inl, inr, nat_eq}
use Rattle.std.specs.List.{IsDistinct}
use Rattle.std.proofs.lemmas.Bool.{false≢true}
use Rattle.std.proofs.lemmas.List.Sorted.{Contains-permutation, IsPermutation-refl}
use Rattle.std.proofs.lemmas.Option.{same_Some}
use Rattle.med_value.specs.Datum.{Tuple}
use Rattle.med_value.specs.declared.cause.Cause.{Cause}
use Rattle.med_value.specs.declared.cause.Cause.TheVariants.{NotNull as NullGiven}
use Rattle.med_syntax.specs.Prelude.{Name, SelectTree, GivenTree, values, rows_of, WriteTree, insert, update, delete}
use Rattle.tri_expr.specs.declared.expr.Fault.{Fault as Wrong}
use Rattle.tri_expr.specs.Verdict.{fault_list}
use Rattle.tri_expr.proofs.Shuffled.{Shuffled, back, to_swaps, each_mapped, none_left}
use Rattle.med_query.specs.Prelude.{IsAnswer, IsShownCause, wrong_cause}
use Rattle.fdw_api.specs.Prelude.{Kind, Holding, held, Change, Refusals, TableRow, GivenRow, Picks, Written}
use Rattle.fdw_api.specs.State.{BoxTable, BoxState, is_honest, rows_of as rows_in_box}
use Rattle.med_exec.specs.Prelude.{AllServed, AreRead, KindRefuses}
use Rattle.med_exec.proofs.Served.{all_served}
use Rattle.med_catalog.specs.Objects.{TableObject, Objects, table_named}
use Rattle.bind_names.specs.Meaning.{Meant}
use Rattle.med_binder.specs.Prelude.{Attached, meant_by, shapes}
use Rattle.med_write.specs.declared.write.WrittenColumn.{WrittenColumn}
use Rattle.med_write.specs.Form.{WriteForm}
use Rattle.med_write.specs.Writing.{chosen_by, choice_faults, rows_written, write_faults, write_lacks, changes_of}
use Rattle.med_write.specs.Making.{cells_of as cells_given}
use Rattle.bind_write.specs.Meaning.{target_of, columns_in, written_column, write_meant}
use Rattle.sql_meaning.specs.Prelude.{Pick, no_pick, PicksAnswer, answers, as_given, World, Serves, is_shared, cells_of, rows_of_place}
use Rattle.sql_meaning.specs.Causes.{query_of, entry_tables, meant_over, entries_in, reads_shared, QueryState, QueryRun, OfGiven, OfQuery, write_over, columns_over, rows_held, writes_shared, IsTarget, IsRefused, WriteRun, has_fault, lacks_value, is_refused, query_shows, PicksEntry, PicksWrite}
use Rattle.med_world.specs.Engine.{Shown, IsSound, Agrees}
use Rattle.med_world.specs.Writing.{GivesAnswer, GivesRows, IsGiven, columns_for, form_for, IsTargetAt}
use Rattle.med_world.proofs.Altered.{one_store, one_kind, none_serves}
use Rattle.med_world.proofs.Sharing.{query_honest}
use Rattle.med_world.proofs.Picking.{pick_of, picks_pick}
use Rattle.med_world.proofs.Querying.{same_meant, same_entries, none_many}
use Rattle.med_world.proofs.AnyRows.{written_same, faults_same, lacks_same, read_for, changes_read, read_all, read_same}
use Rattle.med_world.proofs.Written.{TargetIn, target_in, target_world, target_honest, held_same, Done}

-- ---- the query of an INSERT

abbrev AnswersIn : World → Meant → List Tuple → Type 0
AnswersIn w m answer = IsAnswer (query_of m) (entry_tables m.entries (rows_of_place w.rows)) answer

abbrev ShowsIn : World → Meant → Cause → Type 0
ShowsIn w m c = IsShownCause (query_of m) (entry_tables m.entries (rows_of_place w.rows)) c

-- what is picked of the query of an INSERT is an answer of it, where it reads no shared source
abbrev pub PicksOne : World → WriteTree → List Tuple → Type 0
PicksOne w t answer = (q : SelectTree) → OfQuery (λ r. r ≡ q) t → reads_shared w q ≡ false → PicksAnswer (query_of (meant_over w q)) (entries_in w q) answer

given_answer : (e : Shown) (w : World) (q : SelectTree) (answer : List Tuple) (now : List (Option BoxState)) → IsSound e → Agrees e w → GivesAnswer e.catalog e.bound q e.boxes answer now → reads_shared w q ≡ false → IsAnswer (query_of (meant_over w q)) (entries_in w q) answer
given_answer e w q answer now sound a h unshared =
    let honest = query_honest e w q h.places sound a unshared h.are in
    subst (λ (m : Meant). AnswersIn w m answer) (same_meant e w q a)
    (h.answers.answers honest (entry_tables (meant_by e.catalog q).entries (rows_of_place w.rows)) (same_entries e w q h.places a h.are honest))

given_clear : (e : Shown) (w : World) (q : SelectTree) (answer : List Tuple) (now : List (Option BoxState)) → IsSound e → Agrees e w → GivesAnswer e.catalog e.bound q e.boxes answer now → (c : Cause) → QueryRun w q c → ⊥
given_clear e w q answer now sound a h c (unshared, x) =
    let honest = query_honest e w q h.places sound a unshared h.are in
    subst (λ (m : Meant). (c : Cause) → ShowsIn w m c → ⊥) (same_meant e w q a)
    (h.answers.clear honest (entry_tables (meant_by e.catalog q).entries (rows_of_place w.rows)) (same_entries e w q h.places a h.are honest)) c x

-- the boxes have served its query, if it has one
none_asked : (old now : List (Option BoxState)) → now ≡ old → AllServed old now
none_asked old now same = subst (λ (x : List (Option BoxState)). AllServed old x) (sym same) (all_served old)

pub given_served : (o : Objects) (bound : List Attached) (t : WriteTree) (old : List (Option BoxState)) (answer : List Tuple) (now : List (Option BoxState)) → IsGiven o bound t old answer now → AllServed old now
given_served o bound (insert i) old answer now h = of_given i.given h
  where
    of_given : (g : GivenTree) → GivesRows o bound g old answer now → AllServed old now
    of_given (values rows) x = none_asked old now x.1
    of_given (rows_of q) x = x.served
given_served o bound (update u) old answer now h = none_asked old now h.1
given_served o bound (delete d) old answer now h = none_asked old now h.1

-- its answer is picked, no cause stands against its run, and its FROM has few entries
pub answer_picked : (e : Shown) (w : World) (t : WriteTree) (answer : List Tuple) (now : List (Option BoxState)) → IsSound e → Agrees e w → IsGiven e.catalog e.bound t e.boxes answer now → PicksOne w t answer
answer_picked e w (insert i) answer now sound a h q x = of_given i.given h x
  where
    of_given : (g : GivenTree) → GivesRows e.catalog e.bound g e.boxes answer now → OfGiven (λ r. r ≡ q) g → reads_shared w q ≡ false → PicksAnswer (query_of (meant_over w q)) (entries_in w q) answer
    of_given (values rows) y z unshared = absurd z
    of_given (rows_of r) y z unshared = answers (subst (λ (s : SelectTree). IsAnswer (query_of (meant_over w s)) (entries_in w s) answer) z (given_answer e w r answer now sound a y (ap (reads_shared w) z ∙ unshared)))
answer_picked e w (update u) answer now sound a h q x = absurd x
answer_picked e w (delete d) answer now sound a h q x = absurd x

pub query_clear : (e : Shown) (w : World) (t : WriteTree) (answer : List Tuple) (now : List (Option BoxState)) → IsSound e → Agrees e w → IsGiven e.catalog e.bound t e.boxes answer now → (c : Cause) → OfQuery (λ q. QueryRun w q c) t → ⊥
query_clear e w (insert i) answer now sound a h c x = of_given i.given h x
  where
    of_given : (g : GivenTree) → GivesRows e.catalog e.bound g e.boxes answer now → OfGiven (λ q. QueryRun w q c) g → ⊥
    of_given (values rows) y z = z
    of_given (rows_of r) y z = given_clear e w r answer now sound a y c z
query_clear e w (update u) answer now sound a h c x = x
query_clear e w (delete d) answer now sound a h c x = x

pub query_few : (e : Shown) (w : World) (t : WriteTree) (answer : List Tuple) (now : List (Option BoxState)) → Agrees e w → IsGiven e.catalog e.bound t e.boxes answer now → OfQuery (λ q. (d : Cause) × QueryState w q d) t → ⊥
query_few e w (insert i) answer now a h x = of_given i.given h x
  where
    of_given : (g : GivenTree) → GivesRows e.catalog e.bound g e.boxes answer now → OfGiven (λ q. (d : Cause) × QueryState w q d) g → ⊥
    of_given (values rows) y z = z
    of_given (rows_of r) y z = none_many e w r a y.few z.0 z.1
query_few e w (update u) answer now a h x = x
query_few e w (delete d) answer now a h x = x

-- ---- what is picked of a write

-- an entry that its source may hold, the rows of its box, and how they were read
pub picks_write : (e : Shown) (w : World) (t : WriteTree) (at : Attached) (b : BoxState) → IsSound e → Agrees e w → slice_get e.boxes at.source ≡ Some (Some b) → (x : TargetIn e t at b) → (p : Pick) → Picks (b.content.holdings x.table.remote) p.entry
    → p.rows ≡ rows_in_box b at.number → IsPermutation (map as_given p.rows) p.read → PicksOne w t p.answer → is_honest b → PicksWrite w t p
picks_write e w t at b sound a there x p entry rows read answer honest = record {
  entry = λ table is. subst (λ (u : TableObject). PicksEntry w u p) (same_Some x.table table (sym target.there ∙ is)) picked;
  rows = λ unshared. record {
    same = to_swaps (back (subst (λ (rs : List TableRow). Shuffled (map held rs) (rows_held w t)) (sym rows) (held_same e w t at b a there x honest)));
    once = subst (λ (rs : List TableRow). IsDistinct nat_eq (map (λ (r : TableRow). r.id) rs)) (sym rows) ((sound.sound_boxes at.source b there).once honest at.number x.bound x.is);
  };
  read = read;
  answer = answer;
}
  where
    target : IsTarget w t x.table b.nature.kind b.content.holdings
    target = target_world e w t at b sound a there x honest

    picked : PicksEntry w x.table p
    picked kind holdings s =
        subst (λ (f : Name → Holding). Picks (f x.table.remote) p.entry) (one_store w x.table.server b.nature.kind kind b.content.holdings holdings target.serves s) entry

-- ---- causes

none_in : {X : Type 0} (xs : List X) (x : X) → xs ≡ [] → Contains xs x → ⊥
none_in {X} xs x e h = no_place (subst (λ (l : List X). Contains l x) e h)
  where
    no_place : Contains [] x → ⊥
    no_place y = let n = y.1 in omega arith

right_none : {X : Type 0} (xs ys : List X) → xs ++ ys ≡ [] → ys ≡ []
right_none [] ys e = e
right_none (x ∷ xs) ys e = absurd cc

pub form_same : (e : Shown) (w : World) (t : WriteTree) → Agrees e w → form_for e.catalog t ≡ write_over w t
form_same e w t a = ap (λ (o : Objects). write_meant (shapes o) t) (sym a.catalog)

pub columns_same : (e : Shown) (w : World) (t : WriteTree) → Agrees e w → columns_for e.catalog t ≡ columns_over w t
columns_same e w t a = ap (λ (o : Objects). map written_column (columns_in (shapes o) (target_of t))) (sym a.catalog)

-- a pick under which no cause of the run stands
pub record RunsClear (w : World) (t : WriteTree) (answer : List Tuple) : Type 0 where
  pub pick : Pick
  pub picks : PicksWrite w t pick
  pub answer_is : pick.answer ≡ answer
  pub none : (c : Cause) → WriteRun w pick t c → ⊥

-- a pick under which this one does
pub record RunShows (w : World) (t : WriteTree) (c : Cause) : Type 0 where
  pub pick : Pick
  pub picks : PicksWrite w t pick
  pub stands : WriteRun w pick t c

-- ---- a write that is done

pub done_clear : (e : Shown) (w : World) (t : WriteTree) (answer : List Tuple) (at : Attached) (count : ℕ) (new : List (Option BoxState)) → IsSound e → IsTargetAt e.catalog e.bound t at → (h : Done e t answer at count new) → Agrees e w
    → PicksOne w t answer → is_honest h.before → ((c : Cause) → OfQuery (λ q. QueryRun w q c) t → ⊥) → RunsClear w t answer
done_clear e w t answer at count new sound target_at h a answered honest clear = record { pick = p; picks = picks; answer_is = refl; none = none }
  where
    b : BoxState
    b = h.before

    x : TargetIn e t at b
    x = target_in e t at b sound target_at h.there

    k : Written b (record { table = at.number; changes = h.change.writes.changes; broken = false }) h.after
    k = h.change.writes.content honest

    form : WriteForm
    form = form_for e.catalog t

    read : List GivenRow
    read = h.change.writes.read

    are : AreRead form (rows_in_box b at.number) read
    are = h.change.writes.are_read honest

    p : Pick
    p = record { entry = k.entry; answer = answer; rows = rows_in_box b at.number; read = read_for form (rows_in_box b at.number) read }

    one : k.bound ≡ x.bound
    one = same_Some k.bound x.bound (sym k.is ∙ x.is)

    entry : Picks (b.content.holdings x.table.remote) k.entry
    entry = subst (λ (r : Name). Picks (b.content.holdings r) k.entry) (ap (λ (z : BoxTable). z.remote) one ∙ x.remote) k.picked

    picks : PicksWrite w t p
    picks = picks_write e w t at b sound a h.there x p entry refl (to_swaps (read_all form (rows_in_box b at.number) read are)) answered honest

    target : IsTarget w t x.table b.nature.kind b.content.holdings
    target = target_world e w t at b sound a h.there x honest

    -- over the rows of the world in place of those that were read
    no_fault : write_faults (write_over w t) (cells_of (rows_held w t)) answer ≡ []
    no_fault = subst (λ (m : WriteForm). write_faults m (cells_of (rows_held w t)) answer ≡ []) (form_same e w t a)
        (none_left (write_faults form (cells_given read) answer) (write_faults form (cells_of (rows_held w t)) answer)
        (faults_same form answer (cells_given read) (cells_of (rows_held w t)) (read_same form (rows_in_box b at.number) read (rows_held w t) are (held_same e w t at b a h.there x honest)))
        h.change.writes.are_changes.no_fault)

    complete : write_lacks (columns_over w t) (write_over w t) (cells_of (rows_held w t)) answer ≡ false
    complete =
        ap (λ (cs : List WrittenColumn). write_lacks cs (write_over w t) (cells_of (rows_held w t)) answer) (sym (columns_same e w t a))
        ∙ ap (λ (m : WriteForm). write_lacks (columns_for e.catalog t) m (cells_of (rows_held w t)) answer) (sym (form_same e w t a))
        ∙ sym (lacks_same (columns_for e.catalog t) form answer (cells_given read) (cells_of (rows_held w t)) (read_same form (rows_in_box b at.number) read (rows_held w t) are (held_same e w t at b a h.there x honest)))
        ∙ h.change.writes.are_changes.complete

    changes_are : h.change.writes.changes ≡ changes_of (write_over w t) answer p.read
    changes_are =
        h.change.writes.are_changes.are ∙ sym (changes_read form answer (rows_in_box b at.number) read)
        ∙ ap (λ (m : WriteForm). changes_of m answer p.read) (form_same e w t a)

    not_refused : (b.nature.kind.refuses x.table.columns x.table.settings).causes k.entry (rows_in_box b at.number) (changes_of (write_over w t) answer p.read) ≡ []
    not_refused =
        ap (λ (r : Refusals). r.causes k.entry (rows_in_box b at.number) (changes_of (write_over w t) answer p.read)) (sym (ap (λ (z : BoxTable). z.refuses) one ∙ x.writes.refuses))
        ∙ ap (λ (cs : List Change). k.bound.refuses.causes k.entry (rows_in_box b at.number) cs) (sym changes_are)
        ∙ k.no_cause

    kind_none : (c : Cause) → IsRefused w p t c → ⊥
    kind_none c r =
        none_in ((b.nature.kind.refuses x.table.columns x.table.settings).causes k.entry (rows_in_box b at.number) (changes_of (write_over w t) answer p.read)) c not_refused
        (subst (λ (u : TableObject). Contains ((b.nature.kind.refuses u.columns u.settings).causes k.entry (rows_in_box b at.number) (changes_of (write_over w t) answer p.read)) c) table_is
        (subst (λ (m : Kind). Contains ((m.refuses r.table.columns r.table.settings).causes k.entry (rows_in_box b at.number) (changes_of (write_over w t) answer p.read)) c) kind_is r.stands))
      where
        table_is : r.table ≡ x.table
        table_is = same_Some r.table x.table (sym r.target.there ∙ target.there)

        kind_is : r.kind ≡ b.nature.kind
        kind_is = one_kind w x.table.server r.kind b.nature.kind r.holdings b.content.holdings (subst (λ (u : TableObject). Serves w u.server r.kind r.holdings) table_is r.target.serves) target.serves

    none : (c : Cause) → WriteRun w p t c → ⊥
    none c (has_fault unshared f stands is) = none_in (write_faults (write_over w t) (cells_of (rows_held w t)) answer) f no_fault stands
    none c (lacks_value unshared lacks is) = false≢true (sym complete ∙ lacks)
    none c (is_refused r) = kind_none c r
    none c (query_shows q) = clear c q

-- one to a shared source, of which nothing is picked but the answer
pub unseen_clear : (w : World) (t : WriteTree) (answer : List Tuple) → writes_shared w t ≡ true → PicksOne w t answer → ((c : Cause) → OfQuery (λ q. QueryRun w q c) t → ⊥) → RunsClear w t answer
unseen_clear w t answer shares answered clear = record { pick = p; picks = picks; answer_is = refl; none = none }
  where
    p : Pick
    p = record no_pick { answer = answer }

    none_there : (table : TableObject) (kind : Kind) (holdings : Name → Holding) → table_named w.catalog (target_of t) ≡ Some table → Serves w table.server kind holdings → ⊥
    none_there table kind holdings is serves = none_serves w table.server kind holdings (sym (ap (is_shared w) is) ∙ shares) serves

    untrue : writes_shared w t ≡ false → ⊥
    untrue unshared = false≢true (sym unshared ∙ shares)

    picks : PicksWrite w t p
    picks = record {
      entry = λ table is kind holdings serves. absurd (none_there table kind holdings is serves);
      rows = λ unshared. absurd (untrue unshared);
      read = IsPermutation-refl [];
      answer = answered;
    }

    none : (c : Cause) → WriteRun w p t c → ⊥
    none c (has_fault unshared f stands is) = untrue unshared
    none c (lacks_value unshared lacks is) = untrue unshared
    none c (is_refused r) = none_there r.table r.kind r.holdings r.target.there r.target.serves
    none c (query_shows q) = clear c q

-- ---- a write that is refused

-- its kind says why
pub kind_told : (e : Shown) (w : World) (t : WriteTree) (answer : List Tuple) (at : Attached) (b : BoxState) (c : Cause) → IsSound e → IsTargetAt e.catalog e.bound t at → slice_get e.boxes at.source ≡ Some (Some b) → Agrees e w
    → KindRefuses (columns_for e.catalog t) (form_for e.catalog t) answer b at.number c → PicksOne w t answer → is_honest b → RunShows w t c
kind_told e w t answer at b c sound target_at there a k answered honest = record { pick = p; picks = picks; stands = is_refused refused }
  where
    x : TargetIn e t at b
    x = target_in e t at b sound target_at there

    form : WriteForm
    form = form_for e.catalog t

    p : Pick
    p = record { entry = k.entry; answer = answer; rows = rows_in_box b at.number; read = read_for form (rows_in_box b at.number) k.read }

    one : k.bound ≡ x.bound
    one = same_Some k.bound x.bound (sym k.is ∙ x.is)

    entry : Picks (b.content.holdings x.table.remote) k.entry
    entry = subst (λ (r : Name). Picks (b.content.holdings r) k.entry) (ap (λ (z : BoxTable). z.remote) one ∙ x.remote) k.picked

    picks : PicksWrite w t p
    picks = picks_write e w t at b sound a there x p entry refl (to_swaps (read_all form (rows_in_box b at.number) k.read k.are_read)) answered honest

    valued : flat_map fault_list (rows_written (write_over w t) (cells_of (rows_held w t)) answer) ≡ []
    valued = subst (λ (m : WriteForm). flat_map fault_list (rows_written m (cells_of (rows_held w t)) answer) ≡ []) (form_same e w t a)
        (none_left (flat_map fault_list (rows_written form (cells_given k.read) answer)) (flat_map fault_list (rows_written form (cells_of (rows_held w t)) answer))
        (each_mapped fault_list (written_same form answer (cells_given k.read) (cells_of (rows_held w t)) (read_same form (rows_in_box b at.number) k.read (rows_held w t) k.are_read (held_same e w t at b a there x honest))))
        (right_none (flat_map (choice_faults (chosen_by form)) (cells_given k.read)) (flat_map fault_list (rows_written form (cells_given k.read) answer)) k.are_changes.no_fault))

    changes_are : k.changes ≡ changes_of (write_over w t) answer p.read
    changes_are =
        k.are_changes.are ∙ sym (changes_read form answer (rows_in_box b at.number) k.read)
        ∙ ap (λ (m : WriteForm). changes_of m answer p.read) (form_same e w t a)

    refused : IsRefused w p t c
    refused = record {
      table = x.table;
      kind = b.nature.kind;
      holdings = b.content.holdings;
      target = target_world e w t at b sound a there x honest;
      valued = valued;
      stands = subst (λ (r : Refusals). Contains (r.causes k.entry (rows_in_box b at.number) (changes_of (write_over w t) answer p.read)) c) (ap (λ (z : BoxTable). z.refuses) one ∙ x.writes.refuses)
          (subst (λ (cs : List Change). Contains (k.bound.refuses.causes k.entry (rows_in_box b at.number) cs) c) changes_are k.stands);
    }

-- what its rows and cells show
abbrev pub Shows : World → WriteTree → List Tuple → Cause → Type 0
Shows w t answer c =
    ((f : Wrong) × Contains (write_faults (write_over w t) (cells_of (rows_held w t)) answer) f × (c ≡ wrong_cause f))
    ⊎ ((write_lacks (columns_over w t) (write_over w t) (cells_of (rows_held w t)) answer ≡ true) × (c ≡ NullGiven))

shown_run : (w : World) (p : Pick) (t : WriteTree) (c : Cause) → writes_shared w t ≡ false → Shows w t p.answer c → WriteRun w p t c
shown_run w p t c unshared (inl (f, stands, is)) = has_fault unshared f stands is
shown_run w p t c unshared (inr (lacks, is)) = lacks_value unshared lacks is

-- some pick of a write to a table that is there
pub some_write : (e : Shown) (w : World) (t : WriteTree) (answer : List Tuple) (at : Attached) (b : BoxState) → IsSound e → IsTargetAt e.catalog e.bound t at → slice_get e.boxes at.source ≡ Some (Some b) → Agrees e w
    → PicksOne w t answer → writes_shared w t ≡ false → (p : Pick) × PicksWrite w t p × (p.answer ≡ answer)
some_write e w t answer at b sound target_at there a answered unshared = (p, picks_write e w t at b sound a there x p (picks_pick (b.content.holdings x.table.remote)) refl (IsPermutation-refl (map as_given (rows_in_box b at.number))) answered (target_honest e w t at b sound a there x unshared), refl)
  where
    x : TargetIn e t at b
    x = target_in e t at b sound target_at there

    p : Pick
    p = record { entry = pick_of (b.content.holdings x.table.remote); answer = answer; rows = rows_in_box b at.number; read = map as_given (rows_in_box b at.number) }

pub shows_told : (e : Shown) (w : World) (t : WriteTree) (answer : List Tuple) (at : Attached) (b : BoxState) (c : Cause) → IsSound e → IsTargetAt e.catalog e.bound t at → slice_get e.boxes at.source ≡ Some (Some b) → Agrees e w
    → Shows w t answer c → PicksOne w t answer → writes_shared w t ≡ false → RunShows w t c
shows_told e w t answer at b c sound target_at there a shows answered unshared =
    let p = some_write e w t answer at b sound target_at there a answered unshared in
    record { pick = p.0; picks = p.1; stands = shown_run w p.0 t c unshared (subst (λ (rows : List Tuple). Shows w t rows c) (sym p.2) shows) }

-- over the rows of the world in place of those that were read
pub fault_in : (e : Shown) (w : World) (t : WriteTree) (answer : List Tuple) (at : Attached) (b : BoxState) (read : List GivenRow) (f : Wrong) → IsSound e → IsTargetAt e.catalog e.bound t at → slice_get e.boxes at.source ≡ Some (Some b) → Agrees e w → is_honest b
    → AreRead (form_for e.catalog t) (rows_in_box b at.number) read → Contains (write_faults (form_for e.catalog t) (cells_given read) answer) f → Contains (write_faults (write_over w t) (cells_of (rows_held w t)) answer) f
fault_in e w t answer at b read f sound target_at there a honest are h =
    let x = target_in e t at b sound target_at there in
    subst (λ (m : WriteForm). Contains (write_faults m (cells_of (rows_held w t)) answer) f) (form_same e w t a)
    (Contains-permutation (write_faults (form_for e.catalog t) (cells_given read) answer) (write_faults (form_for e.catalog t) (cells_of (rows_held w t)) answer) f
    (to_swaps (faults_same (form_for e.catalog t) answer (cells_given read) (cells_of (rows_held w t)) (read_same (form_for e.catalog t) (rows_in_box b at.number) read (rows_held w t) are (held_same e w t at b a there x honest)))) h)

pub lack_in : (e : Shown) (w : World) (t : WriteTree) (answer : List Tuple) (at : Attached) (b : BoxState) (read : List GivenRow) → IsSound e → IsTargetAt e.catalog e.bound t at → slice_get e.boxes at.source ≡ Some (Some b) → Agrees e w → is_honest b
    → AreRead (form_for e.catalog t) (rows_in_box b at.number) read → write_lacks (columns_for e.catalog t) (form_for e.catalog t) (cells_given read) answer ≡ true → write_lacks (columns_over w t) (write_over w t) (cells_of (rows_held w t)) answer ≡ true
lack_in e w t answer at b read sound target_at there a honest are h =
    let x = target_in e t at b sound target_at there in
    ap (λ (cs : List WrittenColumn). write_lacks cs (write_over w t) (cells_of (rows_held w t)) answer) (sym (columns_same e w t a))
    ∙ ap (λ (m : WriteForm). write_lacks (columns_for e.catalog t) m (cells_of (rows_held w t)) answer) (sym (form_same e w t a))
    ∙ sym (lacks_same (columns_for e.catalog t) (form_for e.catalog t) answer (cells_given read) (cells_of (rows_held w t)) (read_same (form_for e.catalog t) (rows_in_box b at.number) read (rows_held w t) are (held_same e w t at b a there x honest)))
    ∙ h

-- A bound write that is done, or refused: over all that binding said of it.
use Rattle.std.proofs.Common.{◌≡◌, ◌∙◌, ℕ, Result, Ok, Err, IfOk, IfErr, Bool, true, false, List, [], ◌∷◌, Option, None, map, refl, ap, sym, subst}
use Rattle.std.proofs.lemmas.Bool.{false≢true}
use Rattle.med_value.specs.Prelude.{Column, Tuple}
use Rattle.med_value.specs.declared.cause.Cause.{Cause}
use Rattle.med_value.specs.declared.cause.Cause.TheVariants.{LimitExceeded, SourceFault}
use Rattle.med_value.specs.declared.value.ColType.{ColType}
use Rattle.med_syntax.specs.Prelude.{Name, GivenTree, values, rows_of, WriteTree, insert, update, delete}
use Rattle.fdw_api.specs.State.{BoxState}
use Rattle.fdw_api.specs.declared.interface.Fault.{Fault}
use Rattle.med_binder.specs.Prelude.{entry_place, Attached, meant_by, shapes, IsMeant}
use Rattle.med_exec.specs.Prelude.{BoxAt, ChangesAt, AllServed, HonestOver, IsTypedWrite, CanWrite, Writes, RefusesWrite, kinds_written, answer_fits}
use Rattle.med_exec.proofs.Served.{box_inj}
use Rattle.med_catalog.specs.Objects.{Objects}
use Rattle.bind_names.specs.Meaning.{Meant}
use Rattle.med_binder.specs.declared.bound.BoundQuery.{BoundQuery}
use Rattle.med_write.specs.declared.write.WrittenColumn.{WrittenColumn}
use Rattle.med_query.specs.Form.{form_of as query_form}
use Rattle.med_write.specs.Form.{WriteForm, insert_form, answer_form, form_of}
use Rattle.bind_write.specs.Meaning.{target_of, columns_in, written_column, places_meant, given_meant, write_meant}
use Rattle.bind_types.specs.TreeTypes.{column_kinds}
use Rattle.bind_write.specs.declared.bound.TableWrite.{TableWrite}
use Rattle.bind_write.specs.Binding.{IsBindable, IsQueryOf, IsGivenQuery as IsBoundGiven, IsMeantWrite}
use Rattle.med_world.specs.Prelude.{cause_of, ReadsTables, RunFails, AnswersOver}
use Rattle.sql_meaning.specs.Prelude.{query_of, is_large_form}
use Rattle.med_world.specs.Writing.{GivesAnswer, FailsQuery, IsUntyped, GivesRows, IsGiven, IsTargetAt, columns_for, form_for, DoesWrite, WritesRows, WriteFails, too_many, query_fails, box_refuses, rows_untyped}
use Rattle.med_statements.specs.Typed.{IsClean}
use Rattle.med_statements.specs.ReadyWrites.{IsReady, IsUnread}
use Rattle.med_statements.proofs.CanWrites.{can_write}
use Rattle.med_statements.proofs.Served.{ready_served, unread_served}
use Rattle.med_exec.proofs.Fitted.{fits_typed, typed_fits}
use Rattle.med_statements.proofs.Typed.{WritesAreTyped, IsTypedFor, typed_alone, HasQuery, of_its_query, typed_answer}

-- ---- the table

target_at : (o : Objects) (bound : List Attached) (t : WriteTree) (w : TableWrite) → (is : IsMeantWrite o bound t w) → IsTargetAt o bound t is.there.at
target_at o bound t w is = record { place = w.place; named = is.place; there = is.there.there }

abbrev pub DoesAt : TableWrite → List Tuple → List (Option BoxState) → ℕ → List (Option BoxState) → Type 0
DoesAt w answer old count new = ChangesAt old w.source (λ a b. Writes w.write.columns.items (form_of w.write.rows) answer a w.table.number count b) new

abbrev pub RefusesAt : TableWrite → List Tuple → List (Option BoxState) → Fault → List (Option BoxState) → Type 0
RefusesAt w answer old fault new = ChangesAt old w.source (λ a b. RefusesWrite w.write.columns.items (form_of w.write.rows) answer a w.table.number fault b) new

abbrev pub CanAt : TableWrite → List Tuple → List (Option BoxState) → Type 0
CanAt w answer boxes = BoxAt boxes w.source (λ s. CanWrite s w.table.number (form_of w.write.rows) answer)

pub does_all : (o : Objects) (user : Name) (bound : List Attached) (t : WriteTree) (w : TableWrite) (old now new : List (Option BoxState)) (answer : List Tuple) (count : ℕ) (leased : Bool) → leased ≡ false → IsBindable o user t → IsMeantWrite o bound t w → IsGiven o bound t old answer now
    → CanAt w answer now → DoesAt w answer now count new → WritesRows o user bound t leased old count new
does_all o user bound t w old now new answer count leased free bindable is given can does = record {
  bindable = bindable;
  free = free;
  answer = answer;
  now = now;
  given = given;
  at = is.there.at;
  target = target_at o bound t w is;
  writes = subst (λ (n : ℕ). ChangesAt now n (λ a b. DoesWrite o t answer is.there.at.number count a b) new) is.there.source (record {
    before = does.before;
    after = does.after;
    there = does.there;
    now = does.now;
    others = does.others;
    slots = does.slots;
    change = subst (λ (n : ℕ). DoesWrite o t answer n count does.before does.after) is.there.number (record { can = may; writes = made });
  });
}
  where
    may : CanWrite does.before w.table.number (form_for o t) answer
    may = subst (λ (f : WriteForm). CanWrite does.before w.table.number f answer) is.form
        (subst (λ (b : BoxState). CanWrite b w.table.number (form_of w.write.rows) answer) (box_inj can.box does.before (sym can.there ∙ does.there)) can.holds)

    made : Writes (columns_for o t) (form_for o t) answer does.before w.table.number count does.after
    made = subst (λ (f : WriteForm). Writes (columns_for o t) f answer does.before w.table.number count does.after) is.form
        (subst (λ (cs : List WrittenColumn). Writes cs (form_of w.write.rows) answer does.before w.table.number count does.after) is.columns does.change)

pub refuses_all : (o : Objects) (user : Name) (bound : List Attached) (t : WriteTree) (w : TableWrite) (old now new : List (Option BoxState)) (answer : List Tuple) (c : Cause) (fault : Fault) (leased : Bool) → leased ≡ false → IsBindable o user t → IsMeantWrite o bound t w → IsGiven o bound t old answer now
    → c ≡ cause_of fault → RefusesAt w answer now fault new → WriteFails o user bound t leased old c new
refuses_all o user bound t w old now new answer c fault leased free bindable is given told refuses = box_refuses bindable free (record {
  answer = answer;
  now = now;
  given = given;
  at = is.there.at;
  target = target_at o bound t w is;
  fault = fault;
  told = told;
  refuses = subst (λ (n : ℕ). ChangesAt now n (λ a b. RefusesWrite (columns_for o t) (form_for o t) answer a is.there.at.number fault b) new) is.there.source (record {
    before = refuses.before;
    after = refuses.after;
    there = refuses.there;
    now = refuses.now;
    others = refuses.others;
    slots = refuses.slots;
    change = subst (λ (n : ℕ). RefusesWrite (columns_for o t) (form_for o t) answer refuses.before n fault refuses.after) is.there.number barred;
  });
})
  where
    barred : RefusesWrite (columns_for o t) (form_for o t) answer refuses.before w.table.number fault refuses.after
    barred = subst (λ (f : WriteForm). RefusesWrite (columns_for o t) f answer refuses.before w.table.number fault refuses.after) is.form
        (subst (λ (cs : List WrittenColumn). RefusesWrite cs (form_of w.write.rows) answer refuses.before w.table.number fault refuses.after) is.columns refuses.change)

-- ---- no query

pub none_asked : (o : Objects) (bound : List Attached) (t : WriteTree) (boxes : List (Option BoxState)) → IsQueryOf o bound t None → IsGiven o bound t boxes [] boxes
none_asked o bound (insert i) boxes h = of_given i.given h
  where
    of_given : (g : GivenTree) → IsBoundGiven o bound g None → GivesRows o bound g boxes [] boxes
    of_given (values rows) x = (refl, refl)
    of_given (rows_of q) x = absurd x
none_asked o bound (update u) boxes h = (refl, refl)
none_asked o bound (delete d) boxes h = (refl, refl)

-- ---- a query

few_entries : (o : Objects) (bound : List Attached) (t : WriteTree) (b : BoundQuery) → (h : HasQuery o bound t b) → is_large_form (query_form b.select) ≡ false → is_large_form (meant_by o h.query).form ≡ false
few_entries o bound t b h few = sym (ap is_large_form h.meant.form) ∙ few

pub asked : (o : Objects) (bound : List Attached) (t : WriteTree) (b : BoundQuery) (old now : List (Option BoxState)) (answer : List Tuple) → HasQuery o bound t b → is_large_form (query_form b.select) ≡ false → AllServed old now → ReadsTables (map entry_place b.entries.items) old now
    → ((m : Meant) → IsMeant m b → AnswersOver (query_of m) (map entry_place b.entries.items) old answer) → IsGiven o bound t old answer now
asked o bound t b old now answer h few served once over =
    subst (λ (x : WriteTree). IsGiven o bound x old answer now) h.is (subst (λ (g : GivenTree). GivesRows o bound g old answer now) h.given gives)
  where
    gives : GivesAnswer o bound h.query old answer now
    gives = record { few = few_entries o bound t b h few; served = served; places = map entry_place b.entries.items; are = h.places; answers = over (meant_by o h.query) h.meant; reads = once }

pub not_answered : (o : Objects) (user : Name) (bound : List Attached) (t : WriteTree) (w : TableWrite) (b : BoundQuery) (old new : List (Option BoxState)) (c : Cause) (leased : Bool) → leased ≡ false → IsBindable o user t → IsMeantWrite o bound t w → HasQuery o bound t b → is_large_form (query_form b.select) ≡ false → AllServed old new
    → ((m : Meant) → IsMeant m b → RunFails (query_of m) (map entry_place b.entries.items) c old new) → WriteFails o user bound t leased old c new
not_answered o user bound t w b old new c leased free bindable is h few served fails =
    query_fails bindable free is.there.at (target_at o bound t w is) (of_its_query (λ q. FailsQuery o bound q old c new) o bound t b h
    (record { few = few_entries o bound t b h few; served = served; places = map entry_place b.entries.items; are = h.places; fails = fails (meant_by o h.query) h.meant }))

pub crowded : (o : Objects) (user : Name) (bound : List Attached) (t : WriteTree) (b : BoundQuery) (boxes : List (Option BoxState)) (leased : Bool) → IsBindable o user t → HasQuery o bound t b → is_large_form (query_form b.select) ≡ true → WriteFails o user bound t leased boxes LimitExceeded boxes
crowded o user bound t b boxes leased bindable h many =
    too_many bindable (of_its_query (λ q. is_large_form (meant_by o q).form ≡ true) o bound t b h (sym (ap is_large_form h.meant.form) ∙ many)) refl refl

-- ---- whether the answer fits

-- the places of the values, and the types of the columns
abbrev places_for : (o : Objects) (bound : List Attached) (t : WriteTree) (b : BoundQuery) → HasQuery o bound t b → List (Option ℕ)
places_for o bound t b h = places_meant h.inserts.columns (columns_in (shapes o) h.inserts.table)

form_asked : (o : Objects) (bound : List Attached) (t : WriteTree) (b : BoundQuery) → (h : HasQuery o bound t b) → write_meant (shapes o) t ≡ insert_form (places_for o bound t b h) answer_form
form_asked o bound t b h = ap (write_meant (shapes o)) (sym h.is) ∙ ap (λ (g : GivenTree). insert_form (places_for o bound t b h) (given_meant g)) (sym h.given)

kinds_map : (columns : List Column) → kinds_written (map written_column columns) ≡ column_kinds columns
kinds_map [] = refl
kinds_map (c ∷ cs) = ap (λ (ks : List ColType). c.kind ∷ ks) (kinds_map cs)

kinds_asked : (o : Objects) (bound : List Attached) (t : WriteTree) (w : TableWrite) → IsMeantWrite o bound t w → kinds_written w.write.columns.items ≡ column_kinds (columns_in (shapes o) (target_of t))
kinds_asked o bound t w is = ap kinds_written is.columns ∙ kinds_map (columns_in (shapes o) (target_of t))

-- what the test tells
abbrev pub IsTest : TableWrite → List Tuple → Bool → Type 0
IsTest w answer r = (places : List (Option ℕ)) → form_of w.write.rows ≡ insert_form places answer_form → r ≡ answer_fits (kinds_written w.write.columns.items) places answer

pub typed_by : (o : Objects) (bound : List Attached) (t : WriteTree) (w : TableWrite) (b : BoundQuery) (answer : List Tuple) → IsMeantWrite o bound t w → HasQuery o bound t b → IsTest w answer true → IsTypedFor o t answer
typed_by o bound t w b answer is h test =
    let form : write_meant (shapes o) t ≡ insert_form (places_for o bound t b h) answer_form = form_asked o bound t b h in
    subst (λ (f : WriteForm). IsTypedWrite (column_kinds (columns_in (shapes o) (target_of t))) f answer) (sym form)
    (subst (λ (ks : List ColType). IsTypedWrite ks (insert_form (places_for o bound t b h) answer_form) answer) (kinds_asked o bound t w is)
    (fits_typed (kinds_written w.write.columns.items) (places_for o bound t b h) answer (sym (test (places_for o bound t b h) (is.form ∙ form)))))

pub untyped : WritesAreTyped → (o : Objects) (user : Name) (bound : List Attached) (t : WriteTree) (w : TableWrite) (b : BoundQuery) (old new : List (Option BoxState)) (answer : List Tuple) (leased : Bool) → leased ≡ false → IsReady o bound old → IsBindable o user t → IsClean t → IsMeantWrite o bound t w
    → HasQuery o bound t b → ((m : Meant) → IsMeant m b → AnswersOver (query_of m) (map entry_place b.entries.items) old answer) → is_large_form (query_form b.select) ≡ false → AllServed old new → IsTest w answer false → WriteFails o user bound t leased old SourceFault new
untyped law o user bound t w b old new answer leased free ready bindable clean is h over few served test =
    rows_untyped bindable free (of_its_query (λ q. IsUntyped o bound q old) o bound t b h (record { few = few_entries o bound t b h few; places = map entry_place b.entries.items; are = h.places; lies = not_honest })) refl served
  where
    form : write_meant (shapes o) t ≡ insert_form (places_for o bound t b h) answer_form
    form = form_asked o bound t b h

    not_honest : HonestOver (map entry_place b.entries.items) old → ⊥
    not_honest honest =
        let typed : IsTypedFor o t answer = typed_answer law o user bound t b old answer ready bindable clean h (over (meant_by o h.query) h.meant) honest in
        let fits = typed_fits (kinds_written w.write.columns.items) (places_for o bound t b h) answer
        (subst (λ (ks : List ColType). IsTypedWrite ks (insert_form (places_for o bound t b h) answer_form) answer) (sym (kinds_asked o bound t w is))
        (subst (λ (f : WriteForm). IsTypedWrite (column_kinds (columns_in (shapes o) (target_of t))) f answer) form typed)) in
        false≢true (test (places_for o bound t b h) (is.form ∙ form) ∙ fits)

-- ---- the calls

can_be : (o : Objects) (bound : List Attached) (boxes : List (Option BoxState)) (t : WriteTree) (w : TableWrite) (answer : List Tuple) → IsReady o bound boxes → IsUnread o bound t boxes → IsMeantWrite o bound t w → IsTypedFor o t answer → CanAt w answer boxes
can_be o bound boxes t w answer ready unread is typed = can_write o bound boxes t w answer ready unread is typed

pub can_alone : WritesAreTyped → (o : Objects) (user : Name) (bound : List Attached) (boxes : List (Option BoxState)) (t : WriteTree) (w : TableWrite) → IsReady o bound boxes → IsUnread o bound t boxes → IsBindable o user t → IsClean t → IsMeantWrite o bound t w → w.query ≡ None → CanAt w [] boxes
can_alone law o user bound boxes t w ready unread bindable clean is none =
    can_be o bound boxes t w [] ready unread is (typed_alone law o user bound t [] bindable clean (subst (IsQueryOf o bound t) none is.query))

pub can_answered : (o : Objects) (bound : List Attached) (old now : List (Option BoxState)) (t : WriteTree) (w : TableWrite) (b : BoundQuery) (answer : List Tuple) → IsReady o bound old → IsUnread o bound t old → AllServed old now → IsMeantWrite o bound t w → HasQuery o bound t b → IsTest w answer true → CanAt w answer now
can_answered o bound old now t w b answer ready unread served is h test =
    can_be o bound now t w answer (ready_served o bound old now served ready) (unread_served o bound t old now served unread) is (typed_by o bound t w b answer is h test)

pub ends_ok : (o : Objects) (user : Name) (bound : List Attached) (t : WriteTree) (w : TableWrite) (old now new : List (Option BoxState)) (answer : List Tuple) (r : Result ℕ Cause) (leased : Bool) → leased ≡ false → IsBindable o user t → IsMeantWrite o bound t w → IsGiven o bound t old answer now → CanAt w answer now
    → IfOk r (λ count. DoesAt w answer now count new) → IfOk r (λ count. WritesRows o user bound t leased old count new)
ends_ok o user bound t w old now new answer (Ok count) leased free bindable is given can does = does_all o user bound t w old now new answer count leased free bindable is given can does
ends_ok o user bound t w old now new answer (Err c) leased free bindable is given can does = tt

pub ends_err : (o : Objects) (user : Name) (bound : List Attached) (t : WriteTree) (w : TableWrite) (old now new : List (Option BoxState)) (answer : List Tuple) (r : Result ℕ Cause) (leased : Bool) → leased ≡ false → IsBindable o user t → IsMeantWrite o bound t w → IsGiven o bound t old answer now
    → IfErr r (λ c. (fault : Fault) × (c ≡ cause_of fault) × RefusesAt w answer now fault new) → IfErr r (λ c. WriteFails o user bound t leased old c new)
ends_err o user bound t w old now new answer (Ok count) leased free bindable is given refuses = tt
ends_err o user bound t w old now new answer (Err c) leased free bindable is given (fault, told, refuses) = refuses_all o user bound t w old now new answer c fault leased free bindable is given told refuses

-- A statement that writes rows leads to its reply.
use Rattle.std.proofs.Common.{ℕ, true, false, List, Option, refl, sym, subst}
use Rattle.std.proofs.lemmas.Bool.{false≢true}
use Rattle.med_value.specs.declared.cause.Cause.{Cause}
use Rattle.med_value.specs.declared.cause.Cause.TheVariants.{LimitExceeded, SourceFault, OutOfMemory}
use Rattle.med_syntax.specs.Prelude.{Name, WriteTree}
use Rattle.bind_write.specs.Meaning.{target_of}
use Rattle.med_parser.specs.CommandTree.{on_rows}
use Rattle.fdw_api.specs.State.{BoxState}
use Rattle.med_exec.specs.Running.{SlotShows, HasFailed, IsUsedUp}
use Rattle.sql_meaning.specs.Prelude.{sql, World, done, refused}
use Rattle.sql_meaning.specs.Steps.{Step, is_refused, is_done, source_fails as source_fails_step, numbers_end as numbers_end_step, write_tag}
use Rattle.med_world.specs.Engine.{Shown, leased, IsSound, Agrees, EachRises, Leads}
use Rattle.med_world.specs.Writing.{WritesRows, WriteFails}
use Rattle.med_world.specs.Laws.{IsRead, with_boxes}
use Rattle.med_world.proofs.Asks.{asks_read}
use Rattle.med_world.proofs.Told.{told_tree, none_tree, before_tree, pick_tree}
use Rattle.med_world.proofs.Leading.{calm, calm_befell, calm_unasked, session_in, known, leads_either, leads_memory, shared_step}
use Rattle.med_world.proofs.RowCausing.{WritesPhased}
use Rattle.med_world.proofs.RowEnds.{RowsDone, NoneBeforeRows, RowsRefusedIn, told_in, shared_in, WhyNotDone, is_told, lacks_memory, source_fails, numbers_end}
use Rattle.med_world.proofs.RowLeads.{rows_done, rows_not_done}

-- it is done, and answered by its tag
pub writes_done : (e : Shown) (new : List (Option BoxState)) (sid : ℕ) (text : List ℕ) (user : Name) (t : WriteTree) (n : ℕ) → IsRead e sid text user (on_rows t) → IsSound e → WritesRows e.catalog user e.bound t (leased e (target_of t)) e.boxes n new → Leads e sid (sql text) (done (write_tag t n)) (with_boxes e new)
writes_done e new sid text user t n read sound h = record {
  trouble = calm;
  befell = calm_befell e.boxes new;
  asked = λ x. absurd (calm_unasked x);
  rises = d.rises;
  asks = asks_read e sid text user (on_rows t) (done (write_tag t n)) (with_boxes e new) read tt;
  step = λ w a.
      let x = d.each w a in
      let k = known e w sid text user (on_rows t) a read in (
        x.after,
        is_done x.pick (pick_tree w sid x.pick text (session_in w sid user) (on_rows t) k x.picks) (none_tree w sid x.pick text (session_in w sid user) (on_rows t) k x.none)
            (session_in w sid user, on_rows t, k.is, (n, refl, x.writes)),
        x.agrees,
      );
}
  where
    d : RowsDone e user t n (with_boxes e new)
    d = rows_done e user t n new sound h

-- a source failed
source_leads : (e new : Shown) (sid : ℕ) (text : List ℕ) (user : Name) (t : WriteTree) → IsRead e sid text user (on_rows t) → SlotShows e.boxes new.boxes HasFailed → NoneBeforeRows e user t
    → EachRises e.boxes new.boxes → ((w : World) → Agrees e w → Agrees new w) → Leads e sid (sql text) (refused SourceFault) new
source_leads e new sid text user t read h none rises kept = record {
  trouble = record { memory = false; asked = false; source = true; numbers = false };
  befell = record {
    source = λ x. h;
    numbers = λ x. absurd (false≢true x);
  };
  asked = λ x. absurd (false≢true x);
  rises = rises;
  asks = asks_read e sid text user (on_rows t) (refused SourceFault) new read tt;
  step = λ w a. let k = known e w sid text user (on_rows t) a read in (
    w,
    source_fails_step refl (session_in w sid user) (on_rows t) k.is (before_tree w sid text (session_in w sid user) (on_rows t) k (none w a)) refl refl,
    kept w a,
  );
}

-- ticket numbers are used up
numbers_leads : (e new : Shown) (sid : ℕ) (text : List ℕ) (user : Name) (t : WriteTree) → IsRead e sid text user (on_rows t) → SlotShows e.boxes new.boxes IsUsedUp → NoneBeforeRows e user t
    → EachRises e.boxes new.boxes → ((w : World) → Agrees e w → Agrees new w) → Leads e sid (sql text) (refused LimitExceeded) new
numbers_leads e new sid text user t read h none rises kept = record {
  trouble = record { memory = false; asked = false; source = false; numbers = true };
  befell = record {
    source = λ x. absurd (false≢true x);
    numbers = λ x. h;
  };
  asked = λ x. absurd (false≢true x);
  rises = rises;
  asks = asks_read e sid text user (on_rows t) (refused LimitExceeded) new read tt;
  step = λ w a. let k = known e w sid text user (on_rows t) a read in (
    w,
    numbers_end_step refl (session_in w sid user) (on_rows t) k.is (before_tree w sid text (session_in w sid user) (on_rows t) k (none w a)) tt refl refl,
    kept w a,
  );
}

why_leads : (e new : Shown) (sid : ℕ) (text : List ℕ) (user : Name) (t : WriteTree) (c : Cause) → IsRead e sid text user (on_rows t) → EachRises e.boxes new.boxes → ((w : World) → Agrees e w → Agrees new w) → WhyNotDone e user t c new → Leads e sid (sql text) (refused c) new
why_leads e new sid text user t c read rises kept (is_told told) = leads_either e new sid (sql text) c (asks_read e sid text user (on_rows t) (refused c) new read tt) rises kept (λ w a. by w a (told w a))
  where
    by : (w : World) → Agrees e w → RowsRefusedIn w user t c → Step w sid (sql text) calm (refused c) w
    by w a (told_in x) =
        let k = known e w sid text user (on_rows t) a read in
        is_refused x.pick c (pick_tree w sid x.pick text (session_in w sid user) (on_rows t) k x.picks) (told_tree w sid x.pick text (session_in w sid user) (on_rows t) c k x.stands x.least) refl refl
    by w a (shared_in rests may none) = shared_step w sid text (session_in w sid user) (on_rows t) c (known e w sid text user (on_rows t) a read) rests may none
why_leads e new sid text user t c read rises kept (lacks_memory is) =
    subst (λ (d : Cause). Leads e sid (sql text) (refused d) new) (sym is) (leads_memory e new sid (sql text) (asks_read e sid text user (on_rows t) (refused OutOfMemory) new read tt) tt rises kept)
why_leads e new sid text user t c read rises kept (source_fails is h none) =
    subst (λ (d : Cause). Leads e sid (sql text) (refused d) new) (sym is) (source_leads e new sid text user t read h none rises kept)
why_leads e new sid text user t c read rises kept (numbers_end is h none) =
    subst (λ (d : Cause). Leads e sid (sql text) (refused d) new) (sym is) (numbers_leads e new sid text user t read h none rises kept)

-- it is not, and why is told
pub writes_refused : WritesPhased → (e : Shown) (new : List (Option BoxState)) (sid : ℕ) (text : List ℕ) (user : Name) (t : WriteTree) (c : Cause) → IsRead e sid text user (on_rows t) → IsSound e → WriteFails e.catalog user e.bound t (leased e (target_of t)) e.boxes c new → Leads e sid (sql text) (refused c) (with_boxes e new)
writes_refused law e new sid text user t c read sound h =
    let r = rows_not_done law e user t c new sound h in
    why_leads e (with_boxes e new) sid text user t c read r.rises r.kept r.why

-- A statement on objects leads to its reply, however it ends.
use Rattle.std.proofs.Common.{◌≡◌, ℕ, ◌⊎◌, List, Option, refl, sym, subst, inl, inr}
use Rattle.med_value.specs.declared.cause.Cause.{Cause}
use Rattle.med_syntax.specs.Prelude.{Name, DdlTree}
use Rattle.fdw_api.specs.Prelude.{BoxState, Refuses, RefusesBind}
use Rattle.fdw_api.specs.declared.interface.Fault.{Fault}
use Rattle.med_value.specs.declared.cause.Cause.TheVariants.{OutOfMemory}
use Rattle.fdw_api.specs.declared.interface.Fault.TheVariants.{NoMemory, Source as SourceFailed, Refused}
use Rattle.med_exec.specs.Slots.{ChangesAt}
use Rattle.med_catalog.specs.Prelude.{TableObject, new_table}
use Rattle.sql_meaning.specs.Prelude.{sql, Pick, World, IsPickOf, refused}
use Rattle.med_parser.specs.CommandTree.{on_objects}
use Rattle.med_world.specs.Engine.{Shown, IsSound, IsServerAt, Agrees, Rises, EachRises, Leads}
use Rattle.med_world.specs.Altering.{IsAllowed, BindsInVain, NotAltered, catalog_shows, not_free, no_memory, bind_fails, bind_undone}
use Rattle.med_world.specs.Laws.{IsRead}
use Rattle.med_world.proofs.Faring.{changes_by, changes_rise, rises_itself, none_rises, refuses_rises, vain_rises}
use Rattle.med_world.proofs.Altered.{refused_agrees, vain_agrees}
use Rattle.med_world.proofs.Told.{pick_tree}
use Rattle.med_world.proofs.Objecting.{AreObjects}
use Rattle.med_world.proofs.Picking.{some_pick, free_back}
use Rattle.med_world.proofs.Asks.{asks_refused, asks_read}
use Rattle.med_world.proofs.Leading.{session_in, known, leads_memory, shows_leads, taken_leads, refused_leads, failed_leads}
use Rattle.med_world.specs.Fetching.{cause_of}

changed_rise : (P : BoxState → BoxState → Type 0) (old new : List (Option BoxState)) (slot : ℕ) → ((b c : BoxState) → P b c → Rises b c) → ChangesAt old slot P new → EachRises old new
changed_rise P old new slot rises h = changes_rise Or old new slot (λ b. inl refl) rise (changes_by P Or old new slot (λ b c k. inr k) h)
  where
    Or : BoxState → BoxState → Type 0
    Or b c = (c ≡ b) ⊎ P b c

    rise : (b c : BoxState) → Or b c → Rises b c
    rise b c (inl same) = subst (Rises b) (sym same) (rises_itself b)
    rise b c (inr k) = rises b c k

-- why a bind fails
by_fault : AreObjects → (e n : Shown) (sid : ℕ) (text : List ℕ) (user : Name) (d : DdlTree) (t : TableObject) (place : ℕ) (fault : Fault) → IsRead e sid text user (on_objects d) → IsSound e → IsAllowed e user d (new_table t) → IsServerAt e t.server place
    → ChangesAt e.boxes place (λ a b. RefusesBind a t.remote t.columns t.settings fault b) n.boxes → EachRises e.boxes n.boxes → ((w : World) → Agrees e w → Agrees n w) → Leads e sid (sql text) (refused (cause_of fault)) n
by_fault law e n sid text user d t place NoMemory read sound allowed server h rises kept = leads_memory e n sid (sql text) (asks_read e sid text user (on_objects d) (refused OutOfMemory) n read tt) tt rises kept
by_fault law e n sid text user d t place SourceFailed read sound allowed server h rises kept =
    failed_leads law e n sid text user d t place read sound allowed
    (changes_by (λ a b. RefusesBind a t.remote t.columns t.settings SourceFailed b) (Refuses SourceFailed) e.boxes n.boxes place (λ a b k. k.refuses) h) rises kept
by_fault law e n sid text user d t place (Refused c) read sound allowed server h rises kept = refused_leads law e n sid text user d t place c read sound allowed server h rises kept

pub not_altered_leads : AreObjects → (e n : Shown) (sid : ℕ) (text : List ℕ) (user : Name) (d : DdlTree) (c : Cause) → IsRead e sid text user (on_objects d) → IsSound e → NotAltered e user d c n → Leads e sid (sql text) (refused c) n
not_altered_leads law e n sid text user d c read sound (catalog_shows stands least is) =
    subst (λ (x : Shown). Leads e sid (sql text) (refused c) x) (sym is) (shows_leads law e sid text user d c read sound stands least pick)
  where
    pick : (w : World) → Agrees e w → (p : Pick) × IsPickOf w sid (sql text) p
    pick w a = let p = some_pick w user d in (p.0, pick_tree w sid p.0 text (session_in w sid user) (on_objects d) (known e w sid text user (on_objects d) a read) p.1)
not_altered_leads law e n sid text user d c read sound (not_free s allowed none told is) =
    subst (λ (x : Shown). Leads e sid (sql text) (refused c) x) (sym is) (subst (λ (k : Cause). Leads e sid (sql text) (refused k) e) (sym told)
    (taken_leads law e sid text user d s read sound allowed (λ w a. free_back e w s a none)))
not_altered_leads law e n sid text user d c read sound (no_memory told is) =
    subst (λ (x : Shown). Leads e sid (sql text) (refused c) x) (sym is) (subst (λ (k : Cause). Leads e sid (sql text) (refused k) e) (sym told)
    (leads_memory e e sid (sql text) (asks_refused e sid (sql text) OutOfMemory e refl) tt (none_rises e.boxes) (λ w a. a)))
not_altered_leads law e n sid text user d c read sound (bind_fails t allowed place server fault told h is) =
    subst (λ (k : Cause). Leads e sid (sql text) (refused k) n) (sym told) (by_fault law e n sid text user d t place fault read sound allowed server h rises kept)
  where
    refuses : ChangesAt e.boxes place (Refuses fault) n.boxes
    refuses = changes_by (λ a b. RefusesBind a t.remote t.columns t.settings fault b) (Refuses fault) e.boxes n.boxes place (λ a b k. k.refuses) h

    rises : EachRises e.boxes n.boxes
    rises = changed_rise (Refuses fault) e.boxes n.boxes place (λ a b k. refuses_rises fault a b k) refuses

    kept : (w : World) → Agrees e w → Agrees n w
    kept w a = subst (λ (x : Shown). Agrees x w) (sym is) (refused_agrees e n.boxes place fault refuses w a)
not_altered_leads law e n sid text user d c read sound (bind_undone t place told h is) =
    subst (λ (k : Cause). Leads e sid (sql text) (refused k) n) (sym told) (leads_memory e n sid (sql text) (asks_read e sid text user (on_objects d) (refused OutOfMemory) n read tt) tt rises kept)
  where
    rises : EachRises e.boxes n.boxes
    rises = changed_rise (BindsInVain t) e.boxes n.boxes place (λ a b k. vain_rises t a b k) h

    kept : (w : World) → Agrees e w → Agrees n w
    kept w a = subst (λ (x : Shown). Agrees x w) (sym is) (vain_agrees e n.boxes t place sound h w a)

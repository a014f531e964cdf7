-- The engine that a program begins with, and the demo list in it.
use Rattle.std.proofs.Common.{◌≡◌, ◌≢◌, arith, ℕ, Bool, true, false, ◌||◌, cond, List, [], ◌∷◌, ◌++◌, length, Option, Some, None, option_map, Result, Ok, Err, OnOk, IfErr, Bor, refl, sym, ap, ◌∙◌, subst, inl, inr}
use Rattle.fdw_api.specs.Prelude.{Kind, BoxState}
use Rattle.med_syntax.specs.DdlTree.{TableTree}
use Rattle.med_value.specs.declared.cause.Cause.{Cause}
use Rattle.med_value.specs.declared.cause.Cause.TheVariants.{InvalidOptionName}
use Rattle.med_catalog.specs.Prelude.{CauseRow, Stands, are_options_unknown, create_table_rows, Objects, table_settings, column_settings}
use Rattle.med_catalog.specs.declared.kind.SourceKind.{SourceKind}
use Rattle.med_catalog.specs.declared.kind.SourceKind.TheVariants.{List as Lists}
use Rattle.med_catalog.specs.declared.kind.SourceKind.TheVariants as sources
use Rattle.med_world.specs.Prelude.{HasSource, Adds, Shown, Label, IsSound, Agrees, TakesAs, state_of, sources_of}
use Rattle.sql_meaning.specs.World.{World, SourceState, standing, shared, empty_world, with_source}
use Rattle.med_session.specs.Adding.{AddCause}
use Rattle.med_session.specs.declared.adding.AddFault.{AddFault}
use Rattle.med_session.specs.declared.adding.AddFault.TheVariants as adding
use Rattle.list_wrapper.specs.Lists.{IsNewList, list_objections}
use Rattle.blob_store.specs.Shelves.{Shelf}
use Rattle.blob_store.specs.Files.{folder_shelf}
use Rattle.csv_wrapper.specs.CsvBoxes.{IsNewCsv}
use Rattle.jsonl_wrapper.specs.Boxes.{IsNewJsonl}
use Rattle.session_wire.specs.Worlds.{Scene}
use Rattle.fed_setup.specs.Replays.{Replays}
use Rattle.fed_setup.specs.Engines.{SceneAnswers, SceneCloses}
use Rattle.fed_setup.specs.declared.script.ScriptFault.{ScriptFault}
use Rattle.fed_setup.specs.declared.script.ScriptFault.TheVariants as scripts
use Rattle.fed_setup.specs.Demo.{demo_list, setup_script}
use Rattle.fed_setup.specs.Setup.{Outside, over, empty_scene, HasList, HasPlaces, SetsUp, IsNewAt, IsNewPlace, AddsPlace, AddsPlaces, IsNotAdded, AreNotAdded, IsFirst, HasNoFirst, HasListAsked, IsSetUp, IsNotSetUp, SetUpFails, list_asked, list_label, labels_before, place_label}
use Rattle.sqlite_wrapper.specs.Kinds.{sqlite_kind}
use Rattle.sqlite_writes.specs.Found.{Images}
use Rattle.fed_setup.specs.Databases.{by_path}
use Rattle.fed_words.specs.Places.{Place, source_kind, is_honest_place, is_memory}
use Rattle.fed_setup.specs.Told.{Came, added_of, setup_told}
use Rattle.fed_words.specs.Words.{places_asked}
use Rattle.fed_words.specs.declared.places.PlaceKind.{PlaceKind}
use Rattle.fed_words.specs.declared.places.PlaceKind.TheVariants.{Csv, JsonLines, Sqlite}
use Rattle.fed_words.specs.declared.words.AskedRun.{AskedRun}
use Rattle.fed_setup.specs.declared.told.RunFault.{RunFault}
use Rattle.fed_setup.specs.declared.told.RunFault.TheVariants as faults

-- ---- a list takes each table that the catalogue lets pass

not_true : (b : Bool) → (b ≡ true → ⊥) → b ≡ false
not_true true h = absurd (h refl)
not_true false h = refl

-- the law of lists, as its contract says it
abbrev pub Law : Type 0
Law = (t : TableTree) → are_options_unknown Lists t.options t.columns ≡ false → table_settings Lists t.options ++ column_settings 1 t.columns ≡ []

none_unknown : (o : Objects) (t : TableTree) → ((c : Cause) → Stands (create_table_rows o Lists t) c → ⊥) → are_options_unknown Lists t.options t.columns ≡ false
none_unknown o t none =
    not_true (are_options_unknown Lists t.options t.columns)
    (λ e. none InvalidOptionName (5, omega arith, ap (λ (b : Bool). let r : CauseRow = (b, InvalidOptionName) in r) e))

pub list_takes : (s : BoxState) → IsNewList s demo_list → Law → TakesAs Lists s
list_takes s h law = λ o t columns declared none.
    ap (λ (k : Kind). k.objections columns (table_settings Lists t.options ++ column_settings 1 t.columns)) h.kind
    ∙ ap list_objections (law t (none_unknown o t none))

-- ---- a new engine has no box and no source

none_of : (labels : List Label) (boxes : List (Option BoxState)) → length boxes ≡ length labels → [] ≡ sources_of labels boxes → (labels ≡ []) × (boxes ≡ [])
none_of [] [] h e = (refl, refl)
none_of [] (b ∷ bs) h e = absurd cc
none_of (l ∷ ls) [] h e = absurd cc
none_of (l ∷ ls) (b ∷ bs) h e = absurd cc

pub nothing_there : (e : Shown) (owner : List ℕ) → IsSound e → Agrees e (empty_world owner) → (e.labels ≡ []) × (e.boxes ≡ [])
nothing_there e owner sound agrees = none_of e.labels e.boxes sound.places agrees.sources

-- the empty world over these boxes
abbrev pub empty_over : List ℕ → List (Option BoxState) → Scene
empty_over owner boxes = record { world = empty_world owner; boxes = boxes }

-- its scene is the empty one
pub is_empty : (owner : List ℕ) (boxes : List (Option BoxState)) → boxes ≡ [] → empty_over owner boxes ≡ empty_scene owner
is_empty owner boxes none = ap (empty_over owner) none

-- ---- the list is added

-- what a world has of a source is by whether its box is honest
abbrev state_if : BoxState → Bool → SourceState
state_if s honest = cond honest (standing s.nature.kind s.content.holdings) (shared s.nature.kind)

-- to a world over what an engine shows
pub list_added : (old listed : Shown) (w : World) (name : List ℕ) (list : BoxState) → IsNewList list demo_list → Adds old name Lists list listed
    → HasList (record { world = w; boxes = old.boxes }) name (record { world = with_source w name Lists (state_of (Some list)); boxes = listed.boxes })
list_added old listed w name list demo adds = record { list = list; is_demo = demo; world = ap (λ (h : Bool). with_source w name Lists (state_if list h)) demo.honest; boxes = ap (λ (e : Shown). e.boxes) adds.is }

-- the list stands besides
pub has_list : (old listed : Shown) (w : World) (name : List ℕ) (list : BoxState) → IsNewList list demo_list → Adds old name Lists list listed
    → ((v : World) → Agrees old v → Agrees listed (with_source v name Lists (state_of (Some list)))) → Agrees old w
    → (after : World) × HasList (over old w) name (over listed after) × Agrees listed after
has_list old listed w name list demo adds world agrees =
    (with_source w name Lists (state_of (Some list)), list_added old listed w name list demo adds, world w agrees)

-- ---- folders and databases are added

-- whether a new source is honest
database_is_honest : (honest memory : Bool) (images : Images) (path : List ℕ) (s : BoxState) → by_path honest images path memory s → s.nature.honest ≡ (memory || honest)
database_is_honest honest true images path s h = h.1.honest_is
database_is_honest honest false images path s h = h.1.honest_is

honest_at : (outside : Outside) (kind : PlaceKind) (name path : List ℕ) (s : BoxState) → IsNewAt outside kind path s
    → s.nature.honest ≡ is_honest_place outside.honest (record { kind = kind; name = name; path = path })
honest_at outside Csv name path s h = h.honest
honest_at outside JsonLines name path s h = h.honest
honest_at outside Sqlite name path s h = database_is_honest outside.honest (is_memory path) outside.databases path s h

place_added_as : (outside : Outside) (old new : Shown) (place : Place) (s : BoxState) → IsNewPlace outside place s → Adds old place.name (source_kind place.kind) s new
    → ((w : World) → Agrees old w → Agrees new (with_source w place.name (source_kind place.kind) (state_of (Some s))))
    → AddsPlace outside old place new
place_added_as outside old new place s is_new adds world = record {
  labels = ap (λ (e : Shown). e.labels) adds.is;
  could = (adds.name_free, adds.room);
  world = λ w agrees. (
    with_source w place.name (source_kind place.kind) (state_of (Some s)),
    record {
      box = s;
      is_new = is_new;
      world = ap (λ (h : Bool). with_source w place.name (source_kind place.kind) (state_if s h)) (honest_at outside place.kind place.name place.path s is_new);
      boxes = ap (λ (e : Shown). e.boxes) adds.is;
    },
    world w agrees,
  );
}

pub place_added : (outside : Outside) (old new : Shown) (place : Place) (s : BoxState) (k : SourceKind) → k ≡ source_kind place.kind → IsNewPlace outside place s → Adds old place.name k s new
    → ((w : World) → Agrees old w → Agrees new (with_source w place.name k (state_of (Some s))))
    → AddsPlace outside old place new
place_added outside old new place s k e is_new = subst
    (λ q. Adds old place.name q s new → ((w : World) → Agrees old w → Agrees new (with_source w place.name q (state_of (Some s)))) → AddsPlace outside old place new)
    (sym e) (place_added_as outside old new place s is_new)

-- what a new source takes, by the laws of its kind
database_kind : (honest memory : Bool) (images : Images) (path : List ℕ) (s : BoxState) → by_path honest images path memory s → s.nature.kind ≡ sqlite_kind
database_kind honest true images path s h = h.1.kind
database_kind honest false images path s h = h.1.kind

pub place_takes : (outside : Outside) (kind : PlaceKind) (path : List ℕ) (s : BoxState) → IsNewAt outside kind path s
    → ((b : BoxState) (shelf : Shelf) → IsNewCsv b shelf → TakesAs sources.Csv b) → ((b : BoxState) (shelf : Shelf) → IsNewJsonl b shelf → TakesAs sources.JsonLines b)
    → ((b : BoxState) → b.nature.kind ≡ sqlite_kind → TakesAs sources.Sqlite b) → TakesAs (source_kind kind) s
place_takes outside Csv path s h csv jsonl sqlite = csv s (folder_shelf outside.files path 0) h
place_takes outside JsonLines path s h csv jsonl sqlite = jsonl s (folder_shelf outside.files path 0) h
place_takes outside Sqlite path s h csv jsonl sqlite = sqlite s (database_kind outside.honest (is_memory path) outside.databases path s h)

pub adds_first : (outside : Outside) (old mid new : Shown) (f : Place) (all rest : List Place) → all ≡ f ∷ rest → AddsPlace outside old f mid → AddsPlaces outside mid rest new → AddsPlaces outside old all new
adds_first outside old mid new f all rest is one more = record {
  world = λ w agrees.
      let here = one.world w agrees in
      let then = more.world here.0 here.2 in
      (then.0, subst (λ fs. HasPlaces outside (over old w) fs (over new then.0)) (sym is) (over mid here.0, here.1, then.1), then.2);
}

pub adds_more : (outside : Outside) {T E : Type 0} (r : Result T E) (old mid new : Shown) (f : Place) (all rest : List Place) → all ≡ f ∷ rest → AddsPlace outside old f mid
    → OnOk r (AddsPlaces outside mid rest new) → OnOk r (AddsPlaces outside old all new)
adds_more outside (Ok x) old mid new f all rest is one more = adds_first outside old mid new f all rest is one more
adds_more outside (Err x) old mid new f all rest is one more = tt

-- ---- what the set-up came to

-- a replay of the script is one of its text
pub sets_up : (old listed new : Scene) (owner name script : List ℕ) (came : Result ℕ ScriptFault) → HasList old name listed → script ≡ setup_script name
    → Replays SceneAnswers SceneCloses listed owner script came new → SetsUp old owner name came new
sets_up old listed new owner name script came has is replays = record {
  listed = listed;
  has_list = has;
  replays = subst (λ s. Replays SceneAnswers SceneCloses listed owner s came new) is replays;
}

-- every line of it is done
pub told_ok : (name : Bor (List ℕ)) (came : Result ℕ ScriptFault) (told : Came) (P : Type 0) → told ≡ setup_told name came → ((count : ℕ) → came ≡ Ok count → P) → OnOk told P
told_ok name (Ok count) told P e f = subst (λ t. OnOk t P) (sym e) (f count refl)
told_ok name (Err scripts.NoMemory) told P e f = subst (λ t. OnOk t P) (sym e) tt
told_ok name (Err scripts.NotText) told P e f = subst (λ t. OnOk t P) (sym e) tt
told_ok name (Err (scripts.Line number cause)) told P e f = subst (λ t. OnOk t P) (sym e) tt

-- one of them is refused
pub told_err : (name : Bor (List ℕ)) (came : Result ℕ ScriptFault) (told : Came) (P : RunFault → Type 0) → told ≡ setup_told name came → P faults.NoMemory
    → ((why : ScriptFault) → came ≡ Err why → why ≢ scripts.NoMemory → P (faults.CannotOpen name)) → IfErr told P
told_err name (Ok count) told P e n f = subst (λ t. IfErr t P) (sym e) tt
told_err name (Err scripts.NoMemory) told P e n f = subst (λ t. IfErr t P) (sym e) n
told_err name (Err scripts.NotText) told P e n f = subst (λ t. IfErr t P) (sym e) (f scripts.NotText refl (λ h. absurd cc))
told_err name (Err (scripts.Line number cause)) told P e n f = subst (λ t. IfErr t P) (sym e) (f (scripts.Line number cause) refl (λ h. absurd cc))

-- ---- the list that is asked, in an engine that has no source

pub one_list : (old new : Scene) (o : Option (Bor (List ℕ))) (name : Bor (List ℕ)) → o ≡ Some name → HasList old name.now new → HasListAsked old (option_map (λ s. s.now) o) new
one_list old new o name is has = subst (λ p. HasListAsked old (option_map (λ s. s.now) p) new) (sym is) has

pub one_label : (labels new : List Label) (o : Option (Bor (List ℕ))) (name : Bor (List ℕ)) → labels ≡ [] → o ≡ Some name → new ≡ labels ++ list_label name.now ∷ []
    → new ≡ labels_before (option_map (λ s. s.now) o)
one_label labels new o name none is added =
    subst (λ p. new ≡ labels_before (option_map (λ s. s.now) p)) (sym is) (added ∙ ap (λ ls. ls ++ list_label name.now ∷ []) none)

nothing_named : (ls : List Label) (name : List ℕ) → HasSource ls name → ls ≡ [] → ⊥
nothing_named [] name s e = let no : None ≡ Some s.1.0 = s.1.1 in absurd cc
nothing_named (l ∷ ls) name s e = cc

not_many : (ls : List Label) → length ls ≡ 64 → ls ≡ [] → ⊥
not_many [] n e = cc
not_many (l ∷ ls) n e = cc

-- it is not added for want of memory alone
pub list_needs_memory : (labels : List Label) (name : Bor (List ℕ)) (fault : RunFault) → labels ≡ []
    → (why : AddFault) × (fault ≡ added_of name why) × AddCause labels name.now why → fault ≡ faults.NoMemory
list_needs_memory labels name fault none (adding.NoMemory, e, h) = e
list_needs_memory labels name fault none (adding.Taken, e, h) = absurd (nothing_named labels name.now h none)
list_needs_memory labels name fault none (adding.TooMany, e, h) = absurd (not_many labels h.1 none)

-- ---- the first engine

pub first_made : (outside : Outside) (owner : List ℕ) (list : Option (List ℕ)) (places : List Place) (old listed before first : Scene) → old ≡ empty_scene owner
    → HasListAsked old list listed → HasPlaces outside listed places before → IsSetUp before owner list first → IsFirst outside owner list places first
first_made outside owner list places old listed before first empty has_list has_places set = record {
  before = before;
  has_sources = record { listed = listed; has_list = subst (λ s. HasListAsked s list listed) empty has_list; has_places = has_places };
  is_set_up = set;
}

-- no source fails in another way than by what it is opened as, by its name, by too many, or by want of memory
no_other : (fault : RunFault) → ((labels : List Label) (f : Place) → IsNotAdded labels f fault → ⊥) → (labels : List Label) (fs : List Place) → AreNotAdded labels fs fault → ⊥
no_other fault none labels [] h = h
no_other fault none labels (f ∷ fs) (inl h) = none labels f h
no_other fault none labels (f ∷ fs) (inr h) = no_other fault none (labels ++ place_label f ∷ []) fs h.1

pub places_fail : (outside : Outside) (asked : AskedRun) (labels : List Label) (fault : RunFault) → labels ≡ labels_before (list_asked asked) → AreNotAdded labels (places_asked asked) fault
    → HasNoFirst outside asked fault
places_fail outside asked labels fault e h = by fault (subst (λ ls. AreNotAdded ls (places_asked asked) fault) e h)
  where
    by : (f : RunFault) → AreNotAdded (labels_before (list_asked asked)) (places_asked asked) f → HasNoFirst outside asked f
    by faults.NoMemory p = tt
    by (faults.NameTaken told) p = p
    by (faults.TooManySources told) p = p
    by (faults.CannotOpen told) p = inl p
    by faults.Read p = no_other faults.Read (λ ls f q. q) _ _ p
    by faults.Write p = no_other faults.Write (λ ls f q. q) _ _ p
    by faults.TooManyReads p = no_other faults.TooManyReads (λ ls f q. q) _ _ p
    by faults.ProtocolViolation p = no_other faults.ProtocolViolation (λ ls f q. q) _ _ p
    by (faults.CannotReadInit told) p = no_other (faults.CannotReadInit told) (λ ls f q. q) _ _ p
    by faults.InitNotText p = no_other faults.InitNotText (λ ls f q. q) _ _ p
    by (faults.InitLine number cause) p = no_other (faults.InitLine number cause) (λ ls f q. q) _ _ p

pub places_fail_as : (outside : Outside) (asked : AskedRun) (labels : List Label) (fs : List Place) (fault : RunFault) → fs ≡ places_asked asked → labels ≡ labels_before (list_asked asked)
    → AreNotAdded labels fs fault → HasNoFirst outside asked fault
places_fail_as outside asked labels fs fault is e h = places_fail outside asked labels fault e (subst (λ l. AreNotAdded labels l fault) is h)

pub adds_as : (outside : Outside) (old new : Shown) (fs gs : List Place) → fs ≡ gs → AddsPlaces outside old fs new → AddsPlaces outside old gs new
adds_as outside old new fs gs is adds = subst (λ l. AddsPlaces outside old l new) is adds

pub set_up_fails : (outside : Outside) (asked : AskedRun) (old listed before : Scene) (fault : RunFault) → old ≡ empty_scene asked.owner.now → HasListAsked old (list_asked asked) listed
    → HasPlaces outside listed (places_asked asked) before → SetUpFails before asked.owner.now asked.list fault → HasNoFirst outside asked fault
set_up_fails outside asked old listed before faults.NoMemory empty l fs h = tt
set_up_fails outside asked old listed before (faults.CannotOpen told) empty l fs h =
    inr (h.0, (before, record { listed = listed; has_list = subst (λ s. HasListAsked s (list_asked asked) listed) empty l; has_places = fs }, h.1))
set_up_fails outside asked old listed before (faults.NameTaken told) empty l fs h = absurd h
set_up_fails outside asked old listed before (faults.TooManySources told) empty l fs h = absurd h
set_up_fails outside asked old listed before faults.Read empty l fs h = h
set_up_fails outside asked old listed before faults.Write empty l fs h = h
set_up_fails outside asked old listed before faults.TooManyReads empty l fs h = h
set_up_fails outside asked old listed before faults.ProtocolViolation empty l fs h = h
set_up_fails outside asked old listed before (faults.CannotReadInit told) empty l fs h = h
set_up_fails outside asked old listed before faults.InitNotText empty l fs h = h
set_up_fails outside asked old listed before (faults.InitLine number cause) empty l fs h = h

pub set_up_done : (list : Option (Bor (List ℕ))) (name : Bor (List ℕ)) (old new : Scene) (owner script : List ℕ) (count : ℕ) (came : Result ℕ ScriptFault) → list ≡ Some name
    → script ≡ setup_script name.now → came ≡ Ok count → Replays SceneAnswers SceneCloses old owner script came new → IsSetUp old owner (option_map (λ s. s.now) list) new
set_up_done list name old new owner script count came is text e replays =
    subst (λ p. IsSetUp old owner (option_map (λ s. s.now) p) new) (sym is)
    (record {
      count = count;
      replays = subst (λ r. Replays SceneAnswers SceneCloses old owner (setup_script name.now) r new) e (subst (λ s. Replays SceneAnswers SceneCloses old owner s came new) text replays);
    })

pub set_up_refused : (name : Bor (List ℕ)) (old new : Scene) (owner script : List ℕ) (why : ScriptFault) (came : Result ℕ ScriptFault)
    → script ≡ setup_script name.now → came ≡ Err why → why ≢ scripts.NoMemory → Replays SceneAnswers SceneCloses old owner script came new → IsNotSetUp old owner name.now
set_up_refused name old new owner script why came text e other replays =
    record {
      why = why;
      other = other;
      new = new;
      replays = subst (λ r. Replays SceneAnswers SceneCloses old owner (setup_script name.now) r new) e (subst (λ s. Replays SceneAnswers SceneCloses old owner s came new) text replays);
    }

-- What a program begins with: the demo list, folders and databases as sources, the set-up of the list by a script, and the replay of its
-- init file.
use Rattle.std.specs.Prelude.{◌≡◌, ◌≢◌, ◌<◌, ◌⊎◌, ℕ, Bool, List, [], ◌∷◌, ◌++◌, length, Option, Some, None, option_map, cond, Result, Ok, Err}
use Rattle.std.specs.Borrow.{Bor}
use Rattle.fdw_api.specs.State.{BoxState}
use Rattle.med_catalog.specs.declared.kind.SourceKind.TheVariants as kinds
use Rattle.med_world.specs.Prelude.{HasSource, Label, Shown, Agrees}
use Rattle.sql_meaning.specs.World.{World, SourceState, standing, shared, empty_world, with_source}
use Rattle.blob_store.specs.Drives.{Drive}
use Rattle.blob_store.specs.Files.{folder_shelf}
use Rattle.blob_store.specs.Known.{Sure}
use Rattle.list_wrapper.specs.Lists.{IsNewList}
use Rattle.csv_wrapper.specs.CsvBoxes.{IsNewCsv}
use Rattle.jsonl_wrapper.specs.Boxes.{IsNewJsonl}
use Rattle.session_wire.specs.Worlds.{Scene}
use Rattle.fed_setup.specs.Replays.{Replays}
use Rattle.fed_setup.specs.Engines.{SceneAnswers, SceneCloses}
use Rattle.fed_setup.specs.declared.script.ScriptFault.{ScriptFault}
use Rattle.fed_setup.specs.declared.script.ScriptFault.TheVariants as scripts
use Rattle.fed_setup.specs.Demo.{demo_list, setup_script}
use Rattle.fed_setup.specs.Inputs.{Inputs}
use Rattle.fed_setup.specs.Databases.{IsNewDatabase}
use Rattle.sqlite_writes.specs.Found.{Images}
use Rattle.fed_words.specs.Places.{Place, source_kind, is_honest_place}
use Rattle.fed_setup.specs.Told.{Came, replay_told}
use Rattle.fed_words.specs.Words.{places_asked}
use Rattle.fed_words.specs.declared.places.PlaceKind.{PlaceKind}
use Rattle.fed_words.specs.declared.places.PlaceKind.TheVariants.{Csv, JsonLines, Sqlite}
use Rattle.fed_words.specs.declared.words.AskedRun.{AskedRun}
use Rattle.fed_setup.specs.declared.told.RunFault.{RunFault}
use Rattle.fed_setup.specs.declared.told.RunFault.TheVariants as faults

-- What a program finds outside itself: whether the store of its databases in files is honest, always returning what was written; and what
-- stands at each path as the files of a database, what stands on its disks, and what reading a path to its end gives, where that is known.
pub record Outside : Type 0 where
  pub honest : Bool
  pub databases : Images
  pub files : Option Drive
  pub inputs : Option Inputs

abbrev pub outside_of : Bool → Images → Option Drive → Option Inputs → Outside
outside_of honest databases files inputs = record { honest = honest; databases = databases; files = files; inputs = inputs }

-- a world over the boxes that an engine shows
abbrev pub over : Shown → World → Scene
over e w = record { world = w; boxes = e.boxes }

-- where every program of this owner begins: no object, no source, no session
abbrev pub empty_scene : List ℕ → Scene
empty_scene owner = record { world = empty_world owner; boxes = [] }

-- The source of this name is a new demo list that is free, and its box stands last. Nothing was done in it: no scan was begun, and no
-- fault, row or ticket is counted.
pub record HasList (old : Scene) (name : List ℕ) (new : Scene) : Type 0 where
  pub list : BoxState
  pub is_demo : IsNewList list demo_list
  pub world : new.world ≡ with_source old.world name kinds.List (standing list.nature.kind list.content.holdings)
  pub boxes : new.boxes ≡ old.boxes ++ Some list ∷ []

-- the list is the source of this name, and then the owner's replay of the set-up script comes to this, and leads there
pub record SetsUp (old : Scene) (owner name : List ℕ) (result : Result ℕ ScriptFault) (new : Scene) : Type 0 where
  pub listed : Scene
  pub has_list : HasList old name listed
  pub replays : Replays SceneAnswers SceneCloses listed owner (setup_script name) result new

-- every line of it is done
abbrev pub HasDemo : Scene → List ℕ → List ℕ → Scene → Type 0
HasDemo old owner name new = (count : ℕ) × SetsUp old owner name (Ok count) new

-- a line is refused, and not for want of memory
abbrev pub LacksDemo : Scene → List ℕ → List ℕ → Type 0
LacksDemo old owner name = (why : ScriptFault) × (why ≢ scripts.NoMemory) × ((new : Scene) × SetsUp old owner name (Err why) new)

-- what stands at a path as a new source: the files of the folder at this path, or the database, as far as it is known what stands there;
-- nothing is bound, live or staged, and nothing is counted
abbrev pub IsNewAt : Outside → PlaceKind → List ℕ → BoxState → Type 0
IsNewAt outside Csv path s = IsNewCsv s (folder_shelf outside.files path 0)
IsNewAt outside JsonLines path s = IsNewJsonl s (folder_shelf outside.files path 0)
IsNewAt outside Sqlite path s = IsNewDatabase outside.honest outside.databases path s

abbrev pub IsNewPlace : Outside → Place → BoxState → Type 0
IsNewPlace outside place s = IsNewAt outside place.kind place.path s

-- What a world has of a new source: it is shared where it is not honest, being a database in a file whose store may return other bytes than
-- were written, and else it stands.
abbrev pub new_state : Outside → Place → BoxState → SourceState
new_state outside place s =
    cond (is_honest_place outside.honest place) (standing s.nature.kind s.content.holdings) (shared s.nature.kind)

-- the source of this name is what stands at this place, which is free, and its box stands last
pub record HasPlace (outside : Outside) (old : Scene) (place : Place) (new : Scene) : Type 0 where
  pub box : BoxState
  pub is_new : IsNewPlace outside place box
  pub world : new.world ≡ with_source old.world place.name (source_kind place.kind) (new_state outside place box)
  pub boxes : new.boxes ≡ old.boxes ++ Some box ∷ []

-- each of these is, in order
abbrev pub HasPlaces : Outside → Scene → List Place → Scene → Type 0
HasPlaces outside old [] new = new ≡ old
HasPlaces outside old (f ∷ fs) new = (mid : Scene) × HasPlace outside old f mid × HasPlaces outside mid fs new

-- the list is, if one is asked
abbrev pub HasListAsked : Scene → Option (List ℕ) → Scene → Type 0
HasListAsked old None new = new ≡ old
HasListAsked old (Some name) new = HasList old name new

-- the list is, if one is asked, and then the folders and databases are
pub record HasSources (outside : Outside) (old : Scene) (list : Option (List ℕ)) (places : List Place) (new : Scene) : Type 0 where
  pub listed : Scene
  pub has_list : HasListAsked old list listed
  pub has_places : HasPlaces outside listed places new

-- the owner's replay of the set-up of the list of this name leads there, and every line of it is done
pub record SetsUpList (old : Scene) (owner name : List ℕ) (new : Scene) : Type 0 where
  pub count : ℕ
  pub replays : Replays SceneAnswers SceneCloses old owner (setup_script name) (Ok count) new

-- the same if one is asked
abbrev pub IsSetUp : Scene → List ℕ → Option (List ℕ) → Scene → Type 0
IsSetUp old owner None new = new ≡ old
IsSetUp old owner (Some name) new = SetsUpList old owner name new

-- a line of the set-up of the list of this name is refused, and not for want of memory
pub record IsNotSetUp (old : Scene) (owner name : List ℕ) : Type 0 where
  pub why : ScriptFault
  pub other : why ≢ scripts.NoMemory
  pub new : Scene
  pub replays : Replays SceneAnswers SceneCloses old owner (setup_script name) (Err why) new

-- What a program of this owner begins with: from nothing at all the demo list as the source of this name, if one is asked, and these
-- folders and databases as sources; and then the set-up of the list.
pub record IsFirst (outside : Outside) (owner : List ℕ) (list : Option (List ℕ)) (places : List Place) (first : Scene) : Type 0 where
  pub before : Scene
  pub has_sources : HasSources outside (empty_scene owner) list places before
  pub is_set_up : IsSetUp before owner list first

-- why the list, if one is asked, is not set up from here as this owner: memory was refused, or a line of it
abbrev pub SetUpFails : Scene → List ℕ → Option (Bor (List ℕ)) → RunFault → Type 0
SetUpFails old owner list faults.NoMemory = Unit {0}
SetUpFails old owner list (faults.CannotOpen told) = (list ≡ Some told) × IsNotSetUp old owner told.now
SetUpFails old owner list (faults.NameTaken told) = ⊥
SetUpFails old owner list (faults.TooManySources told) = ⊥
SetUpFails old owner list faults.Read = ⊥
SetUpFails old owner list faults.Write = ⊥
SetUpFails old owner list faults.TooManyReads = ⊥
SetUpFails old owner list faults.ProtocolViolation = ⊥
SetUpFails old owner list (faults.CannotReadInit told) = ⊥
SetUpFails old owner list faults.InitNotText = ⊥
SetUpFails old owner list (faults.InitLine number cause) = ⊥

-- how an engine labels the list, and what stands at a place
abbrev pub list_label : List ℕ → Label
list_label name = record { name = name; kind = kinds.List }

abbrev pub place_label : Place → Label
place_label f = record { name = f.name; kind = source_kind f.kind }

-- the list alone, if one is asked
abbrev pub labels_before : Option (List ℕ) → List Label
labels_before None = []
labels_before (Some name) = list_label name ∷ []

-- Why this source is not added beside sources of these labels: its database cannot be opened; or its name is taken, or else there are 64;
-- or memory was refused.
abbrev pub IsNotAdded : List Label → Place → RunFault → Type 0
IsNotAdded labels f faults.NoMemory = Unit {0}
IsNotAdded labels f (faults.NameTaken told) = (told.now ≡ f.name) × HasSource labels f.name
IsNotAdded labels f (faults.TooManySources told) = (told.now ≡ f.name) × (HasSource labels f.name → ⊥) × (length labels ≡ 64)
IsNotAdded labels f (faults.CannotOpen told) = (told.now ≡ f.name) × (f.kind ≡ Sqlite)
IsNotAdded labels f faults.Read = ⊥
IsNotAdded labels f faults.Write = ⊥
IsNotAdded labels f faults.TooManyReads = ⊥
IsNotAdded labels f faults.ProtocolViolation = ⊥
IsNotAdded labels f (faults.CannotReadInit told) = ⊥
IsNotAdded labels f faults.InitNotText = ⊥
IsNotAdded labels f (faults.InitLine number cause) = ⊥

-- it can be added: its name is free, and there are fewer than 64
abbrev pub CanBeAdded : List Label → Place → Type 0
CanBeAdded labels f = (HasSource labels f.name → ⊥) × (length labels < 64)

-- the first of these that is not added, in order, beside sources of these labels, and why: those before it are
abbrev pub AreNotAdded : List Label → List Place → RunFault → Type 0
AreNotAdded labels [] fault = ⊥
AreNotAdded labels (f ∷ fs) fault = IsNotAdded labels f fault ⊎ (CanBeAdded labels f × AreNotAdded (labels ++ place_label f ∷ []) fs fault)

-- Why the demo list is not added beside the sources of these names: its name is taken, or there are 64 sources; a line of its set-up is
-- refused; or memory was refused. No fault of a stream is told.
abbrev pub AddsNoDemo : Scene → List ℕ → List Label → Bor (List ℕ) → RunFault → Type 0
AddsNoDemo old owner labels name faults.NoMemory = Unit {0}
AddsNoDemo old owner labels name (faults.NameTaken told) = (told ≡ name) × HasSource labels name.now
AddsNoDemo old owner labels name (faults.TooManySources told) = (told ≡ name) × (length labels ≡ 64)
AddsNoDemo old owner labels name (faults.CannotOpen told) = (told ≡ name) × LacksDemo old owner name.now
AddsNoDemo old owner labels name faults.Read = ⊥
AddsNoDemo old owner labels name faults.Write = ⊥
AddsNoDemo old owner labels name faults.TooManyReads = ⊥
AddsNoDemo old owner labels name faults.ProtocolViolation = ⊥
AddsNoDemo old owner labels name (faults.CannotReadInit told) = ⊥
AddsNoDemo old owner labels name faults.InitNotText = ⊥
AddsNoDemo old owner labels name (faults.InitLine number cause) = ⊥

-- An engine that stands for a world stands for the one with this source besides: its box stands last, and it could be added.
pub record AddsPlace (outside : Outside) (old : Shown) (place : Place) (new : Shown) : Type 0 where
  pub labels : new.labels ≡ old.labels ++ place_label place ∷ []
  pub could : CanBeAdded old.labels place
  pub world : (w : World) → Agrees old w
      → (after : World) × HasPlace outside (over old w) place (over new after) × Agrees new after

-- the same of each of these, in order
pub record AddsPlaces (outside : Outside) (old : Shown) (places : List Place) (new : Shown) : Type 0 where
  pub world : (w : World) → Agrees old w
      → (after : World) × HasPlaces outside (over old w) places (over new after) × Agrees new after

-- the name of the list that is asked, if one is
abbrev pub list_asked : AskedRun → Option (List ℕ)
list_asked asked = option_map (λ s. s.now) asked.list

-- the folders and databases that are asked are not all added beside the list, for this
abbrev pub PlacesFail : AskedRun → RunFault → Type 0
PlacesFail asked fault = AreNotAdded (labels_before (list_asked asked)) (places_asked asked) fault

-- Why a program has no first world: memory was refused; a source is not added, and why; or, all sources being added, a line of
-- the set-up of its list was refused.
abbrev pub HasNoFirst : Outside → AskedRun → RunFault → Type 0
HasNoFirst outside asked faults.NoMemory = Unit {0}
HasNoFirst outside asked (faults.NameTaken told) = PlacesFail asked (faults.NameTaken told)
HasNoFirst outside asked (faults.TooManySources told) = PlacesFail asked (faults.TooManySources told)
HasNoFirst outside asked (faults.CannotOpen told) =
    PlacesFail asked (faults.CannotOpen told)
    ⊎ ((asked.list ≡ Some told)
    × ((before : Scene) × HasSources outside (empty_scene asked.owner.now) (list_asked asked) (places_asked asked) before
    × IsNotSetUp before asked.owner.now told.now))
HasNoFirst outside asked faults.Read = ⊥
HasNoFirst outside asked faults.Write = ⊥
HasNoFirst outside asked faults.TooManyReads = ⊥
HasNoFirst outside asked faults.ProtocolViolation = ⊥
HasNoFirst outside asked (faults.CannotReadInit told) = ⊥
HasNoFirst outside asked faults.InitNotText = ⊥
HasNoFirst outside asked (faults.InitLine number cause) = ⊥

-- bytes of an init file were read exactly where one is asked, and they are those that reading its path to its end gives, where that is
-- known
abbrev pub IsReadOf : Outside → Option (Bor (List ℕ)) → Option (List ℕ) → Type 0
IsReadOf outside None None = Unit {0}
IsReadOf outside (Some path) (Some script) = Sure outside.inputs (λ known. known path.now ≡ Some script)
IsReadOf outside _ _ = ⊥

-- why they could not be read: memory was refused, or the file could not be
abbrev pub ReadsNot : Option (Bor (List ℕ)) → RunFault → Type 0
ReadsNot init faults.NoMemory = Unit {0}
ReadsNot init (faults.CannotReadInit told) = init ≡ Some told
ReadsNot init _ = ⊥

-- From here the owner's replay of the script of the init file, if there is one, comes to this, and leads there.
abbrev pub ReplaysInit : Scene → List ℕ → Option (List ℕ) → Came → Scene → Type 0
ReplaysInit first owner None came after = (came ≡ Ok tt) × (after ≡ first)
ReplaysInit first owner (Some script) came after =
    (result : Result ℕ ScriptFault) × (came ≡ replay_told result) × Replays SceneAnswers SceneCloses first owner script result after

-- What the beginning of a program comes to, and where it leads: its first world and boxes are made, and then its owner replays the script
-- of its init file.
pub record Begins (outside : Outside) (owner : List ℕ) (source : Option (List ℕ)) (places : List Place) (script : Option (List ℕ)) (came : Came)
    (after : Scene) : Type 0 where
  pub first : Scene
  pub is_first : IsFirst outside owner source places first
  pub replays : ReplaysInit first owner script came after

-- A program begins for what is asked with an engine that shows this, and with this script: the engine stands for a world to which its
-- beginning leads.
pub record BeginsBy (outside : Outside) (asked : AskedRun) (script : Option (List ℕ)) (engine : Shown) : Type 0 where
  pub world : World
  pub begins : Begins outside asked.owner.now (list_asked asked) (places_asked asked) script (Ok tt) (over engine world)
  pub agrees : Agrees engine world

-- it comes to this for what is asked, with this script
abbrev pub BeginsAsked : Outside → AskedRun → Option (List ℕ) → Came → Type 0
BeginsAsked outside asked script came =
    (after : Scene) × Begins outside asked.owner.now (list_asked asked) (places_asked asked) script came after

-- Why a program does not begin, of whose init file these bytes were read: it has no first world, its init file could not be read once its
-- first world was made, or its replay came to that fault.
abbrev pub BeginsNot : Outside → AskedRun → Option (List ℕ) → RunFault → Type 0
BeginsNot outside asked script faults.NoMemory = Unit {0}
BeginsNot outside asked script (faults.NameTaken told) = HasNoFirst outside asked (faults.NameTaken told)
BeginsNot outside asked script (faults.TooManySources told) = HasNoFirst outside asked (faults.TooManySources told)
BeginsNot outside asked script (faults.CannotOpen told) = HasNoFirst outside asked (faults.CannotOpen told)
BeginsNot outside asked script (faults.CannotReadInit told) =
    (asked.init ≡ Some told) × (script ≡ None)
    × ((first : Scene) × IsFirst outside asked.owner.now (list_asked asked) (places_asked asked) first)
BeginsNot outside asked script faults.InitNotText =
    IsReadOf outside asked.init script × BeginsAsked outside asked script (Err faults.InitNotText)
BeginsNot outside asked script (faults.InitLine number cause) =
    IsReadOf outside asked.init script × BeginsAsked outside asked script (Err (faults.InitLine number cause))
BeginsNot outside asked script faults.Read = ⊥
BeginsNot outside asked script faults.Write = ⊥
BeginsNot outside asked script faults.TooManyReads = ⊥
BeginsNot outside asked script faults.ProtocolViolation = ⊥

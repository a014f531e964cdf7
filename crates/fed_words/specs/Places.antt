-- The folders and databases that words name as sources, each by a value NAME=PATH.
use Rattle.std.specs.Prelude.{◌≡◌, ◌≢◌, ◌==◌, ◌⊎◌, ◌||◌, ℕ, Bool, true, List, [], ◌∷◌, codes, bytes_eq}
use Rattle.std.specs.List.{before_first, after_first}
use Rattle.med_catalog.specs.declared.kind.SourceKind.{SourceKind}
use Rattle.med_catalog.specs.declared.kind.SourceKind.TheVariants as sources
use Rattle.fed_words.specs.Names.{IsSourceName}
use Rattle.fed_words.specs.declared.places.AskedPlace.{AskedPlace}
use Rattle.fed_words.specs.declared.places.PlaceFault.{PlaceFault}
use Rattle.fed_words.specs.declared.places.PlaceFault.TheVariants.{NoPath, BadName, NoMemory}
use Rattle.fed_words.specs.declared.places.PlaceKind.{PlaceKind}
use Rattle.fed_words.specs.declared.places.PlaceKind.TheVariants.{Csv, JsonLines, Sqlite}

-- what stands at a place, the name of the source that it is to be, and its path
pub record Place : Type 0 where
  pub kind : PlaceKind
  pub name : List ℕ
  pub path : List ℕ

abbrev pub place_of : AskedPlace → Place
place_of f = record { kind = f.kind; name = f.name.now; path = f.path.now }

-- the kind of source that it is
abbrev pub source_kind : PlaceKind → SourceKind
source_kind Csv = sources.Csv
source_kind JsonLines = sources.JsonLines
source_kind Sqlite = sources.Sqlite

-- the path of a database in memory
abbrev pub is_memory : List ℕ → Bool
is_memory path = bytes_eq path (codes ":memory:")

-- Whether a source is honest: folders and databases in memory are, and one in a file is where the store of such files always returns what
-- was written.
abbrev pub is_honest_place : Bool → Place → Bool
is_honest_place honest f = by f.kind f.path
  where
    by : PlaceKind → List ℕ → Bool
    by Csv path = true
    by JsonLines path = true
    by Sqlite path = is_memory path || honest

-- What stands before the first `=` of a value, and what stands after it: all of the value and nothing, where it has no `=`.
abbrev pub name_part : List ℕ → List ℕ
name_part value = before_first (λ byte. byte == 61) value

abbrev pub path_part : List ℕ → List ℕ
path_part value = after_first (λ byte. byte == 61) value

-- the place that a value names
abbrev pub place_in : PlaceKind → List ℕ → Place
place_in kind value = record { kind = kind; name = name_part value; path = path_part value }

-- a value is good: something stands after its first `=`, and what stands before that may name a source
abbrev pub IsGood : List ℕ → Type 0
IsGood value = (path_part value ≢ []) × IsSourceName (name_part value)

abbrev pub AreGood : List (List ℕ) → Type 0
AreGood [] = Unit {0}
AreGood (v ∷ vs) = IsGood v × AreGood vs

-- Why a value is not taken: nothing stands after its first `=`, or else its name is bad; the value is told. Memory may be refused at each.
abbrev pub IsRefused : List ℕ → PlaceFault → Type 0
IsRefused value (NoPath told) = (told.now ≡ value) × (path_part value ≡ [])
IsRefused value (BadName told) = (told.now ≡ value) × (path_part value ≢ []) × (IsSourceName (name_part value) → ⊥)
IsRefused value NoMemory = Unit {0}

-- the first of these values that is not taken, and why: those before it are good
abbrev pub AreRefused : List (List ℕ) → PlaceFault → Type 0
AreRefused [] fault = ⊥
AreRefused (v ∷ vs) fault = IsRefused v fault ⊎ (IsGood v × AreRefused vs fault)

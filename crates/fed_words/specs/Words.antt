-- What the program's words are read as.
use Rattle.std.specs.Prelude.{◌≡◌, ◌≢◌, ◌⊎◌, ◌++◌, ℕ, List, [], codes, Option, Some, None, map, option_map, IfSome, Result, Ok, Err, string_bytes}
use Rattle.std.specs.Str.Parse.{digits_value, without_leading_plus}
use Rattle.clap.specs.Words.{Text, Row, IsAmong, IsUnsignedIn, subcommand_of}
use Rattle.clap.specs.declared.error.ErrorKind.{ErrorKind}
use Rattle.clap.specs.declared.error.ErrorKind.TheVariants.{OutOfMemory}
use Rattle.fed_words.specs.Places.{Place, place_of, place_in, AreGood, AreRefused}
use Rattle.fed_words.specs.Names.{IsSourceName}
use Rattle.fed_words.specs.declared.places.PlaceFault.{PlaceFault}
use Rattle.fed_words.specs.declared.places.PlaceFault.TheVariants as places
use Rattle.fed_words.specs.declared.places.PlaceKind.TheVariants as kinds
use Rattle.fed_words.specs.CommandLine.{command_line, command_in, value_in, faults, owner_named, list_named, init_named, IsHelp, csv_given, jsonl_given, sqlite_given, places_given}
use Rattle.fed_words.specs.declared.words.AskedRun.{AskedRun}
use Rattle.fed_words.specs.declared.words.Service.{Service}
use Rattle.fed_words.specs.declared.words.Service.TheVariants.{StandardInput, Connections}
use Rattle.fed_words.specs.declared.words.WordsFault.{WordsFault}
use Rattle.fed_words.specs.declared.words.WordsFault.TheVariants.{Help, Usage, NoPath, BadName, NoMemory}

-- how a parse that failed by a kind is told: help where it was asked, else the mistake; want of memory may take the place of each
abbrev pub IsRefusal : ErrorKind → WordsFault → Type 0
IsRefusal kind (Help text) = IsHelp kind
IsRefusal kind (Usage text) = (IsHelp kind → ⊥) × (kind ≢ OutOfMemory)
IsRefusal kind (NoPath value) = ⊥
IsRefusal kind (BadName name) = ⊥
IsRefusal kind NoMemory = Unit {0}

-- the folders and databases that the words name, those of CSV files first, and databases last
abbrev pub places_named : List Text → List Place
places_named words =
    map (place_in kinds.Csv) (csv_given words) ++ map (place_in kinds.JsonLines) (jsonl_given words)
    ++ map (place_in kinds.Sqlite) (sqlite_given words)

-- the folders and databases that are asked
abbrev pub places_asked : AskedRun → List Place
places_asked asked = map place_of asked.places.items

-- a text says this number in decimal digits, and it is from 1 to the most
abbrev pub IsNumber : ℕ → Text → ℕ → Type 0
IsNumber most text number = IsUnsignedIn 1 most text × (number ≡ digits_value 10 (without_leading_plus text))

-- the port is the one that is given, from 1 to 65,535
abbrev pub IsPort : Option Text → ℕ → Type 0
IsPort None port = ⊥
IsPort (Some text) port = IsNumber 65535 text port

-- the number of connections is the one that is given, from 1 to 1,000, or 1 where none is
abbrev pub IsCount : Option Text → ℕ → Type 0
IsCount None count = count ≡ 1
IsCount (Some text) count = IsNumber 1000 text count

-- What is to be served by these matches is this: for the command serve connections to the port that they give, as many as they say, and
-- else standard input.
abbrev pub IsService : Option (Text × List Row) → Service → Type 0
IsService met StandardInput = command_in met ≢ Some (codes "serve")
IsService met (Connections port count) =
    (command_in met ≡ Some (codes "serve")) × IsPort (value_in (codes "port") met) port × IsCount (value_in (codes "count") met) count

-- the command is serve, and a number that it gives is not in its range
abbrev pub HasBadNumber : Option (Text × List Row) → Type 0
HasBadNumber met =
    (command_in met ≡ Some (codes "serve"))
    × (((port : ℕ) → IsPort (value_in (codes "port") met) port → ⊥) ⊎ ((count : ℕ) → IsCount (value_in (codes "count") met) count → ⊥))

-- what is told of it
abbrev pub number_text : Text
number_text = codes "error: a number is not in its range\n"

-- how it is told: as a mistake, by this text, or as want of memory
abbrev pub IsNumberRefusal : WordsFault → Type 0
IsNumberRefusal (Usage text) = string_bytes text ≡ number_text
IsNumberRefusal NoMemory = Unit {0}
IsNumberRefusal _ = ⊥

-- The words ask this: an owner of this name, the list under the name that they give it, if they do, the places that they name, and the
-- init file that they name, if they do, and what their command serves. Each name is a user's name that is no reserved word.
pub record Ask (words : List Text) (asked : AskedRun) : Type 0 where
  pub owner : asked.owner.now ≡ owner_named words
  pub is_owner : IsSourceName asked.owner.now
  pub list : option_map (λ s. s.now) asked.list ≡ list_named words
  pub is_list : IfSome asked.list (λ name. IsSourceName name.now)
  pub places : places_asked asked ≡ places_named words
  pub are_places : AreGood (places_given words)
  pub init : option_map (λ s. s.now) asked.init ≡ init_named words
  pub service : IsService (subcommand_of command_line words) asked.service

-- what is told of a value of a place that is not taken
abbrev pub told_place : PlaceFault → WordsFault
told_place (places.NoPath value) = NoPath value
told_place (places.BadName value) = BadName value
told_place places.NoMemory = NoMemory

-- the owner's name and the list's are good
abbrev pub AreNamesGood : List Text → Type 0
AreNamesGood words = IsSourceName (owner_named words) × IfSome (list_named words) IsSourceName

-- they are, and the first value of a place that is not taken is so for this
abbrev pub HasBadPlace : List Text → PlaceFault → Type 0
HasBadPlace words fault = AreNamesGood words × AreRefused (places_given words) fault

-- the first of their names, the owner's before the list's, that is no user's name or is a reserved word
abbrev pub IsBadName : List Text → List ℕ → Type 0
IsBadName words name =
    (IsSourceName name → ⊥)
    × ((owner_named words ≡ name) ⊎ (IsSourceName (owner_named words) × (list_named words ≡ Some name)))

-- What words are read as. Words against which nothing stands ask for a run, if the names and places that they give are good, and else the
-- first bad one is told: the owner's name, the list's, and then the values of places; words that ask for help are told it;
-- any others are refused, and so are those with a number that is not in its range, by a text of their own. Want of memory may take the
-- place of each.
abbrev pub Reads : List Text → Result AskedRun WordsFault → Type 0
Reads words (Ok asked) = (faults words ≡ []) × Ask words asked
Reads words (Err (Help text)) = (kind : ErrorKind) × IsAmong kind (faults words) × IsHelp kind
Reads words (Err (Usage text)) =
    ((kind : ErrorKind) × IsAmong kind (faults words) × (IsHelp kind → ⊥))
    ⊎ ((faults words ≡ []) × HasBadNumber (subcommand_of command_line words) × (string_bytes text ≡ number_text))
Reads words (Err (NoPath value)) = (faults words ≡ []) × HasBadPlace words (places.NoPath value)
Reads words (Err (BadName name)) = (faults words ≡ []) × (IsBadName words name.now ⊎ HasBadPlace words (places.BadName name))
Reads words (Err NoMemory) = Unit {0}

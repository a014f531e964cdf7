-- The command line that the program understands, in the words of `clap`.
use Rattle.std.specs.Prelude.{ℕ, List, [], ◌++◌, Option, Some, codes, true, option_and_then, option_map, unwrap_or, ◌≡◌, ◌⊎◌}
use Rattle.clap.specs.Words.{App, Row, Rule, Text, Kinds, all_of, first_of, fault_of, new_app, new_rule, subcommand_of, with_rule, with_subcommand}
use Rattle.clap.specs.declared.builder.ArgAction.TheVariants.{Set, Append}
use Rattle.clap.specs.declared.builder.value_parser.ValueParser.TheVariants.{Unsigned}
use Rattle.clap.specs.declared.error.ErrorKind.{ErrorKind}
use Rattle.clap.specs.declared.error.ErrorKind.TheVariants.{DisplayHelp, DisplayVersion}

-- an option of this name, which has one text
abbrev pub text_rule : Text → Rule
text_rule name = record (new_rule name) { long = Some name; action = Some Set; value_names = 1 }

-- an option of this name, which may be given several times, with one text each
abbrev pub texts_rule : Text → Rule
texts_rule name = record (new_rule name) { long = Some name; action = Some Append; value_names = 1 }

-- an option of this name, which has one decimal number from 1 to this
abbrev pub number_rule : Text → ℕ → Rule
number_rule name most = record (text_rule name) { parser = Some (Unsigned 1 most) }

-- --owner NAME
abbrev pub owner_rule : Rule
owner_rule = text_rule (codes "owner")

-- --list NAME
abbrev pub list_rule : Rule
list_rule = text_rule (codes "list")

-- --csv NAME=PATH
abbrev pub csv_rule : Rule
csv_rule = texts_rule (codes "csv")

-- --jsonl NAME=PATH
abbrev pub jsonl_rule : Rule
jsonl_rule = texts_rule (codes "jsonl")

-- --sqlite NAME=PATH
abbrev pub sqlite_rule : Rule
sqlite_rule = texts_rule (codes "sqlite")

-- --init FILE
abbrev pub init_rule : Rule
init_rule = text_rule (codes "init")

-- --port P, which has to be given
abbrev pub port_rule : Rule
port_rule = record (number_rule (codes "port") 65535) { required = true }

-- --count N
abbrev pub count_rule : Rule
count_rule = number_rule (codes "count") 1000

-- a command with the options of what it begins with:
-- [--owner NAME] [--list NAME] [--csv NAME=PATH].. [--jsonl NAME=PATH].. [--sqlite NAME=PATH].. [--init FILE]
abbrev pub with_beginning : App → App
with_beginning command =
    let sources = with_rule (with_rule (with_rule command owner_rule) list_rule) csv_rule in
    with_rule (with_rule (with_rule sources jsonl_rule) sqlite_rule) init_rule

-- run, with these options
abbrev pub run_command : App
run_command = with_beginning (new_app (codes "run"))

-- serve --port P [--count N], with these options too
abbrev pub serve_command : App
serve_command = with_beginning (with_rule (with_rule (new_app (codes "serve")) port_rule) count_rule)

-- fedq: a command has to be given, no word at all asks for help, and it has a version
abbrev pub fedq_command : App
fedq_command =
    let fedq = new_app (codes "fedq") in
    record fedq { top = record fedq.top { subcommand_required = true; arg_required_else_help = true; has_version = true } }

-- fedq run or fedq serve
abbrev pub command_line : App
command_line = with_subcommand (with_subcommand fedq_command run_command.top) serve_command.top

-- the command that matches name
abbrev pub command_in : Option (Text × List Row) → Option Text
command_in = option_map (λ command. command.0)

-- the command that the words name
abbrev pub command_named : List Text → Option Text
command_named words = command_in (subcommand_of command_line words)

-- the value that the matches of a command give this option
abbrev pub value_in : Text → Option (Text × List Row) → Option Text
value_in option = option_and_then (λ command. first_of option command.1)

-- the value that the words give it
abbrev pub value_given : Text → List Text → Option Text
value_given option words = value_in option (subcommand_of command_line words)

-- the values that the matches of a command give this option, as written: none where it is not given
abbrev pub values_in : Text → Option (Text × List Row) → List Text
values_in option met = unwrap_or (option_and_then (λ command. all_of option command.1) met) []

-- the values that the words give it
abbrev pub values_given : Text → List Text → List Text
values_given option words = values_in option (subcommand_of command_line words)

-- the name of the owner, which is admin where the words give none
abbrev pub owner_named : List Text → Text
owner_named words = unwrap_or (value_given (codes "owner") words) (codes "admin")

-- the name that the words give the list
abbrev pub list_named : List Text → Option Text
list_named words = value_given (codes "list") words

-- the values that they give of folders of CSV files, of JSON lines, and of databases
abbrev pub csv_given : List Text → List Text
csv_given words = values_given (codes "csv") words

abbrev pub jsonl_given : List Text → List Text
jsonl_given words = values_given (codes "jsonl") words

abbrev pub sqlite_given : List Text → List Text
sqlite_given words = values_given (codes "sqlite") words

-- all, in the order in which they are judged and added
abbrev pub places_given : List Text → List Text
places_given words = csv_given words ++ jsonl_given words ++ sqlite_given words

-- the path of the init file that they name
abbrev pub init_named : List Text → Option Text
init_named words = value_given (codes "init") words

-- the texts that they give of the port, and of the number of connections
abbrev pub port_given : List Text → Option Text
port_given words = value_given (codes "port") words

abbrev pub count_given : List Text → Option Text
count_given words = value_given (codes "count") words

-- what stands against the words
abbrev pub faults : List Text → Kinds
faults words = fault_of command_line words

-- the words ask for help or for the version
abbrev pub IsHelp : ErrorKind → Type 0
IsHelp kind = (kind ≡ DisplayHelp) ⊎ (kind ≡ DisplayVersion)

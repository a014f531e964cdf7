-- What the program tells of words that ask no run: its exit status, and its texts.
use Rattle.std.specs.Prelude.{ℕ, List, ◌++◌, Bool, true, false, codes, string_bytes}
use Rattle.fed_words.specs.declared.words.WordsFault.{WordsFault}
use Rattle.fed_words.specs.declared.words.WordsFault.TheVariants as words

-- the exit status of words that ask no run: 0 where help was asked, 1 for want of memory, else 2
abbrev pub words_status : WordsFault → ℕ
words_status (words.Help text) = 0
words_status (words.Usage text) = 2
words_status (words.NoPath value) = 2
words_status (words.BadName name) = 2
words_status words.NoMemory = 1

-- the status once they were told, or could not be: help that was asked and could not be written is a fault
abbrev pub told_status : WordsFault → Bool → ℕ
told_status (words.Help text) false = 1
told_status fault is_told = words_status fault

-- what is told of them
abbrev pub words_text : WordsFault → List ℕ
words_text (words.Help text) = string_bytes text
words_text (words.Usage text) = string_bytes text
words_text (words.NoPath value) = codes "fedq: NAME=PATH expected: " ++ value.now ++ codes "\n"
words_text (words.BadName name) = codes "fedq: bad name: " ++ name.now ++ codes "\n"
words_text words.NoMemory = codes "fedq: out of memory\n"

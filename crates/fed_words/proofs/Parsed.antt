-- What a parse of the program's words gives.
use Rattle.std.proofs.Common.{◌≡◌, ◌⊎◌, true, ℕ, List, [], codes, Option, Some, None, Err, Bor, option_map, unwrap_or, IfSome, refl, sym, ◌∙◌, ap, subst, inl, inr}
use Rattle.clap.specs.Words.{App, Row, Text, HasMatchesOf, IsAmong, fault_of, all_of, first_of, is_simple, is_simple_and_free, subcommand_of, subcommand_rows_of}
use Rattle.clap.specs.declared.ArgMatches.{ArgMatches}
use Rattle.clap.specs.declared.error.ErrorKind.{ErrorKind}
use Rattle.clap.specs.declared.error.ErrorKind.TheVariants.{OutOfMemory}
use Rattle.clap.proofs.OnLiterals.{clap_on_literals}
use Rattle.fed_words.specs.CommandLine.{command_line, faults, value_in, value_given, values_in, values_given, IsHelp}
use Rattle.fed_words.specs.Names.{IsSourceName}
use Rattle.fed_words.specs.Words.{Reads, IsRefusal, HasBadNumber, IsNumberRefusal, HasBadPlace, told_place}
use Rattle.fed_words.specs.declared.places.PlaceFault.{PlaceFault}
use Rattle.fed_words.specs.declared.places.PlaceFault.TheVariants as places
use Rattle.fed_words.specs.declared.words.WordsFault.{WordsFault}
use Rattle.fed_words.specs.declared.words.WordsFault.TheVariants.{Help, Usage, NoPath, BadName, NoMemory}

-- the rows of the subcommand that was met
pub value_of_met : (option : Text) (o : Option (Text × List Row)) (rows : List Row) → Some rows ≡ option_map (λ p. p.1) o → first_of option rows ≡ value_in option o
value_of_met option None rows e = absurd cc
value_of_met option (Some p) rows e = let same : rows ≡ p.1 = cc in ap (first_of option) same

pub no_value : (option : Text) (o : Option (Text × List Row)) → None ≡ option_map (λ (p : Text × List Row). p.1) o → None ≡ value_in option o
no_value option None e = refl
no_value option (Some p) e = absurd cc

-- the values of an option, of the rows of the subcommand that was met
pub values_of_met : (option : Text) (o : Option (Text × List Row)) (rows : List Row) → Some rows ≡ option_map (λ p. p.1) o
    → unwrap_or (all_of option rows) [] ≡ values_in option o
values_of_met option None rows e = absurd cc
values_of_met option (Some p) rows e = let same : rows ≡ p.1 = cc in ap (λ rs. unwrap_or (all_of option rs) []) same

line_is_simple : is_simple command_line ≡ true
unfolding clap_on_literals
line_is_simple = refl

line_is_free : is_simple_and_free command_line ≡ true
unfolding clap_on_literals
line_is_free = refl

-- nothing stands against words that were taken
pub no_faults : (app : App) (words : List Text) → app ≡ command_line → (is_simple_and_free app ≡ true → fault_of app words ≡ []) → faults words ≡ []
no_faults app words e h = subst (λ a. is_simple_and_free a ≡ true → fault_of a words ≡ []) e h line_is_free

-- the value is the one that they give
pub given : (option : Text) (app : App) (words : List Text) (m : ArgMatches) → app ≡ command_line → HasMatchesOf app words m
    → value_in option (subcommand_rows_of m) ≡ value_given option words
given option app words m e h = ap (value_in option) ((subst (λ a. HasMatchesOf a words m) e h line_is_simple).1)

-- and so are the values
pub all_given : (option : Text) (app : App) (words : List Text) (m : ArgMatches) → app ≡ command_line → HasMatchesOf app words m
    → values_in option (subcommand_rows_of m) ≡ values_given option words
all_given option app words m e h = ap (values_in option) ((subst (λ a. HasMatchesOf a words m) e h line_is_simple).1)

-- the name of the list is good, if one is given
pub list_is_good : (o : Option (Bor (List ℕ))) (g : Option Text) → option_map (λ s. s.now) o ≡ g → IfSome o (λ name. IsSourceName name.now) → IfSome g IsSourceName
list_is_good None g e h = subst (λ (o : Option Text). IfSome o IsSourceName) e tt
list_is_good (Some s) g e h = subst (λ (o : Option Text). IfSome o IsSourceName) e h

-- a value of a place is not taken
pub place_refused : (words : List Text) (fault : PlaceFault) (told : WordsFault) → told ≡ told_place fault → faults words ≡ [] → HasBadPlace words fault
    → Reads words (Err told)
place_refused words (places.NoPath value) told e none bad = subst (λ t. Reads words (Err t)) (sym e) (none, bad)
place_refused words (places.BadName value) told e none bad = subst (λ t. Reads words (Err t)) (sym e) (none, inr bad)
place_refused words places.NoMemory told e none bad = subst (λ t. Reads words (Err t)) (sym e) tt

-- what stands against words that were not taken, and was told
pub refused : (app : App) (words : List Text) (kind : ErrorKind) (fault : WordsFault) → app ≡ command_line
    → (is_simple_and_free app ≡ true → (kind ≡ OutOfMemory) ⊎ IsAmong kind (fault_of app words)) → IsRefusal kind fault → Reads words (Err fault)
refused app words kind fault e h told = by_kind fault (subst (λ a. is_simple_and_free a ≡ true → (kind ≡ OutOfMemory) ⊎ IsAmong kind (fault_of a words)) e h line_is_free) told
  where
    not_both : kind ≡ OutOfMemory → IsHelp kind → ⊥
    not_both m (inl d) = cc
    not_both m (inr d) = cc

    by_kind : (f : WordsFault) → (kind ≡ OutOfMemory) ⊎ IsAmong kind (faults words) → IsRefusal kind f → Reads words (Err f)
    by_kind (Help text) (inl m) t = absurd (not_both m t)
    by_kind (Help text) (inr among) t = (kind, among, t)
    by_kind (Usage text) (inl m) t = absurd (t.1 m)
    by_kind (Usage text) (inr among) t = inl (kind, among, t.0)
    by_kind (NoPath value) s t = absurd t
    by_kind (BadName name) s t = absurd t
    by_kind NoMemory s t = tt

-- the owner's name is the one that they give, or admin
pub owner_of : (o : Option (Bor (List ℕ))) (d r : Bor (List ℕ)) (g : Option Text) → r ≡ unwrap_or o d → d.now ≡ codes "admin" → option_map (λ s. s.now) o ≡ g
    → unwrap_or g (codes "admin") ≡ r.now
owner_of None d r g is named e = subst (λ x. unwrap_or x (codes "admin") ≡ r.now) e (sym named ∙ ap (λ s. s.now) (sym is))
owner_of (Some s) d r g is named e = subst (λ x. unwrap_or x (codes "admin") ≡ r.now) e (ap (λ s. s.now) (sym is))

-- a number that is not in its range is told
pub number_refused : (words : List Text) (fault : WordsFault) → faults words ≡ [] → HasBadNumber (subcommand_of command_line words) → IsNumberRefusal fault → Reads words (Err fault)
number_refused words (Help text) none bad told = absurd told
number_refused words (Usage text) none bad told = inr (none, bad, told)
number_refused words (NoPath value) none bad told = absurd told
number_refused words (BadName name) none bad told = absurd told
number_refused words NoMemory none bad told = tt

-- the matches of a parse are those of the words
pub met_by : (app : App) (words : List Text) (m : ArgMatches) → app ≡ command_line → HasMatchesOf app words m → subcommand_rows_of m ≡ subcommand_of command_line words
met_by app words m e h = (subst (λ a. HasMatchesOf a words m) e h line_is_simple).1

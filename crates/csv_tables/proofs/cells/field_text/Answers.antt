use Rattle.std.proofs.Common.{◌≡◌, true, rules}
use Rattle.std.specs.Str.{is_utf8}
use Rattle.std.proofs.lemmas.Str.{is_utf8-from_IsUtf8}
use Rattle.csv_tables.proofs.cells.field_text.Goals as goal

pub returns-in_ok-to_string-in-Text-clause-storable : goal.returns-in_ok-to_string-in-Text-clause-storable
returns-in_ok-to_string-in-Text-clause-storable c =
    let u : is_utf8 c.as_str.result.now ≡ true = is_utf8-from_IsUtf8 c.as_str.result.now c.as_str.utf8 in
    search rules

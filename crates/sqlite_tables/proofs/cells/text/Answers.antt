use Rattle.std.proofs.Common.{◌≡◌, IsUtf8, rules, ap}
use Rattle.std.proofs.lemmas.Str.{is_utf8-from_IsUtf8}
use Rattle.std.specs.String.{string_bytes}
use Rattle.med_value.specs.Datum.{Chars}
use Rattle.sqlite_tables.proofs.Strays.{stray_text}
use Rattle.sqlite_tables.proofs.cells.text.Goals as goal

pub returns-clause-value : goal.returns-clause-value
returns-clause-value c =
    let utf8 : IsUtf8 c.args.bytes.now = search rules in
    let yes = is_utf8-from_IsUtf8 c.args.bytes.now utf8 in
    let same : string_bytes c.in_ok-from_str.field-0 ≡ c.args.bytes.now = search rules in
    rw yes (ap Chars same)

pub returns-in_default-clause-stray : goal.returns-in_default-clause-stray
returns-in_default-clause-stray c e = stray_text c.args.bytes.now c.in_default.ensures.cases.0

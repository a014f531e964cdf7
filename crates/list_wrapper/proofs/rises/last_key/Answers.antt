use Rattle.std.proofs.Common.{◌≡◌, ◌<◌, ◌+◌, ◌-◌, ◌∙◌, ap, sym, refl, length, arith}
use Rattle.std.proofs.lemmas.Option.{IfSome_then}
use Rattle.med_value.specs.Datum.{cell, tuple}
use Rattle.med_value.specs.declared.value.Row.{Row}
use Rattle.wrapper_parts.proofs.KeptRise.{up_to_last}
use Rattle.list_wrapper.specs.Scans.{keys_of}
use Rattle.list_wrapper.proofs.RisingLists.{key_read, key_is, keys_length}
use Rattle.list_wrapper.proofs.rises.last_key.Goals as goal

pub returns : goal.returns
returns c =
    let rows = c.args.rows.now.items in
    let row = c.at.result.now in
    let many = keys_length rows in
    let some = c.if-count-eq0.false in
    let count = c.len-count.ensures in
    let at = c.len-count.result - 1 in
    let lt : at < length rows = omega arith in
    let next : at + 1 ≡ length (keys_of rows) = omega arith in
    let is = key_read at rows row lt ∙ ap (λ (r : Row). cell (tuple r) 0) (sym c.at.ensures) in
    IfSome_then c.first_key.result c.first_key.ensures (λ key found rising. up_to_last (keys_of rows) at (length (keys_of rows)) key refl next (key_is (cell (tuple row) 0) (cell (keys_of rows) at) key is found) rising)

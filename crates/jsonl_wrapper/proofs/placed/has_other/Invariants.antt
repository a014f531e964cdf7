use Rattle.std.proofs.Common.{◌≡◌, slice_get, drop}
use Rattle.std.specs.List.{list_any}
use Rattle.jsonl_wrapper.specs.Wholes.{is_other}
use Rattle.jsonl_wrapper.specs.Tables.{kinds_in}
use Rattle.jsonl_wrapper.proofs.placed.has_other.Given as goal

abbrev pub invariant-loop-column : goal.invariant-loop-column
invariant-loop-column l = list_any (λ column. is_other (slice_get (kinds_in l.table) column)) l.wanted
    ≡ list_any (λ column. is_other (slice_get (kinds_in l.table) column)) (drop l.column-index l.wanted)

use Rattle.std.proofs.Common.{◌++◌, ℕ, List, map, take, string_bytes}
use Rattle.jsonl_wrapper.specs.Fields.{reader_of}
use Rattle.jsonl_wrapper.specs.Changes.{IsWritten}
use Rattle.jsonl_wrapper.proofs.made.LinesWritten.push_all.Given as goal

abbrev pub invariant-loop-line : goal.invariant-loop-line
invariant-loop-line l = (lines : List (List ℕ)) → IsWritten (map reader_of l.fields) l.initial.self lines
    → IsWritten (map reader_of l.fields) l.self (lines ++ map string_bytes (take l.line-index l.fresh))

use Rattle.std.proofs.Common.{◌≡◌, ◌∙◌, ℕ, List, [], true, false, map, length, ap, subst, string_bytes, rules}
use Rattle.std.specs.List.{list_all}
use Rattle.fdw_api.specs.Kinds.{column_of, option_form}
use Rattle.jsonl_wrapper.specs.Lines.{content_lines, lines_at}
use Rattle.jsonl_wrapper.specs.Fields.{reader_of, readers_of}
use Rattle.jsonl_wrapper.specs.Objects.{is_object, is_typed}
use Rattle.jsonl_wrapper.specs.Contents.{is_too_large, content_causes, ContentRefused}
use Rattle.place_wrapper.specs.Forms.{ReadsAs}
use Rattle.jsonl_wrapper.specs.Tables.{readers_in, lines_in}
use Rattle.jsonl_wrapper.specs.Formats.{json_form}
use Rattle.jsonl_wrapper.proofs.FormatLaws.{no_causes, content_refused, reads_as}
use Rattle.jsonl_wrapper.proofs.placed.JsonTablePlacedTable.read.Goals as goal

pub returns-in-Err-clause-err : goal.returns-in-Err-clause-err
returns-in-Err-clause-err c =
    let columns = map column_of c.args.columns.now in
    let settings = map option_form c.args.options.now in
    let why : ContentRefused (map reader_of c.in_ok-fields.fields.items) c.args.content.items c.in-Err.fault = rw (c.deref.ensures.value, c.deref-2.ensures.value) at c.in-Err.ensures.err in
    content_refused columns settings c.args.content.items c.in-Err.fault (rw c.in_ok-fields.ensures at why)

pub returns-clause-ok : goal.returns-clause-ok
returns-clause-ok c =
    let columns = map column_of c.args.columns.now in
    let settings = map option_form c.args.options.now in
    let content = c.args.content.items in
    let lines : lines_at content c.in-Ok.read.spans.items ≡ content_lines content = search rules in
    let few : is_too_large (length (content_lines content)) (length content) ≡ false = search rules in
    let objects : list_all is_object (content_lines content) ≡ true = search rules in
    let typed : list_all (is_typed (map reader_of c.in_ok-fields.fields.items)) (content_lines content) ≡ true = search rules in
    let none : content_causes (readers_of columns settings) content ≡ [] = rw c.in_ok-fields.ensures at (no_causes (map reader_of c.in_ok-fields.fields.items) content few objects typed) in
    let t = c.marked.result in
    let name : string_bytes t.remote ≡ c.args.remote.now = search rules in
    let bytes : t.content.items ≡ content = search rules in
    let fields : readers_in t ≡ readers_of columns settings = search rules in
    let here : lines_in t ≡ content_lines t.content.items = search rules in
    subst (λ (bs : List ℕ). ReadsAs json_form c.args.remote.now columns settings bs t) bytes
    (reads_as c.args.remote.now columns settings t name fields here (ap (content_causes (readers_of columns settings)) bytes ∙ none))

-- Tables that go into drafts, and come out of them.
use Rattle.std.proofs.Common.{◌≡◌, ◌∙◌, ℕ, List, [], ap, sym, string_bytes}
use Rattle.fdw_api.specs.Prelude.{Change, rows_after}
use Rattle.place_wrapper.specs.Forms.{Drafts, Same}
use Rattle.wrapper_parts.specs.Splices.{after_of}
use Rattle.jsonl_wrapper.specs.declared.lines.Span.{Span}
use Rattle.jsonl_wrapper.specs.declared.table.JsonTable.{JsonTable}
use Rattle.jsonl_wrapper.specs.declared.draft.JsonDraft.{JsonDraft}
use Rattle.jsonl_wrapper.specs.declared.exchange.Exchange.{Exchange}
use Rattle.jsonl_wrapper.specs.Fields.{Reader}
use Rattle.jsonl_wrapper.specs.Lines.{text_of, lines_at}
use Rattle.jsonl_wrapper.specs.Tables.{numbered, readers_in, lines_in, rows_in}
use Rattle.jsonl_wrapper.specs.Contents.{json_line, rows_of_lines, write_causes}
use Rattle.jsonl_wrapper.specs.Changes.{Exchanges}
use Rattle.jsonl_wrapper.specs.Keeping.{IsAgain, IsDraft, Leaves, Makes}
use Rattle.jsonl_wrapper.specs.Formats.{json_form}
use Rattle.jsonl_wrapper.proofs.FormatLaws.{rewrites, bound_by}
use Rattle.jsonl_wrapper.proofs.ExchangeLaws.{lines_are}

abbrev Lines : Type 0
Lines = List (List ℕ)

-- a table that shows the same
pub shows_same : (t u : JsonTable) → string_bytes u.remote ≡ string_bytes t.remote → readers_in u ≡ readers_in t
    → u.content.items ≡ t.content.items → u.lines.items ≡ t.lines.items → Same json_form t u
shows_same t u er ef ec el = record {
  bound = ap (λ (r : List ℕ). bound_by r (readers_in u)) er ∙ ap (bound_by (string_bytes t.remote)) ef;
  rows = ap (λ (fs : List Reader). numbered fs 0 (lines_in u)) ef
      ∙ ap (λ (bytes : List ℕ). numbered (readers_in t) 0 (lines_at bytes u.lines.items)) ec
      ∙ ap (λ (ss : List Span). numbered (readers_in t) 0 (lines_at t.content.items ss)) el;
  fits = λ entry is. is;
}

-- a table that comes back
pub again_same : (t u : JsonTable) → IsAgain t u → Same json_form t u
again_same t u is =
    let name : string_bytes u.remote ≡ string_bytes t.remote = ap string_bytes is.remote in
    let fields : readers_in u ≡ readers_in t = (let e = is.fields in cc) in
    shows_same t u name fields is.content is.lines

-- what a draft comes to
pub drafts : (t : JsonTable) (x : Exchange) (d : JsonDraft) (lines : Lines) (changes : List Change) → IsDraft t x d → Exchanges t x lines
    → rows_of_lines (readers_in t) lines ≡ rows_after (json_line (readers_in t)) (rows_in t) changes
    → write_causes (readers_in t) (rows_in t) changes ≡ [] → Drafts json_form t changes (Makes d) (Leaves d) (after_of d.content)
drafts t x d lines changes is ex rows none = record {
  kept = λ u made.
      let bytes = made.content ∙ is.image in
      let here : lines_in u ≡ lines = lines_are _ u.content.items _ u.lines.items lines bytes (made.lines ∙ is.places) ex.image in
      let name : string_bytes u.remote ≡ string_bytes t.remote = ap string_bytes (made.remote ∙ is.remote) in
      let fields : readers_in u ≡ readers_in t = (let e = made.fields ∙ is.fields in cc) in
      rewrites t u changes (after_of d.content) name fields (sym made.content) (bytes ∙ ex.image.text ∙ ap text_of (sym here))
      (ap (rows_of_lines (readers_in t)) here ∙ rows) none;
  given_up = λ u left.
      let name : string_bytes u.remote ≡ string_bytes t.remote = ap string_bytes (left.remote ∙ is.remote) in
      let fields : readers_in u ≡ readers_in t = (let e = left.fields ∙ is.fields in cc) in
      shows_same t u name fields (left.content ∙ is.content) (left.lines ∙ is.lines);
}

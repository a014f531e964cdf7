use Rattle.std.proofs.Common.{◌≡◌, ◌+◌, ◌∙◌, ◌∷◌, ap, sym, false, length, map, arith, rules}
use Rattle.std.proofs.lemmas.Result.{err_from_is_err_and}
use Rattle.jsonl_wrapper.specs.Lines.{is_blank, lines_at, pieces_from}
use Rattle.jsonl_wrapper.specs.Fields.{reader_of}
use Rattle.jsonl_wrapper.proofs.ReadLaws.{kept, line_next, line_refuses, lines_refuse}
use Rattle.jsonl_wrapper.proofs.contents.read_lines.Goals as goal

pub returns-in_err-check_line-clause-err : goal.returns-in_err-check_line-clause-err
returns-in_err-check_line-clause-err c =
    let content = c.args.content.now in
    let spans = c.loop-start.spans.items in
    let next = c.line_from-span.result.end + 1 in
    let line = c.line_at-line.result.now in
    let cut : pieces_from content c.loop-start.start ≡ line ∷ pieces_from content next = c.line_from-span.ensures.cuts ∙ ap (λ l. l ∷ pieces_from content next) (sym c.line_at-line.ensures) in
    let other : is_blank line ≡ false = search rules in
    let p = err_from_is_err_and c.from_residual-in_err-check_line.result c.from_residual-in_err-check_line.ensures.1 in
    rw (p.1, p.2) (line_refuses (map reader_of c.args.fields.now) content (lines_at content spans) line (kept (pieces_from content next)) _ (line_next content spans line c.loop-start.start next cut other c.loop-start.invariant.found) c.in_err-check_line.ensures.err)

pub returns-then-len-eq-ROW_LIMIT-clause-err : goal.returns-then-len-eq-ROW_LIMIT-clause-err
returns-then-len-eq-ROW_LIMIT-clause-err c =
    let content = c.args.content.now in
    let spans = c.loop-start.spans.items in
    let next = c.line_from-span.result.end + 1 in
    let line = c.line_at-line.result.now in
    let cut : pieces_from content c.loop-start.start ≡ line ∷ pieces_from content next = c.line_from-span.ensures.cuts ∙ ap (λ l. l ∷ pieces_from content next) (sym c.line_at-line.ensures) in
    let other : is_blank line ≡ false = search rules in
    let many : length spans ≡ 1000000 = omega arith in
    lines_refuse (map reader_of c.args.fields.now) content spans line (kept (pieces_from content next)) many (line_next content spans line c.loop-start.start next cut other c.loop-start.invariant.found)

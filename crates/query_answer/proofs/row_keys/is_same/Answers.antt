use Rattle.std.proofs.Common.{◌≡◌, sym, ap, ◌∙◌}
use Rattle.std.proofs.lemmas.Map.Text.{is_eq-slice_cmp}
use Rattle.med_value.specs.Datum.{Datum, Chars, datum}
use Rattle.tri_expr.specs.Lists.{datum_eq}
use Rattle.query_answer.proofs.row_keys.is_same.Goals as goal

pub returns-in-Text-Text : goal.returns-in-Text-Text
returns-in-Text-Text c =
    let s = c.as_bytes.result.now in
    let t = c.as_bytes-in-Text-Text.result.now in
    let a : datum c.args.a.now ≡ Chars s = ap datum c.in-Text-Text.is-0 ∙ ap Chars (sym c.as_bytes.ensures.value) in
    let b : datum c.args.b.now ≡ Chars t = ap datum c.in-Text-Text.is-1 ∙ ap Chars (sym c.as_bytes-in-Text-Text.ensures.value) in
    c.eq.ensures ∙ sym (is_eq-slice_cmp s t) ∙ ap (λ (x : Datum). datum_eq x (Chars t)) (sym a) ∙ ap (λ (y : Datum). datum_eq (datum c.args.a.now) y) (sym b)

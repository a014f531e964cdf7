use Rattle.std.proofs.Common.{◌≡◌, ◌∙◌, ◌∷◌, [], rules, arith, Option, drop, map, ap, refl, sym}
use Rattle.med_value.specs.Datum.{Tuple, tuple}
use Rattle.med_query.specs.Query.{Output, limited}
use Rattle.query_answer.specs.Staging.{outputs_in, shown_by}
use Rattle.query_answer.specs.declared.staged.Staged.{Staged}
use Rattle.query_answer.proofs.Alone.{none_shown, one_passed, one_shown}
use Rattle.query_answer.proofs.answers.shown_one.Goals as goal
use Rattle.query_answer.proofs.answers.shown_one.Goals.{in-None, in-Some+then-page_length-gt0+in_ok-push-in-Some, in-Some+else-page_length-gt0}

pub returns : goal.returns
returns c =
    let offset = c.args.offset in
    let limit = c.args.limit in
    let page = λ (o : Option Staged). limited limit (drop offset (map (λ (p : Output). p.1) (outputs_in o))) in
    elim c.match-staged.branch [
      | in-None w ↦
          let rows : c.match-staged.rows.items ≡ [] = search rules in
          ap (map tuple) rows ∙ sym (none_shown Tuple offset limit) ∙ ap page (sym w.in-None.is)
      | in-Some+then-page_length-gt0+in_ok-push-in-Some w ↦
          let rows : map tuple c.match-staged.rows.items ≡ shown_by w.in-Some.one ∷ [] = search rules in
          rows ∙ sym (one_shown w.in-Some.one offset limit w.page_length.result (w.page_length.ensures (w.in-Some.one ∷ []) refl) w.if-page_length-gt0.true) ∙ ap page (sym w.in-Some.is)
      | in-Some+else-page_length-gt0 w ↦
          let rows : c.match-staged.rows.items ≡ [] = search rules in
          ap (map tuple) rows ∙ sym (one_passed w.in-Some.one offset limit w.page_length.result (w.page_length.ensures (w.in-Some.one ∷ []) refl) (omega (arith, w.if-page_length-gt0.false))) ∙ ap page (sym w.in-Some.is)
    ]

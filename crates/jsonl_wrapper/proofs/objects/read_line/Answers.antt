use Rattle.std.proofs.Common.{◌<◌, ◌∙◌, ap, sym, subst, List, ℕ, Option, length, is_some, option_and_then}
use Rattle.std.proofs.lemmas.Result.{on_ok_weaker, MatchResult-weaker}
use Rattle.json.specs.Scratch.{room}
use Rattle.serde_json.specs.Data.{Data, object}
use Rattle.serde_json.specs.Find.{as_object}
use Rattle.serde_json.specs.Read.{read}
use Rattle.jsonl_wrapper.proofs.ObjectLaws.{json_is, json_none, json_same}
use Rattle.jsonl_wrapper.proofs.objects.read_line.Goals as goal

pub returns-in-Ok-clause-ok : goal.returns-in-Ok-clause-ok
returns-in-Ok-clause-ok g c =
    let text = c.in-Ok.ensures.cases in
    on_ok_weaker c.read_object.result
    (λ got. (got.0, json_is c.args.line.now (object got.0) text.1 (ap read (sym text.0) ∙ got.1), got.2)) c.read_object.ensures.ok

pub returns-in-Ok-clause-err : goal.returns-in-Ok-clause-err
returns-in-Ok-clause-err g c =
    let text = c.in-Ok.ensures.cases in
    MatchResult-weaker c.read_object.result c.read_object.ensures.err (λ u t. t)
    (λ e none same. ap (λ (o : Option Data). is_some (option_and_then as_object o)) (json_same c.args.line.now text.1
    ∙ ap read (sym text.0)) ∙ none same)

pub returns-in-Ok-clause-memory : goal.returns-in-Ok-clause-memory
returns-in-Ok-clause-memory g c =
    let text = c.in-Ok.ensures.cases in
    MatchResult-weaker c.read_object.result c.read_object.ensures.memory (λ u t. t)
    (λ e less same. subst (λ (l : List ℕ). room c.args.scratch.now < length l) text.0 (less same))

pub returns-in-Err-clause-err : goal.returns-in-Err-clause-err
returns-in-Err-clause-err g c =
    λ same. ap (λ (o : Option Data). is_some (option_and_then as_object o))
    (json_none c.args.line.now (λ utf8. absurd (c.in-Err.ensures.cases.0 utf8)))

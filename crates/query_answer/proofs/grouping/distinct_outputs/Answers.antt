use Rattle.std.proofs.Common.{◌≡◌, List, [], ◌∷◌, map, refl, sym, ap, ◌∙◌, rules}
use Rattle.std.proofs.lemmas.List.{map-append}
use Rattle.std.proofs.lemmas.Iterator.Consumers.{YieldsList-end}
use Rattle.std.proofs.lemmas.Iterator.Adapters.{YieldsList-from_vec}
use Rattle.indexmap.specs.IndexSet.{insert_key}
use Rattle.med_query.specs.Query.{output_eq}
use Rattle.med_query.proofs.Telling.{if_ok_then}
use Rattle.query_answer.specs.declared.staged.Staged.{Staged}
use Rattle.query_answer.specs.Keys.{keys_after}
use Rattle.query_answer.specs.Staging.{output_of}
use Rattle.query_answer.proofs.Groups.{outputs_once}
use Rattle.query_answer.proofs.KeyNumbers.{keys_after-append}
use Rattle.query_answer.proofs.grouping.distinct_outputs.Goals as goal

as_they_are : (xs : List Staged) → map (λ y. y) xs ≡ xs
as_they_are [] = refl
as_they_are (x ∷ xs) = ap (λ l. x ∷ l) (as_they_are xs)

pub loop-one-preserved : goal.loop-one-preserved
loop-one-preserved c =
    let at = c.loop-one in
    let one = c.in-Some.one in
    c.in_ok-add_distinct.ensures ∙ ap (λ l. insert_key output_eq l (output_of one)) at.invariant ∙ keys_after-append output_eq [] (map output_of at.yielded) (output_of one ∷ [])
    ∙ ap (keys_after output_eq []) (sym (map-append output_of at.yielded (one ∷ [])))

pub returns : goal.returns
returns c =
    let gives = c.into_iter-one-iterator.ensures.into_iter_gives in
    let all : c.loop-one.yielded ≡ c.args.staged.items = sym (as_they_are c.loop-one.yielded) ∙ (YieldsList-end (YieldsList-from_vec c.args.staged.items gives.0 (search rules)) c.loop-one.yielded c.loop-one.one-iterator c.loop-one.yielded_by c.next.result c.next.new.self c.in-None.is c.next.ensures.steps).0 in
    if_ok_then c.kept_outputs.result _ _ (λ out h. h ∙ c.loop-one.invariant ∙ ap (λ l. keys_after output_eq [] (map output_of l)) all ∙ outputs_once (map output_of c.args.staged.items)) c.kept_outputs.ensures

use Rattle.std.proofs.Common.{◌<◌, ◌++◌, ◌∷◌, [], ◌∙◌, sym, length, map, ap, arith}
use Rattle.std.proofs.lemmas.List.{map-append}
use Rattle.med_syntax.specs.QueryView.{key_tree}
use Rattle.med_query.specs.Form.{direction_of}
use Rattle.bind_names.specs.Meaning.{key_direction}
use Rattle.bind_names.proofs.Added.{added_after}
use Rattle.bind_names.proofs.Parts.{drop_read}
use Rattle.bind_query.proofs.keys.directions.Goals as goal

pub loop-key-preserved : goal.loop-key-preserved
loop-key-preserved c =
    let lt : c.loop-key.key-index < length c.args.keys.now = omega arith in
    let at = drop_read c.args.keys.now c.loop-key.key-index c.key-item.result lt c.key-item.is in
    added_after _ (map direction_of c.loop-key.out.items) _ (key_direction (key_tree c.key-item.result) ∷ []) _
    (ap (λ xs. map direction_of c.loop-key.out.items ++ map key_direction (map key_tree xs)) (sym at) ∙ c.loop-key.invariant)
    (ap (λ xs. map direction_of xs) c.in_ok-push.ensures.items ∙ map-append direction_of c.loop-key.out.items _)

use Rattle.std.proofs.Common.{◌∙◌, List, sym, subst}
use Rattle.std.proofs.lemmas.Result.{err_from_is_err_and}
use Rattle.med_value.specs.declared.cause.Cause.{Cause}
use Rattle.bind_names.specs.Telling.{TellsCause}
use Rattle.med_binder.proofs.OverCatalog.{own_looked, own_types, typed_over}
use Rattle.med_binder.proofs.binding.typed_query.Goals as goal

pub returns-in_err-check_types-clause-types : goal.returns-in_err-check_types-clause-types
returns-in_err-check_types-clause-types c = λ o bound user q is.
    let p = err_from_is_err_and c.from_residual.result c.from_residual.ensures.1 in
    rw (p.1, p.2) (subst (λ (xs : List Cause). TellsCause xs c.in_err-check_types.field-0.0) (own_types o bound user q c.args.named _ c.as_slice.ensures.value is)
    (c.in_err-check_types.ensures.passes (own_looked o bound user q c.args.named _ c.as_slice.ensures.value is)))

pub returns-clause-types : goal.returns-clause-types
returns-clause-types c = λ o bound user q is.
    typed_over o bound user q c.args.named is
    (sym (own_types o bound user q c.args.named _ c.as_slice.ensures.value is) ∙ c.in_ok-check_types.ensures.passes (own_looked o bound user q c.args.named _ c.as_slice.ensures.value is))
    c.in_ok-check_types.ensures.safe

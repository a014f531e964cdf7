-- What a source of one of two kinds shows: what the one shows that it holds.
use Rattle.fdw_api.specs.State.{BoxState}
use Rattle.wrapper_parts.specs.declared.either.EitherSource.{EitherSource}
use Rattle.wrapper_parts.specs.declared.either.EitherSource.TheVariants.{First, Second}

abbrev pub box_of_either : {A B : Type 0} → (A → BoxState) → (B → BoxState) → EitherSource A B → BoxState
box_of_either first second (First w) = first w
box_of_either first second (Second w) = second w

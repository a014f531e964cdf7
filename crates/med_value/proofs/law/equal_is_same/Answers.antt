use Rattle.med_value.proofs.OrderLemmas.{datum_cmp_equal}
use Rattle.med_value.proofs.law.equal_is_same.Goals as goal

pub returns : goal.returns
returns c = datum_cmp_equal

use Rattle.med_value.proofs.OrderLemmas.{datum_cmp_total}
use Rattle.med_value.proofs.law.order_is_total.Goals as goal

pub returns : goal.returns
returns c = datum_cmp_total

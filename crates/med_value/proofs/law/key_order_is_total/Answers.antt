use Rattle.med_value.proofs.OrderLemmas.{key_cmp_total}
use Rattle.med_value.proofs.law.key_order_is_total.Goals as goal

pub returns : goal.returns
returns c = key_cmp_total

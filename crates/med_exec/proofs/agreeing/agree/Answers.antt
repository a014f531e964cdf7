use Rattle.std.proofs.Common.{◌∙◌, sym}
use Rattle.std.proofs.lemmas.List.{length-map}
use Rattle.fdw_api.specs.Scan.{restriction_form}
use Rattle.med_exec.proofs.agreeing.agree.Goals as goal

pub returns-clause-ok : goal.returns-clause-ok
returns-clause-ok g c = record {
  allows = rw (c.as_slice-wanted.ensures.value, c.as_slice-offered.ensures.value) at c.in-Ok.ensures.ok;
  each = (rw c.as_slice-offered.ensures.value at c.in-Ok.ensures.each) ∙ sym (length-map c.args.offer.now.entry.restrictions.items restriction_form);
  fair = c.in-Ok.ensures.fair;
}

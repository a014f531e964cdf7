use Rattle.std.proofs.Common.{◌≡◌, ◌∙◌, ap, sym, length, map, replicate, true, rules}
use Rattle.std.proofs.lemmas.List.{length-map}
use Rattle.fdw_api.specs.Scan.{restriction_form}
use Rattle.fdw_api.specs.declared.scan.Agree.TheVariants.{Hint}
use Rattle.probe_wrapper.specs.Shy.{all_left, asked_of}
use Rattle.probe_wrapper.proofs.ShyLemmas.{hint_is_left}
use Rattle.probe_wrapper.proofs.ShyCalls.{left_allowed}
use Rattle.probe_wrapper.proofs.vague.VagueWrapper.plan.Goals as goal

pub returns-clause-ok : goal.returns-clause-ok
returns-clause-ok g c =
    let all : c.in_ok-answers.answers.items ≡ replicate (length c.args.offered.now) Hint = search rules in
    left_allowed true (g.W.Wrapper.meaning c.args.self.now.inner) (asked_of c.args.self.now.scans) _ _ _ _ c.requires
    (ap (all_left true (map restriction_form c.args.offered.now)) (all ∙ ap (λ n. replicate n Hint) (sym (length-map c.args.offered.now restriction_form))) ∙ hint_is_left (map restriction_form c.args.offered.now))

use Rattle.std.proofs.Common.{string_bytes}
use Rattle.tab_tests.proofs.Calls.{broken_is_live, again_goes_on, going_can_rescan, going_is_live, on_ok_gives, either_gives}
use Rattle.tab_tests.proofs.scans.begin_again.Goals as goal

pub returns-in_err-name-clause-live : goal.returns-in_err-name-clause-live
returns-in_err-name-clause-live g c = going_is_live (g.W.Wrapper.meaning c.args.source.now) _ c.requires

pub rescan-requires : goal.rescan-requires
rescan-requires g c = going_can_rescan (g.W.Wrapper.meaning c.args.source.now) c.args.ticket.now.number (string_bytes c.in_ok-name.name) c.requires

pub returns-clause-going : goal.returns-clause-going
returns-clause-going g c =
    on_ok_gives c.rescan.result _ _
    (λ u rescans. again_goes_on (g.W.Wrapper.meaning c.args.source.now) (g.W.Wrapper.meaning c.rescan.new.self) c.args.ticket.now.number _ rescans c.requires) c.rescan.ensures.ok

pub returns-clause-live : goal.returns-clause-live
returns-clause-live g c =
    let old = g.W.Wrapper.meaning c.args.source.now in
    let new = g.W.Wrapper.meaning c.rescan.new.self in
    either_gives c.rescan.result _ _ _
    (λ u rescans. going_is_live new c.args.ticket.now.number (again_goes_on old new c.args.ticket.now.number _ rescans c.requires))
    (λ fault breaks. broken_is_live old new c.args.ticket.now.number fault breaks) c.rescan.ensures.ok c.rescan.ensures.err

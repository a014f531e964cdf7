use Rattle.source_tests.proofs.CallLemmas.{can_is_live, broken_is_live, again_can_rescan}
use Rattle.source_tests.proofs.scans.take_twice.Goals as goal

pub returns-in_err-rescan : goal.returns-in_err-rescan
returns-in_err-rescan g c = broken_is_live _ _ _ _ c.in_err-rescan.ensures.err

pub returns-in_err-extend_from_slice : goal.returns-in_err-extend_from_slice
returns-in_err-extend_from_slice g c =
    can_is_live _ _ _ (again_can_rescan (g.W.Wrapper.meaning c.take_all.new.source) (g.W.Wrapper.meaning c.rescan.new.self) _ _ c.in_ok-rescan.ensures.ok c.in_ok-take_all.ensures.again)

pub take_all-requires-2 : goal.take_all-requires-2
take_all-requires-2 g c =
    again_can_rescan (g.W.Wrapper.meaning c.take_all.new.source) (g.W.Wrapper.meaning c.rescan.new.self) _ _ c.in_ok-rescan.ensures.ok c.in_ok-take_all.ensures.again

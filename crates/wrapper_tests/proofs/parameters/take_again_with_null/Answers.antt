use Rattle.probe_wrapper.proofs.CallLemmas.{rescan_is_open}
use Rattle.wrapper_tests.proofs.CallLemmas.{broken_is_live, again_is_open}
use Rattle.wrapper_tests.proofs.parameters.take_again_with_null.Goals as goal

pub take_row-requires : goal.take_row-requires
take_row-requires g c = rescan_is_open _ _ _ c.requires

pub returns-in_err-rescan : goal.returns-in_err-rescan
returns-in_err-rescan g c = broken_is_live _ _ _ _ c.in_err-rescan.ensures.err

pub take_row-requires-3 : goal.take_row-requires-3
take_row-requires-3 g c = again_is_open _ _ _ _ c.in_ok-rescan.ensures.ok

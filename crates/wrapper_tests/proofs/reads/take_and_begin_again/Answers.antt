use Rattle.wrapper_tests.proofs.CallLemmas.{broken_is_live, again_is_open}
use Rattle.wrapper_tests.proofs.reads.take_and_begin_again.Goals as goal

pub returns-in_err-rescan : goal.returns-in_err-rescan
returns-in_err-rescan g c = broken_is_live _ _ _ _ c.in_err-rescan.ensures.err

pub take_row-requires : goal.take_row-requires
take_row-requires g c = again_is_open _ _ _ _ c.in_ok-rescan.ensures.ok

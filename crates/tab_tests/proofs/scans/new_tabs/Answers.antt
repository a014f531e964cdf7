use Rattle.tab_tests.proofs.scans.new_tabs.Goals as goal

pub returns-clause-idle : goal.returns-clause-idle
returns-clause-idle c = c.new.ensures.new.idle

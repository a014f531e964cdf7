use Rattle.med_world.proofs.Ready.{unbind_ready}
use Rattle.med_world.proofs.Written.{no_scan_there}
use Rattle.med_world.proofs.Alterations.{box_of_server, bind_allowed, idle_allowed}
use Rattle.med_world.proofs.law.boxes_are_ready.Goals as goal

pub returns-clause-there : goal.returns-clause-there
returns-clause-there c = λ e server place sound at. let x = box_of_server e server place sound at in (x.0, x.1)

pub returns-clause-binds : goal.returns-clause-binds
returns-clause-binds c = bind_allowed

pub returns-clause-unbinds : goal.returns-clause-unbinds
returns-clause-unbinds c = unbind_ready

pub returns-clause-idle : goal.returns-clause-idle
returns-clause-idle c = idle_allowed

pub returns-clause-unread : goal.returns-clause-unread
returns-clause-unread c = no_scan_there

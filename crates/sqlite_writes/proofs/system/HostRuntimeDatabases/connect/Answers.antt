use Rattle.sqlite_writes.proofs.system.HostRuntimeDatabases.connect.Goals as goal

pub returns-in-Ok-clause-found : goal.returns-in-Ok-clause-found
returns-in-Ok-clause-found c = rw c.set_clock.ensures λ clean.
    let found = c.in-Ok.ensures.found clean in
    record { holds = found.holds; reads = found.reads }

use Rattle.fed_setup.proofs.sources.of_memory.Goals as goal

pub new-requires-clause-writable : goal.new-requires-clause-writable
new-requires-clause-writable g c = λ table honest. c.in-Ok.ensures.writable table

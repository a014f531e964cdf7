-- What sources and sinks in memory show.
use Rattle.fed_stream.specs.Inlets.{Inlet}
use Rattle.fed_stream.specs.Outlets.{Outlet}
use Rattle.fed_stream.specs.declared.memory.MemorySource.{MemorySource}
use Rattle.fed_stream.specs.declared.memory.MemorySink.{MemorySink}

abbrev pub inlet_of : MemorySource → Inlet
inlet_of s = record { comes = s.comes.now; reads = s.reads }

abbrev pub outlet_of : MemorySink → Outlet
outlet_of s = record { bytes = s.bytes.items; flushed = s.flushed; interruptions = s.interruptions; faults = s.faults }

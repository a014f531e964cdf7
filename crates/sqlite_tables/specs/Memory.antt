-- Memory always returns what was written.
use Rattle.std.specs.Prelude.{◌≡◌, true, refl}
use Rattle.sqlite_trees.specs.declared.memory.MemStore.{MemStore}
use Rattle.sqlite_trees.specs.Memory.{memory_view, memory_is_ordered, memory_is_listed}
use Rattle.sqlite_trees.specs.View.{doubt}
use Rattle.sqlite_tables.specs.Steady.{IsSteady}

no_doubt : doubt true ≡ 0
unfolding doubt
no_doubt = refl

pub memory_is_steady : (s : MemStore) → IsSteady (memory_view s)
memory_is_steady s = record { clean = no_doubt; is_open = refl; ordered = memory_is_ordered s; listed = memory_is_listed s }

-- What is known of a schema is known of the same schema.
use Rattle.std.proofs.Common.{◌≡◌, sym, subst}
use Rattle.sqlite.specs.Schema.{Schema}
use Rattle.sqlite_tables.specs.Layouts.{Layout}
use Rattle.sqlite_writes.specs.Writable.{IsWritable}

pub writable_stays : (old new : Schema) (l : Layout) → new ≡ old → ∥ IsWritable old l ∥₁ → ∥ IsWritable new l ∥₁
writable_stays old new l same known = subst (λ (s : Schema). ∥ IsWritable s l ∥₁) (sym same) known

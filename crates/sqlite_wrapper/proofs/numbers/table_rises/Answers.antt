use Rattle.std.proofs.Common.{sym, subst}
use Rattle.sqlite_tables.specs.Layouts.{Layout}
use Rattle.sqlite_writes.specs.Writable.{IsWritable}
use Rattle.sqlite_wrapper.proofs.numbers.table_rises.Goals as goal

pub entries_rise-requires : goal.entries_rise-requires
entries_rise-requires g c = record {
  writable = λ h. subst (λ (l : Layout). ∥ IsWritable c.args.conn.now.schema l ∥₁)
      (sym c.shape_of.ensures) (c.requires.writable h);
}

pub returns : goal.returns
returns g c h = rw c.shape_of.ensures at (c.entries_rise.ensures h)

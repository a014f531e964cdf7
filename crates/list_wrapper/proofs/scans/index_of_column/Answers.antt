use Rattle.std.proofs.Common.{◌≡◌, ℕ, subst, drop, arith, sym, []}
use Rattle.wrapper_parts.specs.Indexes.{IsIndexFrom}
use Rattle.wrapper_parts.specs.Scans.{column_cells}
use Rattle.list_wrapper.specs.Scans.{numbered}
use Rattle.list_wrapper.proofs.Rows.{no_cells, one_more}
use Rattle.list_wrapper.proofs.scans.index_of_column.Goals as goal

pub loop-at-init : goal.loop-at-init
loop-at-init c =
    let rows = c.args.rows.now.items in
    let many = c.len-at.ensures in
    record {
      within = omega arith;
      is = subst (λ (n : ℕ). IsIndexFrom n (column_cells c.args.column (drop n (numbered 0 rows))) c.in_ok-index.index) (sym many)
          (no_cells c.args.column rows c.in_ok-index.index (subst (λ (n : ℕ). IsIndexFrom n [] c.in_ok-index.index) c.len.ensures c.in_ok-index.ensures));
    }

pub loop-at-preserved : goal.loop-at-preserved
loop-at-preserved c = record {
  within = let w = c.loop-at.invariant.within in omega arith;
  is = one_more c.args.rows.now.items c.args.column c.loop-at.at c.at.result.now _ c.loop-at.index c.add.new.self
      (let t = c.loop-at-test.true in omega arith) c.loop-at.invariant.within c.at.ensures c.in_ok-cell_of.ensures c.in_ok-add.ensures c.loop-at.invariant.is;
}

pub returns : goal.returns
returns c =
    let none : c.loop-at.at ≡ 0 = let t = c.loop-at-test.false in omega arith in
    subst (λ (n : ℕ). IsIndexFrom n (column_cells c.args.column (drop n (numbered 0 c.args.rows.now.items))) c.loop-at.index) none c.loop-at.invariant.is

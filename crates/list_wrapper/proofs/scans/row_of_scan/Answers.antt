use Rattle.std.proofs.Common.{List, None, sym, subst}
use Rattle.std.specs.Ordering.{nat_cmp}
use Rattle.std.specs.BTreeMap as tree
use Rattle.std.proofs.lemmas.Result.{IfOk-weaker}
use Rattle.med_value.specs.declared.value.Row.{Row}
use Rattle.list_wrapper.specs.declared.scans.ListScan.{ListScan}
use Rattle.list_wrapper.specs.Scans.{ScanFits, StandsAfter, NextIs, numbered, spec_is, params_of, rows_at}
use Rattle.list_wrapper.proofs.Calls.{if_some, some_if}
use Rattle.list_wrapper.proofs.Walks.{none_next}
use Rattle.list_wrapper.proofs.scans.row_of_scan.Goals as goal

pub next_row-requires : goal.next_row-requires
next_row-requires c =
    let s = c.live_scan-scan.result.now in
    let fits = if_some _ (λ z. ScanFits (rows_at c.args.tables.now.items z.table) z) s c.live_scan-scan.ensures c.requires.fits in
    subst (λ (rows : List Row). ScanFits rows s) (sym c.in-Some.ensures.some) fits

pub returns-in-Some-clause-next : goal.returns-in-Some-clause-next
returns-in-Some-clause-next c =
    let s = c.live_scan-scan.result.now in
    IfOk-weaker c.next_row.result _ _
    (λ next h. some_if (tree.get nat_cmp c.args.scans.now c.args.number)
    (λ (z : ListScan). NextIs (spec_is z) (params_of z) (numbered 0 (rows_at c.args.tables.now.items z.table)) z.walk z.at z.more next) s c.live_scan-scan.ensures
    (subst (λ (rows : List Row). NextIs (spec_is s) (params_of s) (numbered 0 rows) s.walk s.at s.more next) c.in-Some.ensures.some h))
    c.next_row.ensures.next

pub returns-in-Some-clause-on : goal.returns-in-Some-clause-on
returns-in-Some-clause-on c =
    let s = c.live_scan-scan.result.now in
    IfOk-weaker c.next_row.result _ _
    (λ next h. some_if (tree.get nat_cmp c.args.scans.now c.args.number)
    (λ (z : ListScan). StandsAfter (rows_at c.args.tables.now.items z.table) z next) s c.live_scan-scan.ensures
    (subst (λ (rows : List Row). StandsAfter rows s next) c.in-Some.ensures.some h))
    c.next_row.ensures.on

pub returns-in-None-clause-next : goal.returns-in-None-clause-next
returns-in-None-clause-next c =
    let s = c.live_scan-scan.result.now in
    some_if (tree.get nat_cmp c.args.scans.now c.args.number)
    (λ (z : ListScan). NextIs (spec_is z) (params_of z) (numbered 0 (rows_at c.args.tables.now.items z.table)) z.walk z.at z.more None) s c.live_scan-scan.ensures
    (none_next (spec_is s) (params_of s) (rows_at c.args.tables.now.items s.table) s.walk s.at s.more c.in-None.ensures.none)

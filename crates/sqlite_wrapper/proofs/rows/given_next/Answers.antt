use Rattle.std.proofs.Common.{◌≡◌, ◌∙◌, ◌≤ℤ◌, ◌<ℤ◌, ℤ, true, rules, arith, sym, ap, subst, length, refl, w64, FitsSigned}
use Rattle.std.proofs.lemmas.Int.{ints, to_z-of_z}
use Rattle.std.proofs.lemmas.Option.{slice_get_read, same_Some}
use Rattle.med_value.specs.Datum.{Tuple, tuple}
use Rattle.fdw_api.specs.Scan.{spec_of, shown_fits}
use Rattle.sqlite_tables.specs.Prelude.{kinds_in, layout_at, key_in}
use Rattle.sqlite_wrapper.proofs.Given.{at_drop, row_same, shut, too_low, too_high}
use Rattle.sqlite_wrapper.proofs.rows.given_next.Goals as goal
use Rattle.sqlite_wrapper.proofs.rows.given_next.Goals.{
  then-not-scan-via-then-not-scan,
  then-not-scan-via-else-not-scan+then-key-scan,
  then-not-scan-via-else-not-scan+else-key-scan+then-scan-key,
}

pub returns-clause-ok : goal.returns-clause-ok
returns-clause-ok c =
    let s = c.args.scan.now in
    let fits : FitsSigned w64 c.in-Ok.read.key = search rules in
    let e = to_z-of_z w64 c.in-Ok.read.key fits in
    let r = c.index.result.now in
    let there = slice_get_read s.page.items (length s.page.items) s.at r refl (omega arith) c.index.ensures in
    let w = at_drop s.page.items s.at r there in
    let low : s.low ≤ℤ c.in-Ok.read.key = omega (arith, ints) in
    let high : c.in-Ok.read.key ≤ℤ s.high = omega (arith, ints) in
    let number = rw e at c.cast_unsigned.ensures in
    let row = row_same (spec_of s.spec) (layout_at s.table) r c.in-Ok.read.key c.cast_unsigned.result (tuple c.in-Ok.read.cells)
    (tuple c.in-Ok-show.cells) c.in-Ok.ensures.key number (rw c.requires.shape at c.in-Ok.ensures.cells) c.in-Ok-show.ensures in
    let typed = subst (λ (t : Tuple). shown_fits (kinds_in (layout_at s.table)) (spec_of s.spec) t ≡ true) (sym c.in-Ok-show.ensures)
    (c.rows_are_typed.ensures.shown (kinds_in (layout_at s.table)) (spec_of s.spec) (tuple c.in-Ok.read.cells)
    (rw c.requires.shape at c.in-Ok.ensures.fits)) in
    rw e (sym c.is_spent.ensures ∙ c.if-is_spent.false, w.0, c.if-not-scan.false, low, high, (r, w.1, sym c.in-Ok.ensures.key, row), typed)

-- the row was read, and its key may not come
pub returns-then-not-scan-clause-source : goal.returns-then-not-scan-clause-source
returns-then-not-scan-clause-source c = λ source r there.
    let s = c.args.scan.now in
    let q = c.index.result.now in
    let at = slice_get_read s.page.items (length s.page.items) s.at q refl (omega arith) c.index.ensures in
    let same : q ≡ r = same_Some q r (sym at ∙ there) in
    let key : c.in-Ok.read.key ≡ key_in r = c.in-Ok.ensures.key ∙ ap key_in same in
    elim c.then-not-scan.branch [
      | then-not-scan-via-then-not-scan w ↦ shut s r w.if-not-scan.true
      | then-not-scan-via-else-not-scan+then-key-scan w ↦
          let less : c.in-Ok.read.key <ℤ s.low = omega (arith, ints, w.if-key-scan.true) in
          too_low s r (subst (λ (k : ℤ). k <ℤ s.low) key less)
      | then-not-scan-via-else-not-scan+else-key-scan+then-scan-key w ↦
          let more : s.high <ℤ c.in-Ok.read.key = omega (arith, ints, w.if-scan-key.true) in
          too_high s r (subst (λ (k : ℤ). s.high <ℤ k) key more)
    ]

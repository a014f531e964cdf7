use Rattle.std.proofs.Common.{◌≡◌, ◌<◌, Bool, List, [], ◌∷◌, ◌++◌, length, refl, ap, sym, ◌∙◌, subst, arith, rules}
use Rattle.std.proofs.lemmas.Option.{slice_get_read}
use Rattle.med_value.specs.declared.value.Row.{Row}
use Rattle.wrapper_parts.specs.Rising.{AreRising}
use Rattle.list_wrapper.specs.Scans.{keys_of, listed_rows, rows_at, Rises}
use Rattle.list_wrapper.proofs.RisingLists.{MarkedSo, rises_pushed}
use Rattle.list_wrapper.proofs.rises.rising_tables.Goals as goal

pub loop-at-preserved : goal.loop-at-preserved
loop-at-preserved c =
    let tables = c.args.tables.now.items in
    let marks = c.loop-at.rising.items in
    let at = c.loop-at.at in
    let b = c.first_rises.result in
    let x = c.index.result.now in
    let many : length marks ≡ at = c.loop-at.invariant.marked in
    let lt : at < length tables = search rules in
    let dx = slice_get_read tables (length tables) at x refl lt c.index.ensures in
    let rows : rows_at tables (length marks) ≡ x.rows.items = ap (rows_at tables) many ∙ ap listed_rows dx in
    let here : MarkedSo b (rows_at tables (length marks)) = λ e. subst (λ (l : List Row). AreRising (keys_of l)) (sym rows) (c.first_rises.ensures e) in
    let items : c.push.new.self.items ≡ marks ++ b ∷ [] = search rules in
    record {
      within = omega arith;
      marked = search rules;
      rises = subst (λ (l : List Bool). Rises tables l) (sym items) (rises_pushed tables marks b here c.loop-at.invariant.rises);
    }

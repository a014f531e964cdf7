use Rattle.std.proofs.Common.{◌≡◌, ◌++◌, ◌∙◌, ap, take, drop, length, map, List, ℕ, arith}
use Rattle.std.proofs.lemmas.List.{take_all, length-drop, length-map}
use Rattle.csv_tables.specs.Held.{moved}
use Rattle.csv_tables.proofs.Exchanging.{written_behind}
use Rattle.csv_tables.proofs.flat_fields.move_behind.Goals as goal

pub returns : goal.returns
returns c =
    let items = c.args.ends.now.items in
    let first = c.args.first in
    let n = c.args.ends.now.ok.0 in
    let d = length-drop first items in
    let range : c.slice_mut.result.now ≡ drop first items = c.slice_mut.ensures.value ∙ take_all _ (drop first items) (omega arith) in
    let are : c.move_places.new.places ≡ map (moved c.args.from c.args.to) (drop first items) = c.move_places.ensures ∙ ap (map (moved c.args.from c.args.to)) range in
    let size : length c.move_places.new.places ≡ length (drop first items) = ap length are ∙ length-map (drop first items) (moved c.args.from c.args.to) in
    written_behind c.args.ends.now.len first items c.move_places.new.places n c.requires.within size ∙ ap (λ (l : List ℕ). take first items ++ l) are

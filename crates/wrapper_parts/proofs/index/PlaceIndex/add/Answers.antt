use Rattle.std.proofs.Common.{◌≡◌, ap, ◌∙◌, unwrap_or, length, slice_set, rules}
use Rattle.med_value.specs.Datum.{datum}
use Rattle.wrapper_parts.specs.Indexes.{first_of}
use Rattle.wrapper_parts.proofs.Indexing.{added}
use Rattle.wrapper_parts.proofs.index.PlaceIndex.add.Goals as goal

pub returns : goal.returns
returns c = λ cells h.
    let x = c.args.self.now in
    let none : c.len-none.result ≡ length x.next.items = search rules in
    added c.args.at (datum c.args.value) cells x _ c.requires
    (ap (slice_set x.next.items c.args.at)
    (c.unwrap_or.ensures ∙ ap (λ o. unwrap_or o c.len-none.result) c.in_ok-old.ensures.old ∙ ap (unwrap_or (first_of x.firsts (datum c.args.value))) none))
    c.in_ok-old.ensures.new h

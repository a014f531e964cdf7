use Rattle.std.proofs.Common.{◌≡◌, ◌≤◌, ◌+◌, [], ◌∙◌, ℕ, ap, sym, map, take, drop, length, arith}
use Rattle.csv.specs.Records.{last_end, prev}
use Rattle.wrapper_parts.specs.Splices.{front_of, middle_of, back_of}
use Rattle.csv_tables.specs.Held.{held_of, moved}
use Rattle.csv_tables.proofs.Moving.{held_size, closed, prev_within, prev_order, rising_past}
use Rattle.csv_tables.proofs.Exchanging.{can_move, can_move_as, replaced, replaced_as, rising_as, three_are}
use Rattle.csv_tables.proofs.flat_fields.Replacing.new.Goals as goal

pub start_of-start-requires : goal.start_of-start-requires
start_of-start-requires c =
    let ends = c.fields.inside.ends.items in
    let bytes = c.fields.inside.bytes.items in
    let n = held_size (record { bytes = bytes; ends = ends }) in
    let w : c.args.to ≤ length (held_of (record { bytes = c.fields.inside.bytes.items; ends = c.fields.inside.ends.items })) = rw (← c.fields.view_is) at c.requires.within in
    let within : c.args.to ≤ length ends = omega arith in
    let order = c.requires.order in
    omega arith

pub start_of-old-requires : goal.start_of-old-requires
start_of-old-requires c =
    let ends = c.fields.inside.ends.items in
    let bytes = c.fields.inside.bytes.items in
    let n = held_size (record { bytes = bytes; ends = ends }) in
    let w : c.args.to ≤ length (held_of (record { bytes = c.fields.inside.bytes.items; ends = c.fields.inside.ends.items })) = rw (← c.fields.view_is) at c.requires.within in
    let within : c.args.to ≤ length ends = omega arith in
    let order = c.requires.order in
    within

pub overflow_sub-len : goal.overflow_sub-len
overflow_sub-len c =
    let bytes = c.fields.inside.bytes.items in
    let high = (prev_within 0 c.fields.inside.ends.items (length bytes) c.args.to c.fields.invariant).1 in
    let size : c.len-2.result ≡ length bytes = c.len-2.ensures ∙ c.fields.inside.bytes.ok.0 in
    let old = c.start_of-old.ensures in
    omega arith

pub move_behind-requires-clause-can_move : goal.move_behind-requires-clause-can_move
move_behind-requires-clause-can_move c =
    let mbytes = c.others.inside.bytes.items in
    let added : c.len.result ≡ length mbytes = c.len.ensures ∙ c.others.inside.bytes.ok.0 in
    let new = c.saturating_add-new.ensures in
    let all = c.saturating_add.ensures in
    can_move 0 c.start_of-start.result (length mbytes) c.others.inside.ends.items c.others.invariant (omega arith)

pub new-requires-clause-order : goal.new-requires-clause-order
new-requires-clause-order c =
    let start = c.start_of-start.ensures in
    let old = c.start_of-old.ensures in
    let up = prev_order 0 c.fields.inside.ends.items (length c.fields.inside.bytes.items) c.args.from c.args.to c.fields.invariant c.requires.order in
    omega arith

pub new-requires-clause-within : goal.new-requires-clause-within
new-requires-clause-within c =
    let high = (prev_within 0 c.fields.inside.ends.items (length c.fields.inside.bytes.items) c.args.to c.fields.invariant).1 in
    let size = c.fields.inside.bytes.ok.0 in
    let old = c.start_of-old.ensures in
    omega arith

pub new-requires-2-clause-within : goal.new-requires-2-clause-within
new-requires-2-clause-within c =
    let ends = c.fields.inside.ends.items in
    let bytes = c.fields.inside.bytes.items in
    let n = held_size (record { bytes = bytes; ends = ends }) in
    let w : c.args.to ≤ length (held_of (record { bytes = c.fields.inside.bytes.items; ends = c.fields.inside.ends.items })) = rw (← c.fields.view_is) at c.requires.within in
    let within : c.args.to ≤ length ends = omega arith in
    let order = c.requires.order in
    let size = c.fields.inside.ends.ok.0 in
    omega arith

pub invariant_of-result-in-Ok-new : goal.invariant_of-result-in-Ok-new
invariant_of-result-in-Ok-new c =
    let ends = c.fields.inside.ends.items in
    let bytes = c.fields.inside.bytes.items in
    let n = held_size (record { bytes = bytes; ends = ends }) in
    let w : c.args.to ≤ length (held_of (record { bytes = c.fields.inside.bytes.items; ends = c.fields.inside.ends.items })) = rw (← c.fields.view_is) at c.requires.within in
    let within : c.args.to ≤ length ends = omega arith in
    let order = c.requires.order in
    let mends = c.others.inside.ends.items in
    let mbytes = c.others.inside.bytes.items in
    let partial : drop (last_end 0 ends) bytes ≡ [] = rw (← c.fields.view_is) at c.requires.whole in
    let whole = closed ends bytes c.fields.invariant partial in
    let others : drop (last_end 0 mends) mbytes ≡ [] = rw (← c.others.view_is) at c.requires.others in
    let mwhole = closed mends mbytes c.others.invariant others in
    let start = c.start_of-start.ensures in
    let old = c.start_of-old.ensures in
    let added : c.len.result ≡ length mbytes = c.len.ensures ∙ c.others.inside.bytes.ok.0 in
    let new = c.saturating_add-new.ensures in
    let all = c.saturating_add.ensures in
    let high = (prev_within 0 ends (length bytes) c.args.to c.fields.invariant).1 in
    let size : c.len-2.result ≡ length bytes = c.len-2.ensures ∙ c.fields.inside.bytes.ok.0 in
    let new_is : c.saturating_add-new.result ≡ prev 0 ends c.args.from + length mbytes = omega arith in
    let middle : middle_of c.in-Ok-new.ends ≡ map (moved 0 (prev 0 ends c.args.from)) mends = c.in-Ok-new.ensures.middle ∙ c.move_behind.ensures ∙ ap (λ (k : ℕ). map (moved 0 k) mends) start in
    let ends_are = three_are (front_of c.in-Ok-new.ends) (middle_of c.in-Ok-new.ends) (map (moved c.start_of-old.result c.saturating_add-new.result) (back_of c.in-Ok-new.ends)) _ _ _
    c.in-Ok-new.ensures.front middle
    (ap (map (moved c.start_of-old.result c.saturating_add-new.result)) c.in-Ok-new.ensures.back ∙ ap (λ (k : ℕ). map (moved k c.saturating_add-new.result) (drop c.args.to ends)) old) in
    let bytes_are = three_are (front_of c.in-Ok.bytes) (middle_of c.in-Ok.bytes) (back_of c.in-Ok.bytes) _ _ _
    (c.in-Ok.ensures.front ∙ ap (λ (k : ℕ). take k bytes) start) c.in-Ok.ensures.middle (c.in-Ok.ensures.back ∙ ap (λ (k : ℕ). drop k bytes) old) in
    let made = replaced_as ends bytes mends mbytes c.args.from c.args.to _ _ _ _
    (replaced ends bytes mends mbytes c.args.from c.args.to c.saturating_add-new.result c.fields.invariant whole c.others.invariant mwhole order within new_is) ends_are bytes_are in
    let behind = can_move c.start_of-old.result c.saturating_add-new.result (length bytes) (drop c.args.to ends)
    (rw (sym old) at (rising_past 0 ends (length bytes) c.args.to c.fields.invariant within)) (omega arith) in
    record {
      before = rising_as ends bytes _ _ c.fields.invariant c.in-Ok-new.ensures.before c.in-Ok.ensures.before;
      after = made.rising;
      whole = made.none;
      can_move = can_move_as c.start_of-old.result c.saturating_add-new.result (drop c.args.to ends) _ behind c.in-Ok-new.ensures.back;
    }

pub returns-in-Ok-new-clause-after : goal.returns-in-Ok-new-clause-after
returns-in-Ok-new-clause-after c =
    let ends = c.fields.inside.ends.items in
    let bytes = c.fields.inside.bytes.items in
    let n = held_size (record { bytes = bytes; ends = ends }) in
    let w : c.args.to ≤ length (held_of (record { bytes = c.fields.inside.bytes.items; ends = c.fields.inside.ends.items })) = rw (← c.fields.view_is) at c.requires.within in
    let within : c.args.to ≤ length ends = omega arith in
    let order = c.requires.order in
    let mends = c.others.inside.ends.items in
    let mbytes = c.others.inside.bytes.items in
    let partial : drop (last_end 0 ends) bytes ≡ [] = rw (← c.fields.view_is) at c.requires.whole in
    let whole = closed ends bytes c.fields.invariant partial in
    let others : drop (last_end 0 mends) mbytes ≡ [] = rw (← c.others.view_is) at c.requires.others in
    let mwhole = closed mends mbytes c.others.invariant others in
    let start = c.start_of-start.ensures in
    let old = c.start_of-old.ensures in
    let added : c.len.result ≡ length mbytes = c.len.ensures ∙ c.others.inside.bytes.ok.0 in
    let new = c.saturating_add-new.ensures in
    let all = c.saturating_add.ensures in
    let high = (prev_within 0 ends (length bytes) c.args.to c.fields.invariant).1 in
    let size : c.len-2.result ≡ length bytes = c.len-2.ensures ∙ c.fields.inside.bytes.ok.0 in
    let new_is : c.saturating_add-new.result ≡ prev 0 ends c.args.from + length mbytes = omega arith in
    let middle : middle_of c.in-Ok-new.ends ≡ map (moved 0 (prev 0 ends c.args.from)) mends = c.in-Ok-new.ensures.middle ∙ c.move_behind.ensures ∙ ap (λ (k : ℕ). map (moved 0 k) mends) start in
    let ends_are = three_are (front_of c.in-Ok-new.ends) (middle_of c.in-Ok-new.ends) (map (moved c.start_of-old.result c.saturating_add-new.result) (back_of c.in-Ok-new.ends)) _ _ _
    c.in-Ok-new.ensures.front middle
    (ap (map (moved c.start_of-old.result c.saturating_add-new.result)) c.in-Ok-new.ensures.back ∙ ap (λ (k : ℕ). map (moved k c.saturating_add-new.result) (drop c.args.to ends)) old) in
    let bytes_are = three_are (front_of c.in-Ok.bytes) (middle_of c.in-Ok.bytes) (back_of c.in-Ok.bytes) _ _ _
    (c.in-Ok.ensures.front ∙ ap (λ (k : ℕ). take k bytes) start) c.in-Ok.ensures.middle (c.in-Ok.ensures.back ∙ ap (λ (k : ℕ). drop k bytes) old) in
    let made = replaced_as ends bytes mends mbytes c.args.from c.args.to _ _ _ _
    (replaced ends bytes mends mbytes c.args.from c.args.to c.saturating_add-new.result c.fields.invariant whole c.others.invariant mwhole order within new_is) ends_are bytes_are in
    rw (← c.fields.view_is, ← c.others.view_is) made.fields

pub returns-in-Ok-new-clause-whole : goal.returns-in-Ok-new-clause-whole
returns-in-Ok-new-clause-whole c =
    let ends = c.fields.inside.ends.items in
    let bytes = c.fields.inside.bytes.items in
    let n = held_size (record { bytes = bytes; ends = ends }) in
    let w : c.args.to ≤ length (held_of (record { bytes = c.fields.inside.bytes.items; ends = c.fields.inside.ends.items })) = rw (← c.fields.view_is) at c.requires.within in
    let within : c.args.to ≤ length ends = omega arith in
    let order = c.requires.order in
    let mends = c.others.inside.ends.items in
    let mbytes = c.others.inside.bytes.items in
    let partial : drop (last_end 0 ends) bytes ≡ [] = rw (← c.fields.view_is) at c.requires.whole in
    let whole = closed ends bytes c.fields.invariant partial in
    let others : drop (last_end 0 mends) mbytes ≡ [] = rw (← c.others.view_is) at c.requires.others in
    let mwhole = closed mends mbytes c.others.invariant others in
    let start = c.start_of-start.ensures in
    let old = c.start_of-old.ensures in
    let added : c.len.result ≡ length mbytes = c.len.ensures ∙ c.others.inside.bytes.ok.0 in
    let new = c.saturating_add-new.ensures in
    let all = c.saturating_add.ensures in
    let high = (prev_within 0 ends (length bytes) c.args.to c.fields.invariant).1 in
    let size : c.len-2.result ≡ length bytes = c.len-2.ensures ∙ c.fields.inside.bytes.ok.0 in
    let new_is : c.saturating_add-new.result ≡ prev 0 ends c.args.from + length mbytes = omega arith in
    let middle : middle_of c.in-Ok-new.ends ≡ map (moved 0 (prev 0 ends c.args.from)) mends = c.in-Ok-new.ensures.middle ∙ c.move_behind.ensures ∙ ap (λ (k : ℕ). map (moved 0 k) mends) start in
    let ends_are = three_are (front_of c.in-Ok-new.ends) (middle_of c.in-Ok-new.ends) (map (moved c.start_of-old.result c.saturating_add-new.result) (back_of c.in-Ok-new.ends)) _ _ _
    c.in-Ok-new.ensures.front middle
    (ap (map (moved c.start_of-old.result c.saturating_add-new.result)) c.in-Ok-new.ensures.back ∙ ap (λ (k : ℕ). map (moved k c.saturating_add-new.result) (drop c.args.to ends)) old) in
    let bytes_are = three_are (front_of c.in-Ok.bytes) (middle_of c.in-Ok.bytes) (back_of c.in-Ok.bytes) _ _ _
    (c.in-Ok.ensures.front ∙ ap (λ (k : ℕ). take k bytes) start) c.in-Ok.ensures.middle (c.in-Ok.ensures.back ∙ ap (λ (k : ℕ). drop k bytes) old) in
    let made = replaced_as ends bytes mends mbytes c.args.from c.args.to _ _ _ _
    (replaced ends bytes mends mbytes c.args.from c.args.to c.saturating_add-new.result c.fields.invariant whole c.others.invariant mwhole order within new_is) ends_are bytes_are in
    made.none

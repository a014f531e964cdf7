-- The reply to a line that is not in the grammar is short.
use Rattle.std.proofs.Common.{◌≡◌, ◌+◌, ◌<◌, ◌≤◌, ℕ, List, length, inl, inr, refl, codes, decimal, arith, length-append, Result, Ok, Err, OnErr}
use Rattle.std.proofs.lemmas.Fmt.{length-decimal-le}
use Rattle.session_wire.specs.Frames.{IsReplySid}
use Rattle.session_wire.specs.Replies.{refusal}

-- its number has three digits at most
small_sid : (text : List ℕ) (sid : ℕ) → IsReplySid text sid → sid < 1000
small_sid text sid (inl h) = omega (arith, h.1.0)
small_sid text sid (inr h) = omega (arith, h.0)

short_refusal : (sid : ℕ) → sid < 1000 → length (refusal sid) ≤ 31
short_refusal sid small =
    let digits : length (decimal sid) ≤ 3 = length-decimal-le 3 sid (omega arith) (omega arith) (omega arith) in
    let rest : length (codes " E 08P01 protocol_violation\n") ≡ 28 = refl in
    omega (arith, digits, rest, length-append (decimal sid) (codes " E 08P01 protocol_violation\n"))

-- where there was not the room for it, there was not that for 128 bytes
pub no_room_for_refusal : {T E : Type 0} (r : Result T E) (text : List ℕ) (sid capacity held : ℕ) → IsReplySid text sid
    → OnErr r (capacity < held + length (refusal sid)) → OnErr r (capacity < held + 128)
no_room_for_refusal (Ok x) text sid capacity held is full = tt
no_room_for_refusal (Err e) text sid capacity held is full = omega (arith, full, short_refusal sid (small_sid text sid is))

-- What is left of a list of which a range was overwritten, its end turned in front of what is over, and that cut off.
use Rattle.std.proofs.Common.{◌≡◌, ℕ, ◌+◌, ◌-◌, ◌≤◌, List, ◌++◌, length, take, drop, ap, sym, ◌∙◌, arith}
use Rattle.std.proofs.lemmas.List.{length-append, length-take, length-drop, take_at, drop_at, drop-drop}

-- it is the list with the new items in the range's place
pub closed_up : {T : Type 0} (old middle one two three : List T) (from to end over size : ℕ)
    → end ≡ from + length middle → end + over ≡ to → to ≤ length old → size ≡ length old
    → one ≡ take from old ++ middle ++ drop end old
    → two ≡ take end one ++ drop (end + over) one ++ take over (drop end one)
    → three ≡ take (size - over) two
    → three ≡ take from old ++ middle ++ drop to old
closed_up old middle one two three from to end over size ends overs within sized overwritten turned cut =
    let front = take from old ++ middle in
    let long : length front ≡ end = omega (arith, length-append (take from old) middle, length-take from old) in
    let same = ap (take end) overwritten ∙ take_at front (drop end old) end long in
    let rest = ap (drop end) overwritten ∙ drop_at front (drop end old) end long in
    let behind = sym (drop-drop over end one) ∙ ap (drop over) rest ∙ drop-drop over end old ∙ ap (λ n. drop n old) overs in
    let left = front ++ drop to old in
    let whole : two ≡ left ++ take over (drop end one) = cc in
    let kept : length left ≡ size - over = omega (arith, length-append front (drop to old), length-drop to old, long) in
    cut ∙ ap (take (size - over)) whole ∙ take_at left (take over (drop end one)) (size - over) kept

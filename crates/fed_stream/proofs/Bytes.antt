-- Lemmas on the bytes that come.
use Rattle.std.proofs.Common.{◌≡◌, ◌<◌, ◌-◌, ℕ, List, [], ◌∷◌, ◌++◌, length, take, drop, set, map, refl, sym, ap, ◌∙◌, take-append-drop, arith}
use Rattle.std.proofs.lemmas.List.{take_rest}
use Rattle.fed_stream.specs.Inlets.{bytes_of}
use Rattle.fed_stream.specs.declared.source.Arrival.{Arrival}
use Rattle.fed_stream.specs.declared.source.Arrival.TheVariants.{Byte, Interruption, Fault}

bytes_append : (xs ys : List Arrival) → bytes_of (xs ++ ys) ≡ bytes_of xs ++ bytes_of ys
bytes_append [] ys = refl
bytes_append (Byte b ∷ xs) ys = ap (λ l. b ∷ l) (bytes_append xs ys)
bytes_append (Interruption ∷ xs) ys = bytes_append xs ys
bytes_append (Fault ∷ xs) ys = bytes_append xs ys

bytes_map : (bytes : List ℕ) → bytes_of (map Byte bytes) ≡ bytes
bytes_map [] = refl
bytes_map (b ∷ bytes) = ap (λ l. b ∷ l) (bytes_map bytes)

-- some of the bytes that come, and those of the rest
pub bytes_parted : (comes : List Arrival) (piece : List ℕ) (n : ℕ) → take n comes ≡ map Byte (take n piece) → bytes_of comes ≡ take n piece ++ bytes_of (take (length comes - n) (drop n comes))
bytes_parted comes piece n e =
    ap bytes_of (sym (take-append-drop n comes)) ∙ bytes_append (take n comes) (drop n comes)
    ∙ ap (λ l. l ++ bytes_of (drop n comes)) (ap bytes_of e ∙ bytes_map (take n piece)) ∙ ap (λ l. take n piece ++ bytes_of l) (sym (take_rest comes n))

pub first_byte : (comes others : List Arrival) (first : Arrival) (b : ℕ) (piece : List ℕ) → comes ≡ first ∷ others → first ≡ Byte b → 0 < length piece → take 1 comes ≡ map Byte (take 1 (set piece 0 b))
first_byte comes others first b [] e f room = absurd (omega (arith, room))
first_byte comes others first b (x ∷ xs) e f room = ap (take 1) (e ∙ ap (λ a. a ∷ others) f)

-- What fates and changes leave of old rows. A row is read from what is held of it, an `R`; what is written in its place, a `T`, is also
-- held as an `R`.
use Rattle.std.specs.Prelude.{ℕ, List, [], ◌∷◌, length, map, flat_map, zip}
use Rattle.std.specs.List.{range_with_len}
use Rattle.med_value.specs.Datum.{Tuple}
use Rattle.fdw_api.specs.Prelude.{Held, Change, row_after}
use Rattle.wrapper_parts.specs.declared.fates.Fate.{Fate}
use Rattle.wrapper_parts.specs.declared.fates.Fate.TheVariants.{Keep, Change as ChangeTo, Gone}

-- what a fate leaves of an old row: the row itself, another, or none
abbrev pub outcome : {R T : Type 0} → (T → R) → R → Fate T → List R
outcome written r Keep = r ∷ []
outcome written r (ChangeTo x) = written x ∷ []
outcome written r Gone = []

-- what the fates leave of old rows
abbrev pub left_by : {R T : Type 0} → (T → R) → List (Fate T) → List R → List R
left_by written fates rows = flat_map (λ e. outcome written e.0 e.1) (zip rows fates)

-- the rows, each behind its place
abbrev pub placed : {R : Type 0} → List R → List (ℕ × R)
placed rows = zip (range_with_len 0 (length rows)) rows

-- what is left of the row at a place under its fate so far, after the changes still to come, which name it by its place
abbrev pub left_of : {R T : Type 0} → (Tuple → List (List ℕ)) → (R → Held) → (T → R) → List Change → ℕ → R → Fate T → List Held
left_of line read written changes place r fate = row_after line place changes (map read (outcome written r fate))

-- what is left of all rows, each under its own fate
abbrev pub rows_left : {R T : Type 0} → (Tuple → List (List ℕ)) → (R → Held) → (T → R) → List R → List (Fate T) → List Change → List Held
rows_left line read written rows fates changes =
    flat_map (λ e. left_of line read written changes e.0.0 e.0.1 e.1) (zip (placed rows) fates)

-- What the reads of a reader tell of the records of a blob.
use Rattle.std.proofs.Common.{◌≡◌, ◌⊎◌, inl, inr, ℕ, zero, suc, ◌+◌, ◌<◌, ◌≤◌, Bool, true, false, cond, List, [], ◌∷◌, ◌++◌, length, Some, None, refl, sym, ap, ◌∙◌, arith}
use Rattle.csv.specs.Machine.{Read, next_record, step, is_end, ends_at_end, fields_after, field_after}
use Rattle.csv.specs.Reading.{ReadRecord, default_config, strip_bom, records_from, Reached, AreRecords, records}
use Rattle.csv.specs.declared.parser.Config.{Config}
use Rattle.csv.specs.declared.parser.State.{State}
use Rattle.csv.specs.declared.parser.State.TheVariants as st
use Rattle.csv.proofs.ReadFacts.{rows-end, rows-more}
use Rattle.csv_tables.specs.CsvRecords.{Record, csv_records}
use Rattle.csv_tables.specs.Content.{HasRead, ReadsOn, SliceReader, known_bytes}

same_read : (p q : Read) → Some p ≡ Some q → p ≡ q
same_read p q e = cc

-- a record takes a byte, or it is the last
abbrev Shrinks : Read → ℕ → Type 0
Shrinks p n = (length p.2 < n) ⊎ ((p.1 ≡ st.StartRecord) × (p.2 ≡ []))

shrinks_more : (p : Read) (n : ℕ) → Shrinks p n → Shrinks p (suc n)
shrinks_more p n (inl less) = inl (omega arith)
shrinks_more p n (inr last) = inr last

next_shrinks : (cfg : Config) (s : State) (fields : List (List ℕ)) (field xs : List ℕ) (p : Read) → next_record cfg s fields field xs ≡ Some p → Shrinks p (length xs)
unfolding next_record
next_shrinks cfg s fields field [] p e = go (ends_at_end s) e
  where
    go : (b : Bool) → cond b (Some (fields ++ (field ∷ []), st.StartRecord, [])) None ≡ Some p → Shrinks p 0
    go true h = let same = same_read _ _ h in inr (sym (ap (λ (r : Read). r.1) same), sym (ap (λ (r : Read). r.2) same))
    go false h = absurd (cc)
next_shrinks cfg s fields field (c ∷ rest) p e =
    go (next_shrinks cfg (step cfg s c).0 (fields_after (step cfg s c).1 fields field) (field_after (step cfg s c).1 c field) rest p) (is_end (step cfg s c).1) e
  where
    go : (next_record cfg (step cfg s c).0 (fields_after (step cfg s c).1 fields field) (field_after (step cfg s c).1 c field) rest ≡ Some p → Shrinks p (length rest)) → (b : Bool)
        → cond b (Some (fields_after (step cfg s c).1 fields field, (step cfg s c).0, rest)) (next_record cfg (step cfg s c).0 (fields_after (step cfg s c).1 fields field) (field_after (step cfg s c).1 c field) rest) ≡ Some p
        → Shrinks p (suc (length rest))
    go more true h = let same = same_read _ _ h in let left : length p.2 ≡ length rest = sym (ap (λ (r : Read). length r.2) same) in inl (omega arith)
    go more false h = shrinks_more p (length rest) (more h)

pub none_at_end : (cfg : Config) → next_record cfg st.StartRecord [] [] [] ≡ None
unfolding next_record
none_at_end cfg = refl

-- there are no more records than bytes, and one more
few : (cfg : Config) (s s2 : State) (xs ys : List ℕ) (rows : List Record) → Reached cfg s xs rows s2 ys → length rows ≤ length xs + 1
unfolding Reached
few cfg s s2 xs ys [] h = omega arith
few cfg s s2 xs ys (r ∷ []) h = omega arith
few cfg s s2 xs ys (r ∷ q ∷ rows) h =
    let more = few cfg h.0.1 s2 h.0.2 ys (q ∷ rows) h.3 in
    elim (next_shrinks cfg s [] [] xs h.0 h.1) [
      | inl less ↦ omega arith
      | inr last ↦ absurd (let n = none_at_end cfg in let e = rw (last.0, last.1) at h.3.1 in cc)
    ]

records_none : (cfg : Config) (s : State) (ys : List ℕ) (n : ℕ) → next_record cfg s [] [] ys ≡ None → records_from cfg n s ys ≡ []
unfolding records_from
records_none cfg s ys zero e = refl
records_none cfg s ys (suc n) e = rw e refl

reads_all : (cfg : Config) (s s2 : State) (xs ys : List ℕ) (rows : List Record) (n : ℕ) → Reached cfg s xs rows s2 ys → next_record cfg s2 [] [] ys ≡ None → length rows ≤ n → records_from cfg n s xs ≡ rows
unfolding Reached records_from
reads_all cfg s s2 xs ys [] n h e low = rw (h.0, h.1) (records_none cfg s2 ys n e)
reads_all cfg s s2 xs ys (r ∷ rows) zero h e low = absurd (omega arith)
reads_all cfg s s2 xs ys (r ∷ rows) (suc n) h e low = rw (h.1, h.2) (ap (λ (l : List Record). h.0.0 ∷ l) (reads_all cfg h.0.1 s2 h.0.2 ys rows n h.3 e (omega arith)))

-- records that were read come first
reads_some : (cfg : Config) (s s2 : State) (xs ys : List ℕ) (rows : List Record) (n : ℕ) → Reached cfg s xs rows s2 ys → length rows ≤ n → (more : List Record) × (records_from cfg n s xs ≡ rows ++ more)
unfolding Reached records_from
reads_some cfg s s2 xs ys [] n h low = (records_from cfg n s xs, refl)
reads_some cfg s s2 xs ys (r ∷ rows) zero h low = absurd (omega arith)
reads_some cfg s s2 xs ys (r ∷ rows) (suc n) h low =
    let w = reads_some cfg h.0.1 s2 h.0.2 ys rows n h.3 (omega arith) in
    (w.0, rw (h.1, h.2) (ap (λ (l : List Record). h.0.0 ∷ l) w.1))

-- these are the records
pub are_the_records : (xs : List ℕ) (rows : List Record) → AreRecords default_config st.StartRecord xs rows → rows ≡ records default_config xs
are_the_records xs rows h = sym (reads_all default_config st.StartRecord h.0 xs h.1 rows (length xs + 1) h.2 h.3 (few default_config st.StartRecord h.0 xs h.1 rows h.2))

-- the records that a reader gave come first in its blob
pub starts_with : (bytes : List ℕ) (rows : List Record) (rdr : SliceReader) → HasRead bytes rows rdr → (more : List Record) × (csv_records bytes ≡ rows ++ more)
starts_with bytes rows rdr h =
    reads_some default_config st.StartRecord rdr.state (strip_bom bytes) h.rest rows (length (strip_bom bytes) + 1) h.reached (few default_config st.StartRecord rdr.state (strip_bom bytes) h.rest rows h.reached)

-- a read gives the next record, or tells that there is none
pub reads_on : (bytes : List ℕ) (rows : List Record) (a b : SliceReader) (found : Bool) (f : Record) → HasRead bytes rows a → ReadRecord known_bytes a b found f → b.first ≡ true → b.flexible ≡ a.flexible → b.failed ≡ a.failed → ReadsOn bytes rows found f b
reads_on bytes rows a b true f h r first flexible failed =
    let m = rows-more known_bytes a b f default_config st.StartRecord (strip_bom bytes) h.rest rows h.config h.source h.reached r in
    record {
      trim = r.3 ∙ h.trim;
      ready = inl first;
      flexible = flexible ∙ h.flexible;
      intact = failed ∙ h.intact;
      config = r.2 ∙ h.config;
      rest = m.0;
      source = m.1;
      reached = m.2;
    }
reads_on bytes rows a b false f h r first flexible failed =
    sym (are_the_records (strip_bom bytes) rows (a.state, h.rest, h.reached, rows-end known_bytes a b f default_config h.rest h.config h.source r))

-- the record that was read last, and those behind it
pub next_comes : (bytes : List ℕ) (rows : List Record) (r : Record) (rdr : SliceReader) → HasRead bytes (rows ++ r ∷ []) rdr → (more : List Record) × (csv_records bytes ≡ rows ++ r ∷ more)
next_comes bytes rows r rdr h =
    let w = starts_with bytes (rows ++ r ∷ []) rdr h in
    (w.0, w.1 ∙ regroup rows w.0)
  where
    regroup : (l more : List Record) → (l ++ r ∷ []) ++ more ≡ l ++ r ∷ more
    regroup [] more = refl
    regroup (x ∷ l) more = ap (λ (m : List Record). x ∷ m) (regroup l more)

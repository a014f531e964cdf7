-- Headers of blobs, and a blob that has a given header.
use Rattle.std.proofs.Common.{◌≡◌, ℕ, zero, suc, Bool, true, false, cond, List, [], ◌∷◌, ◌++◌, Option, Some, None, refl, sym, ap, ◌∙◌}
use Rattle.csv.specs.Machine.{Read, next_record, step, is_end, ends_at_end, fields_after, field_after}
use Rattle.csv.specs.Reading.{default_config, strip_bom, records_from, records_next, records, Reached}
use Rattle.csv.specs.declared.parser.Config.{Config}
use Rattle.csv.specs.declared.parser.State.{State}
use Rattle.csv.specs.declared.parser.State.TheVariants as st
use Rattle.csv.specs.declared.parser.Action.{Action}
use Rattle.csv.specs.declared.parser.Action.TheVariants as act
use Rattle.csv.proofs.RoundTrip.{read-write}
use Rattle.fdw_api.specs.Kinds.{Entry, Bytes}
use Rattle.csv_tables.specs.CsvRecords.{Record, csv_records, csv_text, heading, has_field, is_header}
use Rattle.csv_tables.specs.Shapes.{records_in}
use Rattle.csv_tables.proofs.ReadLaws.{are_the_records, none_at_end}
use denote.Struct.Props.{props}

same_read : (p q : Read) → Some p ≡ Some q → p ≡ q
same_read p q e = cc

ends_with : (fields : List (List ℕ)) (field : List ℕ) → has_field (fields ++ field ∷ []) ≡ true
ends_with [] field = refl
ends_with (f ∷ fs) field = refl

-- a record that is read has a field
read_has_field : (cfg : Config) (s : State) (fields : List (List ℕ)) (field xs : List ℕ) (p : Read) → next_record cfg s fields field xs ≡ Some p → has_field p.0 ≡ true
unfolding next_record
read_has_field cfg s fields field [] p e = go (ends_at_end s) e
  where
    go : (b : Bool) → cond b (Some (fields ++ (field ∷ []), st.StartRecord, [])) None ≡ Some p → has_field p.0 ≡ true
    go true h = let same = same_read _ _ h in ap (λ (r : Read). has_field r.0) (sym same) ∙ ends_with fields field
    go false h = absurd cc
read_has_field cfg s fields field (c ∷ rest) p e =
    go (step cfg s c).1 (read_has_field cfg (step cfg s c).0 (fields_after (step cfg s c).1 fields field) (field_after (step cfg s c).1 c field) rest p) e
  where
    go : (a : Action) → (next_record cfg (step cfg s c).0 (fields_after a fields field) (field_after a c field) rest ≡ Some p → has_field p.0 ≡ true)
        → cond (is_end a) (Some (fields_after a fields field, (step cfg s c).0, rest)) (next_record cfg (step cfg s c).0 (fields_after a fields field) (field_after a c field) rest) ≡ Some p → has_field p.0 ≡ true
    go act.EndRecord more h = let same = same_read _ _ h in ap (λ (r : Read). has_field r.0) (sym same) ∙ ends_with fields field
    go act.Skip more h = more h
    go act.Copy more h = more h
    go act.EndField more h = more h

records_have_fields : (cfg : Config) (n : ℕ) (s : State) (xs : List ℕ) (r : Record) (more : List Record) → records_from cfg n s xs ≡ r ∷ more → has_field r ≡ true
unfolding records_from
records_have_fields cfg zero s xs r more e = absurd cc
records_have_fields cfg (suc n) s xs r more e = at (next_record cfg s [] [] xs) (read_has_field cfg s [] [] xs) e
  where
    at : (o : Option Read) → ((p : Read) → o ≡ Some p → has_field p.0 ≡ true) → records_next (records_from cfg n) o ≡ r ∷ more → has_field r ≡ true
    at None f h = absurd cc
    at (Some p) f h = let same : p.0 ≡ r = cc in ap has_field (sym same) ∙ f p refl

-- the header of an image is one
pub heading_is_header : (flag : Bool) (names : Record) (bytes : List ℕ) → has_field names ≡ true → is_header flag (heading flag names (csv_records bytes)) ≡ true
heading_is_header false names bytes e = refl
heading_is_header true names bytes e = at (csv_records bytes) (λ r more h. records_have_fields default_config _ st.StartRecord (strip_bom bytes) r more h)
  where
    at : (rows : List Record) → ((r : Record) (more : List Record) → rows ≡ r ∷ more → has_field r ≡ true) → is_header true (heading true names rows) ≡ true
    at [] f = e
    at (r ∷ rows) f = f r rows refl

one_reached : (f : List ℕ) (fs : Record) → Reached default_config st.StartRecord (csv_text ((f ∷ fs) ∷ [])) ((f ∷ fs) ∷ []) st.StartRecord []
unfolding Reached
one_reached f fs = ((f ∷ fs, st.StartRecord, []), read-write (f ∷ fs) [], refl, (refl, refl))

marked : (text : List ℕ) → strip_bom (239 ∷ 187 ∷ 191 ∷ text) ≡ text
unfolding strip_bom
marked text = refl

one_record : (f : List ℕ) (fs : Record) → csv_records (239 ∷ 187 ∷ 191 ∷ csv_text ((f ∷ fs) ∷ [])) ≡ (f ∷ fs) ∷ []
one_record f fs =
    ap (records default_config) (marked (csv_text ((f ∷ fs) ∷ [])))
    ∙ sym (are_the_records (csv_text ((f ∷ fs) ∷ [])) ((f ∷ fs) ∷ []) (st.StartRecord, [], one_reached f fs, none_at_end default_config))

-- each header is that of an entry
pub header_of_entry : (flag : Bool) (names : Record) (rows : List Record) → is_header flag rows ≡ true → (entry : Option Entry) × (heading flag names (records_in entry) ≡ rows)
header_of_entry false names [] e = (None, refl)
header_of_entry false names (r ∷ rows) e = absurd cc
header_of_entry true names [] e = absurd cc
header_of_entry true names ([] ∷ []) e = absurd cc
header_of_entry true names ((f ∷ fs) ∷ []) e = (Some (Bytes (239 ∷ 187 ∷ 191 ∷ csv_text ((f ∷ fs) ∷ []))), ap (heading true names) (one_record f fs))
header_of_entry true names ([] ∷ q ∷ rows) e = absurd cc
header_of_entry true names ((f ∷ fs) ∷ q ∷ rows) e = absurd cc

-- that a header is that of an entry is a fact
pub header_once : (flag : Bool) (names : Record) (entry : Option Entry) (rows : List Record) → IsProp (heading flag names (records_in entry) ≡ rows)
header_once flag names entry rows = hlevel props

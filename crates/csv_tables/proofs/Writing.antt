-- A writer of records, line by line.
use Rattle.std.proofs.Common.{◌≡◌, ℕ, zero, suc, List, [], ◌∷◌, ◌++◌, take, drop, Option, Some, Vec, Global, refl, ap, sym, ◌∙◌}
use Rattle.std.specs.Io.KnownBytes.{Keeps}
use Rattle.std.proofs.lemmas.List.{append_assoc}
use Rattle.csv.specs.Writing.{default_writer, row_text, text_written}
use Rattle.csv.specs.declared.writer.Writer.{Writer}
use Rattle.csv_tables.specs.CsvRecords.{Record, csv_text}
use Rattle.csv_tables.specs.Rewriting.{HasWritten}

pub writes_as : (xs ys : List ℕ) (w : Writer (Vec ℕ Global)) → HasWritten xs w → xs ≡ ys → HasWritten ys w
writes_as xs ys w h e = rw e at h

-- one record more
pub take_row : (rs : List Record) (at : ℕ) (r : Record) (more : List Record) → drop at rs ≡ r ∷ more → take (suc at) rs ≡ take at rs ++ r ∷ []
take_row [] zero r more e = absurd cc
take_row [] (suc at) r more e = absurd cc
take_row (x ∷ rs) zero r more e = let s : x ≡ r = cc in ap (λ (y : Record). y ∷ []) s
take_row (x ∷ rs) (suc at) r more e = ap (λ (l : List Record). x ∷ l) (take_row rs at r more e)

none_behind : (l : List ℕ) → l ++ [] ≡ l
none_behind [] = refl
none_behind (x ∷ l) = ap (λ (m : List ℕ). x ∷ m) (none_behind l)

pub text_push : (rs : List Record) (r : Record) → csv_text (rs ++ r ∷ []) ≡ csv_text rs ++ row_text default_writer r
text_push [] r = none_behind (row_text default_writer r)
text_push (x ∷ rs) r = ap (λ (l : List ℕ). row_text default_writer x ++ l) (text_push rs r) ∙ sym (append_assoc (row_text default_writer x) (csv_text rs) (row_text default_writer r))

-- what a writer gives back
kept_text : (o : Option (List ℕ)) (text image : List ℕ) → o ≡ Some text → Keeps o (Some image) → image ≡ text
kept_text o text image e k = rw e at k

pub image_is : (text : List ℕ) (w : Writer (Vec ℕ Global)) (image : Vec ℕ Global) → HasWritten text w
    → Keeps (text_written (λ (v : Vec ℕ Global). Some v.items) w) (Some image.items) → image.items ≡ text
image_is text w image was k = kept_text _ text image.items was.text_is k

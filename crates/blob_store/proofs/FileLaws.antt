-- What calls on files leave of the blobs of a folder.
use Rattle.std.proofs.Common.{◌≡◌, ◌≢◌, ℕ, ◌+◌, ◌-◌, ◌^◌, ◌<◌, ◌≤◌, List, ◌∷◌, length, take, Option, Some, None, Result, Ok, Err, refl, sym, ap, subst, ◌∙◌, drop, arith, Bool, true, false, inl, inr}
use Rattle.std.specs.Prelude.{option_map, Vec}
use Rattle.std.proofs.lemmas.Bool.{cases_Bool, false≢true}
use Rattle.std.proofs.lemmas.List.{append_cancel_left, take_all}
use mathlib.Core.Path.{fun_ext}
use Rattle.blob_store.specs.Names.{is_blob_name}
use Rattle.blob_store.specs.Shelves.{Known, after_writing, Fails, Replaces}
use Rattle.blob_store.specs.Known.{KnownBoth}
use Rattle.blob_store.specs.Drives.{Drive}
use Rattle.blob_store.specs.Files.{path_in, draft_name, most_bytes, standing_in, under_in, folder_shelf, FindsFile, PutsBlob, KeepsBlobs, PutsAll, blob_fault}
use Rattle.blob_store.specs.declared.blobs.BlobFault.{BlobFault}
use Rattle.blob_store.specs.declared.blobs.BlobFault.TheVariants as blob_faults
use Rattle.blob_store.specs.declared.marks.Mark.{Mark}
use Rattle.blob_store.specs.declared.steps.PutFault.{PutFault}
use Rattle.blob_store.specs.declared.steps.PutFault.TheVariants.{NoMemory, Failed, Barred}

-- two names in a folder have two paths
pub path_same : (folder a b : List ℕ) → path_in folder a ≡ path_in folder b → a ≡ b
path_same folder a b e = ap (drop 1) (append_cancel_left folder (47 ∷ a) (47 ∷ b) e)

-- the draft's path is no blob's
pub draft_apart : (folder name : List ℕ) → is_blob_name name ≡ true → path_in folder draft_name ≢ path_in folder name
draft_apart folder name h e = false≢true (subst (λ n. is_blob_name n ≡ true) (sym (path_same folder draft_name name e)) h)

pub name_apart : (folder name : List ℕ) → is_blob_name name ≡ true → path_in folder name ≢ path_in folder draft_name
name_apart folder name h e = draft_apart folder name h (sym e)

-- what stands under all paths but the draft's is what the folder shows
module _ (old new : Drive) (folder : List ℕ) (others : (other : List ℕ) → other ≢ path_in folder draft_name → new.at other ≡ old.at other) where
  same_at : (name : List ℕ) → standing_in new folder name ≡ standing_in old folder name
  same_at name = elim (cases_Bool (is_blob_name name)) [
    | inl is ↦ rw is (ap (λ e. Known (option_map (λ x. take most_bytes x.bytes) e)) (others (path_in folder name) (name_apart folder name is)))
    | inr isnt ↦ rw isnt refl
  ]

  pub same_shelf : standing_in new folder ≡ standing_in old folder
  same_shelf = fun_ext same_at

pub finds_keeps : {A : Type 0} (a b : Option Drive) (folder path : List ℕ) (result : Result (Option (Vec ℕ A)) BlobFault) → KnownBoth a b (λ old new. FindsFile old new path result) → under_in b folder ≡ under_in a folder
finds_keeps None None folder path result h = refl
finds_keeps None (Some new) folder path result h = elim h [ ]
finds_keeps (Some old) None folder path result h = elim h [ ]
finds_keeps (Some old) (Some new) folder path (Ok found) h = ap (λ d. standing_in d folder) h.0
finds_keeps (Some old) (Some new) folder path (Err blob_faults.NoMemory) h = ap (λ d. standing_in d folder) h
finds_keeps (Some old) (Some new) folder path (Err blob_faults.Device) h = elim h [ inl e ↦ ap (λ d. standing_in d folder) e | inr p ↦ ap (λ d. standing_in d folder) p.0 ]
finds_keeps (Some old) (Some new) folder path (Err blob_faults.Worn) h = elim h [ ]

pub keeps_under : (a b : Option Drive) (folder name : List ℕ) (mark : Mark) (bytes : List ℕ) (fault : BlobFault) → KnownBoth a b (λ old new. KeepsBlobs old new folder name mark bytes fault) → under_in b folder ≡ under_in a folder
keeps_under None None folder name mark bytes fault h = refl
keeps_under None (Some new) folder name mark bytes fault h = elim h [ ]
keeps_under (Some old) None folder name mark bytes fault h = elim h [ ]
keeps_under (Some old) (Some new) folder name mark bytes fault h = same_shelf old new folder h.others

pub puts_there : (a b : Option Drive) (folder name : List ℕ) (mark now : Mark) (bytes : List ℕ) → is_blob_name name ≡ true → KnownBoth a b (λ old new. PutsBlob old new folder name mark now bytes) → under_in b folder name ≡ after_writing (under_in a folder name) bytes
puts_there None None folder name mark now bytes is h = refl
puts_there None (Some new) folder name mark now bytes is h = elim h [ ]
puts_there (Some old) None folder name mark now bytes is h = elim h [ ]
puts_there (Some old) (Some new) folder name mark now bytes is h =
    rw is (ap (λ e. Known (option_map (λ x. take most_bytes x.bytes) e)) h.puts.there ∙ ap (λ xs. Known (Some (take most_bytes xs))) h.puts.content ∙ ap (λ xs. Known (Some xs)) (take_all most_bytes bytes h.size))

pub puts_others : (a b : Option Drive) (folder name : List ℕ) (mark now : Mark) (bytes : List ℕ) → KnownBoth a b (λ old new. PutsBlob old new folder name mark now bytes) → (other : List ℕ) → other ≢ name → under_in b folder other ≡ under_in a folder other
puts_others None None folder name mark now bytes h other ne = refl
puts_others None (Some new) folder name mark now bytes h other ne = elim h [ ]
puts_others (Some old) None folder name mark now bytes h other ne = elim h [ ]
puts_others (Some old) (Some new) folder name mark now bytes h other ne = elim (cases_Bool (is_blob_name other)) [
  | inl is ↦ rw is (ap (λ e. Known (option_map (λ x. take most_bytes x.bytes) e)) (h.puts.others (path_in folder other) (name_apart folder other is) (λ e. ne (path_same folder other name e))))
  | inr isnt ↦ rw isnt refl
]

is_memory : BlobFault → Bool
is_memory blob_faults.NoMemory = true
is_memory blob_faults.Device = false
is_memory blob_faults.Worn = false

is_worn : BlobFault → Bool
is_worn blob_faults.NoMemory = false
is_worn blob_faults.Device = false
is_worn blob_faults.Worn = true

not_memory_worn : blob_faults.NoMemory ≢ blob_faults.Worn
unfolding is_worn
not_memory_worn e = false≢true (ap is_worn e)

not_memory_device : blob_faults.NoMemory ≢ blob_faults.Device
unfolding is_memory
not_memory_device e = false≢true (sym (ap is_memory e))

not_device_worn : blob_faults.Device ≢ blob_faults.Worn
unfolding is_worn
not_device_worn e = false≢true (ap is_worn e)

-- a file that is not replaced is a blob that is not
pub keeps_blobs : (a b : Option Drive) (folder name : List ℕ) (mark : Mark) (bytes : List ℕ) (fault : PutFault) → length bytes ≤ most_bytes → KnownBoth a b (λ old new. PutsAll old new (path_in folder draft_name) (path_in folder name) mark bytes (Err fault)) → KnownBoth a b (λ old new. KeepsBlobs old new folder name mark bytes (blob_fault fault))
keeps_blobs None None folder name mark bytes fault size h = h
keeps_blobs None (Some new) folder name mark bytes fault size h = elim h [ ]
keeps_blobs (Some old) None folder name mark bytes fault size h = elim h [ ]
keeps_blobs (Some old) (Some new) folder name mark bytes NoMemory size h = record {
  not_worn = λ e. not_memory_worn e;
  others = h.puts.others;
  device = λ e. elim (not_memory_device e) [ ];
  cleared = λ there other. let m = h.puts.cleared there other in omega (arith, m);
}
keeps_blobs (Some old) (Some new) folder name mark bytes Failed size h = record {
  not_worn = λ e. not_device_worn e;
  others = h.puts.others;
  device = λ e same ne fits writable unchanged. elim (h.puts.failed refl) [ inl m ↦ absurd (omega (arith, m, same)) | inr t ↦ ne t ];
  cleared = λ there other. let m = h.puts.cleared there other in omega (arith, m);
}
keeps_blobs (Some old) (Some new) folder name mark bytes Barred size h = record {
  not_worn = λ e. not_device_worn e;
  others = h.puts.others;
  device = λ e same ne fits. h.puts.barred refl;
  cleared = λ there other. let m = h.puts.cleared there other in omega (arith, m);
}

-- what a call that did nothing tells of the store
shelf_same : (a b : Option Drive) (p q : List ℕ) (m n : ℕ) → under_in b q ≡ under_in a p → m ≡ n → folder_shelf b q m ≡ folder_shelf a p n
shelf_same a b p q m n u e = ap (λ under. record { under = under; failures = m }) u ∙ ap (λ k. record { under = under_in a p; failures = k }) e

fails_device : (a b : Option Drive) (p q : List ℕ) (m n : ℕ) → under_in b q ≡ under_in a p → m ≡ n → n < 2 ^ 64 - 1 → Fails blob_faults.Device (folder_shelf a p n) (folder_shelf b q (m + 1))
fails_device a b p q m n u e lt = (lt, shelf_same a b p q (m + 1) (n + 1) u (ap (λ k. k + 1) e))

fails_other : (a b : Option Drive) (p q : List ℕ) (m n : ℕ) (fault : BlobFault) → fault ≢ blob_faults.Worn → fault ≢ blob_faults.Device → under_in b q ≡ under_in a p → m ≡ n → n < 2 ^ 64 - 1 → Fails fault (folder_shelf a p n) (folder_shelf b q m)
fails_other a b p q m n blob_faults.NoMemory nw nd u e lt = (lt, shelf_same a b p q m n u e)
fails_other a b p q m n blob_faults.Device nw nd u e lt = elim (nd refl) [ ]
fails_other a b p q m n blob_faults.Worn nw nd u e lt = elim (nw refl) [ ]

pub finds_device : {A : Type 0} (a b : Option Drive) (p q path : List ℕ) (m n : ℕ) (result : Result (Option (Vec ℕ A)) BlobFault) → KnownBoth a b (λ old new. FindsFile old new path result) → q ≡ p → m ≡ n → n < 2 ^ 64 - 1 → Fails blob_faults.Device (folder_shelf a p n) (folder_shelf b q (m + 1))
finds_device a b p q path m n result h same e lt = fails_device a b p q m n (ap (under_in b) same ∙ finds_keeps a b p path result h) e lt

pub finds_other : {A : Type 0} (a b : Option Drive) (p q path : List ℕ) (m n : ℕ) (fault : BlobFault) (result : Result (Option (Vec ℕ A)) BlobFault) → KnownBoth a b (λ old new. FindsFile old new path result) → fault ≢ blob_faults.Worn → fault ≢ blob_faults.Device → q ≡ p → m ≡ n → n < 2 ^ 64 - 1 → Fails fault (folder_shelf a p n) (folder_shelf b q m)
finds_other a b p q path m n fault result h nw nd same e lt = fails_other a b p q m n fault nw nd (ap (under_in b) same ∙ finds_keeps a b p path result h) e lt

pub keeps_device : (a b : Option Drive) (p q name : List ℕ) (m n : ℕ) (mark : Mark) (bytes : List ℕ) (fault : BlobFault) → KnownBoth a b (λ old new. KeepsBlobs old new p name mark bytes fault) → q ≡ p → m ≡ n → n < 2 ^ 64 - 1 → Fails blob_faults.Device (folder_shelf a p n) (folder_shelf b q (m + 1))
keeps_device a b p q name m n mark bytes fault h same e lt = fails_device a b p q m n (ap (under_in b) same ∙ keeps_under a b p name mark bytes fault h) e lt

pub keeps_other : (a b : Option Drive) (p q name : List ℕ) (m n : ℕ) (mark : Mark) (bytes : List ℕ) (fault : BlobFault) → KnownBoth a b (λ old new. KeepsBlobs old new p name mark bytes fault) → fault ≢ blob_faults.Worn → fault ≢ blob_faults.Device → q ≡ p → m ≡ n → n < 2 ^ 64 - 1 → Fails fault (folder_shelf a p n) (folder_shelf b q m)
keeps_other a b p q name m n mark bytes fault h nw nd same e lt = fails_other a b p q m n fault nw nd (ap (under_in b) same ∙ keeps_under a b p name mark bytes fault h) e lt

-- what a blob that is replaced tells of the store
pub puts_shelf : (a b : Option Drive) (p q name : List ℕ) (m n : ℕ) (mark now : Mark) (bytes : List ℕ) → is_blob_name name ≡ true → KnownBoth a b (λ old new. PutsBlob old new p name mark now bytes) → q ≡ p → m ≡ n → n < 2 ^ 64 - 1 → Replaces (folder_shelf a p n) name bytes (folder_shelf b q m)
puts_shelf a b p q name m n mark now bytes is h same e lt = record {
  not_worn = lt;
  failures = e;
  there = ap (λ f. under_in b f name) same ∙ puts_there a b p name mark now bytes is h;
  others = λ other ne. ap (λ f. under_in b f other) same ∙ puts_others a b p name mark now bytes h other ne;
}

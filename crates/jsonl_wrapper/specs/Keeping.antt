-- What a draft of a table comes to, and what comes back where none is made.
use Rattle.std.specs.Prelude.{◌≡◌, ◌*◌, ◌++◌, ℕ, map, take, drop}
use Rattle.wrapper_parts.specs.Splices.{before_of, after_of, front_of, middle_of, back_of}
use Rattle.jsonl_wrapper.specs.declared.table.JsonTable.{JsonTable}
use Rattle.jsonl_wrapper.specs.declared.exchange.Exchange.{Exchange}
use Rattle.jsonl_wrapper.specs.declared.drafting.Parts.{Parts}
use Rattle.jsonl_wrapper.specs.declared.drafting.Splices.{Splices}
use Rattle.jsonl_wrapper.specs.declared.draft.JsonDraft.{JsonDraft}
use Rattle.jsonl_wrapper.specs.Lines.{moved}
use Rattle.jsonl_wrapper.specs.Drafts.{places_after}

-- the parts of a table with what an exchange brings in the place of its ranges, where a line has so many integers
pub record AreSpliced (p : Parts) (x : Exchange) (width : ℕ) (s : Splices) : Type 0 where
  pub content : before_of s.content ≡ p.content.items
  pub lines : before_of s.lines ≡ p.lines.items
  pub wholes : before_of s.wholes ≡ p.wholes.items
  pub image : after_of s.content ≡ take x.first p.content.items ++ x.made.image.content.items ++ drop x.end p.content.items
  pub front : front_of s.lines ≡ take x.from p.lines.items
  pub middle : middle_of s.lines ≡ x.made.image.lines.items
  pub back : back_of s.lines ≡ drop x.to p.lines.items
  pub kept : after_of s.wholes ≡ take (x.from * width) p.wholes.items ++ x.made.wholes.items ++ drop (x.to * width) p.wholes.items

-- a table of the same name, columns, bytes and places
pub record IsAgain (t u : JsonTable) : Type 0 where
  pub remote : u.remote ≡ t.remote
  pub fields : u.fields ≡ t.fields
  pub content : u.content.items ≡ t.content.items
  pub lines : u.lines.items ≡ t.lines.items

-- the table of a draft that is given up, and of one that is kept
pub record Leaves (d : JsonDraft) (u : JsonTable) : Type 0 where
  pub remote : u.remote ≡ d.remote
  pub fields : u.fields ≡ d.fields
  pub content : u.content.items ≡ before_of d.content
  pub lines : u.lines.items ≡ before_of d.lines

pub record Makes (d : JsonDraft) (u : JsonTable) : Type 0 where
  pub remote : u.remote ≡ d.remote
  pub fields : u.fields ≡ d.fields
  pub content : u.content.items ≡ after_of d.content
  pub lines : u.lines.items ≡ places_after d.lines d.end d.base

-- a draft of a table for an exchange
pub record IsDraft (t : JsonTable) (x : Exchange) (d : JsonDraft) : Type 0 where
  pub remote : d.remote ≡ t.remote
  pub fields : d.fields ≡ t.fields
  pub content : before_of d.content ≡ t.content.items
  pub lines : before_of d.lines ≡ t.lines.items
  pub image : after_of d.content ≡ take x.first t.content.items ++ x.made.image.content.items ++ drop x.end t.content.items
  pub places : places_after d.lines d.end d.base
      ≡ take x.from t.lines.items ++ x.made.image.lines.items ++ map (moved x.end x.base) (drop x.to t.lines.items)

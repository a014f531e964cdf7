use Rattle.std.proofs.Common.{◌≡◌, sym, ◌∙◌}
use Rattle.std.specs.IoError.{error_kind}
use Rattle.std.specs.declared.io.ErrorKind.TheVariants.{InvalidData}
use Rattle.med_value.specs.Limits.{line_limit}
use Rattle.session_wire.proofs.Codec.{ready_text, ready_none, ready_bad, ready_memory, ready_long}
use Rattle.session_wire.proofs.lines.next_line.Goals as goal

pub returns-in-Ok-Some-clause-found : goal.returns-in-Ok-Some-clause-found
returns-in-Ok-Some-clause-found c =
    ready_text line_limit _ _ c.in-Ok-Some.text _ _ c.requires (rw c.in-Ok-Some.field-0-is at c.in-Ok-Some.ensures.next)

pub returns-in-Ok-None-clause-found : goal.returns-in-Ok-None-clause-found
returns-in-Ok-None-clause-found c =
    ready_none line_limit _ _ _ _ c.requires (rw c.in-Ok-None.field-0-is at c.in-Ok-None.ensures.next) (rw c.in-Ok-None.field-0-is at c.in-Ok-None.ensures.settled)

pub returns-in-Err-MaxLineLengthExceeded-clause-found : goal.returns-in-Err-MaxLineLengthExceeded-clause-found
returns-in-Err-MaxLineLengthExceeded-clause-found c =
    ready_long line_limit _ _ _ _ c.requires (rw c.in-Err-MaxLineLengthExceeded.field-0-is at c.in-Err-MaxLineLengthExceeded.ensures.next)

pub returns-in-InvalidData-clause-found : goal.returns-in-InvalidData-clause-found
returns-in-InvalidData-clause-found c =
    let kind : error_kind c.in-Err-Io.error ≡ InvalidData = sym c.kind.ensures ∙ c.in-InvalidData.is in
    ready_bad line_limit _ _ c.in-Err-Io.error _ _ c.requires kind (rw c.in-Err-Io.field-0-is at c.in-Err-Io.ensures.next)

pub returns-in_default-clause-memory : goal.returns-in_default-clause-memory
returns-in_default-clause-memory c =
    ready_memory line_limit _ _ c.in-Err-Io.error _ _ c.requires (λ kind. c.in_default.not-InvalidData (c.kind.ensures ∙ kind)) (rw c.in-Err-Io.field-0-is at c.in-Err-Io.ensures.next)

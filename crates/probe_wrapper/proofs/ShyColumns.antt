-- The columns that the inner scan of a shy wrapper wants.
use Rattle.std.proofs.Common.{◌≡◌, ℕ, List, [], ap, ◌∙◌}
use Rattle.std.specs.FinMap as finmap
use Rattle.med_value.specs.Datum.{Tuple}
use Rattle.fdw_api.specs.Prelude.{Spec, plain_spec, BoxState, Begins}
use Rattle.probe_wrapper.specs.Shy.{Wants}
use Rattle.probe_wrapper.proofs.SeenScans.{put_same}

-- begun by a bare asking, a scan wants what that wants
pub begun_wanting : (s t : BoxState) (n : ℕ) (inner : Spec) (params : Tuple) (wanted : List ℕ) (q : ℕ) → inner ≡ plain_spec wanted [] → Begins s n inner params q t → Wants t q wanted
begun_wanting s t n inner params wanted q e b = record { scan = _; at = ap (λ z. finmap.get z.live q) b.ledger ∙ put_same s.ledger.live q _; wanted = ap (λ (z : Spec). z.wanted) e }

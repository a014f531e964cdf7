use Rattle.std.proofs.Common.{◌≡◌, bytes_eq, string_bytes}
use Rattle.std.specs.List.{list_any}
use Rattle.std.specs.Map.{values_of}
use Rattle.med_catalog.specs.declared.catalog.Server.{Server}
use Rattle.med_catalog.proofs.catalog.Catalog.is_taken.Given as goal

abbrev pub invariant-loop-server : goal.invariant-loop-server
invariant-loop-server l =
    list_any (λ (v : Server). bytes_eq l.source (string_bytes v.source)) (values_of l.self.servers.entries) ≡ list_any (λ (v : Server). bytes_eq l.source (string_bytes v.source)) l.server-iterator

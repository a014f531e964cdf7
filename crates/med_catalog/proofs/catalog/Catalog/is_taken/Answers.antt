use Rattle.std.proofs.Common.{◌≡◌, true, false, bytes_eq, string_bytes, refl, sym, ◌∙◌, arith}
use Rattle.std.proofs.lemmas.Grind.{common_steps}
use Rattle.std.specs.List.{list_any}
use Rattle.std.specs.Map.{values_of}
use Rattle.med_catalog.specs.declared.catalog.Server.{Server}
use Rattle.med_catalog.specs.Objects.{ServerObject}
use Rattle.med_catalog.specs.View.{server_of}
use Rattle.med_catalog.proofs.Values.{any_value}
use Rattle.med_catalog.proofs.catalog.Catalog.is_taken.Goals as goal

pub returns-then-eq : goal.returns-then-eq
returns-then-eq c =
    let by_values : true ≡ list_any (λ (v : Server). bytes_eq c.args.source.now (string_bytes v.source)) (values_of c.args.self.now.servers.entries) = grind (arith, common_steps) in
    by_values ∙ sym (any_value (λ e. server_of (string_bytes e.0) e.1) (λ (x : ServerObject). bytes_eq c.args.source.now x.source) (λ (v : Server). bytes_eq c.args.source.now (string_bytes v.source)) (λ e. refl) c.args.self.now.servers.entries)

pub returns : goal.returns
returns c =
    let by_values : false ≡ list_any (λ (v : Server). bytes_eq c.args.source.now (string_bytes v.source)) (values_of c.args.self.now.servers.entries) = grind (arith, common_steps) in
    by_values ∙ sym (any_value (λ e. server_of (string_bytes e.0) e.1) (λ (x : ServerObject). bytes_eq c.args.source.now x.source) (λ (v : Server). bytes_eq c.args.source.now (string_bytes v.source)) (λ e. refl) c.args.self.now.servers.entries)

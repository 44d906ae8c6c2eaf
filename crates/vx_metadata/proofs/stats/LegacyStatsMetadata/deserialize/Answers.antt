use Rattle.std.proofs.Common.{◌≡◌, ap, ◌∙◌, sym, arith}
use Rattle.vx_metadata.specs.Spelled.{legacy_bytes}
use Rattle.vx_metadata.specs.Reading.{legacy_in}
use Rattle.vx_metadata.specs.Views.{the_same}
use Rattle.vx_metadata.proofs.Answering.{is_found, is_only}
use Rattle.vx_metadata.proofs.StatLaws.{legacy_takes, legacy_again}
use Rattle.vx_metadata.proofs.stats.LegacyStatsMetadata.deserialize.Goals as goal

pub returns-clause-found : goal.returns-clause-found
returns-clause-found c = is_found the_same c.args.bytes.now (legacy_in c.args.bytes.now) (λ m. legacy_bytes m ≡ c.args.bytes.now) c.read.result (λ m e. legacy_takes c.args.bytes.now m (λ i. omega (arith, c.type_inv.bytes i)) e) c.read.ensures

pub returns-clause-only : goal.returns-clause-only
returns-clause-only c = λ zone_len stats small o e. is_only the_same c.args.bytes.now (legacy_in c.args.bytes.now) (zone_len, stats) c.read.result (ap legacy_in (sym e) ∙ legacy_again zone_len stats small o) c.read.ensures

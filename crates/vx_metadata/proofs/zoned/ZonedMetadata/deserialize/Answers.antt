use Rattle.std.proofs.Common.{◌≡◌, ap, ◌∙◌, sym, arith}
use Rattle.vx_metadata.specs.Values.{IsZoned}
use Rattle.vx_metadata.specs.Spelled.{zoned_bytes}
use Rattle.vx_metadata.specs.Reading.{zoned_in}
use Rattle.vx_metadata.specs.Views.{zoned}
use Rattle.vx_metadata.proofs.Answering.{is_found, is_only}
use Rattle.vx_metadata.proofs.SpecLaws.{zoned_takes, zoned_again}
use Rattle.vx_metadata.proofs.zoned.ZonedMetadata.deserialize.Goals as goal

pub returns-clause-found : goal.returns-clause-found
returns-clause-found c = is_found zoned c.args.bytes.now (zoned_in c.args.bytes.now) (λ z. IsZoned z × (zoned_bytes z ≡ c.args.bytes.now)) c.read.result (λ z e. zoned_takes c.args.bytes.now z (λ i. omega (arith, c.type_inv.bytes i)) e) c.read.ensures

pub returns-clause-only : goal.returns-clause-only
returns-clause-only c = λ z kind e. is_only zoned c.args.bytes.now (zoned_in c.args.bytes.now) z c.read.result (ap zoned_in (sym e) ∙ zoned_again z kind) c.read.ensures

use Rattle.std.proofs.Common.{◌≡◌, ap, ◌∙◌, sym}
use Rattle.vx_metadata.specs.Spelled.{list_bytes}
use Rattle.vx_metadata.specs.Reading.{list_in}
use Rattle.vx_metadata.specs.Views.{the_same}
use Rattle.vx_metadata.proofs.Answering.{is_found, is_only}
use Rattle.vx_metadata.proofs.SmallLaws.{list_takes, list_again}
use Rattle.vx_metadata.proofs.list.ListLayoutMetadata.deserialize.Goals as goal

pub returns-clause-found : goal.returns-clause-found
returns-clause-found c = is_found the_same c.args.bytes.now (list_in c.args.bytes.now) (λ m. list_bytes m ≡ c.args.bytes.now) c.read.result (λ m e. list_takes c.args.bytes.now m e) c.read.ensures

pub returns-clause-only : goal.returns-clause-only
returns-clause-only c = λ m e. is_only the_same c.args.bytes.now (list_in c.args.bytes.now) m c.read.result (ap list_in (sym e) ∙ list_again m) c.read.ensures

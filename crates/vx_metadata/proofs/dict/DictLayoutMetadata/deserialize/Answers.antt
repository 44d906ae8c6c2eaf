use Rattle.std.proofs.Common.{◌≡◌, ap, ◌∙◌, sym}
use Rattle.vx_metadata.specs.Spelled.{dict_bytes}
use Rattle.vx_metadata.specs.Reading.{dict_in}
use Rattle.vx_metadata.specs.Views.{the_same}
use Rattle.vx_metadata.proofs.Answering.{is_found, is_only}
use Rattle.vx_metadata.proofs.SmallLaws.{dict_takes, dict_again}
use Rattle.vx_metadata.proofs.dict.DictLayoutMetadata.deserialize.Goals as goal

pub returns-clause-found : goal.returns-clause-found
returns-clause-found c = is_found the_same c.args.bytes.now (dict_in c.args.bytes.now) (λ m. dict_bytes m ≡ c.args.bytes.now) c.read.result (λ m e. dict_takes c.args.bytes.now m e) c.read.ensures

pub returns-clause-only : goal.returns-clause-only
returns-clause-only c = λ m e. is_only the_same c.args.bytes.now (dict_in c.args.bytes.now) m c.read.result (ap dict_in (sym e) ∙ dict_again m) c.read.ensures

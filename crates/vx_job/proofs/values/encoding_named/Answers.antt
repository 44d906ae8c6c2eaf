use Rattle.vx_job.proofs.Names.{named_all}
use Rattle.vx_job.proofs.values.encoding_named.Goals as goal

pub returns : goal.returns
returns c = named_all c.from_id.result c.args.name.now c.from_id.ensures.found c.from_id.ensures.none

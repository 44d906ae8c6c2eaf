use Rattle.serde_json.specs.View.{view}
use Rattle.vx_job.proofs.JobSteps.{json_is}
use Rattle.vx_job.proofs.json.read_json.Goals as goal

pub returns-in-Ok-from_str : goal.returns-in-Ok-from_str
returns-in-Ok-from_str c = json_is c.args.bytes.now (view c.in-Ok-from_str.value) c.if-bytes-gt-LIMIT.false c.in-Ok.ensures.cases.1 (rw c.in-Ok.ensures.cases.0 at c.in-Ok-from_str.ensures.ok)

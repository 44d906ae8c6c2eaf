use Rattle.vx_metadata.proofs.Specs.{name_refused, name_read}
use Rattle.vx_metadata.proofs.fields.text_at.Goals as goal

pub returns-in_default : goal.returns-in_default
returns-in_default c = name_refused c.args.bytes.now c.in_ok-text.text.now c.in_ok-text.rest.now c.in_ok-text.ensures c.in_default.ensures.cases.0

pub returns : goal.returns
returns c = rw (c.in_ok-from_str.ensures, c.in-Ok.ensures.cases.0) (name_read c.args.bytes.now c.in_ok-text.text.now c.in_ok-text.rest.now c.in_ok-text.ensures c.in-Ok.ensures.cases.1)

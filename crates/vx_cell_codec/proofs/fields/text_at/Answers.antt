use Rattle.vx_cell_codec.proofs.Texts.{text_refused, text_read}
use Rattle.vx_cell_codec.proofs.fields.text_at.Goals as goal

pub returns-in_default : goal.returns-in_default
returns-in_default c = text_refused c.args.bytes.now c.in_ok-text.text.now c.in_ok-text.rest.now c.in_ok-text.ensures c.in_default.ensures.cases.0

pub returns : goal.returns
returns c = rw (c.in_ok-from_str.ensures, c.in-Ok.ensures.cases.0) (text_read c.args.bytes.now c.in_ok-text.text.now c.in_ok-text.rest.now c.in_ok-text.ensures c.in-Ok.ensures.cases.1)

use Rattle.vx_column_ids.proofs.Pointers.{parts_counted}
use Rattle.vx_column_ids.proofs.parts.column_parts.Goals as goal

pub returns-in-Ok-clause-count : goal.returns-in-Ok-clause-count
returns-in-Ok-clause-count c = parts_counted c.fill.new.parts.items c.fill.new.parts.len c.args.count c.args.batches c.fill.new.parts.ok.0 c.in-Ok.ensures.outsets

use Rattle.vx_named_tasks.proofs.NamedLaws.{named_sources_keep, onward_is_source, root_begins, column_begins}
use Rattle.vx_named_tasks.proofs.named_sources.Goals as goal

pub returns-clause-keep : goal.returns-clause-keep
returns-clause-keep c = named_sources_keep

pub returns-clause-onward : goal.returns-clause-onward
returns-clause-onward c = onward_is_source

pub returns-clause-root : goal.returns-clause-root
returns-clause-root c = root_begins

pub returns-clause-column : goal.returns-clause-column
returns-clause-column c = column_begins

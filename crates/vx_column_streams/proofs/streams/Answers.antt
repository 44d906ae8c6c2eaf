use Rattle.vx_column_streams.proofs.StreamLaws.{streams_are_columns}
use Rattle.vx_column_streams.proofs.streams.Goals as goal

pub returns : goal.returns
returns c = streams_are_columns

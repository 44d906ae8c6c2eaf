use Rattle.std.proofs.Common.{sym}
use Rattle.vx_chunk.proofs.Sound.{pieces_in-pieces_of}
use Rattle.vx_chunk.proofs.node.Chunk.into_fields.Goals as goal

pub returns-in-Struct-clause-fields : goal.returns-in-Struct-clause-fields
returns-in-Struct-clause-fields c = rw (← c.into_node-node.ensures.piece, c.in-Struct.is) (sym (pieces_in-pieces_of c.in-Struct.fields.items))

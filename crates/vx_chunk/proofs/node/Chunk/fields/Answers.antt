use Rattle.std.proofs.Common.{refl}
use Rattle.vx_chunk.proofs.Sound.{pieces_in-pieces_of}
use Rattle.vx_chunk.proofs.node.Chunk.fields.Goals as goal

pub returns-in-Struct-clause-fields : goal.returns-in-Struct-clause-fields
returns-in-Struct-clause-fields c = rw (c.in_ok-copy_all.ensures, ← c.self.view_is, c.in-Struct.is, pieces_in-pieces_of c.in-Struct.fields.items) refl

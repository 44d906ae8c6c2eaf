-- The encoding of a chunk.
use Rattle.vx_model.specs.declared.encoding.EncodingId.{EncodingId}
use Rattle.vx_model.specs.declared.encoding.EncodingId.TheVariants as encodings
use Rattle.vx_model.specs.ChunkData.{ChunkData, plain_piece, constant_piece, dict_piece, chunked_piece, list_piece, struct_piece, extension_piece}

abbrev pub encoding_of : ChunkData → EncodingId
encoding_of (plain_piece t cs) = encodings.Plain
encoding_of (constant_piece t c n) = encodings.Constant
encoding_of (dict_piece codes values) = encodings.Dict
encoding_of (chunked_piece t ps) = encodings.Chunked
encoding_of (list_piece t e offsets valid) = encodings.List
encoding_of (struct_piece t ps valid n) = encodings.Struct
encoding_of (extension_piece t p) = encodings.Extension

-- A chunk as contracts see it: one level of it, over what its parts are seen as.
use Rattle.vx_chunk.specs.declared.node.Node.{Node}
use Rattle.vx_chunk.specs.declared.node.Node.TheVariants.{Plain, Constant, Dict, Chunked, List, Struct, Extension}
use Rattle.vx_model.specs.TyView.{ty}
use Rattle.vx_model.specs.TreeView.{tree}
use Rattle.vx_column.specs.ColumnView.{column_cells}
use Rattle.vx_model.specs.ChunkData.{ChunkData, plain_piece, constant_piece, dict_piece, chunked_piece, list_piece, struct_piece, extension_piece, pieces_of}

abbrev pub node_piece : Node → ChunkData
node_piece (Plain dtype column) = plain_piece (ty dtype) (column_cells column)
node_piece (Constant dtype cell rows) = constant_piece (ty dtype) (tree cell) rows
node_piece (Dict codes values) = dict_piece codes.value values.value
node_piece (Chunked dtype parts) = chunked_piece (ty dtype) (pieces_of parts.items)
node_piece (List dtype elements offsets valid) = list_piece (ty dtype) elements.value offsets.items valid.items
node_piece (Struct dtype fields valid rows) = struct_piece (ty dtype) (pieces_of fields.items) valid.items rows
node_piece (Extension dtype storage) = extension_piece (ty dtype) storage.value

-- a chunk is seen as its piece
abbrev pub piece : ChunkData → ChunkData
piece p = p

-- What soundness says of a node that is of an encoding.
use Rattle.std.proofs.Common.{◌≡◌, ℕ, Bool, true, subst, Box}
use Rattle.std.specs.Global.{Vec, Global}
use Rattle.vx_model.specs.declared.dtype.DType.{DType}
use Rattle.vx_model.specs.declared.cell.Cell.{Cell}
use Rattle.vx_model.specs.TyView.{ty}
use Rattle.vx_model.specs.TreeView.{tree}
use Rattle.vx_model.specs.ChunkData.{ChunkData, pieces_of, is_sound}
use Rattle.vx_column.specs.declared.column.Column.{Column}
use Rattle.vx_column.specs.ColumnView.{column_cells}
use Rattle.vx_chunk.specs.declared.node.Node.{Node}
use Rattle.vx_chunk.specs.declared.node.Node.TheVariants as nd
use Rattle.vx_chunk.specs.ChunkView.{node_piece}
use Rattle.vx_chunk.proofs.Sound.{SoundPlain, of_plain, SoundConstant, of_constant, SoundDict, of_dict, SoundChunked, of_chunked, SoundList, of_list, SoundStruct, of_struct, SoundExtension, of_extension}

sound_at : (m n : Node) → m ≡ n → is_sound (node_piece m) ≡ true → is_sound (node_piece n) ≡ true
sound_at m n e h = subst (λ k. is_sound (node_piece k) ≡ true) e h

pub in_plain : (n : Node) (t : DType) (c : Column) → n ≡ nd.Plain t c → is_sound (node_piece n) ≡ true → SoundPlain (ty t) (column_cells c)
in_plain n t c e h = of_plain (ty t) (column_cells c) (sound_at n (nd.Plain t c) e h)

pub in_constant : (n : Node) (t : DType) (c : Cell) (rows : ℕ) → n ≡ nd.Constant t c rows → is_sound (node_piece n) ≡ true → SoundConstant (ty t) (tree c) rows
in_constant n t c rows e h = of_constant (ty t) (tree c) rows (sound_at n (nd.Constant t c rows) e h)

pub in_dict : (n : Node) (codes values : Box ChunkData Global) → n ≡ nd.Dict codes values → is_sound (node_piece n) ≡ true → SoundDict codes.value values.value
in_dict n codes values e h = of_dict codes.value values.value (sound_at n (nd.Dict codes values) e h)

pub in_chunked : (n : Node) (t : DType) (ps : Vec ChunkData) → n ≡ nd.Chunked t ps → is_sound (node_piece n) ≡ true → SoundChunked (ty t) (pieces_of ps.items)
in_chunked n t ps e h = of_chunked (ty t) (pieces_of ps.items) (sound_at n (nd.Chunked t ps) e h)

pub in_list : (n : Node) (t : DType) (es : Box ChunkData Global) (offsets : Vec ℕ) (valid : Vec Bool) → n ≡ nd.List t es offsets valid → is_sound (node_piece n) ≡ true → SoundList (ty t) es.value offsets.items valid.items
in_list n t es offsets valid e h = of_list (ty t) es.value offsets.items valid.items (sound_at n (nd.List t es offsets valid) e h)

pub in_struct : (n : Node) (t : DType) (ps : Vec ChunkData) (valid : Vec Bool) (rows : ℕ) → n ≡ nd.Struct t ps valid rows → is_sound (node_piece n) ≡ true → SoundStruct (ty t) (pieces_of ps.items) valid.items rows
in_struct n t ps valid rows e h = of_struct (ty t) (pieces_of ps.items) valid.items rows (sound_at n (nd.Struct t ps valid rows) e h)

pub in_extension : (n : Node) (t : DType) (s : Box ChunkData Global) → n ≡ nd.Extension t s → is_sound (node_piece n) ≡ true → SoundExtension (ty t) s.value
in_extension n t s e h = of_extension (ty t) s.value (sound_at n (nd.Extension t s) e h)

-- The image of rows.
use Rattle.std.specs.Prelude.{ℕ, ◌==◌, ◌&&◌, nat_lt, Bool, true, false, if◌then◌else◌, List, [], ◌∷◌, length}
use Rattle.vx_model.specs.declared.encoding.EncodingId.{EncodingId}
use Rattle.vx_model.specs.declared.encoding.EncodingId.TheVariants.{Constant}
use Rattle.vx_model.specs.Words.{all_by}
use Rattle.vx_model.specs.Ty.{Ty}
use Rattle.vx_model.specs.CellData.{CellData}
use Rattle.vx_model.specs.ChunkData.{ChunkData, plain_piece, cells}
use Rattle.vx_chunk.specs.Encoded.{encoding_of}
use Rattle.vx_rules.specs.Runs.{same_cell}
use Rattle.vx_compressor_spec.specs.TableImage.{tree_eq, chosen_image, coded_image}

-- the image of each chunk with these rows
abbrev pub image_of : ℕ → Ty → List CellData → ChunkData
image_of which t cs = if which == 1 then chosen_image t cs else if which == 2 then coded_image t cs else plain_piece t cs

abbrev pub is_constant : EncodingId → Bool
is_constant Constant = true
is_constant e = false

-- whether the chunk is held as one cell, so many times and at least once
abbrev pub constant_rows : ChunkData → Bool
constant_rows p = is_constant (encoding_of p) && nat_lt 0 (length (cells p))

-- whether there is a row and all cells are the same
abbrev pub are_alike : List CellData → Bool
are_alike [] = false
are_alike (c ∷ cs) = all_by (tree_eq c) cs

-- a dictionary finds the cell again; lists and structs it doesn't
abbrev pub is_plain : CellData → Bool
is_plain c = same_cell c c

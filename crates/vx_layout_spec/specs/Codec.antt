-- How chunks become segments, and back.
use Rattle.std.specs.Prelude.{ℕ, ◌^◌, ◌≡◌, ◌<◌, Bool, List, length, Option, Some, None}
use Rattle.vx_model.specs.declared.encoding.EncodingId.{EncodingId}
use Rattle.vx_model.specs.Ty.{Ty}
use Rattle.vx_model.specs.CellData.{CellData}
use Rattle.vx_model.specs.ChunkData.{ChunkData, piece_type, cells}
use Rattle.vx_layout_spec.specs.Real.{Whole}

-- the list is the context: the encodings that may be used, in their order
pub record Codec : Type 0 where
  -- a chunk's segment, padded or not; nothing where an encoding isn't in the context
  pub encode : List EncodingId → Bool → ChunkData → Option (List ℕ)
  -- the tree part of that segment
  pub tree_part : List EncodingId → Bool → ChunkData → List ℕ
  -- the first encoding, in pre-order, that isn't in the context
  pub refused : List EncodingId → ChunkData → Option EncodingId
  -- the cells of the chunk of the type that a segment spells
  pub decode : List EncodingId → Ty → List ℕ → Option (List CellData)

-- what holds of a codec at a context
pub record Lawful (c : Codec) (encodings : List EncodingId) : Type 0 where
  -- what was encoded, in fewer than 2^64 bytes, is decoded
  pub again : (padding : Bool) (p : ChunkData) (b : List ℕ) → Whole p → c.encode encodings padding p ≡ Some b → length b < 2 ^ 64
      → c.decode encodings (piece_type p) b ≡ Some (cells p)
  -- a chunk is encoded exactly where no encoding is refused
  pub encodes : (padding : Bool) (p : ChunkData) → c.refused encodings p ≡ None → (b : List ℕ) × (c.encode encodings padding p ≡ Some b)
  pub refuses : (padding : Bool) (p : ChunkData) (id : EncodingId) → c.refused encodings p ≡ Some id → c.encode encodings padding p ≡ None

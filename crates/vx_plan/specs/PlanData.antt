-- What is written of a stream: the data of a plan.
use Rattle.std.specs.Prelude.{ℕ, ◌+◌, Bool, true, List, [], ◌∷◌, ◌++◌, length, Option, Some, None}
use Rattle.vx_model.specs.declared.encoding.EncodingId.{EncodingId}
use Rattle.vx_model.specs.ValueData.{ValueData}
use Rattle.vx_model.specs.ChunkData.{ChunkData, cells, row_values}
use Rattle.vx_path.specs.Path.{Eof}
use Rattle.vx_layout_spec.specs.LayoutTree.{LayoutData}
use Rattle.vx_rules.specs.Stream.{Chunk, chunk_paths}
use Rattle.vx_layout_spec.specs.Codec.{Codec}

-- What a write is given beside its strategy and its schema.
pub record Setting : Type 0 where
  pub codec : Codec
  -- the encodings that segments may use, in their order
  pub encodings : List EncodingId
  -- the ids of the aggregates that zone tables may have; None: all
  pub allowed : Option (List (List ℕ))
  -- the compressor's image of a chunk, by the compressor's number
  pub image : ℕ → ChunkData → ChunkData
  -- the hash of filters
  pub hash : List ℕ → ℕ

-- What a stream may have wrong
pub data What : Type 0 where
  -- a struct node has another type
  not_struct : What
  -- two columns have this name
  duplicate_field : List ℕ → What
  -- a flat node was handed a second chunk
  many_chunks : What
  -- a list node's stream ended without a chunk
  empty_list : What
  -- a recording zoned node was handed a chunk of so many rows
  zone_cut : ℕ → What
  -- an aggregate of this id isn't allowed
  forbidden_aggregate : List ℕ → What
  -- the first encoding of a stored chunk that isn't listed
  forbidden_encoding : EncodingId → What

-- where in its node's stream a fault stands
pub data Place : Type 0 where
  at_start : Place
  -- at the chunk of this path
  at_chunk : List ℕ → Place
  at_end : Place

pub record Fault : Type 0 where
  pub what : What
  pub place : Place

abbrev pub fault : What → Place → Fault
fault w p = record { what = w; place = p }

-- a segment's path and its bytes
abbrev pub Pair : Type 0
Pair = List ℕ × List ℕ

-- What is written of a stream. The layout means something only where the stream has ended and has no fault.
pub record Plan : Type 0 where
  pub pairs : List Pair
  pub faults : List Fault
  -- segments are named by their paths
  pub layout : LayoutData (List ℕ)
  -- rows and elements up to each chunk, sizes, lengths of segments and indices of paths, which must fit 64 bits
  pub numbers : List ℕ
  -- the held sizes of all chunks that buffering nodes take, summed
  pub reserved : ℕ

-- a chunk and its path
abbrev pub Item : Type 0
Item = Chunk

-- What a node writes: from its mark, its stream, whether that has ended, and its eof path.
abbrev pub Node : Type 0
Node = Bool → List Item → Bool → Eof → Plan

abbrev pub paths : List Pair → List (List ℕ)
paths [] = []
paths (p ∷ ps) = p.0 ∷ paths ps

abbrev pub stored : List Pair → List (List ℕ)
stored [] = []
stored (p ∷ ps) = p.1 ∷ stored ps

abbrev pub places : List Item → List (List ℕ)
places is = chunk_paths is

-- what is counted of each chunk, of all of them
abbrev pub summed : (ChunkData → ℕ) → List Item → ℕ
summed count [] = 0
summed count (i ∷ is) = count i.1 + summed count is

-- and of those up to each chunk, behind n that were counted before
abbrev pub totals : (ChunkData → ℕ) → ℕ → List Item → List ℕ
totals count n [] = []
totals count n (i ∷ is) = (n + count i.1) ∷ totals count (n + count i.1) is

abbrev pub rows_in : ChunkData → ℕ
rows_in p = length (cells p)

-- rows of a stream
abbrev pub row_total : List Item → ℕ
row_total items = summed rows_in items

-- rows up to each chunk
abbrev pub row_totals : List Item → List ℕ
row_totals items = totals rows_in 0 items

-- the row values of a stream
abbrev pub stream_values : List Item → List ValueData
stream_values [] = []
stream_values (i ∷ is) = row_values i.1 ++ stream_values is

-- a layout, where the stream has ended without a fault
abbrev pub given : Bool → List Fault → LayoutData (List ℕ) → Option (LayoutData (List ℕ))
given true [] l = Some l
given ended fs l = None

abbrev pub planned : Bool → Plan → Option (LayoutData (List ℕ))
planned ended p = given ended p.faults p.layout

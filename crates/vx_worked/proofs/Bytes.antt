-- Plans of small streams with the bytes of their segments.
use Rattle.std.proofs.Common.{◌≡◌, ℕ, true, false, List, [], ◌∷◌, ◌++◌, length, map, Option, Some, None, refl}
use Rattle.std.specs.Prelude.{pos, replicate}
use Rattle.vx_model.specs.declared.ptype.PType.TheVariants.{I32, I64}
use Rattle.vx_model.specs.declared.encoding.EncodingId.{EncodingId}
use Rattle.vx_model.specs.declared.encoding.EncodingId.TheVariants as encodings
use Rattle.vx_model.specs.Ty.{primitive}
use Rattle.vx_model.specs.CellData.{int_cell}
use Rattle.vx_model.specs.ChunkData.{ChunkData, plain_piece, chunked_piece, pieces_of}
use Rattle.vx_layout_spec.specs.LayoutTree.{flat_layout}
use Rattle.vx_segment_writer.specs.Segment.{encode, tree_bytes, refused}
use Rattle.vx_plan.specs.PlanData.{Setting, Item, paths}
use Rattle.vx_plan.specs.GroupNode.{grouped_stream}
use Rattle.vx_strategy_spec.specs.StrategyData.{StrategyData, ZonedOptions, flat, chunked, grouped, into_one, zoned}
use Rattle.vx_plan.specs.SourcePlan.{source_plan, batch_items}
use Rattle.vx_plan.specs.Number.{segments, numbered}

every_encoding : List EncodingId
every_encoding = encodings.Plain ∷ encodings.Constant ∷ encodings.Dict ∷ encodings.Chunked ∷ encodings.List ∷ encodings.Struct ∷ encodings.Extension ∷ []

setting : Setting
setting = record {
  codec = record { encode = encode; tree_part = tree_bytes; refused = refused; decode = λ es t b. None };
  encodings = encodings.Plain ∷ encodings.Constant ∷ encodings.Dict ∷ encodings.Chunked ∷ encodings.List ∷ encodings.Struct ∷ encodings.Extension ∷ [];
  allowed = None;
  image = λ which p. p;
  hash = λ b. 0;
}

flats : StrategyData
flats = flat (record { padding = true; inline = false })

chunks : StrategyData
chunks = chunked (flat (record { padding = true; inline = false }))

i64s : List ℕ → ChunkData
i64s ns = plain_piece (primitive I64 false) (map (λ n. int_cell (pos n)) ns)

-- two batches: 53 and 45 bytes
two_lengths : map length (segments (source_plan setting chunks (primitive I64 false) false (i64s (1 ∷ 2 ∷ []) ∷ i64s (3 ∷ []) ∷ []) true)) ≡ 53 ∷ 45 ∷ []
unfolding setting chunks i64s
two_lengths = refl

-- one batch: its cell, the flag, index, rows, extra, buffers, the buffer's length, children, and the tree's length
one_segment : segments (source_plan setting chunks (primitive I64 false) false (i64s (7 ∷ []) ∷ []) true)
    ≡ ((7 ∷ replicate 7 0) ++ ((1 ∷ 0 ∷ 0 ∷ []) ++ ((1 ∷ replicate 7 0) ++ ((0 ∷ 1 ∷ []) ++ ((8 ∷ replicate 7 0) ++ (replicate 8 0 ++ (29 ∷ replicate 7 0))))))) ∷ []
unfolding setting chunks i64s
one_segment = refl

-- a plain node of one row: its place, rows, extra byte, one buffer of eight bytes, no children
one_node : List ℕ
one_node = (0 ∷ 0 ∷ []) ++ ((1 ∷ replicate 7 0) ++ ((0 ∷ 1 ∷ []) ++ ((8 ∷ replicate 7 0) ++ replicate 8 0)))

-- ---- kept in the layout: the flag, which tells whether the buffers are padded, and the node; not the tree's length

kept_tree : numbered (source_plan setting (flat (record { padding = true; inline = true })) (primitive I64 false) false (i64s (7 ∷ []) ∷ []) true) 0
    ≡ flat_layout (primitive I64 false) 1 every_encoding (Some (1 ∷ one_node)) 0
unfolding setting i64s every_encoding one_node
kept_tree = refl

kept_dense : numbered (source_plan setting (flat (record { padding = false; inline = true })) (primitive I64 false) false (i64s (7 ∷ []) ∷ []) true) 0
    ≡ flat_layout (primitive I64 false) 1 every_encoding (Some (0 ∷ one_node)) 0
unfolding setting i64s every_encoding one_node
kept_dense = refl

-- ---- collected: one chunk at the last one's path, in the chunked encoding, a segment of 101 bytes

both_batches : List ChunkData
both_batches = i64s (1 ∷ []) ∷ i64s (2 ∷ []) ∷ []

collected_paths : paths (source_plan setting (grouped into_one chunks) (primitive I64 false) false both_batches true).pairs ≡ (0 ∷ 1 ∷ []) ∷ []
unfolding setting chunks i64s both_batches
collected_paths = refl

collected_layout : numbered (source_plan setting (grouped into_one chunks) (primitive I64 false) false both_batches true) 0 ≡ flat_layout (primitive I64 false) 2 every_encoding None 0
unfolding setting chunks i64s both_batches every_encoding
collected_layout = refl

collected_chunk : map (λ (i : Item). i.1) (grouped_stream into_one (primitive I64 false) (batch_items 0 both_batches) true) ≡ chunked_piece (primitive I64 false) (pieces_of both_batches) ∷ []
unfolding i64s both_batches
collected_chunk = refl

-- both buffers, then the tree: the flag, the chunked node of two rows without buffers and with two children, two plain nodes of one row
collected_segment : segments (source_plan setting (grouped into_one chunks) (primitive I64 false) false both_batches true)
    ≡ (((1 ∷ replicate 7 0) ++ (2 ∷ replicate 7 0)) ++ ((1 ∷ []) ++ (((3 ∷ 0 ∷ []) ++ ((2 ∷ replicate 7 0) ++ ((0 ∷ 0 ∷ []) ++ (2 ∷ replicate 7 0)))) ++ (one_node ++ (one_node ++ (77 ∷ replicate 7 0)))))) ∷ []
unfolding setting chunks i64s both_batches one_node
collected_segment = refl

collected_length : map length (segments (source_plan setting (grouped into_one chunks) (primitive I64 false) false both_batches true)) ≡ 101 ∷ []
unfolding setting chunks i64s both_batches
collected_length = refl

-- ---- zones of three rows

zones_of_3 : ZonedOptions
zones_of_3 = record { zone_len = 3; aggregates = None; concurrency = 1 }

nine : List ChunkData
nine = plain_piece (primitive I32 false) (int_cell (pos 1) ∷ int_cell (pos 2) ∷ int_cell (pos 3) ∷ [])
    ∷ plain_piece (primitive I32 false) (int_cell (pos 4) ∷ int_cell (pos 5) ∷ int_cell (pos 6) ∷ [])
    ∷ plain_piece (primitive I32 false) (int_cell (pos 7) ∷ int_cell (pos 8) ∷ int_cell (pos 9) ∷ []) ∷ []

-- three chunks, and a table of 172 bytes
zoned_lengths : map length (segments (source_plan setting (zoned zones_of_3 chunks flats) (primitive I32 false) false nine true)) ≡ 49 ∷ 49 ∷ 49 ∷ 172 ∷ []
unfolding setting flats chunks zones_of_3 nine
zoned_lengths = refl

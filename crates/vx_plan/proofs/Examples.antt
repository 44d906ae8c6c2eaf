-- Plans of small streams, computed. The codec here spells a chunk by its count of rows.
use Rattle.std.proofs.Common.{◌≡◌, ℕ, true, false, [], ◌∷◌, length, Some, None, refl}
use Rattle.std.specs.Prelude.{pos}
use Rattle.vx_model.specs.declared.ptype.PType.TheVariants.{I64}
use Rattle.vx_model.specs.declared.encoding.EncodingId.TheVariants.{Plain}
use Rattle.vx_model.specs.Ty.{Ty, primitive}
use Rattle.vx_model.specs.CellData.{int_cell}
use Rattle.vx_model.specs.ChunkData.{ChunkData, plain_piece, cells}
use Rattle.vx_layout_spec.specs.LayoutTree.{chunked_layout, flat_layout}
use Rattle.vx_plan.specs.PlanData.{Setting, planned, fault, many_chunks, forbidden_encoding, at_chunk}
use Rattle.vx_strategy_spec.specs.StrategyData.{StrategyData, flat, chunked}
use Rattle.vx_plan.specs.SourcePlan.{source_plan}
use Rattle.vx_plan.specs.Number.{segments, numbered}

counting : Setting
counting = record {
  codec = record {
    encode = λ es padding p. Some (length (cells p) ∷ []);
    tree_part = λ es padding p. [];
    refused = λ es p. None;
    decode = λ es t b. None;
  };
  encodings = Plain ∷ [];
  allowed = None;
  image = λ which p. p;
  hash = λ b. 0;
}

-- the same, refusing each chunk
refusing : Setting
refusing = record {
  codec = record {
    encode = λ es padding p. None;
    tree_part = λ es padding p. [];
    refused = λ es p. Some Plain;
    decode = λ es t b. None;
  };
  encodings = [];
  allowed = None;
  image = λ which p. p;
  hash = λ b. 0;
}

i64 : Ty
i64 = primitive I64 false

number : ℕ → ChunkData
number n = plain_piece (primitive I64 false) (int_cell (pos n) ∷ [])

one_two : ChunkData
one_two = plain_piece (primitive I64 false) (int_cell (pos 1) ∷ int_cell (pos 2) ∷ [])

chunks : StrategyData
chunks = chunked (flat (record { padding = true; inline = false }))

flats : StrategyData
flats = flat (record { padding = true; inline = false })

-- batches of two rows and one: paths [0, 0] and [0, 1]
two_pairs : (source_plan counting chunks i64 false (one_two ∷ number 3 ∷ []) true).pairs ≡ (0 ∷ 0 ∷ [], 2 ∷ []) ∷ (0 ∷ 1 ∷ [], 1 ∷ []) ∷ []
unfolding counting i64 number one_two chunks
two_pairs = refl

two_segments : segments (source_plan counting chunks i64 false (one_two ∷ number 3 ∷ []) true) ≡ (2 ∷ []) ∷ (1 ∷ []) ∷ []
unfolding counting i64 number one_two chunks
two_segments = refl

-- a chunked layout of two flat ones
two_layout : numbered (source_plan counting chunks i64 false (one_two ∷ number 3 ∷ []) true) 0
    ≡ chunked_layout (primitive I64 false) 3 (flat_layout (primitive I64 false) 2 (Plain ∷ []) None 0 ∷ flat_layout (primitive I64 false) 1 (Plain ∷ []) None 1 ∷ [])
unfolding counting i64 number one_two chunks
two_layout = refl

-- no batch: a chunked layout of no rows, no segment
no_batch : numbered (source_plan counting chunks i64 false [] true) 0 ≡ chunked_layout (primitive I64 false) 0 []
unfolding counting i64 chunks
no_batch = refl

no_batch_pairs : (source_plan counting chunks i64 false [] true).pairs ≡ []
unfolding counting i64 chunks
no_batch_pairs = refl

-- one batch: its flat layout itself
one_batch : numbered (source_plan counting chunks i64 false (number 7 ∷ []) true) 5 ≡ flat_layout (primitive I64 false) 1 (Plain ∷ []) None 5
unfolding counting i64 number chunks
one_batch = refl

-- a flat node with two batches
many : (source_plan counting flats i64 false (number 1 ∷ number 2 ∷ []) true).faults ≡ fault many_chunks (at_chunk (0 ∷ 1 ∷ [])) ∷ []
unfolding counting i64 number flats
many = refl

many_pairs : (source_plan counting flats i64 false (number 1 ∷ number 2 ∷ []) true).pairs ≡ []
unfolding counting i64 number flats
many_pairs = refl

-- an encoding that isn't listed
not_listed : (source_plan refusing chunks i64 false (number 1 ∷ []) true).faults ≡ fault (forbidden_encoding Plain) (at_chunk (0 ∷ 0 ∷ [])) ∷ []
unfolding refusing i64 number chunks
not_listed = refl

no_layout : planned true (source_plan refusing chunks i64 false (number 1 ∷ []) true) ≡ None
unfolding refusing i64 number chunks
no_layout = refl

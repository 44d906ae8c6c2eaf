-- What rules that react send of small streams, computed: empty chunks first, between and last, open streams, and limits.
use Rattle.std.proofs.Common.{◌≡◌, ℕ, Bool, true, false, List, [], ◌∷◌, map, Some, None, refl}
use Rattle.std.specs.Prelude.{pos}
use Rattle.vx_model.specs.declared.ptype.PType.TheVariants.{U8, U16, I64}
use Rattle.vx_model.specs.Ty.{Ty, Tys, boolean, primitive, utf8, list, struct, no_fields, field}
use Rattle.vx_model.specs.CellData.{CellData, null_cell, bool_cell, int_cell, text_cell, list_cell, struct_cell, trees_of}
use Rattle.vx_model.specs.ChunkData.{ChunkData, plain_piece, list_piece, struct_piece, no_pieces, part, chunked_piece, pieces_of}
use Rattle.vx_rules.specs.Stream.{Chunk}
use Rattle.vx_rules.specs.Blocks.{BlockOptions, blocks}
use Rattle.vx_rules.specs.Flushes.{flushes}
use Rattle.vx_rules.specs.Columns.{offset_type}
use Rattle.vx_rules.specs.Runs.{DictOptions}
use Rattle.vx_react.specs.declared.place.Place.{Place}
use Rattle.vx_react.specs.declared.place.Place.TheVariants.{Child, Column, Codes, Values}
use Rattle.vx_react.specs.Reactor.{Sent, sends, reactions, reacting, collector}
use Rattle.vx_react.specs.Cutter.{cutter}
use Rattle.vx_react.specs.Splitter.{list_splitter, struct_splitter}

abbrev i64 : Ty
i64 = primitive I64 false

abbrev number : ℕ → CellData
number k = int_cell (pos k)

abbrev numbers : List ℕ → ChunkData
numbers ks = plain_piece i64 (map number ks)

-- a source's batches
abbrev batch : ℕ → ChunkData → Chunk
batch i p = (0 ∷ i ∷ [], p)

-- what batch i triggers at this rank
abbrev sent : Place → ℕ → ℕ → ChunkData → Sent
sent place i r p = (place, (0 ∷ i ∷ r ∷ [], p))

-- ---- blocks

abbrev by_two : BlockOptions
by_two = record { minimum = 0; multiple = 2; target = None; canonicalize = true }

abbrev by_target : BlockOptions
by_target = record { minimum = 0; multiple = 8192; target = Some 20; canonicalize = true }

abbrev by_minimum : BlockOptions
by_minimum = record { minimum = 24; multiple = 2; target = None; canonicalize = true }

-- two blocks leave at one chunk, and the rest at the last one, which has no row
cut_blocks : reactions (reacting (blocks by_two i64)) [] (batch 0 (numbers (1 ∷ [])) ∷ batch 1 (numbers (2 ∷ 3 ∷ 4 ∷ 5 ∷ [])) ∷ batch 2 (numbers []) ∷ []) true
    ≡ sent Child 1 0 (numbers (1 ∷ 2 ∷ [])) ∷ sent Child 1 1 (numbers (3 ∷ 4 ∷ [])) ∷ sent Child 2 0 (numbers (5 ∷ [])) ∷ []
cut_blocks = refl

-- 20 bytes are three rows of eight
target_blocks : reactions (reacting (blocks by_target i64)) [] (batch 0 (numbers (1 ∷ 2 ∷ [])) ∷ batch 1 (numbers (3 ∷ 4 ∷ [])) ∷ batch 2 (numbers []) ∷ []) true
    ≡ sent Child 1 0 (numbers (1 ∷ 2 ∷ 3 ∷ [])) ∷ sent Child 2 0 (numbers (4 ∷ [])) ∷ []
target_blocks = refl

-- 24 bytes are there at the second check point
minimum_blocks : reactions (reacting (blocks by_minimum i64)) [] (batch 0 (numbers (1 ∷ 2 ∷ 3 ∷ 4 ∷ 5 ∷ [])) ∷ []) true
    ≡ sent Child 0 0 (numbers (1 ∷ 2 ∷ 3 ∷ 4 ∷ [])) ∷ sent Child 0 1 (numbers (5 ∷ [])) ∷ []
minimum_blocks = refl

no_blocks : reactions (reacting (blocks by_two i64)) [] (batch 0 (numbers []) ∷ batch 1 (numbers []) ∷ []) true ≡ []
no_blocks = refl

-- ---- buffers

abbrev ones : List Chunk
ones = batch 0 (numbers (1 ∷ [])) ∷ batch 1 (numbers (2 ∷ [])) ∷ batch 2 (numbers (3 ∷ [])) ∷ batch 3 (numbers (4 ∷ [])) ∷ []

-- at 16 bytes chunks leave until 8 are held; at the last chunk all do
buffered : reactions (reacting (flushes 8)) [] ones true
    ≡ sent Child 1 0 (numbers (1 ∷ [])) ∷ sent Child 2 0 (numbers (2 ∷ [])) ∷ sent Child 3 0 (numbers (3 ∷ [])) ∷ sent Child 3 1 (numbers (4 ∷ [])) ∷ []
buffered = refl

buffered_open : reactions (reacting (flushes 8)) [] ones false ≡ sent Child 1 0 (numbers (1 ∷ [])) ∷ sent Child 2 0 (numbers (2 ∷ [])) ∷ []
buffered_open = refl

-- of a size of 0 all leave but a chunk without bytes, which waits for the last
buffered_empty : reactions (reacting (flushes 0)) [] (batch 0 (numbers (1 ∷ [])) ∷ batch 1 (numbers []) ∷ batch 2 (numbers (3 ∷ [])) ∷ []) true
    ≡ sent Child 0 0 (numbers (1 ∷ [])) ∷ sent Child 2 0 (numbers []) ∷ sent Child 2 1 (numbers (3 ∷ [])) ∷ []
buffered_empty = refl

-- ---- collecting

collected_one : (collector i64).gives [] (numbers (1 ∷ [])) true ≡ (Child, chunked_piece i64 (pieces_of (numbers (1 ∷ []) ∷ []))) ∷ []
collected_one = refl

-- ---- runs

abbrev limits : ℕ → ℕ → DictOptions
limits bytes len = record { max_bytes = bytes; max_len = len; probe = 0 }

abbrev narrow : List ℕ → ChunkData
narrow ks = plain_piece (primitive U8 false) (map number ks)

abbrev letters : List ℕ → ChunkData
letters cs = plain_piece (utf8 false) (map (λ c. text_cell (c ∷ [])) cs)

abbrev two_batches : List Chunk
two_batches = batch 0 (letters (97 ∷ 98 ∷ [])) ∷ batch 1 (letters (99 ∷ [])) ∷ []

-- the second run begins with the second chunk, where the first has no row left
two_runs : reactions (cutter (limits 1000 2) (utf8 false)) (cutter (limits 1000 2) (utf8 false)).start two_batches true
    ≡ sent (Codes 0) 0 0 (narrow (0 ∷ 1 ∷ [])) ∷ sent (Codes 0) 1 0 (narrow []) ∷ sent (Values 0) 1 1 (letters (97 ∷ 98 ∷ []))
    ∷ sent (Codes 1) 1 2 (narrow (0 ∷ [])) ∷ sent (Values 1) 1 3 (letters (99 ∷ [])) ∷ []
two_runs = refl

two_runs_open : reactions (cutter (limits 1000 2) (utf8 false)) (cutter (limits 1000 2) (utf8 false)).start two_batches false ≡ sent (Codes 0) 0 0 (narrow (0 ∷ 1 ∷ [])) ∷ []
two_runs_open = refl

-- chunks without rows are one run
empty_run : reactions (cutter (limits 1000 2) (utf8 false)) (cutter (limits 1000 2) (utf8 false)).start (batch 0 (letters []) ∷ batch 1 (letters []) ∷ []) true
    ≡ sent (Codes 0) 0 0 (narrow []) ∷ sent (Codes 0) 1 0 (narrow []) ∷ sent (Values 0) 1 1 (letters []) ∷ []
empty_run = refl

-- a letter costs 17 bytes, so each is a run of its own
dear_runs : reactions (cutter (limits 32 100) (utf8 false)) (cutter (limits 32 100) (utf8 false)).start (batch 0 (letters (97 ∷ 98 ∷ 97 ∷ 97 ∷ [])) ∷ []) true
    ≡ sent (Codes 0) 0 0 (narrow (0 ∷ [])) ∷ sent (Values 0) 0 1 (letters (97 ∷ [])) ∷ sent (Codes 1) 0 2 (narrow (0 ∷ [])) ∷ sent (Values 1) 0 3 (letters (98 ∷ []))
    ∷ sent (Codes 2) 0 4 (narrow (0 ∷ 0 ∷ [])) ∷ sent (Values 2) 0 5 (letters (97 ∷ [])) ∷ []
dear_runs = refl

-- without a length for two, one goes on over chunks
single_runs : reactions (cutter (limits 1000 0) i64) (cutter (limits 1000 0) i64).start (batch 0 (numbers (7 ∷ [])) ∷ batch 1 (numbers (7 ∷ 8 ∷ [])) ∷ []) true
    ≡ sent (Codes 0) 0 0 (narrow (0 ∷ [])) ∷ sent (Codes 0) 1 0 (narrow (0 ∷ [])) ∷ sent (Values 0) 1 1 (numbers (7 ∷ []))
    ∷ sent (Codes 1) 1 2 (narrow (0 ∷ [])) ∷ sent (Values 1) 1 3 (numbers (8 ∷ [])) ∷ []
single_runs = refl

-- null is a cell as others
null_runs : reactions (cutter (limits 1000 2) (utf8 true)) (cutter (limits 1000 2) (utf8 true)).start (batch 0 (plain_piece (utf8 true) (null_cell ∷ text_cell (97 ∷ []) ∷ null_cell ∷ [])) ∷ []) true
    ≡ sent (Codes 0) 0 0 (narrow (0 ∷ 1 ∷ 0 ∷ [])) ∷ sent (Values 0) 0 1 (plain_piece (utf8 true) (null_cell ∷ text_cell (97 ∷ []) ∷ [])) ∷ []
null_runs = refl

-- codes have 8 bits up to a length of 255, whatever the run
narrow_codes : reactions (cutter (limits 1000 255) i64) (cutter (limits 1000 255) i64).start (batch 0 (numbers (7 ∷ [])) ∷ []) true
    ≡ sent (Codes 0) 0 0 (narrow (0 ∷ [])) ∷ sent (Values 0) 0 1 (numbers (7 ∷ [])) ∷ []
narrow_codes = refl

wide_codes : reactions (cutter (limits 1000 256) i64) (cutter (limits 1000 256) i64).start (batch 0 (numbers (7 ∷ [])) ∷ []) true
    ≡ sent (Codes 0) 0 0 (plain_piece (primitive U16 false) (number 0 ∷ [])) ∷ sent (Values 0) 0 1 (numbers (7 ∷ [])) ∷ []
wide_codes = refl

-- ---- columns of lists

abbrev offsets : List ℕ → ChunkData
offsets ks = plain_piece offset_type (map number ks)

abbrev flags : List Bool → ChunkData
flags bs = plain_piece (boolean false) (map bool_cell bs)

-- elements are cut to the offsets; a chunk without rows gives no offset, but for the first
offsets_run_on : sends (list_splitter i64 false) (list_splitter i64 false).start
    (batch 0 (list_piece (list i64 false) (numbers (9 ∷ 1 ∷ 2 ∷ 8 ∷ [])) (1 ∷ 3 ∷ 3 ∷ []) []) ∷ batch 1 (plain_piece (list i64 false) [])
    ∷ batch 2 (list_piece (list i64 false) (numbers (3 ∷ [])) (0 ∷ 1 ∷ []) []) ∷ [])
    ≡ sent (Column 0) 0 0 (numbers (1 ∷ 2 ∷ [])) ∷ sent (Column 1) 0 1 (offsets (0 ∷ 2 ∷ 2 ∷ [])) ∷ sent (Column 0) 1 0 (numbers []) ∷ sent (Column 1) 1 1 (offsets [])
    ∷ sent (Column 0) 2 0 (numbers (3 ∷ [])) ∷ sent (Column 1) 2 1 (offsets (3 ∷ [])) ∷ []
offsets_run_on = refl

-- an invalid list's elements go on too
empty_first : sends (list_splitter i64 true) (list_splitter i64 true).start
    (batch 0 (plain_piece (list i64 true) []) ∷ batch 1 (plain_piece (list i64 true) (list_cell false (trees_of (number 7 ∷ [])) ∷ [])) ∷ [])
    ≡ sent (Column 0) 0 0 (numbers []) ∷ sent (Column 1) 0 1 (offsets (0 ∷ [])) ∷ sent (Column 2) 0 2 (flags [])
    ∷ sent (Column 0) 1 0 (numbers (7 ∷ [])) ∷ sent (Column 1) 1 1 (offsets (1 ∷ [])) ∷ sent (Column 2) 1 2 (flags (false ∷ [])) ∷ []
empty_first = refl

-- ---- columns of structs

abbrev two_fields : Tys
two_fields = field (120 ∷ []) i64 (field (121 ∷ []) (utf8 false) no_fields)

validity_first : sends (struct_splitter two_fields true) tt (batch 0 (struct_piece (struct two_fields true) (part (numbers (5 ∷ [])) (part (letters (97 ∷ [])) no_pieces)) (false ∷ []) 1) ∷ [])
    ≡ sent (Column 0) 0 0 (flags (false ∷ [])) ∷ sent (Column 1) 0 1 (numbers (5 ∷ [])) ∷ sent (Column 2) 0 2 (letters (97 ∷ [])) ∷ []
validity_first = refl

no_columns : sends (struct_splitter no_fields false) tt (batch 0 (plain_piece (struct no_fields false) (struct_cell true (trees_of []) ∷ [])) ∷ []) ≡ []
no_columns = refl

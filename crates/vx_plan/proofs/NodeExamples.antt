-- Plans of each kind of node on small streams, computed. The codec here spells a chunk by its count of rows.
use Rattle.std.proofs.Common.{◌≡◌, ℕ, true, false, List, [], ◌∷◌, length, map, Option, Some, None, refl, Bool}
use Rattle.std.specs.Prelude.{pos, codes, replicate}
use Rattle.vx_model.specs.declared.ptype.PType.TheVariants.{U8, U64, I32, I64}
use Rattle.vx_model.specs.declared.encoding.EncodingId.TheVariants.{Plain}
use Rattle.vx_model.specs.Ty.{Ty, primitive, utf8, struct, list, field, no_fields}
use Rattle.vx_model.specs.CellData.{CellData, int_cell, text_cell, struct_cell, trees_of, list_cell}
use Rattle.vx_model.specs.ValueData.{ValueData, int_value, list_value, vals_of}
use Rattle.vx_model.specs.ChunkData.{ChunkData, plain_piece, dict_piece, list_piece, cells}
use Rattle.vx_layout_spec.specs.LayoutTree.{LayoutData, chunked_layout, flat_layout, struct_layout, dict_layout, zoned_layout, kind_id, layout_kind, children_of}
use Rattle.vx_layout_spec.specs.Rows.{rows}
use Rattle.vx_aggregate_spec.specs.Aggregate.{maximum, minimum, null_count, spec}
use Rattle.vx_rules.specs.Blocks.{BlockOptions, block_len}
use Rattle.vx_rules.specs.Runs.{DictOptions}
use Rattle.vx_plan.specs.PlanData.{Setting, paths, fault, many_chunks, empty_list, not_struct, duplicate_field, zone_cut, forbidden_aggregate, at_chunk, at_start, at_end}
use Rattle.vx_strategy_spec.specs.StrategyData.{StrategyData, ZonedOptions, flat, chunked, grouped, by_blocks, by_bytes, structured, listed, coded, zoned, tabled, no_ways, way_at, no_wraps, into_one}
use Rattle.vx_plan.specs.SourcePlan.{source_plan}
use Rattle.vx_plan.specs.Number.{sorted, numbered, segment_at, segments}

-- a compressor whose image 2 is a dictionary
setting : Setting
setting = record {
  codec = record {
    encode = λ es padding p. Some (length (cells p) ∷ []);
    tree_part = λ es padding p. [];
    refused = λ es p. None;
    decode = λ es t b. None;
  };
  encodings = Plain ∷ [];
  allowed = None;
  image = λ which p. dict_piece p p;
  hash = λ b. 0;
}

flats : StrategyData
flats = flat (record { padding = true; inline = false })

chunks : StrategyData
chunks = chunked (flat (record { padding = true; inline = false }))

u8 : Ty
u8 = primitive U8 false

ints : ℕ → ChunkData
ints n = plain_piece (primitive U8 false) (replicate n (int_cell (pos 1)))

-- ---- columns of structs: a has segments 0 and 2, b has 1 and 3

pair_type : Ty
pair_type = struct (field (codes "a") (primitive I64 false) (field (codes "b") (primitive I64 false) no_fields)) false

pairs_of : ℕ → ChunkData
pairs_of n = plain_piece pair_type (replicate n (struct_cell true (trees_of (int_cell (pos 1) ∷ int_cell (pos 2) ∷ []))))

struct_paths : paths (sorted (source_plan setting (structured flats chunks no_ways) pair_type false (pairs_of 2 ∷ pairs_of 1 ∷ []) true).pairs)
    ≡ (0 ∷ 0 ∷ 0 ∷ []) ∷ (0 ∷ 0 ∷ 1 ∷ []) ∷ (0 ∷ 1 ∷ 0 ∷ []) ∷ (0 ∷ 1 ∷ 1 ∷ []) ∷ []
unfolding setting flats chunks pair_type pairs_of
struct_paths = refl

i64_flat : ℕ → ℕ → LayoutData ℕ
i64_flat n number = flat_layout (primitive I64 false) n (Plain ∷ []) None number

struct_numbers : numbered (source_plan setting (structured flats chunks no_ways) pair_type false (pairs_of 2 ∷ pairs_of 1 ∷ []) true) 0
    ≡ struct_layout pair_type 3 (chunked_layout (primitive I64 false) 3 (i64_flat 2 0 ∷ i64_flat 1 2 ∷ []) ∷ chunked_layout (primitive I64 false) 3 (i64_flat 2 1 ∷ i64_flat 1 3 ∷ []) ∷ [])
unfolding setting flats chunks pair_type pairs_of i64_flat
struct_numbers = refl

-- flat columns take one chunk
struct_flats : (source_plan setting (structured flats flats no_ways) pair_type false (pairs_of 2 ∷ pairs_of 1 ∷ []) true).faults
    ≡ fault many_chunks (at_chunk (0 ∷ 1 ∷ 0 ∷ [])) ∷ fault many_chunks (at_chunk (0 ∷ 1 ∷ 1 ∷ [])) ∷ []
unfolding setting flats chunks pair_type pairs_of
struct_flats = refl

struct_no_pairs : (source_plan setting (structured flats flats no_ways) pair_type false (pairs_of 2 ∷ pairs_of 1 ∷ []) true).pairs ≡ []
unfolding setting flats chunks pair_type pairs_of
struct_no_pairs = refl

struct_on_integers : (source_plan setting (structured flats flats no_ways) u8 false [] true).faults ≡ fault not_struct at_start ∷ []
unfolding setting flats u8
struct_on_integers = refl

twice_a : (source_plan setting (structured flats flats no_ways) (struct (field (codes "a") (primitive U8 false) (field (codes "a") (primitive U8 false) no_fields)) false) false [] true).faults
    ≡ fault (duplicate_field (codes "a")) at_start ∷ []
unfolding setting flats
twice_a = refl

-- ---- buffering: 8, 8, 8 and 1 bytes under size 10

buffered_paths : paths (sorted (source_plan setting (grouped (by_bytes 10) chunks) u8 false (ints 8 ∷ ints 8 ∷ ints 8 ∷ ints 1 ∷ []) true).pairs)
    ≡ (0 ∷ 2 ∷ 0 ∷ []) ∷ (0 ∷ 2 ∷ 1 ∷ []) ∷ (0 ∷ 3 ∷ 0 ∷ []) ∷ (0 ∷ 3 ∷ 1 ∷ []) ∷ []
unfolding setting flats chunks u8 ints
buffered_paths = refl

-- all of them are reserved
buffered_reserved : (source_plan setting (grouped (by_bytes 10) chunks) u8 false (ints 8 ∷ ints 8 ∷ ints 8 ∷ ints 1 ∷ []) true).reserved ≡ 25
unfolding setting flats chunks u8 ints
buffered_reserved = refl

-- ---- collecting: one chunk at the last one's path

collected_pairs : (source_plan setting (grouped into_one chunks) u8 false (ints 3 ∷ ints 4 ∷ []) true).pairs ≡ (0 ∷ 1 ∷ [], 7 ∷ []) ∷ []
unfolding setting flats chunks u8 ints
collected_pairs = refl

collected_nothing : (source_plan setting (grouped into_one chunks) u8 false [] true).pairs ≡ []
unfolding setting flats chunks u8 ints
collected_nothing = refl

collected_open : (source_plan setting (grouped into_one chunks) u8 false (ints 3 ∷ ints 4 ∷ []) false).pairs ≡ []
unfolding setting flats chunks u8 ints
collected_open = refl

-- ---- blocks of 4 rows

blocks_of : ℕ → BlockOptions
blocks_of least = record { minimum = least; multiple = 4; target = None; canonicalize = false }

-- of at least 6 bytes, from 3 and 4 rows: 4 and 3
block_pairs : (source_plan setting (grouped (by_blocks (blocks_of 6)) chunks) u8 false (ints 3 ∷ ints 4 ∷ []) true).pairs ≡ (0 ∷ 1 ∷ 0 ∷ [], 4 ∷ []) ∷ (0 ∷ 1 ∷ 1 ∷ [], 3 ∷ []) ∷ []
unfolding setting flats chunks u8 ints blocks_of
block_pairs = refl

-- of at least 10 bytes, from 3 and 8 rows: 8 and 3
larger_pairs : (source_plan setting (grouped (by_blocks (blocks_of 10)) chunks) u8 false (ints 3 ∷ ints 8 ∷ []) true).pairs ≡ (0 ∷ 1 ∷ 0 ∷ [], 8 ∷ []) ∷ (0 ∷ 1 ∷ 1 ∷ [], 3 ∷ []) ∷ []
unfolding setting flats chunks u8 ints blocks_of
larger_pairs = refl

aimed_at : Option ℕ → BlockOptions
aimed_at target = record { minimum = 0; multiple = 8192; target = target; canonicalize = false }

aimed_4096 : block_len (aimed_at (Some 4096)) (primitive I64 false) ≡ 512
unfolding aimed_at
aimed_4096 = refl

aimed_nothing : block_len (aimed_at (Some 0)) (primitive I64 false) ≡ 1
unfolding aimed_at
aimed_nothing = refl

aimed_texts : block_len (aimed_at (Some 4096)) (utf8 false) ≡ 8192
unfolding aimed_at
aimed_texts = refl

-- ---- dictionaries

texts : List (List ℕ) → ChunkData
texts ts = plain_piece (utf8 false) (map text_cell ts)

bytes_64 : DictOptions
bytes_64 = record { max_bytes = 64; max_len = 100; probe = 2 }

-- three runs, since 49 letters with another text cost more than 64
three_runs : paths (source_plan setting (coded bytes_64 chunks flats flats) (utf8 false) false (texts (codes "a" ∷ replicate 49 120 ∷ codes "b" ∷ []) ∷ []) true).pairs
    ≡ (0 ∷ 0 ∷ 0 ∷ []) ∷ (0 ∷ 0 ∷ 1 ∷ []) ∷ (0 ∷ 0 ∷ 2 ∷ []) ∷ (0 ∷ 0 ∷ 3 ∷ []) ∷ (0 ∷ 0 ∷ 4 ∷ []) ∷ (0 ∷ 0 ∷ 5 ∷ []) ∷ []
unfolding setting flats chunks texts bytes_64
three_runs = refl

text_flat : ℕ → ℕ → LayoutData ℕ
text_flat n number = flat_layout (utf8 false) n (Plain ∷ []) None number

code_flat : ℕ → ℕ → LayoutData ℕ
code_flat n number = flat_layout (primitive U8 false) n (Plain ∷ []) None number

three_dicts : numbered (source_plan setting (coded bytes_64 chunks flats flats) (utf8 false) false (texts (codes "a" ∷ replicate 49 120 ∷ codes "b" ∷ []) ∷ []) true) 0
    ≡ chunked_layout (utf8 false) 3 (dict_layout (utf8 false) 1 (text_flat 1 1) (code_flat 1 0) ∷ dict_layout (utf8 false) 1 (text_flat 1 3) (code_flat 1 2) ∷ dict_layout (utf8 false) 1 (text_flat 1 5) (code_flat 1 4) ∷ [])
unfolding setting flats chunks texts bytes_64 text_flat code_flat
three_dicts = refl

two_cells : DictOptions
two_cells = record { max_bytes = 1048576; max_len = 2; probe = 2 }

-- the first run ends in the second chunk, where it has no codes
run_pairs : (source_plan setting (coded two_cells chunks flats flats) (utf8 false) false (texts (codes "a" ∷ codes "b" ∷ []) ∷ texts (codes "c" ∷ []) ∷ []) true).pairs
    ≡ (0 ∷ 0 ∷ 0 ∷ [], 2 ∷ []) ∷ (0 ∷ 1 ∷ 0 ∷ [], 0 ∷ []) ∷ (0 ∷ 1 ∷ 1 ∷ [], 2 ∷ []) ∷ (0 ∷ 1 ∷ 2 ∷ [], 1 ∷ []) ∷ (0 ∷ 1 ∷ 3 ∷ [], 1 ∷ []) ∷ []
unfolding setting flats chunks texts two_cells
run_pairs = refl

run_layout : numbered (source_plan setting (coded two_cells chunks flats flats) (utf8 false) false (texts (codes "a" ∷ codes "b" ∷ []) ∷ texts (codes "c" ∷ []) ∷ []) true) 0
    ≡ chunked_layout (utf8 false) 3
    (dict_layout (utf8 false) 2 (text_flat 2 2) (chunked_layout (primitive U8 false) 2 (code_flat 2 0 ∷ code_flat 0 1 ∷ [])) ∷ dict_layout (utf8 false) 1 (text_flat 1 4) (code_flat 1 3) ∷ [])
unfolding setting flats chunks texts two_cells text_flat code_flat
run_layout = refl

run_flats : (source_plan setting (coded two_cells flats flats flats) (utf8 false) false (texts (codes "a" ∷ codes "b" ∷ []) ∷ texts (codes "c" ∷ []) ∷ []) true).faults ≡ fault many_chunks (at_chunk (0 ∷ 1 ∷ 0 ∷ [])) ∷ []
unfolding setting flats chunks texts two_cells
run_flats = refl

-- ---- lists: elements 1, 2 of the first chunk, none and 3 behind; offsets 0, 2, 2 and 3

numbers_list : Ty
numbers_list = list (primitive I64 false) false

numbers : List ℕ → ChunkData
numbers ns = plain_piece (primitive I64 false) (map (λ n. int_cell (pos n)) ns)

list_chunks : List ChunkData
list_chunks = list_piece (list (primitive I64 false) false) (plain_piece (primitive I64 false) (int_cell (pos 9) ∷ int_cell (pos 1) ∷ int_cell (pos 2) ∷ int_cell (pos 8) ∷ [])) (1 ∷ 3 ∷ 3 ∷ []) []
    ∷ list_piece (list (primitive I64 false) false) (plain_piece (primitive I64 false) (int_cell (pos 3) ∷ [])) (0 ∷ 1 ∷ []) [] ∷ []

-- a codec that spells integers below 256 by one byte each
abbrev spell : List CellData → List ℕ
spell [] = []
spell (int_cell (pos n) ∷ cs) = n ∷ spell cs
spell (c ∷ cs) = spell cs

spelling : Setting
spelling = record {
  codec = record {
    encode = λ es padding p. Some (spell (cells p));
    tree_part = λ es padding p. [];
    refused = λ es p. None;
    decode = λ es t b. Some (map (λ n. int_cell (pos n)) b);
  };
  encodings = Plain ∷ [];
  allowed = Some (codes "vortex.min" ∷ []);
  image = λ which p. p;
  hash = λ b. 0;
}

list_segments : (source_plan spelling (listed chunks chunks flats flats) (list (primitive I64 false) false) false list_chunks true).pairs
    ≡ (0 ∷ 0 ∷ 0 ∷ [], 1 ∷ 2 ∷ []) ∷ (0 ∷ 1 ∷ 0 ∷ [], 3 ∷ []) ∷ (0 ∷ 0 ∷ 1 ∷ [], 0 ∷ 2 ∷ 2 ∷ []) ∷ (0 ∷ 1 ∷ 1 ∷ [], 3 ∷ []) ∷ []
unfolding spelling flats chunks list_chunks
list_segments = refl

int : ℕ → ValueData
int n = int_value (pos n)

list_values : rows spelling.codec (segment_at 0 (segments (source_plan spelling (listed chunks chunks flats flats) (list (primitive I64 false) false) false list_chunks true)))
    (numbered (source_plan spelling (listed chunks chunks flats flats) (list (primitive I64 false) false) false list_chunks true) 0)
    ≡ Some (list_value (vals_of (int 1 ∷ int 2 ∷ [])) ∷ list_value (vals_of []) ∷ list_value (vals_of (int 3 ∷ [])) ∷ [])
unfolding spelling flats chunks list_chunks int
list_values = refl

no_lists : (source_plan spelling (listed chunks chunks flats flats) (list (primitive I64 false) false) false [] true).faults ≡ fault empty_list at_end ∷ []
unfolding spelling flats chunks
no_lists = refl

-- ---- zones of three rows

zones_of_3 : ZonedOptions
zones_of_3 = record { zone_len = 3; aggregates = None; concurrency = 1 }

i32s : ℕ → ℕ → ℕ → ChunkData
i32s a b c = plain_piece (primitive I32 false) (int_cell (pos a) ∷ int_cell (pos b) ∷ int_cell (pos c) ∷ [])

nine : List ChunkData
nine = plain_piece (primitive I32 false) (int_cell (pos 1) ∷ int_cell (pos 2) ∷ int_cell (pos 3) ∷ [])
    ∷ plain_piece (primitive I32 false) (int_cell (pos 4) ∷ int_cell (pos 5) ∷ int_cell (pos 6) ∷ [])
    ∷ plain_piece (primitive I32 false) (int_cell (pos 7) ∷ int_cell (pos 8) ∷ int_cell (pos 9) ∷ []) ∷ []

zoned_paths : paths (sorted (source_plan setting (zoned zones_of_3 chunks flats) (primitive I32 false) false nine true).pairs)
    ≡ (0 ∷ 0 ∷ []) ∷ (0 ∷ 1 ∷ []) ∷ (0 ∷ 2 ∷ []) ∷ (2 ∷ 0 ∷ []) ∷ []
unfolding setting flats chunks zones_of_3 nine
zoned_paths = refl

table_ty : Ty
table_ty = struct (field (codes "max") (primitive I32 true) (field (codes "min") (primitive I32 true) (field (codes "null_count") (primitive U64 true) no_fields))) false

i32_flat : ℕ → ℕ → LayoutData ℕ
i32_flat n number = flat_layout (primitive I32 false) n (Plain ∷ []) None number

zoned_numbers : numbered (source_plan setting (zoned zones_of_3 chunks flats) (primitive I32 false) false nine true) 0
    ≡ zoned_layout (primitive I32 false) 9 3 (spec maximum ∷ spec minimum ∷ spec null_count ∷ []) (chunked_layout (primitive I32 false) 9 (i32_flat 3 0 ∷ i32_flat 3 1 ∷ i32_flat 3 2 ∷ [])) (flat_layout table_ty 3 (Plain ∷ []) None 3)
unfolding setting flats chunks zones_of_3 nine table_ty i32_flat
zoned_numbers = refl

-- the first aggregate that isn't allowed
not_allowed : (source_plan spelling (zoned zones_of_3 chunks flats) (primitive I32 false) false nine true).faults ≡ fault (forbidden_aggregate (codes "vortex.max")) at_start ∷ []
unfolding spelling flats chunks zones_of_3 nine
not_allowed = refl

-- under a mark the child alone
marked_zoned : numbered (source_plan spelling (zoned zones_of_3 chunks flats) (primitive I32 false) true nine true) 0
    ≡ chunked_layout (primitive I32 false) 9 (i32_flat 3 0 ∷ i32_flat 3 1 ∷ i32_flat 3 2 ∷ [])
unfolding spelling flats chunks zones_of_3 nine i32_flat
marked_zoned = refl

-- a shorter zone that another follows, refused when that comes
wrong_cut : (source_plan setting (zoned zones_of_3 chunks flats) u8 false (ints 3 ∷ ints 2 ∷ ints 1 ∷ []) true).faults ≡ fault (zone_cut 2) (at_chunk (0 ∷ 2 ∷ [])) ∷ []
unfolding setting flats chunks zones_of_3 u8 ints
wrong_cut = refl

-- ---- tables: an override of a column, and lists laid out as lists

table_way : StrategyData
table_way = tabled flats chunks (way_at (codes "b" ∷ []) flats no_ways) true no_wraps

-- the overridden column is flat, so two batches are too many for it
table_faults : (source_plan setting table_way pair_type false (pairs_of 2 ∷ pairs_of 1 ∷ []) true).faults ≡ fault many_chunks (at_chunk (0 ∷ 1 ∷ 1 ∷ [])) ∷ []
unfolding setting flats chunks pair_type pairs_of table_way
table_faults = refl

table_pairs : paths (source_plan setting table_way pair_type false (pairs_of 2 ∷ []) true).pairs ≡ (0 ∷ 0 ∷ 0 ∷ []) ∷ (0 ∷ 0 ∷ 1 ∷ []) ∷ []
unfolding setting flats chunks pair_type pairs_of table_way
table_pairs = refl

table_lists : (source_plan spelling table_way (list (primitive I64 false) false) false list_chunks true).pairs
    ≡ (0 ∷ 0 ∷ 0 ∷ [], 1 ∷ 2 ∷ []) ∷ (0 ∷ 1 ∷ 0 ∷ [], 3 ∷ []) ∷ (0 ∷ 0 ∷ 1 ∷ [], 0 ∷ 2 ∷ 2 ∷ []) ∷ (0 ∷ 1 ∷ 1 ∷ [], 3 ∷ []) ∷ []
unfolding spelling flats chunks list_chunks table_way
table_lists = refl

-- ---- a table with an override of a.b, on {a={b=i64}, c=i64}

nested : Ty
nested = struct (field (codes "a") (struct (field (codes "b") (primitive I64 false) no_fields) false) (field (codes "c") (primitive I64 false) no_fields)) false

nested_rows : ℕ → ChunkData
nested_rows n = plain_piece nested (replicate n (struct_cell true (trees_of (struct_cell true (trees_of (int_cell (pos 1) ∷ [])) ∷ int_cell (pos 2) ∷ []))))

nested_way : StrategyData
nested_way = tabled flats chunks (way_at (codes "a" ∷ codes "b" ∷ []) flats no_ways) false no_wraps

nested_layout : numbered (source_plan setting nested_way nested false (nested_rows 1 ∷ []) true) 0
    ≡ struct_layout nested 1 (struct_layout (struct (field (codes "b") (primitive I64 false) no_fields) false) 1 (i64_flat 1 0 ∷ []) ∷ i64_flat 1 1 ∷ [])
unfolding setting flats chunks nested nested_rows nested_way i64_flat
nested_layout = refl

nested_twice : (source_plan setting nested_way nested false (nested_rows 1 ∷ nested_rows 1 ∷ []) true).faults ≡ fault many_chunks (at_chunk (0 ∷ 1 ∷ 0 ∷ 0 ∷ [])) ∷ []
unfolding setting flats chunks nested nested_rows nested_way
nested_twice = refl

-- ---- a column of lists goes to the leaf, or is laid out as a list

list_column : Ty
list_column = struct (field (codes "l") (list (primitive I64 false) false) no_fields) false

one_list : ChunkData
one_list = plain_piece list_column (struct_cell true (trees_of (list_cell true (trees_of (int_cell (pos 1) ∷ [])) ∷ [])) ∷ [])

column_ids : Bool → List (List ℕ)
column_ids lists = map (λ l. kind_id (layout_kind l)) (children_of (source_plan setting (tabled flats chunks no_ways lists no_wraps) list_column false (one_list ∷ []) true).layout)

without_lists : column_ids false ≡ codes "vortex.flat" ∷ []
unfolding setting flats chunks list_column one_list column_ids
without_lists = refl

with_lists : column_ids true ≡ codes "vortex.list" ∷ []
unfolding setting flats chunks list_column one_list column_ids
with_lists = refl

-- ---- a zone table that is zoned itself

zoned_twice : numbered (source_plan setting (zoned zones_of_3 chunks (zoned zones_of_3 flats flats)) (primitive I32 false) false nine true) 0
    ≡ zoned_layout (primitive I32 false) 9 3 (spec maximum ∷ spec minimum ∷ spec null_count ∷ []) (chunked_layout (primitive I32 false) 9 (i32_flat 3 0 ∷ i32_flat 3 1 ∷ i32_flat 3 2 ∷ []))
    (zoned_layout table_ty 3 3 (spec null_count ∷ []) (flat_layout table_ty 3 (Plain ∷ []) None 3) (flat_layout (struct (field (codes "null_count") (primitive U64 true) no_fields) false) 1 (Plain ∷ []) None 4))
unfolding setting flats chunks zones_of_3 nine table_ty i32_flat
zoned_twice = refl

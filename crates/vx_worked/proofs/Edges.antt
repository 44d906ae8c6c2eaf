-- Plans of small streams at their edges. The codec here spells a chunk by its count of rows.
use Rattle.std.proofs.Common.{◌≡◌, ℕ, true, false, List, [], ◌∷◌, map, take, length, Option, Some, None, Bool, refl}
use Rattle.std.specs.Prelude.{pos, codes, replicate}
use Rattle.vx_model.specs.declared.ptype.PType.TheVariants.{U8, U16, I32}
use Rattle.vx_model.specs.declared.encoding.EncodingId.TheVariants.{Plain}
use Rattle.vx_model.specs.Ty.{Ty, primitive, utf8, list, struct, field, no_fields}
use Rattle.vx_model.specs.CellData.{int_cell, list_cell, trees_of}
use Rattle.vx_model.specs.ChunkData.{ChunkData, plain_piece, dict_piece, cells}
use Rattle.vx_layout_spec.specs.LayoutTree.{dict_layout, flat_layout}
use Rattle.vx_rules.specs.Runs.{DictOptions, code_type}
use Rattle.vx_strategy_spec.specs.StrategyData.{StrategyData, ZonedOptions, flat, chunked, coded, zoned, structured, listed, no_ways}
use Rattle.vx_plan.specs.PlanData.{Setting, paths, fault, empty_list, forbidden_aggregate, at_start, at_end}
use Rattle.vx_plan.specs.SourcePlan.{source_plan, start_fault}
use Rattle.vx_plan.specs.Number.{sorted, numbered}

-- by the aggregates that zone tables may have, and the compressor's images
abbrev counting : Option (List (List ℕ)) → (ℕ → ChunkData → ChunkData) → Setting
counting allowed image = record {
  codec = record {
    encode = λ es padding p. Some (length (cells p) ∷ []);
    tree_part = λ es padding p. [];
    refused = λ es p. None;
    decode = λ es t b. None;
  };
  encodings = Plain ∷ [];
  allowed = allowed;
  image = image;
  hash = λ b. 0;
}

-- zone tables may have minima alone
minima : Setting
minima = counting (Some (codes "vortex.min" ∷ [])) (λ which p. p)

flats : StrategyData
flats = flat (record { padding = true; inline = false })

chunks : StrategyData
chunks = chunked (flat (record { padding = true; inline = false }))

i32 : Ty
i32 = primitive I32 false

-- ---- the numbers: batches, rows up to each batch, the pointer, and of each batch its rows and its segment's length

i32s : ℕ → ChunkData
i32s n = plain_piece (primitive I32 false) (replicate n (int_cell (pos 1)))

counted : (source_plan minima chunks i32 false (i32s 2 ∷ i32s 1 ∷ []) true).numbers ≡ 2 ∷ 2 ∷ 3 ∷ 3 ∷ 2 ∷ 1 ∷ 1 ∷ 1 ∷ []
unfolding minima chunks i32 i32s
counted = refl

-- of lists: batches, the rows of offsets, elements and lists up to each batch, columns, the pointer
lists_of : List ℕ → ChunkData
lists_of ns = plain_piece (list (primitive I32 false) false) (map (λ n. list_cell true (trees_of (replicate n (int_cell (pos 1))))) ns)

counted_lists : take 9 (source_plan minima (listed chunks chunks flats flats) (list i32 false) false (lists_of (2 ∷ 0 ∷ []) ∷ lists_of (3 ∷ []) ∷ []) true).numbers
    ≡ 2 ∷ 3 ∷ 4 ∷ 2 ∷ 5 ∷ 2 ∷ 3 ∷ 2 ∷ 3 ∷ []
unfolding minima flats chunks i32 lists_of
counted_lists = refl

-- ---- lists of no chunk keep what is wrong with their elements

zones_of_3 : ZonedOptions
zones_of_3 = record { zone_len = 3; aggregates = None; concurrency = 1 }

no_lists : (source_plan minima (listed (zoned zones_of_3 chunks flats) chunks flats flats) (list i32 false) false [] true).faults
    ≡ fault empty_list at_end ∷ fault (forbidden_aggregate (codes "vortex.max")) at_start ∷ []
unfolding minima flats chunks i32 zones_of_3
no_lists = refl

no_lists_yet : (source_plan minima (listed (zoned zones_of_3 chunks flats) chunks flats flats) (list i32 false) false [] false).faults
    ≡ fault (forbidden_aggregate (codes "vortex.max")) at_start ∷ []
unfolding minima flats chunks i32 zones_of_3
no_lists_yet = refl

-- ---- what refuses before a chunk comes

-- the columns of a struct, nullable or not
column : Bool → Ty
column nullable = struct (field (codes "a") (primitive I32 false) no_fields) nullable

zones : StrategyData
zones = zoned (record { zone_len = 3; aggregates = None; concurrency = 1 }) (chunked (flat (record { padding = true; inline = false }))) (flat (record { padding = true; inline = false }))

-- fields below a nullable struct are marked, so they have no zones
marked_field : start_fault minima (structured flats zones no_ways) (column true) false ≡ None
unfolding minima flats column zones
marked_field = refl

unmarked_field : start_fault minima (structured flats zones no_ways) (column false) false ≡ Some (forbidden_aggregate (codes "vortex.max"))
unfolding minima flats column zones
unmarked_field = refl

-- its validity is marked by what stands above alone
unmarked_validity : start_fault minima (structured zones flats no_ways) (column true) false ≡ Some (forbidden_aggregate (codes "vortex.max"))
unfolding minima flats column zones
unmarked_validity = refl

marked_validity : start_fault minima (structured zones flats no_ways) (column true) true ≡ None
unfolding minima flats column zones
marked_validity = refl

-- ---- zones of zones: the first table stands below e + 1, the second, whose eof path is e + 2, below e + 3

-- all aggregates are let through, and each image is a dictionary
every : Setting
every = counting None (λ which p. dict_piece p p)

tables_behind : paths (sorted (source_plan every (zoned zones_of_3 chunks (zoned zones_of_3 flats flats)) i32 false (i32s 3 ∷ i32s 3 ∷ i32s 1 ∷ []) true).pairs)
    ≡ (0 ∷ 0 ∷ []) ∷ (0 ∷ 1 ∷ []) ∷ (0 ∷ 2 ∷ []) ∷ (2 ∷ 0 ∷ []) ∷ (4 ∷ 0 ∷ []) ∷ []
unfolding every flats chunks i32 i32s zones_of_3
tables_behind = refl

-- ---- dictionaries: of a chunk without rows one run, of no codes and no values

most : ℕ → DictOptions
most n = record { max_bytes = 1048576; max_len = n; probe = 2 }

no_texts : ChunkData
no_texts = plain_piece (utf8 false) []

empty_run : (source_plan every (coded (most 2) chunks flats flats) (utf8 false) false (no_texts ∷ []) true).pairs ≡ (0 ∷ 0 ∷ 0 ∷ [], 0 ∷ []) ∷ (0 ∷ 0 ∷ 1 ∷ [], 0 ∷ []) ∷ []
unfolding every flats chunks most no_texts
empty_run = refl

empty_dict : numbered (source_plan every (coded (most 2) chunks flats flats) (utf8 false) false (no_texts ∷ []) true) 0
    ≡ dict_layout (utf8 false) 0 (flat_layout (utf8 false) 0 (Plain ∷ []) None 1) (flat_layout (primitive U8 false) 0 (Plain ∷ []) None 0)
unfolding every flats chunks most no_texts
empty_dict = refl

-- codes have one byte up to 255 values
narrow_codes : code_type (most 255) ≡ primitive U8 false
unfolding most
narrow_codes = refl

wide_codes : code_type (most 256) ≡ primitive U16 false
unfolding most
wide_codes = refl

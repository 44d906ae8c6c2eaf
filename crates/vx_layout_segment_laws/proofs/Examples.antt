-- The segments that layouts of dictionaries and of zones name, computed. The codec here spells a chunk by its count of rows.
use Rattle.std.proofs.Common.{◌≡◌, ℕ, true, false, List, [], ◌∷◌, length, map, Some, None, refl}
use Rattle.std.specs.Prelude.{pos, codes}
use Rattle.vx_model.specs.declared.encoding.EncodingId.TheVariants.{Plain}
use Rattle.vx_model.specs.declared.ptype.PType.TheVariants.{I32}
use Rattle.vx_model.specs.Ty.{primitive, utf8}
use Rattle.vx_model.specs.CellData.{int_cell, text_cell}
use Rattle.vx_model.specs.ChunkData.{ChunkData, plain_piece, dict_piece, cells}
use Rattle.vx_layout_segments.specs.Segments.{segments_in}
use Rattle.vx_rules.specs.Runs.{DictOptions}
use Rattle.vx_strategy_spec.specs.StrategyData.{StrategyData, ZonedOptions, flat, chunked, coded, zoned}
use Rattle.vx_plan.specs.PlanData.{Setting, paths}
use Rattle.vx_plan.specs.SourcePlan.{source_plan}
use Rattle.vx_layout_segment_laws.specs.Named.{places_in}

setting : Setting
setting = record {
  codec = record {
    encode = λ es padding p. Some (length (cells p) ∷ []);
    tree_part = λ es padding p. [];
    refused = λ es p. None;
    decode = λ es t b. None;
  };
  encodings = Plain ∷ [];
  allowed = None;
  image = λ which p. dict_piece p p;
  hash = λ b. 0;
}

flats : StrategyData
flats = flat (record { padding = true; inline = false })

chunks : StrategyData
chunks = chunked (flat (record { padding = true; inline = false }))

-- ---- two dictionaries: each one's values are named first, and its codes written first

two_cells : DictOptions
two_cells = record { max_bytes = 1048576; max_len = 2; probe = 2 }

texts : List (List ℕ) → ChunkData
texts ts = plain_piece (utf8 false) (map text_cell ts)

dict_paths : paths (source_plan setting (coded two_cells chunks flats flats) (utf8 false) false (texts (codes "a" ∷ codes "b" ∷ []) ∷ texts (codes "c" ∷ []) ∷ []) true).pairs
    ≡ (0 ∷ 0 ∷ 0 ∷ []) ∷ (0 ∷ 1 ∷ 0 ∷ []) ∷ (0 ∷ 1 ∷ 1 ∷ []) ∷ (0 ∷ 1 ∷ 2 ∷ []) ∷ (0 ∷ 1 ∷ 3 ∷ []) ∷ []
unfolding setting flats chunks texts two_cells
dict_paths = refl

dict_segments : segments_in (source_plan setting (coded two_cells chunks flats flats) (utf8 false) false (texts (codes "a" ∷ codes "b" ∷ []) ∷ texts (codes "c" ∷ []) ∷ []) true).layout
    ≡ (0 ∷ 1 ∷ 1 ∷ []) ∷ (0 ∷ 0 ∷ 0 ∷ []) ∷ (0 ∷ 1 ∷ 0 ∷ []) ∷ (0 ∷ 1 ∷ 3 ∷ []) ∷ (0 ∷ 1 ∷ 2 ∷ []) ∷ []
unfolding setting flats chunks texts two_cells
dict_segments = refl

dict_places : places_in (source_plan setting (coded two_cells chunks flats flats) (utf8 false) false (texts (codes "a" ∷ codes "b" ∷ []) ∷ texts (codes "c" ∷ []) ∷ []) true)
    ≡ 2 ∷ 0 ∷ 1 ∷ 4 ∷ 3 ∷ []
unfolding setting flats chunks texts two_cells
dict_places = refl

-- ---- zones: the data's, then the table's, of a path behind theirs

zones_of_2 : ZonedOptions
zones_of_2 = record { zone_len = 2; aggregates = None; concurrency = 1 }

-- of two rows and of one
batches : List ChunkData
batches = plain_piece (primitive I32 false) (int_cell (pos 1) ∷ int_cell (pos 2) ∷ []) ∷ plain_piece (primitive I32 false) (int_cell (pos 3) ∷ []) ∷ []

zoned_segments : segments_in (source_plan setting (zoned zones_of_2 chunks flats) (primitive I32 false) false batches true).layout
    ≡ (0 ∷ 0 ∷ []) ∷ (0 ∷ 1 ∷ []) ∷ (2 ∷ 0 ∷ []) ∷ []
unfolding setting flats chunks zones_of_2 batches
zoned_segments = refl

zoned_paths : paths (source_plan setting (zoned zones_of_2 chunks flats) (primitive I32 false) false batches true).pairs
    ≡ segments_in (source_plan setting (zoned zones_of_2 chunks flats) (primitive I32 false) false batches true).layout
unfolding setting flats chunks zones_of_2 batches
zoned_paths = refl

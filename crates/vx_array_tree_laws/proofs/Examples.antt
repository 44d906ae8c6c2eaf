-- Array trees of a small layout, computed. The codec here spells each cell by a zero, and a tree part by the padding and the rows.
use Rattle.std.proofs.Common.{◌≡◌, true, false, List, [], ◌∷◌, length, map, Some, None, refl}
use Rattle.std.specs.Prelude.{if◌then◌else◌, pos}
use Rattle.vx_model.specs.declared.ptype.PType.TheVariants.{I32}
use Rattle.vx_model.specs.declared.encoding.EncodingId.TheVariants.{Plain}
use Rattle.vx_model.specs.Ty.{primitive}
use Rattle.vx_model.specs.CellData.{int_cell}
use Rattle.vx_model.specs.ChunkData.{ChunkData, plain_piece, cells}
use Rattle.vx_layout_spec.specs.LayoutTree.{flat_layout, chunked_layout}
use Rattle.vx_plan.specs.PlanData.{Setting}
use Rattle.vx_strategy_spec.specs.StrategyData.{FlatOptions, ZonedOptions, flat, chunked, zoned}
use Rattle.vx_plan.specs.SourcePlan.{source_plan}
use Rattle.vx_plan.specs.Number.{numbered}
use Rattle.vx_array_tree_laws.specs.Flats.{flats}

setting : Setting
setting = record {
  codec = record {
    encode = λ es padding p. Some (map (λ c. 0) (cells p));
    tree_part = λ es padding p. (if padding then 1 else 0) ∷ length (cells p) ∷ [];
    refused = λ es p. None;
    decode = λ es t b. None;
  };
  encodings = Plain ∷ [];
  allowed = None;
  image = λ which p. p;
  hash = λ b. 0;
}

inlining : FlatOptions
inlining = record { padding = true; inline = true }

plain : FlatOptions
plain = record { padding = false; inline = false }

zones_of_2 : ZonedOptions
zones_of_2 = record { zone_len = 2; aggregates = None; concurrency = 1 }

-- of two rows and of one
batches : List ChunkData
batches = plain_piece (primitive I32 false) (int_cell (pos 1) ∷ int_cell (pos 2) ∷ []) ∷ plain_piece (primitive I32 false) (int_cell (pos 3) ∷ []) ∷ []

-- those of the data, then those of the table
listed_flats : flats (zoned zones_of_2 (chunked (flat inlining)) (flat plain)) ≡ inlining ∷ plain ∷ []
unfolding zones_of_2 inlining plain
listed_flats = refl

inlined_trees : numbered (source_plan setting (chunked (flat inlining)) (primitive I32 false) false batches true) 5
    ≡ chunked_layout (primitive I32 false) 3
    (flat_layout (primitive I32 false) 2 (Plain ∷ []) (Some (1 ∷ 2 ∷ [])) 5 ∷ flat_layout (primitive I32 false) 1 (Plain ∷ []) (Some (1 ∷ 1 ∷ [])) 6 ∷ [])
unfolding setting inlining batches
inlined_trees = refl

plain_trees : numbered (source_plan setting (chunked (flat plain)) (primitive I32 false) false batches true) 5
    ≡ chunked_layout (primitive I32 false) 3
    (flat_layout (primitive I32 false) 2 (Plain ∷ []) None 5 ∷ flat_layout (primitive I32 false) 1 (Plain ∷ []) None 6 ∷ [])
unfolding setting plain batches
plain_trees = refl

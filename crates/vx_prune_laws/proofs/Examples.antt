-- Pruning over written zone tables, computed. The codec here spells integers below 256 by one byte each, and structs of them field by field.
use Rattle.std.proofs.Common.{◌≡◌, ℕ, zero, suc, Bool, true, false, List, [], ◌∷◌, ◌++◌, length, map, take, drop, Option, Some, None, refl}
use Rattle.std.specs.Prelude.{pos, codes}
use Rattle.vx_model.specs.declared.ptype.PType.TheVariants.{I32}
use Rattle.vx_model.specs.declared.encoding.EncodingId.TheVariants.{Plain}
use Rattle.vx_model.specs.Ty.{Ty, Tys, primitive, utf8, struct, fields_in}
use Rattle.vx_model.specs.CellData.{CellData, null_cell, int_cell, struct_cell, trees_of, items}
use Rattle.vx_model.specs.ValueData.{ValueData, int_value, text_value, struct_value, vals_of}
use Rattle.vx_model.specs.ChunkData.{ChunkData, plain_piece, cells}
use Rattle.vx_layout_spec.specs.LayoutTree.{LayoutData, LayoutList, Kind, zoned_kind, layout, no_layouts, child, lays_in}
use Rattle.vx_layout_spec.specs.Rows.{rows, and_then}
use Rattle.vx_aggregate_spec.specs.Aggregate.{Aggregate, maximum, minimum, null_count, sum}
use Rattle.vx_zone_spec.specs.Pruning.{Predicate, eq, gt, lt, negated, predicate_fits}
use Rattle.vx_zone_spec.specs.ZoneMap.{ZoneMap, skips, record_of}
use Rattle.vx_plan.specs.PlanData.{Setting, Plan}
use Rattle.vx_strategy_spec.specs.StrategyData.{StrategyData, ZonedOptions, flat, chunked, zoned}
use Rattle.vx_plan.specs.SourcePlan.{source_plan}
use Rattle.vx_plan.specs.Number.{segments, numbered, segment_at}
use Rattle.vx_prune_laws.specs.Pruned.{zone_map, zone_at, unskipped, matching}

abbrev spelled : CellData → List ℕ
spelled (int_cell (pos n)) = n ∷ []
spelled c = []

abbrev spelled_items : List CellData → List ℕ
spelled_items [] = []
spelled_items (c ∷ cs) = spelled c ++ spelled_items cs

abbrev spell : List CellData → List ℕ
spell [] = []
spell (struct_cell valid cs ∷ others) = spelled_items (items cs) ++ spell others
spell (c ∷ others) = spelled c ++ spell others

-- structs of so many fields, the first number telling when to stop
abbrev structs : ℕ → ℕ → List ℕ → List CellData
structs zero width bytes = []
structs (suc fuel) width [] = []
structs (suc fuel) width (b ∷ bytes) = struct_cell true (trees_of (map (λ n. int_cell (pos n)) (take width (b ∷ bytes)))) ∷ structs fuel width (drop width (b ∷ bytes))

abbrev read : Ty → List ℕ → Option (List CellData)
read (struct fs n) bytes = Some (structs (length bytes) (length (fields_in fs)) bytes)
read t bytes = Some (map (λ n. int_cell (pos n)) bytes)

setting : Setting
setting = record {
  codec = record {
    encode = λ es padding p. Some (spell (cells p));
    tree_part = λ es padding p. [];
    refused = λ es p. None;
    decode = λ es t b. read t b;
  };
  encodings = Plain ∷ [];
  allowed = None;
  image = λ which p. p;
  hash = λ b. 0;
}

flats : StrategyData
flats = flat (record { padding = true; inline = false })

chunks : StrategyData
chunks = chunked (flat (record { padding = true; inline = false }))

zones_of_3 : ZonedOptions
zones_of_3 = record { zone_len = 3; aggregates = None; concurrency = 1 }

-- 1 to 8: three zones, the last of two rows
eight : List ChunkData
eight = plain_piece (primitive I32 false) (int_cell (pos 1) ∷ int_cell (pos 2) ∷ int_cell (pos 3) ∷ [])
    ∷ plain_piece (primitive I32 false) (int_cell (pos 4) ∷ int_cell (pos 5) ∷ int_cell (pos 6) ∷ [])
    ∷ plain_piece (primitive I32 false) (int_cell (pos 7) ∷ int_cell (pos 8) ∷ []) ∷ []

-- what is made of a zoned layout: its zone map and its rows
abbrev at_zoned : {B : Type 0} → Setting → (ℕ → Option (List ℕ)) → (ZoneMap → List ValueData → B) → LayoutData ℕ → Option B
at_zoned s look f (layout (zoned_kind zone_len specs) t n names (child data_child (child zones no_layouts))) =
    and_then (λ m. and_then (λ vs. Some (f m vs)) (rows s.codec look data_child)) (zone_map s.codec look zone_len specs t n zones)
at_zoned s look f l = None

abbrev of_written : {B : Type 0} → (ZoneMap → List ValueData → B) → Option B
of_written f = at_zoned setting (segment_at 0 (segments (source_plan setting (zoned zones_of_3 chunks flats) (primitive I32 false) false eight true))) f
    (numbered (source_plan setting (zoned zones_of_3 chunks flats) (primitive I32 false) false eight true) 0)

is_map : of_written (λ m vs. m.aggregates) ≡ Some (maximum ∷ minimum ∷ null_count ∷ [])
unfolding setting flats chunks zones_of_3 eight
is_map = refl

second_record : of_written (λ m vs. map (record_of m) (take 1 (drop 1 m.zones))) ≡ Some (((maximum, int_value (pos 6)) ∷ (minimum, int_value (pos 4)) ∷ (null_count, int_value (pos 0)) ∷ []) ∷ [])
unfolding setting flats chunks zones_of_3 eight
second_record = refl

above_6 : of_written (λ m vs. skips setting.hash m (gt (int_value (pos 6)))) ≡ Some (true ∷ true ∷ false ∷ [])
unfolding setting flats chunks zones_of_3 eight
above_6 = refl

is_5 : of_written (λ m vs. skips setting.hash m (eq (int_value (pos 5)))) ≡ Some (true ∷ false ∷ true ∷ [])
unfolding setting flats chunks zones_of_3 eight
is_5 = refl

not_below_7 : of_written (λ m vs. skips setting.hash m (negated (lt (int_value (pos 7))))) ≡ Some (true ∷ true ∷ false ∷ [])
unfolding setting flats chunks zones_of_3 eight
not_below_7 = refl

-- the rows that are left, and those of them that match
left_of_5 : of_written (λ m vs. unskipped 3 (skips setting.hash m (eq (int_value (pos 5)))) vs) ≡ Some (int_value (pos 4) ∷ int_value (pos 5) ∷ int_value (pos 6) ∷ [])
unfolding setting flats chunks zones_of_3 eight
left_of_5 = refl

matching_5 : of_written (λ m vs. matching (eq (int_value (pos 5))) (unskipped 3 (skips setting.hash m (eq (int_value (pos 5)))) vs)) ≡ Some (int_value (pos 5) ∷ [])
unfolding setting flats chunks zones_of_3 eight
matching_5 = refl

last_zone : of_written (λ m vs. zone_at 3 vs 2) ≡ Some (int_value (pos 7) ∷ int_value (pos 8) ∷ [])
unfolding setting flats chunks zones_of_3 eight
last_zone = refl

-- ---- a zone table that is zoned itself: its three rows are one zone, of which the nulls are counted

abbrev zoned_twice : Plan
zoned_twice = source_plan setting (zoned zones_of_3 chunks (zoned zones_of_3 flats flats)) (primitive I32 false) false eight true

abbrev zones_child : LayoutData ℕ → LayoutData ℕ
zones_child (layout k t n names (child data_child (child zones ls))) = zones
zones_child l = l

table_map : at_zoned setting (segment_at 0 (segments zoned_twice)) (λ m vs. m.aggregates) (zones_child (numbered zoned_twice 0)) ≡ Some (null_count ∷ [])
unfolding setting flats chunks zones_of_3 eight
table_map = refl

table_zones : at_zoned setting (segment_at 0 (segments zoned_twice)) (λ m vs. map (record_of m) m.zones) (zones_child (numbered zoned_twice 0)) ≡ Some (((null_count, int_value (pos 0)) ∷ []) ∷ [])
unfolding setting flats chunks zones_of_3 eight
table_zones = refl

-- ---- a table of an aggregate that the type can't hold: it has no column, and the others keep their values

texts_map : ZoneMap
texts_map = record {
  column = utf8 false;
  aggregates = sum ∷ minimum ∷ maximum ∷ [];
  zone_len = 3;
  row_count = 3;
  zones = struct_value (vals_of (text_value (codes "a") ∷ text_value (codes "z") ∷ [])) ∷ [];
}

texts_record : map (record_of texts_map) texts_map.zones ≡ ((minimum, text_value (codes "a")) ∷ (maximum, text_value (codes "z")) ∷ []) ∷ []
unfolding texts_map
texts_record = refl

-- "a" is below "b"
below_b : skips setting.hash texts_map (lt (text_value (codes "b"))) ≡ false ∷ []
unfolding setting texts_map
below_b = refl

below_a : skips setting.hash texts_map (lt (text_value (codes "a"))) ≡ true ∷ []
unfolding setting texts_map
below_a = refl

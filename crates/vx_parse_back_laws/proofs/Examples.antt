-- A small zoned layout, written and read again, computed. The codec here spells each cell by a zero.
use Rattle.std.proofs.Common.{◌≡◌, ℕ, true, false, List, [], ◌∷◌, map, Some, None, Ok, refl, arith}
use Rattle.std.specs.Prelude.{codes, pos}
use Rattle.std.specs.Char.{encode_utf8}
use Rattle.std.specs.Str.{chars, is_utf8}
use Rattle.vx_model.specs.declared.ptype.PType.TheVariants.{I32}
use Rattle.vx_model.specs.declared.encoding.EncodingId.TheVariants.{Plain}
use Rattle.vx_model.specs.Ty.{primitive}
use Rattle.vx_model.specs.CellData.{int_cell}
use Rattle.vx_model.specs.ChunkData.{ChunkData, plain_piece, cells}
use Rattle.vx_layout_spec.specs.LayoutTree.{LayoutData}
use Rattle.vx_aggregate_spec.specs.Aggregate.{maximum, minimum, bounded_maximum, bounded_minimum, null_count, sum, bloom, aggregate_id}
use Rattle.vx_byte_reader.specs.Fields as fields
use Rattle.vx_byte_reader.specs.Fields.{front_at, number_at}
use Rattle.vx_byte_reader.specs.Places.{many_at}
use Rattle.vx_metadata.specs.Reading.{string_at, name_at, spec_at, zoned_body}
use Rattle.vx_layout_bytes.specs.Spelled.{spelling}
use Rattle.vx_layout_bytes.specs.Reading.{numbered_at, segments_at, own_at, many_nodes, none_at, node_with, root_at}
use Rattle.vx_session.specs.Encodings.{all_encodings}
use Rattle.vx_session.specs.Scope.{Scope}
use Rattle.vx_session.specs.Kinds.{read_spec, build_flat, build_chunked, build_zoned}
use Rattle.vx_layout_codec_spec.specs.NodeOf.{node_in}
use Rattle.vx_layout_codec_spec.specs.Parsed.{parsed}
use Rattle.vx_plan.specs.PlanData.{Setting}
use Rattle.vx_strategy_spec.specs.StrategyData.{FlatOptions, ZonedOptions, flat, chunked, zoned}
use Rattle.vx_plan.specs.SourcePlan.{source_plan}
use Rattle.vx_plan.specs.Number.{numbered}
use Rattle.vx_parse_back_laws.specs.Knowing.{KnowsLayout}

setting : Setting
setting = record {
  codec = record {
    encode = λ es padding p. Some (map (λ c. 0) (cells p));
    tree_part = λ es padding p. [];
    refused = λ es p. None;
    decode = λ es t b. None;
  };
  encodings = Plain ∷ [];
  allowed = None;
  image = λ which p. p;
  hash = λ b. 0;
}

scope : Scope
scope = record {
  ids = codes "vortex.flat" ∷ codes "vortex.zoned" ∷ codes "vortex.chunked" ∷ [];
  registered = all_encodings;
  context = record { encodings = Plain ∷ []; aggregates = map aggregate_id (maximum ∷ minimum ∷ bounded_maximum 1 ∷ bounded_minimum 1 ∷ null_count ∷ sum ∷ bloom 1 ∷ []); allow_unknown = false };
  allow_unknown = false;
}

plain : FlatOptions
plain = record { padding = false; inline = false }

zones_of_2 : ZonedOptions
zones_of_2 = record { zone_len = 2; aggregates = None; concurrency = 1 }

-- of two rows and of one
batches : List ChunkData
batches = plain_piece (primitive I32 false) (int_cell (pos 1) ∷ int_cell (pos 2) ∷ []) ∷ plain_piece (primitive I32 false) (int_cell (pos 3) ∷ []) ∷ []

abbrev written : LayoutData ℕ
written = numbered (source_plan setting (zoned zones_of_2 (chunked (flat plain)) (flat plain)) (primitive I32 false) false batches true) 7

-- the scope knows the zoned layout, its two chunks and its table
known : KnowsLayout scope written
unfolding scope setting plain zones_of_2 batches
known = ((refl, omega arith, refl), ((refl, (((refl, refl), tt), (((refl, refl), tt), tt))), (((refl, refl), tt), tt)))

again : parsed scope (primitive I32 false) 3 5 (spelling (node_in scope.ids written)) ≡ Ok written
unfolding scope setting plain zones_of_2 batches is_utf8 chars encode_utf8 front_at number_at fields.many_at string_at name_at spec_at zoned_body many_at numbered_at segments_at own_at many_nodes none_at node_with root_at read_spec build_flat build_chunked build_zoned
again = refl

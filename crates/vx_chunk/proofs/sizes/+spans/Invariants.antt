use Rattle.std.proofs.Common.{◌≡◌, ◌+◌, ◌-◌, ◌*◌, ◌^◌, ◌<◌, ◌≤◌, min, drop}
use Rattle.std.specs.Prelude.{IsTrue}
use Rattle.vx_model.specs.ChunkData.{pieces_of}
use Rattle.vx_chunk.specs.Depth.{depth, depths}
use Rattle.vx_chunk.specs.Rows.{have_rows}
use Rattle.vx_chunk.specs.Sizes.{span_sizes, each_span_size}
use Rattle.vx_chunk.proofs.sizes.+spans.Given as goal

abbrev pub decreases-span_bytes : goal.decreases-span_bytes
decreases-span_bytes l = 3 * depth l.chunk.now + 1

abbrev pub decreases-parts_bytes : goal.decreases-parts_bytes
decreases-parts_bytes l = 3 * depths (pieces_of l.parts.now)

abbrev pub decreases-elements_bytes : goal.decreases-elements_bytes
decreases-elements_bytes l = 3 * depth l.elements.now + 2

abbrev pub decreases-fields_bytes : goal.decreases-fields_bytes
decreases-fields_bytes l = 3 * depths (pieces_of l.fields.now)

abbrev pub invariant-parts_bytes-loop-part : goal.invariant-parts_bytes-loop-part
invariant-parts_bytes-loop-part l = record {
  order : l.start ≤ l.end;
  short : l.total < 2 ^ 128;
  sum : min (l.total + span_sizes (pieces_of (drop l.part-index l.parts)) l.start l.end) (2 ^ 128 - 1) ≡ min (span_sizes (pieces_of l.parts) l.from l.to) (2 ^ 128 - 1);
}

abbrev pub invariant-fields_bytes-loop-field : goal.invariant-fields_bytes-loop-field
invariant-fields_bytes-loop-field l = record {
  within : IsTrue (have_rows l.to (drop l.field-index l.fields));
  short : l.total < 2 ^ 128;
  sum : min (l.total + each_span_size (pieces_of (drop l.field-index l.fields)) l.from l.to) (2 ^ 128 - 1) ≡ min (each_span_size (pieces_of l.fields) l.from l.to) (2 ^ 128 - 1);
}

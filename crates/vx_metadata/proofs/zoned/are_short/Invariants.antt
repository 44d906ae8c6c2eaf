use Rattle.std.proofs.Common.{◌≡◌, map, drop}
use Rattle.vx_model.specs.Words.{all_by}
use Rattle.vx_metadata.specs.Values.{is_short_spec, has_text_id}
use Rattle.vx_metadata.specs.Views.{spec_of}
use Rattle.vx_metadata.proofs.zoned.are_short.Given as goal

abbrev pub invariant-loop-spec : goal.invariant-loop-spec
invariant-loop-spec l = record {
  short : all_by is_short_spec (map spec_of (drop l.spec-index l.specs)) ≡ all_by is_short_spec (map spec_of l.specs);
  ids : all_by has_text_id (map spec_of (drop l.spec-index l.specs)) ≡ all_by has_text_id (map spec_of l.specs);
}

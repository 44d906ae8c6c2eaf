use Rattle.std.proofs.Common.{◌≡◌, ◌++◌, map, drop, IsTrue}
use Rattle.vx_model.specs.Words.{all_by, joined_by}
use Rattle.vx_metadata.specs.Spelled.{spec_bytes}
use Rattle.vx_metadata.specs.Values.{is_short_spec}
use Rattle.vx_metadata.specs.Views.{spec_of}
use Rattle.vx_metadata.proofs.zoned.push_specs.Given as goal

abbrev pub invariant-loop-spec : goal.invariant-loop-spec
invariant-loop-spec l = record {
  bytes : l.out.items ++ joined_by spec_bytes (map spec_of (drop l.spec-index l.specs)) ≡ l.fn.out.items ++ joined_by spec_bytes (map spec_of l.specs);
  short : IsTrue (all_by is_short_spec (map spec_of (drop l.spec-index l.specs)));
}

-- What readers have of a layout that was written.
use Rattle.std.specs.Prelude.{◌≡◌, ℕ, List, Ok}
use Rattle.vx_model.specs.Ty.{Ty}
use Rattle.vx_layout_spec.specs.LayoutTree.{LayoutData}
use Rattle.vx_layout_bytes.specs.Values.{IsWithin}
use Rattle.vx_session.specs.Scope.{Scope}
use Rattle.vx_layout_codec_spec.specs.NodeOf.{node_in}
use Rattle.vx_layout_codec_spec.specs.Bytes.{bytes_in}
use Rattle.vx_layout_codec_spec.specs.Parsed.{parsed as parsed_at}
use Rattle.vx_plan.specs.PlanData.{Setting}
use Rattle.vx_plan.specs.Number.{segment_at}
use Rattle.vx_plan.specs.ZonesHold.{EachZoned}
use Rattle.vx_prune_laws.specs.Statements.{IsPrunable}
use Rattle.vx_parse_back_laws.specs.Knowing.{KnowsLayout, KnowsWrites}

-- Of a layout of this type, by the segments that were appended from this number on.
pub record IsReadable (s : Setting) (t : Ty) (first : ℕ) (appended : List (List ℕ)) (l : LayoutData ℕ) : Type 0 where
  -- at each zoned node, those of zone tables too, the table has the record of each zone, and pruning by it loses no row that matches
  pub zones : EachZoned (IsPrunable s (segment_at first appended)) l
  -- a session of all kinds and aggregates knows it
  pub known : (scope : Scope) → KnowsWrites scope s → KnowsLayout scope l
  -- in a scope that knows it, its bytes are built into it again, within limits that it keeps
  pub parsed : (scope : Scope) (deep nodes : ℕ) (bytes : List ℕ) → KnowsLayout scope l → IsWithin deep nodes (node_in scope.ids l) → bytes_in scope.ids l ≡ Ok bytes → parsed_at scope t deep nodes bytes ≡ Ok l

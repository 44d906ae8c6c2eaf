use Rattle.std.proofs.Common.{refl, arith}
use Rattle.std.proofs.lemmas.List.{length-map}
use Rattle.vx_layout_spec.specs.LayoutTree.{layout_type}
use Rattle.vx_layout_tree.specs.LayoutView.{layout_data}
use Rattle.vx_layout_tree.proofs.KidSteps.{length-chunks, length-fields}
use Rattle.vx_layout_build.proofs.layout_walk.LayoutLayoutWalk.child.Goals as goal

pub returns-in-Flat : goal.returns-in-Flat
returns-in-Flat c = rw c.in-Flat.ensures refl

pub chunk-requires : goal.chunk-requires
chunk-requires c = omega (arith, rw c.in-Chunked.ensures.1 at c.requires, length-chunks (layout_type (layout_data c.args.self.now)) c.in-Chunked.children.now)

pub returns-in-Chunked : goal.returns-in-Chunked
returns-in-Chunked c = rw (c.in-Chunked.ensures.1, ← c.dtype.ensures) c.chunk.ensures

pub field-requires : goal.field-requires
field-requires c =
    record {
      place = omega (arith, rw c.in-Struct.ensures.1 at c.requires, length-fields (layout_type (layout_data c.args.self.now)) c.in-Struct.children.now c.in-Struct.ensures.2);
      count = rw c.dtype-in-Struct.ensures c.in-Struct.ensures.2;
    }

pub returns-in-Struct : goal.returns-in-Struct
returns-in-Struct c = rw (c.in-Struct.ensures.1, ← c.dtype-in-Struct.ensures) c.field.ensures

pub kept_child-requires : goal.kept_child-requires
kept_child-requires c = omega (arith, rw c.in-List.ensures.1 at c.requires, length-map c.in-List.kept.now layout_data)

pub returns-in-List : goal.returns-in-List
returns-in-List c = rw c.in-List.ensures.1 c.kept_child.ensures

pub kept_child-requires-in-Dict : goal.kept_child-requires-in-Dict
kept_child-requires-in-Dict c = omega (arith, rw c.in-Dict.ensures.1 at c.requires, length-map c.in-Dict.kept.now layout_data)

pub returns-in-Dict : goal.returns-in-Dict
returns-in-Dict c = rw c.in-Dict.ensures.1 c.kept_child-in-Dict.ensures

pub kept_child-requires-in-Zoned : goal.kept_child-requires-in-Zoned
kept_child-requires-in-Zoned c = omega (arith, rw c.in-Zoned.ensures.1 at c.requires, length-map c.in-Zoned.kept.now layout_data)

pub returns-in-Zoned : goal.returns-in-Zoned
returns-in-Zoned c = rw c.in-Zoned.ensures.1 c.kept_child-in-Zoned.ensures

pub zoned_child-requires : goal.zoned_child-requires
zoned_child-requires c = rw c.in-Unread.ensures.1 at c.requires

pub returns-in-Unread : goal.returns-in-Unread
returns-in-Unread c = rw c.in-Unread.ensures.1 c.zoned_child.ensures

pub kept_child-requires-in-LegacyStats : goal.kept_child-requires-in-LegacyStats
kept_child-requires-in-LegacyStats c = omega (arith, rw c.in-LegacyStats.ensures.1 at c.requires, length-map c.in-LegacyStats.kept.now layout_data)

pub returns-in-LegacyStats : goal.returns-in-LegacyStats
returns-in-LegacyStats c = rw c.in-LegacyStats.ensures.1 c.kept_child-in-LegacyStats.ensures

pub kept_child-requires-in-Foreign : goal.kept_child-requires-in-Foreign
kept_child-requires-in-Foreign c = omega (arith, rw c.in-Foreign.ensures.1 at c.requires, length-map c.in-Foreign.kept.now layout_data)

pub returns-in-Foreign : goal.returns-in-Foreign
returns-in-Foreign c = rw c.in-Foreign.ensures.1 c.kept_child-in-Foreign.ensures

use Rattle.std.proofs.Common.{refl}
use Rattle.vx_layout_tree.specs.LayoutView.{layout_data}
use Rattle.vx_layout_slots.proofs.SlotSteps.{place_by}
use Rattle.vx_layout_slots.proofs.slots.place_of.Goals as goal

pub returns-in-Flat : goal.returns-in-Flat
returns-in-Flat c = rw c.in-Flat.ensures refl

pub returns-in-Chunked : goal.returns-in-Chunked
returns-in-Chunked c = rw (place_by (layout_data c.args.layout.now) c.args.slot, c.in-Chunked.ensures.0, ← c.nchildren.ensures) c.below.ensures

pub returns-in-Struct : goal.returns-in-Struct
returns-in-Struct c = rw (place_by (layout_data c.args.layout.now) c.args.slot, c.in-Struct.ensures.0, ← c.dtype.ensures) c.struct_place.ensures

pub returns-in-List : goal.returns-in-List
returns-in-List c = rw (place_by (layout_data c.args.layout.now) c.args.slot, c.in-List.ensures.0, ← c.dtype-in-List.ensures) c.list_place.ensures

pub returns-in-Dict : goal.returns-in-Dict
returns-in-Dict c = rw (place_by (layout_data c.args.layout.now) c.args.slot, c.in-Dict.ensures.0) c.below-in-Dict.ensures

pub returns-in-Zoned : goal.returns-in-Zoned
returns-in-Zoned c = rw (place_by (layout_data c.args.layout.now) c.args.slot, c.in-Zoned.ensures.0) c.below-in-Zoned.ensures

pub returns-in-Unread : goal.returns-in-Unread
returns-in-Unread c = rw (place_by (layout_data c.args.layout.now) c.args.slot, c.in-Unread.ensures.0) c.below-in-Unread.ensures

pub returns-in-LegacyStats : goal.returns-in-LegacyStats
returns-in-LegacyStats c = rw (place_by (layout_data c.args.layout.now) c.args.slot, c.in-LegacyStats.ensures.0) c.below-in-LegacyStats.ensures

pub returns-in-Foreign : goal.returns-in-Foreign
returns-in-Foreign c = rw (place_by (layout_data c.args.layout.now) c.args.slot, c.in-Foreign.ensures.0, ← c.nchildren-in-Foreign.ensures) c.below-in-Foreign.ensures

use Rattle.std.proofs.Common.{refl}
use Rattle.vx_layout_tree.specs.LayoutView.{layout_data}
use Rattle.vx_layout_slots.proofs.SlotSteps.{type_by}
use Rattle.vx_layout_slots.proofs.slots.type_of_slot.Goals as goal

pub returns-in-Flat : goal.returns-in-Flat
returns-in-Flat c = rw c.in-Flat.ensures refl

pub returns-in-Chunked : goal.returns-in-Chunked
returns-in-Chunked c = rw (type_by (layout_data c.args.layout.now) c.args.slot, c.in-Chunked.ensures.0, c.in-Chunked.ensures.1, ← c.dtype.ensures) c.chunk_type.ensures

pub returns-in-Struct : goal.returns-in-Struct
returns-in-Struct c = rw (type_by (layout_data c.args.layout.now) c.args.slot, c.in-Struct.ensures.0, ← c.dtype-in-Struct.ensures) c.struct_type.ensures

pub returns-in-List : goal.returns-in-List
returns-in-List c = rw (type_by (layout_data c.args.layout.now) c.args.slot, c.in-List.ensures.0) c.list_type.ensures

pub returns-in-Dict : goal.returns-in-Dict
returns-in-Dict c = rw (type_by (layout_data c.args.layout.now) c.args.slot, c.in-Dict.ensures.0) c.dict_type.ensures

pub returns-in-Zoned : goal.returns-in-Zoned
returns-in-Zoned c = rw (type_by (layout_data c.args.layout.now) c.args.slot, c.in-Zoned.ensures.0) c.zoned_type.ensures

pub returns-in-Unread : goal.returns-in-Unread
returns-in-Unread c = rw (type_by (layout_data c.args.layout.now) c.args.slot, c.in-Unread.ensures.0) c.zoned_type-in-Unread.ensures

pub returns-in-LegacyStats : goal.returns-in-LegacyStats
returns-in-LegacyStats c = rw (type_by (layout_data c.args.layout.now) c.args.slot, c.in-LegacyStats.ensures.0) c.zoned_type-in-LegacyStats.ensures

pub returns-in-Foreign : goal.returns-in-Foreign
returns-in-Foreign c = rw (type_by (layout_data c.args.layout.now) c.args.slot, c.in-Foreign.ensures.0, ← c.nchildren.ensures) c.foreign_type.ensures

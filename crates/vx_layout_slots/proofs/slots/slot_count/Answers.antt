use Rattle.std.proofs.Common.{refl, arith}
use Rattle.vx_layout_tree.specs.LayoutView.{layout_data}
use Rattle.vx_layout_slots.proofs.SlotSteps.{slots_by}
use Rattle.vx_layout_slots.proofs.slots.slot_count.Goals as goal

pub returns-in-Flat : goal.returns-in-Flat
returns-in-Flat c = rw c.in-Flat.ensures refl

pub returns-in-Chunked : goal.returns-in-Chunked
returns-in-Chunked c = rw (slots_by (layout_data c.args.layout.now), c.in-Chunked.ensures.0) c.nchildren.ensures

pub returns-in-Struct : goal.returns-in-Struct
returns-in-Struct c = rw (slots_by (layout_data c.args.layout.now), c.in-Struct.ensures.0, ← c.dtype.ensures) (omega (arith, c.field_count.ensures.count))

pub returns-in-List : goal.returns-in-List
returns-in-List c = rw (slots_by (layout_data c.args.layout.now), c.in-List.ensures.0) refl

pub returns-in-Dict : goal.returns-in-Dict
returns-in-Dict c = rw (slots_by (layout_data c.args.layout.now), c.in-Dict.ensures.0) refl

pub returns-in-Zoned : goal.returns-in-Zoned
returns-in-Zoned c = rw (slots_by (layout_data c.args.layout.now), c.in-Zoned.ensures.0) refl

pub returns-in-Unread : goal.returns-in-Unread
returns-in-Unread c = rw (slots_by (layout_data c.args.layout.now), c.in-Unread.ensures.0) refl

pub returns-in-LegacyStats : goal.returns-in-LegacyStats
returns-in-LegacyStats c = rw (slots_by (layout_data c.args.layout.now), c.in-LegacyStats.ensures.0) refl

pub returns-in-Foreign : goal.returns-in-Foreign
returns-in-Foreign c = rw (slots_by (layout_data c.args.layout.now), c.in-Foreign.ensures.0) c.nchildren-in-Foreign.ensures

-- A layout goes to another thread. Layouts reach themselves by their children, so each kind is shown from what it holds besides layouts (`leaves`), by the
-- induction that the tool makes of the cycle of their types (`TheKnot`). One search over all of it stops at its limits.
use denote.Param.Send.{IsSend, sendable, recorded_send}
use denote.Param.SendFields.{as_row_send}
use denote.Hole.{as_row}
use Rattle.std.proofs.Crossing as values
use Rattle.bytes.proofs.shared.Bytes.TheSendSync as bytes
use Rattle.vx_model.proofs.dtype.DType.TheLaws.TheKnot as types
use Rattle.vx_model.specs.contracts.dtype.DType as DType
use Rattle.vx_layout_tree.proofs.chunked.ChunkedLayout.TheLaws.TheKnot as layouts
use Rattle.vx_layout_tree.proofs.children.ViewedChildren.TheSendSync as viewed
use Rattle.vx_layout_tree.specs.contracts.children.ViewedChildren as ViewedChildren
use Rattle.vx_layout_tree.specs.contracts.chunked.ChunkedLayout as ChunkedLayout
use Rattle.vx_layout_tree.specs.contracts.dict.DictLayout as DictLayout
use Rattle.vx_layout_tree.specs.contracts.foreign.ForeignLayout as ForeignLayout
use Rattle.vx_layout_tree.specs.contracts.stats.LegacyStatsLayout as LegacyStatsLayout
use Rattle.vx_layout_tree.specs.contracts.list.ListLayout as ListLayout
use Rattle.vx_layout_tree.specs.contracts.structs.StructLayout as StructLayout
use Rattle.vx_layout_tree.specs.contracts.zoned.ZonedLayout as ZonedLayout
use Rattle.vx_layout_tree.specs.contracts.flat.FlatLayout as FlatLayout
use Rattle.vx_layout_tree.specs.contracts.layout.Layout as Layout

type_sends : IsSend (as_row DType.the_field)
type_sends = search (values.crosses, types.crosses, sendable) depth 60 fits 20000

viewed_sends : IsSend (as_row ViewedChildren.the_field)
viewed_sends = as_row_send ViewedChildren.the_field viewed.the_field_send

flat_sends : IsSend (FlatLayout.the_field).row
flat_sends = search (values.crosses, types.crosses, sendable) depth 60 fits 20000

leaf_sends : IsSend (as_row FlatLayout.the_field)
leaf_sends = as_row_send FlatLayout.the_field flat_sends

ruleset leaves = (type_sends, viewed_sends, leaf_sends, bytes.the_send, values.crosses, sendable)

chunked_sends : IsSend ChunkedLayout.the_row
chunked_sends = search (leaves, layouts.send-ChunkedLayout) depth 60 fits 20000

dict_sends : IsSend DictLayout.the_row
dict_sends = search (leaves, layouts.send-DictLayout) depth 60 fits 20000

foreign_sends : IsSend ForeignLayout.the_row
foreign_sends = search (leaves, layouts.send-ForeignLayout) depth 60 fits 20000

list_sends : IsSend ListLayout.the_row
list_sends = search (leaves, layouts.send-ListLayout) depth 60 fits 20000

stats_sends : IsSend LegacyStatsLayout.the_row
stats_sends = search (leaves, layouts.send-LegacyStatsLayout) depth 60 fits 20000

struct_sends : IsSend StructLayout.the_row
struct_sends = search (leaves, layouts.send-StructLayout) depth 60 fits 20000

zoned_sends : IsSend ZonedLayout.the_row
zoned_sends = search (leaves, layouts.send-ZonedLayout) depth 60 fits 20000

pub layout_sends : IsSend Layout.the_row
layout_sends = recorded_send (Layout.the_field).row _ _ (Layout.the_type).to_one
    (layouts.send-Layout flat_sends chunked_sends struct_sends list_sends dict_sends zoned_sends stats_sends foreign_sends)

use Rattle.std.proofs.lemmas.Result.{IfOk-weaker}
use Rattle.vx_layout_tree.specs.LayoutView.{layout_data}
use Rattle.vx_segment_map.specs.SegmentView.{segment_in}
use Rattle.vx_run.proofs.TableSteps.{owns, own_is, table_read}
use Rattle.vx_run.proofs.tables.read_table.Goals as goal

pub child_there-requires : goal.child_there-requires
child_there-requires c = let o = owns (segment_in c.args.segments.now) (layout_data c.args.layout.now) c.args.zone_len c.requires.there c.requires.zoned in (o.zones, o.second)

pub table_of-table-requires : goal.table_of-table-requires
table_of-table-requires c = rw c.layout.ensures (own_is (segment_in c.args.segments.now) (layout_data c.args.layout.now) c.args.zone_len _ c.requires.there c.requires.zoned c.in_ok-zones.ensures).0

pub returns : goal.returns
returns c =
    let o = own_is (segment_in c.args.segments.now) (layout_data c.args.layout.now) c.args.zone_len _ c.requires.there c.requires.zoned c.in_ok-zones.ensures in
    IfOk-weaker c.table_of-table.result _ _ (λ t h. table_read (segment_in c.args.segments.now) (layout_data c.args.layout.now) c.args.zone_len _ _ t o.1 c.layout.ensures h) c.table_of-table.ensures

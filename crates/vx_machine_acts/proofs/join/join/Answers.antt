use Rattle.std.proofs.Common.{map}
use Rattle.vx_layout_tree.specs.LayoutView.{layout_data}
use Rattle.vx_machine_state.specs.Acts.{layouts_in, joined_rows}
use Rattle.vx_machine_node.specs.View.{fold_of}
use Rattle.vx_machine_task.specs.View.{row}
use Rattle.vx_machine_acts.proofs.ActShows.{on_ok}
use Rattle.vx_machine_acts.proofs.JoinSteps.{shape_chunks, chunks_refused, shape_columns, shape_lists, shape_zones, shape_runs, runs_refused, columns_refused}
use Rattle.vx_machine_acts.proofs.join.join.Goals as goal

pub returns-in-Chunks-clause-layout : goal.returns-in-Chunks-clause-layout
returns-in-Chunks-clause-layout g c =
    shape_chunks c.args.shape c.in-Chunks.dtype c.deref.result.now (map layout_data c.in-Ok.layouts.items) (layouts_in (row c.args.kids.now.items)) c.gather-layout.result
    c.in-Chunks.is c.deref.ensures c.in-Ok.ensures.layouts c.gather-layout.ensures.layout

pub returns-in-Chunks-clause-no_kids : goal.returns-in-Chunks-clause-no_kids
returns-in-Chunks-clause-no_kids g c = on_ok c.gather-layout.result c.in-Ok.ensures.no_kids

pub returns-in-Chunks-clause-refused : goal.returns-in-Chunks-clause-refused
returns-in-Chunks-clause-refused g c =
    chunks_refused c.args.shape c.in-Chunks.dtype (map layout_data c.in-Ok.layouts.items) (layouts_in (row c.args.kids.now.items)) c.gather-layout.result
    c.in-Chunks.is c.in-Ok.ensures.layouts c.gather-layout.ensures.refused

pub returns-in-Columns-clause-layout : goal.returns-in-Columns-clause-layout
returns-in-Columns-clause-layout g c =
    shape_columns c.args.shape c.in-Columns.node c.in-Columns.rows (map layout_data c.in-Ok.layouts.items) (layouts_in (row c.args.kids.now.items)) c.join_all-layout.result
    c.in-Columns.is c.in-Ok.ensures.layouts c.join_all-layout.ensures.layout

pub returns-in-Columns-clause-no_kids : goal.returns-in-Columns-clause-no_kids
returns-in-Columns-clause-no_kids g c = on_ok c.join_all-layout.result c.in-Ok.ensures.no_kids

pub returns-in-Columns-clause-refused : goal.returns-in-Columns-clause-refused
returns-in-Columns-clause-refused g c = columns_refused (joined_rows (fold_of c.args.shape) (layouts_in (row c.args.kids.now.items))) c.join_all-layout.result c.join_all-layout.ensures.memory

pub returns-in-Lists-clause-layout : goal.returns-in-Lists-clause-layout
returns-in-Lists-clause-layout g c =
    shape_lists c.args.shape c.in-Lists.node c.in-Lists.rows (map layout_data c.in-Ok.layouts.items) (layouts_in (row c.args.kids.now.items)) c.join_parts-layout.result
    c.in-Lists.is c.in-Ok.ensures.layouts c.join_parts-layout.ensures.layout

pub returns-in-Lists-clause-no_kids : goal.returns-in-Lists-clause-no_kids
returns-in-Lists-clause-no_kids g c = on_ok c.join_parts-layout.result c.in-Ok.ensures.no_kids

pub returns-in-Lists-clause-refused : goal.returns-in-Lists-clause-refused
returns-in-Lists-clause-refused g c = columns_refused (joined_rows (fold_of c.args.shape) (layouts_in (row c.args.kids.now.items))) c.join_parts-layout.result c.join_parts-layout.ensures.memory

pub returns-in-Zones-clause-layout : goal.returns-in-Zones-clause-layout
returns-in-Zones-clause-layout g c =
    shape_zones c.args.shape c.in-Zones.zones (map layout_data c.in-Ok.layouts.items) (layouts_in (row c.args.kids.now.items)) c.join_zones.result c.in-Zones.is c.in-Ok.ensures.layouts c.join_zones.ensures.layout

pub returns-in-Zones-clause-no_kids : goal.returns-in-Zones-clause-no_kids
returns-in-Zones-clause-no_kids g c = on_ok c.join_zones.result c.in-Ok.ensures.no_kids

pub returns-in-Zones-clause-refused : goal.returns-in-Zones-clause-refused
returns-in-Zones-clause-refused g c = columns_refused (joined_rows (fold_of c.args.shape) (layouts_in (row c.args.kids.now.items))) c.join_zones.result c.join_zones.ensures.memory

pub returns-in-Runs-clause-layout : goal.returns-in-Runs-clause-layout
returns-in-Runs-clause-layout g c =
    shape_runs c.args.shape c.in-Runs.node c.in-Runs.rows c.deref-in-Runs.result.now (map layout_data c.in-Ok.layouts.items) (layouts_in (row c.args.kids.now.items)) c.join_runs-layout.result
    c.in-Runs.is c.deref-in-Runs.ensures c.in-Ok.ensures.layouts c.join_runs-layout.ensures.layout

pub returns-in-Runs-clause-no_kids : goal.returns-in-Runs-clause-no_kids
returns-in-Runs-clause-no_kids g c = on_ok c.join_runs-layout.result c.in-Ok.ensures.no_kids

pub returns-in-Runs-clause-refused : goal.returns-in-Runs-clause-refused
returns-in-Runs-clause-refused g c =
    runs_refused c.args.shape c.in-Runs.node c.in-Runs.rows c.deref-in-Runs.result.now (map layout_data c.in-Ok.layouts.items) (layouts_in (row c.args.kids.now.items)) c.join_runs-layout.result
    c.in-Runs.is c.deref-in-Runs.ensures c.in-Ok.ensures.layouts c.join_runs-layout.ensures.refused

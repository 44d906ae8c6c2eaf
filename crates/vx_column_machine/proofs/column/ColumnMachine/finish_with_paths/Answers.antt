use Rattle.std.proofs.Common.{◌≡◌, ◌++◌, [], map, length, slice_index_or, ap, sym, ◌∙◌, arith}
use Rattle.std.proofs.lemmas.List.{length-map}
use Rattle.vx_layout_segments.specs.Segments.{segments_in}
use Rattle.vx_layout_tree.specs.LayoutView.{layout_data}
use Rattle.vx_desk.specs.DeskView.{written_of}
use Rattle.vx_machine.specs.View.{machine_of}
use Rattle.vx_column_machine.proofs.Ending.{done_is, numbers_once, as_many, none_yet}
use Rattle.vx_column_machine.proofs.column.ColumnMachine.finish_with_paths.Goals as goal

pub paths_in_order-requires-clause-apart : goal.paths_in_order-requires-clause-apart
paths_in_order-requires-clause-apart g c =
    numbers_once c.course_ends.ensures.ends c.course_counts.ensures.fit c.requires.underway.0 (machine_of c.args.self.machine) (g.B.BatchSource.to_come c.args.self.source) (written_of c.args.self.desk) c.args.self.paths.items
    c.requires.underway.1.stands c.requires.done.1 (layout_data c.finish-layout.result) c.finish-layout.ensures.layout

pub paths_in_order-requires-clause-room : goal.paths_in_order-requires-clause-room
paths_in_order-requires-clause-room g c =
    let many : length (segments_in (layout_data c.finish-layout.result)) ≡ length c.args.self.paths.items
    = as_many c.course_ends.ensures.ends c.course_counts.ensures.fit c.requires.underway.0 (machine_of c.args.self.machine) (g.B.BatchSource.to_come c.args.self.source) (written_of c.args.self.desk) c.args.self.paths.items
    c.requires.underway.1.stands c.requires.done.1 (layout_data c.finish-layout.result) c.finish-layout.ensures.layout in
    omega (arith, many, c.requires.balance.unordered, c.requires.balance.room, c.args.self.paths.ok.0)

pub returns-clause-done : goal.returns-clause-done
returns-clause-done g c = λ x h.
    done_is c.course_ends.ensures.ends c.course_counts.ensures.fit x (machine_of c.args.self.machine) (g.B.BatchSource.to_come c.args.self.source) (written_of c.args.self.desk) c.args.self.paths.items h.stands
    c.requires.done.1 (layout_data c.finish-layout.result) c.finish-layout.ensures.layout c.in-Ok.in_order.items
    (c.in-Ok.ensures ∙ ap (λ z. z ++ map (λ n. slice_index_or c.args.self.paths.items n []) (segments_in (layout_data c.finish-layout.result))) (none_yet c.args.self.ordered.items (sym c.args.self.ordered.ok.0 ∙ c.requires.balance.unordered)))

pub returns-clause-count : goal.returns-clause-count
returns-clause-count g c =
    ap length (c.in-Ok.ensures ∙ ap (λ z. z ++ map (λ n. slice_index_or c.args.self.paths.items n []) (segments_in (layout_data c.finish-layout.result))) (none_yet c.args.self.ordered.items (sym c.args.self.ordered.ok.0 ∙ c.requires.balance.unordered)))
    ∙ length-map (segments_in (layout_data c.finish-layout.result)) (λ n. slice_index_or c.args.self.paths.items n [])
    ∙ as_many c.course_ends.ensures.ends c.course_counts.ensures.fit c.requires.underway.0 (machine_of c.args.self.machine) (g.B.BatchSource.to_come c.args.self.source) (written_of c.args.self.desk) c.args.self.paths.items
    c.requires.underway.1.stands c.requires.done.1 (layout_data c.finish-layout.result) c.finish-layout.ensures.layout

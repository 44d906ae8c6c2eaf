use Rattle.std.proofs.Common.{map, refl, ap, sym, ◌∙◌, arith}
use Rattle.std.specs.Arc.{arc_value}
use Rattle.vx_model.specs.TyView.{ty}
use Rattle.vx_layout_spec.specs.LayoutTree.{struct_layout}
use Rattle.vx_layout_tree.specs.LayoutView.{layout_data}
use Rattle.vx_machine_state.specs.State as view
use Rattle.vx_machine_node.specs.declared.node.Local.TheVariants.{Over, Made}
use Rattle.vx_machine_node.specs.View.{todo_of}
use Rattle.vx_machine_node.proofs.DueSteps.{two_free}
use Rattle.vx_machine_node.proofs.ReservedSteps.{dues_push}
use Rattle.vx_machine_nodes.proofs.TakeShows.{two_more}
use Rattle.vx_machine_acts.proofs.TakeShows.{columns_made, columns_end}
use Rattle.vx_machine_acts.proofs.ends.end_columns.Goals as goal

pub returns-clause-todo : goal.returns-clause-todo
returns-clause-todo c = two_free c.args.todo.now.items c.push_back_reserved.new.self.items c.push_back_reserved-2.new.self.items _ _ c.push_back_reserved.ensures.items c.push_back_reserved-2.ensures.items refl refl

pub returns-in-Ok-clause-done : goal.returns-in-Ok-clause-done
returns-in-Ok-clause-done c =
    columns_made c.args.node c.args.rows c.args.kids (Made c.in-Ok.layout) (todo_of c.args.todo.now.items) (todo_of c.args.todo.now.items) (sym c.has_no_columns.ensures ∙ c.if-has_no_columns.true)
    (ap view.made (c.in-Ok.ensures.layout ∙ ap (λ ls. struct_layout (ty (arc_value c.args.node.dtype)) c.args.rows (map layout_data ls)) c.new.ensures.items)) refl

pub returns-clause-done : goal.returns-clause-done
returns-clause-done c =
    columns_end c.args.node c.args.rows c.args.kids Over (todo_of c.push_back_reserved-2.new.self.items) (todo_of c.args.todo.now.items) (sym c.has_no_columns.ensures ∙ c.if-has_no_columns.false) refl
    (two_more c.args.todo.now.items c.push_back_reserved.new.self.items c.push_back_reserved-2.new.self.items _ _ c.push_back_reserved.ensures.items c.push_back_reserved-2.ensures.items)

pub returns-clause-reserved : goal.returns-clause-reserved
returns-clause-reserved c =
    omega (arith, dues_push c.push_back_reserved.new.self.items c.args.todo.now.items _ c.push_back_reserved.ensures.items, dues_push c.push_back_reserved-2.new.self.items c.push_back_reserved.new.self.items _ c.push_back_reserved-2.ensures.items)

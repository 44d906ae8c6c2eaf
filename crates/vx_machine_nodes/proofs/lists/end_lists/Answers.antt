use Rattle.std.proofs.Common.{refl, sym, ◌∙◌, arith}
use Rattle.vx_machine_node.specs.declared.node.Local.TheVariants.{Over}
use Rattle.vx_machine_node.specs.View.{todo_of}
use Rattle.vx_machine_node.proofs.DueSteps.{two_free}
use Rattle.vx_machine_node.proofs.ReservedSteps.{dues_push}
use Rattle.vx_machine_nodes.proofs.TakeShows.{lists_end, lists_empty, two_more}
use Rattle.vx_machine_nodes.proofs.lists.end_lists.Goals as goal

pub returns-clause-todo : goal.returns-clause-todo
returns-clause-todo c = two_free c.args.todo.now.items c.push_back_reserved.new.self.items c.push_back_reserved-2.new.self.items _ _ c.push_back_reserved.ensures.items c.push_back_reserved-2.ensures.items refl refl

pub returns-clause-done : goal.returns-clause-done
returns-clause-done c =
    lists_end c.args.node c.args.rows c.args.kids Over (todo_of c.push_back_reserved-2.new.self.items) (todo_of c.args.todo.now.items) (sym c.is_first.ensures ∙ c.if-is_first.false) refl
    (two_more c.args.todo.now.items c.push_back_reserved.new.self.items c.push_back_reserved-2.new.self.items _ _ c.push_back_reserved.ensures.items c.push_back_reserved-2.ensures.items)

pub returns-then-is_first-clause-refused : goal.returns-then-is_first-clause-refused
returns-then-is_first-clause-refused c = lists_empty c.args.node c.args.rows c.args.kids (sym c.is_first.ensures ∙ c.if-is_first.true)

pub returns-clause-reserved : goal.returns-clause-reserved
returns-clause-reserved c =
    omega (arith, dues_push c.push_back_reserved.new.self.items c.args.todo.now.items _ c.push_back_reserved.ensures.items, dues_push c.push_back_reserved-2.new.self.items c.push_back_reserved.new.self.items _ c.push_back_reserved-2.ensures.items)

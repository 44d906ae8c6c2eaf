use Rattle.std.proofs.Common.{◌≡◌, ◌∙◌, vec_len, rules, arith, sym, ◌++◌}
use Rattle.vx_machine_ids.specs.Stock.{both, all_ids}
use Rattle.vx_machine_node.specs.Stocks.{dues_stock}
use Rattle.vx_machine_node.proofs.DueSteps.{all_put}
use Rattle.vx_machine_state.specs.Acts.{puts}
use Rattle.vx_machine_node.specs.View.{todo_of}
use Rattle.vx_machine_nodes.proofs.PutSteps.{puts_less, puts_all}
use Rattle.vx_machine_nodes.proofs.columns.add_puts.Goals as goal

pub returns-clause-stock : goal.returns-clause-stock
returns-clause-stock c =
    let z : vec_len c.puts.ids ≡ 0 = search (rules, arith) in
    all_put c.puts.ids.items (dues_stock c.puts.todo.items) (both (all_ids c.args.ids) (dues_stock c.args.todo.now.items)) (sym c.puts.ids.ok.0 ∙ z) c.puts.invariant.stock

pub returns-clause-all : goal.returns-clause-all
returns-clause-all c = λ p is.
    let z : vec_len c.puts.columns ≡ 0 = search (rules, arith) in
    puts_all p c.puts.columns.items (todo_of c.puts.todo.items) (puts 0 p c.args.columns.items ++ todo_of c.args.todo.now.items) (sym c.puts.columns.ok.0 ∙ z) (c.puts.invariant.order p is).1

pub puts-preserved : goal.puts-preserved
puts-preserved c = record {
  same = search (rules, arith);
  room = search (rules, arith);
  stock = c.add_put.ensures.stock ∙ c.puts.invariant.stock;
  reserved = c.add_put.ensures.reserved ∙ c.puts.invariant.reserved;
  order = λ p is.
      let o = c.puts.invariant.order p is in
      let a = c.add_put.ensures.next p o.0 in (
        a.0,
        puts_less p c.puts.columns.items c.pop.new.self.items c.in-Some.chunk (vec_len c.add_put.new.ids) (todo_of c.puts.todo.items) (todo_of c.add_put.new.todo.items)
            (puts 0 p c.args.columns.items ++ todo_of c.args.todo.now.items) c.in-Some.ensures.items (omega (arith, c.pop.new.self.ok.0, c.in-Some.ensures.cases, c.add_put.ensures.ids, c.puts.invariant.same)) a.1 o.1,
      );
}

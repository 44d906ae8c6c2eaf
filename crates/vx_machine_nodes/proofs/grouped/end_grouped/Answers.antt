use Rattle.std.proofs.Common.{[], ◌∷◌, ◌++◌, ap, refl, sym, ◌∙◌, arith, append-nil}
use Rattle.std.proofs.lemmas.List.{map_push}
use Rattle.vx_machine_ids.specs.Stock.{none, both}
use Rattle.vx_machine_ids.proofs.MoveLaws.{moved_as}
use Rattle.vx_machine_ids.proofs.Stocks.{none_both}
use Rattle.vx_machine_state.specs.State.{shut_kids}
use Rattle.vx_machine_node.specs.declared.item.Due.TheVariants.{Close}
use Rattle.vx_machine_node.specs.Ledger.{dues_reserved}
use Rattle.vx_machine_node.specs.Regrouped.{rest_hands}
use Rattle.vx_machine_node.specs.Sizes.{sum_of}
use Rattle.vx_machine_node.specs.Stocks.{dues_stock, node_stock}
use Rattle.vx_machine_node.specs.View.{next_of, todo_of}
use Rattle.vx_machine_node.proofs.DueSteps.{one_free}
use Rattle.vx_machine_nodes.proofs.GroupEnds.{group_ended}
use Rattle.vx_machine_node.proofs.ReservedSteps.{dues_push}
use Rattle.vx_machine_nodes.proofs.grouped.end_grouped.Goals as goal

pub returns-in_ok-reserve-in-Ok-clause-moved : goal.returns-in_ok-reserve-in-Ok-clause-moved
returns-in_ok-reserve-in-Ok-clause-moved g c =
    let before = both (node_stock c.args.node) (dues_stock c.args.todo.now.items) in
    let now = dues_stock c.push_back_reserved.new.self.items in
    moved_as (g.O.Order.active c.args.order.now) (g.O.Order.active c.hand_rest.new.order) before before (dues_stock c.hand_rest.new.todo.items) (both none now) refl
    (sym (none_both now ∙ one_free c.reserve.new.self.items c.push_back_reserved.new.self.items Close c.push_back_reserved.ensures.items refl ∙ ap dues_stock c.reserve.ensures.items)) c.hand_rest.ensures.moved

pub returns-in_ok-reserve-in-Ok-clause-tracked : goal.returns-in_ok-reserve-in-Ok-clause-tracked
returns-in_ok-reserve-in-Ok-clause-tracked g c =
    omega (
      arith,
      c.hand_rest.ensures.balance,
      ap sum_of c.in-Ok.ensures.none,
      ap dues_reserved c.reserve.ensures.items,
      dues_push c.push_back_reserved.new.self.items c.reserve.new.self.items Close c.push_back_reserved.ensures.items,
    )

pub returns-in_ok-reserve-in-Ok-clause-done : goal.returns-in_ok-reserve-in-Ok-clause-done
returns-in_ok-reserve-in-Ok-clause-done g c = λ idle kids s ks same.
    let rest = rest_hands c.args.node.rule c.args.node.newest in
    group_ended s c.args.node.rule c.args.node.newest c.args.node.rows ks (todo_of c.push_back_reserved.new.self.items) (todo_of c.args.todo.now.items) (ap todo_of idle) c.in-Ok.ensures.fits
    (ap todo_of (c.push_back_reserved.ensures.items ∙ ap (λ z. z ++ (Close ∷ [])) c.reserve.ensures.items) ∙ map_push next_of c.hand_rest.new.todo.items Close
    ∙ ap (λ z. z ++ (shut_kids ∷ [])) (c.in-Ok.ensures.done ∙ ap (λ z. rest ++ todo_of z) idle ∙ append-nil rest))

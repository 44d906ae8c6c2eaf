use Rattle.std.proofs.Common.{◌<◌, [], ◌∷◌, length, ◌∙◌, vec_len, refl, sym, ap, arith, length-append}
use Rattle.std.specs.VecDeque.{deque_len}
use Rattle.vx_machine_node.proofs.DueSteps.{put_stock}
use Rattle.vx_machine_nodes.proofs.GroupHands.{hand_balance, last_reserved, none_reserved, hand_last}
use Rattle.vx_machine_nodes.proofs.PutSteps.{last_child}
use Rattle.vx_machine_nodes.proofs.grouped.add_hand.Goals as goal

pub returns-clause-stock : goal.returns-clause-stock
returns-clause-stock c = put_stock c.args.ids.now.items c.pop.new.self.items c.in-Some.id c.args.todo.now.items c.push_front_reserved.new.self.items _ c.in-Some.ensures.items c.push_front_reserved.ensures.items refl

pub returns-clause-balance : goal.returns-clause-balance
returns-clause-balance c =
    hand_balance c.args.reserved.now.items c.pop_back-reservation.new.self.items c.pop_back-reservation.result c.args.todo.now.items c.push_front_reserved.new.self.items _
    c.pop_back-reservation.ensures.items c.push_front_reserved.ensures.items

pub returns-clause-weighed : goal.returns-clause-weighed
returns-clause-weighed c = λ p rest n is e.
    let some : 0 < deque_len c.args.reserved.now = omega (arith, c.args.reserved.now.ok.0, ap length e, length-append rest (n ∷ [])) in
    let r = last_reserved c.args.reserved.now.items c.pop_back-reservation.new.self.items rest c.pop_back-reservation.result n _ (c.pop_back-reservation.ensures.value 0 some) c.pop_back-reservation.ensures.items e in (
      r.0,
      hand_last p c.args.ids.now c.pop.new.self c.in-Some.id c.args.todo.now.items c.push_front_reserved.new.self.items c.args.chunk c.pop_back-reservation.result n
          c.in-Some.ensures.items c.in-Some.ensures.cases is c.push_front_reserved.ensures.items r.1,
    )

pub returns-clause-rest : goal.returns-clause-rest
returns-clause-rest c = λ p is.
    (last_child p (vec_len c.args.ids.now) (vec_len c.pop.new.self) c.pop.new.self.items c.in-Some.id c.in-Some.ensures.cases (sym c.in-Some.ensures.items ∙ is)).0

pub returns-clause-unweighed : goal.returns-clause-unweighed
returns-clause-unweighed c = λ p is e.
    let r = none_reserved c.args.reserved.now.items c.pop_back-reservation.new.self.items c.pop_back-reservation.result c.pop_back-reservation.ensures.items e in (
      r.0,
      hand_last p c.args.ids.now c.pop.new.self c.in-Some.id c.args.todo.now.items c.push_front_reserved.new.self.items c.args.chunk c.pop_back-reservation.result 0
          c.in-Some.ensures.items c.in-Some.ensures.cases is c.push_front_reserved.ensures.items r.1,
    )

use Rattle.std.proofs.Common.{◌≡◌, ◌++◌, ◌∷◌, [], map, vec_len, rules, arith, refl, sym, ap, ◌∙◌, append_assoc, append-nil}
use Rattle.std.proofs.lemmas.List.{map-append}
use Rattle.vx_model.specs.ChunkData.{held}
use Rattle.vx_rules.specs.Regroup.{ranked}
use Rattle.vx_machine_ids.specs.Stock.{both, all_ids}
use Rattle.vx_machine_state.specs.Acts.{hand_all}
use Rattle.vx_machine_node.specs.Stocks.{dues_stock}
use Rattle.vx_machine_node.specs.View.{todo_of}
use Rattle.vx_machine_node.proofs.DueSteps.{all_put}
use Rattle.vx_machine_nodes.proofs.GroupHands.{hands_less, hands_all}
use Rattle.vx_machine_node.proofs.ListParts.{none_is}
use Rattle.vx_machine_nodes.proofs.grouped.add_hands.Goals as goal

pub hands-init : goal.hands-init
hands-init c = record {
  same = c.requires.same;
  room = c.requires.room;
  stock = refl;
  balance = refl;
  space = λ h. h;
  ids = λ p is. is;
  weighed = λ p rest is e. (e, refl);
  unweighed = λ p is e. (e, refl);
}

pub hands-preserved : goal.hands-preserved
hands-preserved c = record {
  same = search (rules, arith);
  room = search (rules, arith);
  stock = c.add_hand.ensures.stock ∙ c.hands.invariant.stock;
  balance = c.add_hand.ensures.balance ∙ c.hands.invariant.balance;
  space = λ h. c.add_hand.ensures.room (c.hands.invariant.space h);
  ids = λ p is. c.add_hand.ensures.rest p (c.hands.invariant.ids p is);
  weighed = λ p rest is e.
      let o = c.hands.invariant.weighed p rest is e in
      let i = c.hands.invariant.ids p is in
      let apart : c.hands.reserved.items ≡ (rest ++ map held c.pop.new.self.items) ++ (held c.in-Some.chunk ∷ []) =
      o.0 ∙ ap (λ z. rest ++ map held z) c.in-Some.ensures.items ∙ ap (λ z. rest ++ z) (map-append held c.pop.new.self.items (c.in-Some.chunk ∷ []))
      ∙ sym (append_assoc rest (map held c.pop.new.self.items) (held c.in-Some.chunk ∷ [])) in
      let a = c.add_hand.ensures.weighed p (rest ++ map held c.pop.new.self.items) (held c.in-Some.chunk) i apart in (
        a.0,
        hands_less held p c.hands.chunks.items c.pop.new.self.items c.in-Some.chunk (held c.in-Some.chunk) (vec_len c.add_hand.new.ids) (todo_of c.hands.todo.items) (todo_of c.add_hand.new.todo.items)
            (hand_all held (ranked p 0 c.args.chunks.items) ++ todo_of c.args.todo.now.items) c.in-Some.ensures.items
            (omega (arith, c.pop.new.self.ok.0, c.in-Some.ensures.cases, c.add_hand.ensures.ids, c.hands.invariant.same)) refl a.1 o.1,
      );
  unweighed = λ p is e.
      let o = c.hands.invariant.unweighed p is e in
      let a = c.add_hand.ensures.unweighed p (c.hands.invariant.ids p is) o.0 in (
        a.0,
        hands_less (λ x. 0) p c.hands.chunks.items c.pop.new.self.items c.in-Some.chunk 0 (vec_len c.add_hand.new.ids) (todo_of c.hands.todo.items) (todo_of c.add_hand.new.todo.items)
            (hand_all (λ x. 0) (ranked p 0 c.args.chunks.items) ++ todo_of c.args.todo.now.items) c.in-Some.ensures.items
            (omega (arith, c.pop.new.self.ok.0, c.in-Some.ensures.cases, c.add_hand.ensures.ids, c.hands.invariant.same)) refl a.1 o.1,
      );
}

pub returns-clause-stock : goal.returns-clause-stock
returns-clause-stock c =
    let z : vec_len c.hands.ids ≡ 0 = search (rules, arith) in
    all_put c.hands.ids.items (dues_stock c.hands.todo.items) (both (all_ids c.args.ids) (dues_stock c.args.todo.now.items)) (sym c.hands.ids.ok.0 ∙ z) c.hands.invariant.stock

pub returns-clause-weighed : goal.returns-clause-weighed
returns-clause-weighed c = λ p rest is e.
    let z : vec_len c.hands.chunks ≡ 0 = search (rules, arith) in
    let o = c.hands.invariant.weighed p rest is e in (
      o.0 ∙ ap (λ x. rest ++ map held x) (none_is c.hands.chunks.items (sym c.hands.chunks.ok.0 ∙ z)) ∙ append-nil rest,
      hands_all held p c.hands.chunks.items (todo_of c.hands.todo.items) (hand_all held (ranked p 0 c.args.chunks.items) ++ todo_of c.args.todo.now.items) (sym c.hands.chunks.ok.0 ∙ z) o.1,
    )

pub returns-clause-unweighed : goal.returns-clause-unweighed
returns-clause-unweighed c = λ p is e.
    let z : vec_len c.hands.chunks ≡ 0 = search (rules, arith) in
    let o = c.hands.invariant.unweighed p is e in (
      o.0,
      hands_all (λ x. 0) p c.hands.chunks.items (todo_of c.hands.todo.items) (hand_all (λ x. 0) (ranked p 0 c.args.chunks.items) ++ todo_of c.args.todo.now.items) (sym c.hands.chunks.ok.0 ∙ z) o.1,
    )

use Rattle.std.proofs.Common.{◌++◌, map, ap, sym, ◌∙◌}
use Rattle.std.proofs.lemmas.List.{length-map}
use Rattle.vx_model.specs.ChunkData.{held}
use Rattle.vx_order.specs.Ids.{children}
use Rattle.vx_rules.specs.Regroup.{ranked}
use Rattle.vx_machine_state.specs.Acts.{hand_all}
use Rattle.vx_machine_node.specs.View.{todo_of}
use Rattle.vx_machine_nodes.proofs.grouped.hand.Goals as goal

pub returns-in-Ok-take_children-clause-weighed : goal.returns-in-Ok-take_children-clause-weighed
returns-in-Ok-take_children-clause-weighed g c = λ rest e.
    let ids = c.in-Ok-take_children.ensures.ids ∙ ap (children c.args.id) (sym c.in-Ok-take_children.ensures.count) in
    let count = length-map c.args.chunks.items held ∙ sym c.args.chunks.ok.0 ∙ sym c.len-in-Ok-take_children.ensures in
    let h = c.add_hands.ensures.weighed c.args.id rest ids (c.turn.ensures.turned (map held c.args.chunks.items) rest e count) in
    (h.0, h.1 ∙ ap (λ z. hand_all held (ranked c.args.id 0 c.args.chunks.items) ++ todo_of z) c.reserve.ensures.items)

use Rattle.std.proofs.Common.{◌<◌, ◌^◌, Option, false, refl, sym, ap, subst, ◌∙◌}
use Rattle.vx_machine_node.specs.declared.item.Item.{Item}
use Rattle.vx_machine_nodes.specs.Acting.{ListRefused}
use Rattle.vx_machine_node.specs.Causes.{MayCome}
use Rattle.vx_machine_node.specs.Regrouped.{misfit_in, sizes_in, acted_numbers, ActedOn}
use Rattle.vx_machine_node.specs.Sizes.{sum_of}
use Rattle.vx_machine_node.specs.View.{todo_of}
use Rattle.vx_machine_nodes.proofs.GroupActs.{takes_fitting, acted_on, acted_cause}
use Rattle.vx_machine_nodes.proofs.grouped.act_on.Goals as goal

pub react-requires : goal.react-requires
react-requires g c = takes_fitting c.args.rule c.in-Some.field-0.chunk (ap (misfit_in c.args.rule) (sym c.in-Some.is) ∙ c.requires.typed)

pub returns-in-Ok-hand-clause-done : goal.returns-in-Ok-hand-clause-done
returns-in-Ok-hand-clause-done g c =
    subst (λ (j : Option Item). ActedOn c.args.rule j c.react.new.self c.hand.new.reserved.items (todo_of c.hand.new.todo.items) (todo_of c.args.todo.now.items)) (sym c.in-Some.is)
    (acted_on c.in-Some.field-0 c.react.new.self c.in-Ok.chunks.items c.args.reserved.now.items c.hand.new.reserved.items (todo_of c.hand.new.todo.items) (todo_of c.args.todo.now.items)
    c.in-Ok-hand.ensures.fits c.in-Ok-hand.ensures.weighed c.in-Ok-hand.ensures.unweighed c.args.rule c.in-Ok.ensures.gives (c.in-Ok.ensures.holds refl) c.in-Ok.ensures.fits
    (c.requires.weighed ∙ ap (sizes_in c.args.rule) c.in-Some.is))

pub returns-in-Err-clause-refused : goal.returns-in-Err-clause-refused
returns-in-Err-clause-refused g c =
    subst (λ (j : Option Item). ListRefused false (acted_numbers c.args.rule j) c.refusal.result) (sym c.in-Some.is)
    (acted_cause (λ ns. ListRefused false ns c.refusal.result) c.args.rule c.in-Some.field-0 c.in-Err.error c.in-Err.ensures.refused
    (subst (λ z. sum_of z < 2 ^ 64) (c.requires.weighed ∙ ap (sizes_in c.args.rule) c.in-Some.is) c.requires.few) c.refusal.ensures.refused)

pub returns-in-Err-clause-cause : goal.returns-in-Err-clause-cause
returns-in-Err-clause-cause g c =
    acted_cause (λ ns. MayCome c.refusal.result) c.args.rule c.in-Some.field-0 c.in-Err.error c.in-Err.ensures.refused
    (subst (λ z. sum_of z < 2 ^ 64) (c.requires.weighed ∙ ap (sizes_in c.args.rule) c.in-Some.is) c.requires.few) c.refusal.ensures.cause

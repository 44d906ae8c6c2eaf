use Rattle.std.proofs.Common.{◌++◌, Option, false, sym, ap, subst, ◌∙◌, arith}
use Rattle.std.proofs.lemmas.Result.{on_ok_weaker}
use Rattle.vx_machine_node.specs.declared.item.Item.{Item}
use Rattle.vx_machine_nodes.specs.Acting.{ListRefused}
use Rattle.vx_machine_node.specs.Causes.{MayCome}
use Rattle.vx_machine_node.specs.Regrouped.{misfit_in, sizes_in, rows_counted, acted_numbers, rest_hands, RestFits}
use Rattle.vx_machine_node.specs.View.{todo_of}
use Rattle.vx_machine_nodes.proofs.GroupActs.{takes_fitting, rest_handed, rest_cause, rest_fits, all_ok, whole_one, whole_unreserved, whole_handed}
use Rattle.vx_machine_nodes.proofs.grouped.hand_rest.Goals as goal

pub react-rest-requires : goal.react-rest-requires
react-rest-requires g c = takes_fitting c.args.rule c.in-Some.field-0.chunk (ap (misfit_in c.args.rule) (sym c.in-Some.is) ∙ c.requires.typed)

pub hand_whole-requires-clause-one : goal.hand_whole-requires-clause-one
hand_whole-requires-clause-one g c =
    c.in-Ok.chunks.ok.0 ∙ whole_one c.args.rule c.in-Some.field-0.chunk c.in-Ok.chunks.items (sym c.collects-whole.ensures ∙ c.if-whole.true) c.in-Ok.ensures.gives

pub returns-then-whole-clause-none : goal.returns-then-whole-clause-none
returns-then-whole-clause-none g c =
    on_ok_weaker c.hand_whole.result (λ d. c.requires.weighed ∙ whole_unreserved c.args.rule c.args.newest (sym c.collects-whole.ensures ∙ c.if-whole.true)) c.hand_whole.ensures.done

pub returns-then-whole-clause-done : goal.returns-then-whole-clause-done
returns-then-whole-clause-done g c =
    on_ok_weaker c.hand_whole.result
    (λ d. whole_handed c.args.rule c.in-Some.field-0 c.in-Ok.chunks.items (todo_of c.hand_whole.new.todo.items) (todo_of c.args.todo.now.items) (sym c.collects-whole.ensures ∙ c.if-whole.true) c.in-Ok.ensures.gives d
    ∙ ap (λ (j : Option Item). rest_hands c.args.rule j ++ todo_of c.args.todo.now.items) (sym c.in-Some.is))
    c.hand_whole.ensures.done

pub returns-then-whole-clause-fits : goal.returns-then-whole-clause-fits
returns-then-whole-clause-fits g c =
    let one = whole_one c.args.rule c.in-Some.field-0.chunk c.in-Ok.chunks.items (sym c.collects-whole.ensures ∙ c.if-whole.true) c.in-Ok.ensures.gives in
    on_ok_weaker c.hand_whole.result
    (λ d. subst (λ (j : Option Item). RestFits c.args.rule j) (sym c.in-Some.is) (rest_fits c.args.rule c.in-Some.field-0 c.in-Ok.chunks.items c.in-Ok.ensures.gives c.in-Ok.ensures.fits (omega (arith, one))))
    c.hand_whole.ensures.done

pub returns-else-whole-clause-none : goal.returns-else-whole-clause-none
returns-else-whole-clause-none g c =
    all_ok c.hand.result
    (λ few weighed unweighed. (rest_handed c.in-Some.field-0 c.args.rule c.in-Ok.chunks.items c.args.reserved.now.items c.hand.new.reserved.items (todo_of c.hand.new.todo.items) (todo_of c.args.todo.now.items)
    few weighed unweighed c.args.rule (sym c.collects-whole.ensures ∙ c.if-whole.false) c.in-Ok.ensures.gives (c.requires.weighed ∙ ap (sizes_in c.args.rule) c.in-Some.is)).0)
    c.hand.ensures.fits c.hand.ensures.weighed c.hand.ensures.unweighed

pub returns-else-whole-clause-done : goal.returns-else-whole-clause-done
returns-else-whole-clause-done g c =
    all_ok c.hand.result
    (λ few weighed unweighed. (rest_handed c.in-Some.field-0 c.args.rule c.in-Ok.chunks.items c.args.reserved.now.items c.hand.new.reserved.items (todo_of c.hand.new.todo.items) (todo_of c.args.todo.now.items)
    few weighed unweighed c.args.rule (sym c.collects-whole.ensures ∙ c.if-whole.false) c.in-Ok.ensures.gives (c.requires.weighed ∙ ap (sizes_in c.args.rule) c.in-Some.is)).1
    ∙ ap (λ (j : Option Item). rest_hands c.args.rule j ++ todo_of c.args.todo.now.items) (sym c.in-Some.is))
    c.hand.ensures.fits c.hand.ensures.weighed c.hand.ensures.unweighed

pub returns-else-whole-clause-fits : goal.returns-else-whole-clause-fits
returns-else-whole-clause-fits g c =
    on_ok_weaker c.hand.result
    (λ few. subst (λ (j : Option Item). RestFits c.args.rule j) (sym c.in-Some.is) (rest_fits c.args.rule c.in-Some.field-0 c.in-Ok.chunks.items c.in-Ok.ensures.gives c.in-Ok.ensures.fits few))
    c.hand.ensures.fits

pub returns-in-Err-clause-refused : goal.returns-in-Err-clause-refused
returns-in-Err-clause-refused g c =
    subst (λ (j : Option Item). ListRefused false (acted_numbers c.args.rule j) c.refusal.result) (sym c.in-Some.is)
    (rest_cause (λ ns. ListRefused false ns c.refusal.result) c.args.rule c.in-Some.field-0 c.args.rows c.in-Err.error c.in-Err.ensures.refused
    (ap (λ (j : Option Item). rows_counted c.args.rule j c.args.rows) (sym c.in-Some.is) ∙ c.requires.counted) (omega arith) c.refusal.ensures.refused)

pub returns-in-Err-clause-cause : goal.returns-in-Err-clause-cause
returns-in-Err-clause-cause g c =
    rest_cause (λ ns. MayCome c.refusal.result) c.args.rule c.in-Some.field-0 c.args.rows c.in-Err.error c.in-Err.ensures.refused
    (ap (λ (j : Option Item). rows_counted c.args.rule j c.args.rows) (sym c.in-Some.is) ∙ c.requires.counted) (omega arith) c.refusal.ensures.cause

use Rattle.std.proofs.Common.{sym, subst, ap, ◌∙◌}
use Rattle.vx_sequence.specs.Universe.{Active, IsActive, released}
use Rattle.vx_machine_ids.specs.Stock.{none, end_stock}
use Rattle.vx_machine_ids.specs.Balance.{Moved}
use Rattle.vx_machine_ids.proofs.CallLaws.{end_active, downgraded_moved}
use Rattle.vx_machine_ids.proofs.ids.give_up_pointer.Goals as goal

pub release-requires : goal.release-requires
release-requires g c =
    let u : Active = g.O.Order.active c.args.order.now in
    subst (λ p. IsActive u p) (sym c.downgrade.ensures) (end_active u c.args.pointer c.requires)

pub returns-clause-moved : goal.returns-clause-moved
returns-clause-moved g c =
    let u : Active = g.O.Order.active c.args.order.now in
    subst (λ v. Moved u v (end_stock c.args.pointer) none) (sym (c.release.ensures.active ∙ ap (released u) c.downgrade.ensures))
    (downgraded_moved u c.args.pointer (end_active u c.args.pointer c.requires))

use Rattle.std.proofs.Common.{sym, subst, ap, ◌∙◌}
use Rattle.vx_sequence.specs.Universe.{IsActive, released}
use Rattle.vx_machine_ids.specs.Stock.{none, end_stock}
use Rattle.vx_machine_ids.specs.Balance.{Moved}
use Rattle.vx_machine_ids.proofs.CallLaws.{end_active, downgraded_moved}
use Rattle.vx_column_ids.proofs.ids.give_up_pointer.Goals as goal

pub release-requires : goal.release-requires
release-requires c = subst (λ p. IsActive c.args.universe.now p) (sym c.downgrade.ensures) (end_active c.args.universe.now c.args.pointer c.requires)

pub returns : goal.returns
returns c =
    subst (λ v. Moved c.args.universe.now v (end_stock c.args.pointer) none) (sym (c.release.ensures.universe ∙ ap (released c.args.universe.now) c.downgrade.ensures))
    (downgraded_moved c.args.universe.now c.args.pointer (end_active c.args.universe.now c.args.pointer c.requires))

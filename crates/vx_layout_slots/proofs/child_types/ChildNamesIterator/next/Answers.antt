use Rattle.std.proofs.Common.{◌≡◌, refl, subst}
use Rattle.std.specs.Prelude.{IfOk}
use Rattle.vx_layout_slots.specs.declared.child_type.LayoutChildType.{LayoutChildType}
use Rattle.vx_layout_slots.specs.Slots.{child_name}
use Rattle.vx_layout_slots.proofs.child_types.ChildNamesIterator.next.Goals as goal

pub returns-in-Ok-clause-steps : goal.returns-in-Ok-clause-steps
returns-in-Ok-clause-steps c =
    let p = c.in_ok-child.ensures.steps in
    let P : LayoutChildType → Type 0 = λ t. IfOk c.into_name.result (λ z. z ≡ child_name t) in
    (child_name p.0, rw p.1 refl, subst P (rw c.in-Ok.is at p.2) c.into_name.ensures)

pub returns-in-Err-clause-steps : goal.returns-in-Err-clause-steps
returns-in-Err-clause-steps c =
    let p = c.in_ok-child.ensures.steps in
    (child_name p.0, rw p.1 refl, tt)

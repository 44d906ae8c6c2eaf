use Rattle.std.proofs.Common.{refl}
use Rattle.vx_model.specs.TyView.{ty}
use Rattle.vx_layout_tree.specs.KidsView.{chunks}
use Rattle.vx_layout_tree.specs.ZonedView.{no_columns}
use Rattle.vx_layout_build.proofs.OpenSteps.{unread_opens}
use Rattle.vx_layout_build.proofs.opened.open_unread.Goals as goal

pub returns-in-Ok-column_of : goal.returns-in-Ok-column_of
returns-in-Ok-column_of c =
    let made = unread_opens c.args.parts c.args.metadata.now c.args.zone_len (ty c.args.parts.dtype) c.in-Ok-column_of.wanted.items (chunks no_columns c.in-Ok-column_of.zones) refl (c.in-Ok-column_of.ensures.0 no_columns) in
    (rw c.in-Ok.ensures.cases made, c.in-Ok-column_of.ensures.1, tt)

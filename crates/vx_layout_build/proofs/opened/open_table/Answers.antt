use Rattle.std.proofs.Common.{map, refl}
use Rattle.vx_aggregate.specs.AggregateView.{aggregate}
use Rattle.vx_model.specs.TyView.{ty}
use Rattle.vx_layout_build.proofs.OpenSteps.{table_opens}
use Rattle.vx_layout_build.proofs.opened.open_table.Goals as goal

pub returns : goal.returns
returns c =
    let made_of = c.in_ok-head.ensures in
    let made = table_opens c.args.parts c.args.metadata.now c.args.zone_len (map aggregate c.args.aggregates.items) (ty c.args.parts.dtype) (ty c.in-Ok.table) c.in_ok-head.wanted.items c.requires.count refl (rw (← c.deref.ensures.value) c.in-Ok.ensures) made_of.children in
    rw made_of.head (made, made_of.depth, c.requires.few)

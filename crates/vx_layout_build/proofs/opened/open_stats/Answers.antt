use Rattle.std.proofs.Common.{refl, ◌∙◌}
use Rattle.vx_model.specs.TyView.{ty}
use Rattle.vx_layout_build.proofs.OpenSteps.{stats_opens}
use Rattle.vx_layout_build.proofs.opened.open_stats.Goals as goal

pub returns-in-Ok-from_slice : goal.returns-in-Ok-from_slice
returns-in-Ok-from_slice c =
    let made_of = c.in_ok-head-in-Ok.ensures in
    let same = c.in-Ok-from_slice.ensures.items ∙ c.stats-in-Ok-2.ensures.stats in
    let made = stats_opens c.args.parts c.args.metadata.now c.in-Ok.stats (ty c.args.parts.dtype) (ty c.in-Ok-legacy_stats_table_dtype.table) c.in_ok-head-in-Ok.wanted.items c.in-Ok.ensures refl (rw (← c.stats-in-Ok.ensures.stats) c.in-Ok-legacy_stats_table_dtype.ensures) made_of.children in
    rw made_of.head (rw (same, c.zone_len.ensures) made, made_of.depth, rw same c.stats-in-Ok-2.ensures.ordered)

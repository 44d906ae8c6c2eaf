use Rattle.vx_layout_build.proofs.opened.open_zoned.Goals as goal

pub returns-in-Ok : goal.returns-in-Ok
returns-in-Ok c = rw c.in-Ok.ensures.exact c.open_zones.ensures

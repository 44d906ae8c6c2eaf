use denote.Param.Send.{sendable}
use Rattle.vx_layout_sent.proofs.through_a_thread.Goals as goal
use Rattle.vx_layout_sent.proofs.Crosses.{layout_sends}

pub join-back-requires-send-F : goal.join-back-requires-send-F
join-back-requires-send-F g c κs within = search (layout_sends, sendable) depth 60 fits 20000

pub join-back-requires-send-A : goal.join-back-requires-send-A
join-back-requires-send-A g c κs within = search (layout_sends, sendable)

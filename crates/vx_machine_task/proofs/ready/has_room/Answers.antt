use Rattle.std.proofs.Common.{◌<◌, nat_lt, length, ap, sym, ◌∙◌}
use Rattle.vx_machine_task.specs.declared.task.Task.{out-Task}
use Rattle.vx_machine_task.proofs.Readiness.{room_here, room_none}
use Rattle.vx_machine_task.proofs.ready.has_room.Goals as goal

pub returns-in-Some : goal.returns-in-Some
returns-in-Some c =
    let h : c.args.child < length c.args.kids.now = c.in-Some.ensures.lookup.3.0 in
    ap (λ n. nat_lt n (out-Task c.in-Some.kid.now).head.places) c.len.ensures ∙ sym (room_here c.args.kids.now c.args.child c.in-Some.kid.now h c.in-Some.ensures.lookup.1)

pub returns-in-None : goal.returns-in-None
returns-in-None c = sym (room_none c.args.kids.now c.args.child c.in-None.ensures.lookup.3)

use Rattle.std.proofs.Common.{arith}
use Rattle.vx_seats.proofs.Room.{room}
use Rattle.vx_seats.proofs.state.SinkState.has_room.Goals as goal

pub returns : goal.returns
returns g c =
    let s = c.args.self.now in
    omega (arith, s.next, room g.P.Pairs.pairs s.history.items c.args.path.now c.args.bytes.now c.requires.allowed c.requires.free.is_new s.ascending s.listed)

use Rattle.std.proofs.Common.{◌<◌, length}
use Rattle.vx_strings.proofs.StringSteps.{are_window, row_below}
use Rattle.vx_strings.proofs.strings.Strings.total_len.Goals as goal

pub total_len-requires : goal.total_len-requires
total_len-requires c =
    let below : c.args.to < length c.self.inside.offsets = row_below c.self.inside.kind c.self.inside.bytes c.self.inside.offsets c.self.inside.valid c.args.self.now c.args.to c.self.view_is c.self.invariant c.requires.within in
    rw (c.as_slice-3.ensures, c.as_slice.ensures)
    (are_window c.self.inside.kind c.self.inside.bytes c.self.inside.offsets c.args.from c.args.to c.self.invariant c.requires.order below)

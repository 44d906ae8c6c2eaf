use Rattle.std.proofs.Common.{◌≡◌, ◌<◌, ℕ, List, length, ap, arith}
use Rattle.vx_strings.proofs.StringSteps.{are_window, row_below}
use Rattle.vx_strings.proofs.strings.Strings.slice.Goals as goal

pub overflow_add-to : goal.overflow_add-to
overflow_add-to c =
    let below : c.args.to < length c.self.inside.offsets = row_below c.self.inside.kind c.self.inside.bytes c.self.inside.offsets c.self.inside.valid c.args.self.now c.args.to c.self.view_is c.self.invariant c.requires.within in
    let same : length c.as_slice-count.result.now ≡ length c.self.inside.offsets = ap (λ (r : List ℕ). length r) c.as_slice-count.ensures in
    omega (arith, below, same, c.as_slice-count.type_inv.0)

pub invariant_of-result : goal.invariant_of-result
invariant_of-result c =
    let below : c.args.to < length c.self.inside.offsets = row_below c.self.inside.kind c.self.inside.bytes c.self.inside.offsets c.self.inside.valid c.args.self.now c.args.to c.self.view_is c.self.invariant c.requires.within in
    rw (c.in_ok-bytes.ensures.cases, c.in_ok-offsets.ensures)
    (are_window c.self.inside.kind c.self.inside.bytes c.self.inside.offsets c.args.from c.args.to c.self.invariant c.requires.order below)

use Rattle.std.proofs.Common.{◌≡◌, ◌-◌, ℕ, List, length, ap, refl}
use Rattle.vx_strings.proofs.Joins.{strings_joined}
use Rattle.vx_strings.proofs.strings.Strings.append.Goals as goal

pub returns : goal.returns
returns c =
    let long : length c.as_slice.result.now - 1 ≡ length c.self.inside.offsets - 1 = ap (λ (r : List ℕ). length r - 1) c.as_slice.ensures in
    strings_joined c.self.inside.kind c.others.inside.kind c.self.inside.bytes c.self.inside.offsets c.others.inside.bytes c.others.inside.offsets c.in_ok-bytes.bytes c.in_ok-bytes.offsets
    c.as_slice-strings.result.now c.as_slice-places.result.now c.self.inside.valid c.others.inside.valid c.in_ok-valid.valid c.as_slice-2.result.now _ _ c.args.self c.args.others.now
    (c.if-not-is_same.ensures refl) c.as_slice-strings.ensures c.as_slice-places.ensures c.as_slice-2.ensures c.in_ok-bytes.ensures.joined c.in_ok-valid.ensures long refl c.self.view_is c.others.view_is

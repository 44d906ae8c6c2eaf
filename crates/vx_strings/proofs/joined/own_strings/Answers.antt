use Rattle.std.proofs.Common.{◌∙◌}
use Rattle.vx_strings.proofs.Joins.{last_within, front_kept}
use Rattle.vx_strings.proofs.joined.own_strings.Goals as goal

pub front-requires : goal.front-requires
front-requires c = last_within c.args.kind c.args.bytes c.args.offsets c.as_slice-places.result.now c.requires c.as_slice-places.ensures

pub returns-clause-grown : goal.returns-clause-grown
returns-clause-grown c = front_kept c.args.kind c.args.bytes c.args.offsets c.as_slice-places.result.now c.in_ok-bytes.bytes.items c.in_ok-offsets.offsets.items c.requires c.as_slice-places.ensures (c.in_ok-bytes.ensures ∙ c.front.ensures) c.in_ok-offsets.ensures

use Rattle.std.proofs.Common.{◌≡◌, ◌<◌, ◌≤◌, [], ◌∷◌, ◌++◌, length, arith}
use Rattle.vx_strings.specs.StringCells.{strings_between}
use Rattle.vx_strings.proofs.StringSteps.{strings_length, grown_more, grown_strings}
use Rattle.vx_strings.proofs.Joins.{pushed_next, pushed_all}
use Rattle.vx_strings.proofs.joined.push_strings.Goals as goal

pub loop-row-preserved : goal.loop-row-preserved
loop-row-preserved c =
    let s = c.string_at.result.now in
    let lt : c.loop-row.row < length (strings_between c.args.strings.now c.args.places.now) = omega (arith, strings_length c.args.strings.now c.args.places.now) in
    let more : strings_between c.push_string.new.bytes.items c.push_string.new.offsets.items ≡ strings_between c.loop-row.bytes.items c.loop-row.offsets.items ++ s ∷ [] =
    grown_strings c.args.kind c.loop-row.bytes.items c.loop-row.offsets.items s c.push_string.new.bytes.items c.push_string.new.offsets.items c.loop-row.invariant.grown c.in_ok-push_string.ensures.bytes c.in_ok-push_string.ensures.offsets in
    record {
      joined = pushed_next _ _ (strings_between c.args.strings.now c.args.places.now) c.loop-row.row s _ lt c.string_at.ensures.bytes more c.loop-row.invariant.joined;
      grown = grown_more c.args.kind c.loop-row.bytes.items c.loop-row.offsets.items s c.push_string.new.bytes.items c.push_string.new.offsets.items c.loop-row.invariant.grown c.string_at.ensures.may_be c.in_ok-push_string.ensures.bytes c.in_ok-push_string.ensures.offsets;
    }

pub returns-clause-joined : goal.returns-clause-joined
returns-clause-joined c =
    let le : length (strings_between c.args.strings.now c.args.places.now) ≤ c.loop-row.row = omega (arith, strings_length c.args.strings.now c.args.places.now, c.loop-row-test.false) in
    pushed_all _ _ (strings_between c.args.strings.now c.args.places.now) c.loop-row.row le c.loop-row.invariant.joined

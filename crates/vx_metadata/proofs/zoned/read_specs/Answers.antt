use Rattle.std.proofs.Common.{◌≡◌, ◌++◌, ◌∷◌, [], map}
use Rattle.std.proofs.lemmas.Result.{err_from_is_err_and}
use Rattle.std.proofs.lemmas.List.{map_push}
use Rattle.vx_byte_reader.specs.Fields.{many_at}
use Rattle.vx_byte_reader.proofs.FieldLoops.{many_goes_on, many_done}
use Rattle.vx_metadata.specs.Reading.{spec_at}
use Rattle.vx_metadata.specs.Views.{spec_of}
use Rattle.vx_metadata.proofs.Specs.{many_ends}
use Rattle.vx_metadata.proofs.zoned.read_specs.Goals as goal

pub returns-in_err-spec : goal.returns-in_err-spec
returns-in_err-spec c =
    let p = err_from_is_err_and c.from_residual.result c.from_residual.ensures.1 in
    rw (p.1, p.2) (many_ends c.in_err-spec.field-0.0 spec_at (map spec_of c.loop.specs.items) c.args.count c.loop.counter c.loop.rest.now (many_at spec_at c.args.count c.args.bytes.now) c.loop-test.true c.in_err-spec.ensures c.loop.invariant)

pub loop-preserved : goal.loop-preserved
loop-preserved c =
    let e : map spec_of c.push.new.self.items ≡ map spec_of c.loop.specs.items ++ spec_of c.in_ok-spec.spec ∷ [] = rw c.in_ok-push.ensures.items (map_push _ c.loop.specs.items c.in_ok-spec.spec) in
    rw e (many_goes_on spec_at (map spec_of c.loop.specs.items) c.args.count c.loop.counter c.loop.rest.now (spec_of c.in_ok-spec.spec) c.in_ok-spec.after.now (many_at spec_at c.args.count c.args.bytes.now) c.loop-test.true c.in_ok-spec.ensures c.loop.invariant)

pub returns : goal.returns
returns c = many_done spec_at (map spec_of c.loop.specs.items) c.args.count c.loop.counter c.loop.rest.now (many_at spec_at c.args.count c.args.bytes.now) c.loop-test.false c.loop.invariant

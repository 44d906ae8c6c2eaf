use Rattle.std.proofs.Common.{◌≡◌, map, length, ap, ◌∙◌, arith}
use Rattle.vx_model.specs.TyView.{ty}
use Rattle.vx_strategy.specs.FieldWays.{field_ways}
use Rattle.vx_strategy.specs.NodeViews.{struct_way}
use Rattle.vx_sink.specs.ContextView.{is_marked, listed, allowed_in}
use Rattle.vx_sink.specs.contracts.list_source.ListSourceBatchSource.TheImpl as source
use Rattle.vx_sink.specs.contracts.list_source.ListSourceFallible.TheImpl as faults
use Rattle.vx_column_ways.specs.Ways.{column_of, columns_in}
use Rattle.vx_column_inputs.proofs.Fitting.{all_typed, ways_fit}
use Rattle.vx_column_inputs.proofs.Given.{inputs_made, inputs_many}
use Rattle.vx_column_inputs.proofs.inputs.all_inputs.Goals as goal

pub split_all-requires-clause-typed : goal.split_all-requires-clause-typed
split_all-requires-clause-typed c = all_typed (ty c.args.dtype.now) c.args.batches.items c.requires.whole

pub inputs-requires : goal.inputs-requires
inputs-requires c =
    ways_fit c.args.fields.now.validity.item c.args.fields.now.default.item (field_ways c.args.fields.now.writers.items) (ty c.args.dtype.now) (is_marked c.args.ctx.now) c.args.count c.args.batches.items (map column_of c.in_ok-ways.ways.items)
    (map (λ x. x.items) c.in_ok-split.split.items) c.requires.count c.requires.whole (c.in_ok-ways.ensures ∙ ap (columns_in (struct_way c.args.fields.now) (ty c.args.dtype.now)) c.has_nullable_ancestor.ensures) c.in_ok-split.ensures.columns

pub returns-clause-made : goal.returns-clause-made
returns-clause-made c =
    inputs_made (listed c.args.ctx.now) (allowed_in c.args.ctx.now) source.ghosts.kind faults.ghosts.may_fail source.ghosts.to_come source.ghosts.left c.args.fields.now.validity.item c.args.fields.now.default.item (field_ways c.args.fields.now.writers.items)
    (ty c.args.dtype.now) (is_marked c.args.ctx.now) c.args.count c.args.batches.items (map column_of c.in_ok-ways.ways.items) (map (λ x. x.items) c.in_ok-split.split.items) c.in_ok-inputs.inputs.items c.requires.count
    (c.in_ok-ways.ensures ∙ ap (columns_in (struct_way c.args.fields.now) (ty c.args.dtype.now)) c.has_nullable_ancestor.ensures) c.in_ok-split.ensures.columns c.in_ok-inputs.ensures

pub returns-clause-count : goal.returns-clause-count
returns-clause-count c =
    let many : length c.in_ok-inputs.inputs.items ≡ c.args.count =
    inputs_many (listed c.args.ctx.now) (allowed_in c.args.ctx.now) source.ghosts.kind faults.ghosts.may_fail source.ghosts.to_come source.ghosts.left c.args.fields.now.validity.item c.args.fields.now.default.item (field_ways c.args.fields.now.writers.items)
    (ty c.args.dtype.now) (is_marked c.args.ctx.now) c.args.count c.args.batches.items c.in_ok-inputs.inputs.items c.requires.count (returns-clause-made c) in
    omega (arith, many, c.in_ok-inputs.inputs.ok.0)

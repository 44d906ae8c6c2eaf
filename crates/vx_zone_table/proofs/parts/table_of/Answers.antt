use Rattle.std.proofs.Common.{◌∙◌, map}
use Rattle.vx_model.specs.TyView.{ty, field_ty}
use Rattle.vx_zone_table.specs.Columns.{filled_column}
use Rattle.vx_zone_table.proofs.PartSteps.{type_is, makes_table, table_is}
use Rattle.vx_zone_table.proofs.parts.table_of.Goals as goal

pub strukt-table-requires : goal.strukt-table-requires
strukt-table-requires c =
    let cs = map filled_column c.args.columns.items in
    makes_table cs c.args.zones (ty c.struct_of-dtype.result) c.in_ok-parts.parts.chunks.items c.new.result.items c.requires
    (c.struct_of-dtype.ensures ∙ type_is cs (map field_ty c.in_ok-parts.parts.fields.items) c.in_ok-parts.ensures.fields) c.in_ok-parts.ensures.chunks c.new.ensures.items

pub returns-clause-table : goal.returns-clause-table
returns-clause-table c =
    let cs = map filled_column c.args.columns.items in
    c.strukt-table.ensures
    ∙ table_is cs c.args.zones (ty c.struct_of-dtype.result) c.in_ok-parts.parts.chunks.items c.new.result.items
    (c.struct_of-dtype.ensures ∙ type_is cs (map field_ty c.in_ok-parts.parts.fields.items) c.in_ok-parts.ensures.fields) c.in_ok-parts.ensures.chunks c.new.ensures.items

use Rattle.std.proofs.Common.{◌+◌, ◌<◌, ◌^◌, not, suc, false, [], ◌∷◌, length, ap, sym, subst, ◌∙◌}
use Rattle.std.specs.Arc.{arc_value}
use Rattle.vx_model.specs.Ty.{nullable, ty_eq}
use Rattle.vx_model.specs.TyView.{ty}
use Rattle.vx_model.specs.ChunkData.{piece_type, cells}
use Rattle.vx_chunk_cells.specs.Parts.{element_type}
use Rattle.vx_rules.specs.Columns.{list_columns}
use Rattle.vx_split.specs.ListState.{elements_to}
use Rattle.vx_machine_nodes.specs.Acting.{ListRefused}
use Rattle.vx_machine_nodes.proofs.RefusalSteps.{by_offsets, by_elements}
use Rattle.vx_machine_nodes.proofs.SplitSteps.{misfit_eq}
use Rattle.vx_machine_nodes.proofs.lists.split_lists.Goals as goal

pub react-requires : goal.react-requires
react-requires c = c.has_type.ensures.0 c.if-not-has_type.false ∙ ap ty c.deref.ensures ∙ sym c.args.node.now.same

pub returns-in-Ok-reserve-clause-typed : goal.returns-in-Ok-reserve-clause-typed
returns-in-Ok-reserve-clause-typed c = c.has_type.ensures.0 c.if-not-has_type.false ∙ ap ty c.deref.ensures

pub returns-in-Ok-reserve-clause-columns : goal.returns-in-Ok-reserve-clause-columns
returns-in-Ok-reserve-clause-columns c =
    c.in-Ok-react.ensures.columns ∙ (λ j. list_columns (element_type (c.args.node.now.same j)) (nullable (c.args.node.now.same j)) c.args.node.now.split.first c.args.node.now.split.base c.args.chunk)

pub returns-in-Ok-reserve-clause-rows : goal.returns-in-Ok-reserve-clause-rows
returns-in-Ok-reserve-clause-rows c = c.in-Ok.ensures.ok ∙ ap (λ n. c.args.rows + n) c.len.ensures.rows

pub returns-in-Ok-reserve-clause-fits : goal.returns-in-Ok-reserve-clause-fits
returns-in-Ok-reserve-clause-fits c = subst (λ n. c.args.rows + n + 1 < 2 ^ 64) c.len.ensures.rows c.in-Ok.ensures.fits

pub returns-then-not-has_type-clause-refused : goal.returns-then-not-has_type-clause-refused
returns-then-not-has_type-clause-refused c =
    misfit_eq (piece_type c.args.chunk) (ty c.deref.result.now) (ty (arc_value c.args.node.now.dtype)) c.has_type.result c.has_type.ensures (ap ty c.deref.ensures) c.if-not-has_type.true

pub returns-in-Err-clause-refused : goal.returns-in-Err-clause-refused
returns-in-Err-clause-refused c =
    by_offsets (not (ty_eq (piece_type c.args.chunk) (ty (arc_value c.args.node.now.dtype)))) (c.args.rows + length (cells c.args.chunk)) (elements_to c.args.node.now.split c.args.chunk) c.in-Err.error
    (subst (λ n. ListRefused false ((c.args.rows + n) ∷ suc (c.args.rows + n) ∷ []) c.in-Err.error) c.len.ensures.rows c.in-Err.ensures.refused)

pub returns-in-Err-react-clause-refused : goal.returns-in-Err-react-clause-refused
returns-in-Err-react-clause-refused c =
    by_elements (not (ty_eq (piece_type c.args.chunk) (ty (arc_value c.args.node.now.dtype)))) (c.args.rows + length (cells c.args.chunk)) (suc (c.args.rows + length (cells c.args.chunk)))
    (elements_to c.args.node.now.split c.args.chunk) c.split_refusal.result (c.split_refusal.ensures.refused (elements_to c.args.node.now.split c.args.chunk) c.in-Err-react.ensures.refused)

pub returns-in-Err-react-clause-cause : goal.returns-in-Err-react-clause-cause
returns-in-Err-react-clause-cause c = c.split_refusal.ensures.cause (elements_to c.args.node.now.split c.args.chunk) c.in-Err-react.ensures.refused

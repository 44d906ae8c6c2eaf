use Rattle.std.proofs.Common.{◌≡◌, ◌++◌, ◌∷◌, [], map}
use Rattle.std.proofs.lemmas.Result.{err_from_is_err_and}
use Rattle.std.proofs.lemmas.List.{map_push}
use Rattle.serde_json.specs.View.{items_view}
use Rattle.vx_model.specs.TyView.{field_ty}
use Rattle.vx_json.specs.Lists.{each}
use Rattle.vx_chunk_json.specs.Types.{field_of}
use Rattle.vx_json.proofs.Items.{each_goes_on, each_stops}
use Rattle.vx_chunk_json.proofs.types.+types.Goals as goal

pub read_fields-returns-in_err-read_field : goal.read_fields-returns-in_err-read_field
read_fields-returns-in_err-read_field t c =
    let p = err_from_is_err_and c.from_residual-in_err-read_field.result c.from_residual-in_err-read_field.ensures.1 in
    rw (p.1, p.2) (each_stops c.in_err-read_field.field-0.0 field_of c.args.items.now c.loop-item.item-index c.item-item.result (map field_ty c.loop-item.fields.items) (each field_of (items_view c.args.items.now)) c.loop-item-test.true c.item-item.is c.in_err-read_field.ensures c.loop-item.invariant)

pub read_fields-loop-item-preserved : goal.read_fields-loop-item-preserved
read_fields-loop-item-preserved t c =
    let e : map field_ty c.push.new.self.items ≡ map field_ty c.loop-item.fields.items ++ field_ty c.in_ok-read_field.field-0 ∷ [] = rw c.in_ok-push.ensures.items (map_push _ c.loop-item.fields.items c.in_ok-read_field.field-0) in
    rw e (each_goes_on field_of c.args.items.now c.loop-item.item-index c.item-item.result (map field_ty c.loop-item.fields.items) (field_ty c.in_ok-read_field.field-0) (each field_of (items_view c.args.items.now)) c.loop-item-test.true c.item-item.is c.in_ok-read_field.ensures c.loop-item.invariant)

-- Refusals by name.
use Rattle.std.specs.Prelude.{ℕ, List, codes}
use Rattle.vx_layout_spec.specs.Refusal.{Refusal, bad_grammar, too_deep, too_many_nodes, unknown_index, unregistered, not_permitted, child_count, child_type, other_rows, segment_count, bad_metadata, unknown_aggregate, slot_range, field_not_found, no_list, no_struct}
use Rattle.vx_layout_tree.specs.declared.error.LayoutError.{LayoutError}
use Rattle.vx_layout_tree.specs.declared.error.LayoutError.TheVariants as errors

abbrev pub refusal_name : Refusal → List ℕ
refusal_name (bad_grammar place) = codes "Grammar"
refusal_name (too_deep place) = codes "TooDeep"
refusal_name (too_many_nodes place) = codes "TooManyNodes"
refusal_name (unknown_index index) = codes "UnknownIndex"
refusal_name (unregistered id) = codes "Unregistered"
refusal_name (not_permitted id) = codes "NotPermitted"
refusal_name (child_count has needs) = codes "ChildCount"
refusal_name (child_type has needs) = codes "ChildType"
refusal_name (other_rows has needs) = codes "RowCount"
refusal_name (segment_count has) = codes "SegmentCount"
refusal_name (bad_metadata bytes) = codes "Metadata"
refusal_name (unknown_aggregate id) = codes "UnknownAggregate"
refusal_name (slot_range index children) = codes "SlotRange"
refusal_name (field_not_found name) = codes "FieldNotFound"
refusal_name no_list = codes "NotAList"
refusal_name no_struct = codes "NotAStruct"

-- the name of the variant
abbrev pub error_name : LayoutError → List ℕ
error_name (errors.Grammar place) = codes "Grammar"
error_name (errors.TooDeep place) = codes "TooDeep"
error_name (errors.TooManyNodes place) = codes "TooManyNodes"
error_name (errors.UnknownIndex index) = codes "UnknownIndex"
error_name (errors.Unregistered id) = codes "Unregistered"
error_name (errors.NotPermitted id) = codes "NotPermitted"
error_name (errors.ChildCount has needs) = codes "ChildCount"
error_name (errors.ChildType has needs) = codes "ChildType"
error_name (errors.RowCount has needs) = codes "RowCount"
error_name (errors.SegmentCount has) = codes "SegmentCount"
error_name (errors.Metadata bytes) = codes "Metadata"
error_name (errors.UnknownAggregate id) = codes "UnknownAggregate"
error_name (errors.SlotRange index children) = codes "SlotRange"
error_name (errors.FieldNotFound name) = codes "FieldNotFound"
error_name errors.NotAList = codes "NotAList"
error_name errors.NotAStruct = codes "NotAStruct"
error_name errors.OutOfMemory = codes "OutOfMemory"

-- What constructors answer, as contracts see it.
use Rattle.std.specs.Prelude.{◌≡◌, ℕ, List, map, Result, Ok, Err}
use Rattle.std.specs.Global.{Vec}
use Rattle.vx_model.specs.TyView.{ty}
use Rattle.vx_layout_spec.specs.LayoutTree.{LayoutData}
use Rattle.vx_layout_tree.specs.declared.layout.Layout.{Layout}
use Rattle.vx_layout_tree.specs.LayoutView.{layout_data}
use Rattle.vx_layout_tree.specs.declared.error.LayoutError.{LayoutError}
use Rattle.vx_layout_tree.specs.declared.error.LayoutError.TheVariants as errors
use Rattle.vx_layout_spec.specs.Refusal.{Refusal, bad_grammar, too_deep, too_many_nodes, unknown_index, unregistered, not_permitted, child_count, child_type, other_rows, segment_count, bad_metadata, unknown_aggregate, slot_range, field_not_found, no_list, no_struct}

-- the same refusal; memory may run out
abbrev pub Fails : {A : Type 0} → LayoutError → Result A Refusal → Type 0
Fails (errors.Grammar place) made = made ≡ Err (bad_grammar place)
Fails (errors.TooDeep place) made = made ≡ Err (too_deep place)
Fails (errors.TooManyNodes place) made = made ≡ Err (too_many_nodes place)
Fails (errors.UnknownIndex index) made = made ≡ Err (unknown_index index)
Fails (errors.Unregistered id) made = made ≡ Err (unregistered id)
Fails (errors.NotPermitted id) made = made ≡ Err (not_permitted id)
Fails (errors.ChildCount has needs) made = made ≡ Err (child_count has needs)
Fails (errors.ChildType has needs) made = made ≡ Err (child_type (ty has) (ty needs))
Fails (errors.RowCount has needs) made = made ≡ Err (other_rows has needs)
Fails (errors.SegmentCount has) made = made ≡ Err (segment_count has)
Fails (errors.Metadata bytes) made = made ≡ Err (bad_metadata bytes)
Fails (errors.UnknownAggregate id) made = made ≡ Err (unknown_aggregate id)
Fails (errors.SlotRange index children) made = made ≡ Err (slot_range index children)
Fails (errors.FieldNotFound name) made = made ≡ Err (field_not_found name)
Fails errors.NotAList made = made ≡ Err no_list
Fails errors.NotAStruct made = made ≡ Err no_struct
Fails errors.OutOfMemory made = Unit {0}

-- What a constructor returned, seen by `view`, is what is made of the parts, unless memory ran out.
abbrev pub Gives : {X A : Type 0} → (X → A) → Result X LayoutError → Result A Refusal → Type 0
Gives view (Ok x) made = made ≡ Ok (view x)
Gives view (Err e) made = Fails e made

abbrev pub itself : LayoutData ℕ → LayoutData ℕ
itself l = l

-- an answer without a value
abbrev pub done : {X : Type 0} → X → Unit {0}
done x = tt

abbrev pub all_lays : Vec Layout → List (LayoutData ℕ)
all_lays v = map layout_data v.items

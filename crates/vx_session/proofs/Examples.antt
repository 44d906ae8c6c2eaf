-- Nodes, worked.
use Rattle.std.proofs.Common.{◌≡◌, ℕ, Bool, true, false, List, [], ◌∷◌, Some, None, Ok, Err, refl, codes}
use Rattle.vx_model.specs.declared.ptype.PType.TheVariants.{I64}
use Rattle.vx_model.specs.declared.encoding.EncodingId.TheVariants.{Plain}
use Rattle.vx_model.specs.Ty.{Ty, primitive}
use Rattle.vx_aggregate_spec.specs.Aggregate.{maximum}
use Rattle.vx_layout_spec.specs.LayoutTree.{Spec, layout, no_layouts, child, flat_kind, foreign_kind, chunked_kind, refused_kind}
use Rattle.vx_layout_spec.specs.Refusal.{unknown_index, unregistered, other_rows, segment_count, unknown_aggregate}
use Rattle.vx_layout_bytes.specs.Node.{Own, Node, node, no_nodes, first}
use Rattle.vx_session.specs.Encodings.{all_encodings}
use Rattle.vx_session.specs.Scope.{Context, Scope}
use Rattle.vx_session.specs.Kinds.{build_flat, build_chunked, build_dict, read_spec, read_specs}
use Rattle.vx_session.specs.Builder.{builder}

abbrev flat_id : List ℕ
flat_id = codes "vortex.flat"

abbrev dict_id : List ℕ
dict_id = codes "vortex.dict"

abbrev other_id : List ℕ
other_id = codes "x.y"

abbrev chunked_id : List ℕ
chunked_id = codes "vortex.chunked"

abbrev number : Ty
number = primitive I64 false

abbrev within : Bool → Scope
within allow = record { ids = flat_id ∷ other_id ∷ dict_id ∷ chunked_id ∷ []; registered = all_encodings; context = (record { encodings = Plain ∷ []; aggregates = []; allow_unknown = false }); allow_unknown = allow }

abbrev own : ℕ → ℕ → List ℕ → List ℕ → Own
own index rows metadata segments = record { index = index; rows = rows; metadata = metadata; segments = segments }

abbrev leaf : ℕ → ℕ → List ℕ → List ℕ → Node
leaf index rows metadata segments = node (own index rows metadata segments) no_nodes

-- an id that isn't known, let through, with all below
foreign_let_through : builder (within true) (node (own 1 10 (7 ∷ []) []) (first (leaf 0 3 [] (4 ∷ [])) no_nodes)) number
    ≡ Ok (layout (foreign_kind other_id (7 ∷ [])) number 10 [] (child (layout (foreign_kind flat_id []) number 3 (4 ∷ []) no_layouts) no_layouts))
foreign_let_through = refl

-- the same, not let through
foreign_refused : builder (within false) (node (own 1 10 (7 ∷ []) []) (first (leaf 0 3 [] (4 ∷ [])) no_nodes)) number ≡ Err (unregistered other_id)
foreign_refused = refl

-- a place past the context, below
past_the_context : builder (within true) (node (own 1 10 [] []) (first (leaf 0 3 [] (4 ∷ [])) (first (leaf 9 3 [] []) no_nodes))) number ≡ Err (unknown_index 9)
past_the_context = refl

flat_built : builder (within false) (leaf 0 3 (1 ∷ 8 ∷ []) (4 ∷ [])) number ≡ Ok (layout (flat_kind (Plain ∷ []) (Some (8 ∷ []))) number 3 (4 ∷ []) no_layouts)
unfolding build_flat
flat_built = refl

flat_without_segment : builder (within false) (leaf 0 3 [] []) number ≡ Err (segment_count 0)
unfolding build_flat
flat_without_segment = refl

-- codes of other rows than the dictionary
codes_of_other_rows : builder (within false) (node (own 2 3 (0 ∷ 0 ∷ 0 ∷ []) []) (first (leaf 0 2 [] (4 ∷ [])) (first (leaf 0 5 [] (5 ∷ [])) no_nodes))) number ≡ Err (other_rows 5 3)
unfolding build_dict build_flat
codes_of_other_rows = refl

-- a chunk that can't be built stands as a leaf
chunk_refused : builder (within false) (node (own 3 5 [] []) (first (leaf 0 2 [] (4 ∷ [])) (first (leaf 0 3 [] (6 ∷ 7 ∷ [])) no_nodes))) number
    ≡ Ok (layout chunked_kind number 5 [] (child (layout (flat_kind (Plain ∷ []) None) number 2 (4 ∷ []) no_layouts) (child (layout (refused_kind true (segment_count 2)) number 3 (6 ∷ 7 ∷ []) no_layouts) no_layouts)))
unfolding build_chunked build_flat
chunk_refused = refl

-- ---- aggregates of a table

abbrev knows : Bool → Context
knows allow = record { encodings = []; aggregates = codes "vortex.max" ∷ codes "vortex.other" ∷ []; allow_unknown = allow }

abbrev named : List ℕ → List ℕ → Spec
named id options = record { id = id; options = options }

all_known : read_specs (knows false) (named (codes "vortex.max") [] ∷ []) ≡ Ok (Some (maximum ∷ []))
unfolding read_spec
all_known = refl

-- the session doesn't list it
not_listed : read_specs (knows false) (named (codes "vortex.max") [] ∷ named (codes "vortex.min") [] ∷ []) ≡ Err (unknown_aggregate (codes "vortex.min"))
unfolding read_spec
not_listed = refl

-- no aggregate has it, so what stands behind it isn't looked at
let_through : read_specs (knows true) (named (codes "vortex.other") [] ∷ named (codes "vortex.max") (1 ∷ []) ∷ []) ≡ Ok None
unfolding read_spec
let_through = refl

other_options : read_specs (knows true) (named (codes "vortex.max") (1 ∷ []) ∷ []) ≡ Err (unknown_aggregate (codes "vortex.max"))
unfolding read_spec
other_options = refl

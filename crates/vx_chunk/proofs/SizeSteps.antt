-- Sums of sizes, part by part.
use Rattle.std.proofs.Common.{◌≡◌, ℕ, ◌+◌, ◌-◌, ◌*◌, ◌<◌, min, Bool, true, List, length, drop, get_or, map, refl, arith, eqb-true, Box}
use Rattle.std.specs.Prelude.{◌==◌, if◌then◌else◌}
use Rattle.std.specs.Global.{Vec, Global}
use Rattle.std.proofs.lemmas.List.{drop_more, length-map, length-replicate}
use Rattle.vx_model.specs.declared.dtype.DType.{DType}
use Rattle.vx_model.specs.Words.{total_by}
use Rattle.vx_model.specs.Ty.{nullable}
use Rattle.vx_model.specs.TyView.{ty}
use Rattle.vx_model.specs.CellData.{cell_size}
use Rattle.vx_model.specs.ChunkData.{ChunkData, pieces_of, piece_type, cells, held, held_parts, picked, validity_size, is_sound}
use Rattle.vx_chunk.specs.declared.node.Node.{Node}
use Rattle.vx_chunk.specs.declared.node.Node.TheVariants as nd
use Rattle.vx_chunk.specs.ChunkView.{node_piece}
use Rattle.vx_chunk_cells.specs.Window.{window}
use Rattle.vx_chunk.proofs.NodeSound.{in_list}
use Rattle.vx_chunk.specs.Sizes.{span_size, span_sizes, each_span_size}
use Rattle.vx_chunk_cells.proofs.Windows.{window-all, window-map, window-back, window-replicate, length-window}
use Rattle.vx_chunk_cells.proofs.Steps.{map-replicate}
use Rattle.vx_chunk_cells.proofs.SizeSteps.{total_same, total-replicate}
use Rattle.vx_chunk_cells.proofs.CodeSteps.{tree_int, tree_null}
use Rattle.vx_chunk.proofs.RowSteps.{cell_at_get, cell_at_past, cell_at-replicate, picked_place, drop_window}
use Rattle.vx_chunk.proofs.Depths.{depth_in}

pub drop_held : (ps : List ChunkData) (i : ℕ) (p : ChunkData) → i < length ps → p ≡ get_or ps i p
    → held_parts (pieces_of (drop i ps)) ≡ held p + held_parts (pieces_of (drop (i + 1) ps))
drop_held ps i p lt is = rw (drop_more ps i p lt, ← is) refl

pub drop_spans : (ps : List ChunkData) (i from to : ℕ) (p : ChunkData) → i < length ps → p ≡ get_or ps i p
    → span_sizes (pieces_of (drop i ps)) from to ≡ span_size p (min from (length (cells p))) (min to (length (cells p))) + span_sizes (pieces_of (drop (i + 1) ps)) (from - length (cells p)) (to - length (cells p))
drop_spans ps i from to p lt is = rw (drop_more ps i p lt, ← is) refl

pub drop_each_span : (ps : List ChunkData) (i from to : ℕ) (p : ChunkData) → i < length ps → p ≡ get_or ps i p
    → each_span_size (pieces_of (drop i ps)) from to ≡ span_size p from to + each_span_size (pieces_of (drop (i + 1) ps)) from to
drop_each_span ps i from to p lt is = rw (drop_more ps i p lt, ← is) refl

-- ---- what a node's sizes are

flags_size : (n : Bool) (rows count : ℕ) → (count == (if n then rows else 0)) ≡ true → count ≡ (if n then rows else 0)
flags_size n rows count h = eqb-true count (if n then rows else 0) h

pub list_held : (n : Node) (t : DType) (es : Box ChunkData Global) (offsets : Vec ℕ) (valid : Vec Bool) → n ≡ nd.List t es offsets valid → is_sound (node_piece n) ≡ true
    → held (node_piece n) ≡ held es.value + (8 * length offsets.items + length valid.items)
list_held n t es offsets valid e s =
    let sound = in_list n t es offsets valid e s in
    let flags : length valid.items ≡ validity_size (ty t) (length offsets.items - 1) = flags_size (nullable (ty t)) (length offsets.items - 1) (length valid.items) sound.flags in
    rw e (omega arith)

pub dict_span : (n : Node) (codes values : Box ChunkData Global) (from to : ℕ) → n ≡ nd.Dict codes values
    → span_size (node_piece n) from to ≡ total_by (cell_size (piece_type values.value)) (map (picked (cells values.value)) (window from to (cells codes.value)))
dict_span n codes values from to e = rw e refl

pub ruleset held_rules = (drop_held, window-all, depth_in)

pub ruleset span_rules = (window-map, drop_spans, drop_each_span, depth_in)

pub ruleset value_rules = (drop_window, window-back, total_same, total-replicate, map-replicate, window-map, window-replicate, length-map, length-replicate, length-window, picked_place, cell_at_get, cell_at_past, cell_at-replicate, tree_null, tree_int)

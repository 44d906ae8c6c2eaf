-- A flat node stores its one chunk as one segment.
use Rattle.std.specs.Prelude.{ℕ, if◌then◌else◌, List, [], ◌∷◌, ◌++◌, length, Option, Some, None}
use Rattle.vx_model.specs.declared.encoding.EncodingId.{EncodingId}
use Rattle.vx_model.specs.Ty.{Ty}
use Rattle.vx_model.specs.ChunkData.{cells}
use Rattle.vx_layout_spec.specs.LayoutTree.{LayoutData, flat_layout, gathered}
use Rattle.vx_plan.specs.PlanData.{Setting, Pair, Item, Node, Fault, fault, many_chunks, forbidden_encoding, at_chunk}
use Rattle.vx_strategy_spec.specs.StrategyData.{FlatOptions}

-- a chunk's segment
abbrev pub segment : Setting → FlatOptions → Item → Option (List ℕ)
segment s o i = s.codec.encode s.encodings o.padding i.1

abbrev pub pair_at : List ℕ → Option (List ℕ) → List Pair
pair_at path None = []
pair_at path (Some bytes) = (path, bytes) ∷ []

abbrev pub refused_at : List ℕ → Option EncodingId → List Fault
refused_at path None = []
refused_at path (Some id) = fault (forbidden_encoding id) (at_chunk path) ∷ []

abbrev pub length_of : Option (List ℕ) → List ℕ
length_of None = []
length_of (Some bytes) = length bytes ∷ []

-- the array tree is kept where the node inlines it
abbrev pub inlined : Setting → FlatOptions → Item → Option (List ℕ)
inlined s o i = if o.inline then Some (s.codec.tree_part s.encodings o.padding i.1) else None

abbrev pub flat_of : Setting → FlatOptions → Ty → Item → LayoutData (List ℕ)
flat_of s o t i = flat_layout t (length (cells i.1)) s.encodings (inlined s o i) i.0

abbrev pub refusals : Setting → Item → List Fault
refusals s i = refused_at i.0 (s.codec.refused s.encodings i.1)

-- Written once the stream has ended with one chunk. A second chunk is refused.
abbrev pub flat_node : Setting → FlatOptions → Ty → Node
flat_node s o t m [] ended e = record { pairs = []; faults = []; layout = gathered t 0 []; numbers = []; reserved = 0 }
flat_node s o t m (i ∷ []) ended e = record {
  pairs = if ended then pair_at i.0 (segment s o i) else [];
  faults = refusals s i;
  layout = flat_of s o t i;
  numbers = length (cells i.1) ∷ length_of (segment s o i);
  reserved = 0;
}
flat_node s o t m (i ∷ j ∷ is) ended e = record {
  pairs = [];
  faults = refusals s i ++ (fault many_chunks (at_chunk j.0) ∷ []);
  layout = flat_of s o t i;
  numbers = length (cells i.1) ∷ length_of (segment s o i);
  reserved = 0;
}

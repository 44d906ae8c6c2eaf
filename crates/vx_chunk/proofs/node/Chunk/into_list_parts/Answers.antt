use Rattle.std.proofs.Common.{◌≡◌, true, ◌∙◌, rules}
use Rattle.vx_chunk.specs.ChunkView.{node_piece}
use Rattle.vx_chunk.specs.Parts.{keeps_elements}
use Rattle.vx_chunk.proofs.ElementSteps.{kept_elements}
use Rattle.vx_chunk.proofs.node.Chunk.into_list_parts.Goals as goal

pub returns : goal.returns
returns c =
    let keeps : keeps_elements (node_piece c.into_node-node.result) ≡ true = rw c.into_node-node.ensures.piece (search rules) in
    let kept = kept_elements c.into_node-node.result c.in-List.dtype c.in-List.elements c.in-List.offsets c.in-List.valid c.in-List.is c.into_node-node.ensures.sound keeps in
    record {
      elements = c.into_inner.ensures ∙ (rw c.into_node-node.ensures.piece at kept.elements);
      offsets = rw c.into_node-node.ensures.piece at kept.offsets;
      valid = search rules;
      fits = rw c.into_node-node.ensures.piece at kept.short;
      refused = tt;
    }

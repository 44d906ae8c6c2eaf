use Rattle.std.proofs.Common.{length, ⊎_elim}
use Rattle.vx_model.specs.ChunkData.{cells}
use Rattle.vx_chunk.proofs.NodeSound.{in_list}
use Rattle.vx_chunk_cells.proofs.OffsetLaws.{offsets_within}
use Rattle.vx_chunk.proofs.ElementSteps.{list_count, dict_none, struct_none}
use Rattle.vx_chunk.proofs.elements.+counts.Goals as goal

pub element_count-span_len-requires-clause-some : goal.element_count-span_len-requires-clause-some
element_count-span_len-requires-clause-some t c =
    rw c.deref-in-List.ensures.value (in_list c.chunk.inside.node c.in-List.dtype c.in-List.elements c.in-List.offsets c.in-List.valid c.in-List.is c.chunk.invariant).some

pub element_count-span_len-requires-clause-ascend :
    goal.element_count-span_len-requires-clause-ascend
element_count-span_len-requires-clause-ascend t c =
    let sound = in_list c.chunk.inside.node c.in-List.dtype c.in-List.elements c.in-List.offsets c.in-List.valid c.in-List.is c.chunk.invariant in
    rw c.deref-in-List.ensures.value (offsets_within (length (cells c.in-List.elements.value)) c.in-List.offsets.items sound.ascend).0

pub element_count-returns-in-List-clause-count : goal.element_count-returns-in-List-clause-count
element_count-returns-in-List-clause-count t c =
    let count = list_count c.chunk.inside.node c.in-List.dtype c.in-List.elements c.in-List.offsets c.in-List.valid c.in-List.is c.chunk.invariant in
    rw (← c.chunk.view_is, count.0) (rw c.deref-in-List.ensures.value at c.span_len.ensures.span)

pub element_count-returns-in-List-clause-bound : goal.element_count-returns-in-List-clause-bound
element_count-returns-in-List-clause-bound t c =
    let count = list_count c.chunk.inside.node c.in-List.dtype c.in-List.elements c.in-List.offsets c.in-List.valid c.in-List.is c.chunk.invariant in
    rw (← c.chunk.view_is, count.1) (rw c.deref-in-List.ensures.value at c.span_len.ensures.bound)

pub element_count-returns-in-Dict-clause-count : goal.element_count-returns-in-Dict-clause-count
element_count-returns-in-Dict-clause-count t c =
    rw (← c.chunk.view_is) (⊎_elim
    (λ d. dict_none c.chunk.inside.node d.0 d.1 d.2 c.chunk.invariant)
    (λ s. struct_none c.chunk.inside.node s.0 s.1 s.2 s.3 s.4)
    c.in-Dict.is)

use Rattle.std.proofs.Common.{sym, length, map, append-nil}
use Rattle.std.proofs.lemmas.Result.{on_ok_weaker}
use Rattle.vx_model.specs.TreeView.{tree}
use Rattle.vx_chunk.proofs.NodeSound.{in_list}
use Rattle.vx_chunk.proofs.ElementSteps.{list_parts_are, dict_parts_are, parts_apart}
use Rattle.vx_chunk.proofs.elements.+apart.Goals as goal

pub push_lists_apart-push_spans-requires : goal.push_lists_apart-push_spans-requires
push_lists_apart-push_spans-requires t c =
    rw (c.deref-in-List.ensures, c.deref-in-List-2.ensures.value) (in_list c.chunk.inside.node c.in-List.dtype c.in-List.source c.in-List.spans c.in-List.valid c.in-List.is c.chunk.invariant).ascend

pub push_lists_apart-returns-in-Dict-clause-elements :
    goal.push_lists_apart-returns-in-Dict-clause-elements
push_lists_apart-returns-in-Dict-clause-elements t c =
    let none = (dict_parts_are c.chunk.inside.node c.in-Dict.codes c.in-Dict.values c.in-Dict.is c.chunk.invariant).0 in
    on_ok_weaker c.push_same_offset.result (λ h. rw (← c.chunk.view_is, none) (sym (append-nil (map tree c.args.elements.now.items)))) c.push_same_offset.ensures

pub push_lists_apart-returns-in-Dict-clause-offsets :
    goal.push_lists_apart-returns-in-Dict-clause-offsets
push_lists_apart-returns-in-Dict-clause-offsets t c =
    let same = (dict_parts_are c.chunk.inside.node c.in-Dict.codes c.in-Dict.values c.in-Dict.is c.chunk.invariant).1 (length c.args.elements.now.items) in
    rw (← c.chunk.view_is, same) (rw (c.len.ensures, c.len-in-Dict.ensures.rows, c.deref.ensures, c.args.elements.now.ok.0) at c.push_same_offset.ensures)

pub push_lists_apart-returns-in-List-clause-elements :
    goal.push_lists_apart-returns-in-List-clause-elements
push_lists_apart-returns-in-List-clause-elements t c =
    rw (← c.chunk.view_is, (list_parts_are c.chunk.inside.node c.in-List.dtype c.in-List.source c.in-List.spans c.in-List.valid c.in-List.is c.chunk.invariant).0) (rw (c.deref-in-List.ensures, c.deref-in-List-2.ensures.value) at c.push_spans.ensures.elements)

pub push_lists_apart-returns-in-List-clause-offsets :
    goal.push_lists_apart-returns-in-List-clause-offsets
push_lists_apart-returns-in-List-clause-offsets t c =
    rw (← c.chunk.view_is, (list_parts_are c.chunk.inside.node c.in-List.dtype c.in-List.source c.in-List.spans c.in-List.valid c.in-List.is c.chunk.invariant).1) (rw (c.deref-in-List-2.ensures.value) at c.push_spans.ensures.offsets)

pub push_parts_apart-loop-part-preserved : goal.push_parts_apart-loop-part-preserved
push_parts_apart-loop-part-preserved t c =
    let more = parts_apart c.args.parts.now c.loop-part.part-index c.part-item.result c.loop-part.elements.items c.push_lists_apart.new.elements.items c.loop-part.offsets.items c.push_lists_apart.new.offsets.items _ _ c.loop-part-test.true c.part-item.is
    c.in_ok-push_lists_apart.ensures.elements c.in_ok-push_lists_apart.ensures.offsets c.loop-part.invariant.elements c.loop-part.invariant.offsets in
    record { elements = more.0; offsets = more.1 }

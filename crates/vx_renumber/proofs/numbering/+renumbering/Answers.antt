use Rattle.std.proofs.Common.{◌∙◌, sym, map}
use Rattle.vx_layout_tree.specs.LayoutView.{layout_data, number}
use Rattle.vx_renumber.proofs.Parts.{headed_in_turn}
use Rattle.vx_renumber.proofs.numbering.+renumbering.Goals as goal

pub numbered-returns-in_ok-children-in-Chunked-Owned-clause-same : goal.numbered-returns-in_ok-children-in-Chunked-Owned-clause-same
numbered-returns-in_ok-children-in-Chunked-Owned-clause-same t c =
    let e = rw c.in-Chunked-Owned.field-0-is at c.in-Chunked-Owned.ensures in
    let s = rw c.deref.ensures.value at c.in_ok-children-in-Chunked-Owned.ensures.same in
    let h = c.in_ok-head-in-Chunked-Owned in
    c.chunked_of.ensures
    ∙ headed_in_turn (layout_data c.args.layout.now) _ h.head c.args.next.now c.head_of.new.next (map number c.args.numbers.now) c.in-Chunked-Owned.children.items c.in_ok-children-in-Chunked-Owned.children.items
    e.0 e.1 h.ensures.rows h.ensures.dtype h.ensures.segments h.ensures.next s

pub numbered-returns-in_ok-children-in-Struct-Owned-clause-same : goal.numbered-returns-in_ok-children-in-Struct-Owned-clause-same
numbered-returns-in_ok-children-in-Struct-Owned-clause-same t c =
    let e = rw c.in-Struct-Owned.field-0-is at c.in-Struct-Owned.ensures in
    let s = rw c.deref-in-Struct-Owned.ensures.value at c.in_ok-children-in-Struct-Owned.ensures.same in
    let h = c.in_ok-head-in-Struct-Owned in
    c.struct_of.ensures
    ∙ headed_in_turn (layout_data c.args.layout.now) _ h.head c.args.next.now c.head_of-in-Struct-Owned.new.next (map number c.args.numbers.now) c.in-Struct-Owned.children.items c.in_ok-children-in-Struct-Owned.children.items
    e.0 e.1 h.ensures.rows h.ensures.dtype h.ensures.segments h.ensures.next s

pub numbered-returns-else-len-from-clause-same : goal.numbered-returns-else-len-from-clause-same
numbered-returns-else-len-from-clause-same t c =
    let h = c.in_ok-head-in-List in
    c.from_parts.ensures
    ∙ headed_in_turn (layout_data c.args.layout.now) _ h.head c.args.next.now c.head_of-in-List.new.next (map number c.args.numbers.now) c.in-List.children.now c.in_ok-children-in-List.children.items
    c.in-List.ensures.0 c.in-List.ensures.1 h.ensures.rows h.ensures.dtype h.ensures.segments h.ensures.next c.in_ok-children-in-List.ensures.same

pub numbered-returns-in_ok-children-in-Dict-clause-same : goal.numbered-returns-in_ok-children-in-Dict-clause-same
numbered-returns-in_ok-children-in-Dict-clause-same t c =
    let h = c.in_ok-head-in-Dict in
    c.from_parts-in-Dict.ensures
    ∙ headed_in_turn (layout_data c.args.layout.now) _ h.head c.args.next.now c.head_of-in-Dict.new.next (map number c.args.numbers.now) c.in-Dict.children.now c.in_ok-children-in-Dict.children.items
    c.in-Dict.ensures.0 c.in-Dict.ensures.1 h.ensures.rows h.ensures.dtype h.ensures.segments h.ensures.next c.in_ok-children-in-Dict.ensures.same

pub numbered-returns-in_ok-children-in-Zoned-clause-same : goal.numbered-returns-in_ok-children-in-Zoned-clause-same
numbered-returns-in_ok-children-in-Zoned-clause-same t c =
    let kind = rw (sym c.in_ok-aggregates-in-Zoned.ensures.items) at c.in-Zoned.ensures.0 in
    let h = c.in_ok-head-in-Zoned in
    c.from_parts-in-Zoned.ensures
    ∙ headed_in_turn (layout_data c.args.layout.now) _ h.head c.args.next.now c.head_of-in-Zoned.new.next (map number c.args.numbers.now) c.in-Zoned.children.now c.in_ok-children-in-Zoned.children.items
    kind c.in-Zoned.ensures.1 h.ensures.rows h.ensures.dtype h.ensures.segments h.ensures.next c.in_ok-children-in-Zoned.ensures.same

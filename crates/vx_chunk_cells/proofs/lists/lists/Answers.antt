use Rattle.std.proofs.Common.{◌≡◌, ◌+◌, ◌-◌, ◌≤◌, length, map, get_or, min, refl, ap, sym, ◌∙◌, arith, length-take}
use Rattle.std.proofs.lemmas.List.{length-map}
use Rattle.vx_model.specs.Words.{head_or}
use Rattle.vx_model.specs.TreeView.{tree}
use Rattle.vx_chunk_cells.specs.Window.{last_of}
use Rattle.vx_chunk_cells.proofs.ListSteps.{first_is, from_first, to_next, to_last, no_rows, all_left, length-rebased, split_rows, split_left, map-reverse}
use Rattle.vx_chunk_cells.proofs.lists.lists.Goals as goal

pub loop-row-init : goal.loop-row-init
loop-row-init c =
    let os = c.args.offsets.now in
    let es = map tree c.args.elements.items in
    record {
      within = omega arith;
      rows = rw (c.in_ok-rows.ensures.items) (sym (no_rows es _ _ (length os - 1) (rw (length-rebased (head_or 0 os) os) (omega arith))));
      left = all_left es os (length os - 1) (omega arith) (rw (length-map c.args.elements.items tree) c.requires.whole);
    }

pub overflow_sub-offsets : goal.overflow_sub-offsets
overflow_sub-offsets c =
    let os = c.args.offsets.now in
    rw (first_is os) (from_first (head_or 0 os) (last_of os) os (c.loop-row.row - 1) c.requires.ascend (omega arith))

pub split_off-requires : goal.split_off-requires
split_off-requires c =
    let os = c.args.offsets.now in
    let es = map tree c.args.elements.items in
    let left : length c.loop-row.elements.items ≡ min (get_or os c.loop-row.row 0 - head_or 0 os) (length c.args.elements.items) =
    sym (length-map c.loop-row.elements.items tree) ∙ (rw (length-take, length-map c.args.elements.items tree) at (ap length c.loop-row.invariant.left)) in
    let last : get_or os c.loop-row.row 0 ≤ last_of os = to_last (head_or 0 os) (last_of os) os c.loop-row.row c.requires.ascend (omega arith) in
    let before : get_or os (c.loop-row.row - 1) 0 ≤ get_or os (c.loop-row.row - 1 + 1) 0 = to_next (head_or 0 os) (last_of os) os (c.loop-row.row - 1) c.requires.ascend (omega arith) in
    let next : c.loop-row.row - 1 + 1 ≡ c.loop-row.row = omega arith in
    let up : get_or os (c.loop-row.row - 1) 0 ≤ get_or os c.loop-row.row 0 = rw next at before in
    rw (first_is os) (omega (arith, left, last, up, c.requires.whole, c.loop-row.elements.ok.0))

pub loop-row-preserved : goal.loop-row-preserved
loop-row-preserved c =
    let os = c.args.offsets.now in
    let es = map tree c.args.elements.items in
    let next : c.loop-row.row ≡ c.loop-row.row - 1 + 1 = omega arith in
    let at : get_or os (c.loop-row.row - 1) 0 - get_or os 0 0 ≡ get_or os (c.loop-row.row - 1) 0 - head_or 0 os = rw (first_is os) refl in
    record {
      within = omega arith;
      rows = rw (c.in_ok-push.ensures.items) (split_rows es os c.args.valid.now c.loop-row.rows.items c.loop-row.elements.items c.in_ok-cells.cells c.flag_at.result (head_or 0 os) (last_of os) c.loop-row.row (c.loop-row.row - 1) _
          next c.loop-row.invariant.within c.requires.ascend c.flag_at.ensures at c.in_ok-cells.ensures.tail c.loop-row.invariant.left c.loop-row.invariant.rows);
      left = split_left es os c.loop-row.elements.items c.split_off.new.self.items (head_or 0 os) (last_of os) c.loop-row.row (c.loop-row.row - 1) _
          next c.loop-row.invariant.within c.requires.ascend at c.in_ok-cells.ensures.items c.loop-row.invariant.left;
    }

pub returns : goal.returns
returns c =
    let none : c.loop-row.row ≡ 0 = omega arith in
    rw (c.reverse.ensures.items, map-reverse tree c.loop-row.rows.items) (rw none at c.loop-row.invariant.rows)

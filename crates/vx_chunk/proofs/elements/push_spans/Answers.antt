use Rattle.std.proofs.Common.{◌≡◌, ◌+◌, ◌-◌, ◌≤◌, ◌++◌, length, map, ap, sym, ◌∙◌, arith, length-append}
use Rattle.std.proofs.lemmas.List.{length-map}
use Rattle.std.proofs.lemmas.Result.{on_ok_weaker}
use Rattle.vx_model.specs.Words.{head_or}
use Rattle.vx_model.specs.TreeView.{tree}
use Rattle.vx_model.specs.ChunkData.{cells}
use Rattle.vx_chunk_cells.specs.Window.{window, last_of}
use Rattle.vx_chunk_cells.proofs.ListSteps.{first_is, last_at}
use Rattle.vx_chunk_cells.proofs.Windows.{length-window}
use Rattle.vx_chunk_cells.proofs.OffsetLaws.{offsets_within, some_offset}
use Rattle.vx_chunk.proofs.elements.push_spans.Goals as goal

pub push_between-requires-clause-order : goal.push_between-requires-clause-order
push_between-requires-clause-order c =
    let os = c.args.places.now in
    let some : 1 ≤ length os = some_offset (length (cells c.args.source.now)) os c.requires in
    rw (first_is os, last_at os some) (offsets_within (length (cells c.args.source.now)) os c.requires).2

pub push_between-requires-clause-within : goal.push_between-requires-clause-within
push_between-requires-clause-within c =
    let os = c.args.places.now in
    let some : 1 ≤ length os = some_offset (length (cells c.args.source.now)) os c.requires in
    rw (last_at os some) (offsets_within (length (cells c.args.source.now)) os c.requires).1

pub push_counted-requires-clause-ascend : goal.push_counted-requires-clause-ascend
push_counted-requires-clause-ascend c = (offsets_within (length (cells c.args.source.now)) c.args.places.now c.requires).0

pub push_counted-requires-clause-room : goal.push_counted-requires-clause-room
push_counted-requires-clause-room c =
    let os = c.args.places.now in
    let es = cells c.args.source.now in
    let h = offsets_within (length es) os c.requires in
    let some : 1 ≤ length os = some_offset (length es) os c.requires in
    let whole : map tree c.push_between.new.out.items ≡ map tree c.args.elements.now.items ++ window (head_or 0 os) (last_of os) es = rw (first_is os, last_at os some) at c.in_ok-push_between.ensures in
    let long : length c.push_between.new.out.items ≡ length c.args.elements.now.items + (last_of os - head_or 0 os) =
    sym (length-map c.push_between.new.out.items tree) ∙ ap length whole ∙ length-append (map tree c.args.elements.now.items) (window (head_or 0 os) (last_of os) es)
    ∙ rw (length-map c.args.elements.now.items tree) (ap (λ k. length c.args.elements.now.items + k) (length-window (head_or 0 os) (last_of os) es h.1)) in
    omega (arith, long, c.len-base.ensures, c.push_between.new.out.ok.0)

pub returns-clause-elements : goal.returns-clause-elements
returns-clause-elements c =
    let os = c.args.places.now in
    let some : 1 ≤ length os = some_offset (length (cells c.args.source.now)) os c.requires in
    on_ok_weaker c.push_counted.result (λ h. rw (first_is os, last_at os some) at c.in_ok-push_between.ensures) c.push_counted.ensures

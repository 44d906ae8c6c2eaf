use Rattle.std.proofs.Common.{◌≡◌, [], ◌∷◌, ◌++◌, ap, refl, append-nil, sym, ◌∙◌, arith}
use Rattle.vx_machine_ids.specs.Stock.{none, both, end_stock, ok_stock}
use Rattle.vx_machine_ids.proofs.MoveLaws.{owned_as, moved_as}
use Rattle.vx_machine_node.specs.Ledger.{local_reserved, node_reserved}
use Rattle.vx_machine_node.specs.Stocks.{stored_stock, dues_stock, node_stock, zoned_stock, runs_stock, local_stock}
use Rattle.vx_machine_acts.proofs.ActMoves.{ok_none, ended_none, ended_full, ended_owned, ended_chunked}
use Rattle.vx_machine_node.proofs.DueSteps.{one_more, one_free}
use Rattle.vx_machine_node.proofs.Fitting.{none_fit}
use Rattle.vx_machine_node.proofs.ReservedSteps.{dues_push}
use Rattle.std.proofs.lemmas.Bool.{true≢false}
use Rattle.std.proofs.lemmas.List.{map_push}
use Rattle.vx_machine_node.specs.declared.node.Local.TheVariants.{Full, Chunked, Columns, Lists, Grouped, Zoned, Pressing, AsIs, Asking, Runs, Over, Passing, Made}
use Rattle.vx_machine_node.specs.declared.item.Due.TheVariants.{Close}
use Rattle.vx_machine_nodes.specs.Acting.{is_probe, EndTaken}
use Rattle.vx_machine_node.specs.View.{next_of, todo_of}
use Rattle.vx_machine_task.proofs.PaidSteps.{ok_none_reserved}
use Rattle.vx_machine_acts.proofs.TakeShows.{of_way, ended_as, ended_empty, ended_where, unended_as, end_memory}
use Rattle.vx_machine_acts.proofs.ends.ended.Goals as goal

pub returns-in-Empty-clause-moved : goal.returns-in-Empty-clause-moved
returns-in-Empty-clause-moved g c =
    ended_none (g.O.Order.active c.args.order.now) (local_stock c.args.local) (ok_stock local_stock c.end_empty-after.result) (dues_stock c.args.todo.now.items) (dues_stock c.args.todo.now.items)
    (ap local_stock c.in-Empty.is) (ok_none c.end_empty-after.result c.end_empty-after.ensures.local) refl c.requires.owned

pub returns-in-Full-clause-moved : goal.returns-in-Full-clause-moved
returns-in-Full-clause-moved g c =
    ended_full (g.O.Order.active c.args.order.now) (local_stock c.args.local) (stored_stock c.in-Full.stored) (dues_stock c.args.todo.now.items) (dues_stock c.push_back_reserved.new.self.items)
    (ap local_stock c.in-Full.is) (one_more c.args.todo.now.items c.push_back_reserved.new.self.items _ c.push_back_reserved.ensures.items) c.requires.owned

pub give_up_pointer-requires : goal.give_up_pointer-requires
give_up_pointer-requires g c =
    ended_owned (g.O.Order.active c.args.order.now) (local_stock c.args.local) (end_stock c.in-Chunked.eof) (dues_stock c.args.todo.now.items) (ap local_stock c.in-Chunked.is) c.requires.owned

pub returns-in-Chunked-clause-moved : goal.returns-in-Chunked-clause-moved
returns-in-Chunked-clause-moved g c =
    ended_chunked (g.O.Order.active c.args.order.now) (g.O.Order.active c.give_up_pointer.new.order) (local_stock c.args.local) (end_stock c.in-Chunked.eof) (dues_stock c.args.todo.now.items) (dues_stock c.push_back_reserved-in-Chunked.new.self.items)
    (ap local_stock c.in-Chunked.is) (one_free c.args.todo.now.items c.push_back_reserved-in-Chunked.new.self.items _ c.push_back_reserved-in-Chunked.ensures.items refl) c.requires.owned c.give_up_pointer.ensures.moved

pub returns-in-Columns-clause-moved : goal.returns-in-Columns-clause-moved
returns-in-Columns-clause-moved g c =
    ended_none (g.O.Order.active c.args.order.now) (local_stock c.args.local) (ok_stock local_stock c.end_columns.result) (dues_stock c.args.todo.now.items) (dues_stock c.end_columns.new.todo.items)
    (ap local_stock c.in-Columns.is) (ok_none c.end_columns.result c.end_columns.ensures.local) c.end_columns.ensures.todo c.requires.owned

pub returns-in-Lists-clause-moved : goal.returns-in-Lists-clause-moved
returns-in-Lists-clause-moved g c =
    ended_none (g.O.Order.active c.args.order.now) (local_stock c.args.local) (ok_stock local_stock c.end_lists.result) (dues_stock c.args.todo.now.items) (dues_stock c.end_lists.new.todo.items)
    (ap local_stock c.in-Lists.is) (ok_none c.end_lists.result c.end_lists.ensures.local) c.end_lists.ensures.todo c.requires.owned

pub returns-in-Over-clause-moved : goal.returns-in-Over-clause-moved
returns-in-Over-clause-moved g c =
    ended_none (g.O.Order.active c.args.order.now) (local_stock c.args.local) none (dues_stock c.args.todo.now.items) (dues_stock c.args.todo.now.items) (ap local_stock c.in-Over.is) refl refl c.requires.owned

pub returns-in-Made-clause-moved : goal.returns-in-Made-clause-moved
returns-in-Made-clause-moved g c =
    ended_none (g.O.Order.active c.args.order.now) (local_stock c.args.local) none (dues_stock c.args.todo.now.items) (dues_stock c.args.todo.now.items) (ap local_stock c.in-Made.is) refl refl c.requires.owned

pub returns-in-Empty-clause-done : goal.returns-in-Empty-clause-done
returns-in-Empty-clause-done g c = λ idle. ended_empty c.args.local c.in-Empty.node c.args.kids (todo_of c.args.todo.now.items) c.end_empty-after.result c.in-Empty.is c.end_empty-after.ensures.layout

pub returns-in-Full-clause-done : goal.returns-in-Full-clause-done
returns-in-Full-clause-done g c = λ idle.
    ended_as c.args.local (Full c.in-Full.stored) Over c.args.kids (todo_of c.push_back_reserved.new.self.items) (todo_of c.args.todo.now.items) c.in-Full.is
    (λ s ks same. record { unrefused = refl; fits = refl; counted = none_fit; mind_is = refl; todo_is = ap todo_of c.push_back_reserved.ensures.items ∙ map_push next_of c.args.todo.now.items _ })

pub returns-in-Chunked-clause-done : goal.returns-in-Chunked-clause-done
returns-in-Chunked-clause-done g c = λ idle.
    ended_as c.args.local (Chunked c.in-Chunked.node c.in-Chunked.eof _) Over c.args.kids (todo_of c.push_back_reserved-in-Chunked.new.self.items) (todo_of c.args.todo.now.items) c.in-Chunked.is
    (λ s ks same. record { unrefused = refl; fits = refl; counted = none_fit; mind_is = refl; todo_is = ap todo_of c.push_back_reserved-in-Chunked.ensures.items ∙ map_push next_of c.args.todo.now.items _ })

pub returns-in-Columns-clause-done : goal.returns-in-Columns-clause-done
returns-in-Columns-clause-done g c = λ idle.
    ended_where c.args.local (Columns c.in-Columns.node c.in-Columns.rows) c.args.kids (todo_of c.end_columns.new.todo.items) (todo_of c.args.todo.now.items) c.end_columns.result c.in-Columns.is c.end_columns.ensures.done

pub returns-in-Over-clause-done : goal.returns-in-Over-clause-done
returns-in-Over-clause-done g c = λ idle.
    ended_as c.args.local Over Over c.args.kids (todo_of c.args.todo.now.items) (todo_of c.args.todo.now.items) c.in-Over.is
    (λ s ks same. record { unrefused = refl; fits = refl; counted = none_fit; mind_is = refl; todo_is = sym (append-nil (todo_of c.args.todo.now.items)) })

pub returns-in-Made-clause-done : goal.returns-in-Made-clause-done
returns-in-Made-clause-done g c = λ idle.
    ended_as c.args.local (Made c.in-Made.layout) (Made c.in-Made.layout) c.args.kids (todo_of c.args.todo.now.items) (todo_of c.args.todo.now.items) c.in-Made.is
    (λ s ks same. record { unrefused = refl; fits = refl; counted = none_fit; mind_is = refl; todo_is = sym (append-nil (todo_of c.args.todo.now.items)) })

pub returns-in-Lists-clause-done : goal.returns-in-Lists-clause-done
returns-in-Lists-clause-done g c = λ idle.
    ended_where c.args.local (Lists c.in-Lists.node c.in-Lists.rows) c.args.kids (todo_of c.end_lists.new.todo.items) (todo_of c.args.todo.now.items) c.end_lists.result c.in-Lists.is c.end_lists.ensures.done

pub returns-in-Empty-clause-refused : goal.returns-in-Empty-clause-refused
returns-in-Empty-clause-refused g c = end_memory c.args.local c.args.kids c.end_empty-after.result c.end_empty-after.ensures.memory

pub returns-in-Columns-clause-refused : goal.returns-in-Columns-clause-refused
returns-in-Columns-clause-refused g c = end_memory c.args.local c.args.kids c.end_columns.result c.end_columns.ensures.memory

pub returns-in-Lists-clause-refused : goal.returns-in-Lists-clause-refused
returns-in-Lists-clause-refused g c = unended_as c.args.local (Lists c.in-Lists.node c.in-Lists.rows) c.args.kids c.end_lists.result c.in-Lists.is c.end_lists.ensures.refused

pub returns-in-Passing-clause-moved : goal.returns-in-Passing-clause-moved
returns-in-Passing-clause-moved g c =
    ended_none (g.O.Order.active c.args.order.now) (local_stock c.args.local) none (dues_stock c.args.todo.now.items) (dues_stock c.args.todo.now.items) (ap local_stock c.in-Passing.is) refl refl c.requires.owned

pub returns-in-Passing-clause-done : goal.returns-in-Passing-clause-done
returns-in-Passing-clause-done g c = λ idle.
    ended_as c.args.local Passing Passing c.args.kids (todo_of c.args.todo.now.items) (todo_of c.args.todo.now.items) c.in-Passing.is
    (λ s ks same. record { unrefused = refl; fits = refl; counted = none_fit; mind_is = refl; todo_is = sym (append-nil (todo_of c.args.todo.now.items)) })

-- ---- a node that regroups

pub end_grouped-requires-clause-owned : goal.end_grouped-requires-clause-owned
end_grouped-requires-clause-owned g c =
    owned_as (g.O.Order.active c.args.order.now) (both (local_stock c.args.local) (dues_stock c.args.todo.now.items)) (both (node_stock c.in-Grouped.node) (dues_stock c.args.todo.now.items))
    (ap (λ l. both (local_stock l) (dues_stock c.args.todo.now.items)) c.in-Grouped.is) c.requires.owned

pub end_grouped-requires-clause-reserved : goal.end_grouped-requires-clause-reserved
end_grouped-requires-clause-reserved g c =
    let l : local_reserved c.args.local ≡ node_reserved c.in-Grouped.node = ap local_reserved c.in-Grouped.is in
    omega (arith, l, c.requires.reserved)

pub returns-in-Grouped-clause-moved : goal.returns-in-Grouped-clause-moved
returns-in-Grouped-clause-moved g c =
    let d = dues_stock c.args.todo.now.items in
    let r = both (ok_stock local_stock c.end_grouped.result) (dues_stock c.end_grouped.new.todo.items) in
    moved_as (g.O.Order.active c.args.order.now) (g.O.Order.active c.end_grouped.new.order) (both (node_stock c.in-Grouped.node) d) (both (local_stock c.args.local) d) r r
    (sym (ap (λ l. both (local_stock l) (dues_stock c.args.todo.now.items)) c.in-Grouped.is)) refl c.end_grouped.ensures.moved

pub returns-in-Grouped-clause-done : goal.returns-in-Grouped-clause-done
returns-in-Grouped-clause-done g c = λ idle.
    ended_where c.args.local (Grouped c.in-Grouped.node) c.args.kids (todo_of c.end_grouped.new.todo.items) (todo_of c.args.todo.now.items) c.end_grouped.result c.in-Grouped.is (c.end_grouped.ensures.done idle c.args.kids)

pub returns-in-Grouped-clause-refused : goal.returns-in-Grouped-clause-refused
returns-in-Grouped-clause-refused g c = unended_as c.args.local (Grouped c.in-Grouped.node) c.args.kids c.end_grouped.result c.in-Grouped.is (c.end_grouped.ensures.refused c.args.kids)

-- ---- a zoned node

pub end_zoned-requires-clause-owned : goal.end_zoned-requires-clause-owned
end_zoned-requires-clause-owned g c =
    owned_as (g.O.Order.active c.args.order.now) (both (local_stock c.args.local) (dues_stock c.args.todo.now.items)) (both (zoned_stock c.in-Zoned.node) (dues_stock c.args.todo.now.items))
    (ap (λ l. both (local_stock l) (dues_stock c.args.todo.now.items)) c.in-Zoned.is) c.requires.owned

pub returns-in-Zoned-clause-moved : goal.returns-in-Zoned-clause-moved
returns-in-Zoned-clause-moved g c =
    let d = dues_stock c.args.todo.now.items in
    let r = both (ok_stock local_stock c.end_zoned.result) (dues_stock c.end_zoned.new.todo.items) in
    moved_as (g.O.Order.active c.args.order.now) (g.O.Order.active c.end_zoned.new.order) (both (zoned_stock c.in-Zoned.node) d) (both (local_stock c.args.local) d) r r
    (sym (ap (λ l. both (local_stock l) (dues_stock c.args.todo.now.items)) c.in-Zoned.is)) refl c.end_zoned.ensures.moved

pub returns-in-Zoned-clause-done : goal.returns-in-Zoned-clause-done
returns-in-Zoned-clause-done g c = λ idle.
    ended_where c.args.local (Zoned c.in-Zoned.node) c.args.kids (todo_of c.end_zoned.new.todo.items) (todo_of c.args.todo.now.items) c.end_zoned.result c.in-Zoned.is (c.end_zoned.ensures.done c.args.kids)

pub returns-in-Zoned-clause-tracked : goal.returns-in-Zoned-clause-tracked
returns-in-Zoned-clause-tracked g c =
    let l : local_reserved c.args.local ≡ 0 = ap local_reserved c.in-Zoned.is in
    omega (arith, l, c.end_zoned.ensures.reserved, ok_none_reserved c.end_zoned.result c.end_zoned.ensures.unreserved)

pub returns-in-Zoned-clause-refused : goal.returns-in-Zoned-clause-refused
returns-in-Zoned-clause-refused g c = end_memory c.args.local c.args.kids c.end_zoned.result c.end_zoned.ensures.memory

-- ---- a dictionary node

pub end_runs-requires : goal.end_runs-requires
end_runs-requires g c =
    owned_as (g.O.Order.active c.args.order.now) (both (local_stock c.args.local) (dues_stock c.args.todo.now.items)) (both (runs_stock c.in-Runs.runs) (dues_stock c.args.todo.now.items))
    (ap (λ l. both (local_stock l) (dues_stock c.args.todo.now.items)) c.in-Runs.is) c.requires.owned

pub returns-in-Runs-clause-moved : goal.returns-in-Runs-clause-moved
returns-in-Runs-clause-moved g c =
    let d = dues_stock c.args.todo.now.items in
    let r = both (ok_stock local_stock c.end_runs.result) (dues_stock c.end_runs.new.todo.items) in
    moved_as (g.O.Order.active c.args.order.now) (g.O.Order.active c.end_runs.new.order) (both (runs_stock c.in-Runs.runs) d) (both (local_stock c.args.local) d) r r
    (sym (ap (λ l. both (local_stock l) (dues_stock c.args.todo.now.items)) c.in-Runs.is)) refl c.end_runs.ensures.moved

pub returns-in-Runs-clause-done : goal.returns-in-Runs-clause-done
returns-in-Runs-clause-done g c = λ idle.
    ended_where c.args.local (Runs c.in-Runs.runs) c.args.kids (todo_of c.end_runs.new.todo.items) (todo_of c.args.todo.now.items) c.end_runs.result c.in-Runs.is (c.end_runs.ensures.done c.args.kids)

pub returns-in-Runs-clause-tracked : goal.returns-in-Runs-clause-tracked
returns-in-Runs-clause-tracked g c =
    let l : local_reserved c.args.local ≡ 0 = ap local_reserved c.in-Runs.is in
    omega (arith, l, c.end_runs.ensures.reserved, ok_none_reserved c.end_runs.result c.end_runs.ensures.unreserved)

pub returns-in-Runs-clause-refused : goal.returns-in-Runs-clause-refused
returns-in-Runs-clause-refused g c = unended_as c.args.local (Runs c.in-Runs.runs) c.args.kids c.end_runs.result c.in-Runs.is (c.end_runs.ensures.refused c.args.kids)

-- where no chunk came its end is taken elsewhere
pub unreachable-requires : goal.unreachable-requires
unreachable-requires g c = true≢false (sym (ap is_probe c.in-Probe.is) ∙ c.requires.other)

pub returns-in-Asking-clause-moved : goal.returns-in-Asking-clause-moved
returns-in-Asking-clause-moved g c =
    ended_none (g.O.Order.active c.args.order.now) (local_stock c.args.local) none (dues_stock c.args.todo.now.items) (dues_stock c.args.todo.now.items) (ap local_stock c.in-Asking.is) refl refl c.requires.owned

pub returns-in-Asking-clause-done : goal.returns-in-Asking-clause-done
returns-in-Asking-clause-done g c = λ idle.
    ended_as c.args.local Asking Asking c.args.kids (todo_of c.args.todo.now.items) (todo_of c.args.todo.now.items) c.in-Asking.is
    (λ s ks same. record { unrefused = refl; fits = refl; counted = none_fit; mind_is = refl; todo_is = sym (append-nil (todo_of c.args.todo.now.items)) })

pub returns-in-Asking-clause-tracked : goal.returns-in-Asking-clause-tracked
returns-in-Asking-clause-tracked g c = let l : local_reserved c.args.local ≡ 0 = ap local_reserved c.in-Asking.is in omega (arith, l)

-- ---- a node that presses what it takes, or passes it on as it is

pub returns-in-Pressing-clause-moved : goal.returns-in-Pressing-clause-moved
returns-in-Pressing-clause-moved g c =
    ended_none (g.O.Order.active c.args.order.now) (local_stock c.args.local) none (dues_stock c.args.todo.now.items) (dues_stock c.push_back_reserved-in-Pressing.new.self.items)
    (of_way (λ l. local_stock l ≡ none) c.args.local c.in-Pressing.is (λ w. refl) refl) refl (one_free c.args.todo.now.items c.push_back_reserved-in-Pressing.new.self.items Close c.push_back_reserved-in-Pressing.ensures.items refl) c.requires.owned

pub returns-in-Pressing-clause-done : goal.returns-in-Pressing-clause-done
returns-in-Pressing-clause-done g c = λ idle.
    let e : todo_of c.push_back_reserved-in-Pressing.new.self.items ≡ todo_of c.args.todo.now.items ++ (next_of Close ∷ []) = ap todo_of c.push_back_reserved-in-Pressing.ensures.items ∙ map_push next_of c.args.todo.now.items Close in
    of_way (λ l. EndTaken l c.args.kids Passing (todo_of c.push_back_reserved-in-Pressing.new.self.items) (todo_of c.args.todo.now.items)) c.args.local c.in-Pressing.is
    (λ w s ks same. record { unrefused = refl; fits = refl; counted = none_fit; mind_is = refl; todo_is = e })
    (λ s ks same. record { unrefused = refl; fits = refl; counted = none_fit; mind_is = refl; todo_is = e })

pub returns-in-Pressing-clause-tracked : goal.returns-in-Pressing-clause-tracked
returns-in-Pressing-clause-tracked g c =
    let l : local_reserved c.args.local ≡ 0 = of_way (λ l. local_reserved l ≡ 0) c.args.local c.in-Pressing.is (λ w. refl) refl in
    omega (arith, l, dues_push c.push_back_reserved-in-Pressing.new.self.items c.args.todo.now.items Close c.push_back_reserved-in-Pressing.ensures.items)

-- ---- what is reserved

pub returns-in-Empty-clause-tracked : goal.returns-in-Empty-clause-tracked
returns-in-Empty-clause-tracked g c =
    let l : local_reserved c.args.local ≡ 0 = ap local_reserved c.in-Empty.is in
    omega (arith, l, ok_none_reserved c.end_empty-after.result c.end_empty-after.ensures.unreserved)

pub returns-in-Full-clause-tracked : goal.returns-in-Full-clause-tracked
returns-in-Full-clause-tracked g c =
    let l : local_reserved c.args.local ≡ 0 = ap local_reserved c.in-Full.is in
    omega (arith, l, dues_push c.push_back_reserved.new.self.items c.args.todo.now.items _ c.push_back_reserved.ensures.items)

pub returns-in-Chunked-clause-tracked : goal.returns-in-Chunked-clause-tracked
returns-in-Chunked-clause-tracked g c =
    let l : local_reserved c.args.local ≡ 0 = ap local_reserved c.in-Chunked.is in
    omega (arith, l, dues_push c.push_back_reserved-in-Chunked.new.self.items c.args.todo.now.items _ c.push_back_reserved-in-Chunked.ensures.items)

pub returns-in-Columns-clause-tracked : goal.returns-in-Columns-clause-tracked
returns-in-Columns-clause-tracked g c =
    let l : local_reserved c.args.local ≡ 0 = ap local_reserved c.in-Columns.is in
    omega (arith, l, c.end_columns.ensures.reserved, ok_none_reserved c.end_columns.result c.end_columns.ensures.unreserved)

pub returns-in-Lists-clause-tracked : goal.returns-in-Lists-clause-tracked
returns-in-Lists-clause-tracked g c =
    let l : local_reserved c.args.local ≡ 0 = ap local_reserved c.in-Lists.is in
    omega (arith, l, c.end_lists.ensures.reserved, ok_none_reserved c.end_lists.result c.end_lists.ensures.unreserved)

pub returns-in-Grouped-clause-tracked : goal.returns-in-Grouped-clause-tracked
returns-in-Grouped-clause-tracked g c =
    let l : local_reserved c.args.local ≡ node_reserved c.in-Grouped.node = ap local_reserved c.in-Grouped.is in
    omega (arith, l, c.end_grouped.ensures.tracked)

pub returns-in-Over-clause-tracked : goal.returns-in-Over-clause-tracked
returns-in-Over-clause-tracked g c = let l : local_reserved c.args.local ≡ 0 = ap local_reserved c.in-Over.is in omega (arith, l)

pub returns-in-Passing-clause-tracked : goal.returns-in-Passing-clause-tracked
returns-in-Passing-clause-tracked g c = let l : local_reserved c.args.local ≡ 0 = ap local_reserved c.in-Passing.is in omega (arith, l)

pub returns-in-Made-clause-tracked : goal.returns-in-Made-clause-tracked
returns-in-Made-clause-tracked g c = let l : local_reserved c.args.local ≡ 0 = ap local_reserved c.in-Made.is in omega (arith, l)

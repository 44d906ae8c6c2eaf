use Rattle.std.proofs.Common.{rules, tests, ◌≡◌, ◌+◌, ◌*◌, ◌<◌, ◌||◌, Bool, true, false, [], ◌∷◌, ◌++◌, length, map, drop, refl, sym, ap, subst, ◌∙◌, arith}
use Rattle.std.specs.Prelude.{IsTrue, IsFalse, IfOk, IfErr, OnOk}
use Rattle.std.specs.Arc.{arc_value}
use Rattle.std.specs.Int.NonZero.{non_zero_u64_get}
use Rattle.std.proofs.lemmas.Result.{err_from_is_err_and, IfOk-weaker, IfErr-weaker}
use Rattle.std.proofs.lemmas.Bool.{and_parts}
use Rattle.vx_path.specs.Path.{under, inside}
use Rattle.vx_model.specs.Ty.{Ty, boolean, nullable, is_struct, is_list}
use Rattle.vx_model.specs.TyView.{ty, field_ty}
use Rattle.vx_model.specs.declared.dtype.StructField.{StructField}
use Rattle.vx_chunk.proofs.FlagSteps.{ty_flags}
use Rattle.vx_chunk_cells.specs.Parts.{element_type}
use Rattle.vx_layout_shape.specs.Shape.{fields_of}
use Rattle.vx_rules.specs.Columns.{offset_type}
use Rattle.vx_split.specs.ListState.{state_at}
use Rattle.vx_split.proofs.ListSteps.{ty_offsets}
use Rattle.vx_strategy_spec.specs.StrategyData.{StrategyData, grouped, by_blocks, by_bytes, into_one}
use Rattle.vx_strategy_options.specs.RuleViews.{block_rule, zone_rule}
use Rattle.vx_strategy_options.specs.OptionViews.{dict_options}
use Rattle.vx_table_dispatch.specs.Settled.{passes_on, settled}
use Rattle.vx_table_dispatch.proofs.Settling.{no_other}
use Rattle.vx_strategy.specs.declared.strategy.Strategy.TheVariants.{Flat}
use Rattle.vx_write_answer.specs.declared.error.WriteError.TheVariants.{OutOfMemory}
use Rattle.vx_machine_turns.specs.Forms.{Form, Forms, grouped_form, form_then}
use Rattle.vx_machine_turns.specs.Starts.{start_fault}
use Rattle.vx_machine_state.specs.State.{by_column}
use Rattle.vx_machine_state.specs.Start.{first_indices}
use Rattle.vx_strategy.specs.FieldWays.{field_ways}
use Rattle.vx_strategy.specs.NodeViews.{struct_way, list_way, zoned_way, compressed_way}
use Rattle.vx_strategy.specs.StrategyView.{strategy_data}
use Rattle.vx_sequence.specs.Universe.{Active}
use Rattle.vx_machine_ids.specs.Stock.{Stock, none, both, end_stock, ok_stock, some_stock}
use Rattle.vx_machine_ids.proofs.Stocks.{both_none}
use Rattle.vx_machine_ids.specs.Balance.{Owned, Moved}
use Rattle.vx_machine_ids.proofs.MoveLaws.{moved_none, moved_then, moved_as, owned_left, owned_now}
use Rattle.vx_sink.specs.ContextView.{allowed_in}
use Rattle.vx_machine_start.specs.Weight.{weight, weights}
use Rattle.vx_machine_start.specs.Starting.{field_form, field_forms, validity_form, validity_forms, columns_form, lists_form, Started, ManyStarted, OneStarted, AllStarted, OnlyStarted, FormRefused, ManyRefused, OneRefused}
use Rattle.vx_machine_fresh.specs.Fresh.{Begins}
use Rattle.vx_machine_node.specs.Stocks.{item_stock, zoned_stock}
use Rattle.vx_machine_task.specs.Stocks.{task_stock, tasks_stock}
use Rattle.vx_machine_node.specs.View.{form_at, form_of}
use Rattle.vx_machine_task.specs.View.{row}
use Rattle.vx_machine_node.specs.declared.node.Local.TheVariants.{Empty, Columns, Lists, Grouped}
use Rattle.vx_machine_task.specs.declared.task.Task.{Task, out-Task}
use Rattle.vx_machine_task.specs.declared.task.Task.TheOpen.{Task-F}
use Rattle.vx_machine_task.specs.declared.task.Task.TheViews.{roll-Task}
use Rattle.vx_machine_start.proofs.StartMoves.{alone_moved, none_yet, from_none, pointer_owned, kids_left, left_owned, held_kids, same_kids, pointer_moved, child_moved, off_owned, off_moved}
use Rattle.vx_machine_node.proofs.Fitting.{none_fit}
use Rattle.vx_machine_start.proofs.StartShows.{Left, grouped_at, only_started, plain_form, typed, field_form_is, fields_more, fields_end, memory_refused, node_refused, task_refused, pointer_refused, started, one_started, none_started, left_first, left_next, left_refused, all_started, validity_refused, list_at, list_plain, list_mind, left_elements, left_offsets, elements_refused, offsets_refused, last_started, rest_refused}
use Rattle.vx_machine_start.proofs.StartKinds.{zones_refused, data_refused, zones_started, dict_at}
use Rattle.vx_machine_start.proofs.StartRooms.{data_moved, data_reserved, data_started, outlet_moved, outlet_reserved, outlet_started, pressed_started, mark_started, mark_refused}
use Rattle.vx_machine_task.proofs.ViewParts.{len_is}
use Rattle.vx_machine_start.proofs.StartWeights.{field_weight, settled_form}
use Rattle.vx_machine_task.specs.Ledger.{task_reserved, tasks_reserved}
use Rattle.vx_machine_task.proofs.ReservedSteps.{tasks_push}
use Rattle.vx_machine_start.proofs.StartRows.{started_none}
use Rattle.vx_machine_start.proofs.+start.Goals as goal

-- ---- a strategy, and what stands for it

pub start::start_task-start_settled-requires : goal.start::start_task-start_settled-requires
start::start_task-start_settled-requires g t c κs within =
    let falls : 8 * weight (form_of c.args.strategy.now (arc_value c.args.dtype)) + 4 < 8 * weight (form_of c.args.strategy.now (arc_value c.args.dtype)) + 5 = omega arith in
    let n : IsFalse (passes_on (strategy_data c.args.strategy.now) (ty (arc_value c.args.dtype))) = sym (c.passes_on.ensures ∙ ap (λ z. passes_on (strategy_data c.args.strategy.now) (ty z)) c.deref.ensures) ∙ c.if-not-passes_on.true in
    search (rules, arith, c.requires.owned, n, falls)

pub start::start_task-start_settled-task-requires : goal.start::start_task-start_settled-task-requires
start::start_task-start_settled-task-requires g t c κs within =
    let w : StrategyData = strategy_data c.args.strategy.now in
    let u : Ty = ty (arc_value c.args.dtype) in
    let e : strategy_data c.in-Ok.found ≡ settled w u = c.in-Ok.ensures ∙ ap (λ z. settled w (ty z)) c.deref-2.ensures in
    let n : IsFalse (passes_on (strategy_data c.in-Ok.found) u) = subst (λ z. IsFalse (passes_on z u)) (sym e) (no_other w u) in
    let f : weight (form_at (strategy_data c.in-Ok.found) u) ≡ weight (form_at w u) = ap weight (ap (λ z. form_at z u) e ∙ settled_form w u) in
    let falls : 8 * weight (form_at (strategy_data c.in-Ok.found) u) + 4 < 8 * weight (form_at w u) + 5 = omega (arith, f) in
    search (rules, arith, c.requires.owned, n, falls)

pub start::start_task-returns-clause-shows : goal.start::start_task-returns-clause-shows
start::start_task-returns-clause-shows g t c =
    let w : StrategyData = strategy_data c.args.strategy.now in
    let u : Ty = ty (arc_value c.args.dtype) in
    let e : strategy_data c.in-Ok.found ≡ settled w u = c.in-Ok.ensures ∙ ap (λ z. settled w (ty z)) c.deref-2.ensures in
    subst (λ z. IfOk c.start_settled-task.result (Started (allowed_in c.args.ctx.now) z c.args.marked c.args.name c.args.eof)) (ap (λ z. form_at z u) e ∙ settled_form w u) c.start_settled-task.ensures.shows

pub start::start_task-returns-clause-refused : goal.start::start_task-returns-clause-refused
start::start_task-returns-clause-refused g t c =
    let w : StrategyData = strategy_data c.args.strategy.now in
    let u : Ty = ty (arc_value c.args.dtype) in
    let e : strategy_data c.in-Ok.found ≡ settled w u = c.in-Ok.ensures ∙ ap (λ z. settled w (ty z)) c.deref-2.ensures in
    subst (λ z. IfErr c.start_settled-task.result (FormRefused (allowed_in c.args.ctx.now) z c.args.marked c.args.eof)) (ap (λ z. form_at z u) e ∙ settled_form w u) c.start_settled-task.ensures.refused

-- ---- a task

pub start::start_settled-returns-in-Flat-clause-moved : goal.start::start_settled-returns-in-Flat-clause-moved
start::start_settled-returns-in-Flat-clause-moved g t c =
    alone_moved (g.O.Order.active c.args.order.now) (g.O.Order.active c.give_up_pointer.new.order) (end_stock c.args.eof) none c.waiting.result c.new.result.items c.new.ensures.items c.waiting.ensures.held c.give_up_pointer.ensures.moved

pub start::start_settled-returns-in-Flat-clause-shows : goal.start::start_settled-returns-in-Flat-clause-shows
start::start_settled-returns-in-Flat-clause-shows g t c =
    subst (λ s. Started (allowed_in c.args.ctx.now) (form_at (strategy_data s) (ty (arc_value c.args.dtype))) c.args.marked c.args.name c.args.eof c.waiting.result) (sym c.in-Flat.is)
    (started (allowed_in c.args.ctx.now) (form_at (strategy_data (Flat c.in-Flat.options)) (ty (arc_value c.args.dtype))) c.args.marked c.args.name c.args.eof (Empty (record { options = c.in-Flat.options; dtype = c.args.dtype })) c.new.result.items c.waiting.result
    (λ s q. refl) (λ k. none_fit) refl (ap row c.new.ensures.items) c.waiting.ensures.shows)

pub start::start_settled-returns-in-Chunked-clause-shows : goal.start::start_settled-returns-in-Chunked-clause-shows
start::start_settled-returns-in-Chunked-clause-shows g t c =
    subst (λ s. IfOk c.start_chunked.result (Started (allowed_in c.args.ctx.now) (form_at (strategy_data s) (ty (arc_value c.args.dtype))) c.args.marked c.args.name c.args.eof)) (sym c.in-Chunked.is) (c.start_chunked.ensures.shows (allowed_in c.args.ctx.now))

pub start::start_settled-returns-in-Chunked-clause-refused : goal.start::start_settled-returns-in-Chunked-clause-refused
start::start_settled-returns-in-Chunked-clause-refused g t c =
    IfErr-weaker c.start_chunked.result (λ e. e ≡ OutOfMemory) _ (λ e h. memory_refused _ _ _ e h) c.start_chunked.ensures.memory

pub start::start_settled-returns-in-Ok-clause-shows : goal.start::start_settled-returns-in-Ok-clause-shows
start::start_settled-returns-in-Ok-clause-shows g t c =
    let d : ty (arc_value c.in-Ok.node.dtype) ≡ ty (arc_value c.args.dtype) = ap (λ z. ty (arc_value z)) c.in-Ok.ensures.node in
    let f : columns_form c.in-Struct.fields (ty (arc_value c.in-Ok.node.dtype)) ≡ form_at (strategy_data c.args.strategy.now) (ty (arc_value c.args.dtype)) =
    ap (columns_form c.in-Struct.fields) d
    ∙ sym (plain_form c.in-Struct.fields (ty (arc_value c.args.dtype)) (subst (λ z. IsTrue (is_struct z)) d c.in-Ok.node.structs) c.in-Ok.ensures.distinct)
    ∙ ap (λ s. form_at (strategy_data s) (ty (arc_value c.args.dtype))) (sym c.in-Struct.is) in
    subst (λ z. IfOk c.start_columns.result (Started (allowed_in c.args.ctx.now) z c.args.marked c.args.name c.args.eof)) f c.start_columns.ensures.shows

pub start::start_settled-returns-in-Ok-clause-refused : goal.start::start_settled-returns-in-Ok-clause-refused
start::start_settled-returns-in-Ok-clause-refused g t c =
    let d : ty (arc_value c.in-Ok.node.dtype) ≡ ty (arc_value c.args.dtype) = ap (λ z. ty (arc_value z)) c.in-Ok.ensures.node in
    let f : columns_form c.in-Struct.fields (ty (arc_value c.in-Ok.node.dtype)) ≡ form_at (strategy_data c.args.strategy.now) (ty (arc_value c.args.dtype)) =
    ap (columns_form c.in-Struct.fields) d
    ∙ sym (plain_form c.in-Struct.fields (ty (arc_value c.args.dtype)) (subst (λ z. IsTrue (is_struct z)) d c.in-Ok.node.structs) c.in-Ok.ensures.distinct)
    ∙ ap (λ s. form_at (strategy_data s) (ty (arc_value c.args.dtype))) (sym c.in-Struct.is) in
    subst (λ z. IfErr c.start_columns.result (FormRefused (allowed_in c.args.ctx.now) z c.args.marked c.args.eof)) f c.start_columns.ensures.refused

pub start::start_settled-returns-in-Err-clause-refused : goal.start::start_settled-returns-in-Err-clause-refused
start::start_settled-returns-in-Err-clause-refused g t c =
    subst (λ s. FormRefused (allowed_in c.args.ctx.now) (form_at (strategy_data s) (ty (arc_value c.args.dtype))) c.args.marked c.args.eof c.in-Err.error) (sym c.in-Struct.is)
    (node_refused (allowed_in c.args.ctx.now) c.in-Struct.fields (ty (arc_value c.args.dtype)) c.args.marked (first_indices (form_at (struct_way c.in-Struct.fields) (ty (arc_value c.args.dtype))) c.args.marked c.args.eof) c.in-Err.error c.in-Err.ensures.refused)

pub start::start_settled-start_columns-requires : goal.start::start_settled-start_columns-requires
start::start_settled-start_columns-requires g t c κs within =
    let d : ty (arc_value c.in-Ok.node.dtype) ≡ ty (arc_value c.args.dtype) = ap (λ z. ty (arc_value z)) c.in-Ok.ensures.node in
    let f : columns_form c.in-Struct.fields (ty (arc_value c.in-Ok.node.dtype)) ≡ form_at (strategy_data c.args.strategy.now) (ty (arc_value c.args.dtype)) =
    ap (columns_form c.in-Struct.fields) d
    ∙ sym (plain_form c.in-Struct.fields (ty (arc_value c.args.dtype)) (subst (λ z. IsTrue (is_struct z)) d c.in-Ok.node.structs) c.in-Ok.ensures.distinct)
    ∙ ap (λ s. form_at (strategy_data s) (ty (arc_value c.args.dtype))) (sym c.in-Struct.is) in
    let n : weight (columns_form c.in-Struct.fields (ty (arc_value c.in-Ok.node.dtype))) ≡ weight (form_of c.args.strategy.now (arc_value c.args.dtype)) = ap weight f in
    let falls : 8 * weight (columns_form c.in-Struct.fields (ty (arc_value c.in-Ok.node.dtype))) + 3 < 8 * weight (form_of c.args.strategy.now (arc_value c.args.dtype)) + 4 = omega (arith, n) in
    search (rules, arith, c.requires.owned, falls)

pub start::start_settled-start_lists-requires : goal.start::start_settled-start_lists-requires
start::start_settled-start_lists-requires g t c κs within =
    let u : Ty = ty (arc_value c.args.dtype) in
    let s = c.in-List.lists in
    let l : is_list u ≡ true = list_at s u (subst (λ z. IsFalse (passes_on (strategy_data z) u)) c.in-List.is c.requires.settled) in
    let d : ty (arc_value c.in-Ok-lists_node.node.dtype) ≡ u = ap (λ z. ty (arc_value z)) c.in-Ok-lists_node.ensures.node.0 in
    let h : c.in-Ok-lists_node.node.split ≡ state_at (ty (arc_value c.in-Ok-lists_node.node.dtype)) true 0 = c.in-Ok-lists_node.ensures.node.1 ∙ ap (λ z. state_at z true 0) (sym d) in
    let f : lists_form s (ty (arc_value c.in-Ok-lists_node.node.dtype)) ≡ form_at (strategy_data c.args.strategy.now) u =
    ap (lists_form s) d ∙ sym (list_plain s u l) ∙ ap (λ z. form_at (strategy_data z) u) (sym c.in-List.is) in
    let n : weight (lists_form s (ty (arc_value c.in-Ok-lists_node.node.dtype))) ≡ weight (form_at (strategy_data c.args.strategy.now) u) = ap weight f in
    let falls : 8 * weight (lists_form s (ty (arc_value c.in-Ok-lists_node.node.dtype))) + 3 < 8 * weight (form_at (strategy_data c.args.strategy.now) u) + 4 = omega (arith, n) in
    search (rules, arith, c.requires.owned, h, falls)

pub start::start_settled-lists_node-requires : goal.start::start_settled-lists_node-requires
start::start_settled-lists_node-requires g t c =
    list_at c.in-List.lists (ty (arc_value c.args.dtype)) (subst (λ z. IsFalse (passes_on (strategy_data z) (ty (arc_value c.args.dtype)))) c.in-List.is c.requires.settled)

pub start::start_settled-returns-in-Ok-lists_node-clause-shows : goal.start::start_settled-returns-in-Ok-lists_node-clause-shows
start::start_settled-returns-in-Ok-lists_node-clause-shows g t c =
    let u : Ty = ty (arc_value c.args.dtype) in
    let s = c.in-List.lists in
    let l : is_list u ≡ true = list_at s u (subst (λ z. IsFalse (passes_on (strategy_data z) u)) c.in-List.is c.requires.settled) in
    let f : lists_form s (ty (arc_value c.in-Ok-lists_node.node.dtype)) ≡ form_at (strategy_data c.args.strategy.now) u =
    ap (λ z. lists_form s (ty (arc_value z))) c.in-Ok-lists_node.ensures.node.0 ∙ sym (list_plain s u l) ∙ ap (λ z. form_at (strategy_data z) u) (sym c.in-List.is) in
    subst (λ z. IfOk c.start_lists.result (Started (allowed_in c.args.ctx.now) z c.args.marked c.args.name c.args.eof)) f c.start_lists.ensures.shows

pub start::start_settled-returns-in-Ok-lists_node-clause-refused : goal.start::start_settled-returns-in-Ok-lists_node-clause-refused
start::start_settled-returns-in-Ok-lists_node-clause-refused g t c =
    let u : Ty = ty (arc_value c.args.dtype) in
    let s = c.in-List.lists in
    let l : is_list u ≡ true = list_at s u (subst (λ z. IsFalse (passes_on (strategy_data z) u)) c.in-List.is c.requires.settled) in
    let f : lists_form s (ty (arc_value c.in-Ok-lists_node.node.dtype)) ≡ form_at (strategy_data c.args.strategy.now) u =
    ap (λ z. lists_form s (ty (arc_value z))) c.in-Ok-lists_node.ensures.node.0 ∙ sym (list_plain s u l) ∙ ap (λ z. form_at (strategy_data z) u) (sym c.in-List.is) in
    subst (λ z. IfErr c.start_lists.result (FormRefused (allowed_in c.args.ctx.now) z c.args.marked c.args.eof)) f c.start_lists.ensures.refused

-- ---- a struct's columns

pub columns_start::start_columns-start_each-started-requires : goal.columns_start::start_columns-start_each-started-requires
columns_start::start_columns-start_each-started-requires g t c κs within =
    let u : Active = g.O.Order.active c.args.order.now in
    let o : Owned u (both (end_stock c.args.eof) (tasks_stock c.new-kids.result.items)) = none_yet u u (end_stock c.args.eof) c.new-kids.result.items c.new-kids.ensures.items c.requires.owned in
    let n : weight (columns_form c.args.fields.now (ty c.deref.result.now)) ≡ weight (columns_form c.args.fields.now (ty (arc_value c.args.node.dtype))) = ap (λ z. weight (columns_form c.args.fields.now (ty z))) c.deref.ensures in
    let falls : 8 * weight (columns_form c.args.fields.now (ty c.deref.result.now)) + 2 < 8 * weight (columns_form c.args.fields.now (ty (arc_value c.args.node.dtype))) + 3 = omega (arith, n) in
    search (rules, arith, o, falls)

pub columns_start::start_columns-give_up_pointer-requires : goal.columns_start::start_columns-give_up_pointer-requires
columns_start::start_columns-give_up_pointer-requires g t c =
    let u : Active = g.O.Order.active c.args.order.now in
    let v : Active = g.O.Order.active c.start_each-started.new.order in
    let e : Stock = end_stock c.args.eof in
    let f : Stock = end_stock c.start_each-started.new.eof in
    let k : Stock = tasks_stock c.start_each-started.new.kids.items in
    pointer_owned u v e f k c.requires.owned (from_none u v e c.new-kids.result.items c.new-kids.ensures.items (both f k) c.start_each-started.ensures.moved)

pub columns_start::start_columns-returns-in-Ok-clause-moved : goal.columns_start::start_columns-returns-in-Ok-clause-moved
columns_start::start_columns-returns-in-Ok-clause-moved g t c =
    let u : Active = g.O.Order.active c.args.order.now in
    let v : Active = g.O.Order.active c.start_each-started.new.order in
    let w : Active = g.O.Order.active c.give_up_pointer.new.order in
    let e : Stock = end_stock c.args.eof in
    let f : Stock = end_stock c.start_each-started.new.eof in
    let k : Stock = tasks_stock c.start_each-started.new.kids.items in
    let m : Moved u v e (both f k) = from_none u v e c.new-kids.result.items c.new-kids.ensures.items (both f k) c.start_each-started.ensures.moved in
    held_kids u w e k c.waiting.result c.waiting.ensures.held (kids_left u v e f k c.requires.owned m w c.give_up_pointer.ensures.moved)

pub columns_start::start_columns-returns-in-Ok-clause-shows : goal.columns_start::start_columns-returns-in-Ok-clause-shows
columns_start::start_columns-returns-in-Ok-clause-shows g t c =
    let u : Ty = ty (arc_value c.args.node.dtype) in
    let h : AllStarted (allowed_in c.args.ctx.now) (columns_form c.args.fields.now u) c.args.marked c.args.name c.args.eof c.start_each-started.new.kids.items =
    subst (λ z. AllStarted (allowed_in c.args.ctx.now) (columns_form c.args.fields.now (ty z)) c.args.marked c.args.name c.args.eof c.start_each-started.new.kids.items) c.deref.ensures (c.in-Ok.ensures.shows c.new-kids.ensures.items) in
    started (allowed_in c.args.ctx.now) (columns_form c.args.fields.now u) c.args.marked c.args.name c.args.eof (Columns c.args.node 0) c.start_each-started.new.kids.items c.waiting.result
    h.allowed h.counted (ap (λ z. by_column z 0) (typed u c.args.node.structs)) h.tasks c.waiting.ensures.shows

pub columns_start::start_columns-returns-in-Err-clause-refused : goal.columns_start::start_columns-returns-in-Err-clause-refused
columns_start::start_columns-returns-in-Err-clause-refused g t c =
    subst (λ z. FormRefused (allowed_in c.args.ctx.now) (columns_form c.args.fields.now (ty z)) c.args.marked c.args.eof c.in-Err.error) c.deref.ensures c.in-Err.ensures.refused

pub columns_start::start_columns-refuse_started-requires-clause-owned : goal.columns_start::start_columns-refuse_started-requires-clause-owned
columns_start::start_columns-refuse_started-requires-clause-owned g t c =
    let u : Active = g.O.Order.active c.args.order.now in
    let v : Active = g.O.Order.active c.start_each-started.new.order in
    let w : Active = g.O.Order.active c.give_up_pointer.new.order in
    let e : Stock = end_stock c.args.eof in
    let f : Stock = end_stock c.start_each-started.new.eof in
    let k : Stock = tasks_stock c.start_each-started.new.kids.items in
    let m : Moved u v e (both f k) = from_none u v e c.new-kids.result.items c.new-kids.ensures.items (both f k) c.start_each-started.ensures.moved in
    left_owned u v e f k c.requires.owned m w c.give_up_pointer.ensures.moved

pub columns_start::start_columns-refuse_started-requires-clause-reserved : goal.columns_start::start_columns-refuse_started-requires-clause-reserved
columns_start::start_columns-refuse_started-requires-clause-reserved g t c = c.start_each-started.ensures.reserved ∙ ap tasks_reserved c.new-kids.ensures.items

pub columns_start::start_columns-returns-in-Err-clause-moved : goal.columns_start::start_columns-returns-in-Err-clause-moved
columns_start::start_columns-returns-in-Err-clause-moved g t c =
    let u : Active = g.O.Order.active c.args.order.now in
    let v : Active = g.O.Order.active c.start_each-started.new.order in
    let w : Active = g.O.Order.active c.give_up_pointer.new.order in
    let e : Stock = end_stock c.args.eof in
    let f : Stock = end_stock c.start_each-started.new.eof in
    let k : Stock = tasks_stock c.start_each-started.new.kids.items in
    let m : Moved u v e (both f k) = from_none u v e c.new-kids.result.items c.new-kids.ensures.items (both f k) c.start_each-started.ensures.moved in
    moved_then u w (g.O.Order.active c.refuse_started.new.order) e k none (kids_left u v e f k c.requires.owned m w c.give_up_pointer.ensures.moved) c.refuse_started.ensures.moved

-- ---- a list's columns

pub columns_start::start_lists-start_parts-started-requires : goal.columns_start::start_lists-start_parts-started-requires
columns_start::start_lists-start_parts-started-requires g t c κs within =
    let u : Active = g.O.Order.active c.args.order.now in
    let o : Owned u (both (end_stock c.args.eof) (tasks_stock c.new-kids.result.items)) = none_yet u u (end_stock c.args.eof) c.new-kids.result.items c.new-kids.ensures.items c.requires.owned in
    let l : IsTrue (is_list (ty c.deref.result.now)) = subst (λ z. IsTrue (is_list (ty z))) (sym c.deref.ensures) c.args.node.lists in
    let n : weight (lists_form c.args.lists.now (ty c.deref.result.now)) ≡ weight (lists_form c.args.lists.now (ty (arc_value c.args.node.dtype))) = ap (λ z. weight (lists_form c.args.lists.now (ty z))) c.deref.ensures in
    let falls : 8 * weight (lists_form c.args.lists.now (ty c.deref.result.now)) + 2 < 8 * weight (lists_form c.args.lists.now (ty (arc_value c.args.node.dtype))) + 3 = omega (arith, n) in
    search (rules, arith, o, l, falls)

pub columns_start::start_lists-give_up_pointer-requires : goal.columns_start::start_lists-give_up_pointer-requires
columns_start::start_lists-give_up_pointer-requires g t c =
    let u : Active = g.O.Order.active c.args.order.now in
    let v : Active = g.O.Order.active c.start_parts-started.new.order in
    let e : Stock = end_stock c.args.eof in
    let f : Stock = end_stock c.start_parts-started.new.eof in
    let k : Stock = tasks_stock c.start_parts-started.new.kids.items in
    pointer_owned u v e f k c.requires.owned (from_none u v e c.new-kids.result.items c.new-kids.ensures.items (both f k) c.start_parts-started.ensures.moved)

pub columns_start::start_lists-returns-in-Ok-clause-moved : goal.columns_start::start_lists-returns-in-Ok-clause-moved
columns_start::start_lists-returns-in-Ok-clause-moved g t c =
    let u : Active = g.O.Order.active c.args.order.now in
    let v : Active = g.O.Order.active c.start_parts-started.new.order in
    let w : Active = g.O.Order.active c.give_up_pointer.new.order in
    let e : Stock = end_stock c.args.eof in
    let f : Stock = end_stock c.start_parts-started.new.eof in
    let k : Stock = tasks_stock c.start_parts-started.new.kids.items in
    let m : Moved u v e (both f k) = from_none u v e c.new-kids.result.items c.new-kids.ensures.items (both f k) c.start_parts-started.ensures.moved in
    held_kids u w e k c.waiting.result c.waiting.ensures.held (kids_left u v e f k c.requires.owned m w c.give_up_pointer.ensures.moved)

pub columns_start::start_lists-returns-in-Ok-clause-shows : goal.columns_start::start_lists-returns-in-Ok-clause-shows
columns_start::start_lists-returns-in-Ok-clause-shows g t c =
    let u : Ty = ty (arc_value c.args.node.dtype) in
    let h : AllStarted (allowed_in c.args.ctx.now) (lists_form c.args.lists.now u) c.args.marked c.args.name c.args.eof c.start_parts-started.new.kids.items =
    subst (λ z. AllStarted (allowed_in c.args.ctx.now) (lists_form c.args.lists.now (ty z)) c.args.marked c.args.name c.args.eof c.start_parts-started.new.kids.items) c.deref.ensures (c.in-Ok.ensures.shows c.new-kids.ensures.items) in
    started (allowed_in c.args.ctx.now) (lists_form c.args.lists.now u) c.args.marked c.args.name c.args.eof (Lists c.args.node 0) c.start_parts-started.new.kids.items c.waiting.result
    h.allowed h.counted (list_mind c.args.node c.args.lists.now c.args.marked c.args.eof c.requires.fresh) h.tasks c.waiting.ensures.shows

pub columns_start::start_lists-returns-in-Err-clause-refused : goal.columns_start::start_lists-returns-in-Err-clause-refused
columns_start::start_lists-returns-in-Err-clause-refused g t c =
    subst (λ z. FormRefused (allowed_in c.args.ctx.now) (lists_form c.args.lists.now (ty z)) c.args.marked c.args.eof c.in-Err.error) c.deref.ensures c.in-Err.ensures.refused

pub columns_start::start_lists-refuse_started-requires-clause-owned : goal.columns_start::start_lists-refuse_started-requires-clause-owned
columns_start::start_lists-refuse_started-requires-clause-owned g t c =
    let u : Active = g.O.Order.active c.args.order.now in
    let v : Active = g.O.Order.active c.start_parts-started.new.order in
    let w : Active = g.O.Order.active c.give_up_pointer.new.order in
    let e : Stock = end_stock c.args.eof in
    let f : Stock = end_stock c.start_parts-started.new.eof in
    let k : Stock = tasks_stock c.start_parts-started.new.kids.items in
    let m : Moved u v e (both f k) = from_none u v e c.new-kids.result.items c.new-kids.ensures.items (both f k) c.start_parts-started.ensures.moved in
    left_owned u v e f k c.requires.owned m w c.give_up_pointer.ensures.moved

pub columns_start::start_lists-refuse_started-requires-clause-reserved : goal.columns_start::start_lists-refuse_started-requires-clause-reserved
columns_start::start_lists-refuse_started-requires-clause-reserved g t c = c.start_parts-started.ensures.reserved ∙ ap tasks_reserved c.new-kids.ensures.items

pub columns_start::start_lists-returns-in-Err-clause-moved : goal.columns_start::start_lists-returns-in-Err-clause-moved
columns_start::start_lists-returns-in-Err-clause-moved g t c =
    let u : Active = g.O.Order.active c.args.order.now in
    let v : Active = g.O.Order.active c.start_parts-started.new.order in
    let w : Active = g.O.Order.active c.give_up_pointer.new.order in
    let e : Stock = end_stock c.args.eof in
    let f : Stock = end_stock c.start_parts-started.new.eof in
    let k : Stock = tasks_stock c.start_parts-started.new.kids.items in
    let m : Moved u v e (both f k) = from_none u v e c.new-kids.result.items c.new-kids.ensures.items (both f k) c.start_parts-started.ensures.moved in
    moved_then u w (g.O.Order.active c.refuse_started.new.order) e k none (kids_left u v e f k c.requires.owned m w c.give_up_pointer.ensures.moved) c.refuse_started.ensures.moved

-- ---- each of them

pub columns_start::start_each-start_validity-requires : goal.columns_start::start_each-start_validity-requires
columns_start::start_each-start_validity-requires g t c κs within =
    let s = c.args.fields.now in
    let n : weight (form_at c.validity-validity.result.now.item (boolean false)) ≡ weight (validity_form s) = ap (λ x. weight (form_at x.item (boolean false))) c.validity-validity.ensures in
    let falls : 8 * weight (form_at c.validity-validity.result.now.item (boolean false)) + 8 < 8 * weight (columns_form s (ty c.args.dtype.now)) + 2 = omega (arith, n) in
    search (rules, arith, c.requires.owned, falls)

pub columns_start::start_each-fields-init : goal.columns_start::start_each-fields-init
columns_start::start_each-fields-init g t c = record {
  owned = owned_now (g.O.Order.active c.args.order.now) (g.O.Order.active c.start_validity.new.order) (both (end_stock c.args.eof.now) (tasks_stock c.args.kids.now.items)) (both (end_stock c.start_validity.new.eof) (tasks_stock c.start_validity.new.kids.items)) c.requires.owned c.start_validity.ensures.moved;
  moved = c.start_validity.ensures.moved;
  reserved = c.start_validity.ensures.reserved;
  outlet = c.start_validity.ensures.outlet;
  sink = c.start_validity.ensures.sink;
  left =
      let b : c.if-marked.below ≡ (c.args.marked || c.is_nullable-nullable.result) = search (rules, tests) in
      rw (b, c.fields_in-columns.ensures) (left_first (allowed_in c.args.ctx.now) c.args.fields.now (ty c.args.dtype.now) c.is_nullable-nullable.result c.args.marked c.args.name.now c.args.eof.now c.start_validity.new.eof c.args.kids.now.items c.start_validity.new.kids.items
      c.is_nullable-nullable.ensures
      (subst (λ z. ManyStarted (allowed_in c.args.ctx.now) (validity_forms z.item c.is_nullable-nullable.result) c.args.marked c.args.name.now c.args.eof.now c.args.kids.now.items c.start_validity.new.eof c.start_validity.new.kids.items) c.validity-validity.ensures c.in_ok-start_validity.ensures.shows));
}

pub columns_start::start_each-returns-in_err-start_validity-clause-refused : goal.columns_start::start_each-returns-in_err-start_validity-clause-refused
columns_start::start_each-returns-in_err-start_validity-clause-refused g t c =
    let p = err_from_is_err_and c.from_residual.result c.from_residual.ensures.1 in
    rw (p.1, p.2) (validity_refused (allowed_in c.args.ctx.now) c.args.fields.now (ty c.args.dtype.now) c.is_nullable-nullable.result c.args.marked c.args.eof.now c.in_err-start_validity.field-0.0 c.is_nullable-nullable.ensures
    (subst (λ z. ManyRefused (allowed_in c.args.ctx.now) (validity_forms z.item c.is_nullable-nullable.result) c.args.marked c.args.eof.now c.in_err-start_validity.field-0.0) c.validity-validity.ensures c.in_err-start_validity.ensures.refused))

pub columns_start::start_each-start_field-requires : goal.columns_start::start_each-start_field-requires
columns_start::start_each-start_field-requires g t c κs within =
    let s = c.args.fields.now in
    let x : StructField = c.field-item.result in
    let h : c.fields.field-index < length c.fields_in-columns.result.now = omega arith in
    let a = field_weight s c.fields_in-columns.result.now c.fields.field-index x h c.field-item.is in
    let b : weights (field_forms s (map field_ty c.fields_in-columns.result.now)) ≡ weights (field_forms s (fields_of (ty c.args.dtype.now))) = ap (λ z. weights (field_forms s z)) c.fields_in-columns.ensures in
    let falls : 8 * weight (field_form s (field_ty x)) + 8 < 8 * weight (columns_form s (ty c.args.dtype.now)) + 2 = omega (arith, a, b) in
    search (rules, arith, c.fields.invariant.owned, falls)

pub columns_start::start_each-returns-in_err-start_field-clause-moved : goal.columns_start::start_each-returns-in_err-start_field-clause-moved
columns_start::start_each-returns-in_err-start_field-clause-moved g t c =
    moved_then (g.O.Order.active c.args.order.now) (g.O.Order.active c.fields.order) (g.O.Order.active c.start_field.new.order)
    (both (end_stock c.args.eof.now) (tasks_stock c.args.kids.now.items)) (both (end_stock c.fields.eof) (tasks_stock c.fields.kids.items)) (both (end_stock c.start_field.new.eof) (tasks_stock c.start_field.new.kids.items))
    c.fields.invariant.moved c.start_field.ensures.moved

pub columns_start::start_each-returns-in_err-start_field-clause-refused : goal.columns_start::start_each-returns-in_err-start_field-clause-refused
columns_start::start_each-returns-in_err-start_field-clause-refused g t c =
    let p = err_from_is_err_and c.from_residual-in_err-start_field.result c.from_residual-in_err-start_field.ensures.1 in
    let f : Form = columns_form c.args.fields.now (ty c.args.dtype.now) in
    let x : StructField = c.field-item.result in
    let h : c.fields.field-index < length c.fields_in-columns.result.now = omega arith in
    let m = fields_more c.args.fields.now c.fields_in-columns.result.now c.fields.field-index x h c.field-item.is in
    let gs : Forms = field_forms c.args.fields.now (map field_ty (drop (c.fields.field-index + 1) c.fields_in-columns.result.now)) in
    let l : Left (allowed_in c.args.ctx.now) f c.args.marked c.args.name.now c.args.eof.now c.args.kids.now.items (form_then (field_form c.args.fields.now (field_ty x)) gs) c.if-marked.below c.fields.kids.items c.fields.eof =
    subst (λ z. Left (allowed_in c.args.ctx.now) f c.args.marked c.args.name.now c.args.eof.now c.args.kids.now.items z c.if-marked.below c.fields.kids.items c.fields.eof) m c.fields.invariant.left in
    rw (p.1, p.2) (left_refused (allowed_in c.args.ctx.now) f c.args.marked c.args.name.now c.args.eof.now c.args.kids.now.items (field_form c.args.fields.now (field_ty x)) gs c.if-marked.below c.fields.kids.items c.fields.eof
    c.in_err-start_field.field-0.0 l c.in_err-start_field.ensures.refused)

pub columns_start::start_each-returns-clause-shows : goal.columns_start::start_each-returns-clause-shows
columns_start::start_each-returns-clause-shows g t c = λ empty.
    let f : Form = columns_form c.args.fields.now (ty c.args.dtype.now) in
    let b : Bool = c.if-marked.below in
    all_started (allowed_in c.args.ctx.now) f c.args.marked c.args.name.now c.args.eof.now c.args.kids.now.items b c.fields.kids.items c.fields.eof
    (subst (λ z. Left (allowed_in c.args.ctx.now) f c.args.marked c.args.name.now c.args.eof.now c.args.kids.now.items z b c.fields.kids.items c.fields.eof)
    (fields_end c.args.fields.now c.fields_in-columns.result.now c.fields.field-index (omega arith)) c.fields.invariant.left) empty

pub columns_start::start_each-fields-preserved : goal.columns_start::start_each-fields-preserved
columns_start::start_each-fields-preserved g t c = record {
  owned = owned_now (g.O.Order.active c.fields.order) (g.O.Order.active c.start_field.new.order) (both (end_stock c.fields.eof) (tasks_stock c.fields.kids.items)) (both (end_stock c.start_field.new.eof) (tasks_stock c.start_field.new.kids.items)) c.fields.invariant.owned c.start_field.ensures.moved;
  moved = moved_then (g.O.Order.active c.args.order.now) (g.O.Order.active c.fields.order) (g.O.Order.active c.start_field.new.order)
      (both (end_stock c.args.eof.now) (tasks_stock c.args.kids.now.items)) (both (end_stock c.fields.eof) (tasks_stock c.fields.kids.items)) (both (end_stock c.start_field.new.eof) (tasks_stock c.start_field.new.kids.items))
      c.fields.invariant.moved c.start_field.ensures.moved;
  reserved = c.start_field.ensures.reserved ∙ c.fields.invariant.reserved;
  outlet = c.start_field.ensures.outlet ∙ c.fields.invariant.outlet;
  sink = c.start_field.ensures.sink ∙ c.fields.invariant.sink;
  left =
      let f : Form = columns_form c.args.fields.now (ty c.args.dtype.now) in
      let b : Bool = c.if-marked.below in
      let x : StructField = c.field-item.result in
      let h : c.fields.field-index < length c.fields_in-columns.result.now = omega arith in
      let gs : Forms = field_forms c.args.fields.now (map field_ty (drop (c.fields.field-index + 1) c.fields_in-columns.result.now)) in
      left_next (allowed_in c.args.ctx.now) f c.args.marked c.args.name.now c.args.eof.now c.args.kids.now.items (field_form c.args.fields.now (field_ty x)) gs b c.fields.kids.items c.start_field.new.kids.items c.fields.eof c.start_field.new.eof
      (subst (λ z. Left (allowed_in c.args.ctx.now) f c.args.marked c.args.name.now c.args.eof.now c.args.kids.now.items z b c.fields.kids.items c.fields.eof) (fields_more c.args.fields.now c.fields_in-columns.result.now c.fields.field-index x h c.field-item.is) c.fields.invariant.left)
      c.in_ok-start_field.ensures.shows;
}

-- ---- elements, offsets and validity

pub columns_start::start_parts-start_column-requires : goal.columns_start::start_parts-start_column-requires
columns_start::start_parts-start_column-requires g t c κs within =
    let s = c.args.lists.now in
    let u : Ty = ty (arc_value c.in_ok-elements.elements) in
    let n : weight (form_at s.elements.item u) ≡ weight (form_at s.elements.item (element_type (ty c.args.dtype.now))) = ap (λ z. weight (form_at s.elements.item z)) (ap ty c.in_ok-elements.ensures.ok ∙ c.in_ok-element_copy.ensures) in
    let falls : 8 * weight (form_at s.elements.item u) + 7 < 8 * weight (lists_form s (ty c.args.dtype.now)) + 2 = omega (arith, n) in
    search (rules, arith, c.requires.owned, falls)

pub columns_start::start_parts-start_column-requires-2 : goal.columns_start::start_parts-start_column-requires-2
columns_start::start_parts-start_column-requires-2 g t c κs within =
    let s = c.args.lists.now in
    let u : Ty = ty (arc_value c.in_ok-offsets.offsets) in
    let o : Owned (g.O.Order.active c.start_column.new.order) (both (end_stock c.start_column.new.eof) (tasks_stock c.start_column.new.kids.items)) =
    owned_now (g.O.Order.active c.args.order.now) (g.O.Order.active c.start_column.new.order) (both (end_stock c.args.eof.now) (tasks_stock c.args.kids.now.items)) (both (end_stock c.start_column.new.eof) (tasks_stock c.start_column.new.kids.items)) c.requires.owned c.start_column.ensures.moved in
    let n : weight (form_at s.offsets.item u) ≡ weight (form_at s.offsets.item offset_type) = ap (λ z. weight (form_at s.offsets.item z)) (ap ty c.in_ok-offsets.ensures.ok ∙ ty_offsets) in
    let falls : 8 * weight (form_at s.offsets.item u) + 7 < 8 * weight (lists_form s (ty c.args.dtype.now)) + 2 = omega (arith, n) in
    search (rules, arith, o, falls)

pub columns_start::start_parts-start_validity-requires : goal.columns_start::start_parts-start_validity-requires
columns_start::start_parts-start_validity-requires g t c κs within =
    let s = c.args.lists.now in
    let o : Owned (g.O.Order.active c.start_column-2.new.order) (both (end_stock c.start_column-2.new.eof) (tasks_stock c.start_column-2.new.kids.items)) =
    owned_now (g.O.Order.active c.start_column.new.order) (g.O.Order.active c.start_column-2.new.order) (both (end_stock c.start_column.new.eof) (tasks_stock c.start_column.new.kids.items)) (both (end_stock c.start_column-2.new.eof) (tasks_stock c.start_column-2.new.kids.items)) (owned_now (g.O.Order.active c.args.order.now) (g.O.Order.active c.start_column.new.order) (both (end_stock c.args.eof.now) (tasks_stock c.args.kids.now.items)) (both (end_stock c.start_column.new.eof) (tasks_stock c.start_column.new.kids.items)) c.requires.owned c.start_column.ensures.moved) c.start_column-2.ensures.moved in
    let falls : 8 * weight (form_at s.validity.item (boolean false)) + 8 < 8 * weight (lists_form s (ty c.args.dtype.now)) + 2 = omega arith in
    search (rules, arith, o, falls)

pub columns_start::start_parts-returns-in_err-start_column-clause-refused : goal.columns_start::start_parts-returns-in_err-start_column-clause-refused
columns_start::start_parts-returns-in_err-start_column-clause-refused g t c =
    let r = err_from_is_err_and c.from_residual-in_err-start_column.result c.from_residual-in_err-start_column.ensures.1 in
    rw (r.1, r.2) (elements_refused (allowed_in c.args.ctx.now) c.args.lists.now (ty c.args.dtype.now) c.args.marked c.args.name.now c.args.eof.now c.args.kids.now.items (ty (arc_value c.in_ok-elements.elements)) c.in_err-start_column.field-0.0
    (ap ty c.in_ok-elements.ensures.ok ∙ c.in_ok-element_copy.ensures) c.in_err-start_column.ensures.refused)

pub columns_start::start_parts-returns-in_err-start_column-2-clause-moved : goal.columns_start::start_parts-returns-in_err-start_column-2-clause-moved
columns_start::start_parts-returns-in_err-start_column-2-clause-moved g t c =
    moved_then (g.O.Order.active c.args.order.now) (g.O.Order.active c.start_column.new.order) (g.O.Order.active c.start_column-2.new.order) (both (end_stock c.args.eof.now) (tasks_stock c.args.kids.now.items)) (both (end_stock c.start_column.new.eof) (tasks_stock c.start_column.new.kids.items)) (both (end_stock c.start_column-2.new.eof) (tasks_stock c.start_column-2.new.kids.items)) c.start_column.ensures.moved c.start_column-2.ensures.moved

pub columns_start::start_parts-returns-in_err-start_column-2-clause-refused : goal.columns_start::start_parts-returns-in_err-start_column-2-clause-refused
columns_start::start_parts-returns-in_err-start_column-2-clause-refused g t c =
    let s = c.args.lists.now in
    let u : Ty = ty c.args.dtype.now in
    let m : Bool = c.args.marked in
    let at = c.args.name.now in
    let e = c.args.eof.now in
    let ts = c.args.kids.now.items in
    let p : ty (arc_value c.in_ok-elements.elements) ≡ element_type u = ap ty c.in_ok-elements.ensures.ok ∙ c.in_ok-element_copy.ensures in
    let one : Left (allowed_in c.args.ctx.now) (lists_form s u) m at e ts (form_then (form_at s.offsets.item offset_type) (validity_forms s.validity.item (nullable u))) m c.start_column.new.kids.items c.start_column.new.eof =
    left_elements (allowed_in c.args.ctx.now) s u m at e ts (ty (arc_value c.in_ok-elements.elements)) c.start_column.new.kids.items c.start_column.new.eof p c.in_ok-start_column.ensures.shows in
    let q : ty (arc_value c.in_ok-offsets.offsets) ≡ offset_type = ap ty c.in_ok-offsets.ensures.ok ∙ ty_offsets in
    let r = err_from_is_err_and c.from_residual-in_err-start_column-2.result c.from_residual-in_err-start_column-2.ensures.1 in
    rw (r.1, r.2) (offsets_refused (allowed_in c.args.ctx.now) s u m at e ts (ty (arc_value c.in_ok-offsets.offsets)) c.start_column.new.kids.items c.start_column.new.eof c.in_err-start_column-2.field-0.0 q one c.in_err-start_column-2.ensures.refused)

pub columns_start::start_parts-returns-clause-moved : goal.columns_start::start_parts-returns-clause-moved
columns_start::start_parts-returns-clause-moved g t c =
    moved_then (g.O.Order.active c.args.order.now) (g.O.Order.active c.start_column-2.new.order) (g.O.Order.active c.start_validity.new.order) (both (end_stock c.args.eof.now) (tasks_stock c.args.kids.now.items)) (both (end_stock c.start_column-2.new.eof) (tasks_stock c.start_column-2.new.kids.items)) (both (end_stock c.start_validity.new.eof) (tasks_stock c.start_validity.new.kids.items))
    (moved_then (g.O.Order.active c.args.order.now) (g.O.Order.active c.start_column.new.order) (g.O.Order.active c.start_column-2.new.order) (both (end_stock c.args.eof.now) (tasks_stock c.args.kids.now.items)) (both (end_stock c.start_column.new.eof) (tasks_stock c.start_column.new.kids.items)) (both (end_stock c.start_column-2.new.eof) (tasks_stock c.start_column-2.new.kids.items)) c.start_column.ensures.moved c.start_column-2.ensures.moved) c.start_validity.ensures.moved

pub columns_start::start_parts-returns-clause-shows : goal.columns_start::start_parts-returns-clause-shows
columns_start::start_parts-returns-clause-shows g t c =
    let s = c.args.lists.now in
    let u : Ty = ty c.args.dtype.now in
    let m : Bool = c.args.marked in
    let at = c.args.name.now in
    let e = c.args.eof.now in
    let ts = c.args.kids.now.items in
    let p : ty (arc_value c.in_ok-elements.elements) ≡ element_type u = ap ty c.in_ok-elements.ensures.ok ∙ c.in_ok-element_copy.ensures in
    let one : Left (allowed_in c.args.ctx.now) (lists_form s u) m at e ts (form_then (form_at s.offsets.item offset_type) (validity_forms s.validity.item (nullable u))) m c.start_column.new.kids.items c.start_column.new.eof =
    left_elements (allowed_in c.args.ctx.now) s u m at e ts (ty (arc_value c.in_ok-elements.elements)) c.start_column.new.kids.items c.start_column.new.eof p c.in_ok-start_column.ensures.shows in
    let q : ty (arc_value c.in_ok-offsets.offsets) ≡ offset_type = ap ty c.in_ok-offsets.ensures.ok ∙ ty_offsets in
    let two : Left (allowed_in c.args.ctx.now) (lists_form s u) m at e ts (validity_forms s.validity.item (nullable u)) m c.start_column-2.new.kids.items c.start_column-2.new.eof =
    left_offsets (allowed_in c.args.ctx.now) s u m at e ts (ty (arc_value c.in_ok-offsets.offsets)) c.start_column.new.kids.items c.start_column-2.new.kids.items c.start_column.new.eof c.start_column-2.new.eof q one c.in_ok-start_column-2.ensures.shows in
    IfOk-weaker c.start_validity.result _ _
    (λ k h empty. last_started (allowed_in c.args.ctx.now) (lists_form s u) m at e ts s.validity.item (nullable u) m c.start_column-2.new.kids.items c.start_validity.new.kids.items c.start_column-2.new.eof c.start_validity.new.eof two
    (subst (λ z. ManyStarted (allowed_in c.args.ctx.now) (validity_forms s.validity.item z) m at c.start_column-2.new.eof c.start_column-2.new.kids.items c.start_validity.new.eof c.start_validity.new.kids.items) c.is_nullable-nullable.ensures h) empty)
    c.start_validity.ensures.shows

pub columns_start::start_parts-returns-clause-refused : goal.columns_start::start_parts-returns-clause-refused
columns_start::start_parts-returns-clause-refused g t c =
    let s = c.args.lists.now in
    let u : Ty = ty c.args.dtype.now in
    let m : Bool = c.args.marked in
    let at = c.args.name.now in
    let e = c.args.eof.now in
    let ts = c.args.kids.now.items in
    let p : ty (arc_value c.in_ok-elements.elements) ≡ element_type u = ap ty c.in_ok-elements.ensures.ok ∙ c.in_ok-element_copy.ensures in
    let one : Left (allowed_in c.args.ctx.now) (lists_form s u) m at e ts (form_then (form_at s.offsets.item offset_type) (validity_forms s.validity.item (nullable u))) m c.start_column.new.kids.items c.start_column.new.eof =
    left_elements (allowed_in c.args.ctx.now) s u m at e ts (ty (arc_value c.in_ok-elements.elements)) c.start_column.new.kids.items c.start_column.new.eof p c.in_ok-start_column.ensures.shows in
    let q : ty (arc_value c.in_ok-offsets.offsets) ≡ offset_type = ap ty c.in_ok-offsets.ensures.ok ∙ ty_offsets in
    let two : Left (allowed_in c.args.ctx.now) (lists_form s u) m at e ts (validity_forms s.validity.item (nullable u)) m c.start_column-2.new.kids.items c.start_column-2.new.eof =
    left_offsets (allowed_in c.args.ctx.now) s u m at e ts (ty (arc_value c.in_ok-offsets.offsets)) c.start_column.new.kids.items c.start_column-2.new.kids.items c.start_column.new.eof c.start_column-2.new.eof q one c.in_ok-start_column-2.ensures.shows in
    IfErr-weaker c.start_validity.result _ _
    (λ x h. rest_refused (allowed_in c.args.ctx.now) (lists_form s u) m at e ts (validity_forms s.validity.item (nullable u)) m c.start_column-2.new.kids.items c.start_column-2.new.eof x two
    (subst (λ z. ManyRefused (allowed_in c.args.ctx.now) (validity_forms s.validity.item z) m c.start_column-2.new.eof x) c.is_nullable-nullable.ensures h))
    c.start_validity.ensures.refused

-- ---- the validity, and a field

pub columns_start::start_validity-start_column-requires : goal.columns_start::start_validity-start_column-requires
columns_start::start_validity-start_column-requires g t c κs within =
    let w = c.args.validity.now.item in
    let n : weight (form_at w (ty (arc_value c.in_ok-flags.flags))) ≡ weight (form_at w (boolean false)) = ap (λ z. weight (form_at w z)) (ap ty c.in_ok-flags.ensures.ok ∙ ty_flags) in
    let falls : 8 * weight (form_at w (ty (arc_value c.in_ok-flags.flags))) + 7 < 8 * weight (form_at w (boolean false)) + 8 = omega (arith, n) in
    search (rules, arith, c.requires.owned, falls)

pub columns_start::start_validity-returns-then-not-nullable-clause-shows : goal.columns_start::start_validity-returns-then-not-nullable-clause-shows
columns_start::start_validity-returns-then-not-nullable-clause-shows g t c =
    subst (λ z. ManyStarted (allowed_in c.args.ctx.now) (validity_forms c.args.validity.now.item z) c.args.marked c.args.name.now c.args.eof.now c.args.kids.now.items c.args.eof.now c.args.kids.now.items) (sym c.if-not-nullable.true)
    (none_started (allowed_in c.args.ctx.now) c.args.marked c.args.name.now c.args.eof.now c.args.kids.now.items)

pub columns_start::start_validity-returns-clause-shows : goal.columns_start::start_validity-returns-clause-shows
columns_start::start_validity-returns-clause-shows g t c =
    let w = c.args.validity.now.item in
    let f : form_at w (ty (arc_value c.in_ok-flags.flags)) ≡ form_at w (boolean false) = ap (form_at w) (ap ty c.in_ok-flags.ensures.ok ∙ ty_flags) in
    subst (λ z. OnOk c.start_column.result (ManyStarted (allowed_in c.args.ctx.now) (validity_forms w z) c.args.marked c.args.name.now c.args.eof.now c.args.kids.now.items c.start_column.new.eof c.start_column.new.kids.items)) (sym c.if-not-nullable.false)
    (subst (λ z. OnOk c.start_column.result (OneStarted (allowed_in c.args.ctx.now) z c.args.marked c.args.name.now c.args.eof.now c.args.kids.now.items c.start_column.new.eof c.start_column.new.kids.items)) f c.start_column.ensures.shows)

pub columns_start::start_validity-returns-clause-refused : goal.columns_start::start_validity-returns-clause-refused
columns_start::start_validity-returns-clause-refused g t c =
    let w = c.args.validity.now.item in
    let f : form_at w (ty (arc_value c.in_ok-flags.flags)) ≡ form_at w (boolean false) = ap (form_at w) (ap ty c.in_ok-flags.ensures.ok ∙ ty_flags) in
    subst (λ z. IfErr c.start_column.result (ManyRefused (allowed_in c.args.ctx.now) (validity_forms w z) c.args.marked c.args.eof.now)) (sym c.if-not-nullable.false)
    (subst (λ z. IfErr c.start_column.result (OneRefused (allowed_in c.args.ctx.now) z c.args.marked c.args.eof.now)) f c.start_column.ensures.refused)

pub columns_start::start_field-returns-clause-shows : goal.columns_start::start_field-returns-clause-shows
columns_start::start_field-returns-clause-shows g t c =
    subst (λ z. OnOk c.start_column.result (OneStarted (allowed_in c.args.ctx.now) z c.args.marked c.args.name.now c.args.eof.now c.args.kids.now.items c.start_column.new.eof c.start_column.new.kids.items))
    (field_form_is c.args.fields.now c.args.field.now c.writer-writer.result.now.item (ty (arc_value c.in_ok-dtype.dtype)) c.writer-writer.ensures (ap ty c.in_ok-dtype.ensures.ok ∙ c.in_ok-clone.ensures.cases))
    c.start_column.ensures.shows

pub columns_start::start_field-returns-clause-refused : goal.columns_start::start_field-returns-clause-refused
columns_start::start_field-returns-clause-refused g t c =
    subst (λ z. IfErr c.start_column.result (OneRefused (allowed_in c.args.ctx.now) z c.args.marked c.args.eof.now))
    (field_form_is c.args.fields.now c.args.field.now c.writer-writer.result.now.item (ty (arc_value c.in_ok-dtype.dtype)) c.writer-writer.ensures (ap ty c.in_ok-dtype.ensures.ok ∙ c.in_ok-clone.ensures.cases))
    c.start_column.ensures.refused

pub columns_start::start_field-start_column-requires : goal.columns_start::start_field-start_column-requires
columns_start::start_field-start_column-requires g t c κs within =
    let s = c.args.fields.now in
    let n : weight (form_at c.writer-writer.result.now.item (ty (arc_value c.in_ok-dtype.dtype))) ≡ weight (field_form s (field_ty c.args.field.now)) =
    ap weight (field_form_is s c.args.field.now c.writer-writer.result.now.item (ty (arc_value c.in_ok-dtype.dtype)) c.writer-writer.ensures (ap ty c.in_ok-dtype.ensures.ok ∙ c.in_ok-clone.ensures.cases)) in
    let falls : 8 * weight (form_at c.writer-writer.result.now.item (ty (arc_value c.in_ok-dtype.dtype))) + 7 < 8 * weight (field_form s (field_ty c.args.field.now)) + 8 = omega (arith, n) in
    search (rules, arith, c.requires.owned, falls)

-- ---- one more child

pub columns_start::start_column-returns-in_default-clause-moved : goal.columns_start::start_column-returns-in_default-clause-moved
columns_start::start_column-returns-in_default-clause-moved g t c =
    let u : Active = g.O.Order.active c.args.order.now in
    let e : Stock = end_stock c.args.eof.now in
    same_kids u u (both e (tasks_stock c.args.kids.now.items)) e c.args.kids.now.items c.next_name.new.kids.items c.next_name.ensures.kids (moved_none u (both e (tasks_stock c.args.kids.now.items)) c.requires.owned)

pub columns_start::start_column-start_under-requires : goal.columns_start::start_column-start_under-requires
columns_start::start_column-start_under-requires g t c κs within =
    let u : Active = g.O.Order.active c.args.order.now in
    let o : Owned u (end_stock c.args.eof.now) = owned_left u (end_stock c.args.eof.now) (tasks_stock c.args.kids.now.items) c.requires.owned in
    let falls : 8 * weight (form_at c.args.writer.now.item (ty (arc_value c.args.dtype))) + 6 < 8 * weight (form_at c.args.writer.now.item (ty (arc_value c.args.dtype))) + 7 = omega arith in
    search (rules, arith, o, falls)

pub columns_start::start_column-returns-in_err-kid-clause-moved : goal.columns_start::start_column-returns-in_err-kid-clause-moved
columns_start::start_column-returns-in_err-kid-clause-moved g t c =
    let u : Active = g.O.Order.active c.args.order.now in
    let v : Active = g.O.Order.active c.start_under.new.order in
    let e : Stock = end_stock c.args.eof.now in
    let f : Stock = end_stock c.start_under.new.eof in
    same_kids u v (both e (tasks_stock c.args.kids.now.items)) f c.args.kids.now.items c.next_name.new.kids.items c.next_name.ensures.kids
    (pointer_moved u v e f (tasks_stock c.args.kids.now.items) c.requires.owned c.in_err-kid.ensures.moved)

pub columns_start::start_column-returns-clause-moved : goal.columns_start::start_column-returns-clause-moved
columns_start::start_column-returns-clause-moved g t c =
    child_moved (g.O.Order.active c.args.order.now) (g.O.Order.active c.start_under.new.order) (end_stock c.args.eof.now) (end_stock c.start_under.new.eof)
    c.args.kids.now.items c.push_reserved.new.self.items c.in_ok-kid.kid c.requires.owned c.in_ok-kid.ensures.moved
    (c.push_reserved.ensures.items ∙ ap (λ z. z ++ (c.in_ok-kid.kid ∷ [])) c.next_name.ensures.kids)

pub columns_start::start_column-returns-clause-shows : goal.columns_start::start_column-returns-clause-shows
columns_start::start_column-returns-clause-shows g t c =
    one_started (allowed_in c.args.ctx.now) (form_at c.args.writer.now.item (ty (arc_value c.args.dtype))) c.args.marked c.args.name.now c.in-Ok.name c.args.eof.now c.start_under.new.eof c.args.kids.now.items c.push_reserved.new.self.items c.in_ok-kid.kid
    c.in_ok-kid.ensures.shows (c.in-Ok.ensures.name ∙ ap (under c.args.name.now) (len_is c.args.kids.now)) c.in_ok-kid.ensures.next c.in_ok-kid.ensures.fits
    (c.push_reserved.ensures.items ∙ ap (λ z. z ++ (c.in_ok-kid.kid ∷ [])) c.next_name.ensures.kids)

pub start::start_under-start_task-requires : goal.start::start_under-start_task-requires
start::start_under-start_task-requires g t c κs within =
    let v : Active = g.O.Order.active c.split_below.new.order in
    let o : Owned v (end_stock c.in-Ok.below) = off_owned (g.O.Order.active c.args.order.now) v (end_stock c.args.eof.now) (end_stock c.split_below.new.eof) (end_stock c.in-Ok.below) c.requires.owned c.in-Ok.ensures.moved in
    let n : weight (form_of c.strategy.result.now (arc_value c.args.dtype)) ≡ weight (form_at c.args.writer.now.item (ty (arc_value c.args.dtype))) = ap (λ z. weight (form_at z (ty (arc_value c.args.dtype)))) c.strategy.ensures.same in
    let falls : 8 * weight (form_of c.strategy.result.now (arc_value c.args.dtype)) + 5 < 8 * weight (form_at c.args.writer.now.item (ty (arc_value c.args.dtype))) + 6 = omega (arith, n) in
    search (rules, arith, o, falls)

pub start::start_under-returns-in-Ok-clause-moved : goal.start::start_under-returns-in-Ok-clause-moved
start::start_under-returns-in-Ok-clause-moved g t c =
    off_moved (g.O.Order.active c.args.order.now) (g.O.Order.active c.split_below.new.order) (end_stock c.args.eof.now) (end_stock c.split_below.new.eof) (end_stock c.in-Ok.below) c.requires.owned c.in-Ok.ensures.moved
    (g.O.Order.active c.start_task.new.order) (ok_stock task_stock c.start_task.result) c.start_task.ensures.moved

pub start::start_under-returns-in-Ok-clause-shows : goal.start::start_under-returns-in-Ok-clause-shows
start::start_under-returns-in-Ok-clause-shows g t c =
    subst (λ z. IfOk c.start_task.result (Started (allowed_in c.args.ctx.now) (form_at z (ty (arc_value c.args.dtype))) c.args.marked c.args.name (inside c.args.eof.now))) c.strategy.ensures.same
    (subst (λ z. IfOk c.start_task.result (Started (allowed_in c.args.ctx.now) (form_at (strategy_data c.strategy.result.now) (ty (arc_value c.args.dtype))) c.args.marked c.args.name z)) c.in-Ok.ensures.below c.start_task.ensures.shows)

pub start::start_under-returns-in-Ok-clause-next : goal.start::start_under-returns-in-Ok-clause-next
start::start_under-returns-in-Ok-clause-next g t c = IfOk-weaker c.start_task.result _ _ (λ k h. c.in-Ok.ensures.next) c.start_task.ensures.shows

pub start::start_under-returns-in-Ok-clause-fits : goal.start::start_under-returns-in-Ok-clause-fits
start::start_under-returns-in-Ok-clause-fits g t c = IfOk-weaker c.start_task.result _ _ (λ k h. c.in-Ok.ensures.fits) c.start_task.ensures.shows

pub start::start_under-returns-in-Ok-clause-refused : goal.start::start_under-returns-in-Ok-clause-refused
start::start_under-returns-in-Ok-clause-refused g t c =
    let f : Form = form_at c.args.writer.now.item (ty (arc_value c.args.dtype)) in
    IfErr-weaker c.start_task.result (FormRefused (allowed_in c.args.ctx.now) f c.args.marked (inside c.args.eof.now)) (OneRefused (allowed_in c.args.ctx.now) f c.args.marked c.args.eof.now) (λ x h. task_refused (allowed_in c.args.ctx.now) f c.args.marked c.args.eof.now x h)
    (subst (λ z. IfErr c.start_task.result (FormRefused (allowed_in c.args.ctx.now) (form_at z (ty (arc_value c.args.dtype))) c.args.marked (inside c.args.eof.now))) c.strategy.ensures.same
    (subst (λ z. IfErr c.start_task.result (FormRefused (allowed_in c.args.ctx.now) (form_at (strategy_data c.strategy.result.now) (ty (arc_value c.args.dtype))) c.args.marked z)) c.in-Ok.ensures.below c.start_task.ensures.refused))

pub start::start_under-returns-in-Err-clause-refused : goal.start::start_under-returns-in-Err-clause-refused
start::start_under-returns-in-Err-clause-refused g t c =
    pointer_refused (allowed_in c.args.ctx.now) (form_at c.args.writer.now.item (ty (arc_value c.args.dtype))) c.args.marked c.args.eof.now c.in-Err.error c.in-Err.ensures.refused

pub columns_start::start_column-returns-clause-reserved : goal.columns_start::start_column-returns-clause-reserved
columns_start::start_column-returns-clause-reserved g t c =
    let n = started_none (allowed_in c.args.ctx.now) (form_at c.args.writer.now.item (ty (arc_value c.args.dtype))) c.args.marked _ (inside c.args.eof.now) c.in_ok-kid.kid c.in_ok-kid.ensures.shows in
    omega (arith, n, tasks_push c.push_reserved.new.self.items c.args.kids.now.items c.in_ok-kid.kid (c.push_reserved.ensures.items ∙ ap (λ z. z ++ (c.in_ok-kid.kid ∷ [])) c.next_name.ensures.kids))

pub columns_start::start_column-returns-in_default-clause-reserved : goal.columns_start::start_column-returns-in_default-clause-reserved
columns_start::start_column-returns-in_default-clause-reserved g t c = ap tasks_reserved c.next_name.ensures.kids

pub columns_start::start_column-returns-in_err-kid-clause-reserved : goal.columns_start::start_column-returns-in_err-kid-clause-reserved
columns_start::start_column-returns-in_err-kid-clause-reserved g t c = ap tasks_reserved c.next_name.ensures.kids

-- ---- a node that regroups

pub start::start_grouped-start_only-requires : goal.start::start_grouped-start_only-requires
start::start_grouped-start_only-requires g t c κs within =
    let k : Form = form_at c.args.child.now.item (ty (arc_value c.args.node.dtype)) in
    let falls : 8 * (2 + weight k) + 2 < 8 * (2 + weight k) + 3 = omega arith in
    let none : c.new-kids.result.items ≡ [] = c.new-kids.ensures.items in
    search (rules, arith, c.requires.owned, none, falls)

pub start::start_grouped-returns-in-Ok-clause-moved : goal.start::start_grouped-returns-in-Ok-clause-moved
start::start_grouped-returns-in-Ok-clause-moved g t c =
    let k : Stock = tasks_stock c.start_only.new.kids.items in
    held_kids (g.O.Order.active c.args.order.now) (g.O.Order.active c.start_only.new.order) (end_stock c.args.eof) k c.waiting.result
    (c.waiting.ensures.held ∙ ap (λ z. both (some_stock item_stock z) k) c.requires.fresh.newest) c.start_only.ensures.moved

pub start::start_grouped-returns-in-Ok-clause-shows : goal.start::start_grouped-returns-in-Ok-clause-shows
start::start_grouped-returns-in-Ok-clause-shows g t c = λ by begins.
    let u : Ty = ty (arc_value c.args.node.dtype) in
    let k : Form = form_at c.args.child.now.item u in
    let h : OnlyStarted (allowed_in c.args.ctx.now) k c.args.marked c.args.name c.args.eof c.start_only.new.kids.items = c.in-Ok.ensures.shows in
    started (allowed_in c.args.ctx.now) (grouped_form by u k) c.args.marked c.args.name c.args.eof (Grouped c.args.node) c.start_only.new.kids.items c.waiting.result
    h.allowed h.counted (begins k c.args.marked c.args.eof) h.tasks c.waiting.ensures.shows

pub start::start_grouped-refuse_started-requires-clause-owned : goal.start::start_grouped-refuse_started-requires-clause-owned
start::start_grouped-refuse_started-requires-clause-owned g t c =
    owned_now (g.O.Order.active c.args.order.now) (g.O.Order.active c.start_only.new.order) (end_stock c.args.eof) (tasks_stock c.start_only.new.kids.items) c.requires.owned c.start_only.ensures.moved

pub start::start_grouped-returns-in-Err-clause-moved : goal.start::start_grouped-returns-in-Err-clause-moved
start::start_grouped-returns-in-Err-clause-moved g t c =
    moved_then (g.O.Order.active c.args.order.now) (g.O.Order.active c.start_only.new.order) (g.O.Order.active c.refuse_started.new.order) (end_stock c.args.eof) (tasks_stock c.start_only.new.kids.items) none
    c.start_only.ensures.moved c.refuse_started.ensures.moved

-- its only child

pub start::start_only-start_task-requires : goal.start::start_only-start_task-requires
start::start_only-start_task-requires g t c κs within =
    let k : Form = form_at c.args.child.now.item (ty (arc_value c.args.dtype.now)) in
    let f : form_of c.strategy.result.now (arc_value c.in-Ok.dtype) ≡ k = λ j. form_at (c.strategy.ensures.same j) (c.in-Ok.ensures.dtype j) in
    let n : weight (form_of c.strategy.result.now (arc_value c.in-Ok.dtype)) ≡ weight k = ap weight f in
    let falls : 8 * weight (form_of c.strategy.result.now (arc_value c.in-Ok.dtype)) + 5 < 8 * (2 + weight k) + 2 = omega (arith, n) in
    search (rules, arith, c.requires.owned, falls)

pub start::start_only-returns-in_ok-kid-in-Ok-clause-moved : goal.start::start_only-returns-in_ok-kid-in-Ok-clause-moved
start::start_only-returns-in_ok-kid-in-Ok-clause-moved g t c =
    let s : Stock = task_stock c.in_ok-kid-in-Ok.kid in
    let e : Stock = end_stock c.args.eof in
    let is : c.push_reserved.new.self.items ≡ c.in_ok-kid-in-Ok.kid ∷ [] = c.push_reserved.ensures.items ∙ ap (λ z. z ++ (c.in_ok-kid-in-Ok.kid ∷ [])) (c.child_parts.ensures.kids ∙ c.requires.none) in
    moved_as (g.O.Order.active c.args.order.now) (g.O.Order.active c.start_task.new.order) e e s (tasks_stock c.push_reserved.new.self.items) refl (sym (ap tasks_stock is ∙ both_none s)) c.in_ok-kid-in-Ok.ensures.moved

pub start::start_only-returns-in_ok-kid-in-Ok-clause-reserved : goal.start::start_only-returns-in_ok-kid-in-Ok-clause-reserved
start::start_only-returns-in_ok-kid-in-Ok-clause-reserved g t c =
    let is : c.push_reserved.new.self.items ≡ c.in_ok-kid-in-Ok.kid ∷ [] = c.push_reserved.ensures.items ∙ ap (λ z. z ++ (c.in_ok-kid-in-Ok.kid ∷ [])) (c.child_parts.ensures.kids ∙ c.requires.none) in
    let r : tasks_reserved c.push_reserved.new.self.items ≡ task_reserved c.in_ok-kid-in-Ok.kid + 0 = ap tasks_reserved is in
    omega (arith, r, started_none (allowed_in c.args.ctx.now) (form_of c.strategy.result.now (arc_value c.in-Ok.dtype)) c.args.marked c.in-Ok.name c.args.eof c.in_ok-kid-in-Ok.kid c.in_ok-kid-in-Ok.ensures.shows)

pub start::start_only-returns-in_ok-kid-in-Ok-clause-shows : goal.start::start_only-returns-in_ok-kid-in-Ok-clause-shows
start::start_only-returns-in_ok-kid-in-Ok-clause-shows g t c =
    let k : Form = form_at c.args.child.now.item (ty (arc_value c.args.dtype.now)) in
    let f : form_of c.strategy.result.now (arc_value c.in-Ok.dtype) ≡ k = λ j. form_at (c.strategy.ensures.same j) (c.in-Ok.ensures.dtype j) in
    only_started (allowed_in c.args.ctx.now) k c.args.marked c.args.name.now c.in-Ok.name c.args.eof c.push_reserved.new.self.items c.in_ok-kid-in-Ok.kid
    (subst (λ z. Started (allowed_in c.args.ctx.now) z c.args.marked c.in-Ok.name c.args.eof c.in_ok-kid-in-Ok.kid) f c.in_ok-kid-in-Ok.ensures.shows)
    (c.in-Ok.ensures.name ∙ ap (under c.args.name.now) (c.args.kids.now.ok.0 ∙ ap length c.requires.none))
    (c.push_reserved.ensures.items ∙ ap (λ z. z ++ (c.in_ok-kid-in-Ok.kid ∷ [])) (c.child_parts.ensures.kids ∙ c.requires.none))

pub start::start_only-returns-in_err-kid-in-Ok-clause-moved : goal.start::start_only-returns-in_err-kid-in-Ok-clause-moved
start::start_only-returns-in_err-kid-in-Ok-clause-moved g t c =
    let e : Stock = end_stock c.args.eof in
    moved_as (g.O.Order.active c.args.order.now) (g.O.Order.active c.start_task.new.order) e e none (tasks_stock c.child_parts.new.kids.items) refl
    (sym (ap tasks_stock (c.child_parts.ensures.kids ∙ c.requires.none))) c.in_err-kid-in-Ok.ensures.moved

pub start::start_only-returns-in_err-kid-in-Ok-clause-reserved : goal.start::start_only-returns-in_err-kid-in-Ok-clause-reserved
start::start_only-returns-in_err-kid-in-Ok-clause-reserved g t c = ap tasks_reserved (c.child_parts.ensures.kids ∙ c.requires.none)

pub start::start_only-returns-in_err-kid-in-Ok-clause-refused : goal.start::start_only-returns-in_err-kid-in-Ok-clause-refused
start::start_only-returns-in_err-kid-in-Ok-clause-refused g t c =
    let p = err_from_is_err_and c.from_residual.result c.from_residual.ensures.1 in
    let k : Form = form_at c.args.child.now.item (ty (arc_value c.args.dtype.now)) in
    let f : form_of c.strategy.result.now (arc_value c.in-Ok.dtype) ≡ k = λ j. form_at (c.strategy.ensures.same j) (c.in-Ok.ensures.dtype j) in
    rw (p.1, p.2) (subst (λ z. FormRefused (allowed_in c.args.ctx.now) z c.args.marked c.args.eof c.in_err-kid-in-Ok.field-0.0) f c.in_err-kid-in-Ok.ensures.refused)

pub start::start_only-returns-in-Err-clause-moved : goal.start::start_only-returns-in-Err-clause-moved
start::start_only-returns-in-Err-clause-moved g t c =
    let e : Stock = end_stock c.args.eof in
    moved_as (g.O.Order.active c.args.order.now) (g.O.Order.active c.give_up_pointer.new.order) e e none (tasks_stock c.child_parts.new.kids.items) refl
    (sym (ap tasks_stock (c.child_parts.ensures.kids ∙ c.requires.none))) c.give_up_pointer.ensures.moved

pub start::start_only-returns-in-Err-clause-reserved : goal.start::start_only-returns-in-Err-clause-reserved
start::start_only-returns-in-Err-clause-reserved g t c = ap tasks_reserved (c.child_parts.ensures.kids ∙ c.requires.none)

-- by rule: of blocks

pub start::start_settled-start_grouped-requires : goal.start::start_settled-start_grouped-requires
start::start_settled-start_grouped-requires g t c κs within =
    let by = c.in-Repartition.by in
    let w : StrategyData = strategy_data c.args.strategy.now in
    let u : Ty = ty (arc_value c.args.dtype) in
    let n = c.in-Ok-blocks_node.node in
    let k : StrategyData = c.child.result.now.item in
    let a : w ≡ grouped (by_blocks (block_rule by.rule)) by.child.item = ap strategy_data c.in-Repartition.is in
    let d : k ≡ by.child.item = ap (λ x. x.item) c.child.ensures in
    let e : ty (arc_value n.dtype) ≡ u = ap (λ z. ty (arc_value z)) c.in-Ok-blocks_node.ensures.dtype in
    let f : 2 + weight (form_at k (ty (arc_value n.dtype))) ≡ weight (form_at w u) = ap weight (grouped_at w by.child.item k (by_blocks (block_rule by.rule)) u (ty (arc_value n.dtype)) a d e) in
    let falls : 8 * (2 + weight (form_at k (ty (arc_value n.dtype)))) + 3 < 8 * weight (form_at w u) + 4 = omega (arith, f) in
    search (rules, arith, c.requires.owned, c.in-Ok-blocks_node.ensures.fresh, falls)

pub start::start_settled-returns-in-Ok-blocks_node-clause-shows : goal.start::start_settled-returns-in-Ok-blocks_node-clause-shows
start::start_settled-returns-in-Ok-blocks_node-clause-shows g t c =
    let by = c.in-Repartition.by in
    let w : StrategyData = strategy_data c.args.strategy.now in
    let u : Ty = ty (arc_value c.args.dtype) in
    let n = c.in-Ok-blocks_node.node in
    let k : StrategyData = c.child.result.now.item in
    let r = by_blocks (block_rule by.rule) in
    let e : ty (arc_value n.dtype) ≡ u = ap (λ z. ty (arc_value z)) c.in-Ok-blocks_node.ensures.dtype in
    subst (λ z. IfOk c.start_grouped.result (Started (allowed_in c.args.ctx.now) z c.args.marked c.args.name c.args.eof))
    (grouped_at w by.child.item k r u (ty (arc_value n.dtype)) (ap strategy_data c.in-Repartition.is) (ap (λ x. x.item) c.child.ensures) e)
    (c.start_grouped.ensures.shows r (subst (λ z. Begins r z n) (sym e) c.in-Ok-blocks_node.ensures.begins))

pub start::start_settled-returns-in-Ok-blocks_node-clause-refused : goal.start::start_settled-returns-in-Ok-blocks_node-clause-refused
start::start_settled-returns-in-Ok-blocks_node-clause-refused g t c =
    let by = c.in-Repartition.by in
    let w : StrategyData = strategy_data c.args.strategy.now in
    let u : Ty = ty (arc_value c.args.dtype) in
    let n = c.in-Ok-blocks_node.node in
    let k : StrategyData = c.child.result.now.item in
    let e : ty (arc_value n.dtype) ≡ u = ap (λ z. ty (arc_value z)) c.in-Ok-blocks_node.ensures.dtype in
    subst (λ z. IfErr c.start_grouped.result (FormRefused (allowed_in c.args.ctx.now) z c.args.marked c.args.eof))
    (grouped_at w by.child.item k (by_blocks (block_rule by.rule)) u (ty (arc_value n.dtype)) (ap strategy_data c.in-Repartition.is) (ap (λ x. x.item) c.child.ensures) e)
    c.start_grouped.ensures.refused

-- of a held size

pub start::start_settled-start_grouped-requires-in-Buffered : goal.start::start_settled-start_grouped-requires-in-Buffered
start::start_settled-start_grouped-requires-in-Buffered g t c κs within =
    let by = c.in-Buffered.by in
    let w : StrategyData = strategy_data c.args.strategy.now in
    let u : Ty = ty (arc_value c.args.dtype) in
    let n = c.buffer_node-node.result in
    let k : StrategyData = c.child-in-Buffered.result.now.item in
    let a : w ≡ grouped (by_bytes by.buffer_size) by.child.item = ap strategy_data c.in-Buffered.is in
    let d : k ≡ by.child.item = ap (λ x. x.item) c.child-in-Buffered.ensures in
    let e : ty (arc_value n.dtype) ≡ u = ap (λ z. ty (arc_value z)) c.buffer_node-node.ensures.dtype in
    let f : 2 + weight (form_at k (ty (arc_value n.dtype))) ≡ weight (form_at w u) = ap weight (grouped_at w by.child.item k (by_bytes by.buffer_size) u (ty (arc_value n.dtype)) a d e) in
    let falls : 8 * (2 + weight (form_at k (ty (arc_value n.dtype)))) + 3 < 8 * weight (form_at w u) + 4 = omega (arith, f) in
    search (rules, arith, c.requires.owned, c.buffer_node-node.ensures.fresh, falls)

pub start::start_settled-returns-in-Buffered-clause-shows : goal.start::start_settled-returns-in-Buffered-clause-shows
start::start_settled-returns-in-Buffered-clause-shows g t c =
    let by = c.in-Buffered.by in
    let w : StrategyData = strategy_data c.args.strategy.now in
    let u : Ty = ty (arc_value c.args.dtype) in
    let n = c.buffer_node-node.result in
    let k : StrategyData = c.child-in-Buffered.result.now.item in
    let r = by_bytes by.buffer_size in
    let e : ty (arc_value n.dtype) ≡ u = ap (λ z. ty (arc_value z)) c.buffer_node-node.ensures.dtype in
    subst (λ z. IfOk c.start_grouped-in-Buffered.result (Started (allowed_in c.args.ctx.now) z c.args.marked c.args.name c.args.eof))
    (grouped_at w by.child.item k r u (ty (arc_value n.dtype)) (ap strategy_data c.in-Buffered.is) (ap (λ x. x.item) c.child-in-Buffered.ensures) e)
    (c.start_grouped-in-Buffered.ensures.shows r (subst (λ z. Begins r z n) (sym e) c.buffer_node-node.ensures.begins))

pub start::start_settled-returns-in-Buffered-clause-refused : goal.start::start_settled-returns-in-Buffered-clause-refused
start::start_settled-returns-in-Buffered-clause-refused g t c =
    let by = c.in-Buffered.by in
    let w : StrategyData = strategy_data c.args.strategy.now in
    let u : Ty = ty (arc_value c.args.dtype) in
    let n = c.buffer_node-node.result in
    let k : StrategyData = c.child-in-Buffered.result.now.item in
    let e : ty (arc_value n.dtype) ≡ u = ap (λ z. ty (arc_value z)) c.buffer_node-node.ensures.dtype in
    subst (λ z. IfErr c.start_grouped-in-Buffered.result (FormRefused (allowed_in c.args.ctx.now) z c.args.marked c.args.eof))
    (grouped_at w by.child.item k (by_bytes by.buffer_size) u (ty (arc_value n.dtype)) (ap strategy_data c.in-Buffered.is) (ap (λ x. x.item) c.child-in-Buffered.ensures) e)
    c.start_grouped-in-Buffered.ensures.refused

-- of one chunk for all

pub start::start_settled-start_grouped-requires-in-Ok-collect_node : goal.start::start_settled-start_grouped-requires-in-Ok-collect_node
start::start_settled-start_grouped-requires-in-Ok-collect_node g t c κs within =
    let by = c.in-Collect.into in
    let w : StrategyData = strategy_data c.args.strategy.now in
    let u : Ty = ty (arc_value c.args.dtype) in
    let n = c.in-Ok-collect_node.node in
    let k : StrategyData = c.child-in-Ok-collect_node.result.now.item in
    let a : w ≡ grouped into_one by.child.item = ap strategy_data c.in-Collect.is in
    let d : k ≡ by.child.item = ap (λ x. x.item) c.child-in-Ok-collect_node.ensures in
    let e : ty (arc_value n.dtype) ≡ u = ap (λ z. ty (arc_value z)) c.in-Ok-collect_node.ensures.dtype in
    let f : 2 + weight (form_at k (ty (arc_value n.dtype))) ≡ weight (form_at w u) = ap weight (grouped_at w by.child.item k into_one u (ty (arc_value n.dtype)) a d e) in
    let falls : 8 * (2 + weight (form_at k (ty (arc_value n.dtype)))) + 3 < 8 * weight (form_at w u) + 4 = omega (arith, f) in
    search (rules, arith, c.requires.owned, c.in-Ok-collect_node.ensures.fresh, falls)

pub start::start_settled-returns-in-Ok-collect_node-clause-shows : goal.start::start_settled-returns-in-Ok-collect_node-clause-shows
start::start_settled-returns-in-Ok-collect_node-clause-shows g t c =
    let by = c.in-Collect.into in
    let w : StrategyData = strategy_data c.args.strategy.now in
    let u : Ty = ty (arc_value c.args.dtype) in
    let n = c.in-Ok-collect_node.node in
    let k : StrategyData = c.child-in-Ok-collect_node.result.now.item in
    let e : ty (arc_value n.dtype) ≡ u = ap (λ z. ty (arc_value z)) c.in-Ok-collect_node.ensures.dtype in
    subst (λ z. IfOk c.start_grouped-in-Ok-collect_node.result (Started (allowed_in c.args.ctx.now) z c.args.marked c.args.name c.args.eof))
    (grouped_at w by.child.item k into_one u (ty (arc_value n.dtype)) (ap strategy_data c.in-Collect.is) (ap (λ x. x.item) c.child-in-Ok-collect_node.ensures) e)
    (c.start_grouped-in-Ok-collect_node.ensures.shows into_one (subst (λ z. Begins into_one z n) (sym e) c.in-Ok-collect_node.ensures.begins))

pub start::start_settled-returns-in-Ok-collect_node-clause-refused : goal.start::start_settled-returns-in-Ok-collect_node-clause-refused
start::start_settled-returns-in-Ok-collect_node-clause-refused g t c =
    let by = c.in-Collect.into in
    let w : StrategyData = strategy_data c.args.strategy.now in
    let u : Ty = ty (arc_value c.args.dtype) in
    let n = c.in-Ok-collect_node.node in
    let k : StrategyData = c.child-in-Ok-collect_node.result.now.item in
    let e : ty (arc_value n.dtype) ≡ u = ap (λ z. ty (arc_value z)) c.in-Ok-collect_node.ensures.dtype in
    subst (λ z. IfErr c.start_grouped-in-Ok-collect_node.result (FormRefused (allowed_in c.args.ctx.now) z c.args.marked c.args.eof))
    (grouped_at w by.child.item k into_one u (ty (arc_value n.dtype)) (ap strategy_data c.in-Collect.is) (ap (λ x. x.item) c.child-in-Ok-collect_node.ensures) e)
    c.start_grouped-in-Ok-collect_node.ensures.refused

-- ---- a dictionary node

pub start::start_settled-start_dict-requires-clause-dict : goal.start::start_settled-start_dict-requires-clause-dict
start::start_settled-start_dict-requires-clause-dict g t c =
    let by = c.in-Dict.by in
    dict_at (dict_options by.constraints by.probe) by.codes.item by.values.item by.fallback.item (ty (arc_value c.args.dtype)) (subst (λ z. IsFalse (passes_on (strategy_data z) (ty (arc_value c.args.dtype)))) c.in-Dict.is c.requires.settled)

pub start::start_settled-returns-in-Dict-clause-shows : goal.start::start_settled-returns-in-Dict-clause-shows
start::start_settled-returns-in-Dict-clause-shows g t c =
    subst (λ s. IfOk c.start_dict.result (Started (allowed_in c.args.ctx.now) (form_at (strategy_data s) (ty (arc_value c.args.dtype))) c.args.marked c.args.name c.args.eof)) (sym c.in-Dict.is) (c.start_dict.ensures.shows (allowed_in c.args.ctx.now))

pub start::start_settled-returns-in-Dict-clause-refused : goal.start::start_settled-returns-in-Dict-clause-refused
start::start_settled-returns-in-Dict-clause-refused g t c =
    IfErr-weaker c.start_dict.result (λ e. e ≡ OutOfMemory) _ (λ e h. memory_refused _ _ _ e h) c.start_dict.ensures.memory

-- ---- a zoned node

pub start::start_settled-start_zoned-requires : goal.start::start_settled-start_zoned-requires
start::start_settled-start_zoned-requires g t c κs within =
    let z = c.in-Zoned.zoned in
    let u : Ty = ty (arc_value c.args.dtype) in
    let a : strategy_data c.args.strategy.now ≡ zoned_way z = ap strategy_data c.in-Zoned.is in
    let f : weight (form_at (strategy_data c.args.strategy.now) u) ≡ 2 + weight (form_at z.child.item u) = ap (λ x. weight (form_at x u)) a in
    let falls : 8 * (2 + weight (form_at z.child.item u)) + 3 < 8 * weight (form_at (strategy_data c.args.strategy.now) u) + 4 = omega (arith, f) in
    search (rules, arith, c.requires.owned, falls)

pub start::start_settled-returns-in-Zoned-clause-shows : goal.start::start_settled-returns-in-Zoned-clause-shows
start::start_settled-returns-in-Zoned-clause-shows g t c =
    subst (λ s. IfOk c.start_zoned.result (Started (allowed_in c.args.ctx.now) (form_at (strategy_data s) (ty (arc_value c.args.dtype))) c.args.marked c.args.name c.args.eof)) (sym c.in-Zoned.is) c.start_zoned.ensures.shows

pub start::start_settled-returns-in-Zoned-clause-refused : goal.start::start_settled-returns-in-Zoned-clause-refused
start::start_settled-returns-in-Zoned-clause-refused g t c =
    subst (λ s. IfErr c.start_zoned.result (FormRefused (allowed_in c.args.ctx.now) (form_at (strategy_data s) (ty (arc_value c.args.dtype))) c.args.marked c.args.eof)) (sym c.in-Zoned.is) c.start_zoned.ensures.refused

-- below a mark it is its child's

pub zoned_start::start_zoned-start_task-requires : goal.zoned_start::start_zoned-start_task-requires
zoned_start::start_zoned-start_task-requires g t c κs within =
    let w = c.args.zoned.now in
    let u : Ty = ty (arc_value c.args.dtype) in
    let k : StrategyData = strategy_data c.strategy-child.result.now in
    let d : k ≡ w.child.item = c.strategy-child.ensures.same ∙ ap (λ x. x.item) c.child.ensures in
    let f : weight (form_at k u) ≡ weight (form_at w.child.item u) = ap (λ x. weight (form_at x u)) d in
    let falls : 8 * weight (form_at k u) + 5 < 8 * (2 + weight (form_at w.child.item u)) + 3 = omega (arith, f) in
    search (rules, arith, c.requires.owned, falls)

pub zoned_start::start_zoned-returns-then-marked-clause-shows : goal.zoned_start::start_zoned-returns-then-marked-clause-shows
zoned_start::start_zoned-returns-then-marked-clause-shows g t c =
    let w = c.args.zoned.now in
    let u : Ty = ty (arc_value c.args.dtype) in
    let d : strategy_data c.strategy-child.result.now ≡ w.child.item = c.strategy-child.ensures.same ∙ ap (λ x. x.item) c.child.ensures in
    mark_started (allowed_in c.args.ctx.now) (zone_rule w.rule) u (form_at w.child.item u) (λ v. form_at w.stats.item v) c.args.marked c.if-marked.true c.args.eof c.start_task.result c.args.name
    (subst (λ x. IfOk c.start_task.result (Started (allowed_in c.args.ctx.now) (form_at x u) c.args.marked c.args.name c.args.eof)) d c.start_task.ensures.shows)

pub zoned_start::start_zoned-returns-then-marked-clause-refused : goal.zoned_start::start_zoned-returns-then-marked-clause-refused
zoned_start::start_zoned-returns-then-marked-clause-refused g t c =
    let w = c.args.zoned.now in
    let u : Ty = ty (arc_value c.args.dtype) in
    let d : strategy_data c.strategy-child.result.now ≡ w.child.item = c.strategy-child.ensures.same ∙ ap (λ x. x.item) c.child.ensures in
    mark_refused (allowed_in c.args.ctx.now) (zone_rule w.rule) u (form_at w.child.item u) (λ v. form_at w.stats.item v) c.args.marked c.if-marked.true c.args.eof c.start_task.result
    (subst (λ x. IfErr c.start_task.result (FormRefused (allowed_in c.args.ctx.now) (form_at x u) c.args.marked c.args.eof)) d c.start_task.ensures.refused)

-- else it has a data child

pub zoned_start::start_zoned-start_data-requires : goal.zoned_start::start_zoned-start_data-requires
zoned_start::start_zoned-start_data-requires g t c κs within =
    let n = c.in-Ok.node in
    let k : StrategyData = c.args.zoned.now.child.item in
    let o : Owned (g.O.Order.active c.args.order.now) (end_stock n.eof) = subst (λ z. Owned (g.O.Order.active c.args.order.now) (end_stock z)) (sym c.in-Ok.ensures.node.1) c.requires.owned in
    let f : weight (form_at k (ty (arc_value n.dtype))) ≡ weight (form_at k (ty (arc_value c.args.dtype))) = ap (λ z. weight (form_at k (ty (arc_value z)))) c.in-Ok.ensures.node.0 in
    let falls : 8 * (2 + weight (form_at k (ty (arc_value n.dtype)))) + 2 < 8 * (2 + weight (form_at k (ty (arc_value c.args.dtype)))) + 3 = omega (arith, f) in
    search (rules, arith, o, c.in-Ok.ensures.begins, falls)

pub zoned_start::start_zoned-returns-in-Ok-clause-moved : goal.zoned_start::start_zoned-returns-in-Ok-clause-moved
zoned_start::start_zoned-returns-in-Ok-clause-moved g t c =
    subst (λ z. Moved (g.O.Order.active c.args.order.now) (g.O.Order.active c.start_data.new.order) (end_stock z) (ok_stock task_stock c.start_data.result)) c.in-Ok.ensures.node.1 c.start_data.ensures.moved

pub zoned_start::start_zoned-returns-in-Ok-clause-shows : goal.zoned_start::start_zoned-returns-in-Ok-clause-shows
zoned_start::start_zoned-returns-in-Ok-clause-shows g t c =
    let w : StrategyData = zoned_way c.args.zoned.now in
    subst (λ m. IfOk c.start_data.result (Started (allowed_in c.args.ctx.now) (form_at w (ty (arc_value c.args.dtype))) m c.args.name c.args.eof)) (sym c.if-marked.false)
    (subst (λ z. IfOk c.start_data.result (Started (allowed_in c.args.ctx.now) (form_at w (ty (arc_value c.args.dtype))) false c.args.name z)) c.in-Ok.ensures.node.1
    (subst (λ z. IfOk c.start_data.result (Started (allowed_in c.args.ctx.now) (form_at w (ty (arc_value z))) false c.args.name c.in-Ok.node.eof)) c.in-Ok.ensures.node.0 c.start_data.ensures.shows))

pub zoned_start::start_zoned-returns-in-Ok-clause-refused : goal.zoned_start::start_zoned-returns-in-Ok-clause-refused
zoned_start::start_zoned-returns-in-Ok-clause-refused g t c =
    let w : StrategyData = zoned_way c.args.zoned.now in
    subst (λ m. IfErr c.start_data.result (FormRefused (allowed_in c.args.ctx.now) (form_at w (ty (arc_value c.args.dtype))) m c.args.eof)) (sym c.if-marked.false)
    (subst (λ z. IfErr c.start_data.result (FormRefused (allowed_in c.args.ctx.now) (form_at w (ty (arc_value c.args.dtype))) false z)) c.in-Ok.ensures.node.1
    (subst (λ z. IfErr c.start_data.result (FormRefused (allowed_in c.args.ctx.now) (form_at w (ty (arc_value z))) false c.in-Ok.node.eof)) c.in-Ok.ensures.node.0 c.start_data.ensures.refused))

pub zoned_start::start_zoned-give_up_pointer-requires : goal.zoned_start::start_zoned-give_up_pointer-requires
zoned_start::start_zoned-give_up_pointer-requires g t c = subst (λ z. Owned (g.O.Order.active c.args.order.now) (end_stock z)) (sym c.in-Err.ensures.refused.0) c.requires.owned

pub zoned_start::start_zoned-returns-in-Err-clause-moved : goal.zoned_start::start_zoned-returns-in-Err-clause-moved
zoned_start::start_zoned-returns-in-Err-clause-moved g t c =
    subst (λ z. Moved (g.O.Order.active c.args.order.now) (g.O.Order.active c.give_up_pointer.new.order) (end_stock z) none) c.in-Err.ensures.refused.0 c.give_up_pointer.ensures.moved

pub zoned_start::start_zoned-returns-in-Err-clause-refused : goal.zoned_start::start_zoned-returns-in-Err-clause-refused
zoned_start::start_zoned-returns-in-Err-clause-refused g t c =
    let z = c.args.zoned.now in
    let u : Ty = ty (arc_value c.args.dtype) in
    subst (λ m. FormRefused (allowed_in c.args.ctx.now) (form_at (zoned_way z) u) m c.args.eof c.in-Err.error) (sym c.if-marked.false)
    (zones_refused (allowed_in c.args.ctx.now) (zone_rule z.rule) u (form_at z.child.item u) (λ v. form_at z.stats.item v) c.args.eof c.in-Err.error c.in-Err.ensures.refused.1)

-- with its data child

pub zoned_start::start_data-data_kid-requires : goal.zoned_start::start_data-data_kid-requires
zoned_start::start_data-data_kid-requires g t c κs within =
    let k : StrategyData = c.args.zoned.now.child.item in
    let falls : 8 * (2 + weight (form_at k (ty (arc_value c.args.node.dtype)))) + 1 < 8 * (2 + weight (form_at k (ty (arc_value c.args.node.dtype)))) + 2 = omega arith in
    let none : c.new-kids.result.items ≡ [] = c.new-kids.ensures.items in
    search (rules, arith, c.requires.owned, none, falls)

pub zoned_start::start_data-returns-in-Ok-clause-moved : goal.zoned_start::start_data-returns-in-Ok-clause-moved
zoned_start::start_data-returns-in-Ok-clause-moved g t c =
    let s : Stock = zoned_stock c.args.node in
    moved_as (g.O.Order.active c.args.order.now) (g.O.Order.active c.data_kid.new.order) s s (both (zoned_stock c.data_kid.new.node) (tasks_stock c.data_kid.new.kids.items)) (task_stock c.waiting.result) refl (sym c.waiting.ensures.held) c.data_kid.ensures.moved

pub zoned_start::start_data-returns-in-Ok-clause-shows : goal.zoned_start::start_data-returns-in-Ok-clause-shows
zoned_start::start_data-returns-in-Ok-clause-shows g t c =
    zones_started (allowed_in c.args.ctx.now) c.args.zoned.now c.args.node c.data_kid.new.node c.args.name c.data_kid.new.kids.items c.waiting.result c.requires.fresh c.in-Ok.ensures.node.0 c.in-Ok.ensures.node.1 c.in-Ok.ensures.pointer c.in-Ok.ensures.shows c.waiting.ensures.shows

pub zoned_start::start_data-give_up_zoned-requires : goal.zoned_start::start_data-give_up_zoned-requires
zoned_start::start_data-give_up_zoned-requires g t c =
    pointer_owned (g.O.Order.active c.args.order.now) (g.O.Order.active c.data_kid.new.order) (zoned_stock c.args.node) (zoned_stock c.data_kid.new.node) (tasks_stock c.data_kid.new.kids.items) c.requires.owned c.data_kid.ensures.moved

pub zoned_start::start_data-refuse_started-requires-clause-owned : goal.zoned_start::start_data-refuse_started-requires-clause-owned
zoned_start::start_data-refuse_started-requires-clause-owned g t c =
    left_owned (g.O.Order.active c.args.order.now) (g.O.Order.active c.data_kid.new.order) (zoned_stock c.args.node) (zoned_stock c.data_kid.new.node) (tasks_stock c.data_kid.new.kids.items) c.requires.owned c.data_kid.ensures.moved
    (g.O.Order.active c.give_up_zoned.new.order) c.give_up_zoned.ensures.moved

pub zoned_start::start_data-returns-in-Err-clause-moved : goal.zoned_start::start_data-returns-in-Err-clause-moved
zoned_start::start_data-returns-in-Err-clause-moved g t c =
    let u : Active = g.O.Order.active c.args.order.now in
    let w : Active = g.O.Order.active c.give_up_zoned.new.order in
    let e : Stock = zoned_stock c.args.node in
    let k : Stock = tasks_stock c.data_kid.new.kids.items in
    moved_then u w (g.O.Order.active c.refuse_started.new.order) e k none (kids_left u (g.O.Order.active c.data_kid.new.order) e (zoned_stock c.data_kid.new.node) k c.requires.owned c.data_kid.ensures.moved w c.give_up_zoned.ensures.moved) c.refuse_started.ensures.moved

pub zoned_start::start_data-returns-in-Err-clause-refused : goal.zoned_start::start_data-returns-in-Err-clause-refused
zoned_start::start_data-returns-in-Err-clause-refused g t c =
    let z = c.args.zoned.now in
    let u : Ty = ty (arc_value c.args.node.dtype) in
    data_refused (allowed_in c.args.ctx.now) (zone_rule z.rule) u (form_at z.child.item u) (λ v. form_at z.stats.item v) c.args.node.eof c.requires.fresh.allowed c.in-Err.error c.in-Err.ensures.refused

-- its data child

pub zoned_start::data_kid-returns-in_err-name-clause-moved : goal.zoned_start::data_kid-returns-in_err-name-clause-moved
zoned_start::data_kid-returns-in_err-name-clause-moved g t c =
    let u : Active = g.O.Order.active c.args.order.now in
    let s : Stock = zoned_stock c.args.node.now in
    moved_as u u s s s (both s (tasks_stock c.child_parts.new.kids.items)) refl (sym (ap (λ z. both s (tasks_stock z)) (c.child_parts.ensures.kids ∙ c.requires.none) ∙ both_none s)) (moved_none u s c.requires.owned)

pub zoned_start::data_kid-returns-in_err-name-clause-reserved : goal.zoned_start::data_kid-returns-in_err-name-clause-reserved
zoned_start::data_kid-returns-in_err-name-clause-reserved g t c = ap tasks_reserved (c.child_parts.ensures.kids ∙ c.requires.none)

pub zoned_start::data_kid-start_under-requires : goal.zoned_start::data_kid-start_under-requires
zoned_start::data_kid-start_under-requires g t c κs within =
    let k : StrategyData = c.child-child.result.now.item in
    let u : Ty = ty (arc_value c.in_ok-name.dtype) in
    let d : k ≡ c.args.zoned.now.child.item = ap (λ x. x.item) c.child-child.ensures in
    let f : weight (form_at k u) ≡ weight (form_at c.args.zoned.now.child.item (ty (arc_value c.args.node.now.dtype))) = λ j. weight (form_at (d j) (c.in_ok-name.ensures.dtype j)) in
    let falls : 8 * weight (form_at k u) + 6 < 8 * (2 + weight (form_at c.args.zoned.now.child.item (ty (arc_value c.args.node.now.dtype)))) + 1 = omega (arith, f) in
    search (rules, arith, c.requires.owned, falls)

pub zoned_start::data_kid-returns-in_err-kid-clause-moved : goal.zoned_start::data_kid-returns-in_err-kid-clause-moved
zoned_start::data_kid-returns-in_err-kid-clause-moved g t c =
    let e : Stock = end_stock c.args.node.now.eof in
    let f : Stock = end_stock c.start_under.new.eof in
    moved_as (g.O.Order.active c.args.order.now) (g.O.Order.active c.start_under.new.order) e e (both f none) (both f (tasks_stock c.child_parts.new.kids.items)) refl
    (ap (λ z. both f (tasks_stock z)) (sym (c.child_parts.ensures.kids ∙ c.requires.none))) c.in_err-kid.ensures.moved

pub zoned_start::data_kid-returns-in_err-kid-clause-reserved : goal.zoned_start::data_kid-returns-in_err-kid-clause-reserved
zoned_start::data_kid-returns-in_err-kid-clause-reserved g t c = ap tasks_reserved (c.child_parts.ensures.kids ∙ c.requires.none)

pub zoned_start::data_kid-returns-in_err-kid-clause-refused : goal.zoned_start::data_kid-returns-in_err-kid-clause-refused
zoned_start::data_kid-returns-in_err-kid-clause-refused g t c =
    let p = err_from_is_err_and c.from_residual-in_err-kid.result c.from_residual-in_err-kid.ensures.1 in
    let f : form_at c.child-child.result.now.item (ty (arc_value c.in_ok-name.dtype)) ≡ form_at c.args.zoned.now.child.item (ty (arc_value c.args.node.now.dtype)) =
    λ j. form_at ((c.child-child.ensures j).item) (c.in_ok-name.ensures.dtype j) in
    rw (p.1, p.2) (subst (λ z. OneRefused (allowed_in c.args.ctx.now) z false c.args.node.now.eof c.in_err-kid.field-0.0) f c.in_err-kid.ensures.refused)

pub zoned_start::data_kid-returns-clause-moved : goal.zoned_start::data_kid-returns-clause-moved
zoned_start::data_kid-returns-clause-moved g t c =
    let x : Task-F Task = record { head = record (out-Task c.in_ok-kid.kid).head { places = c.get-kid.result }; kids = (out-Task c.in_ok-kid.kid).kids } in
    data_moved x c.in_ok-kid.kid c.get-kid.result refl refl
    (g.O.Order.active c.args.order.now) (g.O.Order.active c.start_under.new.order) (end_stock c.args.node.now.eof) (end_stock c.start_under.new.eof) c.push_reserved.new.self.items
    (c.push_reserved.ensures.items ∙ ap (λ z. z ++ (roll-Task x ∷ [])) (c.child_parts.ensures.kids ∙ c.requires.none)) c.in_ok-kid.ensures.moved

pub zoned_start::data_kid-returns-clause-reserved : goal.zoned_start::data_kid-returns-clause-reserved
zoned_start::data_kid-returns-clause-reserved g t c =
    let x : Task-F Task = record { head = record (out-Task c.in_ok-kid.kid).head { places = c.get-kid.result }; kids = (out-Task c.in_ok-kid.kid).kids } in
    data_reserved x c.in_ok-kid.kid c.get-kid.result refl refl
    c.push_reserved.new.self.items (c.push_reserved.ensures.items ∙ ap (λ z. z ++ (roll-Task x ∷ [])) (c.child_parts.ensures.kids ∙ c.requires.none))
    (started_none (allowed_in c.args.ctx.now) (form_at c.child-child.result.now.item (ty (arc_value c.in_ok-name.dtype))) false c.in_ok-name.name (inside c.args.node.now.eof) c.in_ok-kid.kid c.in_ok-kid.ensures.shows)

pub zoned_start::data_kid-returns-clause-shows : goal.zoned_start::data_kid-returns-clause-shows
zoned_start::data_kid-returns-clause-shows g t c =
    let z = c.args.zoned.now in
    let f : form_at c.child-child.result.now.item (ty (arc_value c.in_ok-name.dtype)) ≡ form_at z.child.item (ty (arc_value c.args.node.now.dtype)) =
    λ j. form_at ((c.child-child.ensures j).item) (c.in_ok-name.ensures.dtype j) in
    let x : Task-F Task = record { head = record (out-Task c.in_ok-kid.kid).head { places = c.get-kid.result }; kids = (out-Task c.in_ok-kid.kid).kids } in
    let r : c.get-kid.result ≡ (zone_rule z.rule).concurrency = c.get-kid.ensures.value ∙ c.concurrency.ensures in
    data_started x c.in_ok-kid.kid c.get-kid.result refl refl
    (allowed_in c.args.ctx.now) (zone_rule z.rule).concurrency (form_at z.child.item (ty (arc_value c.args.node.now.dtype))) c.args.name.now c.in_ok-name.name c.args.node.now.eof c.push_reserved.new.self.items
    (subst (λ y. Started (allowed_in c.args.ctx.now) y false c.in_ok-name.name (inside c.args.node.now.eof) c.in_ok-kid.kid) f c.in_ok-kid.ensures.shows)
    (c.in_ok-name.ensures.name ∙ ap (under c.args.name.now) (len_is c.args.kids.now ∙ ap length c.requires.none)) c.in_ok-kid.ensures.fits r (omega (arith, r, c.get-kid.ensures.nonzero))
    (c.push_reserved.ensures.items ∙ ap (λ z. z ++ (roll-Task x ∷ [])) (c.child_parts.ensures.kids ∙ c.requires.none))

-- ---- a compressing node

pub start::start_settled-start_pressing-requires : goal.start::start_settled-start_pressing-requires
start::start_settled-start_pressing-requires g t c κs within =
    let by = c.in-Compressing.by in
    let u : Ty = ty (arc_value c.args.dtype) in
    let a : strategy_data c.args.strategy.now ≡ compressed_way by = ap strategy_data c.in-Compressing.is in
    let f : weight (form_at (strategy_data c.args.strategy.now) u) ≡ 4 + weight (form_at by.child.item u) = ap (λ x. weight (form_at x u)) a in
    let falls : 8 * (4 + weight (form_at by.child.item u)) + 3 < 8 * weight (form_at (strategy_data c.args.strategy.now) u) + 4 = omega (arith, f) in
    search (rules, arith, c.requires.owned, falls)

pub start::start_settled-returns-in-Compressing-clause-shows : goal.start::start_settled-returns-in-Compressing-clause-shows
start::start_settled-returns-in-Compressing-clause-shows g t c =
    subst (λ s. IfOk c.start_pressing.result (Started (allowed_in c.args.ctx.now) (form_at (strategy_data s) (ty (arc_value c.args.dtype))) c.args.marked c.args.name c.args.eof)) (sym c.in-Compressing.is) c.start_pressing.ensures.shows

pub start::start_settled-returns-in-Compressing-clause-refused : goal.start::start_settled-returns-in-Compressing-clause-refused
start::start_settled-returns-in-Compressing-clause-refused g t c =
    subst (λ s. IfErr c.start_pressing.result (FormRefused (allowed_in c.args.ctx.now) (form_at (strategy_data s) (ty (arc_value c.args.dtype))) c.args.marked c.args.eof)) (sym c.in-Compressing.is) c.start_pressing.ensures.refused

-- its task

pub pressing_start::start_pressing-start_outlet-requires : goal.pressing_start::start_pressing-start_outlet-requires
pressing_start::start_pressing-start_outlet-requires g t c κs within =
    let k : Form = form_at c.args.by.now.child.item (ty (arc_value c.args.dtype)) in
    let falls : 8 * (4 + weight k) + 2 < 8 * (4 + weight k) + 3 = omega arith in
    let none : c.new-kids.result.items ≡ [] = c.new-kids.ensures.items in
    search (rules, arith, c.requires.owned, none, falls)

pub pressing_start::start_pressing-returns-in-Ok-clause-moved : goal.pressing_start::start_pressing-returns-in-Ok-clause-moved
pressing_start::start_pressing-returns-in-Ok-clause-moved g t c =
    held_kids (g.O.Order.active c.args.order.now) (g.O.Order.active c.start_outlet.new.order) (end_stock c.args.eof) (tasks_stock c.start_outlet.new.kids.items) c.waiting.result c.waiting.ensures.held c.start_outlet.ensures.moved

pub pressing_start::start_pressing-returns-in-Ok-clause-shows : goal.pressing_start::start_pressing-returns-in-Ok-clause-shows
pressing_start::start_pressing-returns-in-Ok-clause-shows g t c =
    let by = c.args.by.now in
    let u : Ty = ty (arc_value c.args.dtype) in
    pressed_started (allowed_in c.args.ctx.now) by.which (non_zero_u64_get by.concurrency) u (form_at by.child.item u) c.args.marked c.args.name c.args.eof c.which.result c.start_outlet.new.kids.items c.waiting.result
    c.in-Ok.ensures.shows c.which.ensures c.waiting.ensures.shows

pub pressing_start::start_pressing-refuse_started-requires-clause-owned : goal.pressing_start::start_pressing-refuse_started-requires-clause-owned
pressing_start::start_pressing-refuse_started-requires-clause-owned g t c =
    owned_now (g.O.Order.active c.args.order.now) (g.O.Order.active c.start_outlet.new.order) (end_stock c.args.eof) (tasks_stock c.start_outlet.new.kids.items) c.requires.owned c.start_outlet.ensures.moved

pub pressing_start::start_pressing-returns-in-Err-clause-moved : goal.pressing_start::start_pressing-returns-in-Err-clause-moved
pressing_start::start_pressing-returns-in-Err-clause-moved g t c =
    moved_then (g.O.Order.active c.args.order.now) (g.O.Order.active c.start_outlet.new.order) (g.O.Order.active c.refuse_started.new.order) (end_stock c.args.eof) (tasks_stock c.start_outlet.new.kids.items) none
    c.start_outlet.ensures.moved c.refuse_started.ensures.moved

-- its outlet, and its child

pub pressing_start::start_outlet-start_task-requires : goal.pressing_start::start_outlet-start_task-requires
pressing_start::start_outlet-start_task-requires g t c κs within =
    let by = c.args.by.now in
    let u : Ty = ty (arc_value c.args.dtype) in
    let d : strategy_data c.strategy-child.result.now ≡ by.child.item = c.strategy-child.ensures.same ∙ ap (λ x. x.item) c.child.ensures in
    let f : weight (form_at (strategy_data c.strategy-child.result.now) u) ≡ weight (form_at by.child.item u) = ap (λ x. weight (form_at x u)) d in
    let falls : 8 * weight (form_at (strategy_data c.strategy-child.result.now) u) + 5 < 8 * (4 + weight (form_at by.child.item u)) + 2 = omega (arith, f) in
    search (rules, arith, c.requires.owned, falls)

pub pressing_start::start_outlet-returns-in-Ok-start_task-clause-moved : goal.pressing_start::start_outlet-returns-in-Ok-start_task-clause-moved
pressing_start::start_outlet-returns-in-Ok-start_task-clause-moved g t c =
    let kid = c.in-Ok-start_task.kid in
    let x : Task-F Task = record { head = record (out-Task c.waiting-outlet.result).head { places = c.get-outlet.result }; kids = (out-Task c.waiting-outlet.result).kids } in
    outlet_moved x c.waiting-outlet.result c.get-outlet.result refl refl
    (g.O.Order.active c.args.order.now) (g.O.Order.active c.start_task.new.order) (end_stock c.args.eof) c.push_reserved.new.self.items c.push_reserved-in-Ok-start_task.new.self.items kid
    c.waiting-outlet.ensures.held (c.push_reserved.ensures.items ∙ ap (λ z. z ++ (kid ∷ [])) c.in-Ok.ensures.below.0) (c.push_reserved-in-Ok-start_task.ensures.items ∙ ap (λ z. z ++ (roll-Task x ∷ [])) c.outlet_parts.ensures.kids) c.in-Ok-start_task.ensures.moved

pub pressing_start::start_outlet-returns-in-Ok-start_task-clause-reserved : goal.pressing_start::start_outlet-returns-in-Ok-start_task-clause-reserved
pressing_start::start_outlet-returns-in-Ok-start_task-clause-reserved g t c =
    let kid = c.in-Ok-start_task.kid in
    let x : Task-F Task = record { head = record (out-Task c.waiting-outlet.result).head { places = c.get-outlet.result }; kids = (out-Task c.waiting-outlet.result).kids } in
    outlet_reserved x c.waiting-outlet.result c.get-outlet.result refl refl
    c.in-Ok.first c.push_reserved.new.self.items c.push_reserved-in-Ok-start_task.new.self.items kid
    (started_none (allowed_in c.args.ctx.now) (form_of c.strategy-child.result.now (arc_value c.args.dtype)) c.args.marked c.in-Ok.second c.args.eof kid c.in-Ok-start_task.ensures.shows)
    c.waiting-outlet.ensures.shows (c.push_reserved.ensures.items ∙ ap (λ z. z ++ (kid ∷ [])) c.in-Ok.ensures.below.0) (c.push_reserved-in-Ok-start_task.ensures.items ∙ ap (λ z. z ++ (roll-Task x ∷ [])) c.outlet_parts.ensures.kids)

pub pressing_start::start_outlet-returns-in-Ok-start_task-clause-shows : goal.pressing_start::start_outlet-returns-in-Ok-start_task-clause-shows
pressing_start::start_outlet-returns-in-Ok-start_task-clause-shows g t c =
    let kid = c.in-Ok-start_task.kid in
    let x : Task-F Task = record { head = record (out-Task c.waiting-outlet.result).head { places = c.get-outlet.result }; kids = (out-Task c.waiting-outlet.result).kids } in
    let by = c.args.by.now in
    let u : Ty = ty (arc_value c.args.dtype) in
    let d : strategy_data c.strategy-child.result.now ≡ by.child.item = c.strategy-child.ensures.same ∙ ap (λ y. y.item) c.child.ensures in
    let r : c.get-outlet.result ≡ non_zero_u64_get by.concurrency = c.get-outlet.ensures.value ∙ ap non_zero_u64_get c.concurrency.ensures in
    outlet_started x c.waiting-outlet.result c.get-outlet.result refl refl
    (allowed_in c.args.ctx.now) (non_zero_u64_get by.concurrency) (form_at by.child.item u) c.args.marked c.args.name.now c.in-Ok.first c.in-Ok.second c.args.eof c.push_reserved.new.self.items c.push_reserved-in-Ok-start_task.new.self.items kid
    (subst (λ y. Started (allowed_in c.args.ctx.now) (form_at y u) c.args.marked c.in-Ok.second c.args.eof kid) d c.in-Ok-start_task.ensures.shows)
    c.waiting-outlet.ensures.shows (c.push_reserved.ensures.items ∙ ap (λ z. z ++ (kid ∷ [])) c.in-Ok.ensures.below.0) c.in-Ok.ensures.first c.in-Ok.ensures.second r (omega (arith, r, c.get-outlet.ensures.nonzero))
    (c.push_reserved-in-Ok-start_task.ensures.items ∙ ap (λ z. z ++ (roll-Task x ∷ [])) c.outlet_parts.ensures.kids)

pub pressing_start::start_outlet-returns-in-Err-start_task-clause-moved : goal.pressing_start::start_outlet-returns-in-Err-start_task-clause-moved
pressing_start::start_outlet-returns-in-Err-start_task-clause-moved g t c =
    let e : Stock = end_stock c.args.eof in
    moved_as (g.O.Order.active c.args.order.now) (g.O.Order.active c.start_task.new.order) e e none (tasks_stock c.outlet_parts.new.kids.items) refl (sym (ap tasks_stock c.outlet_parts.ensures.kids)) c.in-Err-start_task.ensures.moved

pub pressing_start::start_outlet-returns-in-Err-start_task-clause-reserved : goal.pressing_start::start_outlet-returns-in-Err-start_task-clause-reserved
pressing_start::start_outlet-returns-in-Err-start_task-clause-reserved g t c = ap tasks_reserved c.outlet_parts.ensures.kids

pub pressing_start::start_outlet-returns-in-Err-start_task-clause-refused : goal.pressing_start::start_outlet-returns-in-Err-start_task-clause-refused
pressing_start::start_outlet-returns-in-Err-start_task-clause-refused g t c =
    subst (λ x. FormRefused (allowed_in c.args.ctx.now) (form_at x (ty (arc_value c.args.dtype))) c.args.marked c.args.eof c.in-Err-start_task.error) (c.strategy-child.ensures.same ∙ ap (λ x. x.item) c.child.ensures) c.in-Err-start_task.ensures.refused

pub pressing_start::start_outlet-returns-in-Err-clause-moved : goal.pressing_start::start_outlet-returns-in-Err-clause-moved
pressing_start::start_outlet-returns-in-Err-clause-moved g t c =
    let e : Stock = end_stock c.args.eof in
    moved_as (g.O.Order.active c.args.order.now) (g.O.Order.active c.give_up_pointer.new.order) e e none (tasks_stock c.outlet_parts.new.kids.items) refl (sym (ap tasks_stock c.outlet_parts.ensures.kids)) c.give_up_pointer.ensures.moved

pub pressing_start::start_outlet-returns-in-Err-clause-reserved : goal.pressing_start::start_outlet-returns-in-Err-clause-reserved
pressing_start::start_outlet-returns-in-Err-clause-reserved g t c = ap tasks_reserved c.outlet_parts.ensures.kids

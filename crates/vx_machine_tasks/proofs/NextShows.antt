-- The next act of a task, by what is left to do and what stands on its queue.
use Rattle.std.proofs.Common.{◌≡◌, ◌+◌, ◌||◌, ◌==◌, not, ℕ, Bool, true, false, List, [], ◌∷◌, length, Global, Result, Ok, Err, IfOk, IfErr, OnOk, refl, sym, ap, subst, ◌∙◌}
use Rattle.std.proofs.lemmas.Bool.{and_parts, true≢false}
use Rattle.std.specs.VecDeque.{deque_len}
use Rattle.std.specs.Arc.{arc_value}
use Rattle.std.specs.declared.sync.Arc.{Arc}
use Rattle.vx_model.specs.ChunkData.{ChunkData}
use Rattle.vx_sequence.specs.Universe.{Active}
use Rattle.vx_order.specs.Outlet.{Outlet}
use Rattle.vx_order.specs.Answers.{IsPast, IsShared}
use Rattle.vx_sink.specs.declared.context.LayoutWriterContext.{LayoutWriterContext}
use Rattle.vx_sink.specs.ContextView.{allowed_in, counted}
use Rattle.vx_path.specs.Path.{Eof}
use Rattle.vx_plan.specs.PlanData.{Setting}
use Rattle.vx_machine_state.specs.State.{Next, Desk}
use Rattle.vx_machine_state.specs.Acts.{Did, now, do_next, take_end, do_take, do_act}
use Rattle.vx_write_answer.specs.declared.step.ActionKind.{ActionKind}
use Rattle.vx_write_answer.specs.declared.step.ActionKind.TheVariants as actions
use Rattle.vx_write_answer.specs.declared.error.WriteError.{WriteError}
use Rattle.vx_machine_node.specs.declared.item.Due.{Due}
use Rattle.vx_machine_node.specs.declared.item.Item.{Item}
use Rattle.vx_machine_node.specs.declared.dict_node.DictNode.{DictNode}
use Rattle.vx_machine_node.specs.declared.node.Local.{Local}
use Rattle.vx_machine_node.specs.declared.node.Local.TheVariants.{Probe}
use Rattle.vx_machine_task.specs.declared.task.Head.{Head}
use Rattle.vx_machine_task.specs.declared.task.Task.{Task}
use Rattle.vx_machine_nodes.specs.Acting.{bare, ActStopped, TakeRefused, TakeStopped, ChunkTaken, ChunkStopped, is_probe, Ended, EndTaken, EndRefused}
use Rattle.vx_machine_acts.specs.Acting.{DueDone, DueRefused, TakeDone, NextTaken, NextUntaken, Acted, NextDone, NextRefused}
use Rattle.vx_machine_node.specs.Context.{setting_of}
use Rattle.vx_machine_task.specs.Ready.{Kid, is_over, may_now}
use Rattle.vx_machine_node.specs.View.{coder_in, item_of, items_of, next_of, todo_of, mind_of}
use Rattle.vx_machine_task.specs.View.{desk_of, row}
use Rattle.vx_machine_acts.proofs.ActShows.{act_shows, act_refused}
use Rattle.vx_machine_task.proofs.Readiness.{may_none}
use Rattle.vx_machine_nodes.proofs.RefusalSteps.{any_past, take_stops, act_stops}
use Rattle.vx_machine_acts.proofs.TakeShows.{no_probe, took_shows, took_stopped, ended_shows, probed_shows, end_fails, take_acts}
use Rattle.vx_machine_task.proofs.ViewParts.{count_row}

-- ---- from the queue

-- what a take of these would do
abbrev Takes : LayoutWriterContext → Head → List Task → List Item → (ℕ → ChunkData → ChunkData) → Did
Takes ctx h ks xs image = do_take (setting_of ctx image) (desk_of h) (row ks) (items_of xs)

module _ {A : Type 0} (ctx : LayoutWriterContext) (h : Head) (ks : List Task) where
  module _ (i : Item) (rest : List Item) (is : h.inbox.items ≡ i ∷ rest) where
    pub chunk_done : (e : Head) (kids : List Task) (m : Local) (todo : List Next) (r : Result A WriteError) → h.todo.items ≡ [] → desk_of e ≡ now (desk_of h) (mind_of m) todo (items_of rest)
        → OnOk r (ChunkTaken ctx h.name (row ks) i h.local m todo (todo_of h.todo.items) (row kids)) → OnOk r (NextTaken ctx h ks e kids)
    chunk_done e kids m todo (Ok x) idle d f = λ image.
        subst (λ xs. TakeDone (Takes ctx h ks xs image) e kids) (sym is)
        (took_shows (setting_of ctx image) (desk_of h) (row ks) (item_of i) (items_of rest) (mind_of h.local) (mind_of m) todo (todo_of h.todo.items) e kids (f image) (ap todo_of idle) d)
    chunk_done e kids m todo (Err x) idle d f = tt

    pub chunk_refused : (r : Result A WriteError) → IfErr r (ChunkStopped ctx h.name (row ks) i h.local) → IfErr r (NextUntaken ctx h ks)
    chunk_refused (Ok x) f = tt
    chunk_refused (Err e) f = λ image.
        subst (λ xs. TakeStopped (counted ctx) (Takes ctx h ks xs image) e) (sym is) (took_stopped (counted ctx) (setting_of ctx image) (desk_of h) (row ks) (item_of i) (items_of rest) (mind_of h.local) e (f image))

  module _ (rest : List Item) (is : h.inbox.items ≡ rest) (none : rest ≡ []) where
    pub end_done : (e : Head) (m : Local) (todo : List Next) (n : ℕ) (r : Result A WriteError) → n ≡ length ks → h.todo.items ≡ [] → is_probe h.local ≡ false → desk_of e ≡ now (desk_of h) (mind_of m) todo (items_of rest)
        → OnOk r (EndTaken h.local n m todo (todo_of h.todo.items)) → OnOk r (NextTaken ctx h ks e ks)
    end_done e m todo n (Ok x) same idle other d f = λ image.
        subst (λ xs. TakeDone (Takes ctx h ks xs image) e ks) (sym (is ∙ none))
        (ended_shows (setting_of ctx image) (desk_of h) (row ks) (mind_of m) todo e ks (d ∙ ap (λ (xs : List Item). now (desk_of h) (mind_of m) todo (items_of xs)) none) refl (mind_of h.local) (todo_of h.todo.items)
        (no_probe h.local other) (ap todo_of idle) (f (setting_of ctx image) (row ks) (count_row ks ∙ sym same)))
    end_done e m todo n (Err x) same idle other d f = tt

    pub end_refused : (n : ℕ) (r : Result A WriteError) → n ≡ length ks → IfErr r (EndRefused h.local n) → IfErr r (NextUntaken ctx h ks)
    end_refused n (Ok x) same f = tt
    end_refused n (Err e) same f = λ image.
        let s : Setting = setting_of ctx image in
        subst (λ xs. TakeStopped (counted ctx) (Takes ctx h ks xs image) e) (sym (is ∙ none))
        (take_stops (counted ctx) (take_end s (desk_of h) (row ks) (mind_of h.local)) e (end_fails s (desk_of h) [] (row ks) e (mind_of h.local) (f s (row ks) (count_row ks ∙ sym same))))

    -- of a dictionary node to which no chunk came
    pub probe_done : (e : Head) (kids : List Task) (m : Local) (todo : List Next) (n : Arc DictNode Global) (p : Eof) (r : Result A WriteError) → h.local ≡ Probe n p → h.todo.items ≡ []
        → desk_of e ≡ now (desk_of h) (mind_of m) todo (items_of rest)
        → OnOk r ((s : Setting) → s.allowed ≡ allowed_in ctx → Ended (take_end s (bare h.name (mind_of h.local)) (row ks) (mind_of h.local)) (mind_of m) todo (todo_of h.todo.items))
        → OnOk r ((s : Setting) → row kids ≡ (take_end s (bare h.name (mind_of h.local)) (row ks) (mind_of h.local)).kids) → OnOk r (NextTaken ctx h ks e kids)
    probe_done e kids m todo n p (Ok x) q idle d f g = λ image.
        let s : Setting = setting_of ctx image in
        subst (λ xs. TakeDone (Takes ctx h ks xs image) e kids) (sym (is ∙ none))
        (probed_shows s (desk_of h) (row ks) (mind_of m) todo e kids (d ∙ ap (λ (xs : List Item). now (desk_of h) (mind_of m) todo (items_of xs)) none) (mind_of h.local) (coder_in (arc_value n)) p (todo_of h.todo.items)
        (ap mind_of q) (ap todo_of idle) (g s) (f s refl))
    probe_done e kids m todo n p (Err x) q idle d f g = tt

    pub probe_refused : (r : Result A WriteError) → IfErr r (λ e. (s : Setting) → s.allowed ≡ allowed_in ctx → TakeRefused (take_end s (bare h.name (mind_of h.local)) (row ks) (mind_of h.local)) e) → IfErr r (NextUntaken ctx h ks)
    probe_refused (Ok x) f = tt
    probe_refused (Err e) f = λ image.
        let s : Setting = setting_of ctx image in
        subst (λ xs. TakeStopped (counted ctx) (Takes ctx h ks xs image) e) (sym (is ∙ none))
        (take_stops (counted ctx) (take_end s (desk_of h) (row ks) (mind_of h.local)) e (end_fails s (desk_of h) h.name (row ks) e (mind_of h.local) (f s refl)))

-- ---- of a block

module _ (ctx : LayoutWriterContext) (image : ℕ → ChunkData → ChunkData) (h : Head) (ks : List Task) (d : Due) (es : List Due) (is : h.todo.items ≡ d ∷ es) where
  pub due_done : (e : Head) (kids : List Task) (o u : Outlet) (m : Local) (todo : List Next) (r : Result ActionKind WriteError) → desk_of e ≡ now (desk_of h) (mind_of m) todo (items_of h.inbox.items)
      → IfOk r (DueDone ctx image h.name h.local ks d o u m todo (todo_of es) kids) → IfOk r (NextDone ctx image h ks o u e kids)
  due_done e kids o u m todo (Ok a) g f = (
    f.0,
    subst (λ zs. Acted (do_act (setting_of ctx image) f.0 (desk_of h) (row ks) (todo_of zs)) o f.0 u e kids a) (sym is)
        (act_shows (setting_of ctx image) f.0 (desk_of h) (row ks) (todo_of es) (next_of d) todo o u (mind_of m) e kids a f.1 g),
  )
  due_done e kids o u m todo (Err x) g f = tt

  pub due_refused : (o : Outlet) (r : Result ActionKind WriteError) → IfErr r (DueRefused ctx image h.name h.local ks d o) → IfErr r (NextRefused ctx image h ks o)
  due_refused o (Ok a) f = tt
  due_refused o (Err e) f = λ n.
      subst (λ zs. ActStopped (counted ctx) (do_act (setting_of ctx image) n (desk_of h) (row ks) (todo_of zs)) o e) (sym is)
      (act_stops (counted ctx) (do_next (setting_of ctx image) n (desk_of h) (row ks) (next_of d) (todo_of es)) o e (act_refused (setting_of ctx image) n (desk_of h) (row ks) (todo_of es) (next_of d) o e (f n)))

-- ---- where nothing is left of a block

did_why : (counts : ℕ) (w : Did) (o : Outlet) (e : WriteError) → TakeStopped counts w e → ActStopped counts w o e
did_why counts w o e h = any_past w.refusal w.misfit ((counts + w.raises) ∷ w.numbers) w.indices w.wrote (IsPast o) (IsShared o) w.joined e h

module _ (ctx : LayoutWriterContext) (h : Head) (ks : List Task) (es : List Due) (is : h.todo.items ≡ es) (idle : es ≡ []) where
  -- its desk, where that list stands for what is left
  abbrev left : Desk
  left = record { name = h.name; mind = mind_of h.local; todo = todo_of es; inbox = items_of h.inbox.items; places = h.places; closed = h.closed }

  same : left ≡ desk_of h
  same = λ j. record { name = h.name; mind = mind_of h.local; todo = todo_of (sym is j); inbox = items_of h.inbox.items; places = h.places; closed = h.closed }

  pub take_acted : (image : ℕ → ChunkData → ChunkData) (e : Head) (kids : List Task) (o u : Outlet) → u ≡ o → TakeDone (do_take (setting_of ctx image) left (row ks) (items_of h.inbox.items)) e kids
      → (n : ℕ) × Acted (do_act (setting_of ctx image) n (desk_of h) (row ks) (todo_of h.todo.items)) o n u e kids actions.Take
  take_acted image e kids o u k d = (
    0,
    subst (λ zs. Acted (do_act (setting_of ctx image) 0 (desk_of h) (row ks) (todo_of zs)) o 0 u e kids actions.Take) (sym (is ∙ idle))
        (take_acts (setting_of ctx image) (desk_of h) (row ks) (items_of h.inbox.items) o u 0 e kids k
        (subst (λ c. TakeDone (do_take (setting_of ctx image) c (row ks) (items_of h.inbox.items)) e kids) same d)),
  )

  pub take_refused : (image : ℕ → ChunkData → ChunkData) (n : ℕ) (o : Outlet) (e : WriteError) → TakeStopped (counted ctx) (do_take (setting_of ctx image) left (row ks) (items_of h.inbox.items)) e
      → ActStopped (counted ctx) (do_act (setting_of ctx image) n (desk_of h) (row ks) (todo_of h.todo.items)) o e
  take_refused image n o e d =
      subst (λ zs. ActStopped (counted ctx) (do_act (setting_of ctx image) n (desk_of h) (row ks) (todo_of zs)) o e) (sym (is ∙ idle))
      (did_why (counted ctx) (do_take (setting_of ctx image) (desk_of h) (row ks) (items_of h.inbox.items)) o e
      (subst (λ c. TakeStopped (counted ctx) (do_take (setting_of ctx image) c (row ks) (items_of h.inbox.items)) e) same d))

not_true : (b : Bool) → not b ≡ true → b ≡ false
not_true false h = refl
not_true true h = absurd (true≢false (sym h))

-- one that may take something takes more
pub take_open : (u : Active) (h : Head) (kids : List Kid) → h.todo.items ≡ [] → may_now u h kids ≡ true → is_over h.local ≡ false
take_open u h kids e m =
    let a = and_parts (not (is_over h.local)) (not (deque_len h.inbox == 0) || h.closed) (sym (may_none u h kids (ap length e)) ∙ m) in
    not_true (is_over h.local) a.0

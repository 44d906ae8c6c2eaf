-- What an act of a block does, against the same act in plain data.
use Rattle.std.proofs.Common.{◌≡◌, ℕ, suc, Bool, true, false, List, [], ◌∷◌, Option, None, Result, Ok, Err, IfOk, IfErr, OnOk, OnErr, refl, sym, ap, subst, ◌∙◌}
use Rattle.std.proofs.lemmas.Result.{IfErr-weaker}
use Rattle.vx_model.specs.ChunkData.{ChunkData}
use Rattle.vx_model.specs.declared.encoding.EncodingId.{EncodingId}
use Rattle.vx_path.specs.Path.{Eof}
use Rattle.vx_layout_tree.specs.declared.layout.Layout.{Layout}
use Rattle.vx_layout_tree.specs.LayoutView.{layout_data}
use Rattle.vx_order.specs.Outlet.{Outlet}
use Rattle.vx_order.specs.Answers.{IsPast, IsShared}
use Rattle.vx_plan.specs.PlanData.{Setting, Item as Piece}
use Rattle.vx_plan.specs.DictNode.{is_dictionary}
use Rattle.vx_sink.specs.declared.context.LayoutWriterContext.{LayoutWriterContext}
use Rattle.vx_sink.specs.ContextView.{listed, allowed_in}
use Rattle.vx_machine_state.specs.Coder.{Coder}
use Rattle.vx_machine_state.specs.Images.{images_of}
use Rattle.vx_machine_state.specs.State.{Next, put, hand_on, press, probe, open_run, end_run, append, shut_kids, join_kids, start_table, leave_kid, Mind, ending, made, Desk, Tasks, no_tasks}
use Rattle.vx_machine_state.specs.Acts.{Did, give, end_at, shut_all, layouts_in, folded, joined_rows, now, probed, do_next}
use Rattle.vx_write_answer.specs.declared.step.ActionKind.{ActionKind}
use Rattle.vx_write_answer.specs.declared.step.ActionKind.TheVariants as actions
use Rattle.vx_write_answer.specs.declared.error.WriteError.{WriteError}
use Rattle.vx_write_answer.specs.declared.error.WriteError.TheVariants.{SourceFault, SinkFault, CompressFault, BatchType, NotStruct, DuplicateField, ManyChunks, EmptyList, ZoneCut, ForbiddenAggregate, ForbiddenEncoding, TooLarge, OutOfMemory, Stopped}
use Rattle.vx_machine_node.specs.declared.item.Due.{Due}
use Rattle.vx_machine_node.specs.declared.item.Due.TheVariants as dues
use Rattle.vx_machine_node.specs.declared.item.Item.{Item}
use Rattle.vx_machine_node.specs.declared.item.Stored.{Stored}
use Rattle.vx_machine_node.specs.declared.node.Local.{Local}
use Rattle.vx_machine_node.specs.declared.node.Local.TheVariants.{Made}
use Rattle.vx_machine_node.specs.declared.node.Shape.{Shape}
use Rattle.vx_machine_task.specs.declared.task.Head.{Head}
use Rattle.vx_machine_task.specs.declared.task.Task.{Task}
use Rattle.vx_machine_nodes.specs.Acting.{ActRefused, AppendRefused, bare, acted, ActDone, Pressed, JoinRefused}
use Rattle.vx_machine_node.specs.Causes.{PressMay}
use Rattle.vx_machine_node.specs.Context.{setting_of}
use Rattle.vx_machine_acts.specs.Acting.{DueDone, DueRefused, Acted}
use Rattle.vx_machine_node.specs.Outcome.{action_of, Kept}
use Rattle.vx_machine_node.specs.View.{item_of, stored_of, fold_of, next_of, mind_of}
use Rattle.vx_machine_task.specs.View.{desk_of, row}
use Rattle.vx_machine_node.proofs.Fitting.{none_fit}
use Rattle.vx_machine_nodes.proofs.RefusalSteps.{any_past, memory_only}
use Rattle.vx_machine_nodes.proofs.WriteSteps.{kept_same}

-- ---- what the sink is told

pub on_ok : {A E P : Type 0} (r : Result A E) → P → OnOk r P
on_ok (Ok x) p = p
on_ok (Err e) p = tt

pub on_err : {A E P : Type 0} (r : Result A E) → P → OnErr r P
on_err (Ok x) p = tt
on_err (Err e) p = p

pub err_kept : {A E : Type 0} (r : Result A E) (o u : Outlet) → u ≡ o → OnErr r (Kept o u)
err_kept r o u e = on_err r (kept_same o u e)

-- ---- by what is due

-- a call of the compressor may fail, or have no memory
press_why : (w : Did) (o : Outlet) (e : WriteError) → PressMay e → ActRefused w o e
press_why w o CompressFault h = tt
press_why w o OutOfMemory h = tt
press_why w o SourceFault h = absurd h
press_why w o SinkFault h = absurd h
press_why w o (BatchType c) h = absurd h
press_why w o NotStruct h = absurd h
press_why w o (DuplicateField k) h = absurd h
press_why w o ManyChunks h = absurd h
press_why w o EmptyList h = absurd h
press_why w o (ZoneCut n) h = absurd h
press_why w o (ForbiddenAggregate id) h = absurd h
press_why w o (ForbiddenEncoding id) h = absurd h
press_why w o (TooLarge n) h = absurd h
press_why w o (Stopped by k) h = absurd h

module _ (ctx : LayoutWriterContext) (image : ℕ → ChunkData → ChunkData) (name : List ℕ) (l : Local) (ks : List Task) (d : Due) (o u : Outlet) where
  by_due : (e : Due) (m : Local) (todo left : List Next) (more : List Task) (a : ActionKind) → d ≡ e → DueDone ctx image name l ks e o u m todo left more a → DueDone ctx image name l ks d o u m todo left more a
  by_due e m todo left more a is h = subst (λ z. DueDone ctx image name l ks z o u m todo left more a) (sym is) h

  why_due : {A : Type 0} (e : Due) (r : Result A WriteError) → d ≡ e → IfErr r (DueRefused ctx image name l ks e o) → IfErr r (DueRefused ctx image name l ks d o)
  why_due e r is h = subst (λ z. IfErr r (DueRefused ctx image name l ks z o)) (sym is) h

  pub put_does : (j : ℕ) (i : Item) (left : List Next) (more : List Task) (r : Result ActionKind WriteError) → d ≡ dues.Put j i → IfOk r (λ a. a ≡ actions.Put)
      → OnOk r (row more ≡ give j (item_of i) (row ks)) → u ≡ o → IfOk r (DueDone ctx image name l ks d o u l left left more)
  put_does j i left more (Ok a) is k g e = by_due (dues.Put j i) l left left more a is (0, record { unrefused = refl; fits = refl; counted = none_fit; todo_is = refl; mind_is = refl; kids_are = g; kind = k; outlet = e })
  put_does j i left more (Err x) is k g e = tt

  pub put_says : (j : ℕ) (i : Item) (r : Result ActionKind WriteError) → d ≡ dues.Put j i → IfErr r (λ e. e ≡ OutOfMemory) → IfErr r (DueRefused ctx image name l ks d o)
  put_says j i r is h = why_due (dues.Put j i) r is (memory_only (DueRefused ctx image name l ks (dues.Put j i) o) r (λ n. tt) h)

  pub hand_does : (i : Item) (b : Option ℕ) (left : List Next) (more : List Task) (r : Result ActionKind WriteError) → d ≡ dues.HandOn i b → IfOk r (λ a. a ≡ actions.Put)
      → OnOk r (row more ≡ give 0 (item_of i) (row ks)) → u ≡ o → IfOk r (DueDone ctx image name l ks d o u l left left more)
  hand_does i b left more (Ok a) is k g e = by_due (dues.HandOn i b) l left left more a is (0, record { unrefused = refl; fits = refl; counted = none_fit; todo_is = refl; mind_is = refl; kids_are = g; kind = k; outlet = e })
  hand_does i b left more (Err x) is k g e = tt

  pub hand_says : (i : Item) (b : Option ℕ) (r : Result ActionKind WriteError) → d ≡ dues.HandOn i b → IfErr r (λ e. e ≡ OutOfMemory) → IfErr r (DueRefused ctx image name l ks d o)
  hand_says i b r is h = why_due (dues.HandOn i b) r is (memory_only (DueRefused ctx image name l ks (dues.HandOn i b) o) r (λ n. tt) h)

  pub end_does : (j : ℕ) (i : Item) (left : List Next) (more : List Task) (r : Result ActionKind WriteError) → d ≡ dues.EndRun j i → IfOk r (λ a. a ≡ actions.Put)
      → OnOk r (row more ≡ end_at j (item_of i) (row ks)) → u ≡ o → IfOk r (DueDone ctx image name l ks d o u l left left more)
  end_does j i left more (Ok a) is k g e = by_due (dues.EndRun j i) l left left more a is (0, record { unrefused = refl; fits = refl; counted = none_fit; todo_is = refl; mind_is = refl; kids_are = g; kind = k; outlet = e })
  end_does j i left more (Err x) is k g e = tt

  pub end_says : (j : ℕ) (i : Item) (r : Result ActionKind WriteError) → d ≡ dues.EndRun j i → IfErr r (λ e. e ≡ OutOfMemory) → IfErr r (DueRefused ctx image name l ks d o)
  end_says j i r is h = why_due (dues.EndRun j i) r is (memory_only (DueRefused ctx image name l ks (dues.EndRun j i) o) r (λ n. tt) h)

  pub press_does : (which : ℕ) (i : Item) (todo left : List Next) (r : Result ActionKind WriteError) → d ≡ dues.Press which i → IfOk r (λ a. a ≡ actions.Call)
      → OnOk r (Pressed image which (item_of i) todo left) → u ≡ o → IfOk r (DueDone ctx image name l ks d o u l todo left ks)
  press_does which i todo left (Ok a) is k g e = by_due (dues.Press which i) l todo left ks a is (0, record { unrefused = refl; fits = refl; counted = none_fit; todo_is = g; mind_is = refl; kids_are = refl; kind = k; outlet = e })
  press_does which i todo left (Err x) is k g e = tt

  pub press_says : (which : ℕ) (i : Item) (r : Result ActionKind WriteError) → d ≡ dues.Press which i → IfErr r PressMay → IfErr r (DueRefused ctx image name l ks d o)
  press_says which i r is h = why_due (dues.Press which i) r is
      (IfErr-weaker r PressMay (DueRefused ctx image name l ks (dues.Press which i) o) (λ e k n. press_why (acted (setting_of ctx image) name n (mind_of l) (row ks) (press which (item_of i))) o e k) h)

  pub append_does : (x : Stored) (m : Local) (left : List Next) (r : Result ActionKind WriteError) → d ≡ dues.Append x
      → IfOk r (λ a. (n : ℕ) × ((s : Setting) (at : List ℕ) (mind : Mind) (kids : Tasks) (td : List Next) → s.encodings ≡ listed ctx → ActDone (acted s at n mind kids (append (stored_of x))) o n u (mind_of m) td td kids a))
      → IfOk r (DueDone ctx image name l ks d o u m left left ks)
  append_does x m left (Ok a) is h = by_due (dues.Append x) m left left ks a is (h.0, h.1 (setting_of ctx image) name (mind_of l) (row ks) left refl)
  append_does x m left (Err e) is h = tt

  pub append_says : (x : Stored) (r : Result ActionKind WriteError) → d ≡ dues.Append x → IfErr r (AppendRefused o (x.id, x.segment.bytes.items)) → IfErr r (DueRefused ctx image name l ks d o)
  append_says x r is h = why_due (dues.Append x) r is
      (IfErr-weaker r (AppendRefused o (x.id, x.segment.bytes.items)) (DueRefused ctx image name l ks (dues.Append x) o) (λ e k n. k) h)

  pub close_does : (left : List Next) (more : List Task) → d ≡ dues.Close → row more ≡ shut_all (row ks) → u ≡ o → DueDone ctx image name l ks d o u l left left more actions.Close
  close_does left more is g e = by_due dues.Close l left left more actions.Close is (0, record { unrefused = refl; fits = refl; counted = none_fit; todo_is = refl; mind_is = refl; kids_are = g; kind = refl; outlet = e })

  pub leave_does : (p : Eof) (left : List Next) → d ≡ dues.Leave p → u ≡ o → DueDone ctx image name l ks d o u l left left ks actions.Join
  leave_does p left is e = by_due (dues.Leave p) l left left ks actions.Join is (0, record { unrefused = refl; fits = refl; counted = none_fit; todo_is = refl; mind_is = refl; kids_are = refl; kind = refl; outlet = e })

  pub join_does : (h : Shape) (m : Local) (left : List Next) (more : List Task) (r : Result ActionKind WriteError) → d ≡ dues.Join h
      → IfOk r (λ a. (s : Setting) (at : List ℕ) (n : ℕ) (mind : Mind) (td : List Next) → ActDone (acted s at n mind (row ks) (join_kids (fold_of h))) o n u (mind_of m) td td (row more) a)
      → IfOk r (DueDone ctx image name l ks d o u m left left more)
  join_does h m left more (Ok a) is f = by_due (dues.Join h) m left left more a is (0, f (setting_of ctx image) name 0 (mind_of l) left)
  join_does h m left more (Err e) is f = tt

  pub join_says : (h : Shape) (r : Result ActionKind WriteError) → d ≡ dues.Join h → IfErr r (JoinRefused (joined_rows (fold_of h) (layouts_in (row ks)))) → IfErr r (DueRefused ctx image name l ks d o)
  join_says h r is f = why_due (dues.Join h) r is
      (IfErr-weaker r (JoinRefused (joined_rows (fold_of h) (layouts_in (row ks)))) (DueRefused ctx image name l ks (dues.Join h) o)
      (λ e k n. any_past None false [] [] [] (IsPast o) (IsShared o) (joined_rows (fold_of h) (layouts_in (row ks))) e k) f)

  -- children are started
  pub start_does : (x : Due) (left : List Next) (more : List Task) (r : Result ActionKind WriteError) → d ≡ x
      → IfOk r (λ a. (s : Setting) (n : ℕ) (mind : Mind) (td : List Next) → s.allowed ≡ allowed_in ctx → ActDone (acted s name n mind (row ks) (next_of x)) o n u mind td td (row more) a)
      → IfOk r (DueDone ctx image name l ks d o u l left left more)
  start_does x left more (Ok a) is f = by_due x l left left more a is (0, f (setting_of ctx image) 0 (mind_of l) left refl)
  start_does x left more (Err e) is f = tt

  pub start_says : (x : Due) (r : Result ActionKind WriteError) → d ≡ x → IfErr r (λ e. (s : Setting) (n : ℕ) (mind : Mind) → s.allowed ≡ allowed_in ctx → ActRefused (acted s name n mind (row ks) (next_of x)) o e)
      → IfErr r (DueRefused ctx image name l ks d o)
  start_says x r is f = why_due x r is
      (IfErr-weaker r (λ e. (s : Setting) (n : ℕ) (mind : Mind) → s.allowed ≡ allowed_in ctx → ActRefused (acted s name n mind (row ks) (next_of x)) o e) (DueRefused ctx image name l ks x o)
      (λ e k n. k (setting_of ctx image) n (mind_of l) refl) f)

  pub start_kind : (x : Due) (more : List Task) (r : Result ActionKind WriteError) (k : ActionKind) → ((s : Setting) (n : ℕ) (mind : Mind) → k ≡ action_of (acted s name n mind (row ks) (next_of x)).kind)
      → IfOk r (λ a. (s : Setting) (n : ℕ) (mind : Mind) (td : List Next) → s.allowed ≡ allowed_in ctx → ActDone (acted s name n mind (row ks) (next_of x)) o n u mind td td (row more) a) → IfOk r (λ a. a ≡ k)
  start_kind x more (Ok a) k is f = (f (setting_of ctx image) 0 ending [] refl).kind ∙ sym (is (setting_of ctx image) 0 ending)
  start_kind x more (Err e) k is f = tt

  -- by an image
  pub ask_does : (x : Due) (m : Local) (todo left : List Next) (more : List Task) (r : Result ActionKind WriteError) → d ≡ x
      → IfOk r (λ a. (s : Setting) (n : ℕ) (mind : Mind) → s.allowed ≡ allowed_in ctx → s.image ≡ images_of image → ActDone (acted s name n mind (row ks) (next_of x)) o n u (mind_of m) todo left (row more) a)
      → IfOk r (DueDone ctx image name l ks d o u m todo left more)
  ask_does x m todo left more (Ok a) is f = by_due x m todo left more a is (0, f (setting_of ctx image) 0 (mind_of l) refl refl)
  ask_does x m todo left more (Err e) is f = tt

  pub ask_says : (x : Due) (r : Result ActionKind WriteError) → d ≡ x
      → IfErr r (λ e. (s : Setting) (n : ℕ) (mind : Mind) → s.allowed ≡ allowed_in ctx → s.image ≡ images_of image → ActRefused (acted s name n mind (row ks) (next_of x)) o e) → IfErr r (DueRefused ctx image name l ks d o)
  ask_says x r is f = why_due x r is
      (IfErr-weaker r (λ e. (s : Setting) (n : ℕ) (mind : Mind) → s.allowed ≡ allowed_in ctx → s.image ≡ images_of image → ActRefused (acted s name n mind (row ks) (next_of x)) o e) (DueRefused ctx image name l ks x o)
      (λ e k n. k (setting_of ctx image) n (mind_of l) refl refl) f)

pub append_kind : (x : Stored) (o u : Outlet) (m : Local) (s : Setting) (ids : List EncodingId) → s.encodings ≡ ids → (r : Result ActionKind WriteError)
    → IfOk r (λ a. (n : ℕ) × ((s : Setting) (at : List ℕ) (mind : Mind) (kids : Tasks) (td : List Next) → s.encodings ≡ ids → ActDone (acted s at n mind kids (append (stored_of x))) o n u (mind_of m) td td kids a)) → IfOk r (λ a. a ≡ actions.Append)
append_kind x o u m s ids q (Ok a) f = (f.1 s [] ending no_tasks [] q).kind
append_kind x o u m s ids q (Err e) f = tt

-- and is a join
pub join_kind : (s : Setting) (h : Shape) (ks : List Task) (o u : Outlet) (m : Local) (more : List Task) (r : Result ActionKind WriteError)
    → IfOk r (λ a. (s : Setting) (at : List ℕ) (n : ℕ) (mind : Mind) (td : List Next) → ActDone (acted s at n mind (row ks) (join_kids (fold_of h))) o n u (mind_of m) td td (row more) a) → IfOk r (λ a. a ≡ actions.Join)
join_kind s h ks o u m more (Ok a) f = (f s [] 0 ending []).kind
join_kind s h ks o u m more (Err e) f = tt

-- the children are given up, and their layout is in mind
pub joined_done : (s : Setting) (at : List ℕ) (n : ℕ) (mind : Mind) (left : List Next) (h : Shape) (ks : Tasks) (x : Layout) (m : Local) (more : List Task) (o u : Outlet)
    → layout_data x ≡ folded (fold_of h) (layouts_in ks) → m ≡ Made x → more ≡ [] → u ≡ o
    → ActDone (acted s at n mind ks (join_kids (fold_of h))) o n u (mind_of m) left left (row more) actions.Join
joined_done s at n mind left h ks x m more o u g is none e =
    record { unrefused = refl; fits = refl; counted = none_fit; todo_is = refl; mind_is = ap mind_of is ∙ ap made g; kids_are = ap row none; kind = refl; outlet = e }

-- ---- as the next act of a task

module _ (s : Setting) (n : ℕ) (c : Desk) (ks : Tasks) (left : List Next) where
  probe_shows : (b : Bool) (k : Coder) (p : Eof) (i : Piece) (todo : List Next) (o u : Outlet) (m : Mind) (h : Head) (kids : List Task) (a : ActionKind)
      → ActDone (probed s b k p i [] (bare c.name c.mind) ks) o n u m todo left (row kids) a → desk_of h ≡ now c m todo c.inbox → Acted (probed s b k p i left c ks) o n u h kids a
  probe_shows true k p i todo o u m h kids a d e =
      record { unrefused = d.unrefused; fits = d.fits; counted = d.counted; desk = e ∙ (λ j. now c (d.mind_is j) (d.todo_is j) c.inbox); kids_are = d.kids_are; kind = d.kind; outlet = d.outlet }
  probe_shows false k p i todo o u m h kids a d e =
      record { unrefused = d.unrefused; fits = d.fits; counted = d.counted; desk = e ∙ (λ j. now c (d.mind_is j) (d.todo_is j) c.inbox); kids_are = d.kids_are; kind = d.kind; outlet = d.outlet }

  pub act_shows : (x : Next) (todo : List Next) (o u : Outlet) (m : Mind) (h : Head) (kids : List Task) (a : ActionKind)
      → ActDone (acted s c.name n c.mind ks x) o n u m todo left (row kids) a → desk_of h ≡ now c m todo c.inbox → Acted (do_next s n c ks x left) o n u h kids a
  act_shows (put j i) todo o u m h kids a d e =
      record { unrefused = d.unrefused; fits = d.fits; counted = d.counted; desk = e ∙ (λ j. now c (d.mind_is j) (d.todo_is j) c.inbox); kids_are = d.kids_are; kind = d.kind; outlet = d.outlet }
  act_shows (hand_on k i) todo o u m h kids a d e =
      record { unrefused = d.unrefused; fits = d.fits; counted = d.counted; desk = e ∙ (λ j. now c (d.mind_is j) (d.todo_is j) c.inbox); kids_are = d.kids_are; kind = d.kind; outlet = d.outlet }
  act_shows (press which i) todo o u m h kids a d e =
      record { unrefused = d.unrefused; fits = d.fits; counted = d.counted; desk = e ∙ (λ j. now c (d.mind_is j) (d.todo_is j) c.inbox); kids_are = d.kids_are; kind = d.kind; outlet = d.outlet }
  act_shows (open_run k j p i) todo o u m h kids a d e =
      record { unrefused = d.unrefused; fits = d.fits; counted = d.counted; desk = e ∙ (λ j. now c (d.mind_is j) (d.todo_is j) c.inbox); kids_are = d.kids_are; kind = d.kind; outlet = d.outlet }
  act_shows (end_run j i) todo o u m h kids a d e =
      record { unrefused = d.unrefused; fits = d.fits; counted = d.counted; desk = e ∙ (λ j. now c (d.mind_is j) (d.todo_is j) c.inbox); kids_are = d.kids_are; kind = d.kind; outlet = d.outlet }
  act_shows (append x) todo o u m h kids a d e =
      record { unrefused = d.unrefused; fits = d.fits; counted = d.counted; desk = e ∙ (λ j. now c (d.mind_is j) (d.todo_is j) c.inbox); kids_are = d.kids_are; kind = d.kind; outlet = d.outlet }
  act_shows shut_kids todo o u m h kids a d e =
      record { unrefused = d.unrefused; fits = d.fits; counted = d.counted; desk = e ∙ (λ j. now c (d.mind_is j) (d.todo_is j) c.inbox); kids_are = d.kids_are; kind = d.kind; outlet = d.outlet }
  act_shows (join_kids f) todo o u m h kids a d e =
      record { unrefused = d.unrefused; fits = d.fits; counted = d.counted; desk = e ∙ (λ j. now c (d.mind_is j) (d.todo_is j) c.inbox); kids_are = d.kids_are; kind = d.kind; outlet = d.outlet }
  act_shows (start_table f p q) todo o u m h kids a d e =
      record { unrefused = d.unrefused; fits = d.fits; counted = d.counted; desk = e ∙ (λ j. now c (d.mind_is j) (d.todo_is j) c.inbox); kids_are = d.kids_are; kind = d.kind; outlet = d.outlet }
  act_shows (leave_kid p) todo o u m h kids a d e =
      record { unrefused = d.unrefused; fits = d.fits; counted = d.counted; desk = e ∙ (λ j. now c (d.mind_is j) (d.todo_is j) c.inbox); kids_are = d.kids_are; kind = d.kind; outlet = d.outlet }
  act_shows (probe k p i) todo o u m h kids a d e = probe_shows (is_dictionary (s.image k.options.probe i.1)) k p i todo o u m h kids a d e

  probe_refused : (b : Bool) (k : Coder) (p : Eof) (i : Piece) (o : Outlet) (e : WriteError) → ActRefused (probed s b k p i [] (bare c.name c.mind) ks) o e → ActRefused (probed s b k p i left c ks) o e
  probe_refused true k p i o e h = h
  probe_refused false k p i o e h = h

  pub act_refused : (x : Next) (o : Outlet) (e : WriteError) → ActRefused (acted s c.name n c.mind ks x) o e → ActRefused (do_next s n c ks x left) o e
  act_refused (put j i) o e h = h
  act_refused (hand_on k i) o e h = h
  act_refused (press which i) o e h = h
  act_refused (open_run k j p i) o e h = h
  act_refused (end_run j i) o e h = h
  act_refused (append x) o e h = h
  act_refused shut_kids o e h = h
  act_refused (join_kids f) o e h = h
  act_refused (start_table f p q) o e h = h
  act_refused (leave_kid p) o e h = h
  act_refused (probe k p i) o e h = probe_refused (is_dictionary (s.image k.options.probe i.1)) k p i o e h

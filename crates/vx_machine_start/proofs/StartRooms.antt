-- Children that have places of their own, and the node above them.
use Rattle.std.proofs.Common.{◌≡◌, ℕ, ◌+◌, ◌-◌, ◌^◌, ◌<◌, ◌≤◌, Bool, true, false, List, [], ◌∷◌, Result, IfOk, IfErr, refl, sym, ap, subst, ◌∙◌, arith}
use Rattle.std.proofs.lemmas.Result.{IfOk-weaker}
use Rattle.vx_model.specs.Ty.{Ty}
use Rattle.vx_path.specs.Path.{Eof, under, inside}
use Rattle.vx_strategy_spec.specs.StrategyData.{ZonedOptions}
use Rattle.vx_machine_turns.specs.Forms.{Form, compressed_form, zoned_form}
use Rattle.vx_machine_state.specs.State.{Desk, Tasks, no_tasks, task_then, as_is}
use Rattle.vx_machine_state.specs.Start.{waiting, first_mind, first_kids, first_indices, outlet_desk}
use Rattle.vx_sequence.specs.Universe.{Active}
use Rattle.vx_machine_ids.specs.Stock.{Stock, none, both}
use Rattle.vx_machine_ids.specs.Balance.{Moved}
use Rattle.vx_machine_ids.proofs.Stocks.{both_none, none_both}
use Rattle.vx_machine_ids.proofs.MoveLaws.{moved_as}
use Rattle.vx_machine_state.specs.Reserved.{reserved_by}
use Rattle.vx_write_answer.specs.declared.error.WriteError.{WriteError}
use Rattle.vx_machine_node.specs.Context.{Allowed}
use Rattle.vx_machine_node.specs.declared.node.Local.TheVariants.{Pressing}
use Rattle.vx_machine_node.specs.View.{mind_of}
use Rattle.vx_machine_node.proofs.Fitting.{then_fit}
use Rattle.vx_machine_task.specs.declared.task.Task.{Task, out-Task}
use Rattle.vx_machine_task.specs.declared.task.Task.TheOpen.{Task-F}
use Rattle.vx_machine_task.specs.declared.task.Task.TheViews.{roll-Task}
use Rattle.vx_machine_task.specs.Ledger.{head_reserved, task_reserved, tasks_reserved}
use Rattle.vx_machine_start.specs.Starting.{Started, FormRefused, DataStarted, OutletStarted}
use Rattle.vx_machine_task.specs.Stocks.{head_stock, task_stock, tasks_stock}
use Rattle.vx_machine_task.specs.View.{desk_of, task_row, row}
use Rattle.vx_machine_task.proofs.ReservedSteps.{task_reserved_out, task_reserved_roll, row_view, task_view}
use Rattle.vx_machine_start.proofs.StartShows.{started}
use Rattle.vx_machine_task.proofs.TaskParts.{task_stock_out, task_stock_roll}
use Rattle.vx_machine_task.proofs.ViewParts.{row_out, row_roll}

-- ---- a task with so many places

abbrev with_places : ℕ → Tasks → Tasks
with_places p no_tasks = no_tasks
with_places p (task_then c ks r) = task_then (record c { places = p }) ks r

module _ (x : Task-F Task) (t : Task) (p : ℕ) (k : x.kids ≡ (out-Task t).kids) (h : x.head ≡ record (out-Task t).head { places = p }) where
  placed : (c : Desk) (ks : Tasks) → ((r : Tasks) → task_row t r ≡ task_then c ks r) → (r : Tasks) → task_row (roll-Task x) r ≡ task_then (record c { places = p }) ks r
  placed c ks is r = row_roll x r ∙ (λ j. task_then (desk_of (h j)) (row (k j).items) r) ∙ ap (with_places p) (sym (row_out t r) ∙ is r)

  pub placed_stock : task_stock (roll-Task x) ≡ task_stock t
  placed_stock = task_stock_roll x ∙ (λ j. both (head_stock (h j)) (tasks_stock (k j).items)) ∙ sym (task_stock_out t)

  pub placed_reserved : task_reserved (roll-Task x) ≡ task_reserved t
  placed_reserved = task_reserved_roll x ∙ (λ j. head_reserved (h j) + tasks_reserved (k j).items) ∙ sym (task_reserved_out t)

  -- ---- the data child of a zoned node

  pub data_moved : (u v : Active) (e f : Stock) (js : List Task) → js ≡ roll-Task x ∷ [] → Moved u v e (both f (task_stock t)) → Moved u v e (both f (tasks_stock js))
  data_moved u v e f js is m =
      moved_as u v e e (both f (task_stock t)) (both f (tasks_stock js)) refl (ap (both f) (sym (ap tasks_stock is ∙ both_none (task_stock (roll-Task x)) ∙ placed_stock))) m

  pub data_reserved : (js : List Task) → js ≡ roll-Task x ∷ [] → task_reserved t ≡ 0 → tasks_reserved js ≡ 0
  data_reserved js is free =
      let all : tasks_reserved js ≡ task_reserved (roll-Task x) + 0 = ap tasks_reserved is in
      omega (arith, all, placed_reserved, free)

  pub data_started : (a : Allowed) (room : ℕ) (f : Form) (at name : List ℕ) (e : Eof) (js : List Task) → Started a f false name (inside e) t → name ≡ under at 0 → e.last + 1 < 2 ^ 64 → p ≡ room → 1 ≤ room → js ≡ roll-Task x ∷ []
      → DataStarted a room f at e js
  data_started a room f at name e js s n fit q some is =
      let places : p ≡ 1 + (room - 1) = omega (arith, q, some) in
      record {
        allowed = s.allowed;
        counted = λ b. then_fit (e.last + 1) (first_indices f false (inside e)) fit (s.counted (omega arith));
        tasks =
            ap row is ∙ placed (waiting name (first_mind f false (inside e)) [] false) (first_kids f false name (inside e)) s.tasks no_tasks
            ∙ (λ j. task_then (record { name = n j; mind = first_mind f false (inside e); todo = []; inbox = []; places = places j; closed = false }) (first_kids f false (n j) (inside e)) no_tasks);
      }

  -- ---- an outlet, above the node's child

  pub outlet_moved : (u v : Active) (e : Stock) (below js : List Task) (kid : Task) → task_stock t ≡ both none (tasks_stock below) → below ≡ kid ∷ [] → js ≡ roll-Task x ∷ [] → Moved u v e (task_stock kid) → Moved u v e (tasks_stock js)
  outlet_moved u v e below js kid held b is m =
      moved_as u v e e (task_stock kid) (tasks_stock js) refl
      (sym (ap tasks_stock is ∙ both_none (task_stock (roll-Task x)) ∙ placed_stock ∙ held ∙ none_both (tasks_stock below) ∙ ap tasks_stock b ∙ both_none (task_stock kid))) m

  pub outlet_reserved : (first : List ℕ) (below js : List Task) (kid : Task) → task_reserved kid ≡ 0 → ((r : Tasks) → task_row t r ≡ task_then (waiting first as_is [] false) (row below) r) → below ≡ kid ∷ [] → js ≡ roll-Task x ∷ []
      → tasks_reserved js ≡ 0
  outlet_reserved first below js kid free shows b is =
      let same : ((0 + 0) + reserved_by (row below)) + 0 ≡ reserved_by (row below) = omega arith in
      let own : task_reserved t ≡ reserved_by (row below) = sym (task_view t) ∙ ap reserved_by (shows no_tasks) ∙ same in
      let kids : reserved_by (row below) ≡ task_reserved kid + 0 = row_view below ∙ ap tasks_reserved b in
      let all : tasks_reserved js ≡ task_reserved (roll-Task x) + 0 = ap tasks_reserved is in
      omega (arith, all, placed_reserved, own, kids, free)

  pub outlet_started : (a : Allowed) (room : ℕ) (f : Form) (m : Bool) (at first second : List ℕ) (e : Eof) (below js : List Task) (kid : Task) → Started a f m second e kid
      → ((r : Tasks) → task_row t r ≡ task_then (waiting first as_is [] false) (row below) r) → below ≡ kid ∷ [] → first ≡ under at 0 → second ≡ under at 1 → p ≡ room → 1 ≤ room → js ≡ roll-Task x ∷ []
      → OutletStarted a room f m at e js
  outlet_started a room f m at first second e below js kid s shows b n o q some is =
      let places : p ≡ 1 + (room - 1) = omega (arith, q, some) in
      let kids : row below ≡ task_then (waiting second (first_mind f m e) [] false) (first_kids f m second e) no_tasks = ap row b ∙ s.tasks no_tasks in
      record {
        allowed = s.allowed;
        counted = s.counted;
        tasks =
            ap row is ∙ placed (waiting first as_is [] false) (row below) shows no_tasks
            ∙ (λ j. task_then (record { name = n j; mind = as_is; todo = []; inbox = []; places = places j; closed = false }) (kids j) no_tasks)
            ∙ (λ j. task_then (outlet_desk room (under at 0)) (task_then (waiting (o j) (first_mind f m e) [] false) (first_kids f m (o j) e) no_tasks) no_tasks);
      }

-- ---- a compressing node

pub pressed_started : (a : Allowed) (which room : ℕ) (t : Ty) (f : Form) (m : Bool) (name : List ℕ) (e : Eof) (number : ℕ) (ks : List Task) (k : Task) → OutletStarted a room f m name e ks → number ≡ which
    → ((r : Tasks) → task_row k r ≡ task_then (waiting name (mind_of (Pressing number)) [] false) (row ks) r) → Started a (compressed_form which room t f) m name e k
pressed_started a which room t f m name e number ks k h n shows =
    started a (compressed_form which room t f) m name e (Pressing number) ks k h.allowed h.counted (ap (λ z. mind_of (Pressing z)) n) h.tasks shows

-- ---- a zoned node below a mark is its child

marked_started : (a : Allowed) (o : ZonedOptions) (t : Ty) (f : Form) (stats : Ty → Form) (name : List ℕ) (e : Eof) (k : Task) → Started a f true name e k → Started a (zoned_form o t f stats) true name e k
marked_started a o t f stats name e k h = record { allowed = h.allowed; counted = h.counted; tasks = h.tasks }

module _ (a : Allowed) (o : ZonedOptions) (t : Ty) (f : Form) (stats : Ty → Form) (m : Bool) (is : m ≡ true) (e : Eof) (r : Result Task WriteError) where
  pub mark_started : (name : List ℕ) → IfOk r (Started a f m name e) → IfOk r (Started a (zoned_form o t f stats) m name e)
  mark_started name h =
      subst (λ z. IfOk r (Started a (zoned_form o t f stats) z name e)) (sym is)
      (IfOk-weaker r (Started a f true name e) (Started a (zoned_form o t f stats) true name e) (λ k x. marked_started a o t f stats name e k x) (subst (λ z. IfOk r (Started a f z name e)) is h))

  pub mark_refused : IfErr r (FormRefused a f m e) → IfErr r (FormRefused a (zoned_form o t f stats) m e)
  mark_refused h = subst (λ z. IfErr r (FormRefused a (zoned_form o t f stats) z e)) (sym is) (subst (λ z. IfErr r (FormRefused a f z e)) is h)

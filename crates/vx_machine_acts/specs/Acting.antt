-- Acts of a task against those in plain data, part by part.
use Rattle.std.specs.Prelude.{◌≡◌, ℕ, ◌+◌, Bool, true, false, List, [], ◌∷◌, ◌++◌, None}
use Rattle.vx_model.specs.ChunkData.{ChunkData}
use Rattle.vx_tasks.specs.Task.{Kind, Free, Call}
use Rattle.vx_order.specs.Outlet.{Outlet}
use Rattle.vx_sink.specs.declared.context.LayoutWriterContext.{LayoutWriterContext}
use Rattle.vx_sink.specs.ContextView.{counted as bytes_counted}
use Rattle.vx_machine_state.specs.Acts.{Did, do_take, do_act}
use Rattle.vx_write_answer.specs.declared.step.ActionKind.{ActionKind}
use Rattle.vx_write_answer.specs.declared.error.WriteError.{WriteError}
use Rattle.vx_write_answer.specs.declared.error.WriteError.TheVariants.{CompressFault}
use Rattle.vx_machine_node.specs.declared.item.Due.{Due}
use Rattle.vx_machine_node.specs.declared.item.Due.TheVariants.{Put, HandOn, Press, Append, Close, Join, Table, Leave, Ask, OpenRun, EndRun}
use Rattle.vx_machine_node.specs.declared.node.Local.{Local}
use Rattle.vx_machine_task.specs.declared.task.Head.{Head}
use Rattle.vx_machine_task.specs.declared.task.Task.{Task}
use Rattle.vx_machine_node.specs.Context.{setting_of}
use Rattle.vx_machine_node.specs.Outcome.{action_of, AllFit}
use Rattle.vx_machine_node.specs.View.{items_of, next_of, todo_of, mind_of}
use Rattle.vx_machine_task.specs.View.{desk_of, row}
use Rattle.vx_machine_nodes.specs.Acting.{ActDone, ActRefused, ActStopped, Behind, TakeStopped, acted}
use Rattle.vx_machine_state.specs.State.{Next}

-- ---- acts of a block

abbrev pub DueDone : LayoutWriterContext → (ℕ → ChunkData → ChunkData) → List ℕ → Local → List Task → Due → Outlet → Outlet → Local → List Next → List Next → List Task → ActionKind → Type 0
DueDone ctx image name l ks d before after m todo left kids a = (n : ℕ) × ActDone (acted (setting_of ctx image) name n (mind_of l) (row ks) (next_of d)) before n after (mind_of m) todo left (row kids) a

abbrev pub DueRefused : LayoutWriterContext → (ℕ → ChunkData → ChunkData) → List ℕ → Local → List Task → Due → Outlet → WriteError → Type 0
DueRefused ctx image name l ks d o e = (n : ℕ) → ActRefused (acted (setting_of ctx image) name n (mind_of l) (row ks) (next_of d)) o e

-- ---- the next act of a task

-- what is on its queue was taken, a chunk or the end
pub record TakeDone (w : Did) (head : Head) (kids : List Task) : Type 0 where
  pub unrefused : w.refusal ≡ None
  pub fits : w.misfit ≡ false
  pub counted : AllFit (w.numbers ++ w.indices)
  pub desk : desk_of head ≡ w.desk
  pub kids_are : row kids ≡ w.kids

abbrev pub taken_next : LayoutWriterContext → (ℕ → ChunkData → ChunkData) → Head → List Task → Did
taken_next ctx image h ks = do_take (setting_of ctx image) (desk_of h) (row ks) (items_of h.inbox.items)

abbrev pub NextTaken : LayoutWriterContext → Head → List Task → Head → List Task → Type 0
NextTaken ctx h ks head kids = (image : ℕ → ChunkData → ChunkData) → TakeDone (taken_next ctx image h ks) head kids

abbrev pub NextUntaken : LayoutWriterContext → Head → List Task → WriteError → Type 0
NextUntaken ctx h ks e = (image : ℕ → ChunkData → ChunkData) → TakeStopped (bytes_counted ctx) (taken_next ctx image h ks) e

-- the act was done
pub record Acted (w : Did) (before : Outlet) (number : ℕ) (after : Outlet) (head : Head) (kids : List Task) (a : ActionKind) : Type 0 where
  pub unrefused : w.refusal ≡ None
  pub fits : w.misfit ≡ false
  pub counted : AllFit (w.numbers ++ w.indices)
  pub desk : desk_of head ≡ w.desk
  pub kids_are : row kids ≡ w.kids
  pub kind : a ≡ action_of w.kind
  pub outlet : Behind before number w.wrote after

abbrev pub act_next : LayoutWriterContext → (ℕ → ChunkData → ChunkData) → ℕ → Head → List Task → Did
act_next ctx image n h ks = do_act (setting_of ctx image) n (desk_of h) (row ks) (todo_of h.todo.items)

abbrev pub NextDone : LayoutWriterContext → (ℕ → ChunkData → ChunkData) → Head → List Task → Outlet → Outlet → Head → List Task → ActionKind → Type 0
NextDone ctx image h ks before after head kids a = (n : ℕ) × Acted (act_next ctx image n h ks) before n after head kids a

abbrev pub NextRefused : LayoutWriterContext → (ℕ → ChunkData → ChunkData) → Head → List Task → Outlet → WriteError → Type 0
NextRefused ctx image h ks o e = (n : ℕ) → ActStopped (bytes_counted ctx) (act_next ctx image n h ks) o e

-- ---- where the compressor fails

-- whether it is a call of the compressor
abbrev pub is_call : Due → Bool
is_call (Press which i) = true
is_call (Ask p) = true
is_call (Put c i) = false
is_call (HandOn i r) = false
is_call (Append x) = false
is_call Close = false
is_call (Join f) = false
is_call (Table t) = false
is_call (Leave e) = false
is_call (OpenRun r i) = false
is_call (EndRun c i) = false

-- it fails only where it is called
abbrev pub DueFails : Due → WriteError → Type 0
DueFails d CompressFault = is_call d ≡ true
DueFails d e = Unit {0}

-- of what is left of a block
abbrev pub NextFails : List Due → WriteError → Type 0
NextFails [] CompressFault = ⊥
NextFails [] e = Unit {0}
NextFails (d ∷ ds) e = DueFails d e

-- of a step
abbrev pub CallFails : Kind → WriteError → Type 0
CallFails k CompressFault = k ≡ Free Call
CallFails k e = Unit {0}

-- The whole machine: the source's task, and the root with all below it.
use Rattle.std.specs.Prelude.{ℕ, ◌+◌, ◌&&◌, cond, Bool, true, false, List, [], ◌∷◌, ◌++◌, map, Option, None}
use Rattle.vx_path.specs.Path.{Eof, root_eof, eof_path, next}
use Rattle.vx_tasks.specs.Task.{Kind, Free, Put, Batch, End, Close}
use Rattle.vx_tasks.specs.Runs.{first_batch}
use Rattle.vx_named_tasks.specs.Names.{Names, onward, next_name, later_names, held_names, names_index}
use Rattle.vx_plan.specs.PlanData.{Setting, Item, Pair, What}
use Rattle.vx_machine_turns.specs.Forms.{Form}
use Rattle.vx_machine_turns.specs.Grouped.{group_kept}
use Rattle.vx_machine_turns.specs.Collected.{collect_kept}
use Rattle.vx_machine_turns.specs.Dict.{runs_kept}
use Rattle.vx_machine_promises.specs.Write.{Answer, unasked, came, over}
use Rattle.vx_machine_state.specs.State.{Next, put, hand_on, press, probe, open_run, end_run, append, shut_kids, join_kids, start_table, leave_kid, Mind, no_chunk, one_chunk, by_chunk, by_column, by_list, by_block, by_size, as_one, by_image, as_is, by_probe, asking, by_run, by_zone, ending, passing, made, Tasks, no_tasks, task_then}
use Rattle.vx_machine_state.specs.Start.{started_task}
use Rattle.vx_machine_state.specs.Acts.{give, shut_all}
use Rattle.vx_machine_state.specs.Moves.{has_room, Step, steps}
use Rattle.vx_machine_state.specs.Done.{is_done}

-- what the source does next
pub data Phase : Type 0 where
  -- it reads the batch of the first of these paths
  reading : Names → Phase
  -- it puts this batch on the root's queue; the later ones have these paths
  giving : Names → Item → Phase
  -- it closes the root's queue
  closing : Phase
  finished : Phase

pub record Machine : Type 0 where
  pub phase : Phase
  pub root : Tasks

-- at the start, where the form's start doesn't refuse: the batches get these paths, and behind them all stands the eof pointer
abbrev pub start_from : Names → Eof → Form → Bool → Machine
start_from names eof f m = record { phase = reading names; root = started_task f m (1 ∷ []) eof [] false }

-- of a whole write
abbrev pub start : Form → Bool → Machine
start f m = start_from (onward first_batch) root_eof f m

abbrev pub may_source : Phase → Tasks → Bool
may_source (reading ns) root = true
may_source (giving ns i) root = has_room 0 root
may_source closing root = true
may_source finished root = false

-- a ready task's act, and the machine after it
pub record WholeStep : Type 0 where
  pub name : List ℕ
  pub kind : Kind
  pub refusal : Option What
  pub misfit : Bool
  pub numbers : List ℕ
  pub indices : List ℕ
  pub wrote : List Pair
  pub joined : List ℕ
  pub raises : ℕ
  pub lowers : ℕ
  pub after : Machine

abbrev pub source_did : Kind → Phase → Tasks → WholeStep
source_did k phase root = record { name = 0 ∷ []; kind = k; refusal = None; misfit = false; numbers = []; indices = []; wrote = []; joined = []; raises = 0; lowers = 0; after = record { phase = phase; root = root } }

-- what the source reads is told: a batch of the type, or the end; where nothing is told, it is of another type, and so refused
abbrev pub read_batch : Answer → Names → Tasks → WholeStep
read_batch (came b) ns root = record (source_did (Free Batch) (giving (later_names ns) (next_name ns, b)) root) { indices = names_index ns }
read_batch over ns root = source_did (Free End) closing root
read_batch unasked ns root = record (source_did (Free Batch) (reading ns) root) { misfit = true }

abbrev pub source_step : Answer → Phase → Tasks → WholeStep
source_step a (reading ns) root = read_batch a ns root
source_step a (giving ns i) root = source_did (Put 0) (reading ns) (give 0 i root)
source_step a closing root = source_did (Free Close) finished (shut_all root)
source_step a finished root = source_did (Free Close) finished root

abbrev pub in_root : Phase → Step → WholeStep
in_root phase w = record { name = w.name; kind = w.kind; refusal = w.refusal; misfit = w.misfit; numbers = w.numbers; indices = w.indices; wrote = w.wrote; joined = w.joined; raises = w.raises; lowers = w.lowers; after = record { phase = phase; root = w.after } }

-- what the ready tasks would do, the source first
abbrev pub whole_steps : Setting → List (List ℕ) → ℕ → Answer → Machine → List WholeStep
whole_steps s all number a m = cond (may_source m.phase m.root) (source_step a m.phase m.root ∷ []) [] ++ map (in_root m.phase) (steps s all number m.root)

-- ---- the end

abbrev pub has_closed : Phase → Bool
has_closed finished = true
has_closed (reading ns) = false
has_closed (giving ns i) = false
has_closed closing = false

abbrev pub is_finished : Machine → Bool
is_finished m = has_closed m.phase && is_done m.root

-- ---- what is held

abbrev pub next_ids : List Next → List (List ℕ)
next_ids [] = []
next_ids (put j i ∷ todo) = i.0 ∷ next_ids todo
next_ids (hand_on n i ∷ todo) = i.0 ∷ next_ids todo
next_ids (press which i ∷ todo) = i.0 ∷ next_ids todo
next_ids (probe n e i ∷ todo) = eof_path e ∷ i.0 ∷ next_ids todo
next_ids (open_run n j e i ∷ todo) = i.0 ∷ eof_path e ∷ eof_path (next e) ∷ next_ids todo
next_ids (end_run j i ∷ todo) = i.0 ∷ next_ids todo
next_ids (append x ∷ todo) = x.id ∷ next_ids todo
next_ids (shut_kids ∷ todo) = next_ids todo
next_ids (join_kids f ∷ todo) = next_ids todo
next_ids (start_table f e p ∷ todo) = eof_path e ∷ next_ids todo
next_ids (leave_kid e ∷ todo) = eof_path e ∷ next_ids todo

abbrev pub mind_ids : Mind → List (List ℕ)
mind_ids (no_chunk o t) = []
mind_ids (one_chunk x) = x.id ∷ []
mind_ids (by_chunk m t f e rows) = eof_path e ∷ []
mind_ids (by_column t rows) = []
mind_ids (by_list t n first from rows) = []
mind_ids (by_block len minimum t x j rows) = group_kept j
mind_ids (by_size size x j rows) = group_kept j
mind_ids (as_one t x rows) = collect_kept x
mind_ids (by_zone g e z) = eof_path e ∷ []
mind_ids (by_image which) = []
mind_ids as_is = []
mind_ids (by_probe n e) = eof_path e ∷ []
mind_ids asking = []
mind_ids (by_run n r j rows) = runs_kept r j
mind_ids ending = []
mind_ids passing = []
mind_ids (made l) = []

-- the paths of all ids and pointers of these tasks
abbrev pub held_by : Tasks → List (List ℕ)
held_by no_tasks = []
held_by (task_then c ks r) = (map (λ i. i.0) c.inbox ++ ((next_ids c.todo ++ mind_ids c.mind) ++ held_by ks)) ++ held_by r

abbrev pub phase_ids : Phase → List (List ℕ)
phase_ids (reading ns) = held_names ns
phase_ids (giving ns i) = i.0 ∷ held_names ns
phase_ids closing = []
phase_ids finished = []

abbrev pub machine_ids : Machine → List (List ℕ)
machine_ids m = phase_ids m.phase ++ held_by m.root

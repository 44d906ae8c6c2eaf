-- Which tasks are ready, and what each of them would do.
use Rattle.std.specs.Prelude.{ℕ, zero, suc, ◌*◌, ◌==◌, ◌&&◌, not, nat_lt, cond, Bool, true, false, List, [], ◌∷◌, ◌++◌, length, map, Option}
use Rattle.vx_path.specs.Path.{is_least}
use Rattle.vx_tasks.specs.Task.{Kind}
use Rattle.vx_plan.specs.PlanData.{Setting, Item, Pair, What}
use Rattle.vx_machine_state.specs.State.{Fold, fold_chunks, fold_columns, fold_runs, fold_zones, Next, put, hand_on, press, probe, open_run, end_run, append, shut_kids, join_kids, start_table, leave_kid, Mind, no_chunk, one_chunk, by_chunk, by_column, by_list, by_block, by_size, as_one, by_image, as_is, by_probe, asking, by_run, by_zone, ending, passing, made, Desk, Tasks, no_tasks, task_then}
use Rattle.vx_machine_state.specs.Acts.{count, Did, do_act, column_count}

abbrev pub is_empty : {A : Type 0} → List A → Bool
is_empty [] = true
is_empty (x ∷ xs) = false

-- It has done all: its layout is there, or nothing is left to do of one that has its child's; of the children this is told.
abbrev pub is_made : Mind → List Next → Bool → Bool
is_made (made l) left below = true
is_made passing left below = is_empty left && below
is_made (no_chunk o t) left below = false
is_made (one_chunk x) left below = false
is_made (by_chunk m t f e rows) left below = false
is_made (by_column t rows) left below = false
is_made (by_list t n first from rows) left below = false
is_made (by_block len minimum t x j rows) left below = false
is_made (by_size size x j rows) left below = false
is_made (as_one t x rows) left below = false
is_made (by_zone g e z) left below = false
is_made (by_image which) left below = false
is_made as_is left below = false
is_made (by_probe n e) left below = false
is_made asking left below = false
is_made (by_run n r j rows) left below = false
is_made ending left below = false

-- it takes no more
abbrev pub is_over : Mind → Bool
is_over (made l) = true
is_over ending = true
is_over passing = true
is_over (no_chunk o t) = false
is_over (one_chunk x) = false
is_over (by_chunk m t f e rows) = false
is_over (by_column t rows) = false
is_over (by_list t n first from rows) = false
is_over (by_block len minimum t x j rows) = false
is_over (by_size size x j rows) = false
is_over (as_one t x rows) = false
is_over (by_zone g e z) = false
is_over (by_image which) = false
is_over as_is = false
is_over (by_probe n e) = false
is_over asking = false
is_over (by_run n r j rows) = false

abbrev pub all_made : Tasks → Bool
all_made no_tasks = true
all_made (task_then c ks r) = is_made c.mind c.todo (all_made ks) && all_made r

-- whether the queue of child j has a place
abbrev pub has_room : ℕ → Tasks → Bool
has_room j no_tasks = false
has_room zero (task_then c ks r) = nat_lt (length c.inbox) c.places
has_room (suc j) (task_then c ks r) = has_room j r

-- whether a layout can be made of so many
abbrev pub can_fold : Fold → ℕ → Bool
can_fold (fold_chunks t) n = true
can_fold (fold_columns t rows) n = n == column_count t
can_fold (fold_zones t rows zone specs) n = n == 2
can_fold (fold_runs t ns) n = n == 2 * length ns

-- where these paths are held in all
abbrev pub may_next : List (List ℕ) → Tasks → Next → Bool
may_next all ks (put j i) = has_room j ks
may_next all ks (hand_on n i) = has_room 0 ks
may_next all ks (press which i) = true
may_next all ks (probe n e i) = true
may_next all ks (open_run n j e i) = true
may_next all ks (end_run j i) = has_room (suc j) ks
may_next all ks (append x) = is_least x.id all
may_next all ks shut_kids = true
may_next all ks (join_kids f) = all_made ks && can_fold f (count ks)
may_next all ks (start_table f e p) = all_made ks
may_next all ks (leave_kid e) = all_made ks

-- an item, or the end, where it takes them
abbrev pub may_take : Mind → List Item → Bool → Bool
may_take mind (i ∷ xs) closed = not (is_over mind)
may_take mind [] closed = not (is_over mind) && closed

-- whether a task may do its next act
abbrev pub may_act : List (List ℕ) → Desk → Tasks → List Next → Bool
may_act all c ks (x ∷ todo) = may_next all ks x
may_act all c ks [] = may_take c.mind c.inbox c.closed

-- a ready task's act, and the tasks after it
pub record Step : Type 0 where
  pub name : List ℕ
  pub kind : Kind
  pub refusal : Option What
  pub misfit : Bool
  pub numbers : List ℕ
  pub indices : List ℕ
  pub wrote : List Pair
  pub joined : List ℕ
  pub raises : ℕ
  pub lowers : ℕ
  pub after : Tasks

abbrev pub own_step : Desk → Tasks → Did → Step
own_step c r w = record { name = c.name; kind = w.kind; refusal = w.refusal; misfit = w.misfit; numbers = w.numbers; indices = w.indices; wrote = w.wrote; joined = w.joined; raises = w.raises; lowers = w.lowers; after = task_then w.desk w.kids r }

abbrev pub in_kids : Desk → Tasks → Step → Step
in_kids c r w = record { name = w.name; kind = w.kind; refusal = w.refusal; misfit = w.misfit; numbers = w.numbers; indices = w.indices; wrote = w.wrote; joined = w.joined; raises = w.raises; lowers = w.lowers; after = task_then c w.after r }

abbrev pub in_rest : Desk → Tasks → Step → Step
in_rest c ks w = record { name = w.name; kind = w.kind; refusal = w.refusal; misfit = w.misfit; numbers = w.numbers; indices = w.indices; wrote = w.wrote; joined = w.joined; raises = w.raises; lowers = w.lowers; after = task_then c ks w.after }

-- What the ready tasks would do, in the order of their names: where these paths are held in all, and the next segment has this number.
abbrev pub steps : Setting → List (List ℕ) → ℕ → Tasks → List Step
steps s all number no_tasks = []
steps s all number (task_then c ks r) =
    (cond (may_act all c ks c.todo) (own_step c r (do_act s number c ks c.todo) ∷ []) [] ++ map (in_kids c r) (steps s all number ks))
    ++ map (in_rest c ks) (steps s all number r)

-- A struct of flat columns refuses its second batch, under every schedule.
use Rattle.std.proofs.Common.{◌≡◌, ℕ, zero, suc, ◌+◌, ◌<◌, true, false, List, [], ◌∷◌, ◌++◌, length, refl, sym, ap, ◌∙◌, arith}
use Rattle.vx_path.specs.Path.{Eof, inside, next, under, root_eof}
use Rattle.vx_path.specs.Sort.{sort}
use Rattle.vx_tasks.specs.Task.{Forest}
use Rattle.vx_tasks.specs.State.{Counts, left, pending}
use Rattle.vx_tasks.specs.State.Counts.{Zeros}
use Rattle.vx_tasks.specs.Run.{Step, run, end_of, moves_of, written, work, Leads}
use Rattle.vx_tasks.specs.Rules.{KeepsRules, KeepsOrder, NoneRefuses, appends}
use Rattle.vx_tasks.specs.Nodes.{batch_paths, columns_task, column_stream}
use Rattle.vx_tasks.specs.Good.{Good, ColumnKids}
use Rattle.vx_tasks.specs.Runs.{struct_of_flat, flat_columns, first_batch}
use Rattle.vx_tasks.proofs.Scripts.{nil_left, no_true}
use Rattle.vx_tasks.proofs.Runs.{run_leads, leads_left, at_the_end, as_many}
use Rattle.vx_tasks.proofs.Sorted.{numbered_run}
use Rattle.vx_tasks.proofs.Leaves.{flat_good}
use Rattle.vx_tasks.proofs.Columns.{columns_good}
use Rattle.vx_tasks.proofs.Machine.{machine_rules, machine_order}

flat_columns_good : (name : List ℕ) (c k : ℕ) (ps : List (List ℕ)) (e : Eof) → ColumnKids name c k ps true e (flat_columns name c k ps e)
flat_columns_good name c zero ps e = tt
flat_columns_good name c (suc k) ps e = (flat_good (under name c) (inside e) false (column_stream c ps) true, flat_columns_good name (suc c) k ps (next e))

root_good : Good (1 ∷ []) (batch_paths first_batch 2) true root_eof (columns_task (1 ∷ []) root_eof false 2 (batch_paths first_batch 2) true)
    (flat_columns (1 ∷ []) 0 2 (batch_paths first_batch 2) root_eof)
root_good = columns_good (1 ∷ []) root_eof false 2 (batch_paths first_batch 2) true (flat_columns (1 ∷ []) 0 2 (batch_paths first_batch 2) root_eof)
    (flat_columns_good (1 ∷ []) 0 2 (batch_paths first_batch 2) root_eof)

rules : KeepsRules struct_of_flat
rules = machine_rules first_batch 2 true root_eof (columns_task (1 ∷ []) root_eof false 2 (batch_paths first_batch 2) true)
    (flat_columns (1 ∷ []) 0 2 (batch_paths first_batch 2) root_eof) root_good

order : KeepsOrder struct_of_flat
order = machine_order first_batch 2 true root_eof (columns_task (1 ∷ []) root_eof false 2 (batch_paths first_batch 2) true)
    (flat_columns (1 ∷ []) 0 2 (batch_paths first_batch 2) root_eof) root_good

-- a tree with a task that refuses, and without appends
refused : (f : Forest) (picks : List ℕ) → KeepsRules f → KeepsOrder f → (NoneRefuses f → ⊥) → appends f ≡ []
    → (length (run f Zeros picks (work f)) < work f) × (written (moves_of (run f Zeros picks (work f))) ≡ [])
refused f picks rules order bad none = (by_left (left f e) refl, nil_left (written (moves_of steps)) (sort (pending f e)) (sym first ∙ ap sort none))
  where
    steps : List Step
    steps = run f Zeros picks (work f)

    e : Counts
    e = end_of Zeros steps

    leads : Leads f Zeros (moves_of steps) e
    leads = run_leads f Zeros picks (work f)

    first : sort (appends f) ≡ written (moves_of steps) ++ sort (pending f e)
    first = numbered_run f e (moves_of steps) rules order leads

    sum : left f e + length steps ≡ work f
    sum = ap (λ n. left f e + n) (sym (as_many steps)) ∙ leads_left f Zeros e (moves_of steps) leads

    by_left : (n : ℕ) → left f e ≡ n → length steps < work f
    by_left zero h = absurd (bad (at_the_end f e (moves_of steps) rules leads h).0)
    by_left (suc n) h = omega (arith, sum, h)

pub many_chunks : (picks : List ℕ) → (length (run struct_of_flat Zeros picks (work struct_of_flat)) < work struct_of_flat)
    × (written (moves_of (run struct_of_flat Zeros picks (work struct_of_flat))) ≡ [])
many_chunks picks = refused struct_of_flat picks rules order (λ n. no_true n.1.1.0 refl) refl

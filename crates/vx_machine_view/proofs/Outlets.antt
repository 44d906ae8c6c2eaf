-- A compressing node's outlet at its start, with the node's child below it.
use Rattle.std.proofs.Common.{◌≡◌, ◌+◌, ◌++◌, ◌∙◌, ℕ, false, List, refl, ap, inl, append-nil, []}
use Rattle.vx_path.specs.Path.{under}
use Rattle.vx_plan.specs.PlanData.{Setting}
use Rattle.vx_machine_turns.specs.Forms.{form_type}
use Rattle.vx_machine_turns.specs.Locals.{CompressedNode, outlet_local}
use Rattle.vx_machine_turns.specs.Compressed.{outlet_seed, outlet_firsts}
use Rattle.vx_machine_turns.specs.Starts.{local_of, seed_of}
use Rattle.vx_machine_turns.specs.Turns.{firsts, start_indices}
use Rattle.vx_machine_turns.specs.Fuels.{Fuel, spent, fuel, Enough, Through}
use Rattle.vx_machine_steps.specs.Tree.{quiet, sprout, opened}
use Rattle.vx_machine_state.specs.State.{as_is, Tasks, no_tasks, task_then}
use Rattle.vx_machine_state.specs.Start.{first_mind, first_kids, waiting, first_indices}
use Rattle.vx_machine_view.specs.Shows.{Stage, lets_out, Shows, rows_of, local_rows}

abbrev pub outlet_kids : CompressedNode → Tasks
outlet_kids n = task_then (waiting (under n.name 1) (first_mind n.child n.mark n.eof) [] false) (first_kids n.child n.mark (under n.name 1) n.eof) no_tasks

-- it shows the abstract one, where its child does
pub outlet_begun : (s : Setting) (number : List ℕ → ℕ) (n : CompressedNode) (d : Fuel) → Through (λ x. Enough x n.child) (form_type n.child) d
    → ((x : Fuel) → Enough x n.child
    → Stage s x (first_mind n.child n.mark n.eof) [] (first_kids n.child n.mark (under n.name 1) n.eof) (seed_of n.child n.mark (under n.name 1) n.eof) [] [] (local_of n.child n.mark (under n.name 1) n.eof) false
    (sprout x quiet 0 (firsts (seed_of n.child n.mark (under n.name 1) n.eof)))
    × Shows s number x (seed_of n.child n.mark (under n.name 1) n.eof) 0 (first_kids n.child n.mark (under n.name 1) n.eof) (sprout x quiet 0 (firsts (seed_of n.child n.mark (under n.name 1) n.eof))))
    → Stage s d as_is [] (outlet_kids n) (outlet_seed n) [] [] (outlet_local n) false (sprout d quiet 0 (outlet_firsts n)) × Shows s number d (outlet_seed n) 0 (outlet_kids n) (sprout d quiet 0 (outlet_firsts n))
outlet_begun s number n spent th w = absurd th
outlet_begun s number n (fuel g) th w = (
  lets_out n (form_type n.child) [] (record { mind_is = refl; local_is = refl; left_is = refl; rest = refl; on = refl; unshaped = refl; type_is = refl; kids = refl; typed = tt }),
  (record { name = refl; inbox = refl; closed = refl; places = refl; typed = tt }, inl (w (g (form_type n.child)) th), tt),
)

-- it has no rows, where its child has none
pub outlet_rows : (n : CompressedNode) (d : Fuel)
    → ((x : Fuel) → local_rows (local_of n.child n.mark (under n.name 1) n.eof) (0 + rows_of (sprout x quiet 0 (firsts (seed_of n.child n.mark (under n.name 1) n.eof)))) ≡ 0)
    → rows_of (sprout d quiet 0 (outlet_firsts n)) ≡ 0
outlet_rows n spent w = refl
outlet_rows n (fuel g) w = let e : local_rows (local_of n.child n.mark (under n.name 1) n.eof) (0 + rows_of (sprout (g (form_type n.child)) quiet 0 (firsts (seed_of n.child n.mark (under n.name 1) n.eof)))) ≡ 0 = w (g (form_type n.child)) in
    ap (λ z. (z + 0) + 0) e

-- nor do pointers move but for its child
pub outlet_opened : (n : CompressedNode) (d : Fuel) → Through (λ x. Enough x n.child) (form_type n.child) d
    → ((x : Fuel) → Enough x n.child
    → start_indices (local_of n.child n.mark (under n.name 1) n.eof) ++ opened x (firsts (seed_of n.child n.mark (under n.name 1) n.eof)) ≡ first_indices n.child n.mark n.eof)
    → opened d (outlet_firsts n) ≡ first_indices n.child n.mark n.eof
outlet_opened n spent th w = absurd th
outlet_opened n (fuel g) th w =
    ap (λ z. start_indices (local_of n.child n.mark (under n.name 1) n.eof) ++ z) (append-nil (opened (g (form_type n.child)) (firsts (seed_of n.child n.mark (under n.name 1) n.eof)))) ∙ w (g (form_type n.child)) th

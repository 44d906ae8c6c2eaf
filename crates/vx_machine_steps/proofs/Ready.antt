-- Nothing gets stuck, and each move lowers the work left.
use Rattle.std.proofs.Common.{◌≡◌, ◌+◌, ◌<◌, ◌⊎◌, ◌∙◌, ℕ, map, length, sym, ap, subst, inl, inr, arith}
use Rattle.vx_path.specs.Lists.{In}
use Rattle.vx_path.proofs.Lists.{in_map}
use Rattle.vx_tasks.specs.State.{Zeros, left}
use Rattle.vx_tasks.specs.Run.{outside, all_held, ready, work, Leads}
use Rattle.vx_tasks.proofs.Scripts.{no_true}
use Rattle.vx_tasks.proofs.Runs.{leads_left, always_ready}
use Rattle.vx_tasks.proofs.Steps.{move_left}
use Rattle.vx_tasks.proofs.Picks.{length_map}
use Rattle.vx_machine_steps.specs.Laws.{SomeMove, MovesLower, RunsCount}
use Rattle.vx_machine_steps.specs.Moves.{machine_moves, view}
use Rattle.vx_machine_steps.specs.Stands.{Stands}
use Rattle.vx_machine_steps.specs.Tree.{forest, counts}
use Rattle.vx_machine_steps.proofs.Laws.{moves_agree, runs_lead, over_is_done}
use Rattle.vx_machine_steps.proofs.Noted.{ready_is}

pub moves_lower : MovesLower
moves_lower s d t m st i = move_left (all_held (forest s d t) (counts t)) outside 1 0 (forest s d t) (counts t) (view m)
    (subst (λ z. In (view m) z) (sym (moves_agree s d t st)) (in_map view m (machine_moves s d t) i))

pub runs_count : RunsCount
runs_count s d t e ms st zero_is w =
    let l : left (forest s d t) (counts e) + length (map view ms) ≡ left (forest s d t) (counts t) =
    leads_left (forest s d t) (counts t) (counts e) (map view ms) (runs_lead s d t e ms st w).0 in
    let v : length (map view ms) ≡ length ms = length_map view ms in
    let c : left (forest s d t) (counts t) ≡ work (forest s d t) = ap (left (forest s d t)) zero_is in
    omega (arith, l, v, c)

pub some_move : SomeMove
some_move s d t e ms st zero_is w over = by (cases (left (forest s d t) (counts e)))
  where
    x : Leads (forest s d t) (counts t) (map view ms) (counts e) × (forest s d e ≡ forest s d t) × Stands s d e
    x = runs_lead s d t e ms st w

    l : Leads (forest s d t) Zeros (map view ms) (counts e)
    l = subst (λ z. Leads (forest s d t) z (map view ms) (counts e)) zero_is x.0

    cases : (n : ℕ) → (n ≡ 0) ⊎ (0 < n)
    cases n = grind arith

    by : (left (forest s d t) (counts e) ≡ 0) ⊎ (0 < left (forest s d t) (counts e)) → 0 < length (machine_moves s d e)
    by (inl z) = absurd (no_true over ((over_is_done s d e x.2).1 (ap (λ f. left f (counts e)) x.1 ∙ z)))
    by (inr h) = subst (λ z. 0 < z) (ready_is s d e x.2)
        (subst (λ f. 0 < ready f (counts e)) (sym x.1) (always_ready (forest s d t) (counts e) (map view ms) st.rules l h))

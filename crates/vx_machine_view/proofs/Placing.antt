-- Where the steps of the source and of the root stand among all.
use Rattle.std.proofs.Common.{◌≡◌, ◌+◌, ◌∷◌, ◌++◌, ◌∙◌, cond, List, map, length, ap, arith, length-append, []}
use Rattle.vx_tasks.specs.Run.{nth}
use Rattle.vx_machine_state.specs.Moves.{steps}
use Rattle.vx_machine_view.specs.Machine.{WholeStep, may_source, source_step, in_root}
use Rattle.vx_machine_state.specs.Places.{one_if, ready_in}
use Rattle.vx_machine_view.specs.Places.{WholeIsReady, SourcePlace, RootPlace}
use Rattle.vx_machine_state.proofs.Placing.{nth_right, nth_map, map_length, cond_length, steps_are_ready}

pub whole_is_ready : WholeIsReady
whole_is_ready s all number a m =
    let own : List WholeStep = cond (may_source m.phase m.root) (source_step a m.phase m.root ∷ []) [] in
    let below : List WholeStep = map (in_root m.phase) (steps s all number m.root) in
    let o : length own ≡ one_if (may_source m.phase m.root) = cond_length (may_source m.phase m.root) (source_step a m.phase m.root) in
    let n : length below ≡ ready_in all m.root = map_length (in_root m.phase) (steps s all number m.root) ∙ steps_are_ready s all number m.root in
    let b : length (own ++ below) ≡ length own + length below = length-append own below in
    omega (arith, o, n, b)

pub source_place : SourcePlace
source_place s all number a m t = ap (λ z. nth (cond z (source_step a m.phase m.root ∷ []) [] ++ map (in_root m.phase) (steps s all number m.root)) 0) t

pub root_place : RootPlace
root_place s all number a m k =
    let own : List WholeStep = cond (may_source m.phase m.root) (source_step a m.phase m.root ∷ []) [] in
    let o : length own ≡ one_if (may_source m.phase m.root) = cond_length (may_source m.phase m.root) (source_step a m.phase m.root) in
    nth_right own (map (in_root m.phase) (steps s all number m.root)) (one_if (may_source m.phase m.root) + k) k (omega (arith, o)) ∙ nth_map (in_root m.phase) (steps s all number m.root) k

-- Whole traces of zones.
use Rattle.std.proofs.Common.{◌≡◌, true, false, [], ◌∷◌, None, Some, refl}
use Rattle.std.specs.Prelude.{codes, replicate}
use Rattle.vx_tasks.specs.Task.{Forest}
use Rattle.vx_tasks.specs.Nodes.{numbers}
use Rattle.vx_strategy_spec.specs.StrategyData.{structured, no_ways}
use Rattle.vx_strategy_spec.specs.Walk.{walk}
use Rattle.vx_plan.specs.PlanData.{not_struct, duplicate_field, forbidden_aggregate}
use Rattle.vx_machine_turns.specs.Forms.{form_nodes}
use Rattle.vx_machine_turns.specs.Starts.{start_fault}
use Rattle.vx_machine_worked.proofs.Words.{free, setting, tree_of, tasks, zones, lines, line, batch, end, close, take, put, append, join, stops, whole, refusing, flats, chunks, i64, i32, i32s, falling, i64_fields}

abbrev three_zones_tree : Forest
three_zones_tree = tasks free (zones 3 None 1 chunks flats) i32 (i32s (1 ∷ 2 ∷ 3 ∷ []) ∷ i32s (4 ∷ 5 ∷ 6 ∷ []) ∷ i32s (7 ∷ 8 ∷ 9 ∷ []) ∷ [])

three_zones : lines three_zones_tree [] ≡
    line 1 0 (0 ∷ []) batch ∷ line 1 0 (0 ∷ []) put ∷ line 2 0 (0 ∷ []) batch ∷ line 1 0 (1 ∷ []) take ∷ line 2 0 (0 ∷ []) put ∷ line 2 0 (0 ∷ []) batch
    ∷ line 1 0 (1 ∷ []) put ∷ line 2 0 (1 ∷ []) take ∷ line 2 0 (0 ∷ []) put ∷ line 2 0 (0 ∷ []) end ∷ line 2 0 (0 ∷ []) close ∷ line 1 0 (1 ∷ 0 ∷ []) take
    ∷ line 2 0 (1 ∷ []) put ∷ line 3 0 (1 ∷ []) take ∷ line 2 0 (1 ∷ 0 ∷ []) take ∷ line 3 0 (1 ∷ []) put ∷ line 4 0 (1 ∷ []) take
    ∷ line 4 0 (1 ∷ []) close ∷ line 3 0 (1 ∷ 0 ∷ []) take ∷ line 4 0 (1 ∷ 0 ∷ []) take ∷ line 3 0 (1 ∷ 0 ∷ 0 ∷ []) take ∷ line 3 0 (1 ∷ 0 ∷ 0 ∷ []) take
    ∷ line 3 0 (1 ∷ 0 ∷ 0 ∷ []) append ∷ line 2 0 (1 ∷ 0 ∷ 1 ∷ []) take ∷ line 2 0 (1 ∷ 0 ∷ 1 ∷ []) take ∷ line 2 0 (1 ∷ 0 ∷ 1 ∷ []) append
    ∷ line 1 0 (1 ∷ 0 ∷ 2 ∷ []) take ∷ line 1 0 (1 ∷ 0 ∷ 2 ∷ []) take ∷ line 1 0 (1 ∷ 0 ∷ 2 ∷ []) append ∷ line 1 0 (1 ∷ 0 ∷ []) join
    ∷ line 1 0 (1 ∷ []) join ∷ line 1 0 (1 ∷ 1 ∷ []) take ∷ line 1 0 (1 ∷ 1 ∷ []) take ∷ line 1 0 (1 ∷ 1 ∷ []) append ∷ line 1 0 (1 ∷ []) join ∷ []
three_zones = refl

three_zones_ends : stops three_zones_tree [] ≡ whole
three_zones_ends = refl

three_zones_always_first : lines three_zones_tree (replicate 64 0) ≡
    line 1 0 (0 ∷ []) batch ∷ line 1 0 (0 ∷ []) put ∷ line 2 0 (0 ∷ []) batch ∷ line 1 0 (1 ∷ []) take ∷ line 2 0 (0 ∷ []) put ∷ line 2 0 (0 ∷ []) batch
    ∷ line 1 0 (1 ∷ []) put ∷ line 2 0 (1 ∷ []) take ∷ line 2 0 (0 ∷ []) put ∷ line 2 0 (0 ∷ []) end ∷ line 2 0 (0 ∷ []) close ∷ line 1 0 (1 ∷ 0 ∷ []) take
    ∷ line 2 0 (1 ∷ []) put ∷ line 3 0 (1 ∷ []) take ∷ line 2 0 (1 ∷ 0 ∷ []) take ∷ line 3 0 (1 ∷ []) put ∷ line 4 0 (1 ∷ []) take
    ∷ line 4 0 (1 ∷ []) close ∷ line 3 0 (1 ∷ 0 ∷ []) take ∷ line 4 0 (1 ∷ 0 ∷ []) take ∷ line 3 0 (1 ∷ 0 ∷ 0 ∷ []) take ∷ line 3 0 (1 ∷ 0 ∷ 0 ∷ []) take
    ∷ line 3 0 (1 ∷ 0 ∷ 0 ∷ []) append ∷ line 2 0 (1 ∷ 0 ∷ 1 ∷ []) take ∷ line 2 0 (1 ∷ 0 ∷ 1 ∷ []) take ∷ line 2 0 (1 ∷ 0 ∷ 1 ∷ []) append
    ∷ line 1 0 (1 ∷ 0 ∷ 2 ∷ []) take ∷ line 1 0 (1 ∷ 0 ∷ 2 ∷ []) take ∷ line 1 0 (1 ∷ 0 ∷ 2 ∷ []) append ∷ line 1 0 (1 ∷ 0 ∷ []) join
    ∷ line 1 0 (1 ∷ []) join ∷ line 1 0 (1 ∷ 1 ∷ []) take ∷ line 1 0 (1 ∷ 1 ∷ []) take ∷ line 1 0 (1 ∷ 1 ∷ []) append ∷ line 1 0 (1 ∷ []) join ∷ []
three_zones_always_first = refl

three_zones_always_second : lines three_zones_tree (replicate 64 1) ≡
    line 1 0 (0 ∷ []) batch ∷ line 1 0 (0 ∷ []) put ∷ line 2 1 (1 ∷ []) take ∷ line 2 1 (1 ∷ []) put ∷ line 2 1 (1 ∷ 0 ∷ []) take
    ∷ line 2 1 (1 ∷ 0 ∷ 0 ∷ []) take ∷ line 2 1 (1 ∷ 0 ∷ 0 ∷ []) take ∷ line 2 1 (1 ∷ 0 ∷ 0 ∷ []) append ∷ line 1 0 (0 ∷ []) batch ∷ line 1 0 (0 ∷ []) put
    ∷ line 2 1 (1 ∷ []) take ∷ line 2 1 (1 ∷ []) put ∷ line 2 1 (1 ∷ 0 ∷ []) take ∷ line 2 1 (1 ∷ 0 ∷ 1 ∷ []) take ∷ line 2 1 (1 ∷ 0 ∷ 1 ∷ []) take
    ∷ line 2 1 (1 ∷ 0 ∷ 1 ∷ []) append ∷ line 1 0 (0 ∷ []) batch ∷ line 1 0 (0 ∷ []) put ∷ line 2 1 (1 ∷ []) take ∷ line 2 1 (1 ∷ []) put
    ∷ line 2 1 (1 ∷ 0 ∷ []) take ∷ line 2 1 (1 ∷ 0 ∷ 2 ∷ []) take ∷ line 2 1 (1 ∷ 0 ∷ 2 ∷ []) take ∷ line 2 1 (1 ∷ 0 ∷ 2 ∷ []) append
    ∷ line 1 0 (0 ∷ []) end ∷ line 1 0 (0 ∷ []) close ∷ line 1 0 (1 ∷ []) take ∷ line 1 0 (1 ∷ []) close ∷ line 1 0 (1 ∷ 0 ∷ []) take
    ∷ line 1 0 (1 ∷ 0 ∷ []) join ∷ line 1 0 (1 ∷ []) join ∷ line 1 0 (1 ∷ 1 ∷ []) take ∷ line 1 0 (1 ∷ 1 ∷ []) take ∷ line 1 0 (1 ∷ 1 ∷ []) append
    ∷ line 1 0 (1 ∷ []) join ∷ []
three_zones_always_second = refl

three_zones_always_greatest : lines three_zones_tree (replicate 64 18446744073709551615) ≡
    line 1 0 (0 ∷ []) batch ∷ line 1 0 (0 ∷ []) put ∷ line 2 1 (1 ∷ []) take ∷ line 2 1 (1 ∷ []) put ∷ line 2 1 (1 ∷ 0 ∷ []) take
    ∷ line 2 1 (1 ∷ 0 ∷ 0 ∷ []) take ∷ line 2 1 (1 ∷ 0 ∷ 0 ∷ []) take ∷ line 2 1 (1 ∷ 0 ∷ 0 ∷ []) append ∷ line 1 0 (0 ∷ []) batch ∷ line 1 0 (0 ∷ []) put
    ∷ line 2 1 (1 ∷ []) take ∷ line 2 1 (1 ∷ []) put ∷ line 2 1 (1 ∷ 0 ∷ []) take ∷ line 2 1 (1 ∷ 0 ∷ 1 ∷ []) take ∷ line 2 1 (1 ∷ 0 ∷ 1 ∷ []) take
    ∷ line 2 1 (1 ∷ 0 ∷ 1 ∷ []) append ∷ line 1 0 (0 ∷ []) batch ∷ line 1 0 (0 ∷ []) put ∷ line 2 1 (1 ∷ []) take ∷ line 2 1 (1 ∷ []) put
    ∷ line 2 1 (1 ∷ 0 ∷ []) take ∷ line 2 1 (1 ∷ 0 ∷ 2 ∷ []) take ∷ line 2 1 (1 ∷ 0 ∷ 2 ∷ []) take ∷ line 2 1 (1 ∷ 0 ∷ 2 ∷ []) append
    ∷ line 1 0 (0 ∷ []) end ∷ line 1 0 (0 ∷ []) close ∷ line 1 0 (1 ∷ []) take ∷ line 1 0 (1 ∷ []) close ∷ line 1 0 (1 ∷ 0 ∷ []) take
    ∷ line 1 0 (1 ∷ 0 ∷ []) join ∷ line 1 0 (1 ∷ []) join ∷ line 1 0 (1 ∷ 1 ∷ []) take ∷ line 1 0 (1 ∷ 1 ∷ []) take ∷ line 1 0 (1 ∷ 1 ∷ []) append
    ∷ line 1 0 (1 ∷ []) join ∷ []
three_zones_always_greatest = refl

three_zones_ascending : lines three_zones_tree (numbers 0 64) ≡
    line 1 0 (0 ∷ []) batch ∷ line 1 0 (0 ∷ []) put ∷ line 2 0 (0 ∷ []) batch ∷ line 1 0 (1 ∷ []) take ∷ line 2 0 (0 ∷ []) put ∷ line 2 1 (1 ∷ []) put
    ∷ line 3 0 (0 ∷ []) batch ∷ line 2 1 (1 ∷ 0 ∷ []) take ∷ line 2 0 (1 ∷ []) take ∷ line 3 0 (0 ∷ []) put ∷ line 3 1 (1 ∷ []) put
    ∷ line 4 3 (1 ∷ 0 ∷ 0 ∷ []) take ∷ line 4 0 (0 ∷ []) end ∷ line 4 1 (1 ∷ []) take ∷ line 3 2 (1 ∷ 0 ∷ 0 ∷ []) take ∷ line 3 0 (0 ∷ []) close
    ∷ line 2 0 (1 ∷ 0 ∷ []) take ∷ line 3 2 (1 ∷ 0 ∷ 1 ∷ []) take ∷ line 3 0 (1 ∷ []) put ∷ line 4 3 (1 ∷ 0 ∷ 1 ∷ []) take
    ∷ line 3 2 (1 ∷ 0 ∷ 0 ∷ []) append ∷ line 3 0 (1 ∷ []) take ∷ line 3 1 (1 ∷ 0 ∷ []) take ∷ line 3 2 (1 ∷ 0 ∷ 2 ∷ []) take ∷ line 3 0 (1 ∷ []) close
    ∷ line 3 1 (1 ∷ 0 ∷ 1 ∷ []) append ∷ line 2 0 (1 ∷ 0 ∷ []) take ∷ line 1 0 (1 ∷ 0 ∷ 2 ∷ []) take ∷ line 1 0 (1 ∷ 0 ∷ 2 ∷ []) append
    ∷ line 1 0 (1 ∷ 0 ∷ []) join ∷ line 1 0 (1 ∷ []) join ∷ line 1 0 (1 ∷ 1 ∷ []) take ∷ line 1 0 (1 ∷ 1 ∷ []) take ∷ line 1 0 (1 ∷ 1 ∷ []) append
    ∷ line 1 0 (1 ∷ []) join ∷ []
three_zones_ascending = refl

three_zones_descending : lines three_zones_tree (falling 64) ≡
    line 1 0 (0 ∷ []) batch ∷ line 1 0 (0 ∷ []) put ∷ line 2 1 (1 ∷ []) take ∷ line 2 0 (0 ∷ []) batch ∷ line 2 1 (1 ∷ []) put ∷ line 2 0 (0 ∷ []) put
    ∷ line 3 0 (0 ∷ []) batch ∷ line 2 0 (1 ∷ []) take ∷ line 2 1 (1 ∷ 0 ∷ []) take ∷ line 3 0 (0 ∷ []) put ∷ line 3 2 (1 ∷ 0 ∷ 0 ∷ []) take
    ∷ line 3 1 (1 ∷ []) put ∷ line 4 3 (1 ∷ 0 ∷ 0 ∷ []) take ∷ line 4 2 (1 ∷ 0 ∷ []) take ∷ line 4 1 (1 ∷ []) take ∷ line 4 0 (0 ∷ []) end
    ∷ line 4 3 (1 ∷ 0 ∷ 1 ∷ []) take ∷ line 4 2 (1 ∷ 0 ∷ 0 ∷ []) append ∷ line 3 0 (0 ∷ []) close ∷ line 2 0 (1 ∷ []) put ∷ line 3 1 (1 ∷ 0 ∷ []) take
    ∷ line 3 0 (1 ∷ []) take ∷ line 3 2 (1 ∷ 0 ∷ 2 ∷ []) take ∷ line 3 1 (1 ∷ 0 ∷ 1 ∷ []) take ∷ line 3 0 (1 ∷ []) close ∷ line 3 2 (1 ∷ 0 ∷ 2 ∷ []) take
    ∷ line 2 1 (1 ∷ 0 ∷ 1 ∷ []) append ∷ line 2 0 (1 ∷ 0 ∷ []) take ∷ line 1 0 (1 ∷ 0 ∷ 2 ∷ []) append ∷ line 1 0 (1 ∷ 0 ∷ []) join
    ∷ line 1 0 (1 ∷ []) join ∷ line 1 0 (1 ∷ 1 ∷ []) take ∷ line 1 0 (1 ∷ 1 ∷ []) take ∷ line 1 0 (1 ∷ 1 ∷ []) append ∷ line 1 0 (1 ∷ []) join ∷ []
three_zones_descending = refl

abbrev marked_zones_tree : Forest
marked_zones_tree = tree_of free (walk form_nodes (zones 3 None 1 chunks flats) i32) true (i32s (1 ∷ 2 ∷ 3 ∷ []) ∷ i32s (4 ∷ 5 ∷ 6 ∷ []) ∷ i32s (7 ∷ 8 ∷ 9 ∷ []) ∷ []) true

marked_zones : lines marked_zones_tree [] ≡
    line 1 0 (0 ∷ []) batch ∷ line 1 0 (0 ∷ []) put ∷ line 2 0 (0 ∷ []) batch ∷ line 1 0 (1 ∷ []) take ∷ line 2 0 (0 ∷ []) put ∷ line 3 0 (0 ∷ []) batch
    ∷ line 2 0 (1 ∷ []) take ∷ line 3 0 (0 ∷ []) put ∷ line 4 0 (0 ∷ []) end ∷ line 4 0 (0 ∷ []) close ∷ line 3 0 (1 ∷ []) take ∷ line 4 0 (1 ∷ []) take
    ∷ line 3 0 (1 ∷ 0 ∷ []) take ∷ line 3 0 (1 ∷ 0 ∷ []) take ∷ line 3 0 (1 ∷ 0 ∷ []) append ∷ line 2 0 (1 ∷ 1 ∷ []) take ∷ line 2 0 (1 ∷ 1 ∷ []) take
    ∷ line 2 0 (1 ∷ 1 ∷ []) append ∷ line 1 0 (1 ∷ 2 ∷ []) take ∷ line 1 0 (1 ∷ 2 ∷ []) take ∷ line 1 0 (1 ∷ 2 ∷ []) append ∷ line 1 0 (1 ∷ []) join ∷ []
marked_zones = refl

marked_zones_ends : stops marked_zones_tree [] ≡ whole
marked_zones_ends = refl

short_zone : lines (tasks free (zones 3 None 1 chunks flats) i32 (i32s (1 ∷ 2 ∷ 3 ∷ []) ∷ i32s (4 ∷ 5 ∷ []) ∷ i32s (6 ∷ []) ∷ [])) [] ≡
    line 1 0 (0 ∷ []) batch ∷ line 1 0 (0 ∷ []) put ∷ line 2 0 (0 ∷ []) batch ∷ line 1 0 (1 ∷ []) take ∷ line 2 0 (0 ∷ []) put ∷ line 2 0 (0 ∷ []) batch
    ∷ line 1 0 (1 ∷ []) put ∷ line 2 0 (1 ∷ []) take ∷ line 2 0 (0 ∷ []) put ∷ line 2 0 (0 ∷ []) end ∷ line 2 0 (0 ∷ []) close ∷ line 1 0 (1 ∷ 0 ∷ []) take
    ∷ line 2 0 (1 ∷ []) put ∷ []
short_zone = refl

short_zone_ends : stops (tasks free (zones 3 None 1 chunks flats) i32 (i32s (1 ∷ 2 ∷ 3 ∷ []) ∷ i32s (4 ∷ 5 ∷ []) ∷ i32s (6 ∷ []) ∷ [])) [] ≡ refusing
short_zone_ends = refl

-- ---- what refuses at the start

forbidden_zones : start_fault (setting None (Some (codes "vortex.min" ∷ []))) (walk form_nodes (zones 3 None 1 chunks flats) i32) false ≡ Some (forbidden_aggregate (codes "vortex.max"))
forbidden_zones = refl

repeated_name : start_fault free (walk form_nodes (structured flats chunks no_ways) (i64_fields (codes "a" ∷ codes "a" ∷ []) false)) false ≡ Some (duplicate_field (codes "a"))
repeated_name = refl

no_struct : start_fault free (walk form_nodes (structured flats chunks no_ways) i64) false ≡ Some not_struct
no_struct = refl

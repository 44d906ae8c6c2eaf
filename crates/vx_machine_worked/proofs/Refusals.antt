-- Where actions refuse, and what.
use Rattle.std.proofs.Common.{◌≡◌, false, [], ◌∷◌, None, Some, refl}
use Rattle.std.specs.Prelude.{codes}
use Rattle.vx_model.specs.declared.encoding.EncodingId.TheVariants.{Plain}
use Rattle.vx_model.specs.Ty.{list}
use Rattle.vx_aggregate_spec.specs.Aggregate.{maximum}
use Rattle.vx_strategy_spec.specs.StrategyData.{chunked, structured, listed, no_ways}
use Rattle.vx_plan.specs.PlanData.{Setting, duplicate_field, many_chunks, empty_list, zone_cut, forbidden_aggregate, forbidden_encoding}
use Rattle.vx_machine_worked.proofs.Words.{free, setting, dictionaries, zones, refusals, call, close, take, put, append, join, flats, chunks, i64, i64s}

-- ---- what a child refuses at its start, where it is started

-- zone tables may have minima alone
abbrev minima : Setting
minima = setting None (Some (codes "vortex.min" ∷ []))

a_chunk : refusals minima (chunked (zones 3 None 1 chunks flats)) i64 (i64s (1 ∷ []) ∷ []) ≡
    (take, Some (forbidden_aggregate (codes "vortex.max"))) ∷ (take, None) ∷ (join, None) ∷ []
a_chunk = refl

without_a_chunk : refusals minima (chunked (zones 3 None 1 chunks flats)) i64 [] ≡
    (take, None) ∷ (join, None) ∷ []
without_a_chunk = refl

a_fallback : refusals minima (dictionaries 1000 2 1 chunks flats (zones 3 None 1 chunks flats)) i64 (i64s (1 ∷ []) ∷ []) ≡
    (take, None) ∷ (call, Some (forbidden_aggregate (codes "vortex.max"))) ∷ (put, None) ∷ (take, None) ∷ (close, None) ∷ []
a_fallback = refl

a_fallback_of_nothing : refusals minima (dictionaries 1000 2 2 chunks flats (zones 3 None 1 chunks flats)) i64 [] ≡
    (take, Some (forbidden_aggregate (codes "vortex.max"))) ∷ (close, None) ∷ []
a_fallback_of_nothing = refl

codes_of_a_run : refusals minima (dictionaries 1000 2 2 (zones 3 None 1 chunks flats) flats flats) i64 (i64s (1 ∷ []) ∷ []) ≡
    (take, None) ∷ (call, None) ∷ (take, None) ∷ (put, Some (forbidden_aggregate (codes "vortex.max"))) ∷ (put, None) ∷ (join, None) ∷ []
codes_of_a_run = refl

values_of_a_run : refusals minima (dictionaries 1000 2 2 chunks (zones 3 None 1 chunks flats) flats) i64 (i64s (1 ∷ []) ∷ []) ≡
    (take, None) ∷ (call, None) ∷ (take, None) ∷ (put, Some (forbidden_aggregate (codes "vortex.max"))) ∷ (put, None) ∷ (join, None) ∷ []
values_of_a_run = refl

-- a table with two columns of one name

a_table : refusals free (zones 3 (Some (maximum ∷ maximum ∷ [])) 1 chunks (structured flats chunks no_ways)) i64 (i64s (1 ∷ []) ∷ []) ≡
    (take, None) ∷ (put, None) ∷ (take, None) ∷ (close, None) ∷ (join, Some (duplicate_field (codes "max"))) ∷ (join, None) ∷ []
a_table = refl

no_table : refusals free (zones 3 (Some (maximum ∷ maximum ∷ [])) 1 chunks (structured flats chunks no_ways)) i64 [] ≡
    (take, None) ∷ (close, None) ∷ (join, None) ∷ []
no_table = refl

-- ---- at takes

a_short_zone : refusals free (zones 2 None 1 chunks flats) i64 (i64s (1 ∷ 2 ∷ []) ∷ i64s (3 ∷ []) ∷ i64s (4 ∷ []) ∷ []) ≡
    (take, None) ∷ (put, None) ∷ (take, None) ∷ (put, None) ∷ (take, Some (zone_cut 1)) ∷ (put, None) ∷ (take, None) ∷ (close, None) ∷ (join, None) ∷ (join, None) ∷ []
a_short_zone = refl

a_short_zone_before_a_long_one : refusals free (zones 2 None 1 chunks flats) i64 (i64s (3 ∷ []) ∷ i64s (1 ∷ 2 ∷ 3 ∷ []) ∷ []) ≡
    (take, None) ∷ (put, None) ∷ (take, Some (zone_cut 1)) ∷ (put, None) ∷ (take, None) ∷ (close, None) ∷ (join, None) ∷ (join, None) ∷ []
a_short_zone_before_a_long_one = refl

a_long_zone : refusals free (zones 2 None 1 chunks flats) i64 (i64s (1 ∷ 2 ∷ 3 ∷ []) ∷ []) ≡
    (take, Some (zone_cut 3)) ∷ (put, None) ∷ (take, None) ∷ (close, None) ∷ (join, None) ∷ (join, None) ∷ []
a_long_zone = refl

an_empty_zone : refusals free (zones 2 None 1 chunks flats) i64 (i64s [] ∷ []) ≡
    (take, Some (zone_cut 0)) ∷ (put, None) ∷ (take, None) ∷ (close, None) ∷ (join, None) ∷ (join, None) ∷ []
an_empty_zone = refl

nothing_recorded : refusals free (zones 2 (Some []) 1 chunks flats) i64 (i64s [] ∷ i64s (1 ∷ 2 ∷ 3 ∷ []) ∷ []) ≡
    (take, None) ∷ (put, None) ∷ (take, None) ∷ (put, None) ∷ (take, None) ∷ (close, None) ∷ (join, None) ∷ []
nothing_recorded = refl

a_second_chunk : refusals free (flats) i64 (i64s [] ∷ i64s [] ∷ []) ≡
    (take, None) ∷ (take, Some many_chunks) ∷ (take, None) ∷ []
a_second_chunk = refl

an_encoding : refusals (setting (Some Plain) None) (flats) i64 (i64s [] ∷ []) ≡
    (take, Some (forbidden_encoding Plain)) ∷ (take, None) ∷ (append, None) ∷ []
an_encoding = refl

an_empty_list : refusals free (listed chunks chunks flats flats) (list i64 false) [] ≡
    (take, Some empty_list) ∷ []
an_empty_list = refl

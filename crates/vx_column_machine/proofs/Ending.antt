-- Where a column's own machine has finished, all is written as planned.
use Rattle.std.proofs.Common.{◌≡◌, ◌∷◌, ◌++◌, ◌∙◌, ℕ, suc, true, List, map, length, slice_index_or, append-nil, refl, sym, ap, subst, arith, Option, []}
use Rattle.std.proofs.lemmas.List.{length-map}
use Rattle.vx_model.specs.ChunkData.{ChunkData}
use Rattle.vx_layout_spec.specs.LayoutTree.{LayoutData, renamed}
use Rattle.vx_layout_segments.specs.Segments.{segments_in}
use Rattle.vx_layout_segment_laws.specs.Named.{SegmentsArePairs, NamesEach, StandOnce, place_in, places_in}
use Rattle.vx_layout_segment_laws.proofs.SegmentNaming.{layouts_name_pairs}
use Rattle.vx_layout_segment_laws.proofs.Places.{pairs_named_once}
use Rattle.vx_path.specs.Path.{Scattered}
use Rattle.vx_path.proofs.Sort.{length-sort_by}
use Rattle.vx_plan.specs.PlanData.{Pair, Plan, paths as paths_of}
use Rattle.vx_plan.specs.Number.{path_of, sorted, number_of, numbered}
use Rattle.vx_plan.specs.Valid.{Fit}
use Rattle.vx_machine_turns.specs.Source.{named_items, stream_plan}
use Rattle.vx_machine_state.specs.Acts.{layouts_in}
use Rattle.vx_machine_view.specs.Machine.{Machine, is_finished}
use Rattle.vx_machine_promises.proofs.Standing.{paths_are_apart_at}
use Rattle.vx_machine_runs.specs.Courses.{Numbered, FinishedBy, CourseEnds, CourseFits}
use Rattle.vx_machine.specs.Progress.{numbers_from}
use Rattle.vx_column_machine.specs.Course.{Course, write_of, outset_of, plan_of, StandsAt}
use Rattle.vx_column_machine.specs.Causes.{IsDone}
use Rattle.vx_column_machine.proofs.Begins.{can_taken, can_all}
use Rattle.vx_column_machine.proofs.Leading.{has_come}
use Rattle.vx_column_machine.proofs.Numbering.{numbers_in_order}

paths_long : (ps : List Pair) → length (paths_of ps) ≡ length ps
paths_long [] = refl
paths_long (p ∷ ps) = ap suc (paths_long ps)

pub none_yet : (ps : List (List ℕ)) → length ps ≡ 0 → ps ≡ []
none_yet [] e = refl
none_yet (p ∷ ps) e = absurd (omega (arith, e))

module _ (ends : CourseEnds) (fits : CourseFits) (x : Course) (m : Machine) (to_come : Option (List ChunkData)) (written : ℕ) (paths : List (List ℕ)) (h : StandsAt x m to_come written paths)
    (fin : is_finished m ≡ true) (l : LayoutData ℕ) (one : layouts_in m.root ≡ l ∷ []) where
  fin_there : is_finished h.point.machine ≡ true
  fin_there = ap is_finished (sym h.machine_is) ∙ fin

  abbrev taken_plan : Plan
  taken_plan = stream_plan x.setting x.column.way x.column.type x.column.mark (outset_of x) h.point.taken true

  ended : FinishedBy taken_plan h.point
  ended = ends (write_of x) (outset_of x).names (outset_of x).eof h.notes h.point (has_come x m to_come written paths h).come (can_taken x h.point.taken h.later h.taken) fin_there

  all_taken : x.chunks ≡ h.point.taken
  all_taken = h.taken ∙ ap (λ z. h.point.taken ++ z) (h.ended ended.heard) ∙ append-nil h.point.taken

  plan_is : taken_plan ≡ plan_of x
  plan_is = ap (λ z. stream_plan x.setting x.column.way x.column.type x.column.mark (outset_of x) z true) (sym all_taken)

  fit : Fit taken_plan.numbers
  fit = fits (write_of x) (outset_of x).names (outset_of x).eof h.notes h.point (has_come x m to_come written paths h).come (can_taken x h.point.taken h.later h.taken) fin_there (omega arith) (omega arith) h.first h.counts

  history_is : h.point.history ≡ sorted (plan_of x).pairs
  history_is = ended.appended ∙ ap (λ (z : Plan). sorted z.pairs) plan_is

  laid : (number : List ℕ → ℕ) → map (λ (q : Pair). number q.0) (sorted (plan_of x).pairs) ≡ numbers_from 0 (length (plan_of x).pairs) → l ≡ renamed number (plan_of x).layout
  laid number given = head (sym one ∙ ap (λ (z : Machine). layouts_in z.root) h.machine_is ∙ ended.layout number numbered) ∙ ap (λ (z : Plan). renamed number z.layout) plan_is
    where
      many : length h.point.history ≡ length (plan_of x).pairs
      many = ap length history_is ∙ length-sort_by path_of (plan_of x).pairs

      numbered : Numbered number h.point
      numbered = ap (λ z. map (λ (q : Pair). number q.0) z) history_is ∙ given ∙ ap (numbers_from 0) (sym many) ∙ sym h.numbers

      head : l ∷ [] ≡ renamed number taken_plan.layout ∷ [] → l ≡ renamed number taken_plan.layout
      head e = cc

  faultless : (plan_of x).faults ≡ []
  faultless = ap (λ (z : Plan). z.faults) (sym plan_is) ∙ ended.faultless

  apart : Scattered (paths_of (plan_of x).pairs)
  apart = paths_are_apart_at (outset_of x) (write_of x) [] (record { later = x.chunks; fits = true }) (can_all x x.chunks refl)

  named : SegmentsArePairs (plan_of x)
  named = layouts_name_pairs x.setting x.column.way x.column.type x.column.mark (named_items (outset_of x).names x.chunks) (outset_of x).eof h.careful.codec.encodes faultless

  each : NamesEach (plan_of x)
  each = pairs_named_once (plan_of x) named

  layout_is : l ≡ numbered (plan_of x) 0
  layout_is = laid (number_of (plan_of x).pairs 0) (numbers_in_order (plan_of x).pairs apart)

  -- each segment's number is the place of its path
  places_are : segments_in l ≡ places_in (plan_of x)
  places_are = ap segments_in layout_is ∙ each.places_are_numbers

  written_are : paths ≡ paths_of (sorted (plan_of x).pairs)
  written_are = h.paths_are ∙ ap paths_of history_is

  pub numbers_once : StandOnce (segments_in l)
  numbers_once = subst StandOnce (sym places_are) (each.places_once apart)

  pub as_many : length (segments_in l) ≡ length paths
  as_many =
      ap length places_are ∙ length-map (segments_in (plan_of x).layout) (place_in (plan_of x)) ∙ each.as_many_sorted ∙ sym (paths_long (sorted (plan_of x).pairs)) ∙ ap length (sym written_are)

  pub done_is : (in_order : List (List ℕ)) → in_order ≡ map (λ n. slice_index_or paths n []) (segments_in l) → IsDone (plan_of x) l in_order
  done_is in_order is = record {
    faultless = faultless;
    fit = subst (λ (z : Plan). Fit z.numbers) plan_is fit;
    laid = layout_is;
    paths_are = is ∙ ap (λ z. map (λ n. slice_index_or z n []) (segments_in l)) written_are ∙ ap (map (λ n. slice_index_or (paths_of (sorted (plan_of x).pairs)) n [])) places_are ∙ each.places_found;
    named = named;
  }

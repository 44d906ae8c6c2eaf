-- A column's layout under the numbers of its paths.
use Rattle.std.proofs.Common.{◌≡◌, ℕ, List, map, ap, ap₂, subst, ◌∙◌}
use Rattle.vx_path.specs.Lists.{In}
use Rattle.vx_layout_spec.specs.LayoutTree.{LayoutData, renamed}
use Rattle.vx_layout_segments.specs.InTurn.{in_turn}
use Rattle.vx_layout_segments.proofs.TurnLaws.{in_turn-renamed}
use Rattle.vx_layout_segment_laws.proofs.Places.{pairs_named_once}
use Rattle.vx_plan.specs.PlanData.{Plan}
use Rattle.vx_plan.specs.Number.{number_of}
use Rattle.vx_order_answer.specs.declared.receipt.Receipt.{Receipt}
use Rattle.vx_seats.specs.History.{paths as written_paths}
use Rattle.vx_column_plan.specs.Shared.{number_by}
use Rattle.vx_column_machine.specs.Causes.{IsDone}
use Rattle.vx_column_layouts.specs.Numbers.{AllIn, StandsIn}

module _ (rs : List Receipt) (first : ℕ) (p : Plan) (l : LayoutData ℕ) (ordered : List (List ℕ)) (done : IsDone p l ordered) (stands : StandsIn rs p) where
  stand : AllIn ordered (written_paths rs)
  stand q i = stands.stand q ((pairs_named_once p done.named).among q (subst (In q) done.paths_are i))

  pub numbered_is : (m : LayoutData ℕ) (numbers : List ℕ) → (AllIn ordered (written_paths rs) → numbers ≡ map (number_by first rs) ordered) → m ≡ in_turn numbers l → m ≡ renamed (number_by first rs) p.layout
  numbered_is m numbers given same =
      same ∙ ap₂ in_turn (given stand ∙ ap (map (number_by first rs)) done.paths_are) done.laid ∙ in_turn-renamed (number_by first rs) (number_of p.pairs 0) p.layout

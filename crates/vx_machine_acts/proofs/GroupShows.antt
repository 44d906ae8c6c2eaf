-- Takes of nodes that regroup, whichever rule: of a task alone, as of one with a name and a queue.
use Rattle.std.proofs.Common.{◌≡◌, ℕ, Bool, List, [], ◌++◌, Option, Some, None, refl, ap, ◌∙◌, append-nil}
use Rattle.vx_rules.specs.Regroup.{ranked}
use Rattle.vx_plan.specs.PlanData.{Item as Piece}
use Rattle.vx_machine_turns.specs.Grouped.{Grouper}
use Rattle.vx_machine_state.specs.State.{Next, Mind, Desk, Tasks}
use Rattle.vx_machine_state.specs.Acts.{now, hand_all, take_grouped, end_grouped}
use Rattle.vx_write_answer.specs.declared.step.ActionKind.TheVariants as actions
use Rattle.vx_write_answer.specs.declared.error.WriteError.{WriteError}
use Rattle.vx_machine_task.specs.declared.task.Head.{Head}
use Rattle.vx_machine_task.specs.declared.task.Task.{Task}
use Rattle.vx_machine_nodes.specs.Acting.{bare, named, Took, TakeRefused, TakeStopped, Ended}
use Rattle.vx_machine_acts.specs.Acting.{TakeDone}
use Rattle.vx_machine_node.specs.Outcome.{action_of}
use Rattle.vx_machine_task.specs.View.{desk_of, row}

module _ {S : Type 0} (g : Grouper S) (after : S → Option Piece → ℕ → Mind) (misfit : Bool) (x : S) (rows : ℕ) (c : Desk) (ks : Tasks) (i : Piece) (xs : List Piece) where
  pub group_shows : (j : Option Piece) (m : Mind) (todo before : List Next) (h : Head) (kids : List Task) → Took (take_grouped g after misfit x j rows (named c.name) ks i []) m todo before (row kids)
      → before ≡ [] → desk_of h ≡ now c m todo xs → TakeDone (take_grouped g after misfit x j rows c ks i xs) h kids
  group_shows None m todo before h kids d n e =
      record { unrefused = d.unrefused; fits = d.fits; counted = d.counted; kids_are = d.kids_are; desk = e ∙ (λ k. now c (d.mind_is k) ((d.todo_is ∙ n) k) xs) }
  group_shows (Some j) m todo before h kids d n e =
      let outs : List Next = hand_all g.weight (ranked j.0 0 (g.rule.leaves x j.1)) in
      record { unrefused = d.unrefused; fits = d.fits; counted = d.counted; kids_are = d.kids_are; desk = e ∙ (λ k. now c (d.mind_is k) ((d.todo_is ∙ ap (λ z. outs ++ z) n ∙ append-nil outs) k) xs) }

  pub group_refused : (j : Option Piece) (e : WriteError) → TakeRefused (take_grouped g after misfit x j rows (named c.name) ks i []) e → TakeRefused (take_grouped g after misfit x j rows c ks i xs) e
  group_refused None e h = h
  group_refused (Some j) e h = h

  pub group_stopped : (counts : ℕ) (j : Option Piece) (e : WriteError) → TakeStopped counts (take_grouped g after misfit x j rows (named c.name) ks i []) e
      → TakeStopped counts (take_grouped g after misfit x j rows c ks i xs) e
  group_stopped counts None e h = h
  group_stopped counts (Some j) e h = h

  pub group_kind : (j : Option Piece) → actions.Take ≡ action_of (take_grouped g after misfit x j rows c ks i xs).kind
  group_kind None = refl
  group_kind (Some j) = refl

  pub group_wrote : (j : Option Piece) → (take_grouped g after misfit x j rows c ks i xs).wrote ≡ []
  group_wrote None = refl
  group_wrote (Some j) = refl

module _ {S : Type 0} (g : Grouper S) (x : S) (c : Desk) (ks : Tasks) where
  pub rest_shows : (q m : Mind) (j : Option Piece) (todo : List Next) (h : Head) (kids : List Task) → row kids ≡ ks → desk_of h ≡ now c m todo []
      → Ended (end_grouped g x j (bare [] q) ks) m todo [] → TakeDone (end_grouped g x j c ks) h kids
  rest_shows q m None todo h kids same is d = record { unrefused = d.unrefused; fits = d.fits; counted = d.counted; kids_are = same; desk = is ∙ (λ k. now c (d.mind_is k) (d.todo_is k) []) }
  rest_shows q m (Some j) todo h kids same is d = record { unrefused = d.unrefused; fits = d.fits; counted = d.counted; kids_are = same; desk = is ∙ (λ k. now c (d.mind_is k) (d.todo_is k) []) }

  pub rest_fails : (at : List ℕ) (q : Mind) (j : Option Piece) (e : WriteError) → TakeRefused (end_grouped g x j (bare at q) ks) e → TakeRefused (end_grouped g x j c ks) e
  rest_fails at q None e h = h
  rest_fails at q (Some j) e h = h

  pub rest_kind : (j : Option Piece) → actions.Take ≡ action_of (end_grouped g x j c ks).kind
  rest_kind None = refl
  rest_kind (Some j) = refl

  pub rest_wrote : (j : Option Piece) → (end_grouped g x j c ks).wrote ≡ []
  rest_wrote None = refl
  rest_wrote (Some j) = refl

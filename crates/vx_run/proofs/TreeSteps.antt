-- What is shown of a layout that was refused.
use Rattle.std.proofs.Common.{◌≡◌, ℕ, List, refl}
use Rattle.std.proofs.lemmas.List.{map_more}
use Rattle.vx_session.specs.Made.{Made}
use Rattle.vx_layout_tree.specs.Views.{Fails}
use Rattle.vx_layout_tree.specs.ErrorNames.{error_name}
use Rattle.vx_layout_tree.specs.declared.error.LayoutError.{LayoutError}
use Rattle.vx_layout_tree.specs.declared.error.LayoutError.TheVariants as errors
use Rattle.vx_run.specs.declared.status.Status.{Status}
use Rattle.vx_run.specs.declared.status.Status.TheVariants.{Refused}
use Rattle.vx_run.specs.Answers.{IsText}
use Rattle.vx_run.specs.TreeAnswers.{refused_line, IsShown}

pub refusal_shown : (e : LayoutError) (made : Made) (status : Status) (text : List ℕ) → Fails e made → (e ≡ errors.OutOfMemory → ⊥) → IsText Refused (refused_line (error_name e)) status text → IsShown made status text
refusal_shown (errors.Grammar a) made status text h other is = rw h is
refusal_shown (errors.TooDeep a) made status text h other is = rw h is
refusal_shown (errors.TooManyNodes a) made status text h other is = rw h is
refusal_shown (errors.UnknownIndex a) made status text h other is = rw h is
refusal_shown (errors.Unregistered a) made status text h other is = rw h is
refusal_shown (errors.NotPermitted a) made status text h other is = rw h is
refusal_shown (errors.ChildCount a c) made status text h other is = rw h is
refusal_shown (errors.ChildType a c) made status text h other is = rw h is
refusal_shown (errors.RowCount a c) made status text h other is = rw h is
refusal_shown (errors.SegmentCount a) made status text h other is = rw h is
refusal_shown (errors.Metadata a) made status text h other is = rw h is
refusal_shown (errors.UnknownAggregate a) made status text h other is = rw h is
refusal_shown (errors.SlotRange a c) made status text h other is = rw h is
refusal_shown (errors.FieldNotFound a) made status text h other is = rw h is
refusal_shown errors.NotAList made status text h other is = rw h is
refusal_shown errors.NotAStruct made status text h other is = rw h is
refusal_shown errors.OutOfMemory made status text h other is = absurd (other refl)

pub ruleset copy_rules = (map_more)

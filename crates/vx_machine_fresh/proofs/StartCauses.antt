-- Refusals of starts, as errors of a write.
use Rattle.std.proofs.Common.{◌≡◌, ℕ, sym, ap, subst, ◌∙◌, arith}
use Rattle.vx_model.specs.Ty.{Ty, is_struct}
use Rattle.vx_order_answer.specs.declared.errors.OrderError.{OrderError}
use Rattle.vx_order_answer.specs.declared.errors.OrderError.TheVariants as order
use Rattle.vx_chunk_cells.specs.Parts.{struct_fields}
use Rattle.vx_strategy_spec.specs.Walk.{duplicate}
use Rattle.vx_split.specs.declared.error.SplitError.{SplitError}
use Rattle.vx_split.specs.declared.error.SplitError.TheVariants as split
use Rattle.vx_split.specs.Causes.{IsRefused}
use Rattle.vx_order.specs.Answers.{FullAt}
use Rattle.vx_write_answer.specs.declared.error.WriteError.{WriteError}
use Rattle.vx_write_answer.specs.declared.error.WriteError.TheVariants as errors
use Rattle.vx_write_answer.specs.Causes.{of_order, of_split}
use Rattle.vx_machine_node.specs.Causes.{MayCome, StartMay}
use Rattle.vx_machine_fresh.specs.Fresh.{NodeRefused}

pub full_starts : (last : ℕ) (e : OrderError) → FullAt last e → StartMay (of_order e)
full_starts last (order.TooLarge n) h = h.0
full_starts last order.SinkFault h = absurd h
full_starts last order.OutOfMemory h = tt
full_starts last (order.Stopped by name) h = absurd h

pub split_starts : (t : Ty) (e : SplitError) → IsRefused t e → StartMay (of_split e)
split_starts t split.NotStruct h = tt
split_starts t (split.DuplicateField name) h = tt
split_starts t (split.TooLarge n) h = absurd h
split_starts t split.OutOfMemory h = tt

pub split_refused : (t u : Ty) (e : SplitError) → t ≡ u → IsRefused t e → NodeRefused u (of_split e)
split_refused t u split.NotStruct is h = ap is_struct (sym is) ∙ h
split_refused t u (split.DuplicateField name) is h = (ap is_struct (sym is) ∙ h.0, ap (λ z. duplicate (struct_fields z)) (sym is) ∙ h.1)
split_refused t u (split.TooLarge n) is h = absurd h
split_refused t u split.OutOfMemory is h = tt

pub memory_start : (e : WriteError) → e ≡ errors.OutOfMemory → StartMay e
memory_start e h = subst (λ x. StartMay x) (sym h) tt

pub start_may : (e : WriteError) → StartMay e → MayCome e
start_may errors.SourceFault h = absurd h
start_may errors.SinkFault h = absurd h
start_may errors.CompressFault h = absurd h
start_may (errors.BatchType c) h = absurd h
start_may errors.NotStruct h = tt
start_may (errors.DuplicateField name) h = tt
start_may errors.ManyChunks h = absurd h
start_may errors.EmptyList h = absurd h
start_may (errors.ZoneCut n) h = absurd h
start_may (errors.ForbiddenAggregate id) h = tt
start_may (errors.ForbiddenEncoding id) h = absurd h
start_may (errors.TooLarge n) h = omega (arith, h)
start_may errors.OutOfMemory h = tt
start_may (errors.Stopped by name) h = absurd h

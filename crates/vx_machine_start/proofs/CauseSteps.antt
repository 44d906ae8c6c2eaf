-- Refusals of other crates' calls, as errors of a write.
use Rattle.std.proofs.Common.{ℕ, ◌+◌, refl, inl, arith}
use Rattle.vx_order_answer.specs.declared.errors.OrderError.{OrderError}
use Rattle.vx_order_answer.specs.declared.errors.OrderError.TheVariants as order
use Rattle.vx_order.specs.Answers.{FullAt}
use Rattle.vx_write_answer.specs.Causes.{of_order}
use Rattle.vx_machine_start.specs.Starting.{PointerRefused}

-- ---- of an order

pub full_refused : (last : ℕ) (e : OrderError) → FullAt last e → PointerRefused last (of_order e)
full_refused last (order.TooLarge n) h = (h.0, (last + 1, inl refl, omega (arith, h.1)))
full_refused last order.SinkFault h = absurd h
full_refused last order.OutOfMemory h = tt
full_refused last (order.Stopped by name) h = absurd h

-- Refusals of other crates' calls, as errors of a write.
use Rattle.std.proofs.Common.{◌≡◌, ℕ, ◌^◌, ◌≤◌, List, sym, subst, arith}
use Rattle.vx_sequence.specs.Universe.{Active}
use Rattle.vx_segment_writer.specs.declared.error.EncodeError.{EncodeError}
use Rattle.vx_segment_writer.specs.declared.error.EncodeError.TheVariants as encoding
use Rattle.vx_order_answer.specs.declared.errors.OrderError.{OrderError}
use Rattle.vx_order_answer.specs.declared.errors.OrderError.TheVariants as order
use Rattle.vx_split.specs.declared.error.SplitError.{SplitError}
use Rattle.vx_split.specs.declared.error.SplitError.TheVariants as split
use Rattle.vx_order.specs.Outlet.{Outlet, own, shared}
use Rattle.vx_order.specs.Answers.{IsPast, Refuses}
use Rattle.vx_write_answer.specs.Causes.{of_encode, of_order, of_split}
use Rattle.vx_machine_node.specs.Causes.{MayCome, AppendMay}

past_large : (o : Outlet) (n : ℕ) → IsPast o n → 2 ^ 32 ≤ n
past_large (own s) n h = omega (arith, h.0, h.1)
past_large (shared s) n h = h.0

pub refused_may : (u : Active) (o : Outlet) (id : List ℕ) (e : OrderError) → Refuses u o id e → AppendMay (of_order e)
refused_may u o id (order.TooLarge n) h = past_large o n h.1
refused_may u o id order.SinkFault h = tt
refused_may u o id order.OutOfMemory h = tt
refused_may u o id (order.Stopped by name) h = tt

pub split_may : (e : SplitError) → e ≡ split.OutOfMemory → MayCome (of_split e)
split_may e is = subst (λ x. MayCome (of_split x)) (sym is) tt

pub encode_may : (e : EncodeError) → MayCome (of_encode e)
encode_may (encoding.EncodingNotListed id) = tt
encode_may encoding.OutOfMemory = tt

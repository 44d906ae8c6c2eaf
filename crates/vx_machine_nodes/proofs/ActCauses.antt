-- Which errors one act may meet, of those that another may.
use Rattle.std.proofs.Common.{◌≡◌, Result, IfErr, sym, subst, arith}
use Rattle.std.proofs.lemmas.Result.{IfErr-weaker}
use Rattle.vx_order_answer.specs.declared.errors.OrderError.{OrderError}
use Rattle.vx_order_answer.specs.declared.errors.OrderError.TheVariants as order
use Rattle.vx_write_answer.specs.Causes.{of_order}
use Rattle.vx_write_answer.specs.declared.error.WriteError.{WriteError}
use Rattle.vx_write_answer.specs.declared.error.WriteError.TheVariants.{SourceFault, SinkFault, CompressFault, BatchType, NotStruct, DuplicateField, ManyChunks, EmptyList, ZoneCut, ForbiddenAggregate, ForbiddenEncoding, TooLarge, OutOfMemory, Stopped}
use Rattle.vx_machine_node.specs.Causes.{MayCome, AppendMay, PressMay, ActMay}

-- what may come of an act that asks no sink may come of an append
pub append_may : (e : WriteError) → MayCome e → AppendMay e
append_may SourceFault h = h
append_may SinkFault h = tt
append_may CompressFault h = h
append_may (BatchType c) h = h
append_may NotStruct h = h
append_may (DuplicateField name) h = h
append_may ManyChunks h = h
append_may EmptyList h = h
append_may (ZoneCut n) h = h
append_may (ForbiddenAggregate id) h = h
append_may (ForbiddenEncoding id) h = h
append_may (TooLarge n) h = omega (arith, h)
append_may OutOfMemory h = h
append_may (Stopped by name) h = tt

-- an append may meet what an act may
pub append_wider : (e : WriteError) → AppendMay e → ActMay e
append_wider SourceFault h = h
append_wider SinkFault h = h
append_wider CompressFault h = tt
append_wider (BatchType c) h = h
append_wider NotStruct h = h
append_wider (DuplicateField name) h = h
append_wider ManyChunks h = h
append_wider EmptyList h = h
append_wider (ZoneCut n) h = h
append_wider (ForbiddenAggregate id) h = h
append_wider (ForbiddenEncoding id) h = h
append_wider (TooLarge n) h = h
append_wider OutOfMemory h = h
append_wider (Stopped by name) h = h

pub wider : (e : WriteError) → MayCome e → ActMay e
wider e h = append_wider e (append_may e h)

-- and so may a call of the compressor
pub press_wider : (e : WriteError) → PressMay e → ActMay e
press_wider SourceFault h = absurd h
press_wider SinkFault h = absurd h
press_wider CompressFault h = tt
press_wider (BatchType c) h = absurd h
press_wider NotStruct h = absurd h
press_wider (DuplicateField name) h = absurd h
press_wider ManyChunks h = absurd h
press_wider EmptyList h = absurd h
press_wider (ZoneCut n) h = absurd h
press_wider (ForbiddenAggregate id) h = absurd h
press_wider (ForbiddenEncoding id) h = absurd h
press_wider (TooLarge n) h = absurd h
press_wider OutOfMemory h = tt
press_wider (Stopped by name) h = absurd h

-- an order has no memory
pub order_memory : (P : WriteError → Type 0) (e : OrderError) → P OutOfMemory → e ≡ order.OutOfMemory → P (of_order e)
order_memory P e p is = subst (λ x. P (of_order x)) (sym is) p

-- ---- of answers

pub all_wider : {A : Type 0} (r : Result A WriteError) → IfErr r MayCome → IfErr r ActMay
all_wider r h = IfErr-weaker r MayCome ActMay wider h

pub all_append : {A : Type 0} (r : Result A WriteError) → IfErr r MayCome → IfErr r AppendMay
all_append r h = IfErr-weaker r MayCome AppendMay append_may h

pub memory_may : {A : Type 0} (r : Result A WriteError) → IfErr r (λ e. e ≡ OutOfMemory) → IfErr r MayCome
memory_may r h = IfErr-weaker r (λ e. e ≡ OutOfMemory) MayCome (λ e k. subst (λ x. MayCome x) (sym k) tt) h

-- What a step of the program is, against what the machine in plain data would do.
use Rattle.std.specs.Prelude.{◌≡◌, ◌⊎◌, ℕ, ◌^◌, ◌<◌, ◌≤◌, Bool, true, List, Option, Some}
use Rattle.vx_path.specs.Lists.{In, Each}
use Rattle.vx_tasks.specs.Task.{Kind, Free, Take, TakeEnd, Put, Append, Join, Batch, End, Call, Close}
use Rattle.vx_plan.specs.PlanData.{Pair, What, not_struct, duplicate_field, many_chunks, empty_list, forbidden_encoding, zone_cut, forbidden_aggregate}
use Rattle.vx_order.specs.Outlet.{Outlet, own, shared}
use Rattle.vx_write_answer.specs.declared.step.ActionKind.{ActionKind}
use Rattle.vx_write_answer.specs.declared.step.ActionKind.TheVariants as actions
use Rattle.vx_write_answer.specs.declared.error.WriteError.{WriteError}
use Rattle.vx_write_answer.specs.declared.error.WriteError.TheVariants.{SourceFault, SinkFault, CompressFault, BatchType, NotStruct, DuplicateField, ManyChunks, EmptyList, ZoneCut, ForbiddenAggregate, ForbiddenEncoding, TooLarge, OutOfMemory, Stopped}

-- a kind's name in a trace: a take of the end is a take
abbrev pub action_of : Kind → ActionKind
action_of (Free Batch) = actions.Batch
action_of (Free End) = actions.End
action_of (Free Call) = actions.Call
action_of (Free Close) = actions.Close
action_of Take = actions.Take
action_of TakeEnd = actions.Take
action_of (Put j) = actions.Put
action_of (Append p) = actions.Append
action_of Join = actions.Join

-- each fits 64 bits
abbrev pub AllFit : List ℕ → Type 0
AllFit ns = Each (λ n. n < 2 ^ 64) ns

-- nothing was appended
abbrev pub Kept : Outlet → Outlet → Type 0
Kept (own s) (own t) = (t.next ≡ s.next) × (t.segments ≡ s.segments) × (t.borrow ≡ s.borrow)
Kept (shared s) (shared t) = (t.sink ≡ s.sink) × (t.column ≡ s.column) × (t.first ≡ s.first) × (t.pairs ≡ s.pairs) × (t.writes ≡ s.writes)
Kept (own s) (shared t) = ⊥
Kept (shared s) (own t) = ⊥

-- the number doesn't fit 64 bits, and is among these; or a pointer comes so far, and the number is the first that doesn't fit
abbrev pub Past : List ℕ → List ℕ → ℕ → Type 0
Past numbers indices n = (In n numbers × (2 ^ 64 ≤ n)) ⊎ ((i : ℕ) × In i indices × (2 ^ 64 ≤ i) × (n ≡ 2 ^ 64))

-- something was to be appended
abbrev pub Appending : List Pair → Type 0
Appending wrote = (x : Pair) × In x wrote

-- Why an act is refused that says this of refusals, of another type, of what it counts, how far pointers come, what it appends
-- and what it joins; `past` are numbers of segments that may come and don't fit, and `stopped` says where another's refusal may end
-- the write. A line an error. Memory may run out.
abbrev pub Refused : Option What → Bool → List ℕ → List ℕ → List Pair → (ℕ → Type 0) → Type 0 → List ℕ → WriteError → Type 0
Refused refusal misfit numbers indices wrote past stopped joined SourceFault = Unit {0}
Refused refusal misfit numbers indices wrote past stopped joined SinkFault = Appending wrote
Refused refusal misfit numbers indices wrote past stopped joined CompressFault = Unit {0}
Refused refusal misfit numbers indices wrote past stopped joined (BatchType c) = misfit ≡ true
Refused refusal misfit numbers indices wrote past stopped joined NotStruct = refusal ≡ Some not_struct
Refused refusal misfit numbers indices wrote past stopped joined (DuplicateField name) = refusal ≡ Some (duplicate_field name)
Refused refusal misfit numbers indices wrote past stopped joined ManyChunks = refusal ≡ Some many_chunks
Refused refusal misfit numbers indices wrote past stopped joined EmptyList = refusal ≡ Some empty_list
Refused refusal misfit numbers indices wrote past stopped joined (ZoneCut n) = refusal ≡ Some (zone_cut n)
Refused refusal misfit numbers indices wrote past stopped joined (ForbiddenAggregate id) = refusal ≡ Some (forbidden_aggregate id)
Refused refusal misfit numbers indices wrote past stopped joined (ForbiddenEncoding id) = refusal ≡ Some (forbidden_encoding id)
Refused refusal misfit numbers indices wrote past stopped joined (TooLarge n) = Past numbers indices n ⊎ (Appending wrote × past n) ⊎ (In n joined × (2 ^ 64 ≤ n))
Refused refusal misfit numbers indices wrote past stopped joined OutOfMemory = Unit {0}
Refused refusal misfit numbers indices wrote past stopped joined (Stopped by name) = Appending wrote × stopped

-- of what appends nothing
abbrev pub none_past : ℕ → Type 0
none_past n = ⊥

-- What the calls of an order answer, and what they leave.
use Rattle.std.specs.Prelude.{◌≡◌, ◌⊎◌, ℕ, ◌+◌, ◌^◌, ◌<◌, ◌≤◌, ◌-◌, Bool, true, false, List, [], ◌∷◌, IsTrue, Option, Result, Ok, Err}
use Rattle.vx_path.specs.Path.{path_lt}
use Rattle.vx_sequence.specs.Universe.{Active, IsActive, IsLeast, released}
use Rattle.vx_sequence.specs.declared.ids.SequenceId.{SequenceId}
use Rattle.vx_fault.specs.Faults.{Called}
use Rattle.vx_fault.specs.Told.{then_told}
use Rattle.vx_order_answer.specs.Refusal.{is_fault, is_stop, once}
use Rattle.vx_order_answer.specs.declared.errors.OrderError.{OrderError}
use Rattle.vx_order_answer.specs.declared.errors.OrderError.TheVariants.{TooLarge, SinkFault, OutOfMemory, Stopped}
use Rattle.vx_order.specs.declared.attempt.Attempt.{Attempt}
use Rattle.vx_order.specs.declared.attempt.Attempt.TheVariants.{Written, Waiting}
use Rattle.vx_order.specs.Outlet.{Outlet, own, shared}

-- why an order refuses to go on from a pointer with this last index
abbrev pub FullAt : ℕ → OrderError → Type 0
FullAt last (TooLarge n) = (n ≡ 2 ^ 64) × (last ≡ 2 ^ 64 - 1)
FullAt last SinkFault = ⊥
FullAt last OutOfMemory = Unit {0}
FullAt last (Stopped by name) = ⊥

-- what a try to write answers
abbrev pub Tried : Type 0
Tried = Result Attempt (SequenceId × OrderError)

-- the sink is the order's own, and its next number fits 32 bits, or it doesn't
abbrev pub HasRoom : Outlet → Type 0
HasRoom (own s) = s.next < 2 ^ 32
HasRoom (shared s) = ⊥

abbrev pub IsFull : Outlet → Type 0
IsFull (own s) = 2 ^ 32 ≤ s.next
IsFull (shared s) = ⊥

-- the number of what is written: of the order's own sink the next one
abbrev pub IsNumber : Outlet → ℕ → Type 0
IsNumber (own s) n = (s.next < 2 ^ 32) × (n ≡ s.next)
IsNumber (shared s) n = Unit {0}

-- a number that doesn't fit: of the order's own sink the next one, and else one that some column may come to
abbrev pub IsPast : Outlet → ℕ → Type 0
IsPast (own s) n = (n ≡ s.next) × (2 ^ 32 ≤ s.next)
IsPast (shared s) n = (2 ^ 32 ≤ n) × (n < s.first + s.pairs)

-- where the sink may fail, and where another's refusal may end the write
abbrev pub MayFault : Outlet → Type 0
MayFault (own s) = s.next < 2 ^ 32
MayFault (shared s) = Unit {0}

abbrev pub IsShared : Outlet → Type 0
IsShared (own s) = ⊥
IsShared (shared s) = Unit {0}

-- the cause of a refusal, where these paths are active
abbrev pub Refuses : Active → Outlet → List ℕ → OrderError → Type 0
Refuses u o id (TooLarge n) = IsLeast u id × IsPast o n
Refuses u o id SinkFault = IsLeast u id × MayFault o
Refuses u o id OutOfMemory = Unit {0}
Refuses u o id (Stopped by name) = IsLeast u id × IsShared o

-- the cause of each answer: what waits, waits for the least path, which is smaller; a refused id is handed back
abbrev pub Answers : Active → Outlet → List ℕ → Tried → Type 0
Answers u o id (Ok (Written r)) = IsLeast u id × IsNumber o r.number × (r.path ≡ id)
Answers u o id (Ok (Waiting back smaller)) = (back ≡ id) × IsActive u smaller × IsLeast u smaller × IsTrue (path_lt smaller id)
Answers u o id (Err r) = (r.0 ≡ id) × Refuses u o id r.1

-- the id waits, its number is too large, or it is written; or there was no memory
abbrev pub IsWaiting : Tried → Type 0
IsWaiting (Ok (Written r)) = ⊥
IsWaiting (Ok (Waiting back smaller)) = Unit {0}
IsWaiting (Err r) = r.1 ≡ OutOfMemory

abbrev pub IsLarge : OrderError → Type 0
IsLarge (TooLarge n) = Unit {0}
IsLarge SinkFault = ⊥
IsLarge OutOfMemory = Unit {0}
IsLarge (Stopped by name) = ⊥

abbrev pub IsTooLarge : Tried → Type 0
IsTooLarge (Ok a) = ⊥
IsTooLarge (Err r) = IsLarge r.1

abbrev pub IsWritten : Tried → Type 0
IsWritten (Ok (Written r)) = Unit {0}
IsWritten (Ok (Waiting back smaller)) = ⊥
IsWritten (Err r) = r.1 ≡ OutOfMemory

-- whether the sink failed, and whether a stop was seen
abbrev pub is_sink_fault : Tried → Bool
is_sink_fault (Ok a) = false
is_sink_fault (Err r) = is_fault r.1

abbrev pub is_stopped : Tried → Bool
is_stopped (Ok a) = false
is_stopped (Err r) = is_stop r.1

-- only what is written is given up
abbrev pub active_after : Active → List ℕ → Tried → Active
active_after u id (Ok (Written r)) = released u id
active_after u id (Ok (Waiting back smaller)) = u
active_after u id (Err r) = u

-- only what is written takes a number, or is counted ..
abbrev pub one_more : ℕ → Tried → ℕ
one_more n (Ok (Written r)) = n + 1
one_more n (Ok (Waiting back smaller)) = n
one_more n (Err r) = n

-- .. and stands behind the segments
abbrev pub segments_after : Option (List (List ℕ)) → List ℕ → Tried → Option (List (List ℕ))
segments_after told bytes (Ok (Written r)) = then_told told (bytes ∷ [])
segments_after told bytes (Ok (Waiting back smaller)) = told
segments_after told bytes (Err r) = told

-- what a try leaves of what the order tells of its sink
abbrev pub After : Outlet → List ℕ → Tried → Outlet → Type 0
After (own s) bytes result (own t) = (t.next ≡ one_more s.next result) × (t.segments ≡ segments_after s.segments bytes result) × (t.borrow ≡ s.borrow)
After (shared s) bytes result (shared t) =
    (t.sink ≡ s.sink) × (t.column ≡ s.column) × (t.first ≡ s.first) × (t.pairs ≡ s.pairs) × (t.writes ≡ one_more s.writes result)
    × (t.faults ≡ once s.faults (is_sink_fault result)) × (t.seen ≡ once s.seen (is_stopped result))
After (own s) bytes result (shared t) = ⊥
After (shared s) bytes result (own t) = ⊥

-- What a try tells of faults that doesn't ask the sink: appends may and must fail as before.
pub record Unasked (before now : ℕ) (may may_then must must_then : ℕ → Type 0) : Type 0 where
  pub counted : now ≡ before
  pub may_later : (k : ℕ) → may_then k → may k
  pub must_later : (k : ℕ) → must k → must_then k

-- A try asks the sink where it writes or the sink fails. Where memory ran out it may have.
abbrev pub TellsRefused : ℕ → ℕ → (ℕ → Type 0) → (ℕ → Type 0) → (ℕ → Type 0) → (ℕ → Type 0) → OrderError → Type 0
TellsRefused before now may may_then must must_then (TooLarge n) = Unasked before now may may_then must must_then
TellsRefused before now may may_then must must_then SinkFault = Called before now may may_then must must_then true
TellsRefused before now may may_then must must_then OutOfMemory =
    Unasked before now may may_then must must_then ⊎ Called before now may may_then must must_then false
TellsRefused before now may may_then must must_then (Stopped by name) = Unasked before now may may_then must must_then

abbrev pub Tells : ℕ → ℕ → (ℕ → Type 0) → (ℕ → Type 0) → (ℕ → Type 0) → (ℕ → Type 0) → Tried → Type 0
Tells before now may may_then must must_then (Ok (Written r)) = Called before now may may_then must must_then false
Tells before now may may_then must must_then (Ok (Waiting back smaller)) = Unasked before now may may_then must must_then
Tells before now may may_then must must_then (Err r) = TellsRefused before now may may_then must must_then r.1

-- What a dictionary node does with what its cutter gives.
use Rattle.std.specs.Prelude.{ℕ, suc, ◌+◌, ◌&&◌, Bool, true, false, List, [], ◌∷◌, ◌++◌, length, None}
use Rattle.vx_model.specs.ChunkData.{ChunkData, cells}
use Rattle.vx_path.specs.Path.{under, next}
use Rattle.vx_react.specs.declared.place.Place.{Place}
use Rattle.vx_react.specs.declared.place.Place.TheVariants.{Child, Column, Codes, Values}
use Rattle.vx_react.specs.Reactor.{Output}
use Rattle.vx_plan.specs.PlanData.{Item}
use Rattle.vx_machine_turns.specs.Locals.{RunsSoFar}
use Rattle.vx_machine_state.specs.Coder.{Coder}
use Rattle.vx_machine_state.specs.Coding.{puts_codes, puts_values, deed_next}
use Rattle.vx_machine_state.specs.State.{Next}
use Rattle.vx_write_answer.specs.declared.error.WriteError.{WriteError}
use Rattle.vx_machine_node.specs.Outcome.{Refused, none_past}

-- ---- an output

-- behind it: codes are of the run that goes on, and begin it where nothing has; values end it
abbrev pub behind : RunsSoFar → Place → ChunkData → RunsSoFar
behind r (Codes k) c = record { base = r.base; eof = r.eof; begun = true; distinct = r.distinct; rows = r.rows + length (cells c); ended = r.ended }
behind r (Values k) c = record { base = suc (suc r.base); eof = next (next r.eof); begun = false; distinct = r.distinct; rows = 0; ended = r.ended ++ (r.rows ∷ []) }
behind r Child c = r
behind r (Column n) c = r

-- what is to be done with it, at its path
abbrev pub next_at : Coder → RunsSoFar → Place → Item → Next
next_at n r (Codes k) i = deed_next n (puts_codes r.base r.eof r.begun i)
next_at n r (Values k) i = deed_next n (puts_values r.base i)
next_at n r Child i = deed_next n (puts_values r.base i)
next_at n r (Column k) i = deed_next n (puts_values r.base i)

-- whether it can come next, where the run that goes on has begun or hasn't: values come behind codes
abbrev pub may_follow : Bool → Place → Bool
may_follow begun (Codes k) = true
may_follow begun (Values k) = begun
may_follow begun Child = false
may_follow begun (Column n) = false

abbrev pub is_codes : Place → Bool
is_codes (Codes k) = true
is_codes (Values k) = false
is_codes Child = false
is_codes (Column n) = false

abbrev pub rows_of : Place → ChunkData → ℕ
rows_of (Codes k) c = length (cells c)
rows_of (Values k) c = 0
rows_of Child c = 0
rows_of (Column n) c = 0

-- ---- all of a chunk

abbrev pub behind_all : RunsSoFar → List Output → RunsSoFar
behind_all r [] = r
behind_all r (x ∷ xs) = behind_all (behind r x.0 x.1) xs

-- under the chunk's path, from this rank on
abbrev pub nexts_at : Coder → RunsSoFar → List ℕ → ℕ → List Output → List Next
nexts_at n r p rank [] = []
nexts_at n r p rank (x ∷ xs) = next_at n r x.0 (under p rank, x.1) ∷ nexts_at n (behind r x.0 x.1) p (suc rank) xs

abbrev pub are_runs : Bool → List Output → Bool
are_runs begun [] = true
are_runs begun (x ∷ xs) = may_follow begun x.0 && are_runs (is_codes x.0) xs

abbrev pub all_rows : List Output → ℕ
all_rows [] = 0
all_rows (x ∷ xs) = rows_of x.0 x.1 + all_rows xs

-- ---- refusals

-- a pointer would have come past 64 bits: one of these two
abbrev pub CutRefused : ℕ → ℕ → WriteError → Type 0
CutRefused eof below e = Refused None false [] (eof ∷ below ∷ []) [] none_past ⊥ [] e

-- What a node that regroups holds and counts.
use Rattle.std.specs.Prelude.{◌≡◌, ℕ, ◌+◌, ◌^◌, ◌<◌, not, Bool, true, false, List, [], ◌∷◌, ◌++◌, map, length, Option, Some, None}
use Rattle.vx_model.specs.Ty.{Ty, ty_eq}
use Rattle.vx_model.specs.ChunkData.{ChunkData, piece_type, held}
use Rattle.vx_rules.specs.Regroup.{ranked}
use Rattle.vx_rules.specs.Flushes.{concatenated}
use Rattle.vx_plan.specs.PlanData.{Item as Piece}
use Rattle.vx_machine_state.specs.State.{Mind, by_block, by_size, as_one, Next}
use Rattle.vx_machine_state.specs.Acts.{hand_all}
use Rattle.vx_regroup.specs.Rules.{tested_at, row_count}
use Rattle.vx_regroup.specs.Regrouping.{given_by, after}
use Rattle.vx_regroup.specs.declared.regroup.Regroup.{Regroup}
use Rattle.vx_regroup.specs.declared.regroup.Regroup.TheVariants.{Repartition, Buffered, Collect}
use Rattle.vx_machine_node.specs.declared.item.Item.{Item}
use Rattle.vx_machine_node.specs.Outcome.{AllFit}

-- ---- what is held

-- the chunks with the newest one
abbrev pub with_newest : List ChunkData → Option Item → List ChunkData
with_newest cs None = cs
with_newest cs (Some j) = cs ++ (j.chunk ∷ [])

-- the rule has the type; a buffer has each
abbrev pub is_of : Regroup → Ty → Bool
is_of (Repartition h) t = ty_eq h.typed t
is_of (Buffered h) t = true
is_of (Collect h) t = ty_eq h.typed t

-- whether a chunk has another type than the rule's
abbrev pub misfits : Regroup → ChunkData → Bool
misfits (Repartition h) c = not (ty_eq (piece_type c) h.typed)
misfits (Buffered h) c = false
misfits (Collect h) c = not (ty_eq (piece_type c) h.typed)

-- so does the newest one
abbrev pub misfit_in : Regroup → Option Item → Bool
misfit_in r None = false
misfit_in r (Some j) = misfits r j.chunk

abbrev pub is_collection : Regroup → Bool
is_collection (Collect h) = true
is_collection (Repartition h) = false
is_collection (Buffered h) = false

-- ---- what is counted

-- what the tracker counts of a chunk
abbrev pub weight_in : Regroup → ChunkData → ℕ
weight_in (Buffered h) c = held c
weight_in (Repartition h) c = 0
weight_in (Collect h) c = 0

-- and what there is a reservation of
abbrev pub reserved_of : Regroup → ChunkData → Option ℕ
reserved_of (Buffered h) c = Some (held c)
reserved_of (Repartition h) c = None
reserved_of (Collect h) c = None

-- of some chunks
abbrev pub sizes_of : Regroup → List ChunkData → List ℕ
sizes_of (Buffered h) cs = map held cs
sizes_of (Repartition h) cs = []
sizes_of (Collect h) cs = []

abbrev pub chunks_held : Regroup → List ChunkData
chunks_held (Buffered h) = h.chunks
chunks_held (Collect h) = h.chunks
chunks_held (Repartition h) = []

-- of all that is held
abbrev pub sizes_in : Regroup → Option Item → List ℕ
sizes_in r j = sizes_of r (with_newest (chunks_held r) j)

abbrev pub are_none : List ChunkData → Bool
are_none [] = true
are_none (c ∷ cs) = false

-- nothing is held before the first chunk came
abbrev pub is_idle : Regroup → Option Item → Bool
is_idle r None = are_none (chunks_held r)
is_idle r (Some j) = true

-- the rows of all chunks so far, where they are still held
abbrev pub rows_counted : Regroup → Option Item → ℕ → ℕ
rows_counted (Collect h) j rows = row_count (with_newest h.chunks j)
rows_counted (Repartition h) j rows = rows
rows_counted (Buffered h) j rows = rows

-- the tracker can count a chunk
abbrev pub Weighs : ℕ → Regroup → ChunkData → Type 0
Weighs counts (Buffered h) c = counts + held c < 2 ^ 64
Weighs counts (Repartition h) c = Unit {0}
Weighs counts (Collect h) c = Unit {0}

-- what is counted of a chunk by itself where it is taken
abbrev pub taken_sizes : Regroup → ChunkData → List ℕ
taken_sizes (Buffered h) c = held c ∷ []
taken_sizes (Repartition h) c = []
taken_sizes (Collect h) c = []

-- what is counted of a chunk that is acted on
abbrev pub numbers_of : Regroup → ChunkData → List ℕ
numbers_of (Repartition h) c = tested_at h c
numbers_of (Buffered h) c = []
numbers_of (Collect h) c = []

abbrev pub acted_numbers : Regroup → Option Item → List ℕ
acted_numbers r None = []
acted_numbers r (Some j) = numbers_of r j.chunk

-- the bytes of a reservation, if there is one
abbrev pub handed : Option ℕ → List ℕ
handed None = []
handed (Some n) = n ∷ []

-- ---- in plain data

abbrev pub piece_of : Item → Piece
piece_of j = (j.id, j.chunk)

abbrev pub newest_piece : Option Item → Option Piece
newest_piece None = None
newest_piece (Some j) = Some (piece_of j)

-- a collection's last path and all its chunks
abbrev pub collected_with : List ChunkData → Option Item → Option (List ℕ × List ChunkData)
collected_with cs None = None
collected_with cs (Some j) = Some (j.id, cs ++ (j.chunk ∷ []))

abbrev pub mind_in : Regroup → Option Item → ℕ → Mind
mind_in (Repartition h) j rows = by_block h.len h.minimum h.typed h.rows (newest_piece j) rows
mind_in (Buffered h) j rows = by_size h.size h.chunks (newest_piece j) rows
mind_in (Collect h) j rows = as_one h.typed (collected_with h.chunks j) rows

-- each of these is to be handed on, with what it has reserved
abbrev pub hands_of : Regroup → List Piece → List Next
hands_of r is = hand_all (weight_in r) is

-- the rule stands behind the newest chunk, and what leaves at it is to be done before what was; this is reserved then
pub record Left (r : Regroup) (j : Item) (next : Regroup) (reserved : List ℕ) (todo before : List Next) : Type 0 where
  pub next_is : next ≡ after r j.chunk
  pub sizes : reserved ≡ sizes_of next (chunks_held next)
  pub todo_is : todo ≡ hands_of r (ranked j.id 0 (given_by r j.chunk false)) ++ before
  pub numbers : AllFit (numbers_of r j.chunk)
  pub count : length (given_by r j.chunk false) < 2 ^ 64

-- where there is one
abbrev pub ActedOn : Regroup → Option Item → Regroup → List ℕ → List Next → List Next → Type 0
ActedOn r None next reserved todo before = (next ≡ r) × (reserved ≡ sizes_of r (chunks_held r)) × (todo ≡ before)
ActedOn r (Some j) next reserved todo before = Left r j next reserved todo before

-- ---- at the end

-- what is left: a collection's one chunk goes under the last path itself
abbrev pub rest_at : Regroup → Item → List Piece
rest_at (Repartition h) j = ranked j.id 0 (given_by (Repartition h) j.chunk true)
rest_at (Buffered h) j = ranked j.id 0 (given_by (Buffered h) j.chunk true)
rest_at (Collect h) j = (j.id, concatenated h.typed (h.chunks ++ (j.chunk ∷ []))) ∷ []

abbrev pub rest_hands : Regroup → Option Item → List Next
rest_hands r None = []
rest_hands r (Some j) = hands_of r (rest_at r j)

-- it can be counted
abbrev pub RestFits : Regroup → Option Item → Type 0
RestFits r None = Unit {0}
RestFits r (Some j) = AllFit (numbers_of r j.chunk) × (length (given_by r j.chunk true) < 2 ^ 64)

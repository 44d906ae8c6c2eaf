-- The three rules as one.
use Rattle.std.specs.Prelude.{◌≡◌, ℕ, Bool, List, [], ◌∷◌}
use Rattle.vx_model.specs.Ty.{Ty}
use Rattle.vx_model.specs.ChunkData.{ChunkData, piece_type}
use Rattle.vx_rules.specs.Flushes.{flushes}
use Rattle.vx_regroup.specs.Rules.{given, block_rule, rows_after, tested_at, chunks_after, weighed_at, collected_at, all_after, counted_at}
use Rattle.vx_regroup.specs.declared.regroup.Regroup.{Regroup}
use Rattle.vx_regroup.specs.declared.regroup.Regroup.TheVariants.{Repartition, Buffered, Collect}

-- ---- before the first chunk

abbrev pub new_blocks : Ty → ℕ → ℕ → Regroup
new_blocks t len minimum = Repartition (record { typed = t; len = len; minimum = minimum; rows = [] })

abbrev pub new_buffer : ℕ → Regroup
new_buffer size = Buffered (record { size = size; chunks = [] })

abbrev pub new_collection : Ty → Regroup
new_collection t = Collect (record { typed = t; chunks = [] })

-- ---- at a chunk

-- a chunk of the rule's type
abbrev pub Takes : Regroup → ChunkData → Type 0
Takes (Repartition h) c = piece_type c ≡ h.typed
Takes (Buffered h) c = Unit {0}
Takes (Collect h) c = piece_type c ≡ h.typed

-- what leaves
abbrev pub given_by : Regroup → ChunkData → Bool → List ChunkData
given_by (Repartition h) c last = given (block_rule h) h.rows c last
given_by (Buffered h) c last = given (flushes h.size) h.chunks c last
given_by (Collect h) c last = collected_at h c last

-- what is held behind it, where it isn't the last
abbrev pub after : Regroup → ChunkData → Regroup
after (Repartition h) c = Repartition (rows_after h c)
after (Buffered h) c = Buffered (chunks_after h c)
after (Collect h) c = Collect (all_after h c)

-- the numbers that have to fit 64 bits
abbrev pub numbers_at : Regroup → ChunkData → Bool → List ℕ
numbers_at (Repartition h) c last = tested_at h c
numbers_at (Buffered h) c last = weighed_at h c last
numbers_at (Collect h) c last = counted_at h c last

-- ---- behind a list of chunks, none of them the last

abbrev pub taken : Regroup → List ChunkData → Regroup
taken r [] = r
taken r (c ∷ cs) = taken (after r c) cs

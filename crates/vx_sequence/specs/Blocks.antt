-- How the entries are kept: in blocks, of which none is empty, so that a change moves few entries.
use Rattle.std.specs.Prelude.{◌≡◌, ℕ, ◌+◌, ◌<◌, List, length, take, drop, slice_index_or}
use Rattle.std.specs.List.{All, flat_map}
use Rattle.std.specs.Global.{Vec}
use Rattle.vx_sequence.specs.declared.entries.Entry.{Entry}
use Rattle.vx_sequence.specs.declared.blocks.Blocks.{Blocks}
use Rattle.vx_sequence.specs.declared.blocks.Place.{Place}
use Rattle.vx_sequence.specs.Entries.{AreBelow, IsBelow}

-- the entries of blocks, in order
abbrev pub all_of : List (Vec Entry) → List Entry
all_of bs = flat_map (λ (b : Vec Entry). b.items) bs

abbrev pub list_of : Blocks → List Entry
list_of b = all_of b.blocks.items

-- no block is empty, and the entries are counted
pub record AreFilled (b : Blocks) : Type 0 where
  pub filled : All (λ (c : Vec Entry). 0 < length c.items) b.blocks.items
  pub counted : b.count ≡ length (list_of b)

-- how many entries stand before a place
abbrev pub index_of : Blocks → Place → ℕ
index_of b p = length (all_of (take p.block b.blocks.items)) + p.at

-- an entry stands at the place
pub record IsPlace (b : Blocks) (p : Place) : Type 0 where
  pub block : p.block < length b.blocks.items
  pub at : (d : Vec Entry) → p.at < length (slice_index_or b.blocks.items p.block d).items

-- what stands in the blocks before block k is below p, and p is below what stands in the blocks behind it
pub record IsBlockOf (bs : List (Vec Entry)) (p : List ℕ) (k : ℕ) : Type 0 where
  pub within : k < length bs
  pub before : AreBelow (all_of (take k bs)) p
  pub behind : IsBelow p (all_of (drop (k + 1) bs))

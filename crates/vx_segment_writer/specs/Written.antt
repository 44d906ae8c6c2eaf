-- What was written of chunks behind what is there.
use Rattle.std.specs.Prelude.{◌≡◌, ℕ, Bool, List, ◌++◌, length, map, Option, None}
use Rattle.vx_model.specs.declared.encoding.EncodingId.{EncodingId}
use Rattle.vx_model.specs.Words.{joined_by}
use Rattle.vx_segment_writer.specs.Head.{Head, head_spelling}
use Rattle.vx_segment_writer.specs.Segment.{laid_out}

-- the buffers, and their lengths
pub record HasBuffers (padded : Bool) (out now lengths lengths_now : List ℕ) (bs : List (List ℕ)) : Type 0 where
  pub laid : now ≡ out ++ laid_out padded (length out) bs
  pub long : lengths_now ≡ lengths ++ map (λ b. length b) bs

-- the buffers and the nodes; no encoding was refused
pub record IsWritten (padded : Bool) (out now tree tree_now : List ℕ) (refusal : Option EncodingId) (bs : List (List ℕ)) (ns : List Head) : Type 0 where
  pub listed : refusal ≡ None
  pub laid : now ≡ out ++ laid_out padded (length out) bs
  pub spelled : tree_now ≡ tree ++ joined_by head_spelling ns

-- A refusal as an error of reading.
use Rattle.vx_layout_tree.specs.declared.error.LayoutError.{LayoutError}
use Rattle.vx_layout_tree.specs.declared.error.LayoutError.TheVariants as errors
use Rattle.vx_segment_map.specs.declared.error.ReadError.{ReadError}
use Rattle.vx_segment_map.specs.declared.error.ReadError.TheVariants.{Layout, OutOfMemory}

-- a refusal as an error of reading
abbrev pub read_error : LayoutError → ReadError
read_error errors.OutOfMemory = OutOfMemory
read_error e = Layout e

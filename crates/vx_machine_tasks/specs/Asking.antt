-- Which errors come where an image is asked for.
use Rattle.vx_write_answer.specs.declared.error.WriteError.{WriteError}
use Rattle.vx_write_answer.specs.declared.error.WriteError.TheVariants.{CompressFault}
use Rattle.vx_machine_node.specs.Causes.{MayCome}

-- the compressor's fault, and none of the sink
abbrev pub ImageMay : WriteError → Type 0
ImageMay CompressFault = Unit {0}
ImageMay e = MayCome e

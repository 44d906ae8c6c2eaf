-- What the readers return, as contracts see it.
use Rattle.std.specs.Prelude.{◌≡◌, ℕ, map, Result, Ok, Err}
use Rattle.vx_cell_codec.specs.declared.error.CellError.{CellError}
use Rattle.vx_cell_codec.specs.declared.error.CellError.TheVariants as cells
use Rattle.vx_segment_reader.specs.declared.node.Node.{Node}
use Rattle.vx_segment_reader.specs.declared.node.EncodingTree.{EncodingTree}
use Rattle.vx_segment_reader.specs.declared.node.RawSegment.{RawSegment}
use Rattle.vx_segment_reader.specs.declared.error.DecodeError.{DecodeError}
use Rattle.vx_segment_reader.specs.declared.error.DecodeError.TheVariants as errors
use Rattle.vx_segment_spec.specs.Reading.{Fault, bad_grammar, bad_type, RawTree}
use Rattle.vx_segment_writer.specs.Head.{Head}
use Rattle.vx_segment_reader.specs.declared.rest.Frame.{Frame as HeldFrame}
use Rattle.vx_segment_reader.specs.declared.rest.Rest.{Rest as HeldRest}
use Rattle.vx_segment_spec.specs.Pieces.{Frame, Rest}
use Rattle.vx_segment_spec.specs.Segment.{Raw}

-- the same fault; memory may run out
abbrev pub Fails : {Y : Type 0} → DecodeError → Result Y Fault → Type 0
Fails (errors.Grammar place) read = read ≡ Err (bad_grammar place)
Fails (errors.BadType node) read = read ≡ Err (bad_type node)
Fails errors.OutOfMemory read = Unit {0}

-- What a function returned, seen by `view`, is what reading gives, unless memory ran out.
abbrev pub Gives : {X Y : Type 0} → (X → Y) → Result X DecodeError → Result Y Fault → Type 0
Gives view (Ok x) read = read ≡ Ok (view x)
Gives view (Err e) read = Fails e read

abbrev pub head : Node → Head
head n = record { index = n.index; rows = n.rows; extra = n.extra; lengths = n.lengths.items; children = n.children }

abbrev pub raw_tree : EncodingTree → RawTree
raw_tree t = record { padded = t.padded; nodes = map head t.nodes.items }

abbrev pub raw : RawSegment → Raw
raw s = record { tree = raw_tree s.tree; buffers = map (λ b. b.now) s.buffers.items }

abbrev pub frame : HeldFrame → Frame
frame f = record { ids = f.ids.now; total = f.total }

abbrev pub rest : HeldRest → Rest
rest r = record { nodes = map head r.nodes.now; buffers = map (λ b. b.now) r.buffers.now }

-- the fault of node k where its cells can't be read
abbrev pub given_of : ℕ → CellError → DecodeError → Type 0
given_of k cells.NoCells e = e ≡ errors.BadType k
given_of k cells.OutOfMemory e = e ≡ errors.OutOfMemory

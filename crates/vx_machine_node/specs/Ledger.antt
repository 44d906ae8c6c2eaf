-- What is reserved in the tracker, against what it counts.
use Rattle.std.specs.Prelude.{◌≡◌, ℕ, ◌+◌, Bool, List, map, Option, Some, None, Result, Ok, Err}
use Rattle.vx_model.specs.declared.encoding.EncodingId.{EncodingId}
use Rattle.vx_sink.specs.declared.context.LayoutWriterContext.{LayoutWriterContext}
use Rattle.vx_sink.specs.ContextView.{listed, allowed_in, is_marked, counted}
use Rattle.vx_machine_node.specs.declared.grouped_node.GroupedNode.{GroupedNode}
use Rattle.vx_machine_node.specs.declared.item.Due.{Due}
use Rattle.vx_machine_node.specs.declared.item.Due.TheVariants.{Put, HandOn, Append, Close, Join, Table, Leave, Press, Ask, OpenRun, EndRun}
use Rattle.vx_machine_node.specs.declared.node.Local.{Local}
use Rattle.vx_machine_node.specs.declared.node.Local.TheVariants.{Empty, Full, Chunked, Columns, Lists, Grouped, Over, Passing, Made, Zoned, Pressing, AsIs, Probe, Asking, Runs}
use Rattle.vx_machine_node.specs.Sizes.{sum_of}

-- ---- how much is reserved

abbrev pub some_bytes : Option ℕ → ℕ
some_bytes None = 0
some_bytes (Some n) = n

abbrev pub due_reserved : Due → ℕ
due_reserved (HandOn i r) = some_bytes r
due_reserved (Put child i) = 0
due_reserved (Press which i) = 0
due_reserved (Append s) = 0
due_reserved Close = 0
due_reserved (Join h) = 0
due_reserved (Table t) = 0
due_reserved (Leave e) = 0
due_reserved (Ask p) = 0
due_reserved (OpenRun r i) = 0
due_reserved (EndRun child i) = 0

abbrev pub dues_reserved : List Due → ℕ
dues_reserved ds = sum_of (map due_reserved ds)

abbrev pub node_reserved : GroupedNode → ℕ
node_reserved n = sum_of n.reserved.items

abbrev pub local_reserved : Local → ℕ
local_reserved (Grouped n) = node_reserved n
local_reserved (Empty n) = 0
local_reserved (Full s) = 0
local_reserved (Chunked n eof rows) = 0
local_reserved (Columns n rows) = 0
local_reserved (Lists n rows) = 0
local_reserved (Zoned n) = 0
local_reserved (Pressing which) = 0
local_reserved AsIs = 0
local_reserved (Probe n eof) = 0
local_reserved Asking = 0
local_reserved (Runs r) = 0
local_reserved Over = 0
local_reserved Passing = 0
local_reserved (Made l) = 0

-- of an answer: nothing where there is none
abbrev pub ok_bytes : {A E : Type 0} → (A → ℕ) → Result A E → ℕ
ok_bytes f (Ok x) = f x
ok_bytes f (Err e) = 0

-- ---- against what is counted

-- What one that had reserved so much has reserved or released is what it has reserved now more or less, and the tracker counts as
-- much more or less. Nothing else was reserved or released.
abbrev pub Paid : LayoutWriterContext → LayoutWriterContext → ℕ → ℕ → Type 0
Paid before after had has = counted after + had ≡ counted before + has

-- what a context tells besides
unfoldable pub told_by : LayoutWriterContext → List EncodingId × (Option (List (List ℕ)) × Bool)
told_by ctx = (listed ctx, (allowed_in ctx, is_marked ctx))

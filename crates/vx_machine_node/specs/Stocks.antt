-- What the parts of a machine hold.
use Rattle.std.specs.Prelude.{List}
use Rattle.vx_machine_ids.specs.Stock.{Stock, none, both, id_stock, end_stock, all_stock, some_stock}
use Rattle.vx_machine_node.specs.declared.dict_node.DictProbe.{DictProbe}
use Rattle.vx_machine_node.specs.declared.dict_node.DictRuns.{DictRuns}
use Rattle.vx_machine_node.specs.declared.dict_node.RunStart.{RunStart}
use Rattle.vx_machine_node.specs.declared.grouped_node.GroupedNode.{GroupedNode}
use Rattle.vx_machine_node.specs.declared.item.Item.{Item}
use Rattle.vx_machine_node.specs.declared.item.Stored.{Stored}
use Rattle.vx_machine_node.specs.declared.item.Due.{Due}
use Rattle.vx_machine_node.specs.declared.item.Due.TheVariants.{Put, HandOn, Append, Close, Join, Table, Leave, Press, Ask, OpenRun, EndRun}
use Rattle.vx_machine_node.specs.declared.node.Local.{Local}
use Rattle.vx_machine_node.specs.declared.node.Local.TheVariants.{Empty, Full, Chunked, Columns, Lists, Grouped, Over, Passing, Made, Zoned, Pressing, AsIs, Probe, Asking, Runs}
use Rattle.vx_machine_node.specs.declared.zoned_node.ZonedNode.{ZonedNode}
use Rattle.vx_machine_node.specs.declared.zoned_node.TableStart.{TableStart}

abbrev pub item_stock : Item → Stock
item_stock i = id_stock i.id

abbrev pub items_stock : List Item → Stock
items_stock xs = all_stock item_stock xs

abbrev pub stored_stock : Stored → Stock
stored_stock s = id_stock s.id

abbrev pub zoned_stock : ZonedNode → Stock
zoned_stock n = end_stock n.eof

abbrev pub table_stock : TableStart → Stock
table_stock t = end_stock t.eof

abbrev pub probe_stock : DictProbe → Stock
probe_stock p = both (end_stock p.pointer) (item_stock p.item)

abbrev pub runs_stock : DictRuns → Stock
runs_stock r = both (item_stock r.newest) (end_stock r.runs.pointer)

abbrev pub run_stock : RunStart → Stock
run_stock r = both (id_stock r.codes) (id_stock r.values)

abbrev pub due_stock : Due → Stock
due_stock (Put child i) = item_stock i
due_stock (HandOn i r) = item_stock i
due_stock (Press which i) = item_stock i
due_stock (Append s) = stored_stock s
due_stock Close = none
due_stock (Join h) = none
due_stock (Table t) = table_stock t
due_stock (Leave e) = end_stock e
due_stock (Ask p) = probe_stock p
due_stock (OpenRun r i) = both (run_stock r) (item_stock i)
due_stock (EndRun child i) = item_stock i

abbrev pub dues_stock : List Due → Stock
dues_stock xs = all_stock due_stock xs

abbrev pub node_stock : GroupedNode → Stock
node_stock n = some_stock item_stock n.newest

abbrev pub local_stock : Local → Stock
local_stock (Empty n) = none
local_stock (Full s) = stored_stock s
local_stock (Chunked n eof rows) = end_stock eof
local_stock (Columns n rows) = none
local_stock (Lists n rows) = none
local_stock (Grouped n) = node_stock n
local_stock (Zoned n) = zoned_stock n
local_stock (Pressing which) = none
local_stock AsIs = none
local_stock (Probe n eof) = end_stock eof
local_stock Asking = none
local_stock (Runs r) = runs_stock r
local_stock Over = none
local_stock Passing = none
local_stock (Made l) = none

-- Where the batches' paths come from.
use Rattle.std.specs.Prelude.{ℕ}
use Rattle.vx_named_tasks.specs.Names as plain
use Rattle.vx_machine_ids.specs.Stock.{Stock, end_stock, ids_stock}
use Rattle.vx_machine_view.specs.Machine.{Phase, reading, giving, closing, finished}
use Rattle.vx_machine.specs.declared.names.Names.{Names}
use Rattle.vx_machine.specs.declared.names.Names.TheVariants.{Onward, Handed}

abbrev pub names_stock : Names → Stock
names_stock (Onward e) = end_stock e
names_stock (Handed ids) = ids_stock ids.items

-- in plain data
abbrev pub names_of : Names → plain.Names
names_of (Onward e) = plain.onward e
names_of (Handed ids) = plain.handed ids.items

-- there are paths for so many batches: a pointer has one for each, and of ids there are as many
abbrev pub HasNames : Phase → ℕ → Type 0
HasNames (reading ns) n = plain.CanName ns n
HasNames (giving ns i) n = plain.CanName ns n
HasNames closing n = Unit {0}
HasNames finished n = Unit {0}

use Rattle.std.proofs.Common.{List, Bool, Option, subst, arith}
use Rattle.vx_cell_codec.specs.Views.{Gives}
use Rattle.vx_cell_codec.proofs.ColumnLaws.{flags_found, flags_again}
use Rattle.vx_cell_codec.proofs.columns.read_flags.Goals as goal

pub returns-clause-found : goal.returns-clause-found
returns-clause-found c = flags_found c.args.rows c.args.bytes.now c.all_flags.result (λ i. omega (arith, c.type_inv.bytes i)) c.all_flags.ensures

pub returns-clause-only : goal.returns-clause-only
returns-clause-only c = λ xs known. subst (λ (o : Option (List Bool)). Gives (λ v. v.items) c.all_flags.result o) (flags_again c.args.rows c.args.bytes.now xs known) c.all_flags.ensures

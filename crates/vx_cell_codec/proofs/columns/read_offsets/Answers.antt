use Rattle.std.proofs.Common.{List, ℕ, Option, subst, arith}
use Rattle.vx_cell_codec.specs.Views.{Gives}
use Rattle.vx_cell_codec.proofs.ColumnLaws.{offsets_found, offsets_again}
use Rattle.vx_cell_codec.proofs.columns.read_offsets.Goals as goal

pub returns-clause-found : goal.returns-clause-found
returns-clause-found c = offsets_found c.args.rows c.args.bytes.now c.all_offsets.result (λ i. omega (arith, c.type_inv.bytes i)) c.all_offsets.ensures

pub returns-clause-only : goal.returns-clause-only
returns-clause-only c = λ xs known. subst (λ (o : Option (List ℕ)). Gives (λ v. v.items) c.all_offsets.result o) (offsets_again c.args.rows c.args.bytes.now xs known) c.all_offsets.ensures

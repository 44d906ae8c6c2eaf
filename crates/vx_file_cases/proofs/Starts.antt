-- What the pointer of a whole universe holds.
use Rattle.std.proofs.Common.{◌≡◌, sym, subst, ◌∙◌}
use Rattle.vx_path.specs.Path.{Eof}
use Rattle.vx_sequence.specs.Universe.{Active, root, only}
use Rattle.vx_machine_ids.specs.Stock.{end_stock}
use Rattle.vx_machine_ids.specs.Balance.{Owned}
use Rattle.vx_machine_ids.proofs.Roots.{only_owned}

pub start_owned : (u v : Active) (e : Eof) → v ≡ u → u ≡ only root → e ≡ root → Owned v (end_stock e)
start_owned u v e i j k = subst (λ (x : Eof). Owned v (end_stock x)) (sym k) (subst (λ (x : Active). Owned x (end_stock root)) (sym (i ∙ j)) (only_owned root))

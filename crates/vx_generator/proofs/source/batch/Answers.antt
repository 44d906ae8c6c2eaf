use Rattle.std.proofs.Common.{◌≡◌, true, sym, subst, arith}
use Rattle.vx_model.specs.Words.{all_by}
use Rattle.vx_model.specs.Ty.{ty_eq}
use Rattle.vx_model.specs.TyView.{ty}
use Rattle.vx_model.specs.CellData.{fits}
use Rattle.vx_generator.specs.Generated.{table_type}
use Rattle.vx_generator.proofs.RowFits.{rows_fit}
use Rattle.vx_generator.proofs.source.batch.Goals as goal

pub plain-requires : goal.plain-requires
plain-requires c =
    let t = ty c.in_ok-dtype.dtype in
    let typed : ty_eq t table_type ≡ true = subst (λ u. ty_eq u table_type ≡ true) (sym c.in_ok-dtype.ensures.cases) c.requires.typed in
    subst (λ xs. all_by (fits t) xs ≡ true) (sym c.in_ok-rows.ensures) (rows_fit t c.args.first c.args.count typed (omega (arith, c.requires.within)))

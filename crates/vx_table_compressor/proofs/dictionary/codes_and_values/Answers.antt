use Rattle.std.proofs.Common.{◌≡◌, ◌<◌, length, subst, arith}
use Rattle.vx_typed.specs.Lent.{lent_cell}
use Rattle.vx_column.specs.ColumnView.{column_cells}
use Rattle.vx_compressor_spec.specs.TableImage.{distinct}
use Rattle.vx_table_compressor.proofs.CodeSteps.{plain_at, values_more, codes_more, too_many}
use Rattle.vx_table_compressor.proofs.dictionary.codes_and_values.Goals as goal

pub returns-then-count-most : goal.returns-then-count-most
returns-then-count-most c =
    too_many (column_cells c.args.column.now) c.loop-row.row (lent_cell c.row.result) c.loop-row.values c.place.new.values (distinct (column_cells c.args.column.now)) c.args.most c.len-count.result
    (subst (λ n. c.loop-row.row < n) c.len-rows.ensures c.loop-row-test.true) c.row.ensures c.in_ok-code.ensures.values c.loop-row.invariant.values c.len-count.ensures c.if-count-most.true

pub loop-row-preserved : goal.loop-row-preserved
loop-row-preserved c = record {
  few = let n : c.len-count.result ≡ length c.place.new.values = c.len-count.ensures in omega (arith, c.if-count-most.false);
  values = values_more (column_cells c.args.column.now) c.loop-row.row (lent_cell c.row.result) c.loop-row.values c.place.new.values (distinct (column_cells c.args.column.now)) (subst (λ n. c.loop-row.row < n) c.len-rows.ensures c.loop-row-test.true) c.row.ensures c.in_ok-code.ensures.values
      c.loop-row.invariant.values;
  codes = codes_more (column_cells c.args.column.now) c.loop-row.row (lent_cell c.row.result) c.code_cell.result c.loop-row.values c.place.new.values (distinct (column_cells c.args.column.now)) c.loop-row.codes.items c.push.new.self.items c.in_ok-code.code _
      (subst (λ n. c.loop-row.row < n) c.len-rows.ensures c.loop-row-test.true) c.row.ensures (plain_at (column_cells c.args.column.now) c.loop-row.row (lent_cell c.row.result) (subst (λ n. c.loop-row.row < n) c.len-rows.ensures c.loop-row-test.true) c.row.ensures c.requires) c.in_ok-code.ensures.values c.loop-row.invariant.values c.in_ok-code.ensures.place
      c.code_cell.ensures c.in_ok-push.ensures.items c.loop-row.invariant.codes;
}

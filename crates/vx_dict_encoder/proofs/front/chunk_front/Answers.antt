use Rattle.std.proofs.Common.{map, ap, ◌∙◌}
use Rattle.vx_model.specs.Words.{all_by}
use Rattle.vx_model.specs.CellData.{fits}
use Rattle.vx_model.specs.TyView.{ty}
use Rattle.vx_model.specs.TreeView.{tree}
use Rattle.vx_column.specs.ColumnView.{column_cells}
use Rattle.vx_strategy_options.specs.OptionViews.{dict_options}
use Rattle.vx_dict_encoder.proofs.Steps.{front_stands, codes_coded}
use Rattle.vx_dict_encoder.proofs.front.chunk_front.Goals as goal

pub returns-in-Some-clause-standing : goal.returns-in-Some-clause-standing
returns-in-Some-clause-standing c =
    front_stands (dict_options c.args.limits 0) (ty c.args.dtype.now) c.args.values.now.distinct (column_cells c.in-Some.column.now) c.front.new.values.distinct c.args.values.now.cost c.front.new.values.cost
    c.requires.standing (ap (all_by (fits (ty c.args.dtype.now))) c.in-Some.ensures.cells ∙ c.requires.fit) c.in_ok-front.ensures.distinct c.in_ok-front.ensures.running

pub returns-clause-standing : goal.returns-clause-standing
returns-clause-standing c =
    front_stands (dict_options c.args.limits 0) (ty c.args.dtype.now) c.args.values.now.distinct (map tree c.in_ok-cells.cells.items) c.front-2.new.values.distinct c.args.values.now.cost c.front-2.new.values.cost
    c.requires.standing (ap (all_by (fits (ty c.args.dtype.now))) c.in_ok-cells.ensures.cells ∙ c.requires.fit) c.in_ok-front-2.ensures.distinct c.in_ok-front-2.ensures.running

pub returns-clause-coded : goal.returns-clause-coded
returns-clause-coded c =
    codes_coded (dict_options c.args.limits 0) (ty c.args.dtype.now) c.args.values.now.distinct (map tree c.in_ok-cells.cells.items) c.args.values.now.cost c.in_ok-front-2.field-0.items
    c.requires.standing (ap (all_by (fits (ty c.args.dtype.now))) c.in_ok-cells.ensures.cells ∙ c.requires.fit) c.in_ok-front-2.ensures.codes

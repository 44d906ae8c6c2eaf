-- The columns' layouts, and which refusal is told, as where they are joined.
pub use Rattle.vx_column_layouts.specs.Numbers.{ColumnOutcome, AllDone, AllIn, StandsIn, AllStandIn, layouts_by, is_stop, IsOwn, AllOk, HasOwn, IsFirstOwn}

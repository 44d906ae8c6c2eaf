use Rattle.std.proofs.Common.{refl, ◌∙◌, sym}
use Rattle.vx_layout_tree.specs.LayoutView.{layout_data}
use Rattle.vx_layout_slots.proofs.SlotSteps.{rows_before_are, rows_behind_are}
use Rattle.vx_layout_slots.proofs.slot_walk.row_behind.Goals as goal

pub rows_through-requires : goal.rows_through-requires
rows_through-requires c =
    record {
      all = c.in-Chunked.ensures.2 ∙ sym c.row_count.ensures;
      before = rows_before_are (layout_data c.args.layout.now) c.in-Chunked.children.now c.args.at.slot c.args.at.row c.in-Chunked.ensures.0 c.in-Chunked.ensures.1 c.requires;
    }

pub returns-in-Chunked : goal.returns-in-Chunked
returns-in-Chunked c = rows_behind_are (layout_data c.args.layout.now) c.in-Chunked.children.now _ _ c.in-Chunked.ensures.0 c.in-Chunked.ensures.1 c.rows_through.ensures

pub returns-in-Flat : goal.returns-in-Flat
returns-in-Flat c = rw c.in-Flat.ensures refl

pub returns-in-Struct : goal.returns-in-Struct
returns-in-Struct c = rw c.in-Struct.ensures.0 refl

pub returns-in-List : goal.returns-in-List
returns-in-List c = rw c.in-List.ensures.0 refl

pub returns-in-Dict : goal.returns-in-Dict
returns-in-Dict c = rw c.in-Dict.ensures.0 refl

pub returns-in-Zoned : goal.returns-in-Zoned
returns-in-Zoned c = rw c.in-Zoned.ensures.0 refl

pub returns-in-Unread : goal.returns-in-Unread
returns-in-Unread c = rw c.in-Unread.ensures.0 refl

pub returns-in-LegacyStats : goal.returns-in-LegacyStats
returns-in-LegacyStats c = rw c.in-LegacyStats.ensures.0 refl

pub returns-in-Foreign : goal.returns-in-Foreign
returns-in-Foreign c = rw c.in-Foreign.ensures.0 refl

use Rattle.vx_layout_build.proofs.open.with_built.Goals as goal

pub from_parts-requires : goal.from_parts-requires
from_parts-requires c = rw c.in-List.is at c.requires

pub returns-in-List : goal.returns-in-List
returns-in-List c = rw c.in-List.is c.from_parts.ensures

pub from_parts-requires-in-Dict : goal.from_parts-requires-in-Dict
from_parts-requires-in-Dict c = tt

pub returns-in-Dict : goal.returns-in-Dict
returns-in-Dict c = rw c.in-Dict.is c.from_parts-in-Dict.ensures

pub from_parts-requires-in-Zoned : goal.from_parts-requires-in-Zoned
from_parts-requires-in-Zoned c = rw c.in-Zoned.is at c.requires

pub returns-in-Zoned : goal.returns-in-Zoned
returns-in-Zoned c = rw c.in-Zoned.is c.from_parts-in-Zoned.ensures

pub from_parts-requires-in-Unread : goal.from_parts-requires-in-Unread
from_parts-requires-in-Unread c = tt

pub returns-in-Unread : goal.returns-in-Unread
returns-in-Unread c = rw c.in-Unread.is c.from_parts-in-Unread.ensures

pub from_parts-requires-in-LegacyStats : goal.from_parts-requires-in-LegacyStats
from_parts-requires-in-LegacyStats c = rw c.in-LegacyStats.is at c.requires

pub returns-in-LegacyStats : goal.returns-in-LegacyStats
returns-in-LegacyStats c = rw c.in-LegacyStats.is c.from_parts-in-LegacyStats.ensures

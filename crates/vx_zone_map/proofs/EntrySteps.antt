-- The entries of a record, one by one.
use Rattle.std.proofs.Common.{◌≡◌, ℕ, ◌+◌, ◌<◌, ◌||◌, List, length, get_or, drop, refl}
use Rattle.std.proofs.lemmas.List.{drop_more, drop_all}
use Rattle.vx_model.specs.Ty.{Ty}
use Rattle.vx_zone_map.specs.declared.columns.ZoneColumn.{ZoneColumn}
use Rattle.vx_zone_map.specs.declared.zone.Test.{Test}
use Rattle.vx_zone_map.specs.Columns.{name_in, seen_values, value_at, entries}
use Rattle.vx_zone_map.specs.Tests.{passes, some_passes}

pub drop_entries : (t : Ty) (test : Test) (z : ℕ) (xs : List ZoneColumn) (i : ℕ) (c : ZoneColumn) → i < length xs → c ≡ get_or xs i c
    → some_passes t test (entries z (drop i xs)) ≡ (passes t test (name_in c) (value_at z (seen_values c)) || some_passes t test (entries z (drop (i + 1) xs)))
drop_entries t test z xs i c lt is = rw (drop_more xs i c lt, ← is) refl

pub ruleset entry_rules = (drop_entries, drop_all)

-- The types of tables of statistics.
use Rattle.std.specs.Prelude.{false, List, [], ◌∷◌, codes, Option, Some, None}
use Rattle.vx_model.specs.Words.{joined_by}
use Rattle.vx_model.specs.Ty.{Ty, Named, boolean, struct, tys_of}
pub use Rattle.vx_aggregate_spec.specs.Tables.{column_field, stats_table}
use Rattle.vx_aggregate.specs.Stats.{stat_name, stat_state}
use Rattle.vx_aggregate.specs.declared.stat.Stat.{Stat}
use Rattle.vx_aggregate.specs.declared.stat.Stat.TheVariants as stats

-- maximum and minimum are followed by a flag that says whether they were cut
abbrev pub cut_flag : Stat → List Named
cut_flag stats.Max = (codes "max_is_truncated", boolean false) ∷ []
cut_flag stats.Min = (codes "min_is_truncated", boolean false) ∷ []
cut_flag stats.Sum = []
cut_flag stats.NullCount = []
cut_flag stats.UncompressedSizeInBytes = []

abbrev pub named_state : Stat → Option Ty → List Named
named_state s None = []
named_state s (Some t) = (stat_name s, t) ∷ cut_flag s

abbrev pub stat_fields : Ty → Stat → List Named
stat_fields t s = named_state s (stat_state s t)

-- a struct with the fields of each statistic that has a state on the column's type
abbrev pub legacy_table : Ty → List Stat → Ty
legacy_table t ss = struct (tys_of (joined_by (stat_fields t) ss)) false

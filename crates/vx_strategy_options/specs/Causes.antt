-- Why options are refused; memory may run out.
use Rattle.std.specs.Prelude.{◌≡◌, ℕ, ◌<◌, ◌≤◌, ◌^◌, ◌⊎◌}
use Rattle.vx_strategy_options.specs.declared.error.BuildError.{BuildError}
use Rattle.vx_strategy_options.specs.declared.error.BuildError.TheVariants.{ZeroBlockLen, ZeroConcurrency, ZoneLength, OutOfMemory}
use Rattle.vx_strategy_options.specs.declared.options.RepartitionWriterOptions.{RepartitionWriterOptions}
use Rattle.vx_strategy_options.specs.declared.options.ZonedLayoutOptions.{ZonedLayoutOptions}

abbrev pub ZeroConcurrencyOf : ℕ → BuildError → Type 0
ZeroConcurrencyOf n ZeroConcurrency = n ≡ 0
ZeroConcurrencyOf n OutOfMemory = Unit {0}
ZeroConcurrencyOf n e = ⊥

abbrev pub ZeroBlockLenOf : RepartitionWriterOptions → BuildError → Type 0
ZeroBlockLenOf o ZeroBlockLen = o.block_len_multiple ≡ 0
ZeroBlockLenOf o OutOfMemory = Unit {0}
ZeroBlockLenOf o e = ⊥

-- zones of 1 to 2^32 - 1 rows
abbrev pub IsZoneLength : ℕ → Type 0
IsZoneLength n = (0 < n) × (n < 2 ^ 32)

-- with a concurrency of at least 1
abbrev pub AreZones : ZonedLayoutOptions → Type 0
AreZones o = IsZoneLength o.block_size × (0 < o.concurrency)

-- the zone's length is looked at first
abbrev pub NoZonesOf : ZonedLayoutOptions → BuildError → Type 0
NoZonesOf o (ZoneLength n) = (n ≡ o.block_size) × ((n ≡ 0) ⊎ (2 ^ 32 ≤ n))
NoZonesOf o ZeroConcurrency = IsZoneLength o.block_size × (o.concurrency ≡ 0)
NoZonesOf o OutOfMemory = Unit {0}
NoZonesOf o e = ⊥

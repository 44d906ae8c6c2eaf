-- Strategies as trees of numbers, one to one: by this a proof tells two strategies apart.
use Rattle.std.specs.Prelude.{◌≡◌, ℕ, zero, suc, true, false, List, [], ◌∷◌, Option, Some, None, refl}
use Rattle.std.specs.Coded.{Coded, code_by}
use base.Stored.{Gv, gnil, gnum, gcons}
use denote.Struct.Codes.{itself}
use Rattle.vx_aggregate_spec.specs.Aggregate.{Aggregate, maximum, minimum, bounded_maximum, bounded_minimum, null_count, sum, bloom}
use Rattle.vx_rules.specs.Blocks.{BlockOptions}
use Rattle.vx_rules.specs.Runs.{DictOptions}
use Rattle.vx_strategy_spec.specs.StrategyData.{StrategyData, StrategyList, Wraps, FlatOptions, ZonedOptions, Grouping, by_blocks, by_bytes, into_one, flat, chunked, grouped, compressed, coded, zoned, structured, listed, tabled, no_ways, way_at, no_wraps, wrap_grouped, wrap_zoned}
use Rattle.vx_model.specs.Codes.{flag, flag_of, flag_back, number_of, numbers, numbers_of, numbers_back}

-- ---- parts

abbrev pub names : List (List ℕ) → Gv
names [] = gnil
names (n ∷ ns) = gcons (numbers n) (names ns)

abbrev pub names_of : Gv → List (List ℕ)
names_of (gcons a b) = numbers_of a ∷ names_of b
names_of g = []

pub names_back : (ns : List (List ℕ)) → names_of (names ns) ≡ ns
names_back [] = refl
names_back (n ∷ ns) = cc (numbers_back n, names_back ns)

abbrev pub maybe : Option ℕ → Gv
maybe None = gnil
maybe (Some n) = gnum n

abbrev pub maybe_of : Gv → Option ℕ
maybe_of (gnum n) = Some n
maybe_of g = None

pub maybe_back : (o : Option ℕ) → maybe_of (maybe o) ≡ o
maybe_back None = refl
maybe_back (Some n) = refl

-- ---- aggregates

abbrev pub aggregate_code : Aggregate → Gv
aggregate_code maximum = gcons (gnum 0) (gnum 0)
aggregate_code minimum = gcons (gnum 1) (gnum 0)
aggregate_code null_count = gcons (gnum 2) (gnum 0)
aggregate_code sum = gcons (gnum 3) (gnum 0)
aggregate_code (bounded_maximum n) = gcons (gnum 4) (gnum n)
aggregate_code (bounded_minimum n) = gcons (gnum 5) (gnum n)
aggregate_code (bloom n) = gcons (gnum 6) (gnum n)

abbrev pub aggregate_of : Gv → Aggregate
aggregate_of (gcons (gnum zero) n) = maximum
aggregate_of (gcons (gnum (suc zero)) n) = minimum
aggregate_of (gcons (gnum (suc (suc zero))) n) = null_count
aggregate_of (gcons (gnum (suc (suc (suc zero)))) n) = sum
aggregate_of (gcons (gnum (suc (suc (suc (suc zero))))) n) = bounded_maximum (number_of n)
aggregate_of (gcons (gnum (suc (suc (suc (suc (suc zero)))))) n) = bounded_minimum (number_of n)
aggregate_of (gcons (gnum (suc (suc (suc (suc (suc (suc k))))))) n) = bloom (number_of n)
aggregate_of g = maximum

pub aggregate_back : (a : Aggregate) → aggregate_of (aggregate_code a) ≡ a
aggregate_back maximum = refl
aggregate_back minimum = refl
aggregate_back null_count = refl
aggregate_back sum = refl
aggregate_back (bounded_maximum n) = refl
aggregate_back (bounded_minimum n) = refl
aggregate_back (bloom n) = refl

abbrev pub aggregates_code : List Aggregate → Gv
aggregates_code [] = gnil
aggregates_code (a ∷ aggregates) = gcons (aggregate_code a) (aggregates_code aggregates)

abbrev pub aggregates_of : Gv → List Aggregate
aggregates_of (gcons a b) = aggregate_of a ∷ aggregates_of b
aggregates_of g = []

pub aggregates_back : (aggregates : List Aggregate) → aggregates_of (aggregates_code aggregates) ≡ aggregates
aggregates_back [] = refl
aggregates_back (a ∷ aggregates) = cc (aggregate_back a, aggregates_back aggregates)

abbrev pub asked : Option (List Aggregate) → Gv
asked None = gnum 0
asked (Some aggregates) = aggregates_code aggregates

abbrev pub asked_of : Gv → Option (List Aggregate)
asked_of (gnum n) = None
asked_of g = Some (aggregates_of g)

pub asked_back : (o : Option (List Aggregate)) → asked_of (asked o) ≡ o
asked_back None = refl
asked_back (Some []) = refl
asked_back (Some (a ∷ aggregates)) = cc (aggregate_back a, aggregates_back aggregates)

-- ---- options

abbrev pub flat_code : FlatOptions → Gv
flat_code o = gcons (flag o.padding) (flag o.inline)

abbrev pub flat_of : Gv → FlatOptions
flat_of (gcons a b) = record { padding = flag_of a; inline = flag_of b }
flat_of g = record { padding = true; inline = false }

pub flat_back : (o : FlatOptions) → flat_of (flat_code o) ≡ o
flat_back o = rw (flag_back o.padding, flag_back o.inline) refl

abbrev pub blocks_code : BlockOptions → Gv
blocks_code o = gcons (gnum o.minimum) (gcons (gnum o.multiple) (gcons (maybe o.target) (flag o.canonicalize)))

abbrev pub blocks_of : Gv → BlockOptions
blocks_of (gcons a (gcons b (gcons c d))) = record { minimum = number_of a; multiple = number_of b; target = maybe_of c; canonicalize = flag_of d }
blocks_of g = record { minimum = 0; multiple = 1; target = None; canonicalize = false }

pub blocks_back : (o : BlockOptions) → blocks_of (blocks_code o) ≡ o
blocks_back o = rw (maybe_back o.target, flag_back o.canonicalize) refl

abbrev pub grouping_code : Grouping → Gv
grouping_code (by_blocks o) = gcons (gnum 0) (blocks_code o)
grouping_code (by_bytes size) = gcons (gnum 1) (gnum size)
grouping_code into_one = gnil

abbrev pub grouping_of : Gv → Grouping
grouping_of (gcons (gnum zero) o) = by_blocks (blocks_of o)
grouping_of (gcons (gnum (suc k)) n) = by_bytes (number_of n)
grouping_of g = into_one

pub grouping_back : (g : Grouping) → grouping_of (grouping_code g) ≡ g
grouping_back (by_blocks o) = cc (blocks_back o)
grouping_back (by_bytes size) = refl
grouping_back into_one = refl

abbrev pub dict_code : DictOptions → Gv
dict_code o = gcons (gnum o.max_bytes) (gcons (gnum o.max_len) (gnum o.probe))

abbrev pub dict_of : Gv → DictOptions
dict_of (gcons a (gcons b c)) = record { max_bytes = number_of a; max_len = number_of b; probe = number_of c }
dict_of g = record { max_bytes = 0; max_len = 0; probe = 0 }

pub dict_back : (o : DictOptions) → dict_of (dict_code o) ≡ o
dict_back o = refl

abbrev pub zoned_code : ZonedOptions → Gv
zoned_code o = gcons (gnum o.zone_len) (gcons (asked o.aggregates) (gnum o.concurrency))

abbrev pub zoned_of : Gv → ZonedOptions
zoned_of (gcons a (gcons b c)) = record { zone_len = number_of a; aggregates = asked_of b; concurrency = number_of c }
zoned_of g = record { zone_len = 1; aggregates = None; concurrency = 1 }

pub zoned_back : (o : ZonedOptions) → zoned_of (zoned_code o) ≡ o
zoned_back o = rw (asked_back o.aggregates) refl

-- ---- strategies

abbrev mutual
  pub to_code : StrategyData → Gv
  to_code (flat o) = gcons (gnum 0) (flat_code o)
  to_code (chunked w) = gcons (gnum 1) (to_code w)
  to_code (grouped g w) = gcons (gnum 2) (gcons (grouping_code g) (to_code w))
  to_code (compressed which room w) = gcons (gnum 3) (gcons (gnum which) (gcons (gnum room) (to_code w)))
  to_code (coded o c v f) = gcons (gnum 4) (gcons (dict_code o) (gcons (to_code c) (gcons (to_code v) (to_code f))))
  to_code (zoned o w stats) = gcons (gnum 5) (gcons (zoned_code o) (gcons (to_code w) (to_code stats)))
  to_code (structured v d ws) = gcons (gnum 6) (gcons (to_code v) (gcons (to_code d) (to_codes ws)))
  to_code (listed e o v f) = gcons (gnum 7) (gcons (to_code e) (gcons (to_code o) (gcons (to_code v) (to_code f))))
  to_code (tabled v l ws lists wraps) = gcons (gnum 8) (gcons (to_code v) (gcons (to_code l) (gcons (to_codes ws) (gcons (flag lists) (wraps_code wraps)))))

  pub to_codes : StrategyList → Gv
  to_codes no_ways = gnil
  to_codes (way_at path w ws) = gcons (names path) (gcons (to_code w) (to_codes ws))

  pub wraps_code : Wraps → Gv
  wraps_code no_wraps = gnil
  wraps_code (wrap_grouped g ws) = gcons (gnum 0) (gcons (grouping_code g) (wraps_code ws))
  wraps_code (wrap_zoned o stats ws) = gcons (gnum 1) (gcons (zoned_code o) (gcons (to_code stats) (wraps_code ws)))

abbrev pub nothing : StrategyData
nothing = flat (record { padding = true; inline = false })

abbrev mutual
  pub of_code : Gv → StrategyData
  of_code (gcons (gnum zero) o) = flat (flat_of o)
  of_code (gcons (gnum (suc zero)) w) = chunked (of_code w)
  of_code (gcons (gnum (suc (suc zero))) (gcons g w)) = grouped (grouping_of g) (of_code w)
  of_code (gcons (gnum (suc (suc (suc zero)))) (gcons which (gcons room w))) = compressed (number_of which) (number_of room) (of_code w)
  of_code (gcons (gnum (suc (suc (suc (suc zero))))) (gcons o (gcons c (gcons v f)))) = coded (dict_of o) (of_code c) (of_code v) (of_code f)
  of_code (gcons (gnum (suc (suc (suc (suc (suc zero)))))) (gcons o (gcons w stats))) = zoned (zoned_of o) (of_code w) (of_code stats)
  of_code (gcons (gnum (suc (suc (suc (suc (suc (suc zero))))))) (gcons v (gcons d ws))) = structured (of_code v) (of_code d) (of_codes ws)
  of_code (gcons (gnum (suc (suc (suc (suc (suc (suc (suc zero)))))))) (gcons e (gcons o (gcons v f)))) = listed (of_code e) (of_code o) (of_code v) (of_code f)
  of_code (gcons (gnum (suc (suc (suc (suc (suc (suc (suc (suc k))))))))) (gcons v (gcons l (gcons ws (gcons lists wraps))))) = tabled (of_code v) (of_code l) (of_codes ws) (flag_of lists) (wraps_of wraps)
  of_code g = nothing

  pub of_codes : Gv → StrategyList
  of_codes (gcons path (gcons w ws)) = way_at (names_of path) (of_code w) (of_codes ws)
  of_codes g = no_ways

  pub wraps_of : Gv → Wraps
  wraps_of (gcons (gnum zero) (gcons g ws)) = wrap_grouped (grouping_of g) (wraps_of ws)
  wraps_of (gcons (gnum (suc k)) (gcons o (gcons stats ws))) = wrap_zoned (zoned_of o) (of_code stats) (wraps_of ws)
  wraps_of g = no_wraps

mutual
  pub code_back : (w : StrategyData) → of_code (to_code w) ≡ w
  code_back (flat o) = cc (flat_back o)
  code_back (chunked w) = cc (code_back w)
  code_back (grouped g w) = cc (grouping_back g, code_back w)
  code_back (compressed which room w) = cc (code_back w)
  code_back (coded o c v f) = cc (dict_back o, code_back c, code_back v, code_back f)
  code_back (zoned o w stats) = cc (zoned_back o, code_back w, code_back stats)
  code_back (structured v d ws) = cc (code_back v, code_back d, codes_back ws)
  code_back (listed e o v f) = cc (code_back e, code_back o, code_back v, code_back f)
  code_back (tabled v l ws lists wraps) = cc (code_back v, code_back l, codes_back ws, flag_back lists, wraps_back wraps)

  pub codes_back : (ws : StrategyList) → of_codes (to_codes ws) ≡ ws
  codes_back no_ways = refl
  codes_back (way_at path w ws) = cc (names_back path, code_back w, codes_back ws)

  pub wraps_back : (ws : Wraps) → wraps_of (wraps_code ws) ≡ ws
  wraps_back no_wraps = refl
  wraps_back (wrap_grouped g ws) = cc (grouping_back g, wraps_back ws)
  wraps_back (wrap_zoned o stats ws) = cc (zoned_back o, code_back stats, wraps_back ws)

abbrev pub way_code : Coded StrategyData
way_code = code_by Gv itself to_code of_code code_back

abbrev pub ways_code : Coded StrategyList
ways_code = code_by Gv itself to_codes of_codes codes_back

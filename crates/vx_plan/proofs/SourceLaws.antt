-- The laws over whole sources.
use Rattle.std.proofs.Common.{◌≡◌, ℕ, suc, ◌+◌, ◌<◌, ◌≤◌, ◌^◌, Bool, true, false, List, [], ◌∷◌, ◌++◌, length, Option, Some, None, refl, sym, ap, ◌∙◌, subst, inl, ⊎_elim, arith, length-append}
use Rattle.std.proofs.lemmas.Bool.{true≢false}
use Rattle.std.proofs.lemmas.Bool.Decides.{nat_tests}
use Rattle.std.specs.Prelude.{if◌then◌else◌}
use Rattle.vx_model.specs.Ty.{Ty, Tys, no_fields, field, ty_eq}
use Rattle.vx_model.specs.TyLaws.{ty_eq_decides}
use Rattle.vx_model.specs.ValueData.{ValueData}
use Rattle.vx_model.specs.ChunkData.{ChunkData, piece_type, row_values}
use Rattle.vx_path.specs.Lists.{In}
use Rattle.vx_path.specs.Path.{meets, Scattered, Region, under, raised, root_eof}
use Rattle.vx_path.proofs.Path.{under_apart}
use Rattle.vx_layout_spec.specs.LayoutTree.{Kind, flat_kind, chunked_kind, struct_kind, list_kind, dict_kind, zoned_kind, unread_zoned_kind, stats_kind, foreign_kind, refused_kind, LayoutData, LayoutList, layout, no_layouts, child, renamed, each_renamed, row_count, layout_type}
use Rattle.vx_plan.specs.ZonesHold.{OfZoned, IsZoned, AllZoned, ZonesHold}
use Rattle.vx_strategy_spec.specs.Admitted.{is_admitted}
use Rattle.vx_layout_spec.specs.Rows.{rows, and_then, counted, kind_rows, each_rows}
use Rattle.vx_layout_spec.proofs.LayoutLaws.{rows_renamed}
use Rattle.vx_plan.specs.PlanData.{Setting, Item, Plan, Node, Fault, What, paths, places, stream_values}
use Rattle.vx_strategy_spec.specs.StrategyData.{StrategyData}
use Rattle.vx_plan.specs.SourcePlan.{plan, first_what, source_plan, batch_items, source_values, of_schema}
use Rattle.vx_plan.specs.Number.{segments, number_of, segment_at}
use Rattle.vx_plan.specs.Valid.{Fit, AllOf, Has, OfSchema, Keeps}
use Rattle.vx_plan.specs.Statements.{RowsComeBack, PathsDistinct, PathsInRegion, PrefixWithin, StreamsGrow, StartFaultIsFixed, StartFaultStands, NoStartFault, FrontOfTaken, CountsRows, ZonesAreTrue, Within}
use Rattle.vx_plan.proofs.Relate.{Given, Fields, induct}
use Rattle.vx_plan.proofs.PlanLists.{ItemsOf, Gives, counted_count, within}
use Rattle.vx_plan.proofs.Spots.{Apart, Lies}
use Rattle.vx_plan.proofs.FlatLaws.{Reads, Placed, Grows, Typed, flat_reads, flat_placed, flat_grows, flat_typed}
use Rattle.vx_plan.proofs.ChunkedLaws.{chunked_reads, chunked_placed, chunked_grows, chunked_typed}
use Rattle.vx_plan.proofs.GroupLaws.{grouped_reads, grouped_placed, grouped_grows, grouped_typed, compressed_reads, compressed_placed, compressed_grows, compressed_typed}
use Rattle.vx_plan.proofs.DictLaws.{dict_reads, dict_placed, dict_grows, dict_typed}
use Rattle.vx_plan.proofs.ZonedLaws.{zoned_reads, zoned_placed, zoned_grows, zoned_typed}
use Rattle.vx_plan.proofs.ColumnLaws.{struct_reads, struct_placed, struct_grows, struct_typed, not_struct_reads, not_struct_placed, not_struct_grows, not_struct_typed, list_reads, list_placed, list_grows, list_typed}
use Rattle.vx_plan.proofs.Numbering.{numbers_hold}
use Rattle.vx_plan.proofs.Fronts.{sorted_fronts}

-- ---- each law, of every node

-- a node's rows, and its type
pub record Known (admitted : Bool) (s : Setting) (t : Ty) (k : Node) : Type 0 where
  pub reads : Reads admitted s t k
  pub typed : Typed t k

known_fields : (admitted : Bool) (s : Setting) (fs : Tys) (ks : List Node) → Fields (λ t k. Known admitted s t k) fs ks → Fields (λ t k. Reads admitted s t k) fs ks
known_fields admitted s no_fields [] h = tt
known_fields admitted s no_fields (k ∷ ks) h = h
known_fields admitted s (field name t fs) [] h = h
known_fields admitted s (field name t fs) (k ∷ ks) h = (h.0.reads, known_fields admitted s fs ks h.1)

plan_known : (s : Setting) → Keeps s → (w : StrategyData) (t : Ty) → Known (is_admitted w) s t (plan s w t)
plan_known s keeps w t = induct s (is_admitted w) (λ t k. Known (is_admitted w) s t k) (record {
  flat_case = λ o t. record { reads = flat_reads (is_admitted w) s keeps o t; typed = flat_typed s o t };
  chunked_case = λ t k h. record { reads = chunked_reads (is_admitted w) s t k h.reads; typed = chunked_typed t k h.typed };
  grouped_case = λ g a t k h. record { reads = grouped_reads (is_admitted w) s g t k h.reads; typed = grouped_typed g t k h.typed };
  compressed_case = λ which room a t k h. record { reads = compressed_reads (is_admitted w) s keeps which room t k h.reads; typed = compressed_typed s which room t k h.typed };
  dict_case = λ o t is c v f x y z. record { reads = dict_reads (is_admitted w) s o t is c v f x.reads y.reads z.reads; typed = dict_typed s o t c v f z.typed };
  zoned_case = λ o a t k f h hs. record { reads = zoned_reads (is_admitted w) s o a t k f h.reads (λ u. (hs u).reads) (λ u. (hs u).typed); typed = zoned_typed s o t k f h.typed };
  not_struct_case = λ t. record { reads = not_struct_reads (is_admitted w) s t; typed = not_struct_typed t };
  struct_case = λ fs n dup v ks h hs. record { reads = struct_reads (is_admitted w) s fs n dup v ks h.reads (known_fields (is_admitted w) s fs ks hs); typed = struct_typed fs n dup v ks };
  list_case = λ t n e o v x y z. record { reads = list_reads (is_admitted w) s t n e o v x.reads y.reads z.reads; typed = list_typed t n e o v };
}) w (λ e. e) t

pub plan_reads : (s : Setting) → Keeps s → (w : StrategyData) (t : Ty) → Reads (is_admitted w) s t (plan s w t)
plan_reads s keeps w t = (plan_known s keeps w t).reads

no_premise : {b : Bool} → Given false b
no_premise e = absurd (true≢false (sym e))

pub plan_placed : (s : Setting) (w : StrategyData) (t : Ty) → Placed t (plan s w t)
plan_placed s w t = induct s false (λ t k. Placed t k) (record {
  flat_case = λ o t. flat_placed s o t;
  chunked_case = λ t k h. chunked_placed t k h;
  grouped_case = λ g a t k h. grouped_placed g t k h;
  compressed_case = λ which room a t k h. compressed_placed s which room t k h;
  dict_case = λ o t is c v f x y z. dict_placed s o t c v f x y z;
  zoned_case = λ o a t k f h hs. zoned_placed s o t k f h hs;
  not_struct_case = λ t. not_struct_placed t;
  struct_case = λ fs n dup v ks h hs. struct_placed fs n dup v ks h hs;
  list_case = λ t n e o v x y z. list_placed t n e o v x y z;
}) w no_premise t

pub plan_grows : (s : Setting) (w : StrategyData) (t : Ty) → Grows t (plan s w t)
plan_grows s w t = induct s false (λ t k. Grows t k) (record {
  flat_case = λ o t. flat_grows s o t;
  chunked_case = λ t k h. chunked_grows t k;
  grouped_case = λ g a t k h. grouped_grows g t k h;
  compressed_case = λ which room a t k h. compressed_grows s which room t k h;
  dict_case = λ o t is c v f x y z. dict_grows s o t c v f x y z;
  zoned_case = λ o a t k f h hs. zoned_grows s o t k f h;
  not_struct_case = λ t. not_struct_grows t;
  struct_case = λ fs n dup v ks h hs. struct_grows fs n dup v ks h hs;
  list_case = λ t n e o v x y z. list_grows t n e o v x y z;
}) w no_premise t

pub plan_typed : (s : Setting) (w : StrategyData) (t : Ty) → Typed t (plan s w t)
plan_typed s w t = induct s false (λ t k. Typed t k) (record {
  flat_case = λ o t. flat_typed s o t;
  chunked_case = λ t k h. chunked_typed t k h;
  grouped_case = λ g a t k h. grouped_typed g t k h;
  compressed_case = λ which room a t k h. compressed_typed s which room t k h;
  dict_case = λ o t is c v f x y z. dict_typed s o t c v f z;
  zoned_case = λ o a t k f h hs. zoned_typed s o t k f h;
  not_struct_case = λ t. not_struct_typed t;
  struct_case = λ fs n dup v ks h hs. struct_typed fs n dup v ks;
  list_case = λ t n e o v x y z. list_typed t n e o v;
}) w no_premise t

-- ---- the batches of a source

pub items_of : (t : Ty) (i : ℕ) (bs : List ChunkData) → AllOf t bs → ItemsOf t (batch_items i bs)
items_of t i [] h = tt
items_of t i (b ∷ bs) h = (h.0, items_of t (suc i) bs h.1)

pub batch_values : (i : ℕ) (bs : List ChunkData) → stream_values (batch_items i bs) ≡ source_values bs
batch_values i [] = refl
batch_values i (b ∷ bs) = ap (λ r. row_values b ++ r) (batch_values (suc i) bs)

pub batch_items-append : (i : ℕ) (bs cs : List ChunkData) → (ds : List Item) × (batch_items i (bs ++ cs) ≡ batch_items i bs ++ ds)
batch_items-append i [] cs = (batch_items i cs, refl)
batch_items-append i (b ∷ bs) cs =
    let r : (ds : List Item) × (batch_items (suc i) (bs ++ cs) ≡ batch_items (suc i) bs ++ ds) = batch_items-append (suc i) bs cs in
    (r.0, ap (λ (z : List Item). (0 ∷ i ∷ [], b) ∷ z) r.1)

batch_path : (i : ℕ) (bs : List ChunkData) (p : List ℕ) → In p (places (batch_items i bs)) → (j : ℕ) × (i ≤ j) × (p ≡ under (0 ∷ []) j)
batch_path i [] p h = absurd h
batch_path i (b ∷ bs) p h = ⊎_elim (λ e. (i, omega arith, e))
    (λ t. let r : (j : ℕ) × (suc i ≤ j) × (p ≡ under (0 ∷ []) j) = batch_path (suc i) bs p t in (r.0, (let h : suc i ≤ r.0 = r.1 in omega arith), r.2)) h

batches_scattered : (i : ℕ) (bs : List ChunkData) → Scattered (places (batch_items i bs))
batches_scattered i [] = tt
batches_scattered i (b ∷ bs) = (
  λ q h. let r : (j : ℕ) × (suc i ≤ j) × (q ≡ under (0 ∷ []) j) = batch_path (suc i) bs q h in
      let l : suc i ≤ r.0 = r.1 in
      subst (λ z. meets (0 ∷ i ∷ []) z ≡ false) (sym r.2) (under_apart (0 ∷ []) i r.0 (omega arith)),
  batches_scattered (suc i) bs,
)

off_root : (j n : ℕ) → meets (0 ∷ j ∷ []) ((1 + n) ∷ []) ≡ false
off_root j n = grind (arith, nat_tests)

pub batches_apart : (bs : List ChunkData) → Apart (places (batch_items 0 bs)) root_eof
batches_apart bs = record {
  scattered = batches_scattered 0 bs;
  off = λ p h n. let r : (j : ℕ) × (0 ≤ j) × (p ≡ under (0 ∷ []) j) = batch_path 0 bs p h in
      subst (λ z. meets z (raised root_eof n) ≡ false) (sym r.2) (off_root r.0 n);
}

-- ---- the laws

source_lies : (s : Setting) (w : StrategyData) (t : Ty) (m : Bool) (batches : List ChunkData) (ended : Bool)
    → Lies (Region (places (batch_items 0 batches)) root_eof) (paths (source_plan s w t m batches ended).pairs)
source_lies s w t m batches ended = (plan_placed s w t).placed m (batch_items 0 batches) ended root_eof (batches_apart batches)

pub paths_distinct : PathsDistinct
paths_distinct s w t m batches ended = (source_lies s w t m batches ended).scattered

pub paths_in_region : PathsInRegion
paths_in_region s w t m batches ended = (source_lies s w t m batches ended).within

source_gives : (s : Setting) (w : StrategyData) (t : Ty) (m : Bool) (batches : List ChunkData) (first : ℕ) → Keeps s → AllOf t batches
    → (source_plan s w t m batches true).faults ≡ [] → Fit (source_plan s w t m batches true).numbers
    → Gives (is_admitted w) s (λ x. segment_at first (segments (source_plan s w t m batches true)) (number_of (source_plan s w t m batches true).pairs first x)) (source_plan s w t m batches true).layout
    (stream_values (batch_items 0 batches))
source_gives s w t m batches first keeps of clean fit =
    let p : Plan = source_plan s w t m batches true in
    (plan_reads s keeps w t).reads m (batch_items 0 batches) root_eof (items_of t 0 batches of) clean fit.1
    (λ x. segment_at first (segments p) (number_of p.pairs first x)) (numbers_hold p first (paths_distinct s w t m batches true))

type_renamed : {A B : Type 0} (f : A → B) (l : LayoutData A) → layout_type (renamed f l) ≡ layout_type l
type_renamed f (layout k t n names ls) = refl

-- zoned nodes of a renamed layout
zoned_renamed : {A B : Type 0} (s : Setting) (look : B → Option (List ℕ)) (f : A → B) (k : Kind) (t : Ty) (n : ℕ) (ls : LayoutList A)
    → OfZoned (IsZoned s (λ a. look (f a))) k t n ls → OfZoned (IsZoned s look) k t n (each_renamed f ls)
zoned_renamed s look f (zoned_kind zone_len specs) t n (child data_child (child zones no_layouts)) h = record {
  aggregates = h.aggregates;
  options = h.options;
  values = h.values;
  count = h.count;
  table = h.table;
  data_rows = rows_renamed s.codec look f data_child ∙ h.data_rows;
  row_count = h.row_count;
  of_type = h.of_type;
  all_zones = h.all_zones;
  kept = h.kept;
  specs_are = h.specs_are;
  zones_type = type_renamed f zones ∙ h.zones_type;
  zones_rows = rows_renamed s.codec look f zones ∙ h.zones_rows;
}
zoned_renamed s look f (zoned_kind zone_len specs) t n no_layouts h = tt
zoned_renamed s look f (zoned_kind zone_len specs) t n (child l no_layouts) h = tt
zoned_renamed s look f (zoned_kind zone_len specs) t n (child l (child m (child o ls))) h = tt
zoned_renamed s look f (flat_kind encodings tree) t n ls h = tt
zoned_renamed s look f chunked_kind t n ls h = tt
zoned_renamed s look f struct_kind t n ls h = tt
zoned_renamed s look f list_kind t n ls h = tt
zoned_renamed s look f (dict_kind all) t n ls h = tt
zoned_renamed s look f (unread_zoned_kind metadata) t n ls h = tt
zoned_renamed s look f (stats_kind zone_len stats) t n ls h = tt
zoned_renamed s look f (foreign_kind id metadata) t n ls h = tt
zoned_renamed s look f (refused_kind is_flat refusal) t n ls h = tt

mutual
  zones_renamed : {A B : Type 0} (s : Setting) (look : B → Option (List ℕ)) (f : A → B) (l : LayoutData A) → ZonesHold s (λ a. look (f a)) l → ZonesHold s look (renamed f l)
  zones_renamed s look f (layout k t n names ls) h = (zoned_renamed s look f k t n ls h.0, all_zones_renamed s look f ls h.1)

  all_zones_renamed : {A B : Type 0} (s : Setting) (look : B → Option (List ℕ)) (f : A → B) (ls : LayoutList A) → AllZoned (IsZoned s (λ a. look (f a))) ls → AllZoned (IsZoned s look) (each_renamed f ls)
  all_zones_renamed s look f no_layouts h = tt
  all_zones_renamed s look f (child l ls) h = (zones_renamed s look f l h.0, all_zones_renamed s look f ls h.1)

pub zones_are_true : ZonesAreTrue
zones_are_true s w t m batches first keeps admitted of clean fit =
    let p : Plan = source_plan s w t m batches true in
    zones_renamed s (segment_at first (segments p)) (number_of p.pairs first) p.layout ((source_gives s w t m batches first keeps of clean fit).zones admitted)

pub rows_come_back : RowsComeBack
rows_come_back s w t m batches first keeps of clean fit =
    let p : Plan = source_plan s w t m batches true in
    rows_renamed s.codec (segment_at first (segments p)) (number_of p.pairs first) p.layout
    ∙ (source_gives s w t m batches first keeps of clean fit).read
    ∙ ap Some (batch_values 0 batches)

pub prefix_within : PrefixWithin
prefix_within s w t m taken later ended =
    let r : (ds : List Item) × (batch_items 0 (taken ++ later) ≡ batch_items 0 taken ++ ds) = batch_items-append 0 taken later in
    let h : Within (plan s w t m (batch_items 0 taken) false root_eof) (plan s w t m (batch_items 0 (taken ++ later)) ended root_eof) =
    subst (λ z. Within (plan s w t m (batch_items 0 taken) false root_eof) (plan s w t m z ended root_eof)) (sym r.1)
    ((plan_grows s w t).grows m (batch_items 0 taken) r.0 ended root_eof) in
    within h.pairs h.faults
    (λ e f. ((let a : length (taken ++ later) < 2 ^ 64 = f.0 in let b : length (taken ++ later) ≡ length taken + length later = length-append taken later in omega arith), h.fit e f.1))
    h.reserved

pub streams_grow : StreamsGrow
streams_grow s w t m xs ys ended e = (plan_grows s w t).grows m xs ys ended e

-- ---- what a node refuses before a chunk comes

first_has : (fs : List Fault) (x : What) → first_what fs ≡ Some x → Has x fs
first_has [] x h = cc
first_has (f ∷ fs) x h = (f, inl refl, (let same : f.what ≡ x = cc in same))

first_none : (fs : List Fault) → first_what fs ≡ None → fs ≡ []
first_none [] h = refl
first_none (f ∷ fs) h = cc

pub start_fixed : StartFaultIsFixed
start_fixed s w t m e = ap first_what ((plan_grows s w t).steady m e root_eof)

pub start_stands : StartFaultStands
start_stands s w t m x h items ended e =
    let r : Has x (plan s w t m [] false e).faults = first_has (plan s w t m [] false e).faults x (start_fixed s w t m e ∙ h) in
    (r.0, ((plan_grows s w t).grows m [] items ended e).faults r.0 r.1, r.2)

pub no_start : NoStartFault
no_start s w t m h e = first_none (plan s w t m [] false e).faults (start_fixed s w t m e ∙ h)

-- ---- fronts, and what the layout counts

pub front_of_taken : FrontOfTaken
front_of_taken s w t m taken later ended done rest e f =
    sorted_fronts (source_plan s w t m (taken ++ later) ended).pairs (source_plan s w t m taken false).pairs done rest
    (paths_distinct s w t m (taken ++ later) ended) (paths_distinct s w t m taken false) (prefix_within s w t m taken later ended).pairs e f

-- what a layout gives is as many rows as it counts
rows_count : {A : Type 0} (c : _) (look : A → Option (List ℕ)) (l : LayoutData A) (vs : List ValueData) → rows c look l ≡ Some vs → length vs ≡ row_count l
rows_count c look (layout k t n names ls) vs e = go (kind_rows c look k t n names (each_rows c look ls)) e
  where
    go : (r : Option (List ValueData)) → and_then (counted n) r ≡ Some vs → length vs ≡ n
    go None e = cc
    go (Some ws) e = counted_count n ws vs e

pub counts_rows : CountsRows
counts_rows s w t m batches keeps of clean fit =
    let p : Plan = source_plan s w t m batches true in (
      (plan_typed s w t).typed m (batch_items 0 batches) true root_eof,
      sym (rows_count s.codec (λ x. segment_at 0 (segments p) (number_of p.pairs 0 x)) p.layout (source_values batches)
          (sym (rows_renamed s.codec (segment_at 0 (segments p)) (number_of p.pairs 0) p.layout) ∙ rows_come_back s w t m batches 0 keeps of clean fit)),
    )

-- ---- batches of the schema

schema_step : (t : Ty) (b : ChunkData) (rest : List ChunkData) (f : Bool) → ty_eq (piece_type b) t ≡ f → of_schema t (b ∷ rest) ≡ (if f then b ∷ of_schema t rest else [])
schema_step t b rest f e = ap (λ g. if g then b ∷ of_schema t rest else []) e

-- batches of the schema are all taken
pub of_schema_all : (t : Ty) (bs : List ChunkData) → OfSchema t bs → of_schema t bs ≡ bs
of_schema_all t [] h = refl
of_schema_all t (b ∷ bs) h = schema_step t b bs true ((ty_eq_decides (piece_type b) t).1 h.0) ∙ ap (λ r. b ∷ r) (of_schema_all t bs h.1)

-- and those before one of another type
pub of_schema_until : (t : Ty) (bs : List ChunkData) (b : ChunkData) (rest : List ChunkData) → OfSchema t bs → ty_eq (piece_type b) t ≡ false → of_schema t (bs ++ (b ∷ rest)) ≡ bs
of_schema_until t [] b rest h e = schema_step t b rest false e
of_schema_until t (c ∷ bs) b rest h e =
    schema_step t c (bs ++ (b ∷ rest)) true ((ty_eq_decides (piece_type c) t).1 h.0) ∙ ap (λ r. c ∷ r) (of_schema_until t bs b rest h.1 e)

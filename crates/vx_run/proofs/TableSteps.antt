-- The zone tables of what was written are there, and the walk that reads them.
use Rattle.std.proofs.Common.{◌≡◌, ℕ, zero, suc, ◌+◌, ◌<◌, ◌≤◌, List, [], ◌∷◌, ◌++◌, length, take, map, Option, Some, None, Ok, Err, refl, sym, ap, subst, ◌∙◌, arith, append_assoc}
use Rattle.std.proofs.lemmas.List.{append-nil, take_all}
use Rattle.std.specs.Prelude.{IsSome, option_map}
use Rattle.vx_model.specs.Ty.{Ty}
use Rattle.vx_model.specs.ValueData.{ValueData}
use Rattle.vx_layout_spec.specs.LayoutTree.{Spec, Kind, flat_kind, chunked_kind, struct_kind, list_kind, dict_kind, zoned_kind, unread_zoned_kind, stats_kind, foreign_kind, refused_kind, LayoutData, LayoutList, layout, no_layouts, child, lays_in, children_of, layout_kind}
use Rattle.vx_layout_spec.specs.Rows.{rows, and_then, all_there}
use Rattle.vx_segment_reader.specs.Codec.{segment_codec}
use Rattle.vx_aggregate_spec.specs.Aggregate.{Aggregate, aggregates_of}
use Rattle.vx_zone_spec.specs.ZoneMap.{ZoneMap}
use Rattle.vx_layout_tree.specs.Children.{answered, child_in}
use Rattle.vx_plan.specs.PlanData.{Setting}
use Rattle.vx_plan.specs.ZonesHold.{EachZoned, AllZoned}
use Rattle.vx_prune_laws.specs.Pruned.{zone_map}
use Rattle.vx_prune_laws.specs.Statements.{IsPrunable}
use Rattle.vx_report.specs.declared.zone_text.TableRows.{TableRows}
use Rattle.vx_report.specs.ZoneText.{ZoneTable, table_of, zone_tables, tables_below}
use Rattle.vx_report.specs.TableView.{rows_of, AreTables}
use Rattle.vx_row_count.specs.Counting.{HasChild}
use Rattle.vx_row_count.proofs.CountSteps.{answers}
use Rattle.vx_run.specs.Tables.{OwnThere, TablesThere, AllThere, table_rows, zone_length, own_tables, tables_in, tables_at, IsRead, AreRead, ReadsOn}
use Rattle.vx_run.proofs.ShapeSteps.{OfWrite, Shaped, AllShaped}

-- ---- tables of what is written

rows_there : (read : Option (List ValueData)) (m : List ValueData → Option ZoneMap) (map : ZoneMap) → and_then m read ≡ Some map → IsSome read
rows_there None m map e = absurd (let f : None ≡ Some map = e in cc)
rows_there (Some vs) m map e = refl

abbrev made : Ty → ℕ → ℕ → List Aggregate → List ValueData → Option ZoneMap
made t n count aggregates table = Some (record { column = t; aggregates = aggregates; zone_len = n; row_count = count; zones = table })

map_there : (s : Setting) (look : ℕ → Option (List ℕ)) (n : ℕ) (specs : List Spec) (t : Ty) (count : ℕ) (zones : LayoutData ℕ) (map : ZoneMap) → zone_map s.codec look n specs t count zones ≡ Some map → IsSome (rows s.codec look zones)
map_there s look n specs t count zones map e = by_names (aggregates_of specs) e
  where
    by_names : (names : Option (List Aggregate)) → and_then (λ aggregates. and_then (made t n count aggregates) (rows s.codec look zones)) names ≡ Some map → IsSome (rows s.codec look zones)
    by_names None e = absurd (let f : None ≡ Some map = e in cc)
    by_names (Some aggregates) e = rows_there (rows s.codec look zones) (made t n count aggregates) map e

module _ (s : Setting) (look : ℕ → Option (List ℕ)) (codec : s.codec ≡ segment_codec) where
  own_there : (k : Kind) (t : Ty) (n : ℕ) (names : List ℕ) (ls : LayoutList ℕ) → OfWrite k ls → EachZoned (IsPrunable s look) (layout k t n names ls) → OwnThere look k ls
  own_there (flat_kind encodings tree) t n names ls of zones = tt
  own_there chunked_kind t n names ls of zones = tt
  own_there struct_kind t n names ls of zones = tt
  own_there list_kind t n names ls of zones = tt
  own_there (dict_kind all) t n names ls of zones = tt
  own_there (zoned_kind m specs) t n names no_layouts of zones = absurd of
  own_there (zoned_kind m specs) t n names (child a no_layouts) of zones = absurd of
  own_there (zoned_kind m specs) t n names (child a (child z no_layouts)) of zones = subst (λ c. IsSome (rows c look z)) codec (map_there s look m specs t n z zones.0.map zones.0.zones_read)
  own_there (zoned_kind m specs) t n names (child a (child z (child b ls))) of zones = absurd of
  own_there (unread_zoned_kind metadata) t n names ls of zones = absurd of
  own_there (stats_kind m stats) t n names ls of zones = absurd of
  own_there (foreign_kind id metadata) t n names ls of zones = absurd of
  own_there (refused_kind is_flat refusal) t n names ls of zones = absurd of

  mutual
    pub tables_there : (l : LayoutData ℕ) → Shaped l → EachZoned (IsPrunable s look) l → TablesThere look l
    tables_there (layout k t n names ls) shaped zones = (own_there k t n names ls shaped.0 zones, all_tables_there ls shaped.1 zones.1)

    all_tables_there : (ls : LayoutList ℕ) → AllShaped ls → AllZoned (IsPrunable s look) ls → AllThere look ls
    all_tables_there no_layouts shaped zones = tt
    all_tables_there (child l ls) shaped zones = (tables_there l shaped.0 zones.0, all_tables_there ls shaped.1 zones.1)

-- ---- the children

module _ (look : ℕ → Option (List ℕ)) where
  own : (l : LayoutData ℕ) → TablesThere look l → answered l ≡ Ok l
  own l there = answers (λ x. TablesThere look x) (λ is_flat refusal t n names ls h. h.0) l there

  -- a child is there, and so are its tables
  child_there : (ls : LayoutList ℕ) (i : ℕ) → AllThere look ls → i < length (lays_in ls) → HasChild (lays_in ls) i
  child_there no_layouts i there less = absurd (omega (arith, less))
  child_there (child l ls) zero there less = (l, own l there.0)
  child_there (child l ls) (suc i) there less = child_there ls i there.1 (omega (arith, less))

  pub has_child : (l : LayoutData ℕ) (i : ℕ) → TablesThere look l → i < length (children_of l) → HasChild (children_of l) i
  has_child (layout k t n names ls) i there less = child_there ls i there.1 less

  at_child : (ls : LayoutList ℕ) (i : ℕ) (x : LayoutData ℕ) → AllThere look ls → child_in (lays_in ls) i ≡ Ok x → TablesThere look x × (tables_at (lays_in ls) i ≡ zone_tables x)
  at_child no_layouts i x there is = absurd (let f : Err _ ≡ Ok x = is in cc)
  at_child (child l ls) zero x there is =
      let same : l ≡ x = (let e : Ok l ≡ Ok x = sym (own l there.0) ∙ is in cc) in
      (subst (λ y. TablesThere look y) same there.0, ap zone_tables same)
  at_child (child l ls) (suc i) x there is = at_child ls i x there.1 is

  pub of_child : (l : LayoutData ℕ) (i : ℕ) (x : LayoutData ℕ) → TablesThere look l → child_in (children_of l) i ≡ Ok x → TablesThere look x × (tables_at (children_of l) i ≡ zone_tables x)
  of_child (layout k t n names ls) i x there is = at_child ls i x there.1 is

  -- ---- a node's own table

  -- the zones child, which gives its rows
  pub record Owns (l : LayoutData ℕ) (n : ℕ) : Type 0 where
    pub zones : LayoutData ℕ
    pub own : own_tables l ≡ table_of n zones
    pub second : child_in (children_of l) 1 ≡ Ok zones
    pub read : IsSome (rows segment_codec look zones)

  pub owns : (l : LayoutData ℕ) (n : ℕ) → TablesThere look l → zone_length (layout_kind l) ≡ Some n → Owns l n
  owns (layout (flat_kind encodings tree) t m names ls) n there is = absurd (let f : None ≡ Some n = is in cc)
  owns (layout chunked_kind t m names ls) n there is = absurd (let f : None ≡ Some n = is in cc)
  owns (layout struct_kind t m names ls) n there is = absurd (let f : None ≡ Some n = is in cc)
  owns (layout list_kind t m names ls) n there is = absurd (let f : None ≡ Some n = is in cc)
  owns (layout (dict_kind all) t m names ls) n there is = absurd (let f : None ≡ Some n = is in cc)
  owns (layout (zoned_kind k specs) t m names no_layouts) n there is = absurd there.0
  owns (layout (zoned_kind k specs) t m names (child a no_layouts)) n there is = absurd there.0
  owns (layout (zoned_kind k specs) t m names (child a (child z no_layouts))) n there is =
      let same : k ≡ n = (let e : Some k ≡ Some n = is in cc) in
      record { zones = z; own = ap (λ j. table_of j z) same; second = own z there.1.1.0; read = there.0 }
  owns (layout (zoned_kind k specs) t m names (child a (child z (child b ls)))) n there is = absurd there.0
  owns (layout (unread_zoned_kind metadata) t m names ls) n there is = absurd there.0
  owns (layout (stats_kind k stats) t m names ls) n there is = absurd there.0
  owns (layout (foreign_kind id metadata) t m names ls) n there is = absurd there.0
  owns (layout (refused_kind is_flat refusal) t m names ls) n there is = absurd there.0

  pub owns_none : (l : LayoutData ℕ) → zone_length (layout_kind l) ≡ None → own_tables l ≡ []
  owns_none (layout (flat_kind encodings tree) t m names ls) is = refl
  owns_none (layout chunked_kind t m names ls) is = refl
  owns_none (layout struct_kind t m names ls) is = refl
  owns_none (layout list_kind t m names ls) is = refl
  owns_none (layout (dict_kind all) t m names ls) is = refl
  owns_none (layout (zoned_kind k specs) t m names ls) is = absurd (let f : Some k ≡ None = is in cc)
  owns_none (layout (unread_zoned_kind metadata) t m names ls) is = refl
  owns_none (layout (stats_kind k stats) t m names ls) is = absurd (let f : Some k ≡ None = is in cc)
  owns_none (layout (foreign_kind id metadata) t m names ls) is = refl
  owns_none (layout (refused_kind is_flat refusal) t m names ls) is = refl

  -- ---- tables read, one behind the other

  pub both_read : (ts us : List TableRows) (ys zs : List ZoneTable) → AreRead look ts ys → AreRead look us zs → AreRead look (ts ++ us) (ys ++ zs)
  both_read [] us [] zs h k = k
  both_read [] us (y ∷ ys) zs h k = absurd h
  both_read (t ∷ ts) us [] zs h k = absurd h
  both_read (t ∷ ts) us (y ∷ ys) zs h k = (h.0, both_read ts us ys zs h.1 k)

  pub reads_none : (ts : List TableRows) → ReadsOn look ts ts []
  reads_none ts ys h = rw (append-nil ys) h

  pub reads_both : (ts us vs : List TableRows) (ys zs : List ZoneTable) → ReadsOn look ts us ys → ReadsOn look us vs zs → ReadsOn look ts vs (ys ++ zs)
  reads_both ts us vs ys zs h k ws read = rw (← append_assoc ws ys zs) (k (ws ++ ys) (h ws read))

  -- a node's own table was read, or it has none
  pub one_read : (ts : List TableRows) (t : TableRows) (zs : List ZoneTable) → AreRead look (t ∷ []) zs → ReadsOn look ts (ts ++ t ∷ []) zs
  one_read ts t zs read ys h = both_read ts (t ∷ []) ys zs h read

  pub none_read : (l : LayoutData ℕ) (ts : List TableRows) → zone_length (layout_kind l) ≡ None → ReadsOn look ts ts (own_tables l)
  none_read l ts is = subst (λ (zs : List ZoneTable). ReadsOn look ts ts zs) (sym (owns_none l is)) (reads_none ts)

  -- what asking for the second child gives is the own table
  pub own_is : (l : LayoutData ℕ) (n : ℕ) (x : LayoutData ℕ) → TablesThere look l → zone_length (layout_kind l) ≡ Some n → child_in (children_of l) 1 ≡ Ok x → IsSome (rows segment_codec look x) × (own_tables l ≡ table_of n x)
  own_is l n x there zoned is =
      let o = owns l n there zoned in
      let same : o.zones ≡ x = (let e : Ok o.zones ≡ Ok x = sym o.second ∙ is in cc) in
      (subst (λ (y : LayoutData ℕ). IsSome (rows segment_codec look y)) same o.read, o.own ∙ ap (λ (y : LayoutData ℕ). table_of n y) same)

  pub table_read : (l : LayoutData ℕ) (n : ℕ) (x y : LayoutData ℕ) (t : TableRows) → own_tables l ≡ table_of n x → y ≡ x → IsRead look t (record { zone_len = n; rows = y }) → AreRead look (t ∷ []) (own_tables l)
  table_read l n x y t own same h =
      subst (λ (zs : List ZoneTable). AreRead look (t ∷ []) zs) (sym own) (subst (λ (z : LayoutData ℕ). IsRead look t (record { zone_len = n; rows = z })) same h, tt)

  -- the tables of a child, as it was asked for
  pub child_read : (l : LayoutData ℕ) (i : ℕ) (x y : LayoutData ℕ) (ts us : List TableRows) → TablesThere look l → child_in (children_of l) i ≡ Ok x → y ≡ x → ReadsOn look ts us (zone_tables y) → ReadsOn look ts us (tables_at (children_of l) i)
  child_read l i x y ts us there is same h =
      subst (λ (zs : List ZoneTable). ReadsOn look ts us zs) (ap (λ (z : LayoutData ℕ). zone_tables z) same ∙ sym (of_child l i x there is).1) h

-- ---- the tables of all children

next_tables : (ls : List (LayoutData ℕ)) (i : ℕ) → i < length ls → tables_in (take (i + 1) ls) ≡ tables_in (take i ls) ++ tables_at ls i
next_tables [] i less = absurd (omega (arith, less))
next_tables (l ∷ ls) zero less = append-nil (zone_tables l)
next_tables (l ∷ ls) (suc i) less =
    let next : suc i + 1 ≡ suc (i + 1) = omega arith in
    rw (next, next_tables ls i (omega (arith, less))) (sym (append_assoc (zone_tables l) (tables_in (take i ls)) (tables_at ls i)))

below_is : (ls : LayoutList ℕ) → tables_in (lays_in ls) ≡ tables_below ls
below_is no_layouts = refl
below_is (child l ls) = ap (λ zs. zone_tables l ++ zs) (below_is ls)

all_tables : (l : LayoutData ℕ) (i : ℕ) → length (children_of l) ≤ i → own_tables l ++ tables_in (take i (children_of l)) ≡ zone_tables l
all_tables (layout k t n names ls) i all = rw (take_all i (lays_in ls) all, below_is ls) refl

-- the next child's tables were read, and those of all children
pub next_read : (look : ℕ → Option (List ℕ)) (l : LayoutData ℕ) (i : ℕ) (ts us vs : List TableRows) → i < length (children_of l) → ReadsOn look ts us (own_tables l ++ tables_in (take i (children_of l))) → ReadsOn look us vs (tables_at (children_of l) i)
    → ReadsOn look ts vs (own_tables l ++ tables_in (take (i + 1) (children_of l)))
next_read look l i ts us vs less h k =
    rw (next_tables (children_of l) i less, ← append_assoc (own_tables l) (tables_in (take i (children_of l))) (tables_at (children_of l) i))
    (reads_both look ts us vs (own_tables l ++ tables_in (take i (children_of l))) (tables_at (children_of l) i) h k)

pub all_read : (look : ℕ → Option (List ℕ)) (l : LayoutData ℕ) (i : ℕ) (ts us : List TableRows) → length (children_of l) ≤ i → ReadsOn look ts us (own_tables l ++ tables_in (take i (children_of l))) → ReadsOn look ts us (zone_tables l)
all_read look l i ts us all h = rw (← all_tables l i all) h

pub own_read : (look : ℕ → Option (List ℕ)) (l : LayoutData ℕ) (ts us : List TableRows) → ReadsOn look ts us (own_tables l) → ReadsOn look ts us (own_tables l ++ tables_in (take 0 (children_of l)))
own_read look l ts us h = rw (append-nil (own_tables l)) h

-- ---- what was read

pub are_tables : (look : ℕ → Option (List ℕ)) (ts : List TableRows) (zs : List ZoneTable) → AreRead look ts zs → AreTables ts zs
are_tables look [] [] h = tt
are_tables look [] (z ∷ zs) h = absurd h
are_tables look (t ∷ ts) [] h = absurd h
are_tables look (t ∷ ts) (z ∷ zs) h = (h.0.length_is, h.0.type_is, are_tables look ts zs h.1)

pub rows_are_of : (look : ℕ → Option (List ℕ)) (ts : List TableRows) (zs : List ZoneTable) → AreRead look ts zs → all_there (table_rows look zs) ≡ Some (rows_of ts)
rows_are_of look [] [] h = refl
rows_are_of look [] (z ∷ zs) h = absurd h
rows_are_of look (t ∷ ts) [] h = absurd h
rows_are_of look (t ∷ ts) (z ∷ zs) h = rw (h.0.rows_are, rows_are_of look ts zs h.1) refl

-- what is shown of them, and of the rows
pub report_shown : (look : ℕ → Option (List ℕ)) (l : LayoutData ℕ) (ts : List TableRows) (vs : List ValueData) (text : List ℕ) (shown : List (List ValueData) → List ValueData → List ℕ) → AreRead look ts (zone_tables l) → rows segment_codec look l ≡ Some vs
    → text ≡ shown (rows_of ts) vs → Some (Some text) ≡ option_map (λ tables. option_map (shown tables) (rows segment_codec look l)) (all_there (table_rows look (zone_tables l)))
report_shown look l ts vs text shown read back is = rw (rows_are_of look ts (zone_tables l) read, back, is) refl

-- Layouts whose children are still to be built.
use Rattle.std.proofs.Common.{◌≡◌, ℕ, suc, ◌+◌, ◌-◌, ◌≤◌, ◌++◌, Bool, true, false, List, [], ◌∷◌, length, map, Option, Some, None, Result, Ok, Err, refl, ◌∙◌, ap, arith}
use Rattle.std.proofs.lemmas.List.{length-map}
use Rattle.vx_model.specs.declared.dtype.DType.{DType}
use Rattle.vx_model.specs.declared.ptype.PType.{PType}
use Rattle.vx_model.specs.Ty.{Ty, primitive, nullable, is_list}
use Rattle.vx_model.specs.TyView.{ty}
use Rattle.vx_layout_spec.specs.LayoutTree.{Kind, LayoutData, layout, lays_of, row_count, Spec, list_kind, dict_kind, zoned_kind, unread_zoned_kind, stats_kind}
use Rattle.vx_layout_spec.specs.Refusal.{Refusal, no_list}
use Rattle.vx_aggregate_spec.specs.Aggregate.{Aggregate, spec}
use Rattle.vx_aggregate.specs.Stats.{stat_number}
use Rattle.vx_aggregate.specs.Tables.{stats_table, legacy_table}
use Rattle.vx_aggregate.specs.declared.stat.Stat.{Stat}
use Rattle.vx_metadata.specs.declared.dict.DictLayoutMetadata.{DictLayoutMetadata}
use Rattle.vx_metadata.specs.declared.list.ListLayoutMetadata.{ListLayoutMetadata}
use Rattle.vx_metadata.specs.Reading.{dict_in, list_in, legacy_in, zoned_in}
use Rattle.vx_metadata.specs.Values.{Zoned}
use Rattle.vx_metadata.specs.declared.zoned.AggregateSpec.{AggregateSpec}
use Rattle.vx_metadata.specs.Views.{spec_of}
use Rattle.vx_session.specs.Scope.{Context}
use Rattle.vx_session.specs.Made.{Made, ◌>>=◌, ChildData, spelled, child_at, has_children, has_rows, rows_at, standing_at}
use Rattle.vx_session.specs.Kinds.{Parts, layout_of, element_type, validity_type, build_offsets, build_list, build_dict, build_stats, build_zoned, build_zones, read_spec, read_on, in_front as one_in_front, read_specs}
use Rattle.vx_layout_build.specs.declared.open.RowsRule.{RowsRule}
use Rattle.vx_layout_build.specs.declared.open.RowsRule.TheVariants as rules
use Rattle.vx_layout_build.specs.declared.open.Wanted.{Wanted}
use Rattle.vx_layout_build.specs.declared.one_child.OneChild.{OneChild}
use Rattle.vx_layout_tree.specs.declared.error.LayoutError.{LayoutError}
use Rattle.vx_layout_tree.specs.declared.parts.LayoutParts.{LayoutParts}
use Rattle.vx_layout_build.specs.declared.one_child.OneChild.TheVariants as ones
use Rattle.vx_layout_tree.specs.declared.children.LayoutChildren.TheVariants as children
use Rattle.vx_layout_tree.specs.declared.children.ViewedChildren.{ViewedChildren}
use Rattle.vx_layout_bytes.specs.declared.view.NodeView.{NodeView}
use Rattle.vx_layout_bytes.specs.Views.{seen_node, seen_nodes}
use Rattle.vx_layout_bytes.specs.Node.{own_of}
use Rattle.vx_session.specs.Builder.{kid_of, builder}
use Rattle.vx_session.specs.Views.{scope_of}
use Rattle.vx_layout_tree.specs.declared.layout.Layout.{Layout}
use Rattle.vx_layout_tree.specs.LayoutView.{layout_data, number}
use Rattle.vx_layout_tree.specs.KidsView.{layout_kids, chunks}
use Rattle.vx_layout_tree.specs.Views.{Fails}
use Rattle.vx_layout_tree.specs.ZonedView.{no_columns}
use Rattle.vx_layout_build.specs.PartsView.{one_kid, one_built, one_depth, parts_of}
use Rattle.vx_layout_build.specs.OpenView.{Children, rows_ruled, one_alone, pair_kids, triple_kids, list_kids, column_kids, with_rows, all_built, wanted_depths}
use Rattle.vx_layout_tree.proofs.KidSteps.{fails_by}
use Rattle.vx_layout_build.proofs.PartSteps.{count_is, counted}

-- ---- children, and then the layout of them

rows_then : {B : Type 0} (r : Result (Unit {0}) Refusal) (ls : List (LayoutData ℕ)) (f : List (LayoutData ℕ) → Result B Refusal) → (r >>= λ ok. f ls) ≡ ((r >>= λ ok. Ok ls) >>= f)
rows_then (Ok x) ls f = refl
rows_then (Err e) ls f = refl

second_then : (y : Made) (a : LayoutData ℕ) (rule : RowsRule) (f : List (LayoutData ℕ) → Made)
    → (y >>= λ b. rows_ruled rule (row_count b) >>= λ ok. f (a ∷ b ∷ [])) ≡ ((y >>= λ b. rows_ruled rule (row_count b) >>= λ ok. Ok (a ∷ b ∷ [])) >>= f)
second_then (Ok b) a rule f = rows_then (rows_ruled rule (row_count b)) (a ∷ b ∷ []) f
second_then (Err e) a rule f = refl

first_then : (x y : Made) (rule : RowsRule) (f : List (LayoutData ℕ) → Made)
    → (x >>= λ a. y >>= λ b. rows_ruled rule (row_count b) >>= λ ok. f (a ∷ b ∷ [])) ≡ ((x >>= λ a. y >>= λ b. rows_ruled rule (row_count b) >>= λ ok. Ok (a ∷ b ∷ [])) >>= f)
first_then (Ok a) y rule f = second_then y a rule f
first_then (Err e) y rule f = refl

count_then : (c : Result (Unit {0}) Refusal) (x y : Made) (rule : RowsRule) (f : List (LayoutData ℕ) → Made)
    → (c >>= λ ok. x >>= λ a. y >>= λ b. rows_ruled rule (row_count b) >>= λ ok. f (a ∷ b ∷ [])) ≡ ((c >>= λ ok. x >>= λ a. y >>= λ b. rows_ruled rule (row_count b) >>= λ ok. Ok (a ∷ b ∷ [])) >>= f)
count_then (Ok o) x y rule f = first_then x y rule f
count_then (Err e) x y rule f = refl

third_then : (z : Made) (a b : LayoutData ℕ) (n : ℕ) (f : List (LayoutData ℕ) → Made)
    → (((z >>= λ c. has_rows (row_count c) n >>= λ ok. Ok (c ∷ [])) >>= λ cs. f (a ∷ b ∷ cs))) ≡ ((z >>= λ c. has_rows (row_count c) n >>= λ ok. Ok (a ∷ b ∷ c ∷ [])) >>= f)
third_then (Err e) a b n f = refl
third_then (Ok c) a b n f = go (has_rows (row_count c) n)
  where
    go : (r : Result (Unit {0}) Refusal) → ((r >>= λ ok. Ok (c ∷ [])) >>= λ cs. f (a ∷ b ∷ cs)) ≡ ((r >>= λ ok. Ok (a ∷ b ∷ c ∷ [])) >>= f)
    go (Ok o) = refl
    go (Err e) = refl

all_then : (k : Result (Unit {0}) Refusal) (x y z : Made) (n : ℕ) (f : List (LayoutData ℕ) → Made)
    → (k >>= λ ok. x >>= λ a. y >>= λ b. has_rows (row_count b - 1) n >>= λ ok. ((z >>= λ c. has_rows (row_count c) n >>= λ ok. Ok (c ∷ [])) >>= λ cs. f (a ∷ b ∷ cs)))
    ≡ ((k >>= λ ok. x >>= λ a. y >>= λ b. has_rows (row_count b - 1) n >>= λ ok. z >>= λ c. has_rows (row_count c) n >>= λ ok. Ok (a ∷ b ∷ c ∷ [])) >>= f)
all_then (Err e) x y z n f = refl
all_then (Ok o) (Err e) y z n f = refl
all_then (Ok o) (Ok a) (Err e) z n f = refl
all_then (Ok o) (Ok a) (Ok b) z n f = go (has_rows (row_count b - 1) n)
  where
    go : (r : Result (Unit {0}) Refusal)
        → (r >>= λ ok. ((z >>= λ c. has_rows (row_count c) n >>= λ ok. Ok (c ∷ [])) >>= λ cs. f (a ∷ b ∷ cs))) ≡ ((r >>= λ ok. z >>= λ c. has_rows (row_count c) n >>= λ ok. Ok (a ∷ b ∷ c ∷ [])) >>= f)
    go (Ok o) = third_then z a b n f
    go (Err e) = refl

pub dict_then : (p : Parts) (m : List ℕ) (d : DictLayoutMetadata) → spelled m (dict_in m) ≡ Ok d
    → build_dict p m ≡ (pair_kids p.kids p.dtype (primitive d.codes_ptype d.is_nullable_codes) (rules.Same p.rows) >>= layout_of (dict_kind d.all_values_referenced) p)
unfolding build_dict
dict_then p m d is = rw is (count_then (has_children 2 p.kids) (child_at p.kids 0 p.dtype) (child_at p.kids 1 (primitive d.codes_ptype d.is_nullable_codes)) (rules.Same p.rows) (layout_of (dict_kind d.all_values_referenced) p))

pub stats_then : (p : Parts) (m : List ℕ) (s : ℕ × List Stat) → spelled m (legacy_in m) ≡ Ok s
    → build_stats p m ≡ (pair_kids p.kids p.dtype (legacy_table p.dtype s.1) rules.Any >>= layout_of (stats_kind s.0 (map stat_number s.1)) p)
unfolding build_stats
stats_then p m s is = rw is (count_then (has_children 2 p.kids) (child_at p.kids 0 p.dtype) (child_at p.kids 1 (legacy_table p.dtype s.1)) rules.Any (layout_of (stats_kind s.0 (map stat_number s.1)) p))

offsets_then : (p : Parts) (o : PType) → build_offsets p o ≡ (list_kids p.kids p.dtype (primitive o false) p.rows >>= layout_of list_kind p)
unfolding build_offsets
offsets_then p o = go (nullable p.dtype) refl
  where
    go : (b : Bool) → nullable p.dtype ≡ b → build_offsets p o ≡ (list_kids p.kids p.dtype (primitive o false) p.rows >>= layout_of list_kind p)
    go true is = rw is (all_then (has_children 3 p.kids) (child_at p.kids 0 (element_type p.dtype)) (child_at p.kids 1 (primitive o false)) (child_at p.kids 2 validity_type) p.rows (layout_of list_kind p))
    go false is = rw is (count_then (has_children 2 p.kids) (child_at p.kids 0 (element_type p.dtype)) (child_at p.kids 1 (primitive o false)) (rules.OneMore p.rows) (layout_of list_kind p))

pub list_then : (p : Parts) (m : List ℕ) (o : ListLayoutMetadata) → spelled m (list_in m) ≡ Ok o → is_list p.dtype ≡ true
    → build_list p m ≡ (list_kids p.kids p.dtype (primitive o.offsets_ptype false) p.rows >>= layout_of list_kind p)
unfolding build_list
list_then p m o is list = rw (is, list) (offsets_then p o.offsets_ptype)

pub table_then : (p : Parts) (m : List ℕ) (n : ℕ) (fns : List Aggregate) → has_children 2 p.kids ≡ Ok tt
    → build_zones p m n (Some fns) ≡ (pair_kids p.kids p.dtype (stats_table p.dtype fns) rules.Any >>= layout_of (zoned_kind n (map spec fns)) p)
table_then p m n fns count = rw count (first_then (child_at p.kids 0 p.dtype) (child_at p.kids 1 (stats_table p.dtype fns)) rules.Any (layout_of (zoned_kind n (map spec fns)) p))

column_then : (x : Made) (zs : List (LayoutData ℕ)) (f : List (LayoutData ℕ) → Made) → (x >>= λ a. f (a ∷ zs)) ≡ ((x >>= λ a. Ok (a ∷ zs)) >>= f)
column_then (Ok a) zs f = refl
column_then (Err e) zs f = refl

-- ---- where children, or what comes before them, are refused

pub then_fails : (e : LayoutError) (r : Children) (g : List (LayoutData ℕ) → Made) (total : Made) → total ≡ (r >>= g) → Fails e r → Fails e total
then_fails e r g total is h = fails_by e r total (λ x made. is ∙ ap (λ c. c >>= g) made) h

-- ---- a layout of the children

then_opens : (c : Children) (ws : List Wanted) (k : Kind) (p : Parts) (total : Made) → total ≡ (c >>= layout_of k p) → c ≡ all_built ws
    → total ≡ (all_built ws >>= λ ls. Ok (layout k p.dtype p.rows p.segments (lays_of ls)))
then_opens c ws k p total is all = is ∙ ap (λ r. r >>= layout_of k p) all

-- ---- two children that are wanted

one_is : (c : OneChild) (t : Ty) → one_built c t ≡ (one_kid c).build t
unfolding one_built
one_is (ones.Kept l) t = refl
one_is (ones.Node scope n) t = refl

abbrev pub wanted : OneChild → DType → RowsRule → Wanted
wanted c t rule = record { child = c; dtype = t; rows = rule }

pair_go : (x y : Made) (rule : RowsRule)
    → (x >>= λ a. y >>= λ b. rows_ruled rule (row_count b) >>= λ ok. Ok (a ∷ b ∷ [])) ≡ ((x >>= with_rows rules.Any) >>= λ a. (((y >>= with_rows rule) >>= λ b. Ok (b ∷ [])) >>= λ ls. Ok (a ∷ ls)))
pair_go (Err e) y rule = refl
pair_go (Ok a) (Err e) rule = refl
pair_go (Ok a) (Ok b) rule = go (rows_ruled rule (row_count b))
  where
    go : (r : Result (Unit {0}) Refusal) → (r >>= λ ok. Ok (a ∷ b ∷ [])) ≡ (((r >>= λ ok. Ok b) >>= λ b. Ok (b ∷ [])) >>= λ ls. Ok (a ∷ ls))
    go (Ok o) = refl
    go (Err e) = refl

pub pair_wanted : (ks : List ChildData) (a b : OneChild) (t u : DType) (rule : RowsRule) (ws : List Wanted) → ks ≡ one_kid a ∷ one_kid b ∷ [] → ws ≡ wanted a t rules.Any ∷ wanted b u rule ∷ []
    → pair_kids ks (ty t) (ty u) rule ≡ all_built ws
pair_wanted ks a b t u rule ws kids all = rw (kids, all, one_is a (ty t), one_is b (ty u)) (pair_go ((one_kid a).build (ty t)) ((one_kid b).build (ty u)) rule)

pub pair_depth : (deep : ℕ) (a b : OneChild) (t u : DType) (rule : RowsRule) (ws : List Wanted) → ws ≡ wanted a t rules.Any ∷ wanted b u rule ∷ [] → one_depth a ≤ deep → one_depth b ≤ deep → wanted_depths ws ≤ deep
pair_depth deep a b t u rule ws all x y = rw all (omega (arith, x, y))

pub pair_fails : (e : LayoutError) (ks : List ChildData) (t u : Ty) (rule : RowsRule) → Fails e (has_children 2 ks) → Fails e (pair_kids ks t u rule)
pair_fails e ks t u rule h = fails_by e (has_children 2 ks) (pair_kids ks t u rule) (λ x made. rw made refl) h

pub ruleset pair_rules = (pair_wanted, pair_depth, pair_fails)

-- ---- three

triple_go : (x y z : Made) (n : ℕ)
    → (x >>= λ a. y >>= λ b. has_rows (row_count b - 1) n >>= λ ok. z >>= λ c. has_rows (row_count c) n >>= λ ok. Ok (a ∷ b ∷ c ∷ []))
    ≡ ((x >>= with_rows rules.Any) >>= λ a. (((y >>= with_rows (rules.OneMore n)) >>= λ b. (((z >>= with_rows (rules.Same n)) >>= λ c. Ok (c ∷ [])) >>= λ ls. Ok (b ∷ ls))) >>= λ ls. Ok (a ∷ ls)))
triple_go (Err e) y z n = refl
triple_go (Ok a) (Err e) z n = refl
triple_go (Ok a) (Ok b) z n = go (has_rows (row_count b - 1) n) z
  where
    last : (c : LayoutData ℕ) (r : Result (Unit {0}) Refusal) → (r >>= λ ok. Ok (a ∷ b ∷ c ∷ [])) ≡ (((((r >>= λ ok. Ok c) >>= λ c. Ok (c ∷ [])) >>= λ ls. Ok (b ∷ ls))) >>= λ ls. Ok (a ∷ ls))
    last c (Ok o) = refl
    last c (Err e) = refl

    go : (r : Result (Unit {0}) Refusal) (z : Made)
        → (r >>= λ ok. z >>= λ c. has_rows (row_count c) n >>= λ ok. Ok (a ∷ b ∷ c ∷ []))
        ≡ (((r >>= λ ok. Ok b) >>= λ b. (((z >>= with_rows (rules.Same n)) >>= λ c. Ok (c ∷ [])) >>= λ ls. Ok (b ∷ ls))) >>= λ ls. Ok (a ∷ ls))
    go (Err e) z = refl
    go (Ok o) (Err e) = refl
    go (Ok o) (Ok c) = last c (has_rows (row_count c) n)

pub triple_wanted : (ks : List ChildData) (a b c : OneChild) (t u v : DType) (n : ℕ) (ws : List Wanted) → ks ≡ one_kid a ∷ one_kid b ∷ one_kid c ∷ [] → ws ≡ wanted a t rules.Any ∷ wanted b u (rules.OneMore n) ∷ wanted c v (rules.Same n) ∷ []
    → ty v ≡ validity_type → triple_kids ks (ty t) (ty u) n ≡ all_built ws
triple_wanted ks a b c t u v n ws kids all is =
    rw (kids, all, one_is a (ty t), one_is b (ty u), one_is c (ty v), is) (triple_go ((one_kid a).build (ty t)) ((one_kid b).build (ty u)) ((one_kid c).build validity_type) n)

pub triple_depth : (deep : ℕ) (a b c : OneChild) (t u v : DType) (n : ℕ) (ws : List Wanted) → ws ≡ wanted a t rules.Any ∷ wanted b u (rules.OneMore n) ∷ wanted c v (rules.Same n) ∷ []
    → one_depth a ≤ deep → one_depth b ≤ deep → one_depth c ≤ deep → wanted_depths ws ≤ deep
triple_depth deep a b c t u v n ws all x y z = rw all (omega (arith, x, y, z))

pub triple_fails : (e : LayoutError) (ks : List ChildData) (t u : Ty) (n : ℕ) → Fails e (has_children 3 ks) → Fails e (triple_kids ks t u n)
triple_fails e ks t u n h = fails_by e (has_children 3 ks) (triple_kids ks t u n) (λ x made. rw made refl) h

pub ruleset triple_rules = (triple_wanted, triple_depth, triple_fails)

-- ---- a child that stands as it is

pub standing_kept : (t : Ty) (ls : List Layout) (l : Layout) → ls ≡ l ∷ [] → map layout_data ls ≡ layout_data l ∷ []
standing_kept t ls l is = rw is refl

pub standing_viewed : (t : Ty) (v w : ViewedChildren) (n : NodeView) → v ≡ w → seen_nodes w.nodes ≡ seen_node n ∷ []
    → chunks t (children.Viewed v) ≡ (kid_of (scope_of w.scope.value) (own_of (seen_node n)) (builder (scope_of w.scope.value) (seen_node n))).stands t ∷ []
standing_viewed t v w n is nodes = rw (is, nodes) refl

pub ruleset standing_rules = (standing_kept, standing_viewed)

-- ---- dictionaries

pub dict_metadata_fails : (e : LayoutError) (p : LayoutParts) (m : List ℕ) → Fails e (spelled m (dict_in m)) → Fails e (build_dict (parts_of p) m)
unfolding build_dict
dict_metadata_fails e p m h = fails_by e (spelled m (dict_in m)) (build_dict (parts_of p) m) (λ x made. rw made refl) h

pub dict_children_fail : (e : LayoutError) (p : LayoutParts) (m : List ℕ) (d : DictLayoutMetadata) → spelled m (dict_in m) ≡ Ok d
    → Fails e (pair_kids (layout_kids p.children) (ty p.dtype) (primitive d.codes_ptype d.is_nullable_codes) (rules.Same p.row_count)) → Fails e (build_dict (parts_of p) m)
dict_children_fail e p m d is h = then_fails e _ _ _ (dict_then (parts_of p) m d is) h

pub dict_opens : (p : LayoutParts) (m : List ℕ) (d : DictLayoutMetadata) (t u : Ty) (ws : List Wanted) → spelled m (dict_in m) ≡ Ok d → t ≡ ty p.dtype → u ≡ primitive d.codes_ptype d.is_nullable_codes
    → pair_kids (layout_kids p.children) t u (rules.Same p.row_count) ≡ all_built ws
    → build_dict (parts_of p) m ≡ (all_built ws >>= λ ls. Ok (layout (dict_kind d.all_values_referenced) (ty p.dtype) p.row_count (map number p.segment_ids.items) (lays_of ls)))
dict_opens p m d t u ws is first second all = then_opens _ ws (dict_kind d.all_values_referenced) (parts_of p) _ (dict_then (parts_of p) m d is) (rw (← second, ← first) all)

pub ruleset dict_rules = (dict_metadata_fails, dict_children_fail, dict_opens)

-- ---- older tables

pub stats_metadata_fails : (e : LayoutError) (p : LayoutParts) (m : List ℕ) → Fails e (spelled m (legacy_in m)) → Fails e (build_stats (parts_of p) m)
unfolding build_stats
stats_metadata_fails e p m h = fails_by e (spelled m (legacy_in m)) (build_stats (parts_of p) m) (λ x made. rw made refl) h

pub stats_children_fail : (e : LayoutError) (p : LayoutParts) (m : List ℕ) (s : ℕ × List Stat) → spelled m (legacy_in m) ≡ Ok s
    → Fails e (pair_kids (layout_kids p.children) (ty p.dtype) (legacy_table (ty p.dtype) s.1) rules.Any) → Fails e (build_stats (parts_of p) m)
stats_children_fail e p m s is h = then_fails e _ _ _ (stats_then (parts_of p) m s is) h

pub stats_opens : (p : LayoutParts) (m : List ℕ) (s : ℕ × List Stat) (t u : Ty) (ws : List Wanted) → spelled m (legacy_in m) ≡ Ok s → t ≡ ty p.dtype → u ≡ legacy_table (ty p.dtype) s.1
    → pair_kids (layout_kids p.children) t u rules.Any ≡ all_built ws
    → build_stats (parts_of p) m ≡ (all_built ws >>= λ ls. Ok (layout (stats_kind s.0 (map stat_number s.1)) (ty p.dtype) p.row_count (map number p.segment_ids.items) (lays_of ls)))
stats_opens p m s t u ws is first second all = then_opens _ ws (stats_kind s.0 (map stat_number s.1)) (parts_of p) _ (stats_then (parts_of p) m s is) (rw (← second, ← first) all)

pub ruleset stats_rules = (stats_metadata_fails, stats_children_fail, stats_opens)

-- ---- lists

pub list_metadata_fails : (e : LayoutError) (p : LayoutParts) (m : List ℕ) → Fails e (spelled m (list_in m)) → Fails e (build_list (parts_of p) m)
unfolding build_list
list_metadata_fails e p m h = fails_by e (spelled m (list_in m)) (build_list (parts_of p) m) (λ x made. rw made refl) h

pub other_type : (p : LayoutParts) (m : List ℕ) (o : ListLayoutMetadata) → spelled m (list_in m) ≡ Ok o → is_list (ty p.dtype) ≡ false → build_list (parts_of p) m ≡ Err no_list
unfolding build_list
other_type p m o is other = rw (is, other) refl

pub list_children_fail : (e : LayoutError) (p : LayoutParts) (m : List ℕ) (o : ListLayoutMetadata) → spelled m (list_in m) ≡ Ok o → is_list (ty p.dtype) ≡ true
    → Fails e (list_kids (layout_kids p.children) (ty p.dtype) (primitive o.offsets_ptype false) p.row_count) → Fails e (build_list (parts_of p) m)
list_children_fail e p m o is list h = then_fails e _ _ _ (list_then (parts_of p) m o is list) h

pub list_opens : (p : LayoutParts) (m : List ℕ) (o : ListLayoutMetadata) (u : Ty) (ws : List Wanted) → spelled m (list_in m) ≡ Ok o → is_list (ty p.dtype) ≡ true → u ≡ primitive o.offsets_ptype false
    → list_kids (layout_kids p.children) (ty p.dtype) u p.row_count ≡ all_built ws
    → build_list (parts_of p) m ≡ (all_built ws >>= λ ls. Ok (layout list_kind (ty p.dtype) p.row_count (map number p.segment_ids.items) (lays_of ls)))
list_opens p m o u ws is list ends all = then_opens _ ws list_kind (parts_of p) _ (list_then (parts_of p) m o is list) (rw (← ends) all)

pub ruleset list_rules = (list_metadata_fails, other_type, list_children_fail, list_opens)

-- ---- tables of zones

pub table_children_fail : (e : LayoutError) (p : LayoutParts) (m : List ℕ) (n : ℕ) (fns : List Aggregate) → length (layout_kids p.children) ≡ 2
    → Fails e (pair_kids (layout_kids p.children) (ty p.dtype) (stats_table (ty p.dtype) fns) rules.Any) → Fails e (build_zones (parts_of p) m n (Some fns))
table_children_fail e p m n fns count h = then_fails e _ _ _ (table_then (parts_of p) m n fns (counted (layout_kids p.children) 2 count)) h

pub table_opens : (p : LayoutParts) (m : List ℕ) (n : ℕ) (fns : List Aggregate) (t u : Ty) (ws : List Wanted) → length (layout_kids p.children) ≡ 2 → t ≡ ty p.dtype → u ≡ stats_table (ty p.dtype) fns
    → pair_kids (layout_kids p.children) t u rules.Any ≡ all_built ws
    → build_zones (parts_of p) m n (Some fns) ≡ (all_built ws >>= λ ls. Ok (layout (zoned_kind n (map spec fns)) (ty p.dtype) p.row_count (map number p.segment_ids.items) (lays_of ls)))
table_opens p m n fns t u ws count first second all = then_opens _ ws (zoned_kind n (map spec fns)) (parts_of p) _ (table_then (parts_of p) m n fns (counted (layout_kids p.children) 2 count)) (rw (← second, ← first) all)

pub ruleset table_rules = (table_children_fail, table_opens)

-- ---- tables that aren't read

column_go : (x : Made) (zs : List (LayoutData ℕ)) → (x >>= λ a. Ok (a ∷ zs)) ≡ ((x >>= λ a. Ok (a ∷ [])) >>= λ ls. Ok (ls ++ zs))
column_go (Ok a) zs = refl
column_go (Err e) zs = refl

pub column_wanted : (ks : List ChildData) (a b : OneChild) (t u : Ty) (ws : List Wanted) (zs : List (LayoutData ℕ)) → ks ≡ one_kid a ∷ one_kid b ∷ [] → all_built ws ≡ one_alone a t → zs ≡ (one_kid b).stands u ∷ []
    → column_kids ks t u ≡ (all_built ws >>= λ ls. Ok (ls ++ zs))
column_wanted ks a b t u ws zs kids all stands = rw (kids, all, stands, one_is a t) (column_go ((one_kid a).build t) ((one_kid b).stands u ∷ []))

alone_go : (x : Made) → ((x >>= with_rows rules.Any) >>= λ l. Ok (l ∷ [])) ≡ (x >>= λ l. Ok (l ∷ []))
alone_go (Ok a) = refl
alone_go (Err e) = refl

pub alone_built : (a : OneChild) (t : DType) (u : Ty) (ws : List Wanted) → ws ≡ wanted a t rules.Any ∷ [] → ty t ≡ u → all_built ws ≡ one_alone a u
alone_built a t u ws all same = rw (all, ← same) (alone_go (one_built a (ty t)))

pub alone_depth : (a : OneChild) (t : DType) (ws : List Wanted) → ws ≡ wanted a t rules.Any ∷ [] → wanted_depths ws ≡ one_depth a
alone_depth a t ws all = rw all (omega arith)

pub ruleset column_rules = (alone_built, alone_depth, counted)

-- children that stand are behind the built ones
behind : (c : Children) (zs : List (LayoutData ℕ)) (k : Kind) (p : Parts) → ((c >>= λ ls. Ok (ls ++ zs)) >>= layout_of k p) ≡ (c >>= λ ls. Ok (layout k p.dtype p.rows p.segments (lays_of (ls ++ zs))))
behind (Ok ls) zs k p = refl
behind (Err e) zs k p = refl

pub unread_opens : (p : LayoutParts) (m : List ℕ) (n : ℕ) (t : Ty) (ws : List Wanted) (zs : List (LayoutData ℕ)) → t ≡ ty p.dtype
    → column_kids (layout_kids p.children) t no_columns ≡ (all_built ws >>= λ ls. Ok (ls ++ zs))
    → build_zones (parts_of p) m n None ≡ (all_built ws >>= λ ls. Ok (layout (unread_zoned_kind m) (ty p.dtype) p.row_count (map number p.segment_ids.items) (lays_of (ls ++ zs))))
unread_opens p m n t ws zs first all =
    let ps : Parts = parts_of p in
    column_then (child_at ps.kids 0 ps.dtype) (standing_at ps.kids 1 no_columns) (layout_of (unread_zoned_kind m) ps) ∙ ap (λ c. c >>= layout_of (unread_zoned_kind m) ps) (rw (← first) all) ∙ behind (all_built ws) zs (unread_zoned_kind m) ps

pub ruleset unread_rules = (unread_opens)

-- ---- zoned layouts

pub zoned_metadata_fails : (e : LayoutError) (c : Context) (p : LayoutParts) (m : List ℕ) → Fails e (spelled m (zoned_in m)) → Fails e (build_zoned c (parts_of p) m)
unfolding build_zoned
zoned_metadata_fails e c p m h = fails_by e (spelled m (zoned_in m)) (build_zoned c (parts_of p) m) (λ x made. rw made refl) h

pub zoned_count_fails : (e : LayoutError) (c : Context) (p : LayoutParts) (m : List ℕ) (z : Zoned) → spelled m (zoned_in m) ≡ Ok z → Fails e (has_children 2 (layout_kids p.children)) → Fails e (build_zoned c (parts_of p) m)
unfolding build_zoned
zoned_count_fails e c p m z is h = fails_by e (has_children 2 (layout_kids p.children)) (build_zoned c (parts_of p) m) (λ x made. rw (is, made) refl) h

pub zoned_rows_fail : (e : LayoutError) (c : Context) (p : LayoutParts) (m : List ℕ) (z : Zoned) → spelled m (zoned_in m) ≡ Ok z → has_children 2 (layout_kids p.children) ≡ Ok tt
    → (has : ℕ) → has ≡ rows_at (layout_kids p.children) 0 → Fails e (has_rows has p.row_count) → Fails e (build_zoned c (parts_of p) m)
unfolding build_zoned
zoned_rows_fail e c p m z is count has first h = fails_by e (has_rows has p.row_count) (build_zoned c (parts_of p) m) (λ x made. rw (is, count, ← first, made) refl) h

pub zoned_specs_fail : (e : LayoutError) (c : Context) (p : LayoutParts) (m : List ℕ) (z : Zoned) → spelled m (zoned_in m) ≡ Ok z → has_children 2 (layout_kids p.children) ≡ Ok tt
    → (has : ℕ) → has ≡ rows_at (layout_kids p.children) 0 → has_rows has p.row_count ≡ Ok tt → (ss : List AggregateSpec) → map spec_of ss ≡ z.specs → Fails e (read_specs c (map spec_of ss)) → Fails e (build_zoned c (parts_of p) m)
unfolding build_zoned
zoned_specs_fail e c p m z is count has first rows ss named h = fails_by e (read_specs c (map spec_of ss)) (build_zoned c (parts_of p) m) (λ x made. rw (is, count, ← first, rows, ← named, made) refl) h

pub zoned_is : (c : Context) (p : LayoutParts) (m : List ℕ) (z : Zoned) (o : Option (List Aggregate)) → spelled m (zoned_in m) ≡ Ok z → has_children 2 (layout_kids p.children) ≡ Ok tt
    → (has : ℕ) → has ≡ rows_at (layout_kids p.children) 0 → has_rows has p.row_count ≡ Ok tt → (ss : List AggregateSpec) → map spec_of ss ≡ z.specs → read_specs c (map spec_of ss) ≡ Ok o
    → build_zoned c (parts_of p) m ≡ build_zones (parts_of p) m z.zone_len o
unfolding build_zoned
zoned_is c p m z o is count has first rows ss named read = rw (is, count, ← first, rows, ← named, read) refl

pub ruleset zoned_rules = (zoned_metadata_fails, zoned_count_fails, count_is)

-- ---- as many aggregates as specs

abbrev read_none : Result (Option (List Aggregate)) Refusal
read_none = Ok (Some [])

none_are : (fns : List Aggregate) → read_none ≡ Ok (Some fns) → length fns ≡ 0
none_are [] e = refl
none_are (a ∷ fns) e = absurd (cc e)

last_read : (a : Aggregate) (o : Option (List Aggregate)) (fns : List Aggregate) (n : ℕ) → ((bs : List Aggregate) → o ≡ Some bs → length bs ≡ n) → one_in_front a o ≡ Ok (Some fns) → length fns ≡ suc n
last_read a None fns n h e = absurd (cc e)
last_read a (Some bs) fns n h e = let same : fns ≡ a ∷ bs = cc e in rw same (ap suc (h bs refl))

rest_read : (a : Aggregate) (r : Result (Option (List Aggregate)) Refusal) (fns : List Aggregate) (n : ℕ) → ((bs : List Aggregate) → r ≡ Ok (Some bs) → length bs ≡ n) → (r >>= one_in_front a) ≡ Ok (Some fns) → length fns ≡ suc n
rest_read a (Ok o) fns n h e = last_read a o fns n (λ bs is. h bs (ap Ok is)) e
rest_read a (Err x) fns n h e = absurd (cc e)

first_read : (s : Spec) (one : Result (Option Aggregate) Refusal) (r : Result (Option (List Aggregate)) Refusal) (fns : List Aggregate) (n : ℕ) → ((bs : List Aggregate) → r ≡ Ok (Some bs) → length bs ≡ n)
    → (one >>= λ o. read_on o r) ≡ Ok (Some fns) → length fns ≡ suc n
first_read s (Err x) r fns n h e = absurd (cc e)
first_read s (Ok None) r fns n h e = absurd (cc e)
first_read s (Ok (Some a)) r fns n h e = rest_read a r fns n h e

pub all_read : (c : Context) (ss : List Spec) (fns : List Aggregate) → read_specs c ss ≡ Ok (Some fns) → length fns ≡ length ss
all_read c [] fns e = none_are fns e
all_read c (s ∷ ss) fns e = first_read s (read_spec c s) (read_specs c ss) fns (length ss) (all_read c ss) e

pub ruleset named_rules = (all_read, length-map)

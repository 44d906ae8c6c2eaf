-- A layout that is built has its node's rows.
use Rattle.std.proofs.Common.{◌≡◌, ℕ, ◌+◌, ◌-◌, length, Bool, true, false, List, Option, Some, None, Result, Ok, Err, refl}
use Rattle.std.specs.Prelude.{if◌then◌else◌}
use Rattle.vx_model.specs.declared.ptype.PType.{PType}
use Rattle.vx_model.specs.Words.{total_by}
use Rattle.vx_model.specs.Ty.{Ty, primitive, is_list, is_struct}
use Rattle.vx_aggregate_spec.specs.Aggregate.{Aggregate}
use Rattle.vx_layout_spec.specs.LayoutTree.{LayoutData, row_count}
use Rattle.vx_layout_spec.specs.Refusal.{Refusal, no_list, no_struct}
use Rattle.vx_aggregate.specs.Tables.{stats_table, legacy_table}
use Rattle.vx_metadata.specs.Reading.{flat_in, list_in, dict_in, zoned_in, legacy_in}
use Rattle.vx_layout_bytes.specs.Node.{Own, Node, node, own_of}
use Rattle.vx_session.specs.declared.encoding.LayoutEncoding.{LayoutEncoding}
use Rattle.vx_session.specs.declared.encoding.LayoutEncoding.TheVariants as kinds
use Rattle.vx_session.specs.Scope.{Context, Scope}
use Rattle.vx_session.specs.Made.{Made, ◌>>=◌, needs, spelled, ChildData, kid_rows, child_at, rows_at, has_children, has_rows, all_have_rows, one_segment}
use Rattle.vx_session.specs.Kinds.{Parts, nothing_in, struct_types, validity_types, element_type, build_validity, build_offsets, read_specs, build_flat, build_chunked, build_struct, build_list, build_dict, build_zoned, build_zones, build_stats, build_kind}
use Rattle.vx_session.specs.Builder.{unknown_in, foreign, unless_unknown, build_foreign, known_id, build_registered, built_or_refused, is_flat_node, kid_of, builder, kids}
use Rattle.vx_session.specs.Encodings.{kind_of}

-- what comes of it has so many rows, where something does
unfoldable pub HasRows : ℕ → Made → Type 0
HasRows n (Ok l) = row_count l ≡ n
HasRows n (Err refusal) = Unit {0}

there : (n : ℕ) (l : LayoutData ℕ) → row_count l ≡ n → HasRows n (Ok l)
unfolding HasRows
there n l e = e

absent : (n : ℕ) (refusal : Refusal) → HasRows n (Err refusal)
unfolding HasRows
absent n refusal = tt

going : {A : Type 0} (n : ℕ) (r : Result A Refusal) (f : A → Made) → ((x : A) → HasRows n (f x)) → HasRows n (r >>= f)
going n (Ok x) f h = h x
going n (Err e) f h = absent n e

flat : (c : Context) (p : Parts) (m : List ℕ) → HasRows p.rows (build_flat c p m)
unfolding build_flat
flat c p m = going p.rows (spelled m (flat_in m)) _ (λ tree. going p.rows (one_segment p.segments) _ (λ segment. going p.rows (has_children 0 p.kids) _ (λ none. there p.rows _ refl)))

chunked : (p : Parts) (m : List ℕ) → HasRows p.rows (build_chunked p m)
unfolding build_chunked
chunked p m = going p.rows (spelled m (nothing_in m)) _ (λ nothing. going p.rows (has_rows (total_by kid_rows p.kids) p.rows) _ (λ rows. there p.rows _ refl))

structs : (p : Parts) (m : List ℕ) → HasRows p.rows (build_struct p m)
unfolding build_struct
structs p m = going p.rows (spelled m (nothing_in m)) _ (λ nothing. going p.rows (needs (is_struct p.dtype) no_struct) _ (λ fields. going p.rows (has_children (length (struct_types p.dtype)) p.kids) _ (λ count. going p.rows (all_have_rows p.rows p.kids) _ (λ rows. there p.rows _ refl))))

offsets : (p : Parts) (integers : PType) → HasRows p.rows (build_offsets p integers)
unfolding build_offsets
offsets p integers = going p.rows (has_children (2 + length (validity_types p.dtype)) p.kids) _ (λ count. going p.rows (child_at p.kids 0 (element_type p.dtype)) _ (λ elements. going p.rows (child_at p.kids 1 (primitive integers false)) _ (λ ends. going p.rows (has_rows (row_count ends - 1) p.rows) _ (λ rows. going p.rows (build_validity p) _ (λ validity. there p.rows _ refl)))))

lists : (p : Parts) (m : List ℕ) → HasRows p.rows (build_list p m)
unfolding build_list
lists p m = going p.rows (spelled m (list_in m)) _ (λ kept. going p.rows (needs (is_list p.dtype) no_list) _ (λ of_lists. offsets p kept.offsets_ptype))

dicts : (p : Parts) (m : List ℕ) → HasRows p.rows (build_dict p m)
unfolding build_dict
dicts p m = going p.rows (spelled m (dict_in m)) _ (λ dict. going p.rows (has_children 2 p.kids) _ (λ count. going p.rows (child_at p.kids 0 p.dtype) _ (λ values. going p.rows (child_at p.kids 1 (primitive dict.codes_ptype dict.is_nullable_codes)) _ (λ places. going p.rows (has_rows (row_count places) p.rows) _ (λ rows. there p.rows _ refl)))))

tables : (p : Parts) (m : List ℕ) (zone_len : ℕ) (aggregates : Option (List Aggregate)) → HasRows p.rows (build_zones p m zone_len aggregates)
tables p m zone_len None = going p.rows (child_at p.kids 0 p.dtype) _ (λ column. there p.rows _ refl)
tables p m zone_len (Some aggregates) = going p.rows (child_at p.kids 0 p.dtype) _ (λ column. going p.rows (child_at p.kids 1 (stats_table p.dtype aggregates)) _ (λ zones. there p.rows _ refl))

zoned : (c : Context) (p : Parts) (m : List ℕ) → HasRows p.rows (build_zoned c p m)
unfolding build_zoned
zoned c p m = going p.rows (spelled m (zoned_in m)) _ (λ zones. going p.rows (has_children 2 p.kids) _ (λ count. going p.rows (has_rows (rows_at p.kids 0) p.rows) _ (λ rows. going p.rows (read_specs c zones.specs) _ (λ aggregates. tables p m zones.zone_len aggregates))))

stats : (p : Parts) (m : List ℕ) → HasRows p.rows (build_stats p m)
unfolding build_stats
stats p m = going p.rows (spelled m (legacy_in m)) _ (λ stats. going p.rows (has_children 2 p.kids) _ (λ count. going p.rows (child_at p.kids 0 p.dtype) _ (λ column. going p.rows (child_at p.kids 1 (legacy_table p.dtype stats.1)) _ (λ zones. there p.rows _ refl))))

any : (k : LayoutEncoding) (c : Context) (p : Parts) (m : List ℕ) → HasRows p.rows (build_kind k c p m)
any kinds.Flat c p m = flat c p m
any kinds.Chunked c p m = chunked p m
any kinds.Struct c p m = structs p m
any kinds.List c p m = lists p m
any kinds.Dict c p m = dicts p m
any kinds.Zoned c p m = zoned c p m
any kinds.LegacyStats c p m = stats p m

if_known : (n : ℕ) (o : Option ℕ) (l : LayoutData ℕ) → row_count l ≡ n → HasRows n (unless_unknown o l)
if_known n None l e = there n l e
if_known n (Some index) l e = absent n _

either : (n : ℕ) (b : Bool) (r : Made) (e : Refusal) → HasRows n r → HasRows n (if b then r else Err e)
either n true r e h = h
either n false r e h = absent n e

registered : (s : Scope) (o : Own) (ks : List ChildData) (id : List ℕ) (other : Made) (t : Ty) (k : Option LayoutEncoding) → HasRows o.rows other → HasRows o.rows (build_registered s o ks id other t k)
registered s o ks id other t None h = either o.rows s.allow_unknown other _ h
registered s o ks id other t (Some kind) h = any kind s.context (record { dtype = t; rows = o.rows; segments = o.segments; kids = ks }) o.metadata

pub rows_kept : (s : Scope) (n : Node) (t : Ty) → HasRows (own_of n).rows (builder s n t)
rows_kept s (node o ns) t = going o.rows (known_id s.ids o.index) _ (λ id. registered s o (kids s ns) id (build_foreign s.ids (node o ns) t) t (kind_of id s.registered) (if_known o.rows (unknown_in s.ids (node o ns)) (foreign s.ids t (node o ns)) refl))

stands : (flat : Bool) (o : Own) (t : Ty) (r : Made) → HasRows o.rows r → row_count (built_or_refused flat o t r) ≡ o.rows
unfolding HasRows
stands is_one o t (Ok l) h = h
stands is_one o t (Err refusal) h = refl

pub stands_kept : (s : Scope) (n : Node) (t : Ty) → row_count ((kid_of s (own_of n) (builder s n)).stands t) ≡ (own_of n).rows
stands_kept s n t = stands (is_flat_node s (own_of n)) (own_of n) t (builder s n t) (rows_kept s n t)

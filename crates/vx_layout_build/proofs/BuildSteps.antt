-- What a node is built into, by its id.
use Rattle.std.proofs.Common.{◌≡◌, ℕ, suc, ◌+◌, ◌-◌, ◌≤◌, ◌++◌, length, Bool, true, false, List, [], ◌∷◌, map, Option, Some, None, Result, Ok, Err, refl, ◌∙◌, ap, arith}
use Rattle.std.proofs.lemmas.List.{append-nil, map_push}
use Rattle.std.specs.Prelude.{if◌then◌else◌, ◌==◌}
use Rattle.std.proofs.lemmas.Bool.Decides.{nat_tests}
use Rattle.vx_model.specs.Words.{total_by}
use Rattle.vx_model.specs.Ty.{Ty, is_struct}
use Rattle.vx_model.specs.TyView.{ty}
use Rattle.vx_layout_spec.specs.LayoutTree.{LayoutData, row_count, chunked_kind, struct_kind}
use Rattle.vx_layout_spec.specs.Refusal.{Refusal, unknown_index, unregistered, other_rows}
use Rattle.vx_layout_bytes.specs.Node.{Own, Node, Nodes, node, nodes_of, own_of}
use Rattle.vx_layout_bytes.specs.Values.{depth, depths}
use Rattle.vx_layout_bytes.specs.Views.{seen_nodes}
use Rattle.vx_session.specs.declared.encoding.LayoutEncoding.{LayoutEncoding}
use Rattle.vx_session.specs.Ids.{id_at}
use Rattle.vx_session.specs.Encodings.{kind_of}
use Rattle.vx_session.specs.Scope.{Scope, Context}
use Rattle.vx_session.specs.Made.{Made, ◌>>=◌, ChildData, kid_rows, spelled, has_children, has_rows, all_have_rows}
use Rattle.vx_session.specs.Kinds.{Parts, nothing_in, struct_types, build_kind, build_chunked, build_struct}
use Rattle.vx_session.specs.Builder.{builder, build_foreign, build_registered, known_id, own_parts, node_parts, kids}
use Rattle.vx_layout_tree.specs.declared.error.LayoutError.{LayoutError}
use Rattle.vx_layout_tree.specs.declared.parts.LayoutParts.{LayoutParts}
use Rattle.vx_layout_tree.specs.declared.children.LayoutChildren.TheVariants as children
use Rattle.vx_layout_tree.specs.declared.children.ViewedChildren.{ViewedChildren}
use Rattle.vx_session.specs.Views.{scope_of}
use Rattle.vx_layout_build.specs.declared.open.Wanted.{Wanted}
use Rattle.vx_layout_build.specs.declared.open.Open.{Open}
use Rattle.vx_layout_tree.specs.Views.{Fails}
use Rattle.vx_layout_build.specs.NodeKind.{kind_there, node_kind}
use Rattle.vx_layout_tree.specs.LayoutView.{seen_layout}
use Rattle.vx_layout_tree.specs.KidsView.{layout_kids, chunks, fields}
use Rattle.vx_layout_build.specs.PartsView.{parts_of, one_built, one_depth, children_depth}
use Rattle.vx_layout_build.specs.declared.open.RowsRule.{RowsRule}
use Rattle.vx_layout_build.specs.OpenView.{Children, rows_ruled, with_rows, wanted_built, all_built, wanted_depths, framed, open_made}
use Rattle.vx_layout_tree.proofs.KidSteps.{chunks_are, fields_are, fails_by}

-- ---- the kind of a node

pub index_unknown : (s : Scope) (index : ℕ) → id_at s.ids index ≡ None → node_kind s index ≡ Err (unknown_index index)
index_unknown s index none = rw none refl

pub kind_found : (s : Scope) (index : ℕ) (id : List ℕ) (kind : LayoutEncoding) → id_at s.ids index ≡ Some id → kind_of id s.registered ≡ Some kind → node_kind s index ≡ Ok (Some kind)
kind_found s index id kind found known = rw (found, known) refl

pub kind_unregistered : (s : Scope) (index : ℕ) (id : List ℕ) → id_at s.ids index ≡ Some id → kind_of id s.registered ≡ None → s.allow_unknown ≡ false → node_kind s index ≡ Err (unregistered id)
kind_unregistered s index id found none refused = rw (found, none, refused) refl

pub kind_unknown : (s : Scope) (index : ℕ) (id : List ℕ) → id_at s.ids index ≡ Some id → kind_of id s.registered ≡ None → s.allow_unknown ≡ true → node_kind s index ≡ Ok None
kind_unknown s index id found none allowed = rw (found, none, allowed) refl

pub ruleset found_rules = (index_unknown, kind_found, kind_unregistered, kind_unknown)

-- what is built of a node of the kind
abbrev built_by : Scope → Own → List ChildData → Made → Ty → Option LayoutEncoding → Made
built_by s o ks other t None = other
built_by s o ks other t (Some kind) = build_kind kind s.context (own_parts o ks t) o.metadata

by_leave : (b : Bool) (s : Scope) (o : Own) (ks : List ChildData) (other : Made) (t : Ty) (refusal : Refusal) → (if b then other else Err refusal) ≡ ((if b then Ok None else Err refusal) >>= built_by s o ks other t)
by_leave true s o ks other t refusal = refl
by_leave false s o ks other t refusal = refl

by_kind : (s : Scope) (o : Own) (ks : List ChildData) (other : Made) (t : Ty) (id : List ℕ) (k : Option LayoutEncoding) → build_registered s o ks id other t k ≡ (kind_there s id k >>= built_by s o ks other t)
by_kind s o ks other t id (Some kind) = refl
by_kind s o ks other t id None = by_leave s.allow_unknown s o ks other t (unregistered id)

by_id : (s : Scope) (o : Own) (ks : List ChildData) (other : Made) (t : Ty) (r : Result (List ℕ) Refusal)
    → (r >>= λ id. build_registered s o ks id other t (kind_of id s.registered)) ≡ ((r >>= λ id. kind_there s id (kind_of id s.registered)) >>= built_by s o ks other t)
by_id s o ks other t (Ok id) = by_kind s o ks other t id (kind_of id s.registered)
by_id s o ks other t (Err e) = refl

node_is : (s : Scope) (n : Node) (t : Ty) → builder s n t ≡ (node_kind s (own_of n).index >>= built_by s (own_of n) (node_parts s t n).kids (build_foreign s.ids n t) t)
node_is s (node o ns) t = by_id s o (kids s ns) (build_foreign s.ids (node o ns) t) t (known_id s.ids o.index)

pub node_kind_fails : (e : LayoutError) (s : Scope) (n : Node) (t : Ty) → Fails e (node_kind s (own_of n).index) → Fails e (builder s n t)
node_kind_fails e s n t h = fails_by e (node_kind s (own_of n).index) (builder s n t) (λ x made. node_is s n t ∙ rw made refl) h

own_parts_are : (s : Scope) (n : Node) (t : Ty) → own_parts (own_of n) (node_parts s t n).kids t ≡ node_parts s t n
own_parts_are s (node o ns) t = refl

pub node_foreign : (s : Scope) (n : Node) (t : Ty) → node_kind s (own_of n).index ≡ Ok None → builder s n t ≡ build_foreign s.ids n t
node_foreign s n t is = node_is s n t ∙ rw is refl

pub node_built : (s : Scope) (n : Node) (t : Ty) (kind : LayoutEncoding) (c : Context) (p : Parts) (metadata : List ℕ) → node_kind s (own_of n).index ≡ Ok (Some kind)
    → c ≡ s.context → p ≡ node_parts s t n → metadata ≡ (own_of n).metadata → builder s n t ≡ build_kind kind c p metadata
node_built s n t kind c p metadata is within parts kept =
    node_is s n t ∙ rw (is, own_parts_are s n t, within, parts, kept) refl

-- the nodes that a build is still over
pub parts_depth : (o : Own) (ns : Nodes) → depth (node o ns) ≡ depths ns + 1
parts_depth o ns = omega arith

pub viewed_kids_are : (v w : ViewedChildren) → v ≡ w → layout_kids (children.Viewed v) ≡ kids (scope_of w.scope.value) (nodes_of (seen_nodes w.nodes))
viewed_kids_are v w is = rw is refl

pub viewed_depth_is : (v w : ViewedChildren) → v ≡ w → children_depth (children.Viewed v) ≡ depths (nodes_of (seen_nodes w.nodes))
viewed_depth_is v w is = rw is refl

pub ruleset parts_rules = (parts_depth, viewed_kids_are, viewed_depth_is)

-- ---- layouts of each kind, where nothing is refused

pub rows_are : (has n : ℕ) → has_rows has n ≡ Ok tt → has ≡ n
rows_are has n e = go (has == n) refl
  where
    go : (b : Bool) → (has == n) ≡ b → has ≡ n
    go true is = grind (arith, nat_tests, is)
    go false is = let h : has_rows has n ≡ Err (other_rows has n) = rw is refl in absurd (cc (h, e))

pub chunked_made : (p : LayoutParts) (m : List ℕ) (has : ℕ) → spelled m (nothing_in m) ≡ Ok tt → has ≡ total_by kid_rows (layout_kids p.children) → has_rows has p.row_count ≡ Ok tt
    → build_chunked (parts_of p) m ≡ Ok (seen_layout chunked_kind p.dtype p.row_count p.segment_ids (chunks (ty p.dtype) p.children))
unfolding build_chunked
chunked_made p m has e sum f = rw (e, ← sum, f, chunks_are (ty p.dtype) p.children) refl

pub struct_made : (p : LayoutParts) (m : List ℕ) (needed : ℕ) → spelled m (nothing_in m) ≡ Ok tt → is_struct (ty p.dtype) ≡ true → needed ≡ length (struct_types (ty p.dtype)) → has_children needed (layout_kids p.children) ≡ Ok tt
    → all_have_rows p.row_count (layout_kids p.children) ≡ Ok tt → length (layout_kids p.children) ≡ length (struct_types (ty p.dtype))
    → build_struct (parts_of p) m ≡ Ok (seen_layout struct_kind p.dtype p.row_count p.segment_ids (fields (ty p.dtype) p.children))
unfolding build_struct
struct_made p m needed e s is count rows same = rw (e, s, ← is, count, rows, fields_are (ty p.dtype) p.children same) refl

-- and where something is

pub struct_metadata_fails : (e : LayoutError) (p : LayoutParts) (m : List ℕ) → Fails e (spelled m (nothing_in m)) → Fails e (build_struct (parts_of p) m)
unfolding build_struct
struct_metadata_fails e p m h = fails_by e (spelled m (nothing_in m)) (build_struct (parts_of p) m) (λ x made. rw made refl) h

pub struct_count_fails : (e : LayoutError) (p : LayoutParts) (m : List ℕ) (needed : ℕ) → spelled m (nothing_in m) ≡ Ok tt → is_struct (ty p.dtype) ≡ true → needed ≡ length (struct_types (ty p.dtype))
    → Fails e (has_children needed (layout_kids p.children)) → Fails e (build_struct (parts_of p) m)
unfolding build_struct
struct_count_fails e p m needed nothing s is h = fails_by e (has_children needed (layout_kids p.children)) (build_struct (parts_of p) m) (λ x made. rw (nothing, s, ← is, made) refl) h

pub struct_rows_fail : (e : LayoutError) (p : LayoutParts) (m : List ℕ) (needed : ℕ) → spelled m (nothing_in m) ≡ Ok tt → is_struct (ty p.dtype) ≡ true → needed ≡ length (struct_types (ty p.dtype)) → has_children needed (layout_kids p.children) ≡ Ok tt
    → Fails e (all_have_rows p.row_count (layout_kids p.children)) → Fails e (build_struct (parts_of p) m)
unfolding build_struct
struct_rows_fail e p m needed nothing s is count h = fails_by e (all_have_rows p.row_count (layout_kids p.children)) (build_struct (parts_of p) m) (λ x made. rw (nothing, s, ← is, count, made) refl) h

-- ---- the children, and the layout of them

pub open_fails : (e : LayoutError) (o : Open) → Fails e (all_built o.wanted.items) → Fails e (open_made o)
open_fails e o h = fails_by e (all_built o.wanted.items) (open_made o) (λ x made. rw made refl) h

pub open_is : (o : Open) (ls : List (LayoutData ℕ)) → all_built o.wanted.items ≡ Ok ls → open_made o ≡ Ok (framed o.frame ls)
open_is o ls is = rw is refl

pub ruleset open_rules = (open_fails, open_is)

count_of_built : (one : Made) (others : Children) (n : ℕ) (ls : List (LayoutData ℕ)) → ((ms : List (LayoutData ℕ)) → others ≡ Ok ms → length ms ≡ n) → (one >>= λ l. others >>= λ ms. Ok (l ∷ ms)) ≡ Ok ls → length ls ≡ suc n
count_of_built (Err e) others n ls h is = cc
count_of_built (Ok l) (Err e) n ls h is = cc
count_of_built (Ok l) (Ok ms) n ls h is = let same : ls ≡ l ∷ ms = cc in let count : length ms ≡ n = h ms refl in rw same (omega (arith, count))

-- as many are built as are wanted
pub built_count : (ws : List Wanted) (ls : List (LayoutData ℕ)) → all_built ws ≡ Ok ls → length ls ≡ length ws
built_count [] ls is = let same : ls ≡ [] = cc in rw same refl
built_count (w ∷ ws) ls is = count_of_built (wanted_built w) (all_built ws) (length ws) ls (λ ms built. built_count ws ms built) is

-- ---- children one by one

-- what is built already, in front of what comes
abbrev pub so_far : List (LayoutData ℕ) → Children → Children
so_far ls c = c >>= λ ms. Ok (ls ++ ms)

pub so_far_none : (c : Children) → c ≡ so_far [] c
so_far_none (Ok ls) = refl
so_far_none (Err e) = refl

pub so_far_all : (ls : List (LayoutData ℕ)) → so_far ls (Ok []) ≡ Ok ls
so_far_all ls = rw (append-nil ls) refl

pub so_far_end : (all : Children) (ls : List (LayoutData ℕ)) (ws : List Wanted) → all ≡ so_far ls (all_built ws) → length ws ≡ 0 → all ≡ Ok ls
so_far_end all ls [] is none = is ∙ so_far_all ls
so_far_end all ls (w ∷ ws) is none = absurd (omega (arith, none))

so_far_more : (ls : List (LayoutData ℕ)) (l : LayoutData ℕ) (c : Children) → so_far ls (c >>= λ ms. Ok (l ∷ ms)) ≡ so_far (ls ++ l ∷ []) c
so_far_more ls l (Ok ms) = rw (append_one ls l ms) refl
  where
    append_one : (xs : List (LayoutData ℕ)) (x : LayoutData ℕ) (ys : List (LayoutData ℕ)) → xs ++ x ∷ ys ≡ (xs ++ x ∷ []) ++ ys
    append_one [] x ys = refl
    append_one (z ∷ xs) x ys = ap (λ r. z ∷ r) (append_one xs x ys)
so_far_more ls l (Err e) = refl

pub so_far_built : (all : Children) (ls : List (LayoutData ℕ)) (ws : List Wanted) (w : Wanted) (rest : List Wanted) (l : LayoutData ℕ) → all ≡ so_far ls (all_built ws) → ws ≡ w ∷ rest → wanted_built w ≡ Ok l → all ≡ so_far (ls ++ l ∷ []) (all_built rest)
so_far_built all ls ws w rest l is next built = is ∙ rw (next, built) (so_far_more ls l (all_built rest))

pub so_far_fails : (e : LayoutError) (all : Children) (ls : List (LayoutData ℕ)) (ws : List Wanted) (w : Wanted) (rest : List Wanted) → all ≡ so_far ls (all_built ws) → ws ≡ w ∷ rest → Fails e (wanted_built w) → Fails e all
so_far_fails e all ls ws w rest is next h = fails_by e (wanted_built w) all (λ x made. is ∙ rw (next, made) refl) h

pub first_depth : (ws : List Wanted) (w : Wanted) (rest : List Wanted) (deep : ℕ) → wanted_depths ws ≤ deep → ws ≡ w ∷ rest → one_depth w.child ≤ deep
first_depth [] w rest deep le next = absurd (cc next)
first_depth (x ∷ xs) w rest deep le next = let same : w ≡ x = cc next in rw same (omega (arith, le))

pub rest_depth : (ws : List Wanted) (w : Wanted) (rest : List Wanted) (deep : ℕ) → wanted_depths ws ≤ deep → ws ≡ w ∷ rest → wanted_depths rest ≤ deep
rest_depth [] w rest deep le next = absurd (cc next)
rest_depth (x ∷ xs) w rest deep le next = let same : rest ≡ xs = cc next in rw same (omega (arith, le))

pub ruleset all_rules = (so_far_none, so_far_all, so_far_built, so_far_fails, first_depth, rest_depth, map_push)

-- ---- one child

pub wanted_fails : (e : LayoutError) (w : Wanted) → Fails e (one_built w.child (ty w.dtype)) → Fails e (wanted_built w)
wanted_fails e w h = fails_by e (one_built w.child (ty w.dtype)) (wanted_built w) (λ x made. rw made refl) h

pub wanted_then : (w : Wanted) (l : LayoutData ℕ) → one_built w.child (ty w.dtype) ≡ Ok l → wanted_built w ≡ with_rows w.rows l
wanted_then w l is = rw is refl

pub rows_fail : (e : LayoutError) (rule : RowsRule) (l : LayoutData ℕ) (n : ℕ) → n ≡ row_count l → Fails e (rows_ruled rule n) → Fails e (with_rows rule l)
rows_fail e rule l n is h = fails_by e (rows_ruled rule n) (with_rows rule l) (λ x made. rw (← is, made) refl) h

pub rows_kept : (rule : RowsRule) (l : LayoutData ℕ) (n : ℕ) → n ≡ row_count l → rows_ruled rule n ≡ Ok tt → with_rows rule l ≡ Ok l
rows_kept rule l n is rows = rw (← is, rows) refl

pub ruleset row_rules = (rows_fail, rows_kept)

use Rattle.std.proofs.Common.{◌≡◌, ◌<◌, ◌+◌, ◌*◌, ◌∷◌, [], length, Ok, map, ap, arith, refl, sym, subst, ℕ, ◌∙◌}
use Rattle.std.proofs.lemmas.List.{map_push, length-map}
use Rattle.std.proofs.lemmas.Result.{err_from_is_err_and}
use Rattle.std.specs.Vec.Iter.{into_iter_items}
use Rattle.vx_model.specs.TyView.{ty}
use Rattle.vx_layout_bytes.specs.Values.{depth}
use Rattle.vx_layout_bytes.specs.Views.{seen_node}
use Rattle.vx_session.specs.Views.{scope_of, context}
use Rattle.vx_layout_tree.specs.LayoutView.{layout_data}
use Rattle.vx_layout_build.specs.OpenView.{all_built, wanted_depths, fits}
use Rattle.vx_layout_build.specs.PartsView.{one_built, one_depth, children_depth, parts_of}
use Rattle.vx_layout_build.proofs.BuildSteps.{so_far, so_far_none, so_far_end, so_far_built, so_far_fails, first_depth, rest_depth, open_fails, open_is, built_count, wanted_fails, wanted_then, node_kind_fails, node_foreign, node_built}
use Rattle.vx_layout_build.proofs.build.+build.Goals as goal

-- ---- all children

pub build_all-returns-in_err-layouts : goal.build_all-returns-in_err-layouts
build_all-returns-in_err-layouts t c =
    let p = err_from_is_err_and c.from_residual.result c.from_residual.ensures.1 in
    rw (p.1, p.2) tt

pub build_all-loop-child-init : goal.build_all-loop-child-init
build_all-loop-child-init t c =
    let same : into_iter_items c.into_iter-child-iterator.result ≡ c.args.wanted.items = c.into_iter-child-iterator.ensures.into_iter_gives.0 in
    let is : all_built c.args.wanted.items ≡ so_far [] (all_built (into_iter_items c.into_iter-child-iterator.result)) = so_far_none (all_built c.args.wanted.items) ∙ ap (λ ws. so_far [] (all_built ws)) (sym same) in
    let le : wanted_depths (into_iter_items c.into_iter-child-iterator.result) ≡ wanted_depths c.args.wanted.items = ap wanted_depths same in
    (rw c.in_ok-layouts.ensures.items is, omega (arith, le))

pub build_all-build_wanted-requires : goal.build_all-build_wanted-requires
build_all-build_wanted-requires t c =
    let steps : into_iter_items c.loop-child.child-iterator ≡ c.in-Some.child ∷ into_iter_items c.next.new.self = c.in-Some.ensures.steps.0 in
    let lt : 8 * one_depth c.in-Some.child.child + 2 < t = omega (arith, c.decreases, first_depth (into_iter_items c.loop-child.child-iterator) c.in-Some.child (into_iter_items c.next.new.self) (wanted_depths c.args.wanted.items) c.loop-child.invariant.1 steps) in
    (lt, tt)

pub build_all-returns-in_err-build_wanted : goal.build_all-returns-in_err-build_wanted
build_all-returns-in_err-build_wanted t c =
    let p = err_from_is_err_and c.from_residual-in_err-build_wanted.result c.from_residual-in_err-build_wanted.ensures.1 in
    let steps : into_iter_items c.loop-child.child-iterator ≡ c.in-Some.child ∷ into_iter_items c.next.new.self = c.in-Some.ensures.steps.0 in
    rw (p.1, p.2) (so_far_fails _ (all_built c.args.wanted.items) (map layout_data c.loop-child.layouts.items) (into_iter_items c.loop-child.child-iterator) c.in-Some.child (into_iter_items c.next.new.self) c.loop-child.invariant.0 steps c.in_err-build_wanted.ensures)

pub build_all-loop-child-preserved : goal.build_all-loop-child-preserved
build_all-loop-child-preserved t c =
    let steps : into_iter_items c.loop-child.child-iterator ≡ c.in-Some.child ∷ into_iter_items c.next.new.self = c.in-Some.ensures.steps.0 in
    let more = so_far_built (all_built c.args.wanted.items) (map layout_data c.loop-child.layouts.items) (into_iter_items c.loop-child.child-iterator) c.in-Some.child (into_iter_items c.next.new.self) (layout_data c.in_ok-build_wanted.field-0) c.loop-child.invariant.0 steps c.in_ok-build_wanted.ensures in
    (rw (c.in_ok-push.ensures.items, map_push layout_data c.loop-child.layouts.items c.in_ok-build_wanted.field-0) more, rest_depth (into_iter_items c.loop-child.child-iterator) c.in-Some.child (into_iter_items c.next.new.self) (wanted_depths c.args.wanted.items) c.loop-child.invariant.1 steps)

pub build_all-returns-in_err-push : goal.build_all-returns-in_err-push
build_all-returns-in_err-push t c =
    let p = err_from_is_err_and c.from_residual-in_err-push.result c.from_residual-in_err-push.ensures.1 in
    rw (p.1, p.2) tt

pub build_all-returns : goal.build_all-returns
build_all-returns t c =
    let none : length (into_iter_items c.loop-child.child-iterator) ≡ 0 = omega (arith, c.in-None.ensures.steps.0, c.loop-child.child-iterator.rest.ok.0) in
    so_far_end (all_built c.args.wanted.items) (map layout_data c.loop-child.layouts.items) (into_iter_items c.loop-child.child-iterator) c.loop-child.invariant.0 none

-- ---- a kind

pub build_kind-returns-in_err-open_list-in-List : goal.build_kind-returns-in_err-open_list-in-List
build_kind-returns-in_err-open_list-in-List t c =
    let p = err_from_is_err_and c.from_residual.result c.from_residual.ensures.1 in
    rw (c.in-List.is, p.1, p.2) c.in_err-open_list-in-List.ensures

pub build_kind-returns-in_err-open_dict-in-Dict : goal.build_kind-returns-in_err-open_dict-in-Dict
build_kind-returns-in_err-open_dict-in-Dict t c =
    let p = err_from_is_err_and c.from_residual-in_err-open_dict-in-Dict.result c.from_residual-in_err-open_dict-in-Dict.ensures.1 in
    rw (c.in-Dict.is, p.1, p.2) c.in_err-open_dict-in-Dict.ensures

pub build_kind-returns-in_err-open_zoned-in-Zoned : goal.build_kind-returns-in_err-open_zoned-in-Zoned
build_kind-returns-in_err-open_zoned-in-Zoned t c =
    let p = err_from_is_err_and c.from_residual-in_err-open_zoned-in-Zoned.result c.from_residual-in_err-open_zoned-in-Zoned.ensures.1 in
    rw (c.in-Zoned.is, p.1, p.2) c.in_err-open_zoned-in-Zoned.ensures

pub build_kind-returns-in_err-open_stats-in-LegacyStats : goal.build_kind-returns-in_err-open_stats-in-LegacyStats
build_kind-returns-in_err-open_stats-in-LegacyStats t c =
    let p = err_from_is_err_and c.from_residual-in_err-open_stats-in-LegacyStats.result c.from_residual-in_err-open_stats-in-LegacyStats.ensures.1 in
    rw (c.in-LegacyStats.is, p.1, p.2) c.in_err-open_stats-in-LegacyStats.ensures

pub build_kind-build_open-requires : goal.build_kind-build_open-requires
build_kind-build_open-requires t c =
    let lt : 8 * wanted_depths c.in_ok-open_list-in-List.field-0.wanted.items + 4 < t = omega (arith, c.decreases, c.in_ok-open_list-in-List.ensures.1) in
    (lt, c.in_ok-open_list-in-List.ensures.2)

pub build_kind-build_open-requires-in-Dict : goal.build_kind-build_open-requires-in-Dict
build_kind-build_open-requires-in-Dict t c =
    let lt : 8 * wanted_depths c.in_ok-open_dict-in-Dict.field-0.wanted.items + 4 < t = omega (arith, c.decreases, c.in_ok-open_dict-in-Dict.ensures.1) in
    (lt, c.in_ok-open_dict-in-Dict.ensures.2)

pub build_kind-build_open-requires-in-Zoned : goal.build_kind-build_open-requires-in-Zoned
build_kind-build_open-requires-in-Zoned t c =
    let lt : 8 * wanted_depths c.in_ok-open_zoned-in-Zoned.field-0.wanted.items + 4 < t = omega (arith, c.decreases, c.in_ok-open_zoned-in-Zoned.ensures.1) in
    (lt, c.in_ok-open_zoned-in-Zoned.ensures.2)

pub build_kind-build_open-requires-in-LegacyStats : goal.build_kind-build_open-requires-in-LegacyStats
build_kind-build_open-requires-in-LegacyStats t c =
    let lt : 8 * wanted_depths c.in_ok-open_stats-in-LegacyStats.field-0.wanted.items + 4 < t = omega (arith, c.decreases, c.in_ok-open_stats-in-LegacyStats.ensures.1) in
    (lt, c.in_ok-open_stats-in-LegacyStats.ensures.2)

pub build_kind-returns-in-Flat : goal.build_kind-returns-in-Flat
build_kind-returns-in-Flat t c = rw c.in-Flat.is c.build_flat.ensures

pub build_kind-returns-in-Chunked : goal.build_kind-returns-in-Chunked
build_kind-returns-in-Chunked t c = rw c.in-Chunked.is c.build_chunked.ensures

pub build_kind-returns-in-Struct : goal.build_kind-returns-in-Struct
build_kind-returns-in-Struct t c = rw c.in-Struct.is c.build_struct.ensures

pub build_kind-returns-in_ok-open_list-in-List : goal.build_kind-returns-in_ok-open_list-in-List
build_kind-returns-in_ok-open_list-in-List t c = rw (c.in-List.is, c.in_ok-open_list-in-List.ensures.0) c.build_open.ensures

pub build_kind-returns-in_ok-open_dict-in-Dict : goal.build_kind-returns-in_ok-open_dict-in-Dict
build_kind-returns-in_ok-open_dict-in-Dict t c = rw (c.in-Dict.is, c.in_ok-open_dict-in-Dict.ensures.0) c.build_open-in-Dict.ensures

pub build_kind-returns-in_ok-open_zoned-in-Zoned : goal.build_kind-returns-in_ok-open_zoned-in-Zoned
build_kind-returns-in_ok-open_zoned-in-Zoned t c = rw (c.in-Zoned.is, c.in_ok-open_zoned-in-Zoned.ensures.0) c.build_open-in-Zoned.ensures

pub build_kind-returns-in_ok-open_stats-in-LegacyStats : goal.build_kind-returns-in_ok-open_stats-in-LegacyStats
build_kind-returns-in_ok-open_stats-in-LegacyStats t c = rw (c.in-LegacyStats.is, c.in_ok-open_stats-in-LegacyStats.ensures.0) c.build_open-in-LegacyStats.ensures

-- ---- a node

pub build_node-returns-in_err-kind : goal.build_node-returns-in_err-kind
build_node-returns-in_err-kind t c =
    let p = err_from_is_err_and c.from_residual.result c.from_residual.ensures.1 in
    rw (p.1, p.2) (node_kind_fails _ (scope_of c.args.scope.now.value) (seen_node c.args.node) (ty c.args.dtype.now) c.in_err-kind.ensures)

pub build_node-returns-in_err-parts-in-Some : goal.build_node-returns-in_err-parts-in-Some
build_node-returns-in_err-parts-in-Some t c =
    let p = err_from_is_err_and c.from_residual-in_err-parts-in-Some.result c.from_residual-in_err-parts-in-Some.ensures.1 in
    rw (p.1, p.2) tt

pub build_node-build_kind-requires : goal.build_node-build_kind-requires
build_node-build_kind-requires t c =
    let lt : 8 * children_depth c.in_ok-parts-in-Some.parts.children + 5 < t = omega (arith, c.decreases, c.in_ok-parts-in-Some.ensures.2) in
    (lt, tt)

pub build_node-returns-in_ok-parts-in-Some : goal.build_node-returns-in_ok-parts-in-Some
build_node-returns-in_ok-parts-in-Some t c =
    let is = c.in_ok-kind.ensures ∙ ap Ok c.in-Some.is in
    let same = node_built (scope_of c.args.scope.now.value) (seen_node c.args.node) (ty c.args.dtype.now) c.in-Some.kind (context c.context_in-within.result.now) (parts_of c.in_ok-parts-in-Some.parts) c.in_ok-parts-in-Some.metadata is c.context_in-within.ensures c.in_ok-parts-in-Some.ensures.0 c.in_ok-parts-in-Some.ensures.1 in
    rw same c.build_kind.ensures

pub build_node-returns-in-None : goal.build_node-returns-in-None
build_node-returns-in-None t c =
    let same = node_foreign (scope_of c.args.scope.now.value) (seen_node c.args.node) (ty c.args.dtype.now) (c.in_ok-kind.ensures ∙ ap Ok c.in-None.is) in
    rw same c.foreign_node.ensures

-- ---- one child

pub build_one-build_node-requires : goal.build_one-build_node-requires
build_one-build_node-requires t c =
    let deep : one_depth c.args.child ≡ depth (seen_node c.in-Node.node) = rw c.in-Node.is refl in
    let lt : 8 * depth (seen_node c.in-Node.node) < t = omega (arith, c.decreases, deep) in
    (lt, tt)

pub build_one-returns-in-Kept : goal.build_one-returns-in-Kept
unfolding one_built
build_one-returns-in-Kept t c = rw c.in-Kept.is c.kept_as.ensures

pub build_one-returns-in-Node : goal.build_one-returns-in-Node
unfolding one_built
build_one-returns-in-Node t c = rw c.in-Node.is c.build_node.ensures

-- ---- the children, and the layout of them

pub build_open-build_all-requires : goal.build_open-build_all-requires
build_open-build_all-requires t c =
    let lt : 8 * wanted_depths c.args.frame.wanted.items + 3 < t = omega (arith, c.decreases) in
    (lt, tt)

pub build_open-with_built-requires : goal.build_open-with_built-requires
build_open-with_built-requires t c =
    let count = built_count c.args.frame.wanted.items (map layout_data c.in-Ok.children.items) c.in-Ok.ensures in
    let same : length c.in-Ok.children.items ≡ length c.args.frame.wanted.items = simp length-map at count in
    subst (λ (n : ℕ). fits c.args.frame.frame n) (sym same) c.requires

pub build_open-returns-in-Err : goal.build_open-returns-in-Err
build_open-returns-in-Err t c = open_fails c.in-Err.error c.args.frame c.in-Err.ensures

pub build_open-returns-in-Ok : goal.build_open-returns-in-Ok
build_open-returns-in-Ok t c = open_is c.args.frame (map layout_data c.in-Ok.children.items) c.in-Ok.ensures ∙ ap Ok (sym c.with_built.ensures)

-- ---- a wanted child

pub build_wanted-build_one-requires : goal.build_wanted-build_one-requires
build_wanted-build_one-requires t c =
    let lt : 8 * one_depth c.args.wanted.child + 1 < t = omega (arith, c.decreases) in
    (lt, tt)

pub build_wanted-returns-in-Err : goal.build_wanted-returns-in-Err
build_wanted-returns-in-Err t c = wanted_fails c.in-Err.error c.args.wanted c.in-Err.ensures

pub build_wanted-returns-in-Ok : goal.build_wanted-returns-in-Ok
build_wanted-returns-in-Ok t c = rw (wanted_then c.args.wanted (layout_data c.in-Ok.layout) c.in-Ok.ensures) c.with_rows.ensures

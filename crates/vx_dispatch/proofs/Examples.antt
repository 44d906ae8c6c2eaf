-- Tables on small types.
use Rattle.std.proofs.Common.{◌≡◌, true, false, [], ◌∷◌, refl}
use Rattle.std.specs.Prelude.{codes}
use Rattle.vx_model.specs.declared.ptype.PType.TheVariants.{I64}
use Rattle.vx_model.specs.Ty.{Ty, primitive, list, struct, field, no_fields}
use Rattle.vx_strategy_spec.specs.StrategyData.{StrategyData, flat, chunked, grouped, by_bytes, structured, listed, tabled, no_ways, way_at, no_wraps, wrap_grouped}
use Rattle.vx_strategy_spec.specs.Dispatch.{dispatch}

flats : StrategyData
flats = flat (record { padding = true; inline = false })

chunks : StrategyData
chunks = chunked (flat (record { padding = true; inline = false }))

i64 : Ty
i64 = primitive I64 false

-- an override of a.b: the field a goes to the table with an override of b, the field c to the table without any
table : StrategyData
table = tabled flats chunks (way_at (codes "a" ∷ codes "b" ∷ []) flats no_ways) false no_wraps

nested : Ty
nested = struct (field (codes "a") (struct (field (codes "b") i64 no_fields) false) (field (codes "c") i64 no_fields)) false

at_the_root : dispatch table nested
    ≡ structured flats chunks
    (way_at (codes "a" ∷ []) (tabled flats chunks (way_at (codes "b" ∷ []) flats no_ways) false no_wraps) (way_at (codes "c" ∷ []) (tabled flats chunks no_ways false no_wraps) no_ways))
unfolding table nested i64
at_the_root = refl

below_a : dispatch (tabled flats chunks (way_at (codes "b" ∷ []) flats no_ways) false no_wraps) (struct (field (codes "b") i64 no_fields) false) ≡ structured flats chunks (way_at (codes "b" ∷ []) flats no_ways)
unfolding i64
below_a = refl

on_integers : dispatch table i64 ≡ chunks
unfolding table i64
on_integers = refl

-- lists go to the leaf, or are laid out as lists in their wrappers
lists_at_leaf : dispatch table (list i64 false) ≡ chunks
unfolding table
lists_at_leaf = refl

lists_laid_out : dispatch (tabled flats chunks (way_at (codes "a" ∷ []) flats no_ways) true (wrap_grouped (by_bytes 10) no_wraps)) (list i64 false)
    ≡ grouped (by_bytes 10) (listed (tabled flats chunks no_ways true (wrap_grouped (by_bytes 10) no_wraps)) chunks flats chunks)
lists_laid_out = refl

stands_for_itself : dispatch chunks nested ≡ chunks
unfolding chunks
stands_for_itself = refl

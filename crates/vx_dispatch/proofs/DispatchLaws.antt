-- A table writes what it stands for.
use Rattle.std.proofs.Common.{◌≡◌, ℕ, Bool, true, false, List, [], ◌∷◌, ◌++◌, Option, Some, None, refl, sym, ap, ap₂, ◌∙◌, inl, inr}
use Rattle.std.specs.Prelude.{if◌then◌else◌}
use Rattle.std.specs.Cmp.Lexicographic.{bytes_decides}
use Rattle.vx_model.specs.Ty.{Ty, Tys, boolean, primitive, utf8, binary, list, struct, extension, no_fields, field}
use Rattle.vx_strategy_spec.specs.StrategyData.{StrategyData, StrategyList, Wraps, flat, chunked, grouped, compressed, coded, zoned, structured, listed, tabled, no_ways, no_wraps, wrap_grouped, wrap_zoned}
use Rattle.vx_strategy_spec.specs.Walk.{Nodes, find, chosen, duplicate, field_nodes, Around, of_table, of_tables, walk, walk_named, walk_wraps}
use Rattle.vx_plan.specs.SourcePlan.{plan_nodes}
use Rattle.vx_strategy_spec.specs.Dispatch.{override, below, given_or, field_writer, field_writers, wrapped, dispatch}
use Rattle.vx_dispatch.specs.Statements.{TablesAreDispatched}
use Rattle.vx_strategy_spec.proofs.Lookups.{made, find_own, find_deeper, Named, find_writer}
use Rattle.vx_strategy_spec.proofs.AdmittedLaws.{dispatch_admitted}

module _ {A : Type 0} (on : Nodes A) (v l : Ty → A) (f : Around A) where
  mutual
    -- below a field the table is the descended one
    descended : (name : List ℕ) (ws : StrategyList) (walked : List (List ℕ)) (t : Ty) → of_table on v l f (walk_named on ws) (name ∷ walked) t ≡ of_table on v l f (walk_named on (below name ws)) walked t
    descended name ws walked (struct fs n) = ap (on.on_struct fs n (duplicate fs) (v (boolean false))) (all_descended name ws walked fs)
    descended name ws walked (list t n) = refl
    descended name ws walked (boolean n) = refl
    descended name ws walked (primitive p n) = refl
    descended name ws walked (utf8 n) = refl
    descended name ws walked (binary n) = refl
    descended name ws walked (extension tag t) = refl

    all_descended : (name : List ℕ) (ws : StrategyList) (walked : List (List ℕ)) (fs : Tys) → of_tables on v l f (walk_named on ws) (name ∷ walked) fs ≡ of_tables on v l f (walk_named on (below name ws)) walked fs
    all_descended name ws walked no_fields = refl
    all_descended name ws walked (field m t fs) =
        ap₂ (λ x y. x ∷ y)
        (ap₂ (λ x y. chosen x t y) (find_deeper on name walked m ws) (descended name ws (walked ++ (m ∷ [])) t))
        (all_descended name ws walked fs)

-- ---- fields

module _ {A : Type 0} (on : Nodes A) (v l : StrategyData) (ws : StrategyList) (lists : Bool) (wraps : Wraps) where
  around : Around A
  around = if lists then Some (walk_wraps on wraps) else None

  -- a field's node is that of its writer
  one_field : (name : List ℕ) (t : Ty) → chosen (find (name ∷ []) (walk_named on ws)) t (of_table on (walk on v) (walk on l) around (walk_named on ws) (name ∷ []) t) ≡ walk on (field_writer v l ws lists wraps name) t
  unfolding around
  one_field name t = ap₂ (λ x y. chosen x t y) (find_own on name ws) (descended on (walk on v) (walk on l) (if lists then Some (walk_wraps on wraps) else None) name ws [] t) ∙ go (override name ws)
    where
      go : (o : Option StrategyData) → chosen (made on o) t (walk on (tabled v l (below name ws) lists wraps) t) ≡ walk on (given_or o (tabled v l (below name ws) lists wraps)) t
      go None = refl
      go (Some w) = refl

  same_fields : (fs gs : Tys) → ((name : List ℕ) → Named name gs → Named name fs)
      → of_tables on (walk on v) (walk on l) around (walk_named on ws) [] gs ≡ field_nodes (walk on l) (walk_named on (field_writers v l ws lists wraps fs)) gs
  same_fields fs no_fields h = refl
  same_fields fs (field name t gs) h =
      ap₂ (λ x y. x ∷ y)
      (one_field name t ∙ sym (ap (λ o. chosen o t (walk on l t)) (find_writer on v l ws lists wraps fs name (h name (inl ((bytes_decides name name).1 refl))))))
      (same_fields fs gs (λ m k. h m (inr k)))

-- ---- wrappers

wrapped_is : {A : Type 0} (on : Nodes A) (wraps : Wraps) (w : StrategyData) (t : Ty) → walk on (wrapped wraps w) t ≡ walk_wraps on wraps t (walk on w t)
wrapped_is on no_wraps w t = refl
wrapped_is on (wrap_grouped g ws) w t = ap (on.on_grouped g t) (wrapped_is on ws w t)
wrapped_is on (wrap_zoned o stats ws) w t = ap (λ k. on.on_zoned o t k (walk on stats)) (wrapped_is on ws w t)

list_same : {A : Type 0} (on : Nodes A) (v l : StrategyData) (ws : StrategyList) (lists : Bool) (wraps : Wraps) (t : Ty) (n : Bool)
    → walk on (tabled v l ws lists wraps) (list t n) ≡ walk on (dispatch (tabled v l ws lists wraps) (list t n)) (list t n)
list_same on v l ws true wraps t n = sym (wrapped_is on wraps (listed (tabled v l no_ways true wraps) l v l) (list t n))
list_same on v l ws false wraps t n = refl

-- ---- every strategy

pub walk_dispatch : {A : Type 0} (on : Nodes A) (w : StrategyData) (t : Ty) → walk on w t ≡ walk on (dispatch w t) t
unfolding around
walk_dispatch on (tabled v l ws lists wraps) (struct fs n) = ap (on.on_struct fs n (duplicate fs) (walk on v (boolean false))) (same_fields on v l ws lists wraps fs fs (λ m k. k))
walk_dispatch on (tabled v l ws lists wraps) (list t n) = list_same on v l ws lists wraps t n
walk_dispatch on (tabled v l ws lists wraps) (boolean n) = refl
walk_dispatch on (tabled v l ws lists wraps) (primitive p n) = refl
walk_dispatch on (tabled v l ws lists wraps) (utf8 n) = refl
walk_dispatch on (tabled v l ws lists wraps) (binary n) = refl
walk_dispatch on (tabled v l ws lists wraps) (extension tag t) = refl
walk_dispatch on (flat o) t = refl
walk_dispatch on (chunked w) t = refl
walk_dispatch on (grouped g w) t = refl
walk_dispatch on (compressed which room w) t = refl
walk_dispatch on (coded o c v f) t = refl
walk_dispatch on (zoned o w stats) t = refl
walk_dispatch on (structured v d ws) t = refl
walk_dispatch on (listed e o v f) t = refl

pub tables_are_dispatched : TablesAreDispatched
tables_are_dispatched s w t = record { same = walk_dispatch (plan_nodes s) w t; admitted = dispatch_admitted w t }
